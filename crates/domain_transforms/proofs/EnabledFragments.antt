-- What an enable inserter does to a fragment and all below it.
use Rattle.std.specs.Prelude.{◌≡◌, refl, ℕ, ◌==◌, Bool, true, false, cond, List, [], ◌∷◌, ◌++◌, map, Option, Some, None, option_map, fold}
use Rattle.std.specs.List.{find, flat_map}
use Rattle.std.proofs.Common.{sym, ◌∙◌, ap, append-nil}
use Rattle.design_ir.specs.declared.ids.ExprId.{ExprId}
use Rattle.design_ir.specs.declared.process.Process.{Process}
use Rattle.design_ir.specs.declared.fragment.Fragment.{Fragment}
use Rattle.design_ir.specs.Forests.{Forest, bare, grown}
use Rattle.design_ir.specs.Fragments.{leaf_of}
use Rattle.design_ir.specs.Trees.{Block}
use Rattle.design_ir.specs.Pools.{Pooled}
use Rattle.design_ir.specs.Guards.{driven}
use Rattle.design_ir.specs.Targets.{target_signals}
use Rattle.design_ir.specs.Circuits.{is_among}
use Rattle.fragment_walks.specs.Reads.{block_targets}
use Rattle.fragment_walks.specs.Walks.{all_processes, processes_of}
use Rattle.fragment_walks.proofs.Lists.{map-append}
use Rattle.clock_domains.proofs.DriverLaws.{driven_flat}
use Rattle.fragment_laws.specs.Parts.{all_memories}
use Rattle.fragment_laws.specs.Givers.{ReadPort, giver, giver_among, ports_from, statements}
use Rattle.fragment_laws.specs.Stepping.{register_number, taken_number, toggle_by}
use Rattle.domain_transforms.specs.declared.controls.Control.{Control}
use Rattle.domain_transforms.specs.Making.{forest_in}
use Rattle.domain_transforms.specs.Enabling.{enabled, enabled_leaf, enabled_process, side_control, under}
use Rattle.domain_transforms.specs.Laws.{EnabledFragmentsKeep, OtherSignalsStay}
use Rattle.domain_transforms.proofs.EnableLaws.{registers_keep}

-- ---- the processes are those that the inserter makes, in their order

forest_processes : (controls : List Control) (p : Pooled) (f : Forest) → processes_of (forest_in (enabled_leaf controls) p f).0 ≡ map (enabled_process controls) (processes_of f)
forest_processes controls p bare = refl
forest_processes controls p (grown l below rest) =
    let one : Pooled = (enabled_leaf controls p l).1 in
    let inner : Forest × Pooled = forest_in (enabled_leaf controls) one below in
    let g : Process → Process = enabled_process controls in
    ap (λ xs. map g l.processes ++ (xs ++ processes_of (forest_in (enabled_leaf controls) inner.1 rest).0)) (forest_processes controls one below)
    ∙ ap (λ xs. map g l.processes ++ (map g (processes_of below) ++ xs)) (forest_processes controls inner.1 rest)
    ∙ ap (λ xs. map g l.processes ++ xs) (sym (map-append g (processes_of below) (processes_of rest)))
    ∙ sym (map-append g l.processes (processes_of below ++ processes_of rest))

enabled_processes : (controls : List Control) (p : Pooled) (f : Fragment) → all_processes (enabled controls p f).0 ≡ map (enabled_process controls) (all_processes f)
enabled_processes controls p f =
    let g : Process → Process = enabled_process controls in
    ap (λ xs. map g f.processes ++ xs) (forest_processes controls (enabled_leaf controls p (leaf_of f)).1 f.submodules) ∙ sym (map-append g f.processes (processes_of f.submodules))

-- ---- they drive what they drove

under_drives : (q : Pooled) (o : Option ExprId) (body : Block) → driven q (under o body) ≡ driven q body
under_drives q None body = refl
under_drives q (Some c) body =
    driven_flat q (under (Some c) body) ∙ ap (flat_map (target_signals q)) (append-nil (block_targets body ++ []) ∙ append-nil (block_targets body)) ∙ sym (driven_flat q body)

find_map : {A B : Type 0} (g : A → B) (t : B → Bool) (xs : List A) → find t (map g xs) ≡ option_map g (find (λ x. t (g x)) xs)
find_map g t [] = refl
find_map g t (x ∷ xs) = by (t (g x)) (find_map g t xs)
  where
    by : (b : Bool) → find t (map g xs) ≡ option_map g (find (λ x. t (g x)) xs) → cond b (Some (g x)) (find t (map g xs)) ≡ option_map g (cond b (Some x) (find (λ x. t (g x)) xs))
    by true h = refl
    by false h = h

find_agree : {A : Type 0} (t u : A → Bool) → ((x : A) → t x ≡ u x) → (xs : List A) → find t xs ≡ find u xs
find_agree t u h [] = refl
find_agree t u h (x ∷ xs) = ap (λ b. cond b (Some x) (find t xs)) (h x) ∙ ap (cond (u x) (Some x)) (find_agree t u h xs)

first_driver : (controls : List Control) (q p : Pooled) (f : Fragment) (s : ℕ) → find (λ (x : Process). is_among (driven q x.body) s) (all_processes (enabled controls p f).0) ≡ option_map (enabled_process controls) (find (λ (x : Process). is_among (driven q x.body) s) (all_processes f))
first_driver controls q p f s =
    let t : Process → Bool = λ (x : Process). is_among (driven q x.body) s in
    ap (find t) (enabled_processes controls p f) ∙ find_map (enabled_process controls) t (all_processes f)
    ∙ ap (option_map (enabled_process controls)) (find_agree (λ x. t (enabled_process controls x)) t (λ x. ap (λ ss. is_among ss s) (under_drives q (side_control controls x.side) x.body)) (all_processes f))

-- a signal that statements drive is driven by the first process that does
pub given_by : (o : Option Process) (r : Option ReadPort) (proc : Process) → giver_among o r ≡ statements proc → o ≡ Some proc
given_by None None proc h = cc
given_by None (Some x) proc h = cc
given_by (Some y) r proc h = let same : y ≡ proc = cc in ap (λ z. Some z) same

enabled_giver : (controls : List Control) (q p : Pooled) (f : Fragment) (s : ℕ) (proc : Process) → giver q f s ≡ statements proc → giver q (enabled controls p f).0 s ≡ statements (enabled_process controls proc)
enabled_giver controls q p f s proc h =
    let ports = find (λ (x : ReadPort). x.port.word.0 == s) (ports_from 0 (all_memories (enabled controls p f).0)) in
    let before = given_by (find (λ (x : Process). is_among (driven q x.body) s) (all_processes f)) (find (λ (x : ReadPort). x.port.word.0 == s) (ports_from 0 (all_memories f))) proc h in
    ap (λ o. giver_among o ports) (first_driver controls q p f s ∙ ap (option_map (enabled_process controls)) before)

pub fragments_keep : EnabledFragmentsKeep
fragments_keep controls f proc name c p q domains st env names s given side control =
    ap (λ g. fold (toggle_by domains s) (taken_number q domains st env names s g) names) (enabled_giver controls q p f s proc given)
    ∙ ap (λ x. fold (toggle_by domains s) (register_number q domains st env names s (enabled_process controls proc).body x) names) side
    ∙ ap (λ z. fold (toggle_by domains s) z names) (registers_keep controls proc name c q domains st env names s side control)

pub signals_stay : OtherSignalsStay
signals_stay controls f proc p q domains st env names s given none =
    ap (λ g. fold (toggle_by domains s) (taken_number q domains st env names s g) names) (enabled_giver controls q p f s proc given)
    ∙ ap (λ o. fold (toggle_by domains s) (register_number q domains st env names s (under o proc.body) proc.side) names) none
    ∙ sym (ap (λ g. fold (toggle_by domains s) (taken_number q domains st env names s g) names) given)
