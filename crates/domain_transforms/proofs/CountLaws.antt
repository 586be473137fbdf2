-- Counts of statements, one after another.
use Rattle.std.proofs.Common.{◌≡◌, ℕ, ◌+◌, List, [], ◌∷◌, ◌++◌, take, Some, slice_get, ap, arith}
use Rattle.std.specs.Prelude.{min}
use Rattle.design_ir.specs.declared.stmt.Stmt.{Stmt}
use Rattle.design_ir.specs.declared.stmt.Arm.{Arm}
use Rattle.design_ir.specs.declared.process.Process.{Process}
use Rattle.design_ir.specs.declared.fragment.Fragment.{Fragment}
use Rattle.design_ir.specs.Statements.{statement_of, block_of, choices_of}
use Rattle.design_ir.specs.Fragments.{forest_of}
use Rattle.fragment_walks.proofs.Lists.{take-push}
use Rattle.domain_transforms.specs.Counted.{block_count, choices_count, forest_count, processes_count, statement_count}

block-push : (ss : List Stmt) (s : Stmt) → block_count (block_of (ss ++ s ∷ [])) ≡ block_count (block_of ss) + statement_count (statement_of s)
block-push [] s = omega arith
block-push (t ∷ ss) s = omega (arith, block-push ss s)

arms-push : (arms : List Arm) (a : Arm) → choices_count (choices_of (arms ++ a ∷ [])) ≡ choices_count (choices_of arms) + block_count a.body
arms-push [] a = omega arith
arms-push (b ∷ arms) a = omega (arith, arms-push arms a)

processes-push : (ps : List Process) (p : Process) → processes_count (ps ++ p ∷ []) ≡ processes_count ps + block_count p.body
processes-push [] p = omega arith
processes-push (r ∷ ps) p = omega (arith, processes-push ps p)

forest-push : (fs : List Fragment) (f : Fragment) → forest_count (forest_of (fs ++ f ∷ [])) ≡ forest_count (forest_of fs) + (processes_count f.processes + forest_count f.submodules)
forest-push [] f = omega arith
forest-push (g ∷ fs) f = omega (arith, forest-push fs f)

-- one of them more, up to a bound
module _ {X : Type 0} (f : List X → ℕ) (items : List X) (i : ℕ) (x : X) (more start cur new : ℕ) (at : slice_get items i ≡ Some x) (push : f (take i items ++ x ∷ []) ≡ f (take i items) + more) where
  pub count_turn : cur ≡ min 65537 (start + f (take i items)) → new ≡ min 65537 (cur + more) → new ≡ min 65537 (start + f (take (i + 1) items))
  count_turn h k = omega (arith, h, k, ap f (take-push items i x at), push)

pub block_turn : (ss : List Stmt) (i : ℕ) (s : Stmt) (start cur new : ℕ) → slice_get ss i ≡ Some s → cur ≡ min 65537 (start + block_count (block_of (take i ss))) → new ≡ min 65537 (cur + statement_count (statement_of s)) → new ≡ min 65537 (start + block_count (block_of (take (i + 1) ss)))
block_turn ss i s start cur new at = count_turn (λ xs. block_count (block_of xs)) ss i s (statement_count (statement_of s)) start cur new at (block-push (take i ss) s)

pub arms_turn : (arms : List Arm) (i : ℕ) (a : Arm) (start cur new : ℕ) → slice_get arms i ≡ Some a → cur ≡ min 65537 (start + choices_count (choices_of (take i arms))) → new ≡ min 65537 (cur + block_count a.body) → new ≡ min 65537 (start + choices_count (choices_of (take (i + 1) arms)))
arms_turn arms i a start cur new at = count_turn (λ xs. choices_count (choices_of xs)) arms i a (block_count a.body) start cur new at (arms-push (take i arms) a)

pub processes_turn : (ps : List Process) (i : ℕ) (p : Process) (start cur new : ℕ) → slice_get ps i ≡ Some p → cur ≡ min 65537 (start + processes_count (take i ps)) → new ≡ min 65537 (cur + block_count p.body) → new ≡ min 65537 (start + processes_count (take (i + 1) ps))
processes_turn ps i p start cur new at = count_turn processes_count ps i p (block_count p.body) start cur new at (processes-push (take i ps) p)

pub forest_turn : (fs : List Fragment) (i : ℕ) (f : Fragment) (start cur mid new : ℕ) → slice_get fs i ≡ Some f → cur ≡ min 65537 (start + forest_count (forest_of (take i fs))) → mid ≡ min 65537 (cur + processes_count f.processes) → new ≡ min 65537 (mid + forest_count f.submodules)
    → new ≡ min 65537 (start + forest_count (forest_of (take (i + 1) fs)))
forest_turn fs i f start cur mid new at h k l =
    count_turn (λ xs. forest_count (forest_of xs)) fs i f (processes_count f.processes + forest_count f.submodules) start cur new at (forest-push (take i fs) f) h (omega (arith, k, l))
