-- What is held stays sound by every act.
use Rattle.std.proofs.Common.{◌≡◌, ℕ, zero, suc, ◌+◌, ◌<◌, refl, ap, ◌∙◌, sym, subst, Bool, true, false, List, [], ◌∷◌, ◌++◌, length, Option, Some, None, Result, Ok, Err, ℤ, arith, true≢false, is_some, append-nil, option_map, nat_lt}
use Rattle.std.specs.Prelude.{if◌then◌else◌, slice_get, codes}
use Rattle.std.specs.List.{AllByRecursion, list_any}
use Rattle.std.proofs.lemmas.List.{length-append}
use Rattle.lists.specs.Names.{IsName}
use Rattle.lists.specs.Texts.{text_eq}
use Rattle.amh_host.specs.declared.place.Place.{Place}
use Rattle.py_values.specs.declared.val.Val.{Val}
use Rattle.py_values.specs.declared.val.Val.TheVariants as val
use Rattle.py_heap.specs.Heaps.{Seen, text_at}
use Rattle.py_values.specs.Numbers.{number_of}
use Rattle.py_frames.specs.declared.request.Answer.{Answer}
use Rattle.py_frames.specs.declared.request.Answer.TheVariants as answer
use Rattle.py_frames.specs.declared.request.Cause.{Cause}
use Rattle.py_frames.specs.declared.request.Cause.TheVariants.{Raised, Limit}
use Rattle.py_frames.specs.declared.request.NamedVal.{NamedVal}
use Rattle.design_ir.specs.declared.signal.Sig.{Sig}
use Rattle.design_ir.specs.declared.ids.ExprId.{ExprId}
use Rattle.design_ir.specs.declared.expr.Expr.{Expr}
use Rattle.design_ir.specs.declared.expr.Expr.TheVariants as expr
use Rattle.design_ir.specs.Pools.{Pooled}
use Rattle.design_ir.specs.Targets.{is_open_target}
use Rattle.design_ir.specs.declared.process.Side.{Side}
use Rattle.design_ir.specs.declared.process.Side.TheVariants.{Comb, Clocked}
use Rattle.design_ir.specs.declared.expr.Pattern.{Pattern}
use Rattle.module_dsl.specs.declared.refusal.BuildStop.{BuildStop}
use Rattle.module_dsl.specs.declared.step.Step.TheVariants.{Assign, Enter, Leave}
use Rattle.module_dsl.specs.declared.step.Block.{Block}
use Rattle.module_dsl.specs.declared.step.Block.TheVariants as dsl
use Rattle.module_dsl.specs.Blocks.{Blocks}
use Rattle.module_dsl.specs.Builders.{Built, built_blocks, always, condition_made, subject_of, opening_of, pool_with, enter_refusal, leave_refusal, and_entered, and_left}
use Rattle.clock_domains.specs.Resolvable.{IsNamedSide}
use Rattle.amh_things.specs.declared.operand.Operand.{Operand}
use Rattle.amh_things.specs.declared.operand.Operand.TheVariants as operand
use Rattle.amh_things.specs.declared.thing.Thing.{Thing}
use Rattle.amh_things.specs.declared.thing.Thing.TheVariants as thing
use Rattle.amh_things.specs.declared.thing.ThingName.{ThingName}
use Rattle.amh_things.specs.Held.{IsHeld, AreHeld}
use Rattle.amh_things.specs.declared.thing.Reading.{Reading}
use Rattle.amh_things.specs.Things.{held_expr, shown_member, name_called, base_called as base_named, layout_named, read_as}
use Rattle.amh_things.specs.Operands.{operand_of, thing_operand, held_operand, member_operand, number_operand}
use Rattle.amh_things.specs.Meant.{operand_meant, expr_meant}
use Rattle.amh_things.specs.Plans.{grown_by}
use Rattle.elab_store.specs.declared.kept.HdlName.{HdlName}
use Rattle.elab_store.specs.declared.kept.HdlName.TheVariants as hdl
use Rattle.elab_store.specs.declared.kept.Kept.{Kept}
use Rattle.elab_store.specs.declared.kept.Kept.TheVariants as kept_as
use Rattle.elab_store.specs.declared.kept.DomainName.{DomainName}
use Rattle.elab_store.specs.declared.kept.DomainName.TheVariants as domain
use Rattle.elab_store.specs.declared.kept.Equation.{Equation}
use Rattle.elab_acts.specs.declared.tops.Calling.{Calling}
use Rattle.elab_store.specs.declared.shapes.Shaped.{Shaped}
use Rattle.elab_components.specs.declared.signals.SignalArguments.{SignalArguments}
use Rattle.identifiers.specs.Identifiers.{is_identifier}
use Rattle.identifiers.proofs.NameLaws.{identifier_is_name}
use Rattle.elab_store.specs.Stores.{Stored, Held, Answered, refused, kept_given, kept_of, naming_domain, side_of}
use Rattle.elab_store.specs.Calls.{Called}
use Rattle.elab_components.specs.Imports.{is_hdl, is_utils, own_named, star_names, is_sim, sim_named, sim_imported, hdl_thing, hdl_imported, bound_answer, all_bound, imported, import_answered}
use Rattle.elab_components.specs.Signals.{with_module, without_arguments, module_called, formed, call_name, signal_name, signal_init, signal_reset_less, signal_shape, signal_of, signal_passes, with_signal, signal_given, signal_shaped, signal_said, signal_from}
use Rattle.elab_components.specs.Equations.{equation_given, equation_made, equated}
use Rattle.elab_acts.specs.Sides.{clocked_given, domain_given, is_domain_of, domain_stored, has_no_place, built_with, store_with_statement, statement_refusal, statement_put, statement_told, statements_behind, statements_told, statements_added}
use Rattle.elab_acts.specs.Blocks.{block_name_given, begin_with, condition_given, condition_called, plain_called, with_patterns, case_given, case_patterns, case_in, case_called, case_subject, block_called, block_of, store_told, with_entered, entering_by, entering, passed, entered_at, block_entered, leaving_by, leaving, left_at, block_left}
use Rattle.elab_store.specs.declared.kept.BlockName.{BlockName}
use Rattle.elab_store.specs.declared.kept.BlockName.TheVariants as named
use Rattle.elab_store.specs.declared.kept.Begin.{Begin}
use Rattle.elab_store.specs.declared.kept.Begin.TheVariants as begin
use Rattle.elab_components.specs.Classes.{is_base, is_keyword, class_made, base_called}
use Rattle.elab_acts.specs.Tops.{elaborate_of, with_top, with_root_wraps, top_taken, walk, elaborated, body_taken, named_top, body_ended, ended_by, elaborate_ended}
use Rattle.elab_store.specs.Stores.{object_in, first_object, module_of, inner_of, wraps_in}
use Rattle.elab_components.specs.Libraries.{is_enum, is_data, library_named, thing_name_given}
use Rattle.elab_components.specs.Likes.{liked, like_placed, like_init, own_reset_less, liked_shape, liked_signal}
use Rattle.elab_store.specs.Sound.{IsEquation, IsBegin, IsKept, IsOpening, IsTold, IsBuilt, IsSound}
use Rattle.elab_store.proofs.Pools.{IsGrown, open_target_stays, there_stays}
use Rattle.elab_acts.proofs.GrownLaws.{all_and, pool_grown, things_grown, read_held, keeping_sound, built_stays, told_module, module_built, with_top_sound}
use Rattle.elab_store.specs.OpenMachines.{in_machine}
use Rattle.elab_acts.proofs.ComponentSound as component
use Rattle.elab_acts.proofs.SubmoduleSound as submodule

pub if_sound : (b : Bool) (x y : Answered) → IsSound x.held → IsSound y.held → IsSound (if b then x else y).held
if_sound true x y h g = h
if_sound false x y h g = g

-- imports

hdl_sound : (o : Option HdlName) (t : Option ThingName) (h : Held) → IsSound h → IsSound (hdl_thing o t h).held
hdl_sound (Some n) t h s = keeping_sound h (kept_as.Name n) s tt
hdl_sound None (Some t) h s = things_grown h (thing.Name t ∷ []) s (tt, tt)
hdl_sound None None h s = s

bound_sound : (names : List NamedVal) (n : List ℕ) (g : Held) (rest : List NamedVal → Held → Answered) (a : Answer) → IsSound g → ((more : List NamedVal) → IsSound (rest more g).held) → IsSound (bound_answer names n g rest a).held
bound_sound names n g rest (answer.Give v) s f = f (names ++ record { name = n; val = v } ∷ [])
bound_sound names n g rest answer.Begin s f = s
bound_sound names n g rest (answer.GiveText t) s f = s
bound_sound names n g rest (answer.GiveList t) s f = s
bound_sound names n g rest (answer.Bind t) s f = s
bound_sound names n g rest (answer.Call c t) s f = s
bound_sound names n g rest (answer.Through t) s f = s
bound_sound names n g rest (answer.Refuse t) s f = s

star_sound : (names : List NamedVal) (ns : List (List ℕ)) (h : Held) → IsSound h → IsSound (all_bound names ns h).held
star_sound names [] h s = s
star_sound names (n ∷ ns) h s =
    let next : IsSound (hdl_imported n h).held = hdl_sound (own_named n) (name_called n) h s in
    bound_sound names n (hdl_imported n h).held (λ more g. all_bound more ns g) (hdl_imported n h).answer next (λ more. star_sound more ns (hdl_imported n h).held next)

pub thing_name_sound : (t : Option ThingName) (h : Held) → IsSound h → IsSound (thing_name_given t h).held
thing_name_sound (Some n) h s = things_grown h (thing.Name n ∷ []) s (tt, tt)
thing_name_sound None h s = s

sim_sound : (name : List ℕ) (h : Held) → IsSound h → IsSound (sim_imported name h).held
sim_sound name h s = if_sound (text_eq name (codes "*")) _ _ (keeping_sound h (kept_as.Name hdl.Simulator) s tt) (component.library_sound (sim_named name) h s)

imported_sound : (path name : List ℕ) (h : Held) → IsSound h → IsSound (imported path name h).held
imported_sound path name h s =
    if_sound (is_hdl path) _ _ (if_sound (text_eq name (codes "*")) _ _ (star_sound [] star_names h s) (hdl_sound (own_named name) (name_called name) h s))
    (if_sound (is_utils path) _ _ (if_sound (text_eq name (codes "ceil_log2")) _ _ s (if_sound (text_eq name (codes "bits_for")) _ _ s s))
    (if_sound (is_enum path) _ _ (thing_name_sound (base_named name) h s)
    (if_sound (is_data path) _ _ (thing_name_sound (layout_named name) h s)
    (if_sound (is_sim path) _ _ (sim_sound name h s) (component.library_sound (library_named path name) h s)))))

pub import_sound : (names : List (List ℕ)) (h : Held) → IsSound h → IsSound (import_answered names h).held
import_sound [] h s = s
import_sound (p ∷ []) h s = s
import_sound (p ∷ n ∷ []) h s = imported_sound p n h s
import_sound (p ∷ n ∷ m ∷ ns) h s = s

-- modules and signals

bare_sound : (vs : List Val) (ns : List (List ℕ)) (a : Answered) (h : Held) → IsSound a.held → IsSound h → IsSound (without_arguments vs ns a h).held
bare_sound [] [] a h s t = s
bare_sound (v ∷ vs) ns a h s t = t
bare_sound [] (n ∷ ns) a h s t = t

pub module_sound : (c : Called) (h : Held) → IsSound h → IsSound (module_called c h).held
module_sound c h s =
    bare_sound c.placed c.keywords (kept_given (kept_as.Module (length h.store.modules)) (with_module h)) h
    (keeping_sound (with_module h) (kept_as.Module (length h.store.modules)) record {
      names = s.names;
      things = s.things;
      kept = s.kept;
      components = s.components;
      machines = s.machines;
      domains = s.domains;
      additions = s.additions;
      clock_domains = s.clock_domains;
      memories = s.memories;
      registers = s.registers;
      wrappings = s.wrappings;
      waits = s.waits;
      modules = all_and (IsBuilt h.pool) h.store.modules (record { name = []; steps = [] } ∷ []) s.modules (record { steps = tt }, tt);
    } tt) s

formed_name : (text name : List ℕ) → formed text ≡ Some name → is_identifier name ≡ true
formed_name text name e = by_test (is_identifier text) refl e
  where
    by_test : (b : Bool) → is_identifier text ≡ b → (if b then Some text else None) ≡ Some name → is_identifier name ≡ true
    by_test true t e = let same : text ≡ name = cc in ap is_identifier (sym same) ∙ t
    by_test false t e = absurd (true≢false (ap is_some (sym e)))

given_name : (s : Seen) (call : List ℕ) (o : Option Val) (name : List ℕ) → signal_name s call o ≡ Some name → is_identifier name ≡ true
given_name s call None name e = formed_name (call_name call) name e
given_name s call (Some val.None) name e = formed_name (call_name call) name e
given_name s call (Some (val.Str x)) name e = formed_name (text_at s x.0) name e
given_name s call (Some (val.Bool b)) name e = absurd (true≢false (ap is_some (sym e)))
given_name s call (Some (val.Int b)) name e = absurd (true≢false (ap is_some (sym e)))
given_name s call (Some (val.Time b)) name e = absurd (true≢false (ap is_some (sym e)))
given_name s call (Some (val.List b)) name e = absurd (true≢false (ap is_some (sym e)))
given_name s call (Some (val.Tuple b)) name e = absurd (true≢false (ap is_some (sym e)))
given_name s call (Some (val.Dict b)) name e = absurd (true≢false (ap is_some (sym e)))
given_name s call (Some (val.Range b)) name e = absurd (true≢false (ap is_some (sym e)))
given_name s call (Some (val.Func b)) name e = absurd (true≢false (ap is_some (sym e)))
given_name s call (Some (val.Class b)) name e = absurd (true≢false (ap is_some (sym e)))
given_name s call (Some (val.Object b)) name e = absurd (true≢false (ap is_some (sym e)))
given_name s call (Some (val.Hw b)) name e = absurd (true≢false (ap is_some (sym e)))

put_sound : (r : Reading) (x : Sig) (h : Held) → IsSound h → IsName x.name → IsSound (signal_given r x h).held
put_sound r x h s named =
    let q : Pooled = (with_signal x h).pool in
    let grown : IsSound (with_signal x h) = pool_grown h q (x ∷ []) (expr.Sig (record { 0 = length h.pool.signals }) ∷ []) s refl refl (named, tt) in
    if_sound (signal_passes h x.shape.width) _ _ s
    (things_grown (with_signal x h) (read_as r (record { 0 = length h.pool.exprs }) ∷ []) grown
    (read_held (length q.exprs) r (record { 0 = length h.pool.exprs }) (omega (arith, length-append h.pool.exprs (expr.Sig (record { 0 = length h.pool.signals }) ∷ []))), tt))

shaped_sound : (name : List ℕ) (n : ℤ) (r : Bool) (f : Result Shaped Cause) (h : Held) → IsSound h → is_identifier name ≡ true → IsSound (signal_shaped name n r f h).held
shaped_sound name n r (Ok x) h s named = put_sound x.reading (signal_of name x.form n r) h s (identifier_is_name name named)
shaped_sound name n r (Err why) h s named = s

said_sound : (name : Option (List ℕ)) (n : Option ℤ) (r : Option Bool) (f : Result Shaped Cause) (h : Held) → IsSound h → ((x : List ℕ) → name ≡ Some x → is_identifier x ≡ true) → IsSound (signal_said name n r f h).held
said_sound (Some name) (Some n) (Some r) f h s named = shaped_sound name n r f h s (named name refl)
said_sound None n r f h s named = s
said_sound (Some name) None r f h s named = s
said_sound (Some name) (Some n) None f h s named = s

pub signal_sound : (s : Seen) (name : List ℕ) (args : Option SignalArguments) (h : Held) → IsSound h → IsSound (signal_from s name args h).held
signal_sound s name None h t = t
signal_sound s name (Some args) h t =
    said_sound (signal_name s name args.name) (signal_init h.store.things args.init) (signal_reset_less s args.reset_less) (signal_shape s h args.shape) h t (λ x e. given_name s name args.name x e)

liked_sound : (s : Seen) (name : List ℕ) (args : Option SignalArguments) (f : Result Shaped Cause) (x : Option Sig) (h : Held) → IsSound h → IsSound (liked s name args f x h).held
liked_sound s name None f x h t = t
liked_sound s name (Some args) f x h t =
    said_sound (signal_name s name args.name) (like_init h.store.things x args.init) (Some (own_reset_less x)) f h t (λ n e. given_name s name args.name n e)

pub like_sound : (s : Seen) (name : List ℕ) (args : Option SignalArguments) (vs : List Val) (h : Held) → IsSound h → IsSound (like_placed s name args vs h).held
like_sound s name args [] h t = t
like_sound s name args (v ∷ []) h t = liked_sound s name args (liked_shape h v) (liked_signal h v) h t
like_sound s name args (v ∷ w ∷ vs) h t = t

-- statements

pub thing_at : (n : ℕ) (ts : List Thing) (i : ℕ) (t : Thing) → AreHeld n ts → slice_get ts i ≡ Some t → IsHeld n t
thing_at n [] i t h e = absurd (true≢false (ap is_some (sym e)))
thing_at n (x ∷ ts) zero t h e = let same : x ≡ t = cc in subst (IsHeld n) same h.0
thing_at n (x ∷ ts) (suc i) t h e = thing_at n ts i t h.1 e

-- what a value means as an expression stands in the pool with what it brings
pub record IsMeant (p : Pooled) (x : ExprId × List Expr) : Type 0 where
  pub there : x.0.0 < length p.exprs + length x.1

there_of : Pooled → Operand → Type 0
there_of p (operand.Held e f) = e.0 < length p.exprs
there_of p (operand.Number n f) = Unit {0}

meant_by : (p : Pooled) (o : Operand) (x : ExprId × List Expr) → there_of p o → operand_meant p (Some o) ≡ Ok x → IsMeant p x
unfolding there_of
meant_by p (operand.Held d f) x h e = by_test (nat_lt 262144 (length p.exprs + 0)) e
  where
    by_test : (b : Bool) → (if b then Err Limit else Ok (d, [])) ≡ Ok x → IsMeant p x
    by_test true e = cc
    by_test false e = let same : (d, []) ≡ x = cc in subst (IsMeant p) same record { there = omega arith }
meant_by p (operand.Number n f) x h e = by_test (nat_lt 262144 (length p.exprs + 1)) e
  where
    made : ExprId × List Expr
    made = (record { 0 = length p.exprs }, expr.Const n f ∷ [])

    by_test : (b : Bool) → (if b then Err Limit else Ok (record { 0 = length p.exprs }, expr.Const n f ∷ [])) ≡ Ok x → IsMeant p x
    by_test true e = cc
    by_test false e = let same : (record { 0 = length p.exprs }, expr.Const n f ∷ []) ≡ x = cc in subst (IsMeant p) same record { there = omega arith }

operand_there : (p : Pooled) (ts : List Thing) (v : Val) (y : Operand) → AreHeld (length p.exprs) ts → operand_of p ts v ≡ Some y → there_of p y
unfolding there_of
operand_there p ts (val.Hw h) y held e = by_thing (slice_get ts h.0) refl e
  where
    by_thing : (o : Option Thing) → slice_get ts h.0 ≡ o → thing_operand (option_map (held_operand p) (held_expr o)) (shown_member o) ≡ Some y → there_of p y
    by_thing None at_h e = absurd (true≢false (ap is_some (sym e)))
    by_thing (Some (thing.Value d)) at_h e = let same : held_operand p d ≡ y = cc in subst (there_of p) same (thing_at (length p.exprs) ts h.0 (thing.Value d) held at_h)
    by_thing (Some (thing.Numbered x d)) at_h e = let same : held_operand p d ≡ y = cc in subst (there_of p) same (thing_at (length p.exprs) ts h.0 (thing.Numbered x d) held at_h)
    by_thing (Some (thing.View x d)) at_h e = let same : held_operand p d ≡ y = cc in subst (there_of p) same (thing_at (length p.exprs) ts h.0 (thing.View x d) held at_h)
    by_thing (Some (thing.Member m)) at_h e = let same : member_operand m ≡ y = cc in subst (there_of p) same tt
    by_thing (Some t) at_h e = absurd (true≢false (ap is_some (sym e)))
operand_there p ts v y held e = of_number (number_of v) e
  where
    of_number : (o : Option ℤ) → option_map number_operand o ≡ Some y → there_of p y
    of_number None e = absurd (true≢false (ap is_some (sym e)))
    of_number (Some n) e = let same : number_operand n ≡ y = cc in subst (there_of p) same tt

expr_sound : (p : Pooled) (ts : List Thing) (v : Val) (x : ExprId × List Expr) → AreHeld (length p.exprs) ts → expr_meant p ts v ≡ Ok x → IsMeant p x
expr_sound p ts v x held e = by_operand (operand_of p ts v) (λ y is. operand_there p ts v y held is) e
  where
    by_operand : (o : Option Operand) → ((y : Operand) → o ≡ Some y → there_of p y) → operand_meant p o ≡ Ok x → IsMeant p x
    by_operand None f e = cc
    by_operand (Some y) f e = meant_by p y x (f y refl) e

equated_sound : (h : Held) (target : ExprId) (v : Val) (place : Place) → IsSound h → target.0 < length h.pool.exprs → IsSound (equation_made target v place h).held
equated_sound h target v place s there = by_test (is_open_target h.pool target.0) refl
  where
    given_sound : is_open_target h.pool target.0 ≡ true → (r : Result (ExprId × List Expr) Cause) → ((x : ExprId × List Expr) → r ≡ Ok x → IsMeant h.pool x) → IsSound (equation_given target place h r).held
    given_sound yes_target (Err why) f = s
    given_sound yes_target (Ok x) f =
        let m : IsMeant h.pool x = f x refl in
        let q : Pooled = grown_by h.pool x.1 in
        let g : IsGrown h.pool q = record { more = x.1; exprs = refl } in
        keeping_sound (record h { pool = q }) (kept_as.Statement (record { target = target; value = x.0; place = place }))
        (pool_grown h q [] x.1 s (sym (append-nil h.pool.signals)) refl tt)
        record {
          target_there = there_stays h.pool q target.0 g there;
          value_there = omega (arith, m.there, length-append h.pool.exprs x.1);
          is_target = open_target_stays h.pool q target.0 g there ∙ yes_target;
        }

    by_test : (b : Bool) → is_open_target h.pool target.0 ≡ b → IsSound (if b then equation_given target place h (expr_meant h.pool h.store.things v) else refused Raised h).held
    by_test true e = given_sound e (expr_meant h.pool h.store.things v) (λ x is. expr_sound h.pool h.store.things v x s.things is)
    by_test false e = s

pub eq_sound : (h : Held) (target : ExprId) (vs : List Val) (ns : List (List ℕ)) (place : Place) → IsSound h → target.0 < length h.pool.exprs → IsSound (equated target vs ns place h).held
eq_sound h target [] ns place s there = s
eq_sound h target (v ∷ []) [] place s there = equated_sound h target v place s there
eq_sound h target (v ∷ []) (n ∷ ns) place s there = s
eq_sound h target (v ∷ w ∷ vs) ns place s there = s

-- blocks

pub block_name_sound : (m : ℕ) (o : Option BlockName) (h : Held) → IsSound h → IsSound (block_name_given m o h).held
block_name_sound m None h t = t
block_name_sound m (Some n) h t = keeping_sound h (kept_as.BlockName m n) t tt

begin_there : (q : Pooled) (n : BlockName) (e : ExprId) → e.0 < length q.exprs → IsBegin q (begin_with n e)
begin_there q named.If e h = h
begin_there q named.Elif e h = h
begin_there q named.Else e h = h
begin_there q named.Switch e h = h
begin_there q named.Case e h = h
begin_there q named.Default e h = h

condition_sound : (m : ℕ) (n : BlockName) (h : Held) (r : Result (ExprId × List Expr) Cause) → IsSound h → ((x : ExprId × List Expr) → r ≡ Ok x → IsMeant h.pool x) → IsSound (condition_given m n h r).held
condition_sound m n h (Err why) t f = t
condition_sound m n h (Ok x) t f =
    let q : Pooled = grown_by h.pool x.1 in
    keeping_sound (record h { pool = q }) (kept_as.Block m (begin_with n x.0)) (pool_grown h q [] x.1 t (sym (append-nil h.pool.signals)) refl tt)
    (begin_there q n x.0 (omega (arith, (f x refl).there, length-append h.pool.exprs x.1)))

conditions_sound : (m : ℕ) (n : BlockName) (vs : List Val) (ns : List (List ℕ)) (h : Held) → IsSound h → IsSound (condition_called m n vs ns h).held
conditions_sound m n [] ns h t = t
conditions_sound m n (v ∷ []) [] h t = condition_sound m n h (expr_meant h.pool h.store.things v) t (λ x is. expr_sound h.pool h.store.things v x t.things is)
conditions_sound m n (v ∷ []) (k ∷ ns) h t = t
conditions_sound m n (v ∷ w ∷ vs) ns h t = t

plain_sound : (m : ℕ) (b : Begin) (vs : List Val) (ns : List (List ℕ)) (h : Held) → IsSound h → IsBegin h.pool b → IsSound (plain_called m b vs ns h).held
plain_sound m b [] [] h t i = keeping_sound h (kept_as.Block m b) t i
plain_sound m b [] (n ∷ ns) h t i = t
plain_sound m b (v ∷ vs) ns h t i = t

case_sound : (m : ℕ) (o : Option (List Pattern)) (h : Held) → IsSound h → IsSound (case_given m o h).held
case_sound m None h t = t
case_sound m (Some ps) h t =
    keeping_sound (with_patterns ps h) (kept_as.Block m (begin.Case (length h.store.patterns))) (record { names = t.names; things = t.things; kept = t.kept; modules = t.modules; components = t.components; machines = t.machines; domains = t.domains; additions = t.additions; clock_domains = t.clock_domains; memories = t.memories; registers = t.registers; wrappings = t.wrappings; waits = t.waits }) tt

case_in_sound : (s : Seen) (m : ℕ) (vs : List Val) (o : Option ExprId) (h : Held) → IsSound h → IsSound (case_in s m vs o h).held
case_in_sound s m vs None h t = keeping_sound h (kept_as.Block m begin.Misplaced) t tt
case_in_sound s m vs (Some subject) h t = case_sound m (case_patterns s h subject vs) h t

cases_sound : (s : Seen) (m : ℕ) (vs : List Val) (ns : List (List ℕ)) (h : Held) → IsSound h → IsSound (case_called s m vs ns h).held
cases_sound s m vs [] h t = case_in_sound s m vs (case_subject m h.store) h t
cases_sound s m vs (n ∷ ns) h t = t

pub block_call_sound : (s : Seen) (m : ℕ) (n : BlockName) (c : Called) (h : Held) → IsSound h → IsSound (block_called s m n c h).held
block_call_sound s m named.If c h t = conditions_sound m named.If c.placed c.keywords h t
block_call_sound s m named.Elif c h t = conditions_sound m named.Elif c.placed c.keywords h t
block_call_sound s m named.Else c h t = plain_sound m begin.Else c.placed c.keywords h t tt
block_call_sound s m named.Switch c h t = conditions_sound m named.Switch c.placed c.keywords h t
block_call_sound s m named.Case c h t = cases_sound s m c.placed c.keywords h t
block_call_sound s m named.Default c h t = plain_sound m begin.Default c.placed c.keywords h t tt

-- the block that a thing begins names what is in the pool
IsNamed : Pooled → Block → Type 0
IsNamed q (dsl.If e) = e.0 < length q.exprs
IsNamed q (dsl.Elif e) = e.0 < length q.exprs
IsNamed q dsl.Else = Unit {0}
IsNamed q (dsl.Switch e) = e.0 < length q.exprs
IsNamed q (dsl.Case ps) = Unit {0}
IsNamed q dsl.Default = Unit {0}

block_of_named : (q : Pooled) (ps : List (List Pattern)) (b : Begin) (x : Block) → IsBegin q b → block_of ps b ≡ Some x → IsNamed q x
unfolding IsNamed
block_of_named q ps (begin.If e) x i k = let same : dsl.If e ≡ x = cc in subst (IsNamed q) same i
block_of_named q ps (begin.Elif e) x i k = let same : dsl.Elif e ≡ x = cc in subst (IsNamed q) same i
block_of_named q ps begin.Else x i k = let same : dsl.Else ≡ x = cc in subst (IsNamed q) same tt
block_of_named q ps (begin.Switch e) x i k = let same : dsl.Switch e ≡ x = cc in subst (IsNamed q) same i
block_of_named q ps (begin.Case n) x i k = by_row (slice_get ps n) k
  where
    by_row : (o : Option (List Pattern)) → option_map (λ p. dsl.Case p) o ≡ Some x → IsNamed q x
    by_row None k = cc
    by_row (Some p) k = let same : dsl.Case p ≡ x = cc in subst (IsNamed q) same tt
block_of_named q ps begin.Default x i k = let same : dsl.Default ≡ x = cc in subst (IsNamed q) same tt
block_of_named q ps begin.Misplaced x i k = cc

opening_there : (q : Pooled) (b : Blocks) (x : Block) → IsNamed q x → IsOpening (pool_with q (condition_made b x)) (opening_of (length q.exprs) x)
unfolding IsNamed
opening_there q b (dsl.If e) h = h
opening_there q b (dsl.Elif e) h = h
opening_there q b dsl.Else h = omega (arith, length-append q.exprs (always ∷ []))
opening_there q b (dsl.Switch e) h = h
opening_there q b (dsl.Case ps) h = omega (arith, length-append q.exprs (expr.Matches (subject_of b.around) ps ∷ []))
opening_there q b dsl.Default h = omega (arith, length-append q.exprs (always ∷ []))

entered_sound : (h : Held) (m : ℕ) (b : Built) (x : Block) → IsSound h → IsBuilt h.pool b → IsNamed h.pool x → IsSound (with_entered m b x h)
entered_sound h m b x t k i = by_expr (condition_made (built_blocks b) x) (opening_there h.pool (built_blocks b) x i)
  where
    with_step : (q : Pooled) → IsSound (record h { pool = q }) → IsBuilt q b → IsOpening q (opening_of (length h.pool.exprs) x) → IsSound (record { pool = q; store = store_told m (and_entered h.pool b x) h.store })
    with_step q u l o = record {
      names = u.names;
      things = u.things;
      kept = u.kept;
      components = u.components;
      machines = u.machines;
      domains = u.domains;
      additions = u.additions;
      clock_domains = u.clock_domains;
      memories = u.memories;
      registers = u.registers;
      wrappings = u.wrappings;
      waits = u.waits;
      modules = told_module q m (and_entered h.pool b x) h.store.modules (record { steps = all_and (IsTold q) b.steps (Enter (opening_of (length h.pool.exprs) x) ∷ []) l.steps (o, tt) }) u.modules;
    }

    by_expr : (o : Option Expr) → IsOpening (pool_with h.pool o) (opening_of (length h.pool.exprs) x) → IsSound (record { pool = pool_with h.pool o; store = store_told m (and_entered h.pool b x) h.store })
    by_expr None o = with_step h.pool t k o
    by_expr (Some e) o =
        let q : Pooled = pool_with h.pool (Some e) in
        let g : IsGrown h.pool q = record { more = e ∷ []; exprs = refl } in
        with_step q (pool_grown h q [] (e ∷ []) t (sym (append-nil h.pool.signals)) refl tt) (built_stays h.pool q g b k) o

entering_sound : (h : Held) (m : ℕ) (o : Option Built) (x : Block) → IsSound h → ((b : Built) → o ≡ Some b → IsBuilt h.pool b) → IsNamed h.pool x → IsSound (entering m o x h).0
entering_sound h m None x t f i = t
entering_sound h m (Some b) x t f i = by_refusal (enter_refusal h.pool b x)
  where
    by_refusal : (o : Option BuildStop) → IsSound (entering_by o m b x h).0
    by_refusal (Some why) = t
    by_refusal None = entered_sound h m b x t (f b refl) i

passed_sound : (x : Held × Option Cause) → IsSound x.0 → IsSound (passed x).held
passed_sound (h, None) t = t
passed_sound (h, Some why) t = t

pub enter_sound : (o : Option Kept) (h : Held) → IsSound h → ((k : Kept) → o ≡ Some k → IsKept h.pool h.store.components.signatures h.store.components.ends k) → IsSound (block_entered o h).held
enter_sound (Some (kept_as.Block m b)) h t f = if_sound (in_machine m h.store.machines) _ _ t (by_block (block_of h.store.patterns b) (λ x e. block_of_named h.pool h.store.patterns b x (f (kept_as.Block m b) refl) e))
  where
    by_block : (o : Option Block) → ((x : Block) → o ≡ Some x → IsNamed h.pool x) → IsSound (entered_at m (slice_get h.store.modules m) o h).held
    by_block None g = t
    by_block (Some x) g =
        passed_sound (entering m (slice_get h.store.modules m) x h) (entering_sound h m (slice_get h.store.modules m) x t (λ c e. module_built h.pool h.store.modules m c t.modules e) (g x refl))
enter_sound (Some (kept_as.OfMachine x)) h t f = t
enter_sound (Some (kept_as.OfSimulator x)) h t f = t
enter_sound (Some (kept_as.OfBench x)) h t f = t
enter_sound None h t f = t
enter_sound (Some (kept_as.Name n)) h t f = t
enter_sound (Some (kept_as.Module m)) h t f = t
enter_sound (Some (kept_as.Domains m)) h t f = t
enter_sound (Some (kept_as.Domain m d)) h t f = t
enter_sound (Some (kept_as.Submodules m)) h t f = t
enter_sound (Some (kept_as.Definitions m)) h t f = t
enter_sound (Some (kept_as.ClockDomain k)) h t f = t
enter_sound (Some (kept_as.Memory k)) h t f = t
enter_sound (Some (kept_as.OfMemory k y)) h t f = t
enter_sound (Some (kept_as.MemoryPort x)) h t f = t
enter_sound (Some (kept_as.Wrapping k)) h t f = t
enter_sound (Some (kept_as.Wrapped k)) h t f = t
enter_sound (Some (kept_as.Statement q)) h t f = t
enter_sound (Some (kept_as.Port is_out shape init)) h t f = t
enter_sound (Some (kept_as.Nested is_out m)) h t f = t
enter_sound (Some (kept_as.Signature m)) h t f = t
enter_sound (Some (kept_as.OfSignature m y)) h t f = t
enter_sound (Some (kept_as.Interface m)) h t f = t
enter_sound (Some (kept_as.BlockName m n)) h t f = t

left_sound : (h : Held) (m : ℕ) (b : Built) → IsSound h → IsBuilt h.pool b → IsSound (record h { store = store_told m (and_left b) h.store })
left_sound h m b t k = record {
  names = t.names;
  things = t.things;
  kept = t.kept;
  components = t.components;
  machines = t.machines;
  domains = t.domains;
  additions = t.additions;
  clock_domains = t.clock_domains;
  memories = t.memories;
  registers = t.registers;
  wrappings = t.wrappings;
  waits = t.waits;
  modules = told_module h.pool m (and_left b) h.store.modules (record { steps = all_and (IsTold h.pool) b.steps (Leave ∷ []) k.steps (tt, tt) }) t.modules;
}

leaving_sound : (h : Held) (m : ℕ) (o : Option Built) → IsSound h → ((b : Built) → o ≡ Some b → IsBuilt h.pool b) → IsSound (record h { store = (leaving m o h.store).0 })
leaving_sound h m None t f = t
leaving_sound h m (Some b) t f = by_refusal (leave_refusal b)
  where
    by_refusal : (o : Option BuildStop) → IsSound (record h { store = (leaving_by o m b h.store).0 })
    by_refusal (Some why) = t
    by_refusal None = left_sound h m b t (f b refl)

pub leave_sound : (o : Option Kept) (h : Held) → IsSound h → IsSound (block_left o h).held
leave_sound (Some (kept_as.Block m b)) h t = by_pair (leaving m (slice_get h.store.modules m) h.store) (leaving_sound h m (slice_get h.store.modules m) t (λ c e. module_built h.pool h.store.modules m c t.modules e))
  where
    by_pair : (x : Stored × Option Cause) → IsSound (record h { store = x.0 }) → IsSound (left_at m h x).held
    by_pair (s, why) u = passed_sound (record h { store = s }, why) u
leave_sound (Some (kept_as.OfMachine x)) h t = t
leave_sound (Some (kept_as.OfSimulator x)) h t = t
leave_sound (Some (kept_as.OfBench x)) h t = t
leave_sound None h t = t
leave_sound (Some (kept_as.Name n)) h t = t
leave_sound (Some (kept_as.Module m)) h t = t
leave_sound (Some (kept_as.Domains m)) h t = t
leave_sound (Some (kept_as.Domain m d)) h t = t
leave_sound (Some (kept_as.Submodules m)) h t = t
leave_sound (Some (kept_as.Definitions m)) h t = t
leave_sound (Some (kept_as.ClockDomain k)) h t = t
leave_sound (Some (kept_as.Memory k)) h t = t
leave_sound (Some (kept_as.OfMemory k y)) h t = t
leave_sound (Some (kept_as.MemoryPort x)) h t = t
leave_sound (Some (kept_as.Wrapping k)) h t = t
leave_sound (Some (kept_as.Wrapped k)) h t = t
leave_sound (Some (kept_as.Statement q)) h t = t
leave_sound (Some (kept_as.Port is_out shape init)) h t = t
leave_sound (Some (kept_as.Nested is_out m)) h t = t
leave_sound (Some (kept_as.Signature m)) h t = t
leave_sound (Some (kept_as.OfSignature m y)) h t = t
leave_sound (Some (kept_as.Interface m)) h t = t
leave_sound (Some (kept_as.BlockName m n)) h t = t

-- domains

naming_sound : (n : List ℕ) (h : Held) → IsSound h → IsName n → IsSound (record h { store = naming_domain n h.store })
naming_sound n h t name = record {
  names = t.names;
  things = t.things;
  kept = t.kept;
  modules = t.modules;
  components = t.components;
  machines = t.machines;
  domains = all_and IsName h.store.domains (n ∷ []) t.domains (name, tt);
  additions = t.additions;
  clock_domains = t.clock_domains;
  memories = t.memories;
  registers = t.registers;
  wrappings = t.wrappings;
  waits = t.waits;
}

pub domain_sound : (m : ℕ) (name : Option (List ℕ)) (h : Held) → IsSound h → IsSound (domain_given m name h).held
domain_sound m None h t = t
domain_sound m (Some n) h t = if_sound (text_eq n (codes "comb")) _ _ (keeping_sound h (kept_as.Domain m domain.Comb) t tt) (by_test (is_identifier n) refl)
  where
    by_test : (b : Bool) → is_identifier n ≡ b → IsSound (if b then clocked_given m n h else refused Raised h).held
    by_test true e = keeping_sound (record h { store = naming_domain n h.store }) (kept_as.Domain m (domain.Clocked (length h.store.domains))) (naming_sound n h t (identifier_is_name n e)) tt
    by_test false e = t

pub stored_sound : (m : ℕ) (name : Option (List ℕ)) (v : Val) (h : Held) → IsSound h → IsSound (domain_stored m name v h).held
stored_sound m name v h t = if_sound (is_domain_of h.store m name (kept_of h.store v)) _ _ t t

-- statements that are added

named_at : (ns : List (List ℕ)) (k : ℕ) (n : List ℕ) → AllByRecursion IsName ns → slice_get ns k ≡ Some n → IsName n
named_at [] k n h e = absurd (true≢false (ap is_some (sym e)))
named_at (x ∷ ns) zero n h e = let same : x ≡ n = cc in subst IsName same h.0
named_at (x ∷ ns) (suc k) n h e = named_at ns k n h.1 e

pub side_named : (s : Stored) (d : DomainName) (x : Side) → AllByRecursion IsName s.domains → side_of s d ≡ Some x → IsNamedSide x
side_named s domain.Comb x h e = let same : Comb ≡ x = cc in subst IsNamedSide same tt
side_named s (domain.Clocked k) x h e = by_get (slice_get s.domains k) (named_at s.domains k) e
  where
    by_get : (o : Option (List ℕ)) → ((n : List ℕ) → AllByRecursion IsName s.domains → o ≡ Some n → IsName n) → option_map Clocked o ≡ Some x → IsNamedSide x
    by_get None f is = absurd (true≢false (ap is_some (sym is)))
    by_get (Some n) f is = let same : Clocked n ≡ x = cc in subst IsNamedSide same (f n h refl)

put_sound_by : (h : Held) (why : Option Cause) (m : ℕ) (b : Built) (d : Side) (q : Equation) → IsSound h → IsBuilt h.pool b → IsNamedSide d → IsEquation h.pool q → IsSound (record h { store = (statement_put why h.store (store_with_statement m b d q h.store)).0 })
put_sound_by h (Some why) m b d q t k named e = t
put_sound_by h None m b d q t k named e = record {
  names = t.names;
  things = t.things;
  kept = t.kept;
  components = t.components;
  machines = t.machines;
  domains = t.domains;
  additions = t.additions;
  clock_domains = t.clock_domains;
  memories = t.memories;
  registers = t.registers;
  wrappings = t.wrappings;
  waits = t.waits;
  modules = told_module h.pool m (built_with b d q) h.store.modules (record { steps = all_and (IsTold h.pool) b.steps (Assign d q.target q.value q.place ∷ []) k.steps ((named, e), tt) }) t.modules;
}

told_sound : (h : Held) (m : ℕ) (d : Side) (q : Equation) → IsSound h → IsNamedSide d → IsEquation h.pool q → IsSound (record h { store = (statement_told m d q (slice_get h.store.modules m) h.store).0 })
told_sound h m d q t named e = by_module (slice_get h.store.modules m) refl
  where
    by_module : (o : Option Built) → slice_get h.store.modules m ≡ o → IsSound (record h { store = (statement_told m d q o h.store).0 })
    by_module None at = t
    by_module (Some b) at = put_sound_by h (statement_refusal m b d q h.store) m b d q t (module_built h.pool h.store.modules m b t.modules at) named e

all_told_sound : (h : Held) (m : ℕ) (d : Side) (qs : List Equation) → IsSound h → IsNamedSide d → AllByRecursion (IsEquation h.pool) qs → IsSound (record h { store = (statements_told m d qs h.store).0 })
all_told_sound h m d [] t named e = t
all_told_sound h m d (q ∷ qs) t named e = behind (statement_told m d q (slice_get h.store.modules m) h.store) (told_sound h m d q t named e.0) (λ s u. all_told_sound (record h { store = s }) m d qs u named e.1)
  where
    behind : (x : Stored × Option Cause) → IsSound (record h { store = x.0 }) → ((s : Stored) → IsSound (record h { store = s }) → IsSound (record h { store = (statements_told m d qs s).0 })) → IsSound (record h { store = (statements_behind (statements_told m d qs) x).0 })
    behind (s, None) u f = f s u
    behind (s, Some why) u f = u

pub statements_sound : (x : Val) (m : ℕ) (o : Option Side) (es : Option (List Equation)) (h : Held) → IsSound h → ((d : Side) → o ≡ Some d → IsNamedSide d) → ((qs : List Equation) → es ≡ Some qs → AllByRecursion (IsEquation h.pool) qs) → IsSound (statements_added x m o es h).held
statements_sound x m None es h t named f = t
statements_sound x m (Some d) None h t named f = t
statements_sound x m (Some d) (Some qs) h t named f = if_sound (has_no_place m qs h.store) _ _ t (all_told_sound h m d qs t (named d refl) (f qs refl))

-- classes and tops

pub class_sound : (vs : List Val) (ns : List (List ℕ)) (h : Held) → IsSound h → IsSound (class_made vs ns h).held
class_sound [] ns h t = t
class_sound (c ∷ []) ns h t = t
class_sound (c ∷ base ∷ vs) ns h t = if_sound (is_base (kept_of h.store base) base) _ _ (if_sound (list_any is_keyword ns) _ _ t t) t

pub base_sound : (vs : List Val) (ns : List (List ℕ)) (h : Held) → IsSound h → IsSound (base_called vs ns h).held
base_sound [] ns h t = t
base_sound (o ∷ []) [] h t = t
base_sound (o ∷ []) (n ∷ ns) h t = t
base_sound (o ∷ v ∷ vs) ns h t = t

top_sound : (s : Seen) (v : Val) (m : Option ℕ) (c : Option Calling) (h : Held) → IsSound h → IsSound (top_taken s v m c h).held
top_sound s v (Some m) c h t = submodule.walk_sound s (with_top m h) (submodule.entered_sound m h t)
top_sound s v None (Some c) h t = with_top_sound h (record { object = first_object h.store.top.object (object_in v); root = None }) t
top_sound s v None None h t = t

elaborated_sound : (s : Seen) (v : Val) (h : Held) → IsSound h → IsSound (elaborated s v h).held
elaborated_sound s v h t =
    let w = inner_of h.store v in
    let bys = wraps_in h.store v in
    top_sound s w (module_of (kept_of h.store w)) (elaborate_of s w) (with_root_wraps bys h) (submodule.root_wraps_sound bys h t)

taken_sound : (s : Seen) (o : Option Val) (h : Held) → IsSound h → IsSound (body_taken s o h).held
taken_sound s None h t = t
taken_sound s (Some v) h t = elaborated_sound s v h t

pub body_sound : (name : Option (List ℕ)) (s : Seen) (vals : List Val) (names : List (List ℕ)) (h : Held) → IsSound h → IsSound (body_ended name s vals names h).held
body_sound name s vals names h t = taken_sound s (named_top name h.store.simulation.subject vals names) h t

ended_sound : (root : Option ℕ) (s : Seen) (v : Val) (h : Held) → IsSound h → IsSound (ended_by root s v h).held
ended_sound None s v h t = elaborated_sound s v h t
ended_sound (Some root) s v h t = submodule.value_sound s (walk s) v h t (λ g. submodule.walk_sound s g)

pub end_sound : (s : Seen) (vs : List Val) (h : Held) → IsSound h → IsSound (elaborate_ended s vs h).held
end_sound s [] h t = t
end_sound s (v ∷ vs) h t = ended_sound h.store.top.root s v h t
