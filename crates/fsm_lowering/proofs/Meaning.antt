-- What the choice over the register means.
use Rattle.std.proofs.Common.{slice_index_or, pos, ◌≡◌, ℕ, ◌-◌, ◌^◌, ◌==◌, ◌<◌, ◌≤◌, ◌||◌, Bool, true, false, if◌then◌else◌, List, [], ◌∷◌, slice_get, Some, ℤ, bit_and, refl, ap, ◌∙◌, arith, zero, suc, pow_mono}
use Rattle.std.specs.List.{AllByRecursion}
use Rattle.std.proofs.lemmas.Nat.{and_mask, and_comm}
use Rattle.std.proofs.Math.Nat.{mod-eq_of_lt}
use Rattle.amh_bits.proofs.Wraps.{pattern_below}
use Rattle.shape_rules.specs.Forms.{IsForm}
use Rattle.shape_rules.specs.Operators.{is_zero, truth}
use Rattle.design_ir.specs.declared.process.Side.{Side}
use Rattle.design_ir.specs.declared.signal.Sig.{Sig}
use Rattle.design_ir.specs.declared.expr.Expr.TheVariants as expr
use Rattle.design_ir.specs.Pools.{Pooled}
use Rattle.design_ir.specs.PoolRules.{IsPool}
use Rattle.design_ir.specs.Values.{form, num, matches, signal_form}
use Rattle.design_ir.proofs.Equations.{num_is, form_is}
use Rattle.module_dsl.specs.Sided.{carried_out, first_active}
use Rattle.fsm_lowering.specs.Machines.{Machine, HasRegister, in_state, number_pattern}
use Rattle.fsm_lowering.specs.Laws.{Entered, branches_of, register_number, carried_out_in, HasConditions}

masked : (bits : ℕ) → bits < 2 ^ 128 → bit_and (2 ^ 128 - 1) bits ≡ bits
masked bits few = and_comm (2 ^ 128 - 1) bits ∙ and_mask bits 128 ∙ mod-eq_of_lt few

zero_test : (b : Bool) → is_zero (truth (b || false)) ≡ (if b then false else true)
zero_test true = refl
zero_test false = refl

-- the condition of a state is 0 exactly where the register has another number
condition_is : (q : Pooled) (env : List ℤ) (m : Machine) (x : Entered) → IsPool q → register_number q env m < 2 ^ 128 → slice_get q.exprs x.condition.0 ≡ Some (in_state m x.number) → is_zero (num q env x.condition.0) ≡ (if register_number q env m == x.number then false else true)
condition_is q env m x pool few at =
    let value = num_is q env x.condition.0 (in_state m x.number) pool at in
    ap is_zero value ∙ zero_test (matches (number_pattern x.number) (register_number q env m)) ∙ ap (λ (bits : ℕ). if bits == x.number then false else true) (masked (register_number q env m) few)

form_narrow : (w : ℕ) (signed : Bool) → IsForm w signed → w ≤ 128
form_narrow w true h = h.1
form_narrow w false h = h

signal_narrow : (xs : List Sig) (s : ℕ) → AllByRecursion (λ (x : Sig). IsForm x.shape.width x.shape.signed) xs → (signal_form xs s).width ≤ 128
signal_narrow [] s h = omega arith
signal_narrow (x ∷ xs) zero h = form_narrow x.shape.width x.shape.signed h.0
signal_narrow (x ∷ xs) (suc s) h = signal_narrow xs s h.1

register_narrow : (q : Pooled) (env : List ℤ) (m : Machine) → IsPool q → HasRegister q m → register_number q env m < 2 ^ 128
register_narrow q env m pool has =
    let narrow : (form q m.register.0).width ≤ 128 = rw (form_is q m.register.0 (expr.Sig m.signal) pool has) (signal_narrow q.signals m.signal.0 pool.shapes) in
    let below : register_number q env m < 2 ^ (form q m.register.0).width = pattern_below (form q m.register.0).width (num q env m.register.0) in
    let room : 2 ^ (form q m.register.0).width ≤ 2 ^ 128 = pow_mono narrow in
    omega (arith, below, room)

pub one_state : (q : Pooled) (env : List ℤ) (side : Side) (m : Machine) (xs : List Entered) (cur : List ℤ) → IsPool q → HasRegister q m → HasConditions q m xs → first_active q env side (branches_of xs) cur ≡ carried_out_in q env side (register_number q env m) xs cur
one_state q env side m [] cur pool there has = refl
one_state q env side m (x ∷ xs) cur pool there has =
    ap (λ (b : Bool). if b then first_active q env side (branches_of xs) cur else carried_out q env side x.body cur) (condition_is q env m x pool (register_narrow q env m pool there) has.0) ∙ turned (register_number q env m == x.number) (one_state q env side m xs cur pool there has.1)
  where
    turned : (b : Bool) → first_active q env side (branches_of xs) cur ≡ carried_out_in q env side (register_number q env m) xs cur → (if (if b then false else true) then first_active q env side (branches_of xs) cur else carried_out q env side x.body cur) ≡ (if b then carried_out q env side x.body cur else carried_out_in q env side (register_number q env m) xs cur)
    turned true same = refl
    turned false same = same

pub register_number-signal : (q : Pooled) (env : List ℤ) (m : Machine) (n : ℕ) → IsPool q → HasRegister q m → slice_index_or env m.signal.0 (pos 0) ≡ pos n → n < 2 ^ (signal_form q.signals m.signal.0).width → register_number q env m ≡ n
register_number-signal q env m n pool there is few =
    let value : num q env m.register.0 ≡ pos n = num_is q env m.register.0 (expr.Sig m.signal) pool there ∙ is in
    let shape : form q m.register.0 ≡ signal_form q.signals m.signal.0 = form_is q m.register.0 (expr.Sig m.signal) pool there in
    rw (value, shape) (mod-eq_of_lt few)
