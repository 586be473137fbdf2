-- The tests of an event say whether it is legal.
use Rattle.std.specs.Prelude.{◌≡◌, ◌≢◌, ◌↔◌, refl, ℕ, suc, ◌<◌, nat_lt, nat_le, ◌&&◌, ◌||◌, ◌==◌, Bool, true, false, not, IsTrue, List, [], ◌∷◌, map, length, ℤ}
use Rattle.std.specs.List.{AllByRecursion, list_any}
use Rattle.std.proofs.Common.{sym, ◌∙◌, ap, arith, subst}
use Rattle.std.proofs.lemmas.Bool.{false≢true, eqb-true}
use Rattle.amh_bits.specs.Patterns.{IsOf, wrap}
use Rattle.amh_bits.proofs.Wraps.{wrap_is_of, wrap_same}
use Rattle.design_ir.specs.declared.ids.DomainId.{DomainId}
use Rattle.design_ir.specs.declared.port.Port.{Port}
use Rattle.design_ir.specs.declared.event.Event.TheVariants.{Edge}
use Rattle.design_ir.specs.Circuits.{Circuit, is_input, is_clock}
use Rattle.design_ir.specs.Designs.{IsDesign, port_signals}
use Rattle.design_ir.specs.Legal.{Ascending, IsLegal}
use Rattle.design_ir.specs.Tests.{is_settable, ascends}
use Rattle.design_ir.proofs.Counts.{all_left, columns_there}

-- a number of the shape is its own wrap
pub of_shape : (signed : Bool) (width : ℕ) (n : ℤ) → (wrap signed width n ≡ n) ↔ IsOf signed width n
of_shape signed width n = ((λ e. subst (λ x. IsOf signed width x) e (wrap_is_of signed width n)), wrap_same signed width n)

and_true : (a b : Bool) → (a && b) ≡ true → (a ≡ true) × (b ≡ true)
and_true true b e = (refl, e)
and_true false b e = absurd (false≢true e)

-- ---- a signal that may be set is there

first_below : (t b : Bool) (p : Port) (n s : ℕ) → (p.is_input && (p.sig.0 == s)) ≡ t → p.sig.0 < n → (b ≡ true → s < n) → (t || b) ≡ true → s < n
first_below true b p n s e h rest any = omega (arith, h, eqb-true p.sig.0 s (and_true p.is_input (p.sig.0 == s) e).1)
first_below false b p n s e h rest any = rest any

input_below : (ports : List Port) (n s : ℕ) → AllByRecursion (λ x. x < n) (map (λ (p : Port). p.sig.0) ports) → list_any (λ (p : Port). p.is_input && (p.sig.0 == s)) ports ≡ true → s < n
input_below [] n s h any = cc
input_below (p ∷ ports) n s h any =
    first_below (p.is_input && (p.sig.0 == s)) (list_any (λ (q : Port). q.is_input && (q.sig.0 == s)) ports) p n s refl h.0 (input_below ports n s h.1) any

pub settable_there : (c : Circuit) (s : ℕ) → IsDesign c → is_settable c s ≡ true → s < length c.pool.signals
settable_there c s h e =
    input_below c.ports (length c.pool.signals) s (all_left (λ x. x < length c.pool.signals) (port_signals c) h.columns.registers (columns_there c h)) (and_true (is_input c s) (not (is_clock c s)) e).0

-- ---- domains in order

pub ascends_true : (count least : ℕ) (ds : List DomainId) → ascends count least ds ≡ true → AllByRecursion (λ (d : DomainId). d.0 < count) ds × Ascending least ds
ascends_true count least [] e = (tt, tt)
ascends_true count least (d ∷ ds) e =
    let first = and_true (nat_le least d.0) (nat_lt d.0 count && ascends count (suc d.0) ds) e in
    let second = and_true (nat_lt d.0 count) (ascends count (suc d.0) ds) first.1 in
    let rest = ascends_true count (suc d.0) ds second.1 in
    ((grind (arith, second.0), rest.0), (grind (arith, first.0), rest.1))

and_of : (a b : Bool) → a ≡ true → b ≡ true → (a && b) ≡ true
and_of true b e f = f
and_of false b e f = absurd (false≢true e)

pub ascends_of : (count least : ℕ) (ds : List DomainId) → AllByRecursion (λ (d : DomainId). d.0 < count) ds → Ascending least ds → ascends count least ds ≡ true
ascends_of count least [] h k = refl
ascends_of count least (d ∷ ds) h k =
    and_of (nat_le least d.0) (nat_lt d.0 count && ascends count (suc d.0) ds) (grind (arith, k.0))
    (and_of (nat_lt d.0 count) (ascends count (suc d.0) ds) (grind (arith, h.0)) (ascends_of count (suc d.0) ds h.1 k.1))

some_first : {A : Type 0} (xs : List A) → 0 < length xs → xs ≢ []
some_first [] h e = omega (arith, h)
some_first (x ∷ xs) h e = cc

pub edge_is : (c : Circuit) (ds : List DomainId) (count : ℕ) (r : Bool) → 0 < length ds → count ≡ length c.domains → r ≡ ascends count 0 ds → IsTrue r ↔ IsLegal c (Edge ds)
edge_is c ds count r some all is =
    let same : r ≡ ascends (length c.domains) 0 ds = is ∙ ap (λ n. ascends n 0 ds) all in (
      (λ e. let a = ascends_true (length c.domains) 0 ds (sym same ∙ e) in (some_first ds some, a.0, a.1)),
      (λ h. same ∙ ascends_of (length c.domains) 0 ds h.1 h.2),
    )
