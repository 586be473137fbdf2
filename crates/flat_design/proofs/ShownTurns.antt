-- One more write of an assignment.
use Rattle.std.specs.Prelude.{◌≡◌, refl, ℕ, ◌+◌, ◌-◌, ◌<◌, ◌≤◌, ◌==◌, nat_le, ◌&&◌, Bool, true, false, IsTrue, if◌then◌else◌, List, [], ◌∷◌, ◌++◌, All, length, ℤ, unsigned_abs, Option, Contains}
use Rattle.std.specs.List.{AllByRecursion, flat_map, range_with_len}
use Rattle.std.proofs.Common.{sym, ◌∙◌, ap, arith, subst, ⊎_elim}
use Rattle.std.proofs.lemmas.Bool.{cond_below, cond_above, cases_lt, false≢true, eqb-true, or_cases}
use Rattle.std.proofs.lemmas.List.Elements.{Contains-append_left, Contains-append_right, Contains-append_cases, Contains-push, All-contains_itself, All-weaker, All-head, All-tail, All-contains}
use Rattle.amh_bits.specs.Patterns.{nat_bit, int_bit}
use Rattle.amh_bits.proofs.BitsOf.{bit_pattern}
use Rattle.amh_bits.proofs.InShape.{of_zero}
use Rattle.shape_rules.specs.Forms.{Form, IsForm}
use Rattle.design_ir.specs.declared.ids.ExprId.{ExprId}
use Rattle.design_ir.specs.Pools.{Pooled}
use Rattle.design_ir.specs.PoolRules.{IsPool}
use Rattle.design_ir.specs.Values.{form, num, signal_form}
use Rattle.design_ir.specs.Targets.{Bit, Spot, fixed, chosen, stands_at, fixed_place, is_target, target_signals}
use Rattle.design_ir.specs.Needed.{needed, needed_whole, needed_indices, extended, every}
use Rattle.design_ir.specs.Loops.{AssignmentNeeds, needed_value}
use Rattle.design_ir.specs.Guards.{Guard, Guarded}
use Rattle.design_ir.specs.Circuits.{is_among, FitsSignals}
use Rattle.design_ir.proofs.Elements.{contains_none, flat_has, flat_of, range_has}
use Rattle.design_ir.proofs.NumbersFit.{has_shape}
use Rattle.flat_design.specs.declared.sources.Source.{Source}
use Rattle.flat_design.specs.declared.writes.Test.{Test}
use Rattle.flat_design.specs.declared.writes.Write.{Write}
use Rattle.flat_design.specs.Growing.{IsMore}
use Rattle.flat_design.specs.Activity.{IsTest, tests_hold, tests_need, test_holds}
use Rattle.flat_design.specs.Writes.{writes}
use Rattle.flat_design.specs.WriteLaws.{WritesAreAims, WritesAreInside, IsInside, TestsAreOwn}
use Rattle.flat_design.specs.Shown.{SoFar, AreSlots}
use Rattle.flat_design.specs.Written.{AreWrittenSlots, IsSlotOf}
use Rattle.flat_design.specs.Begun.{all_hold, all_need, IsBegun}
use Rattle.flat_design.proofs.Growing.{more_trans, form_more, num_more, needed_more, needed_whole_more, signals_more, aims_more, indices_more, target_more, readable_more}
use Rattle.flat_design.proofs.ShownWrites.{one_write, NeedsItsOwn}
use Rattle.flat_design.proofs.ShownAssignments.{midway, midway_more, value_bits}

-- ---- shapes

-- the numbers that are all 0
pub no_numbers : (p : Pooled) → FitsSignals p []
no_numbers p s there = of_zero (signal_form p.signals s).signed (signal_form p.signals s).width

some_bit : (w : ℕ) (s : Bool) → IsForm w s → s ≡ true → 1 ≤ w
some_bit w false h e = absurd (false≢true e)
some_bit w true h e = h.0

few_bits : (w : ℕ) (s : Bool) → IsForm w s → w ≤ 128
few_bits w false h = h
few_bits w true h = h.1

pub form_few : (p : Pooled) (e : ExprId) → IsPool p → e.0 < length p.exprs → (form p e.0).width ≤ 128
form_few p e rules there = few_bits (form p e.0).width (form p e.0).signed (has_shape p [] rules (no_numbers p) e there)

-- ---- what is needed

past_every : (w : ℕ) (s : Bool) (bits : ℕ → List Bit) (c : Bit) → IsForm w s → Contains (if s then bits (w - 1) else []) c → Contains (flat_map bits (range_with_len 0 w)) c
past_every w true bits c shape has = flat_has bits (range_with_len 0 w) (w - 1) c (range_has 0 w (w - 1) (omega arith) (omega (arith, shape.0))) has
past_every w false bits c shape has = absurd (contains_none c has)

extended_every : (f : Form) (bits : ℕ → List Bit) (k : ℕ) (c : Bit) → IsForm f.width f.signed → Contains (extended f bits k) c → Contains (every f bits) c
extended_every f bits k c shape has =
    let past : List Bit = if f.signed then bits (f.width - 1) else [] in
    ⊎_elim
    (λ lt. flat_has bits (range_with_len 0 f.width) k c (range_has 0 f.width k (omega arith) (omega (arith, lt))) (subst (λ xs. Contains xs c) (sym (cond_below k f.width (bits k) past lt)) has))
    (λ ge. past_every f.width f.signed bits c shape (subst (λ xs. Contains xs c) (sym (cond_above k f.width (bits k) past past ge refl)) has))
    (cases_lt k f.width)

value_needs : (p : Pooled) (e : ExprId) (s : Spot) (k : ℕ) (c : Bit) → IsForm (form p e.0).width (form p e.0).signed → stands_at s k ≡ true → Contains (extended (form p e.0) (needed p e.0) k) c → Contains (needed_value p e (fixed_place s)) c
value_needs p e (fixed j) k c shape stands has = subst (λ i. Contains (extended (form p e.0) (needed p e.0) i) c) (sym (eqb-true j k stands)) has
value_needs p e (chosen set) k c shape stands has = extended_every (form p e.0) (needed p e.0) k c shape has

-- ---- tests

module _ (q r : Pooled) (rules : IsPool q) (more : IsMore q r) where
  test_more : (t : Test) → IsTest q t → IsTest r t
  test_more t h = record { readable = readable_more q r rules more t.index h.readable; plain = ap (λ (f : Form). f.signed) (form_more q r rules more t.index.0 h.readable.there) ∙ h.plain }

  pub all_tests_more : (ts : List Test) → All (IsTest q) ts → All (IsTest r) ts
  all_tests_more ts h = All-weaker (IsTest q) (IsTest r) test_more ts h

  tests_hold_more : (env : List ℤ) (ts : List Test) → All (IsTest q) ts → tests_hold r ts env ≡ tests_hold q ts env
  tests_hold_more env [] h = refl
  tests_hold_more env (t ∷ ts) h =
      let one : test_holds r env t ≡ test_holds q env t = ap (λ n. if t.and_above then nat_le t.number (unsigned_abs n) else unsigned_abs n == t.number) (num_more q r rules more env t.index.0 (All-head (IsTest q) t ts h).readable.there) in
      let rest = tests_hold_more env ts (All-tail (IsTest q) t ts h) in
      λ i. one i && rest i

  tests_need_more : (ts : List Test) → All (IsTest q) ts → tests_need r ts ≡ tests_need q ts
  tests_need_more [] h = refl
  tests_need_more (t ∷ ts) h =
      let one = needed_whole_more q r rules more t.index (All-head (IsTest q) t ts h).readable.there in
      let rest = tests_need_more ts (All-tail (IsTest q) t ts h) in
      λ i. one i ++ rest i

-- ---- signals

pub among_all : (driven : List ℕ) (xs : List ℕ) (s : ℕ) → AllByRecursion (λ x. IsTrue (is_among driven x)) xs → is_among xs s ≡ true → is_among driven s ≡ true
among_all driven [] s h e = absurd (false≢true e)
among_all driven (x ∷ xs) s h e =
    ⊎_elim (λ (same : (x == s) ≡ true). ap (is_among driven) (sym (eqb-true x s same)) ∙ h.0) (λ rest. among_all driven xs s h.1 rest) (or_cases (x == s) (is_among xs s) e)

-- ---- a write of an assignment

-- before a process's pool (p), before the assignment (q0), before the write (q)
module _ (t : SoFar) (gs : List Guard) (q0 : Pooled) (slots0 : List (List Source)) (active : Option ExprId) (g : Guarded) (begun : IsBegun t gs q0 slots0 active (g.target ∷ g.value ∷ []) (g ∷ [])) (guards : g.guards ≡ gs)
    (rules : IsPool q0) (aimed : WritesAreAims q0) (insides : WritesAreInside q0) (tested : TestsAreOwn q0) (w : Write) (among : Contains (writes q0 g.target.0) w) where
  p : Pooled
  p = t.pool

  grown : IsMore t.pool q0
  grown = begun.shown.more

  there : g.target.0 < length t.pool.exprs
  there = begun.readable.0.there

  target : is_target q0 g.target.0 ≡ true
  target = target_more t.pool q0 begun.rules grown g.target.0 there ∙ begun.own.0.target

  pub inside : IsInside q0 g.target.0 w
  inside = insides g.target.0 w target among

  pub write_tests : All (IsTest q0) w.tests
  write_tests =
      All-weaker (Contains w.tests) (IsTest q0) (λ x has. (tested g.target.0 w x target among has).test (readable_more t.pool q0 begun.rules grown g.target begun.readable.0).resolved) w.tests (All-contains_itself w.tests)

  pub bits_inside : w.low + w.width ≤ (signal_form t.pool.signals w.sig.0).width
  bits_inside = subst (λ sigs. w.low + w.width ≤ (signal_form sigs w.sig.0).width) grown.signals inside.bits

  pub write_few : w.from + w.width ≤ 128
  write_few = omega (arith, inside.value, form_few q0 g.target rules (readable_more t.pool q0 begun.rules grown g.target begun.readable.0).there)

  pub write_driven : is_among t.driven w.sig.0 ≡ true
  write_driven = among_all t.driven (target_signals t.pool g.target.0) w.sig.0 begun.own.0.signals (ap (λ ss. is_among ss w.sig.0) (sym (signals_more t.pool q0 begun.rules grown g.target.0 there)) ∙ inside.among)

  -- the slot of the write's signal, as another pool has it
  pub write_slot : (ws : List Write) (q : Pooled) (slots : List (List Source)) → AreSlots (midway t q0 g ws) q slots → IsSlotOf q w slots
  write_slot ws q slots h =
      let x = h.each w.sig.0 write_driven in
      record { there = omega (arith, inside.there, h.size, ap length grown.signals); sources = x.sources; inside = omega (arith, bits_inside, x.size) }

  module _ (q : Pooled) (now : IsPool q) (since : IsMore q0 q) where
    reads : (i : ℕ) (c : Bit) → i < w.width → Contains (all_need t.pool gs ++ tests_need q w.tests ++ extended (form q g.value.0) (needed q g.value.0) (w.from + i)) c → AssignmentNeeds t.pool g (record { sig = w.sig.0; index = w.low + i }) c
    reads i c lt has =
        let k : ℕ = g.target.0 in
        let aim = aimed k w i target among lt in
        let value : g.value.0 < length t.pool.exprs = begun.readable.1.0.there in
        let all : IsMore t.pool q = more_trans t.pool q0 q grown since in
        let conditions : List Bit = flat_map (λ (x : Guard). needed_whole t.pool x.condition) g.guards in
        let indices : List Bit = needed_indices t.pool k in
        let own : List Bit = needed_value t.pool g.value (fixed_place (aim.aim).spot) in
        let same : extended (form q g.value.0) (needed q g.value.0) (w.from + i) ≡ extended (form t.pool g.value.0) (needed t.pool g.value.0) (w.from + i) =
        ap (λ (f : Form). extended f (needed q g.value.0) (w.from + i)) (form_more t.pool q begun.rules all g.value.0 value)
        ∙ ap (λ (f : ℕ → List Bit). extended (form t.pool g.value.0) f (w.from + i)) (needed_more t.pool q begun.rules all g.value.0 value) in
        record {
          aim = aim.aim;
          may = subst (λ xs. Contains xs aim.aim) (aims_more t.pool q0 begun.rules grown k there) aim.among;
          writes = aim.bit;
          reads =
              ⊎_elim
              (λ left.
              Contains-append_left (conditions ++ indices) own c
              (⊎_elim
              (λ held. Contains-append_left conditions indices c (subst (λ xs. Contains (all_need t.pool xs) c) (sym guards) held))
              (λ tests.
              let one = flat_of (λ (x : Test). needed_whole q x.index) w.tests c tests in
              let test : IsTest q0 one.0 = All-contains (IsTest q0) w.tests one.0 write_tests one.1 in
              Contains-append_right conditions indices c
              (subst (λ xs. Contains xs c) (indices_more t.pool q0 begun.rules grown k there)
              ((tested k w one.0 target among one.1).needs c (subst (λ xs. Contains xs c) (needed_whole_more q0 q rules since (one.0).index test.readable.there) one.2))))
              (Contains-append_cases (all_need t.pool gs) (tests_need q w.tests) c left)))
              (λ value_bits. Contains-append_right (conditions ++ indices) own c (value_needs t.pool g.value (aim.aim).spot (w.from + i) c (has_shape t.pool [] begun.rules (no_numbers t.pool) g.value value) aim.stands (subst (λ xs. Contains xs c) same value_bits)))
              (Contains-append_cases (all_need t.pool gs ++ tests_need q w.tests) (extended (form q g.value.0) (needed q g.value.0) (w.from + i)) c has);
        }

    digits : (env : List ℤ) (i : ℕ) → FitsSignals t.pool env → i < w.width → nat_bit (value_bits t.pool g env) (w.from + i) ≡ int_bit (num q env g.value.0) (w.from + i)
    digits env i fit lt =
        let same : (form q0 g.target.0).width ≡ (form t.pool g.target.0).width = ap (λ (f : Form). f.width) (form_more t.pool q0 begun.rules grown g.target.0 there) in
        bit_pattern (num t.pool env g.value.0) (form t.pool g.target.0).width (w.from + i) (omega (arith, lt, inside.value, same))
        ∙ ap (λ n. int_bit n (w.from + i)) (sym (num_more t.pool q begun.rules (more_trans t.pool q0 q grown since) env g.value.0 begun.readable.1.0.there))

    pub turn : (r : Pooled) (ws : List Write) (slots new : List (List Source)) → IsMore q r → AreSlots (midway t q0 g ws) q slots
        → AreWrittenSlots q r (λ env. all_hold t.pool gs env && tests_hold q w.tests env) (all_need t.pool gs ++ tests_need q w.tests) g.value w slots new → AreSlots (midway t q0 g (ws ++ w ∷ [])) r new
    turn r ws slots new more h written =
        let test : List ℤ → Bool = λ env. all_hold t.pool g.guards env && tests_hold q0 w.tests env in
        let same : (λ (env : List ℤ). all_hold t.pool gs env && tests_hold q w.tests env) ≡ test =
        λ i env. all_hold t.pool (sym guards i) env && tests_hold_more q0 q rules since env w.tests write_tests i in
        let bits : List Bit = all_need t.pool gs ++ tests_need q w.tests in
        let are : AreWrittenSlots q r test bits g.value w slots new = subst (λ f. AreWrittenSlots q r f bits g.value w slots new) same written in
        let own : NeedsItsOwn (midway t q0 g ws) q bits g.value w =
        record { needs = λ comb i c lt has. record { assignment = g; among = Contains-push t.done g; needs = reads i c lt has } } in
        subst (λ (x : SoFar). AreSlots x r new) (sym (midway_more t q0 g ws w))
        (one_write (midway t q0 g ws) q r begun.rules now more test bits g.value w slots new h are (value_bits t.pool g) digits bits_inside write_driven own)
