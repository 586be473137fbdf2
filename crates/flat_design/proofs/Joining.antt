-- One expression for the bits of several.
use Rattle.std.specs.Prelude.{◌≡◌, refl, ℕ, ◌+◌, ◌-◌, ◌*◌, ◌^◌, ◌<◌, ◌≤◌, Bool, true, false, not, List, [], ◌∷◌, ◌++◌, length, take, drop, slice_get, ℤ, Some, Contains}
use Rattle.std.specs.List.{list_any}
use Rattle.std.proofs.Common.{sym, ◌∙◌, ap, arith, subst, ⊎_elim, length-take, length-drop, append-nil}
use Rattle.std.proofs.lemmas.Bool.{cond_below, cond_above, cases_lt, false≢true}
use Rattle.std.proofs.lemmas.List.{take-append-le, drop-append-le, take-append-drop}
use Rattle.std.proofs.Math.Seq.{take-length, drop-length}
use Rattle.std.proofs.Math.Nat.{mul_comm}
use Rattle.amh_bits.specs.Patterns.{pattern, nat_bit}
use Rattle.amh_bits.specs.Integers.{floor_quotient}
use Rattle.amh_bits.proofs.BitsOf.{bit_pattern, int_bit_down, nat_bit_mod, nat_bit_joined_low, nat_bit_joined_high}
use Rattle.amh_bits.proofs.Wraps.{pattern_below}
use Rattle.shape_rules.specs.Forms.{Form, unsigned}
use Rattle.design_ir.specs.declared.ids.ExprId.{ExprId}
use Rattle.design_ir.specs.declared.expr.Expr.{Expr}
use Rattle.design_ir.specs.declared.expr.Expr.TheVariants.{Slice, Cat}
use Rattle.design_ir.specs.Named.{AllBelow}
use Rattle.design_ir.specs.Pools.{Pooled}
use Rattle.design_ir.specs.PoolRules.{IsPool}
use Rattle.design_ir.specs.Values.{form, num, joined, total_width, bits_from}
use Rattle.design_ir.specs.Targets.{Bit}
use Rattle.design_ir.specs.Needed.{needed, joined_bits}
use Rattle.design_ir.specs.Designs.{holds_reset}
use Rattle.design_ir.proofs.Elements.{get_take, get_drop, some_is}
use Rattle.design_ir.proofs.Equations.{place_below}
use Rattle.design_ir.proofs.NumbersFit.{element}
use Rattle.flat_design.specs.declared.sources.Source.{Source}
use Rattle.flat_design.specs.Growing.{IsMore}
use Rattle.flat_design.specs.Sources.{IsSource, IsJoined, source_bit, source_needs}
use Rattle.flat_design.specs.Adding.{IsAdded, IsRun, IsPart, AreParts}
use Rattle.flat_design.proofs.Growing.{readable_more, form_more, needed_more, source_more, bit_more, source_bit_more, source_needs_more}
use Rattle.flat_design.proofs.Added.{added_readable, added_form, added_num, added_needs}

-- ---- where the pool grows
module _ (p q : Pooled) (rules : IsPool p) (more : IsMore p q) where
  pub joined_more : (xs : List Source) (e : ExprId) → ((j : ℕ) (x : Source) → slice_get xs j ≡ Some x → IsSource p x) → IsJoined p xs e → IsJoined q xs e
  joined_more xs e sources h = record {
    readable = readable_more p q rules more e h.readable;
    shape = form_more p q rules more e.0 h.readable.there ∙ h.shape;
    bits = λ env j x is. bit_more p q rules more env e j h.readable.there ∙ h.bits env j x is ∙ sym (source_bit_more p q rules more env x (sources j x is));
    needs = λ j x c is n. rw (source_needs_more p q rules more x (sources j x is)) (h.needs j x c is (subst (λ (f : ℕ → List Bit). Contains (f j) c) (needed_more p q rules more e.0 h.readable.there) n));
  }

  pub part_more : (xs : List Source) (e : ExprId) → IsPart p xs e → IsPart q xs e
  part_more xs e h = record { sources = λ j x is. source_more p q rules more x (h.sources j x is); joined = joined_more xs e h.sources h.joined }

  pub parts_more : (xs : List Source) (es : List ExprId) → AreParts p xs es → AreParts q xs es
  parts_more xs [] h = h
  parts_more xs (e ∷ es) h =
      rw (form_more p q rules more e.0 h.0.joined.readable.there)
      (part_more (take (form p e.0).width xs) e h.0, parts_more (drop (form p e.0).width xs) es h.1)

-- ---- one part more

-- a part is as wide as it has sources
part_width : (p : Pooled) (n : ℕ) (xs : List Source) (e : ExprId) → IsPart p (take n xs) e → (form p e.0).width ≡ n → n ≤ length xs
part_width p n xs e h is = omega (arith, is, ap (λ (f : Form). f.width) h.joined.shape, length-take n xs)

pub parts_push : (p : Pooled) (xs ys : List Source) (es : List ExprId) (e : ExprId) → AreParts p xs es → IsPart p ys e → AreParts p (xs ++ ys) (es ++ e ∷ [])
parts_push p xs ys [] e none h =
    let w : (form p e.0).width ≡ length ys = ap (λ (f : Form). f.width) h.joined.shape in
    rw (none, w) (rw (take-length ys) h, drop-length ys)
parts_push p xs ys (d ∷ es) e parts h =
    let w : ℕ = (form p d.0).width in
    let le : w ≤ length xs = part_width p w xs d parts.0 refl in
    rw (take-append-le w xs ys le, drop-append-le w xs ys le) (parts.0, parts_push p (drop w xs) ys es e parts.1 h)

-- ---- parts one above the other

pub parts_width : (p : Pooled) (xs : List Source) (es : List ExprId) → AreParts p xs es → total_width (form p) es ≡ length xs
parts_width p xs [] h = ap length (sym h)
parts_width p xs (e ∷ es) h =
    let w : ℕ = (form p e.0).width in
    omega (arith, parts_width p (drop w xs) es h.1, length-drop w xs, part_width p w xs e h.0 refl)

pub parts_below : (p : Pooled) (xs : List Source) (es : List ExprId) → AreParts p xs es → AllBelow (length p.exprs) es
parts_below p xs [] h = tt
parts_below p xs (e ∷ es) h = (h.0.joined.readable.there, parts_below p (drop (form p e.0).width xs) es h.1)

pub parts_resolved : (p : Pooled) (xs : List Source) (es : List ExprId) → AreParts p xs es → list_any (λ (e : ExprId). holds_reset p e.0) es ≡ false
parts_resolved p xs [] h = refl
parts_resolved p xs (e ∷ es) h = rw h.0.joined.readable.resolved (parts_resolved p (drop (form p e.0).width xs) es h.1)

-- one part alone is of all sources
parts_one : (p : Pooled) (xs : List Source) (e : ExprId) → AreParts p xs (e ∷ []) → IsJoined p xs e
parts_one p xs e h =
    let w : ℕ = (form p e.0).width in
    let all : take w xs ≡ xs = sym (append-nil (take w xs)) ∙ ap (λ ys. take w xs ++ ys) (sym h.1) ∙ take-append-drop w xs in
    subst (λ ys. IsJoined p ys e) all h.0.joined

pub one_joined : (p : Pooled) (xs : List Source) (es : List ExprId) (e : ExprId) → length es ≡ 1 → slice_get es 0 ≡ Some e → AreParts p xs es → IsJoined p xs e
one_joined p xs [] e one at parts = absurd (omega (arith, one))
one_joined p xs (d ∷ []) e one at parts = subst (IsJoined p xs) (some_is d e at) (parts_one p xs d parts)
one_joined p xs (d ∷ d' ∷ es) e one at parts = absurd (omega (arith, one))

joined_low : (low high width k : ℕ) → low < 2 ^ width → k < width → nat_bit (low + 2 ^ width * high) k ≡ nat_bit low k
joined_low low high width k small h =
    let e : low + 2 ^ width * high ≡ high * 2 ^ width + low = omega (arith, mul_comm high (2 ^ width)) in
    ap (λ n. nat_bit n k) e ∙ nat_bit_joined_low (record { width = width; bits = low }) (record { width = 0; bits = high }) k small h

joined_high : (low high width k : ℕ) → low < 2 ^ width → width ≤ k → nat_bit (low + 2 ^ width * high) k ≡ nat_bit high (k - width)
joined_high low high width k small h =
    let e : low + 2 ^ width * high ≡ high * 2 ^ width + low = omega (arith, mul_comm high (2 ^ width)) in
    let i : k ≡ width + (k - width) = omega arith in
    ap (λ n. nat_bit n k) e
    ∙ ap (nat_bit (high * 2 ^ width + low)) i
    ∙ nat_bit_joined_high (record { width = width; bits = low }) (record { width = 0; bits = high }) (k - width) small

in_rest : {A : Type 0} (w : ℕ) (xs : List A) (j : ℕ) (x : A) → w ≤ j → slice_get xs j ≡ Some x → slice_get (drop w xs) (j - w) ≡ Some x
in_rest w xs j x ge is = get_drop w xs (j - w) ∙ ap (slice_get xs) (let e : w + (j - w) ≡ j = omega arith in e) ∙ is

-- the source at a place is that of one of the parts
pub parts_bit : (p : Pooled) (env : List ℤ) (xs : List Source) (es : List ExprId) (j : ℕ) (x : Source) → AreParts p xs es → slice_get xs j ≡ Some x → nat_bit (joined (form p) (num p env) es) j ≡ source_bit p env x
parts_bit p env xs [] j x h is = let none : slice_get [] j ≡ Some x = subst (λ ys. slice_get ys j ≡ Some x) h is in cc
parts_bit p env xs (e ∷ es) j x h is =
    let w : ℕ = (form p e.0).width in
    let n : ℕ = pattern w (num p env e.0) in
    let rest : ℕ = joined (form p) (num p env) es in
    ⊎_elim
    (λ (lt : j < w). joined_low n rest w j (pattern_below w (num p env e.0)) lt ∙ h.0.joined.bits env j x (get_take w xs j x lt is))
    (λ (ge : w ≤ j). joined_high n rest w j (pattern_below w (num p env e.0)) ge ∙ parts_bit p env (drop w xs) es (j - w) x h.1 (in_rest w xs j x ge is))
    (cases_lt j w)

pub parts_need : (p : Pooled) (xs : List Source) (es : List ExprId) (j : ℕ) (x : Source) (c : Bit) → AreParts p xs es → slice_get xs j ≡ Some x → Contains (joined_bits (form p) (needed p) es j) c → Contains (source_needs p x) c
parts_need p xs [] j x c h is n = let none : slice_get [] j ≡ Some x = subst (λ ys. slice_get ys j ≡ Some x) h is in cc
parts_need p xs (e ∷ es) j x c h is n =
    let w : ℕ = (form p e.0).width in
    let mine : List Bit = needed p e.0 j in
    let rest : List Bit = joined_bits (form p) (needed p) es (j - w) in
    ⊎_elim
    (λ (lt : j < w). h.0.joined.needs j x c (get_take w xs j x lt is) (subst (λ bs. Contains bs c) (sym (cond_below j w mine rest lt)) n))
    (λ (ge : w ≤ j). parts_need p (drop w xs) es (j - w) x c h.1 (in_rest w xs j x ge is) (subst (λ bs. Contains bs c) (sym (cond_above j w mine rest rest ge refl)) n))
    (cases_lt j w)

pub cat_joined : (p : Pooled) (xs : List Source) (es : List ExprId) (id : ExprId) → IsPool p → AreParts p xs es → IsAdded p (Cat es) id → IsJoined p xs id
cat_joined p xs es id rules parts h =
    let shape : form p id.0 ≡ unsigned (length xs) = added_form p (Cat es) id rules h ∙ ap unsigned (parts_width p xs es parts) in
    record {
      readable = added_readable p (Cat es) id h;
      shape = shape;
      bits = λ env j x is.
          ap (λ (f : Form). nat_bit (pattern f.width (num p env id.0)) j) shape
          ∙ ap (λ n. nat_bit (pattern (length xs) n) j) (added_num p (Cat es) id env rules h)
          ∙ nat_bit_mod (joined (form p) (num p env) es) (length xs) j (place_below xs j x is)
          ∙ parts_bit p env xs es j x parts is;
      needs = λ j x c is n. parts_need p xs es j x c parts is (subst (λ (f : ℕ → List Bit). Contains (f j) c) (added_needs p (Cat es) id rules h) n);
    }

-- ---- one part

pub plain_shape : (w n : ℕ) (signed : Bool) (f g : Form) → not signed ≡ true → w ≡ n → record { width = w; signed = signed } ≡ f → f ≡ g → g ≡ unsigned n
plain_shape w n false f g plain is view made = sym made ∙ sym view ∙ ap unsigned is
plain_shape w n true f g plain is view made = absurd (false≢true plain)

pub slice_part : (p : Pooled) (xs : List Source) (x : Source) (id : ExprId) → IsPool p → IsRun xs → ((j : ℕ) (y : Source) → slice_get xs j ≡ Some y → IsSource p y) → slice_get xs 0 ≡ Some x → IsAdded p (Slice x.expr x.bit (length xs)) id → IsPart p xs id
slice_part p xs x id rules run sources first h =
    let slice : Expr = Slice x.expr x.bit (length xs) in
    let shape : form p id.0 ≡ unsigned (length xs) = added_form p slice id rules h in
    record {
      sources = sources;
      joined = record {
        readable = added_readable p slice id h;
        shape = shape;
        bits = λ env j y is.
            let lt : j < length xs = place_below xs j y is in
            let n : ℤ = num p env x.expr.0 in
            let at : Source = record { expr = x.expr; bit = x.bit + j } in
            let same : y ≡ at = run j x y first is in
            let source : IsSource p at = subst (IsSource p) same (sources j y is) in
            ap (λ (f : Form). nat_bit (pattern f.width (num p env id.0)) j) shape
            ∙ ap (λ z. nat_bit (pattern (length xs) z) j) (added_num p slice id env rules h)
            ∙ nat_bit_mod (bits_from x.bit (length xs) n) (length xs) j lt
            ∙ bit_pattern (floor_quotient n (2 ^ x.bit)) (length xs) j lt
            ∙ int_bit_down n x.bit j
            ∙ sym (bit_pattern n (form p x.expr.0).width (x.bit + j) source.inside)
            ∙ ap (source_bit p env) (sym same);
        needs = λ j y c is n.
            subst (λ z. Contains (source_needs p z) c) (sym (run j x y first is))
            (subst (λ (f : ℕ → List Bit). Contains (f j) c) (added_needs p slice id rules h) n);
      };
    }

-- a run ends within its expression
pub run_inside : (p : Pooled) (xs : List Source) (x : Source) → IsRun xs → ((j : ℕ) (y : Source) → slice_get xs j ≡ Some y → IsSource p y) → slice_get xs 0 ≡ Some x → x.bit + length xs ≤ (form p x.expr.0).width
run_inside p xs x run sources first =
    let n : ℕ = length xs - 1 in
    let some = place_below xs 0 x first in
    let last = element xs n (omega (arith, some)) in
    let inside = (subst (IsSource p) (run n x last.0 first last.1) (sources n last.0 last.1)).inside in
    omega (arith, inside, some)

pub whole_part : (p : Pooled) (xs : List Source) (x : Source) → IsRun xs → ((j : ℕ) (y : Source) → slice_get xs j ≡ Some y → IsSource p y) → slice_get xs 0 ≡ Some x → form p x.expr.0 ≡ unsigned (length xs) → IsPart p xs x.expr
whole_part p xs x run sources first is =
    let from_low : (j : ℕ) (y : Source) → slice_get xs j ≡ Some y → y ≡ record { expr = x.expr; bit = j } =
    λ j y at. run j x y first at ∙ ap (λ k. record { expr = x.expr; bit = k }) (let e : x.bit + j ≡ j = omega (arith, run_inside p xs x run sources first, ap (λ (f : Form). f.width) is) in e) in
    record {
      sources = sources;
      joined = record {
        readable = (sources 0 x first).readable;
        shape = is;
        bits = λ env j y at. ap (source_bit p env) (sym (from_low j y at));
        needs = λ j y c at n. subst (λ z. Contains (source_needs p z) c) (sym (from_low j y at)) n;
      };
    }
