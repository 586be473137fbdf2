-- Parts of a target one after another, and parts past its end.
use Rattle.std.specs.Prelude.{◌≡◌, refl, ℕ, zero, suc, ◌+◌, ◌-◌, ◌*◌, ◌<◌, ◌≤◌, min, max, nat_lt, List, [], ◌∷◌, ◌++◌, map, All, Some, None}
use Rattle.std.specs.List.{flat_map, filter_map, cons_option, range_with_len}
use Rattle.std.proofs.Common.{◌∙◌, ap, arith, append-nil}
use Rattle.std.proofs.lemmas.Bool.{cond-false, le-ltb}
use Rattle.std.proofs.lemmas.Grind.{flat_map-append}
use Rattle.std.proofs.Math.Nat.{mul-le-mul_left}
use Rattle.design_ir.specs.declared.ids.ExprId.{ExprId}
use Rattle.design_ir.specs.Targets.{Numbers}
use Rattle.flat_design.specs.declared.writes.Write.{Write}
use Rattle.flat_design.specs.Pieces.{IsWithin}
use Rattle.flat_design.specs.Writes.{cut, tested, is_number, part_at}

range_push : (a n : ℕ) → range_with_len a (suc n) ≡ range_with_len a n ++ (a + n) ∷ []
range_push a zero = let e : a ≡ a + 0 = omega arith in ap (λ k. k ∷ []) e
range_push a (suc n) = let e : a + 1 + n ≡ a + suc n = omega arith in ap (λ xs. a ∷ xs) (range_push (a + 1) n ∙ ap (λ k. range_with_len (a + 1) n ++ k ∷ []) e)

-- what one number more gives
pub range_more : {A : Type 0} (f : ℕ → List A) (a n : ℕ) → flat_map f (range_with_len a (n + 1)) ≡ flat_map f (range_with_len a n) ++ f (a + n)
range_more f a n =
    let next : n + 1 ≡ suc n = omega arith in
    ap (λ m. flat_map f (range_with_len a m)) next ∙ ap (flat_map f) (range_push a n) ∙ flat_map-append f (range_with_len a n) ((a + n) ∷ []) ∙ ap (λ xs. flat_map f (range_with_len a n) ++ xs) (append-nil (f (a + n)))

cut_past : (wide low width : ℕ) (w : Write) → wide ≤ low → IsWithin wide w → cut low width w ≡ None
cut_past wide low width w past inside =
    cond-false (nat_lt (max w.from low) (min (w.from + w.width) (low + width))) (Some (record w { from = max w.from low - low; low = w.low + (max w.from low - w.from); width = min (w.from + w.width) (low + width) - max w.from low })) None
    (le-ltb (max w.from low) (min (w.from + w.width) (low + width)) (omega (arith, past, inside)))

all_past : (wide low width : ℕ) (ws : List Write) → wide ≤ low → All (IsWithin wide) ws → filter_map (cut low width) ws ≡ []
all_past wide low width [] past inside = refl
all_past wide low width (w ∷ ws) past inside =
    ap (λ o. cons_option o (filter_map (cut low width) ws)) (cut_past wide low width w past (inside zero w (omega arith))) ∙ all_past wide low width ws past (λ k d h. inside (suc k) d (omega (arith, h)))

-- past the end of the target there is no part
pub part_past : (n : Numbers) (offset : ExprId) (wide width stride : ℕ) (whole : List Write) (o : ℕ) → 0 < stride → wide ≤ o → All (IsWithin wide) whole → part_at n offset width stride whole o ≡ []
part_past n offset wide width stride whole o some past inside =
    let far : o ≤ o * stride = omega (arith, mul-le-mul_left o (let one : 1 ≤ stride = omega (arith, some) in one)) in
    ap (map (tested n (is_number offset o))) (all_past wide (o * stride) width whole (omega (arith, past, far)) inside)
