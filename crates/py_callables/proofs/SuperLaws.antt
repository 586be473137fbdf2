-- Whether a class stands over another, base by base.
use Rattle.std.proofs.Common.{◌≡◌, ℕ, zero, suc, ◌==◌, ◌||◌, Bool, true, false, Option, Some, None, refl, ap, ◌∙◌, sym}
use Rattle.py_values.specs.declared.val.Val.{Val}
use Rattle.py_values.specs.declared.val.Val.TheVariants as val
use Rattle.py_values.specs.declared.val.ObjId.{ObjId}
use Rattle.py_heap.specs.Heaps.{Seen, row_at}
use Rattle.py_frames.specs.Values.{stands_over, head_of}

turn : (n : ℕ) (s : Seen) (d c : ObjId) → stands_over (suc n) s (val.Class d) c ≡ ((d.0 == c.0) || stands_over n s (head_of (row_at s d.0)) c)
unfolding stands_over
turn n s d c = refl

pub over_same : (n m : ℕ) (s : Seen) (d c : ObjId) → n ≡ suc m → (d.0 == c.0) ≡ true → stands_over n s (val.Class d) c ≡ true
over_same n m s d c e q = ap (λ (k : ℕ). stands_over k s (val.Class d) c) e ∙ turn m s d c ∙ ap (λ (b : Bool). b || stands_over m s (head_of (row_at s d.0)) c) q

pub over_base : (n m : ℕ) (s : Seen) (d c : ObjId) (base : Val) → n ≡ suc m → (d.0 == c.0) ≡ false → base ≡ head_of (row_at s d.0) → stands_over n s (val.Class d) c ≡ stands_over m s base c
over_base n m s d c base e q h = ap (λ (k : ℕ). stands_over k s (val.Class d) c) e ∙ turn m s d c ∙ ap (λ (z : Bool). z || stands_over m s (head_of (row_at s d.0)) c) q ∙ ap (λ (z : Val). stands_over m s z c) (sym h)

no-turn : (s : Seen) (v : Val) (c : ObjId) → stands_over 0 s v c ≡ false
unfolding stands_over
no-turn s v c = refl

pub over_none : (n : ℕ) (s : Seen) (v : Val) (c : ObjId) → n ≡ 0 → stands_over n s v c ≡ false
over_none n s v c e = ap (λ (k : ℕ). stands_over k s v c) e ∙ no-turn s v c

-- the class that a value is
abbrev pub class_in : Val → Option ObjId
class_in (val.Class d) = Some d
class_in _ = None

pub over_other : (n : ℕ) (s : Seen) (v : Val) (c : ObjId) → class_in v ≡ None → stands_over n s v c ≡ false
unfolding stands_over
over_other zero s v c e = refl
over_other (suc n) s (val.Class d) c e = cc
over_other (suc n) s v c e = refl

pub ruleset over_rules = (over_none, over_other)
