-- Globals that are gone through beside their names.
use Rattle.std.proofs.Common.{◌≡◌, ℕ, zero, suc, ◌+◌, ◌-◌, ◌<◌, refl, ap, ◌∙◌, sym, subst, Bool, false, List, [], ◌∷◌, length, map, drop, Option, Some, None, arith, add-one}
use Rattle.std.specs.Prelude.{slice_index_or, if◌then◌else◌}
use Rattle.lists.specs.Texts.{text_eq}
use Rattle.py_values.specs.declared.val.Val.{Val}
use Rattle.elab_acts.specs.Tops.{global}

global_at : {A : Type 0} (f : A → List ℕ) (name : List ℕ) (vals : List Val) (names : List A) (i : ℕ) (d : A) (e : Val) → i < length vals → i < length names
    → global name (drop i vals) (map f (drop i names)) ≡ (if text_eq (f (slice_index_or names i d)) name then Some (slice_index_or vals i e) else global name (drop (suc i) vals) (map f (drop (suc i) names)))
global_at f name [] names i d e h1 h2 = absurd (omega arith)
global_at f name (v ∷ vs) [] i d e h1 h2 = absurd (omega arith)
global_at f name (v ∷ vs) (n ∷ ns) zero d e h1 h2 = refl
global_at f name (v ∷ vs) (n ∷ ns) (suc i) d e h1 h2 = global_at f name vs ns i d e (omega arith) (omega arith)

-- another name
pub global_next : {A : Type 0} (f : A → List ℕ) (name : List ℕ) (vals : List Val) (names : List A) (i : ℕ) (x : A) (b : Bool) (o : Option Val) → i < length vals → i < length names
    → x ≡ slice_index_or names i x → b ≡ text_eq (f x) name → b ≡ false → global name (drop i vals) (map f (drop i names)) ≡ o → global name (drop (i + 1) vals) (map f (drop (i + 1) names)) ≡ o
global_next f name [] names i x b o h1 h2 is same other e = absurd (omega arith)
global_next f name (v ∷ vs) names i x b o h1 h2 is same other e =
    let at_i = global_at f name (v ∷ vs) names i x v h1 h2 in
    let differs : text_eq (f (slice_index_or names i x)) name ≡ false = ap (λ y. text_eq (f y) name) (sym is) ∙ sym same ∙ other in
    subst (λ j. global name (drop j (v ∷ vs)) (map f (drop j names)) ≡ o) (sym (add-one i))
    (sym (at_i ∙ ap (λ (c : Bool). if c then Some (slice_index_or (v ∷ vs) i v) else global name (drop (suc i) (v ∷ vs)) (map f (drop (suc i) names))) differs) ∙ e)

pub global_end : (name : List ℕ) (vals : List Val) (names : List (List ℕ)) → length names ≡ 0 → global name vals names ≡ None
global_end name [] [] h = refl
global_end name (v ∷ vs) [] h = refl
global_end name [] (n ∷ ns) h = refl
global_end name (v ∷ vs) (n ∷ ns) h = absurd (omega arith)
