-- The signs of augmented assignments end the expressions before them.
use Rattle.std.proofs.Common.{◌≡◌, ℕ, ◌<◌, refl, sym, ap, subst, ◌∙◌, List, ◌∷◌, ◌++◌, Some, arith, inl, inr}
use Rattle.std.specs.Prelude.{true, false, is_some, codes}
use Rattle.lists.specs.Texts.{text_eq}
use Rattle.amh_host.specs.declared.place.Place.{Place}
use Rattle.py_tree.specs.declared.expr.Operator.{Operator}
use Rattle.py_grammar.specs.declared.word.Word.{Word}
use Rattle.py_grammar.specs.declared.word.Mark.{Mark}
use Rattle.py_grammar.specs.declared.word.Mark.TheVariants as mark
use Rattle.py_grammar.specs.Words.{word, sign_of, valued}
use Rattle.py_grammar.specs.Forms.{One}
use Rattle.py_grammar.specs.Reading.{begins_mark}
use Rattle.py_grammar.specs.Shapes.{augmented_of}
use Rattle.py_grammar.proofs.Exact.{text_same}
use Rattle.py_grammar.proofs.Ends.{sign_rank, Sign_first, if_is_some}

-- ---- signs of augmented assignments

augmented_all : (P : List ℕ → Type 0) → P (codes "+=") → P (codes "-=") → P (codes "*=") → P (codes "//=") → P (codes "%=") → P (codes "&=") → P (codes "|=") → P (codes "^=") → P (codes "<<=") → P (codes ">>=") → (s : List ℕ) → is_some (augmented_of s) ≡ true → P s
augmented_all P a b c d e f g h i j s t = elim (if_is_some (text_eq s (codes "+=")) _ _ t) [
  | inl q ↦ at P s (codes "+=") a q
  | inr t ↦ elim (if_is_some (text_eq s (codes "-=")) _ _ t) [
    | inl q ↦ at P s (codes "-=") b q
    | inr t ↦ elim (if_is_some (text_eq s (codes "*=")) _ _ t) [
      | inl q ↦ at P s (codes "*=") c q
      | inr t ↦ elim (if_is_some (text_eq s (codes "//=")) _ _ t) [
        | inl q ↦ at P s (codes "//=") d q
        | inr t ↦ elim (if_is_some (text_eq s (codes "%=")) _ _ t) [
          | inl q ↦ at P s (codes "%=") e q
          | inr t ↦ elim (if_is_some (text_eq s (codes "&=")) _ _ t) [
            | inl q ↦ at P s (codes "&=") f q
            | inr t ↦ elim (if_is_some (text_eq s (codes "|=")) _ _ t) [
              | inl q ↦ at P s (codes "|=") g q
              | inr t ↦ elim (if_is_some (text_eq s (codes "^=")) _ _ t) [
                | inl q ↦ at P s (codes "^=") h q
                | inr t ↦ elim (if_is_some (text_eq s (codes "<<=")) _ _ t) [
                  | inl q ↦ at P s (codes "<<=") i q
                  | inr t ↦ elim (if_is_some (text_eq s (codes ">>=")) _ _ t) [ inl q ↦ at P s (codes ">>=") j q | inr t ↦ cc ]
                ]
              ]
            ]
          ]
        ]
      ]
    ]
  ]
]
  where
    at : (P : List ℕ → Type 0) (s u : List ℕ) → P u → text_eq s u ≡ true → P s
    at P s u p q = subst P (sym (text_same s u q)) p

-- a sign that ends expressions and is no colon
pub record Ends_first (s : List ℕ) : Type 0 where
  pub after : 11 < sign_rank s
  pub no_comma : text_eq s (codes ",") ≡ false
  pub not_begun : begins_mark (mark.Sign s) ≡ false
  pub no_colon : text_eq s (codes ":") ≡ false

pub augmented_ends : (s : List ℕ) → is_some (augmented_of s) ≡ true → Ends_first s
unfolding begins_mark
augmented_ends = augmented_all Ends_first (ends (omega arith) refl refl refl) (ends (omega arith) refl refl refl) (ends (omega arith) refl refl refl) (ends (omega arith) refl refl refl) (ends (omega arith) refl refl refl) (ends (omega arith) refl refl refl) (ends (omega arith) refl refl refl) (ends (omega arith) refl refl refl) (ends (omega arith) refl refl refl) (ends (omega arith) refl refl refl)
  where
    ends : {s : List ℕ} → 11 < sign_rank s → text_eq s (codes ",") ≡ false → begins_mark (mark.Sign s) ≡ false → text_eq s (codes ":") ≡ false → Ends_first s
    ends a b c d = record { after = a; no_comma = b; not_begun = c; no_colon = d }

pub record Augmented_first (ws : List Word) : Type 0 where
  pub sign : List ℕ
  pub known : is_some (augmented_of sign) ≡ true
  pub first : Sign_first sign ws

augmented_mark : (m : Mark) (o : Operator) → valued sign_of augmented_of m ≡ Some o → (s : List ℕ) × (m ≡ mark.Sign s) × (is_some (augmented_of s) ≡ true)
augmented_mark (mark.Sign s) o h = (s, refl, ap is_some h)
augmented_mark (mark.Name s) o h = cc
augmented_mark (mark.Keyword s) o h = cc
augmented_mark (mark.Number s) o h = cc
augmented_mark (mark.Decimal s) o h = cc
augmented_mark (mark.Str s) o h = cc
augmented_mark (mark.Format s) o h = cc
augmented_mark mark.Other o h = cc

pub augmented_one : (ws : List Word) (x : Place × Operator) (r : List Word) → One (valued sign_of augmented_of) ws x → Augmented_first (ws ++ r)
augmented_one ws x r d = let m = augmented_mark d.mark_is x.1 d.valued in record { sign = m.0; known = m.2; first = record { place = x.0; rest = r; whole = ap (λ z. z ++ r) d.whole ∙ ap (λ z. word z x.0 ∷ r) m.1 } }
