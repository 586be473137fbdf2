-- What statements leave in a signal is decided by what was in it.
use Rattle.std.specs.Prelude.{◌≡◌, refl, ℕ, zero, suc, ◌+◌, cond, Bool, true, false, List, [], ◌∷◌, length, slice_set, ℤ, Option, Some, None}
use Rattle.std.proofs.Common.{sym, ◌∙◌, ap, arith}
use Rattle.std.proofs.lemmas.List.{length-set}
use Rattle.amh_bits.specs.Patterns.{pattern, number, nat_bit}
use Rattle.shape_rules.specs.Forms.{Form}
use Rattle.shape_rules.specs.Operators.{is_zero}
use Rattle.design_ir.specs.Circuits.{at}
use Rattle.design_ir.specs.Pools.{Pooled}
use Rattle.design_ir.specs.Put.{put, put_statement, put_choices, put_bits, put_place, with_bit}
use Rattle.design_ir.specs.Targets.{Bit, target_bits}
use Rattle.design_ir.specs.Trees.{Statement, assign, choose, Choices, none, arm, Block, done, next}
use Rattle.design_ir.specs.Values.{num, signal_form}
use Rattle.design_ir.proofs.PutLaws.{put_length}

set_frame : (s : ℕ) (cur other : List ℤ) (x : ℕ) (v w : ℤ) → length cur ≡ length other → at cur s ≡ at other s → (x ≡ s → v ≡ w) → at (slice_set cur x v) s ≡ at (slice_set other x w) s
set_frame s [] [] x v w long same e = refl
set_frame s [] (z ∷ zs) x v w long same e = absurd (omega (arith, long))
set_frame s (y ∷ ys) [] x v w long same e = absurd (omega (arith, long))
set_frame zero (y ∷ ys) (z ∷ zs) zero v w long same e = e refl
set_frame (suc s) (y ∷ ys) (z ∷ zs) zero v w long same e = same
set_frame zero (y ∷ ys) (z ∷ zs) (suc x) v w long same e = same
set_frame (suc s) (y ∷ ys) (z ∷ zs) (suc x) v w long same e = set_frame s ys zs x v w (omega (arith, long)) same (λ h. e (ap suc h))

choice_frame : (s : ℕ) (t : Bool) (a b x y : List ℤ) → at a s ≡ at x s → at b s ≡ at y s → at (cond t a b) s ≡ at (cond t x y) s
choice_frame s true a b x y e h = e
choice_frame s false a b x y e h = h

module _ (p : Pooled) (s : ℕ) where
  -- both have the same in the signal, and as many numbers
  abbrev Same : List ℤ → List ℤ → Type 0
  Same cur other = (length cur ≡ length other) × (at cur s ≡ at other s)

  place_frame : (x : Option Bit) (b : ℕ) (cur other : List ℤ) → Same cur other → at (put_place p x b cur) s ≡ at (put_place p x b other) s
  place_frame None b cur other h = h.1
  place_frame (Some x) b cur other h =
      let f : Form = signal_form p.signals x.sig in
      let written : ℤ → ℤ = λ n. number f.signed f.width (with_bit x.index b (pattern f.width n)) in
      set_frame s cur other x.sig (written (at cur x.sig)) (written (at other x.sig)) h.0 h.1 (λ e. ap (λ k. written (at cur k)) e ∙ ap written h.1 ∙ ap (λ k. written (at other k)) (sym e))

  place_long : (x : Option Bit) (b : ℕ) (cur other : List ℤ) → Same cur other → length (put_place p x b cur) ≡ length (put_place p x b other)
  place_long None b cur other h = h.0
  place_long (Some x) b cur other h = length-set cur x.sig _ ∙ h.0 ∙ sym (length-set other x.sig _)

  bits_frame : (xs : List (Option Bit)) (v i : ℕ) (cur other : List ℤ) → Same cur other → at (put_bits p xs v i cur) s ≡ at (put_bits p xs v i other) s
  bits_frame [] v i cur other h = h.1
  bits_frame (x ∷ xs) v i cur other h =
      bits_frame xs v (i + 1) (put_place p x (nat_bit v i) cur) (put_place p x (nat_bit v i) other) (place_long x (nat_bit v i) cur other h, place_frame x (nat_bit v i) cur other h)

  module _ (env : List ℤ) where
    mutual
      statement_frame : (x : Statement) (cur other : List ℤ) → Same cur other → at (put_statement p env x cur) s ≡ at (put_statement p env x other) s
      statement_frame (assign t v place) cur other h = bits_frame (target_bits p env t.0) (pattern (length (target_bits p env t.0)) (num p env v.0)) 0 cur other h
      statement_frame (choose arms) cur other h = choices_frame arms cur other h

      choices_frame : (arms : Choices) (cur other : List ℤ) → Same cur other → at (put_choices p env arms cur) s ≡ at (put_choices p env arms other) s
      choices_frame none cur other h = h.1
      choices_frame (arm c body others) cur other h =
          choice_frame s (is_zero (num p env c.0)) (put_choices p env others cur) (put p env body cur) (put_choices p env others other) (put p env body other) (choices_frame others cur other h) (put_frame body cur other h)

      pub put_frame : (b : Block) (cur other : List ℤ) → Same cur other → at (put p env b cur) s ≡ at (put p env b other) s
      put_frame done cur other h = h.1
      put_frame (next x rest) cur other h =
          put_frame rest (put_statement p env x cur) (put_statement p env x other)
          (put_length p env (next x done) cur ∙ h.0 ∙ sym (put_length p env (next x done) other), statement_frame x cur other h)
