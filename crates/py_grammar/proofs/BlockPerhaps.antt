-- A thing or nothing, as the line that comes next tells.
use Rattle.std.proofs.Common.{◌≡◌, refl, sym, ap, ◌∙◌, List, [], ◌++◌, Option, Some, None, inl, inr}
use Rattle.std.specs.Prelude.{Bool, true, false}
use Rattle.py_grammar.specs.Blocks.{Line}
use Rattle.py_grammar.specs.Block_reading.{Part, Taken, Stuck, Takes, ◌>>=◌, next_line, maybe}
use Rattle.py_grammar.proofs.Exact.{if_true, if_false}
use Rattle.py_grammar.proofs.BlockParts.{first, Found, first_split, next_first, by_test}

abbrev pub Perhaps_part : {A : Type 0} → (Bool → List Line → A → Type 0) → Bool → List Line → Option A → Type 0
Perhaps_part D cut ls None = ls ≡ []
Perhaps_part D cut ls (Some a) = D cut ls a

module _ {A : Type 0} (D : Bool → List Line → A → Type 0) (test : Line → Bool) (rd : Takes A) where
  abbrev perhaps : Takes (Option A)
  perhaps = maybe (next_line test) rd

  pub maybe_goes : (ls : List Line) → next_line test ls ≡ true → maybe (next_line test) rd ls ≡ (rd ls >>= λ a r. Taken (Some a) r)
  maybe_goes ls h = if_true (next_line test ls) (rd ls >>= λ a r. Taken (Some a) r) (Taken None ls) h

  pub maybe_stops : (ls : List Line) → next_line test ls ≡ false → maybe (next_line test) rd ls ≡ Taken None ls
  maybe_stops ls h = if_false (next_line test ls) (rd ls >>= λ a r. Taken (Some a) r) (Taken None ls) h

  goes_again : (ls front r q : List Line) (b : Bool) → ls ≡ front ++ r → next_line test ls ≡ b → first r ≡ first q → next_line test (front ++ q) ≡ b
  goes_again ls front r q b e h s = sym (next_first test ls (front ++ q) (first_split ls front r q e s)) ∙ h

  found_some : (ls : List Line) → next_line test ls ≡ true → (p : Part A) → Found D rd ls p → Found (Perhaps_part D) perhaps ls (p >>= λ a r. Taken (Some a) r)
  found_some ls h (Taken a r) f = record {
    front = f.front;
    split = f.split;
    derived = f.derived;
    again = λ q s. maybe_goes (f.front ++ q) (goes_again ls f.front r q true f.split h s) ∙ ap (λ p. p >>= λ a r. Taken (Some a) r) (f.again q s);
  }
  found_some ls h (Stuck r) f = record {
    front = f.front;
    split = f.split;
    begun = elim f.begun [ inl e ↦ inl e | inr x ↦ inr (Some x.0, x.1) ];
    again = λ q s. maybe_goes (f.front ++ q) (goes_again ls f.front r q true f.split h s) ∙ ap (λ p. p >>= λ a r. Taken (Some a) r) (f.again q s);
  }

  pub found_maybe : ((ls : List Line) → Found D rd ls (rd ls)) → (ls : List Line) → Found (Perhaps_part D) (maybe (next_line test) rd) ls (maybe (next_line test) rd ls)
  found_maybe found ls =
      by_test (Found (Perhaps_part D) perhaps ls) (next_line test ls) (rd ls >>= λ a r. Taken (Some a) r) (Taken None ls)
      (λ h. found_some ls h (rd ls) (found ls))
      (λ h. record { front = []; split = refl; derived = λ cut. refl; again = λ q s. maybe_stops q (goes_again ls [] ls q false refl h s) })
