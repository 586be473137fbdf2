-- The ends of lines.
use Rattle.std.proofs.Common.{◌≡◌, ◌≢◌, ℕ, suc, true, false, ◌&&◌, List, [], ◌∷◌, take, sym, subst, cond, slice_index}
use Rattle.std.specs.Prelude.{nat_lt, ◌==◌}
use Rattle.std.proofs.lemmas.Bool.{cond_both, eqb-true, and_parts}
use Rattle.py_lexer.specs.Characters.{line_end, ends_line, line_width}
use Rattle.py_lexer.specs.Grammar.{IsLineEnd, feed, return_feed, HasNoLineEnd}

-- a line ends in LF or CR LF
pub line_ends : (cs : List ℕ) → ends_line cs ≡ true → IsLineEnd (take (line_end cs) cs)
line_ends cs =
    let P : ℕ → Type 0 = λ n. nat_lt 0 n ≡ true → IsLineEnd (take n cs) in
    cond_both (slice_index cs 0 == 10) 1 (cond ((slice_index cs 0 == 13) && (slice_index cs 1 == 10)) 2 0) P
    (λ e _. one cs (eqb-true _ _ e))
    (λ _. cond_both ((slice_index cs 0 == 13) && (slice_index cs 1 == 10)) 2 0 P (λ e _. let both = and_parts _ _ e in two cs (eqb-true _ _ both.0) (eqb-true _ _ both.1)) (λ _ e. cc))
  where
    one : (cs : List ℕ) → slice_index cs 0 ≡ 10 → IsLineEnd (take 1 cs)
    one [] e = cc
    one (c ∷ cs) e = subst (λ x. IsLineEnd (x ∷ [])) (sym e) feed

    two : (cs : List ℕ) → slice_index cs 0 ≡ 13 → slice_index cs 1 ≡ 10 → IsLineEnd (take 2 cs)
    two [] e f = cc
    two (c ∷ []) e f = cc
    two (c ∷ d ∷ cs) e f = subst (λ x. IsLineEnd (x ∷ d ∷ [])) (sym e) (subst (λ y. IsLineEnd (13 ∷ y ∷ [])) (sym f) return_feed)

-- no line feed stands where no line ends
pub no_feed : (c : ℕ) (cs : List ℕ) → ends_line (c ∷ cs) ≡ false → c ≢ 10
no_feed c cs e is = let at : ends_line (10 ∷ cs) ≡ false = subst (λ x. ends_line (x ∷ cs) ≡ false) is e in cc

-- a comment stays in its line
pub comment_stays : (cs : List ℕ) → HasNoLineEnd (take (line_width cs) cs)
unfolding line_width
comment_stays [] = tt
comment_stays (c ∷ cs) =
    cond_both (ends_line (c ∷ cs)) 0 (suc (line_width cs)) (λ n. HasNoLineEnd (take n (c ∷ cs))) (λ _. tt) (λ e. (no_feed c cs e, comment_stays cs))
