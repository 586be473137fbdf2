-- Statements one after another that are derived are read.
use Rattle.std.proofs.Common.{◌≡◌, ℕ, ◌<◌, ◌≤◌, suc, zero, refl, sym, ap, subst, ◌∙◌, List, [], ◌∷◌, ◌++◌, append_assoc, length, length-append, arith}
use Rattle.std.specs.Prelude.{Bool, true, false, codes}
use Rattle.py_tree.specs.Steps.{Step, Steps, last, next, steps}
use Rattle.py_grammar.specs.Blocks.{Line, Around, Statement, Statements, the_last, and_more}
use Rattle.py_grammar.specs.Block_reading.{Part, Taken, Takes, ◌>>=◌, Form, Inner, stays, repeat, statement, statements}
use Rattle.py_grammar.proofs.BlockParts.{left, left_bind, append_nothing}
use Rattle.py_grammar.proofs.BlockLoops.{repeat_stops, repeat_goes}
use Rattle.py_grammar.proofs.BlockLines.{Exact_form}
use Rattle.py_grammar.proofs.BlockSuites.{Begins, Knows_blocks}
use Rattle.py_grammar.proofs.BlockStarts.{starts_begins, begins_long, begins_stays, begins_not_deeper, starts_elif, starts_else, leaves_next, leaves_not_deeper}
use Rattle.py_grammar.proofs.BlockFurther.{Ends_statement}
use Rattle.py_grammar.proofs.BlockStatementRead.{Starts_statement, starts_more, statement_starts, knows_statement}
use Rattle.py_grammar.proofs.BlockBodies.{found_statements}

-- the statements that follow others
abbrev pub follow : List Step → Steps → Steps
follow [] ss = ss
follow (x ∷ xs) ss = next x (follow xs ss)

steps_follow : (xs : List Step) → steps xs ≡ follow xs last
steps_follow [] = refl
steps_follow (x ∷ xs) = ap (next x) (steps_follow xs)

follow_one : (xs : List Step) (x : Step) (ss : Steps) → follow (xs ++ x ∷ []) ss ≡ follow xs (next x ss)
follow_one [] x ss = refl
follow_one (y ∷ xs) x ss = ap (next y) (follow_one xs x ss)

-- lines left of an indent, and lines with which a statement begins, go on with no statement before them
leaves_ends : (indent : ℕ) (r : List Line) → stays indent r ≡ false → Ends_statement indent r
leaves_ends indent r h = record { not_deeper = leaves_not_deeper indent r h; no_elif = leaves_next indent (codes "elif") r h; no_else = leaves_next indent (codes "else") r h }

starts_ends : (form : Form) → Exact_form form → (indent : ℕ) (ls : List Line) → Starts_statement form indent ls → Ends_statement indent ls
starts_ends form exact indent ls s = subst (Ends_statement indent) (append_nothing ls) (record {
  not_deeper = begins_not_deeper indent ls [] (starts_begins form indent ls s.stands_for s.starts);
  no_elif = starts_elif form exact indent ls s.stands_for s.starts [] ∙ s.no_elif;
  no_else = starts_else form exact indent ls s.stands_for s.starts [] ∙ s.no_else;
})

module _ (form : Form) (exact : Exact_form form) (B : Around → ℕ → Bool → List Line → Steps → Type 0) (inner : Inner) (knows : Knows_blocks B inner) (around : Around) (indent : ℕ) where
  abbrev one : Takes Step
  one = statement form inner around indent

  abbrev goes : List Line → Bool
  goes = stays indent

  abbrev reads : ℕ → List Step → Takes Steps
  reads n xs ls = repeat goes one n xs ls >>= λ ys q. Taken (steps ys) q

  starts_statements : (cut : Bool) (ls : List Line) (ss : Steps) → Statements B around indent cut ls ss → Starts_statement form indent ls
  starts_statements cut ls ss (the_last {s = s} d) = statement_starts form exact B inner knows around indent cut ls s d
  starts_statements cut ls ss (and_more {front = front} {back = back} {s = s} d ds) = starts_more form indent front back (statement_starts form exact B inner knows around indent false front s d)

  pub statements_begin : (cut : Bool) (ls : List Line) (ss : Steps) → Statements B around indent cut ls ss → Begins indent ls
  statements_begin cut ls ss d = let st = starts_statements cut ls ss d in starts_begins form indent ls st.stands_for st.starts

  turn : (P : Part Steps → Type 0) (n : ℕ) (xs : List Step) (ls : List Line) → goes ls ≡ true → 0 < length ls → length ls ≤ n → ((m : ℕ) → length ls ≤ suc m → P ((one ls >>= λ x r. repeat goes one m (xs ++ x ∷ []) r) >>= λ ys q. Taken (steps ys) q)) → P (reads n xs ls)
  turn P zero xs ls h long less rest = absurd (omega arith)
  turn P (suc n) xs ls h long less rest = subst (λ t. P (t >>= λ ys q. Taken (steps ys) q)) (sym (repeat_goes goes one n xs ls h)) (rest n less)

  -- one that is whole, with lines behind it that do not go on with it
  one_more : (P : Part Steps → Type 0) (cut : Bool) (front : List Line) (s : Step) → Statement B around indent false front s → (r : List Line) → Ends_statement indent r → (n : ℕ) (xs : List Step) → length (front ++ r) ≤ n → ((m : ℕ) → length r ≤ m → P (reads m (xs ++ s ∷ []) r)) → P (reads n xs (front ++ r))
  one_more P cut front s d r ends n xs less rest =
      let st = statement_starts form exact B inner knows around indent false front s d in
      let b = starts_begins form indent front st.stands_for st.starts in
      let long : 0 < length front = begins_long indent front b in
      turn P n xs (front ++ r) (begins_stays indent front r b) (omega (arith, length-append front r)) less
      (λ m short. subst (λ t. P ((t >>= λ x r. repeat goes one m (xs ++ x ∷ []) r) >>= λ ys q. Taken (steps ys) q)) (sym ((knows_statement form exact B inner knows around indent).complete front s r d ends)) (rest m (omega (arith, length-append front r))))

  statements_complete : (cut : Bool) (ls : List Line) (ss : Steps) → Statements B around indent cut ls ss → cut ≡ false → (r : List Line) → goes r ≡ false → (n : ℕ) (xs : List Step) → length (ls ++ r) ≤ n → reads n xs (ls ++ r) ≡ Taken (follow xs ss) r
  statements_complete cut ls ss (the_last {s = s} d) c r h n xs less =
      one_more (λ t. t ≡ Taken (follow xs (next s last)) r) cut ls s (subst (λ c. Statement B around indent c ls s) c d) r (leaves_ends indent r h) n xs less
      (λ m short. ap (λ t. t >>= λ ys q. Taken (steps ys) q) (repeat_stops goes one m (xs ++ s ∷ []) r h) ∙ ap (λ z. Taken z r) (steps_follow (xs ++ s ∷ []) ∙ follow_one xs s last))
  statements_complete cut ls ss (and_more {front = front} {back = back} {s = s} {ss = us} d ds) c r h n xs less =
      ap (reads n xs) (append_assoc front back r)
      ∙ one_more (λ t. t ≡ Taken (follow xs (next s us)) r) cut front s d (back ++ r) (starts_ends form exact indent (back ++ r) (starts_more form indent back r (starts_statements cut back us ds))) n xs (subst (λ z. length z ≤ n) (append_assoc front back r) less)
      (λ m short. statements_complete cut back us ds c r h m (xs ++ s ∷ []) short ∙ ap (λ z. Taken z r) (follow_one xs s us))

  reads_end : (m : ℕ) (xs : List Step) → left (repeat goes one m xs []) ≡ []
  reads_end m xs = ap left (repeat_stops goes one m xs [] refl)

  statements_cut : (cut : Bool) (ls : List Line) (ss : Steps) → Statements B around indent cut ls ss → cut ≡ true → (n : ℕ) (xs : List Step) → length ls ≤ n → left (reads n xs ls) ≡ []
  statements_cut cut ls ss (the_last {s = s} d) c n xs less =
      let b = statements_begin cut ls (next s last) (the_last d) in
      turn (λ t. left t ≡ []) n xs ls (ap goes (sym (append_nothing ls)) ∙ begins_stays indent ls [] b) (begins_long indent ls b) less
      (λ m short. left_bind (one ls >>= λ x r. repeat goes one m (xs ++ x ∷ []) r) (λ ys q. Taken (steps ys) q)
      (left_bind (one ls) (λ x r. repeat goes one m (xs ++ x ∷ []) r) ((knows_statement form exact B inner knows around indent).cut ls s (subst (λ c. Statement B around indent c ls s) c d)) (λ x. reads_end m (xs ++ x ∷ [])))
      (λ ys. refl))
  statements_cut cut ls ss (and_more {front = front} {back = back} {s = s} {ss = us} d ds) c n xs less =
      one_more (λ t. left t ≡ []) cut front s d back (starts_ends form exact indent back (starts_statements cut back us ds)) n xs less
      (λ m short. statements_cut cut back us ds c m (xs ++ s ∷ []) short)

-- a reader of statements reads blocks, where the reader of the blocks within does
pub knows_blocks : (form : Form) → Exact_form form → (B : Around → ℕ → Bool → List Line → Steps → Type 0) (inner : Inner) → Knows_blocks B inner → Knows_blocks (Statements B) (statements form inner)
unfolding statements
knows_blocks form exact B inner knows = record {
  found = found_statements form exact B inner knows;
  complete = λ a i ls b r d h. statements_complete form exact B inner knows a i false ls b d refl r h (length (ls ++ r)) [] (omega arith);
  cut = λ a i ls b d. statements_cut form exact B inner knows a i true ls b d refl (length ls) [] (omega arith);
  begins = λ a i cut ls b d. statements_begin form exact B inner knows a i cut ls b d;
}
