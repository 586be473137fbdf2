-- A statement that is derived is read, with its block.
use Rattle.std.proofs.Common.{◌≡◌, ℕ, refl, sym, ap, subst, ◌∙◌, List, [], ◌∷◌, ◌++◌, append_assoc, length, Option, Some, None, inl, inr, arith}
use Rattle.std.specs.Prelude.{Bool, true, false}
use Rattle.amh_host.specs.declared.place.Place.{Place}
use Rattle.py_tree.specs.Tree.{Tree}
use Rattle.py_tree.specs.Steps.{Step, If, Steps, Branches, no_branch, branch, Otherwise, nothing_else}
use Rattle.py_grammar.specs.declared.word.Word.{Word}
use Rattle.py_grammar.specs.Shapes.{Head, IfHead, LineForm, Simple, Headed}
use Rattle.py_grammar.specs.Blocks.{Line, Around, step_of_head, Headed_block, One_line, Further, no_further, Choice, if_cut, if_whole, Statement}
use Rattle.py_grammar.specs.Block_reading.{Taken, Takes, Form, Inner, is_deeper, choice, of_form, statement}
use Rattle.py_grammar.proofs.BlockParts.{left, Knows, append_nothing}
use Rattle.py_grammar.proofs.BlockLines.{Exact_form, is_elif, is_else, stands_form, by_line, by_line_formed}
use Rattle.py_grammar.proofs.BlockSuites.{Knows_blocks}
use Rattle.py_grammar.proofs.BlockHeads.{head_complete, head_cut}
use Rattle.py_grammar.proofs.BlockStarts.{Starts, headed_starts}
use Rattle.py_grammar.proofs.BlockFurther.{Ends_statement, further_not_deeper, further_complete, further_cut}
use Rattle.py_grammar.proofs.BlockStatements.{Sort, an_if, makes, follows, sort, found_statement}

-- the first line of a statement, which is no `elif` or `else`
pub record Starts_statement (form : List Word → Option LineForm) (indent : ℕ) (ls : List Line) : Type 0 where
  pub stands_for : LineForm
  pub starts : Starts form indent ls stands_for
  pub no_elif : is_elif stands_for ≡ false
  pub no_else : is_else stands_for ≡ false

pub starts_more : (form : Form) (indent : ℕ) (ls r : List Line) → Starts_statement form indent ls → Starts_statement form indent (ls ++ r)
starts_more form indent ls r s = record {
  stands_for = s.stands_for;
  starts = record { line = s.starts.line; rest = s.starts.rest ++ r; whole = ap (λ z. z ++ r) s.starts.whole; at = s.starts.at; formed = s.starts.formed };
  no_elif = s.no_elif;
  no_else = s.no_else;
}

module _ (form : Form) (exact : Exact_form form) (B : Around → ℕ → Bool → List Line → Steps → Type 0) (inner : Inner) (knows : Knows_blocks B inner) (around : Around) (indent : ℕ) where
  abbrev reads : Takes Step
  reads = by_line form around indent (of_form form inner around indent)

  -- ---- a statement of one line

  one_reads : (ls : List Line) (s : Step) (d : One_line around indent ls s) (r : List Line) → reads (ls ++ r) ≡ Taken s r
  one_reads ls s d r =
      ap (λ z. reads (z ++ r)) d.whole
      ∙ by_line_formed form around indent (of_form form inner around indent) d.line r (Simple (s, d.noted)) (stands_form form around indent d.line (Simple (s, d.noted)) (record { at = d.at; formed = exact.complete d.line.words (Simple (s, d.noted)) d.form; fits = d.fits }))

  -- ---- a head and its block

  compound_complete : (h : Head) → Sort form inner around indent h → (ls : List Line) (body : Steps) (s : Step) (r : List Line) → Headed_block B around indent false ls (h, body) → step_of_head h body ≡ Some s → is_deeper indent r ≡ false → reads (ls ++ r) ≡ Taken s r
  compound_complete h (an_if p e) ls body s r d is nd = cc
  compound_complete h (makes m) ls body s r d is nd =
      let made : m.make body ≡ s = (let e : Some (m.make body) ≡ Some s = sym (m.is body) ∙ is in cc) in
      head_complete form exact B inner knows around indent Step (of_form form inner around indent) h (λ b r. Taken (m.make b) r) (λ here noted behind q. m.same here behind q) ls body r d nd ∙ ap (λ z. Taken z r) made
  compound_complete h (follows f) ls body s r d is nd = let e : None ≡ Some s = sym (f.none body) ∙ is in cc

  compound_cut : (h : Head) → Sort form inner around indent h → (ls : List Line) (body : Steps) (s : Step) → Headed_block B around indent true ls (h, body) → step_of_head h body ≡ Some s → left (reads ls) ≡ []
  compound_cut h (an_if p e) ls body s d is = cc
  compound_cut h (makes m) ls body s d is = head_cut form exact B inner knows around indent Step (of_form form inner around indent) h (λ b r. Taken (m.make b) r) (λ here noted behind q. m.same here behind q) ls body d (λ b. refl)
  compound_cut h (follows f) ls body s d is = let e : None ≡ Some s = sym (f.none body) ∙ is in cc

  compound_starts : (h : Head) → Sort form inner around indent h → (cut : Bool) (ls : List Line) (body : Steps) (s : Step) → Headed_block B around indent cut ls (h, body) → step_of_head h body ≡ Some s → Starts_statement form indent ls
  compound_starts h (an_if p e) cut ls body s d is = cc
  compound_starts h (makes m) cut ls body s d is = record { stands_for = Headed (h, d.noted) d.behind; starts = headed_starts form exact B around indent cut ls h body d; no_elif = m.no_elif; no_else = m.no_else }
  compound_starts h (follows f) cut ls body s d is = let e : None ≡ Some s = sym (f.none body) ∙ is in cc

  -- ---- an `if`

  if_reads : (ls : List Line) (p : Place) (e : Tree) (body : Steps) (r : List Line) → Headed_block B around indent false ls (IfHead p e, body) → is_deeper indent r ≡ false → reads (ls ++ r) ≡ choice form inner around indent p e body r
  if_reads ls p e body r d nd = head_complete form exact B inner knows around indent Step (of_form form inner around indent) (IfHead p e) (choice form inner around indent p e) (λ here noted behind q. refl) ls body r d nd

  choice_complete : (ls : List Line) (p : Place) (e : Tree) (body : Steps) (bs : Branches) (o : Otherwise) (r : List Line) → Further B around indent false ls bs o → Ends_statement indent r → choice form inner around indent p e body (ls ++ r) ≡ Taken (If p (branch e body bs) o) r
  unfolding choice
  choice_complete ls p e body bs o r f ends = further_complete form exact B inner knows around indent p false ls bs o f refl r ends (length (ls ++ r)) ((e, body) ∷ []) (omega arith)

  choice_cut : (ls : List Line) (p : Place) (e : Tree) (body : Steps) (bs : Branches) (o : Otherwise) → Further B around indent true ls bs o → left (choice form inner around indent p e body ls) ≡ []
  unfolding choice
  choice_cut ls p e body bs o f = further_cut form exact B inner knows around indent p true ls bs o f refl (length ls) ((e, body) ∷ []) (omega arith)

  if_complete : (cut : Bool) (ls : List Line) (s : Step) → Choice B around indent cut ls s → cut ≡ false → (r : List Line) → Ends_statement indent r → reads (ls ++ r) ≡ Taken s r
  if_complete cut ls s (if_cut {p = p} {e = e} {body = body} d) c r ends =
      if_reads ls p e body r (subst (λ c. Headed_block B around indent c ls (IfHead p e, body)) c d) ends.not_deeper ∙ choice_complete [] p e body no_branch nothing_else r no_further ends
  if_complete cut ls s (if_whole {front = front} {back = back} {p = p} {e = e} {body = body} {bs = bs} {o = o} d f) c r ends =
      let g = subst (λ c. Further B around indent c back bs o) c f in
      ap reads (append_assoc front back r)
      ∙ (if_reads front p e body (back ++ r) d (further_not_deeper form exact B inner knows around indent p cut back bs o f r ends.not_deeper)
      ∙ choice_complete back p e body bs o r g ends)

  if_all : (cut : Bool) (ls : List Line) (s : Step) → Choice B around indent cut ls s → cut ≡ true → left (reads ls) ≡ []
  if_all cut ls s (if_cut {p = p} {e = e} {body = body} d) c =
      head_cut form exact B inner knows around indent Step (of_form form inner around indent) (IfHead p e) (choice form inner around indent p e) (λ here noted behind q. refl) ls body
      (subst (λ c. Headed_block B around indent c ls (IfHead p e, body)) c d) (λ b. choice_cut [] p e b no_branch nothing_else no_further)
  if_all cut ls s (if_whole {front = front} {back = back} {p = p} {e = e} {body = body} {bs = bs} {o = o} d f) c =
      let nd : is_deeper indent back ≡ false = ap (is_deeper indent) (sym (append_nothing back)) ∙ further_not_deeper form exact B inner knows around indent p cut back bs o f [] refl in
      ap left (if_reads front p e body back d nd) ∙ choice_cut back p e body bs o (subst (λ c. Further B around indent c back bs o) c f)

  if_starts : (cut : Bool) (ls : List Line) (s : Step) → Choice B around indent cut ls s → Starts_statement form indent ls
  if_starts cut ls s (if_cut {p = p} {e = e} {body = body} d) = record { stands_for = Headed (IfHead p e, d.noted) d.behind; starts = headed_starts form exact B around indent cut ls (IfHead p e) body d; no_elif = refl; no_else = refl }
  if_starts cut ls s (if_whole {front = front} {back = back} {p = p} {e = e} {body = body} d f) =
      starts_more form indent front back (record { stands_for = Headed (IfHead p e, d.noted) d.behind; starts = headed_starts form exact B around indent false front (IfHead p e) body d; no_elif = refl; no_else = refl })

  -- ---- any statement

  pub statement_starts : (cut : Bool) (ls : List Line) (s : Step) → Statement B around indent cut ls s → Starts_statement form indent ls
  statement_starts cut ls s d = elim d [
    | inl x ↦ record { stands_for = Simple (s, x.noted); starts = record { line = x.line; rest = []; whole = x.whole; at = x.at; formed = exact.complete x.line.words (Simple (s, x.noted)) x.form }; no_elif = refl; no_else = refl }
    | inr (inl x) ↦ compound_starts x.head (sort form inner around indent x.head) cut ls x.body s x.block x.is
    | inr (inr x) ↦ if_starts cut ls s x
  ]

  pub knows_statement : Knows (Ends_statement indent) (Statement B around indent) (statement form inner around indent)
  unfolding statement
  knows_statement = record {
    found = found_statement form exact B inner knows around indent;
    complete = λ ls s r d ends. elim d [
      | inl x ↦ one_reads ls s x r
      | inr (inl x) ↦ compound_complete x.head (sort form inner around indent x.head) ls x.body s r x.block x.is ends.not_deeper
      | inr (inr x) ↦ if_complete false ls s x refl r ends
    ];
    cut = λ ls s d. elim d [
      | inl x ↦ ap (λ z. left (reads z)) (sym (append_nothing ls)) ∙ ap left (one_reads ls s x [])
      | inr (inl x) ↦ compound_cut x.head (sort form inner around indent x.head) ls x.body s x.block x.is
      | inr (inr x) ↦ if_all true ls s x refl
    ];
  }
