-- `elif` and `else` are read with their blocks as they are derived.
use Rattle.std.proofs.Common.{◌≡◌, ℕ, refl, sym, ap, subst, List, [], ◌∷◌, ◌++◌, Some}
use Rattle.std.specs.Prelude.{Bool, true, false}
use Rattle.amh_host.specs.declared.place.Place.{Place}
use Rattle.py_tree.specs.Tree.{Tree}
use Rattle.py_tree.specs.Steps.{Steps}
use Rattle.py_grammar.specs.Shapes.{Head, IfHead, ElifHead, ElseHead, WhileHead, ForHead, WithHead, DefHead, ClassHead, LineForm, Headed}
use Rattle.py_grammar.specs.Blocks.{Line, Around, elif_of, Headed_block}
use Rattle.py_grammar.specs.Block_reading.{Part, Taken, Stuck, Takes, ◌>>=◌, Form, Inner, is_deeper, form_at, suite, behind_elif, behind_else, elif_block, else_block}
use Rattle.py_grammar.proofs.BlockParts.{left, Found, Knows, stuck_here}
use Rattle.py_grammar.proofs.BlockLines.{Exact_form, by_line, by_line_refused, found_by_line}
use Rattle.py_grammar.proofs.BlockSuites.{Knows_blocks}
use Rattle.py_grammar.proofs.BlockHeads.{past_made, head_complete, head_cut, found_head}

-- `elif` with its test and its block, and `else` with its block
pub record Elif_part (B : Around → ℕ → Bool → List Line → Steps → Type 0) (around : Around) (indent : ℕ) (cut : Bool) (lines : List Line) (x : Tree × Steps) : Type 0 where
  pub head : Head
  pub block : Headed_block B around indent cut lines (head, x.1)
  pub is : elif_of head ≡ Some x.0

pub record Else_part (B : Around → ℕ → Bool → List Line → Steps → Type 0) (around : Around) (indent : ℕ) (cut : Bool) (lines : List Line) (body : Steps) : Type 0 where
  pub place : Place
  pub block : Headed_block B around indent cut lines (ElseHead place, body)

elif_is : (h : Head) (e : Tree) → elif_of h ≡ Some e → (p : Place) × (h ≡ ElifHead p e)
elif_is (ElifHead p t) e h = let s : t ≡ e = cc in (p, ap (ElifHead p) s)
elif_is (IfHead p t) e h = cc
elif_is (ElseHead p) e h = cc
elif_is (WhileHead p t) e h = cc
elif_is (ForHead p t u) e h = cc
elif_is (WithHead p t u) e h = cc
elif_is (DefHead p n is_async ps t) e h = cc
elif_is (ClassHead p n bs) e h = cc

bind_taken_itself : {A : Type 0} (p : Part A) → p ≡ (p >>= λ a r. Taken a r)
bind_taken_itself (Taken a r) = refl
bind_taken_itself (Stuck r) = refl

module _ (form : Form) (exact : Exact_form form) (B : Around → ℕ → Bool → List Line → Steps → Type 0) (inner : Inner) (knows : Knows_blocks B inner) (around : Around) (indent : ℕ) where
  -- ---- `elif`

  abbrev elif_reads : Takes (Tree × Steps)
  elif_reads = by_line form around indent (behind_elif inner around indent)

  elif_refused : (l : Line) (ls : List Line) (f : LineForm) → form_at form around indent l ≡ Some f → ((here ls : List Line) → behind_elif inner around indent here f ls ≡ Stuck here) → Found (Elif_part B around indent) elif_reads (l ∷ ls) (Stuck (l ∷ ls))
  elif_refused l ls f h refuses = stuck_here (Elif_part B around indent) elif_reads (l ∷ ls) (λ q s. by_line_refused form around indent (behind_elif inner around indent) l f q h refuses s)

  found_elif_form : (l : Line) (ls : List Line) (f : LineForm) → form_at form around indent l ≡ Some f → Found (Elif_part B around indent) elif_reads (l ∷ ls) (behind_elif inner around indent (l ∷ ls) f ls)
  found_elif_form l ls (Headed (ElifHead p e, noted) behind) h =
      found_head form exact B inner knows around indent (Tree × Steps) (behind_elif inner around indent) (ElifHead p e) (λ body r. Taken (e, body) r) (λ here noted behind q. refl) (Elif_part B around indent) l noted behind h ls
      (λ b r past. past_made (λ cut ls body. Headed_block B around indent cut ls (ElifHead p e, body)) (Elif_part B around indent) elif_reads (λ body. (e, body)) (λ cut ls b d. record { head = ElifHead p e; block = d; is = refl }) l ls b r past)
      (λ front b d. ((e, b), record { head = ElifHead p e; block = d; is = refl }))
  found_elif_form l ls f h = elif_refused l ls f h (λ here ls. refl)

  elif_complete : (ls : List Line) (x : Tree × Steps) (r : List Line) → Elif_part B around indent false ls x → is_deeper indent r ≡ false → elif_reads (ls ++ r) ≡ Taken x r
  elif_complete ls x r d e =
      let i = elif_is d.head x.0 d.is in
      head_complete form exact B inner knows around indent (Tree × Steps) (behind_elif inner around indent) (ElifHead i.0 x.0) (λ body r. Taken (x.0, body) r) (λ here noted behind q. refl) ls x.1 r
      (subst (λ h. Headed_block B around indent false ls (h, x.1)) i.1 d.block) e

  elif_cut : (ls : List Line) (x : Tree × Steps) → Elif_part B around indent true ls x → left (elif_reads ls) ≡ []
  elif_cut ls x d =
      let i = elif_is d.head x.0 d.is in
      head_cut form exact B inner knows around indent (Tree × Steps) (behind_elif inner around indent) (ElifHead i.0 x.0) (λ body r. Taken (x.0, body) r) (λ here noted behind q. refl) ls x.1
      (subst (λ h. Headed_block B around indent true ls (h, x.1)) i.1 d.block) (λ b. refl)

  pub knows_elif : Knows (λ r. is_deeper indent r ≡ false) (Elif_part B around indent) (elif_block form inner around indent)
  unfolding elif_block
  knows_elif = record { found = found_by_line form around indent (behind_elif inner around indent) (Elif_part B around indent) found_elif_form; complete = elif_complete; cut = elif_cut }

  -- ---- `else`

  abbrev else_reads : Takes Steps
  else_reads = by_line form around indent (behind_else inner around indent)

  else_refused : (l : Line) (ls : List Line) (f : LineForm) → form_at form around indent l ≡ Some f → ((here ls : List Line) → behind_else inner around indent here f ls ≡ Stuck here) → Found (Else_part B around indent) else_reads (l ∷ ls) (Stuck (l ∷ ls))
  else_refused l ls f h refuses = stuck_here (Else_part B around indent) else_reads (l ∷ ls) (λ q s. by_line_refused form around indent (behind_else inner around indent) l f q h refuses s)

  found_else_form : (l : Line) (ls : List Line) (f : LineForm) → form_at form around indent l ≡ Some f → Found (Else_part B around indent) else_reads (l ∷ ls) (behind_else inner around indent (l ∷ ls) f ls)
  found_else_form l ls (Headed (ElseHead p, noted) behind) h = subst (Found (Else_part B around indent) else_reads (l ∷ ls)) (sym (bind_taken_itself (suite inner around indent behind ls)))
      (found_head form exact B inner knows around indent Steps (behind_else inner around indent) (ElseHead p) (λ body r. Taken body r) (λ here noted behind q. bind_taken_itself (suite inner around indent behind q)) (Else_part B around indent) l noted behind h ls
      (λ b r past. past_made (λ cut ls body. Headed_block B around indent cut ls (ElseHead p, body)) (Else_part B around indent) else_reads (λ body. body) (λ cut ls b d. record { place = p; block = d }) l ls b r past)
      (λ front b d. (b, record { place = p; block = d })))
  found_else_form l ls f h = else_refused l ls f h (λ here ls. refl)

  else_complete : (ls : List Line) (body : Steps) (r : List Line) → Else_part B around indent false ls body → is_deeper indent r ≡ false → else_reads (ls ++ r) ≡ Taken body r
  else_complete ls body r d e = head_complete form exact B inner knows around indent Steps (behind_else inner around indent) (ElseHead d.place) (λ body r. Taken body r) (λ here noted behind q. bind_taken_itself (suite inner around indent behind q)) ls body r d.block e

  else_cut : (ls : List Line) (body : Steps) → Else_part B around indent true ls body → left (else_reads ls) ≡ []
  else_cut ls body d = head_cut form exact B inner knows around indent Steps (behind_else inner around indent) (ElseHead d.place) (λ body r. Taken body r) (λ here noted behind q. bind_taken_itself (suite inner around indent behind q)) ls body d.block (λ b. refl)

  pub knows_else : Knows (λ r. is_deeper indent r ≡ false) (Else_part B around indent) (else_block form inner around indent)
  unfolding else_block
  knows_else = record { found = found_by_line form around indent (behind_else inner around indent) (Else_part B around indent) found_else_form; complete = else_complete; cut = else_cut }
