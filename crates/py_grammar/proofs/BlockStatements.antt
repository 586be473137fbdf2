-- A statement that is read with its block is derived.
use Rattle.std.proofs.Common.{◌≡◌, ℕ, refl, sym, ap, subst, ◌∙◌, List, [], ◌∷◌, ◌++◌, append_assoc, Option, Some, None, inl, inr}
use Rattle.std.specs.Prelude.{Bool, true, false, is_some}
use Rattle.amh_host.specs.declared.place.Place.{Place}
use Rattle.py_tree.specs.Tree.{Tree}
use Rattle.py_tree.specs.Steps.{Step, If, While, For, With, Def, Class, Fun, Steps, no_branch, branch, nothing_else}
use Rattle.py_grammar.specs.declared.word.Word.{Word}
use Rattle.py_grammar.specs.Shapes.{Head, IfHead, ElifHead, ElseHead, WhileHead, ForHead, WithHead, DefHead, ClassHead, Noted, LineForm, Simple, Headed}
use Rattle.py_grammar.specs.Blocks.{Line, Around, inside, step_of_head, elif_of, Headed_block, Further, no_further, if_cut, if_whole, Statement}
use Rattle.py_grammar.specs.Block_reading.{Part, Taken, Stuck, Takes, ◌>>=◌, Form, Inner, form_at, suite, choice, compound, of_form, statement}
use Rattle.py_grammar.proofs.BlockParts.{Found, first_split, stuck_here}
use Rattle.py_grammar.proofs.BlockLines.{Exact_form, head_is_else, form_stands, by_line, by_line_formed, by_line_refused, found_by_line}
use Rattle.py_grammar.proofs.BlockSuites.{Knows_blocks}
use Rattle.py_grammar.proofs.BlockHeads.{Past_head, past_made, found_head}
use Rattle.py_grammar.proofs.BlockChoices.{Choice_part, found_choice}

-- ---- what heads become

-- a head that makes a statement with its block
pub record Makes (form : List Word → Option LineForm) (inner : Around → ℕ → List Line → Part Steps) (around : Around) (indent : ℕ) (h : Head) : Type 0 where
  pub make : Steps → Step
  pub same : (here : List Line) (behind : Option (Noted Step)) (q : List Line) → compound form inner around indent here h behind q ≡ (suite inner (inside around h) indent behind q >>= λ body r. Taken (make body) r)
  pub is : (body : Steps) → step_of_head h body ≡ Some (make body)
  pub no_elif : is_some (elif_of h) ≡ false
  pub no_else : head_is_else h ≡ false

-- a head that stands behind others only
pub record Follows (form : List Word → Option LineForm) (inner : Around → ℕ → List Line → Part Steps) (around : Around) (indent : ℕ) (h : Head) : Type 0 where
  pub refused : (here : List Line) (behind : Option (Noted Step)) (q : List Line) → compound form inner around indent here h behind q ≡ Stuck here
  pub none : (body : Steps) → step_of_head h body ≡ None

pub data Sort (form : List Word → Option LineForm) (inner : Around → ℕ → List Line → Part Steps) (around : Around) (indent : ℕ) : Head → Type 0 where
  an_if : (p : Place) (e : Tree) → Sort form inner around indent (IfHead p e)
  makes : {h : Head} → Makes form inner around indent h → Sort form inner around indent h
  follows : {h : Head} → Follows form inner around indent h → Sort form inner around indent h

pub sort : (form : Form) (inner : Inner) (around : Around) (indent : ℕ) (h : Head) → Sort form inner around indent h
sort form inner around indent (IfHead p e) = an_if p e
sort form inner around indent (ElifHead p e) = follows (record { refused = λ here behind q. refl; none = λ body. refl })
sort form inner around indent (ElseHead p) = follows (record { refused = λ here behind q. refl; none = λ body. refl })
sort form inner around indent (WhileHead p e) = makes (record { make = While p e; same = λ here behind q. refl; is = λ body. refl; no_elif = refl; no_else = refl })
sort form inner around indent (ForHead p t e) = makes (record { make = For p t e; same = λ here behind q. refl; is = λ body. refl; no_elif = refl; no_else = refl })
sort form inner around indent (WithHead p e t) = makes (record { make = With p e t; same = λ here behind q. refl; is = λ body. refl; no_elif = refl; no_else = refl })
sort form inner around indent (DefHead p n is_async ps t) = makes (record { make = λ body. Def p (Fun p n is_async ps t body); same = λ here behind q. refl; is = λ body. refl; no_elif = refl; no_else = refl })
sort form inner around indent (ClassHead p n bs) = makes (record { make = Class p n bs; same = λ here behind q. refl; is = λ body. refl; no_elif = refl; no_else = refl })

module _ (form : Form) (exact : Exact_form form) (B : Around → ℕ → Bool → List Line → Steps → Type 0) (inner : Inner) (knows : Knows_blocks B inner) (around : Around) (indent : ℕ) where
  abbrev reads : Takes Step
  reads = by_line form around indent (of_form form inner around indent)

  abbrev Derives : Bool → List Line → Step → Type 0
  Derives = Statement B around indent

  -- ---- an `if`

  if_derived : (cut : Bool) (front back : List Line) (p : Place) (e : Tree) (body : Steps) (s : Step) → Headed_block B around indent false front (IfHead p e, body) → Choice_part B around indent p e body cut back s → Derives cut (front ++ back) s
  if_derived cut front back p e body s d c = subst (Derives cut (front ++ back)) (sym c.is) (inr (inr (if_whole d c.further)))

  behind_if : (p : Place) (e : Tree) (l : Line) (ls : List Line) (b : Steps) (r : List Line) → Past_head (λ cut ls body. Headed_block B around indent cut ls (IfHead p e, body)) reads (choice form inner around indent p e) l ls b r
      → (t : Part Step) → Found (Choice_part B around indent p e b) (choice form inner around indent p e b) r t → Found Derives reads (l ∷ ls) t
  behind_if p e l ls b r past (Taken s q) f = record {
    front = (l ∷ past.front) ++ f.front;
    split = ap (λ z. l ∷ z) (past.split ∙ (ap (λ z. past.front ++ z) f.split ∙ sym (append_assoc past.front f.front q)));
    derived = λ cut. if_derived cut (l ∷ past.front) f.front p e b s (past.derived false) (f.derived cut);
    again = λ q' same. ap (λ z. reads (l ∷ z)) (append_assoc past.front f.front q') ∙ (past.again (f.front ++ q') (first_split r f.front q q' f.split same) ∙ f.again q' same);
  }
  behind_if p e l ls b r past (Stuck q) f = record {
    front = (l ∷ past.front) ++ f.front;
    split = ap (λ z. l ∷ z) (past.split ∙ (ap (λ z. past.front ++ z) f.split ∙ sym (append_assoc past.front f.front q)));
    begun = inr (elim f.begun [
      | inl n ↦ (If p (branch e b no_branch) nothing_else, inr (inr (if_whole (past.derived false) (subst (λ z. Further B around indent true z no_branch nothing_else) (sym n) no_further))))
      | inr x ↦ (x.0, if_derived true (l ∷ past.front) f.front p e b x.0 (past.derived false) x.1)
    ]);
    again = λ q' same. ap (λ z. reads (l ∷ z)) (append_assoc past.front f.front q') ∙ (past.again (f.front ++ q') (first_split r f.front q q' f.split same) ∙ f.again q' same);
  }

  -- ---- each form

  found_headed : (h : Head) → Sort form inner around indent h → (l : Line) (ls : List Line) (noted : Bool) (behind : Option (Noted Step)) → form_at form around indent l ≡ Some (Headed (h, noted) behind) → Found Derives reads (l ∷ ls) (compound form inner around indent (l ∷ ls) h behind ls)
  found_headed h (an_if p e) l ls noted behind is =
      found_head form exact B inner knows around indent Step (of_form form inner around indent) (IfHead p e) (choice form inner around indent p e) (λ here noted behind q. refl) Derives l noted behind is ls
      (λ b r past. behind_if p e l ls b r past (choice form inner around indent p e b r) (found_choice form exact B inner knows around indent p e b r))
      (λ front b d. (If p (branch e b no_branch) nothing_else, inr (inr (if_cut d))))
  found_headed h (makes m) l ls noted behind is =
      subst (Found Derives reads (l ∷ ls)) (sym (m.same (l ∷ ls) behind ls))
      (found_head form exact B inner knows around indent Step (of_form form inner around indent) h (λ b r. Taken (m.make b) r) (λ here noted behind q. m.same here behind q) Derives l noted behind is ls
      (λ b r past. past_made (λ cut ls body. Headed_block B around indent cut ls (h, body)) Derives reads m.make (λ cut ls b d. inr (inl (record { head = h; body = b; block = d; is = m.is b }))) l ls b r past)
      (λ front b d. (m.make b, inr (inl (record { head = h; body = b; block = d; is = m.is b })))))
  found_headed h (follows f) l ls noted behind is =
      subst (Found Derives reads (l ∷ ls)) (sym (f.refused (l ∷ ls) behind ls))
      (stuck_here Derives reads (l ∷ ls) (λ q same. by_line_refused form around indent (of_form form inner around indent) l (Headed (h, noted) behind) q is (λ here ls. f.refused here behind ls) same))

  found_form : (l : Line) (ls : List Line) (f : LineForm) → form_at form around indent l ≡ Some f → Found Derives reads (l ∷ ls) (of_form form inner around indent (l ∷ ls) f ls)
  found_form l ls (Simple s) is =
      let st = form_stands form around indent l (Simple s) is in
      record {
        front = l ∷ [];
        split = refl;
        derived = λ cut. inl (record { line = l; whole = refl; at = st.at; noted = s.1; form = exact.sound l.words (Simple s) st.formed; fits = st.fits });
        again = λ q same. by_line_formed form around indent (of_form form inner around indent) l q (Simple s) is;
      }
  found_form l ls (Headed (h, noted) behind) is = found_headed h (sort form inner around indent h) l ls noted behind is

  pub found_statement : (ls : List Line) → Found Derives (statement form inner around indent) ls (statement form inner around indent ls)
  unfolding statement
  found_statement ls = found_by_line form around indent (of_form form inner around indent) Derives found_form ls
