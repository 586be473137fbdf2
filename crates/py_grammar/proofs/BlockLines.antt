-- What the next line stands for, where it stands.
use Rattle.std.proofs.Common.{◌≡◌, ℕ, refl, sym, ap, subst, ◌∙◌, List, [], ◌∷◌, Option, Some, None, inl, inr}
use Rattle.std.proofs.lemmas.Bool.{eq-eqb, eqb-true}
use Rattle.std.specs.Prelude.{Bool, true, false, ◌==◌, IsTrue, is_some, codes}
use Rattle.py_grammar.specs.declared.word.Word.{Word}
use Rattle.py_grammar.specs.Words.{next_key}
use Rattle.py_grammar.specs.Shapes.{Head, IfHead, ElifHead, ElseHead, WhileHead, ForHead, WithHead, DefHead, ClassHead, LineForm, Simple, Headed}
use Rattle.py_grammar.specs.Statements.{LineOf}
use Rattle.py_grammar.specs.Blocks.{Line, Around, elif_of}
use Rattle.py_grammar.specs.Block_reading.{Stuck, Takes, ◌>>=◌, Form, form_fits, fitting, form_at, taken_or_stuck, one_line}
use Rattle.py_grammar.proofs.Exact.{if_some, if_true}
use Rattle.py_grammar.proofs.BlockParts.{first, Found, stuck_here}

-- ---- the reader of words

abbrev pub is_elif : LineForm → Bool
is_elif (Simple s) = false
is_elif (Headed h behind) = is_some (elif_of h.0)

abbrev pub head_is_else : Head → Bool
head_is_else (IfHead p e) = false
head_is_else (ElifHead p e) = false
head_is_else (ElseHead p) = true
head_is_else (WhileHead p e) = false
head_is_else (ForHead p t e) = false
head_is_else (WithHead p e t) = false
head_is_else (DefHead p n is_async ps t) = false
head_is_else (ClassHead p n bs) = false

abbrev pub is_else : LineForm → Bool
is_else (Simple s) = false
is_else (Headed h behind) = head_is_else h.0

-- it reads what is derived, and the first word tells `elif` and `else`
pub record Exact_form (form : List Word → Option LineForm) : Type 0 where
  pub sound : (ws : List Word) (f : LineForm) → form ws ≡ Some f → LineOf 64 ws f
  pub complete : (ws : List Word) (f : LineForm) → LineOf 64 ws f → form ws ≡ Some f
  pub elif_leads : (ws : List Word) (f : LineForm) → form ws ≡ Some f → next_key (codes "elif") ws ≡ is_elif f
  pub else_leads : (ws : List Word) (f : LineForm) → form ws ≡ Some f → next_key (codes "else") ws ≡ is_else f

-- ---- the form of a line

pub record Stands (form : List Word → Option LineForm) (around : Around) (indent : ℕ) (l : Line) (f : LineForm) : Type 0 where
  pub at : l.indent ≡ indent
  pub formed : form l.words ≡ Some f
  pub fits : IsTrue (form_fits around f)

fitting_is : (around : Around) (o : Option LineForm) (f : LineForm) → fitting around o ≡ Some f → (o ≡ Some f) × IsTrue (form_fits around f)
fitting_is around None f h = cc
fitting_is around (Some g) f h = elim (if_some (form_fits around g) (Some g) None f h) [
  | inl y ↦ let e : g ≡ f = (let z = y.1 in cc) in (ap (λ z. Some z) e, subst (λ z. IsTrue (form_fits around z)) e y.0)
  | inr n ↦ let z = n.1 in cc
]

pub form_stands : (form : Form) (around : Around) (indent : ℕ) (l : Line) (f : LineForm) → form_at form around indent l ≡ Some f → Stands form around indent l f
unfolding form_at
form_stands form around indent l f h = elim (if_some (l.indent == indent) (fitting around (form l.words)) None f h) [
  | inl y ↦ let p = fitting_is around (form l.words) f y.1 in record { at = eqb-true l.indent indent y.0; formed = p.0; fits = p.1 }
  | inr n ↦ let z = n.1 in cc
]

pub stands_form : (form : Form) (around : Around) (indent : ℕ) (l : Line) (f : LineForm) → Stands form around indent l f → form_at form around indent l ≡ Some f
unfolding form_at
stands_form form around indent l f s =
    if_true (l.indent == indent) (fitting around (form l.words)) None (eq-eqb l.indent indent s.at)
    ∙ (ap (fitting around) s.formed ∙ if_true (form_fits around f) (Some f) None s.fits)

-- ---- readers that go on as the form of the next line tells

abbrev pub by_line : {A : Type 0} → Form → Around → ℕ → (List Line → LineForm → Takes A) → Takes A
by_line form around indent g = λ ls. one_line form around indent ls >>= g ls

pub by_line_formed : {A : Type 0} (form : Form) (around : Around) (indent : ℕ) (g : List Line → LineForm → Takes A) (l : Line) (ls : List Line) (f : LineForm) → form_at form around indent l ≡ Some f → by_line form around indent g (l ∷ ls) ≡ g (l ∷ ls) f ls
unfolding one_line
by_line_formed form around indent g l ls f h = ap (λ o. taken_or_stuck (l ∷ ls) ls o >>= g (l ∷ ls)) h

by_line_unformed : {A : Type 0} (form : Form) (around : Around) (indent : ℕ) (g : List Line → LineForm → Takes A) (l : Line) (q : List Line) → form_at form around indent l ≡ None → Some l ≡ first q → by_line form around indent g q ≡ Stuck q
unfolding one_line
by_line_unformed form around indent g l [] h e = cc
by_line_unformed form around indent g l (m ∷ q) h e = let s : l ≡ m = cc in ap (λ o. taken_or_stuck (m ∷ q) q o >>= g (m ∷ q)) (ap (form_at form around indent) (sym s) ∙ h)

by_line_none : {A : Type 0} (form : Form) (around : Around) (indent : ℕ) (g : List Line → LineForm → Takes A) (q : List Line) → None ≡ first q → by_line form around indent g q ≡ Stuck q
unfolding one_line
by_line_none form around indent g [] e = refl
by_line_none form around indent g (m ∷ q) e = cc

-- a form that the reader refuses
pub by_line_refused : {A : Type 0} (form : Form) (around : Around) (indent : ℕ) (g : List Line → LineForm → Takes A) (l : Line) (f : LineForm) (q : List Line) → form_at form around indent l ≡ Some f → ((here ls : List Line) → g here f ls ≡ Stuck here) → Some l ≡ first q → by_line form around indent g q ≡ Stuck q
by_line_refused form around indent g l f [] h refuses e = cc
by_line_refused form around indent g l f (m ∷ q) h refuses e = let s : l ≡ m = cc in by_line_formed form around indent g m q f (ap (form_at form around indent) (sym s) ∙ h) ∙ refuses (m ∷ q) q

module _ {A : Type 0} (form : Form) (around : Around) (indent : ℕ) (g : List Line → LineForm → Takes A) (D : Bool → List Line → A → Type 0) where
  found_formed : ((l : Line) (ls : List Line) (f : LineForm) → form_at form around indent l ≡ Some f → Found D (by_line form around indent g) (l ∷ ls) (g (l ∷ ls) f ls))
      → (l : Line) (ls : List Line) (o : Option LineForm) → form_at form around indent l ≡ o → Found D (by_line form around indent g) (l ∷ ls) (taken_or_stuck (l ∷ ls) ls o >>= g (l ∷ ls))
  found_formed found l ls None h = stuck_here D (by_line form around indent g) (l ∷ ls) (λ q e. by_line_unformed form around indent g l q h e)
  found_formed found l ls (Some f) h = found l ls f h

  pub found_by_line : ((l : Line) (ls : List Line) (f : LineForm) → form_at form around indent l ≡ Some f → Found D (by_line form around indent g) (l ∷ ls) (g (l ∷ ls) f ls))
      → (ls : List Line) → Found D (by_line form around indent g) ls (by_line form around indent g ls)
  unfolding one_line
  found_by_line found [] = stuck_here D (by_line form around indent g) [] (λ q e. by_line_none form around indent g q e)
  found_by_line found (l ∷ ls) = found_formed found l ls (form_at form around indent l) refl
