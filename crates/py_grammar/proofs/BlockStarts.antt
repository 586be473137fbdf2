-- What the first line of a statement tells the tests that look at it.
use Rattle.std.proofs.Common.{◌≡◌, ℕ, ◌<◌, refl, ap, ◌∙◌, List, [], ◌∷◌, ◌++◌, length, Option, Some, arith}
use Rattle.std.proofs.lemmas.Bool.{eq-eqb, le-leb, le-ltb, leb-false, ne_eqb}
use Rattle.std.specs.Prelude.{Bool, true, false, ◌&&◌, codes}
use Rattle.py_tree.specs.Steps.{Steps}
use Rattle.py_grammar.specs.declared.word.Word.{Word}
use Rattle.py_grammar.specs.Words.{next_key}
use Rattle.py_grammar.specs.Shapes.{Head, LineForm, Headed}
use Rattle.py_grammar.specs.Blocks.{Line, Around, Headed_block}
use Rattle.py_grammar.specs.Block_reading.{Form, stays, is_deeper, next_at}
use Rattle.py_grammar.proofs.BlockLines.{Exact_form, is_elif, is_else}
use Rattle.py_grammar.proofs.BlockSuites.{Begins}

-- lines of which the first stands at an indent and has this form
pub record Starts (form : List Word → Option LineForm) (indent : ℕ) (ls : List Line) (f : LineForm) : Type 0 where
  pub line : Line
  pub rest : List Line
  pub whole : ls ≡ line ∷ rest
  pub at : line.indent ≡ indent
  pub formed : form line.words ≡ Some f

abbrev pub starts_begins : (form : Form) (indent : ℕ) (ls : List Line) (f : LineForm) → Starts form indent ls f → Begins indent ls
starts_begins form indent ls f s = record { line = s.line; rest = s.rest; whole = s.whole; at = s.at }

pub begins_long : (indent : ℕ) (ls : List Line) → Begins indent ls → 0 < length ls
begins_long indent [] b = let e = b.whole in cc
begins_long indent (l ∷ ls) b = omega arith

pub begins_stays : (indent : ℕ) (ls r : List Line) → Begins indent ls → stays indent (ls ++ r) ≡ true
begins_stays indent ls r b = ap (λ z. stays indent (z ++ r)) b.whole ∙ le-leb indent b.line.indent (omega (arith, b.at))

pub begins_not_deeper : (indent : ℕ) (ls r : List Line) → Begins indent ls → is_deeper indent (ls ++ r) ≡ false
begins_not_deeper indent ls r b = ap (λ z. is_deeper indent (z ++ r)) b.whole ∙ le-ltb indent b.line.indent (omega (arith, b.at))

begins_next : (indent : ℕ) (this : List ℕ) (ls r : List Line) (b : Begins indent ls) → next_at indent this (ls ++ r) ≡ next_key this b.line.words
begins_next indent this ls r b = ap (λ z. next_at indent this (z ++ r)) b.whole ∙ ap (λ c. c && next_key this b.line.words) (eq-eqb b.line.indent indent b.at)

module _ (form : Form) (exact : Exact_form form) (indent : ℕ) (ls : List Line) (f : LineForm) (s : Starts form indent ls f) where
  pub starts_elif : (r : List Line) → next_at indent (codes "elif") (ls ++ r) ≡ is_elif f
  starts_elif r = begins_next indent (codes "elif") ls r (starts_begins form indent ls f s) ∙ exact.elif_leads s.line.words f s.formed

  pub starts_else : (r : List Line) → next_at indent (codes "else") (ls ++ r) ≡ is_else f
  starts_else r = begins_next indent (codes "else") ls r (starts_begins form indent ls f s) ∙ exact.else_leads s.line.words f s.formed

pub headed_starts : (form : Form) → Exact_form form → (B : Around → ℕ → Bool → List Line → Steps → Type 0) (around : Around) (indent : ℕ) (cut : Bool) (ls : List Line) (h : Head) (body : Steps) → (d : Headed_block B around indent cut ls (h, body))
    → Starts form indent ls (Headed (h, d.noted) d.behind)
headed_starts form exact B around indent cut ls h body d = record { line = d.line; rest = d.rest; whole = d.whole; at = d.at; formed = exact.complete d.line.words (Headed (h, d.noted) d.behind) d.form }

-- a line left of an indent is no line at it, and is not deeper
pub leaves_next : (indent : ℕ) (this : List ℕ) (r : List Line) → stays indent r ≡ false → next_at indent this r ≡ false
leaves_next indent this [] h = refl
leaves_next indent this (l ∷ r) h = let less = leb-false indent l.indent h in ap (λ c. c && next_key this l.words) (ne_eqb l.indent indent (λ e. absurd (omega (arith, less, e))))

pub leaves_not_deeper : (indent : ℕ) (r : List Line) → stays indent r ≡ false → is_deeper indent r ≡ false
leaves_not_deeper indent [] h = refl
leaves_not_deeper indent (l ∷ r) h = le-ltb indent l.indent (omega (arith, leb-false indent l.indent h))
