-- The laws that tie the reader to the grammar.
-- Internal: no rule of the language.
use Rattle.std.specs.Prelude.{◌≡◌, ℕ, List, [], ◌++◌, Option, Some}
use Rattle.py_grammar.specs.declared.word.Word.{Word}
use Rattle.py_grammar.specs.declared.word.Kind.{Kind}
use Rattle.py_grammar.specs.declared.word.Kind.TheVariants.{Expr as an_expr}
use Rattle.py_grammar.specs.Forms.{Made}
use Rattle.py_grammar.specs.Readers.{made}
use Rattle.py_grammar.specs.Seen.{Seen, tuple_seen}
use Rattle.py_grammar.specs.Grammar.{Within, Items}
use Rattle.py_grammar.specs.Reading.{inner, items}

-- a front of the words stands for this, and these are left
pub record Derived_front (D : List Word → Seen → Type 0) (ws : List Word) (e : Seen) (r : List Word) : Type 0 where
  pub front : List Word
  pub split : ws ≡ front ++ r
  pub derived : D front e

-- what is read has a derivation
abbrev pub ReadIsDerived : Type 0
ReadIsDerived = (room : ℕ) (k : Kind) (ws : List Word) (e : Seen) (r : List Word) → inner room k ws ≡ Some (e, r) → Derived_front (Within room k) ws e r

-- words that have a derivation are read whole
abbrev pub DerivedIsRead : Type 0
DerivedIsRead = (room : ℕ) (k : Kind) (ws : List Word) (e : Seen) → Within room k ws e → inner room k ws ≡ Some (e, [])

-- words stand for one tree at most
abbrev pub OneTree : Type 0
OneTree = (room : ℕ) (k : Kind) (ws : List Word) (e f : Seen) → Within room k ws e → Within room k ws f → e ≡ f

-- expressions with a comma between each two, as the grammar and as the reader have them
abbrev pub Exprs : ℕ → List Word → Seen → Type 0
Exprs room = Made tuple_seen (Items (Within room an_expr))

abbrev pub exprs : ℕ → List Word → Option (Seen × List Word)
exprs room = made tuple_seen (items (inner room an_expr))

abbrev pub ExprsReadIsDerived : Type 0
ExprsReadIsDerived = (room : ℕ) (ws : List Word) (e : Seen) (r : List Word) → exprs room ws ≡ Some (e, r) → Derived_front (Exprs room) ws e r

abbrev pub ExprsDerivedIsRead : Type 0
ExprsDerivedIsRead = (room : ℕ) (ws : List Word) (e : Seen) → Exprs room ws e → exprs room ws ≡ Some (e, [])

abbrev pub ExprsOneTree : Type 0
ExprsOneTree = (room : ℕ) (ws : List Word) (e f : Seen) → Exprs room ws e → Exprs room ws f → e ≡ f
