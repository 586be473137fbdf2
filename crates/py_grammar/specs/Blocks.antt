-- The grammar of blocks: which logical lines stand for which statements. Lines may also be cut off, so that they are the
-- front of a block: then the head at their end may still want its block.
-- Source: Python reference 2.1.8, Indentation, 8, Compound statements, and 9.2, File input; the refused line: own rule (docs/RULES.md).
use Rattle.std.specs.Prelude.{◌≡◌, ◌<◌, ◌⊎◌, ℕ, zero, suc, Bool, true, false, not, ◌&&◌, ◌||◌, IsTrue, List, [], ◌∷◌, ◌++◌, Option, Some, None}
use Rattle.amh_host.specs.declared.place.Place.{Place}
use Rattle.py_tree.specs.Tree.{Tree}
use Rattle.py_tree.specs.Steps.{Step, Break, Continue, Return, If, While, For, With, Def, Class, Fun, Steps, last, next, Branches, no_branch, branch, Otherwise, nothing_else, otherwise}
use Rattle.py_grammar.specs.declared.word.Word.{Word}
use Rattle.py_grammar.specs.Shapes.{Head, IfHead, ElifHead, ElseHead, WhileHead, ForHead, WithHead, DefHead, ClassHead, Noted, Simple, Headed}
use Rattle.py_grammar.specs.Statements.{LineOf}

-- a logical line: the blanks before it, and its words
pub record Line : Type 0 where
  pub indent : ℕ
  pub words : List Word

-- ---- where a statement may stand

-- what stands around a statement
pub record Around : Type 0 where
  pub in_function : Bool
  pub is_async : Bool
  pub in_loop : Bool

abbrev pub at_top : Around
at_top = record { in_function = false; is_async = false; in_loop = false }

-- `return` stands in a function, `break` and `continue` in a loop, and `await` in an `async def`
abbrev pub stands : Around → Step → Bool
stands a (Return p e) = a.in_function
stands a (Break p) = a.in_loop
stands a (Continue p) = a.in_loop
stands a s = true

abbrev pub step_fits : Around → Noted Step → Bool
step_fits a s = stands a s.0 && (a.is_async || not s.1)

abbrev pub head_fits : Around → Noted Head → Bool
head_fits a h = a.is_async || not h.1

-- a loop's block is in the loop; that of a function is in no loop around it, and that of a class in nothing around it
abbrev pub inside : Around → Head → Around
inside a (WhileHead p e) = record a { in_loop = true }
inside a (ForHead p t e) = record a { in_loop = true }
inside a (DefHead p n is_async ps r) = record { in_function = true; is_async = is_async; in_loop = false }
inside a (ClassHead p n bs) = at_top
inside a (IfHead p e) = a
inside a (ElifHead p e) = a
inside a (ElseHead p) = a
inside a (WithHead p e t) = a

-- ---- a head and its block, as a statement

abbrev pub step_of_head : Head → Steps → Option Step
step_of_head (WhileHead p e) body = Some (While p e body)
step_of_head (ForHead p t e) body = Some (For p t e body)
step_of_head (WithHead p e t) body = Some (With p e t body)
step_of_head (DefHead p n is_async ps r) body = Some (Def p (Fun p n is_async ps r body))
step_of_head (ClassHead p n bs) body = Some (Class p n bs body)
step_of_head (IfHead p e) body = None
step_of_head (ElifHead p e) body = None
step_of_head (ElseHead p) body = None

abbrev pub elif_of : Head → Option Tree
elif_of (ElifHead p e) = Some e
elif_of (IfHead p e) = None
elif_of (ElseHead p) = None
elif_of (WhileHead p e) = None
elif_of (ForHead p t e) = None
elif_of (WithHead p e t) = None
elif_of (DefHead p n is_async ps r) = None
elif_of (ClassHead p n bs) = None

-- which lines stand for which statements, in what surroundings, at which indent, and whether they may be cut off
abbrev pub Blocks : Type 1
Blocks = Around → ℕ → Bool → List Line → Steps → Type 0

-- the block of a head stands deeper, or is one statement behind the colon; where lines may be cut off it may be missing
pub record IsDeeper (B : Around → ℕ → Bool → List Line → Steps → Type 0) (around : Around) (indent : ℕ) (cut : Bool) (lines : List Line) (body : Steps) : Type 0 where
  pub deep : ℕ
  pub deeper : indent < deep
  pub block : B around deep cut lines body

pub record IsMissing (cut : Bool) (lines : List Line) (body : Steps) : Type 0 where
  pub may : IsTrue cut
  pub nothing : lines ≡ []
  pub empty : body ≡ last

pub record IsBehind (around : Around) (s : Noted Step) (lines : List Line) (body : Steps) : Type 0 where
  pub fits : IsTrue (step_fits around s)
  pub nothing : lines ≡ []
  pub alone : body ≡ next s.0 last

abbrev pub Suite : Blocks → Around → ℕ → Bool → Option (Noted Step) → List Line → Steps → Type 0
Suite B around indent cut None lines body = IsDeeper B around indent cut lines body ⊎ IsMissing cut lines body
Suite B around indent cut (Some s) lines body = IsBehind around s lines body

-- a line with a head at this indent, and its block
pub record Headed_block (B : Around → ℕ → Bool → List Line → Steps → Type 0) (around : Around) (indent : ℕ) (cut : Bool) (lines : List Line) (x : Head × Steps) : Type 0 where
  pub line : Line
  pub rest : List Line
  pub whole : lines ≡ line ∷ rest
  pub at : line.indent ≡ indent
  pub noted : Bool
  pub behind : Option (Noted Step)
  pub form : LineOf 64 line.words (Headed (x.0, noted) behind)
  pub fits : IsTrue (head_fits around (x.0, noted))
  pub suite : Suite B (inside around x.0) indent cut behind rest x.1

-- a statement of one line
pub record One_line (around : Around) (indent : ℕ) (lines : List Line) (s : Step) : Type 0 where
  pub line : Line
  pub whole : lines ≡ line ∷ []
  pub at : line.indent ≡ indent
  pub noted : Bool
  pub form : LineOf 64 line.words (Simple (s, noted))
  pub fits : IsTrue (step_fits around (s, noted))

-- a loop, `with`, a function or a class
pub record Compound (B : Around → ℕ → Bool → List Line → Steps → Type 0) (around : Around) (indent : ℕ) (cut : Bool) (lines : List Line) (s : Step) : Type 0 where
  pub head : Head
  pub body : Steps
  pub block : Headed_block B around indent cut lines (head, body)
  pub is : step_of_head head body ≡ Some s

-- `elif` and `else` behind an `if`: where anything follows a block, that block is whole
pub data Further (B : Around → ℕ → Bool → List Line → Steps → Type 0) (around : Around) (indent : ℕ) : Bool → List Line → Branches → Otherwise → Type 0 where
  no_further : {cut : Bool} → Further B around indent cut [] no_branch nothing_else
  elif_cut : {cut : Bool} {lines : List Line} {h : Head} {e : Tree} {body : Steps} → Headed_block B around indent cut lines (h, body) → elif_of h ≡ Some e → Further B around indent cut lines (branch e body no_branch) nothing_else
  elif_whole : {cut : Bool} {front back : List Line} {h : Head} {e : Tree} {body : Steps} {bs : Branches} {o : Otherwise} → Headed_block B around indent false front (h, body) → elif_of h ≡ Some e → Further B around indent cut back bs o
      → Further B around indent cut (front ++ back) (branch e body bs) o
  else_last : {cut : Bool} {lines : List Line} {p : Place} {body : Steps} → Headed_block B around indent cut lines (ElseHead p, body) → Further B around indent cut lines no_branch (otherwise body)

-- an `if` with what follows it
pub data Choice (B : Around → ℕ → Bool → List Line → Steps → Type 0) (around : Around) (indent : ℕ) : Bool → List Line → Step → Type 0 where
  if_cut : {cut : Bool} {lines : List Line} {p : Place} {e : Tree} {body : Steps} → Headed_block B around indent cut lines (IfHead p e, body) → Choice B around indent cut lines (If p (branch e body no_branch) nothing_else)
  if_whole : {cut : Bool} {front back : List Line} {p : Place} {e : Tree} {body : Steps} {bs : Branches} {o : Otherwise} → Headed_block B around indent false front (IfHead p e, body) → Further B around indent cut back bs o
      → Choice B around indent cut (front ++ back) (If p (branch e body bs) o)

abbrev pub Statement : Blocks → Around → ℕ → Bool → List Line → Step → Type 0
Statement B around indent cut lines s = One_line around indent lines s ⊎ Compound B around indent cut lines s ⊎ Choice B around indent cut lines s

-- one or more statements at one indent, of which the last may be cut off
pub data Statements (B : Around → ℕ → Bool → List Line → Steps → Type 0) (around : Around) (indent : ℕ) : Bool → List Line → Steps → Type 0 where
  the_last : {cut : Bool} {lines : List Line} {s : Step} → Statement B around indent cut lines s → Statements B around indent cut lines (next s last)
  and_more : {cut : Bool} {front back : List Line} {s : Step} {ss : Steps} → Statement B around indent false front s → Statements B around indent cut back ss → Statements B around indent cut (front ++ back) (next s ss)

-- blocks within which so many may be nested
abbrev pub BlockIn : ℕ → Blocks
BlockIn zero around indent cut lines body = Statements (λ a i c ls ss. ⊥) around indent cut lines body
BlockIn (suc room) around indent cut lines body = Statements (BlockIn room) around indent cut lines body

-- ---- files

-- the statements of a file stand at its left edge; a file may have none
pub data IsFile (cut : Bool) : List Line → Steps → Type 0 where
  no_line : IsFile cut [] last
  some_lines : {lines : List Line} {body : Steps} → BlockIn 64 at_top 0 cut lines body → IsFile cut lines body

-- these lines are a file, or the front of one
abbrev pub IsProgram : List Line → Steps → Type 0
IsProgram = IsFile false

abbrev pub IsFront : List Line → Type 0
IsFront lines = (body : Steps) × IsFile true lines body

-- ---- the line that is refused

-- the lines before it are the front of a file, and with it they are no longer
pub record IsFirstBad (lines : List Line) (line : Line) : Type 0 where
  pub before : List Line
  pub after : List Line
  pub whole : lines ≡ before ++ line ∷ after
  pub front : IsFront before
  pub bad : IsFront (before ++ line ∷ []) → ⊥

-- the last line is a head that wants its block
pub record IsUnended (lines : List Line) (line : Line) : Type 0 where
  pub before : List Line
  pub whole : lines ≡ before ++ line ∷ []
  pub front : IsFront lines
  pub unended : (body : Steps) → IsProgram lines body → ⊥

abbrev pub IsRefusedLine : List Line → Line → Type 0
IsRefusedLine lines line = IsFirstBad lines line ⊎ IsUnended lines line
