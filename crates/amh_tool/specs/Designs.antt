-- What the bytes of a design file stand for under a plan, which says how much they may cost and may name the top: a design, or why there is none.
-- Source: this project's own rule (docs/RULES.md).
use Rattle.std.specs.Prelude.{◌≡◌, ◌+◌, ◌-◌, ◌==◌, ◌⊎◌, nat_lt, ℕ, List, length, take, count_by, Result, Ok, Err}
use Rattle.std.specs.Bool.{MatchBool}
use Rattle.std.specs.Str.{chars}
use Rattle.std.specs.Str.Lossy.{utf8_valid_len}
use Rattle.amh_host.specs.declared.place.Place.{Place}
use Rattle.amh_host.specs.declared.place.Kind.{Kind}
use Rattle.amh_host.specs.declared.place.Kind.TheVariants.{Text, Subset, Loop as a_loop, Limit}
use Rattle.py_lexer.specs.declared.line.Line.{Line}
use Rattle.py_lexer.specs.Lines.{logical_lines}
use Rattle.py_tree.specs.Steps.{Steps}
use Rattle.private_names.specs.Statements.{mangled_program}
use Rattle.py_grammar.specs.Blocks.{IsProgram}
use Rattle.py_parser.specs.Parsing.{file_lines, IsRefusedAt}
use Rattle.design_ir.specs.Targets.{Bit}
use Rattle.design_ir.specs.Loops.{Loop}
use Rattle.design_ir.specs.Circuits.{Circuit}
use Rattle.comb_graph.specs.Refusals.{IsTold}
use Rattle.elab_eval.specs.declared.refusal.ElabStop.{ElabStop}
use Rattle.elab_eval.specs.declared.refusal.ElabStop.TheVariants as elab
use Rattle.elab_eval.specs.Elaborates.{Found, Elaborates}
use Rattle.amh_tool.specs.Plan.{Plan}
use Rattle.amh_tool.specs.declared.refusal.Refusal.{Refusal}

-- a program, what it is elaborated to, and the units that are left then
pub record Given : Type 0 where
  pub program : Steps
  pub found : Found
  pub left : ℕ

abbrev pub circuit_of : Given → Circuit
circuit_of g = g.found.circuit

-- a design, a refusal, or a budget that is spent before there is a design
pub data Designed : Type 0 where
  gives : Given → Designed
  refuses : Refusal → Designed
  spends : Place → Designed

abbrev pub refusal : Kind → Place → Refusal
refusal kind place = record { place = place; kind = kind }

abbrev pub line_start : ℕ → Place
line_start line = record { line = line; col = 1 }

-- ---- loops

-- the least bit that needs itself is told where the first assignment stands that may write it
pub record IsLoopTold (c : Circuit) (r : Refusal) : Type 0 where
  pub bit : Bit
  pub told : IsTold c bit r.place
  pub kind : r.kind ≡ a_loop

-- a design without loops stands
pub record IsLoopless (g h : Given) : Type 0 where
  pub same : h ≡ g
  pub loopless : (b : Bit) → Loop (circuit_of g) b → ⊥

abbrev pub IsRanked : Given → Designed → Type 0
IsRanked g (gives h) = IsLoopless g h
IsRanked g (refuses r) = IsLoopTold (circuit_of g) r
IsRanked g (spends place) = ⊥

-- ---- the program

-- what elaboration comes to leads to this; want of memory is no answer of a file
abbrev pub IsChecked : Steps → ℕ → Result Found ElabStop → Designed → Type 0
IsChecked body left (Ok f) found = IsRanked (record { program = body; found = f; left = left }) found
IsChecked body left (Err (elab.Refused kind place)) found = found ≡ refuses (refusal kind place)
IsChecked body left (Err (elab.Spent place)) found = found ≡ spends place
IsChecked body left (Err elab.NoMemory) found = ⊥

-- a program, elaborated within the plan's budget, comes to this
pub record ComesTo (p : Plan) (body : Steps) (found : Designed) : Type 0 where
  pub came : Result Found ElabStop
  pub used : ℕ
  pub elaborates : Elaborates body p.top p.budget came used
  pub checked : IsChecked body (p.budget - used) came found

-- the lines stand for a program, which is elaborated once its private names are written out
pub record IsElaborated (p : Plan) (text : List ℕ) (lines : List Line) (found : Designed) : Type 0 where
  pub body : Steps
  pub program : IsProgram (file_lines text lines) body
  pub comes : ComesTo p (mangled_program body) found

-- the lines stand for no program
pub record IsUnparsed (text : List ℕ) (lines : List Line) (found : Designed) : Type 0 where
  pub place : Place
  pub refused : IsRefusedAt text lines place
  pub is : found ≡ refuses (refusal Subset place)

-- ---- the text

abbrev pub IsCut : Plan → List ℕ → Result (List Line) Place → Designed → Type 0
IsCut p text (Ok lines) found = IsElaborated p text lines found ⊎ IsUnparsed text lines found
IsCut p text (Err place) found = found ≡ refuses (refusal Subset place)

-- the number of the line in which the first bad byte stands
abbrev pub bad_line : List ℕ → ℕ
bad_line bytes = count_by (λ b. b == 10) (take (utf8_valid_len bytes) bytes) + 1

-- bytes that are no text are refused at the line of the first bad one
abbrev pub IsText : Plan → List ℕ → Designed → Type 0
IsText p bytes found =
    MatchBool (utf8_valid_len bytes == length bytes)
    (IsCut p bytes (logical_lines (chars bytes)) found)
    (found ≡ refuses (refusal Text (line_start (bad_line bytes))))

-- how many bytes a design file may have
abbrev pub most_design : ℕ
most_design = 1_048_576

-- what a design file stands for
abbrev pub IsDesigned : Plan → List ℕ → Designed → Type 0
IsDesigned p bytes found = MatchBool (nat_lt most_design (length bytes)) (found ≡ refuses (refusal Limit (line_start 1))) (IsText p bytes found)
