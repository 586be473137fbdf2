-- From what the parts of a design file gave to what the file stands for.
use Rattle.std.specs.Prelude.{◌≡◌, refl, ℕ, ◌+◌, ◌≤◌, ◌<◌, ◌⊎◌, ◌==◌, false, List, length, take, count_by, Result, Ok, Err, IsUtf8}
use Rattle.std.specs.Str.{chars, IsValidUpTo}
use Rattle.std.specs.Str.Lossy.{utf8_valid_len}
use Rattle.std.proofs.Common.{sym, subst, arith, inl, inr}
use Rattle.std.proofs.lemmas.Bool.{le-ltb, lt-ltb, eq-eqb, eqb-true, false_from_ne_true}
use Rattle.std.proofs.lemmas.Str.{utf8_valid_len-IsUtf8, utf8_valid_len-IsValidUpTo}
use Rattle.amh_host.specs.declared.place.Place.{Place}
use Rattle.amh_host.specs.declared.place.Kind.TheVariants.{Text, Subset, Loop as a_loop, Limit}
use Rattle.py_lexer.specs.declared.line.Line.{Line}
use Rattle.py_lexer.specs.Lines.{logical_lines}
use Rattle.py_tree.specs.Steps.{Steps}
use Rattle.private_names.specs.Statements.{mangled_program}
use Rattle.py_grammar.specs.Blocks.{IsProgram}
use Rattle.py_parser.specs.Parsing.{file_lines, IsRefusedAt}
use Rattle.design_ir.specs.Targets.{Bit}
use Rattle.comb_graph.specs.Orders.{IsOrder}
use Rattle.comb_graph.specs.Laws.{OrderedHaveNoLoop}
use Rattle.comb_graph.specs.Refusals.{IsTold}
use Rattle.elab_eval.specs.declared.refusal.ElabStop.{ElabStop}
use Rattle.elab_eval.specs.declared.refusal.ElabStop.TheVariants as elab
use Rattle.elab_eval.specs.Elaborates.{Found as Elab_found, Comes, IsElaborated as Comes_to}
use Rattle.amh_tool.specs.declared.refusal.DesignStop.{DesignStop}
use Rattle.amh_tool.specs.declared.refusal.DesignStop.TheVariants.{Refused, Spent, NoMemory}
use Rattle.amh_tool.specs.Plan.{Plan}
use Rattle.amh_tool.specs.Designs.{Given, circuit_of, Designed, gives, refuses, spends, refusal, line_start, ComesTo, IsCut, IsDesigned, IsElaborated, IsUnparsed, IsRanked}
use Rattle.amh_tool.specs.DesignGives.{Found, DesignGives, CutGives, LinesGive, ProgramGives, RankGives, given_seen, stop_seen}
use Rattle.amh_tool.specs.declared.design_text.Ranked.{Ranked}

found_weaker : (P Q : Designed → Type 0) (given : Result Ranked DesignStop) → ((x : Designed) → P x → Q x) → Found P given → Found Q given
found_weaker P Q (Ok r) f h = f (gives (given_seen r)) h
found_weaker P Q (Err (Refused why)) f h = f (refuses why) h
found_weaker P Q (Err (Spent place)) f h = f (spends place) h
found_weaker P Q (Err NoMemory) f h = tt

-- ---- bytes

-- a file that is longer than it may be
pub IsDesigned-long : (p : Plan) (bytes : List ℕ) → 1_048_576 < length bytes → IsDesigned p bytes (refuses (refusal Limit (line_start 1)))
IsDesigned-long p bytes long = rw (lt-ltb 1_048_576 (length bytes) long) refl

text_designed : (p : Plan) (bytes : List ℕ) (found : Designed) → length bytes ≤ 1_048_576 → IsUtf8 bytes → IsCut p bytes (logical_lines (chars bytes)) found → IsDesigned p bytes found
text_designed p bytes found few text h =
    rw (le-ltb 1_048_576 (length bytes) few, eq-eqb (utf8_valid_len bytes) (length bytes) (utf8_valid_len-IsUtf8 bytes text)) h

pub DesignGives-text : (p : Plan) (bytes : List ℕ) (given : Result Ranked DesignStop) → length bytes ≤ 1_048_576 → IsUtf8 bytes → CutGives p bytes (logical_lines (chars bytes)) given → DesignGives p bytes given
DesignGives-text p bytes given few text h =
    found_weaker (IsCut p bytes (logical_lines (chars bytes))) (IsDesigned p bytes) given (λ found. text_designed p bytes found few text) h

-- bytes that are no text
pub IsDesigned-bytes : (p : Plan) (bytes : List ℕ) (n : ℕ) → length bytes ≤ 1_048_576 → IsValidUpTo bytes n
    → IsDesigned p bytes (refuses (refusal Text (line_start (count_by (λ b. b == 10) (take n bytes) + 1))))
IsDesigned-bytes p bytes n few upto =
    let front : utf8_valid_len bytes ≡ n = utf8_valid_len-IsValidUpTo bytes n upto in
    let short : n < length bytes = upto.short in
    let apart : (utf8_valid_len bytes == length bytes) ≡ false =
    false_from_ne_true (utf8_valid_len bytes == length bytes) (λ e. omega (arith, eqb-true (utf8_valid_len bytes) (length bytes) e)) in
    rw (le-ltb 1_048_576 (length bytes) few, apart, front) refl

-- ---- lines

pub CutGives-lines : (p : Plan) (text : List ℕ) (cut : Result (List Line) Place) (lines : List Line) (given : Result Ranked DesignStop) → cut ≡ Ok lines → LinesGive p text lines given → CutGives p text cut given
CutGives-lines p text cut lines given is h = subst (λ (x : Result (List Line) Place). CutGives p text x given) (sym is) h

pub CutGives-fault : (p : Plan) (text : List ℕ) (cut : Result (List Line) Place) (place : Place) → cut ≡ Err place → CutGives p text cut (Err (Refused (refusal Subset place)))
CutGives-fault p text cut place is = subst (λ (x : Result (List Line) Place). CutGives p text x (Err (Refused (refusal Subset place)))) (sym is) refl

pub LinesGive-unparsed : (p : Plan) (text : List ℕ) (lines : List Line) (place : Place) → IsRefusedAt text lines place → LinesGive p text lines (Err (Refused (refusal Subset place)))
LinesGive-unparsed p text lines place h = inr (record { place = place; refused = h; is = refl })

-- ---- programs

LinesGive-parsed : (p : Plan) (text : List ℕ) (lines : List Line) (body : Steps) → IsProgram (file_lines text lines) body → (found : Designed) → ComesTo p (mangled_program body) found → IsElaborated p text lines found ⊎ IsUnparsed text lines found
LinesGive-parsed p text lines body program found h = inl (record { body = body; program = program; comes = h })

-- a program gives what it comes to
pub LinesGive-program : (p : Plan) (text : List ℕ) (lines : List Line) (body : Steps) (given : Result Ranked DesignStop) → IsProgram (file_lines text lines) body → ProgramGives p (mangled_program body) given → LinesGive p text lines given
LinesGive-program p text lines body given program h =
    found_weaker (ComesTo p (mangled_program body)) (λ found. IsElaborated p text lines found ⊎ IsUnparsed text lines found) given (LinesGive-parsed p text lines body program) h

-- a program with a design, which is ranked
pub ProgramGives-design : (p : Plan) (body : Steps) (left : ℕ) (f : Elab_found) (given : Result Ranked DesignStop) → Comes body p.top p.budget left (Ok f) → RankGives (record { program = body; found = f; left = left }) given → ProgramGives p body given
ProgramGives-design p body left f given h ranks =
    found_weaker (IsRanked (record { program = body; found = f; left = left })) (ComesTo p body) given
    (λ found ranked. record {
      came = Ok f;
      used = h.used;
      elaborates = h.outcome;
      checked = subst (λ (n : ℕ). IsRanked (record { program = body; found = f; left = n }) found) h.rest ranked;
    }) ranks

-- a program that is refused, or whose budget is spent
pub ProgramGives-stop : (p : Plan) (body : Steps) (left : ℕ) (stop : ElabStop) → Comes_to body p.top p.budget left (Err stop) → ProgramGives p body (Err (stop_seen stop))
ProgramGives-stop p body left (elab.Refused kind place) h = record { came = Err (elab.Refused kind place); used = h.used; elaborates = h.outcome; checked = refl }
ProgramGives-stop p body left (elab.Spent place) h = record { came = Err (elab.Spent place); used = h.used; elaborates = h.outcome; checked = refl }
ProgramGives-stop p body left elab.NoMemory h = tt

-- ---- the order of bits

pub IsRanked-order : (g : Given) (order : List Bit) → OrderedHaveNoLoop → IsOrder (circuit_of g) order → IsRanked g (gives g)
IsRanked-order g order law h = record { same = refl; loopless = law (circuit_of g) order h }

pub IsRanked-loop : (g : Given) (bit : Bit) (place : Place) → IsTold (circuit_of g) bit place → IsRanked g (refuses (refusal a_loop place))
IsRanked-loop g bit place h = record { bit = bit; told = h; kind = refl }
