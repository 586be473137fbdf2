-- What a file's lines are read as, by what is read of its block.
use Rattle.std.proofs.Common.{◌≡◌, ℕ, ◌<◌, ◌≤◌, ◌-◌, zero, suc, refl, ap, ◌∙◌, sym, subst, length, map, min, List, [], ◌∷◌, Some, None, inl, inr, arith}
use Rattle.std.specs.Prelude.{◌⊎◌, Result, Ok, Err}
use Rattle.std.proofs.Math.Nat.{min-eq_left, min-eq_right}
use Rattle.std.proofs.lemmas.Bool.{cases_lt}
use Rattle.std.specs.List.{slice_get}
use Rattle.std.proofs.lemmas.Option.{slice_get_past}
use Rattle.py_tree.specs.Programs.{program_of}
use Rattle.py_tree.specs.declared.stmt.Program.{Program}
use Rattle.py_tree.specs.Steps.{Steps, last}
use Rattle.py_grammar.specs.Blocks.{Line, at_top}
use Rattle.py_grammar.specs.Block_reading.{Part, Taken, Stuck, block, Verdict, Whole, Refused, last_line, verdict, program_by, program}
use Rattle.py_grammar.specs.Block_laws.{ProgramReadIsDerived, RefusedIsFirst}
use Rattle.py_parser.specs.declared.block_parts.LineWords.{LineWords}
use Rattle.py_parser.specs.declared.block_parts.Halt.{Halt}
use Rattle.py_parser.specs.declared.block_parts.Halt.TheVariants as halts
use Rattle.py_parser.specs.declared.block_file.FileStop.{FileStop}
use Rattle.py_parser.specs.declared.block_file.FileStop.TheVariants as stops
use Rattle.py_parser.specs.Files.{line_seen, lines_from, file_form, Halted, IsAt, Tells, Judges}
use Rattle.py_parser.proofs.BlockLines.{line_comes}

-- the block of a whole file, and what is said of it
abbrev of_file : List LineWords → Part Steps
of_file lines = block file_form 64 at_top 0 (lines_from lines 0)

abbrev judged : LineWords → List LineWords → Part Steps → Verdict
judged l ls part = verdict (line_seen l) (map line_seen ls) part

program_judged : (l : LineWords) (ls : List LineWords) → program (map line_seen (l ∷ ls)) ≡ judged l ls (of_file (l ∷ ls))
unfolding program program_by lines_from
program_judged l ls = refl

pub no_lines : (lines : List LineWords) → length lines ≡ 0 → program (map line_seen lines) ≡ Whole last
unfolding program program_by
no_lines [] h = refl
no_lines (l ∷ ls) h = absurd (omega (arith, h))

-- the line with a number that is not past the end
line_there : (lines : List LineWords) (at : ℕ) → at < length lines → (l : LineWords) × (slice_get lines at ≡ Some l)
line_there [] at h = absurd (omega (arith, h))
line_there (l ∷ lines) zero h = (l, refl)
line_there (l ∷ lines) (suc at) h = line_there lines at (omega (arith, h))

none_past : (lines : List LineWords) (at : ℕ) → length lines ≤ at → lines_from lines at ≡ []
none_past lines at h = line_comes lines at None (slice_get_past lines at h)

last_there : (l : LineWords) (ls : List LineWords) → (m : LineWords) × (slice_get (l ∷ ls) (length ls) ≡ Some m) × (last_line (line_seen l) (map line_seen ls) ≡ line_seen m)
last_there l [] = (l, refl, refl)
last_there l (m ∷ ls) = last_there m ls

-- ---- where a block was read

pub whole_read : (lines : List LineWords) (body : Steps) (at : ℕ) → 0 < length lines → of_file lines ≡ Taken body (lines_from lines at) → length lines ≤ at → program (map line_seen lines) ≡ Whole body
whole_read [] body at h r p = absurd (omega (arith, h))
whole_read (l ∷ ls) body at h r p = program_judged l ls ∙ (ap (judged l ls) r ∙ ap (λ (z : List Line). judged l ls (Taken body z)) (none_past (l ∷ ls) at p))

pub left_over : (lines : List LineWords) (body : Steps) (at : ℕ) → of_file lines ≡ Taken body (lines_from lines at) → at < length lines → IsAt lines (λ l. program (map line_seen lines) ≡ Refused l) at
left_over [] body at r p = absurd (omega (arith, p))
left_over (l ∷ ls) body at r p =
    let found = line_there (l ∷ ls) at p in
    let here = line_comes (l ∷ ls) at (Some found.0) found.1 in
    record {
      within = p;
      line = found.0;
      there = found.1;
      is = program_judged l ls ∙ (ap (judged l ls) r ∙ ap (λ (z : List Line). judged l ls (Taken body z)) here.0);
    }

-- ---- where reading stopped

stuck_at_line : (l : LineWords) (ls : List LineWords) (at : ℕ) → of_file (l ∷ ls) ≡ Stuck (lines_from (l ∷ ls) at) → at < length (l ∷ ls) → IsAt (l ∷ ls) (λ m. program (map line_seen (l ∷ ls)) ≡ Refused m) at
stuck_at_line l ls at r p =
    let found = line_there (l ∷ ls) at p in
    let here = line_comes (l ∷ ls) at (Some found.0) found.1 in
    record {
      within = p;
      line = found.0;
      there = found.1;
      is = program_judged l ls ∙ (ap (judged l ls) r ∙ ap (λ (z : List Line). judged l ls (Stuck z)) here.0);
    }

stuck_at_end : (l : LineWords) (ls : List LineWords) (at : ℕ) → of_file (l ∷ ls) ≡ Stuck (lines_from (l ∷ ls) at) → length (l ∷ ls) ≤ at → IsAt (l ∷ ls) (λ m. program (map line_seen (l ∷ ls)) ≡ Refused m) (length ls)
stuck_at_end l ls at r p =
    let found = last_there l ls in
    record {
      within = omega arith;
      line = found.0;
      there = found.1;
      is = program_judged l ls ∙ (ap (judged l ls) r ∙ (ap (λ (z : List Line). judged l ls (Stuck z)) (none_past (l ∷ ls) at p) ∙ ap (λ (z : Line). Refused z) found.2));
    }

stuck_by : (l : LineWords) (ls : List LineWords) (at number : ℕ) → of_file (l ∷ ls) ≡ Stuck (lines_from (l ∷ ls) at) → number ≡ min at (length ls) → (at < length (l ∷ ls)) ⊎ (length (l ∷ ls) ≤ at) → IsAt (l ∷ ls) (λ m. program (map line_seen (l ∷ ls)) ≡ Refused m) number
stuck_by l ls at number r h (inl p) =
    let small : at ≤ length ls = omega (arith, p) in
    let same : number ≡ at = h ∙ min-eq_left small in
    subst (IsAt (l ∷ ls) (λ m. program (map line_seen (l ∷ ls)) ≡ Refused m)) (sym same) (stuck_at_line l ls at r p)
stuck_by l ls at number r h (inr p) =
    let small : length ls ≤ at = omega (arith, p) in
    let same : number ≡ length ls = h ∙ min-eq_right small in
    subst (IsAt (l ∷ ls) (λ m. program (map line_seen (l ∷ ls)) ≡ Refused m)) (sym same) (stuck_at_end l ls at r p)

pub halted_at : (lines : List LineWords) (halt : Halt) (at : ℕ) (part : Part Steps) → halt ≡ halts.Stuck at → Halted lines halt part → part ≡ Stuck (lines_from lines at)
halted_at lines halt at part h p = subst (λ (z : Halt). Halted lines z part) h p

pub stuck : (lines : List LineWords) (at number : ℕ) → 0 < length lines → of_file lines ≡ Stuck (lines_from lines at) → number ≡ min at (length lines - 1) → IsAt lines (λ m. program (map line_seen lines) ≡ Refused m) number
stuck [] at number p r h = absurd (omega (arith, p))
stuck (l ∷ ls) at number p r h =
    let few : length (l ∷ ls) - 1 ≡ length ls = omega arith in
    stuck_by l ls at number r (h ∙ ap (min at) few) (cases_lt at (length (l ∷ ls)))

-- ---- in the grammar's own words

pub judges : ProgramReadIsDerived → RefusedIsFirst → (lines : List LineWords) (result : Result Program FileStop) → Tells lines result (program (map line_seen lines)) → Judges lines result
judges derived first lines (Ok p) h = derived (map line_seen lines) (program_of p) h
judges derived first lines (Err (stops.Line i)) h = record { within = h.within; line = h.line; there = h.there; is = first (map line_seen lines) (line_seen h.line) h.is }
judges derived first lines (Err stops.NoMemory) h = h
