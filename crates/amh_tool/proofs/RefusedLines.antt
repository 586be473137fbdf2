-- The lines of a file have one line that is refused, and none where they are a program.
use Rattle.std.specs.Prelude.{◌≡◌, ◌⊎◌, true, List, [], ◌∷◌, ◌++◌}
use Rattle.std.proofs.Common.{sym, ◌∙◌, ap, subst, append_assoc, arith, inl, inr}
use Rattle.std.proofs.lemmas.Bool.{le-leb}
use Rattle.py_tree.specs.Steps.{Steps, last}
use Rattle.py_grammar.specs.Line_reading.{line_of}
use Rattle.py_grammar.specs.Blocks.{Line, at_top, BlockIn, no_line, some_lines, IsProgram, IsFront, IsFirstBad, IsUnended, IsRefusedLine}
use Rattle.py_grammar.specs.Block_reading.{Part, Taken, Stuck, block, Whole, verdict, program_by}
use Rattle.py_grammar.specs.Block_laws.{FrontOfFront}
use Rattle.py_grammar.proofs.Lines.{line_read_is_derived, line_derived_is_read}
use Rattle.py_grammar.proofs.BlockParts.{Found, append_nothing}
use Rattle.py_grammar.proofs.BlockLines.{Exact_form}
use Rattle.py_grammar.proofs.BlockLeads.{form_leads}
use Rattle.py_grammar.proofs.BlockRooms.{knows_block}
use Rattle.py_grammar.proofs.BlockFiles.{file_derived}

-- ---- a program is a front of itself

exact_lines : Exact_form (line_of 64)
exact_lines = record {
  sound = line_read_is_derived 64;
  complete = line_derived_is_read 64;
  elif_leads = λ ws f h. (form_leads 64 ws f h).elif_leads;
  else_leads = λ ws f h. (form_leads 64 ws f h).else_leads;
}

read_front : (l : Line) (ls : List Line) (p : Part Steps) → Found (BlockIn 64 at_top 0) (block (line_of 64) 64 at_top 0) (l ∷ ls) p → (body : Steps) → verdict l ls p ≡ Whole body → IsFront (l ∷ ls)
read_front l ls (Taken b []) f body h = (b, some_lines (subst (λ (z : List Line). BlockIn 64 at_top 0 true z b) (sym (f.split ∙ append_nothing f.front)) (f.derived true)))
read_front l ls (Taken b (m ∷ r)) f body h = absurd (cc)
read_front l ls (Stuck []) f body h = absurd (cc)
read_front l ls (Stuck (m ∷ r)) f body h = absurd (cc)

program_front-read : (lines : List Line) (body : Steps) → program_by (line_of 64) lines ≡ Whole body → IsFront lines
unfolding program_by
program_front-read [] body h = (last, no_line)
program_front-read (l ∷ ls) body h = read_front l ls (block (line_of 64) 64 at_top 0 (l ∷ ls)) ((knows_block (line_of 64) exact_lines 64).found at_top 0 (l ∷ ls) (le-leb 0 l.indent (omega arith))) body h

program_front : (lines : List Line) (body : Steps) → IsProgram lines body → IsFront lines
program_front lines body h = program_front-read lines body (file_derived (line_of 64) exact_lines lines body h)

-- ---- where two lists of lines part

-- one list goes on behind another and a line
abbrev Passes : List Line → Line → List Line → Type 0
Passes short x long = (more : List Line) × (long ≡ (short ++ x ∷ []) ++ more)

parted : (xs ys : List Line) (x y : Line) (us vs : List Line) → xs ++ x ∷ us ≡ ys ++ y ∷ vs → (x ≡ y) ⊎ Passes xs x ys ⊎ Passes ys y xs
parted [] [] x y us vs e = let h : x ≡ y = cc in inl h
parted [] (z ∷ ys) x y us vs e = let h : x ≡ z = cc in inr (inl (ys, ap (λ (w : Line). w ∷ ys) (sym h)))
parted (w ∷ xs) [] x y us vs e = let h : w ≡ y = cc in inr (inr (xs, ap (λ (z : Line). z ∷ xs) h))
parted (w ∷ xs) (z ∷ ys) x y us vs e =
    let h : w ≡ z = cc in
    let rest : xs ++ x ∷ us ≡ ys ++ y ∷ vs = cc in
    elim (parted xs ys x y us vs rest) [
      | inl same ↦ inl same
      | inr more ↦ elim more [
        | inl p ↦ inr (inl (p.0, λ i. (sym h) i ∷ p.1 i))
        | inr p ↦ inr (inr (p.0, λ i. h i ∷ p.1 i))
      ]
    ]

no_end : (ys : List Line) (y : Line) → [] ≡ ys ++ y ∷ [] → ⊥
no_end [] y e = cc
no_end (z ∷ ys) y e = cc

one_end : (xs ys : List Line) (x y : Line) → xs ++ x ∷ [] ≡ ys ++ y ∷ [] → x ≡ y
one_end [] [] x y e = cc
one_end [] (z ∷ ys) x y e = let r : [] ≡ ys ++ y ∷ [] = cc in absurd (no_end ys y r)
one_end (w ∷ xs) [] x y e = let r : [] ≡ xs ++ x ∷ [] = cc in absurd (no_end xs x r)
one_end (w ∷ xs) (z ∷ ys) x y e = let r : xs ++ x ∷ [] ≡ ys ++ y ∷ [] = cc in one_end xs ys x y r

-- ---- the line that is refused

module _ (front_of_front : FrontOfFront) where
  -- no front goes on behind the first line with which lines are none
  no_longer : (lines longer : List Line) (l : Line) (b : IsFirstBad lines l) → IsFront longer → Passes b.before l longer → ⊥
  no_longer lines longer l b front p = b.bad (front_of_front (b.before ++ l ∷ []) p.0 (subst IsFront p.1 front))

  whole_passes : (lines : List Line) (l : Line) (b : IsFirstBad lines l) → Passes b.before l lines
  whole_passes lines l b = (b.after, b.whole ∙ sym (append_assoc b.before (l ∷ []) b.after))

  first_bad_once : (lines : List Line) (l m : Line) → IsFirstBad lines l → IsFirstBad lines m → l ≡ m
  first_bad_once lines l m a b =
      elim (parted a.before b.before l m a.after b.after (sym a.whole ∙ b.whole)) [
        | inl same ↦ same
        | inr more ↦ elim more [
          | inl p ↦ absurd (no_longer lines b.before l a b.front p)
          | inr p ↦ absurd (no_longer lines a.before m b a.front p)
        ]
      ]

  not_both : (lines : List Line) (l m : Line) → IsFirstBad lines l → IsUnended lines m → ⊥
  not_both lines l m a b = no_longer lines lines l a b.front (whole_passes lines l a)

  pub refused_once : (lines : List Line) (l m : Line) → IsRefusedLine lines l → IsRefusedLine lines m → l ≡ m
  refused_once lines l m (inl a) (inl b) = first_bad_once lines l m a b
  refused_once lines l m (inl a) (inr b) = absurd (not_both lines l m a b)
  refused_once lines l m (inr a) (inl b) = absurd (not_both lines m l b a)
  refused_once lines l m (inr a) (inr b) = one_end a.before b.before l m (sym a.whole ∙ b.whole)

  pub program_stands : (lines : List Line) (body : Steps) (l : Line) → IsProgram lines body → IsRefusedLine lines l → ⊥
  program_stands lines body l h (inl a) = no_longer lines lines l a (program_front lines body h) (whole_passes lines l a)
  program_stands lines body l h (inr a) = a.unended body h
