-- What is read of a file is what it is derived as, and the line that is refused is the first that cannot stand there.
use Rattle.std.proofs.Common.{◌≡◌, refl, sym, ap, subst, ◌∙◌, List, [], ◌∷◌, ◌++◌, append_assoc, inl, inr}
use Rattle.std.proofs.lemmas.Bool.{le-leb}
use Rattle.std.specs.Prelude.{Bool, true, false}
use Rattle.std.proofs.Common.{arith}
use Rattle.py_tree.specs.Steps.{Steps, last}
use Rattle.py_grammar.specs.Blocks.{Line, at_top, BlockIn, IsFile, no_line, some_lines, IsProgram, IsFront, IsRefusedLine}
use Rattle.py_grammar.specs.Block_reading.{Part, Taken, Stuck, Form, block, Whole, Refused, last_line, verdict, program_by}
use Rattle.py_grammar.proofs.BlockParts.{left, Begun, Found, append_nothing}
use Rattle.py_grammar.proofs.BlockLines.{Exact_form}
use Rattle.py_grammar.proofs.BlockRooms.{knows_block}

-- the last of some lines, and those before it
before_last : (l : Line) (ls : List Line) → (before : List Line) × (l ∷ ls ≡ before ++ last_line l ls ∷ [])
before_last l [] = ([], refl)
before_last l (m ∷ ls) = let b = before_last m ls in (l ∷ b.0, ap (λ z. l ∷ z) b.1)

one_line_there : (front : List Line) (m : Line) (r : List Line) → [] ≡ front ++ m ∷ r → ⊥
one_line_there [] m r h = cc
one_line_there (l ∷ front) m r h = cc

module _ (form : Form) (exact : Exact_form form) where
  abbrev reads : List Line → Part Steps
  reads = block form 64 at_top 0

  abbrev Derives : Bool → List Line → Steps → Type 0
  Derives = BlockIn 64 at_top 0

  found_lines : (l : Line) (ls : List Line) → Found Derives reads (l ∷ ls) (reads (l ∷ ls))
  found_lines l ls = (knows_block form exact 64).found at_top 0 (l ∷ ls) (le-leb 0 l.indent (omega arith))

  -- ---- what is read is derived

  read_lines : (l : Line) (ls : List Line) (p : Part Steps) → Found Derives reads (l ∷ ls) p → (body : Steps) → verdict l ls p ≡ Whole body → IsProgram (l ∷ ls) body
  read_lines l ls (Taken b []) f body h =
      let e : b ≡ body = cc in
      some_lines (subst (λ z. Derives false z body) (sym (f.split ∙ append_nothing f.front)) (subst (Derives false f.front) e (f.derived false)))
  read_lines l ls (Taken b (m ∷ r)) f body h = cc
  read_lines l ls (Stuck []) f body h = cc
  read_lines l ls (Stuck (m ∷ r)) f body h = cc

  pub file_read : (lines : List Line) (body : Steps) → program_by form lines ≡ Whole body → IsProgram lines body
  unfolding program_by
  file_read [] body h = let e : last ≡ body = cc in subst (IsProgram []) e no_line
  file_read (l ∷ ls) body h = read_lines l ls (reads (l ∷ ls)) (found_lines l ls) body h

  -- ---- what is derived is read

  derived_lines : (lines : List Line) (body : Steps) → Derives false lines body → program_by form lines ≡ Whole body
  unfolding program_by
  derived_lines [] body d = let b = (knows_block form exact 64).begins at_top 0 false [] body d in let e = b.whole in cc
  derived_lines (l ∷ ls) body d = ap (verdict l ls) (ap reads (sym (append_nothing (l ∷ ls))) ∙ (knows_block form exact 64).complete at_top 0 (l ∷ ls) body [] d refl)

  file_derived_by : (cut : Bool) (lines : List Line) (body : Steps) → IsFile cut lines body → cut ≡ false → program_by form lines ≡ Whole body
  unfolding program_by
  file_derived_by cut lines body no_line c = refl
  file_derived_by cut lines body (some_lines d) c = derived_lines lines body (subst (λ c. Derives c lines body) c d)

  pub file_derived : (lines : List Line) (body : Steps) → IsProgram lines body → program_by form lines ≡ Whole body
  file_derived lines body d = file_derived_by false lines body d refl

  pub file_once : (lines : List Line) (body other : Steps) → IsProgram lines body → IsProgram lines other → body ≡ other
  file_once lines body other d e = let h : Whole body ≡ Whole other = sym (file_derived lines body d) ∙ file_derived lines other e in cc

  -- ---- the line that is refused

  -- where lines may be cut off, no line of theirs is left
  front_read : (cut : Bool) (lines : List Line) (body : Steps) → IsFile cut lines body → cut ≡ true → (front : List Line) (m : Line) (r : List Line) → lines ≡ front ++ m ∷ r → left (reads (front ++ m ∷ r)) ≡ []
  front_read cut lines body no_line c front m r h = absurd (one_line_there front m r h)
  front_read cut lines body (some_lines d) c front m r h = ap (λ z. left (reads z)) (sym h) ∙ (knows_block form exact 64).cut at_top 0 lines body (subst (λ c. Derives c lines body) c d)

  no_front : (front : List Line) (m : Line) (r : List Line) (p : Part Steps) → reads (front ++ m ∷ r) ≡ p → left p ≡ m ∷ r → IsFront (front ++ m ∷ r) → ⊥
  no_front front m r p h e f = let z : m ∷ r ≡ [] = sym e ∙ (ap left (sym h) ∙ front_read true (front ++ m ∷ r) f.0 f.1 refl front m r refl) in cc

  begun_front : (front : List Line) → Begun Derives front → IsFront front
  begun_front front b = elim b [ inl e ↦ subst IsFront (sym e) (last, no_line) | inr x ↦ (x.0, some_lines x.1) ]

  program_is : (l : Line) (ls : List Line) → program_by form (l ∷ ls) ≡ verdict l ls (reads (l ∷ ls))
  unfolding program_by
  program_is l ls = refl

  never : (lines : List Line) (body : Steps) (line : Line) → program_by form lines ≡ Refused line → IsProgram lines body → ⊥
  never lines body line h d = let z : Whole body ≡ Refused line = sym (file_derived lines body d) ∙ h in cc

  refused_lines : (l : Line) (ls : List Line) (p : Part Steps) → reads (l ∷ ls) ≡ p → Found Derives reads (l ∷ ls) p → (line : Line) → verdict l ls p ≡ Refused line → IsRefusedLine (l ∷ ls) line
  refused_lines l ls (Taken b []) e f line h = cc
  refused_lines l ls (Taken b (m ∷ r)) e f line h =
      let same : m ≡ line = cc in
      subst (IsRefusedLine (l ∷ ls)) same (inl (record { before = f.front; after = r; whole = f.split; front = (b, some_lines (f.derived true)); bad = no_front f.front m [] (Taken b (m ∷ [])) (f.again (m ∷ []) refl) refl }))
  refused_lines l ls (Stuck (m ∷ r)) e f line h =
      let same : m ≡ line = cc in
      subst (IsRefusedLine (l ∷ ls)) same (inl (record { before = f.front; after = r; whole = f.split; front = begun_front f.front f.begun; bad = no_front f.front m [] (Stuck (m ∷ [])) (f.again (m ∷ []) refl) refl }))
  refused_lines l ls (Stuck []) e f line h =
      let same : last_line l ls ≡ line = cc in
      let b = before_last l ls in
      subst (IsRefusedLine (l ∷ ls)) same (inr (record { before = b.0; whole = b.1; front = subst IsFront (sym (f.split ∙ append_nothing f.front)) (begun_front f.front f.begun); unended = λ body d. never (l ∷ ls) body (last_line l ls) (program_is l ls ∙ ap (verdict l ls) e) d }))

  pub file_refused : (lines : List Line) (line : Line) → program_by form lines ≡ Refused line → IsRefusedLine lines line
  unfolding program_by
  file_refused [] line h = cc
  file_refused (l ∷ ls) line h = refused_lines l ls (reads (l ∷ ls)) refl (found_lines l ls) line h

  -- ---- the fronts of a front

  no_longer : (before after front : List Line) (m : Line) (r : List Line) (p : Part Steps) → before ≡ front ++ m ∷ r → reads (front ++ m ∷ (r ++ after)) ≡ p → left p ≡ m ∷ (r ++ after) → IsFront (before ++ after) → ⊥
  no_longer before after front m r p e h k f = no_front front m (r ++ after) p h k (subst IsFront (ap (λ z. z ++ after) e ∙ append_assoc front (m ∷ r) after) f)

  front_lines : (l : Line) (ls after : List Line) (p : Part Steps) → Found Derives reads (l ∷ ls) p → IsFront ((l ∷ ls) ++ after) → IsFront (l ∷ ls)
  front_lines l ls after (Taken b []) f d = (b, some_lines (subst (λ z. Derives true z b) (sym (f.split ∙ append_nothing f.front)) (f.derived true)))
  front_lines l ls after (Taken b (m ∷ r)) f d = absurd (no_longer (l ∷ ls) after f.front m r (Taken b (m ∷ (r ++ after))) f.split (f.again (m ∷ (r ++ after)) refl) refl d)
  front_lines l ls after (Stuck []) f d = subst IsFront (sym (f.split ∙ append_nothing f.front)) (begun_front f.front f.begun)
  front_lines l ls after (Stuck (m ∷ r)) f d = absurd (no_longer (l ∷ ls) after f.front m r (Stuck (m ∷ (r ++ after))) f.split (f.again (m ∷ (r ++ after)) refl) refl d)

  pub front_closed : (before after : List Line) → IsFront (before ++ after) → IsFront before
  front_closed [] after d = (last, no_line)
  front_closed (l ∷ ls) after d = front_lines l ls after (reads (l ∷ ls)) (found_lines l ls) d
