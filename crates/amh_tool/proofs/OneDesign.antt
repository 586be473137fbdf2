-- The bytes of a design file stand for one design, for one refusal, or for one spent budget.
use Rattle.std.specs.Prelude.{◌≡◌, refl, ℕ, ◌-◌, ◌==◌, nat_lt, Bool, true, false, List, length, Result, Ok, Err}
use Rattle.std.specs.Bool.{MatchBool}
use Rattle.std.specs.Str.{chars}
use Rattle.std.specs.Str.Lossy.{utf8_valid_len}
use Rattle.std.proofs.Common.{sym, ◌∙◌, ap, subst, arith, inl, inr}
use Rattle.amh_host.specs.declared.place.Place.{Place}
use Rattle.amh_host.specs.declared.place.Kind.TheVariants.{Text, Subset, Limit}
use Rattle.py_lexer.specs.declared.line.Line.{Line}
use Rattle.py_lexer.specs.Lines.{logical_lines}
use Rattle.py_tree.specs.Steps.{Steps}
use Rattle.private_names.specs.Statements.{mangled_program}
use Rattle.py_grammar.specs.Block_laws.{OneProgram, FrontOfFront}
use Rattle.py_parser.specs.Parsing.{file_lines, words_line, IsRefusedAt}
use Rattle.design_ir.specs.Targets.{Bit}
use Rattle.design_ir.specs.Circuits.{Circuit}
use Rattle.comb_graph.specs.Refusals.{IsUpTo, IsLeastLoop, loop_place}
use Rattle.elab_eval.specs.declared.refusal.ElabStop.{ElabStop}
use Rattle.elab_eval.specs.declared.refusal.ElabStop.TheVariants as elab
use Rattle.elab_eval.specs.Elaborates.{Found, OneOutcome as One_elaboration}
use Rattle.amh_tool.specs.Plan.{Plan}
use Rattle.amh_tool.specs.Designs.{Given, circuit_of, Designed, gives, refuses, spends, refusal, line_start, bad_line, IsLoopTold, IsRanked, IsChecked, ComesTo, IsElaborated, IsUnparsed, IsCut, IsText, IsDesigned}
use Rattle.amh_tool.proofs.LinePlaces.{place_by_words}
use Rattle.amh_tool.proofs.RefusedLines.{refused_once, program_stands}

-- it holds of one at most
abbrev pub Once : {A : Type 0} → (A → Type 0) → Type 0
Once {A} P = (x y : A) → P x → P y → x ≡ y

pub once_equal : {A : Type 0} (a : A) → Once (λ (x : A). x ≡ a)
once_equal a x y h k = h ∙ sym k

-- ---- loops

up_to_once : (a b : Bit) → IsUpTo a b → IsUpTo b a → a ≡ b
up_to_once a b (inl h) (inl k) = absurd (omega (arith, h, k))
up_to_once a b (inl h) (inr k) = absurd (omega (arith, h, k.0))
up_to_once a b (inr h) (inl k) = absurd (omega (arith, h.0, k))
up_to_once a b (inr h) (inr k) =
    let index : a.index ≡ b.index = omega (arith, h.1, k.1) in
    λ i. record { sig = h.0 i; index = index i }

least_once : (c : Circuit) → Once (IsLeastLoop c)
least_once c a b h k = up_to_once a b (h.least b k.loops) (k.least a h.loops)

told_once : (c : Circuit) → Once (IsLoopTold c)
told_once c r s h k =
    let bit : h.bit ≡ k.bit = least_once c h.bit k.bit h.told.is_least k.told.is_least in
    let place : r.place ≡ s.place = h.told.place ∙ ap (loop_place c) bit ∙ sym k.told.place in
    let kind : r.kind ≡ s.kind = h.kind ∙ sym k.kind in
    λ i. record { place = place i; kind = kind i }

ranked_once : (g : Given) → Once (IsRanked g)
ranked_once g (gives d) (gives e) h k = ap gives (h.same ∙ sym k.same)
ranked_once g (gives d) (refuses s) h k = absurd (h.loopless k.bit k.told.is_least.loops)
ranked_once g (gives d) (spends p) h k = absurd k
ranked_once g (refuses r) (gives e) h k = absurd (k.loopless h.bit h.told.is_least.loops)
ranked_once g (refuses r) (refuses s) h k = ap refuses (told_once (circuit_of g) r s h k)
ranked_once g (refuses r) (spends p) h k = absurd k
ranked_once g (spends p) y h k = absurd h

-- ---- programs

checked_once : (body : Steps) (left : ℕ) (x : Result Found ElabStop) → Once (IsChecked body left x)
checked_once body left (Ok f) = ranked_once (record { program = body; found = f; left = left })
checked_once body left (Err (elab.Refused kind place)) = once_equal (refuses (refusal kind place))
checked_once body left (Err (elab.Spent place)) = once_equal (spends place)
checked_once body left (Err elab.NoMemory) = λ x y h k. absurd h

comes_once : One_elaboration → (p : Plan) (body : Steps) → Once (ComesTo p body)
comes_once one p body x y h k =
    let same = one body p.top p.budget h.came k.came h.used k.used h.elaborates k.elaborates in
    checked_once body (p.budget - k.used) k.came x y
    (subst (λ (r : Result Found ElabStop). IsChecked body (p.budget - k.used) r x) same.0 (subst (λ (n : ℕ). IsChecked body (p.budget - n) h.came x) same.1 h.checked)) k.checked

-- ---- lines

module _ (one_elaboration : One_elaboration) (one_program : OneProgram) (front_of_front : FrontOfFront) where
  elaborated_once : (p : Plan) (text : List ℕ) (lines : List Line) → Once (IsElaborated p text lines)
  elaborated_once p text lines x y h k =
      let body : h.body ≡ k.body = one_program (file_lines text lines) h.body k.body h.program k.program in
      comes_once one_elaboration p (mangled_program k.body) x y (subst (λ (b : Steps). ComesTo p (mangled_program b) x) body h.comes) k.comes

  refused_at_once : (text cs : List ℕ) (lines : List Line) → logical_lines cs ≡ Ok lines → Once (IsRefusedAt text lines)
  refused_at_once text cs lines cut x y h k =
      let same : words_line text h.line ≡ words_line text k.line = refused_once front_of_front (file_lines text lines) (words_line text h.line) (words_line text k.line) h.refused k.refused in
      h.begins ∙ place_by_words text cs lines h.number k.number h.line k.line cut h.there k.there same ∙ sym k.begins

  unparsed_once : (text cs : List ℕ) (lines : List Line) → logical_lines cs ≡ Ok lines → Once (IsUnparsed text lines)
  unparsed_once text cs lines cut x y h k =
      h.is ∙ ap (λ (p : Place). refuses (refusal Subset p)) (refused_at_once text cs lines cut h.place k.place h.refused k.refused) ∙ sym k.is

  not_both : (p : Plan) (text : List ℕ) (lines : List Line) (x y : Designed) → IsElaborated p text lines x → IsUnparsed text lines y → ⊥
  not_both p text lines x y h k = program_stands front_of_front (file_lines text lines) h.body (words_line text k.refused.line) h.program k.refused.refused

  cut_once : (p : Plan) (text cs : List ℕ) (cut : Result (List Line) Place) → logical_lines cs ≡ cut → Once (IsCut p text cut)
  cut_once p text cs (Ok lines) is x y (inl h) (inl k) = elaborated_once p text lines x y h k
  cut_once p text cs (Ok lines) is x y (inl h) (inr k) = absurd (not_both p text lines x y h k)
  cut_once p text cs (Ok lines) is x y (inr h) (inl k) = absurd (not_both p text lines y x k h)
  cut_once p text cs (Ok lines) is x y (inr h) (inr k) = unparsed_once text cs lines is x y h k
  cut_once p text cs (Err place) is x y h k = once_equal (refuses (refusal Subset place)) x y h k

  -- ---- bytes

  either_once : (b : Bool) (P Q : Designed → Type 0) → Once P → Once Q → Once (λ (x : Designed). MatchBool b (P x) (Q x))
  either_once true P Q h k = h
  either_once false P Q h k = k

  text_once : (p : Plan) (bytes : List ℕ) → Once (IsText p bytes)
  text_once p bytes =
      either_once (utf8_valid_len bytes == length bytes) (IsCut p bytes (logical_lines (chars bytes))) (λ found. found ≡ refuses (refusal Text (line_start (bad_line bytes))))
      (cut_once p bytes (chars bytes) (logical_lines (chars bytes)) refl) (once_equal (refuses (refusal Text (line_start (bad_line bytes)))))

  pub designed_once : (p : Plan) (bytes : List ℕ) → Once (IsDesigned p bytes)
  designed_once p bytes =
      either_once (nat_lt 1_048_576 (length bytes)) (λ found. found ≡ refuses (refusal Limit (line_start 1))) (IsText p bytes)
      (once_equal (refuses (refusal Limit (line_start 1)))) (text_once p bytes)
