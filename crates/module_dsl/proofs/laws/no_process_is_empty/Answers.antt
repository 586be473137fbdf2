use Rattle.std.proofs.Common.{◌≡◌, ◌≢◌, ◌∙◌, ◌||◌, cond, Bool, true, false, not, List, [], ◌∷◌, map, refl, sym, ap}
use Rattle.std.specs.List.{AllByRecursion, filter}
use Rattle.std.proofs.lemmas.Bool.{false≢true}
use Rattle.design_ir.specs.declared.process.Side.{Side}
use Rattle.design_ir.specs.declared.process.Process.{Process}
use Rattle.design_ir.specs.Trees.{done}
use Rattle.module_dsl.specs.Blocks.{Given, Entries}
use Rattle.module_dsl.specs.Sided.{same_side, givens, sides_of, has_side, block_for, process_of}
use Rattle.module_dsl.proofs.GivenLaws.{same_itself}
use Rattle.module_dsl.proofs.PartingLaws.{is_some, block_left}
use Rattle.module_dsl.proofs.laws.no_process_is_empty.Goals as goal

-- some statement is of the side
abbrev HasSide : List Given → Side → Type 0
HasSide all side = has_side side all ≡ true

filled : (es : Entries) (side : Side) → HasSide (givens es) side → block_for side es ≢ done
filled es side h = λ e. false≢true (sym (ap is_some e) ∙ block_left side es ∙ h)

later : (g : Given) (all : List Given) (side : Side) → HasSide all side → HasSide (g ∷ all) side
later g all side h = or_true (same_side side g.side) (has_side side all) h
  where
    or_true : (a b : Bool) → b ≡ true → (a || b) ≡ true
    or_true true b e = refl
    or_true false b e = e

kept : (p : Side → Bool) (P : Side → Type 0) (ss : List Side) → AllByRecursion P ss → AllByRecursion P (filter p ss)
kept p P [] h = tt
kept p P (s ∷ ss) h = split (kept p P ss h.1) (p s)
  where
    split : AllByRecursion P (filter p ss) → (b : Bool) → AllByRecursion P (cond b (s ∷ filter p ss) (filter p ss))
    split rest true = (h.0, rest)
    split rest false = rest

weaker : {P Q : Side → Type 0} → ((s : Side) → P s → Q s) → (ss : List Side) → AllByRecursion P ss → AllByRecursion Q ss
weaker f [] h = tt
weaker f (s ∷ ss) h = (f s h.0, weaker f ss h.1)

sides_have : (all : List Given) → AllByRecursion (HasSide all) (sides_of all)
sides_have [] = tt
sides_have (g ∷ all) = (
  ap (λ b. b || has_side g.side all) (same_itself g.side),
  kept (λ s. not (same_side g.side s)) (HasSide (g ∷ all)) (sides_of all) (weaker (later g all) (sides_of all) (sides_have all)),
)

made : (es : Entries) (ss : List Side) → AllByRecursion (HasSide (givens es)) ss → AllByRecursion (λ (p : Process). p.body ≢ done) (map (process_of es) ss)
made es [] h = tt
made es (s ∷ ss) h = (filled es s h.0, made es ss h.1)

pub returns : goal.returns
returns c = λ es. made es (sides_of (givens es)) (sides_have (givens es))
