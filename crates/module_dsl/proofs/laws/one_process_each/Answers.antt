use Rattle.std.proofs.Common.{◌≡◌, List, [], ◌∷◌, map, refl, sym, ap, subst}
use Rattle.std.specs.List.{IsDistinct}
use Rattle.design_ir.specs.declared.process.Side.{Side}
use Rattle.design_ir.specs.declared.process.Process.{Process}
use Rattle.module_dsl.specs.Blocks.{Entries}
use Rattle.module_dsl.specs.Sided.{same_side, givens, sides_of, process_of}
use Rattle.module_dsl.proofs.GivenLaws.{sides_distinct}
use Rattle.module_dsl.proofs.laws.one_process_each.Goals as goal

sides_back : (es : Entries) (ss : List Side) → map (λ (p : Process). p.side) (map (process_of es) ss) ≡ ss
sides_back es [] = refl
sides_back es (s ∷ ss) = ap (λ ts. s ∷ ts) (sides_back es ss)

pub returns : goal.returns
returns c = λ es. subst (IsDistinct same_side) (sym (sides_back es (sides_of (givens es)))) (sides_distinct (givens es))
