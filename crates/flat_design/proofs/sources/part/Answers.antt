use Rattle.std.specs.Prelude.{◌≡◌, slice_get, slice_index_or, length, Some}
use Rattle.std.proofs.lemmas.Option.{slice_get-get_or}
use Rattle.shape_rules.specs.Forms.{unsigned}
use Rattle.design_ir.specs.declared.expr.Expr.TheVariants.{Slice}
use Rattle.design_ir.specs.PoolRules.{IsPool}
use Rattle.design_ir.specs.Values.{form}
use Rattle.flat_design.specs.declared.sources.Source.{Source}
use Rattle.flat_design.specs.Growing.{IsMore}
use Rattle.flat_design.specs.Sources.{IsSource}
use Rattle.flat_design.specs.Adding.{IsAdded, IsPart}
use Rattle.flat_design.proofs.SourceLists.{all_get, sources_more, if_ok3}
use Rattle.flat_design.proofs.Joining.{plain_shape, run_inside, whole_part, slice_part}
use Rattle.flat_design.proofs.sources.part.Goals as goal

pub returns-then-shape-run-clause-part : goal.returns-then-shape-run-clause-part
returns-then-shape-run-clause-part c =
    let x : Source = slice_index_or c.args.run.now 0 record { expr = record { 0 = 0 }; bit = 0 } in
    let first : slice_get c.args.run.now 0 ≡ Some x = slice_get-get_or c.args.run.now 0 record { expr = record { 0 = 0 }; bit = 0 } c.requires.some in
    let is : form c.args.pool.now x.expr.0 ≡ unsigned (length c.args.run.now) = plain_shape c.shape.inside.width (length c.args.run.now) c.shape.inside.signed c.shape-shape.result (form c.args.pool.now x.expr.0) c.if-not-shape.true c.if-shape-run.true c.shape.view_is c.shape-shape.ensures in
    whole_part c.args.pool.now c.args.run.now x c.requires.run (all_get (IsSource c.args.pool.now) c.args.run.now c.requires.sources) first is

pub added-requires-clause-askable : goal.added-requires-clause-askable
added-requires-clause-askable c =
    let x : Source = slice_index_or c.args.run.now 0 record { expr = record { 0 = 0 }; bit = 0 } in
    let first : slice_get c.args.run.now 0 ≡ Some x = slice_get-get_or c.args.run.now 0 record { expr = record { 0 = 0 }; bit = 0 } c.requires.some in
    let sources = all_get (IsSource c.args.pool.now) c.args.run.now c.requires.sources in
    record { names = ((sources 0 x first).readable.there, tt); parts = run_inside c.args.pool.now c.args.run.now x c.requires.run sources first }

pub returns-clause-part : goal.returns-clause-part
returns-clause-part c =
    let x : Source = slice_index_or c.args.run.now 0 record { expr = record { 0 = 0 }; bit = 0 } in
    let first : slice_get c.args.run.now 0 ≡ Some x = slice_get-get_or c.args.run.now 0 record { expr = record { 0 = 0 }; bit = 0 } c.requires.some in
    if_ok3 c.added.result (λ id. IsMore c.args.pool.now c.added.new.pool) (λ id. IsPool c.added.new.pool) (IsAdded c.added.new.pool (Slice x.expr x.bit (length c.args.run.now))) (IsPart c.added.new.pool c.args.run.now)
    c.added.ensures.more c.added.ensures.rules c.added.ensures.added
    (λ id more rules added.
    slice_part c.added.new.pool c.args.run.now x id rules c.requires.run
    (all_get (IsSource c.added.new.pool) c.args.run.now (sources_more c.args.pool.now c.added.new.pool c.args.run.now c.known.ensures more c.requires.sources)) first added)
