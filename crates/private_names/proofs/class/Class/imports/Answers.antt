use Rattle.std.proofs.Common.{◌∙◌, arith}
use Rattle.private_names.proofs.Rows.{all_made, import_within, imports_within}
use Rattle.private_names.proofs.class.Class.imports.Goals as goal

pub returns : goal.returns
returns c = let class = c.args.self.now.name in all_made (import_within class) c.as_slice-one-items.result.now c.args.all.now.items c.loop-one.one-index _ c.as_slice-one-items.ensures.value (omega (arith, c.loop-one-test.false)) c.loop-one.invariant ∙ imports_within class c.args.all.now.items
