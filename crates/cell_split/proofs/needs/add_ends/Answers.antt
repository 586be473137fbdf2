use Rattle.std.proofs.Common.{List, ℕ, subst, arith}
use Rattle.rtlil_text.specs.CellTables.{output_of}
use Rattle.cell_split.specs.Needs.{node_of, HasEnd}
use Rattle.cell_split.proofs.Lists.{All-taken, All-next}
use Rattle.cell_split.proofs.NeedLaws.{grows_then, ends_grown}
use Rattle.cell_split.proofs.needs.add_ends.Goals as goal

pub loop-end-preserved : goal.loop-end-preserved
loop-end-preserved c =
    let g = c.loop-end.graph in
    let h = c.add_end.new.graph in
    let node = node_of c.args.nodes.now in
    let output = output_of c.args.cell.now.kind in
    record {
      grows = grows_then c.args.graph.now g h c.loop-end.invariant.grows c.in_ok-add_end.ensures.grows;
      ends =
          All-next (HasEnd h node c.args.place output) c.as_slice-end-items.result.now c.loop-end.end-index c.end-item.result (omega (arith, c.loop-end-test.true)) c.end-item.is
          (ends_grown g h node c.args.place output _ c.in_ok-add_end.ensures.grows c.loop-end.invariant.ends)
          (subst (λ (name : List ℕ). HasEnd h node c.args.place name c.end-item.result) c.output_name-output.ensures c.in_ok-add_end.ensures.end);
    }

pub returns-clause-ends : goal.returns-clause-ends
returns-clause-ends c =
    All-taken (HasEnd c.loop-end.graph (node_of c.args.nodes.now) c.args.place (output_of c.args.cell.now.kind)) c.as_slice-end-items.result.now c.args.cell.now.ends c.loop-end.end-index c.as_slice-end-items.ensures (omega (arith, c.loop-end-test.false)) c.loop-end.invariant.ends
