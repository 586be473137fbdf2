use Rattle.std.proofs.Common.{◌≡◌, ◌*◌, ◌≤◌, ◌∙◌, ap, length, arith}
use Rattle.memory_ports.specs.Calls.{all_rows}
use Rattle.memory_ports.proofs.SpecLaws.{spec_new}
use Rattle.memory_ports.proofs.memory.MemorySpec.new.Goals as goal

pub invariant_of-result : goal.invariant_of-result
invariant_of-result c =
    let bits : c.args.depth * c.args.shape.width ≤ 1048576 = rw (← c.shape.view_is) c.if-depth-shape-gt1048576.false in
    let enough : length c.args.rows.now ≤ c.args.depth = omega (arith, c.if-len-depth.false, c.len.ensures) in
    let rows : c.in_ok-rows.rows ≡ all_rows c.args.depth c.args.rows.now = c.in_ok-rows.ensures ∙ ap (all_rows c.args.depth) c.as_slice.ensures in
    rw (c.new.ensures, rows, c.new-2.ensures, c.new-3.ensures) (spec_new c.args.shape c.args.depth c.args.rows.now c.if-depth-gt65536.false bits enough c.requires)
