use Rattle.std.proofs.Common.{◌∙◌, ℕ, take, ap}
use Rattle.cell_split.proofs.LoopLaws.{marks_of_left}
use Rattle.cell_split.proofs.tangled.tangled.Goals as goal

pub returns : goal.returns
returns c =
    marks_of_left c.args.rtl.now c.in_ok-graph.graph c.in_ok-graph.ensures c.in_ok-marks.marks.items c.truncate.new.self.items c.in_ok-marks.ensures
    (c.truncate.ensures.items ∙ ap (λ (n : ℕ). take n c.in_ok-marks.marks.items) c.len.ensures)
