use Rattle.std.proofs.Common.{◌≡◌, ◌∙◌, ◌<◌, ◌^◌, Bool, List, length, sym, ap, subst}
use Rattle.rtlil_text.specs.declared.module.RtlModule.{RtlModule}
use Rattle.cell_split.specs.Split.{split_cells, split_of}
use Rattle.cell_split.specs.Loops.{LoopsAreOfBits}
use Rattle.cell_split.specs.Needs.{is_marked}
use Rattle.cell_split.proofs.CutLaws.{free_loops, loops_cut, both_ok, unmarked}
use Rattle.cell_split.proofs.split.split_tangled.Goals as goal

pub returns-then-not-any-clause-loops : goal.returns-then-not-any-clause-loops
returns-then-not-any-clause-loops c =
    free_loops c.args.rtl c.requires
    (λ p x at t. unmarked c.deref.result.now c.in_ok-marks.marks.items p c.deref.ensures.value (c.any.ensures c.if-not-any.true p) (c.in_ok-marks.ensures.marked p x at t))

pub returns-clause-loops : goal.returns-clause-loops
returns-clause-loops c =
    let first = c.in_ok-first.first in
    let marks = c.deref-2.result.now in
    both_ok c.split.result (λ (m : RtlModule). m ≡ split_of first marks c.args.rtl) (λ (m : RtlModule). length (split_cells first marks c.args.rtl.cells) < 2 ^ 64) LoopsAreOfBits
    (λ m e few. subst LoopsAreOfBits (sym e)
    (loops_cut first marks c.args.rtl c.requires c.in_ok-first.ensures.free c.in_ok-first.ensures.small
    (λ p x at t. ap (λ (bs : List Bool). is_marked bs p) c.deref-2.ensures.value ∙ c.in_ok-marks.ensures.marked p x at t) few))
    c.split.ensures.split c.split.ensures.few
