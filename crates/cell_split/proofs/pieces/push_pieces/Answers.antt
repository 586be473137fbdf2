use Rattle.std.proofs.Common.{◌≡◌, ◌∙◌, ◌+◌, ℕ, length, map, ap, arith, length-append}
use Rattle.std.specs.List.{range_with_len}
use Rattle.std.proofs.lemmas.List.FromFn.{length-map-range_with_len}
use Rattle.rtlil_text.specs.declared.cell.RtlCell.{RtlCell}
use Rattle.cell_split.specs.Pieces.{piece}
use Rattle.cell_split.proofs.PieceCode.{one_more}
use Rattle.cell_split.proofs.pieces.push_pieces.Goals as goal

pub loop-place-preserved : goal.loop-place-preserved
loop-place-preserved c =
    let before = c.args.cells.now in
    let k = c.loop-place.place in
    let f : ℕ → RtlCell = λ j. piece (c.args.first + length before + j) c.args.cell.now j in
    let count : length c.loop-place.cells ≡ length before + k =
    ap length c.loop-place.invariant ∙ length-append before (map f (range_with_len 0 k)) ∙ ap (λ (n : ℕ). length before + n) (length-map-range_with_len f 0 k) in
    let number : c.args.first + c.len.result ≡ c.args.first + length before + k = omega (arith, count, c.len.ensures) in
    one_more f before c.loop-place.cells c.push.new.self k c.in_ok-piece.field-0 c.loop-place.invariant (c.in_ok-piece.ensures ∙ ap (λ (n : ℕ). piece n c.args.cell.now k) number) c.in_ok-push.ensures.ok
