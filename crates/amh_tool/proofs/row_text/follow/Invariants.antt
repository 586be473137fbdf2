use Rattle.std.proofs.Common.{◌≡◌, drop, length}
use Rattle.amh_tool.proofs.FollowLaws.{AreMoving}
use Rattle.amh_tool.proofs.row_text.follow.Given as goal

-- the signals that are to come are those that still have another number
abbrev pub invariant-loop-s : goal.invariant-loop-s
invariant-loop-s l = record {
  count : length l.before.items ≡ length l.now;
  all : AreMoving l.before.items l.now (drop l.s-index l.moved);
}
