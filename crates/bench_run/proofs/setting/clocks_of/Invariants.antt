use Rattle.std.proofs.Common.{◌≡◌, ◌++◌, length, drop}
use Rattle.calendar.specs.Moments.{AreClocks}
use Rattle.calendar.specs.Due.{AreWithin}
use Rattle.bench_run.specs.Runs.{clocks_of}
use Rattle.bench_run.proofs.ClockLaws.{AreKept}
use Rattle.bench_run.proofs.setting.clocks_of.Given as goal

-- those so far, and those that are left, none of which is refused
abbrev pub invariant-loop-call : goal.invariant-loop-call
invariant-loop-call l = record {
  kept : AreKept l.design (drop l.call-index l.calls);
  clocks : l.clocks.items ++ clocks_of l.design (drop l.call-index l.calls) ≡ clocks_of l.design l.calls;
  are : AreClocks l.clocks.items;
  within : AreWithin (length l.design.domains) l.clocks.items;
}
