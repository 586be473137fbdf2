use Rattle.std.proofs.Common.{◌≡◌, ◌<◌, ◌==◌, ◌&&◌, ◌||◌, ℕ, false, length, drop, slice_index_or}
use Rattle.std.specs.Prelude.{is_some}
use Rattle.std.specs.List.{list_any}
use Rattle.design_ir.specs.declared.memory.MemRead.{MemRead}
use Rattle.sim_plans.specs.Given.{gives}
use Rattle.sim_plans.proofs.given.mark_words.Given as goal

abbrev pub invariant-loop-r : goal.invariant-loop-r
invariant-loop-r l = record {
  count : length l.given ≡ length l.fn.given;
  marks : (s : ℕ) → s < length l.fn.given → (slice_index_or l.given s false || list_any (λ (r : MemRead). is_some r.domain && (r.word.0 == s)) (drop l.r-index l.r-items)) ≡ (slice_index_or l.fn.given s false || gives l.m s);
}
