use Rattle.std.proofs.Common.{◌≡◌, ◌∙◌, ◌++◌, List, false, length, replicate, ap}
use Rattle.std.specs.List.{flat_map}
use Rattle.std.proofs.lemmas.List.{length-replicate}
use Rattle.design_ir.specs.declared.ids.ExprId.{ExprId}
use Rattle.design_ir.specs.declared.process.Process.{Process}
use Rattle.fragment_walks.specs.Held.{memory_exprs}
use Rattle.fragment_walks.specs.Marks.{marked, numbers}
use Rattle.fragment_walks.specs.Reads.{block_targets, block_values}
use Rattle.fragment_walks.proofs.Markings.{length_marked}
use Rattle.clock_domains.proofs.ReadLaws.{reads_are}
use Rattle.clock_domains.proofs.reads.reads.Goals as goal

pub spread_targets-requires-clause-targets : goal.spread_targets-requires-clause-targets
spread_targets-requires-clause-targets c =
    ap length c.mark_processes.ensures.targets ∙ length_marked (flat_map (λ (p : Process). block_targets p.body) c.args.processes.now) c.in_ok-roots.roots.targets.items ∙ ap length c.in_ok-roots.ensures.targets ∙ length-replicate c.count.result false
    ∙ c.count.ensures.value

pub spread_targets-requires-clause-values : goal.spread_targets-requires-clause-values
spread_targets-requires-clause-values c =
    ap length c.mark_processes.ensures.values ∙ length_marked (flat_map (λ (p : Process). block_values p.body) c.args.processes.now) c.in_ok-roots.roots.values.items ∙ ap length c.in_ok-roots.ensures.values ∙ length-replicate c.count.result false
    ∙ c.count.ensures.value

pub spread_values-requires-clause-values : goal.spread_values-requires-clause-values
spread_values-requires-clause-values c = ap length c.mark_all.ensures ∙ length_marked (numbers c.as_slice.result.now) c.spread_targets.new.roots.values.items ∙ c.spread_targets.ensures.values

pub returns : goal.returns
returns c =
    let q = c.args.pool.now in
    let ps = c.args.processes.now in
    let ms = c.args.memories.now in
    let n = length q.exprs in
    let targets : c.mark_processes.new.roots.targets.items ≡ marked (flat_map (λ (p : Process). block_targets p.body) ps) (replicate n false) =
    c.mark_processes.ensures.targets ∙ ap (marked (flat_map (λ (p : Process). block_targets p.body) ps)) c.in_ok-roots.ensures.targets ∙ ap (λ m. marked (flat_map (λ (p : Process). block_targets p.body) ps) (replicate m false)) c.count.ensures.value in
    let values : c.mark_processes.new.roots.values.items ≡ marked (flat_map (λ (p : Process). block_values p.body) ps) (replicate n false) =
    c.mark_processes.ensures.values ∙ ap (marked (flat_map (λ (p : Process). block_values p.body) ps)) c.in_ok-roots.ensures.values ∙ ap (λ m. marked (flat_map (λ (p : Process). block_values p.body) ps) (replicate m false)) c.count.ensures.value in
    let ports : c.as_slice.result.now ≡ flat_map memory_exprs ms = c.as_slice.ensures ∙ c.in_ok-add_memories.ensures ∙ ap (λ (es : List ExprId). es ++ flat_map memory_exprs ms) c.new-ports.ensures in
    let all = c.mark_all.ensures ∙ ap (λ es. marked (numbers es) c.spread_targets.new.roots.values.items) ports in
    record {
      size = c.spread_values.ensures.signals;
      each = λ s small.
          c.spread_values.ensures.read s small
          ∙ reads_are q ps ms c.mark_processes.new.roots.targets.items c.mark_processes.new.roots.values.items c.spread_targets.new.roots.values.items c.mark_all.new.marks.items c.in_ok-read.read.items s c.count.ensures.rules c.requires.sides c.requires.ports
          targets values c.spread_targets.ensures.read c.spread_targets.ensures.values all (c.in_ok-read.ensures.each s);
    }
