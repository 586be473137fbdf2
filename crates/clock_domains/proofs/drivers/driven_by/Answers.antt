use Rattle.std.proofs.Common.{◌≡◌, ◌∙◌, ◌||◌, false, length, replicate, ap}
use Rattle.std.specs.List.{flat_map}
use Rattle.std.proofs.lemmas.List.{length-replicate}
use Rattle.design_ir.specs.declared.process.Process.{Process}
use Rattle.design_ir.specs.Targets.{target_signals}
use Rattle.fragment_walks.specs.Marks.{marked, comes_out}
use Rattle.fragment_walks.specs.Numbers.{process_targets}
use Rattle.fragment_walks.specs.Reads.{block_values, is_driven}
use Rattle.fragment_walks.proofs.Markings.{length_marked}
use Rattle.clock_domains.proofs.DriverLaws.{driven_spread}
use Rattle.clock_domains.proofs.drivers.driven_by.Goals as goal

pub spread_targets-requires-clause-targets : goal.spread_targets-requires-clause-targets
spread_targets-requires-clause-targets c =
    ap length c.mark_processes.ensures.targets ∙ length_marked (process_targets c.args.processes.now) c.in_ok-roots.roots.targets.items ∙ ap length c.in_ok-roots.ensures.targets ∙ length-replicate c.count.result false ∙ c.count.ensures.value

pub spread_targets-requires-clause-values : goal.spread_targets-requires-clause-values
spread_targets-requires-clause-values c =
    ap length c.mark_processes.ensures.values ∙ length_marked (flat_map (λ (p : Process). block_values p.body) c.args.processes.now) c.in_ok-roots.roots.values.items ∙ ap length c.in_ok-roots.ensures.values ∙ length-replicate c.count.result false ∙ c.count.ensures.value

pub returns : goal.returns
returns c =
    let q = c.args.pool.now in
    let ps = c.args.processes.now in
    let targets : c.mark_processes.new.roots.targets.items ≡ marked (process_targets ps) (replicate (length q.exprs) false) =
    c.mark_processes.ensures.targets ∙ ap (marked (process_targets ps)) c.in_ok-roots.ensures.targets ∙ ap (λ n. marked (process_targets ps) (replicate n false)) c.count.ensures.value in
    record {
      size = c.spread_targets.ensures.signals;
      each = λ s small.
          c.spread_targets.ensures.driven s small ∙ ap (λ ms. comes_out (target_signals q) ms c.in_ok-driven.driven.items (length q.exprs) s) targets ∙ driven_spread q ps c.in_ok-driven.driven.items s c.requires
          ∙ ap (λ b. b || is_driven q ps s) (c.in_ok-driven.ensures.each s);
    }
