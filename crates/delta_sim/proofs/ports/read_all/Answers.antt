use Rattle.std.proofs.Common.{fold, sym, ap, subst}
use Rattle.std.specs.List.{flat_map}
use Rattle.design_ir.specs.Steps.{clocked_read}
use Rattle.sim_plans.specs.Ports.{AreKnown, read_exprs, write_exprs}
use Rattle.delta_sim.proofs.PortTurns.{known_parts}
use Rattle.delta_sim.proofs.ports.read_all.Goals as goal

pub loop-r-init : goal.loop-r-init
loop-r-init c =
    let d = c.args.design.now in
    let env = c.args.env.now in
    let nums = c.args.nums.now in
    let m = c.args.m.now in
    let parts = known_parts d.pool env nums (flat_map write_exprs m.writes) (flat_map read_exprs m.reads) c.requires.known in
    record {
      known = subst (λ rs. AreKnown d.pool env nums (flat_map read_exprs rs)) (sym c.as_slice-r-items.ensures) parts.1;
      written = parts.0;
      all = ap (fold (clocked_read d env c.args.listed.now m c.args.rows.now) c.args.held.now) c.as_slice-r-items.ensures;
    }
