use Rattle.std.proofs.Common.{refl, sym, ap, arith, subst, drop}
use Rattle.design_ir.specs.Circuits.{Circuit}
use Rattle.expr_index.specs.Numbers.{number_now, renumbered}
use Rattle.bench_acts.specs.Sharing.{shared}
use Rattle.bench_acts.specs.Held.{MayCome}
use Rattle.bench_acts.proofs.ShareLaws.{share_begin, read_begin, next_may_come, few_none, design_next, limit_told, share_next, read_next, few_next}
use Rattle.bench_acts.proofs.sharing.numbers_of.Goals as goal

pub loop-i-init : goal.loop-i-init
loop-i-init c =
    let p = c.args.design.now.pool in
    record {
      state = share_begin p c.args.pool.now c.args.before c.new-now.result.items c.requires.count c.new-now.ensures.items c.count.ensures.rules c.requires.signals c.requires.exprs;
      read = read_begin p c.args.before c.new-now.result.items (drop c.args.before c.args.pool.now.exprs) c.requires.count c.new-now.ensures.items;
      design = refl;
      known = c.requires.known;
      few = few_none p p refl;
    }

pub shared_one-requires-clause-fits : goal.shared_one-requires-clause-fits
shared_one-requires-clause-fits c = λ e is.
    subst (λ xs. MayCome c.loop-i.design.pool (renumbered (number_now c.args.before xs) e)) (sym c.as_slice.ensures.value)
    (next_may_come c.args.before c.loop-i.i c.args.pool.now c.loop-i.design.pool c.loop-i.now.items c.count-i-end.ensures.rules c.loop-i.invariant.state e is)

pub returns-in-Err-clause-limit : goal.returns-in-Err-clause-limit
returns-in-Err-clause-limit c =
    limit_told c.args.before c.loop-i.i c.args.pool.now c.loop-i.design.pool c.loop-i.now.items c.as_slice.result.now c.as_slice.ensures.value c.loop-i.invariant.state (omega (arith, c.loop-i-test.true, c.count-i-end.ensures.value))
    c.args.design.now.pool c.in-Err.stop c.requires.count c.loop-i.invariant.read c.in-Err.ensures.limit

pub loop-i-preserved : goal.loop-i-preserved
loop-i-preserved c =
    let k = c.args.pool.now in
    let q = c.loop-i.design.pool in
    let r = c.shared_one.new.design.pool in
    let now = c.loop-i.now.items in
    let s = c.loop-i.invariant in
    let made = c.in-Ok.ensures in
    record {
      state = share_next c.args.before c.loop-i.i k q now c.as_slice.result.now c.as_slice.ensures.value s.state (omega (arith, c.loop-i-test.true, c.count-i-end.ensures.value)) r c.in-Ok.id c.push.new.self.items c.in_default.ensures.items made.shared c.count-i-end.ensures.rules made.rules (ap (λ (x : Circuit). x.pool.signals) made.design);
      read = read_next c.args.before c.loop-i.i k q now c.as_slice.result.now c.as_slice.ensures.value s.state (omega (arith, c.loop-i-test.true, c.count-i-end.ensures.value)) r c.in-Ok.id c.push.new.self.items c.in_default.ensures.items made.shared (shared c.args.design.now.pool.exprs (drop c.args.before k.exprs)) s.read;
      design = design_next c.args.design.now c.loop-i.design c.shared_one.new.design s.design made.design;
      known = made.known;
      few = few_next c.args.before c.loop-i.i k q now c.as_slice.result.now c.as_slice.ensures.value s.state (omega (arith, c.loop-i-test.true, c.count-i-end.ensures.value)) r c.in-Ok.id c.push.new.self.items c.in_default.ensures.items made.shared c.args.design.now.pool s.few made.few;
    }
