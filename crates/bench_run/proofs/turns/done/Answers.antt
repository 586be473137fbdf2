use Rattle.std.proofs.Common.{◌≡◌, ◌∙◌, refl, sym, ap, subst, Some, length}
use Rattle.std.specs.Prelude.{slice_get}
use Rattle.std.specs.Vec.{with_item}
use Rattle.std.proofs.lemmas.Option.{slice_get_read}
use Rattle.std.specs.Prelude.{Option}
use Rattle.design_ir.specs.declared.event.Event.{Event}
use Rattle.delta_sim.specs.Standing.{IsSimOf}
use Rattle.elab_store.specs.Held.{held_of}
use Rattle.bench_run.specs.declared.turns.Step.TheVariants as step
use Rattle.bench_run.specs.declared.point.Point.{Point as CodePoint}
use Rattle.bench_run.specs.declared.testbench.Running.{Running}
use Rattle.bench_run.specs.Standing.{IsEventDone, stand_behind}
use Rattle.bench_run.proofs.AskLaws.{time_below}
use Rattle.bench_run.proofs.turns.done.Goals as goal

pub stand_behind-stand-requires-clause-now : goal.stand_behind-stand-requires-clause-now
stand_behind-stand-requires-clause-now g c =
    time_below c.args.point.now.now c.time-now.result c.time-now.ensures c.requires.now

pub happen-requires : goal.happen-requires
happen-requires g c =
    record { sim = subst (IsSimOf c.args.point.now.bench.design) (sym c.stand_behind-stand.ensures.same) c.requires.sim; legal = c.in-Some.ensures.legal }

pub returns-in-Some-clause-done : goal.returns-in-Some-clause-done
returns-in-Some-clause-done g c =
    let p = c.args.point.now in
    let y : Running = c.index_mut.result.now in
    let there : slice_get p.testbenches.items c.args.i ≡ Some y = slice_get_read p.testbenches.items (length p.testbenches.items) c.args.i y refl c.requires.there c.index_mut.ensures.value in
    let m : CodePoint = record p { sim = c.stand_behind-stand.new.sim; testbenches = with_item p.testbenches c.args.i (record y { stand = c.stand_behind-stand.result }) } in
    record {
      running = y;
      there = there;
      stand = c.stand_behind-stand.result;
      stands = c.stand_behind-stand.ensures.stand ∙ ap (λ n. stand_behind (held_of p.bench.held) p.sim.env n c.args.served) c.time-now.ensures;
      below = c.stand_behind-stand.ensures.below;
      middle = m;
      is_middle = record { bench = refl; sim = c.stand_behind-stand.ensures.same; benches = refl; turn = refl; now = refl; left = refl };
      event = subst (λ (o : Option Event). IsEventDone c.happen.result c.args.place o m c.happen.new.point) c.in-Some.ensures.event (c.in-Some.ensures.legal, c.happen.ensures.step, c.happen.ensures.behind);
    }

pub returns-in-None-clause-done : goal.returns-in-None-clause-done
returns-in-None-clause-done g c =
    let p = c.args.point.now in
    let y : Running = c.index_mut.result.now in
    let there : slice_get p.testbenches.items c.args.i ≡ Some y = slice_get_read p.testbenches.items (length p.testbenches.items) c.args.i y refl c.requires.there c.index_mut.ensures.value in
    let m : CodePoint = record p { sim = c.stand_behind-stand.new.sim; testbenches = with_item p.testbenches c.args.i (record y { stand = c.stand_behind-stand.result }) } in
    record {
      running = y;
      there = there;
      stand = c.stand_behind-stand.result;
      stands = c.stand_behind-stand.ensures.stand ∙ ap (λ n. stand_behind (held_of p.bench.held) p.sim.env n c.args.served) c.time-now.ensures;
      below = c.stand_behind-stand.ensures.below;
      middle = m;
      is_middle = record { bench = refl; sim = c.stand_behind-stand.ensures.same; benches = refl; turn = refl; now = refl; left = refl };
      event = subst (λ (o : Option Event). IsEventDone step.Goes c.args.place o m m) c.in-None.ensures.event (refl, refl);
    }
