use Rattle.std.proofs.Common.{◌≡◌, ◌∙◌, refl, sym, ap, subst, List, Option, Some, None, length, ◌<◌}
use Rattle.std.specs.Option.{is_some}
use Rattle.calendar.specs.Moments.{IsNext}
use Rattle.elab_store.specs.declared.simulation.RunEnd.{RunEnd}
use Rattle.bench_run.specs.declared.testbench.Running.{Running}
use Rattle.bench_run.specs.Runs.{next_ready}
use Rattle.bench_run.specs.Standing.{stands_in}
use Rattle.bench_run.proofs.GoLaws.{no_run}
use Rattle.bench_run.proofs.turns.next_step.Goals as goal

none_is : (o : Option RunEnd) → ((how : RunEnd) → o ≡ Some how → ⊥) → o ≡ None
none_is None not = refl
none_is (Some how) not = absurd (not how refl)

pub returns-in_default-clause-comes : goal.returns-in_default-clause-comes
returns-in_default-clause-comes g c =
    no_run c.args.setting.now c.args.point.now c.next_toggle.result (none_is c.args.setting.now.end c.in_default.not-Some)
    (subst (λ cs. IsNext cs c.args.point.now.now c.next_toggle.result) c.as_slice.ensures.value c.next_toggle.ensures.next)

pub go_on-requires : goal.go_on-requires
go_on-requires g c =
    record {
      safe = c.requires;
      ready =
          ap (λ (ys : List Running). next_ready c.args.point.now.turn (stands_in ys)) (sym c.as_slice-2.ensures.value)
          ∙ sym c.next_ready.ensures.next
          ∙ c.in-Some-next_ready.is;
      there = subst (λ (ys : List Running). c.in-Some-next_ready.i < length ys) c.as_slice-2.ensures.value c.in-Some-next_ready.ensures.there;
      end = ap is_some c.in-Some.is;
    }

pub round_over-requires : goal.round_over-requires
round_over-requires g c =
    record {
      safe = c.requires;
      over =
          ap (λ (ys : List Running). next_ready c.args.point.now.turn (stands_in ys)) (sym c.as_slice-2.ensures.value)
          ∙ sym c.next_ready.ensures.next
          ∙ c.in-None.is;
      end = c.in-Some.is;
    }
