use Rattle.std.proofs.Common.{◌∙◌, ◌+◌, ◌||◌, ℕ, Option, None, length, take, sym, ap}
use Rattle.std.proofs.lemmas.List.{length-replicate}
use Rattle.fragment_walks.specs.Marks.{is_marked}
use Rattle.fragment_walks.specs.Numbers.{is_below, first_at}
use Rattle.fragment_walks.proofs.Lists.{all_taken, length_map}
use Rattle.fragment_walks.proofs.NumberLaws.{bounded_at}
use Rattle.clock_domains.specs.Resolvable.{IsSideOf}
use Rattle.clock_domains.proofs.DriverLaws.{first_known}
use Rattle.clock_domains.proofs.ProcessNumbers.{given_below}
use Rattle.clock_domains.proofs.firsts.first_drivers.Goals as goal

pub number_targets-requires-clause-size : goal.number_targets-requires-clause-size
number_targets-requires-clause-size c = ap length c.in_ok-targets.ensures ∙ length-replicate c.count.result None ∙ c.count.ensures.value

pub hand_all_down-requires-clause-targets : goal.hand_all_down-requires-clause-targets
hand_all_down-requires-clause-targets c = c.number_targets.ensures.size ∙ ap length c.in_ok-targets.ensures ∙ length-replicate c.count.result None ∙ c.count.ensures.value

pub hand_all_down-requires-clause-signals : goal.hand_all_down-requires-clause-signals
hand_all_down-requires-clause-signals c = ap length c.in_ok-signals.ensures ∙ length-replicate {A = Option ℕ} 16384 None

pub returns : goal.returns
returns c i =
    let q = c.args.pool.now in
    let ps = take i c.args.processes.now in
    let out = c.hand_all_down.new.signals.items in
    let new = c.number_data.new.firsts.items in
    record {
      size = length_map (is_below (i + 1)) new ∙ c.number_data.ensures.size;
      each = λ s small.
          bounded_at (i + 1) new s
          ∙ ap (is_below (i + 1)) (c.number_data.ensures.each s small)
          ∙ given_below i (is_marked c.args.given.now s) (first_at out s)
          ∙ ap (λ b. b || is_marked c.args.given.now s)
          (sym (bounded_at (i + 1) out s)
          ∙ first_known q ps (i + 1) s c.count.result 16384 c.in_ok-targets.targets.items c.number_targets.new.targets.items c.in_ok-signals.signals.items out
          (all_taken (IsSideOf q) c.args.processes.now i c.requires.sides) c.count.ensures.value c.in_ok-targets.ensures c.in_ok-signals.ensures (c.number_targets.ensures.each i) (c.hand_all_down.ensures.driven (i + 1) s small));
    }
