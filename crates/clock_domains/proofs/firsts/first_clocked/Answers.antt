use Rattle.std.proofs.Common.{◌∙◌, ℕ, Option, None, length, take, sym, ap}
use Rattle.std.specs.List.{filter}
use Rattle.std.proofs.lemmas.List.{length-replicate}
use Rattle.fragment_walks.specs.Numbers.{first_at}
use Rattle.fragment_walks.proofs.Lists.{all_filtered, all_taken}
use Rattle.fragment_walks.proofs.NumberLaws.{below_same, bounded_at}
use Rattle.clock_domains.specs.Firsts.{first_clocked}
use Rattle.clock_domains.specs.Resolvable.{IsSideOf}
use Rattle.clock_domains.specs.Resolved.{is_clocked}
use Rattle.clock_domains.proofs.DriverLaws.{first_known}
use Rattle.clock_domains.proofs.ProcessNumbers.{below_first}
use Rattle.clock_domains.proofs.firsts.first_clocked.Goals as goal

pub number_clocked-requires-clause-size : goal.number_clocked-requires-clause-size
number_clocked-requires-clause-size c = ap length c.in_ok-targets.ensures ∙ length-replicate c.count.result None ∙ c.count.ensures.value

pub hand_all_down-requires-clause-targets : goal.hand_all_down-requires-clause-targets
hand_all_down-requires-clause-targets c = c.number_clocked.ensures.size ∙ ap length c.in_ok-targets.ensures ∙ length-replicate c.count.result None ∙ c.count.ensures.value

pub hand_all_down-requires-clause-signals : goal.hand_all_down-requires-clause-signals
hand_all_down-requires-clause-signals c = ap length c.in_ok-signals.ensures ∙ length-replicate {A = Option ℕ} 16384 None

pub returns : goal.returns
returns c =
    let q = c.args.pool.now in
    let ps = c.args.processes.now in
    let out = c.hand_all_down.new.signals.items in
    record {
      size = c.hand_all_down.ensures.signals;
      each = λ s small.
          below_same (first_at out s) (first_clocked q ps s)
          (λ i.
          sym (bounded_at i out s)
          ∙ first_known q (filter is_clocked (take i ps)) i s c.count.result 16384 c.in_ok-targets.targets.items c.number_clocked.new.targets.items c.in_ok-signals.signals.items out
          (all_filtered (IsSideOf q) is_clocked (take i ps) (all_taken (IsSideOf q) ps i c.requires)) c.count.ensures.value c.in_ok-targets.ensures c.in_ok-signals.ensures (c.number_clocked.ensures.each i) (c.hand_all_down.ensures.driven i s small)
          ∙ sym (below_first q ps s i));
    }
