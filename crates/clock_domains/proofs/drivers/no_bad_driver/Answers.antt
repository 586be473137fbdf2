use Rattle.std.proofs.Common.{◌≡◌, ◌∙◌, ◌+◌, ◌||◌, ℕ, Bool, List, Option, length, take, sym, ap}
use Rattle.std.specs.List.{list_any}
use Rattle.design_ir.specs.declared.process.Process.{Process}
use Rattle.design_ir.specs.Pools.{Pooled}
use Rattle.design_ir.specs.PoolRules.{IsPool}
use Rattle.design_ir.specs.Targets.{target_signals}
use Rattle.design_ir.specs.Circuits.{is_among}
use Rattle.fragment_walks.specs.Marks.{Flag, is_marked}
use Rattle.fragment_walks.specs.Numbers.{bounded, is_below}
use Rattle.fragment_walks.specs.Reads.{is_driven}
use Rattle.fragment_walks.proofs.Lists.{length_map}
use Rattle.clock_domains.specs.declared.stop.ResolveStop.{ResolveStop}
use Rattle.clock_domains.specs.Resolved.{driver_refusal}
use Rattle.clock_domains.specs.Stops.{processes_stop, target_stop}
use Rattle.clock_domains.proofs.DriverLaws.{owed_itself, refusal_same}
use Rattle.clock_domains.proofs.drivers.no_bad_driver.Goals as goal

pub leasts_of-requires : goal.leasts_of-requires
leasts_of-requires c =
    let firsts = c.in_ok-firsts.firsts.items in
    ap length c.as_slice.ensures.value ∙ sym (length_map (is_below 1) firsts) ∙ (c.in_ok-firsts.ensures 0).size

-- what was found of the slices is what is owed
found : (q : Pooled) (inputs on_inputs on given : List Bool) (firsts fs leasts ls : List (Option ℕ)) (ps : List Process) (o : Option ResolveStop) → IsPool q → on ≡ on_inputs → fs ≡ firsts → ls ≡ leasts → ((k : ℕ) → is_marked on_inputs k ≡ list_any (is_marked inputs) (target_signals q k))
    → ((i k : ℕ) → is_marked (bounded i leasts) k ≡ list_any (is_marked (bounded i fs)) (target_signals q k)) → ((i : ℕ) → Flag (bounded (i + 1) firsts) (λ s. is_driven q (take i ps) s || is_marked given s)) → o ≡ processes_stop (λ i. target_stop on (bounded i ls)) 1 ps → (ins before : List ℕ)
    → Flag inputs (is_among ins) → Flag given (is_among before) → driver_refusal q ins before ps ≡ o
found q inputs on_inputs on given firsts fs leasts ls ps o rules one two three hi hl hf is ins before fi fg =
    sym
    (is
    ∙ ap (λ (ms : List Bool). processes_stop (λ i. target_stop ms (bounded i ls)) 1 ps) one
    ∙ ap (λ (xs : List (Option ℕ)). processes_stop (λ i. target_stop on_inputs (bounded i xs)) 1 ps) three
    ∙ refusal_same q inputs on_inputs given firsts leasts ins before rules fi fg hi (λ i k. hl i k ∙ ap (λ (xs : List (Option ℕ)). list_any (is_marked (bounded i xs)) (target_signals q k)) two) ps hf)

pub returns-in-Some-clause-refused : goal.returns-in-Some-clause-refused
returns-in-Some-clause-refused c ins before fi fg =
    let q = c.args.pool.now in
    owed_itself (driver_refusal q ins before c.args.processes.now) c.in-Some.stop
    (found q c.args.inputs.now c.in_ok-on_inputs.on_inputs.items c.as_slice-2.result.now c.args.given.now c.in_ok-firsts.firsts.items c.as_slice.result.now c.in_ok-leasts.leasts.items c.as_slice-3.result.now c.args.processes.now c.first_stop.result
    c.count.ensures.rules c.as_slice-2.ensures.value c.as_slice.ensures.value c.as_slice-3.ensures.value c.in_ok-on_inputs.ensures.value c.in_ok-leasts.ensures.value c.in_ok-firsts.ensures c.first_stop.ensures ins before fi fg
    ∙ c.in-Some.is)

pub returns-clause-accepted : goal.returns-clause-accepted
returns-clause-accepted c ins before fi fg =
    let q = c.args.pool.now in
    found q c.args.inputs.now c.in_ok-on_inputs.on_inputs.items c.as_slice-2.result.now c.args.given.now c.in_ok-firsts.firsts.items c.as_slice.result.now c.in_ok-leasts.leasts.items c.as_slice-3.result.now c.args.processes.now c.first_stop.result
    c.count.ensures.rules c.as_slice-2.ensures.value c.as_slice.ensures.value c.as_slice-3.ensures.value c.in_ok-on_inputs.ensures.value c.in_ok-leasts.ensures.value c.in_ok-firsts.ensures c.first_stop.ensures ins before fi fg
    ∙ c.in-None.is
