use Rattle.std.proofs.Common.{◌≡◌, ◌∙◌, ℕ, List, length, true, false, Some, slice_get, take, is_some, refl, sym, ap}
use Rattle.std.specs.List.{list_any}
use Rattle.std.specs.BTreeMap.{get_by_text}
use Rattle.std.specs.BTreeSet.{contains}
use Rattle.std.specs.Ordering.{nat_cmp}
use Rattle.std.proofs.lemmas.Option.{slice_get_read}
use Rattle.clock_domains.specs.Resolved.{clashes}
use Rattle.clock_domains.proofs.ClashLaws.{clash_told, clash_turn, clashes_clocked, clashes_named, clashes_none, clocks_turn, look_turn}
use Rattle.clock_domains.proofs.clashes.no_clash.Goals.{then-contains_key-via-then-contains_key, then-contains_key-via-else-contains_key+then-contains}
use Rattle.clock_domains.proofs.clashes.no_clash.Goals as goal

pub returns-then-contains_key-clause-refused : goal.returns-then-contains_key-clause-refused
returns-then-contains_key-clause-refused c =
    let ds = c.args.definitions.now in
    let i = c.loop-definition.definition-index in
    let d = c.definition-item.result in
    let at : slice_get ds i ≡ Some d = slice_get_read ds (length ds) i d refl c.loop-definition-test.true c.definition-item.is in
    let before = c.loop-definition.invariant in
    let there : list_any (clashes d) (take i ds) ≡ true =
    elim c.then-contains_key.branch [
      | then-contains_key-via-then-contains_key w ↦ clashes_named d (take i ds)
          (sym (before.names d.domain.name) ∙ ap (λ (x : List ℕ). is_some (get_by_text c.loop-definition.names x)) (sym c.as_str-name.ensures) ∙ sym c.contains_key.ensures ∙ w.if-contains_key.true)
      | then-contains_key-via-else-contains_key+then-contains w ↦ clashes_clocked d (take i ds) (sym (before.clocks d.domain.clk.0) ∙ sym w.contains.ensures ∙ w.if-contains.true)
    ] in
    clash_told ds i d at before.free there

pub loop-definition-preserved : goal.loop-definition-preserved
loop-definition-preserved c =
    let ds = c.args.definitions.now in
    let i = c.loop-definition.definition-index in
    let d = c.definition-item.result in
    let at : slice_get ds i ≡ Some d = slice_get_read ds (length ds) i d refl c.loop-definition-test.true c.definition-item.is in
    let names = c.loop-definition.names in
    let before = c.loop-definition.invariant in
    let new : list_any (clashes d) (take i ds) ≡ false =
    clashes_none d (take i ds) (sym (before.names d.domain.name) ∙ ap (λ (x : List ℕ). is_some (get_by_text names x)) (sym c.as_str-name.ensures) ∙ sym c.contains_key.ensures ∙ c.if-contains_key.false)
    (sym (before.clocks d.domain.clk.0) ∙ sym c.contains.ensures ∙ c.if-contains.false) in
    record {
      free = clash_turn ds i d at before.free new;
      names = look_turn (get_by_text names) (get_by_text c.add_name.new.names) ds i d c.as_str-name.result.now at c.as_str-name.ensures before.names c.in_ok-add_name.ensures;
      clocks = clocks_turn (contains nat_cmp c.loop-definition.clocks) (contains nat_cmp c.add_clock.new.clocks) ds i d at before.clocks c.in_ok-add_clock.ensures;
    }
