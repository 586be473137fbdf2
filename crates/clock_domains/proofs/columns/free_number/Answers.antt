use Rattle.std.proofs.Common.{◌≡◌, ◌∙◌, ◌+◌, ℕ, true, List, length, inl, inr, is_some, sym, ap, subst, arith}
use Rattle.std.specs.BTreeMap.{get_by_text}
use Rattle.std.proofs.lemmas.Bool.{cases_lt}
use Rattle.design_ir.specs.declared.port.Column.{Column}
use Rattle.fragment_walks.proofs.Lists.{length_map}
use Rattle.clock_domains.specs.Resolved.{has_name, numbered_name}
use Rattle.clock_domains.specs.Tracked.{names_of}
use Rattle.clock_domains.proofs.NameLaws.{last_below}
use Rattle.clock_domains.proofs.columns.free_number.Goals as goal

pub loop-taken-preserved : goal.loop-taken-preserved
loop-taken-preserved c j low high =
    let names = names_of c.args.columns.now in
    let text = c.as_str.ensures ∙ c.in_ok-text.ensures in
    let here : has_name names (numbered_name c.args.name.now (c.loop-taken.taken + 1)) ≡ true =
    sym (c.requires.tracked.has (numbered_name c.args.name.now (c.loop-taken.taken + 1))) ∙ ap (λ (bs : List ℕ). is_some (get_by_text c.args.numbers.now bs)) (sym text) ∙ sym c.contains_key.ensures ∙ c.if-not-contains_key.false in
    elim (cases_lt j (c.loop-taken.taken + 1)) [
      | inl below ↦ c.loop-taken.invariant j low (omega (arith, below))
      | inr past ↦ (let same : c.loop-taken.taken + 1 ≡ j = omega (arith, past, high) in subst (λ n. has_name names (numbered_name c.args.name.now n) ≡ true) same here)
    ]

pub unreachable-requires : goal.unreachable-requires
unreachable-requires c =
    let names = names_of c.args.columns.now in
    let count : length names ≡ length c.args.columns.now = length_map (λ (x : Column). x.name) c.args.columns.now in
    last_below names c.args.name.now c.loop-taken.taken (omega (arith, count, c.len-taken-end.ensures, c.len-taken-end.type_inv)) c.requires.there c.loop-taken.invariant (omega (arith, count, c.len-taken-end.ensures, c.loop-taken-test.false))
