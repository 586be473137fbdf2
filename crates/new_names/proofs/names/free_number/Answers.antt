use Rattle.std.proofs.Common.{◌≡◌, ◌∙◌, ◌+◌, ℕ, true, List, inl, inr, is_some, sym, ap, subst, arith}
use Rattle.std.specs.BTreeMap.{get_by_text}
use Rattle.std.proofs.lemmas.Bool.{cases_lt}
use Rattle.new_names.specs.Fresh.{has_name, numbered_name}
use Rattle.new_names.proofs.NameLaws.{last_below}
use Rattle.new_names.proofs.names.free_number.Goals as goal

pub loop-taken-preserved : goal.loop-taken-preserved
loop-taken-preserved c j low high =
    let names = c.args.names.now in
    let text = c.as_str.ensures ∙ c.in_ok-text.ensures in
    let here : has_name names (numbered_name c.args.name.now (c.loop-taken.taken + 1)) ≡ true =
    sym (c.requires.tracked.has (numbered_name c.args.name.now (c.loop-taken.taken + 1))) ∙ ap (λ (bs : List ℕ). is_some (get_by_text c.args.numbers.now bs)) (sym text) ∙ sym c.contains_key.ensures ∙ c.if-not-contains_key.false in
    elim (cases_lt j (c.loop-taken.taken + 1)) [
      | inl below ↦ c.loop-taken.invariant j low (omega (arith, below))
      | inr past ↦ (let same : c.loop-taken.taken + 1 ≡ j = omega (arith, past, high) in subst (λ n. has_name names (numbered_name c.args.name.now n) ≡ true) same here)
    ]

pub unreachable-requires : goal.unreachable-requires
unreachable-requires c =
    last_below c.args.names.now c.args.name.now c.loop-taken.taken (omega (arith, c.len-taken-end.ensures, c.len-taken-end.type_inv)) c.requires.there c.loop-taken.invariant (omega (arith, c.len-taken-end.ensures, c.loop-taken-test.false))
