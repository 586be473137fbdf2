use Rattle.std.proofs.Common.{arith, ap, ◌∙◌}
use Rattle.std.specs.Option.{option_copied}
use Rattle.py_heap.specs.Heaps.{seen}
use Rattle.elab_components.specs.ComponentClasses.{member_of}
use Rattle.elab_components.proofs.ComponentLaws.{row_member}
use Rattle.elab_components.proofs.ListLaws.{two_first}
use Rattle.elab_components.proofs.interfaces.members_of_row.Goals as goal

pub loop-rest-preserved : goal.loop-rest-preserved
loop-rest-preserved c =
    row_member (seen c.args.frozen.now c.args.heap.now) c.args.store.now c.loop-rest.rest.now _ c.k-item.result c.v-item.result (option_copied c.string_in.result) c.in-Some-Some.name.now c.member_of.result c.in-Some-Some.member c.in_ok-of.field-0 c.loop-rest.members c.push.new.self _
    (two_first c.loop-rest.rest.now c.k-item.result c.v-item.result (omega (arith, c.in-len2-up.len_at_least)) c.k-item.is c.v-item.is) c.string_in.ensures (ap option_copied c.in-Some-Some.is-0) (c.member_of.ensures ∙ ap member_of c.kept_of.ensures) c.in-Some-Some.is-1 c.in_ok-of.ensures c.in_ok-push.ensures.ok c.loop-rest.invariant
