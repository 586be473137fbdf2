use Rattle.std.proofs.Common.{◌≡◌, sym, ◌∙◌, ◌<◌, ap, length, subst, arith, false, get_or, length-set}
use Rattle.sim_plans.specs.Waiting.{Waiting}
use Rattle.sim_plans.proofs.Waits.{mark_room, mark_waits}
use Rattle.sim_plans.proofs.agenda.Agenda.mark.Goals as goal

pub index_mut-requires-2 : goal.index_mut-requires-2
index_mut-requires-2 c =
    let s = c.self.inside in
    let there = subst (λ (w : Waiting). c.args.n < length w.marks) (sym c.self.view_is) c.requires in
    let free : get_or s.marks.items c.args.n false ≡ false = ap (get_or s.marks.items c.args.n) (sym c.if-index.false) ∙ sym c.index.ensures ∙ c.if-index.false in
    let room : s.len < length s.list.items = mark_room s.marks.items s.list.items s.len c.args.n c.self.invariant.0 c.self.invariant.1 c.self.invariant.2 there free in
    omega (arith, room)

pub invariant_of-self : goal.invariant_of-self
invariant_of-self c =
    let s = c.self.inside in
    let there = subst (λ (w : Waiting). c.args.n < length w.marks) (sym c.self.view_is) c.requires in
    let free : get_or s.marks.items c.args.n false ≡ false = ap (get_or s.marks.items c.args.n) (sym c.if-index.false) ∙ sym c.index.ensures ∙ c.if-index.false in
    let room : s.len < length s.list.items = mark_room s.marks.items s.list.items s.len c.args.n c.self.invariant.0 c.self.invariant.1 c.self.invariant.2 there free in
    let long = length-set s.list.items s.len c.args.n in
    (omega (arith, room, long), long ∙ c.self.invariant.1 ∙ sym (length-set s.marks.items c.args.n _), mark_waits s.marks.items s.list.items s.len c.args.n c.self.invariant.0 c.self.invariant.1 c.self.invariant.2 there free)
