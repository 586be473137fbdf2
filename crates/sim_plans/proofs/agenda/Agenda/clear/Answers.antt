use Rattle.std.proofs.Common.{[], sym, ◌∙◌, ap, subst, arith, length, false, take, replicate}
use Rattle.sim_plans.specs.Waiting.{Waiting, IsWaiting}
use Rattle.sim_plans.proofs.Waits.{unmarked_all, none_waiting}
use Rattle.sim_plans.proofs.agenda.Agenda.clear.Goals as goal

pub invariant_of-self : goal.invariant_of-self
invariant_of-self c =
    let s = c.self.inside in
    let gone = rw c.deref.ensures.value at c.unmark.ensures.gone in
    let none = unmarked_all (record { marks = c.self.inside.marks.items; list = take c.self.inside.len c.self.inside.list.items }) c.unmark.new.marks.items c.self.invariant.2 c.unmark.ensures.count gone in
    (omega arith, c.self.invariant.1 ∙ sym c.unmark.ensures.count, subst (λ xs. IsWaiting record { marks = xs; list = [] }) (sym none) (none_waiting (length s.marks.items)))

pub returns : goal.returns
returns c =
    let gone = rw c.deref.ensures.value at c.unmark.ensures.gone in
    let none = unmarked_all (record { marks = c.self.inside.marks.items; list = take c.self.inside.len c.self.inside.list.items }) c.unmark.new.marks.items c.self.invariant.2 c.unmark.ensures.count gone in
    ap (λ xs. record { marks = xs; list = [] }) none
    ∙ ap (λ (w : Waiting). record { marks = replicate (length w.marks) false; list = [] }) c.self.view_is
