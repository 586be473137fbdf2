use Rattle.std.proofs.Common.{◌≡◌, Bool, [], ◌∷◌, ◌++◌, get_or, sym, ◌∙◌, ap, not, true, false}
use Rattle.std.specs.Ordering.{nat_cmp}
use Rattle.std.specs.BTreeSet.{contains}
use Rattle.elab_store.specs.Held.{held_of}
use Rattle.elab_eval.proofs.ObjectLaws.{known_more, ports_more}
use Rattle.elab_eval.proofs.object_tops.signal_ports.Goals.{then-branch+in_ok-port_of+in_ok-push, else-branch}
use Rattle.elab_eval.proofs.object_tops.signal_ports.Goals as goal

-- a test of which the opposite was told
told : (b new : Bool) (known : Bool) → new ≡ not b → new ≡ not known → b ≡ known
told true new true e f = cc
told false new false e f = cc
told true new false e f = cc
told false new true e f = cc

pub loop-s-preserved : goal.loop-s-preserved
loop-s-preserved c =
    let i = c.loop-s.s-index in
    let ss = c.args.signals.now in
    let known = c.loop-s.invariant.0 in
    let s = get_or ss i (record { 0 = 0 }) in
    let met = sym (known s.0) in (
      λ q. known_more ss i q (record { 0 = 0 }) (contains nat_cmp c.loop-s.known q) (contains nat_cmp c.insert.new.self q) c.loop-s-test.true (c.in_ok-insert.ensures.updates.0 q) (known q),
      elim c.if-branch.branch [
        | then-branch+in_ok-port_of+in_ok-push w ↦
            ports_more (held_of c.args.elaboration.now) ss i (record { 0 = 0 }) false c.loop-s.ports c.if-branch.ports c.loop-s-test.true (met ∙ told _ _ false c.in_ok-insert.ensures.added w.if-branch.true) c.loop-s.invariant.1
            (w.ports-is ∙ w.in_ok-push.ensures.ok ∙ ap (λ p. c.loop-s.ports ++ p ∷ []) w.in_ok-port_of.ensures)
        | else-branch w ↦
            ports_more (held_of c.args.elaboration.now) ss i (record { 0 = 0 }) true c.loop-s.ports c.if-branch.ports c.loop-s-test.true (met ∙ told _ _ true c.in_ok-insert.ensures.added w.if-branch.false) c.loop-s.invariant.1 w.ports-is
      ],
    )
