use Rattle.std.proofs.Common.{◌<◌, length, sym, ◌∙◌, subst}
use Rattle.std.specs.List.{AllByRecursion}
use Rattle.py_heap.specs.Heaps.{seen}
use Rattle.design_ir.specs.declared.ids.SigId.{SigId}
use Rattle.elab_store.specs.Held.{held_of}
use Rattle.elab_eval.proofs.ObjectLaws.{signals_there}
use Rattle.elab_eval.proofs.object_tops.held_ports.Goals as goal

pub signal_ports-requires : goal.signal_ports-requires
signal_ports-requires c =
    let all = signals_there (seen c.args.frozen.now c.args.heap.now) (held_of c.args.elaboration.now) c.known.ensures c.attributes-row.result.now in
    subst (AllByRecursion (λ (s : SigId). s.0 < length c.args.elaboration.now.pool.signals)) (sym (c.deref.ensures.value ∙ c.in_ok-signals.ensures)) all
