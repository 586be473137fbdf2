use Rattle.std.proofs.Common.{rules, sym, subst}
use Rattle.std.specs.List.{AllByRecursion}
use Rattle.py_heap.specs.Heaps.{seen}
use Rattle.elab_store.specs.Sound.{IsEquation}
use Rattle.elab_acts.specs.Sides.{deepest}
use Rattle.elab_acts.proofs.SideLaws.{equations_stand, collected_some}
use Rattle.elab_acts.proofs.sides.add_statements.Goals as goal

pub put_statements-requires : goal.put_statements-requires
put_statements-requires c =
    subst (AllByRecursion (IsEquation c.args.elaboration.now.pool)) (sym c.as_slice.ensures.value)
    (equations_stand c.args.elaboration.now.pool c.args.elaboration.now.store c.requires.kept deepest (seen c.args.frozen.now c.args.heap.now) c.args.v.now _ (collected_some c.in_ok-collect.field-0 c.new-equations.result.items c.collect.new.into.items _ (search rules) c.new-equations.ensures.items c.in_ok-collect.ensures))
