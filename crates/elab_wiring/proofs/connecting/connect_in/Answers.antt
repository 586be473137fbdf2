use Rattle.std.proofs.Common.{sym, subst, ap, ◌∙◌, option_map, Vec, Global}
use Rattle.std.specs.List.{AllByRecursion}
use Rattle.elab_store.specs.declared.kept.Equation.{Equation}
use Rattle.elab_store.specs.Held.{held_of}
use Rattle.elab_store.specs.Sound.{IsEquation}
use Rattle.elab_wiring.proofs.ConnectLaws.{equations_stand}
use Rattle.elab_wiring.proofs.connecting.connect_in.Goals as goal

pub put_statements-requires : goal.put_statements-requires
put_statements-requires c =
    let e = c.args.elaboration.now in
    subst (AllByRecursion (IsEquation e.pool)) (sym c.as_slice.ensures.value)
    (equations_stand c.args.place (held_of e) c.args.first c.args.second c.in-Some-2.equations.items c.requires.components.ends (sym c.in_ok-equations.ensures ∙ ap (option_map (λ (v : Vec Equation Global). v.items)) c.in-Some-2.is))
