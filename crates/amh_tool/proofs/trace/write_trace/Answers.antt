use Rattle.std.proofs.Common.{refl, inl}
use Rattle.std.proofs.lemmas.Result.{err_from_is_err_and}
use Rattle.amh_tool.specs.Verdicts.{events_of}
use Rattle.amh_tool.proofs.TraceLaws.{has_trace}
use Rattle.amh_tool.proofs.trace.write_trace.Goals as goal

pub returns-in_err-sim-clause-text : goal.returns-in_err-sim-clause-text
returns-in_err-sim-clause-text g c =
    let p = err_from_is_err_and c.from_residual.result c.from_residual.ensures.1 in
    let a = c.args.accepted.now in
    let trace = has_trace a c.requires (c.has_one_history.ensures (events_of a) c.requires.legal) in
    (trace.text, trace.is_trace, rw p.1 (inl refl))
