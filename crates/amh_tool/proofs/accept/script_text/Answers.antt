use Rattle.std.proofs.Common.{subst}
use Rattle.amh_host.specs.Whole.{ReadsWhole}
use Rattle.amh_host.specs.declared.whole.Whole.{Whole}
use Rattle.amh_tool.proofs.AcceptLaws.{whole_script, front_of_script}
use Rattle.amh_tool.proofs.accept.script_text.Goals as goal

pub returns-in-Bytes-clause-bytes : goal.returns-in-Bytes-clause-bytes
returns-in-Bytes-clause-bytes g c =
    let told = (g.H.Host.seen c.args.host.now).files in
    whole_script told c.args.name.now 16_777_216 c.in-Bytes.text (subst (λ (w : Whole). ReadsWhole told c.args.name.now 16_777_216 w) c.in-Bytes.is c.in_ok-text.ensures.bytes)

pub returns-in-TooLong-clause-bytes : goal.returns-in-TooLong-clause-bytes
returns-in-TooLong-clause-bytes g c =
    let told = (g.H.Host.seen c.args.host.now).files in
    front_of_script told c.args.name.now c.in-TooLong.front (subst (λ (w : Whole). ReadsWhole told c.args.name.now 16_777_216 w) c.in-TooLong.is c.in_ok-text.ensures.bytes)
