use Rattle.flat_design.proofs.FoundLaws.{found_pushed}
use Rattle.flat_design.proofs.found.add_signal.Goals as goal

pub returns : goal.returns
returns c = λ n ss h. found_pushed n ss c.args.found.now.marks.items c.args.found.now.signals c.args.s h c.requires c.push.result c.push.new.self c.push.ensures.ok
