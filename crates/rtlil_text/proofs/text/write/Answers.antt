use Rattle.rtlil_text.specs.Written.{width_among, text_of}
use Rattle.rtlil_text.proofs.Spelled.{Reads-module_text}
use Rattle.rtlil_text.proofs.Found.{AreWidths-width_among}
use Rattle.rtlil_text.proofs.text.write.Goals as goal

pub returns-clause-text : goal.returns-clause-text
returns-clause-text g c =
    let m = c.args.m.now in
    (text_of m, Reads-module_text m (width_among m.wires) (AreWidths-width_among m.wires) c.requires, c.write_text.ensures.text)
