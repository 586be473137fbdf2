use Rattle.std.proofs.Common.{arith}
use Rattle.design_ir.proofs.Counts.{few_domains}
use Rattle.design_ir.proofs.design.Design.domains.Goals as goal

pub overflow_cast-result : goal.overflow_cast-result
overflow_cast-result c = omega (arith, c.len.ensures, few_domains _ c.self.invariant.0 c.self.invariant.1)
