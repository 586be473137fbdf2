use Rattle.std.proofs.Common.{arith, sym}
use Rattle.py_values.proofs.PowerLaws.{small_pow, large_pow}
use Rattle.py_values.proofs.powers.power_of_size.Goals as goal

pub returns-then-size-lt2 : goal.returns-then-size-lt2
returns-then-size-lt2 c =
    let e = small_pow c.args.size c.args.n c.if-size-lt2.true (omega arith) in
    (omega (arith, e), sym e)

pub returns-else-size-lt2 : goal.returns-else-size-lt2
returns-else-size-lt2 c = λ h. omega (arith, large_pow c.args.size c.args.n (omega arith) (omega arith))
