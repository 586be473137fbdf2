use Rattle.data_layouts.proofs.Fits.{is_of-IsOf, IsOf-is_of}
use Rattle.data_layouts.proofs.laws.tests_are_exact.Goals as goal

pub returns : goal.returns
returns c = λ signed width n. (IsOf-is_of signed width n, is_of-IsOf signed width n)
