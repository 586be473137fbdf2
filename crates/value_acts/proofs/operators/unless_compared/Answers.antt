use Rattle.std.specs.Prelude.{refl}
use Rattle.py_values.specs.declared.val.Val.TheVariants as val
use Rattle.amh_things.specs.Plans.{value_given}
use Rattle.amh_things.proofs.Drafts.{none_drafted}
use Rattle.value_acts.proofs.operators.unless_compared.Goals as goal

pub returns-in-Some-clause-drafted : goal.returns-in-Some-clause-drafted
returns-in-Some-clause-drafted c = λ p made. rw c.value_given.ensures (none_drafted p (value_given (val.Bool c.in-Some.equal)) refl tt)
