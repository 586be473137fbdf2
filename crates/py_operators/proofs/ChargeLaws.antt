-- What is owed with a cost, from what is owed without one.
use Rattle.std.proofs.Common.{◌≡◌, ℕ, ◌+◌, ◌<◌, Bool, Result, Ok, Err, refl, arith, ap, subst}
use Rattle.py_values.specs.declared.val.Val.{Val}
use Rattle.py_values.specs.declared.val.ValueStop.{ValueStop}
use Rattle.py_values.specs.declared.val.ValueStop.TheVariants.{Raised, Width, Limit, Spent, NoMemory}
use Rattle.py_heap.specs.declared.fresh.Fresh.{Fresh}
use Rattle.py_values.specs.Runs.{Run, Charged, Answers, free, after}
use Rattle.py_operators.specs.Operators.{shown_or, asked}
use Rattle.py_heap.proofs.EqualityLaws.{charged_ok, charged_err, charged_give}
use Rattle.py_operators.specs.Operators.{shown, ask_of, operated, operated_by, operated_free}
use Rattle.py_operators.specs.declared.operators.Ask.TheVariants.{Equality, Membership, Neither}
use Rattle.py_values.specs.declared.op.PyOp.{PyOp}
use Rattle.py_heap.specs.Heaps.{Seen}
use Rattle.py_heap.specs.Equality.{equal}
use Rattle.py_heap.specs.Members.{member}

pub charged_free : {A : Type 0} (r owed : Result A ValueStop) (left : ℕ) → 0 < left → Answers r owed → Charged r left left (free owed)
charged_free (Ok x) owed left g h = (h, omega arith, g)
charged_free (Err Raised) owed left g h = (h, omega arith, g)
charged_free (Err Width) owed left g h = (h, omega arith, g)
charged_free (Err Limit) owed left g h = (h, omega arith, g)
charged_free (Err Spent) owed left g h = absurd h
charged_free (Err NoMemory) owed left g h = tt

pub charged_after : {A B : Type 0} (x : A) (r : Result B ValueStop) (before left : ℕ) (m : Run A) (owed : A → Result B ValueStop) → Charged (Ok x) before left m → Answers r (owed x) → Charged r before left (after m (λ y. free (owed y)))
charged_after x r before left m owed h g = charged_ok x r before left left m.cost m.answer (λ y. free (owed y)) h (charged_free r (owed x) left h.2 g)

pub charged_shown : (sign : Bool) (r : Result Bool ValueStop) (before left : ℕ) (m : Run Bool) → Charged r before left m → Charged (shown_or sign r) before left (asked sign m)
charged_shown sign (Ok b) before left m h = charged_after b (Ok (shown sign b)) before left m (λ y. Ok (shown sign y)) h refl
charged_shown sign (Err stop) before left m h = charged_err stop before left m.cost m.answer _ h

pub done_equality : (s : Seen) (op : PyOp) (a b : Val) (sign : Bool) (r : Result Bool ValueStop) (q : Result Fresh ValueStop) (before left : ℕ) → Equality sign ≡ ask_of op → q ≡ shown_or sign r → Charged r before left (equal s a b) → Charged q before left (operated s op a b)
done_equality s op a b sign r q before left h e g =
    let P : Run Fresh → Type 0 = λ m. Charged q before left m in
    subst P (ap (λ k. operated_by s k op a b) h) (rw e (charged_shown sign r before left (equal s a b) g))

pub done_membership : (s : Seen) (op : PyOp) (a b : Val) (sign : Bool) (r : Result Bool ValueStop) (q : Result Fresh ValueStop) (before left : ℕ) → Membership sign ≡ ask_of op → q ≡ shown_or sign r → Charged r before left (member s a b) → Charged q before left (operated s op a b)
done_membership s op a b sign r q before left h e g =
    let P : Run Fresh → Type 0 = λ m. Charged q before left m in
    subst P (ap (λ k. operated_by s k op a b) h) (rw e (charged_shown sign r before left (member s a b) g))

pub done_free : (s : Seen) (op : PyOp) (a b : Val) (q : Result Fresh ValueStop) (left : ℕ) → Neither ≡ ask_of op → 0 < left → Answers q (operated_free s op a b) → Charged q left left (operated s op a b)
done_free s op a b q left h e g =
    let P : Run Fresh → Type 0 = λ m. Charged q left left m in
    subst P (ap (λ k. operated_by s k op a b) h) (charged_free q (operated_free s op a b) left e g)
