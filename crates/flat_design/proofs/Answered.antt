-- What an answer gives, by what it gives besides.
use Rattle.std.specs.Prelude.{Result, Ok, Err, IfOk}

pub ok_both : {A E : Type 0} (P Q R : A → Type 0) (r : Result A E) → ((x : A) → P x → Q x → R x) → IfOk r P → IfOk r Q → IfOk r R
ok_both P Q R (Ok x) f p q = f x p q
ok_both P Q R (Err e) f p q = tt

pub ok_imp : {A E : Type 0} (P Q : A → Type 0) (r : Result A E) → ((x : A) → P x → Q x) → IfOk r P → IfOk r Q
ok_imp P Q (Ok x) f p = f x p
ok_imp P Q (Err e) f p = tt
