-- What is known of a result, turned into what follows from it.
use Rattle.std.proofs.Common.{Result, Ok, Err, OnOk, OnErr, IfOk}

pub ok_so : {X E : Type 0} {P Q : Type 0} (r : Result X E) → OnOk r P → (P → Q) → OnOk r Q
ok_so (Ok x) h f = f h
ok_so (Err e) h f = h

pub err_so : {X E : Type 0} {P Q : Type 0} (r : Result X E) → OnErr r P → (P → Q) → OnErr r Q
err_so (Ok x) h f = h
err_so (Err e) h f = f h

pub if_ok_so : {X E : Type 0} {P Q : X → Type 0} (r : Result X E) → IfOk r P → ((x : X) → P x → Q x) → IfOk r Q
if_ok_so (Ok x) h f = f x h
if_ok_so (Err e) h f = h
