-- Values that are sampled, one after the other.
use Rattle.std.proofs.Common.{◌≡◌, refl, ◌∙◌, sym, ap, ℕ, ◌+◌, List, [], ◌∷◌, ◌++◌, drop, Option, Some, None}
use Rattle.std.specs.Prelude.{slice_get, option_map, option_and_then}
use Rattle.std.proofs.lemmas.List.{append_assoc, append-nil}
use Rattle.py_values.specs.declared.val.Val.{Val}
use Rattle.py_heap.proofs.ObjectLaws.{drop_at}
use Rattle.elab_store.specs.declared.simulation.Sample.{Sample}
use Rattle.elab_store.specs.Stores.{Held}
use Rattle.bench_acts.specs.Context.{read_of, all_read}

-- those before, and those that are left
behind : List Sample → Option (List Sample) → Option (List Sample)
behind xs o = option_map (λ ys. xs ++ ys) o

put_first : (xs : List Sample) (x : Sample) (o : Option (List Sample)) → option_map (λ ys. xs ++ ys) (option_map (λ ys. x ∷ ys) o) ≡ option_map (λ ys. (xs ++ x ∷ []) ++ ys) o
put_first xs x None = refl
put_first xs x (Some ys) = ap Some (sym (append_assoc xs (x ∷ []) ys))

pub read_next : (h : Held) (vs : List Val) (i : ℕ) (v : Val) (x : Sample) (xs : List Sample) (whole : Option (List Sample)) → slice_get vs i ≡ Some v → Some x ≡ read_of h v → option_map (λ ys. xs ++ ys) (all_read h (drop i vs)) ≡ whole → option_map (λ ys. (xs ++ x ∷ []) ++ ys) (all_read h (drop (i + 1) vs)) ≡ whole
read_next h vs i v x xs whole is read before =
    sym (put_first xs x (all_read h (drop (i + 1) vs)))
    ∙ ap (λ o. option_map (λ ys. xs ++ ys) (option_and_then (λ y. option_map (λ ys. y ∷ ys) (all_read h (drop (i + 1) vs))) o)) read
    ∙ ap (λ ws. option_map (λ ys. xs ++ ys) (all_read h ws)) (sym (drop_at vs i v is))
    ∙ before

pub not_read : (h : Held) (vs : List Val) (i : ℕ) (v : Val) (xs : List Sample) (whole : Option (List Sample)) → slice_get vs i ≡ Some v → None ≡ read_of h v → option_map (λ ys. xs ++ ys) (all_read h (drop i vs)) ≡ whole → None ≡ whole
not_read h vs i v xs whole is read before =
    ap (λ o. option_map (λ ys. xs ++ ys) (option_and_then (λ y. option_map (λ ys. y ∷ ys) (all_read h (drop (i + 1) vs))) o)) read
    ∙ ap (λ ws. option_map (λ ys. xs ++ ys) (all_read h ws)) (sym (drop_at vs i v is))
    ∙ before
