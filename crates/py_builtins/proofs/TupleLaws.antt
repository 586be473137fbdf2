-- Lists of new tuples, and the rows that they are made of.
use Rattle.std.proofs.Common.{◌≡◌, ℕ, zero, suc, ◌+◌, ◌-◌, ◌*◌, ◌≤◌, ◌<◌, inl, inr, true, false, List, [], ◌∷◌, ◌++◌, length, drop, Result, Ok, Err, refl, arith, ap, sym, ◌∙◌, subst}
use Rattle.std.specs.Prelude.{ℤ, pos, ◌+ℤ◌, reverse, slice_index_or, unwrap_or}
use Rattle.std.proofs.Math.Seq.{drop-cons}
use Rattle.std.proofs.lemmas.Int.{ints}
use Rattle.std.proofs.lemmas.List.{reverse-append, length-map}
use Rattle.std.proofs.lemmas.Bool.{cases_Bool}
use Rattle.std.proofs.lemmas.Bool.Decides.{nat_tests}
use Rattle.py_values.specs.declared.val.Val.{Val}
use Rattle.py_values.specs.declared.val.Val.TheVariants as val
use Rattle.py_values.specs.declared.val.ValueStop.{ValueStop}
use Rattle.py_values.specs.declared.val.ValueStop.TheVariants.{Raised, Width, Limit, Spent, NoMemory}
use Rattle.py_heap.specs.declared.fresh.Fresh.TheVariants as fresh
use Rattle.py_heap.specs.Heaps.{Made, Seen, seen}
use Rattle.py_heap.specs.Places.{placed, row_passes}
use Rattle.py_values.specs.Runs.{Answers}
use Rattle.py_operators.specs.Elements.{element}
use Rattle.py_builtins.specs.Sequences.{onward, tuples_onto, tuple_list, numbered, column, columns}

-- ---- rows that stand the other way round

reverse-push : {A : Type 0} (rows rest : List A) (row : A) → rows ≡ rest ++ row ∷ [] → reverse rows ≡ row ∷ reverse rest
reverse-push rows rest row e = ap reverse e ∙ reverse-append rest (row ∷ [])

-- ---- tuples, one after the other

pub tuple_turn : (f own new : Made) (all all' : List Val) (rows rest : List (List Val)) (row : List Val) (v : Val) (whole : Result (List Val × Made) ValueStop) → rows ≡ rest ++ row ∷ [] → placed (seen f own) (fresh.Tuple row) ≡ Ok (v, new) → all' ≡ all ++ v ∷ [] → tuples_onto f own all (reverse rows) ≡ whole → tuples_onto f new all' (reverse rest) ≡ whole
unfolding tuples_onto
tuple_turn f own new all all' rows rest row v whole e p g h =
    let q : tuples_onto f own all (row ∷ reverse rest) ≡ tuples_onto f new (all ++ v ∷ []) (reverse rest) = ap (λ m. onward m (λ x. tuples_onto f x.1 (all ++ x.0 ∷ []) (reverse rest))) p in
    ap (λ xs. tuples_onto f new xs (reverse rest)) g ∙ sym q ∙ ap (tuples_onto f own all) (sym (reverse-push rows rest row e)) ∙ h

onward_err : {A B : Type 0} (stop : ValueStop) (m : Result A ValueStop) (f : A → Result B ValueStop) → Answers {A = A} (Err stop) m → Answers {A = B} (Err stop) (onward m f)
onward_err Raised m f h = rw h refl
onward_err Width m f h = rw h refl
onward_err Limit m f h = rw h refl
onward_err Spent m f h = absurd h
onward_err NoMemory m f h = tt

pub tuple_fails : (f own : Made) (all : List Val) (rows rest : List (List Val)) (row : List Val) (stop : ValueStop) (whole : Result (List Val × Made) ValueStop) → rows ≡ rest ++ row ∷ [] → Answers {A = Val × Made} (Err stop) (placed (seen f own) (fresh.Tuple row)) → tuples_onto f own all (reverse rows) ≡ whole → Answers {A = Val × Made} (Err stop) (onward whole (λ x. placed (seen f x.1) (fresh.List x.0)))
unfolding tuples_onto
tuple_fails f own all rows rest row stop whole e p h =
    let q : onward (placed (seen f own) (fresh.Tuple row)) (λ x. tuples_onto f x.1 (all ++ x.0 ∷ []) (reverse rest)) ≡ whole = ap (tuples_onto f own all) (sym (reverse-push rows rest row e)) ∙ h in
    onward_err stop whole (λ x. placed (seen f x.1) (fresh.List x.0)) (subst (λ (m : Result (List Val × Made) ValueStop). Answers {A = List Val × Made} (Err stop) m) q (onward_err stop (placed (seen f own) (fresh.Tuple row)) (λ x. tuples_onto f x.1 (all ++ x.0 ∷ []) (reverse rest)) p))

pub tuples_end : (f own : Made) (all : List Val) (rows : List (List Val)) (whole : Result (List Val × Made) ValueStop) (r : Result (Val × Made) ValueStop) → rows ≡ [] → Answers r (placed (seen f own) (fresh.List all)) → tuples_onto f own all (reverse rows) ≡ whole → Answers r (onward whole (λ x. placed (seen f x.1) (fresh.List x.0)))
unfolding tuples_onto
tuples_end f own all rows whole r e p h =
    let q : Ok (all, own) ≡ whole = ap (λ xs. tuples_onto f own all (reverse xs)) (sym e) ∙ h in
    subst (λ (m : Result (List Val × Made) ValueStop). Answers r (onward m (λ x. placed (seen f x.1) (fresh.List x.0)))) q p

-- ---- numbers and elements

drop_end : (xs : List Val) → drop (length xs) xs ≡ []
drop_end [] = refl
drop_end (x ∷ xs) = drop_end xs

-- a row, as what a call may answer
abbrev pub answered_row : List Val → Result (List Val) ValueStop
answered_row row = Ok row

pub numbered_start : (n : ℤ) (xs : List Val) (rows : List (List Val)) → rows ≡ [] → reverse rows ≡ numbered (n +ℤ pos (length xs - 0)) (drop (length xs - 0) xs)
unfolding numbered
numbered_start n xs rows e =
    let z : length xs - 0 ≡ length xs = omega arith in
    rw z (ap reverse e ∙ ap (numbered (n +ℤ pos (length xs))) (sym (drop_end xs)))

numbered_at : (n m : ℤ) (xs : List Val) (k : ℕ) (x : Val) → k < length xs → m ≡ n +ℤ pos k → x ≡ slice_index_or xs k x → numbered (n +ℤ pos k) (drop k xs) ≡ (val.Int m ∷ x ∷ []) ∷ numbered (n +ℤ pos (suc k)) (drop (suc k) xs)
unfolding numbered
numbered_at n m xs k x l e g =
    let q : (n +ℤ pos k) +ℤ pos 1 ≡ n +ℤ pos (suc k) = omega (arith, ints) in
    ap (numbered (n +ℤ pos k)) (drop-cons xs k x l) ∙ rw (← g, e, q) refl

pub numbered_turn : (n m : ℤ) (xs : List Val) (i : ℕ) (x : Val) (row : List Val) (rows rows' : List (List Val)) → i < length xs → m ≡ n +ℤ pos (length xs - 1 - i) → x ≡ slice_index_or xs (length xs - 1 - i) x → answered_row (val.Int m ∷ x ∷ []) ≡ answered_row row → rows' ≡ rows ++ row ∷ [] → reverse rows ≡ numbered (n +ℤ pos (length xs - i)) (drop (length xs - i) xs) → reverse rows' ≡ numbered (n +ℤ pos (length xs - (i + 1))) (drop (length xs - (i + 1)) xs)
numbered_turn n m xs i x row rows rows' l e g p q h =
    let k = length xs - 1 - i in
    let a : length xs - (i + 1) ≡ length xs - 1 - i = omega arith in
    let b : length xs - i ≡ suc (length xs - 1 - i) = omega arith in
    let c : length xs - 1 - i < length xs = omega arith in
    let r : val.Int m ∷ x ∷ [] ≡ row = cc in
    let t : reverse rows ≡ numbered (n +ℤ pos (suc k)) (drop (suc k) xs) = h ∙ ap (λ (j : ℕ). numbered (n +ℤ pos j) (drop j xs)) b in
    rw a (reverse-push rows' rows row q ∙ ap (λ ys. row ∷ ys) t ∙ ap (λ y. y ∷ numbered (n +ℤ pos (suc k)) (drop (suc k) xs)) (sym r) ∙ sym (numbered_at n m xs k x c e g))

-- ---- columns

pub columns_start : (s : Seen) (vs : List Val) (j : ℕ) (rows : List (List Val)) → rows ≡ [] → reverse rows ≡ columns s vs 0 j
unfolding columns
columns_start s vs j rows e = ap reverse e

columns_at : (s : Seen) (vs : List Val) (i j : ℕ) → columns s vs (i + 1) j ≡ column s vs j ∷ columns s vs i (j + 1)
unfolding columns
columns_at s vs i j =
    let e : i + 1 ≡ suc i = omega arith in
    rw e refl

pub columns_turn : (s : Seen) (vs : List Val) (n i : ℕ) (row : List Val) (rows rows' : List (List Val)) → i < n → answered_row (column s vs (n - 1 - i)) ≡ answered_row row → rows' ≡ rows ++ row ∷ [] → reverse rows ≡ columns s vs i (n - i) → reverse rows' ≡ columns s vs (i + 1) (n - (i + 1))
columns_turn s vs n i row rows rows' l p q h =
    let a : n - (i + 1) ≡ n - 1 - i = omega arith in
    let b : n - i ≡ (n - 1 - i) + 1 = omega arith in
    let r : column s vs (n - 1 - i) ≡ row = cc in
    let t : reverse rows ≡ columns s vs i ((n - 1 - i) + 1) = h ∙ ap (columns s vs i) b in
    rw a (reverse-push rows' rows row q ∙ ap (λ ys. row ∷ ys) t ∙ ap (λ y. y ∷ columns s vs i ((n - 1 - i) + 1)) (sym r) ∙ sym (columns_at s vs i (n - 1 - i)))

-- columns with more items than may be made

length-column : (s : Seen) (vs : List Val) (i : ℕ) → length (column s vs i) ≡ length vs
length-column s vs i = length-map vs (λ v. unwrap_or (element s v i) val.None)

row_fits : (f own : Made) (n : ℕ) → row_passes (seen f own) n ≡ false → f.items + own.items + n ≤ 4194304
row_fits f own n u = grind (arith, nat_tests)

row_is_more : (f own : Made) (n : ℕ) → 4194304 < f.items + own.items + n → row_passes (seen f own) n ≡ true
row_is_more f own n h = grind (arith, nat_tests)

-- a heap with one row more
grown : Made → List Val → Made
grown own row = record own { rows = own.rows ++ row ∷ []; items = own.items + length row }

first_passes : (f own : Made) (all row : List Val) (rows : List (List Val)) → row_passes (seen f own) (length row) ≡ true → tuples_onto f own all (row ∷ rows) ≡ Err Limit
unfolding tuples_onto
first_passes f own all row rows t = rw t refl

first_fits : (f own : Made) (all row : List Val) (rows : List (List Val)) → row_passes (seen f own) (length row) ≡ false → tuples_onto f own all (row ∷ rows) ≡ tuples_onto f (grown own row) (all ++ val.Tuple (record { 0 = length f.rows + length own.rows }) ∷ []) rows
unfolding tuples_onto grown
first_fits f own all row rows u = rw u refl

columns_pass : (f own : Made) (all : List Val) (s : Seen) (vs : List Val) (n i : ℕ) → 4194304 < f.items + own.items + suc n * length vs → tuples_onto f own all (columns s vs (suc n) i) ≡ Err Limit
unfolding columns grown
columns_pass f own all s vs zero i h =
    let t : row_passes (seen f own) (length (column s vs i)) ≡ true = row_is_more f own (length (column s vs i)) (omega (arith, length-column s vs i)) in
    first_passes f own all (column s vs i) [] t
columns_pass f own all s vs (suc n) i h =
    elim (cases_Bool (row_passes (seen f own) (length (column s vs i)))) [
      | inl t ↦ first_passes f own all (column s vs i) (columns s vs (suc n) (i + 1)) t
      | inr u ↦ first_fits f own all (column s vs i) (columns s vs (suc n) (i + 1)) u ∙ columns_pass f (grown own (column s vs i)) _ s vs n (i + 1) (omega (arith, length-column s vs i))
    ]

pub zipped_passes : (s : Seen) (vs : List Val) (n : ℕ) → 4194304 < n * length vs → tuple_list s (columns s vs n 0) ≡ Err Limit
zipped_passes s vs zero h = absurd (omega arith)
zipped_passes s vs (suc n) h =
    ap (λ m. onward m (λ x. placed (seen s.frozen x.1) (fresh.List x.0))) (columns_pass s.frozen s.own [] s vs n 0 (omega arith))
