-- Forms that lines have beside those of expressions: lists as they stand, what is read by what stood before, and notes.
use Rattle.std.proofs.Common.{◌≡◌, refl, sym, ap, subst, ◌∙◌, List, [], ◌∷◌, ◌++◌, append_assoc, length, length-append, Some, arith, inl, inr}
use Rattle.std.proofs.lemmas.List.{append-nil}
use Rattle.std.specs.Prelude.{◌⊎◌, Bool, fold, ◌-◌, take}
use Rattle.std.proofs.Math.Seq.{take-append_seam}
use Rattle.py_grammar.specs.declared.word.Word.{Word}
use Rattle.py_grammar.specs.Forms.{◌∣◌, Made, Many}
use Rattle.py_grammar.specs.Readers.{Read, ◌>>=◌, many}
use Rattle.py_grammar.specs.Shapes.{awaits}
use Rattle.py_grammar.specs.Statements.{Noting}
use Rattle.py_grammar.specs.Line_reading.{and_then, noting}
use Rattle.py_grammar.proofs.Exact.{Front, Exact, bind_ok, front_at}
use Rattle.py_grammar.proofs.Runs.{Runs, exact_many}

-- nothing follows
abbrev pub End : List Word → Type 0
End r = r ≡ []

-- a relation that is the same in other words
pub exact_same : {A : Type 0} (E : List Word → Type 0) (D F : List Word → A → Type 0) (rd : Read A) → Exact E D rd → ((ws : List Word) (a : A) → D ws a → F ws a) → ((ws : List Word) (a : A) → F ws a → D ws a) → Exact E F rd
exact_same E D F rd e to from = record {
  sound = λ ws a r h. let f = e.sound ws a r h in record { front = f.front; split = f.split; derived = to f.front a f.derived };
  complete = λ ws a r d h. e.complete ws a r (from ws a d) h;
}

pub swap : {A B : Type 0} → A ⊎ B → B ⊎ A
swap (inl a) = inr a
swap (inr b) = inl b

-- one thing or another, in the other order
pub exact_swap : {A : Type 0} (E : List Word → Type 0) (D F : List Word → A → Type 0) (rd : Read A) → Exact E (D ∣ F) rd → Exact E (F ∣ D) rd
exact_swap E D F rd e = exact_same E (D ∣ F) (F ∣ D) rd e (λ ws a d. swap d) (λ ws a d. swap d)

-- ---- lists as they stand

fold_and_then : {A : Type 0} (xs ys : List A) → fold and_then xs ys ≡ xs ++ ys
fold_and_then xs [] = sym (append-nil xs)
fold_and_then xs (y ∷ ys) = fold_and_then (xs ++ y ∷ []) ys ∙ append_assoc xs (y ∷ []) ys

pub exact_list : {A : Type 0} (E F : List Word → Type 0) (D : List Word → A → Type 0) (goes : List Word → Bool) (rd : Read A) → Runs E F D goes rd → Exact F (Many D) (many goes rd and_then [])
exact_list {A = A} E F D goes rd run = exact_same F (Made (λ (xs : List A). fold and_then [] xs) (Many D)) (Many D) (many goes rd and_then []) (exact_many E F D goes rd and_then [] run)
    (λ ws xs d. subst (Many D ws) (sym (d.is ∙ fold_and_then [] d.from)) d.derived)
    (λ ws xs d. record { from = xs; derived = d; is = sym (fold_and_then [] xs) })

-- ---- what stood before tells how the rest is read

pub record Next {A B : Type 0} (D : List Word → A → Type 0) (F : A → List Word → B → Type 0) (ws : List Word) (b : B) : Type 0 where
  pub before : A
  pub front : List Word
  pub back : List Word
  pub whole : ws ≡ front ++ back
  pub first : D front before
  pub second : F before back b

next_sound : {A B : Type 0} (E1 E2 : List Word → Type 0) (D : List Word → A → Type 0) (F : A → List Word → B → Type 0) (r1 : Read A) (r2 : A → Read B) → Exact E1 D r1 → ((a : A) → Exact E2 (F a) (r2 a)) → (ws : List Word) (b : B) (r : List Word) → (r1 ws >>= λ x. r2 x.0 x.1) ≡ Some (b, r) → Front (Next D F) ws b r
next_sound E1 E2 D F r1 r2 e1 e2 ws b r h =
    let p = bind_ok (r1 ws) (λ x. r2 x.0 x.1) (b, r) h in
    let f = e1.sound ws p.from.0 p.from.1 p.was in
    let g = (e2 p.from.0).sound p.from.1 b r p.gave in
    record { front = f.front ++ g.front; split = f.split ∙ (ap (λ z. f.front ++ z) g.split ∙ sym (append_assoc f.front g.front r)); derived = record { before = p.from.0; front = f.front; back = g.front; whole = refl; first = f.derived; second = g.derived } }

next_complete : {A B : Type 0} (E1 E2 : List Word → Type 0) (D : List Word → A → Type 0) (F : A → List Word → B → Type 0) (r1 : Read A) (r2 : A → Read B) → Exact E1 D r1 → ((a : A) → Exact E2 (F a) (r2 a)) → ((a : A) (us : List Word) (b : B) (r : List Word) → F a us b → E2 r → E1 (us ++ r)) → (ws : List Word) (b : B) (r : List Word) → Next D F ws b → E2 r → (r1 (ws ++ r) >>= λ x. r2 x.0 x.1) ≡ Some (b, r)
next_complete E1 E2 D F r1 r2 e1 e2 follow ws b r d e =
    ap (λ z. r1 (z ++ r) >>= λ x. r2 x.0 x.1) d.whole
    ∙ (ap (λ z. r1 z >>= λ x. r2 x.0 x.1) (append_assoc d.front d.back r)
    ∙ (ap (λ o. o >>= λ x. r2 x.0 x.1) (e1.complete d.front d.before (d.back ++ r) d.first (follow d.before d.back b r d.second e))
    ∙ (e2 d.before).complete d.back b r d.second e))

pub exact_next : {A B : Type 0} (E1 E2 : List Word → Type 0) (D : List Word → A → Type 0) (F : A → List Word → B → Type 0) (r1 : Read A) (r2 : A → Read B) → Exact E1 D r1 → ((a : A) → Exact E2 (F a) (r2 a)) → ((a : A) (us : List Word) (b : B) (r : List Word) → F a us b → E2 r → E1 (us ++ r)) → Exact E2 (Next D F) (λ ws. r1 ws >>= λ x. r2 x.0 x.1)
exact_next E1 E2 D F r1 r2 e1 e2 follow = record { sound = next_sound E1 E2 D F r1 r2 e1 e2; complete = next_complete E1 E2 D F r1 r2 e1 e2 follow }

-- ---- notes

-- the words that were taken, by how many are left
taken : (front back : List Word) → take (length (front ++ back) - length back) (front ++ back) ≡ front
taken front back = let e : length (front ++ back) - length back ≡ length front = omega (arith, length-append front back) in ap (λ n. take n (front ++ back)) e ∙ take-append_seam front back

pub exact_noting : {A : Type 0} (E : List Word → Type 0) (D : List Word → A → Type 0) (rd : Read A) → Exact E D rd → Exact E (Noting D) (noting rd)
exact_noting {A = A} E D rd e = record {
  sound = λ ws x r h.
      let p = bind_ok (rd ws) (λ y. Some ((y.0, awaits (take (length ws - length y.1) ws)), y.1)) (x, r) h in
      let f = e.sound ws p.from.0 p.from.1 p.was in
      let same : take (length ws - length p.from.1) ws ≡ f.front = ap (λ z. take (length z - length p.from.1) z) f.split ∙ taken f.front p.from.1 in
      front_at (Noting D) ws ((p.from.0, awaits (take (length ws - length p.from.1) ws)), p.from.1) (x, r) (record { front = f.front; split = f.split; derived = record { derived = f.derived; noted = ap awaits same } }) p.gave;
  complete = λ ws x r d h.
      ap (λ o. o >>= λ (y : A × List Word). Some ((y.0, awaits (take (length (ws ++ r) - length y.1) (ws ++ r))), y.1)) (e.complete ws x.0 r d.derived h)
      ∙ ap (λ (b : Bool). Some ((x.0, b), r)) (ap awaits (taken ws r) ∙ sym d.noted);
}
