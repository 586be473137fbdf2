-- Any number of things, read in a loop.
use Rattle.std.proofs.Common.{◌≡◌, ℕ, ◌<◌, ◌≤◌, suc, zero, refl, sym, ap, subst, ◌∙◌, List, [], ◌∷◌, ◌++◌, append_assoc, length, length-append, Some, arith, inl, inr}
use Rattle.std.specs.Prelude.{Bool, true, false, fold}
use Rattle.py_grammar.specs.declared.word.Word.{Word}
use Rattle.py_grammar.specs.Forms.{Made, Many, no_more, one_more}
use Rattle.py_grammar.specs.Readers.{Read, ◌>>=◌, repeat, many}
use Rattle.py_grammar.proofs.Exact.{Exact, bind_ok, if_some, if_true, if_false, some_same}

-- what is asked of the things and of the words behind them
pub record Runs {A : Type 0} (E F : List Word → Type 0) (D : List Word → A → Type 0) (goes : List Word → Bool) (rd : Read A) : Type 0 where
  pub exact : Exact E D rd
  pub length_there : (ws : List Word) (a : A) → D ws a → 0 < length ws
  pub goes_on : (ws : List Word) (a : A) (r : List Word) → D ws a → goes (ws ++ r) ≡ true
  pub ends : (r : List Word) → F r → goes r ≡ false
  pub at_end : (r : List Word) → F r → E r
  pub at_next : (ws : List Word) (a : A) (r : List Word) → D ws a → E (ws ++ r)

many_ends : {A : Type 0} (E F : List Word → Type 0) (D : List Word → A → Type 0) (goes : List Word → Bool) (rd : Read A) → Runs E F D goes rd → (ws : List Word) (xs : List A) (r : List Word) → Many D ws xs → F r → E (ws ++ r)
many_ends E F D goes rd run ws xs r no_more f = run.at_end r f
many_ends E F D goes rd run ws xs r (one_more {ws = vs} {us = us} {x = x} d m) f = subst E (sym (append_assoc vs us r)) (run.at_next vs x (us ++ r) d)

-- with enough turns, all of them are read
repeat_complete : {A B : Type 0} (E F : List Word → Type 0) (D : List Word → A → Type 0) (goes : List Word → Bool) (rd : Read A) (add : B → A → B) → Runs E F D goes rd → (ws : List Word) (xs : List A) → Many D ws xs → (r : List Word) → F r → (n : ℕ) → length ws ≤ n → (b : B) → repeat goes rd add n b (ws ++ r) ≡ Some (fold add b xs, r)
unfolding repeat
repeat_complete E F D goes rd add run ws xs (no_more) r f zero h b = refl
repeat_complete E F D goes rd add run ws xs (no_more) r f (suc n) h b = if_false (goes r) (rd r >>= λ x. repeat goes rd add n (add b x.0) x.1) (Some (b, r)) (run.ends r f)
repeat_complete E F D goes rd add run ws xs (one_more {ws = vs} {us = us} {x = x} {xs = ys} d m) r f zero h b = absurd (omega (arith, run.length_there vs x d, length-append vs us))
repeat_complete E F D goes rd add run ws xs (one_more {ws = vs} {us = us} {x = x} {xs = ys} d m) r f (suc n) h b =
    let less : length us ≤ n = omega (arith, run.length_there vs x d, length-append vs us) in
    ap (repeat goes rd add (suc n) b) (append_assoc vs us r)
    ∙ (if_true (goes (vs ++ (us ++ r))) (rd (vs ++ (us ++ r)) >>= λ x. repeat goes rd add n (add b x.0) x.1) (Some (b, vs ++ (us ++ r))) (run.goes_on vs x (us ++ r) d)
    ∙ (ap (λ o. o >>= λ x. repeat goes rd add n (add b x.0) x.1) (run.exact.complete vs x (us ++ r) d (many_ends E F D goes rd run us ys r m f))
    ∙ repeat_complete E F D goes rd add run us ys m r f n less (add b x)))

-- what is read is a front of so many things
pub record Read_run {A B : Type 0} (D : List Word → A → Type 0) (add : B → A → B) (ws : List Word) (b c : B) (r : List Word) : Type 0 where
  pub things : List A
  pub added : c ≡ fold add b things
  pub front : List Word
  pub split : ws ≡ front ++ r
  pub derived : Many D front things

run_at : {A B : Type 0} (D : List Word → A → Type 0) (add : B → A → B) (ws : List Word) (b : B) (x y : B × List Word) → Read_run D add ws b x.0 x.1 → Some x ≡ Some y → Read_run D add ws b y.0 y.1
run_at {B = B} D add ws b x y f h = subst (λ (z : B × List Word). Read_run D add ws b z.0 z.1) (some_same x y h) f

repeat_sound : {A B : Type 0} (E : List Word → Type 0) (D : List Word → A → Type 0) (goes : List Word → Bool) (rd : Read A) (add : B → A → B) → Exact E D rd → (n : ℕ) (b : B) (ws : List Word) (c : B) (r : List Word) → repeat goes rd add n b ws ≡ Some (c, r) → Read_run D add ws b c r
unfolding repeat
repeat_sound E D goes rd add e zero b ws c r h = run_at D add ws b (b, ws) (c, r) (record { things = []; added = refl; front = []; split = refl; derived = no_more }) h
repeat_sound E D goes rd add e (suc n) b ws c r h = elim (if_some (goes ws) (rd ws >>= λ x. repeat goes rd add n (add b x.0) x.1) (Some (b, ws)) (c, r) h) [
  | inl y ↦ let p = bind_ok (rd ws) (λ x. repeat goes rd add n (add b x.0) x.1) (c, r) y.1 in
      let f = e.sound ws p.from.0 p.from.1 p.was in
      let g = repeat_sound E D goes rd add e n (add b p.from.0) p.from.1 c r p.gave in
      record { things = p.from.0 ∷ g.things; added = g.added; front = f.front ++ g.front; split = f.split ∙ (ap (λ z. f.front ++ z) g.split ∙ sym (append_assoc f.front g.front r)); derived = one_more f.derived g.derived }
  | inr n ↦ run_at D add ws b (b, ws) (c, r) (record { things = []; added = refl; front = []; split = refl; derived = no_more }) n.1
]

pub exact_many : {A B : Type 0} (E F : List Word → Type 0) (D : List Word → A → Type 0) (goes : List Word → Bool) (rd : Read A) (add : B → A → B) (b : B) → Runs E F D goes rd → Exact F (Made (λ xs. fold add b xs) (Many D)) (many goes rd add b)
exact_many E F D goes rd add b run = record {
  sound = λ ws c r h. let g = repeat_sound E D goes rd add run.exact (length ws) b ws c r h in record { front = g.front; split = g.split; derived = record { from = g.things; derived = g.derived; is = g.added } };
  complete = λ ws c r d f. repeat_complete E F D goes rd add run ws d.from d.derived r f (length (ws ++ r)) (omega (arith, length-append ws r)) b ∙ ap (λ z. Some (z, r)) (sym d.is);
}
