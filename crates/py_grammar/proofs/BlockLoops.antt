-- What a loop reads off lines, turn by turn.
use Rattle.std.proofs.Common.{◌≡◌, ℕ, ◌<◌, ◌≤◌, suc, zero, refl, sym, ap, subst, ◌∙◌, List, [], ◌∷◌, ◌++◌, append_assoc, length, length-append, arith}
use Rattle.std.specs.Prelude.{Bool, true, false}
use Rattle.py_grammar.specs.Blocks.{Line}
use Rattle.py_grammar.specs.Block_reading.{Part, Taken, Stuck, Takes, ◌>>=◌, next_line, repeat}
use Rattle.py_grammar.proofs.Exact.{if_true, if_false}
use Rattle.py_grammar.proofs.BlockParts.{first, Begun, Taking, Sticking, Found, first_front, first_split, next_first, append_nothing, by_test}

pub repeat_stops : {A : Type 0} (goes : List Line → Bool) (rd : Takes A) (n : ℕ) (xs : List A) (ls : List Line) → goes ls ≡ false → repeat goes rd n xs ls ≡ Taken xs ls
unfolding repeat
repeat_stops goes rd zero xs ls h = refl
repeat_stops goes rd (suc n) xs ls h = if_false (goes ls) (rd ls >>= λ x r. repeat goes rd n (xs ++ x ∷ []) r) (Taken xs ls) h

pub repeat_goes : {A : Type 0} (goes : List Line → Bool) (rd : Takes A) (n : ℕ) (xs : List A) (ls : List Line) → goes ls ≡ true → repeat goes rd (suc n) xs ls ≡ (rd ls >>= λ x r. repeat goes rd n (xs ++ x ∷ []) r)
unfolding repeat
repeat_goes goes rd n xs ls h = if_true (goes ls) (rd ls >>= λ x r. repeat goes rd n (xs ++ x ∷ []) r) (Taken xs ls) h

-- things one after another, each of which is whole
pub data Each {A : Type 0} (D : Bool → List Line → A → Type 0) : List Line → List A → Type 0 where
  no_more : Each D [] []
  one_more : {front back : List Line} {x : A} {xs : List A} → ((cut : Bool) → D cut front x) → Each D back xs → Each D (front ++ back) (x ∷ xs)

pub record Looped {A : Type 0} (D : Bool → List Line → A → Type 0) (test : Line → Bool) (rd : List Line → Part A) (xs : List A) (ls : List Line) (ys : List A) (r : List Line) : Type 0 where
  pub things : List A
  pub added : ys ≡ xs ++ things
  pub front : List Line
  pub split : ls ≡ front ++ r
  pub derived : Each D front things
  pub ends : next_line test r ≡ false
  pub again : (n : ℕ) (zs : List A) (q : List Line) → length (front ++ q) ≤ n → first r ≡ first q → repeat (next_line test) rd n zs (front ++ q) ≡ Taken (zs ++ things) q

pub record Broken {A : Type 0} (D : Bool → List Line → A → Type 0) (test : Line → Bool) (rd : List Line → Part A) (xs : List A) (ls r : List Line) : Type 0 where
  pub things : List A
  pub front : List Line
  pub back : List Line
  pub split : ls ≡ front ++ (back ++ r)
  pub derived : Each D front things
  pub begun : Begun D back
  pub again : (n : ℕ) (zs : List A) (q : List Line) → length (front ++ (back ++ q)) ≤ n → first r ≡ first q → repeat (next_line test) rd n zs (front ++ (back ++ q)) ≡ Stuck q

abbrev pub Loop : {A : Type 0} → (Bool → List Line → A → Type 0) → (Line → Bool) → Takes A → List A → List Line → Part (List A) → Type 0
Loop D test rd xs ls (Taken ys r) = Looped D test rd xs ls ys r
Loop D test rd xs ls (Stuck r) = Broken D test rd xs ls r

module _ {A : Type 0} (D : Bool → List Line → A → Type 0) (test : Line → Bool) (rd : Takes A) (found : (ls : List Line) → Found D rd ls (rd ls)) (there : (ls : List Line) (a : A) → D true ls a → 0 < length ls) where
  loop_stops : (xs : List A) (ls : List Line) → next_line test ls ≡ false → Looped D test rd xs ls xs ls
  loop_stops xs ls h = record { things = []; added = sym (append_nothing xs); front = []; split = refl; derived = no_more; ends = h; again = λ n zs q less e. repeat_stops (next_line test) rd n zs q (sym (next_first test ls q e) ∙ h) ∙ ap (λ z. Taken z q) (sym (append_nothing zs)) }

  -- one turn more, on the front that it reads
  turn : (n : ℕ) (zs : List A) (x : A) (front ls r q : List Line) → ls ≡ front ++ r → next_line test ls ≡ true → ((q : List Line) → first r ≡ first q → rd (front ++ q) ≡ Taken x q) → first r ≡ first q → repeat (next_line test) rd (suc n) zs (front ++ q) ≡ repeat (next_line test) rd n (zs ++ x ∷ []) q
  turn n zs x front ls r q e goes again h =
      repeat_goes (next_line test) rd n zs (front ++ q) (sym (next_first test ls (front ++ q) (first_split ls front r q e h)) ∙ goes)
      ∙ ap (λ p. p >>= λ x r. repeat (next_line test) rd n (zs ++ x ∷ []) r) (again q h)

  -- and so on behind it
  turns : (x : A) (front ls r q : List Line) (p : List A → Part (List A)) → ls ≡ front ++ r → next_line test ls ≡ true → 0 < length front → ((q : List Line) → first r ≡ first q → rd (front ++ q) ≡ Taken x q) → first r ≡ first q
      → ((n : ℕ) (zs : List A) → length q ≤ n → repeat (next_line test) rd n zs q ≡ p zs) → (n : ℕ) (zs : List A) → length (front ++ q) ≤ n → repeat (next_line test) rd n zs (front ++ q) ≡ p (zs ++ x ∷ [])
  turns x front ls r q p e goes long again h rest zero zs less = absurd (omega (arith, length-append front q))
  turns x front ls r q p e goes long again h rest (suc n) zs less = turn n zs x front ls r q e goes again h ∙ rest n (zs ++ x ∷ []) (omega (arith, length-append front q))

  after_one : (xs : List A) (ls : List Line) (x : A) (r : List Line) → next_line test ls ≡ true → Taking D rd ls x r → (p : Part (List A)) → Loop D test rd (xs ++ x ∷ []) r p → Loop D test rd xs ls p
  after_one xs ls x r goes f (Taken ys s) g = record {
    things = x ∷ g.things;
    added = g.added ∙ append_assoc xs (x ∷ []) g.things;
    front = f.front ++ g.front;
    split = f.split ∙ (ap (λ z. f.front ++ z) g.split ∙ sym (append_assoc f.front g.front s));
    derived = one_more f.derived g.derived;
    ends = g.ends;
    again = λ n zs q less h.
        ap (repeat (next_line test) rd n zs) (append_assoc f.front g.front q)
        ∙ (turns x f.front ls r (g.front ++ q) (λ zs. Taken (zs ++ g.things) q) f.split goes (there f.front x (f.derived true)) f.again (first_split r g.front s q g.split h)
        (λ n zs less. g.again n zs q less h) n zs (subst (λ z. length z ≤ n) (append_assoc f.front g.front q) less)
        ∙ ap (λ z. Taken z q) (append_assoc zs (x ∷ []) g.things));
  }
  after_one xs ls x r goes f (Stuck s) g = record {
    things = x ∷ g.things;
    front = f.front ++ g.front;
    back = g.back;
    split = f.split ∙ (ap (λ z. f.front ++ z) g.split ∙ sym (append_assoc f.front g.front (g.back ++ s)));
    derived = one_more f.derived g.derived;
    begun = g.begun;
    again = λ n zs q less h.
        ap (repeat (next_line test) rd n zs) (append_assoc f.front g.front (g.back ++ q))
        ∙ turns x f.front ls r (g.front ++ (g.back ++ q)) (λ zs. Stuck q) f.split goes (there f.front x (f.derived true)) f.again
        (first_split r g.front (g.back ++ s) (g.back ++ q) g.split (first_front g.back s q h)) (λ n zs less. g.again n zs q less h) n zs
        (subst (λ z. length z ≤ n) (append_assoc f.front g.front (g.back ++ q)) less);
  }

  stuck_turn : (ls q : List Line) (n : ℕ) (zs : List A) → next_line test ls ≡ true → rd ls ≡ Stuck q → length ls ≤ n → repeat (next_line test) rd n zs ls ≡ Stuck q
  stuck_turn [] q n zs goes h less = cc
  stuck_turn (l ∷ ls) q zero zs goes h less = absurd (omega arith)
  stuck_turn (l ∷ ls) q (suc n) zs goes h less = repeat_goes (next_line test) rd n zs (l ∷ ls) goes ∙ ap (λ p. p >>= λ x r. repeat (next_line test) rd n (zs ++ x ∷ []) r) h

  broken_here : (xs : List A) (ls r : List Line) → next_line test ls ≡ true → Sticking D rd ls r → Broken D test rd xs ls r
  broken_here xs ls r goes f = record {
    things = [];
    front = [];
    back = f.front;
    split = f.split;
    derived = no_more;
    begun = f.begun;
    again = λ n zs q less h. stuck_turn (f.front ++ q) q n zs (sym (next_first test ls (f.front ++ q) (first_split ls f.front r q f.split h)) ∙ goes) (f.again q h) less;
  }

  -- what a turn reads, and what the turns behind it read
  turned : (n : ℕ) (xs : List A) (ls : List Line) → length ls ≤ suc n → next_line test ls ≡ true → ((xs : List A) (r : List Line) → length r ≤ n → Loop D test rd xs r (repeat (next_line test) rd n xs r))
      → (p : Part A) → Found D rd ls p → Loop D test rd xs ls (p >>= λ x r. repeat (next_line test) rd n (xs ++ x ∷ []) r)
  turned n xs ls less goes rest (Taken x r) f =
      let short : length r ≤ n = omega (arith, there f.front x (f.derived true), length-append f.front r, ap length f.split) in
      after_one xs ls x r goes f (repeat (next_line test) rd n (xs ++ x ∷ []) r) (rest (xs ++ x ∷ []) r short)
  turned n xs ls less goes rest (Stuck r) f = broken_here xs ls r goes f

  pub found_repeat : (n : ℕ) (xs : List A) (ls : List Line) → length ls ≤ n → Loop D test rd xs ls (repeat (next_line test) rd n xs ls)
  unfolding repeat
  found_repeat zero xs [] less = loop_stops xs [] refl
  found_repeat zero xs (l ∷ ls) less = absurd (omega arith)
  found_repeat (suc n) xs ls less =
      by_test (Loop D test rd xs ls) (next_line test ls) (rd ls >>= λ x r. repeat (next_line test) rd n (xs ++ x ∷ []) r) (Taken xs ls)
      (λ goes. turned n xs ls less goes (λ xs r short. found_repeat n xs r short) (rd ls) (found ls))
      (λ stops. loop_stops xs ls stops)
