-- Statements one after another that are read are derived.
use Rattle.std.proofs.Common.{◌≡◌, ℕ, ◌<◌, refl, sym, ap, subst, ◌∙◌, List, [], ◌++◌, append_assoc, length, inl, inr, arith}
use Rattle.std.specs.Prelude.{Bool, true, false, nat_le}
use Rattle.py_tree.specs.Steps.{Step, Steps, last, next, steps}
use Rattle.py_grammar.specs.Blocks.{Line, Around, Statement, Statements, the_last, and_more}
use Rattle.py_grammar.specs.Block_reading.{Part, Taken, Stuck, Takes, ◌>>=◌, Form, Inner, stays, repeat, statement, statements}
use Rattle.py_grammar.proofs.BlockParts.{Begun, Found, append_nothing}
use Rattle.py_grammar.proofs.BlockLoops.{Each, no_more, one_more, Loop, found_repeat}
use Rattle.py_grammar.proofs.BlockLines.{Exact_form}
use Rattle.py_grammar.proofs.BlockSuites.{Knows_blocks}
use Rattle.py_grammar.proofs.BlockStarts.{starts_begins, begins_long}
use Rattle.py_grammar.proofs.BlockStatementRead.{statement_starts, knows_statement}

module _ (form : Form) (exact : Exact_form form) (B : Around → ℕ → Bool → List Line → Steps → Type 0) (inner : Inner) (knows : Knows_blocks B inner) (around : Around) (indent : ℕ) where
  abbrev Derives : Bool → List Line → Steps → Type 0
  Derives = Statements B around indent

  abbrev one : Takes Step
  one = statement form inner around indent

  abbrev goes : List Line → Bool
  goes = stays indent

  abbrev reads : ℕ → List Step → Takes Steps
  reads n xs ls = repeat goes one n xs ls >>= λ ys q. Taken (steps ys) q

  -- ---- what is read is derived

  each_derived : (cut : Bool) (front : List Line) (x : Step) → ((cut : Bool) → Statement B around indent cut front x) → (back : List Line) (xs : List Step) → Each (Statement B around indent) back xs → Derives cut (front ++ back) (next x (steps xs))
  each_derived cut front x h back xs no_more = subst (λ z. Derives cut z (next x last)) (sym (append_nothing front)) (the_last (h cut))
  each_derived cut front x h back xs (one_more {front = f} {back = b} {x = y} {xs = ys} g m) = and_more (h false) (each_derived cut f y g b ys m)

  -- all that were read, and then what begins another
  each_begun : (front : List Line) (xs : List Step) → Each (Statement B around indent) front xs → (back : List Line) → ((ss : Steps) × Derives true back ss) → (ss : Steps) × Derives true (front ++ back) ss
  each_begun front xs no_more back d = d
  each_begun front xs (one_more {front = f} {back = b} {x = y} {xs = ys} g m) back d =
      let e = each_begun b ys m back d in
      (next y e.0, subst (λ z. Derives true z (next y e.0)) (sym (append_assoc f b back)) (and_more (g false) e.1))

  each_only : (front : List Line) (xs : List Step) → Each (Statement B around indent) front xs → Begun Derives (front ++ [])
  each_only front xs no_more = inl refl
  each_only front xs (one_more {front = f} {back = b} {x = y} {xs = ys} g m) = inr (next y (steps ys), subst (λ z. Derives true z (next y (steps ys))) (sym (append_nothing (f ++ b))) (each_derived true f y g b ys m))

  begun_all : (front : List Line) (xs : List Step) → Each (Statement B around indent) front xs → (back : List Line) → Begun (Statement B around indent) back → Begun Derives (front ++ back)
  begun_all front xs m back b = elim b [
    | inl n ↦ subst (λ z. Begun Derives (front ++ z)) (sym n) (each_only front xs m)
    | inr x ↦ inr (each_begun front xs m back (next x.0 last, the_last x.1))
  ]

  long : (ls : List Line) (s : Step) → Statement B around indent true ls s → 0 < length ls
  long ls s d = let st = statement_starts form exact B inner knows around indent true ls s d in begins_long indent ls (starts_begins form indent ls st.stands_for st.starts)

  -- where the first line stays, something is read
  all_derived : (ls front r : List Line) (xs : List Step) → Each (Statement B around indent) front xs → ls ≡ front ++ r → goes ls ≡ true → goes r ≡ false → (cut : Bool) → Derives cut front (steps xs)
  all_derived ls front r xs no_more split first_stays ends cut = let e : true ≡ false = sym first_stays ∙ (ap goes split ∙ ends) in cc
  all_derived ls front r xs (one_more {front = f} {back = b} {x = y} {xs = ys} g m) split first_stays ends cut = each_derived cut f y g b ys m

  found_all : (ls : List Line) → goes ls ≡ true → (t : Part (List Step)) → Loop (Statement B around indent) (λ l. nat_le indent l.indent) one [] ls t → Found Derives (statements form inner around indent) ls (t >>= λ ys q. Taken (steps ys) q)
  unfolding statements
  found_all ls h (Taken ys r) g = record {
    front = g.front;
    split = g.split;
    derived = λ cut. subst (λ z. Derives cut g.front (steps z)) (sym g.added) (all_derived ls g.front r g.things g.derived g.split h g.ends cut);
    again = λ q s. ap (λ t. t >>= λ ys q. Taken (steps ys) q) (g.again (length (g.front ++ q)) [] q (omega arith) s) ∙ ap (λ z. Taken (steps z) q) (sym g.added);
  }
  found_all ls h (Stuck r) g = record {
    front = g.front ++ g.back;
    split = g.split ∙ sym (append_assoc g.front g.back r);
    begun = begun_all g.front g.things g.derived g.back g.begun;
    again = λ q s. ap (statements form inner around indent) (append_assoc g.front g.back q) ∙ ap (λ t. t >>= λ ys q. Taken (steps ys) q) (g.again (length (g.front ++ (g.back ++ q))) [] q (omega arith) s);
  }

  pub found_statements : (ls : List Line) → goes ls ≡ true → Found Derives (statements form inner around indent) ls (statements form inner around indent ls)
  unfolding statements
  found_statements ls h = found_all ls h (repeat goes one (length ls) [] ls) (found_repeat (Statement B around indent) (λ l. nat_le indent l.indent) one (knows_statement form exact B inner knows around indent).found long (length ls) [] ls (omega arith))
