-- What a head stands before is read as it is derived.
use Rattle.std.proofs.Common.{◌≡◌, ℕ, ◌<◌, refl, sym, ap, subst, ◌∙◌, List, [], ◌∷◌, ◌++◌, Option, Some, None, inl, inr, arith}
use Rattle.std.proofs.lemmas.Bool.{lt-ltb, ltb-true, ltb-false, le-leb, lt-leb}
use Rattle.std.specs.Prelude.{Bool, true, false, if◌then◌else◌, nat_lt, IsTrue}
use Rattle.py_tree.specs.Steps.{Step, Steps, last, next}
use Rattle.py_grammar.specs.Shapes.{Noted}
use Rattle.py_grammar.specs.Blocks.{Line, Around, Suite}
use Rattle.py_grammar.specs.Block_reading.{Part, Taken, Stuck, Inner, stays, is_deeper, behind_fits, deeper, suite}
use Rattle.py_grammar.proofs.Exact.{if_true, if_false}
use Rattle.py_grammar.proofs.BlockParts.{first, left, Found, first_split, next_first, by_test, stuck_here}

-- lines that begin at an indent
pub record Begins (indent : ℕ) (ls : List Line) : Type 0 where
  pub line : Line
  pub rest : List Line
  pub whole : ls ≡ line ∷ rest
  pub at : line.indent ≡ indent

pub begins_more : (indent : ℕ) (ls r : List Line) → Begins indent ls → Begins indent (ls ++ r)
begins_more indent ls r b = record { line = b.line; rest = b.rest ++ r; whole = ap (λ z. z ++ r) b.whole; at = b.at }

-- a reader of blocks is exact in all surroundings, where lines come next that stay at the indent
pub record Knows_blocks (B : Around → ℕ → Bool → List Line → Steps → Type 0) (inner : Around → ℕ → List Line → Part Steps) : Type 0 where
  pub found : (a : Around) (i : ℕ) (ls : List Line) → stays i ls ≡ true → Found (B a i) (inner a i) ls (inner a i ls)
  pub complete : (a : Around) (i : ℕ) (ls : List Line) (b : Steps) (r : List Line) → B a i false ls b → stays i r ≡ false → inner a i (ls ++ r) ≡ Taken b r
  pub cut : (a : Around) (i : ℕ) (ls : List Line) (b : Steps) → B a i true ls b → left (inner a i ls) ≡ []
  pub begins : (a : Around) (i : ℕ) (cut : Bool) (ls : List Line) (b : Steps) → B a i cut ls b → Begins i ls

-- lines that are not deeper than an indent leave each deeper block
pub not_deeper_leaves : (indent deep : ℕ) (r : List Line) → indent < deep → is_deeper indent r ≡ false → stays deep r ≡ false
not_deeper_leaves indent deep [] less h = refl
not_deeper_leaves indent deep (l ∷ r) less h = lt-leb deep l.indent (omega (arith, ltb-false indent l.indent h))

module _ (B : Around → ℕ → Bool → List Line → Steps → Type 0) (inner : Inner) (knows : Knows_blocks B inner) (a : Around) (i : ℕ) where
  deeper_there : (l : Line) (q : List Line) → Some l ≡ first q → nat_lt i l.indent ≡ true → deeper inner a i q ≡ inner a l.indent q
  unfolding deeper
  deeper_there l [] e h = cc
  deeper_there l (m ∷ q) e h = let s : l ≡ m = cc in subst (λ l. (if nat_lt i m.indent then inner a m.indent (m ∷ q) else Stuck (m ∷ q)) ≡ inner a l.indent (m ∷ q)) (sym s) (if_true (nat_lt i m.indent) (inner a m.indent (m ∷ q)) (Stuck (m ∷ q)) (ap (λ l. nat_lt i l.indent) (sym s) ∙ h))

  deeper_not : (q : List Line) → is_deeper i q ≡ false → deeper inner a i q ≡ Stuck q
  unfolding deeper
  deeper_not [] h = refl
  deeper_not (m ∷ q) h = if_false (nat_lt i m.indent) (inner a m.indent (m ∷ q)) (Stuck (m ∷ q)) h

  abbrev Deeper_block : Bool → List Line → Steps → Type 0
  Deeper_block = λ cut ls body. Suite B a i cut None ls body

  stays_there : (l : Line) (ls : List Line) → stays l.indent (l ∷ ls) ≡ true
  stays_there l ls = le-leb l.indent l.indent (omega arith)

  deep_block : (l : Line) (cut : Bool) (ls : List Line) (b : Steps) → nat_lt i l.indent ≡ true → B a l.indent cut ls b → Deeper_block cut ls b
  deep_block l cut ls b h d = inl (record { deep = l.indent; deeper = ltb-true i l.indent h; block = d })

  found_deep : (l : Line) (ls : List Line) → nat_lt i l.indent ≡ true → (p : Part Steps) → Found (B a l.indent) (inner a l.indent) (l ∷ ls) p → Found Deeper_block (deeper inner a i) (l ∷ ls) p
  found_deep l ls h (Taken b r) f = record {
    front = f.front;
    split = f.split;
    derived = λ cut. deep_block l cut f.front b h (f.derived cut);
    again = λ q e. deeper_there l (f.front ++ q) (first_split (l ∷ ls) f.front r q f.split e) h ∙ f.again q e;
  }
  found_deep l ls h (Stuck r) f = record {
    front = f.front;
    split = f.split;
    begun = elim f.begun [ inl e ↦ inl e | inr x ↦ inr (x.0, deep_block l true f.front x.0 h x.1) ];
    again = λ q e. deeper_there l (f.front ++ q) (first_split (l ∷ ls) f.front r q f.split e) h ∙ f.again q e;
  }

  found_deeper : (ls : List Line) → Found Deeper_block (deeper inner a i) ls (deeper inner a i ls)
  unfolding deeper
  found_deeper [] = stuck_here Deeper_block (deeper inner a i) [] (λ q e. deeper_not q (sym (next_first (λ l. nat_lt i l.indent) [] q e)))
  found_deeper (l ∷ ls) =
      by_test (Found Deeper_block (deeper inner a i) (l ∷ ls)) (nat_lt i l.indent) (inner a l.indent (l ∷ ls)) (Stuck (l ∷ ls))
      (λ h. found_deep l ls h (inner a l.indent (l ∷ ls)) (knows.found a l.indent (l ∷ ls) (stays_there l ls)))
      (λ h. stuck_here Deeper_block (deeper inner a i) (l ∷ ls) (λ q e. deeper_not q (sym (next_first (λ l. nat_lt i l.indent) (l ∷ ls) q e) ∙ h)))

  -- a block begins with a line at its indent, which is deeper
  deeper_begins : (deep : ℕ) (q : List Line) → i < deep → Begins deep q → deeper inner a i q ≡ inner a deep q
  deeper_begins deep q less b = deeper_there b.line q (ap first (sym b.whole)) (lt-ltb i b.line.indent (subst (λ n. i < n) (sym b.at) less)) ∙ ap (λ n. inner a n q) b.at

  pub found_suite : (behind : Option (Noted Step)) → IsTrue (behind_fits a behind) → (ls : List Line) → Found (λ cut. Suite B a i cut behind) (suite inner a i behind) ls (suite inner a i behind ls)
  unfolding suite
  found_suite None fits ls = found_deeper ls
  found_suite (Some s) fits ls = record { front = []; split = refl; derived = λ cut. record { fits = fits; nothing = refl; alone = refl }; again = λ q e. refl }

  pub suite_complete : (behind : Option (Noted Step)) (ls : List Line) (b : Steps) (r : List Line) → Suite B a i false behind ls b → is_deeper i r ≡ false → suite inner a i behind (ls ++ r) ≡ Taken b r
  unfolding suite
  suite_complete None ls b r d h = elim d [
    | inl x ↦ deeper_begins x.deep (ls ++ r) x.deeper (begins_more x.deep ls r (knows.begins a x.deep false ls b x.block)) ∙ knows.complete a x.deep ls b r x.block (not_deeper_leaves i x.deep r x.deeper h)
    | inr x ↦ let z = x.may in cc
  ]
  suite_complete (Some s) ls b r d h = ap (λ z. Taken (next s.0 last) (z ++ r)) d.nothing ∙ ap (λ z. Taken z r) (sym d.alone)

  pub suite_cut : (behind : Option (Noted Step)) (ls : List Line) (b : Steps) → Suite B a i true behind ls b → left (suite inner a i behind ls) ≡ []
  unfolding suite
  suite_cut None ls b d = elim d [
    | inl x ↦ ap left (deeper_begins x.deep ls x.deeper (knows.begins a x.deep true ls b x.block)) ∙ knows.cut a x.deep ls b x.block
    | inr x ↦ ap (λ z. left (deeper inner a i z)) x.nothing ∙ ap left (deeper_not [] refl)
  ]
  suite_cut (Some s) ls b d = d.nothing
