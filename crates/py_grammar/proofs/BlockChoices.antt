-- What is read behind an `if` is each `elif` and the `else`.
use Rattle.std.proofs.Common.{◌≡◌, ℕ, refl, sym, ap, subst, ◌∙◌, List, [], ◌∷◌, ◌++◌, append_assoc, length, Option, Some, None, inl, inr, arith}
use Rattle.std.specs.Prelude.{Bool, true, false, ◌==◌, ◌&&◌, codes}
use Rattle.amh_host.specs.declared.place.Place.{Place}
use Rattle.py_tree.specs.Tree.{Tree}
use Rattle.py_tree.specs.Steps.{Step, If, Steps, Branches, no_branch, branch, branches, Otherwise, nothing_else, else_of}
use Rattle.py_grammar.specs.Words.{next_key}
use Rattle.py_grammar.specs.Blocks.{Line, Around, Further, no_further, elif_cut, elif_whole, else_last}
use Rattle.py_grammar.specs.Block_reading.{Part, Taken, Stuck, Takes, ◌>>=◌, Form, Inner, next_at, maybe, repeat, elif_block, else_block, choice}
use Rattle.py_grammar.proofs.BlockParts.{first, Begun, Found, first_split}
use Rattle.py_grammar.proofs.BlockLoops.{Each, no_more, one_more, Loop, Looped, found_repeat}
use Rattle.py_grammar.proofs.BlockPerhaps.{Perhaps_part, found_maybe}
use Rattle.py_grammar.proofs.BlockLines.{Exact_form}
use Rattle.py_grammar.proofs.BlockSuites.{Knows_blocks}
use Rattle.py_grammar.proofs.BlockHeads.{headed_begins}
use Rattle.py_grammar.proofs.BlockElse.{Elif_part, Else_part, knows_elif, knows_else}
use Rattle.py_grammar.proofs.BlockStarts.{begins_long}

-- the branches that follow others
abbrev pub onto : List (Tree × Steps) → Branches → Branches
onto [] bs = bs
onto (x ∷ xs) bs = branch x.0 x.1 (onto xs bs)

pub branches_onto : (xs : List (Tree × Steps)) → branches xs ≡ onto xs no_branch
branches_onto [] = refl
branches_onto (x ∷ xs) = ap (branch x.0 x.1) (branches_onto xs)

-- an `if` whose test and block have been read, with what follows it
pub record Choice_part (B : Around → ℕ → Bool → List Line → Steps → Type 0) (around : Around) (indent : ℕ) (p : Place) (e : Tree) (body : Steps) (cut : Bool) (ls : List Line) (s : Step) : Type 0 where
  pub more : Branches
  pub other : Otherwise
  pub further : Further B around indent cut ls more other
  pub is : s ≡ If p (branch e body more) other

abbrev pub begins_at : ℕ → List ℕ → Line → Bool
begins_at indent this = λ l. (l.indent == indent) && next_key this l.words

module _ (B : Around → ℕ → Bool → List Line → Steps → Type 0) (around : Around) (indent : ℕ) where
  each_further : (cut : Bool) (front : List Line) (xs : List (Tree × Steps)) → Each (Elif_part B around indent) front xs → (back : List Line) (bs : Branches) (o : Otherwise) → Further B around indent cut back bs o → Further B around indent cut (front ++ back) (onto xs bs) o
  each_further cut front xs no_more back bs o d = d
  each_further cut front xs (one_more {front = f} {back = g} {x = x} {xs = ys} h m) back bs o d =
      let w = h false in
      subst (λ z. Further B around indent cut z (branch x.0 x.1 (onto ys bs)) o) (sym (append_assoc f g back)) (elif_whole w.block w.is (each_further cut g ys m back bs o d))

  else_further : (cut : Bool) (ls : List Line) (o : Option Steps) → Perhaps_part (Else_part B around indent) cut ls o → Further B around indent cut ls no_branch (else_of o)
  else_further cut ls None d = subst (λ z. Further B around indent cut z no_branch nothing_else) (sym d) no_further
  else_further cut ls (Some b) d = else_last d.block

  -- of the lines behind all `elif` that were read
  begun_else : (front : List Line) → Begun (Perhaps_part (Else_part B around indent)) front → (o : Otherwise) × Further B around indent true front no_branch o
  begun_else front b = elim b [
    | inl n ↦ (nothing_else, else_further true front None n)
    | inr x ↦ (else_of x.0, else_further true front x.0 x.1)
  ]

  begun_elif : (front : List Line) → Begun (Elif_part B around indent) front → (bs : Branches) × Further B around indent true front bs nothing_else
  begun_elif front b = elim b [
    | inl n ↦ (no_branch, else_further true front None n)
    | inr x ↦ let w = x.1 in (branch x.0.0 x.0.1 no_branch, elif_cut w.block w.is)
  ]

module _ (form : Form) (exact : Exact_form form) (B : Around → ℕ → Bool → List Line → Steps → Type 0) (inner : Inner) (knows : Knows_blocks B inner) (around : Around) (indent : ℕ) (p : Place) (e : Tree) (body : Steps) where
  abbrev elifs : Takes (Tree × Steps)
  elifs = elif_block form inner around indent

  abbrev perhaps_else : Takes (Option Steps)
  perhaps_else = maybe (next_at indent (codes "else")) (else_block form inner around indent)

  abbrev pub ended : List (Tree × Steps) → Takes Step
  ended ys r = perhaps_else r >>= λ o q. Taken (If p (branches ys) (else_of o)) q

  abbrev reads : Takes Step
  reads = choice form inner around indent p e body

  pub choice_is : (ls : List Line) → reads ls ≡ (repeat (next_at indent (codes "elif")) elifs (length ls) ((e, body) ∷ []) ls >>= ended)
  unfolding choice
  choice_is ls = refl

  found_else : (ls : List Line) → Found (Perhaps_part (Else_part B around indent)) perhaps_else ls (perhaps_else ls)
  found_else ls = found_maybe (Else_part B around indent) (begins_at indent (codes "else")) (else_block form inner around indent) (knows_else form exact B inner knows around indent).found ls

  found_elifs : (ls : List Line) → Loop (Elif_part B around indent) (begins_at indent (codes "elif")) elifs ((e, body) ∷ []) ls (repeat (next_at indent (codes "elif")) elifs (length ls) ((e, body) ∷ []) ls)
  found_elifs ls = found_repeat (Elif_part B around indent) (begins_at indent (codes "elif")) elifs (knows_elif form exact B inner knows around indent).found
      (λ ls x d. begins_long indent ls (headed_begins form exact B inner knows around indent true ls d.head x.1 d.block)) (length ls) ((e, body) ∷ []) ls (omega arith)

  abbrev Choice : Bool → List Line → Step → Type 0
  Choice = Choice_part B around indent p e body

  elifs_again : (ls : List Line) (ys : List (Tree × Steps)) (r : List Line) (g : Looped (Elif_part B around indent) (begins_at indent (codes "elif")) elifs ((e, body) ∷ []) ls ys r) (q : List Line) → first r ≡ first q → reads (g.front ++ q) ≡ ended ys q
  elifs_again ls ys r g q s = choice_is (g.front ++ q) ∙ (ap (λ t. t >>= ended) (g.again (length (g.front ++ q)) ((e, body) ∷ []) q (omega arith) s) ∙ ap (λ z. ended z q) (sym g.added))

  behind_elifs : (ls : List Line) (ys : List (Tree × Steps)) (r : List Line) → Looped (Elif_part B around indent) (begins_at indent (codes "elif")) elifs ((e, body) ∷ []) ls ys r
      → (t : Part (Option Steps)) → Found (Perhaps_part (Else_part B around indent)) perhaps_else r t → Found Choice reads ls (t >>= λ o q. Taken (If p (branches ys) (else_of o)) q)
  behind_elifs ls ys r g (Taken o q) f = record {
    front = g.front ++ f.front;
    split = g.split ∙ (ap (λ z. g.front ++ z) f.split ∙ sym (append_assoc g.front f.front q));
    derived = λ cut. record {
      more = onto g.things no_branch;
      other = else_of o;
      further = each_further B around indent cut g.front g.things g.derived f.front no_branch (else_of o) (else_further B around indent cut f.front o (f.derived cut));
      is = ap (λ z. If p (branches z) (else_of o)) g.added ∙ ap (λ z. If p (branch e body z) (else_of o)) (branches_onto g.things);
    };
    again = λ q' s. ap reads (append_assoc g.front f.front q') ∙ (elifs_again ls ys r g (f.front ++ q') (first_split r f.front q q' f.split s) ∙ ap (λ t. t >>= λ o q. Taken (If p (branches ys) (else_of o)) q) (f.again q' s));
  }
  behind_elifs ls ys r g (Stuck q) f =
      let o = begun_else B around indent f.front f.begun in
      record {
        front = g.front ++ f.front;
        split = g.split ∙ (ap (λ z. g.front ++ z) f.split ∙ sym (append_assoc g.front f.front q));
        begun = inr (
          If p (branch e body (onto g.things no_branch)) o.0,
          record {
            more = onto g.things no_branch;
            other = o.0;
            further = each_further B around indent true g.front g.things g.derived f.front no_branch o.0 o.1;
            is = refl;
          },
        );
        again = λ q' s. ap reads (append_assoc g.front f.front q') ∙ (elifs_again ls ys r g (f.front ++ q') (first_split r f.front q q' f.split s) ∙ ap (λ t. t >>= λ o q. Taken (If p (branches ys) (else_of o)) q) (f.again q' s));
      }

  behind_if : (ls : List Line) (t : Part (List (Tree × Steps))) → Loop (Elif_part B around indent) (begins_at indent (codes "elif")) elifs ((e, body) ∷ []) ls t → Found Choice reads ls (t >>= ended)
  behind_if ls (Taken ys r) g = behind_elifs ls ys r g (perhaps_else r) (found_else r)
  behind_if ls (Stuck r) g =
      let b = begun_elif B around indent g.back g.begun in
      record {
        front = g.front ++ g.back;
        split = g.split ∙ sym (append_assoc g.front g.back r);
        begun = inr (
          If p (branch e body (onto g.things b.0)) nothing_else,
          record {
            more = onto g.things b.0;
            other = nothing_else;
            further = each_further B around indent true g.front g.things g.derived g.back b.0 nothing_else b.1;
            is = refl;
          },
        );
        again = λ q s.
            ap reads (append_assoc g.front g.back q)
            ∙ (choice_is (g.front ++ (g.back ++ q)) ∙ ap (λ t. t >>= ended) (g.again (length (g.front ++ (g.back ++ q))) ((e, body) ∷ []) q (omega arith) s));
      }

  pub found_choice : (ls : List Line) → Found Choice reads ls (reads ls)
  unfolding choice
  found_choice ls = behind_if ls (repeat (next_at indent (codes "elif")) elifs (length ls) ((e, body) ∷ []) ls) (found_elifs ls)
