-- A line with a head, and what it stands before, as readers go through them.
use Rattle.std.proofs.Common.{◌≡◌, ℕ, refl, sym, ap, subst, ◌∙◌, List, [], ◌∷◌, ◌++◌, Option, Some, None, inl, inr}
use Rattle.std.specs.Prelude.{Bool, true, false, ◌&&◌, IsTrue}
use Rattle.py_tree.specs.Steps.{Step, Steps, last, next}
use Rattle.py_grammar.specs.Shapes.{Head, Noted, LineForm, Headed}
use Rattle.py_grammar.specs.Blocks.{Line, Around, head_fits, inside, Suite, Headed_block}
use Rattle.py_grammar.specs.Block_reading.{Part, Taken, Stuck, Takes, ◌>>=◌, Form, Inner, is_deeper, behind_fits, form_at, suite}
use Rattle.py_grammar.proofs.BlockParts.{first, left, Begun, Taking, Found, left_bind}
use Rattle.py_grammar.proofs.BlockLines.{Exact_form, Stands, form_stands, stands_form, by_line, by_line_formed}
use Rattle.py_grammar.proofs.BlockSuites.{Begins, Knows_blocks, found_suite, suite_complete, suite_cut}

both : (a b : Bool) → IsTrue a → IsTrue b → IsTrue (a && b)
both true b p q = q
both false b p q = cc

pub first_of_both : (a b : Bool) → IsTrue (a && b) → IsTrue a
first_of_both true b h = refl
first_of_both false b h = cc

pub second_of_both : (a b : Bool) → IsTrue (a && b) → IsTrue b
second_of_both true b h = h
second_of_both false b h = cc

-- a head has been read with what it stands before
pub record Past_head {A : Type 0} (D : Bool → List Line → Steps → Type 0) (rd : List Line → Part A) (k : Steps → List Line → Part A) (l : Line) (ls : List Line) (b : Steps) (r : List Line) : Type 0 where
  pub front : List Line
  pub split : ls ≡ front ++ r
  pub derived : (cut : Bool) → D cut (l ∷ front) b
  pub again : (q : List Line) → first r ≡ first q → rd (l ∷ (front ++ q)) ≡ k b q

-- where the head and what it stands before is all
pub past_made : {A : Type 0} (D : Bool → List Line → Steps → Type 0) (E : Bool → List Line → A → Type 0) (rd : Takes A) (f : Steps → A) → ((cut : Bool) (ls : List Line) (b : Steps) → D cut ls b → E cut ls (f b))
    → (l : Line) (ls : List Line) (b : Steps) (r : List Line) → Past_head D rd (λ b r. Taken (f b) r) l ls b r → Taking E rd (l ∷ ls) (f b) r
past_made D E rd f derive l ls b r p = record { front = l ∷ p.front; split = ap (λ z. l ∷ z) p.split; derived = λ cut. derive cut (l ∷ p.front) b (p.derived cut); again = p.again }

module _ (form : Form) (exact : Exact_form form) (B : Around → ℕ → Bool → List Line → Steps → Type 0) (inner : Inner) (knows : Knows_blocks B inner) (around : Around) (indent : ℕ) where
  -- a head's block has a line that stands for the head
  suite_fits : (a : Around) (cut : Bool) (behind : Option (Noted Step)) (ls : List Line) (body : Steps) → Suite B a indent cut behind ls body → IsTrue (behind_fits a behind)
  suite_fits a cut None ls body d = refl
  suite_fits a cut (Some s) ls body d = d.fits

  pub headed_form : (cut : Bool) (ls : List Line) (h : Head) (body : Steps) (d : Headed_block B around indent cut ls (h, body)) → form_at form around indent d.line ≡ Some (Headed (h, d.noted) d.behind)
  headed_form cut ls h body d = stands_form form around indent d.line (Headed (h, d.noted) d.behind) (record {
    at = d.at;
    formed = exact.complete d.line.words (Headed (h, d.noted) d.behind) d.form;
    fits = both (head_fits around (h, d.noted)) (behind_fits (inside around h) d.behind) d.fits (suite_fits (inside around h) cut d.behind d.rest body d.suite);
  })

  pub headed_begins : (cut : Bool) (ls : List Line) (h : Head) (body : Steps) → Headed_block B around indent cut ls (h, body) → Begins indent ls
  headed_begins cut ls h body d = record { line = d.line; rest = d.rest; whole = d.whole; at = d.at }

  headed_of : (l : Line) (h : Head) (noted : Bool) (behind : Option (Noted Step)) → Stands form around indent l (Headed (h, noted) behind) → (cut : Bool) (ls : List Line) (body : Steps) → Suite B (inside around h) indent cut behind ls body → Headed_block B around indent cut (l ∷ ls) (h, body)
  headed_of l h noted behind s cut ls body d = record {
    line = l;
    rest = ls;
    whole = refl;
    at = s.at;
    noted = noted;
    behind = behind;
    form = exact.sound l.words (Headed (h, noted) behind) s.formed;
    fits = first_of_both (head_fits around (h, noted)) (behind_fits (inside around h) behind) s.fits;
    suite = d;
  }

  -- a head is the front of a block, whatever of its block is there
  missing : (a : Around) (behind : Option (Noted Step)) → IsTrue (behind_fits a behind) → (body : Steps) × Suite B a indent true behind [] body
  missing a None fits = (last, inr (record { may = refl; nothing = refl; empty = refl }))
  missing a (Some s) fits = (next s.0 last, record { fits = fits; nothing = refl; alone = refl })

  begun_suite : (a : Around) (behind : Option (Noted Step)) → IsTrue (behind_fits a behind) → (front : List Line) → Begun (λ cut. Suite B a indent cut behind) front → (body : Steps) × Suite B a indent true behind front body
  begun_suite a behind fits front b = elim b [ inl e ↦ subst (λ z. (body : Steps) × Suite B a indent true behind z body) (sym e) (missing a behind fits) | inr x ↦ x ]

  module _ (A : Type 0) (g : List Line → LineForm → Takes A) (h : Head) (k : Steps → Takes A) (same : (here : List Line) (noted : Bool) (behind : Option (Noted Step)) (q : List Line) → g here (Headed (h, noted) behind) q ≡ (suite inner (inside around h) indent behind q >>= k)) where
    through : (l : Line) (noted : Bool) (behind : Option (Noted Step)) → form_at form around indent l ≡ Some (Headed (h, noted) behind) → (q : List Line) (p : Part Steps) → suite inner (inside around h) indent behind q ≡ p → by_line form around indent g (l ∷ q) ≡ (p >>= k)
    through l noted behind e q p r = by_line_formed form around indent g l q (Headed (h, noted) behind) e ∙ (same (l ∷ q) noted behind q ∙ ap (λ z. z >>= k) r)

    pub head_complete : (ls : List Line) (body : Steps) (r : List Line) → Headed_block B around indent false ls (h, body) → is_deeper indent r ≡ false → by_line form around indent g (ls ++ r) ≡ k body r
    head_complete ls body r d e =
        ap (λ z. by_line form around indent g (z ++ r)) d.whole
        ∙ through d.line d.noted d.behind (headed_form false ls h body d) (d.rest ++ r) (Taken body r) (suite_complete B inner knows (inside around h) indent d.behind d.rest body r d.suite e)

    pub head_cut : (ls : List Line) (body : Steps) → Headed_block B around indent true ls (h, body) → ((b : Steps) → left (k b []) ≡ []) → left (by_line form around indent g ls) ≡ []
    head_cut ls body d e =
        ap (λ z. left (by_line form around indent g z)) d.whole
        ∙ (ap left (through d.line d.noted d.behind (headed_form true ls h body d) d.rest (suite inner (inside around h) indent d.behind d.rest) refl)
        ∙ left_bind (suite inner (inside around h) indent d.behind d.rest) k (suite_cut B inner knows (inside around h) indent d.behind d.rest body d.suite) e)

    abbrev Head_block : Bool → List Line → Steps → Type 0
    Head_block = λ cut ls body. Headed_block B around indent cut ls (h, body)

    behind_head : (D : Bool → List Line → A → Type 0) (l : Line) (noted : Bool) (behind : Option (Noted Step)) → form_at form around indent l ≡ Some (Headed (h, noted) behind) → (ls : List Line)
        → ((b : Steps) (r : List Line) → Past_head Head_block (by_line form around indent g) k l ls b r → Found D (by_line form around indent g) (l ∷ ls) (k b r))
        → ((front : List Line) (b : Steps) → Head_block true (l ∷ front) b → (a : A) × D true (l ∷ front) a)
        → (p : Part Steps) → Found (λ cut. Suite B (inside around h) indent cut behind) (suite inner (inside around h) indent behind) ls p → Found D (by_line form around indent g) (l ∷ ls) (p >>= k)
    behind_head D l noted behind e ls more begin (Taken b r) f = more b r (record {
      front = f.front;
      split = f.split;
      derived = λ cut. headed_of l h noted behind (form_stands form around indent l (Headed (h, noted) behind) e) cut f.front b (f.derived cut);
      again = λ q s. through l noted behind e (f.front ++ q) (Taken b q) (f.again q s);
    })
    behind_head D l noted behind e ls more begin (Stuck r) f =
        let s = form_stands form around indent l (Headed (h, noted) behind) e in
        let fits = second_of_both (head_fits around (h, noted)) (behind_fits (inside around h) behind) s.fits in
        let b = begun_suite (inside around h) behind fits f.front f.begun in
        record {
          front = l ∷ f.front;
          split = ap (λ z. l ∷ z) f.split;
          begun = inr (begin f.front b.0 (headed_of l h noted behind s true f.front b.0 b.1));
          again = λ q s. through l noted behind e (f.front ++ q) (Stuck q) (f.again q s);
        }

    pub found_head : (D : Bool → List Line → A → Type 0) (l : Line) (noted : Bool) (behind : Option (Noted Step)) → form_at form around indent l ≡ Some (Headed (h, noted) behind) → (ls : List Line)
        → ((b : Steps) (r : List Line) → Past_head Head_block (by_line form around indent g) k l ls b r → Found D (by_line form around indent g) (l ∷ ls) (k b r))
        → ((front : List Line) (b : Steps) → Head_block true (l ∷ front) b → (a : A) × D true (l ∷ front) a)
        → Found D (by_line form around indent g) (l ∷ ls) (suite inner (inside around h) indent behind ls >>= k)
    found_head D l noted behind e ls more begin =
        let s = form_stands form around indent l (Headed (h, noted) behind) e in
        let fits = second_of_both (head_fits around (h, noted)) (behind_fits (inside around h) behind) s.fits in
        behind_head D l noted behind e ls more begin (suite inner (inside around h) indent behind ls) (found_suite B inner knows (inside around h) indent behind fits ls)
