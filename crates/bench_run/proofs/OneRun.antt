-- A run has one list of rows and one end.
use Rattle.std.proofs.Common.{◌≡◌, refl, sym, ◌∙◌, ap, subst, Some, None, ℕ, zero, suc, ◌<◌, List, [], ◌∷◌, ◌++◌, Option, arith}
use Rattle.std.specs.Prelude.{nat_lt, Bool, true, false, ℤ}
use Rattle.std.proofs.lemmas.Bool.{ltb-true, ltb-false}
use Rattle.calendar.specs.Laws.{NextIsOne}
use Rattle.elab_store.specs.declared.simulation.RunEnd.{RunEnd}
use Rattle.play_text.specs.Trace.{Row}
use Rattle.bench_run.specs.Runs
use Rattle.bench_run.specs.Runs.{Run, Point, Next, Goes, Happens, Ends, End, IsToggle, Comes, Follows, here, moves, takes, IsRun, HasEnv, next_of, next_ready, stands_of}
use Rattle.bench_run.specs.Laws.{OneRun}

module _ (one : NextIsOne) (x : Run) where
  toggle_same : (p : Point) (env : List ℤ) (t u : Option ℕ) (o : Option ℕ) → next_ready p.turn (stands_of p.benches) ≡ o → IsToggle x p t o → IsToggle x p u o → next_of x env t p ≡ next_of x env u p
  toggle_same p env t u None is h k = ap (λ w. next_of x env w p) (one x.clocks p.now t u h k)
  toggle_same p env t u (Some i) is h k = by_end x.end
    where
      by_end : (e : Option RunEnd) → Runs.ended_by x env t p e ≡ Runs.ended_by x env u p e
      by_end None = refl
      by_end (Some how) = ap (Runs.turn_of x env how t p) is ∙ sym (ap (Runs.turn_of x env how u p) is)

  next_once : (rows : List Row) (p : Point) (n m : Next) → Comes x rows p n → Comes x rows p m → n ≡ m
  next_once rows p n m h k =
      let env : k.env ≡ h.env = h.has.only k.has.state k.env k.has.reached in
      h.is
      ∙ toggle_same p h.env h.toggle k.toggle (next_ready p.turn (stands_of p.benches)) refl h.is_next k.is_next
      ∙ sym (ap (λ e. next_of x e k.toggle p) env)
      ∙ sym k.is

  module _ (first : Point) where
    abbrev count : (rows : List Row) (p : Point) → Follows x first rows p → ℕ
    count rows p here = zero
    count rows p (moves rows' p' q f c) = suc (count rows' p' f)
    count rows p (takes rows' p' q r f c) = suc (count rows' p' f)

    same_goes : (p q : Point) → Goes p ≡ Goes q → p ≡ q
    same_goes p q e = cc

    same_row : (r s : Row) (p q : Point) → Happens r p ≡ Happens s q → r ≡ s
    same_row r s p q e = cc

    same_point : (r s : Row) (p q : Point) → Happens r p ≡ Happens s q → p ≡ q
    same_point r s p q e = cc

    goes_apart : (p q : Point) (r : Row) → Goes p ≡ Happens r q → ⊥
    goes_apart p q r e = cc

    same_count : (n m : ℕ) → suc n ≡ suc m → n ≡ m
    same_count n m e = omega (arith, e)

    no_count : (n : ℕ) → zero ≡ suc n → ⊥
    no_count n e = omega (arith, e)

    -- what comes next at the same point
    moved : (rows others : List Row) (p q : Point) (n : Next) → rows ≡ others → p ≡ q → Comes x rows p n → Comes x others q n
    moved rows others p q n r e c = subst (λ w. Comes x others w n) e (subst (λ w. Comes x w p n) r c)

    -- behind as many steps there is one point
    once : (rows others : List Row) (p q : Point) (f : Follows x first rows p) (g : Follows x first others q) → count rows p f ≡ count others q g → (rows ≡ others) × (p ≡ q)
    once rows others p q here here e = (refl, refl)
    once rows others p q here (moves rows' p' q' g c) e = absurd (no_count (count rows' p' g) e)
    once rows others p q here (takes rows' p' q' r g c) e = absurd (no_count (count rows' p' g) e)
    once rows others p q (moves rows' p' q' f c) here e = absurd (no_count (count rows' p' f) (sym e))
    once rows others p q (takes rows' p' q' r f c) here e = absurd (no_count (count rows' p' f) (sym e))
    once rows others p q (moves rows1 p1 q1 f c) (moves rows2 p2 q2 g d) e =
        let same = once rows1 rows2 p1 p2 f g (same_count (count rows1 p1 f) (count rows2 p2 g) e) in
        (same.0, same_goes p q (next_once rows2 p2 (Goes p) (Goes q) (moved rows1 rows2 p1 p2 (Goes p) same.0 same.1 c) d))
    once rows others p q (moves rows1 p1 q1 f c) (takes rows2 p2 q2 r g d) e =
        let same = once rows1 rows2 p1 p2 f g (same_count (count rows1 p1 f) (count rows2 p2 g) e) in
        absurd (goes_apart p q r (next_once rows2 p2 (Goes p) (Happens r q) (moved rows1 rows2 p1 p2 (Goes p) same.0 same.1 c) d))
    once rows others p q (takes rows1 p1 q1 r f c) (moves rows2 p2 q2 g d) e =
        let same = once rows1 rows2 p1 p2 f g (same_count (count rows1 p1 f) (count rows2 p2 g) e) in
        absurd (goes_apart q p r (sym (next_once rows2 p2 (Happens r p) (Goes q) (moved rows1 rows2 p1 p2 (Happens r p) same.0 same.1 c) d)))
    once rows others p q (takes rows1 p1 q1 r f c) (takes rows2 p2 q2 s g d) e =
        let same = once rows1 rows2 p1 p2 f g (same_count (count rows1 p1 f) (count rows2 p2 g) e) in
        let next = next_once rows2 p2 (Happens r p) (Happens s q) (moved rows1 rows2 p1 p2 (Happens r p) same.0 same.1 c) d in
        (ap (λ l. l ++ r ∷ []) same.0 ∙ ap (λ w. rows2 ++ w ∷ []) (same_row r s p q next), same_point r s p q next)

    ends_apart : (end : End) (q : Point) → Ends end ≡ Goes q → ⊥
    ends_apart end q e = cc

    end_apart : (end : End) (r : Row) (q : Point) → Ends end ≡ Happens r q → ⊥
    end_apart end r q e = cc

    -- no end comes where the run goes on: a step more stands behind another point, or behind this one
    not_before : (rows rows' : List Row) (p p' : Point) (end : End) (next : Next) (f : Follows x first rows p) (g : Follows x first rows' p') → Comes x rows p (Ends end) → Comes x rows' p' next → (Ends end ≡ next → ⊥)
        → (count rows p f < count rows' p' g → ⊥) → count rows p f < suc (count rows' p' g) → ⊥
    not_before rows rows' p p' end next f g c d apart earlier lt = by_count (nat_lt (count rows p f) (count rows' p' g)) refl
      where
        by_count : (b : Bool) → nat_lt (count rows p f) (count rows' p' g) ≡ b → ⊥
        by_count true below = earlier (ltb-true (count rows p f) (count rows' p' g) below)
        by_count false above =
            let le = ltb-false (count rows p f) (count rows' p' g) above in
            let same = once rows rows' p p' f g (omega (arith, le, lt)) in
            apart (next_once rows' p' (Ends end) next (moved rows rows' p p' (Ends end) same.0 same.1 c) d)

    not_over : (rows others : List Row) (p q : Point) (end : End) (f : Follows x first rows p) (g : Follows x first others q) → Comes x rows p (Ends end) → count rows p f < count others q g → ⊥
    not_over rows others p q end f here c lt = omega (arith, lt)
    not_over rows others p q end f (moves rows' p' q' g d) c lt = not_before rows rows' p p' end (Goes q) f g c d (ends_apart end q) (not_over rows rows' p p' end f g c) lt
    not_over rows others p q end f (takes rows' p' q' r g d) c lt = not_before rows rows' p p' end (Happens r q) f g c d (end_apart end r q) (not_over rows rows' p p' end f g c) lt

    same_end : (e o : End) → Ends e ≡ Ends o → e ≡ o
    same_end e o q = cc

    ends_once : (rows others : List Row) (end other : End) → IsRun x first rows end → IsRun x first others other → (rows ≡ others) × (end ≡ other)
    ends_once rows others end other h k = by_less (nat_lt (count rows h.last h.follows) (count others k.last k.follows)) refl
      where
        by_more : (b : Bool) → nat_lt (count others k.last k.follows) (count rows h.last h.follows) ≡ b → nat_lt (count rows h.last h.follows) (count others k.last k.follows) ≡ false → (rows ≡ others) × (end ≡ other)
        by_more true more less = absurd (not_over others rows k.last h.last other k.follows h.follows k.ends (ltb-true (count others k.last k.follows) (count rows h.last h.follows) more))
        by_more false more less =
            let a = ltb-false (count others k.last k.follows) (count rows h.last h.follows) more in
            let b = ltb-false (count rows h.last h.follows) (count others k.last k.follows) less in
            let same = once rows others h.last k.last h.follows k.follows (omega (arith, a, b)) in
            (same.0, same_end end other (next_once others k.last (Ends end) (Ends other) (moved rows others h.last k.last (Ends end) same.0 same.1 h.ends) k.ends))

        by_less : (b : Bool) → nat_lt (count rows h.last h.follows) (count others k.last k.follows) ≡ b → (rows ≡ others) × (end ≡ other)
        by_less true less = absurd (not_over rows others h.last k.last end h.follows k.follows h.ends (ltb-true (count rows h.last h.follows) (count others k.last k.follows) less))
        by_less false less = by_more (nat_lt (count others k.last k.follows) (count rows h.last h.follows)) refl less

pub run_once : NextIsOne → OneRun
run_once one x first rows others end other h k = ends_once one x first rows others end other h k
