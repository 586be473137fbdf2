-- A front of a script that is longer than a script may be.
use Rattle.std.proofs.Common.{◌≡◌, refl, ℕ, zero, suc, ◌+◌, ◌-◌, ◌≤◌, ◌<◌, Bool, true, false, List, [], ◌∷◌, ◌++◌, length, sym, ap, ◌∙◌, arith, ◌⊎◌, inl, inr}
use Rattle.std.specs.Prelude.{Err, nat_lt, ◌==◌}
use Rattle.std.proofs.lemmas.List.{append-nil}
use Rattle.std.proofs.lemmas.Bool.Decides.{nat_tests}
use Rattle.play_text.specs.declared.board.Board.{Board}
use Rattle.play_text.specs.TextLines.{Line, lines_in}
use Rattle.play_text.specs.Script.{script_events, most_bytes, most_events, events_from, says, content, said_at, left_behind}

-- the first line of a text ends in this front of it
record Cut (front : List ℕ) : Type 0 where
  line : Line
  behind : List ℕ
  size : length front ≡ length line + length behind
  some : 0 < length line
  lines : (rest : List ℕ) → lines_in (front ++ rest) ≡ line ∷ lines_in (behind ++ rest)

-- the first line of a text goes on to the end of this front, or further
record Open (front rest : List ℕ) : Type 0 where
  line : Line
  more : List Line
  size : length front ≤ length line
  lines : lines_in (front ++ rest) ≡ line ∷ more

-- one byte before a first line that has not ended
open_byte : (b : ℕ) (rest : List ℕ) → (b == 10) ≡ false → Open (b ∷ []) rest
open_byte b rest e = here (lines_in rest) refl
  where
    here : (ls : List Line) → lines_in rest ≡ ls → Open (b ∷ []) rest
    here [] h = record { line = b ∷ []; more = []; size = omega arith; lines = rw (e, h) refl }
    here (l ∷ ls) h = record { line = b ∷ l; more = ls; size = omega arith; lines = rw (e, h) refl }

cut_more : (b : ℕ) (bs : List ℕ) → (b == 10) ≡ false → Cut bs → Cut (b ∷ bs)
cut_more b bs e k = record { line = b ∷ k.line; behind = k.behind; size = omega (arith, k.size); some = omega arith; lines = λ rest. rw (e, k.lines rest) refl }

open_more : (b : ℕ) (bs rest : List ℕ) → (b == 10) ≡ false → Open bs rest → Open (b ∷ bs) rest
open_more b bs rest e k = record { line = b ∷ k.line; more = k.more; size = omega (arith, k.size); lines = rw (e, k.lines) refl }

-- a front that is not empty has the end of its first line, or has none
cut : (b : ℕ) (bs : List ℕ) → Cut (b ∷ bs) ⊎ ((rest : List ℕ) → Open (b ∷ bs) rest)
cut b [] = here (b == 10) refl
  where
    here : (t : Bool) → (b == 10) ≡ t → Cut (b ∷ []) ⊎ ((rest : List ℕ) → Open (b ∷ []) rest)
    here true e = inl (record { line = 10 ∷ []; behind = []; size = omega arith; some = omega arith; lines = λ rest. rw e refl })
    here false e = inr (λ rest. open_byte b rest e)
cut b (c ∷ cs) = here (b == 10) refl (cut c cs)
  where
    here : (t : Bool) → (b == 10) ≡ t → Cut (c ∷ cs) ⊎ ((rest : List ℕ) → Open (c ∷ cs) rest) → Cut (b ∷ c ∷ cs) ⊎ ((rest : List ℕ) → Open (b ∷ c ∷ cs) rest)
    here true e k = inl (record { line = 10 ∷ []; behind = c ∷ cs; size = omega arith; some = omega arith; lines = λ rest. rw e refl })
    here false e (inl k) = inl (cut_more b (c ∷ cs) e k)
    here false e (inr k) = inr (λ rest. open_more b (c ∷ cs) rest e (k rest))

-- a line that is too long is refused, whatever stands behind it
long_line : (b : Board) (n room left : ℕ) (l : Line) (ls : List Line) → room < length l → events_from b n room left (l ∷ ls) ≡ Err n
long_line b n room left l ls h =
    let past : nat_lt room (length l) ≡ true = grind (arith, nat_tests) in
    rw past refl

-- behind one front longer than what may come, all texts say the same
fronts : (fuel : ℕ) (b : Board) (n room left : ℕ) (front one two : List ℕ) → length front ≤ fuel → room < length front
    → events_from b n room left (lines_in (front ++ one)) ≡ events_from b n room left (lines_in (front ++ two))
fronts fuel b n room left [] one two small past = absurd (omega arith)
fronts zero b n room left (c ∷ cs) one two small past = absurd (omega arith)
fronts (suc fuel) b n room left (c ∷ cs) one two small past =
    here (cut c cs) (λ m r k bs fits. fronts fuel b m r k bs one two fits)
  where
    step : (l : Line) (ls ms : List Line) (t : Bool) → nat_lt room (length l) ≡ t
        → (length l ≤ room → events_from b (suc n) (room - length l) (left_behind (says b (content l)) left) ls ≡ events_from b (suc n) (room - length l) (left_behind (says b (content l)) left) ms)
        → events_from b n room left (l ∷ ls) ≡ events_from b n room left (l ∷ ms)
    step l ls ms true e same = rw e refl
    step l ls ms false e same = rw e (ap (said_at n left (says b (content l))) (same (grind (arith, nat_tests))))

    here : Cut (c ∷ cs) ⊎ ((rest : List ℕ) → Open (c ∷ cs) rest)
        → ((m r k : ℕ) (bs : List ℕ) → length bs ≤ fuel → r < length bs → events_from b m r k (lines_in (bs ++ one)) ≡ events_from b m r k (lines_in (bs ++ two)))
        → events_from b n room left (lines_in ((c ∷ cs) ++ one)) ≡ events_from b n room left (lines_in ((c ∷ cs) ++ two))
    here (inl k) same =
        rw (k.lines one, k.lines two)
        (step k.line (lines_in (k.behind ++ one)) (lines_in (k.behind ++ two)) (nat_lt room (length k.line)) refl
        (λ fits. same (suc n) (room - length k.line) (left_behind (says b (content k.line)) left) k.behind (omega (arith, k.size, k.some, small)) (omega (arith, k.size, past, fits))))
    here (inr k) same =
        let o = k one in
        let t = k two in
        rw (o.lines, t.lines)
        (long_line b n room left o.line o.more (omega (arith, o.size, past)) ∙ sym (long_line b n room left t.line t.more (omega (arith, t.size, past))))

-- the line that passes the most bytes is told by such a front
pub script_events-front : (b : Board) (front rest : List ℕ) → most_bytes < length front → script_events b (front ++ rest) ≡ script_events b front
unfolding script_events
script_events-front b front rest past =
    fronts (length front) b 1 most_bytes most_events front rest [] (omega arith) past ∙ ap (λ (text : List ℕ). events_from b 1 most_bytes most_events (lines_in text)) (append-nil front)
