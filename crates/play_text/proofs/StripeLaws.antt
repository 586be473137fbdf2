-- Columns in stripes.
use Rattle.std.specs.Prelude.{◌≡◌, ◌≢◌, ◌<◌, ◌+◌, ◌==◌, ◌||◌, ℕ, zero, suc, Bool, true, false, List, [], ◌∷◌, ◌++◌, map, length, slice_index_or, ℤ}
use Rattle.std.proofs.Common.{refl, ap, sym, ◌∙◌, subst, arith, get_or, take, drop, append_assoc, slice_set, ◌≤◌}
use Rattle.std.specs.List.{AllByRecursion, flat_map}
use Rattle.std.specs.Ordering.{int_eq}
use Rattle.std.proofs.lemmas.Bool.Decides.{Decides-int_eq, Decides-eqb}
use Rattle.std.proofs.lemmas.Grind.{flat_map-append}
use Rattle.std.proofs.lemmas.List.{map-append, append-nil, take-append-drop}
use Rattle.std.proofs.Math.Seq.{drop-cons}
use Rattle.std.proofs.lemmas.Bool.{false≢true}
use Rattle.design_ir.specs.Circuits.{Circuit, at, is_among}
use Rattle.delta_sim.specs.Standing.{Simulated, Tells}
use Rattle.play_text.specs.declared.trace_columns.Lane.{Lane}
use Rattle.play_text.specs.declared.trace_stripes.Stripe.{Stripe}
use Rattle.play_text.specs.declared.board.Shown.{Shown}
use Rattle.play_text.specs.Lanes.{lane_at, lanes_at, lane_text, moved}
use Rattle.play_text.specs.Stripes.{AreFound, AreStill, Grows, IsFound, IsNoted, IsStill, due_set, grid, joined, marked, marked_all}

-- ---- columns that have the numbers that they had last

pub still_text : (now : List ℤ) (xs : List Lane) → IsStill now xs → flat_map (lane_text now) xs ≡ []
still_text now [] h = refl
still_text now (x ∷ xs) h = rw ((Decides-int_eq x.last (at now x.sig.0)).1 h.0) (still_text now xs h.1)

pub still_moved : (now : List ℤ) (xs : List Lane) → IsStill now xs → map (moved now) xs ≡ xs
still_moved now [] h = refl
still_moved now (x ∷ xs) h = λ i. record { label = x.label; sig = x.sig; last = sym h.0 i } ∷ still_moved now xs h.1 i

-- ---- columns one after the other

pub flat_map-joined : (now : List ℤ) (stripes : List Stripe) → flat_map (λ (x : Stripe). flat_map (lane_text now) x.lanes.items) stripes ≡ flat_map (lane_text now) (joined (grid stripes))
flat_map-joined now [] = refl
flat_map-joined now (x ∷ xs) = ap (λ (t : List ℕ). flat_map (lane_text now) x.lanes.items ++ t) (flat_map-joined now xs) ∙ sym (flat_map-append (lane_text now) x.lanes.items (joined (grid xs)))

pub map-joined : (f : Lane → Lane) (g : List (List Lane)) → joined (map (map f) g) ≡ map f (joined g)
map-joined f [] = refl
map-joined f (xs ∷ g) = ap (λ ys. map f xs ++ ys) (map-joined f g) ∙ sym (map-append f xs (joined g))

-- ---- where a signal is shown

found_moved : (shown : List (List ℕ)) (b : ℕ) (now : List ℤ) (xs : List Lane) → AllByRecursion (IsFound shown b) xs → AllByRecursion (IsFound shown b) (map (moved now) xs)
found_moved shown b now [] h = h
found_moved shown b now (x ∷ xs) h = (h.0, found_moved shown b now xs h.1)

pub are_found_moved : (shown : List (List ℕ)) (b : ℕ) (now : List ℤ) (g : List (List Lane)) → AreFound shown b g → AreFound shown b (map (map (moved now)) g)
are_found_moved shown b now [] h = h
are_found_moved shown b now (xs ∷ g) h = (found_moved shown b now xs h.0, are_found_moved shown (suc b) now g h.1)

-- ---- what is due

pub grid-due_set : (b : ℕ) (xs : List Stripe) → grid (due_set b xs) ≡ grid xs
grid-due_set b [] = refl
grid-due_set zero (x ∷ xs) = refl
grid-due_set (suc b) (x ∷ xs) = ap (λ g. x.lanes.items ∷ g) (grid-due_set b xs)

grid-marked : (bs : List ℕ) (xs : List Stripe) → grid (marked bs xs) ≡ grid xs
grid-marked [] xs = refl
grid-marked (b ∷ bs) xs = grid-marked bs (due_set b xs) ∙ grid-due_set b xs

pub grid-marked_all : (shown : List (List ℕ)) (signals : List ℕ) (xs : List Stripe) → grid (marked_all shown signals xs) ≡ grid xs
grid-marked_all shown [] xs = refl
grid-marked_all shown (s ∷ ss) xs = grid-marked_all shown ss (marked (slice_index_or shown s []) xs) ∙ grid-marked (slice_index_or shown s []) xs

abbrev due_at : List Stripe → ℕ → Bool
due_at [] k = false
due_at (x ∷ xs) zero = x.due
due_at (x ∷ xs) (suc k) = due_at xs k

due_here : (b : ℕ) (xs : List Stripe) → b < length xs → due_at (due_set b xs) b ≡ true
due_here b [] lt = absurd (omega (arith, lt))
due_here zero (x ∷ xs) lt = refl
due_here (suc b) (x ∷ xs) lt = due_here b xs (omega (arith, lt))

due_stays : (b k : ℕ) (xs : List Stripe) → due_at xs k ≡ true → due_at (due_set b xs) k ≡ true
due_stays b k [] h = h
due_stays zero zero (x ∷ xs) h = refl
due_stays zero (suc k) (x ∷ xs) h = h
due_stays (suc b) zero (x ∷ xs) h = h
due_stays (suc b) (suc k) (x ∷ xs) h = due_stays b k xs h

marked_stays : (bs : List ℕ) (k : ℕ) (xs : List Stripe) → due_at xs k ≡ true → due_at (marked bs xs) k ≡ true
marked_stays [] k xs h = h
marked_stays (b ∷ bs) k xs h = marked_stays bs k (due_set b xs) (due_stays b k xs h)

length-due_set : (b : ℕ) (xs : List Stripe) → length (due_set b xs) ≡ length xs
length-due_set b [] = refl
length-due_set zero (x ∷ xs) = refl
length-due_set (suc b) (x ∷ xs) = ap suc (length-due_set b xs)

length-marked : (bs : List ℕ) (xs : List Stripe) → length (marked bs xs) ≡ length xs
length-marked [] xs = refl
length-marked (b ∷ bs) xs = length-marked bs (due_set b xs) ∙ length-due_set b xs

marked_turn : (b k : ℕ) (bs : List ℕ) (xs : List Stripe) → k < length xs → ((ys : List Stripe) → k < length ys → is_among bs k ≡ true → due_at (marked bs ys) k ≡ true)
    → (t : Bool) → (b == k) ≡ t → (t || is_among bs k) ≡ true → due_at (marked bs (due_set b xs)) k ≡ true
marked_turn b k bs xs lt later true e h = marked_stays bs k (due_set b xs) (subst (λ j. due_at (due_set b xs) j ≡ true) ((Decides-eqb b k).0 e) (due_here b xs (subst (λ j. j < length xs) (sym ((Decides-eqb b k).0 e)) lt)))
marked_turn b k bs xs lt later false e h = later (due_set b xs) (subst (λ n. k < n) (sym (length-due_set b xs)) lt) h

marked_here : (bs : List ℕ) (k : ℕ) (xs : List Stripe) → k < length xs → is_among bs k ≡ true → due_at (marked bs xs) k ≡ true
marked_here [] k xs lt h = absurd (false≢true h)
marked_here (b ∷ bs) k xs lt h = marked_turn b k bs xs lt (λ ys. marked_here bs k ys) (b == k) refl h

marked_all_stays : (shown : List (List ℕ)) (ss : List ℕ) (k : ℕ) (xs : List Stripe) → due_at xs k ≡ true → due_at (marked_all shown ss xs) k ≡ true
marked_all_stays shown [] k xs h = h
marked_all_stays shown (s ∷ ss) k xs h = marked_all_stays shown ss k (marked (slice_index_or shown s []) xs) (marked_stays (slice_index_or shown s []) k xs h)

all_turn : (shown : List (List ℕ)) (t s k : ℕ) (ts : List ℕ) (xs : List Stripe) → k < length xs → ((ys : List Stripe) → k < length ys → is_among ts s ≡ true → due_at (marked_all shown ts ys) k ≡ true)
    → is_among (slice_index_or shown s []) k ≡ true → (r : Bool) → (t == s) ≡ r → (r || is_among ts s) ≡ true → due_at (marked_all shown ts (marked (slice_index_or shown t []) xs)) k ≡ true
all_turn shown t s k ts xs lt later is true e h =
    marked_all_stays shown ts k (marked (slice_index_or shown t []) xs)
    (marked_here (slice_index_or shown t []) k xs lt (subst (λ j. is_among (slice_index_or shown j []) k ≡ true) (sym ((Decides-eqb t s).0 e)) is))
all_turn shown t s k ts xs lt later is false e h = later (marked (slice_index_or shown t []) xs) (subst (λ n. k < n) (sym (length-marked (slice_index_or shown t []) xs)) lt) h

marked_all_here : (shown : List (List ℕ)) (ss : List ℕ) (s k : ℕ) (xs : List Stripe) → k < length xs → is_among ss s ≡ true → is_among (slice_index_or shown s []) k ≡ true → due_at (marked_all shown ss xs) k ≡ true
marked_all_here shown [] s k xs lt h is = absurd (false≢true h)
marked_all_here shown (t ∷ ts) s k xs lt h is = all_turn shown t s k ts xs lt (λ ys lt' among. marked_all_here shown ts s k ys lt' among is) is (t == s) refl h

plus_zero : (b : ℕ) → b ≡ b + 0
plus_zero b = omega arith

plus_suc : (b k : ℕ) → suc b + k ≡ b + suc k
plus_suc b k = omega arith

plus_one : (b : ℕ) → b + 1 ≡ suc b
plus_one b = omega arith

zero_plus : (k : ℕ) → 0 + k ≡ k
zero_plus k = omega arith

-- a column of a stripe that is not due has the number that it had last
still_lane : (shown : List (List ℕ)) (signals : List ℕ) (now : List ℤ) (b : ℕ) (due : Bool) (x : Lane)
    → ((s : ℕ) → is_among signals s ≡ true → is_among (slice_index_or shown s []) b ≡ true → due ≡ true)
    → due ≡ false → IsFound shown b x → IsNoted (length shown) signals now x → x.last ≡ at now x.sig.0
still_lane shown signals now b due x known rests found noted = by (int_eq x.last (at now x.sig.0)) refl
  where
    by : (t : Bool) → int_eq x.last (at now x.sig.0) ≡ t → x.last ≡ at now x.sig.0
    by true e = (Decides-int_eq x.last (at now x.sig.0)).0 e
    by false e =
        let other = noted (λ same. false≢true (sym e ∙ (Decides-int_eq x.last (at now x.sig.0)).1 same)) in
        absurd (false≢true (sym rests ∙ known x.sig.0 other.1 (found other.0)))

still_lanes : (shown : List (List ℕ)) (signals : List ℕ) (now : List ℤ) (b : ℕ) (due : Bool) (xs rest : List Lane)
    → ((s : ℕ) → is_among signals s ≡ true → is_among (slice_index_or shown s []) b ≡ true → due ≡ true)
    → due ≡ false → AllByRecursion (IsFound shown b) xs → AllByRecursion (IsNoted (length shown) signals now) (xs ++ rest) → IsStill now xs
still_lanes shown signals now b due [] rest known rests found noted = tt
still_lanes shown signals now b due (x ∷ xs) rest known rests found noted =
    (still_lane shown signals now b due x known rests found.0 noted.0, still_lanes shown signals now b due xs rest known rests found.1 noted.1)

behind : (shown : List (List ℕ)) (signals : List ℕ) (now : List ℤ) (xs rest : List Lane) → AllByRecursion (IsNoted (length shown) signals now) (xs ++ rest) → AllByRecursion (IsNoted (length shown) signals now) rest
behind shown signals now [] rest h = h
behind shown signals now (x ∷ xs) rest h = behind shown signals now xs rest h.1

still_stripes : (shown : List (List ℕ)) (signals : List ℕ) (now : List ℤ) (b : ℕ) (stripes : List Stripe)
    → ((s k : ℕ) → k < length stripes → is_among signals s ≡ true → is_among (slice_index_or shown s []) (b + k) ≡ true → due_at stripes k ≡ true)
    → AreFound shown b (grid stripes) → AllByRecursion (IsNoted (length shown) signals now) (joined (grid stripes)) → AreStill now stripes
still_stripes shown signals now b [] known found noted = tt
still_stripes shown signals now b (x ∷ xs) known found noted = (
  (λ rests. still_lanes shown signals now b x.due x.lanes.items (joined (grid xs)) (λ s among is. known s 0 (omega arith) among (subst (λ j. is_among (slice_index_or shown s []) j ≡ true) (plus_zero b) is)) rests found.0 noted),
  still_stripes shown signals now (suc b) xs (λ s k lt among is. known s (suc k) (omega (arith, lt)) among (subst (λ j. is_among (slice_index_or shown s []) j ≡ true) (plus_suc b k) is)) found.1 (behind shown signals now x.lanes.items (joined (grid xs)) noted),
)

no_zero : (n : ℕ) → 0 ≡ suc n → ⊥
no_zero n e = omega (arith, e)

abbrev behind_first : List (List Lane) → List (List Lane)
behind_first [] = []
behind_first (xs ∷ g) = g

length-grid : (xs ys : List Stripe) → grid xs ≡ grid ys → length xs ≡ length ys
length-grid [] [] e = refl
length-grid [] (y ∷ ys) e = absurd (no_zero (length (grid ys)) (ap length e))
length-grid (x ∷ xs) [] e = absurd (no_zero (length (grid xs)) (sym (ap length e)))
length-grid (x ∷ xs) (y ∷ ys) e = ap suc (length-grid xs ys (ap behind_first e))

-- where what may have changed is due, the others are still
pub marked_all-still : (shown : List (List ℕ)) (signals : List ℕ) (now : List ℤ) (stripes : List Stripe)
    → AreFound shown 0 (grid stripes) → AllByRecursion (IsNoted (length shown) signals now) (joined (grid stripes)) → AreStill now (marked_all shown signals stripes)
marked_all-still shown signals now stripes found noted =
    let same = grid-marked_all shown signals stripes in
    let many = length-grid (marked_all shown signals stripes) stripes same in
    still_stripes shown signals now 0 (marked_all shown signals stripes)
    (λ s k lt among is. marked_all_here shown signals s k stripes (omega (arith, lt, many)) among (subst (λ j. is_among (slice_index_or shown s []) j ≡ true) (zero_plus k) is))
    (subst (λ g. AreFound shown 0 g) (sym same) found)
    (subst (λ g. AllByRecursion (IsNoted (length shown) signals now) (joined g)) (sym same) noted)

-- ---- the code's ways

pub due_set-there : (xs : List Stripe) (b : ℕ) (d : Stripe) → b < length xs → slice_set xs b (record { lanes = (get_or xs b d).lanes; due = true }) ≡ due_set b xs
due_set-there [] b d lt = refl
due_set-there (x ∷ xs) zero d lt = refl
due_set-there (x ∷ xs) (suc b) d lt = ap (λ ys. x ∷ ys) (due_set-there xs b d (omega (arith, lt)))

pub due_set-beyond : (xs : List Stripe) (b : ℕ) → length xs ≤ b → due_set b xs ≡ xs
due_set-beyond [] b le = refl
due_set-beyond (x ∷ xs) zero le = absurd (omega (arith, le))
due_set-beyond (x ∷ xs) (suc b) le = ap (λ ys. x ∷ ys) (due_set-beyond xs b (omega (arith, le)))

found_grows : (was is : List (List ℕ)) (b : ℕ) (xs : List Lane) → Grows was is → AllByRecursion (IsFound was b) xs → AllByRecursion (IsFound is b) xs
found_grows was is b [] g h = h
found_grows was is b (x ∷ xs) g h = ((λ lt. g.stays x.sig.0 b (h.0 (subst (λ n. x.sig.0 < n) g.count lt))), found_grows was is b xs g h.1)

grows_on : (a b c : List (List ℕ)) → Grows a b → Grows b c → Grows a c
grows_on a b c g h = record { count = h.count ∙ g.count; stays = λ s k is. h.stays s k (g.stays s k is) }

-- one stripe more whose signals are noted
pub found_turn : (was is later : List (List ℕ)) (stripes : List Stripe) (b : ℕ) (d : Stripe) → b < length stripes
    → ((l : List (List ℕ)) → Grows was l → AreFound l b (grid (drop b stripes)) → AreFound l 0 (grid stripes))
    → Grows was is → AllByRecursion (IsFound is b) (get_or stripes b d).lanes.items → Grows is later → AreFound later (b + 1) (grid (drop (b + 1) stripes)) → AreFound later 0 (grid stripes)
found_turn was is later stripes b d lt before grows here on rest =
    before later (grows_on was is later grows on)
    (subst (λ xs. AreFound later b (grid xs)) (sym (drop-cons stripes b d lt))
    (found_grows is later b (get_or stripes b d).lanes.items on here, subst (λ n. AreFound later n (grid (drop n stripes))) (plus_one b) rest))

-- the columns of a stripe more
pub joined_turn : (xs : List Stripe) (x : Stripe) (g : List Lane) → joined (grid (xs ++ x ∷ [])) ++ g ≡ joined (grid xs) ++ (x.lanes.items ++ g)
joined_turn [] x g = ap (λ ys. ys ++ g) (append-nil x.lanes.items)
joined_turn (y ∷ ys) x g =
    append_assoc y.lanes.items (joined (grid (ys ++ x ∷ []))) g ∙ ap (λ zs. y.lanes.items ++ zs) (joined_turn ys x g) ∙ sym (append_assoc y.lanes.items (joined (grid ys)) (x.lanes.items ++ g))

-- a stripe is cut off
pub lanes_cut : (xs : List Shown) (n : ℕ) (env : List ℤ) → lanes_at (take n xs) env ++ lanes_at (drop n xs) env ≡ lanes_at xs env
lanes_cut xs n env = sym (map-append (lane_at env) (take n xs) (drop n xs)) ∙ ap (λ ys. lanes_at ys env) (take-append-drop n xs)

pub not_empty : (n : ℕ) → (n == 0) ≡ false → 0 < n
not_empty zero e = absurd (false≢true (sym e))
not_empty (suc n) e = omega arith

-- what is among numbers of which something holds
among_all : (P : ℕ → Type 0) (ss : List ℕ) (s : ℕ) → AllByRecursion P ss → is_among ss s ≡ true → P s
among_all P [] s all is = absurd (false≢true is)
among_all P (t ∷ ts) s all is = among_turn P t ts s all.0 (among_all P ts s all.1) (t == s) refl is
  where
    among_turn : (P : ℕ → Type 0) (t : ℕ) (ts : List ℕ) (s : ℕ) → P t → (is_among ts s ≡ true → P s) → (b : Bool) → (t == s) ≡ b → (b || is_among ts s) ≡ true → P s
    among_turn P t ts s first later true e is = subst P ((Decides-eqb t s).0 e) first
    among_turn P t ts s first later false e is = later is

-- columns show among these signals what changed
pub noted_by : (count : ℕ) (signals : List ℕ) (before now : List ℤ) (xs : List Shown) → AllByRecursion (λ s. s < count) signals → ((s : ℕ) → at before s ≢ at now s → is_among signals s ≡ true) → AllByRecursion (IsNoted count signals now) (lanes_at xs before)
noted_by count signals before now [] few all = tt
noted_by count signals before now (x ∷ xs) few all = (
  (λ other. (among_all (λ s. s < count) signals x.sig.0 few (all x.sig.0 other), all x.sig.0 other)),
  noted_by count signals before now xs few all,
)

-- and so they do of an event
pub noted_at : (count : ℕ) (c : Circuit) (old new : Simulated) (xs : List Shown) → count ≡ length c.pool.signals → Tells c old new → AllByRecursion (IsNoted count new.moved.list new.env) (lanes_at xs old.env)
noted_at count c old new xs many tells =
    noted_by count new.moved.list old.env new.env xs (subst (λ n. AllByRecursion (λ s. s < n) new.moved.list) (sym many) tells.signals) tells.all
