-- Sides, and the statements that are given under them.
use Rattle.std.proofs.Common.{◌≡◌, Bool, true, false, not, ◌||◌, cond, if◌then◌else◌, List, [], ◌∷◌, ◌++◌, refl, sym, ap, ◌∙◌, subst, append-nil}
use Rattle.std.specs.List.{AllByRecursion, IsDistinct, filter, list_any}
use Rattle.std.proofs.lemmas.List.Elements.{filter-append}
use Rattle.lists.proofs.TextLaws.{text_eq_true, text_eq_same}
use Rattle.design_ir.specs.declared.process.Side.{Side}
use Rattle.design_ir.specs.declared.process.Side.TheVariants.{Comb, Clocked}
use Rattle.module_dsl.specs.Blocks.{Given}
use Rattle.module_dsl.specs.Sided.{same_side, sides_of, has_side}

-- ---- the same side

pub same_true : (a b : Side) → same_side a b ≡ true → a ≡ b
same_true Comb Comb h = refl
same_true Comb (Clocked n) h = cc
same_true (Clocked m) Comb h = cc
same_true (Clocked m) (Clocked n) h = ap Clocked (text_eq_true m n h)

pub same_itself : (a : Side) → same_side a a ≡ true
same_itself Comb = refl
same_itself (Clocked n) = text_eq_same n

bool_same : (a b : Bool) → (a ≡ true → b ≡ true) → (b ≡ true → a ≡ true) → a ≡ b
bool_same true b into only = sym (into refl)
bool_same false true into only = only refl
bool_same false false into only = refl

pub same_flipped : (a b : Side) → same_side a b ≡ same_side b a
same_flipped a b =
    bool_same (same_side a b) (same_side b a)
    (λ h. subst (λ x. same_side x a ≡ true) (same_true a b h) (same_itself a))
    (λ h. subst (λ x. same_side x b ≡ true) (same_true b a h) (same_itself b))

-- ---- one statement more

abbrev pub any_same : Side → List Side → Bool
any_same side ss = list_any (λ s. same_side side s) ss

-- a side that differs from x is not left out with the sides of x
any_filtered : (x side : Side) (ss : List Side) → same_side x side ≡ false → any_same side (filter (λ s. not (same_side x s)) ss) ≡ any_same side ss
any_filtered x side [] h = refl
any_filtered x side (s ∷ ss) h = split (any_filtered x side ss h) (same_side x s) refl
  where
    split : any_same side (filter (λ s. not (same_side x s)) ss) ≡ any_same side ss → (b : Bool) → same_side x s ≡ b → list_any (λ s. same_side side s) (cond (not b) (s ∷ filter (λ s. not (same_side x s)) ss) (filter (λ s. not (same_side x s)) ss)) ≡ (same_side side s || list_any (λ s. same_side side s) ss)
    split rest false e = ap (λ b. same_side side s || b) rest
    split rest true e =
        let other : same_side side s ≡ false = same_flipped side s ∙ ap (λ y. same_side y side) (sym (same_true x s e)) ∙ h in
        rest ∙ ap (λ b. b || list_any (λ s. same_side side s) ss) (sym other)

pub sides_more : (all : List Given) (g : Given) → sides_of (all ++ g ∷ []) ≡ (if any_same g.side (sides_of all) then sides_of all else sides_of all ++ g.side ∷ [])
sides_more [] g = refl
sides_more (x ∷ all) g =
    ap (λ ss. x.side ∷ filter (λ s. not (same_side x.side s)) ss) (sides_more all g) ∙ split (any_same g.side (sides_of all)) refl (same_side x.side g.side) refl
  where
    split : (c : Bool) → any_same g.side (sides_of all) ≡ c → (b : Bool) → same_side x.side g.side ≡ b
        → x.side ∷ filter (λ s. not (same_side x.side s)) (if c then sides_of all else sides_of all ++ g.side ∷ []) ≡ (if list_any (λ s. same_side g.side s) (sides_of (x ∷ all)) then sides_of (x ∷ all) else sides_of (x ∷ all) ++ g.side ∷ [])
    split true d true e = rw (same_flipped g.side x.side ∙ e) refl
    split false d true e =
        rw (same_flipped g.side x.side ∙ e)
        (ap (λ ss. x.side ∷ ss) (filter-append (λ s. not (same_side x.side s)) (sides_of all) (g.side ∷ []) ∙ ap (λ b. filter (λ s. not (same_side x.side s)) (sides_of all) ++ cond (not b) (g.side ∷ []) []) e ∙ append-nil (filter (λ s. not (same_side x.side s)) (sides_of all))))
    split true d false e = rw (same_flipped g.side x.side ∙ e, any_filtered x.side g.side (sides_of all) e ∙ d) refl
    split false d false e =
        rw (same_flipped g.side x.side ∙ e, any_filtered x.side g.side (sides_of all) e ∙ d)
        (ap (λ ss. x.side ∷ ss) (filter-append (λ s. not (same_side x.side s)) (sides_of all) (g.side ∷ []) ∙ ap (λ b. filter (λ s. not (same_side x.side s)) (sides_of all) ++ cond (not b) (g.side ∷ []) []) e))

-- ---- sides are distinct

pub all_filtered : {A : Type 0} (P : A → Type 0) (p : A → Bool) (xs : List A) → AllByRecursion P xs → AllByRecursion P (filter p xs)
all_filtered P p [] h = tt
all_filtered P p (x ∷ xs) h = split (all_filtered P p xs h.1) (p x)
  where
    split : AllByRecursion P (filter p xs) → (b : Bool) → AllByRecursion P (cond b (x ∷ filter p xs) (filter p xs))
    split rest true = (h.0, rest)
    split rest false = rest

differ : (x : Side) (ss : List Side) → AllByRecursion (λ s. same_side x s ≡ false) (filter (λ s. not (same_side x s)) ss)
differ x [] = tt
differ x (s ∷ ss) = split (differ x ss) (same_side x s) refl
  where
    split : AllByRecursion (λ s. same_side x s ≡ false) (filter (λ s. not (same_side x s)) ss) → (b : Bool) → same_side x s ≡ b → AllByRecursion (λ s. same_side x s ≡ false) (cond (not b) (s ∷ filter (λ s. not (same_side x s)) ss) (filter (λ s. not (same_side x s)) ss))
    split rest true e = rest
    split rest false e = (e, rest)

distinct_filtered : (p : Side → Bool) (ss : List Side) → IsDistinct same_side ss → IsDistinct same_side (filter p ss)
unfolding IsDistinct
distinct_filtered p [] h = tt
distinct_filtered p (s ∷ ss) h = split (distinct_filtered p ss h.1) (p s)
  where
    split : IsDistinct same_side (filter p ss) → (b : Bool) → IsDistinct same_side (cond b (s ∷ filter p ss) (filter p ss))
    split rest true = (all_filtered (λ t. same_side s t ≡ false) p ss h.0, rest)
    split rest false = rest

pub sides_distinct : (all : List Given) → IsDistinct same_side (sides_of all)
unfolding IsDistinct
sides_distinct [] = tt
sides_distinct (g ∷ all) = (differ g.side (sides_of all), distinct_filtered (λ s. not (same_side g.side s)) (sides_of all) (sides_distinct all))

-- ---- which sides there are

pub or_assoc : (a b c : Bool) → ((a || b) || c) ≡ (a || (b || c))
or_assoc true b c = refl
or_assoc false b c = refl

pub has_side-append : (side : Side) (xs ys : List Given) → has_side side (xs ++ ys) ≡ (has_side side xs || has_side side ys)
has_side-append side [] ys = refl
has_side-append side (g ∷ xs) ys = ap (λ b. same_side side g.side || b) (has_side-append side xs ys) ∙ sym (or_assoc (same_side side g.side) (has_side side xs) (has_side side ys))

pub side_any : (side : Side) (all : List Given) → any_same side (sides_of all) ≡ has_side side all
side_any side [] = refl
side_any side (g ∷ all) = split (side_any side all) (same_side side g.side) refl
  where
    split : any_same side (sides_of all) ≡ has_side side all → (b : Bool) → same_side side g.side ≡ b → any_same side (sides_of (g ∷ all)) ≡ has_side side (g ∷ all)
    split rest true e = rw e refl
    split rest false e = ap (λ b. same_side side g.side || b) (any_filtered g.side side (sides_of all) (same_flipped g.side side ∙ e) ∙ rest)
