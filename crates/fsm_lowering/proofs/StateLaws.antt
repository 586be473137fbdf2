-- What holds of the states of a machine.
use Rattle.std.proofs.Common.{◌^◌, ◌≡◌, ℕ, zero, suc, ◌<◌, ◌≤◌, nat_lt, Bool, true, false, if◌then◌else◌, ◌||◌, ◌&&◌, ◌↔◌, List, [], ◌∷◌, ◌++◌, map, length, Option, Some, None, unwrap_or, MatchOption, IsSome, IsTrue, refl, sym, ap, ◌∙◌, subst, arith, length-append, lit<, slice_get}
use Rattle.std.specs.List.{AllByRecursion, IsDistinct, list_any}
use Rattle.std.specs.Cmp.{IsEquivalence}
use Rattle.std.proofs.lemmas.List.{length-map}
use Rattle.std.proofs.lemmas.Bool.{false≢true, ltb-true, ltb-false}
use Rattle.std.proofs.lemmas.Map.Keys.{IsDistinct-push, IsDistinct-head, IsDistinct-tail}
use Rattle.design_ir.proofs.Growth.{all_append}
use Rattle.design_ir.proofs.Elements.{some_is}
use Rattle.lists.specs.Texts.{text_eq}
use Rattle.lists.proofs.TextLaws.{text_eq_true, text_eq_same}
use Rattle.amh_host.specs.declared.place.Place.{Place}
use Rattle.design_ir.specs.declared.ids.ExprId.{ExprId}
use Rattle.fsm_lowering.specs.declared.states.State.{State}
use Rattle.fsm_lowering.specs.States.{range_width, is_known, is_entered, number_of, condition_in, first_unentered, unentered, mentioned, held_as, entered_as}
use Rattle.fsm_lowering.specs.declared.refusal.FsmStop.TheVariants.{UndefinedState}
use Rattle.fsm_lowering.specs.Calls.{option_is, undefined_state, undefined_init, first_among}
use Rattle.fsm_lowering.specs.Machines.{AreStates}
use Rattle.fsm_lowering.proofs.Widths.{range_width-has}

-- ---- texts

text_eq-flips : (a b : List ℕ) → text_eq a b ≡ text_eq b a
text_eq-flips a b = go (text_eq a b) (text_eq b a) refl refl
  where
    go : (x y : Bool) → text_eq a b ≡ x → text_eq b a ≡ y → text_eq a b ≡ text_eq b a
    go true y p q = let same : a ≡ b = text_eq_true a b p in subst (λ (c : List ℕ). text_eq a c ≡ text_eq c a) same refl
    go false false p q = p ∙ sym q
    go false true p q = let same : b ≡ a = text_eq_true b a q in subst (λ (c : List ℕ). text_eq a c ≡ text_eq c a) (sym same) refl

text_eq_equiv : IsEquivalence text_eq
text_eq_equiv = record { refl = text_eq_same; symm = text_eq-flips; congr = λ a b c h. ap (λ x. text_eq x c) (text_eq_true a b h) }

-- ---- numbers

pub number_of-le : (states : List State) (name : List ℕ) → number_of states name ≤ length states
number_of-le [] name = omega arith
number_of-le (s ∷ states) name = go (text_eq s.name name) (number_of-le states name)
  where
    go : (b : Bool) → number_of states name ≤ length states → (if b then 0 else suc (number_of states name)) ≤ suc (length states)
    go true h = omega arith
    go false h = omega arith

pub number_of-known : (states : List State) (name : List ℕ) → number_of states name < length states → is_known states name ≡ true
number_of-known [] name h = absurd (omega (arith, h))
number_of-known (s ∷ states) name h = go (text_eq s.name name) h (number_of-known states name)
  where
    go : (b : Bool) → (if b then 0 else suc (number_of states name)) < suc (length states) → (number_of states name < length states → is_known states name ≡ true) → (b || is_known states name) ≡ true
    go true h more = refl
    go false h more = more (omega (arith, h))

pub number_of-unknown : (states : List State) (name : List ℕ) → length states ≤ number_of states name → is_known states name ≡ false
number_of-unknown [] name h = refl
number_of-unknown (s ∷ states) name h = go (text_eq s.name name) h (number_of-unknown states name)
  where
    go : (b : Bool) → suc (length states) ≤ (if b then 0 else suc (number_of states name)) → (length states ≤ number_of states name → is_known states name ≡ false) → (b || is_known states name) ≡ false
    go true h more = absurd (omega (arith, h))
    go false h more = more (omega (arith, h))

pub number_of-entered : (states : List State) (name : List ℕ) → is_entered states name ≡ true → number_of states name < length states
number_of-entered [] name h = absurd (false≢true h)
number_of-entered (s ∷ states) name h = go (text_eq s.name name) h (number_of-entered states name)
  where
    go : (b : Bool) → ((b && s.entered) || is_entered states name) ≡ true → (is_entered states name ≡ true → number_of states name < length states) → (if b then 0 else suc (number_of states name)) < suc (length states)
    go true h more = omega arith
    go false h more = let below = more h in omega (arith, below)

-- ---- what is kept

-- a state that was entered has a condition
abbrev Has : State → Type 0
Has s = s.entered ≡ true → IsSome s.condition

all_map : {A B : Type 0} (P : A → Type 0) (Q : B → Type 0) (f : A → B) → ((x : A) → P x → Q (f x)) → (xs : List A) → AllByRecursion P xs → AllByRecursion Q (map f xs)
all_map P Q f each [] h = tt
all_map P Q f each (x ∷ xs) h = (each x h.0, all_map P Q f each xs h.1)

none_named : (states : List State) (name : List ℕ) → is_known states name ≡ false → list_any (text_eq name) (map (λ (s : State). s.name) states) ≡ false
none_named [] name h = refl
none_named (s ∷ states) name h = go (text_eq s.name name) (text_eq name s.name) (text_eq-flips name s.name) h (none_named states name)
  where
    go : (a b : Bool) → b ≡ a → (a || is_known states name) ≡ false → (is_known states name ≡ false → list_any (text_eq name) (map (λ (s : State). s.name) states) ≡ false) → (b || list_any (text_eq name) (map (λ (s : State). s.name) states)) ≡ false
    go true b e h more = absurd (false≢true (sym h))
    go false true e h more = absurd (false≢true (sym e))
    go false false e h more = more h

names_push : (states : List State) (s : State) → map (λ (s : State). s.name) (states ++ s ∷ []) ≡ map (λ (s : State). s.name) states ++ s.name ∷ []
names_push [] s = refl
names_push (t ∷ states) s = ap (λ ns. t.name ∷ ns) (names_push states s)

-- without a first state none was entered, and else it is among them
abbrev Begun : List State → Option ℕ → Type 0
Begun states first = MatchOption first (AllByRecursion (λ (s : State). s.entered ≡ false) states) (λ n. n < length states)

begun_push : (states : List State) (first : Option ℕ) (name : List ℕ) (place : Place) → Begun states first → Begun (states ++ unentered name place ∷ []) first
begun_push states None name place h = all_append (λ (s : State). s.entered ≡ false) states (unentered name place) h refl
begun_push states (Some n) name place h = simp length-append (omega (arith, h))

pub AreStates-none : AreStates [] None
unfolding IsDistinct
AreStates-none = record { few = lit< tt; distinct = tt; begun = tt; conditions = tt }

-- a state more
AreStates-push : (states : List State) (first : Option ℕ) (name : List ℕ) (place : Place) → length states < 256 → is_known states name ≡ false → AreStates states first → AreStates (states ++ unentered name place ∷ []) first
AreStates-push states first name place room new are = record {
  few = simp length-append (omega (arith, room));
  distinct = rw (names_push states (unentered name place)) (IsDistinct-push text_eq_equiv (map (λ (s : State). s.name) states) name are.distinct (none_named states name new));
  begun = begun_push states first name place are.begun;
  conditions = all_append Has states (unentered name place) are.conditions (λ e. absurd (false≢true e));
}

pub unknown-number_of : (states : List State) (name : List ℕ) → is_known states name ≡ false → length states ≤ number_of states name
unknown-number_of states name new = go (nat_lt (number_of states name) (length states)) refl
  where
    go : (b : Bool) → nat_lt (number_of states name) (length states) ≡ b → length states ≤ number_of states name
    go true e = absurd (false≢true (sym new ∙ number_of-known states name (ltb-true (number_of states name) (length states) e)))
    go false e = ltb-false (number_of states name) (length states) e

pub AreStates-mentioned : (states : List State) (first : Option ℕ) (name : List ℕ) (place : Place) → number_of states name < 256 → AreStates states first → AreStates (mentioned states name place) first
AreStates-mentioned states first name place room are = go (is_known states name) refl
  where
    go : (b : Bool) → is_known states name ≡ b → AreStates (if b then states else states ++ unentered name place ∷ []) first
    go true e = are
    go false e = AreStates-push states first name place (let full = unknown-number_of states name e in omega (arith, full, room)) e are

-- a state has its number among those that are mentioned
pub number_of-mentioned : (states : List State) (name : List ℕ) (place : Place) → number_of states name < length (mentioned states name place)
number_of-mentioned states name place = go (is_known states name) refl
  where
    go : (b : Bool) → is_known states name ≡ b → number_of states name < length (if b then states else states ++ unentered name place ∷ [])
    go true e = among (nat_lt (number_of states name) (length states)) refl
      where
        among : (c : Bool) → nat_lt (number_of states name) (length states) ≡ c → number_of states name < length states
        among true f = ltb-true (number_of states name) (length states) f
        among false f = absurd (false≢true (sym (number_of-unknown states name (ltb-false (number_of states name) (length states) f)) ∙ e))
    go false e = simp length-append (let most = number_of-le states name in omega (arith, most))

pub mentioned-more : (states : List State) (name : List ℕ) (place : Place) (n : ℕ) → n < length states → n < length (mentioned states name place)
mentioned-more states name place n h = go (is_known states name)
  where
    go : (b : Bool) → n < length (if b then states else states ++ unentered name place ∷ [])
    go true = h
    go false = simp length-append (omega (arith, h))

-- ---- changes of one state

names_same : (f : State → State) → ((s : State) → (f s).name ≡ s.name) → (states : List State) → map (λ (s : State). s.name) (map f states) ≡ map (λ (s : State). s.name) states
names_same f same [] = refl
names_same f same (s ∷ states) = let here = same s in let more = names_same f same states in cc

held_name : (name : List ℕ) (e : ExprId) (s : State) → (held_as name e s).name ≡ s.name
held_name name e s = go (text_eq s.name name)
  where
    go : (b : Bool) → (if b then record s { condition = Some (unwrap_or s.condition e) } else s).name ≡ s.name
    go true = refl
    go false = refl

entered_name : (name : List ℕ) (e : ExprId) (s : State) → (entered_as name e s).name ≡ s.name
entered_name name e s = go (text_eq s.name name)
  where
    go : (b : Bool) → (if b then record s { entered = true; condition = Some (unwrap_or s.condition e) } else s).name ≡ s.name
    go true = refl
    go false = refl

held_has : (name : List ℕ) (e : ExprId) (s : State) → (s.entered ≡ true → IsSome s.condition) → (held_as name e s).entered ≡ true → IsSome (held_as name e s).condition
held_has name e s h = go (text_eq s.name name)
  where
    go : (b : Bool) → (if b then record s { condition = Some (unwrap_or s.condition e) } else s).entered ≡ true → IsSome (if b then record s { condition = Some (unwrap_or s.condition e) } else s).condition
    go true x = refl
    go false x = h x

entered_has : (name : List ℕ) (e : ExprId) (s : State) → (s.entered ≡ true → IsSome s.condition) → (entered_as name e s).entered ≡ true → IsSome (entered_as name e s).condition
entered_has name e s h = go (text_eq s.name name)
  where
    go : (b : Bool) → (if b then record s { entered = true; condition = Some (unwrap_or s.condition e) } else s).entered ≡ true → IsSome (if b then record s { entered = true; condition = Some (unwrap_or s.condition e) } else s).condition
    go true x = refl
    go false x = h x

held_unentered : (name : List ℕ) (e : ExprId) (s : State) → s.entered ≡ false → (held_as name e s).entered ≡ false
held_unentered name e s h = go (text_eq s.name name)
  where
    go : (b : Bool) → (if b then record s { condition = Some (unwrap_or s.condition e) } else s).entered ≡ false
    go true = h
    go false = h

begun_held : (states : List State) (first : Option ℕ) (name : List ℕ) (e : ExprId) → Begun states first → Begun (map (held_as name e) states) first
begun_held states None name e h = all_map (λ (s : State). s.entered ≡ false) (λ (s : State). s.entered ≡ false) (held_as name e) (held_unentered name e) states h
begun_held states (Some n) name e h = rw length-map h

pub AreStates-held : (states : List State) (first : Option ℕ) (name : List ℕ) (e : ExprId) → AreStates states first → AreStates (map (held_as name e) states) first
AreStates-held states first name e are = record {
  few = rw length-map are.few;
  distinct = rw (names_same (held_as name e) (held_name name e) states) are.distinct;
  begun = begun_held states first name e are.begun;
  conditions = all_map Has Has (held_as name e) (held_has name e) states are.conditions;
}

pub AreStates-entered : (states : List State) (first : Option ℕ) (name : List ℕ) (e : ExprId) (n : ℕ) → n < length states → AreStates states first → AreStates (map (entered_as name e) states) (Some n)
AreStates-entered states first name e n among are = record {
  few = rw length-map are.few;
  distinct = rw (names_same (entered_as name e) (entered_name name e) states) are.distinct;
  begun = rw length-map among;
  conditions = all_map Has Has (entered_as name e) (entered_has name e) states are.conditions;
}

-- ---- what is held

pub condition_in-exactly : (states : List State) (name : List ℕ) → AllByRecursion Has states → IsSome (condition_in states name) ↔ IsTrue (is_entered states name)
condition_in-exactly [] name h = (λ e. absurd (false≢true e), λ e. absurd (false≢true e))
condition_in-exactly (s ∷ states) name h = go (text_eq s.name name) s.entered h.0 (condition_in-exactly states name h.1)
  where
    go : (b c : Bool) → (c ≡ true → IsSome s.condition) → IsSome (condition_in states name) ↔ IsTrue (is_entered states name) → IsSome (if b && c then s.condition else condition_in states name) ↔ IsTrue ((b && c) || is_entered states name)
    go true true has more = (λ e. refl, λ e. has refl)
    go true false has more = more
    go false c has more = more

-- ---- the first state

none_entered : (states : List State) (name : List ℕ) → AllByRecursion (λ (s : State). s.entered ≡ false) states → is_entered states name ≡ false
none_entered [] name h = refl
none_entered (s ∷ states) name h = let more = none_entered states name h.1 in go (text_eq s.name name) s.entered h.0 more
  where
    go : (b c : Bool) → c ≡ false → is_entered states name ≡ false → ((b && c) || is_entered states name) ≡ false
    go b true e more = absurd (false≢true (sym e))
    go true false e more = more
    go false false e more = more

-- a state was entered only once there is a first one
pub entered-begun : (states : List State) (first : Option ℕ) (name : List ℕ) → AreStates states first → is_entered states name ≡ true → option_is first ≡ true
entered-begun states None name are e = absurd (false≢true (sym (none_entered states name are.begun) ∙ e))
entered-begun states (Some n) name are e = refl

pub first_among-below : (states : List State) (first : Option ℕ) (init : Option (List ℕ)) (place : Place) (n : ℕ) → AreStates states first → undefined_state (first_unentered states) (undefined_init states init place None) ≡ None → first_among states first init ≡ Some n → n < length states
first_among-below states None None place n are e h = cc
first_among-below states (Some m) None place n are e h = let same : m ≡ n = cc in subst (λ (k : ℕ). k < length states) same are.begun
first_among-below states first (Some name) place n are e h = let same : number_of states name ≡ n = cc in subst (λ (k : ℕ). k < length states) same (number_of-entered states name (go (first_unentered states) (is_entered states name) e))
  where
    go : (o : Option Place) (b : Bool) → undefined_state o (if b then None else Some (UndefinedState place)) ≡ None → b ≡ true
    go (Some p) b x = cc
    go None true x = refl
    go None false x = cc

pub first-below : (states : List State) (first : Option ℕ) (name : List ℕ) (place : Place) → AreStates states first → unwrap_or first (number_of states name) < length (mentioned states name place)
first-below states None name place are = number_of-mentioned states name place
first-below states (Some n) name place are = mentioned-more states name place n are.begun

-- ---- state k has the number k

named_first : (states : List State) (k : ℕ) (s : State) (name : List ℕ) → AllByRecursion (λ y. text_eq name y ≡ false) (map (λ (t : State). t.name) states) → slice_get states k ≡ Some s → text_eq name s.name ≡ false
named_first [] k s name h at = cc
named_first (t ∷ states) zero s name h at = subst (λ (u : State). text_eq name u.name ≡ false) (some_is t s at) h.0
named_first (t ∷ states) (suc k) s name h at = named_first states k s name h.1 at

pub number_of-place : (states : List State) (k : ℕ) (s : State) → IsDistinct text_eq (map (λ (t : State). t.name) states) → slice_get states k ≡ Some s → number_of states s.name ≡ k
number_of-place [] k s d at = cc
number_of-place (t ∷ states) zero s d at = let same : t ≡ s = some_is t s at in rw (ap (λ (u : State). text_eq u.name s.name) same ∙ text_eq_same s.name) refl
number_of-place (t ∷ states) (suc k) s d at =
    rw (named_first states k s t.name (IsDistinct-head text_eq t.name (map (λ (u : State). u.name) states) d) at) (ap suc (number_of-place states k s (IsDistinct-tail text_eq t.name (map (λ (u : State). u.name) states) d) at))

known-below : (states : List State) (name : List ℕ) → is_known states name ≡ true → number_of states name < length states
known-below states name known = go (nat_lt (number_of states name) (length states)) refl
  where
    go : (b : Bool) → nat_lt (number_of states name) (length states) ≡ b → number_of states name < length states
    go true e = ltb-true (number_of states name) (length states) e
    go false e = absurd (false≢true (sym (number_of-unknown states name (ltb-false (number_of states name) (length states) e)) ∙ known))

pub number_of-fits : (states : List State) (first : Option ℕ) (name : List ℕ) → AreStates states first → is_known states name ≡ true → number_of states name < 2 ^ range_width (length states)
number_of-fits states first name are known =
    let below = known-below states name known in
    let room = range_width-has (length states) are.few in
    omega (arith, below, room)
