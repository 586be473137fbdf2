-- The names of a class as its row lists them, and what a class inherits.
use Rattle.std.proofs.Common.{◌≡◌, ℕ, suc, zero, ◌+◌, Bool, true, false, List, [], ◌∷◌, ◌++◌, length, drop, Option, Some, None, Result, Ok, Err, refl, ap, sym, ◌∙◌, subst, arith, append_assoc, length-append, add-one, slice_get}
use Rattle.std.specs.List.{list_any}
use Rattle.py_values.specs.declared.val.Val.{Val}
use Rattle.py_values.specs.declared.val.Val.TheVariants as val
use Rattle.py_values.specs.declared.val.ObjId.{ObjId}
use Rattle.py_values.specs.declared.val.Hw.{Hw}
use Rattle.py_values.specs.declared.val.ValueStop.{ValueStop}
use Rattle.py_values.specs.declared.val.ValueStop.TheVariants.{Raised, Width, Limit, Spent, NoMemory}
use Rattle.py_heap.specs.declared.objects.Inherited.{Inherited}
use Rattle.py_heap.specs.declared.objects.Inherited.TheVariants.{Found, Thing, Nowhere}
use Rattle.py_heap.specs.Heaps.{Seen, row_at}
use Rattle.py_values.specs.Runs.{Answers}
use Rattle.py_values.specs.Bindings.{Binding}
use Rattle.py_heap.specs.Objects.{is_long, names_in, name_listed, names_listed, attributes, attribute_in, first_in, of_base, inherited_or, inherited_in}

drop_suc : {A : Type 0} (xs : List A) (i : ℕ) (x : A) → slice_get xs i ≡ Some x → drop i xs ≡ x ∷ drop (suc i) xs
drop_suc [] zero x h = cc
drop_suc [] (suc i) x h = cc
drop_suc (y ∷ xs) zero x h = let e : y ≡ x = cc in ap (λ z. z ∷ xs) e
drop_suc (y ∷ xs) (suc i) x h = drop_suc xs i x h

-- what stands from a place on begins with what stands there
pub drop_at : {A : Type 0} (xs : List A) (i : ℕ) (x : A) → slice_get xs i ≡ Some x → drop i xs ≡ x ∷ drop (i + 1) xs
drop_at xs i x h = rw add-one (drop_suc xs i x h)

abbrev value_or : {A : Type 0} → A → Result (Unit {0} × A) ValueStop → A
value_or d (Ok x) = x.1
value_or d (Err stop) = d

module _ (before : ℕ) (texts : List (List ℕ)) (row : List Val) (name : List ℕ) (v : Val) (bs : List Binding) where
  more : is_long name ≡ false → names_listed before texts row ((name, v) ∷ bs) ≡ names_listed before (texts ++ name ∷ []) (row ++ val.Str (record { 0 = before + length texts }) ∷ v ∷ []) bs
  more h =
      let n : before + length (texts ++ name ∷ []) ≡ suc (before + length texts) = omega (arith, length-append texts (name ∷ [])) in
      rw (h, n, append_assoc texts (name ∷ []) (names_in bs), append_assoc row) refl

  listed_by : (b : Bool) (texts' : List (List ℕ)) (row' : List Val) → is_long name ≡ b → name_listed before texts row name v ≡ Ok (tt, (texts', row')) → names_listed before texts row ((name, v) ∷ bs) ≡ names_listed before texts' row' bs
  listed_by true texts' row' e h = let f = rw e at h in cc
  listed_by false texts' row' e h =
      let p = ap (value_or (texts', row')) (rw e at h) in
      more e ∙ (λ i. names_listed before (p i).0 (p i).1 bs)

  -- at one name more
  pub listed_turn : (texts' : List (List ℕ)) (row' : List Val) → name_listed before texts row name v ≡ Ok (tt, (texts', row')) → names_listed before texts row ((name, v) ∷ bs) ≡ names_listed before texts' row' bs
  listed_turn texts' row' h = listed_by (is_long name) texts' row' refl h

  stopped_by : (b : Bool) (stop : ValueStop) → is_long name ≡ b → Answers (Err stop) (name_listed before texts row name v) → Answers (Err stop) (names_listed before texts row ((name, v) ∷ bs))
  stopped_by true Raised e h = let f = rw e at h in cc
  stopped_by true Width e h = let f = rw e at h in cc
  stopped_by true Limit e h = rw e refl
  stopped_by false Raised e h = let f = rw e at h in cc
  stopped_by false Width e h = let f = rw e at h in cc
  stopped_by false Limit e h = let f = rw e at h in cc
  stopped_by b Spent e h = absurd h
  stopped_by b NoMemory e h = tt

  pub listed_stop : (stop : ValueStop) → Answers (Err stop) (name_listed before texts row name v) → Answers (Err stop) (names_listed before texts row ((name, v) ∷ bs))
  listed_stop stop h = stopped_by (is_long name) stop refl h

-- ---- classes and their bases

module _ (s : Seen) (name : List ℕ) where
  own_of : ObjId → Option Val
  own_of class = attribute_in s name (attributes (row_at s class.0))

  turn : (n : ℕ) (class : ObjId) → inherited_in (suc n) s name class ≡ inherited_or class (attribute_in s name (attributes (row_at s class.0))) (of_base (inherited_in n s name) (first_in (row_at s class.0)))
  unfolding inherited_in
  turn n class = refl

  -- at one class more
  pub inherits_own : (n m : ℕ) (class : ObjId) (v : Val) → n ≡ suc m → Some v ≡ attribute_in s name (attributes (row_at s class.0)) → inherited_in n s name class ≡ Found v (val.Class class)
  inherits_own n m class v g h = ap (λ k. inherited_in k s name class) g ∙ turn m class ∙ rw (← h) refl

  pub inherits_base : (n m : ℕ) (class : ObjId) (base : Val) (meaning : Inherited) → n ≡ suc m → None ≡ attribute_in s name (attributes (row_at s class.0)) → base ≡ first_in (row_at s class.0) → of_base (inherited_in m s name) base ≡ meaning → inherited_in n s name class ≡ meaning
  inherits_base n m class base meaning g h b e = ap (λ k. inherited_in k s name class) g ∙ turn m class ∙ rw (← h, ← b) e

  pub inherits_none : (n : ℕ) (class : ObjId) → n ≡ 0 → inherited_in n s name class ≡ Nowhere
  unfolding inherited_in
  inherits_none n class g = ap (λ k. inherited_in k s name class) g

-- what is no class and no thing has nothing
pub of_base-other : (f : ObjId → Inherited) (base : Val) → ((o : ObjId) → base ≡ val.Class o → ⊥) → ((h : Hw) → base ≡ val.Hw h → ⊥) → of_base f base ≡ Nowhere
of_base-other f (val.Class o) c h = absurd (c o refl)
of_base-other f (val.Hw x) c h = absurd (h x refl)
of_base-other f _ c h = refl
