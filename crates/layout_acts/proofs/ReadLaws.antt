-- What the fields of a view are read as, and which item of an array is chosen.
use Rattle.std.specs.Prelude.{◌&&◌, ◌≡◌, refl, ℕ, ◌+◌, ◌^◌, Bool, true, false, ℤ, pos, List, [], ◌∷◌, ◌++◌, length, map, slice_get, unsigned_abs, Some}
use Rattle.std.specs.List.{list_all}
use Rattle.std.proofs.Common.{sym, ap, ◌∙◌, arith, length-append, append_assoc}
use Rattle.amh_bits.specs.Integers.{floor_quotient}
use Rattle.amh_bits.specs.Patterns.{pattern, number, wrap}
use Rattle.amh_bits.proofs.Wraps.{pattern_below, pattern_number}
use Rattle.shape_rules.specs.Forms.{Form, unsigned}
use Rattle.data_layouts.specs.declared.field.Field.{Field}
use Rattle.design_ir.specs.declared.ids.ExprId.{ExprId}
use Rattle.design_ir.specs.declared.expr.Expr.{Expr}
use Rattle.design_ir.specs.declared.expr.Expr.TheVariants.{Slice, Cast, Pick}
use Rattle.design_ir.specs.Pools.{Pooled}
use Rattle.design_ir.specs.PoolRules.{IsPool}
use Rattle.design_ir.specs.Values.{form, num, picked, bits_from}
use Rattle.design_ir.specs.Targets.{is_target}
use Rattle.design_ir.proofs.Equations.{form_is, num_is}
use Rattle.design_ir.proofs.TargetLaws.{is_target_is}
use Rattle.layout_acts.specs.Views.{field_exprs, field_id, field_count, item_exprs, item_ids}
use Rattle.layout_acts.specs.Laws.{read_from, FieldsAreRead, ItemsAreChosen, FieldsAreTargets, ItemsAreTargets}

-- what stands behind others
behind : {A : Type 0} (before : List A) (x : A) (after : List A) → slice_get (before ++ x ∷ after) (length before) ≡ Some x
behind [] x after = refl
behind (y ∷ before) x after = behind before x after

stands : (p : Pooled) (before after : List Expr) (x : Expr) → p.exprs ≡ before ++ (x ∷ after) → slice_get p.exprs (length before) ≡ Some x
stands p before after x is = ap (λ es. slice_get es (length before)) is ∙ behind before x after

stands_next : (p : Pooled) (before after : List Expr) (x y : Expr) → p.exprs ≡ before ++ (x ∷ y ∷ after) → slice_get p.exprs (length before + 1) ≡ Some y
stands_next p before after x y is =
    let next : length (before ++ x ∷ []) ≡ length before + 1 = omega (arith, length-append before (x ∷ [])) in
    rw next at (stands p (before ++ x ∷ []) after y (is ∙ sym (append_assoc before (x ∷ []) (y ∷ after))))

-- the bits of a number that are read with a sign are those that they were
read_signed : (width : ℕ) (z : ℤ) → wrap true width (pos (pattern width z)) ≡ wrap true width z
read_signed width z = ap (number true width) (pattern_number false width (pattern width z) (pattern_below width z))

both : (a b : Bool) → a ≡ true → b ≡ true → (a && b) ≡ true
both true b e f = f
both false b e f = cc

module _ (p : Pooled) (env : List ℤ) (ok : IsPool p) (e : ExprId) where
  slice_is : (before after : List Expr) (low width : ℕ) → p.exprs ≡ before ++ (Slice e low width ∷ after) → num p env (length before) ≡ pos (bits_from low width (num p env e.0))
  slice_is before after low width is = num_is p env (length before) (Slice e low width) ok (stands p before after (Slice e low width) is)

  field_is : (before after : List Expr) (low width : ℕ) (signed : Bool) → p.exprs ≡ before ++ (field_exprs e low (record { width = width; signed = signed }) (length before) ++ after)
      → num p env (field_id (record { width = width; signed = signed }) (length before)).0 ≡ read_from low (record { width = width; signed = signed }) (num p env e.0)
  field_is before after low width false is = slice_is before after low width is
  field_is before after low width true is =
      let cast : Expr = Cast (record { 0 = length before }) true in
      let shape : form p (length before) ≡ unsigned width = form_is p (length before) (Slice e low width) ok (stands p before (cast ∷ after) (Slice e low width) is) in
      num_is p env (length before + 1) cast ok (stands_next p before after (Slice e low width) cast is)
      ∙ (λ i. wrap true (shape i).width (slice_is before (cast ∷ after) low width is i))
      ∙ read_signed width (floor_quotient (num p env e.0) (2 ^ low))

  counted : (low width k : ℕ) (signed : Bool) → length (field_exprs e low (record { width = width; signed = signed }) k) ≡ field_count (record { width = width; signed = signed })
  counted low width k false = refl
  counted low width k true = refl

  -- the first item and the others, where they stand
  items_split : (before after : List Expr) (width : ℕ) (signed : Bool) (x : Field) (xs : List Field) → p.exprs ≡ before ++ (item_exprs e (record { width = width; signed = signed }) (length before) (x ∷ xs) ++ after)
      → (p.exprs ≡ before ++ (field_exprs e x.low (record { width = width; signed = signed }) (length before) ++ (item_exprs e (record { width = width; signed = signed }) (length before + field_count (record { width = width; signed = signed })) xs ++ after)))
      × (length (before ++ field_exprs e x.low (record { width = width; signed = signed }) (length before)) ≡ length before + field_count (record { width = width; signed = signed }))
      × (p.exprs ≡ (before ++ field_exprs e x.low (record { width = width; signed = signed }) (length before)) ++ (item_exprs e (record { width = width; signed = signed }) (length (before ++ field_exprs e x.low (record { width = width; signed = signed }) (length before))) xs ++ after))
  items_split before after width signed x xs is =
      let f : Form = record { width = width; signed = signed } in
      let k : ℕ = length before in
      let here : List Expr = field_exprs e x.low f k in
      let rest : List Expr = item_exprs e f (k + field_count f) xs in
      let first : p.exprs ≡ before ++ (here ++ (rest ++ after)) = is ∙ ap (λ es. before ++ es) (append_assoc here rest after) in
      let next : length (before ++ here) ≡ k + field_count f = omega (arith, length-append before here, counted x.low width k signed) in
      let later : p.exprs ≡ (before ++ here) ++ (item_exprs e f (length (before ++ here)) xs ++ after) =
      first ∙ sym (append_assoc before here (rest ++ after)) ∙ ap (λ n. (before ++ here) ++ (item_exprs e f n xs ++ after)) (sym next) in
      (first, next, later)

  items_are : (before after : List Expr) (width : ℕ) (signed : Bool) (xs : List Field) → p.exprs ≡ before ++ (item_exprs e (record { width = width; signed = signed }) (length before) xs ++ after)
      → map (λ (x : ExprId). num p env x.0) (item_ids (record { width = width; signed = signed }) (length before) xs)
      ≡ map (λ (x : Field). read_from x.low (record { width = width; signed = signed }) (num p env e.0)) xs
  items_are before after width signed [] is = refl
  items_are before after width signed (x ∷ xs) is =
      let f : Form = record { width = width; signed = signed } in
      let k : ℕ = length before in
      let here : List Expr = field_exprs e x.low f k in
      let rest : List Expr = item_exprs e f (k + field_count f) xs in
      let split = items_split before after width signed x xs is in
      let others = rw split.1 at (items_are (before ++ here) after width signed xs split.2) in
      (λ i. field_is before (rest ++ after) x.low width signed split.0 i ∷ others i)

  -- ---- targets

  field_target : (before after : List Expr) (low width : ℕ) (signed : Bool) → p.exprs ≡ before ++ (field_exprs e low (record { width = width; signed = signed }) (length before) ++ after)
      → is_target p (field_id (record { width = width; signed = signed }) (length before)).0 ≡ is_target p e.0
  field_target before after low width false is = is_target_is p (length before) (Slice e low width) ok (stands p before after (Slice e low width) is)
  field_target before after low width true is =
      let cast : Expr = Cast (record { 0 = length before }) true in
      is_target_is p (length before + 1) cast ok (stands_next p before after (Slice e low width) cast is)
      ∙ is_target_is p (length before) (Slice e low width) ok (stands p before (cast ∷ after) (Slice e low width) is)

  items_targets : (before after : List Expr) (width : ℕ) (signed : Bool) (xs : List Field) → p.exprs ≡ before ++ (item_exprs e (record { width = width; signed = signed }) (length before) xs ++ after)
      → is_target p e.0 ≡ true → list_all (λ (x : ExprId). is_target p x.0) (item_ids (record { width = width; signed = signed }) (length before) xs) ≡ true
  items_targets before after width signed [] is target = refl
  items_targets before after width signed (x ∷ xs) is target =
      let f : Form = record { width = width; signed = signed } in
      let k : ℕ = length before in
      let here : List Expr = field_exprs e x.low f k in
      let rest : List Expr = item_exprs e f (k + field_count f) xs in
      let split = items_split before after width signed x xs is in
      let others = rw split.1 at (items_targets (before ++ here) after width signed xs split.2 target) in
      both (is_target p (field_id f k).0) _ (field_target before (rest ++ after) x.low width signed split.0 ∙ target) others

pub fields_are_read : FieldsAreRead
fields_are_read p env before after e low f ok is = field_is p env ok e before after low f.width f.signed is

pub items_are_chosen : ItemsAreChosen
items_are_chosen p env before after e i f xs ok is =
    let k : ℕ = length before in
    let items : List Expr = item_exprs e f k xs in
    let pick : Expr = Pick i (item_ids f k xs) in
    let count : length (before ++ items) ≡ k + length items = length-append before items in
    let there = rw count at (stands p (before ++ items) after pick (is ∙ sym (append_assoc before items (pick ∷ after)))) in
    num_is p env (k + length items) pick ok there
    ∙ ap (λ ns. picked (pos 0) ns (unsigned_abs (num p env i.0))) (items_are p env ok e before (pick ∷ after) f.width f.signed xs is)

pub fields_are_targets : FieldsAreTargets
fields_are_targets p before after e low f ok is = field_target p [] ok e before after low f.width f.signed is

pub items_are_targets : ItemsAreTargets
items_are_targets p before after e i f xs ok is target =
    let k : ℕ = length before in
    let items : List Expr = item_exprs e f k xs in
    let pick : Expr = Pick i (item_ids f k xs) in
    let count : length (before ++ items) ≡ k + length items = length-append before items in
    let there = rw count at (stands p (before ++ items) after pick (is ∙ sym (append_assoc before items (pick ∷ after)))) in
    is_target_is p (k + length items) pick ok there ∙ items_targets p [] ok e before (pick ∷ after) f.width f.signed xs is target
