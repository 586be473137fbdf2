-- The expressions of fields and of items are such that a pool takes them.
use Rattle.std.specs.Prelude.{◌≡◌, refl, ℕ, ◌+◌, ◌<◌, ◌≤◌, ◌||◌, ◌==◌, nat_lt, nat_le, Bool, true, false, if◌then◌else◌, List, [], ◌∷◌, ◌++◌, length, slice_index_or, slice_get, Option, Some, None, Result, Ok, Err, IfOk, IfSome}
use Rattle.std.specs.List.{list_any, AllByRecursion}
use Rattle.std.proofs.Common.{sym, subst, ap, ◌∙◌, arith, length-append, append-nil, append_assoc}
use Rattle.std.proofs.Math.ListN.{get_or-append}
use Rattle.std.proofs.Math.Seq.{get_or-append_seam}
use Rattle.std.proofs.lemmas.Bool.Decides.{nat_tests}
use Rattle.std.proofs.lemmas.List.{get_or-append-add}
use Rattle.shape_rules.specs.Forms.{Form, IsForm, unsigned, common}
use Rattle.data_layouts.specs.declared.field.Field.{Field}
use Rattle.design_ir.specs.declared.ids.ExprId.{ExprId}
use Rattle.design_ir.specs.declared.signal.Sig.{Sig}
use Rattle.design_ir.specs.declared.expr.Expr.{Expr}
use Rattle.design_ir.specs.declared.expr.Expr.TheVariants.{Slice, Cast, Pick}
use Rattle.design_ir.specs.Pools.{Pooled}
use Rattle.design_ir.specs.PoolRules.{AreExprs, IsExpr}
use Rattle.design_ir.specs.Named.{AllBelow}
use Rattle.design_ir.specs.Values.{form, common_with, common_of_all}
use Rattle.py_values.specs.declared.val.Hw.{Hw}
use Rattle.py_frames.specs.declared.request.Cause.TheVariants.{Raised}
use Rattle.amh_things.specs.declared.thing.Reading.{Reading}
use Rattle.amh_things.specs.declared.thing.Reading.TheVariants as reading
use Rattle.amh_things.specs.declared.thing.Thing.{Thing}
use Rattle.amh_things.specs.declared.thing.LayoutThing.{LayoutThing}
use Rattle.amh_things.specs.declared.operand.Operand.{Operand}
use Rattle.amh_things.specs.declared.operand.Operand.TheVariants.{Held, Number}
use Rattle.amh_things.specs.declared.plan.Plan.{Plan}
use Rattle.amh_things.specs.declared.plan.PlanStop.{PlanStop}
use Rattle.amh_things.specs.Held.{AreHeld}
use Rattle.amh_things.specs.Operands.{operand_form, IsOperand}
use Rattle.amh_things.specs.Plans.{forms, ends_of, IsPlanned, IsDrafted}
use Rattle.amh_things.specs.Things.{read_as}
use Rattle.layout_acts.specs.declared.fields.FieldRead.{FieldRead}
use Rattle.layout_acts.specs.Views.{field_exprs, field_id, field_count, field_plan, field_read, field_with, item_exprs, item_ids, item_plan, is_outside, is_unpickable, view_plan, viewed}
use Rattle.amh_things.proofs.Drafts.{forms_length, form_is, narrow, width_of_form}

-- ---- the shapes of a field's expressions

abbrev pub field_forms : Form → List Form
field_forms f = unsigned f.width ∷ (if f.signed then f ∷ [] else [])

abbrev pub item_forms : Form → List Field → List Form
item_forms f [] = []
item_forms f (x ∷ xs) = field_forms f ++ item_forms f xs

counted : (w : ℕ) (s : Bool) → length (field_forms (record { width = w; signed = s })) ≡ field_count (record { width = w; signed = s })
counted w false = refl
counted w true = refl

wide_enough : (w : ℕ) (s : Bool) → IsForm w s → w ≤ 128
wide_enough w s h = width_of_form w s h

module _ (sigs : List Sig) (e : ExprId) (width : ℕ) where
  -- the expression is among those that are known, and has this width
  abbrev pub IsKnown : List Form → Type 0
  IsKnown known = (e.0 < length known) × ((slice_index_or known e.0 (unsigned 0)).width ≡ width)

  known_more : (known more : List Form) → IsKnown known → IsKnown (known ++ more)
  known_more known more h =
      (omega (arith, h.0, length-append known more), ap (λ (x : Form). x.width) (get_or-append known more (unsigned 0) e.0 h.0) ∙ h.1)

  -- ---- one field

  slice_taken : (known : List Form) (low w : ℕ) → IsKnown known → low + w ≤ width → w ≤ 128 → IsExpr sigs known (Slice e low w)
  slice_taken known low w h fits few = record { names = (h.0, tt); formed = tt; parts = omega (arith, fits, h.1); accepted = narrow w few }

  cast_taken : (known : List Form) (w : ℕ) → 1 ≤ w → w ≤ 128 → IsExpr sigs (known ++ unsigned w ∷ []) (Cast (record { 0 = length known }) true)
  cast_taken known w some few =
      let is : (slice_index_or (known ++ unsigned w ∷ []) (length known) (unsigned 0)).width ≡ w = ap (λ (x : Form). x.width) (get_or-append_seam known (unsigned w) [] (unsigned 0)) in
      record {
        names = (omega (arith, length-append known (unsigned w ∷ [])), tt);
        formed = tt;
        parts = λ s. omega (arith, some, is);
        accepted = narrow (slice_index_or (known ++ unsigned w ∷ []) (length known) (unsigned 0)).width (omega (arith, is, few));
      }

  pub field_taken : (known : List Form) (low w : ℕ) (s : Bool) (es : List Expr) → IsKnown known → IsForm w s → low + w ≤ width
      → AreExprs sigs (known ++ field_forms (record { width = w; signed = s })) es
      → AreExprs sigs known (field_exprs e low (record { width = w; signed = s }) (length known) ++ es)
  field_taken known low w false es h formed fits rest = (slice_taken known low w h fits formed, rest)
  field_taken known low w true es h formed fits rest =
      let is : (slice_index_or (known ++ unsigned w ∷ []) (length known) (unsigned 0)).width ≡ w = ap (λ (x : Form). x.width) (get_or-append_seam known (unsigned w) [] (unsigned 0)) in
      let split : (known ++ unsigned w ∷ []) ++ record { width = w; signed = true } ∷ [] ≡ known ++ unsigned w ∷ record { width = w; signed = true } ∷ [] = append_assoc known (unsigned w ∷ []) (record { width = w; signed = true } ∷ []) in
      (slice_taken known low w h fits formed.1, (cast_taken known w formed.0 formed.1, rw (is, split) rest))

  -- ---- items

  pub items_taken : (known : List Form) (w : ℕ) (s : Bool) (xs : List Field) (es : List Expr) → IsKnown known → IsForm w s → AllByRecursion (λ (x : Field). x.low + w ≤ width) xs
      → AreExprs sigs (known ++ item_forms (record { width = w; signed = s }) xs) es
      → AreExprs sigs known (item_exprs e (record { width = w; signed = s }) (length known) xs ++ es)
  items_taken known w s [] es h formed all rest = rw append-nil at rest
  items_taken known w s (x ∷ xs) es h formed all rest =
      let f : Form = record { width = w; signed = s } in
      let next : length (known ++ field_forms f) ≡ length known + field_count f = omega (arith, length-append known (field_forms f), counted w s) in
      let later : AreExprs sigs ((known ++ field_forms f) ++ item_forms f xs) es = rw append_assoc rest in
      let inner = items_taken (known ++ field_forms f) w s xs es (known_more known (field_forms f) h) formed all.1 later in
      let inner' = rw next at inner in
      subst (λ (all : List Expr). AreExprs sigs known all) (sym (append_assoc (field_exprs e x.low f (length known)) (item_exprs e f (length known + field_count f) xs) es))
      (field_taken known x.low w s (item_exprs e f (length known + field_count f) xs ++ es) h formed all.0 inner')

-- ---- the expressions that items are

abbrev pub HasForm : List Form → Form → ExprId → Type 0
HasForm known f e = (e.0 < length known) × (slice_index_or known e.0 (unsigned 0) ≡ f)

has_longer : (known more : List Form) (f : Form) (e : ExprId) → HasForm known f e → HasForm (known ++ more) f e
has_longer known more f e h = (omega (arith, h.0, length-append known more), get_or-append known more (unsigned 0) e.0 h.0 ∙ h.1)

id_taken : (known : List Form) (w : ℕ) (s : Bool) → HasForm (known ++ field_forms (record { width = w; signed = s })) (record { width = w; signed = s }) (field_id (record { width = w; signed = s }) (length known))
id_taken known w false = (omega (arith, length-append known (unsigned w ∷ [])), get_or-append_seam known (unsigned w) [] (unsigned 0))
id_taken known w true =
    (omega (arith, length-append known (unsigned w ∷ record { width = w; signed = true } ∷ [])), get_or-append-add known (unsigned w ∷ record { width = w; signed = true } ∷ []) 1 (unsigned 0))

pub ids_taken : (known : List Form) (w : ℕ) (s : Bool) (xs : List Field)
    → AllByRecursion (HasForm (known ++ item_forms (record { width = w; signed = s }) xs) (record { width = w; signed = s })) (item_ids (record { width = w; signed = s }) (length known) xs)
ids_taken known w s [] = tt
ids_taken known w s (x ∷ xs) =
    let f : Form = record { width = w; signed = s } in
    let next : length (known ++ field_forms f) ≡ length known + field_count f = omega (arith, length-append known (field_forms f), counted w s) in
    let here = has_longer (known ++ field_forms f) (item_forms f xs) f (field_id f (length known)) (id_taken known w s) in
    let here' = rw (append_assoc known (field_forms f) (item_forms f xs)) at here in
    let rest = rw (append_assoc known (field_forms f) (item_forms f xs), next) at (ids_taken (known ++ field_forms f) w s xs) in
    (here', rest)

all_below : (known : List Form) (f : Form) (ids : List ExprId) → AllByRecursion (HasForm known f) ids → AllBelow (length known) ids
all_below known f [] h = tt
all_below known f (e ∷ es) h = (h.0.0, all_below known f es h.1)

-- ---- their shape

common_same : (w : ℕ) (s : Bool) → common (record { width = w; signed = s }) (record { width = w; signed = s }) ≡ record { width = w; signed = s }
common_same w false = ap unsigned (let e : (common (unsigned w) (unsigned w)).width ≡ w = omega arith in e)
common_same w true = ap (λ n. record { width = n; signed = true }) (let e : (common (record { width = w; signed = true }) (record { width = w; signed = true })).width ≡ w = omega arith in e)

common_with_same : (known : List Form) (w : ℕ) (s : Bool) (ids : List ExprId) → AllByRecursion (HasForm known (record { width = w; signed = s })) ids
    → common_with (λ k. slice_index_or known k (unsigned 0)) (record { width = w; signed = s }) ids ≡ record { width = w; signed = s }
common_with_same known w s [] h = refl
common_with_same known w s (e ∷ es) h =
    ap (λ (g : Form). common_with (λ k. slice_index_or known k (unsigned 0)) (common (record { width = w; signed = s }) g) es) h.0.1
    ∙ ap (λ (g : Form). common_with (λ k. slice_index_or known k (unsigned 0)) g es) (common_same w s)
    ∙ common_with_same known w s es h.1

common_of_all_same : (known : List Form) (w : ℕ) (s : Bool) (e : ExprId) (es : List ExprId) → AllByRecursion (HasForm known (record { width = w; signed = s })) (e ∷ es)
    → common_of_all (λ k. slice_index_or known k (unsigned 0)) (e ∷ es) ≡ record { width = w; signed = s }
common_of_all_same known w s e es h =
    ap (λ (g : Form). common_with (λ k. slice_index_or known k (unsigned 0)) g es) h.0.1 ∙ common_with_same known w s es h.1

-- ---- things of a plan

read_held : (n : ℕ) (r : Reading) (e : ExprId) → e.0 < n → AreHeld n (read_as r e ∷ [])
read_held n reading.Plain e there = (there, tt)
read_held n (reading.Numbered h) e there = (there, tt)
read_held n (reading.Viewed h) e there = (there, tt)

field_last : (e : ExprId) (low w : ℕ) (s : Bool) (n : ℕ) → (field_id (record { width = w; signed = s }) n).0 < n + length (field_exprs e low (record { width = w; signed = s }) n)
field_last e low w false n = omega arith
field_last e low w true n = omega arith

length_last : (xs : List Expr) (e : Expr) → length (xs ++ e ∷ []) ≡ length xs + 1
length_last xs e = omega (arith, length-append xs (e ∷ []))

module _ (p : Pooled) (things : List Thing) (e : ExprId) (there : e.0 < length p.exprs) where
  known : IsKnown p.signals e (form p e.0).width (forms p)
  known = (omega (arith, there, forms_length p), ap (λ (x : Form). x.width) (sym (form_is p e.0)))

  pub field_drafted : (f : FieldRead) → IsForm f.shape.width f.shape.signed → f.low + f.shape.width ≤ (form p e.0).width → IsDrafted p (field_plan (ends_of p things) e f)
  field_drafted f formed fits =
      let taken = rw (forms_length p) at (field_taken p.signals e (form p e.0).width (forms p) f.low f.shape.width f.shape.signed [] known formed fits tt) in
      record {
        exprs = subst (λ (all : List Expr). AreExprs p.signals (forms p) all) (append-nil (field_exprs e f.low f.shape (length p.exprs))) taken;
        things = read_held (length p.exprs + length (field_exprs e f.low f.shape (length p.exprs))) f.reading (field_id f.shape (length p.exprs)) (field_last e f.low f.shape.width f.shape.signed (length p.exprs));
      }

  pub field_plan_drafted : (r : Result Plan PlanStop) (f : FieldRead) → IsForm f.shape.width f.shape.signed → f.low + f.shape.width ≤ (form p e.0).width → IsPlanned r (Ok (field_plan (ends_of p things) e f)) → IfOk r (IsDrafted p)
  field_plan_drafted (Ok plan) f formed fits made = let is_plan : field_plan (ends_of p things) e f ≡ plan = cc in rw (← is_plan) (field_drafted f formed fits)
  field_plan_drafted (Err stop) f formed fits made = tt

  -- ---- the item that a value chooses

  module _ (i : ExprId) (chosen : i.0 < length p.exprs) (plain : (form p i.0).signed ≡ false) where
    pick_taken : (w : ℕ) (s : Bool) (x : Field) (xs : List Field) → IsForm w s
        → IsExpr p.signals (forms p ++ item_forms (record { width = w; signed = s }) (x ∷ xs)) (Pick i (item_ids (record { width = w; signed = s }) (length p.exprs) (x ∷ xs)))
    pick_taken w s x xs formed =
        let f : Form = record { width = w; signed = s } in
        let more : List Form = item_forms f (x ∷ xs) in
        let all = rw (forms_length p) at (ids_taken (forms p) w s (x ∷ xs)) in
        let ids : List ExprId = item_ids f (length p.exprs) (x ∷ xs) in
        let here : i.0 < length (forms p) = omega (arith, chosen, forms_length p) in
        let shape : slice_index_or (forms p ++ more) i.0 (unsigned 0) ≡ form p i.0 = get_or-append (forms p) more (unsigned 0) i.0 here ∙ sym (form_is p i.0) in
        let unsigned_index : (slice_index_or (forms p ++ more) i.0 (unsigned 0)).signed ≡ false = ap (λ (g : Form). g.signed) shape ∙ plain in
        let width : (common_of_all (λ k. slice_index_or (forms p ++ more) k (unsigned 0)) ids).width ≡ w =
        ap (λ (g : Form). g.width) (common_of_all_same (forms p ++ more) w s (field_id f (length p.exprs)) (item_ids f (length p.exprs + field_count f) xs) all) in
        record {
          names = (omega (arith, here, length-append (forms p) more), all_below (forms p ++ more) f ids all);
          formed = tt;
          parts = λ none. cc;
          accepted = rw unsigned_index (narrow (common_of_all (λ k. slice_index_or (forms p ++ more) k (unsigned 0)) ids).width (omega (arith, width, wide_enough w s formed)));
        }

    pub items_drafted : (f : Form) (r : Reading) (x : Field) (xs : List Field) → IsForm f.width f.signed → AllByRecursion (λ (y : Field). y.low + f.width ≤ (form p e.0).width) (x ∷ xs)
        → IsDrafted p (item_plan (ends_of p things) e f r i (x ∷ xs))
    items_drafted f r x xs formed all =
        let pick : Expr = Pick i (item_ids f (length p.exprs) (x ∷ xs)) in
        let taken = rw (forms_length p) at (items_taken p.signals e (form p e.0).width (forms p) f.width f.signed (x ∷ xs) (pick ∷ []) known formed all (pick_taken f.width f.signed x xs formed, tt)) in
        let before : List Expr = item_exprs e f (length p.exprs) (x ∷ xs) in
        record {
          exprs = taken;
          things = read_held (length p.exprs + length (before ++ pick ∷ [])) r (record { 0 = length p.exprs + length before }) (omega (arith, length_last before pick));
        }

-- ---- what is within a value

is_false : (a b : Bool) → (a || b) ≡ false → (a ≡ false) × (b ≡ false)
is_false true b h = cc
is_false false b h = (refl, h)

inside : (n m : ℕ) → nat_lt n m ≡ false → m ≤ n
inside n m h = grind (arith, nat_tests)

pub all_inside : (width item : ℕ) (xs : List Field) → list_any (is_outside width item) xs ≡ false → AllByRecursion (λ (x : Field). x.low + item ≤ width) xs
all_inside width item [] h = tt
all_inside width item (x ∷ xs) h =
    let both = is_false (is_outside width item x) (list_any (is_outside width item) xs) h in
    (inside width (x.low + item) both.0, all_inside width item xs both.1)

pub items_picked_drafted : (p : Pooled) (things : List Thing) (e i : ExprId) (l : LayoutThing) (first : FieldRead) (r : Result Plan PlanStop) → e.0 < length p.exprs → i.0 < length p.exprs
    → (form p i.0).signed ≡ false → IsForm first.shape.width first.shape.signed → Some first ≡ field_read l 0 → is_unpickable (form p e.0).width first.shape.width l.layout.fields ≡ false
    → IsPlanned r (Ok (item_plan (ends_of p things) e first.shape first.reading i l.layout.fields)) → IfOk r (IsDrafted p)
items_picked_drafted p things e i l first (Err stop) there chosen plain formed is fits made = tt
items_picked_drafted p things e i l first (Ok plan) there chosen plain formed is fits made =
    of_fields l.layout.fields (slice_get l.readings 0) is (all_inside (form p e.0).width first.shape.width l.layout.fields (is_false _ _ fits).1) made
  where
    of_fields : (xs : List Field) (r : Option Reading) → Some first ≡ field_with (slice_get xs 0) r → AllByRecursion (λ (x : Field). x.low + first.shape.width ≤ (form p e.0).width) xs
        → IsPlanned (Ok plan) (Ok (item_plan (ends_of p things) e first.shape first.reading i xs)) → IsDrafted p plan
    of_fields [] r is all made = cc
    of_fields (x ∷ xs) r is all made =
        let is_plan : item_plan (ends_of p things) e first.shape first.reading i (x ∷ xs) ≡ plan = cc in
        rw (← is_plan) (items_drafted p things e there i chosen plain first.shape first.reading x xs formed all)

-- ---- a view of an operand

view_drafted : (p : Pooled) (things : List Thing) (h : Hw) (x : Operand) → IsOperand p x → IsDrafted p (view_plan (ends_of p things) h x)
view_drafted p things h (Held e f) is = record { exprs = tt; things = (omega (arith, is.0), tt) }
view_drafted p things h (Number n f) is = record {
  exprs = (record { names = tt; formed = is.0; parts = is.1; accepted = narrow f.width (width_of_form f.width f.signed is.0) }, tt);
  things = (omega arith, tt);
}

by_width : (p : Pooled) (plan made : Plan) (b : Bool) → (if b then Ok made else Err Raised) ≡ Ok plan → made ≡ plan
by_width p plan made true e = cc
by_width p plan made false e = cc

pub viewed_drafted : (p : Pooled) (things : List Thing) (h : Hw) (width : ℕ) (x : Option Operand) (r : Result Plan PlanStop) → IfSome x (IsOperand p) → IsPlanned r (viewed (ends_of p things) h width x) → IfOk r (IsDrafted p)
viewed_drafted p things h width x (Err stop) is made = tt
viewed_drafted p things h width None (Ok plan) is made = cc
viewed_drafted p things h width (Some x) (Ok plan) is made =
    let is_plan = by_width p plan (view_plan (ends_of p things) h x) ((operand_form x).width == width) made in
    rw (← is_plan) (view_drafted p things h x is)

-- what a test of widths says, of the widths that were tested
pub fits : (low item width a b : ℕ) → true ≡ nat_le (low + a) b → a ≡ item → b ≡ width → low + item ≤ width
fits low item width a b h ha hb =
    let within : low + a ≤ b = below (low + a) b (sym h) in
    omega (arith, within, ha, hb)
  where
    below : (n m : ℕ) → nat_le n m ≡ true → n ≤ m
    below n m e = grind (arith, nat_tests)
