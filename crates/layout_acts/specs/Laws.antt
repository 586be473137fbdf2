-- What the fields of a view are: laws of the definitions.
use Rattle.std.specs.Prelude.{true, ◌≡◌, ℕ, ◌+◌, ◌^◌, ℤ, pos, List, ◌∷◌, ◌++◌, length, map, unsigned_abs, ◌≤◌, false, Some}
use Rattle.amh_bits.specs.Integers.{floor_quotient}
use Rattle.amh_bits.specs.Patterns.{wrap}
use Rattle.shape_rules.specs.Forms.{Form}
use Rattle.data_layouts.specs.declared.field.Field.{Field}
use Rattle.data_layouts.specs.Layouts.{IsLaid, array_of}
use Rattle.design_ir.specs.declared.ids.ExprId.{ExprId}
use Rattle.design_ir.specs.declared.expr.Expr.{Expr}
use Rattle.design_ir.specs.declared.expr.Expr.TheVariants.{Pick}
use Rattle.design_ir.specs.Pools.{Pooled}
use Rattle.design_ir.specs.PoolRules.{IsPool}
use Rattle.design_ir.specs.Targets.{is_target}
use Rattle.design_ir.specs.Values.{num, picked}
use Rattle.amh_things.specs.declared.thing.LayoutThing.{LayoutThing}
use Rattle.layout_acts.specs.declared.fields.FieldRead.{FieldRead}
use Rattle.layout_acts.specs.Views.{field_read, is_unpickable, field_exprs, field_id, item_exprs, item_ids}

-- the number of a shape that the bits of another number are from one bit on
abbrev pub read_from : ℕ → Form → ℤ → ℤ
read_from low f n = wrap f.signed f.width (floor_quotient n (2 ^ low))

-- where the expressions of a field stand in a pool, whatever comes before and behind them, the last one has the number that the bits of the value
-- are from the field's lowest one on, read by the field's shape
abbrev pub FieldsAreRead : Type 0
FieldsAreRead = (p : Pooled) (env : List ℤ) (before after : List Expr) (e : ExprId) (low : ℕ) (f : Form) → IsPool p → p.exprs ≡ before ++ (field_exprs e low f (length before) ++ after)
    → num p env (field_id f (length before)).0 ≡ read_from low f (num p env e.0)

-- where the items of an array stand in a pool, and behind them the choice of one by an index, that has the number of the item at the index; past the
-- end it has that of the last item
abbrev pub ItemsAreChosen : Type 0
ItemsAreChosen = (p : Pooled) (env : List ℤ) (before after : List Expr) (e i : ExprId) (f : Form) (xs : List Field) → IsPool p
    → p.exprs ≡ before ++ (item_exprs e f (length before) xs ++ (Pick i (item_ids f (length before) xs) ∷ after))
    → num p env (length before + length (item_exprs e f (length before) xs)) ≡ picked (pos 0) (map (λ (x : Field). read_from x.low f (num p env e.0)) xs) (unsigned_abs (num p env i.0))

-- ---- a field is a target where its value is one, and so is the item that an index chooses

abbrev pub FieldsAreTargets : Type 0
FieldsAreTargets = (p : Pooled) (before after : List Expr) (e : ExprId) (low : ℕ) (f : Form) → IsPool p → p.exprs ≡ before ++ (field_exprs e low f (length before) ++ after)
    → is_target p (field_id f (length before)).0 ≡ is_target p e.0

abbrev pub ItemsAreTargets : Type 0
ItemsAreTargets = (p : Pooled) (before after : List Expr) (e i : ExprId) (f : Form) (xs : List Field) → IsPool p
    → p.exprs ≡ before ++ (item_exprs e f (length before) xs ++ (Pick i (item_ids f (length before) xs) ∷ after))
    → is_target p e.0 ≡ true → is_target p (length before + length (item_exprs e f (length before) xs)) ≡ true

-- ---- what a view of the layout's width has lies within its value, so that nothing of it raises for want of bits

abbrev pub FieldsLieWithin : Type 0
FieldsLieWithin = (l : LayoutThing) (i : ℕ) (f : FieldRead) → IsLaid l.layout → field_read l i ≡ Some f → f.low + f.shape.width ≤ l.layout.width

abbrev pub ItemsLieWithin : Type 0
ItemsLieWithin = (item : Form) (count : ℕ) → count ≤ 255 → is_unpickable (array_of item count).width item.width (array_of item count).fields ≡ false
