-- The expressions of methods are such that a pool takes them.
use Rattle.std.specs.Prelude.{◌≡◌, refl, ℕ, ◌<◌, ◌≤◌, ◌==◌, Bool, true, false, if◌then◌else◌, IsTrue, pos, List, [], ◌∷◌, length, slice_index_or, slice_get, Option, Some, None, Result, Ok, Err, IfOk}
use Rattle.std.proofs.Common.{sym, ap, ◌∙◌, arith}
use Rattle.std.proofs.lemmas.Bool.Decides.{nat_tests}
use Rattle.std.proofs.lemmas.Bool.{false≢true}
use Rattle.shape_rules.specs.Forms.{Form, IsForm, unsigned}
use Rattle.shape_rules.specs.declared.op.Op.TheVariants as op
use Rattle.design_ir.specs.declared.ids.ExprId.{ExprId}
use Rattle.design_ir.specs.declared.expr.Expr.TheVariants.{Cast}
use Rattle.design_ir.specs.Pools.{Pooled}
use Rattle.design_ir.specs.Values.{form}
use Rattle.py_values.specs.declared.val.Val.{Val}
use Rattle.amh_things.specs.declared.thing.Thing.{Thing}
use Rattle.amh_things.specs.declared.thing.Thing.TheVariants as thing
use Rattle.py_frames.specs.declared.request.Cause.TheVariants as cause
use Rattle.amh_things.specs.declared.thing.Method.{Method}
use Rattle.amh_things.specs.declared.thing.Method.TheVariants as method
use Rattle.amh_things.specs.declared.plan.Plan.{Plan}
use Rattle.amh_things.specs.declared.plan.PlanStop.{PlanStop}
use Rattle.amh_things.specs.declared.operand.Operand.TheVariants.{Held}
use Rattle.amh_things.specs.Plans.{forms, ends_of, value_made, thing_made, value_given, IsPlanned, AreDrafted, IsDrafted, MakesThings}
use Rattle.amh_things.specs.Held.{AreHeld}
use Rattle.value_acts.specs.Indices.{width_given, measured}
use Rattle.py_values.specs.declared.val.Val.TheVariants as val
use Rattle.py_values.specs.declared.val.Hw.{Hw}
use Rattle.amh_things.specs.Ends.{Ends}
use Rattle.std.specs.Option.{option_and_then}
use Rattle.data_layouts.specs.Enumerations.{Enumerated, number_named}
use Rattle.amh_things.specs.Things.{bare_expr, held_expr, method_named, shown_view}
use Rattle.amh_things.specs.Members.{member_of, member_given}
use Rattle.amh_values.specs.Attributes.{method_made, thing_attribute}
use Rattle.amh_values.specs.Calls.{signed_made, method_plan}
use Rattle.amh_things.proofs.Drafts.{forms_length, form_is, narrow, width_of_form, value_drafted, none_drafted}
use Rattle.amh_things.proofs.PutLaws.{bare_expr_below, held_expr_below}
use Rattle.value_acts.proofs.OperatorLaws.{unary_made_drafted}

positive : (n : ℕ) → (n == 0) ≡ false → 1 ≤ n
positive n h = grind (arith, nat_tests)

module _ (p : Pooled) (things : List Thing) (e : ExprId) (f : Form) (there : e.0 < length p.exprs) (is : f ≡ form p e.0) (formed : IsForm f.width f.signed) where
  names : e.0 < length (forms p)
  names = omega (arith, there, forms_length p)

  shape_is : slice_index_or (forms p) e.0 (unsigned 0) ≡ f
  shape_is = sym (is ∙ form_is p e.0)

  width_is : (slice_index_or (forms p) e.0 (unsigned 0)).width ≡ f.width
  width_is = ap (λ (x : Form). x.width) shape_is

  cast : (signed : Bool) → (IsTrue signed → 1 ≤ f.width) → AreDrafted p (Cast e signed ∷ [])
  cast signed wide = (
    record {
      names = (names, tt);
      formed = tt;
      parts = λ s. omega (arith, wide s, width_is);
      accepted = narrow (slice_index_or (forms p) e.0 (unsigned 0)).width (omega (arith, width_is, width_of_form f.width f.signed formed));
    },
    tt,
  )

  by_width : (plan : Plan) (b : Bool) → (f.width == 0) ≡ b → (if b then Err cause.Raised else Ok (value_made (ends_of p things) [] (Cast e true))) ≡ Ok plan → IsDrafted p plan
  by_width plan true z m = cc
  by_width plan false z m =
      let some : 1 ≤ f.width = positive f.width z in
      let is_plan : value_made (ends_of p things) [] (Cast e true) ≡ plan = cc in
      rw (← is_plan) (value_drafted p things [] (Cast e true) (cast true (λ _. some)))

  signed_drafted : (plan : Plan) → signed_made (ends_of p things) e f.width ≡ Ok plan → IsDrafted p plan
  signed_drafted plan made = by_width plan (f.width == 0) refl made

  plain_drafted : (m : Method) (plan : Plan) → method_plan (ends_of p things) e f m ≡ Ok plan → IsDrafted p plan
  plain_drafted method.Bool plan made = unary_made_drafted p things op.Any (Held e f) plan refl (there, is) made
  plain_drafted method.Any plan made = unary_made_drafted p things op.Any (Held e f) plan refl (there, is) made
  plain_drafted method.All plan made = unary_made_drafted p things op.All (Held e f) plan refl (there, is) made
  plain_drafted method.Xor plan made = unary_made_drafted p things op.Parity (Held e f) plan refl (there, is) made
  plain_drafted method.AsSigned plan made = signed_drafted plan made
  plain_drafted method.AsUnsigned plan made =
      let is_plan : value_made (ends_of p things) [] (Cast e false) ≡ plan = cc in
      rw (← is_plan) (value_drafted p things [] (Cast e false) (cast false (λ s. absurd (false≢true s))))
  plain_drafted method.Shape plan made =
      let is_plan : thing_made (ends_of p things) (thing.Shape f) ≡ plan = cc in
      rw (← is_plan) (record { exprs = tt; things = (tt, tt) })
  plain_drafted method.Eq plan made = cc
  plain_drafted method.Replicate plan made = cc
  plain_drafted method.BitSelect plan made = cc
  plain_drafted method.WordSelect plan made = cc
  plain_drafted method.Matches plan made = cc
  plain_drafted method.AsValue plan made =
      let is_plan : thing_made (ends_of p things) (thing.Value e) ≡ plan = cc in
      rw (← is_plan) (none_drafted p (thing_made (ends_of p things) (thing.Value e)) refl (there, tt))

  -- what comes out of a method
  pub method_drafted : (r : Result Plan PlanStop) (m : Method) → IsPlanned r (method_plan (ends_of p things) e f m) → IfOk r (IsDrafted p)
  method_drafted (Ok plan) m made = plain_drafted m plan made
  method_drafted (Err stop) m made = tt

-- ---- attributes make no expressions

module _ (p : Pooled) (ends : Ends) (things : List Thing) (held : AreHeld (length p.exprs) things) where
  method_made_drafted : (h : Hw) (e : Option ExprId) (m : Option Method) (plan : Plan) → ((x : ExprId) → e ≡ Some x → x.0 < length p.exprs) → method_made ends h e m ≡ Ok plan → IsDrafted p plan
  method_made_drafted h (Some e) (Some m) plan there made =
      let is_plan : thing_made ends (thing.Method h e m) ≡ plan = cc in
      rw (← is_plan) (none_drafted p (thing_made ends (thing.Method h e m)) refl (there e refl, tt))
  method_made_drafted h None m plan there made = cc
  method_made_drafted h (Some e) None plan there made = cc

  member_given_drafted : (h : Option Hw) (plan : Plan) → member_given h ≡ Ok plan → IsDrafted p plan
  member_given_drafted (Some h) plan made =
      let is_plan : value_given (val.Hw h) ≡ plan = cc in
      rw (← is_plan) (none_drafted p (value_given (val.Hw h)) refl tt)
  member_given_drafted None plan made = cc

  thing_attribute_drafted : (h : Hw) (e : Option Enumerated) (n : List ℕ) (plan : Plan) → thing_attribute ends things h e n ≡ Ok plan → IsDrafted p plan
  thing_attribute_drafted h (Some e) n plan made = member_given_drafted (option_and_then (member_of things h) (number_named n e.members)) plan made
  thing_attribute_drafted h None n plan made =
      method_made_drafted h (bare_expr (slice_get things h.0)) (method_named n) plan (λ x. bare_expr_below (length p.exprs) things h.0 x held) made

  pub attribute_drafted : (r : Result Plan PlanStop) (h : Hw) (e : Option Enumerated) (n : List ℕ) → IsPlanned r (thing_attribute ends things h e n) → IfOk r (IsDrafted p)
  attribute_drafted (Ok plan) h e n made = thing_attribute_drafted h e n plan made
  attribute_drafted (Err stop) h e n made = tt

-- ---- views

-- the value under a view is held
view_held : (t : Option Thing) (v : Hw × ExprId) → shown_view t ≡ Some v → held_expr t ≡ Some v.1
view_held (Some (thing.View of e)) v is = let same : (of, e) ≡ v = cc in rw (← same) refl
view_held (Some (thing.Value x)) v is = cc
view_held (Some (thing.Numbered of x)) v is = cc
view_held (Some (thing.Layout x)) v is = cc
view_held (Some (thing.Enumeration x)) v is = cc
view_held (Some (thing.Member x)) v is = cc
view_held (Some (thing.Name x)) v is = cc
view_held (Some (thing.Shape x)) v is = cc
view_held (Some (thing.Array x)) v is = cc
view_held (Some (thing.Method of x m)) v is = cc
view_held (Some (thing.Kept x)) v is = cc
view_held None v is = cc

pub view_below : (n : ℕ) (things : List Thing) (i : ℕ) (v : Hw × ExprId) → AreHeld n things → shown_view (slice_get things i) ≡ Some v → v.1.0 < n
view_below n things i v held is = held_expr_below n things i v.1 held (view_held (slice_get things i) v is)

-- ---- the length makes nothing

width_drafted : (p : Pooled) (e : Option ExprId) (plan : Plan) → width_given p e ≡ Ok plan → IsDrafted p plan
width_drafted p None plan made = cc
width_drafted p (Some e) plan made =
    let is_plan : value_given (val.Int (pos (form p e.0).width)) ≡ plan = cc in
    rw (← is_plan) (none_drafted p (value_given (val.Int (pos (form p e.0).width))) refl tt)

measured_drafted : (p : Pooled) (things : List Thing) (vals : List Val) (plan : Plan) → measured p things vals ≡ Ok plan → IsDrafted p plan
measured_drafted p things (val.Hw h ∷ []) plan made = width_drafted p (bare_expr (slice_get things h.0)) plan made
measured_drafted p things vals plan made = cc

pub length_drafted : (p : Pooled) (r : Result Plan PlanStop) (things : List Thing) (vals : List Val) → IsPlanned r (measured p things vals) → IfOk r (IsDrafted p)
length_drafted p (Ok plan) things vals made = measured_drafted p things vals plan made
length_drafted p (Err stop) things vals made = tt

-- ---- things alone

pub things_drafted : (p : Pooled) (r : Result Plan PlanStop) → IfOk r MakesThings → IfOk r (IsDrafted p)
things_drafted p (Ok plan) h = none_drafted p plan (sym h.exprs) (h.things (length p.exprs))
things_drafted p (Err stop) h = tt
