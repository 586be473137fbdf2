-- Controls stand in the pool that they leave.
use Rattle.std.proofs.Common.{◌≡◌, ℕ, ◌<◌, ap, sym, ◌∙◌, List, [], ◌∷◌, ◌++◌, length, Result, Ok, Err, append_assoc, append-nil, arith}
use Rattle.std.specs.Prelude.{IfOk}
use Rattle.std.proofs.lemmas.List.{length-append}
use Rattle.py_frames.specs.declared.request.Cause.{Cause}
use Rattle.py_frames.specs.declared.request.NamedVal.{NamedVal}
use Rattle.design_ir.specs.declared.ids.ExprId.{ExprId}
use Rattle.design_ir.specs.declared.expr.Expr.{Expr}
use Rattle.design_ir.specs.Pools.{Pooled}
use Rattle.domain_transforms.specs.declared.controls.Control.{Control}
use Rattle.domain_transforms.specs.Placed.{AreControls}
use Rattle.amh_things.specs.declared.thing.Thing.{Thing}
use Rattle.amh_things.specs.Meant.{expr_meant}
use Rattle.amh_things.specs.Plans.{grown_by}
use Rattle.amh_things.specs.Held.{AreHeld}
use Rattle.elab_store.specs.Sound.{IsWrapping}
use Rattle.elab_wrappers.specs.declared.wrappers.Inserter.{Inserter}
use Rattle.elab_wrappers.specs.declared.wrappers.Inserter.TheVariants.{Reset, Enable}
use Rattle.elab_wrappers.specs.Wrappers.{Controlled, and_control, control_by, controls_from, inserting}
use Rattle.elab_wrappers.proofs.MeantLaws.{IsMeant, expr_there, held_grown}

-- the pool grew at its end alone, and the controls stand in it
pub record AreMade (q : Pooled) (c : Controlled) : Type 0 where
  pub more : List Expr
  pub pool : c.pool ≡ grown_by q more
  pub controls : IfOk c.made (AreControls (length c.pool.exprs))

same_pool : (q : Pooled) → q ≡ grown_by q []
same_pool q = ap (λ (es : List Expr). record q { exprs = es }) (sym (append-nil q.exprs))

and_there : (n : ℕ) (c : Control) (r : Result (List Control) Cause) → c.condition.0 < n → IfOk r (AreControls n) → IfOk (and_control c r) (AreControls n)
and_there n c (Ok cs) h g = (h, g)
and_there n c (Err why) h g = tt

first_made : (name : List ℕ) (q : Pooled) (x : ExprId × List Expr) (c : Controlled) → IsMeant q x → AreMade (grown_by q x.1) c
    → AreMade q (record { made = and_control (record { domain = name; condition = x.0 }) c.made; pool = c.pool })
first_made name q x c is rest =
    let size : length c.pool.exprs ≡ length ((q.exprs ++ x.1) ++ rest.more) = ap (λ (p : Pooled). length p.exprs) rest.pool in record {
      more = x.1 ++ rest.more;
      pool = rest.pool ∙ ap (λ (es : List Expr). record q { exprs = es }) (append_assoc q.exprs x.1 rest.more);
      controls = and_there (length c.pool.exprs) (record { domain = name; condition = x.0 }) c.made (omega (arith, is.there, size, length-append (q.exprs ++ x.1) rest.more, length-append q.exprs x.1)) rest.controls;
    }

pub controls_made : (ts : List Thing) (q : Pooled) (xs : List NamedVal) → AreHeld (length q.exprs) ts → AreMade q (controls_from ts q xs)
controls_made ts q [] held = record { more = []; pool = same_pool q; controls = tt }
controls_made ts q (x ∷ xs) held = by_meant (expr_meant q ts x.val) (expr_there q ts x.val held) (λ es. controls_made ts (grown_by q es) xs (held_grown q es ts held))
  where
    by_meant : (r : Result (ExprId × List Expr) Cause) → IfOk r (IsMeant q) → ((es : List Expr) → AreMade (grown_by q es) (controls_from ts (grown_by q es) xs)) → AreMade q (control_by x.name q (λ p. controls_from ts p xs) r)
    by_meant (Ok y) is rest = first_made x.name q y (controls_from ts (grown_by q y.1) xs) is (rest y.1)
    by_meant (Err why) is rest = record { more = []; pool = same_pool q; controls = tt }

-- what inserts them keeps to the pool
pub inserting_sound : (q : Pooled) (i : Inserter) (cs : List Control) → AreControls (length q.exprs) cs → IsWrapping q (inserting i cs)
inserting_sound q Reset cs h = h
inserting_sound q Enable cs h = h
