-- `Signal.like(value, *, name=None, init=None)`: a signal with the shape of a value, an enumeration or a layout too, and of a signal with its
-- `init` and `reset_less`.
-- (Amaranth language reference 0.5, `Signal.like`.)
use Rattle.std.specs.Prelude.{ℕ, ◌||◌, Bool, false, if◌then◌else◌, List, [], ◌∷◌, ℤ, pos, Option, Some, None, Result, Ok, Err, codes, slice_get}
use Rattle.std.specs.List.{list_all}
use Rattle.lists.specs.Texts.{text_eq}
use Rattle.shape_rules.specs.Forms.{Form}
use Rattle.py_values.specs.declared.val.Val.{Val}
use Rattle.py_values.specs.declared.val.Val.TheVariants as val
use Rattle.py_heap.specs.Heaps.{Seen}
use Rattle.py_frames.specs.declared.request.Cause.{Cause}
use Rattle.py_frames.specs.declared.request.Cause.TheVariants.{Raised}
use Rattle.design_ir.specs.declared.ids.ExprId.{ExprId}
use Rattle.design_ir.specs.declared.signal.Sig.{Sig}
use Rattle.design_ir.specs.declared.expr.Expr.{Expr}
use Rattle.design_ir.specs.declared.expr.Expr.TheVariants as expr
use Rattle.design_ir.specs.Pools.{Pooled}
use Rattle.amh_things.specs.declared.thing.Thing.{Thing}
use Rattle.amh_things.specs.declared.thing.Thing.TheVariants as thing
use Rattle.amh_things.specs.declared.thing.Reading.{Reading}
use Rattle.amh_things.specs.declared.thing.Reading.TheVariants as reading
use Rattle.amh_things.specs.Things.{thing_of, held_expr}
use Rattle.amh_things.specs.Members.{counted}
use Rattle.amh_things.specs.Meant.{form_meant}
use Rattle.elab_store.specs.declared.kept.HdlName.TheVariants as hdl
use Rattle.elab_store.specs.declared.kept.Kept.TheVariants as kept
use Rattle.elab_store.specs.declared.shapes.Shaped.{Shaped}
use Rattle.elab_components.specs.declared.signals.SignalArguments.{SignalArguments}
use Rattle.elab_store.specs.Calls.{Called}
use Rattle.elab_components.specs.Signals.{no_arguments, with_keywords, signal_name, signal_said}
use Rattle.elab_store.specs.Stores.{Held, Answered, refused, kept_given}

-- ---- the attribute of the name `Signal`

abbrev pub like_given : List ℕ → Held → Answered
like_given name h = if text_eq name (codes "like") then kept_given (kept.Name hdl.Like) h else refused Raised h

-- ---- the arguments

abbrev pub is_like_keyword : List ℕ → Bool
is_like_keyword n = text_eq n (codes "name") || text_eq n (codes "init")

abbrev pub like_arguments : Called → Option SignalArguments
like_arguments c = if list_all is_like_keyword c.keywords then with_keywords c.keywords c.keyword_vals no_arguments else None

-- ---- what the value says

-- the signal that an expression is, where it is one
abbrev pub signal_in : Pooled → Option Expr → Option Sig
signal_in p (Some (expr.Sig x)) = slice_get p.signals x.0
signal_in p e = None

abbrev pub liked_expr : Pooled → Option ExprId → Option Sig
liked_expr p None = None
liked_expr p (Some e) = signal_in p (slice_get p.exprs e.0)

abbrev pub liked_signal : Held → Val → Option Sig
liked_signal h v = liked_expr h.pool (held_expr (thing_of h.store.things v))

-- what is no signal has 0 as its `init` and is reset
abbrev pub own_init : Option Sig → ℤ
own_init None = pos 0
own_init (Some x) = x.init

abbrev pub own_reset_less : Option Sig → Bool
own_reset_less None = false
own_reset_less (Some x) = x.reset_less

abbrev pub like_init : List Thing → Option Sig → Option Val → Option ℤ
like_init things x None = Some (own_init x)
like_init things x (Some val.None) = Some (own_init x)
like_init things x (Some v) = counted things v

-- what its bits are read as: those of a value of an enumeration, or of a member, by this, and those of a view by its layout
abbrev pub own_reading : Option Thing → Reading
own_reading (Some (thing.Numbered h e)) = reading.Numbered h
own_reading (Some (thing.Member m)) = reading.Numbered m.of
own_reading (Some (thing.View h e)) = reading.Viewed h
own_reading t = reading.Plain

abbrev pub like_shape : Reading → Option Form → Result Shaped Cause
like_shape r (Some f) = Ok (record { form = f; reading = r })
like_shape r None = Err Raised

abbrev pub liked_shape : Held → Val → Result Shaped Cause
liked_shape h v = like_shape (own_reading (thing_of h.store.things v)) (form_meant h.pool h.store.things v)

-- ---- the signal

abbrev pub liked : Seen → List ℕ → Option SignalArguments → Result Shaped Cause → Option Sig → Held → Answered
liked s name (Some args) shape x h = signal_said (signal_name s name args.name) (like_init h.store.things x args.init) (Some (own_reset_less x)) shape h
liked s name None shape x h = refused Raised h

-- the value alone is given by its place
abbrev pub like_placed : Seen → List ℕ → Option SignalArguments → List Val → Held → Answered
like_placed s name args (v ∷ []) h = liked s name args (liked_shape h v) (liked_signal h v) h
like_placed s name args vs h = refused Raised h

abbrev pub like_called : Seen → Called → Held → Answered
like_called s c h = like_placed s c.name (like_arguments c) c.placed h
