-- `Module()` and `Signal(shape=1, *, name=None, init=0, reset_less=False)`. (Amaranth language guide 0.5, "Modules", "Signals".)
use Rattle.std.specs.Prelude.{ℕ, nat_le, ◌||◌, if◌then◌else◌, Bool, false, List, [], ◌∷◌, length, ℤ, pos, Option, Some, None, Result, Ok, Err, codes, option_and_then, is_some}
use Rattle.lists.specs.Texts.{text_eq}
use Rattle.amh_bits.specs.Patterns.{wrap}
use Rattle.shape_rules.specs.Forms.{Form, unsigned}
use Rattle.identifiers.specs.Identifiers.{is_identifier}
use Rattle.py_values.specs.declared.val.Val.{Val}
use Rattle.py_values.specs.declared.val.Val.TheVariants as val
use Rattle.py_heap.specs.Heaps.{Seen, text_at}
use Rattle.py_operators.specs.Truths.{truth}
use Rattle.py_frames.specs.declared.request.Cause.{Cause}
use Rattle.py_frames.specs.declared.request.Cause.TheVariants.{Raised, Limit}
use Rattle.design_ir.specs.declared.signal.Sig.{Sig}
use Rattle.design_ir.specs.declared.expr.Expr.TheVariants as expr
use Rattle.design_ir.specs.PoolRules.{signal_refusal, signal_added, expr_added}
use Rattle.amh_things.specs.declared.thing.Thing.{Thing}
use Rattle.amh_things.specs.declared.thing.Reading.{Reading}
use Rattle.amh_things.specs.declared.thing.Reading.TheVariants as reading
use Rattle.amh_things.specs.Things.{read_as}
use Rattle.amh_things.specs.Members.{counted}
use Rattle.elab_store.specs.declared.shapes.Shaped.{Shaped}
use Rattle.elab_components.specs.declared.signals.SignalArguments.{SignalArguments}
use Rattle.elab_store.specs.declared.kept.Kept.TheVariants as kept
use Rattle.elab_store.specs.Calls.{Called}
use Rattle.elab_store.specs.Shapes.{shaped_meant}
use Rattle.elab_store.specs.Stores.{store_and_module, Held, Answered, refused, thing_given, kept_given}

-- ---- a module

abbrev pub with_module : Held → Held
with_module h = record h { store = store_and_module h.store }

-- what is called without arguments
abbrev pub without_arguments : List Val → List (List ℕ) → Answered → Held → Answered
without_arguments [] [] a h = a
without_arguments vs ns a h = refused Raised h

abbrev pub module_called : Called → Held → Answered
module_called c h = without_arguments c.placed c.keywords (kept_given (kept.Module (length h.store.modules)) (with_module h)) h

-- ---- the arguments of a signal

abbrev pub no_arguments : SignalArguments
no_arguments = record { shape = None; name = None; init = None; reset_less = None }

-- an argument is given once
abbrev pub once : Option Val → SignalArguments → Option SignalArguments
once None args = Some args
once (Some v) args = None

abbrev pub with_keyword : List ℕ → Val → SignalArguments → Option SignalArguments
with_keyword n v args =
    if text_eq n (codes "shape") then once args.shape (record args { shape = Some v })
    else (if text_eq n (codes "name") then once args.name (record args { name = Some v })
    else (if text_eq n (codes "init") then once args.init (record args { init = Some v })
    else (if text_eq n (codes "reset_less") then once args.reset_less (record args { reset_less = Some v }) else None)))

abbrev pub with_keywords : List (List ℕ) → List Val → SignalArguments → Option SignalArguments
with_keywords [] vs args = Some args
with_keywords (n ∷ ns) [] args = None
with_keywords (n ∷ ns) (v ∷ vs) args = option_and_then (with_keywords ns vs) (with_keyword n v args)

-- the shape alone may be given by its place
abbrev pub placed_arguments : List Val → Option SignalArguments
placed_arguments [] = Some no_arguments
placed_arguments (v ∷ []) = Some (record no_arguments { shape = Some v })
placed_arguments (v ∷ w ∷ vs) = None

abbrev pub signal_arguments : Called → Option SignalArguments
signal_arguments c = option_and_then (with_keywords c.keywords c.keyword_vals) (placed_arguments c.placed)

-- ---- what they say

-- the name that is given, else that of the call, else `sig`
abbrev pub call_name : List ℕ → List ℕ
call_name [] = codes "sig"
call_name (b ∷ bs) = b ∷ bs

abbrev pub formed : List ℕ → Option (List ℕ)
formed name = if is_identifier name then Some name else None

-- an identifier other than `comb`
abbrev pub domain_formed : List ℕ → Option (List ℕ)
domain_formed name = if text_eq name (codes "comb") then None else formed name

abbrev pub signal_name : Seen → List ℕ → Option Val → Option (List ℕ)
signal_name s name None = formed (call_name name)
signal_name s name (Some val.None) = formed (call_name name)
signal_name s name (Some (val.Str x)) = formed (text_at s x.0)
signal_name s name (Some v) = None

-- an integer, a boolean or a member
abbrev pub signal_init : List Thing → Option Val → Option ℤ
signal_init things None = Some (pos 0)
signal_init things (Some v) = counted things v

abbrev pub signal_reset_less : Seen → Option Val → Option Bool
signal_reset_less s None = Some false
signal_reset_less s (Some v) = truth s v

-- ---- the signal

-- the signal itself, and the expression that it is
abbrev pub with_signal : Sig → Held → Held
with_signal x h = record h { pool = expr_added (signal_added h.pool x) (expr.Sig (record { 0 = length h.pool.signals })) }

-- one signal, its bits or one expression more would be too many
abbrev pub signal_passes : Held → ℕ → Bool
signal_passes h width = is_some (signal_refusal h.pool width) || nat_le 262144 (length h.pool.exprs)

-- what is given is its value by what its bits are read as
abbrev pub signal_given : Reading → Sig → Held → Answered
signal_given r x h =
    if signal_passes h x.shape.width then refused Limit h
    else thing_given (read_as r (record { 0 = length h.pool.exprs })) (with_signal x h)

-- a number of any size is wrapped to the shape
abbrev pub signal_of : List ℕ → Form → ℤ → Bool → Sig
signal_of name f n reset_less = record { name = name; shape = f; init = wrap f.signed f.width n; reset_less = reset_less }

-- what raises is told before a shape that is too wide, and that before a count
abbrev pub signal_shaped : List ℕ → ℤ → Bool → Result Shaped Cause → Held → Answered
signal_shaped name n reset_less (Ok x) h = signal_given x.reading (signal_of name x.form n reset_less) h
signal_shaped name n reset_less (Err why) h = refused why h

abbrev pub signal_said : Option (List ℕ) → Option ℤ → Option Bool → Result Shaped Cause → Held → Answered
signal_said (Some name) (Some n) (Some r) shape h = signal_shaped name n r shape h
signal_said None n r shape h = refused Raised h
signal_said (Some name) None r shape h = refused Raised h
signal_said (Some name) (Some n) None shape h = refused Raised h

-- without a shape it has one bit
abbrev pub signal_shape : Seen → Held → Option Val → Result Shaped Cause
signal_shape s h None = Ok (record { form = unsigned 1; reading = reading.Plain })
signal_shape s h (Some v) = shaped_meant s h.store.things v

abbrev pub signal_from : Seen → List ℕ → Option SignalArguments → Held → Answered
signal_from s name None h = refused Raised h
signal_from s name (Some args) h =
    signal_said (signal_name s name args.name) (signal_init h.store.things args.init) (signal_reset_less s args.reset_less) (signal_shape s h args.shape) h

abbrev pub signal_called : Seen → Called → Held → Answered
signal_called s c h = signal_from s c.name (signal_arguments c) h
