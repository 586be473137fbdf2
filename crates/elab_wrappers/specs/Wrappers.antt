-- `DomainRenamer(..)`, `ResetInserter(..)` and `EnableInserter(..)`. (Amaranth language guide 0.5, "Renaming domains" and "Modifying control flow": a string
-- renames `sync`, a value controls it, and a dict does so for the domains that it names. That the names are identifiers other than `comb`, also in
-- the two inserters, and which refusal is told, is this project's own rule.)
use Rattle.std.specs.Prelude.{ℕ, Bool, if◌then◌else◌, List, [], ◌∷◌, length, is_some, Option, Some, None, Result, Ok, Err, codes}
use Rattle.lists.specs.Texts.{text_eq}
use Rattle.identifiers.specs.Identifiers.{is_identifier}
use Rattle.py_values.specs.declared.val.Val.{Val}
use Rattle.py_values.specs.declared.val.Val.TheVariants as val
use Rattle.py_heap.specs.Heaps.{Seen, text_at, row_at}
use Rattle.py_frames.specs.declared.request.Cause.{Cause}
use Rattle.py_frames.specs.declared.request.Cause.TheVariants.{Raised}
use Rattle.py_frames.specs.declared.request.NamedVal.{NamedVal}
use Rattle.design_ir.specs.declared.ids.ExprId.{ExprId}
use Rattle.design_ir.specs.declared.expr.Expr.{Expr}
use Rattle.design_ir.specs.Pools.{Pooled}
use Rattle.domain_transforms.specs.declared.controls.NamePair.{NamePair}
use Rattle.domain_transforms.specs.declared.controls.Control.{Control}
use Rattle.amh_things.specs.declared.thing.Thing.{Thing}
use Rattle.amh_things.specs.Meant.{form_meant, expr_meant}
use Rattle.amh_things.specs.Plans.{grown_by}
use Rattle.elab_store.specs.declared.kept.Kept.TheVariants as kept
use Rattle.elab_store.specs.declared.wrappings.Wrapping.{Wrapping}
use Rattle.elab_store.specs.declared.wrappings.Wrapping.TheVariants as wrapping
use Rattle.elab_store.specs.Calls.{Called}
use Rattle.elab_store.specs.Stores.{Stored, Held, Answered, refused, kept_given, store_with_wrapping}
use Rattle.elab_wrappers.specs.declared.wrappers.Inserter.{Inserter}
use Rattle.elab_wrappers.specs.declared.wrappers.Inserter.TheVariants.{Reset, Enable}

-- ---- names of domains with a clock

-- an identifier other than `comb`
abbrev pub domain_formed : List ℕ → Option (List ℕ)
domain_formed name = if text_eq name (codes "comb") then None else (if is_identifier name then Some name else None)

-- where a string is one
abbrev pub domain_named : Seen → Val → Option (List ℕ)
domain_named s (val.Str x) = domain_formed (text_at s x.0)
domain_named s v = None

-- the first one of a list and what is behind it, where there are both
abbrev pub and_item : {A : Type 0} → Option A → Option (List A) → Option (List A)
and_item (Some x) (Some xs) = Some (x ∷ xs)
and_item None xs = None
and_item (Some x) None = None

-- ---- new names

abbrev pub pair_named : Option (List ℕ) → Option (List ℕ) → Option NamePair
pair_named (Some before) (Some after) = Some (record { before = before; after = after })
pair_named None after = None
pair_named (Some before) None = None

-- those of a dict: its keys get its values as names
abbrev pub pairs_of_row : Seen → List Val → Option (List NamePair)
pairs_of_row s [] = Some []
pairs_of_row s (k ∷ []) = None
pairs_of_row s (k ∷ v ∷ row) = and_item (pair_named (domain_named s k) (domain_named s v)) (pairs_of_row s row)

-- a string is the new name of `sync`
abbrev pub pairs_given : Seen → Val → Option (List NamePair)
pairs_given s (val.Dict o) = pairs_of_row s (row_at s o.0)
pairs_given s v = and_item (pair_named (Some (codes "sync")) (domain_named s v)) (Some [])

-- ---- which values control which domains

-- whether a value stands for one of the hardware
abbrev pub is_value : Held → Val → Bool
is_value h v = is_some (form_meant h.pool h.store.things v)

abbrev pub control_named : Held → Option (List ℕ) → Val → Option NamedVal
control_named h (Some name) v = if is_value h v then Some (record { name = name; val = v }) else None
control_named h None v = None

-- those of a dict: its values control its keys
abbrev pub controls_of_row : Seen → Held → List Val → Option (List NamedVal)
controls_of_row s h [] = Some []
controls_of_row s h (k ∷ []) = None
controls_of_row s h (k ∷ v ∷ row) = and_item (control_named h (domain_named s k) v) (controls_of_row s h row)

-- what is no dict controls `sync`
abbrev pub controls_given : Seen → Held → Val → Option (List NamedVal)
controls_given s h (val.Dict o) = controls_of_row s h (row_at s o.0)
controls_given s h v = and_item (control_named h (Some (codes "sync")) v) (Some [])

-- ---- their expressions, each of which the pool gets where it is a number

-- what comes of values: the controls, or why there are none, and what is then the pool
pub record Controlled : Type 0 where
  pub made : Result (List Control) Cause
  pub pool : Pooled

abbrev pub and_control : Control → Result (List Control) Cause → Result (List Control) Cause
and_control c (Ok cs) = Ok (c ∷ cs)
and_control c (Err why) = Err why

-- the first control, where there is an expression for it, and what comes of the others
abbrev pub control_by : List ℕ → Pooled → (Pooled → Controlled) → Result (ExprId × List Expr) Cause → Controlled
control_by name q rest (Ok x) = record { made = and_control (record { domain = name; condition = x.0 }) (rest (grown_by q x.1)).made; pool = (rest (grown_by q x.1)).pool }
control_by name q rest (Err why) = record { made = Err why; pool = q }

abbrev pub controls_from : List Thing → Pooled → List NamedVal → Controlled
controls_from things q [] = record { made = Ok []; pool = q }
controls_from things q (x ∷ xs) = control_by x.name q (λ p. controls_from things p xs) (expr_meant q things x.val)

-- ---- the calls

abbrev pub with_wrapping : Wrapping → Held → Held
with_wrapping w h = record h { store = store_with_wrapping w h.store }

abbrev pub wrapping_given : Wrapping → Held → Answered
wrapping_given w h = kept_given (kept.Wrapping (length h.store.wrappings)) (with_wrapping w h)

abbrev pub renamed : Option (List NamePair) → Held → Answered
renamed (Some ps) h = wrapping_given (wrapping.Rename ps) h
renamed None h = refused Raised h

-- one value, and no keyword
abbrev pub renamer_of : Seen → List Val → List (List ℕ) → Held → Answered
renamer_of s (v ∷ []) [] h = renamed (pairs_given s v) h
renamer_of s vs ns h = refused Raised h

abbrev pub renamer_called : Seen → Called → Held → Answered
renamer_called s c h = renamer_of s c.placed c.keywords h

abbrev pub inserting : Inserter → List Control → Wrapping
inserting Reset cs = wrapping.Reset cs
inserting Enable cs = wrapping.Enable cs

abbrev pub inserter_made : Inserter → Result (List Control) Cause → Held → Answered
inserter_made i (Ok cs) h = wrapping_given (inserting i cs) h
inserter_made i (Err why) h = refused why h

abbrev pub inserter_controlled : Inserter → Controlled → Stored → Answered
inserter_controlled i c s = inserter_made i c.made (record { pool = c.pool; store = s })

-- a name or a value that is none is told before a pool that is full
abbrev pub inserter_from : Inserter → Option (List NamedVal) → Held → Answered
inserter_from i (Some xs) h = inserter_controlled i (controls_from h.store.things h.pool xs) h.store
inserter_from i None h = refused Raised h

-- one value, and no keyword
abbrev pub inserter_of : Seen → Inserter → List Val → List (List ℕ) → Held → Answered
inserter_of s i (v ∷ []) [] h = inserter_from i (controls_given s h v) h
inserter_of s i vs ns h = refused Raised h

abbrev pub inserter_called : Seen → Inserter → Called → Held → Answered
inserter_called s i c h = inserter_of s i c.placed c.keywords h
