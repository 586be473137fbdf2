-- `ResetSignal(domain="sync")`. (Amaranth language guide 0.5, "Clock domains", `ResetSignal`. That its domain is an identifier is this project's own
-- rule.)
use Rattle.std.specs.Prelude.{ℕ, nat_le, if◌then◌else◌, List, [], ◌∷◌, length, Option, Some, None, codes}
use Rattle.lists.specs.Texts.{text_eq}
use Rattle.amh_host.specs.declared.place.Place.{Place}
use Rattle.py_values.specs.declared.val.Val.{Val}
use Rattle.py_values.specs.declared.val.Val.TheVariants as val
use Rattle.py_heap.specs.Heaps.{Seen, text_at}
use Rattle.py_frames.specs.declared.request.Cause.TheVariants.{Raised, Limit}
use Rattle.design_ir.specs.declared.expr.Expr.TheVariants as expr
use Rattle.design_ir.specs.PoolRules.{expr_added}
use Rattle.amh_things.specs.declared.thing.Reading.TheVariants as reading
use Rattle.amh_things.specs.Things.{read_as}
use Rattle.elab_store.specs.Calls.{Called}
use Rattle.elab_store.specs.Stores.{Held, Answered, refused, thing_given}
use Rattle.elab_components.specs.Signals.{domain_formed}

-- ---- the argument: at most one, by its place or by its keyword

abbrev pub keyword_domain : List (List ℕ) → List Val → Option (Option Val)
keyword_domain [] vs = Some None
keyword_domain (n ∷ []) (v ∷ []) = if text_eq n (codes "domain") then Some (Some v) else None
keyword_domain ns vs = None

abbrev pub domain_argument : List Val → List (List ℕ) → List Val → Option (Option Val)
domain_argument [] ns vs = keyword_domain ns vs
domain_argument (v ∷ []) [] vs = Some (Some v)
domain_argument placed ns vs = None

-- ---- what it says

-- without one it is `sync`
abbrev pub reset_domain : Seen → Option Val → Option (List ℕ)
reset_domain s None = Some (codes "sync")
reset_domain s (Some (val.Str x)) = domain_formed (text_at s x.0)
reset_domain s (Some v) = None

-- ---- the value: which signal it is that a domain has as its reset is told when domains are resolved

abbrev pub with_reset : List ℕ → Place → Held → Held
with_reset name place h = record h { pool = expr_added h.pool (expr.Reset name place) }

abbrev pub reset_given : List ℕ → Place → Held → Answered
reset_given name place h =
    if nat_le 262144 (length h.pool.exprs) then refused Limit h
    else thing_given (read_as reading.Plain (record { 0 = length h.pool.exprs })) (with_reset name place h)

-- what raises is told before a count
abbrev pub reset_said : Option (List ℕ) → Place → Held → Answered
reset_said None place h = refused Raised h
reset_said (Some name) place h = reset_given name place h

abbrev pub reset_from : Seen → Option (Option Val) → Place → Held → Answered
reset_from s None place h = refused Raised h
reset_from s (Some given) place h = reset_said (reset_domain s given) place h

abbrev pub reset_called : Seen → Called → Place → Held → Answered
reset_called s c place h = reset_from s (domain_argument c.placed c.keywords c.keyword_vals) place h
