-- How resets are looked at one after another. (Internal: no rule of the language.)
use Rattle.std.specs.Prelude.{◌≡◌, ℕ, ◌&&◌, ◌||◌, not, Bool, if◌then◌else◌, List, is_some, Option, Some, None}
use Rattle.lists.specs.Texts.{text_eq}
use Rattle.design_ir.specs.declared.ids.SigId.{SigId}
use Rattle.design_ir.specs.declared.domain.Domain.{Domain}
use Rattle.design_ir.specs.declared.domain.DomainDef.{DomainDef}
use Rattle.design_ir.specs.declared.expr.Expr.{Expr}
use Rattle.design_ir.specs.declared.expr.Expr.TheVariants.{Reset}
use Rattle.clock_domains.specs.declared.stop.ResolveStop.{ResolveStop}
use Rattle.clock_domains.specs.declared.stop.ResolveStop.TheVariants.{NoReset}
use Rattle.clock_domains.specs.Placed.{reset_of}
use Rattle.clock_domains.specs.Resolved.{lacks_reset}

-- a look-up finds exactly the names of the domains that are defined without a reset
abbrev pub IsLacking : List DomainDef → (List ℕ → Option ℕ) → Type 0
IsLacking definitions look = (name : List ℕ) → is_some (look name) ≡ lacks_reset definitions name

abbrev pub place_stop : (List ℕ → Option ℕ) → Expr → Option ResolveStop
place_stop look (Reset domain place) = if is_some (look domain) then Some (NoReset place) else None
place_stop look e = None

abbrev pub signal_for : List Domain → Expr → Option SigId
signal_for domains (Reset domain place) = reset_of domains domain
signal_for domains e = None

abbrev pub placed_signal : List Domain → Bool → Option Expr → Option SigId
placed_signal domains held None = None
placed_signal domains held (Some e) = if held then signal_for domains e else None

-- a name more in a look-up, where the definition is without a reset
abbrev pub IsLackingPut : (List ℕ → Option ℕ) → DomainDef → (List ℕ → Option ℕ) → Type 0
IsLackingPut look d look' = (name : List ℕ) → is_some (look' name) ≡ (is_some (look name) || (not (is_some d.domain.rst) && text_eq d.domain.name name))
