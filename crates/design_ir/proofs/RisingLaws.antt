-- In a design all of whose domains are rising and reset at edges alone, a domain is active where it rises, and nothing is cleared.
use Rattle.std.specs.Prelude.{◌≡◌, refl, ℕ, zero, suc, ◌==◌, ◌&&◌, not, Bool, false, if◌then◌else◌, List, [], ◌∷◌, fold, ℤ, slice_get, Option, Some, None}
use Rattle.std.specs.List.{AllByRecursion, list_any}
use Rattle.std.proofs.Common.{◌∙◌, ap}
use Rattle.shape_rules.specs.Operators.{is_zero}
use Rattle.design_ir.specs.declared.ids.DomainId.{DomainId}
use Rattle.design_ir.specs.declared.domain.Domain.{Domain}
use Rattle.design_ir.specs.declared.process.DesignProcess.{DesignProcess}
use Rattle.design_ir.specs.Guards.{driven}
use Rattle.design_ir.specs.Circuits.{Circuit, State, option_test, at}
use Rattle.design_ir.specs.Steps.{is_before_edge, is_reset, reset_all, cleared_at, cleared, moved}
use Rattle.design_ir.specs.Rising.{IsRisingSync, ActiveIsRising, NothingIsCleared, StepsAreMoves}

-- ---- one domain by its number

before_edge : (env : List ℤ) (ds : List Domain) (d : ℕ) → AllByRecursion IsRisingSync ds
    → option_test (λ (x : Domain). is_before_edge x (at env x.clk.0)) (slice_get ds d) ≡ option_test (λ (x : Domain). is_zero (at env x.clk.0)) (slice_get ds d)
before_edge env [] d h = refl
before_edge env (x ∷ ds) zero h = ap (λ (b : Bool). if b then not (is_zero (at env x.clk.0)) else is_zero (at env x.clk.0)) h.0.rising
before_edge env (x ∷ ds) (suc d) h = before_edge env ds d h.1

no_async : (ds : List Domain) (d : ℕ) → AllByRecursion IsRisingSync ds → option_test (λ (x : Domain). x.async_reset) (slice_get ds d) ≡ false
no_async [] d h = refl
no_async (x ∷ ds) zero h = h.0.sync_reset
no_async (x ∷ ds) (suc d) h = no_async ds d h.1

-- ---- the laws

pub active_is_rising : ActiveIsRising
active_is_rising c rising env listed d = ap (λ (b : Bool). list_any (λ (x : DomainId). x.0 == d) listed && b) (before_edge env c.domains d rising)

not_cleared : (c : Circuit) → AllByRecursion IsRisingSync c.domains → (held : List ℤ) (p : DesignProcess) (cur : List ℤ) (o : Option DomainId) → cleared_at c held p cur o ≡ cur
not_cleared c rising held p cur None = refl
not_cleared c rising held p cur (Some d) =
    ap (λ (b : Bool). if b && is_reset c held d.0 then reset_all c.pool.signals cur (driven c.pool p.body) else cur) (no_async c.domains d.0 rising)

pub nothing_is_cleared : NothingIsCleared
nothing_is_cleared c rising held cur p = not_cleared c rising held p cur p.domain

none_cleared : (c : Circuit) → AllByRecursion IsRisingSync c.domains → (held : List ℤ) (ps : List DesignProcess) (cur : List ℤ) → fold (cleared c held) cur ps ≡ cur
none_cleared c rising held [] cur = refl
none_cleared c rising held (p ∷ ps) cur = none_cleared c rising held ps (cleared c held cur p) ∙ nothing_is_cleared c rising held cur p

pub steps_are_moves : StepsAreMoves
steps_are_moves c rising st env e =
    let after : State = moved c st env e in
    ap (λ (xs : List ℤ). record after { held = xs }) (none_cleared c rising after.held c.processes after.held)
