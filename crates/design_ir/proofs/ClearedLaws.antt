-- What asynchronous resets leave, number by number.
use Rattle.std.specs.Prelude.{◌≡◌, refl, ℕ, ◌<◌, ◌&&◌, ◌||◌, Bool, true, false, if◌then◌else◌, List, [], ◌∷◌, length, slice_get, ℤ, Option, Some, None, fold}
use Rattle.std.specs.List.{list_any}
use Rattle.std.proofs.Common.{◌∙◌, ap, arith}
use Rattle.std.proofs.lemmas.Bool.{cond_both}
use Rattle.design_ir.specs.declared.ids.DomainId.{DomainId}
use Rattle.design_ir.specs.declared.signal.Sig.{Sig}
use Rattle.design_ir.specs.declared.process.DesignProcess.{DesignProcess}
use Rattle.design_ir.specs.Guards.{driven}
use Rattle.design_ir.specs.Circuits.{Circuit, option_test, at, is_among}
use Rattle.design_ir.specs.Steps.{is_cleared, reset_all, cleared_at, cleared, moved}
use Rattle.design_ir.specs.Clearing.{clears, own, ResetsAct}
use Rattle.design_ir.proofs.Resets.{own_twice, resets_length, resets_at}

-- a signal that is reset twice, or once, or not at all
either : (a b : Bool) (o : Option Sig) (n : ℤ) → (if b then own o (if a then own o n else n) else (if a then own o n else n)) ≡ (if a || b then own o n else n)
either true true o n = own_twice o n
either true false o n = refl
either false b o n = refl

module _ (c : Circuit) (held : List ℤ) where
  clear_length : (p : DesignProcess) (cur : List ℤ) (o : Option DomainId) → length (cleared_at c held p cur o) ≡ length cur
  clear_length p cur None = refl
  clear_length p cur (Some d) =
      cond_both (is_cleared c held d.0) (reset_all c.pool.signals cur (driven c.pool p.body)) cur (λ y. length y ≡ length cur) (λ t. resets_length c.pool.signals (driven c.pool p.body) cur) (λ t. refl)

  pub clears_length : (ps : List DesignProcess) (cur : List ℤ) → length (fold (cleared c held) cur ps) ≡ length cur
  clears_length [] cur = refl
  clears_length (p ∷ ps) cur = clears_length ps (cleared c held cur p) ∙ clear_length p cur p.domain

  module _ (s : ℕ) where
    clear_at : (p : DesignProcess) (cur : List ℤ) (o : Option DomainId) → s < length cur
        → at (cleared_at c held p cur o) s ≡ (if option_test (λ (d : DomainId). is_cleared c held d.0) o && is_among (driven c.pool p.body) s then own (slice_get c.pool.signals s) (at cur s) else at cur s)
    clear_at p cur None there = refl
    clear_at p cur (Some d) there = by (is_cleared c held d.0)
      where
        by : (b : Bool) → at (if b then reset_all c.pool.signals cur (driven c.pool p.body) else cur) s ≡ (if b && is_among (driven c.pool p.body) s then own (slice_get c.pool.signals s) (at cur s) else at cur s)
        by true = resets_at c.pool.signals (driven c.pool p.body) cur s there
        by false = refl

    clears_at : (ps : List DesignProcess) (cur : List ℤ) → s < length cur → at (fold (cleared c held) cur ps) s ≡ (if list_any (clears c held s) ps then own (slice_get c.pool.signals s) (at cur s) else at cur s)
    clears_at [] cur there = refl
    clears_at (p ∷ ps) cur there =
        let o : Option Sig = slice_get c.pool.signals s in
        clears_at ps (cleared c held cur p) (omega (arith, there, clear_length p cur p.domain))
        ∙ ap (λ n. if list_any (clears c held s) ps then own o n else n) (clear_at p cur p.domain there)
        ∙ either (clears c held s p) (list_any (clears c held s) ps) o (at cur s)

pub resets_act : ResetsAct
resets_act c st env e s there = clears_at c (moved c st env e).held s c.processes (moved c st env e).held there
