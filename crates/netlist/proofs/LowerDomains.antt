-- Clocks and resets are signals of the pool.
use Rattle.std.proofs.Common.{◌≡◌, ◌<◌, ℕ, zero, suc, Bool, true, false, cond, List, [], ◌∷◌, length, refl, subst}
use Rattle.std.specs.Prelude.{slice_get, Option, Some, None, option_map, option_and_then, unwrap_or}
use Rattle.std.specs.List.{AllByRecursion}
use Rattle.design_ir.specs.declared.ids.SigId.{SigId}
use Rattle.design_ir.specs.declared.ids.DomainId.{DomainId}
use Rattle.design_ir.specs.declared.signal.Sig.{Sig}
use Rattle.design_ir.specs.declared.domain.Domain.{Domain}
use Rattle.design_ir.specs.Circuits.{Circuit}
use Rattle.design_ir.specs.Designs.{IsDesign, IsClockDomain, IsReset}
use Rattle.netlist_laws.specs.Module.{reset_of}

-- what holds of each element holds of the one at a place
pub at_place : {A : Type 0} (P : A → Type 0) (xs : List A) (k : ℕ) (x : A) → AllByRecursion P xs → slice_get xs k ≡ Some x → P x
at_place P [] k x h e = cc
at_place P (y ∷ xs) zero x h e = let same : y ≡ x = cc in subst P same h.0
at_place P (y ∷ xs) (suc k) x h e = at_place P xs k x h.1 e

pub clock_there : (c : Circuit) (k : ℕ) (x : Domain) → IsDesign c → slice_get c.domains k ≡ Some x → x.clk.0 < length c.pool.signals
clock_there c k x h e = (at_place (IsClockDomain c) c.domains k x h.domains e).clock.there

rst_there : (c : Circuit) (o : Option SigId) (r : ℕ) → IsReset c o → option_map (λ (s : SigId). s.0) o ≡ Some r → r < length c.pool.signals
rst_there c None r h e = cc
rst_there c (Some s) r h e = let same : s.0 ≡ r = cc in subst (λ n. n < length c.pool.signals) same h.there

domain_reset : (c : Circuit) (k r : ℕ) (o : Option Domain) → IsDesign c → slice_get c.domains k ≡ o → option_and_then (λ (x : Domain). option_map (λ (s : SigId). s.0) x.rst) o ≡ Some r → r < length c.pool.signals
domain_reset c k r None h is e = cc
domain_reset c k r (Some x) h is e = rst_there c x.rst r (at_place (IsClockDomain c) c.domains k x h.domains is).reset e

heeded : (c : Circuit) (d : DomainId) (r : ℕ) (b : Bool) → IsDesign c → cond b None (option_and_then (λ (x : Domain). option_map (λ (s : SigId). s.0) x.rst) (slice_get c.domains d.0)) ≡ Some r → r < length c.pool.signals
heeded c d r true h e = cc
heeded c d r false h e = domain_reset c d.0 r (slice_get c.domains d.0) h refl e

pub reset_there : (c : Circuit) (s : ℕ) (d : DomainId) (r : ℕ) → IsDesign c → reset_of c s d ≡ Some r → r < length c.pool.signals
reset_there c s d r h e = heeded c d r (unwrap_or (option_map (λ (x : Sig). x.reset_less) (slice_get c.pool.signals s)) true) h e
