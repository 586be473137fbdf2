-- How a register heeds a reset, by whether its domain's reset acts at once.
use Rattle.std.specs.Prelude.{◌≡◌, refl, ℕ, Bool, true, false, Option, Some, None}
use Rattle.std.proofs.Common.{ap}
use Rattle.netlist_laws.specs.Module.{NoReset, AtEdges, AtOnce, heeding_of}

pub not_heeded : (async : Bool) (o : Option ℕ) → heeding_of async o ≡ NoReset → o ≡ None
not_heeded async None e = refl
not_heeded true (Some q) e = let other : AtOnce q ≡ NoReset = e in cc
not_heeded false (Some q) e = let other : AtEdges q ≡ NoReset = e in cc

pub at_edges : (async : Bool) (o : Option ℕ) (r : ℕ) → heeding_of async o ≡ AtEdges r → (o ≡ Some r) × (async ≡ false)
at_edges async None r e = let other : NoReset ≡ AtEdges r = e in cc
at_edges true (Some q) r e = let other : AtOnce q ≡ AtEdges r = e in cc
at_edges false (Some q) r e =
    let both : AtEdges q ≡ AtEdges r = e in
    let same : q ≡ r = cc in
    (ap (λ n. Some n) same, refl)

pub at_once : (async : Bool) (o : Option ℕ) (r : ℕ) → heeding_of async o ≡ AtOnce r → (o ≡ Some r) × (async ≡ true)
at_once async None r e = let other : NoReset ≡ AtOnce r = e in cc
at_once false (Some q) r e = let other : AtEdges q ≡ AtOnce r = e in cc
at_once true (Some q) r e =
    let both : AtOnce q ≡ AtOnce r = e in
    let same : q ≡ r = cc in
    (ap (λ n. Some n) same, refl)
