-- A clocked process, where its domain is active.
use Rattle.std.specs.Prelude.{◌≡◌, refl, ℕ, zero, suc, ◌<◌, if◌then◌else◌, true, List, [], ◌∷◌, length, slice_get, ℤ, Some}
use Rattle.std.proofs.Common.{sym, ◌∙◌, ap, arith, get_or}
use Rattle.design_ir.specs.declared.ids.DomainId.{DomainId}
use Rattle.design_ir.specs.declared.process.DesignProcess.{DesignProcess}
use Rattle.design_ir.specs.Circuits.{Circuit}
use Rattle.design_ir.specs.Guards.{driven}
use Rattle.design_ir.specs.Put.{put}
use Rattle.design_ir.specs.Steps.{is_active, is_reset, reset_all, clocked_at, clocked}

pub get_of : {A : Type 0} (xs : List A) (k : ℕ) (x : A) → slice_get xs k ≡ Some x → x ≡ get_or xs k x
get_of [] k x e = refl
get_of (y ∷ xs) zero x e = let same : y ≡ x = cc in sym same
get_of (y ∷ xs) (suc k) x e = get_of xs k x e

pub place_of : {A : Type 0} (xs : List A) (k : ℕ) (x : A) → slice_get xs k ≡ Some x → k < length xs
place_of [] k x e = cc
place_of (y ∷ xs) zero x e = omega arith
place_of (y ∷ xs) (suc k) x e = omega (arith, place_of xs k x e)

pub clocked_reset : (c : Circuit) (env : List ℤ) (listed : List DomainId) (held : List ℤ) (q : DesignProcess) (d : DomainId) → q.domain ≡ Some d → is_active c env listed d.0 ≡ true → is_reset c env d.0 ≡ true
    → clocked c env listed held q ≡ reset_all c.pool.signals (put c.pool env q.body held) (driven c.pool q.body)
clocked_reset c env listed held q d e r s =
    let after : List ℤ = put c.pool env q.body held in
    let reset : List ℤ = reset_all c.pool.signals after (driven c.pool q.body) in
    ap (clocked_at c env listed q held) e
    ∙ ap (λ b. if b then (if is_reset c env d.0 then reset else after) else held) r
    ∙ ap (λ b. if b then reset else after) s
