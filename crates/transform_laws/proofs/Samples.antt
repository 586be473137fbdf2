-- Small pools and definitions, by computation.
use Rattle.std.specs.Prelude.{◌≡◌, refl, ℕ, false, IsTrue, List, [], ◌∷◌, pos, is_some, Option, Some, None, codes}
use Rattle.std.proofs.Common.{sym, ap, ◌∙◌, inl, inr}
use Rattle.std.proofs.lemmas.Bool.{false≢true}
use Rattle.std.proofs.lemmas.List.Elements.{All-nil}
use Rattle.lists.specs.Names.{IsName, continues_name, starts_name}
use Rattle.shape_rules.specs.Forms.{unsigned}
use Rattle.design_ir.specs.declared.ids.SigId.{SigId}
use Rattle.design_ir.specs.declared.expr.Expr.TheVariants.{Const, Reset}
use Rattle.design_ir.specs.declared.domain.Domain.{Domain}
use Rattle.design_ir.specs.declared.domain.DomainDef.{DomainDef}
use Rattle.design_ir.proofs.SanityParts.{here}
use Rattle.clock_domains.specs.Resolvable.{AreApart}
use Rattle.domain_transforms.specs.Renamed.{renamed_definition}
use Rattle.transform_laws.specs.Laws.{AreNamedResets, AreNewNames, IsNamedExpr}

-- ---- names: the reset of `s` has one, and so has the domain that becomes `s`; `1` is none

name_s : IsName (codes "s")
name_s = record { first = 115; rest = []; whole = refl; starts = refl; continues = All-nil (λ b. IsTrue (continues_name b)) }

named : AreNamedResets (record { signals = []; exprs = Reset (codes "s") here ∷ Const (pos 0) (unsigned 1) ∷ [] })
named = (name_s, (tt, tt))

unnamed : IsNamedExpr (Reset (codes "1") here) → ⊥
unnamed h =
    let whole : 49 ∷ [] ≡ h.first ∷ h.rest = h.whole in
    let first : 49 ≡ h.first = cc in
    false≢true (ap starts_name first ∙ h.starts)

new_name : AreNewNames (record { before = codes "sync"; after = codes "s" } ∷ [])
new_name = (name_s, tt)

-- ---- definitions: one clock under two names, also where one of them is new; but not with a reset in one of them

define : List ℕ → Option SigId → DomainDef
define name reset = record { domain = record { name = name; clk = record { 0 = 2 }; rst = reset; falling = false; async_reset = false }; place = here }

two_names : AreApart (define (codes "a") None) (define (codes "b") None)
unfolding define
two_names = inl refl

new_names : AreApart (renamed_definition (record { before = codes "a"; after = codes "c" } ∷ []) (define (codes "a") None)) (define (codes "a") None)
unfolding define
new_names = inl refl

two_resets : AreApart (define (codes "a") None) (define (codes "a") (Some (record { 0 = 3 }))) → ⊥
unfolding define
two_resets (inl same) = false≢true (ap (λ (x : Domain). is_some x.rst) same)
two_resets (inr apart) = false≢true (sym apart)
