-- Where no reset of a pool is of a domain without a name, each is of one with a name.
use Rattle.std.proofs.Common.{◌≡◌, refl, sym, ap, ◌∙◌, ◌+◌, ℕ, Bool, true, false, List, [], ◌∷◌, drop, Some}
use Rattle.std.specs.Prelude.{slice_get, not, ◌||◌}
use Rattle.std.specs.List.{AllByRecursion, list_any}
use Rattle.identifiers.specs.Identifiers.{is_identifier}
use Rattle.identifiers.proofs.NameLaws.{identifier_is_name}
use Rattle.py_heap.proofs.ObjectLaws.{drop_at}
use Rattle.design_ir.specs.declared.expr.Expr.{Expr}
use Rattle.design_ir.specs.declared.expr.Expr.TheVariants as expr
use Rattle.design_ir.specs.Pools.{Pooled}
use Rattle.transform_laws.specs.Laws.{IsNamedExpr, AreNamedResets}
use Rattle.elab_acts.proofs.EachLaws.{all_each}
use Rattle.elab_eval.specs.Elaborates.{is_nameless}

abbrev pub IsNamed : Expr → Type 0
IsNamed e = is_nameless e ≡ false

-- ---- where the test finds none

pub none_nameless : (es : List Expr) → list_any is_nameless es ≡ false → AllByRecursion IsNamed es
none_nameless [] h = tt
none_nameless (e ∷ es) h = let parts = or_none (is_nameless e) (list_any is_nameless es) h in (parts.0, none_nameless es parts.1)
  where
    or_none : (a b : Bool) → (a || b) ≡ false → (a ≡ false) × (b ≡ false)
    or_none false b h = (refl, h)
    or_none true b h = cc

pub nameless_next : (es : List Expr) (i : ℕ) (e : Expr) (whole : Bool) → slice_get es i ≡ Some e → is_nameless e ≡ false → list_any is_nameless (drop i es) ≡ whole → list_any is_nameless (drop (i + 1) es) ≡ whole
nameless_next es i e whole at_i none h = sym (ap (λ xs. list_any is_nameless xs) (drop_at es i e at_i) ∙ ap (λ b. b || list_any is_nameless (drop (i + 1) es)) none) ∙ h

pub nameless_here : (es : List Expr) (i : ℕ) (e : Expr) (whole : Bool) → slice_get es i ≡ Some e → is_nameless e ≡ true → list_any is_nameless (drop i es) ≡ whole → true ≡ whole
nameless_here es i e whole at_i some h = sym (ap (λ xs. list_any is_nameless xs) (drop_at es i e at_i) ∙ ap (λ b. b || list_any is_nameless (drop (i + 1) es)) some) ∙ h

-- ---- so each reset has the name of a domain

named_domain : (domain : List ℕ) (b : Bool) → is_identifier domain ≡ b → not b ≡ false → is_identifier domain ≡ true
named_domain domain true is h = is
named_domain domain false is h = cc

named_expr : (e : Expr) → IsNamed e → IsNamedExpr e
named_expr (expr.Reset domain place) h = identifier_is_name domain (named_domain domain (is_identifier domain) refl h)
named_expr (expr.Const n s) h = tt
named_expr (expr.Sig s) h = tt
named_expr (expr.Unary o a) h = tt
named_expr (expr.Binary o a b) h = tt
named_expr (expr.Mux s a b) h = tt
named_expr (expr.Slice a low width) h = tt
named_expr (expr.Cat es) h = tt
named_expr (expr.Part a offset width stride) h = tt
named_expr (expr.Pick index es) h = tt
named_expr (expr.Cast a signed) h = tt
named_expr (expr.Matches a patterns) h = tt

pub resets_named : (q : Pooled) → list_any is_nameless q.exprs ≡ false → AreNamedResets q
resets_named q h = all_each IsNamed IsNamedExpr q.exprs named_expr (none_nameless q.exprs h)
