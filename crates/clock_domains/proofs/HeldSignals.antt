-- Where no reset is refused, each one that is held has a signal among the domains of a module.
use Rattle.std.proofs.Common.{◌≡◌, ℕ, ◌<◌, Bool, true, false, ◌||◌, not, cond, List, [], ◌∷◌, map, length, Option, Some, None, is_some, slice_get, refl, sym, ap, ◌∙◌, subst, arith}
use Rattle.std.specs.Prelude.{option_and_then, option_map}
use Rattle.std.specs.Option.{option_map_or}
use Rattle.std.specs.List.{find, list_any, range_with_len}
use Rattle.std.proofs.lemmas.Bool.{false≢true}
use Rattle.lists.specs.Texts.{text_eq}
use Rattle.lists.proofs.TextLaws.{text_eq_true}
use Rattle.amh_host.specs.declared.place.Place.{Place}
use Rattle.design_ir.specs.declared.ids.ExprId.{ExprId}
use Rattle.design_ir.specs.declared.domain.Domain.{Domain}
use Rattle.design_ir.specs.declared.domain.DomainDef.{DomainDef}
use Rattle.design_ir.specs.declared.expr.Expr as expr
use Rattle.design_ir.specs.declared.expr.Expr.{Expr}
use Rattle.design_ir.specs.declared.expr.Expr.TheVariants.{Const, Unary, Binary, Mux, Slice, Cat, Part, Pick, Cast, Matches, Reset}
use Rattle.design_ir.specs.declared.fragment.Fragment.{Fragment}
use Rattle.design_ir.specs.Pools.{Pooled}
use Rattle.design_ir.proofs.Equations.{place_below}
use Rattle.fragment_walks.specs.Numbers.{first_at}
use Rattle.fragment_walks.specs.Held.{ResetCall, fragment_exprs, held_resets, inside, is_within, leaf_exprs, reset_call}
use Rattle.fragment_walks.specs.Holders.{AreHolders, first_roots}
use Rattle.fragment_walks.specs.Names.{all_leaves}
use Rattle.fragment_walks.specs.Walks.{all_definitions, all_names}
use Rattle.clock_domains.specs.declared.stop.ResolveStop.TheVariants.{NoReset}
use Rattle.clock_domains.specs.Placed.{placed_from, placed_pool, reset_of}
use Rattle.clock_domains.specs.Resolved.{defined_domain, domain_for, domain_names, domains_from, lacks_reset, made_domains, made_pool, number_after, reset_refusal}
use Rattle.clock_domains.proofs.EachOnce.{once_any}
use Rattle.clock_domains.proofs.MadeDomains.{defined_name}
use Rattle.clock_domains.proofs.NamesOnce.{all_exprs_are, all_roots_are, found_any, held_there, is_there, names_flat, range_among}
use Rattle.clock_domains.proofs.PlacedLaws.{AreSignals, HasSignal}
use Rattle.clock_domains.proofs.PlacingLaws.{placed_held}

-- ---- a reset that is not refused

find_none : {A : Type 0} (p : A → Bool) (xs : List A) → find p xs ≡ None → list_any p xs ≡ false
find_none p [] h = refl
find_none {A} p (x ∷ xs) h = split (find_none p xs) (p x) h
  where
    split : (find p xs ≡ None → list_any p xs ≡ false) → (b : Bool) → cond b (Some x) (find p xs) ≡ None → (b || list_any p xs) ≡ false
    split rest true e = absurd cc
    split rest false e = rest e

none_refused : (ds : List DomainDef) (calls : List ResetCall) → reset_refusal ds calls ≡ None → list_any (λ (r : ResetCall). lacks_reset ds r.domain) calls ≡ false
none_refused ds calls h = find_none (λ (r : ResetCall). lacks_reset ds r.domain) calls (mapped (find (λ (r : ResetCall). lacks_reset ds r.domain) calls) h)
  where
    mapped : (o : Option ResetCall) → option_map (λ (r : ResetCall). NoReset r.place) o ≡ None → o ≡ None
    mapped None e = refl
    mapped (Some r) e = absurd cc

pub not_lacking : (ds : List DomainDef) (q : Pooled) (roots : List ExprId) (k : ℕ) (name : List ℕ) (place : Place) → reset_refusal ds (held_resets q roots) ≡ None → slice_get q.exprs k ≡ Some (Reset name place) → is_within q roots k ≡ true → lacks_reset ds name ≡ false
unfolding held_resets
not_lacking ds q roots k name place free at h = split (lacks_reset ds name) refl
  where
    calls_k : option_and_then reset_call (slice_get q.exprs k) ≡ Some (record { domain = name; place = place })
    calls_k = ap (option_and_then reset_call) at

    split : (b : Bool) → lacks_reset ds name ≡ b → lacks_reset ds name ≡ false
    split true e = absurd (false≢true (sym (none_refused ds (held_resets q roots) free) ∙ found_any (λ (r : ResetCall). lacks_reset ds r.domain) (λ j. option_and_then reset_call (slice_get q.exprs j)) (is_within q roots) (range_with_len 0 (length q.exprs)) k (record { domain = name; place = place }) (range_among 0 (length q.exprs) k (omega arith) (omega (arith, place_below q.exprs k (Reset name place) at))) h calls_k e))
    split false e = e

-- ---- its domain

name_kept : (ds : List DomainDef) (m : ℕ) (n : List ℕ) → (domain_for (defined_domain ds n) m n).name ≡ n
name_kept ds m n = by (defined_domain ds n) refl
  where
    by : (o : Option Domain) → defined_domain ds n ≡ o → (domain_for o m n).name ≡ n
    by None e = refl
    by (Some d) e = defined_name ds n d e

-- one that is made has a reset
has_reset : (o : Option Domain) (m : ℕ) (n : List ℕ) → option_map_or (λ (d : Domain). not (is_some d.rst)) o false ≡ false → is_some (domain_for o m n).rst ≡ true
has_reset None m n h = refl
has_reset (Some d) m n h = by d.rst h
  where
    by : {A : Type 0} (o : Option A) → not (is_some o) ≡ false → is_some o ≡ true
    by None e = sym e
    by (Some s) e = refl

pub reset_there : (ds : List DomainDef) (m : ℕ) (names : List (List ℕ)) (name : List ℕ) → is_there names name ≡ true → lacks_reset ds name ≡ false → is_some (reset_of (domains_from ds m names) name) ≡ true
reset_there ds m [] name there h = absurd (false≢true there)
reset_there ds m (n ∷ names) name there h =
    let d = domain_for (defined_domain ds n) m n in
    let more = domains_from ds (number_after (defined_domain ds n) m) names in
    ap (λ (x : List ℕ). is_some (option_and_then (λ (y : Domain). y.rst) (cond (text_eq x name) (Some d) (find (λ (y : Domain). text_eq y.name name) more)))) (name_kept ds m n)
    ∙ split (λ later. reset_there ds (number_after (defined_domain ds n) m) names name later h) (text_eq n name) refl
  where
    split : (is_there names name ≡ true → is_some (reset_of (domains_from ds (number_after (defined_domain ds n) m) names) name) ≡ true) → (b : Bool) → text_eq n name ≡ b
        → is_some (option_and_then (λ (y : Domain). y.rst) (cond b (Some (domain_for (defined_domain ds n) m n)) (find (λ (y : Domain). text_eq y.name name) (domains_from ds (number_after (defined_domain ds n) m) names)))) ≡ true
    split rest true e = has_reset (defined_domain ds n) m n (ap (lacks_reset ds) (text_eq_true n name e) ∙ h)
    split rest false e = rest (sym (ap (λ b. b || is_there names name) e) ∙ there)

-- ---- a module with those below it

-- the name of a reset that is held is one of theirs
name_there : (q : Pooled) (root : Fragment) (k : ℕ) (name : List ℕ) (place : Place) → slice_get q.exprs k ≡ Some (Reset name place) → is_within q (fragment_exprs root) k ≡ true → is_there (domain_names q root) name ≡ true
name_there q root k name place at h =
    once_any (all_names q root) name
    ∙ ap (λ ns. is_there ns name) (sym (names_flat q root))
    ∙ held_there q [] (all_leaves root) k name (place_below q.exprs k (Reset name place) at) (ap (λ es. is_within q es k) (all_exprs_are root) ∙ h) (ap (λ o. option_map (λ (r : ResetCall). r.domain) (option_and_then reset_call o)) at)

pub within_same : (p q : Pooled) (roots : List ExprId) (k : ℕ) → p.exprs ≡ q.exprs → is_within p roots k ≡ is_within q roots k
unfolding inside
within_same p q roots k same = ap (λ (es : List Expr). is_within (record p { exprs = es }) roots k) same

pub held_signals : (q : Pooled) (root : Fragment) → reset_refusal (all_definitions root) (held_resets q (fragment_exprs root)) ≡ None → AreSignals (made_domains q root) (made_pool q root) (fragment_exprs root)
held_signals q root free k e at h = by e at (sym (within_same (made_pool q root) q (fragment_exprs root) k refl) ∙ h)
  where
    by : (e : Expr) → slice_get q.exprs k ≡ Some e → is_within q (fragment_exprs root) k ≡ true → HasSignal (made_domains q root) e
    by (Reset name place) at' h' = reset_there (all_definitions root) (length q.signals) (domain_names q root) name (name_there q root k name place at' h') (not_lacking (all_definitions root) q (fragment_exprs root) k name place free at' h')
    by (expr.TheVariants.Sig s) at' h' = tt
    by (Slice a low width) at' h' = tt
    by (Cat es) at' h' = tt
    by (Part a offset width stride) at' h' = tt
    by (Pick index es) at' h' = tt
    by (Cast a signed) at' h' = tt
    by (Const n s) at' h' = tt
    by (Unary op a) at' h' = tt
    by (Binary op a b) at' h' = tt
    by (Mux s a b) at' h' = tt
    by (Matches a patterns) at' h' = tt

-- ---- the pool in which they are placed, which has the same expressions

holders_same : (p q : Pooled) (roots : List (List ExprId)) (firsts : List (Option ℕ)) → p.exprs ≡ q.exprs → AreHolders q roots firsts → AreHolders p roots firsts
holders_same p q roots firsts same h = record {
  size = h.size ∙ sym (ap length same);
  each = λ i k low. h.each i k (subst (λ (es : List Expr). k < length es) same low) ∙ sym (within_same p q (first_roots i roots) k same);
}

pub placed_root : (ds : List Domain) (p q : Pooled) (root : Fragment) (firsts : List (Option ℕ)) → p.exprs ≡ q.exprs → AreHolders q (map leaf_exprs (all_leaves root)) firsts → record p { exprs = placed_from ds (λ k. is_some (first_at firsts k)) 0 p.exprs } ≡ placed_pool ds p (fragment_exprs root)
placed_root ds p q root firsts same h = placed_held ds p (map leaf_exprs (all_leaves root)) firsts (holders_same p q (map leaf_exprs (all_leaves root)) firsts same h) ∙ ap (placed_pool ds p) (all_roots_are root)
