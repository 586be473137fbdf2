use Rattle.std.proofs.Common.{◌≡◌, ◌∙◌, ◌<◌, ◌++◌, ℕ, List, Option, None, [], map, length, refl, sym, ap, subst, arith}
use Rattle.std.specs.List.{AllByRecursion, flat_map}
use Rattle.std.proofs.lemmas.Result.{err_from_is_err_and}
use Rattle.design_ir.specs.declared.ids.ExprId.{ExprId}
use Rattle.design_ir.specs.declared.domain.Domain.{Domain}
use Rattle.design_ir.specs.declared.domain.DomainDef.{DomainDef}
use Rattle.design_ir.specs.Forests.{Leaf}
use Rattle.design_ir.specs.Named.{AllBelow}
use Rattle.design_ir.specs.Pools.{Pooled}
use Rattle.design_ir.specs.PoolRules.{IsPool}
use Rattle.fragment_walks.specs.Held.{fragment_exprs, held_resets, leaf_exprs}
use Rattle.fragment_walks.specs.Holders.{AreHolders, all_roots}
use Rattle.fragment_walks.specs.Names.{all_leaves}
use Rattle.fragment_walks.specs.Walks.{all_definitions, all_paths, plain_names}
use Rattle.fragment_walks.proofs.Lists.{length_map}
use Rattle.clock_domains.specs.Resolvable.{IsDomainOf}
use Rattle.clock_domains.specs.Resolved.{clash_after, domain_names, each_once, is_past_limit, limit_where, made_pool, reset_refusal}
use Rattle.clock_domains.specs.Stops.{IsOwed}
use Rattle.clock_domains.proofs.NamesOnce.{all_roots_are}
use Rattle.clock_domains.proofs.PlacedDomains.{AreMadeOf, clash_first, holder_there, lacking_second, limit_of, limit_third, made_of, names_found, none_told, roots_there, whole_is}
use Rattle.clock_domains.proofs.ReadyLaws.{tree_sound}
use Rattle.clock_domains.proofs.resolving.placed_domains.Goals as goal

pub first_holders-requires : goal.first_holders-requires
first_holders-requires g c =
    subst (AllByRecursion (AllBelow (length c.args.pool.now.exprs))) (sym (c.as_slice.ensures ∙ c.in_ok-walk.ensures.roots)) (roots_there c.args.pool.now c.args.root.now c.requires.1)

pub add_resets-requires-clause-size : goal.add_resets-requires-clause-size
add_resets-requires-clause-size g c = ap length c.as_slice-2.ensures.value ∙ c.in_ok-holders.ensures.size

pub add_resets-requires-clause-there : goal.add_resets-requires-clause-there
add_resets-requires-clause-there g c k n e =
    let q = c.args.pool.now in
    let root = c.args.root.now in
    let leaves = all_leaves root in
    let walk = c.in_ok-walk.ensures in
    let held = subst (AreHolders q (map leaf_exprs leaves)) (sym c.as_slice-2.ensures.value) (subst (λ (rs : List (List ExprId)). AreHolders q rs c.in_ok-holders.holders.items) (c.as_slice.ensures ∙ walk.roots) c.in_ok-holders.ensures) in
    let low = holder_there q (map leaf_exprs leaves) c.as_slice-2.result.now k n held e in
    omega (arith, low, length_map leaf_exprs leaves, length_map plain_names leaves, ap length walk.names)

pub no_missing_reset-requires : goal.no_missing_reset-requires
no_missing_reset-requires g c =
    let q = c.args.pool.now in
    let held = subst (AreHolders q g.roots) (sym c.as_slice-3.ensures.value) (subst (λ (rs : List (List ExprId)). AreHolders q rs c.in_ok-holders.holders.items) (c.as_slice.ensures ∙ c.in_ok-walk.ensures.roots ∙ sym c.requires.0) c.in_ok-holders.ensures) in
    (held, c.in_ok-no_clash.ensures.accepted)

pub place_resets-requires-clause-size : goal.place_resets-requires-clause-size
place_resets-requires-clause-size g c =
    let q = c.args.pool.now in
    let root = c.args.root.now in
    let made = c.in_ok-domains.ensures.made in
    ap length c.as_slice-6.ensures.value ∙ c.in_ok-holders.ensures.size ∙ sym (ap (λ (p : Pooled). length p.exprs) made.pool)

pub place_resets-requires-clause-domains : goal.place_resets-requires-clause-domains
place_resets-requires-clause-domains g c =
    let q = c.args.pool.now in
    let root = c.args.root.now in
    let walk = c.in_ok-walk.ensures in
    let held = subst (λ (rs : List (List ExprId)). AreHolders q rs c.in_ok-holders.holders.items) (c.as_slice.ensures ∙ walk.roots) c.in_ok-holders.ensures in
    let held' = subst (AreHolders q (map leaf_exprs (all_leaves root))) (sym c.as_slice-2.ensures.value) held in
    let said = names_found q root c.as_slice-2.result.now c.in_ok-walk.walk.names.items c.add_resets.new.names.items c.as_slice-5.result.now held' walk.names c.in_ok-add_resets.ensures (c.as_slice-5.ensures ∙ c.in_ok-names.ensures ∙ ap (flat_map (λ (own : List (List ℕ)). own)) c.as_slice-4.ensures.value) in
    let made = made_of q root c.as_slice-definitions.result.now c.as_slice-5.result.now c.domains_made.new.pool c.in_ok-domains.domains (c.as_slice-definitions.ensures ∙ walk.definitions) said c.in_ok-domains.ensures.made in
    subst (λ (p : Pooled). AllByRecursion (IsDomainOf p) c.as_slice-7.result.now) (sym made.pool)
    (subst (AllByRecursion (IsDomainOf (made_pool q root))) (sym (c.as_slice-7.ensures ∙ made.domains)) (tree_sound q root c.requires.1))

pub returns-in_err-no_clash-clause-refused : goal.returns-in_err-no_clash-clause-refused
returns-in_err-no_clash-clause-refused g c =
    let owed = subst (λ (ds : List DomainDef). IsOwed (clash_after [] ds) c.in_err-no_clash.field-0.0) (c.as_slice-definitions.ensures ∙ c.in_ok-walk.ensures.definitions) c.in_err-no_clash.ensures.refused in
    let p = err_from_is_err_and c.from_residual-in_err-no_clash.result c.from_residual-in_err-no_clash.ensures.1 in
    rw (p.1, p.2) (clash_first c.args.pool.now c.args.root.now _ owed)

pub returns-in_err-no_missing_reset-clause-refused : goal.returns-in_err-no_missing_reset-clause-refused
returns-in_err-no_missing_reset-clause-refused g c =
    let q = c.args.pool.now in
    let root = c.args.root.now in
    let walk = c.in_ok-walk.ensures in
    let found = c.as_slice-definitions.ensures ∙ walk.definitions in
    let free : clash_after [] (all_definitions root) ≡ None = sym (ap (clash_after []) found) ∙ c.in_ok-no_clash.ensures.accepted in
    let roots : all_roots g.roots ≡ fragment_exprs root = ap all_roots c.requires.0 ∙ all_roots_are root in
    let owed =
    subst (λ (es : List ExprId). IsOwed (reset_refusal (all_definitions root) (held_resets q es)) c.in_err-no_missing_reset.field-0.0) roots
    (subst (λ (ds : List DomainDef). IsOwed (reset_refusal ds (held_resets q (all_roots g.roots))) c.in_err-no_missing_reset.field-0.0) found c.in_err-no_missing_reset.ensures.refused) in
    let p = err_from_is_err_and c.from_residual-in_err-no_missing_reset.result c.from_residual-in_err-no_missing_reset.ensures.1 in
    rw (p.1, p.2) (lacking_second q root _ free owed)

pub returns-in_err-domains-clause-refused : goal.returns-in_err-domains-clause-refused
returns-in_err-domains-clause-refused g c =
    let q = c.args.pool.now in
    let root = c.args.root.now in
    let walk = c.in_ok-walk.ensures in
    let held = subst (λ (rs : List (List ExprId)). AreHolders q rs c.in_ok-holders.holders.items) (c.as_slice.ensures ∙ walk.roots) c.in_ok-holders.ensures in
    let held' = subst (AreHolders q (map leaf_exprs (all_leaves root))) (sym c.as_slice-2.ensures.value) held in
    let said = names_found q root c.as_slice-2.result.now c.in_ok-walk.walk.names.items c.add_resets.new.names.items c.as_slice-5.result.now held' walk.names c.in_ok-add_resets.ensures (c.as_slice-5.ensures ∙ c.in_ok-names.ensures ∙ ap (flat_map (λ (own : List (List ℕ)). own)) c.as_slice-4.ensures.value) in
    let found = c.as_slice-definitions.ensures ∙ walk.definitions in
    let free : clash_after [] (all_definitions root) ≡ None = sym (ap (clash_after []) found) ∙ c.in_ok-no_clash.ensures.accepted in
    let roots : all_roots g.roots ≡ fragment_exprs root = ap all_roots c.requires.0 ∙ all_roots_are root in
    let none : reset_refusal (all_definitions root) (held_resets q (fragment_exprs root)) ≡ None =
    sym (ap (λ (ds : List DomainDef). reset_refusal ds (held_resets q (all_roots g.roots))) found ∙ ap (λ (es : List ExprId). reset_refusal (all_definitions root) (held_resets q es)) roots) ∙ c.in_ok-no_missing_reset.ensures.accepted in
    let owed = limit_of q root c.as_slice-definitions.result.now c.as_slice-5.result.now c.in_err-domains.field-0.0 found said c.in_err-domains.ensures.refused in
    let p = err_from_is_err_and c.from_residual-in_err-domains.result c.from_residual-in_err-domains.ensures.1 in
    rw (p.1, p.2) (limit_third q root _ free none owed)

pub returns-clause-processes : goal.returns-clause-processes
returns-clause-processes g c = c.in_ok-held_of.ensures.processes ∙ c.in_ok-walk.ensures.processes

pub returns-clause-few : goal.returns-clause-few
returns-clause-few g c = omega (arith, c.in_ok-walk.ensures.few, ap length c.in_ok-held_of.ensures.processes)

pub returns-clause-memories : goal.returns-clause-memories
returns-clause-memories g c = c.in_ok-held_of.ensures.memories ∙ c.in_ok-walk.ensures.memories

pub returns-clause-paths : goal.returns-clause-paths
returns-clause-paths g c =
    let walk = c.in_ok-walk.ensures in
    c.in_ok-held_of.ensures.paths ∙ ap (λ (xs : List (Option (List ℕ))). xs ++ c.in_ok-walk.walk.memory_paths) walk.paths ∙ ap (λ (xs : List (Option (List ℕ))). all_paths c.args.root.now ++ xs) walk.memory_paths

pub returns-clause-domains : goal.returns-clause-domains
returns-clause-domains g c =
    let q = c.args.pool.now in
    let root = c.args.root.now in
    let walk = c.in_ok-walk.ensures in
    let held = subst (λ (rs : List (List ExprId)). AreHolders q rs c.in_ok-holders.holders.items) (c.as_slice.ensures ∙ walk.roots) c.in_ok-holders.ensures in
    let held' = subst (AreHolders q (map leaf_exprs (all_leaves root))) (sym c.as_slice-2.ensures.value) held in
    let said = names_found q root c.as_slice-2.result.now c.in_ok-walk.walk.names.items c.add_resets.new.names.items c.as_slice-5.result.now held' walk.names c.in_ok-add_resets.ensures (c.as_slice-5.ensures ∙ c.in_ok-names.ensures ∙ ap (flat_map (λ (own : List (List ℕ)). own)) c.as_slice-4.ensures.value) in
    let made = made_of q root c.as_slice-definitions.result.now c.as_slice-5.result.now c.domains_made.new.pool c.in_ok-domains.domains (c.as_slice-definitions.ensures ∙ walk.definitions) said c.in_ok-domains.ensures.made in
    made.domains

pub returns-clause-accepted : goal.returns-clause-accepted
returns-clause-accepted g c =
    let q = c.args.pool.now in
    let root = c.args.root.now in
    let walk = c.in_ok-walk.ensures in
    let held = subst (λ (rs : List (List ExprId)). AreHolders q rs c.in_ok-holders.holders.items) (c.as_slice.ensures ∙ walk.roots) c.in_ok-holders.ensures in
    let held' = subst (AreHolders q (map leaf_exprs (all_leaves root))) (sym c.as_slice-2.ensures.value) held in
    let said = names_found q root c.as_slice-2.result.now c.in_ok-walk.walk.names.items c.add_resets.new.names.items c.as_slice-5.result.now held' walk.names c.in_ok-add_resets.ensures (c.as_slice-5.ensures ∙ c.in_ok-names.ensures ∙ ap (flat_map (λ (own : List (List ℕ)). own)) c.as_slice-4.ensures.value) in
    let made = made_of q root c.as_slice-definitions.result.now c.as_slice-5.result.now c.domains_made.new.pool c.in_ok-domains.domains (c.as_slice-definitions.ensures ∙ walk.definitions) said c.in_ok-domains.ensures.made in
    let found = c.as_slice-definitions.ensures ∙ walk.definitions in
    let free : clash_after [] (all_definitions root) ≡ None = sym (ap (clash_after []) found) ∙ c.in_ok-no_clash.ensures.accepted in
    let roots : all_roots g.roots ≡ fragment_exprs root = ap all_roots c.requires.0 ∙ all_roots_are root in
    let none : reset_refusal (all_definitions root) (held_resets q (fragment_exprs root)) ≡ None =
    sym (ap (λ (ds : List DomainDef). reset_refusal ds (held_resets q (all_roots g.roots))) found ∙ ap (λ (es : List ExprId). reset_refusal (all_definitions root) (held_resets q es)) roots) ∙ c.in_ok-no_missing_reset.ensures.accepted in
    none_told q root free none made.room

pub returns-clause-pool : goal.returns-clause-pool
returns-clause-pool g c =
    let q = c.args.pool.now in
    let root = c.args.root.now in
    let walk = c.in_ok-walk.ensures in
    let held = subst (λ (rs : List (List ExprId)). AreHolders q rs c.in_ok-holders.holders.items) (c.as_slice.ensures ∙ walk.roots) c.in_ok-holders.ensures in
    let held' = subst (AreHolders q (map leaf_exprs (all_leaves root))) (sym c.as_slice-2.ensures.value) held in
    let said = names_found q root c.as_slice-2.result.now c.in_ok-walk.walk.names.items c.add_resets.new.names.items c.as_slice-5.result.now held' walk.names c.in_ok-add_resets.ensures (c.as_slice-5.ensures ∙ c.in_ok-names.ensures ∙ ap (flat_map (λ (own : List (List ℕ)). own)) c.as_slice-4.ensures.value) in
    let made = made_of q root c.as_slice-definitions.result.now c.as_slice-5.result.now c.domains_made.new.pool c.in_ok-domains.domains (c.as_slice-definitions.ensures ∙ walk.definitions) said c.in_ok-domains.ensures.made in
    let held'' = subst (AreHolders q (map leaf_exprs (all_leaves root))) (sym c.as_slice-6.ensures.value) held in
    whole_is q root c.domains_made.new.pool c.place_resets.new.pool c.as_slice-7.result.now c.as_slice-6.result.now made.pool (c.as_slice-7.ensures ∙ made.domains) held'' c.place_resets.ensures

pub returns-clause-made : goal.returns-clause-made
returns-clause-made g c =
    let q = c.args.pool.now in
    let root = c.args.root.now in
    let walk = c.in_ok-walk.ensures in
    let held = subst (λ (rs : List (List ExprId)). AreHolders q rs c.in_ok-holders.holders.items) (c.as_slice.ensures ∙ walk.roots) c.in_ok-holders.ensures in
    let held' = subst (AreHolders q (map leaf_exprs (all_leaves root))) (sym c.as_slice-2.ensures.value) held in
    let said = names_found q root c.as_slice-2.result.now c.in_ok-walk.walk.names.items c.add_resets.new.names.items c.as_slice-5.result.now held' walk.names c.in_ok-add_resets.ensures (c.as_slice-5.ensures ∙ c.in_ok-names.ensures ∙ ap (flat_map (λ (own : List (List ℕ)). own)) c.as_slice-4.ensures.value) in
    let made = made_of q root c.as_slice-definitions.result.now c.as_slice-5.result.now c.domains_made.new.pool c.in_ok-domains.domains (c.as_slice-definitions.ensures ∙ walk.definitions) said c.in_ok-domains.ensures.made in
    subst IsPool made.pool c.known-2.ensures
