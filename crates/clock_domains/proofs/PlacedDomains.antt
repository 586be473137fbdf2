-- The domains of a module with those below it, from what its walk has found, and the pool in which their signals stand for resets.
use Rattle.std.proofs.Common.{◌≡◌, inl, inr, ◌<◌, ◌≤◌, ◌+◌, ℕ, zero, suc, Bool, true, false, nat_lt, List, [], ◌∷◌, ◌++◌, map, length, take, Option, Some, None, is_some, refl, sym, ap, ◌∙◌, subst, arith}
use Rattle.std.specs.List.{AllByRecursion, flat_map}
use Rattle.std.proofs.lemmas.Bool.{false≢true, cases_lt}
use Rattle.std.proofs.lemmas.Bool.Decides.{nat_tests}
use Rattle.std.proofs.lemmas.List.{get_or_past}
use Rattle.design_ir.specs.declared.ids.ExprId.{ExprId}
use Rattle.design_ir.specs.declared.domain.Domain.{Domain}
use Rattle.design_ir.specs.declared.domain.DomainDef.{DomainDef}
use Rattle.design_ir.specs.declared.fragment.Fragment.{Fragment}
use Rattle.design_ir.specs.declared.memory.Memory.{Memory}
use Rattle.design_ir.specs.declared.process.Process.{Process}
use Rattle.design_ir.specs.Forests.{Leaf, Forest, bare, grown}
use Rattle.design_ir.specs.Fragments.{leaf_of}
use Rattle.design_ir.specs.Guards.{block_exprs}
use Rattle.design_ir.specs.Named.{AllBelow}
use Rattle.design_ir.specs.Pools.{Pooled}
use Rattle.fragment_walks.specs.Held.{fragment_exprs, held_resets, is_within, leaf_exprs, memory_exprs}
use Rattle.fragment_walks.specs.Holders.{AreHolders, first_roots}
use Rattle.fragment_walks.specs.Marks.{is_marked}
use Rattle.fragment_walks.specs.Names.{all_leaves, leaves_of, with_resets}
use Rattle.fragment_walks.specs.Numbers.{bounded, is_below, first_at}
use Rattle.fragment_walks.specs.Walks.{all_definitions, all_names, plain_names}
use Rattle.fragment_walks.proofs.Lists.{all_imp, all_joined, all_mapped, take_end}
use Rattle.fragment_walks.proofs.NumberLaws.{bounded_at}
use Rattle.clock_domains.specs.declared.stop.ResolveStop.{ResolveStop}
use Rattle.clock_domains.specs.declared.stop.ResolveStop.TheVariants as stop
use Rattle.clock_domains.specs.Made.{AreMade}
use Rattle.clock_domains.specs.Placed.{placed_from}
use Rattle.clock_domains.specs.Resolvable.{AreModules, IsModule, IsOpenSide, IsThere, IsTree}
use Rattle.clock_domains.specs.Resolved.{clash_after, domain_names, domain_stop, domains_from, each_once, first_of, is_past_limit, limit_where, made_domains, made_pool, reset_refusal, undefined_names, whole_pool, with_domains}
use Rattle.clock_domains.specs.Stops.{IsOwed}
use Rattle.clock_domains.proofs.HeldSignals.{placed_root}
use Rattle.clock_domains.proofs.NamesOnce.{once_resets}
use Rattle.clock_domains.proofs.PlacedParts.{all_together, memory_there}

-- ---- what stands in fragments is there

there_below : (n : ℕ) (es : List ExprId) → AllByRecursion (λ (e : ExprId). e.0 < n) es → AllBelow n es
there_below n [] h = tt
there_below n (e ∷ es) h = (h.0, there_below n es h.1)

module _ (q : Pooled) where
  leaf_there : (l : Leaf) → IsModule q l → AllBelow (length q.exprs) (leaf_exprs l)
  leaf_there l h =
      there_below (length q.exprs) (leaf_exprs l)
      (all_joined (IsThere q) (flat_map (λ (p : Process). block_exprs p.body) l.processes) (flat_map memory_exprs l.memories)
      (all_together (IsThere q) (λ (p : Process). block_exprs p.body) l.processes (all_imp (λ (p : Process) k. k.expressions) l.processes h.processes))
      (all_together (IsThere q) memory_exprs l.memories (all_imp (λ (m : Memory) k. memory_there q m k) l.memories h.memories)))

  leaves_there : (f : Forest) → AreModules q f → AllByRecursion (λ (l : Leaf). AllBelow (length q.exprs) (leaf_exprs l)) (leaves_of f)
  leaves_there bare h = tt
  leaves_there (grown l below rest) h = (
    leaf_there l h.1.0,
    all_joined (λ (l : Leaf). AllBelow (length q.exprs) (leaf_exprs l)) (leaves_of below) (leaves_of rest) (leaves_there below h.1.1.0) (leaves_there rest h.1.1.1),
  )

  pub roots_there : (f : Fragment) → IsTree q f → AllByRecursion (AllBelow (length q.exprs)) (map leaf_exprs (all_leaves f))
  roots_there f h = all_mapped (AllBelow (length q.exprs)) leaf_exprs (all_leaves f) (leaf_there (leaf_of f) h.own, leaves_there f.submodules h.below)

-- ---- the number of each is that of a fragment

pub holder_there : (q : Pooled) (roots : List (List ExprId)) (firsts : List (Option ℕ)) (k n : ℕ) → AreHolders q roots firsts → first_at firsts k ≡ Some n → n < length roots
holder_there q roots firsts k n h e = elim (cases_lt n (length roots)) [ inl below ↦ below | inr past ↦ absurd (by (let le : length roots ≤ n = omega (arith, past) in le)) ]
  where
    low : k < length q.exprs
    low = elim (cases_lt k (length firsts)) [ inl below ↦ omega (arith, below, h.size) | inr past ↦ absurd (nothing (sym (get_or_past firsts k None (omega (arith, past))) ∙ e)) ]
      where
        nothing : ◌≡◌ {A = Option ℕ} None (Some n) → ⊥
        nothing f = cc

    told : (i : ℕ) → length roots ≤ i → is_below i (first_at firsts k) ≡ is_within q (first_roots (length roots) roots) k
    told i le = sym (bounded_at i firsts k) ∙ h.each i k low ∙ ap (λ rs. is_within q (flat_map (λ (es : List ExprId). es) rs) k) (take_end roots i le ∙ sym (take_end roots (length roots) (omega arith)))

    not_less : nat_lt n n ≡ false
    not_less = grind (arith, nat_tests)

    less : nat_lt n (suc n) ≡ true
    less = grind (arith, nat_tests)

    by : length roots ≤ n → ⊥
    by le = false≢true (sym not_less ∙ ap (is_below n) (sym e) ∙ told n le ∙ sym (told (suc n) (omega (arith, le))) ∙ ap (is_below (suc n)) e ∙ less)

-- ---- what is refused first

pub owed_first : (a b : Option ResolveStop) (s : ResolveStop) → IsOwed a s → IsOwed (first_of a b) s
owed_first a b (stop.DomainClash p) h = ap (λ o. first_of o b) h
owed_first a b (stop.NoReset p) h = ap (λ o. first_of o b) h
owed_first a b (stop.TwoDrivers p) h = ap (λ o. first_of o b) h
owed_first a b (stop.DrivenInput p) h = ap (λ o. first_of o b) h
owed_first a b (stop.Limit p) h = ap (λ o. first_of o b) h
owed_first a b stop.NoMemory h = tt

pub owed_second : (a b : Option ResolveStop) (s : ResolveStop) → a ≡ None → IsOwed b s → IsOwed (first_of a b) s
owed_second a b s e h = subst (λ o. IsOwed (first_of o b) s) (sym e) h

module _ (q : Pooled) (root : Fragment) where
  abbrev definitions : List DomainDef
  definitions = all_definitions root

  abbrev lacking : Option ResolveStop
  lacking = reset_refusal definitions (held_resets q (fragment_exprs root))

  abbrev passed : Option ResolveStop
  passed = limit_where (is_past_limit q definitions (domain_names q root))

  pub clash_first : (s : ResolveStop) → IsOwed (clash_after [] definitions) s → IsOwed (domain_stop q root) s
  clash_first s h = owed_first (clash_after [] definitions) (first_of lacking passed) s h

  pub lacking_second : (s : ResolveStop) → clash_after [] definitions ≡ None → IsOwed lacking s → IsOwed (domain_stop q root) s
  lacking_second s e h = owed_second (clash_after [] definitions) (first_of lacking passed) s e (owed_first lacking passed s h)

  pub limit_third : (s : ResolveStop) → clash_after [] definitions ≡ None → lacking ≡ None → IsOwed passed s → IsOwed (domain_stop q root) s
  limit_third s e f h = owed_second (clash_after [] definitions) (first_of lacking passed) s e (owed_second lacking passed s f h)

  pub none_told : clash_after [] definitions ≡ None → lacking ≡ None → is_past_limit q definitions (domain_names q root) ≡ false → domain_stop q root ≡ None
  none_told e f room = ap (λ o. first_of o (first_of lacking passed)) e ∙ ap (λ o. first_of o passed) f ∙ ap limit_where room

  -- ---- the names that were found

  pub names_found : (firsts : List (Option ℕ)) (plain told : List (List (List ℕ))) (said : List (List ℕ)) → AreHolders q (map leaf_exprs (all_leaves root)) firsts → plain ≡ map plain_names (all_leaves root) → told ≡ with_resets q firsts (length q.exprs) 0 plain → said ≡ flat_map (λ own. own) told
      → each_once said ≡ domain_names q root
  names_found firsts plain told said h e f g =
      ap each_once (g ∙ ap (flat_map (λ (own : List (List ℕ)). own)) (f ∙ ap (with_resets q firsts (length q.exprs) 0) e)) ∙ once_resets q root firsts h

  -- ---- the domains that were made

  pub record AreMadeOf (p : Pooled) (ds : List Domain) : Type 0 where
    pub room : is_past_limit q definitions (domain_names q root) ≡ false
    pub pool : p ≡ made_pool q root
    pub domains : ds ≡ made_domains q root

  pub made_of : (found : List DomainDef) (said : List (List ℕ)) (p : Pooled) (ds : List Domain) → found ≡ definitions → each_once said ≡ domain_names q root → AreMade q found said p ds → AreMadeOf p ds
  made_of found said p ds e f h = record {
    room = sym (ap (λ x. is_past_limit q x (each_once said)) e ∙ ap (is_past_limit q definitions) f) ∙ h.room;
    pool = h.pool ∙ ap (λ x. with_domains q (undefined_names x (each_once said))) e ∙ ap (λ x. with_domains q (undefined_names definitions x)) f;
    domains = h.domains ∙ ap (λ x. domains_from x (length q.signals) (each_once said)) e ∙ ap (domains_from definitions (length q.signals)) f;
  }

  pub limit_of : (found : List DomainDef) (said : List (List ℕ)) (s : ResolveStop) → found ≡ definitions → each_once said ≡ domain_names q root → IsOwed (limit_where (is_past_limit q found (each_once said))) s → IsOwed passed s
  limit_of found said s e f h = subst (λ b. IsOwed (limit_where b) s) (ap (λ x. is_past_limit q x (each_once said)) e ∙ ap (is_past_limit q definitions) f) h

  -- ---- the pool in which resets are signals

  pub whole_is : (p w : Pooled) (ds : List Domain) (firsts : List (Option ℕ)) → p ≡ made_pool q root → ds ≡ made_domains q root → AreHolders q (map leaf_exprs (all_leaves root)) firsts → w ≡ record p { exprs = placed_from ds (λ k. is_some (first_at firsts k)) 0 p.exprs } → w ≡ whole_pool q root
  whole_is p w ds firsts e f h is =
      is
      ∙ ap (λ (x : Pooled). record x { exprs = placed_from ds (λ k. is_some (first_at firsts k)) 0 x.exprs }) e
      ∙ ap (λ (xs : List Domain). record (made_pool q root) { exprs = placed_from xs (λ k. is_some (first_at firsts k)) 0 q.exprs }) f
      ∙ placed_root (made_domains q root) (made_pool q root) q root firsts refl h
