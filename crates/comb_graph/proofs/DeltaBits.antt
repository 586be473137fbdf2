-- What the processes leave at a bit is decided by the bits that it needs, and by the state.
use Rattle.std.specs.Prelude.{◌≡◌, refl, ℕ, ◌<◌, ◌&&◌, cond, Bool, true, false, is_none, List, [], ◌∷◌, length, ℤ, Option, Some, None, Contains, fold}
use Rattle.std.specs.List.{AllByRecursion, list_any}
use Rattle.std.proofs.Common.{◌∙◌}
use Rattle.std.proofs.lemmas.Bool.{cond_both, or_parts, false≢true}
use Rattle.amh_bits.specs.Patterns.{int_bit}
use Rattle.design_ir.specs.declared.ids.DomainId.{DomainId}
use Rattle.design_ir.specs.declared.process.DesignProcess.{DesignProcess}
use Rattle.design_ir.specs.Pools.{Pooled}
use Rattle.design_ir.specs.PoolRules.{IsPool}
use Rattle.design_ir.specs.Designs.{IsProcess}
use Rattle.design_ir.specs.Values.{signal_form}
use Rattle.design_ir.specs.Targets.{Bit}
use Rattle.design_ir.specs.Trees.{Block}
use Rattle.design_ir.specs.Guards.{Guarded, guarded, driven}
use Rattle.design_ir.specs.Put.{put}
use Rattle.design_ir.specs.Settled.{comb_process}
use Rattle.design_ir.specs.Loops.{AssignmentNeeds}
use Rattle.design_ir.specs.Circuits.{Circuit, at, is_among}
use Rattle.design_ir.proofs.GuardLaws.{put_guarded, put_is}
use Rattle.design_ir.proofs.PutLaws.{put_length, put_other}
use Rattle.design_ir.proofs.NumbersFit.{FitsSignals}
use Rattle.comb_graph.proofs.PoolBits.{IsShared}
use Rattle.digraph.proofs.Members.{contains_first, contains_more}
use Rattle.comb_graph.proofs.PutFits.{AreTargets, put_fits}
use Rattle.comb_graph.proofs.AssignmentBits.{guarded_length, guarded_shared}

module _ (p : Pooled) (E F : List ℤ) (rules : IsPool p) (left : FitsSignals p E) (right : FitsSignals p F) (b : Bit) (here : b.index < (signal_form p.signals b.sig).width) where
  abbrev bit : List ℤ → ℕ
  bit cur = int_bit (at cur b.sig) b.index

  assignments_shared : (gs : List Guarded) (cur other : List ℤ) → AreTargets p gs → ((g : Guarded) (x : Bit) → Contains gs g → AssignmentNeeds p g b x → IsShared p E F x)
      → length cur ≡ length p.signals → length other ≡ length p.signals → bit cur ≡ bit other → bit (fold (put_guarded p E) cur gs) ≡ bit (fold (put_guarded p F) other gs)
  assignments_shared [] cur other targets shared long long' was = was
  assignments_shared (g ∷ gs) cur other targets shared long long' was =
      assignments_shared gs (put_guarded p E cur g) (put_guarded p F other g) targets.1 (λ h x c. shared h x (contains_more g gs h c)) (guarded_length p E g cur ∙ long) (guarded_length p F g other ∙ long')
      (guarded_shared p E F rules left right g b targets.0 (λ x. shared g x (contains_first g gs)) cur other here long long' was)

  put_shared : (body : Block) (cur other : List ℤ) → AreTargets p (guarded [] body) → ((g : Guarded) (x : Bit) → Contains (guarded [] body) g → AssignmentNeeds p g b x → IsShared p E F x)
      → length cur ≡ length p.signals → length other ≡ length p.signals → bit cur ≡ bit other → bit (put p E body cur) ≡ bit (put p F body other)
  put_shared body cur other targets shared long long' was =
      rw (put_is p E body cur, put_is p F body other) (assignments_shared (guarded [] body) cur other targets shared long long' was)

-- ---- the processes

module _ (p : Pooled) (env : List ℤ) where
  process_length : (q : DesignProcess) (cur : List ℤ) → length (comb_process p env cur q) ≡ length cur
  process_length q cur = cond_both (is_none q.domain) (put p env q.body cur) cur (λ x. length x ≡ length cur) (λ t. put_length p env q.body cur) (λ t. refl)

  pub processes_length : (ps : List DesignProcess) (cur : List ℤ) → length (fold (comb_process p env) cur ps) ≡ length cur
  processes_length [] cur = refl
  processes_length (q ∷ ps) cur = processes_length ps (comb_process p env cur q) ∙ process_length q cur

  not_driven : (t a : Bool) → t ≡ true → (t && a) ≡ false → a ≡ false
  not_driven true a e h = h
  not_driven false a e h = absurd (false≢true e)

  -- a signal that no comb process drives keeps its number
  pub processes_other : (s : ℕ) (ps : List DesignProcess) (cur : List ℤ) → list_any (λ (q : DesignProcess). is_none q.domain && is_among (driven p q.body) s) ps ≡ false → at (fold (comb_process p env) cur ps) s ≡ at cur s
  processes_other s [] cur e = refl
  processes_other s (q ∷ ps) cur e =
      let parts = or_parts (is_none q.domain && is_among (driven p q.body) s) (list_any (λ (x : DesignProcess). is_none x.domain && is_among (driven p x.body) s) ps) e in
      processes_other s ps (comb_process p env cur q) parts.1
      ∙ cond_both (is_none q.domain) (put p env q.body cur) cur (λ x. at x s ≡ at cur s) (λ t. put_other p env q.body cur s (not_driven (is_none q.domain) (is_among (driven p q.body) s) t parts.0)) (λ t. refl)

  -- numbers stay of their signals' shapes
  pub processes_fit : (c : Circuit) (ps : List DesignProcess) (cur : List ℤ) → c.pool ≡ p → IsPool p → AllByRecursion (IsProcess c) ps → FitsSignals p cur → FitsSignals p (fold (comb_process p env) cur ps)
  processes_fit c [] cur same rules are fit = fit
  processes_fit c (q ∷ ps) cur same rules are fit =
      let targets : AreTargets p (guarded [] q.body) = rw same at are.0.targets in
      processes_fit c ps (comb_process p env cur q) same rules are.1
      (cond_both (is_none q.domain) (put p env q.body cur) cur (FitsSignals p) (λ t. put_fits p env q.body cur rules targets fit) (λ t. fit))

module _ (c : Circuit) (E F : List ℤ) (rules : IsPool c.pool) (left : FitsSignals c.pool E) (right : FitsSignals c.pool F) (b : Bit) (here : b.index < (signal_form c.pool.signals b.sig).width) where
  process_shared : (d : Option DomainId) (v w x y : List ℤ) → (d ≡ None → int_bit (at v b.sig) b.index ≡ int_bit (at x b.sig) b.index) → int_bit (at w b.sig) b.index ≡ int_bit (at y b.sig) b.index
      → int_bit (at (cond (is_none d) v w) b.sig) b.index ≡ int_bit (at (cond (is_none d) x y) b.sig) b.index
  process_shared None v w x y h k = h refl
  process_shared (Some d) v w x y h k = k

  pub processes_shared : (ps : List DesignProcess) (cur other : List ℤ) → AllByRecursion (IsProcess c) ps
      → ((q : DesignProcess) (g : Guarded) (x : Bit) → Contains ps q → q.domain ≡ None → Contains (guarded [] q.body) g → AssignmentNeeds c.pool g b x → IsShared c.pool E F x)
      → length cur ≡ length c.pool.signals → length other ≡ length c.pool.signals → int_bit (at cur b.sig) b.index ≡ int_bit (at other b.sig) b.index
      → int_bit (at (fold (comb_process c.pool E) cur ps) b.sig) b.index ≡ int_bit (at (fold (comb_process c.pool F) other ps) b.sig) b.index
  processes_shared [] cur other are shared long long' was = was
  processes_shared (q ∷ ps) cur other are shared long long' was =
      processes_shared ps (comb_process c.pool E cur q) (comb_process c.pool F other q) are.1 (λ r g x among. shared r g x (contains_more q ps r among))
      (process_length c.pool E q cur ∙ long) (process_length c.pool F q other ∙ long')
      (process_shared q.domain (put c.pool E q.body cur) cur (put c.pool F q.body other) other
      (λ none. put_shared c.pool E F rules left right b here q.body cur other are.0.targets (λ g x. shared q g x (contains_first q ps) none) long long' was) was)
