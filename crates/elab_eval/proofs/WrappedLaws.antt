-- What a wrapper makes of a tree that stands for a part of the program stands for it too.
use Rattle.std.proofs.Common.{◌≡◌, ◌≤◌, ℕ, zero, suc, refl, ap, ◌∙◌, sym, subst, Bool, true, false, List, [], ◌∷◌, map, length, Option, Some, None, Ok, arith, length-append}
use Rattle.std.specs.Prelude.{slice_get, IfSome}
use Rattle.std.specs.List.{AllByRecursion}
use Rattle.design_ir.specs.declared.domain.DomainDef.{DomainDef}
use Rattle.design_ir.specs.declared.fragment.Fragment.{Fragment}
use Rattle.design_ir.specs.Pools.{Pooled}
use Rattle.design_ir.specs.PoolRules.{IsPool}
use Rattle.flat_design.specs.Growing.{IsMore}
use Rattle.fragment_walks.specs.Walks.{all_definitions}
use Rattle.domain_transforms.specs.declared.controls.Control.{Control}
use Rattle.domain_transforms.specs.Controlled.{name_after}
use Rattle.domain_transforms.specs.Placed.{AreControls}
use Rattle.domain_transforms.specs.Renamed.{renamed_definition}
use Rattle.transform_laws.specs.Laws.{KeepsTrees}
use Rattle.elab_store.specs.declared.domains.ClockDomain.{ClockDomain}
use Rattle.elab_store.specs.declared.wrappings.Wrapping.{Wrapping}
use Rattle.elab_store.specs.declared.wrappings.Wrapping.TheVariants as wrapping
use Rattle.elab_store.specs.Sound.{IsWrapping}
use Rattle.elab_store.specs.Stores.{Stored}
use Rattle.elab_eval.specs.Elaborates.{wrapped_by, is_past_by, within_counts, wrapped}
use Rattle.elab_eval.specs.Standing.{IsFrom, IsFree, StandsFor}
use Rattle.elab_acts.proofs.EachLaws.{all_map, all_each}
use Rattle.elab_eval.proofs.DefinitionLaws.{renamed_from}
use Rattle.transform_laws.proofs.GrowthLaws.{same_mapped}
use Rattle.transform_laws.proofs.RenamedTrees.{renamed_trees}
use Rattle.transform_laws.proofs.ResetTrees.{reset_trees}
use Rattle.transform_laws.proofs.EnabledTrees.{enabled_trees}

-- ---- wrappings of a pool that grows

controls_more : (n m : ℕ) (cs : List Control) → n ≤ m → AreControls n cs → AreControls m cs
controls_more n m [] h g = tt
controls_more n m (c ∷ cs) h g = (omega (arith, h, g.0), controls_more n m cs h g.1)

wrapping_more : (q p : Pooled) (w : Wrapping) → IsMore q p → IsWrapping q w → IsWrapping p w
wrapping_more q p (wrapping.Rename names) more h = h
wrapping_more q p (wrapping.Reset controls) more h = controls_more (length q.exprs) (length p.exprs) controls (omega (arith, ap length more.exprs, length-append q.exprs more.more)) h
wrapping_more q p (wrapping.Enable controls) more h = controls_more (length q.exprs) (length p.exprs) controls (omega (arith, ap length more.exprs, length-append q.exprs more.more)) h

pub wrappings_more : (q p : Pooled) (ws : List Wrapping) → IsMore q p → AllByRecursion (IsWrapping q) ws → AllByRecursion (IsWrapping p) ws
wrappings_more q p ws more h = all_each (IsWrapping q) (IsWrapping p) ws (λ w g. wrapping_more q p w more g) h

pub wrapping_at : (p : Pooled) (ws : List Wrapping) (k : ℕ) → AllByRecursion (IsWrapping p) ws → IfSome (slice_get ws k) (IsWrapping p)
wrapping_at p [] k h = tt
wrapping_at p (w ∷ ws) zero h = h.0
wrapping_at p (w ∷ ws) (suc k) h = wrapping_at p ws k h.1

-- ---- what one makes

-- of a definition
definition_by : Wrapping → DomainDef → DomainDef
definition_by (wrapping.Rename names) d = renamed_definition names d
definition_by (wrapping.Reset controls) d = d
definition_by (wrapping.Enable controls) d = d

keeps : (w : Wrapping) → KeepsTrees (λ q. IsWrapping q w) (wrapped_by w)
keeps (wrapping.Rename names) = renamed_trees.keeps names
keeps (wrapping.Reset controls) = reset_trees.keeps controls
keeps (wrapping.Enable controls) = enabled_trees.keeps controls

definitions_by : (w : Wrapping) (q : Pooled) (f : Fragment) → all_definitions (wrapped_by w q f).0 ≡ map (definition_by w) (all_definitions f)
unfolding definition_by
definitions_by (wrapping.Rename names) q f = renamed_trees.definitions names q f
definitions_by (wrapping.Reset controls) q f = reset_trees.definitions controls q f ∙ same_mapped (all_definitions f)
definitions_by (wrapping.Enable controls) q f = enabled_trees.definitions controls q f ∙ same_mapped (all_definitions f)

from_by : (made : List ClockDomain) (w : Wrapping) (d : DomainDef) → IsFrom made d → IsFrom made (definition_by w d)
unfolding definition_by
from_by made (wrapping.Rename names) d h = renamed_from made d (name_after names d.domain.name) h
from_by made (wrapping.Reset controls) d h = h
from_by made (wrapping.Enable controls) d h = h

name_by : (w : Wrapping) (q : Pooled) (f : Fragment) → (wrapped_by w q f).0.name ≡ f.name
name_by (wrapping.Rename names) q f = refl
name_by (wrapping.Reset controls) q f = refl
name_by (wrapping.Enable controls) q f = refl

-- it stands for what was wrapped, under its name
pub record IsWrapped (s : Stored) (t made : Fragment × Pooled) : Type 0 where
  pub stands : StandsFor s made.1 made.0
  pub more : IsMore t.1 made.1
  pub name : made.0.name ≡ t.0.name

made_stands : (s : Stored) (w : Wrapping) (p : Pooled) (f : Fragment) → StandsFor s p f → IsWrapping p w → IsPool p → IsPool (wrapped_by w p f).1 → IsWrapped s (f, p) (wrapped_by w p f)
made_stands s w p f h asks before after =
    let all : KeepsTrees (λ q. IsWrapping q w) (wrapped_by w) = keeps w in
    let from = IsFrom s.clock_domains.made in
    record {
      stands = record {
        resets = all.resets p f asks h.resets;
        tree = all.trees p f asks before after h.resets h.tree;
        definitions = subst (AllByRecursion from) (sym (definitions_by w p f)) (all_map from (definition_by w) (all_definitions f) (all_each from (λ d. from (definition_by w d)) (all_definitions f) (from_by s.clock_domains.made w) h.definitions));
        free_data = subst (AllByRecursion (IsFree s)) (sym (all.read_data p f)) h.free_data;
      };
      more = all.pools p f;
      name = name_by w p f;
    }

made_of : (w : Wrapping) (t made : Fragment × Pooled) → wrapped (Some w) t ≡ Ok made → wrapped_by w t.1 t.0 ≡ made
made_of w t made e = by_count (is_past_by w (wrapped_by w t.1 t.0)) e
  where
    by_count : (past : Bool) → within_counts past (wrapped_by w t.1 t.0) ≡ Ok made → wrapped_by w t.1 t.0 ≡ made
    by_count true e = cc
    by_count false e = cc

pub wrapped_stands : (s : Stored) (o : Option Wrapping) (t made : Fragment × Pooled) → StandsFor s t.1 t.0 → IfSome o (IsWrapping t.1) → IsPool t.1 → IsPool made.1 → wrapped o t ≡ Ok made → IsWrapped s t made
wrapped_stands s None t made h asks before after e = cc
wrapped_stands s (Some w) t made h asks before after e =
    let same = made_of w t made e in subst (IsWrapped s t) same (made_stands s w t.1 t.0 h asks before (subst (λ (m : Fragment × Pooled). IsPool m.1) (sym same) after))

-- whatever it wraps, the pool grows
pub wrapped_more : (o : Option Wrapping) (t made : Fragment × Pooled) → wrapped o t ≡ Ok made → IsMore t.1 made.1
wrapped_more None t made e = cc
wrapped_more (Some w) t made e = subst (λ (m : Fragment × Pooled). IsMore t.1 m.1) (made_of w t made e) ((keeps w).pools t.1 t.0)
