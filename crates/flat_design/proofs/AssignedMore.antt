-- One more assignment of a slot.
use Rattle.std.specs.Prelude.{◌≡◌, ℕ, ◌<◌, List, [], ◌∷◌, ◌++◌, All, Contains, length, slice_get, slice_index_or}
use Rattle.std.proofs.Common.{◌∙◌, ap, subst}
use Rattle.std.proofs.lemmas.List.Elements.{Contains-get_or}
use Rattle.amh_host.specs.declared.place.Place.{Place}
use Rattle.design_ir.specs.declared.ids.ExprId.{ExprId}
use Rattle.design_ir.specs.declared.ids.SigId.{SigId}
use Rattle.design_ir.specs.declared.expr.Expr.TheVariants.{Sig}
use Rattle.design_ir.specs.Pools.{Pooled}
use Rattle.design_ir.specs.PoolRules.{IsPool}
use Rattle.design_ir.specs.Trees.{assign, choose, Block, done, next, block_and}
use Rattle.design_ir.proofs.Elements.{get_append_left}
use Rattle.flat_design.specs.declared.sources.Source.{Source}
use Rattle.flat_design.specs.Growing.{IsMore}
use Rattle.flat_design.specs.Sources.{IsSource, IsJoined}
use Rattle.flat_design.specs.Adding.{IsAdded}
use Rattle.flat_design.specs.Assigned.{IsAssigned, AreAssigned}
use Rattle.flat_design.proofs.Added.{added_readable}
use Rattle.flat_design.proofs.Growing.{readable_more}
use Rattle.flat_design.proofs.Joining.{joined_more}
use Rattle.flat_design.proofs.WrittenSources.{all_get, sources_more}

pub assigned_push : (q : Pooled) (slots : List (List Source)) (ss : List SigId) (b : Block) (s : SigId) (t v : ExprId) (place : Place) → AreAssigned q slots ss b → IsAssigned q slots s t v → AreAssigned q slots (ss ++ s ∷ []) (block_and b (assign t v place))
assigned_push q slots [] done s t v place h one = (one, tt)
assigned_push q slots [] (next x rest) s t v place h one = absurd h
assigned_push q slots (x ∷ ss) done s t v place h one = absurd h
assigned_push q slots (x ∷ ss) (next (choose arms) rest) s t v place h one = absurd h
assigned_push q slots (x ∷ ss) (next (assign u w at) rest) s t v place h one = (h.0, assigned_push q slots ss rest s t v place h.1 one)

module _ (q r : Pooled) (rules : IsPool q) (more : IsMore q r) (slots : List (List Source)) where
  one_more : (s : SigId) (t v : ExprId) → IsAssigned q slots s t v → IsAssigned r slots s t v
  one_more s t v h = record {
    signal = ap (λ es. slice_get es t.0) more.exprs ∙ get_append_left q.exprs more.more t.0 (Sig s) h.signal;
    readable = readable_more q r rules more t h.readable;
    sources = sources_more q r rules more (slice_index_or slots s.0 []) h.sources;
    joined = joined_more q r rules more (slice_index_or slots s.0 []) v (λ j x e. all_get (IsSource q) (slice_index_or slots s.0 []) j x h.sources e) h.joined;
  }

  pub assigned_more : (ss : List SigId) (b : Block) → AreAssigned q slots ss b → AreAssigned r slots ss b
  assigned_more [] done h = tt
  assigned_more [] (next x rest) h = absurd h
  assigned_more (x ∷ ss) done h = absurd h
  assigned_more (x ∷ ss) (next (choose arms) rest) h = absurd h
  assigned_more (x ∷ ss) (next (assign u w at) rest) h = (one_more x u w h.0, assigned_more ss rest h.1)

  -- the value was joined before the target was added
  pub assigned_one : (s : SigId) (t v : ExprId) → All (IsSource q) (slice_index_or slots s.0 []) → IsJoined q (slice_index_or slots s.0 []) v → IsAdded r (Sig s) t → IsAssigned r slots s t v
  assigned_one s t v sources joined added = record {
    signal = added.stands;
    readable = added_readable r (Sig s) t added;
    sources = sources_more q r rules more (slice_index_or slots s.0 []) sources;
    joined = joined_more q r rules more (slice_index_or slots s.0 []) v (λ j x e. all_get (IsSource q) (slice_index_or slots s.0 []) j x sources e) joined;
  }

-- the item that is gone through is in the list
pub item_in : {A : Type 0} (xs ys : List A) (i : ℕ) (d : A) → xs ≡ ys → i < length xs → Contains ys (slice_index_or xs i d)
item_in xs ys i d same h = subst (λ zs. Contains zs (slice_index_or xs i d)) same (Contains-get_or xs i d h)
