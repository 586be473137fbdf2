-- What is asked where a block is entered follows from what is held.
use Rattle.std.proofs.Common.{◌≡◌, ℕ, ◌<◌, refl, Bool, true, false, if◌then◌else◌, length, Option, Some, None, IfSome, subst}
use Rattle.std.specs.Prelude.{slice_get}
use Rattle.design_ir.specs.declared.ids.ExprId.{ExprId}
use Rattle.design_ir.specs.Pools.{Pooled}
use Rattle.design_ir.specs.declared.expr.Expr.{Expr}
use Rattle.module_dsl.specs.declared.refusal.BuildStop.{BuildStop}
use Rattle.module_dsl.specs.declared.refusal.BuildStop.TheVariants as stop
use Rattle.module_dsl.specs.declared.step.Block.{Block}
use Rattle.module_dsl.specs.declared.step.Block.TheVariants as dsl
use Rattle.module_dsl.specs.Blocks.{in_switch}
use Rattle.module_dsl.specs.Builders.{Built, built_blocks, subject_of, IsOwed, IsLeftAs, IsEnterable}
use Rattle.elab_store.specs.Stores.{Held}
use Rattle.elab_store.specs.Sound.{IsBuilt, IsSound}
use Rattle.elab_store.specs.Kept.{IsMasked}
use Rattle.elab_acts.specs.Entering.{IsEntering}
use Rattle.elab_acts.specs.Blocks.{switched, case_subject}
use Rattle.elab_store.specs.OpenMachines.{in_machine}
use Rattle.elab_acts.proofs.GrownLaws.{module_built}
use Rattle.elab_store.proofs.Standing.{subject_there}

block_enterable : (q : Pooled) (b : Built) (x : Block) → IsBuilt q b → IsMasked x → IsEnterable q b x
block_enterable q b (dsl.If c) k m = tt
block_enterable q b (dsl.Elif c) k m = tt
block_enterable q b dsl.Else k m = tt
block_enterable q b (dsl.Switch v) k m = tt
block_enterable q b (dsl.Case ps) k m = λ i. record { names = (subject_there q b.steps k.steps i, tt); parts = m }
block_enterable q b dsl.Default k m = tt

enterable_at : (q : Pooled) (o : Option Built) (x : Block) → ((b : Built) → o ≡ Some b → IsBuilt q b) → IsMasked x → IsEntering q o x
enterable_at q None x f m = tt
enterable_at q (Some b) x f m = block_enterable q b x (f b refl) m

-- a block that is to be entered may be asked of its module
pub enterable : (h : Held) (m : ℕ) (o : Option Block) → IsSound h → IfSome o IsMasked → IfSome o (IsEntering h.pool (slice_get h.store.modules m))
enterable h m None t k = k
enterable h m (Some x) t k = enterable_at h.pool (slice_get h.store.modules m) x (λ b e. module_built h.pool h.store.modules m b t.modules e) k

-- the subject of a `Switch` that is innermost stands in the pool
switched_there : (h : Held) (m : ℕ) (e : ExprId) → IsSound h → switched (slice_get h.store.modules m) ≡ Some e → e.0 < length h.pool.exprs
switched_there h m e t is = by_module (slice_get h.store.modules m) (λ b k. module_built h.pool h.store.modules m b t.modules k) is
  where
    by_switch : (b : Built) (s : Bool) → in_switch (built_blocks b).around ≡ s → IsBuilt h.pool b → (if s then Some (subject_of (built_blocks b).around) else None) ≡ Some e → e.0 < length h.pool.exprs
    by_switch b true i k is = let same : subject_of (built_blocks b).around ≡ e = cc in subst (λ (x : ExprId). x.0 < length h.pool.exprs) same (subject_there h.pool b.steps k.steps i)
    by_switch b false i k is = cc

    by_module : (o : Option Built) → ((b : Built) → o ≡ Some b → IsBuilt h.pool b) → switched o ≡ Some e → e.0 < length h.pool.exprs
    by_module None f is = cc
    by_module (Some b) f is = by_switch b (in_switch (built_blocks b).around) refl (f b refl) is

pub case_subject_there : (h : Held) (m : ℕ) (e : ExprId) → IsSound h → case_subject m h.store ≡ Some e → e.0 < length h.pool.exprs
case_subject_there h m e t is = by_test (in_machine m h.store.machines) is
  where
    by_test : (b : Bool) → (if b then None else switched (slice_get h.store.modules m)) ≡ Some e → e.0 < length h.pool.exprs
    by_test true is = absurd cc
    by_test false is = switched_there h m e t is

-- a refusal that is told leaves the pool as it was
pub left_same : (q q' : Pooled) (made : Option Expr) (x : BuildStop) → ((o : Option BuildStop) → IsOwed o x → o ≡ Some x) → IsLeftAs q q' made x → q' ≡ q
left_same q q' made stop.Order f h = h
left_same q q' made stop.NotTarget f h = h
left_same q q' made stop.Limit f h = h
left_same q q' made stop.NoMemory f h = let wrong : None ≡ Some stop.NoMemory = f None tt in cc
