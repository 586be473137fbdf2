-- A design with flat processes, one for each of the other design's: what they drive is the same.
use Rattle.std.specs.Prelude.{◌≡◌, refl, ℕ, ◌&&◌, ◌||◌, ◌==◌, Bool, is_some, is_none, List, [], ◌∷◌, Contains}
use Rattle.std.specs.List.{list_any}
use Rattle.std.proofs.Common.{◌∙◌, ap, subst, ⊎_elim}
use Rattle.design_ir.specs.declared.expr.Expr.{Expr}
use Rattle.design_ir.specs.declared.memory.MemRead.{MemRead}
use Rattle.design_ir.specs.declared.memory.Memory.{Memory}
use Rattle.design_ir.specs.declared.process.DesignProcess.{DesignProcess}
use Rattle.design_ir.specs.Pools.{Pooled}
use Rattle.design_ir.specs.Guards.{driven}
use Rattle.design_ir.specs.Circuits.{Circuit, is_among, is_input, is_register, is_held}
use Rattle.design_ir.proofs.Elements.{contains_first, contains_more, contains_cases, contains_none}
use Rattle.comb_graph.specs.Orders.{is_comb}
use Rattle.flat_design.specs.Growing.{IsMore}
use Rattle.flat_design.specs.Flat.{IsFlatProcess, AreFlatProcesses, IsFlat}

-- ---- lists of processes

module _ (p q : Pooled) where
  -- the process beside a flat one
  pub record HasOld (olds : List DesignProcess) (new : DesignProcess) : Type 0 where
    pub old : DesignProcess
    pub among : Contains olds old
    pub flat : IsFlatProcess p q old new

  pub old_of : (olds news : List DesignProcess) → AreFlatProcesses p q olds news → (new : DesignProcess) → Contains news new → HasOld olds new
  old_of [] [] are new c = absurd (contains_none new c)
  old_of [] (n ∷ news) are new c = absurd are
  old_of (o ∷ olds) [] are new c = absurd are
  old_of (o ∷ olds) (n ∷ news) are new c = ⊎_elim
      (λ (e : n ≡ new). record { old = o; among = contains_first o olds; flat = subst (IsFlatProcess p q o) e are.0 })
      (λ (t : Contains news new). let r = old_of olds news are.1 new t in record { old = r.old; among = contains_more o olds r.old r.among; flat = r.flat })
      (contains_cases n new news c)

  -- a test that tells the same of both is passed by some flat process exactly where one of the others passes
  pub any_flat : (f g : DesignProcess → Bool) → ((old new : DesignProcess) → IsFlatProcess p q old new → g new ≡ f old) → (olds news : List DesignProcess) → AreFlatProcesses p q olds news → list_any g news ≡ list_any f olds
  any_flat f g same [] [] are = refl
  any_flat f g same [] (n ∷ news) are = absurd are
  any_flat f g same (o ∷ olds) [] are = absurd are
  any_flat f g same (o ∷ olds) (n ∷ news) are = ap (λ b. b || list_any g news) (same o n are.0) ∙ ap (λ b. f o || b) (any_flat f g same olds news are.1)

-- ---- the pool and the design

abbrev pub with_exprs : Pooled → List Expr → Pooled
with_exprs p es = record p { exprs = es }

abbrev pub with_parts : Circuit → List Expr → List DesignProcess → Circuit
with_parts c es ps = record c { pool = with_exprs c.pool es; processes = ps }

pub pool_is : (p q : Pooled) → IsMore p q → q ≡ with_exprs p q.exprs
pool_is p q more = λ i. record { signals = more.signals i; exprs = q.exprs }

pub design_is : (c d : Circuit) → IsFlat c d → d ≡ with_parts c d.pool.exprs d.processes
design_is c d flat = flat.rest ∙ ap (λ q. record c { pool = q; processes = d.processes }) (pool_is c.pool d.pool flat.more)

pub more_is : (c d : Circuit) → IsFlat c d → IsMore c.pool (with_exprs c.pool d.pool.exprs)
more_is c d flat = record { signals = refl; more = flat.more.more; exprs = flat.more.exprs }

pub flat_is : (c d : Circuit) → IsFlat c d → AreFlatProcesses c.pool (with_exprs c.pool d.pool.exprs) c.processes d.processes
flat_is c d flat = subst (λ q. AreFlatProcesses c.pool q c.processes d.processes) (pool_is c.pool d.pool flat.more) flat.processes

-- ---- what is driven

module _ (c : Circuit) (es : List Expr) (ps : List DesignProcess) (are : AreFlatProcesses c.pool (with_exprs c.pool es) c.processes ps) where
  abbrev d : Circuit
  d = with_parts c es ps

  -- whether a process of the kind drives the signal
  driven_same : (s : ℕ) (kind : DesignProcess → Bool) → ((old new : DesignProcess) → IsFlatProcess c.pool (with_exprs c.pool es) old new → kind new ≡ kind old)
      → list_any (λ (p : DesignProcess). kind p && is_among (driven (with_exprs c.pool es) p.body) s) ps ≡ list_any (λ (p : DesignProcess). kind p && is_among (driven c.pool p.body) s) c.processes
  driven_same s kind same =
      any_flat c.pool (with_exprs c.pool es) (λ (p : DesignProcess). kind p && is_among (driven c.pool p.body) s) (λ (p : DesignProcess). kind p && is_among (driven (with_exprs c.pool es) p.body) s)
      (λ old new flat. ap (λ b. b && is_among (driven (with_exprs c.pool es) new.body) s) (same old new flat) ∙ ap (λ b. kind old && b) (flat.body.drives s)) c.processes ps are

  pub register_same : (s : ℕ) → is_register d s ≡ is_register c s
  register_same s =
      ap (λ b. b || list_any (λ (m : Memory). list_any (λ (r : MemRead). is_some r.domain && (r.word.0 == s)) m.reads) c.memories)
      (driven_same s (λ p. is_some p.domain) (λ old new flat. ap (λ x. is_some x) flat.domain))

  pub held_same : (s : ℕ) → is_held d s ≡ is_held c s
  held_same s = ap (λ b. is_input c s || b) (register_same s)

  pub comb_same : (s : ℕ) → is_comb d s ≡ is_comb c s
  comb_same s =
      ap (λ b. b || list_any (λ (m : Memory). list_any (λ (r : MemRead). is_none r.domain && (r.word.0 == s)) m.reads) c.memories)
      (driven_same s (λ p. is_none p.domain) (λ old new flat. ap (λ x. is_none x) flat.domain))
