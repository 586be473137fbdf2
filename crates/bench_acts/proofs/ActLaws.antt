-- What an act of a testbench makes may be shared.
use Rattle.std.proofs.Common.{◌≡◌, refl, sym, subst, ◌∙◌, ap, arith, length, append-nil, ℕ, Bool, true, false, List, [], ◌∷◌, ◌++◌, drop, Option, Some, None, Result, Ok, Err}
use Rattle.py_heap.specs.Heaps.{Seen}
use Rattle.py_frames.specs.declared.request.Act.{Act}
use Rattle.py_frames.specs.declared.request.Answer.{Answer}
use Rattle.py_frames.specs.declared.request.Cause.{Cause}
use Rattle.py_frames.specs.declared.request.Request.{Request}
use Rattle.design_ir.specs.Pools.{Pooled}
use Rattle.design_ir.specs.declared.expr.Expr.{Expr}
use Rattle.amh_things.specs.declared.plan.Plan.{Plan}
use Rattle.amh_things.specs.declared.thing.Thing.{Thing}
use Rattle.amh_things.specs.Held.{AreHeld}
use Rattle.amh_values.specs.declared.acts.Acted.TheVariants as acted_as
use Rattle.amh_values.specs.Acts.{acted, Acts}
use Rattle.elab_store.specs.Sound.{IsSound}
use Rattle.elab_store.specs.Stores.{Stored, Held, Answered}
use Rattle.elab_eval.specs.Table.{prim, own_answered}
use Rattle.elab_eval.proofs.AnswerLaws.{held_with, planned, left_open}
use Rattle.bench_acts.specs.Sharing.{IsBehind, held_shared}
use Rattle.bench_acts.specs.Serving.{is_read, is_served}
use Rattle.bench_acts.specs.Held.{IsActed}
use Rattle.bench_acts.proofs.PoolLaws.{read_pool}
use Rattle.bench_acts.proofs.ShareLaws.{none_left}
use Rattle.bench_acts.proofs.SharedSound.{same_shared, planned_shared, drop_whole}

-- a pool with more expressions behind its own
behind_by : (p : Pooled) (k : Held) (es : List Expr) → k.pool.signals ≡ p.signals → k.pool.exprs ≡ p.exprs ++ es → IsBehind p k
behind_by p k es signals exprs = record {
  signals = signals;
  exprs = exprs ∙ ap (λ xs. p.exprs ++ xs) (sym (ap (drop (length p.exprs)) exprs ∙ drop_whole p.exprs es));
}

-- ---- what the table of shapes and values plans

module _ (s : Seen) (h : Held) (r : Request) (a : Answer) (q : Pooled) (ts : List Thing) (held : AreHeld (length q.exprs) ts) (sound : IsSound h) where
  abbrev MayShare : Type 0
  MayShare = IsBehind h.pool (held_with q h.store ts) × IsSound (held_shared h (held_with q h.store ts))

  may_share : (es : List Expr) (more : List Thing) → q.signals ≡ h.pool.signals → q.exprs ≡ h.pool.exprs ++ es → ts ≡ h.store.things ++ more → MayShare
  may_share es more signals exprs things = (behind_by h.pool (held_with q h.store ts) es signals exprs, planned_shared h q es ts more signals exprs things held sound)

  by_plan : (o : Option (Result Plan Cause)) → Acts o (acted_as.Answer a) h.pool q h.store.things ts → (is_served r.act o ≡ true) × MayShare
  by_plan None acts = absurd cc
  by_plan (Some (Err why)) acts =
      (refl, may_share [] [] (ap (λ (p : Pooled). p.signals) acts.1) (ap (λ (p : Pooled). p.exprs) acts.1 ∙ sym (append-nil h.pool.exprs)) (acts.2 ∙ sym (append-nil h.store.things)))
  by_plan (Some (Ok plan)) acts =
      (refl, may_share plan.exprs plan.things (ap (λ (p : Pooled). p.signals) acts.1) (ap (λ (p : Pooled). p.exprs) acts.1) acts.2)

  pub planned_acted : (st : Stored) → st ≡ record (h.store) { things = ts } → Acts (acted s h.pool h.store.things r) (acted_as.Answer a) h.pool q h.store.things ts
      → IsActed (is_served r.act (acted s h.pool h.store.things r)) (Some a) h (record { pool = q; store = st }) (prim None s h r)
  planned_acted st rest acts =
      let may = by_plan (acted s h.pool h.store.things r) acts in
      subst (λ x. IsActed (is_served r.act (acted s h.pool h.store.things r)) (Some a) h (record { pool = q; store = x }) (prim None s h r)) (sym rest)
      (may.0, planned None s h r a q ts acts, may.1.0, may.1.1)

-- ---- what it left open

-- a request that is left open is no plan
left_none : (o : Option (Result Plan Cause)) (p q : Pooled) (xs ys : List Thing) → Acts o acted_as.Other p q xs ys → o ≡ None
left_none None p q xs ys acts = refl
left_none (Some (Err why)) p q xs ys acts = absurd cc
left_none (Some (Ok plan)) p q xs ys acts = absurd cc

module _ (s : Seen) (h : Held) (r : Request) (q : Pooled) (ts : List Thing) (acts : Acts (acted s h.pool h.store.things r) acted_as.Other h.pool q h.store.things ts) where
  on_read : (b : Bool) → is_read r.act ≡ b → is_served r.act (acted s h.pool h.store.things r) ≡ b
  on_read b is = ap (is_served r.act) (left_none (acted s h.pool h.store.things r) h.pool q h.store.things ts acts) ∙ is

  pub none_acted : (k : Held) → is_read r.act ≡ false → IsActed (is_served r.act (acted s h.pool h.store.things r)) None h k (prim None s h r)
  none_acted k is = on_read false is

  pub read_acted : (a : Answer) (k : Held) → is_read r.act ≡ true → prim None s h r ≡ record { answer = a; held = k } → IsSound k → IsActed (is_served r.act (acted s h.pool h.store.things r)) (Some a) h k (prim None s h r)
  read_acted a k is gives sound =
      let own = (left_open None s h r q ts acts).0 in
      let same : k.pool ≡ h.pool = ap (λ (x : Answered). x.held.pool) (sym gives ∙ own) ∙ read_pool None s r.act r h is in
      (on_read true is, gives, behind_by h.pool k [] (ap (λ (p : Pooled). p.signals) same) (ap (λ (p : Pooled). p.exprs) same ∙ sym (append-nil h.pool.exprs)), subst IsSound (sym (same_shared h k same)) sound)
