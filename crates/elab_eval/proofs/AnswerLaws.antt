-- An answer, by the table of shapes and values or by this crate.
use Rattle.std.proofs.Common.{◌≡◌, ℕ, refl, ap, ◌∙◌, sym, subst, List, [], ◌++◌, length, Option, Some, None, Result, Ok, Err, append-nil}
use Rattle.std.specs.Prelude.{OnOk}
use Rattle.lists.specs.declared.items.NoMemory.{NoMemory}
use Rattle.py_heap.specs.Heaps.{Seen}
use Rattle.py_frames.specs.declared.request.Answer.{Answer}
use Rattle.py_frames.specs.declared.request.Answer.TheVariants as answer
use Rattle.py_frames.specs.declared.request.Cause.{Cause}
use Rattle.py_frames.specs.declared.request.Request.{Request}
use Rattle.design_ir.specs.Pools.{Pooled}
use Rattle.amh_values.specs.declared.acts.Acted.{Acted}
use Rattle.amh_values.specs.declared.acts.Acted.TheVariants as acted_as
use Rattle.amh_things.specs.declared.plan.Plan.{Plan}
use Rattle.amh_things.specs.declared.thing.Thing.{Thing}
use Rattle.amh_values.specs.Acts.{acted, Acts}
use Rattle.amh_things.specs.Held.{AreHeld}
use Rattle.elab_store.specs.declared.store.Elaboration.{Elaboration}
use Rattle.elab_store.specs.Stores.{Stored, Held, Answered}
use Rattle.elab_store.specs.Held.{held_of, Gives}
use Rattle.elab_store.specs.Sound.{IsSound}
use Rattle.elab_eval.specs.Table.{prim, own_answered, either_answered, with_plan}
use Rattle.elab_acts.proofs.GrownLaws.{pool_grown}

-- a held pool and store
abbrev pub held_with : Pooled → Stored → List Thing → Held
held_with q s ts = record { pool = q; store = record s { things = ts } }

-- what the table of shapes and values answered
pub planned : (top : Option (List ℕ)) (s : Seen) (h : Held) (r : Request) (a : Answer) (q : Pooled) (ts : List Thing)
    → Acts (acted s h.pool h.store.things r) (acted_as.Answer a) h.pool q h.store.things ts
    → prim top s h r ≡ record { answer = a; held = held_with q h.store ts }
planned top s h r a q ts acts = by_plan (acted s h.pool h.store.things r) acts
  where
    same_answer : (x y : Answer) → acted_as.Answer x ≡ acted_as.Answer y → x ≡ y
    same_answer x y e = cc

    by_plan : (o : Option (Result Plan Cause)) → Acts o (acted_as.Answer a) h.pool q h.store.things ts → either_answered o (own_answered top s r.act r h) h ≡ record { answer = a; held = held_with q h.store ts }
    by_plan None acts = cc
    by_plan (Some (Err why)) acts =
        let told : a ≡ answer.Refuse why = same_answer a (answer.Refuse why) acts.0 in
        ap (λ b. record { answer = b; held = h }) (sym told) ∙ ap (λ p. record { answer = a; held = held_with p h.store h.store.things }) (sym acts.1) ∙ ap (λ t. record { answer = a; held = held_with q h.store t }) (sym acts.2)
    by_plan (Some (Ok plan)) acts =
        let told : a ≡ plan.answer = same_answer a plan.answer acts.0 in
        ap (λ b. record { answer = b; held = with_plan plan h }) (sym told)
        ∙ ap (λ p. record { answer = a; held = held_with p h.store (h.store.things ++ plan.things) }) (sym acts.1) ∙ ap (λ t. record { answer = a; held = held_with q h.store t }) (sym acts.2)

pub planned_sound : (s : Seen) (h : Held) (r : Request) (a : Acted) (q : Pooled) (ts : List Thing)
    → Acts (acted s h.pool h.store.things r) a h.pool q h.store.things ts → AreHeld (length q.exprs) ts → IsSound h → IsSound (held_with q h.store ts)
planned_sound s h r a q ts acts held sound = by_plan (acted s h.pool h.store.things r) acts
  where
    with_things : (k : Held) → IsSound k → AreHeld (length k.pool.exprs) ts → IsSound (record k { store = record k.store { things = ts } })
    with_things k t g = record { names = t.names; kept = t.kept; modules = t.modules; components = t.components; machines = t.machines; domains = t.domains; additions = t.additions; clock_domains = t.clock_domains; memories = t.memories; registers = t.registers; wrappings = t.wrappings; waits = t.waits; things = g }

    same_pool : q ≡ h.pool → IsSound (held_with q h.store ts)
    same_pool e = subst (λ p. IsSound (held_with p h.store ts)) (sym e) (with_things h sound (subst (λ (p : Pooled). AreHeld (length p.exprs) ts) e held))

    by_plan : (o : Option (Result Plan Cause)) → Acts o a h.pool q h.store.things ts → IsSound (held_with q h.store ts)
    by_plan None acts = same_pool acts.1
    by_plan (Some (Err why)) acts = same_pool acts.1
    by_plan (Some (Ok plan)) acts =
        with_things (record h { pool = q }) (pool_grown h q [] plan.exprs sound (ap (λ (p : Pooled). p.signals) acts.1 ∙ sym (append-nil h.pool.signals)) (ap (λ (p : Pooled). p.exprs) acts.1) tt) held

-- what it left open
pub left_open : (top : Option (List ℕ)) (s : Seen) (h : Held) (r : Request) (q : Pooled) (ts : List Thing)
    → Acts (acted s h.pool h.store.things r) acted_as.Other h.pool q h.store.things ts → (prim top s h r ≡ own_answered top s r.act r h) × (q ≡ h.pool) × (ts ≡ h.store.things)
left_open top s h r q ts acts = by_plan (acted s h.pool h.store.things r) acts
  where
    by_plan : (o : Option (Result Plan Cause)) → Acts o acted_as.Other h.pool q h.store.things ts → (either_answered o (own_answered top s r.act r h) h ≡ own_answered top s r.act r h) × (q ≡ h.pool) × (ts ≡ h.store.things)
    by_plan None acts = (refl, acts.1, acts.2)
    by_plan (Some (Err why)) acts = cc
    by_plan (Some (Ok plan)) acts = cc

-- what is given is what is owed, which is sound
pub gives_sound : (r : Result Answer NoMemory) (e : Elaboration) (owed : Answered) → Gives r e owed → IsSound owed.held → OnOk r (IsSound (held_of e))
gives_sound (Ok a) e owed same s = subst (λ (x : Answered). IsSound x.held) same s
gives_sound (Err e) x owed same s = tt

-- an act that was left open changed nothing
pub nothing_changed : (h : Held) (q : Pooled) (st : Stored) → q ≡ h.pool → st.things ≡ h.store.things → st ≡ record h.store { things = st.things } → record { pool = q; store = st } ≡ h
nothing_changed h q st e1 e2 e3 = ap (λ p. record { pool = p; store = st }) e1 ∙ ap (λ s. record { pool = h.pool; store = s }) (e3 ∙ ap (λ ts. record h.store { things = ts }) e2)
