-- One round of settling.
use Rattle.std.specs.Prelude.{◌≡◌, refl, ℕ, zero, suc, ◌+◌, ◌<◌, ◌==◌, ◌&&◌, cond, Bool, true, false, is_none, List, [], ◌∷◌, length, ℤ, fold}
use Rattle.std.specs.List.{AllByRecursion, list_any}
use Rattle.std.proofs.Common.{inl, inr, sym, ◌∙◌, ap, arith, subst}
use Rattle.std.proofs.lemmas.Bool.{or_parts}
use Rattle.amh_bits.specs.Patterns.{IsOf, int_bit}
use Rattle.design_ir.specs.declared.memory.Memory.{Memory}
use Rattle.design_ir.specs.declared.memory.MemRead.{MemRead}
use Rattle.design_ir.specs.declared.signal.Sig.{Sig}
use Rattle.design_ir.specs.declared.process.DesignProcess.{DesignProcess}
use Rattle.design_ir.specs.PoolRules.{IsPool, HasInit}
use Rattle.design_ir.specs.Designs.{IsDesign}
use Rattle.design_ir.specs.Values.{signal_form}
use Rattle.design_ir.specs.Targets.{Bit}
use Rattle.design_ir.specs.Guards.{driven}
use Rattle.design_ir.specs.Settled.{starts, comb_process, delta}
use Rattle.design_ir.specs.Loops.{Needs}
use Rattle.design_ir.specs.Circuits.{Circuit, State, at, is_among, is_held}
use Rattle.design_ir.proofs.NumbersFit.{FitsSignals}
use Rattle.comb_graph.specs.Orders.{is_comb}
use Rattle.comb_graph.specs.Laws.{FitsState}
use Rattle.comb_graph.proofs.PoolBits.{IsShared}
use Rattle.comb_graph.proofs.ReadBits.{reads_length, reads_other, reads_fit, reads_shared}
use Rattle.comb_graph.proofs.DeltaBits.{processes_length, processes_other, processes_fit, processes_shared}

-- ---- where a round starts

module _ (c : Circuit) (st : State) where
  pub starts_length : (a : ℕ) (xs : List Sig) → length (starts c st a xs) ≡ length xs
  starts_length a [] = refl
  starts_length a (x ∷ xs) = ap suc (starts_length (suc a) xs)

  choice_of : (t s : Bool) (w : ℕ) (x y : ℤ) → IsOf s w x → IsOf s w y → IsOf s w (cond t x y)
  choice_of true s w x y h k = h
  choice_of false s w x y h k = k

  starts_of : (a : ℕ) (xs : List Sig) → AllByRecursion HasInit xs → ((k : ℕ) → k < length xs → IsOf (signal_form xs k).signed (signal_form xs k).width (at st.held (a + k)))
      → (k : ℕ) → k < length xs → IsOf (signal_form xs k).signed (signal_form xs k).width (at (starts c st a xs) k)
  starts_of a [] inits held k h = absurd (omega (arith, h))
  starts_of a (x ∷ xs) inits held zero h =
      let e : a + 0 ≡ a = omega arith in
      choice_of (is_held c a) x.shape.signed x.shape.width (at st.held a) x.init (subst (λ i. IsOf x.shape.signed x.shape.width (at st.held i)) e (held 0 h)) inits.0
  starts_of a (x ∷ xs) inits held (suc k) h =
      starts_of (suc a) xs inits.1 (λ i l. let e : a + suc i ≡ suc a + i = omega arith in subst (λ j. IsOf (signal_form xs i).signed (signal_form xs i).width (at st.held j)) e (held (suc i) (omega (arith, l)))) k (omega (arith, h))

module _ (c : Circuit) (st : State) (rules : IsPool c.pool) (design : IsDesign c) where
  begun : List ℤ
  begun = starts c st 0 c.pool.signals

  begun_length : length begun ≡ length c.pool.signals
  unfolding begun
  begun_length = starts_length c st 0 c.pool.signals

  -- what the processes leave, before the comb reads
  driven_from : List ℤ → List ℤ
  driven_from env = fold (comb_process c.pool env) begun c.processes

  driven_length : (env : List ℤ) → length (driven_from env) ≡ length c.pool.signals
  unfolding driven_from
  driven_length env = processes_length c.pool env c.processes begun ∙ begun_length

  pub delta_length : (env : List ℤ) → length (delta c st env) ≡ length c.pool.signals
  unfolding begun driven_from
  delta_length env = reads_length c.pool env c.memories st.rows (driven_from env) ∙ driven_length env

  starts_fit : FitsSignals c.pool st.held → FitsSignals c.pool begun
  unfolding begun
  starts_fit held =
      starts_of c st 0 c.pool.signals rules.inits (λ k l. let e : k ≡ 0 + k = omega arith in subst (λ j. IsOf (signal_form c.pool.signals k).signed (signal_form c.pool.signals k).width (at st.held j)) e (held k l))

  -- its numbers are of their signals' shapes
  pub delta_fits : FitsState c st → (env : List ℤ) → FitsSignals c.pool (delta c st env)
  unfolding begun driven_from
  delta_fits fit env =
      reads_fit c.pool env c c.memories st.rows (driven_from env) refl design.memories fit.rows (processes_fit c.pool env c c.processes begun refl rules design.processes (starts_fit fit.held))

  -- a signal that is not comb has the number at which it starts
  pub delta_start : (env : List ℤ) (s : ℕ) → is_comb c s ≡ false → at (delta c st env) s ≡ at (starts c st 0 c.pool.signals) s
  unfolding begun driven_from
  delta_start env s e =
      let parts = or_parts (list_any (λ (q : DesignProcess). is_none q.domain && is_among (driven c.pool q.body) s) c.processes) (list_any (λ (m : Memory). list_any (λ (r : MemRead). is_none r.domain && (r.word.0 == s)) m.reads) c.memories) e in
      reads_other c.pool env s c.memories st.rows (driven_from env) parts.1 ∙ processes_other c.pool env s c.processes begun parts.0

  pub delta_other : (E F : List ℤ) (s : ℕ) → is_comb c s ≡ false → at (delta c st E) s ≡ at (delta c st F) s
  delta_other E F s e = delta_start E s e ∙ sym (delta_start F s e)

  -- a bit is the same after a round where all bits are that it needs
  pub delta_shared : (E F : List ℤ) (b : Bit) → FitsSignals c.pool E → FitsSignals c.pool F → b.index < (signal_form c.pool.signals b.sig).width → ((x : Bit) → Needs c b x → IsShared c.pool E F x)
      → int_bit (at (delta c st E) b.sig) b.index ≡ int_bit (at (delta c st F) b.sig) b.index
  unfolding begun driven_from
  delta_shared E F b left right here shared =
      reads_shared c.pool E F rules left right b here c.memories st.rows (driven_from E) (driven_from F)
      (λ m among r x stands comb word address. shared x (inr (record { memory = m; among = among; read = r; stands = stands; comb = comb; word = word; inside = here; address = address })))
      (driven_length E) (driven_length F)
      (processes_shared c E F rules left right b here c.processes begun begun design.processes
      (λ q g x among comb stands needs. shared x (inl (record { process = q; among = among; comb = comb; assignment = g; stands = stands; needs = needs }))) begun_length begun_length refl)
