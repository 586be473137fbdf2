-- The numbers of an environment in which every combinational equation holds.
use Rattle.std.specs.Prelude.{◌≡◌, refl, ℕ, ◌<◌, ◌&&◌, ◌==◌, false, true, cond, List, length, slice_get, ℤ, Some, None, is_none, fold}
use Rattle.std.specs.List.{list_any}
use Rattle.std.proofs.Common.{sym, ◌∙◌, ap}
use Rattle.std.proofs.lemmas.Bool.{or_parts, cond_both}
use Rattle.design_ir.specs.declared.signal.Sig.{Sig}
use Rattle.design_ir.specs.declared.memory.MemRead.{MemRead}
use Rattle.design_ir.specs.declared.memory.Memory.{Memory}
use Rattle.design_ir.specs.declared.process.DesignProcess.{DesignProcess}
use Rattle.design_ir.specs.Guards.{driven}
use Rattle.design_ir.specs.Put.{put}
use Rattle.design_ir.specs.Circuits.{Circuit, State, at, is_among, is_held}
use Rattle.design_ir.specs.Designs.{IsDesign}
use Rattle.design_ir.specs.Settled.{starts, comb_process, Settled}
use Rattle.design_ir.proofs.NumbersFit.{element}
use Rattle.design_ir.proofs.PutLaws.{put_length, put_other}
use Rattle.comb_graph.specs.Orders.{is_comb}
use Rattle.comb_graph.proofs.DeltaBits.{processes_length, processes_other}
use Rattle.comb_graph.proofs.ReadBits.{reads_length, reads_other}
use Rattle.netlist_laws.proofs.OneDriver.{IsOnly, fold_only}
use Rattle.netlist_laws.proofs.Driven.{driven_by, process_unread, held_uncomb}
use Rattle.netlist_laws.proofs.ReadOnce.{kind_none}
use Rattle.netlist_laws.proofs.Starts.{length-starts, at-starts, at-starts_held}

module _ (c : Circuit) (env : List ℤ) (design : IsDesign c) (st : State) (settled : Settled c st env) (s : ℕ) where
  begin : List ℤ
  begin = starts c st 0 c.pool.signals

  -- what the processes leave, before the comb reads
  behind : List ℤ
  unfolding begin
  behind = fold (comb_process c.pool env) begin c.processes

  -- there is a number for each signal
  pub length-settled : length env ≡ length c.pool.signals
  unfolding begin behind
  length-settled = ap length (sym settled) ∙ reads_length c.pool env c.memories st.rows behind ∙ processes_length c.pool env c.processes begin ∙ length-starts c st 0 c.pool.signals

  -- a signal that is not comb has the number at which it starts
  settled_start : is_comb c s ≡ false → at env s ≡ at begin s
  unfolding begin behind
  settled_start e =
      let parts = or_parts (list_any (λ (q : DesignProcess). is_none q.domain && is_among (driven c.pool q.body) s) c.processes) (list_any (λ (m : Memory). list_any (λ (r : MemRead). is_none r.domain && (r.word.0 == s)) m.reads) c.memories) e in
      ap (λ xs. at xs s) (sym settled) ∙ reads_other c.pool env s c.memories st.rows behind parts.1 ∙ processes_other c.pool env s c.processes begin parts.0

  -- a signal that is neither comb nor held has its init
  pub settled_none : (x : Sig) → slice_get c.pool.signals s ≡ Some x → is_held c s ≡ false → is_comb c s ≡ false → at env s ≡ x.init
  unfolding begin
  settled_none x is held free = settled_start free ∙ at-starts c st s x is held

  -- a number that is held stays
  pub settled_held : s < length c.pool.signals → is_held c s ≡ true → at env s ≡ at st.held s
  unfolding begin
  settled_held there held =
      let x = element c.pool.signals s there in
      settled_start (held_uncomb c design s held) ∙ at-starts_held c st s x.0 x.1 held

  -- ---- what a comb process leaves

  comb_count : (cur : List ℤ) (p : DesignProcess) → length (comb_process c.pool env cur p) ≡ length cur
  comb_count cur p = cond_both (is_none p.domain) (put c.pool env p.body cur) cur (λ xs. length xs ≡ length cur) (λ e. put_length c.pool env p.body cur) (λ e. refl)

  comb_others : (cur : List ℤ) (p : DesignProcess) → is_among (driven_by c p) s ≡ false → at (comb_process c.pool env cur p) s ≡ at cur s
  comb_others cur p h = cond_both (is_none p.domain) (put c.pool env p.body cur) cur (λ xs. at xs s ≡ at cur s) (λ e. put_other c.pool env p.body cur s h) (λ e. refl)

  -- what a comb process starts from, where it alone drives the signal
  pub record IsLeft (x : Sig) (p : DesignProcess) : Type 0 where
    pub then : List ℤ
    pub long : length then ≡ length c.pool.signals
    pub first : at then s ≡ x.init
    pub result : at env s ≡ at (put c.pool env p.body then) s

  pub settled_by : (x : Sig) (p : DesignProcess) → slice_get c.pool.signals s ≡ Some x → is_held c s ≡ false → IsOnly (driven_by c) s c.processes p → p.domain ≡ None → IsLeft x p
  unfolding begin behind
  settled_by x p is held o d =
      let r = fold_only (driven_by c) s (comb_process c.pool env) comb_count comb_others c.processes p begin o in
      let comb : comb_process c.pool env r.then p ≡ put c.pool env p.body r.then = ap (λ t. cond (is_none t) (put c.pool env p.body r.then) r.then) d in
      record {
        then = r.then;
        long = r.long ∙ length-starts c st 0 c.pool.signals;
        first = r.same ∙ at-starts c st s x is held;
        result =
            ap (λ xs. at xs s) (sym settled) ∙ reads_other c.pool env s c.memories st.rows behind (kind_none s (λ (q : MemRead). is_none q.domain) c.memories (process_unread c design s p o)) ∙ r.result
            ∙ ap (λ xs. at xs s) comb;
      }
