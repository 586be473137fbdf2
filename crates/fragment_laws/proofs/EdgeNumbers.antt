-- What an event leaves in a signal of a design, by who drives it.
use Rattle.std.specs.Prelude.{◌≡◌, refl, ℕ, ◌<◌, Bool, true, false, if◌then◌else◌, List, [], ◌∷◌, length, slice_get, slice_set, ℤ, pos, Option, Some, None, fold}
use Rattle.std.specs.List.{find}
use Rattle.std.proofs.Common.{◌∙◌, ap, arith}
use Rattle.std.proofs.lemmas.Bool.{cond_both, eqb-true}
use Rattle.std.proofs.lemmas.List.{length-set, get_or-set_same, get_or-set_other}
use Rattle.design_ir.specs.declared.ids.DomainId.{DomainId}
use Rattle.design_ir.specs.declared.memory.MemRead.{MemRead}
use Rattle.design_ir.specs.declared.memory.Memory.{Memory}
use Rattle.design_ir.specs.declared.process.DesignProcess.{DesignProcess}
use Rattle.design_ir.specs.declared.event.Event.{Event}
use Rattle.design_ir.specs.Guards.{driven}
use Rattle.design_ir.specs.Put.{put}
use Rattle.design_ir.specs.Clearing.{own}
use Rattle.design_ir.specs.Circuits.{Circuit, State, option_test, at}
use Rattle.design_ir.specs.Steps.{is_active, is_reset, is_cleared, reset_all, clocked_at, clocked, read_word, reads_now, clocked_read, clocked_reads, moved, step}
use Rattle.design_ir.proofs.PutLaws.{put_length, put_other}
use Rattle.design_ir.proofs.Resets.{resets_length, resets_at, resets_other}
use Rattle.design_ir.proofs.ClearedLaws.{resets_act}
use Rattle.fragment_laws.specs.Givers.{ReadPort}
use Rattle.fragment_laws.specs.Settling.{rows_of}
use Rattle.fragment_laws.specs.Roots.{IsStateOf}
use Rattle.fragment_laws.proofs.Once.{NonePass, IsOnly, find_only, find_none, fold_length, fold_none, fold_only, none_of_kind, only_of_kind}
use Rattle.fragment_laws.proofs.PutsHere.{put_here}
use Rattle.fragment_laws.proofs.PortFolds.{reads_by, port_by, reads_folded}
use Rattle.fragment_laws.proofs.OneDriver.{IsDrivenOnce, drives, reads, ports, processes_once, ports_once, no_port}
use Rattle.fragment_laws.proofs.DeltaNumbers.{set_apart}

module _ (c : Circuit) (st : State) (env : List ℤ) (listed : List DomainId) where
  edge_port : Memory → List ℤ → List ℤ → MemRead → List ℤ
  edge_port m rows cur r = clocked_read c env listed m rows cur r

  edge_reads_by : (ms : List Memory) (rows : List (List ℤ)) (cur : List ℤ) → clocked_reads c env listed ms rows cur ≡ reads_by edge_port ms rows cur
  unfolding edge_port
  edge_reads_by [] rows cur = refl
  edge_reads_by (m ∷ ms) [] cur = refl
  edge_reads_by (m ∷ ms) (rows ∷ more) cur = edge_reads_by ms more (fold (clocked_read c env listed m rows) cur m.reads)

  abbrev port_step : List ℤ → ReadPort → List ℤ
  port_step cur x = port_by edge_port st.rows cur x

  word : ReadPort → ℤ
  word x = read_word c env listed x.memory (rows_of st x.number) x.port

  abbrev pub left : List ℤ
  left = fold (clocked c env listed) st.held c.processes

  module _ (rules : IsDrivenOnce c) (sized : IsStateOf c st) (s : ℕ) where
    -- ---- one process, one port

    process_count : (cur : List ℤ) (x : DesignProcess) → length (clocked c env listed cur x) ≡ length cur
    process_count cur x = at_domain x.domain
      where
        put_count : length (put c.pool env x.body cur) ≡ length cur
        put_count = put_length c.pool env x.body cur

        at_domain : (o : Option DomainId) → length (clocked_at c env listed x cur o) ≡ length cur
        at_domain None = refl
        at_domain (Some d) =
            let after : List ℤ = put c.pool env x.body cur in
            cond_both (is_active c env listed d.0) (if is_reset c env d.0 then reset_all c.pool.signals after (driven c.pool x.body) else after) cur (λ ys. length ys ≡ length cur)
            (λ t. cond_both (is_reset c env d.0) (reset_all c.pool.signals after (driven c.pool x.body)) after (λ ys. length ys ≡ length cur) (λ u. resets_length c.pool.signals (driven c.pool x.body) after ∙ put_count) (λ u. put_count))
            (λ t. refl)

    process_other : (cur : List ℤ) (x : DesignProcess) → drives c s x ≡ false → at (clocked c env listed cur x) s ≡ at cur s
    process_other cur x e = at_domain x.domain
      where
        put_same : at (put c.pool env x.body cur) s ≡ at cur s
        put_same = put_other c.pool env x.body cur s e

        at_domain : (o : Option DomainId) → at (clocked_at c env listed x cur o) s ≡ at cur s
        at_domain None = refl
        at_domain (Some d) =
            let after : List ℤ = put c.pool env x.body cur in
            cond_both (is_active c env listed d.0) (if is_reset c env d.0 then reset_all c.pool.signals after (driven c.pool x.body) else after) cur (λ ys. at ys s ≡ at cur s)
            (λ t. cond_both (is_reset c env d.0) (reset_all c.pool.signals after (driven c.pool x.body)) after (λ ys. at ys s ≡ at cur s) (λ u. resets_other c.pool.signals (driven c.pool x.body) after s e ∙ put_same) (λ u. put_same))
            (λ t. refl)

    port_count : (cur : List ℤ) (x : ReadPort) → length (port_step cur x) ≡ length cur
    unfolding edge_port word
    port_count cur x = cond_both (reads_now c env listed x.port) (slice_set cur x.port.word.0 (word x)) cur (λ ys. length ys ≡ length cur) (λ t. length-set cur x.port.word.0 (word x)) (λ t. refl)

    port_other : (cur : List ℤ) (x : ReadPort) → reads c s x ≡ false → at (port_step cur x) s ≡ at cur s
    unfolding edge_port word
    port_other cur x e =
        cond_both (reads_now c env listed x.port) (slice_set cur x.port.word.0 (word x)) cur (λ ys. at ys s ≡ at cur s) (λ t. get_or-set_other cur x.port.word.0 s (word x) (pos 0) (set_apart s x.port.word.0 e)) (λ t. refl)

    -- ---- all of them

    abbrev pub taken : List ℤ
    taken = clocked_reads c env listed c.memories st.rows left

    taken_folded : taken ≡ fold port_step left (ports c s)
    taken_folded = edge_reads_by c.memories st.rows left ∙ reads_folded edge_port c.memories st.rows left sized.rows

    left_length : length left ≡ length st.held
    left_length = fold_length (drives c s) s (clocked c env listed) process_count process_other c.processes st.held

    pub taken_length : length taken ≡ length c.pool.signals
    taken_length = ap length taken_folded ∙ fold_length (reads c s) s port_step port_count port_other (ports c s) left ∙ left_length ∙ sized.held

    module _ (there : s < length c.pool.signals) where
      -- ---- by who drives it

      abbrev pub register_after : DesignProcess → Option DomainId → ℤ
      register_after p None = at st.held s
      register_after p (Some d) =
          let n : ℤ = at (put c.pool env p.body st.held) s in
          if is_active c env listed d.0 then (if is_reset c env d.0 then own (slice_get c.pool.signals s) n else n) else at st.held s

      abbrev pub taken_number : Option DesignProcess → Option ReadPort → ℤ
      taken_number (Some p) r = register_after p p.domain
      taken_number None (Some x) = if reads_now c env listed x.port then read_word c env listed x.memory (rows_of st x.number) x.port else at st.held s
      taken_number None None = at st.held s

      by_process : (p : DesignProcess) → IsOnly (drives c s) c.processes p → at taken s ≡ register_after p p.domain
      by_process p o =
          let f = fold_only (drives c s) s (clocked c env listed) process_count process_other c.processes p st.held o in
          ap (λ ys. at ys s) taken_folded
          ∙ fold_none (reads c s) s port_step port_count port_other (ports c s) left (no_port c s rules p o)
          ∙ f.result
          ∙ by_domain p.domain f.then f.same f.long
        where
          by_domain : (d : Option DomainId) (mid : List ℤ) → at mid s ≡ at st.held s → length mid ≡ length st.held → at (clocked_at c env listed p mid d) s ≡ register_after p d
          by_domain None mid same long = same
          by_domain (Some d) mid same long =
              let after : List ℤ = put c.pool env p.body mid in
              let put_same : at after s ≡ at (put c.pool env p.body st.held) s = put_here c.pool env s p.body mid st.held long same in
              let wide : s < length after = omega (arith, there, sized.held, long, put_length c.pool env p.body mid) in
              let cleared_same : at (reset_all c.pool.signals after (driven c.pool p.body)) s ≡ own (slice_get c.pool.signals s) (at (put c.pool env p.body st.held) s) =
              resets_at c.pool.signals (driven c.pool p.body) after s wide ∙ ap (λ b. if b then own (slice_get c.pool.signals s) (at after s) else at after s) o.here ∙ ap (own (slice_get c.pool.signals s)) put_same in
              choose (is_active c env listed d.0) (is_reset c env d.0) after (reset_all c.pool.signals after (driven c.pool p.body)) mid put_same cleared_same same
            where
              choose : (a b : Bool) (xs ys zs : List ℤ) {l m n : ℤ} → at xs s ≡ l → at ys s ≡ m → at zs s ≡ n → at (if a then (if b then ys else xs) else zs) s ≡ (if a then (if b then m else l) else n)
              choose true true xs ys zs e f g = f
              choose true false xs ys zs e f g = e
              choose false b xs ys zs e f g = g

      by_port : (x : ReadPort) → NonePass (drives c s) c.processes → IsOnly (reads c s) (ports c s) x → at taken s ≡ (if reads_now c env listed x.port then read_word c env listed x.memory (rows_of st x.number) x.port else at st.held s)
      unfolding edge_port
      by_port x none o =
          let f = fold_only (reads c s) s port_step port_count port_other (ports c s) x left o in
          ap (λ ys. at ys s) taken_folded
          ∙ f.result
          ∙ by (reads_now c env listed x.port) f.then (f.same ∙ fold_none (drives c s) s (clocked c env listed) process_count process_other c.processes st.held none) (f.long ∙ left_length ∙ sized.held)
        where
          by : (b : Bool) (mid : List ℤ) → at mid s ≡ at st.held s → length mid ≡ length c.pool.signals
              → at (if b then slice_set mid x.port.word.0 (read_word c env listed x.memory (rows_of st x.number) x.port) else mid) s ≡ (if b then read_word c env listed x.memory (rows_of st x.number) x.port else at st.held s)
          by true mid same long =
              let n : ℤ = read_word c env listed x.memory (rows_of st x.number) x.port in
              ap (λ k. at (slice_set mid k n) s) (eqb-true x.port.word.0 s o.here) ∙ get_or-set_same mid s n (pos 0) (omega (arith, there, long))
          by false mid same long = same

      by_nobody : NonePass (drives c s) c.processes → NonePass (reads c s) (ports c s) → at taken s ≡ at st.held s
      by_nobody none nothing =
          ap (λ ys. at ys s) taken_folded
          ∙ fold_none (reads c s) s port_step port_count port_other (ports c s) left nothing
          ∙ fold_none (drives c s) s (clocked c env listed) process_count process_other c.processes st.held none

      pub taken_at : (o : Option DesignProcess) (r : Option ReadPort) → find (drives c s) c.processes ≡ o → find (reads c s) (ports c s) ≡ r → at taken s ≡ taken_number o r
      taken_at (Some p) r e f = by_process p (find_only (drives c s) c.processes p (processes_once c s rules) e)
      taken_at None (Some x) e f = by_port x (find_none (drives c s) c.processes e) (find_only (reads c s) (ports c s) x (ports_once c s rules) f)
      taken_at None None e f = by_nobody (find_none (drives c s) c.processes e) (find_none (reads c s) (ports c s) f)

-- ---- asynchronous resets

module _ (c : Circuit) (rules : IsDrivenOnce c) (st : State) (env : List ℤ) (e : Event) (s : ℕ) where
  abbrev held : List ℤ
  held = (moved c st env e).held

  abbrev clears_it : DesignProcess → Bool
  clears_it x = option_test (λ (d : DomainId). is_cleared c held d.0) x.domain

  abbrev pub cleared_number : Option DesignProcess → ℤ
  cleared_number None = at (moved c st env e).held s
  cleared_number (Some p) = if option_test (λ (d : DomainId). is_cleared c (moved c st env e).held d.0) p.domain then own (slice_get c.pool.signals s) (at (moved c st env e).held s) else at (moved c st env e).held s

  pub cleared_at : (o : Option DesignProcess) → s < length (moved c st env e).held → find (drives c s) c.processes ≡ o → at (step c st env e).held s ≡ cleared_number o
  cleared_at None there f =
      resets_act c st env e s there
      ∙ ap (λ b. if b then own (slice_get c.pool.signals s) (at held s) else at held s) (none_of_kind (drives c s) clears_it c.processes (find_none (drives c s) c.processes f))
  cleared_at (Some p) there f =
      resets_act c st env e s there
      ∙ ap (λ b. if b then own (slice_get c.pool.signals s) (at held s) else at held s) (only_of_kind (drives c s) clears_it c.processes p (find_only (drives c s) c.processes p (processes_once c s rules) f))
