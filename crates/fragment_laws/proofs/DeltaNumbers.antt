-- What computing everything at once gives a signal of a design, by who drives it.
use Rattle.std.specs.Prelude.{◌≡◌, ◌≢◌, refl, ℕ, suc, ◌<◌, ◌==◌, Bool, true, false, if◌then◌else◌, is_some, is_none, List, [], ◌∷◌, map, length, slice_set, ℤ, pos, Option, Some, None, fold}
use Rattle.std.specs.List.{find}
use Rattle.std.proofs.Common.{sym, ◌∙◌, ap, arith}
use Rattle.std.proofs.lemmas.Bool.{cond_both, false≢true, eq-eqb, eqb-true}
use Rattle.std.proofs.lemmas.List.{length-set, get_or-set_same, get_or-set_other}
use Rattle.design_ir.specs.declared.ids.DomainId.{DomainId}
use Rattle.design_ir.specs.declared.signal.Sig.{Sig}
use Rattle.design_ir.specs.declared.memory.MemRead.{MemRead}
use Rattle.design_ir.specs.declared.memory.Memory.{Memory}
use Rattle.design_ir.specs.declared.process.DesignProcess.{DesignProcess}
use Rattle.design_ir.specs.Put.{put}
use Rattle.design_ir.specs.Rows.{row_at}
use Rattle.design_ir.specs.Circuits.{Circuit, State, at, is_input, is_held}
use Rattle.design_ir.specs.Settled.{starts, comb_process, comb_read, comb_reads, delta}
use Rattle.design_ir.proofs.PutLaws.{put_length, put_other}
use Rattle.fragment_laws.specs.Givers.{ReadPort}
use Rattle.fragment_laws.specs.Settling.{inits, rows_of}
use Rattle.fragment_laws.specs.Roots.{HasRows}
use Rattle.fragment_laws.proofs.Once.{NonePass, IsOnly, find_only, find_none, fold_length, fold_none, fold_only}
use Rattle.fragment_laws.proofs.PutsHere.{put_here}
use Rattle.fragment_laws.proofs.PortFolds.{reads_by, port_by, reads_folded}
use Rattle.fragment_laws.proofs.OneDriver.{IsDrivenOnce, drives, reads, ports, processes_once, ports_once, no_port, driven_held, read_held, free_held, starts_at, starts_length}

pub length_map : {A B : Type 0} (f : A → B) (xs : List A) → length (map f xs) ≡ length xs
length_map f [] = refl
length_map f (x ∷ xs) = ap suc (length_map f xs)

pub set_apart : (s w : ℕ) → (w == s) ≡ false → s ≢ w
set_apart s w e q = false≢true (sym e ∙ eq-eqb w s (sym q))

module _ (c : Circuit) (st : State) (env : List ℤ) where
  abbrev comb_port : Memory → List ℤ → List ℤ → MemRead → List ℤ
  comb_port m rows cur r = comb_read c.pool env rows cur r

  comb_reads_by : (ms : List Memory) (rows : List (List ℤ)) (cur : List ℤ) → comb_reads c.pool env ms rows cur ≡ reads_by comb_port ms rows cur
  comb_reads_by [] rows cur = refl
  comb_reads_by (m ∷ ms) [] cur = refl
  comb_reads_by (m ∷ ms) (rows ∷ more) cur = comb_reads_by ms more (fold (comb_read c.pool env rows) cur m.reads)

  abbrev port_step : List ℤ → ReadPort → List ℤ
  port_step cur x = port_by comb_port st.rows cur x

  begun : List ℤ
  begun = starts c st 0 c.pool.signals

  left : List ℤ
  left = fold (comb_process c.pool env) begun c.processes

  module _ (rules : IsDrivenOnce c) (rows : HasRows c st) (s : ℕ) where
    -- ---- one process, one port

    process_count : (cur : List ℤ) (x : DesignProcess) → length (comb_process c.pool env cur x) ≡ length cur
    process_count cur x = cond_both (is_none x.domain) (put c.pool env x.body cur) cur (λ ys. length ys ≡ length cur) (λ t. put_length c.pool env x.body cur) (λ t. refl)

    process_other : (cur : List ℤ) (x : DesignProcess) → drives c s x ≡ false → at (comb_process c.pool env cur x) s ≡ at cur s
    process_other cur x e = cond_both (is_none x.domain) (put c.pool env x.body cur) cur (λ ys. at ys s ≡ at cur s) (λ t. put_other c.pool env x.body cur s e) (λ t. refl)

    port_count : (cur : List ℤ) (x : ReadPort) → length (port_step cur x) ≡ length cur
    port_count cur x =
        let n : ℤ = row_at c.pool env (rows_of st x.number) x.port.addr in
        cond_both (is_none x.port.domain) (slice_set cur x.port.word.0 n) cur (λ ys. length ys ≡ length cur) (λ t. length-set cur x.port.word.0 n) (λ t. refl)

    port_other : (cur : List ℤ) (x : ReadPort) → reads c s x ≡ false → at (port_step cur x) s ≡ at cur s
    port_other cur x e =
        let n : ℤ = row_at c.pool env (rows_of st x.number) x.port.addr in
        cond_both (is_none x.port.domain) (slice_set cur x.port.word.0 n) cur (λ ys. at ys s ≡ at cur s) (λ t. get_or-set_other cur x.port.word.0 s n (pos 0) (set_apart s x.port.word.0 e)) (λ t. refl)

    -- ---- all of them

    delta_folded : delta c st env ≡ fold port_step left (ports c s)
    unfolding left begun
    delta_folded = comb_reads_by c.memories st.rows left ∙ reads_folded comb_port c.memories st.rows left rows

    begun_length : length begun ≡ length c.pool.signals
    unfolding begun
    begun_length = starts_length c s st 0 c.pool.signals

    left_length : length left ≡ length begun
    unfolding left
    left_length = fold_length (drives c s) s (comb_process c.pool env) process_count process_other c.processes begun

    pub delta_length : length (delta c st env) ≡ length c.pool.signals
    delta_length = ap length delta_folded ∙ fold_length (reads c s) s port_step port_count port_other (ports c s) left ∙ left_length ∙ begun_length

    module _ (there : s < length c.pool.signals) where
      begun_at : at begun s ≡ (if is_held c s then at st.held s else at (inits c.pool) s)
      unfolding begun
      begun_at = starts_at c s st there

      begun_held : (b : Bool) → is_held c s ≡ b → at begun s ≡ (if b then at st.held s else at (inits c.pool) s)
      begun_held b e = begun_at ∙ ap (λ t. if t then at st.held s else at (inits c.pool) s) e

      -- ---- by who drives it

      abbrev pub delta_number : Option DesignProcess → Option ReadPort → ℤ
      delta_number (Some p) r = if is_none p.domain then at (put c.pool env p.body (inits c.pool)) s else at st.held s
      delta_number None (Some x) = if is_none x.port.domain then row_at c.pool env (rows_of st x.number) x.port.addr else at st.held s
      delta_number None None = if is_input c s then at st.held s else at (inits c.pool) s

      by_process : (p : DesignProcess) → IsOnly (drives c s) c.processes p → at (delta c st env) s ≡ (if is_none p.domain then at (put c.pool env p.body (inits c.pool)) s else at st.held s)
      unfolding left
      by_process p o =
          let f = fold_only (drives c s) s (comb_process c.pool env) process_count process_other c.processes p begun o in
          ap (λ ys. at ys s) delta_folded
          ∙ fold_none (reads c s) s port_step port_count port_other (ports c s) left (no_port c s rules p o)
          ∙ f.result
          ∙ by_domain p.domain refl f.then f.same (f.long ∙ begun_length)
        where
          by_domain : (d : Option DomainId) → p.domain ≡ d → (mid : List ℤ) → at mid s ≡ at begun s → length mid ≡ length c.pool.signals
              → at (if is_none d then put c.pool env p.body mid else mid) s ≡ (if is_none d then at (put c.pool env p.body (inits c.pool)) s else at st.held s)
          by_domain None e mid same long =
              put_here c.pool env s p.body mid (inits c.pool) (long ∙ sym (length_map (λ (x : Sig). x.init) c.pool.signals)) (same ∙ begun_held false (driven_held c s rules p o ∙ ap is_some e))
          by_domain (Some d) e mid same long = same ∙ begun_held true (driven_held c s rules p o ∙ ap is_some e)

      by_port : (x : ReadPort) → NonePass (drives c s) c.processes → IsOnly (reads c s) (ports c s) x → at (delta c st env) s ≡ (if is_none x.port.domain then row_at c.pool env (rows_of st x.number) x.port.addr else at st.held s)
      unfolding left
      by_port x none o =
          let f = fold_only (reads c s) s port_step port_count port_other (ports c s) x left o in
          ap (λ ys. at ys s) delta_folded
          ∙ f.result
          ∙ by_domain x.port.domain refl f.then (f.same ∙ fold_none (drives c s) s (comb_process c.pool env) process_count process_other c.processes begun none) (f.long ∙ left_length ∙ begun_length)
        where
          n : ℤ
          n = row_at c.pool env (rows_of st x.number) x.port.addr

          by_domain : (d : Option (List ℕ)) → x.port.domain ≡ d → (mid : List ℤ) → at mid s ≡ at begun s → length mid ≡ length c.pool.signals
              → at (if is_none d then slice_set mid x.port.word.0 n else mid) s ≡ (if is_none d then n else at st.held s)
          by_domain None e mid same long =
              let here : x.port.word.0 ≡ s = eqb-true x.port.word.0 s o.here in
              ap (λ k. at (slice_set mid k n) s) here ∙ get_or-set_same mid s n (pos 0) (omega (arith, there, long))
          by_domain (Some d) e mid same long = same ∙ begun_held true (read_held c s rules x none o ∙ ap is_some e)

      by_nobody : NonePass (drives c s) c.processes → NonePass (reads c s) (ports c s) → at (delta c st env) s ≡ (if is_input c s then at st.held s else at (inits c.pool) s)
      unfolding left
      by_nobody none nothing =
          ap (λ ys. at ys s) delta_folded
          ∙ fold_none (reads c s) s port_step port_count port_other (ports c s) left nothing
          ∙ fold_none (drives c s) s (comb_process c.pool env) process_count process_other c.processes begun none
          ∙ begun_held (is_input c s) (free_held c s rules none nothing)

      pub delta_at : (o : Option DesignProcess) (r : Option ReadPort) → find (drives c s) c.processes ≡ o → find (reads c s) (ports c s) ≡ r → at (delta c st env) s ≡ delta_number o r
      delta_at (Some p) r e f = by_process p (find_only (drives c s) c.processes p (processes_once c s rules) e)
      delta_at None (Some x) e f = by_port x (find_none (drives c s) c.processes e) (find_only (reads c s) (ports c s) x (ports_once c s rules) f)
      delta_at None None e f = by_nobody (find_none (drives c s) c.processes e) (find_none (reads c s) (ports c s) f)
