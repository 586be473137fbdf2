-- The names of its memories say nothing of how a design settles and steps.
use Rattle.std.specs.Prelude.{◌≡◌, refl, ℕ, suc, ◌==◌, ◌&&◌, ◌||◌, if◌then◌else◌, is_some, List, [], ◌∷◌, ◌++◌, map, length, nat_lt, slice_set, ℤ, pos, Option, Some, None, fold}
use Rattle.std.specs.List.{flat_map, list_any}
use Rattle.std.proofs.Common.{◌∙◌, ap}
use Rattle.design_ir.specs.declared.ids.DomainId.{DomainId}
use Rattle.design_ir.specs.declared.signal.Sig.{Sig}
use Rattle.design_ir.specs.declared.memory.MemWrite.{MemWrite}
use Rattle.design_ir.specs.declared.memory.MemRead.{MemRead}
use Rattle.design_ir.specs.declared.memory.Memory.{Memory}
use Rattle.design_ir.specs.declared.process.DesignProcess.{DesignProcess}
use Rattle.design_ir.specs.declared.event.Event.{Event}
use Rattle.design_ir.specs.declared.event.Event.TheVariants.{Set, Edge}
use Rattle.design_ir.specs.Guards.{driven}
use Rattle.design_ir.specs.Rows.{written, address}
use Rattle.design_ir.specs.Circuits.{Circuit, State, is_among, is_register}
use Rattle.design_ir.specs.Circuits as circuit
use Rattle.design_ir.specs.Designs.{drivers}
use Rattle.design_ir.specs.Settled.{starts, comb_process, comb_read, comb_reads, delta}
use Rattle.design_ir.specs.Steps.{toggle, clocked_at, clocked, cleared_at, cleared, write_row, rows_after, writes_through, shown_through, reads_now, clocked_read, clocked_reads, moved, all_cleared, step, first_state}
use Rattle.fragment_laws.specs.Parts.{unnamed}
use Rattle.fragment_laws.proofs.Once.{any_mapped}

pub fold_every : {A B : Type 0} (f g : B → A → B) → ((b : B) (x : A) → f b x ≡ g b x) → (xs : List A) (b : B) → fold f b xs ≡ fold g b xs
fold_every f g each [] b = refl
fold_every f g each (x ∷ xs) b = ap (λ c. fold f c xs) (each b x) ∙ fold_every f g each xs (g b x)

module _ (c : Circuit) where
  abbrev bare : Circuit
  bare = record c { memories = map unnamed c.memories }

  words_bare : (ms : List Memory) → flat_map (λ (m : Memory). map (λ (r : MemRead). r.word.0 ∷ []) m.reads) (map unnamed ms) ≡ flat_map (λ (m : Memory). map (λ (r : MemRead). r.word.0 ∷ []) m.reads) ms
  words_bare [] = refl
  words_bare (m ∷ ms) = ap (λ xs. map (λ (r : MemRead). r.word.0 ∷ []) m.reads ++ xs) (words_bare ms)

  pub drivers_bare : drivers bare ≡ drivers c
  drivers_bare = ap (λ xs. map (λ (x : DesignProcess). driven c.pool x.body) c.processes ++ xs) (words_bare c.memories)

  register_bare : (s : ℕ) → is_register bare s ≡ is_register c s
  register_bare s =
      ap (λ b. list_any (λ (x : DesignProcess). is_some x.domain && is_among (driven c.pool x.body) s) c.processes || b)
      (any_mapped (λ (m : Memory). list_any (λ (r : MemRead). is_some r.domain && (r.word.0 == s)) m.reads) unnamed c.memories)

  starts_bare : (st : State) (s : ℕ) (xs : List Sig) → starts bare st s xs ≡ starts c st s xs
  starts_bare st s [] = refl
  starts_bare st s (x ∷ xs) = let a = register_bare s in let b = starts_bare st (suc s) xs in cc

  comb_reads_bare : (env : List ℤ) (ms : List Memory) (rows : List (List ℤ)) (cur : List ℤ) → comb_reads c.pool env (map unnamed ms) rows cur ≡ comb_reads c.pool env ms rows cur
  comb_reads_bare env [] rows cur = refl
  comb_reads_bare env (m ∷ ms) [] cur = refl
  comb_reads_bare env (m ∷ ms) (rows ∷ more) cur = comb_reads_bare env ms more (fold (comb_read c.pool env rows) cur m.reads)

  pub delta_bare : (st : State) (env : List ℤ) → delta bare st env ≡ delta c st env
  delta_bare st env =
      ap (λ xs. comb_reads c.pool env (map unnamed c.memories) st.rows (fold (comb_process c.pool env) xs c.processes)) (starts_bare st 0 c.pool.signals)
      ∙ comb_reads_bare env c.memories st.rows (fold (comb_process c.pool env) (starts c st 0 c.pool.signals) c.processes)

  module _ (env : List ℤ) (listed : List DomainId) where
    clocked_bare : (cur : List ℤ) (x : DesignProcess) → clocked bare env listed cur x ≡ clocked c env listed cur x
    clocked_bare cur x = at_domain x.domain
      where
        at_domain : (o : Option DomainId) → clocked_at bare env listed x cur o ≡ clocked_at c env listed x cur o
        at_domain None = refl
        at_domain (Some d) = refl

    rows_bare : (ms : List Memory) (rows : List (List ℤ)) → rows_after bare env listed (map unnamed ms) rows ≡ rows_after c env listed ms rows
    rows_bare [] rows = refl
    rows_bare (m ∷ ms) [] = refl
    rows_bare (m ∷ ms) (rows ∷ more) =
        let a = fold_every (write_row bare env listed (unnamed m)) (write_row c env listed m) (λ xs w. refl) m.writes rows in
        let b = rows_bare ms more in
        cc

    through_bare : (m : Memory) (through : List ℕ) (addr i : ℕ) (ws : List MemWrite) (row : ℤ) → shown_through bare env listed (unnamed m) through addr i ws row ≡ shown_through c env listed m through addr i ws row
    through_bare m through addr i [] row = refl
    through_bare m through addr i (w ∷ ws) row = through_bare m through addr (suc i) ws (if writes_through c env listed through addr i w then written c.pool env m row w else row)

    read_bare : (m : Memory) (rows cur : List ℤ) (r : MemRead) → clocked_read bare env listed (unnamed m) rows cur r ≡ clocked_read c env listed m rows cur r
    read_bare m rows cur r =
        let addr : ℕ = address c.pool env r.addr in
        ap (λ n. if reads_now c env listed r then slice_set cur r.word.0 (if nat_lt addr (length rows) then n else pos 0) else cur) (through_bare m r.transparent addr 0 m.writes (circuit.at rows addr))

    reads_bare : (ms : List Memory) (rows : List (List ℤ)) (cur : List ℤ) → clocked_reads bare env listed (map unnamed ms) rows cur ≡ clocked_reads c env listed ms rows cur
    reads_bare [] rows cur = refl
    reads_bare (m ∷ ms) [] cur = refl
    reads_bare (m ∷ ms) (rows ∷ more) cur =
        ap (clocked_reads bare env listed (map unnamed ms) more) (fold_every (clocked_read bare env listed (unnamed m) rows) (clocked_read c env listed m rows) (read_bare m rows) m.reads cur)
        ∙ reads_bare ms more (fold (clocked_read c env listed m rows) cur m.reads)

  moved_bare : (st : State) (env : List ℤ) (e : Event) → moved bare st env e ≡ moved c st env e
  moved_bare st env (Set s n) = refl
  moved_bare st env (Edge listed) =
      let a = fold_every (clocked bare env listed) (clocked c env listed) (clocked_bare env listed) c.processes st.held in
      let b = reads_bare env listed c.memories st.rows (fold (clocked c env listed) st.held c.processes) in
      let held : List ℤ → List ℤ = λ xs. fold (toggle c.domains) xs listed in
      let e = ap held (ap (clocked_reads bare env listed (map unnamed c.memories) st.rows) a ∙ b) in
      let f = rows_bare env listed c.memories st.rows in
      cc

  clears_bare : (held cur : List ℤ) (x : DesignProcess) → cleared bare held cur x ≡ cleared c held cur x
  clears_bare held cur x = at_domain x.domain
    where
      at_domain : (o : Option DomainId) → cleared_at bare held x cur o ≡ cleared_at c held x cur o
      at_domain None = refl
      at_domain (Some d) = refl

  pub step_bare : (st : State) (env : List ℤ) (e : Event) → step bare st env e ≡ step c st env e
  step_bare st env e =
      ap (all_cleared bare) (moved_bare st env e)
      ∙ (let m : State = moved c st env e in ap (λ xs. record m { held = xs }) (fold_every (cleared bare m.held) (cleared c m.held) (clears_bare m.held) c.processes m.held))

  rows_of_bare : (ms : List Memory) → map (λ (m : Memory). m.rows) (map unnamed ms) ≡ map (λ (m : Memory). m.rows) ms
  rows_of_bare [] = refl
  rows_of_bare (m ∷ ms) = ap (λ xs. m.rows ∷ xs) (rows_of_bare ms)

  pub first_bare : first_state bare ≡ first_state c
  first_bare = let e = rows_of_bare c.memories in cc
