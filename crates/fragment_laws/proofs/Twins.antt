-- A design over another pool in which its expressions mean the same settles and steps as before.
use Rattle.std.specs.Prelude.{◌≡◌, refl, ℕ, suc, ◌+◌, ◌==◌, ◌&&◌, ◌||◌, nat_lt, not, Bool, if◌then◌else◌, is_some, is_none, List, [], ◌∷◌, ◌++◌, map, length, slice_set, ℤ, pos, Option, Some, None, fold}
use Rattle.std.specs.List.{AllByRecursion, flat_map, list_any}
use Rattle.std.specs.Option.{option_map_or}
use Rattle.std.proofs.Common.{◌∙◌, ap}
use Rattle.amh_bits.specs.Patterns.{nat_bit}
use Rattle.shape_rules.specs.Operators.{is_zero}
use Rattle.design_ir.specs.declared.ids.DomainId.{DomainId}
use Rattle.design_ir.specs.declared.ids.ExprId.{ExprId}
use Rattle.design_ir.specs.declared.signal.Sig.{Sig}
use Rattle.design_ir.specs.declared.memory.MemWrite.{MemWrite}
use Rattle.design_ir.specs.declared.memory.MemRead.{MemRead}
use Rattle.design_ir.specs.declared.memory.Memory.{Memory}
use Rattle.design_ir.specs.declared.process.DesignProcess.{DesignProcess}
use Rattle.design_ir.specs.declared.event.Event.{Event}
use Rattle.design_ir.specs.declared.event.Event.TheVariants.{Set, Edge}
use Rattle.design_ir.specs.Trees.{Statement, assign, choose, Choices, none, arm, Block, done, next}
use Rattle.design_ir.specs.Pools.{Pooled}
use Rattle.design_ir.specs.Values.{num}
use Rattle.design_ir.specs.Targets.{Bit, target_bits, target_signals}
use Rattle.design_ir.specs.Put.{put, put_statement, put_choices, put_number, put_bits, put_bit, put_place}
use Rattle.design_ir.specs.Guards.{Guarded, guarded, driven, statement_exprs, choices_exprs, block_exprs}
use Rattle.design_ir.specs.Rows.{written, address}
use Rattle.design_ir.specs.Circuits.{Circuit, State, option_test, at, is_among, is_register}
use Rattle.design_ir.specs.Designs.{drivers}
use Rattle.design_ir.specs.Settled.{starts, comb_process, comb_read, comb_reads, delta}
use Rattle.design_ir.specs.Steps.{port_active, clock_low, toggle, clocked_at, clocked, cleared_at, cleared, write_row, rows_after, writes_through, shown_through, read_word, reads_now, clocked_read, clocked_reads, moved, all_cleared, step, first_state}
use Rattle.design_ir.proofs.DesignGrowth.{block_targets}
use Rattle.fragment_walks.specs.Held.{read_exprs, write_exprs}
use Rattle.fragment_laws.specs.SamePools.{IsSame, AllSame, IsSameMemory, AreSameIn}

-- ---- lists

pub all_imp : {A : Type 0} {P Q : A → Type 0} (f : (x : A) → P x → Q x) (xs : List A) → AllByRecursion P xs → AllByRecursion Q xs
all_imp f [] h = tt
all_imp f (x ∷ xs) h = (f x h.0, all_imp f xs h.1)

pub all_left : {A : Type 0} (P : A → Type 0) (xs ys : List A) → AllByRecursion P (xs ++ ys) → AllByRecursion P xs
all_left P [] ys h = tt
all_left P (x ∷ xs) ys h = (h.0, all_left P xs ys h.1)

pub all_right : {A : Type 0} (P : A → Type 0) (xs ys : List A) → AllByRecursion P (xs ++ ys) → AllByRecursion P ys
all_right P [] ys h = h
all_right P (x ∷ xs) ys h = all_right P xs ys h.1

pub flat_same : {A B : Type 0} (P : A → Type 0) (f g : A → List B) → ((x : A) → P x → f x ≡ g x) → (xs : List A) → AllByRecursion P xs → flat_map f xs ≡ flat_map g xs
flat_same P f g each [] h = refl
flat_same P f g each (x ∷ xs) h = let a = each x h.0 in let b = flat_same P f g each xs h.1 in cc

map_same : {A B : Type 0} (P : A → Type 0) (f g : A → B) → ((x : A) → P x → f x ≡ g x) → (xs : List A) → AllByRecursion P xs → map f xs ≡ map g xs
map_same P f g each [] h = refl
map_same P f g each (x ∷ xs) h = let a = each x h.0 in let b = map_same P f g each xs h.1 in cc

pub any_same : {A : Type 0} (P : A → Type 0) (f g : A → Bool) → ((x : A) → P x → f x ≡ g x) → (xs : List A) → AllByRecursion P xs → list_any f xs ≡ list_any g xs
any_same P f g each [] h = refl
any_same P f g each (x ∷ xs) h = let a = each x h.0 in let b = any_same P f g each xs h.1 in cc

fold_same : {A B : Type 0} (P : A → Type 0) (f g : B → A → B) → ((b : B) (x : A) → P x → f b x ≡ g b x) → (xs : List A) (b : B) → AllByRecursion P xs → fold f b xs ≡ fold g b xs
fold_same P f g each [] b h = refl
fold_same P f g each (x ∷ xs) b h = ap (λ c. fold f c xs) (each b x h.0) ∙ fold_same P f g each xs (g b x) h.1

-- ---- statements

module _ (p q : Pooled) (signals : p.signals ≡ q.signals) where
  place_same : (x : Option Bit) (b : ℕ) (cur : List ℤ) → put_place p x b cur ≡ put_place q x b cur
  place_same None b cur = refl
  place_same (Some x) b cur = ap (λ sigs. put_bit (record p { signals = sigs }) x b cur) signals

  bits_same : (xs : List (Option Bit)) (v i : ℕ) (cur : List ℤ) → put_bits p xs v i cur ≡ put_bits q xs v i cur
  bits_same [] v i cur = refl
  bits_same (x ∷ xs) v i cur = bits_same xs v (i + 1) (put_place p x (nat_bit v i) cur) ∙ ap (put_bits q xs v (i + 1)) (place_same x (nat_bit v i) cur)

  number_same : (xs : List (Option Bit)) (n : ℤ) (cur : List ℤ) → put_number p xs n cur ≡ put_number q xs n cur
  number_same xs n cur = bits_same xs _ 0 cur

  module _ (env : List ℤ) where
    mutual
      statement_same : (x : Statement) (cur : List ℤ) → AllSame p q (statement_exprs x) → put_statement p env x cur ≡ put_statement q env x cur
      statement_same (assign t v place) cur h =
          number_same (target_bits p env t.0) (num p env v.0) cur
          ∙ ap (λ xs. put_number q xs (num p env v.0) cur) (h.0.places env)
          ∙ ap (λ n. put_number q (target_bits q env t.0) n cur) (h.1.0.value env)
      statement_same (choose arms) cur h = choices_same arms cur h

      choices_same : (arms : Choices) (cur : List ℤ) → AllSame p q (choices_exprs arms) → put_choices p env arms cur ≡ put_choices q env arms cur
      choices_same none cur h = refl
      choices_same (arm c body others) cur h =
          let n = h.0.value env in
          let a = choices_same others cur (all_right (λ (e : ExprId). IsSame p q e.0) (block_exprs body) (choices_exprs others) h.1) in
          let b = put_same body cur (all_left (λ (e : ExprId). IsSame p q e.0) (block_exprs body) (choices_exprs others) h.1) in
          cc

      pub put_same : (b : Block) (cur : List ℤ) → AllSame p q (block_exprs b) → put p env b cur ≡ put q env b cur
      put_same done cur h = refl
      put_same (next x rest) cur h =
          put_same rest (put_statement p env x cur) (all_right (λ (e : ExprId). IsSame p q e.0) (statement_exprs x) (block_exprs rest) h)
          ∙ ap (put q env rest) (statement_same x cur (all_left (λ (e : ExprId). IsSame p q e.0) (statement_exprs x) (block_exprs rest) h))

  pub driven_same : (b : Block) → AllSame p q (block_exprs b) → driven p b ≡ driven q b
  driven_same b h =
      flat_same (λ (g : Guarded). IsSame p q g.target.0) (λ (g : Guarded). target_signals p g.target.0) (λ (g : Guarded). target_signals q g.target.0) (λ g s. s.signals) (guarded [] b)
      (block_targets (λ (e : ExprId). IsSame p q e.0) [] b h)

-- ---- designs

module _ (c : Circuit) (p : Pooled) (same : AreSameIn p c.pool c) where
  abbrev over : Circuit
  over = record c { pool = p }

  abbrev IsSameBody : DesignProcess → Type 0
  IsSameBody x = AllSame p c.pool (block_exprs x.body)

  body_drives : (x : DesignProcess) → IsSameBody x → driven p x.body ≡ driven c.pool x.body
  body_drives x h = driven_same p c.pool same.signals x.body h

  pub drivers_same : drivers over ≡ drivers c
  drivers_same =
      ap (λ xs. xs ++ flat_map (λ (m : Memory). map (λ (r : MemRead). r.word.0 ∷ []) m.reads) c.memories)
      (map_same IsSameBody (λ (x : DesignProcess). driven p x.body) (λ (x : DesignProcess). driven c.pool x.body) body_drives c.processes same.processes)

  pub register_same : (s : ℕ) → is_register over s ≡ is_register c s
  register_same s =
      ap (λ b. b || list_any (λ (m : Memory). list_any (λ (r : MemRead). is_some r.domain && (r.word.0 == s)) m.reads) c.memories)
      (any_same IsSameBody (λ (x : DesignProcess). is_some x.domain && is_among (driven p x.body) s) (λ (x : DesignProcess). is_some x.domain && is_among (driven c.pool x.body) s)
      (λ x h. ap (λ ss. is_some x.domain && is_among ss s) (body_drives x h)) c.processes same.processes)

  starts_same : (st : State) (s : ℕ) (xs : List Sig) → starts over st s xs ≡ starts c st s xs
  starts_same st s [] = refl
  starts_same st s (x ∷ xs) = let a = register_same s in let b = starts_same st (suc s) xs in cc

  -- ---- settling

  module _ (env : List ℤ) where
    comb_same : (cur : List ℤ) (x : DesignProcess) → IsSameBody x → comb_process p env cur x ≡ comb_process c.pool env cur x
    comb_same cur x h = ap (λ left. if is_none x.domain then left else cur) (put_same p c.pool same.signals env x.body cur h)

    read_same : (rows cur : List ℤ) (r : MemRead) → AllSame p c.pool (read_exprs r) → comb_read p env rows cur r ≡ comb_read c.pool env rows cur r
    read_same rows cur r h = rw (h.0.value env) refl

    comb_reads_same : (ms : List Memory) (rows : List (List ℤ)) (cur : List ℤ) → AllByRecursion (IsSameMemory p c.pool) ms → comb_reads p env ms rows cur ≡ comb_reads c.pool env ms rows cur
    comb_reads_same [] rows cur h = refl
    comb_reads_same (m ∷ ms) [] cur h = refl
    comb_reads_same (m ∷ ms) (rows ∷ more) cur h =
        ap (comb_reads p env ms more) (fold_same (λ (r : MemRead). AllSame p c.pool (read_exprs r)) (comb_read p env rows) (comb_read c.pool env rows) (read_same rows) m.reads cur h.0.reads)
        ∙ comb_reads_same ms more (fold (comb_read c.pool env rows) cur m.reads) h.1

    pub delta_same : (st : State) → delta over st env ≡ delta c st env
    delta_same st =
        let begun : List ℤ = starts c st 0 c.pool.signals in
        ap (λ xs. comb_reads p env c.memories st.rows (fold (comb_process p env) xs c.processes)) (starts_same st 0 p.signals ∙ ap (starts c st 0) same.signals)
        ∙ ap (comb_reads p env c.memories st.rows) (fold_same IsSameBody (comb_process p env) (comb_process c.pool env) comb_same c.processes begun same.processes)
        ∙ comb_reads_same c.memories st.rows (fold (comb_process c.pool env) begun c.processes) same.memories

  -- ---- steps

  module _ (env : List ℤ) (listed : List DomainId) where
    clocked_same : (cur : List ℤ) (x : DesignProcess) → IsSameBody x → clocked over env listed cur x ≡ clocked c env listed cur x
    clocked_same cur x h = at_domain x.domain
      where
        at_domain : (o : Option DomainId) → clocked_at over env listed x cur o ≡ clocked_at c env listed x cur o
        at_domain None = refl
        at_domain (Some d) =
            let a = put_same p c.pool same.signals env x.body cur h in
            let b = body_drives x h in
            let e = same.signals in
            cc

    write_same : (m : Memory) (rows : List ℤ) (w : MemWrite) → AllSame p c.pool (write_exprs w) → write_row over env listed m rows w ≡ write_row c env listed m rows w
    write_same m rows w h = rw (h.0.value env, h.1.0.value env, h.1.1.0.value env) refl

    rows_same : (ms : List Memory) (rows : List (List ℤ)) → AllByRecursion (IsSameMemory p c.pool) ms → rows_after over env listed ms rows ≡ rows_after c env listed ms rows
    rows_same [] rows h = refl
    rows_same (m ∷ ms) [] h = refl
    rows_same (m ∷ ms) (rows ∷ more) h =
        let a = fold_same (λ (w : MemWrite). AllSame p c.pool (write_exprs w)) (write_row over env listed m) (write_row c env listed m) (write_same m) m.writes rows h.0.writes in
        let b = rows_same ms more h.1 in
        cc

    through_same : (m : Memory) (through : List ℕ) (addr i : ℕ) (ws : List MemWrite) (row : ℤ) → AllByRecursion (λ (w : MemWrite). AllSame p c.pool (write_exprs w)) ws
        → shown_through over env listed m through addr i ws row ≡ shown_through c env listed m through addr i ws row
    through_same m through addr i [] row h = refl
    through_same m through addr i (w ∷ ws) row h =
        ap (shown_through over env listed m through addr (suc i) ws)
        (let e : (if writes_through over env listed through addr i w then written p env m row w else row) ≡ (if writes_through c env listed through addr i w then written c.pool env m row w else row) =
        rw (h.0.0.value env, h.0.1.0.value env, h.0.1.1.0.value env) refl in e)
        ∙ through_same m through addr (suc i) ws (if writes_through c env listed through addr i w then written c.pool env m row w else row) h.1

    word_same : (m : Memory) (rows : List ℤ) (r : MemRead) → IsSameMemory p c.pool m → AllSame p c.pool (read_exprs r) → read_word over env listed m rows r ≡ read_word c env listed m rows r
    word_same m rows r h k =
        let addr : ℕ = address c.pool env r.addr in
        rw (k.0.value env) (ap (λ n. if nat_lt addr (length rows) then n else pos 0) (through_same m r.transparent addr 0 m.writes (at rows addr) h.writes))

    enabled_same : (o : Option ExprId) → AllSame p c.pool (option_map_or (λ (e : ExprId). e ∷ []) o []) → option_test (λ (e : ExprId). not (is_zero (num p env e.0))) o ≡ option_test (λ (e : ExprId). not (is_zero (num c.pool env e.0))) o
    enabled_same None h = refl
    enabled_same (Some e) h = ap (λ n. not (is_zero n)) (h.0.value env)

    clocked_read_same : (m : Memory) (rows cur : List ℤ) (r : MemRead) → IsSameMemory p c.pool m → AllSame p c.pool (read_exprs r) → clocked_read over env listed m rows cur r ≡ clocked_read c env listed m rows cur r
    clocked_read_same m rows cur r h k =
        ap (λ b. if port_active c env listed r.domain && b then slice_set cur r.word.0 (read_word over env listed m rows r) else cur) (enabled_same r.enable k.1)
        ∙ ap (λ n. if reads_now c env listed r then slice_set cur r.word.0 n else cur) (word_same m rows r h k)

    clocked_reads_same : (ms : List Memory) (rows : List (List ℤ)) (cur : List ℤ) → AllByRecursion (IsSameMemory p c.pool) ms → clocked_reads over env listed ms rows cur ≡ clocked_reads c env listed ms rows cur
    clocked_reads_same [] rows cur h = refl
    clocked_reads_same (m ∷ ms) [] cur h = refl
    clocked_reads_same (m ∷ ms) (rows ∷ more) cur h =
        ap (clocked_reads over env listed ms more)
        (fold_same (λ (r : MemRead). AllSame p c.pool (read_exprs r)) (clocked_read over env listed m rows) (clocked_read c env listed m rows) (λ xs r k. clocked_read_same m rows xs r h.0 k) m.reads cur h.0.reads)
        ∙ clocked_reads_same ms more (fold (clocked_read c env listed m rows) cur m.reads) h.1

  moved_same : (st : State) (env : List ℤ) (e : Event) → moved over st env e ≡ moved c st env e
  moved_same st env (Set s n) = refl
  moved_same st env (Edge listed) =
      let a = fold_same IsSameBody (clocked over env listed) (clocked c env listed) (clocked_same env listed) c.processes st.held same.processes in
      let b = clocked_reads_same env listed c.memories st.rows (fold (clocked c env listed) st.held c.processes) same.memories in
      let held : List ℤ → List ℤ = λ xs. fold (toggle c.domains) xs listed in
      let e = ap held (ap (clocked_reads over env listed c.memories st.rows) a ∙ b) in
      let f = rows_same env listed c.memories st.rows same.memories in
      cc

  clears_same : (held cur : List ℤ) (x : DesignProcess) → IsSameBody x → cleared over held cur x ≡ cleared c held cur x
  clears_same held cur x h = at_domain x.domain
    where
      at_domain : (o : Option DomainId) → cleared_at over held x cur o ≡ cleared_at c held x cur o
      at_domain None = refl
      at_domain (Some d) = let a = body_drives x h in let b = same.signals in cc

  pub step_same : (st : State) (env : List ℤ) (e : Event) → step over st env e ≡ step c st env e
  step_same st env e =
      ap (all_cleared over) (moved_same st env e)
      ∙ (let m : State = moved c st env e in ap (λ xs. record m { held = xs }) (fold_same IsSameBody (cleared over m.held) (cleared c m.held) (clears_same m.held) c.processes m.held same.processes))

  pub first_same : first_state over ≡ first_state c
  first_same = ap (λ sigs. record { held = fold clock_low (map (λ (x : Sig). x.init) sigs) c.domains; rows = map (λ (m : Memory). m.rows) c.memories }) same.signals
