-- A design whose processes are those of a fragment gives each signal the number that the fragment gives it.
use Rattle.std.specs.Prelude.{◌≡◌, refl, ℕ, suc, ◌<◌, ◌==◌, ◌&&◌, ◌||◌, Bool, true, false, not, if◌then◌else◌, nat_lt, is_none, List, [], ◌∷◌, map, length, position, slice_get, slice_set, ℤ, pos, Option, Some, None, option_map, fold}
use Rattle.std.specs.List.{AllByRecursion, IsDistinct, list_any, find}
use Rattle.std.proofs.Common.{sym, ◌∙◌, ap, arith}
use Rattle.std.proofs.lemmas.List.{length-set}
use Rattle.std.proofs.lemmas.List.FromFn.{length-map-range_with_len, get_or-map-range_with_len}
use Rattle.lists.specs.Texts.{text_eq}
use Rattle.shape_rules.specs.Operators.{is_zero}
use Rattle.design_ir.specs.declared.ids.DomainId.{DomainId}
use Rattle.design_ir.specs.declared.ids.ExprId.{ExprId}
use Rattle.design_ir.specs.declared.signal.Sig.{Sig}
use Rattle.design_ir.specs.declared.domain.Domain.{Domain}
use Rattle.design_ir.specs.declared.port.Port.{Port}
use Rattle.design_ir.specs.declared.port.Column.{Column}
use Rattle.design_ir.specs.declared.memory.MemWrite.{MemWrite}
use Rattle.design_ir.specs.declared.memory.MemRead.{MemRead}
use Rattle.design_ir.specs.declared.memory.Memory.{Memory}
use Rattle.design_ir.specs.declared.process.Side.{Side}
use Rattle.design_ir.specs.declared.process.Side.TheVariants.{Comb, Clocked}
use Rattle.design_ir.specs.declared.process.Process.{Process}
use Rattle.design_ir.specs.declared.fragment.Fragment.{Fragment}
use Rattle.design_ir.specs.declared.event.Event.{Event}
use Rattle.design_ir.specs.declared.event.Event.TheVariants.{Set, Edge}
use Rattle.design_ir.specs.Pools.{Pooled}
use Rattle.design_ir.specs.Guards.{driven}
use Rattle.design_ir.specs.Values.{num}
use Rattle.design_ir.specs.Put.{put}
use Rattle.design_ir.specs.Rows.{address, row_at, written}
use Rattle.design_ir.specs.Clearing.{own}
use Rattle.design_ir.specs.Circuits.{Circuit, State, option_test, at, is_among, is_input}
use Rattle.design_ir.specs.Settled.{delta}
use Rattle.design_ir.specs.Steps as design
use Rattle.design_ir.proofs.Resets.{lists_same}
use Rattle.design_ir.proofs.ClearedLaws.{clears_length}
use Rattle.fragment_walks.specs.Walks.{all_processes}
use Rattle.clock_domains.specs.Resolved.{domain_number, process_in}
use Rattle.fragment_laws.specs.Parts.{all_memories}
use Rattle.fragment_laws.specs.Surroundings.{pool_in}
use Rattle.fragment_laws.specs.Givers.{ReadPort, giver_among, giver}
use Rattle.fragment_laws.specs.Settling.{for_each, inits, rows_of, driven_number, read_number, given_number, given_numbers}
use Rattle.fragment_laws.specs.Stepping.{register_number, write_port, rows_after, row_through, word_of, reads_now, taken_number, toggle_by, edge_number, moved, cleared_side, cleared_number, all_cleared, step}
use Rattle.fragment_laws.specs.Lives.{first_number, first_state}
use Rattle.fragment_laws.specs.Roots.{IsSideNamed, surroundings_of, happening, HasRows, IsStateOf}
use Rattle.fragment_laws.proofs.Once.{find_mapped}
use Rattle.fragment_laws.proofs.Unnamed.{fold_every}
use Rattle.fragment_laws.proofs.OneDriver.{IsDrivenOnce, drives, ports}
use Rattle.fragment_laws.proofs.DeltaNumbers.{delta_number, delta_at, delta_length, length_map}
use Rattle.fragment_laws.proofs.EdgeNumbers as edge
use Rattle.fragment_laws.proofs.Naming.{find_holds, placed, names, active_named, port_named, reset_named, cleared_named, set_at, toggles_named}

-- a number for each signal
pub for_each_length : (q : Pooled) (g : ℕ → ℤ) → length (for_each q g) ≡ length q.signals
for_each_length q g = length-map-range_with_len g 0 (length q.signals)

pub for_each_at : (q : Pooled) (g : ℕ → ℤ) (s : ℕ) → s < length q.signals → at (for_each q g) s ≡ g s
for_each_at q g s there = get_or-map-range_with_len g 0 (length q.signals) s s (pos 0) there (omega arith)

module _ (q : Pooled) (f : Fragment) (ds : List Domain) (ios : List Port) (columns : List Column) where
  abbrev p : Pooled
  p = pool_in ds q

  -- the design of the fragment's processes and memories
  abbrev pub root_design : Circuit
  root_design = record { pool = pool_in ds q; processes = map (process_in ds) (all_processes f); memories = all_memories f; domains = ds; ports = ios; columns = columns }

  abbrev d : Circuit
  d = root_design

  module _ (rules : IsDrivenOnce d) (apart : IsDistinct text_eq (map (λ (x : Domain). x.name) ds)) (named : AllByRecursion (λ (x : Process). IsSideNamed ds x.side) (all_processes f)) where
    -- who drives a signal, in both

    abbrev driver : ℕ → Option Process
    driver s = find (λ (x : Process). is_among (driven p x.body) s) (all_processes f)

    abbrev reader : ℕ → Option ReadPort
    reader s = find (λ (x : ReadPort). x.port.word.0 == s) (ports d s)

    driver_in : (s : ℕ) → find (drives d s) d.processes ≡ option_map (process_in ds) (driver s)
    driver_in s = find_mapped (drives d s) (process_in ds) (all_processes f)

    driver_named : (s : ℕ) (x : Process) → driver s ≡ Some x → IsSideNamed ds x.side
    driver_named s x e = find_holds (λ (x : Process). IsSideNamed ds x.side) (λ (x : Process). is_among (driven p x.body) s) (all_processes f) x named e

    abbrev place_of : List ℕ → Option ℕ
    place_of n = position (λ (x : Domain). text_eq x.name n) ds

    -- ---- settling

    module _ (st : State) (env : List ℤ) (rows : HasRows d st) where
      settles : (s : ℕ) (there : s < length p.signals) (o : Option Process) (r : Option ReadPort) → driver s ≡ o
          → given_number p (is_input d) st env s (giver_among o r) ≡ delta_number d st env rules rows s there (option_map (process_in ds) o) r
      settles s there (Some x) r e = by_side x.side (driver_named s x e)
        where
          by_place : (n : List ℕ) (o : Option ℕ) → (k : ℕ) × (o ≡ Some k)
              → at st.held s ≡ (if is_none (option_map (λ (k : ℕ). let y : DomainId = record { 0 = k } in y) o) then at (put p env x.body (inits p)) s else at st.held s)
          by_place n (Some k) h = refl
          by_place n None h = let no = h.1 in cc

          by_side : (side : Side) → IsSideNamed ds side → driven_number p st env s x.body side ≡ (if is_none (domain_number ds side) then at (put p env x.body (inits p)) s else at st.held s)
          by_side Comb h = refl
          by_side (Clocked n) h = by_place n (place_of n) (placed (λ (y : Domain). text_eq y.name n) ds h)
      settles s there None (Some x) e = by x.port.domain
        where
          by : (o : Option (List ℕ)) → read_number p st env s x o ≡ (if is_none o then row_at p env (rows_of st x.number) x.port.addr else at st.held s)
          by None = refl
          by (Some n) = refl
      settles s there None None e = refl

      pub settle_same : given_numbers q f (surroundings_of d) st env ≡ delta d st env
      settle_same =
          let g : ℕ → ℤ = λ s. given_number p (is_input d) st env s (giver p f s) in
          lists_same (for_each p g) (delta d st env) (for_each_length p g ∙ sym (delta_length d st env rules rows 0))
          (λ s l.
          let there : s < length p.signals = omega (arith, l, for_each_length p g) in
          for_each_at p g s there
          ∙ settles s there (driver s) (reader s) refl
          ∙ sym (delta_at d st env rules rows s there (option_map (process_in ds) (driver s)) (reader s) (driver_in s) refl))

    -- ---- the first state

    lows_at : (s : ℕ) (xs : List Domain) (cur : List ℤ) → s < length cur → at (fold design.clock_low cur xs) s ≡ (if list_any (λ (x : Domain). x.clk.0 == s) xs then pos 0 else at cur s)
    lows_at s [] cur there = refl
    lows_at s (x ∷ xs) cur there =
        lows_at s xs (slice_set cur x.clk.0 (pos 0)) (omega (arith, there, length-set cur x.clk.0 (pos 0)))
        ∙ ap (λ n. if list_any (λ (x : Domain). x.clk.0 == s) xs then pos 0 else n) (set_at s cur x.clk.0 (pos 0) there)
        ∙ either (x.clk.0 == s) (list_any (λ (x : Domain). x.clk.0 == s) xs)
      where
        either : (a b : Bool) → (if b then pos 0 else (if a then pos 0 else at cur s)) ≡ (if a || b then pos 0 else at cur s)
        either true true = refl
        either true false = refl
        either false b = refl

    lows_length : (xs : List Domain) (cur : List ℤ) → length (fold design.clock_low cur xs) ≡ length cur
    lows_length [] cur = refl
    lows_length (x ∷ xs) cur = lows_length xs (slice_set cur x.clk.0 (pos 0)) ∙ length-set cur x.clk.0 (pos 0)

    inits_length : length (inits p) ≡ length p.signals
    inits_length = length_map (λ (x : Sig). x.init) p.signals

    first_held : for_each p (first_number p ds) ≡ fold design.clock_low (inits p) ds
    first_held =
        lists_same (for_each p (first_number p ds)) (fold design.clock_low (inits p) ds) (for_each_length p (first_number p ds) ∙ sym inits_length ∙ sym (lows_length ds (inits p)))
        (λ s l.
        let there : s < length p.signals = omega (arith, l, for_each_length p (first_number p ds)) in
        for_each_at p (first_number p ds) s there ∙ sym (lows_at s ds (inits p) (omega (arith, there, inits_length))))

    pub first_same : first_state q f (surroundings_of d) ≡ design.first_state d
    first_same = ap (λ xs. let st : State = record { held = xs; rows = map (λ (m : Memory). m.rows) (all_memories f) } in st) first_held

    -- ---- an event: ports, by the names of their domains

    module _ (env : List ℤ) (listed : List DomainId) where
      abbrev ns : List (List ℕ)
      ns = names d apart listed

      write_named : (m : Memory) (rows : List ℤ) (w : MemWrite) → write_port p ds env ns m rows w ≡ design.write_row d env listed m rows w
      write_named m rows w =
          ap (λ b. if b then slice_set rows (address p env w.addr) (written p env m (row_at p env rows w.addr) w) else rows) (sym (port_named d apart env listed (Some w.domain)))

      rows_named : (ms : List Memory) (rows : List (List ℤ)) → rows_after p ds env ns ms rows ≡ design.rows_after d env listed ms rows
      rows_named [] rows = refl
      rows_named (m ∷ ms) [] = refl
      rows_named (m ∷ ms) (rows ∷ more) =
          let a = fold_every (write_port p ds env ns m) (design.write_row d env listed m) (write_named m) m.writes rows in
          let b = rows_named ms more in
          cc

      through_named : (m : Memory) (through : List ℕ) (addr i : ℕ) (ws : List MemWrite) (row : ℤ) → row_through p ds env ns m through addr i ws row ≡ design.shown_through d env listed m through addr i ws row
      through_named m through addr i [] row = refl
      through_named m through addr i (w ∷ ws) row =
          ap (λ b. row_through p ds env ns m through addr (suc i) ws (if list_any (λ k. k == i) through && (b && (address p env w.addr == addr)) then written p env m row w else row)) (sym (port_named d apart env listed (Some w.domain)))
          ∙ through_named m through addr (suc i) ws (if design.writes_through d env listed through addr i w then written p env m row w else row)

      word_named : (m : Memory) (rows : List ℤ) (r : MemRead) → word_of p ds env ns m rows r ≡ design.read_word d env listed m rows r
      word_named m rows r =
          let addr : ℕ = address p env r.addr in
          ap (λ n. if nat_lt addr (length rows) then n else pos 0) (through_named m r.transparent addr 0 m.writes (at rows addr))

      reads_named : (r : MemRead) → reads_now p ds env ns r ≡ design.reads_now d env listed r
      reads_named r = ap (λ b. b && option_test (λ (e : ExprId). not (is_zero (num p env e.0))) r.enable) (sym (port_named d apart env listed r.domain))

      -- ---- what each signal takes

      module _ (st : State) (sized : IsStateOf d st) where
        takes : (s : ℕ) (there : s < length p.signals) (o : Option Process) (r : Option ReadPort) → driver s ≡ o
            → taken_number p ds st env ns s (giver_among o r) ≡ edge.taken_number d st env listed rules sized s there (option_map (process_in ds) o) r
        takes s there (Some x) r e = by_side x.side (driver_named s x e)
          where
            by_place : (n : List ℕ) (o : Option ℕ) → place_of n ≡ o → (k : ℕ) × (o ≡ Some k)
                → register_number p ds st env ns s x.body (Clocked n) ≡ edge.register_after d st env listed rules sized s there (process_in ds x) (option_map (λ (k : ℕ). let y : DomainId = record { 0 = k } in y) o)
            by_place n (Some k) e h =
                let a = active_named d apart env listed n k e in
                let b = reset_named d apart env n k e in
                cc
            by_place n None e h = let no = h.1 in cc

            by_side : (side : Side) → IsSideNamed ds side → register_number p ds st env ns s x.body side ≡ edge.register_after d st env listed rules sized s there (process_in ds x) (domain_number ds side)
            by_side Comb h = refl
            by_side (Clocked n) h = by_place n (place_of n) refl (placed (λ (y : Domain). text_eq y.name n) ds h)
        takes s there None (Some x) e =
            ap (λ b. if b then word_of p ds env ns x.memory (rows_of st x.number) x.port else at st.held s) (reads_named x.port)
            ∙ ap (λ n. if design.reads_now d env listed x.port then n else at st.held s) (word_named x.memory (rows_of st x.number) x.port)
        takes s there None None e = refl

        abbrev after : List ℤ
        after = edge.taken d st env listed rules sized 0

        abbrev g : ℕ → ℤ
        g = edge_number p f ds st env ns

        toggles_length : (xs : List DomainId) (cur : List ℤ) → length (fold (design.toggle ds) cur xs) ≡ length cur
        toggles_length [] cur = refl
        toggles_length (x ∷ xs) cur = toggles_length xs (design.toggle ds cur x) ∙ one (slice_get ds x.0)
          where
            one : (o : Option Domain) → length (design.toggle_at cur o) ≡ length cur
            one None = refl
            one (Some y) = length-set cur y.clk.0 _

        pub edge_length : length (fold (design.toggle ds) after listed) ≡ length p.signals
        edge_length = toggles_length listed after ∙ edge.taken_length d st env listed rules sized 0

        pub edge_same : for_each p g ≡ fold (design.toggle ds) after listed
        edge_same =
            lists_same (for_each p g) (fold (design.toggle ds) after listed) (for_each_length p g ∙ sym edge_length)
            (λ s l.
            let there : s < length p.signals = omega (arith, l, for_each_length p g) in
            for_each_at p g s there
            ∙ ap (λ n. fold (toggle_by ds s) n ns)
            (takes s there (driver s) (reader s) refl
            ∙ sym (edge.taken_at d st env listed rules sized s there (option_map (process_in ds) (driver s)) (reader s) (driver_in s) refl))
            ∙ sym (toggles_named d apart s listed after (omega (arith, there, edge.taken_length d st env listed rules sized 0))))

    moved_same : (st : State) (env : List ℤ) (e : Event) → IsStateOf d st → moved p f ds st env (happening d e) ≡ design.moved d st env e
    moved_same st env (Set s n) sized = refl
    moved_same st env (Edge listed) sized =
        let a = edge_same env listed st sized in
        let b = rows_named env listed (all_memories f) st.rows in
        cc

    moved_length : (st : State) (env : List ℤ) (e : Event) → IsStateOf d st → length (design.moved d st env e).held ≡ length p.signals
    moved_length st env (Set s n) sized = length-set st.held s.0 n ∙ sized.held
    moved_length st env (Edge listed) sized = edge_length env listed st sized

    -- ---- asynchronous resets

    module _ (st : State) (env : List ℤ) (e : Event) (sized : IsStateOf d st) where
      abbrev m : State
      m = design.moved d st env e

      clears : (s : ℕ) (o : Option Process) (r : Option ReadPort) → driver s ≡ o → cleared_number p ds m.held s (giver_among o r) ≡ edge.cleared_number d rules st env e s (option_map (process_in ds) o)
      clears s (Some x) r e' = by_side x.side (driver_named s x e')
        where
          by_place : (n : List ℕ) (o : Option ℕ) → place_of n ≡ o → (k : ℕ) × (o ≡ Some k)
              → cleared_side p ds m.held s (Clocked n) ≡ (if option_test (λ (y : DomainId). design.is_cleared d m.held y.0) (option_map (λ (k : ℕ). let y : DomainId = record { 0 = k } in y) o) then own (slice_get p.signals s) (at m.held s) else at m.held s)
          by_place n (Some k) e h = let a = cleared_named d apart m.held n k e in cc
          by_place n None e h = let no = h.1 in cc

          by_side : (side : Side) → IsSideNamed ds side → cleared_side p ds m.held s side ≡ (if option_test (λ (y : DomainId). design.is_cleared d m.held y.0) (domain_number ds side) then own (slice_get p.signals s) (at m.held s) else at m.held s)
          by_side Comb h = refl
          by_side (Clocked n) h = by_place n (place_of n) refl (placed (λ (y : Domain). text_eq y.name n) ds h)
      clears s None (Some x) e' = refl
      clears s None None e' = refl

      abbrev resets_to : ℕ → ℤ
      resets_to s = cleared_number p ds m.held s (giver p f s)

      step_length : length (design.step d st env e).held ≡ length p.signals
      step_length = clears_length d m.held d.processes m.held ∙ moved_length st env e sized

      clears_same : for_each p resets_to ≡ (design.step d st env e).held
      clears_same =
          lists_same (for_each p resets_to) (design.step d st env e).held (for_each_length p resets_to ∙ sym step_length)
          (λ s l.
          let there : s < length p.signals = omega (arith, l, for_each_length p resets_to) in
          for_each_at p resets_to s there
          ∙ clears s (driver s) (reader s) refl
          ∙ sym (edge.cleared_at d rules st env e s (option_map (process_in ds) (driver s)) (omega (arith, there, moved_length st env e sized)) (driver_in s)))

      pub step_same : step q f (surroundings_of d) st env (happening d e) ≡ design.step d st env e
      step_same = ap (λ (x : State). all_cleared p f ds x) (moved_same st env e sized) ∙ ap (λ (xs : List ℤ). record m { held = xs }) clears_same

      moved_rows : (e : Event) → length (design.moved d st env e).rows ≡ length d.memories
      moved_rows (Set s n) = sized.rows
      moved_rows (Edge listed) = kept d.memories st.rows sized.rows
        where
          kept : (ms : List Memory) (rows : List (List ℤ)) → length rows ≡ length ms → length (design.rows_after d env listed ms rows) ≡ length ms
          kept [] rows h = h
          kept (m ∷ ms) [] h = h
          kept (m ∷ ms) (rows ∷ more) h = ap suc (kept ms more (omega (arith, h)))

      pub step_sized : IsStateOf d (design.step d st env e)
      step_sized = record { held = step_length; rows = moved_rows e }

    pub first_sized : IsStateOf d (design.first_state d)
    first_sized = record { held = lows_length ds (inits p) ∙ inits_length; rows = length_map (λ (m : Memory). m.rows) d.memories }
