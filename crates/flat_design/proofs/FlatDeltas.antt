-- Computing every comb signal at once gives the same in a flat design.
use Rattle.std.specs.Prelude.{◌≡◌, refl, ℕ, zero, suc, ◌+◌, ◌<◌, Bool, true, false, if◌then◌else◌, is_none, List, [], ◌∷◌, length, slice_get, slice_set, fold, ℤ, pos, unsigned_abs, Option, Some, None, option_map, unwrap_or}
use Rattle.std.specs.List.{AllByRecursion}
use Rattle.std.proofs.Common.{sym, ◌∙◌, ap, arith, subst, ⊎_elim}
use Rattle.std.proofs.lemmas.Bool.{cond_both, cases_Bool}
use Rattle.amh_bits.specs.Patterns.{IsOf}
use Rattle.design_ir.specs.declared.ids.DomainId.{DomainId}
use Rattle.design_ir.specs.declared.expr.Expr.{Expr}
use Rattle.design_ir.specs.declared.memory.MemRead.{MemRead}
use Rattle.design_ir.specs.declared.memory.Memory.{Memory}
use Rattle.design_ir.specs.declared.process.DesignProcess.{DesignProcess}
use Rattle.design_ir.specs.declared.signal.Sig.{Sig}
use Rattle.design_ir.specs.PoolRules.{IsPool, HasInit}
use Rattle.design_ir.specs.Values.{signal_form}
use Rattle.design_ir.specs.Put.{put}
use Rattle.design_ir.specs.Designs.{IsDesign, IsMemory, IsReadPort}
use Rattle.design_ir.specs.Circuits.{Circuit, State, at, is_held, FitsSignals}
use Rattle.design_ir.specs.Settled.{starts, comb_process, comb_read, comb_reads, delta}
use Rattle.design_ir.proofs.PutLaws.{put_length, put_other}
use Rattle.comb_graph.proofs.PutFits.{put_fits}
use Rattle.comb_graph.proofs.DeltaLaws.{starts_length}
use Rattle.flat_design.specs.Growing.{IsMore}
use Rattle.flat_design.specs.Shown.{init_of}
use Rattle.flat_design.specs.Flat.{IsFlatProcess, AreFlatProcesses}
use Rattle.flat_design.proofs.Growing.{num_more}
use Rattle.flat_design.proofs.FlatPairs.{with_exprs, with_parts, held_same}
use Rattle.flat_design.proofs.FlatRounds.{IsStart, IsTurn, rounds_same}
use Rattle.flat_design.proofs.DrivenOnce.{none_is, processes_distinct, unheld, starts_free, starts_held}

-- the two choices, where the domains are the same
by_comb : (d d' : Option DomainId) (x y z : List ℤ) → d' ≡ d → (is_none d ≡ true → x ≡ y) → (if is_none d' then x else z) ≡ (if is_none d then y else z)
by_comb None d' x y z e same = ap (λ t. if is_none t then x else z) e ∙ same refl
by_comb (Some d) d' x y z e same = ap (λ t. if is_none t then x else z) e

init_fits : (sigs : List Sig) → AllByRecursion HasInit sigs → (s : ℕ) → s < length sigs
    → IsOf (signal_form sigs s).signed (signal_form sigs s).width (unwrap_or (option_map (λ (x : Sig). x.init) (slice_get sigs s)) (pos 0))
init_fits [] inits s there = absurd (omega (arith, there))
init_fits (x ∷ sigs) inits zero there = inits.0
init_fits (x ∷ sigs) inits (suc s) there = init_fits sigs inits.1 s (omega (arith, there))

module _ (c : Circuit) (es : List Expr) (ps : List DesignProcess) (rules : IsPool c.pool) (design : IsDesign c) (more : IsMore c.pool (with_exprs c.pool es))
    (are : AreFlatProcesses c.pool (with_exprs c.pool es) c.processes ps) where
  abbrev d : Circuit
  d = with_parts c es ps

  -- ---- where it starts

  starts_same : (st : State) (a : ℕ) (xs : List Sig) → starts d st a xs ≡ starts c st a xs
  starts_same st a [] = refl
  starts_same st a (x ∷ xs) =
      ap (λ b. (if b then at st.held a else x.init) ∷ starts d st (suc a) xs) (held_same c es ps are a) ∙ ap (λ rest. (if is_held c a then at st.held a else x.init) ∷ rest) (starts_same st (suc a) xs)

  starts_fit : (st : State) → FitsSignals c.pool st.held → FitsSignals c.pool (starts c st 0 c.pool.signals)
  starts_fit st fit s there =
      let i : 0 + s ≡ s = omega arith in
      let OfSignal : ℤ → Type 0 = IsOf (signal_form c.pool.signals s).signed (signal_form c.pool.signals s).width in
      ⊎_elim
      (λ (e : is_held c s ≡ true). subst OfSignal (sym (starts_held c st 0 c.pool.signals s there (ap (is_held c) i ∙ e) ∙ ap (at st.held) i)) (fit s there))
      (λ (e : is_held c s ≡ false). subst OfSignal (sym (starts_free c st 0 c.pool.signals s (ap (is_held c) i ∙ e))) (init_fits c.pool.signals rules.inits s there)) (cases_Bool (is_held c s))

  -- ---- processes

  module _ (env : List ℤ) (fit_env : FitsSignals c.pool env) where
    abbrev round : List ℤ → DesignProcess → List ℤ
    round cur p = comb_process c.pool env cur p

    abbrev kind : DesignProcess → Bool
    kind p = is_none p.domain

    process_same : (cur : List ℤ) (old new : DesignProcess) → IsFlatProcess c.pool (with_exprs c.pool es) old new → FitsSignals c.pool cur → length cur ≡ length c.pool.signals
        → IsStart c (with_exprs c.pool es) round (comb_process (with_exprs c.pool es) env) kind (init_of c.pool) cur old → comb_process (with_exprs c.pool es) env cur new ≡ round cur old
    process_same cur old new flat fit long start =
        by_comb old.domain new.domain (put (with_exprs c.pool es) env new.body cur) (put c.pool env old.body cur) cur flat.domain
        (λ comb. flat.body.puts env cur fit_env fit long (λ s here. start comb s here ∙ ap (λ b. if b then at env s else init_of c.pool s) (sym (none_is old.domain comb))))

    turn : IsTurn c (with_exprs c.pool es) round (comb_process (with_exprs c.pool es) env) kind (init_of c.pool)
    turn = record {
      fits = λ cur p is fit. cond_both (is_none p.domain) (put c.pool env p.body cur) cur (FitsSignals c.pool) (λ t. put_fits c.pool env p.body cur rules is.targets fit) (λ t. fit);
      long = λ cur p. cond_both (is_none p.domain) (put c.pool env p.body cur) cur (λ x. length x ≡ length cur) (λ t. put_length c.pool env p.body cur) (λ t. refl);
      others = λ cur p s e. cond_both (is_none p.domain) (put c.pool env p.body cur) cur (λ x. at x s ≡ at cur s) (λ t. put_other c.pool env p.body cur s e) (λ t. refl);
      same = process_same;
    }

    processes_same : (st : State) → FitsSignals c.pool st.held
        → fold (comb_process (with_exprs c.pool es) env) (starts c st 0 c.pool.signals) ps ≡ fold (comb_process c.pool env) (starts c st 0 c.pool.signals) c.processes
    processes_same st held =
        rounds_same c (with_exprs c.pool es) round (comb_process (with_exprs c.pool es) env) kind (init_of c.pool) turn c.processes ps (starts c st 0 c.pool.signals) are design.processes (processes_distinct c design)
        (starts_fit st held) (starts_length c st 0 c.pool.signals)
        (λ p among comb s here. let i : 0 + s ≡ s = omega arith in starts_free c st 0 c.pool.signals s (ap (is_held c) i ∙ unheld c design p among s here comb))

  -- ---- read ports

  module _ (env : List ℤ) where
    ports_same : (m : Memory) (rows : List ℤ) (rs : List MemRead) (cur : List ℤ) → AllByRecursion (IsReadPort c m) rs → fold (comb_read (with_exprs c.pool es) env rows) cur rs ≡ fold (comb_read c.pool env rows) cur rs
    ports_same m rows [] cur are-ports = refl
    ports_same m rows (r ∷ rs) cur are-ports =
        ap (λ n. fold (comb_read (with_exprs c.pool es) env rows) (if is_none r.domain then slice_set cur r.word.0 (at rows (unsigned_abs n)) else cur) rs)
        (num_more c.pool (with_exprs c.pool es) rules more env r.addr.0 are-ports.0.addr.usable.there)
        ∙ ports_same m rows rs (comb_read c.pool env rows cur r) are-ports.1

    reads_same : (ms : List Memory) (all : List (List ℤ)) (cur : List ℤ) → AllByRecursion (IsMemory c) ms → comb_reads (with_exprs c.pool es) env ms all cur ≡ comb_reads c.pool env ms all cur
    reads_same [] all cur memories = refl
    reads_same (m ∷ ms) [] cur memories = refl
    reads_same (m ∷ ms) (rows ∷ all) cur memories =
        ap (comb_reads (with_exprs c.pool es) env ms all) (ports_same m rows m.reads cur memories.0.reads) ∙ reads_same ms all (fold (comb_read c.pool env rows) cur m.reads) memories.1

  -- ---- all

  pub delta_same : (st : State) (env : List ℤ) → FitsSignals c.pool st.held → FitsSignals c.pool env → delta d st env ≡ delta c st env
  delta_same st env held fit =
      ap (λ xs. comb_reads (with_exprs c.pool es) env c.memories st.rows (fold (comb_process (with_exprs c.pool es) env) xs ps)) (starts_same st 0 c.pool.signals)
      ∙ ap (comb_reads (with_exprs c.pool es) env c.memories st.rows) (processes_same env fit st held)
      ∙ reads_same env c.memories st.rows (fold (comb_process c.pool env) (starts c st 0 c.pool.signals) c.processes) design.memories
