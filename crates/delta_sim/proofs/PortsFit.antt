-- After an edge what read ports took is of their signals' shapes, and there are rows for each memory.
use Rattle.std.specs.Prelude.{◌≡◌, refl, suc, List, [], ◌∷◌, length, slice_set, ℤ, fold}
use Rattle.std.specs.List.{AllByRecursion}
use Rattle.std.proofs.Common.{sym, ◌∙◌, ap, subst, arith}
use Rattle.std.proofs.lemmas.Bool.{cond_both}
use Rattle.std.proofs.lemmas.List.{length-set}
use Rattle.amh_bits.specs.Patterns.{IsOf}
use Rattle.shape_rules.specs.Forms.{Form}
use Rattle.design_ir.specs.declared.ids.DomainId.{DomainId}
use Rattle.design_ir.specs.declared.memory.MemRead.{MemRead}
use Rattle.design_ir.specs.declared.memory.Memory.{Memory}
use Rattle.design_ir.specs.Circuits.{Circuit}
use Rattle.design_ir.specs.Designs.{IsMemory, IsReadPort}
use Rattle.design_ir.specs.Steps.{reads_now, read_word, clocked_read, clocked_reads, rows_after}
use Rattle.design_ir.proofs.NumbersFit.{FitsSignals}
use Rattle.comb_graph.specs.Laws.{FitsRows}
use Rattle.comb_graph.proofs.WrittenRows.{read_of}
use Rattle.sim_plans.proofs.WritesFit.{OfSignal, set_fits}

module _ (c : Circuit) (env : List ℤ) (listed : List DomainId) where
  -- ---- how many numbers

  pub port_length : (m : Memory) (rows : List ℤ) (rs : List MemRead) (cur : List ℤ) → length (fold (clocked_read c env listed m rows) cur rs) ≡ length cur
  port_length m rows [] cur = refl
  port_length m rows (r ∷ rs) cur =
      let word : ℤ = read_word c env listed m rows r in
      port_length m rows rs (clocked_read c env listed m rows cur r)
      ∙ cond_both (reads_now c env listed r) (slice_set cur r.word.0 word) cur (λ xs. length xs ≡ length cur) (λ t. length-set cur r.word.0 word) (λ t. refl)

  pub reads_length : (ms : List Memory) (all : List (List ℤ)) (cur : List ℤ) → length (clocked_reads c env listed ms all cur) ≡ length cur
  reads_length [] all cur = refl
  reads_length (m ∷ ms) [] cur = refl
  reads_length (m ∷ ms) (rows ∷ more) cur = reads_length ms more (fold (clocked_read c env listed m rows) cur m.reads) ∙ port_length m rows m.reads cur

  pub rows_length : (ms : List Memory) (all : List (List ℤ)) → length all ≡ length ms → length (rows_after c env listed ms all) ≡ length ms
  rows_length [] all e = e
  rows_length (m ∷ ms) [] e = e
  rows_length (m ∷ ms) (rows ∷ more) e = ap suc (rows_length ms more (omega (arith, e)))

  -- ---- their shapes

  ports_fit : (m : Memory) (rows : List ℤ) (rs : List MemRead) (cur : List ℤ) → AllByRecursion (IsReadPort c m) rs → AllByRecursion (IsOf m.shape.signed m.shape.width) rows → FitsSignals c.pool cur
      → FitsSignals c.pool (fold (clocked_read c env listed m rows) cur rs)
  ports_fit m rows [] cur are of fit = fit
  ports_fit m rows (r ∷ rs) cur are of fit =
      let word : ℤ = read_word c env listed m rows r in
      let here : OfSignal c.pool r.word.0 word = subst (λ (f : Form). IsOf f.signed f.width word) (sym are.0.word.shape) (read_of c env m listed rows r of) in
      ports_fit m rows rs (clocked_read c env listed m rows cur r) are.1 of
      (cond_both (reads_now c env listed r) (slice_set cur r.word.0 word) cur (FitsSignals c.pool) (λ t. set_fits c.pool cur r.word.0 word here fit) (λ t. fit))

  pub reads_fit : (ms : List Memory) (all : List (List ℤ)) (cur : List ℤ) → AllByRecursion (IsMemory c) ms → FitsRows ms all → FitsSignals c.pool cur → FitsSignals c.pool (clocked_reads c env listed ms all cur)
  reads_fit [] all cur are of fit = fit
  reads_fit (m ∷ ms) [] cur are of fit = fit
  reads_fit (m ∷ ms) (rows ∷ more) cur are of fit =
      reads_fit ms more (fold (clocked_read c env listed m rows) cur m.reads) are.1 of.1 (ports_fit m rows m.reads cur are.0.reads of.0 fit)
