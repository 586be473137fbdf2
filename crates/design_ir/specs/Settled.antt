-- The environment in which every combinational equation holds.
use Rattle.std.specs.Prelude.{◌≡◌, ℕ, suc, if◌then◌else◌, List, [], ◌∷◌, slice_set, ℤ, is_none, fold}
use Rattle.design_ir.specs.declared.signal.Sig.{Sig}
use Rattle.design_ir.specs.declared.memory.MemRead.{MemRead}
use Rattle.design_ir.specs.declared.memory.Memory.{Memory}
use Rattle.design_ir.specs.declared.process.DesignProcess.{DesignProcess}
use Rattle.design_ir.specs.Pools.{Pooled}
use Rattle.design_ir.specs.Put.{put}
use Rattle.design_ir.specs.Circuits.{Circuit, State, at, is_held}
use Rattle.design_ir.specs.Rows.{row_at}

-- inputs and registers as the state has them, each other signal at its init
abbrev pub starts : Circuit → State → ℕ → List Sig → List ℤ
starts c st s [] = []
starts c st s (x ∷ xs) = (if is_held c s then at st.held s else x.init) ∷ starts c st (suc s) xs

abbrev pub comb_process : Pooled → List ℤ → List ℤ → DesignProcess → List ℤ
comb_process pool env cur p = if is_none p.domain then put pool env p.body cur else cur

abbrev pub comb_read : Pooled → List ℤ → List ℤ → List ℤ → MemRead → List ℤ
comb_read pool env rows cur r = if is_none r.domain then slice_set cur r.word.0 (row_at pool env rows r.addr) else cur

abbrev pub comb_reads : Pooled → List ℤ → List Memory → List (List ℤ) → List ℤ → List ℤ
comb_reads pool env [] rows cur = cur
comb_reads pool env (m ∷ ms) [] cur = cur
comb_reads pool env (m ∷ ms) (rows ∷ more) cur = comb_reads pool env ms more (fold (comb_read pool env rows) cur m.reads)

-- each comb signal and comb read, computed at once from env and the state
abbrev pub delta : Circuit → State → List ℤ → List ℤ
delta c st env =
    comb_reads c.pool env c.memories st.rows (fold (comb_process c.pool env) (starts c st 0 c.pool.signals) c.processes)

-- computing again changes nothing
abbrev pub Settled : Circuit → State → List ℤ → Type 0
Settled c st env = delta c st env ≡ env
