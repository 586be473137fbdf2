-- What the inserters do to registers and to memory ports. (Amaranth guide: Control flow modifiers.)
use Rattle.std.specs.Prelude.{◌≡◌, ◌<◌, ℕ, IsTrue, true, fold, false, length, [], if◌then◌else◌, List, slice_get, ℤ, Some, None}
use Rattle.std.specs.List.{AllByRecursion}
use Rattle.amh_bits.specs.Patterns.{IsOf}
use Rattle.shape_rules.specs.Operators.{is_zero}
use Rattle.design_ir.specs.declared.ids.ExprId.{ExprId}
use Rattle.design_ir.specs.declared.domain.Domain.{Domain}
use Rattle.design_ir.specs.declared.expr.Expr as expr
use Rattle.design_ir.specs.declared.expr.Expr.{Expr}
use Rattle.design_ir.specs.declared.expr.Expr.TheVariants.{Const, Mux}
use Rattle.design_ir.specs.declared.memory.MemWrite.{MemWrite}
use Rattle.design_ir.specs.declared.memory.MemRead.{MemRead}
use Rattle.design_ir.specs.declared.memory.Memory.{Memory}
use Rattle.design_ir.specs.declared.process.Side.TheVariants.{Clocked}
use Rattle.design_ir.specs.declared.process.Process.{Process}
use Rattle.design_ir.specs.declared.fragment.Fragment.{Fragment}
use Rattle.design_ir.specs.Pools.{Pooled}
use Rattle.design_ir.specs.PoolRules.{IsPool}
use Rattle.design_ir.specs.Trees.{Block}
use Rattle.design_ir.specs.Values.{form, num}
use Rattle.design_ir.specs.Put.{put}
use Rattle.design_ir.specs.Guards.{Guarded, guarded, driven, block_exprs}
use Rattle.design_ir.specs.Named.{AllBelow}
use Rattle.design_ir.specs.Targets.{is_target, target_bits, target_signals}
use Rattle.design_ir.specs.Rows.{row_at}
use Rattle.design_ir.specs.Circuits.{State, at, is_among, FitsSignals}
use Rattle.design_ir.specs.Clearing.{own}
use Rattle.fragment_laws.specs.Surroundings.{pool_in, reset_of}
use Rattle.fragment_laws.specs.Givers.{giver, statements}
use Rattle.fragment_laws.specs.Stepping.{acts, edge_number, resets, register_number, toggle_by, write_port, reads_now}
use Rattle.domain_transforms.specs.declared.controls.Control.{Control}
use Rattle.domain_transforms.specs.Controlled.{control_of, name_after}
use Rattle.domain_transforms.specs.declared.controls.NamePair.{NamePair}
use Rattle.domain_transforms.specs.Renamed.{anew, is_within, remade, renamed_block, renamed_pool}
use Rattle.domain_transforms.specs.Enabling.{enabled, enabled_memory, enabled_process, enabled_read, enabled_write, side_control}
use Rattle.domain_transforms.specs.Placed.{fragment_exprs}
use Rattle.domain_transforms.specs.Resetting.{reset_inserted, reset_process}

-- ---- registers

-- a register after clocks toggled, where the statements of its process leave this: where its domain acts it has its init under the
-- domain's reset, but where it is reset-less, else what is left; where the domain does not act it keeps
abbrev pub at_edge : Pooled → List Domain → State → List ℤ → List (List ℕ) → ℕ → List ℕ → ℤ → ℤ
at_edge q domains st env names s name left =
    if acts domains env names name then (if resets domains env name then own (slice_get q.signals s) left else left) else at st.held s

-- after an enable inserter a register of a controlled domain takes what it took before where the control is not 0, and else
-- keeps; the domain's own reset acts after it
abbrev pub EnabledRegistersKeep : Type 0
EnabledRegistersKeep =
    (controls : List Control) (p : Process) (name : List ℕ) (c : ExprId) (q : Pooled) (domains : List Domain) (st : State) (env : List ℤ) (names : List (List ℕ)) (s : ℕ) → p.side ≡ Clocked name → control_of controls name ≡ Some c
    → register_number q domains st env names s (enabled_process controls p).body (Clocked name) ≡ at_edge q domains st env names s name (if is_zero (num q env c.0) then at st.held s else at (put q env p.body st.held) s)

-- a register of another domain takes what it took
abbrev pub OtherRegistersStay : Type 0
OtherRegistersStay =
    (controls : List Control) (p : Process) (name : List ℕ) (q : Pooled) (domains : List Domain) (st : State) (env : List ℤ) (names : List (List ℕ)) (s : ℕ) → p.side ≡ Clocked name → control_of controls name ≡ None
    → register_number q domains st env names s (enabled_process controls p).body (Clocked name) ≡ register_number q domains st env names s p.body (Clocked name)

-- ---- pools: what was made is read in a pool that may have grown further, and in which resets may be read as signals

-- constants, signals and choices stay where they are
abbrev pub IsKept : Expr → Type 0
IsKept (Const n f) = Unit {0}
IsKept (expr.TheVariants.Sig s) = Unit {0}
IsKept (Mux s a b) = Unit {0}
IsKept e = ⊥

pub record IsReadIn (p q : Pooled) : Type 0 where
  pub signals : q.signals ≡ p.signals
  pub kept : (k : ℕ) (e : Expr) → slice_get p.exprs k ≡ Some e → IsKept e → slice_get q.exprs k ≡ Some e

-- ---- registers that are reset

-- what the statements of a process leave in a register with those of a reset inserter behind them: its init where the control is
-- not 0 and the process drives it, but where it is reset-less, else what they left
abbrev pub with_reset : Pooled → Pooled → List ℤ → Process → ExprId → ℕ → ℤ → ℤ
with_reset p q env proc c s left =
    if is_zero (num q env c.0) then left else (if is_among (driven p proc.body) s then own (slice_get q.signals s) left else left)

-- after a reset inserter a register of a controlled domain takes its init where the control is not 0, but where it is reset-less,
-- else what it took before; the domain's own reset acts after it
abbrev pub ResetRegistersTake : Type 0
ResetRegistersTake =
    (controls : List Control) (proc : Process) (name : List ℕ) (c : ExprId) (p q : Pooled) (domains : List Domain) (st : State) (env : List ℤ) (names : List (List ℕ)) (s : ℕ) → proc.side ≡ Clocked name → control_of controls name ≡ Some c → IsPool p → IsPool q
    → IsReadIn (reset_process controls p proc).1 q → AllByRecursion (λ (g : Guarded). IsTrue (is_target q g.target.0)) (guarded [] proc.body) → FitsSignals q st.held → length st.held ≡ length q.signals
    → register_number q domains st env names s (reset_process controls p proc).0.body (Clocked name) ≡ at_edge q domains st env names s name (with_reset p q env proc c s (at (put q env proc.body st.held) s))

-- the process of another domain stays as it is
abbrev pub OtherProcessesStay : Type 0
OtherProcessesStay = (controls : List Control) (proc : Process) (p : Pooled) → side_control controls proc.side ≡ None → reset_process controls p proc ≡ (proc, p)

-- ---- memory ports

-- after an enable inserter a write port of a controlled domain writes what it wrote before where the control is not 0, and else
-- nothing
abbrev pub EnabledWritesKeep : Type 0
EnabledWritesKeep =
    (controls : List Control) (w : MemWrite) (c : ExprId) (p q : Pooled) (domains : List Domain) (env : List ℤ) (names : List (List ℕ)) (m : Memory) (rows : List ℤ) → control_of controls w.domain ≡ Some c → IsPool q → IsReadIn (enabled_write controls p w).1 q
    → IsOf m.shape.signed m.shape.width (row_at q env rows w.addr) → write_port q domains env names m rows (enabled_write controls p w).0 ≡ (if is_zero (num q env c.0) then rows else write_port q domains env names m rows w)

-- so a memory whose write ports are of a controlled domain has the rows that it had after an edge where the control is not 0, and
-- else keeps its rows
abbrev pub EnabledRowsKeep : Type 0
EnabledRowsKeep =
    (controls : List Control) (m : Memory) (name : List ℕ) (c : ExprId) (p q : Pooled) (domains : List Domain) (env : List ℤ) (names : List (List ℕ)) (rows : List ℤ) → AllByRecursion (λ (w : MemWrite). w.domain ≡ name) m.writes → control_of controls name ≡ Some c → IsPool q
    → IsReadIn (enabled_memory controls p m).1 q → ((k : ℕ) → IsOf m.shape.signed m.shape.width (at rows k))
    → fold (write_port q domains env names (enabled_memory controls p m).0) rows (enabled_memory controls p m).0.writes ≡ (if is_zero (num q env c.0) then rows else fold (write_port q domains env names m) rows m.writes)

-- a read port of such a domain reads where it read before and the control is not 0
abbrev pub EnabledReadsKeep : Type 0
EnabledReadsKeep =
    (controls : List Control) (r : MemRead) (name : List ℕ) (c e : ExprId) (p q : Pooled) (domains : List Domain) (env : List ℤ) (names : List (List ℕ)) → r.domain ≡ Some name → r.enable ≡ Some e → control_of controls name ≡ Some c → IsPool q
    → IsReadIn (enabled_read controls p r).1 q → reads_now q domains env names (enabled_read controls p r).0 ≡ (if is_zero (num q env c.0) then false else reads_now q domains env names r)

-- ---- fragments: of a signal that statements of a fragment, or of one below it, drive

-- after an enable inserter a register of a controlled domain has after clocks toggled what it had where the control is not 0, and
-- else keeps
abbrev pub EnabledFragmentsKeep : Type 0
EnabledFragmentsKeep =
    (controls : List Control) (f : Fragment) (proc : Process) (name : List ℕ) (c : ExprId) (p q : Pooled) (domains : List Domain) (st : State) (env : List ℤ) (names : List (List ℕ)) (s : ℕ) → giver q f s ≡ statements proc → proc.side ≡ Clocked name
    → control_of controls name ≡ Some c
    → edge_number q (enabled controls p f).0 domains st env names s ≡ fold (toggle_by domains s) (at_edge q domains st env names s name (if is_zero (num q env c.0) then at st.held s else at (put q env proc.body st.held) s)) names

-- any other signal that statements drive has what it had
abbrev pub OtherSignalsStay : Type 0
OtherSignalsStay =
    (controls : List Control) (f : Fragment) (proc : Process) (p q : Pooled) (domains : List Domain) (st : State) (env : List ℤ) (names : List (List ℕ)) (s : ℕ) → giver q f s ≡ statements proc → side_control controls proc.side ≡ None
    → edge_number q (enabled controls p f).0 domains st env names s ≡ edge_number q f domains st env names s

-- after a reset inserter a register of a controlled domain has after clocks toggled its init where the control is not 0, but where
-- it is reset-less, else what it had; the expressions of the fragment stand for the signals for which they stood
abbrev pub ResetFragmentsTake : Type 0
ResetFragmentsTake =
    (controls : List Control) (f : Fragment) (proc : Process) (name : List ℕ) (c : ExprId) (p q : Pooled) (domains : List Domain) (st : State) (env : List ℤ) (names : List (List ℕ)) (s : ℕ) → IsPool p → IsPool q → IsReadIn (reset_inserted controls p f).1 q
    → AllBelow (length p.exprs) (fragment_exprs f) → ((k : ℕ) → k < length p.exprs → target_signals q k ≡ target_signals p k) → giver q f s ≡ statements proc → proc.side ≡ Clocked name → control_of controls name ≡ Some c
    → AllByRecursion (λ (g : Guarded). IsTrue (is_target q g.target.0)) (guarded [] proc.body) → FitsSignals q st.held → length st.held ≡ length q.signals
    → edge_number q (reset_inserted controls p f).0 domains st env names s ≡ fold (toggle_by domains s) (at_edge q domains st env names s name (with_reset p q env proc c s (at (put q env proc.body st.held) s))) names

-- ---- new names

-- each domain has under its new name the reset that it had
abbrev pub HaveTheirResets : List NamePair → List Domain → List Domain → Type 0
HaveTheirResets names before after = (name : List ℕ) → reset_of after (name_after names name) ≡ reset_of before name

-- what stands for an expression of a fragment with these expressions
abbrev pub new_id : List NamePair → Pooled → List ExprId → ExprId → ExprId
new_id names p roots = anew (length p.exprs) (remade names p roots)

-- the pool in which a renamed fragment is read
abbrev pub read_after : List NamePair → Pooled → List ExprId → List Domain → Pooled
read_after names p roots after = pool_in after (renamed_pool names p (remade names p roots))

-- what stands for an expression has its shape and its integer, and stands for the bits, of the signals, for which it
-- stood as a target
pub record MeansAs (p q : Pooled) (env : List ℤ) (k j : ℕ) : Type 0 where
  pub shape : form p j ≡ form q k
  pub value : num p env j ≡ num q env k
  pub places : target_bits p env j ≡ target_bits q env k
  pub signals : target_signals p j ≡ target_signals q k

-- after a renaming each expression of the fragment means what it meant
abbrev pub RenamedExpressionsStay : Type 0
RenamedExpressionsStay =
    (names : List NamePair) (p : Pooled) (roots : List ExprId) (before after : List Domain) (env : List ℤ) (k : ℕ) → IsPool p → IsPool (pool_in before p) → IsPool (read_after names p roots after) → HaveTheirResets names before after → AllBelow (length p.exprs) roots → k < length p.exprs → is_within p roots k ≡ true
    → MeansAs (read_after names p roots after) (pool_in before p) env k (new_id names p roots (record { 0 = k })).0

-- and statements over such expressions leave what they left
abbrev pub RenamedStatementsStay : Type 0
RenamedStatementsStay =
    (names : List NamePair) (p : Pooled) (roots : List ExprId) (before after : List Domain) (env cur : List ℤ) (body : Block) → IsPool p → IsPool (pool_in before p) → IsPool (read_after names p roots after) → HaveTheirResets names before after → AllBelow (length p.exprs) roots
    → AllByRecursion (λ (e : ExprId). (e.0 < length p.exprs) × (is_within p roots e.0 ≡ true)) (block_exprs body) → put (read_after names p roots after) env (renamed_block (new_id names p roots) body) cur ≡ put (pool_in before p) env body cur

-- and drive the signals that they drove
abbrev pub RenamedStatementsDrive : Type 0
RenamedStatementsDrive =
    (names : List NamePair) (p : Pooled) (roots : List ExprId) (before after : List Domain) (body : Block) → IsPool p → IsPool (pool_in before p) → IsPool (read_after names p roots after) → HaveTheirResets names before after → AllBelow (length p.exprs) roots
    → AllByRecursion (λ (e : ExprId). (e.0 < length p.exprs) × (is_within p roots e.0 ≡ true)) (block_exprs body) → driven (read_after names p roots after) (renamed_block (new_id names p roots) body) ≡ driven (pool_in before p) body
