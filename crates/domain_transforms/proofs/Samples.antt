-- Small fragments and what the wrappers make of them, by computation.
use Rattle.std.specs.Prelude.{◌≡◌, refl, ℕ, true, List, [], ◌∷◌, pos, Some, None, codes}
use Rattle.shape_rules.specs.Forms.{unsigned}
use Rattle.design_ir.specs.declared.ids.ExprId.{ExprId}
use Rattle.design_ir.specs.declared.expr.Expr.TheVariants.{Const, Mux, Cat, Reset}
use Rattle.design_ir.specs.declared.process.Side.{Side}
use Rattle.design_ir.specs.declared.process.Side.TheVariants.{Comb, Clocked}
use Rattle.design_ir.specs.declared.process.Process.{Process}
use Rattle.design_ir.specs.Trees.{assign, choose, none, arm, Block, done, next}
use Rattle.design_ir.specs.Pools.{Pooled}
use Rattle.design_ir.specs.Values.{form}
use Rattle.design_ir.specs.Targets.{target_signals}
use Rattle.design_ir.proofs.SanityParts.{signal, e, s, set, here}
use Rattle.domain_transforms.specs.declared.controls.Control.{Control}
use Rattle.domain_transforms.specs.declared.controls.NamePair.{NamePair}
use Rattle.domain_transforms.specs.Controlled.{control_of, name_after}
use Rattle.domain_transforms.specs.Counted.{block_count}
use Rattle.domain_transforms.specs.Enabling.{enabled_process, gated}
use Rattle.domain_transforms.specs.Renamed.{holds_renamed, inside, remade, renamed_pool, renamed_processes}
use Rattle.domain_transforms.specs.Resetting.{file_start, reset_process, reset_registers}

control : List ℕ → ℕ → Control
control name k = record { domain = name; condition = record { 0 = k } }

pair : List ℕ → List ℕ → NamePair
pair before after = record { before = before; after = after }

process : Side → Block → Process
process side body = record { side = side; body = body }

-- ---- controls and names: the first entry for a domain counts

first_control : control_of (control (codes "fast") 7 ∷ control (codes "sync") 8 ∷ control (codes "fast") 9 ∷ []) (codes "fast") ≡ Some (record { 0 = 7 })
unfolding control
first_control = refl

no_control : control_of (control (codes "fast") 7 ∷ []) (codes "sync") ≡ None
unfolding control
no_control = refl

new_name : name_after (pair (codes "a") (codes "b") ∷ pair (codes "b") (codes "c") ∷ []) (codes "a") ≡ codes "b"
unfolding pair
new_name = refl

own_name : name_after (pair (codes "a") (codes "b") ∷ []) (codes "sync") ≡ codes "sync"
unfolding pair
own_name = refl

-- ---- statements: two assignments in a choice are three statements

counted : block_count (next (choose (arm (e 4) (next (set 0 1) (next (set 2 3) done)) none)) done) ≡ 3
counted = refl

-- ---- an enable: the statements of `sync` stand under its control, others stay

gated_statements : enabled_process (control (codes "sync") 3 ∷ []) (process (Clocked (codes "sync")) (next (set 0 1) done)) ≡ process (Clocked (codes "sync")) (next (choose (arm (e 3) (next (set 0 1) done) none)) done)
unfolding control process
gated_statements = refl

others_stay : enabled_process (control (codes "sync") 3 ∷ []) (process Comb (next (set 0 1) done)) ≡ process Comb (next (set 0 1) done)
unfolding control process
others_stay = refl

-- an enable of two bits, and a control: a 0 of two bits and a choice come
small : Pooled
small = record { signals = signal (unsigned 1) (pos 0) ∷ signal (unsigned 2) (pos 0) ∷ []; exprs = s 0 ∷ s 1 ∷ [] }

gate : gated small (e 0) (e 1) ≡ (e 3, record small { exprs = s 0 ∷ s 1 ∷ Const (pos 0) (unsigned 2) ∷ Mux (e 0) (e 1) (e 2) ∷ [] })
unfolding small form
gate = refl

-- ---- a reset: of two registers the one that is not reset-less gets its init, 5

registers : Pooled
registers = record { signals = signal (unsigned 4) (pos 5) ∷ record (signal (unsigned 4) (pos 6)) { reset_less = true } ∷ []; exprs = s 1 ∷ s 0 ∷ Const (pos 3) (unsigned 4) ∷ [] }

both_set : Block
both_set = next (set 0 2) (next (set 1 2) done)

reset : reset_process (control (codes "sync") 2 ∷ []) registers (process (Clocked (codes "sync")) both_set)
    ≡ (
      process (Clocked (codes "sync")) (next (set 0 2) (next (set 1 2) (next (choose (arm (e 2) (next (assign (e 1) (e 3) file_start) done) none)) done))),
      record registers { exprs = s 1 ∷ s 0 ∷ Const (pos 3) (unsigned 4) ∷ Const (pos 5) (unsigned 4) ∷ [] },
    )
unfolding control process registers both_set target_signals reset_registers
reset = refl

-- ---- a new name: of the expressions of the fragment those in which the reset of `fast` stands come anew, in their order; the last
-- ---- one is not of the fragment

resets : Pooled
resets = record { signals = signal (unsigned 1) (pos 0) ∷ []; exprs = s 0 ∷ Reset (codes "fast") here ∷ Cat (e 1 ∷ e 0 ∷ []) ∷ Cat (e 0 ∷ []) ∷ Cat (e 1 ∷ []) ∷ [] }

which : remade (pair (codes "fast") (codes "slow") ∷ []) resets (e 2 ∷ e 3 ∷ []) ≡ 1 ∷ 2 ∷ []
unfolding pair resets remade holds_renamed inside
which = refl

anew_pool : renamed_pool (pair (codes "fast") (codes "slow") ∷ []) resets (1 ∷ 2 ∷ []) ≡ record resets { exprs = s 0 ∷ Reset (codes "fast") here ∷ Cat (e 1 ∷ e 0 ∷ []) ∷ Cat (e 0 ∷ []) ∷ Cat (e 1 ∷ []) ∷ Reset (codes "slow") here ∷ Cat (e 5 ∷ e 0 ∷ []) ∷ [] }
unfolding pair resets
anew_pool = refl

-- two domains that get one name have one process, in the place of the first
joined : renamed_processes (pair (codes "a") (codes "b") ∷ []) (λ (x : ExprId). x) (process (Clocked (codes "a")) (next (set 0 1) done) ∷ process Comb (next (set 2 3) done) ∷ process (Clocked (codes "b")) (next (set 4 5) done) ∷ [])
    ≡ process (Clocked (codes "b")) (next (set 0 1) (next (set 4 5) done)) ∷ process Comb (next (set 2 3) done) ∷ []
unfolding pair process
joined = refl
