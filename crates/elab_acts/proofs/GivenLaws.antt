-- Modules that were told more, and how many statements they then have.
use Rattle.std.proofs.Common.{◌≡◌, ℕ, ◌<◌, ◌≤◌, refl, true, false, length, Option, Some, None, arith, nat_lt}
use Rattle.std.specs.Prelude.{slice_get}
use Rattle.std.proofs.lemmas.Bool.Decides.{nat_tests}
use Rattle.py_frames.specs.declared.request.Cause.TheVariants.{Raised, Limit}
use Rattle.module_dsl.specs.Blocks.{in_switch}
use Rattle.module_dsl.specs.declared.refusal.BuildStop.{BuildStop}
use Rattle.module_dsl.specs.declared.step.Block.{Block}
use Rattle.module_dsl.specs.Builders.{Built, built_blocks, leave_refusal, and_left, enter_refusal}
use Rattle.design_ir.specs.declared.process.Side.{Side}
use Rattle.elab_store.specs.declared.kept.Equation.{Equation}
use Rattle.elab_store.specs.Stores.{Stored, Held}
use Rattle.elab_acts.specs.Blocks.{stop_cause, store_told, with_entered, entering_by, entering, leaving_by, leaving}
use Rattle.elab_store.proofs.CountLaws.{past_get}
use Rattle.elab_store.specs.Counts.{statement_count}
use Rattle.elab_acts.specs.Sides.{store_with_statement, statement_told}

-- ---- one statement

above : (n : ℕ) → 65536 < n → nat_lt 65536 n ≡ true
above n h = grind (arith, nat_tests)

within : (n : ℕ) → n ≤ 65536 → nat_lt 65536 n ≡ false
within n h = grind (arith, nat_tests)

module _ (m : ℕ) (b : Built) (d : Side) (q : Equation) (s : Stored) (at : slice_get s.modules m ≡ Some b) where
  pub told-misplaced : in_switch (built_blocks b).around ≡ true → statement_told m d q (slice_get s.modules m) s ≡ (s, Some Raised)
  told-misplaced i = rw (at, i) refl

  pub told-over : (n : ℕ) → in_switch (built_blocks b).around ≡ false → statement_count (store_with_statement m b d q s).modules ≡ n → 65536 < n → statement_told m d q (slice_get s.modules m) s ≡ (s, Some Limit)
  told-over n i count over = rw (at, i, count, above n over) refl

  pub told-given : (n : ℕ) → in_switch (built_blocks b).around ≡ false → statement_count (store_with_statement m b d q s).modules ≡ n → n ≤ 65536 → statement_told m d q (slice_get s.modules m) s ≡ (store_with_statement m b d q s, None)
  told-given n i count few = rw (at, i, count, within n few) refl

pub told-nowhere : (m : ℕ) (d : Side) (q : Equation) (s : Stored) → length s.modules ≤ m → statement_told m d q (slice_get s.modules m) s ≡ (s, None)
told-nowhere m d q s h = rw (past_get s.modules m h) refl

-- ---- blocks

leaving-some : (m : ℕ) (b : Built) (s : Stored) (o : Option BuildStop) → slice_get s.modules m ≡ Some b → leave_refusal b ≡ o → leaving m (slice_get s.modules m) s ≡ leaving_by o m b s
leaving-some m b s o at e = rw (at, e) refl

pub leaving-given : (m : ℕ) (b : Built) (s : Stored) → slice_get s.modules m ≡ Some b → leave_refusal b ≡ None → leaving m (slice_get s.modules m) s ≡ (store_told m (and_left b) s, None)
leaving-given m b s at e = leaving-some m b s None at e

pub leaving-refused : (m : ℕ) (b : Built) (s : Stored) (stop : BuildStop) → slice_get s.modules m ≡ Some b → leave_refusal b ≡ Some stop → leaving m (slice_get s.modules m) s ≡ (s, Some (stop_cause stop))
leaving-refused m b s stop at e = leaving-some m b s (Some stop) at e

pub leaving-nowhere : (m : ℕ) (s : Stored) → length s.modules ≤ m → leaving m (slice_get s.modules m) s ≡ (s, Some Raised)
leaving-nowhere m s h = rw (past_get s.modules m h) refl

entering-some : (m : ℕ) (b : Built) (x : Block) (h : Held) (o : Option BuildStop) → slice_get h.store.modules m ≡ Some b → enter_refusal h.pool b x ≡ o → entering m (slice_get h.store.modules m) x h ≡ entering_by o m b x h
entering-some m b x h o at e = rw (at, e) refl

pub entering-given : (m : ℕ) (b : Built) (x : Block) (h : Held) → slice_get h.store.modules m ≡ Some b → enter_refusal h.pool b x ≡ None → entering m (slice_get h.store.modules m) x h ≡ (with_entered m b x h, None)
entering-given m b x h at e = entering-some m b x h None at e

pub entering-refused : (m : ℕ) (b : Built) (x : Block) (h : Held) (stop : BuildStop) → slice_get h.store.modules m ≡ Some b → enter_refusal h.pool b x ≡ Some stop → entering m (slice_get h.store.modules m) x h ≡ (h, Some (stop_cause stop))
entering-refused m b x h stop at e = entering-some m b x h (Some stop) at e
