-- What a write leaves in the slots.
use Rattle.std.specs.Prelude.{◌≡◌, ◌≢◌, ℕ, ◌+◌, ◌<◌, ◌≤◌, Bool, if◌then◌else◌, List, [], ◌++◌, length, slice_get, slice_index_or, ℤ, Some, All, Contains}
use Rattle.amh_bits.specs.Patterns.{int_bit}
use Rattle.design_ir.specs.declared.ids.ExprId.{ExprId}
use Rattle.design_ir.specs.Pools.{Pooled}
use Rattle.design_ir.specs.Values.{form, num}
use Rattle.design_ir.specs.Targets.{Bit}
use Rattle.design_ir.specs.Needed.{needed, extended}
use Rattle.design_ir.specs.Circuits.{FitsSignals}
use Rattle.flat_design.specs.declared.sources.Source.{Source}
use Rattle.flat_design.specs.declared.writes.Write.{Write}
use Rattle.flat_design.specs.Sources.{IsSource, source_bit, source_needs}

-- where the test holds the new source, else the old one; the pool was q, and is r
pub record IsGuarded (q r : Pooled) (test : List ℤ → Bool) (bits : List Bit) (new old x : Source) : Type 0 where
  pub source : IsSource r x
  pub bit : (env : List ℤ) → FitsSignals q env → source_bit r env x ≡ (if test env then source_bit q env new else source_bit q env old)
  pub needs : (c : Bit) → Contains (source_needs r x) c → Contains (bits ++ source_needs q new ++ source_needs q old) c

-- so at each place
pub record AreGuarded (q r : Pooled) (test : List ℤ → Bool) (bits : List Bit) (news olds xs : List Source) : Type 0 where
  pub size : length xs ≡ length olds
  pub each : (i : ℕ) (new old x : Source) → slice_get news i ≡ Some new → slice_get olds i ≡ Some old → slice_get xs i ≡ Some x → IsGuarded q r test bits new old x

-- where the test holds bit i of the value, else the old source; the pool was q, and is r
pub record IsWritten (q r : Pooled) (test : List ℤ → Bool) (bits : List Bit) (value : ExprId) (i : ℕ) (old new : Source) : Type 0 where
  pub source : IsSource r new
  pub bit : (env : List ℤ) → FitsSignals q env → source_bit r env new ≡ (if test env then int_bit (num q env value.0) i else source_bit q env old)
  pub needs : (c : Bit) → Contains (source_needs r new) c → Contains (bits ++ extended (form q value.0) (needed q value.0) i ++ source_needs q old) c

-- so in the bits of the write, and the others stay
pub record IsWrittenSlot (q r : Pooled) (test : List ℤ → Bool) (bits : List Bit) (value : ExprId) (w : Write) (old new : List Source) : Type 0 where
  pub size : length new ≡ length old
  pub below : (i : ℕ) → i < w.low → slice_get new i ≡ slice_get old i
  pub above : (i : ℕ) → w.low + w.width ≤ i → slice_get new i ≡ slice_get old i
  pub written : (i : ℕ) (x y : Source) → i < w.width → slice_get old (w.low + i) ≡ Some x → slice_get new (w.low + i) ≡ Some y → IsWritten q r test bits value (w.from + i) x y

-- so in the slot of the write's signal, and the others stay
pub record AreWrittenSlots (q r : Pooled) (test : List ℤ → Bool) (bits : List Bit) (value : ExprId) (w : Write) (old new : List (List Source)) : Type 0 where
  pub size : length new ≡ length old
  pub others : (s : ℕ) → s ≢ w.sig.0 → slice_index_or new s [] ≡ slice_index_or old s []
  pub own : IsWrittenSlot q r test bits value w (slice_index_or old w.sig.0 []) (slice_index_or new w.sig.0 [])

-- the write's signal has a slot of sources in which its bits are
pub record IsSlotOf (q : Pooled) (w : Write) (slots : List (List Source)) : Type 0 where
  pub there : w.sig.0 < length slots
  pub sources : All (IsSource q) (slice_index_or slots w.sig.0 [])
  pub inside : w.low + w.width ≤ length (slice_index_or slots w.sig.0 [])
