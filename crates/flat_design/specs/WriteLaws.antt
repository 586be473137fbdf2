-- What is proved of the writes of a target.
use Rattle.std.specs.Prelude.{◌≡◌, ℕ, ◌+◌, ◌<◌, ◌≤◌, true, false, List, length, fold, ℤ, Contains}
use Rattle.design_ir.specs.Pools.{Pooled}
use Rattle.design_ir.specs.Values.{form, signal_form}
use Rattle.design_ir.specs.Targets.{Bit, is_target, target_bits, target_signals, aims}
use Rattle.design_ir.specs.Choices.{HasAim}
use Rattle.design_ir.specs.Needed.{needed_whole, needed_indices}
use Rattle.design_ir.specs.Put.{put_bits}
use Rattle.design_ir.specs.Circuits.{is_among, FitsSignals}
use Rattle.design_ir.specs.Designs.{holds_reset}
use Rattle.flat_design.specs.declared.writes.Test.{Test}
use Rattle.flat_design.specs.declared.writes.Write.{Write}
use Rattle.flat_design.specs.Activity.{IsTest}
use Rattle.flat_design.specs.Writes.{writes, put_write}

-- one after another they leave what the target leaves
abbrev pub WritesPut : Pooled → Type 0
WritesPut p =
    (k : ℕ) (env cur : List ℤ) (v : ℕ) → is_target p k ≡ true → FitsSignals p env → put_bits p (target_bits p env k) v 0 cur ≡ fold (put_write p env v) cur (writes p k)

-- each bit of a write is an aim of the target, at the place of the value from which it comes
abbrev pub WritesAreAims : Pooled → Type 0
WritesAreAims p =
    (k : ℕ) (w : Write) (i : ℕ) → is_target p k ≡ true → Contains (writes p k) w → i < w.width → HasAim (aims p k) (record { sig = w.sig.0; index = w.low + i }) (w.from + i)

-- some bits of a signal of the target, and as many of the target's
pub record IsInside (p : Pooled) (k : ℕ) (w : Write) : Type 0 where
  pub there : w.sig.0 < length p.signals
  pub some : 0 < w.width
  pub bits : w.low + w.width ≤ (signal_form p.signals w.sig.0).width
  pub value : w.from + w.width ≤ (form p k).width
  pub among : is_among (target_signals p k) w.sig.0 ≡ true

abbrev pub WritesAreInside : Pooled → Type 0
WritesAreInside p = (k : ℕ) (w : Write) → is_target p k ≡ true → Contains (writes p k) w → IsInside p k w

-- a test is of an offset or an index of the target
pub record IsOwnTest (p : Pooled) (k : ℕ) (t : Test) : Type 0 where
  pub test : holds_reset p k ≡ false → IsTest p t
  pub needs : (c : Bit) → Contains (needed_whole p t.index) c → Contains (needed_indices p k) c

abbrev pub TestsAreOwn : Pooled → Type 0
TestsAreOwn p = (k : ℕ) (w : Write) (t : Test) → is_target p k ≡ true → Contains (writes p k) w → Contains w.tests t → IsOwnTest p k t
