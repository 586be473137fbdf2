-- Sources that stand for what statements leave in the signals that they drive.
use Rattle.std.specs.Prelude.{◌≡◌, ℕ, Bool, true, false, if◌then◌else◌, List, [], ◌++◌, length, slice_get, slice_index_or, fold, ℤ, pos, Some, All, Contains, option_map, unwrap_or}
use Rattle.amh_bits.specs.Patterns.{pattern, nat_bit}
use Rattle.design_ir.specs.declared.signal.Sig.{Sig}
use Rattle.design_ir.specs.Pools.{Pooled}
use Rattle.design_ir.specs.Values.{signal_form}
use Rattle.design_ir.specs.Targets.{Bit}
use Rattle.design_ir.specs.Circuits.{at, is_among, FitsSignals}
use Rattle.design_ir.specs.Guards.{Guarded}
use Rattle.design_ir.specs.GuardedPut.{put_guarded}
use Rattle.design_ir.specs.Loops.{AssignmentNeeds}
use Rattle.flat_design.specs.declared.sources.Source.{Source}
use Rattle.flat_design.specs.Growing.{IsMore}
use Rattle.flat_design.specs.Sources.{IsSource, source_bit, source_needs}

-- the number of a signal before any statement: a register's own, of another signal its init
abbrev pub init_of : Pooled → ℕ → ℤ
init_of p s = unwrap_or (option_map (λ (x : Sig). x.init) (slice_get p.signals s)) (pos 0)

abbrev pub start_number : Pooled → Bool → List ℤ → ℕ → ℤ
start_number p clocked env s = if clocked then at env s else init_of p s

-- the numbers that these signals have before any statement
abbrev pub Starts : Pooled → Bool → List ℕ → List ℤ → List ℤ → Type 0
Starts p clocked driven env cur = (s : ℕ) → is_among driven s ≡ true → at cur s ≡ start_number p clocked env s

-- an assignment of the list may write b, and then reads c
pub record SomeNeeds (p : Pooled) (done : List Guarded) (b c : Bit) : Type 0 where
  pub assignment : Guarded
  pub among : Contains done assignment
  pub needs : AssignmentNeeds p assignment b c

-- ---- what a process has left so far

-- a process up to some statement: the pool, whether it is clocked, the signals that it drives, what it has left (from an
-- environment, and the numbers before it), and the assignments that it has carried out
pub record SoFar : Type 0 where
  pub pool : Pooled
  pub clocked : Bool
  pub driven : List ℕ
  pub behind : List ℤ → List ℤ → List ℤ
  pub done : List Guarded

-- The bits of a signal come from these sources, of a pool that has grown to q: they are those of its number so far, and need
-- no more than what the assignments make it need.
pub record IsSlot (t : SoFar) (q : Pooled) (s : ℕ) (xs : List Source) : Type 0 where
  pub size : length xs ≡ (signal_form t.pool.signals s).width
  pub sources : All (IsSource q) xs
  pub bits : (env cur : List ℤ) (i : ℕ) (x : Source) → FitsSignals t.pool env → FitsSignals t.pool cur → length cur ≡ length t.pool.signals → Starts t.pool t.clocked t.driven env cur → slice_get xs i ≡ Some x
      → source_bit q env x ≡ nat_bit (pattern (signal_form t.pool.signals s).width (at (t.behind env cur) s)) i
  pub needs : t.clocked ≡ false → (i : ℕ) (x : Source) (c : Bit) → slice_get xs i ≡ Some x → Contains (source_needs q x) c → SomeNeeds t.pool t.done (record { sig = s; index = i }) c

-- so for each signal that is driven, and all signals have a number still
pub record AreSlots (t : SoFar) (q : Pooled) (slots : List (List Source)) : Type 0 where
  pub more : IsMore t.pool q
  pub size : length slots ≡ length t.pool.signals
  pub long : (env cur : List ℤ) → FitsSignals t.pool env → length (t.behind env cur) ≡ length cur
  pub each : (s : ℕ) → is_among t.driven s ≡ true → IsSlot t q s (slice_index_or slots s [])

-- ---- assignments one after another

-- what these assignments leave behind other statements
abbrev pub and_then : Pooled → (List ℤ → List ℤ → List ℤ) → List Guarded → List ℤ → List ℤ → List ℤ
and_then p behind gs env cur = fold (put_guarded p env) (behind env cur) gs

-- the process with these assignments more
abbrev pub after : SoFar → List Guarded → SoFar
after t gs = record t { behind = and_then t.pool t.behind gs; done = t.done ++ gs }
