-- A bit that has a value keeps it at a greater depth.
use Rattle.std.specs.Prelude.{◌≡◌, refl, ℕ, zero, suc, Bool, true, false, List, [], ◌∷◌, slice_get, Option, Some, None, option_map, option_and_then, codes, if◌then◌else◌}
use Rattle.shape_rules.specs.declared.cell.CellKind.{CellKind}
use Rattle.shape_rules.specs.declared.cell.CellKind.TheVariants.{Not, And, Or, Xor, ReduceOr, ReduceAnd, ReduceXor, Mux, Dff, Adff, MemoryRead, MemoryWrite, MemoryInit, Many}
use Rattle.rtlil_text.specs.declared.cell.RtlCell.{RtlCell}
use Rattle.rtlil_text.specs.declared.module.RtlModule.{RtlModule}
use Rattle.rtlil_text.specs.Sources.{Source, Constant, Net, spec_bits, end_bits, end_width, memory_id}
use Rattle.rtlil_text.specs.CellTables.{output_of}
use Rattle.rtlil_text.specs.Drivers.{Driver, ByInput, ByLink, ByCell, ByNone, driver}
use Rattle.rtlil_text.specs.Cells.{read, bit_at, both, bits_number, reduced, reduced_bit, result_bits, whole_bit, cell_bit}
use Rattle.rtlil_text.specs.Meaning.{State, Inputs, source_value, row_bit, is_kept, comb_bit, driven_bit, bit}

-- y has the value of x, if x has one
abbrev pub Grows : {A : Type 0} → Option A → Option A → Type 0
Grows {A} x y = (v : A) → x ≡ Some v → y ≡ Some v

pub Grows-none : {A : Type 0} (y : Option A) → Grows None y
Grows-none y v e = cc

pub Grows-same : {A : Type 0} (x : Option A) → Grows x x
Grows-same x v e = e

pub Grows-trans : {A : Type 0} (x y z : Option A) → Grows x y → Grows y z → Grows x z
Grows-trans x y z p q v e = q v (p v e)

pub Grows-and_then : {A B : Type 0} (f g : A → Option B) (x y : Option A) → Grows x y → ((a : A) → Grows (f a) (g a)) → Grows (option_and_then f x) (option_and_then g y)
Grows-and_then f g None y h k v e = cc
Grows-and_then f g (Some a) y h k v e = rw (h a refl) (k a v e)

Grows-map : {A B : Type 0} (f : A → B) (x y : Option A) → Grows x y → Grows (option_map f x) (option_map f y)
Grows-map f None y h v e = cc
Grows-map f (Some a) y h v e = rw (h a refl) e

module _ (f g : Source → Option Bool) (more : (s : Source) → Grows (f s) (g s)) where
  pub Grows-read : (ss : List Source) → Grows (read f ss) (read g ss)
  Grows-read [] = Grows-same (Some [])
  Grows-read (s ∷ ss) = Grows-and_then (λ v. option_map (λ vs. v ∷ vs) (read f ss)) (λ v. option_map (λ vs. v ∷ vs) (read g ss)) _ _ (more s) (λ v. Grows-map _ _ _ (Grows-read ss))

  pub Grows-bit_at : (ss : List Source) (k : ℕ) → Grows (bit_at f ss k) (bit_at g ss k)
  Grows-bit_at ss k = Grows-and_then f g _ _ (Grows-same (slice_get ss k)) more

  Grows-whole : (c : RtlCell) (width k : ℕ) → Grows (whole_bit f c width k) (whole_bit g c width k)
  Grows-whole c width k =
      Grows-and_then _ _ _ _ (Grows-read (end_bits c (codes "\\A"))) (λ a. Grows-and_then (λ b. option_and_then (λ y. slice_get y k) (result_bits c width a b)) _ _ _ (Grows-read (end_bits c (codes "\\B"))) (λ b. Grows-same _))

  Grows-both : (h : Bool → Bool → Bool) (x y x' y' : Option Bool) → Grows x x' → Grows y y' → Grows (both h x y) (both h x' y')
  Grows-both h x y x' y' p q = Grows-and_then _ _ _ _ p (λ a. Grows-map _ _ _ q)

  Grows-reduced : (c : RtlCell) (k : ℕ) (kind : CellKind) → Grows (reduced_bit f c k kind) (reduced_bit g c k kind)
  Grows-reduced c zero kind = Grows-and_then (reduced kind) _ _ _ (Grows-read (end_bits c (codes "\\A"))) (λ a. Grows-same _)
  Grows-reduced c (suc k) kind = Grows-same _

  Grows-cell : (c : RtlCell) (width k : ℕ) (kind : CellKind) → Grows (cell_bit f c width k kind) (cell_bit g c width k kind)
  Grows-cell c width k Not = Grows-map _ _ _ (Grows-bit_at (end_bits c (codes "\\A")) k)
  Grows-cell c width k And = Grows-both _ _ _ _ _ (Grows-bit_at (end_bits c (codes "\\A")) k) (Grows-bit_at (end_bits c (codes "\\B")) k)
  Grows-cell c width k Or = Grows-both _ _ _ _ _ (Grows-bit_at (end_bits c (codes "\\A")) k) (Grows-bit_at (end_bits c (codes "\\B")) k)
  Grows-cell c width k Xor = Grows-both _ _ _ _ _ (Grows-bit_at (end_bits c (codes "\\A")) k) (Grows-bit_at (end_bits c (codes "\\B")) k)
  Grows-cell c width k Mux = Grows-and_then _ _ _ _ (Grows-bit_at (end_bits c (codes "\\S")) 0) (λ t. Grows-both _ _ _ _ _ (Grows-bit_at (end_bits c (codes "\\A")) k) (Grows-bit_at (end_bits c (codes "\\B")) k))
  Grows-cell c width k ReduceOr = Grows-reduced c k ReduceOr
  Grows-cell c width k ReduceAnd = Grows-reduced c k ReduceAnd
  Grows-cell c width k ReduceXor = Grows-reduced c k ReduceXor
  Grows-cell c width k Dff = Grows-same _
  Grows-cell c width k Adff = Grows-same _
  Grows-cell c width k MemoryRead = Grows-same _
  Grows-cell c width k MemoryWrite = Grows-same _
  Grows-cell c width k MemoryInit = Grows-same _
  Grows-cell c width k Many = Grows-same _
  Grows-cell c width k kind = Grows-whole c width k

  Grows-comb : (m : RtlModule) (st : State) (c : RtlCell) (k : ℕ) (kind : CellKind) → Grows (comb_bit m st f c k kind) (comb_bit m st g c k kind)
  Grows-comb m st c k MemoryRead = Grows-and_then (λ address. row_bit m st (memory_id c) (bits_number address) k) _ _ _ (Grows-read (end_bits c (codes "\\ADDR"))) (λ a. Grows-same _)
  Grows-comb m st c k kind = Grows-cell c (end_width c (output_of kind)) k kind

  Grows-choice : {A : Type 0} (b : Bool) (x y y' : Option A) → Grows y y' → Grows (if b then x else y) (if b then x else y')
  Grows-choice true x y y' h = Grows-same x
  Grows-choice false x y y' h = h

  pub Grows-driven : (m : RtlModule) (st : State) (inputs : Inputs) (wire : List ℕ) (i : ℕ) (d : Driver) → Grows (driven_bit m st inputs f wire i d) (driven_bit m st inputs g wire i d)
  Grows-driven m st inputs wire i ByInput = Grows-same _
  Grows-driven m st inputs wire i (ByLink l k) = Grows-bit_at (spec_bits l.right) k
  Grows-driven m st inputs wire i (ByCell c k) = Grows-choice (is_kept c) _ _ _ (Grows-comb m st c k c.kind)
  Grows-driven m st inputs wire i ByNone = Grows-same _

pub Grows-source : (f g : List ℕ → ℕ → Option Bool) → ((wire : List ℕ) (i : ℕ) → Grows (f wire i) (g wire i)) → (s : Source) → Grows (source_value f s) (source_value g s)
Grows-source f g h (Constant b) = Grows-same _
Grows-source f g h (Net wire i) = h wire i

-- one more step of depth keeps each value
pub bit-deeper : (m : RtlModule) (st : State) (inputs : Inputs) (n : ℕ) (wire : List ℕ) (i : ℕ) → Grows (bit m st inputs n wire i) (bit m st inputs (suc n) wire i)
bit-deeper m st inputs zero wire i = Grows-none _
bit-deeper m st inputs (suc n) wire i =
    Grows-driven (source_value (bit m st inputs n)) (source_value (bit m st inputs (suc n))) (Grows-source _ _ (bit-deeper m st inputs n)) m st inputs wire i (driver m wire i)
