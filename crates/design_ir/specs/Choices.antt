-- What a target stands for where its offsets and indices have some numbers, each occurrence one of its own; and that its
-- aims are exactly these places. Which bits an assignment may write is this project's own rule: those that some numbers of
-- its offsets and indices choose.
use Rattle.std.specs.Prelude.{◌≡◌, ℕ, ◌-◌, ◌*◌, ◌≤◌, min, Bool, true, List, [], ◌∷◌, ◌++◌, map, length, take, drop, slice_get, ℤ, Option, Some, Contains}
use Rattle.design_ir.specs.declared.ids.ExprId.{ExprId}
use Rattle.design_ir.specs.declared.ids.SigId.{SigId}
use Rattle.design_ir.specs.declared.expr.Expr as expr
use Rattle.design_ir.specs.declared.expr.Expr.TheVariants.{Slice, Cat, Part, Pick, Cast}
use Rattle.design_ir.specs.Pools.{Pooled}
use Rattle.design_ir.specs.Values.{form, signal_form, common_of_all}
use Rattle.design_ir.specs.Targets.{Bit, bits_of, padded, target_bits, is_target, numbers, Aim, fixed, stands_at, aims}
use Rattle.design_ir.specs.Circuits.{FitsSignals}

-- expression k, as an offset or an index, may have this number
pub record IsNumber (pool : Pooled) (k n : ℕ) : Type 0 where
  pub above : (numbers pool k).least ≤ n
  pub below : n ≤ (numbers pool k).greatest

mutual
  -- for some numbers of its offsets and indices expression k stands for these places as a target
  pub data StandsFor (pool : Pooled) : ℕ → List (Option Bit) → Type 0 where
    whole : (k : ℕ) (s : SigId) → slice_get pool.exprs k ≡ Some (expr.TheVariants.Sig s) → StandsFor pool k (map (λ b. Some b) (bits_of s.0 (signal_form pool.signals s.0).width))
    sliced : (k : ℕ) (a : ExprId) (low width : ℕ) (places : List (Option Bit)) → slice_get pool.exprs k ≡ Some (Slice a low width) → StandsFor pool a.0 places → StandsFor pool k (take width (drop low places))
    joined : (k : ℕ) (es : List ExprId) (places : List (Option Bit)) → slice_get pool.exprs k ≡ Some (Cat es) → StandForAll pool es places → StandsFor pool k places
    part : (k : ℕ) (a offset : ExprId) (width stride o : ℕ) (places : List (Option Bit)) → slice_get pool.exprs k ≡ Some (Part a offset width stride) → IsNumber pool offset.0 o → StandsFor pool a.0 places
        → StandsFor pool k (padded width (drop (o * stride) places))
    item : (k : ℕ) (index : ExprId) (es : List ExprId) (i : ℕ) (e : ExprId) (places : List (Option Bit)) → slice_get pool.exprs k ≡ Some (Pick index es) → IsNumber pool index.0 i → slice_get es (min i (length es - 1)) ≡ Some e → StandsFor pool e.0 places
        → StandsFor pool k (padded (common_of_all (form pool) es).width places)
    same : (k : ℕ) (a : ExprId) (signed : Bool) (places : List (Option Bit)) → slice_get pool.exprs k ≡ Some (Cast a signed) → StandsFor pool a.0 places → StandsFor pool k places

  -- the places of targets one above the other
  pub data StandForAll (pool : Pooled) : List ExprId → List (Option Bit) → Type 0 where
    none : StandForAll pool [] []
    and : (e : ExprId) (es : List ExprId) (own others : List (Option Bit)) → StandsFor pool e.0 own → StandForAll pool es others → StandForAll pool (e ∷ es) (own ++ others)

-- one of these aims is at the bit, and stands at the place
pub record HasAim (list : List Aim) (b : Bit) (j : ℕ) : Type 0 where
  pub aim : Aim
  pub among : Contains list aim
  pub bit : aim.bit ≡ b
  pub stands : stands_at aim.spot j ≡ true

-- for some numbers of its offsets and indices the bit stands at place j of the target
pub record IsPlaced (pool : Pooled) (k : ℕ) (b : Bit) (j : ℕ) : Type 0 where
  pub places : List (Option Bit)
  pub chosen : StandsFor pool k places
  pub here : slice_get places j ≡ Some (Some b)

-- ---- the laws

-- the numbers of signals choose places of a target
abbrev pub SignalsChoose : Pooled → Type 0
SignalsChoose pool = (env : List ℤ) (k : ℕ) → FitsSignals pool env → is_target pool k ≡ true → StandsFor pool k (target_bits pool env k)

-- whatever numbers offsets and indices have, each bit that a target stands for is one of its aims, at its place
abbrev pub PlacesAreAims : Pooled → Type 0
PlacesAreAims pool = (k : ℕ) (b : Bit) (j : ℕ) → IsPlaced pool k b j → HasAim (aims pool k) b j

-- each aim of a target is its bit wherever it stands, for some numbers of the offsets and indices
abbrev pub AimsArePlaces : Pooled → Type 0
AimsArePlaces pool = (k : ℕ) (x : Aim) (j : ℕ) → is_target pool k ≡ true → Contains (aims pool k) x → stands_at x.spot j ≡ true → IsPlaced pool k x.bit j

-- each aim stands somewhere
abbrev pub AimsStand : Pooled → Type 0
AimsStand pool = (k : ℕ) (x : Aim) → Contains (aims pool k) x → (j : ℕ) × (stands_at x.spot j ≡ true)

-- an aim at a fixed place stands there whatever numbers the offsets and indices have
abbrev pub FixedAimsStay : Pooled → Type 0
FixedAimsStay pool = (k : ℕ) (places : List (Option Bit)) (b : Bit) (j : ℕ) → StandsFor pool k places → Contains (aims pool k) (record { bit = b; spot = fixed j }) → slice_get places j ≡ Some (Some b)
