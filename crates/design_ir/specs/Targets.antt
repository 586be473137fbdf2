-- What a target stands for: bits of signals.
use Rattle.std.specs.Prelude.{ℕ, ◌+◌, ◌-◌, ◌*◌, ◌^◌, ◌==◌, min, nat_lt, nat_le, ◌&&◌, Bool, true, false, if◌then◌else◌, List, [], ◌∷◌, ◌++◌, map, length, take, drop, replicate, slice_get, ℤ, unsigned_abs, Option, Some, None, option_and_then}
use Rattle.std.specs.List.{flat_map, filter_map, list_all, list_any, range_with_len}
use Rattle.shape_rules.specs.Forms.{Form}
use Rattle.design_ir.specs.declared.ids.ExprId.{ExprId}
use Rattle.design_ir.specs.declared.expr.Expr as expr
use Rattle.design_ir.specs.declared.expr.Expr.{Expr}
use Rattle.design_ir.specs.declared.expr.Expr.TheVariants.{Const, Unary, Binary, Mux, Slice, Cat, Part, Pick, Cast, Matches, Reset}
use Rattle.design_ir.specs.Pools.{Pooled, answer}
use Rattle.design_ir.specs.Values.{form, num, signal_form, picked, common_of_all}

-- one bit of a signal
pub record Bit : Type 0 where
  pub sig : ℕ
  pub index : ℕ

-- the bits of a signal, the lowest first
abbrev pub bits_of : ℕ → ℕ → List Bit
bits_of sig width = map (λ i. record { sig = sig; index = i }) (range_with_len 0 width)

-- ---- which expressions are targets: signals, and parts, joins and readings of targets

abbrev pub target_test : (ℕ → Bool) → Expr → Bool
target_test is (expr.TheVariants.Sig s) = true
target_test is (Slice a low width) = is a.0
target_test is (Cat es) = list_all (λ (e : ExprId). is e.0) es
target_test is (Part a offset width stride) = is a.0
target_test is (Pick index es) = list_all (λ (e : ExprId). is e.0) es
target_test is (Cast a signed) = is a.0
target_test is (Const n s) = false
target_test is (Unary op a) = false
target_test is (Binary op a b) = false
target_test is (Mux s a b) = false
target_test is (Matches a patterns) = false
target_test is (Reset domain place) = false

unfoldable pub is_target : Pooled → ℕ → Bool
is_target pool k = answer false target_test pool.exprs k

-- the same before domains are resolved, where a reset is one as the signal that it is to be

abbrev pub open_target_test : (ℕ → Bool) → Expr → Bool
open_target_test is (Reset domain place) = true
open_target_test is e = target_test is e

unfoldable pub is_open_target : Pooled → ℕ → Bool
is_open_target pool k = answer false open_target_test pool.exprs k

-- the signals of which a target stands for a part
abbrev pub signals_step : (ℕ → List ℕ) → Expr → List ℕ
signals_step signals (expr.TheVariants.Sig s) = s.0 ∷ []
signals_step signals (Slice a low width) = signals a.0
signals_step signals (Cat es) = flat_map (λ (e : ExprId). signals e.0) es
signals_step signals (Part a offset width stride) = signals a.0
signals_step signals (Pick index es) = flat_map (λ (e : ExprId). signals e.0) es
signals_step signals (Cast a signed) = signals a.0
signals_step signals (Const n s) = []
signals_step signals (Unary op a) = []
signals_step signals (Binary op a b) = []
signals_step signals (Mux s a b) = []
signals_step signals (Matches a patterns) = []
signals_step signals (Reset domain place) = []

unfoldable pub target_signals : Pooled → ℕ → List ℕ
target_signals pool k = answer [] signals_step pool.exprs k

-- ---- the bits that a target stands for where offsets and indices have these numbers

-- so many places, none behind those that are there
abbrev pub padded : ℕ → List (Option Bit) → List (Option Bit)
padded width places = take width (places ++ replicate width None)

-- one place for each bit of the target's shape, the lowest first: none where what is written is dropped
abbrev pub target_step : (ℕ → Form) → (ℕ → Form) → (ℕ → ℤ) → (ℕ → List (Option Bit)) → Expr → List (Option Bit)
target_step sig_form form num places (expr.TheVariants.Sig s) = map (λ b. Some b) (bits_of s.0 (sig_form s.0).width)
target_step sig_form form num places (Slice a low width) = take width (drop low (places a.0))
target_step sig_form form num places (Cat es) = flat_map (λ (e : ExprId). places e.0) es
target_step sig_form form num places (Part a offset width stride) = padded width (drop (unsigned_abs (num offset.0) * stride) (places a.0))
target_step sig_form form num places (Pick index es) = padded (common_of_all form es).width (picked [] (map (λ (e : ExprId). places e.0) es) (unsigned_abs (num index.0)))
target_step sig_form form num places (Cast a signed) = places a.0
target_step sig_form form num places (Const n s) = []
target_step sig_form form num places (Unary op a) = []
target_step sig_form form num places (Binary op a b) = []
target_step sig_form form num places (Mux s a b) = []
target_step sig_form form num places (Matches a patterns) = []
target_step sig_form form num places (Reset domain place) = []

unfoldable pub target_bits : Pooled → List ℤ → ℕ → List (Option Bit)
target_bits pool env k = answer [] (target_step (signal_form pool.signals) (form pool) (num pool env)) pool.exprs k

-- ---- the numbers that an offset or an index may have

-- all numbers from the least to the greatest
pub record Numbers : Type 0 where
  pub least : ℕ
  pub greatest : ℕ

-- the one number that an expression has whatever the signals are: that of a constant
abbrev pub own_number : Expr → Option ℕ
own_number (Const n s) = Some (unsigned_abs n)
own_number e = None

abbrev pub numbers_of : ℕ → Option ℕ → Numbers
numbers_of width (Some n) = record { least = n; greatest = n }
numbers_of width None = record { least = 0; greatest = 2 ^ width - 1 }

-- of a constant its own number alone, of any other expression without a sign each number of its shape
unfoldable pub numbers : Pooled → ℕ → Numbers
numbers pool k = numbers_of (form pool k).width (option_and_then own_number (slice_get pool.exprs k))

-- whether some of the numbers will do, where those that are no more than so far above the least are enough
abbrev pub some_number : Numbers → ℕ → (ℕ → Bool) → Bool
some_number n far will_do = list_any will_do (range_with_len n.least (min (n.greatest - n.least) far + 1))

-- the items that an index with these numbers picks: past the end, the last
abbrev pub chosen_items : Numbers → List ExprId → List ExprId
chosen_items n es = drop (min n.least (length es - 1)) (take (n.greatest + 1) es)

-- ---- the bits that a target may stand for, whatever offsets and indices are

-- where in a target a bit stands: at this place whatever offsets and indices are, or at one of a set of places as they
-- choose
pub data Spot : Type 0 where
  fixed : ℕ → Spot
  chosen : (ℕ → Bool) → Spot

-- a bit that may be written, and the bits of the value that may then be written to it
pub record Aim : Type 0 where
  pub bit : Bit
  pub spot : Spot

abbrev pub stands_at : Spot → ℕ → Bool
stands_at (fixed i) k = i == k
stands_at (chosen set) k = set k

abbrev pub fixed_place : Spot → Option ℕ
fixed_place (fixed i) = Some i
fixed_place (chosen set) = None

-- a bit at the places of a set that are below a width: none where there is no such place
abbrev pub chosen_below : ℕ → Bit → (ℕ → Bool) → Option Aim
chosen_below width b set = if list_any set (range_with_len 0 width) then Some (record { bit = b; spot = chosen (λ k. nat_lt k width && set k) }) else None

-- so many places higher
abbrev pub raised_spot : ℕ → Spot → Spot
raised_spot by (fixed i) = fixed (by + i)
raised_spot by (chosen set) = chosen (λ k. nat_le by k && set (k - by))

abbrev pub raised : ℕ → Aim → Aim
raised by x = record x { spot = raised_spot by x.spot }

abbrev pub within_at : ℕ → ℕ → Bit → Spot → Option Aim
within_at low width b (fixed i) = if nat_le low i && nat_lt i (low + width) then Some (record { bit = b; spot = fixed (i - low) }) else None
within_at low width b (chosen set) = chosen_below width b (λ k. set (low + k))

-- what an aim is in a slice of the target: none where the slice leaves its bit off
abbrev pub within : ℕ → ℕ → Aim → Option Aim
within low width x = within_at low width x.bit x.spot

-- what an aim is in a part of a target of so many bits: at place k, where for some number o of the offset it stands at
-- place o * stride + k of the target
abbrev pub shifted : Numbers → ℕ → ℕ → ℕ → Aim → Option Aim
shifted offset wide width stride x = chosen_below width x.bit (λ k. some_number offset wide (λ o. stands_at x.spot (o * stride + k)))

-- what an aim of an item is where the item is picked
abbrev pub loose : ℕ → Aim → Option Aim
loose width x = chosen_below width x.bit (stands_at x.spot)

abbrev pub aims_of_all : (ℕ → Form) → (ℕ → List Aim) → ℕ → List ExprId → List Aim
aims_of_all form aims low [] = []
aims_of_all form aims low (e ∷ es) = map (raised low) (aims e.0) ++ aims_of_all form aims (low + (form e.0).width) es

-- an aim at bit i of a signal, from bit i of the value
abbrev pub aim_at : ℕ → ℕ → Aim
aim_at sig i = record { bit = record { sig = sig; index = i }; spot = fixed i }

abbrev pub aim_step : (ℕ → Form) → (ℕ → Form) → (ℕ → Numbers) → (ℕ → List Aim) → Expr → List Aim
aim_step sig_form form numbers aims (expr.TheVariants.Sig s) = map (aim_at s.0) (range_with_len 0 (sig_form s.0).width)
aim_step sig_form form numbers aims (Slice a low width) = filter_map (within low width) (aims a.0)
aim_step sig_form form numbers aims (Cat es) = aims_of_all form aims 0 es
aim_step sig_form form numbers aims (Part a offset width stride) = filter_map (shifted (numbers offset.0) (form a.0).width width stride) (aims a.0)
aim_step sig_form form numbers aims (Pick index es) = filter_map (loose (common_of_all form es).width) (flat_map (λ (e : ExprId). aims e.0) (chosen_items (numbers index.0) es))
aim_step sig_form form numbers aims (Cast a signed) = aims a.0
aim_step sig_form form numbers aims (Const n s) = []
aim_step sig_form form numbers aims (Unary op a) = []
aim_step sig_form form numbers aims (Binary op a b) = []
aim_step sig_form form numbers aims (Mux s a b) = []
aim_step sig_form form numbers aims (Matches a patterns) = []
aim_step sig_form form numbers aims (Reset domain place) = []

unfoldable pub aims : Pooled → ℕ → List Aim
aims pool k = answer [] (aim_step (signal_form pool.signals) (form pool) (numbers pool)) pool.exprs k
