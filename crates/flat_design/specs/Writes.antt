-- A target as writes of fixed bits, each with the numbers of offsets and indices at which it takes place.
use Rattle.std.specs.Prelude.{ℕ, ◌+◌, ◌-◌, ◌*◌, ◌==◌, nat_lt, nat_le, min, max, ◌&&◌, true, false, if◌then◌else◌, List, [], ◌∷◌, ◌++◌, map, length, ℤ, Option, Some, None}
use Rattle.std.specs.List.{flat_map, filter_map, range_with_len, enumerate_from}
use Rattle.shape_rules.specs.Forms.{Form}
use Rattle.design_ir.specs.declared.ids.ExprId.{ExprId}
use Rattle.design_ir.specs.declared.expr.Expr as expr
use Rattle.design_ir.specs.declared.expr.Expr.{Expr}
use Rattle.design_ir.specs.declared.expr.Expr.TheVariants.{Const, Unary, Binary, Mux, Slice, Cat, Part, Pick, Cast, Matches, Reset}
use Rattle.design_ir.specs.Pools.{Pooled, answer}
use Rattle.design_ir.specs.Values.{form, signal_form}
use Rattle.design_ir.specs.Targets.{Bit, Numbers, numbers}
use Rattle.design_ir.specs.Put.{put_bits}
use Rattle.flat_design.specs.declared.writes.Test.{Test}
use Rattle.flat_design.specs.declared.writes.Write.{Write}
use Rattle.flat_design.specs.Activity.{tests_hold}

-- ---- what a target's writes are

-- what of a write falls into so many bits of the target from one on
abbrev pub cut : ℕ → ℕ → Write → Option Write
cut low width w =
    if nat_lt (max w.from low) (min (w.from + w.width) (low + width))
    then Some (record w { from = max w.from low - low; low = w.low + (max w.from low - w.from); width = min (w.from + w.width) (low + width) - max w.from low })
    else None

-- so many bits of the value higher
abbrev pub raised : ℕ → Write → Write
raised by w = record w { from = by + w.from }

-- where the index has one more number to be; one that has only one needs no test
abbrev pub tested : Numbers → Test → Write → Write
tested n t w = if n.least == n.greatest then w else record w { tests = w.tests ++ t ∷ [] }

abbrev pub is_number : ExprId → ℕ → Test
is_number index n = record { index = index; number = n; and_above = false }

abbrev pub is_no_less : ExprId → ℕ → Test
is_no_less index n = record { index = index; number = n; and_above = true }

abbrev pub writes_of_all : (ℕ → Form) → (ℕ → List Write) → ℕ → List ExprId → List Write
writes_of_all form writes low [] = []
writes_of_all form writes low (e ∷ es) = map (raised low) (writes e.0) ++ writes_of_all form writes (low + (form e.0).width) es

-- the part at offset o
abbrev pub part_at : Numbers → ExprId → ℕ → ℕ → List Write → ℕ → List Write
part_at n offset width stride whole o = map (tested n (is_number offset o)) (filter_map (cut (o * stride) width) whole)

-- each offset at which the part lies within so many bits; an offset that moves nothing is not tested
abbrev pub parts_at : Numbers → ExprId → ℕ → ℕ → ℕ → List Write → List Write
parts_at n offset wide width stride whole =
    if stride == 0 then filter_map (cut 0 width) whole
    else flat_map (part_at n offset width stride whole) (range_with_len n.least (min (n.greatest - n.least) wide + 1))

-- item i of so many, the last for every index from there on
abbrev pub item_at : Numbers → ExprId → ℕ → (ℕ → List Write) → (ℕ × ExprId) → List Write
item_at n index last writes (i, e) =
    if nat_le (min n.least last) i && nat_le i n.greatest
    then map (tested n (if i == last then is_no_less index i else is_number index i)) (writes e.0)
    else []

abbrev pub writes_step : (ℕ → Form) → (ℕ → Form) → (ℕ → Numbers) → (ℕ → List Write) → Expr → List Write
writes_step sig_form form numbers writes (expr.TheVariants.Sig s) =
    if (sig_form s.0).width == 0 then [] else record { tests = []; sig = s; low = 0; width = (sig_form s.0).width; from = 0 } ∷ []
writes_step sig_form form numbers writes (Slice a low width) = filter_map (cut low width) (writes a.0)
writes_step sig_form form numbers writes (Cat es) = writes_of_all form writes 0 es
writes_step sig_form form numbers writes (Part a offset width stride) = parts_at (numbers offset.0) offset (form a.0).width width stride (writes a.0)
writes_step sig_form form numbers writes (Pick index es) = flat_map (item_at (numbers index.0) index (length es - 1) writes) (enumerate_from 0 es)
writes_step sig_form form numbers writes (Cast a signed) = writes a.0
writes_step sig_form form numbers writes (Const n s) = []
writes_step sig_form form numbers writes (Unary op a) = []
writes_step sig_form form numbers writes (Binary op a b) = []
writes_step sig_form form numbers writes (Mux s a b) = []
writes_step sig_form form numbers writes (Matches a patterns) = []
writes_step sig_form form numbers writes (Reset domain place) = []

-- the writes of expression k as a target
unfoldable pub writes : Pooled → ℕ → List Write
writes p k = answer [] (writes_step (signal_form p.signals) (form p) (numbers p)) p.exprs k

-- ---- what writes leave

-- the bits that a write fills, the lowest first
abbrev pub written_bits : Write → List (Option Bit)
written_bits w = map (λ i. Some (record { sig = w.sig.0; index = i })) (range_with_len w.low w.width)

-- the bits of a value from its place on, where the tests hold
abbrev pub put_write : Pooled → List ℤ → ℕ → List ℤ → Write → List ℤ
put_write p env v cur w = if tests_hold p w.tests env then put_bits p (written_bits w) v w.from cur else cur
