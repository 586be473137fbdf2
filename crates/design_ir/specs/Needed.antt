-- The bits of signals that a bit of an expression needs, and those that the place of a target needs.
use Rattle.std.specs.Prelude.{ℕ, ◌+◌, ◌-◌, nat_lt, Bool, true, false, if◌then◌else◌, List, [], ◌∷◌, ◌++◌}
use Rattle.std.specs.List.{flat_map, range_with_len}
use Rattle.shape_rules.specs.Forms.{Form}
use Rattle.shape_rules.specs.declared.op.Op.{Op}
use Rattle.shape_rules.specs.declared.op.Op.TheVariants.{Not, And, Or, Xor}
use Rattle.design_ir.specs.declared.ids.ExprId.{ExprId}
use Rattle.design_ir.specs.declared.expr.Expr as expr
use Rattle.design_ir.specs.declared.expr.Expr.{Expr}
use Rattle.design_ir.specs.declared.expr.Expr.TheVariants.{Const, Unary, Binary, Mux, Slice, Cat, Part, Pick, Cast, Matches, Reset}
use Rattle.design_ir.specs.Pools.{Pooled, answer}
use Rattle.design_ir.specs.Values.{form}
use Rattle.design_ir.specs.Targets.{Bit}

-- ---- expressions

-- a bit past the width is the top bit of a signed expression, and needs nothing of an unsigned one
abbrev pub extended : Form → (ℕ → List Bit) → ℕ → List Bit
extended f bits k = if nat_lt k f.width then bits k else (if f.signed then bits (f.width - 1) else [])

-- all bits
abbrev pub every : Form → (ℕ → List Bit) → List Bit
every f bits = flat_map bits (range_with_len 0 f.width)

-- the operators that go bit by bit
abbrev pub is_bitwise : Op → Bool
is_bitwise Not = true
is_bitwise And = true
is_bitwise Or = true
is_bitwise Xor = true
is_bitwise op = false

-- bit k of expressions one above the other
abbrev pub joined_bits : (ℕ → Form) → (ℕ → ℕ → List Bit) → List ExprId → ℕ → List Bit
joined_bits form bits [] k = []
joined_bits form bits (e ∷ es) k = if nat_lt k (form e.0).width then bits e.0 k else joined_bits form bits es (k - (form e.0).width)

abbrev pub bits_step : (ℕ → Form) → (ℕ → ℕ → List Bit) → Expr → ℕ → List Bit
bits_step form bits (Const n s) k = []
bits_step form bits (expr.TheVariants.Sig s) k = record { sig = s.0; index = k } ∷ []
bits_step form bits (Unary op a) k = if is_bitwise op then bits a.0 k else every (form a.0) (bits a.0)
bits_step form bits (Binary op a b) k =
    if is_bitwise op
    then extended (form a.0) (bits a.0) k ++ extended (form b.0) (bits b.0) k
    else every (form a.0) (bits a.0) ++ every (form b.0) (bits b.0)
bits_step form bits (Mux s a b) k =
    every (form s.0) (bits s.0) ++ extended (form a.0) (bits a.0) k ++ extended (form b.0) (bits b.0) k
bits_step form bits (Slice a low width) k = bits a.0 (low + k)
bits_step form bits (Cat es) k = joined_bits form bits es k
bits_step form bits (Part a offset width stride) k = every (form a.0) (bits a.0) ++ every (form offset.0) (bits offset.0)
bits_step form bits (Pick index es) k =
    every (form index.0) (bits index.0) ++ flat_map (λ (e : ExprId). every (form e.0) (bits e.0)) es
bits_step form bits (Cast a signed) k = bits a.0 k
bits_step form bits (Matches a patterns) k = every (form a.0) (bits a.0)
bits_step form bits (Reset domain place) k = []

-- what bit k of an expression needs
unfoldable pub needed : Pooled → ℕ → ℕ → List Bit
needed pool e = answer (λ k. []) (bits_step (form pool)) pool.exprs e

-- what all bits of an expression need
abbrev pub needed_whole : Pooled → ExprId → List Bit
needed_whole pool e = every (form pool e.0) (needed pool e.0)

-- ---- what the offsets and indices of a target need
abbrev pub index_step : Pooled → (ℕ → List Bit) → Expr → List Bit
index_step pool bits (Slice a low width) = bits a.0
index_step pool bits (Cat es) = flat_map (λ (e : ExprId). bits e.0) es
index_step pool bits (Part a offset width stride) = needed_whole pool offset ++ bits a.0
index_step pool bits (Pick index es) = needed_whole pool index ++ flat_map (λ (e : ExprId). bits e.0) es
index_step pool bits (Cast a signed) = bits a.0
index_step pool bits (Const n s) = []
index_step pool bits (expr.TheVariants.Sig s) = []
index_step pool bits (Unary op a) = []
index_step pool bits (Binary op a b) = []
index_step pool bits (Mux s a b) = []
index_step pool bits (Matches a patterns) = []
index_step pool bits (Reset domain place) = []

unfoldable pub needed_indices : Pooled → ℕ → List Bit
needed_indices pool e = answer [] (index_step pool) pool.exprs e
