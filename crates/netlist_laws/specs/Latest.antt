-- What each bit of each signal is given by statements without choices: the last assignment to a bit wins.
use Rattle.std.specs.Prelude.{ℕ, ◌+◌, ◌-◌, ◌==◌, ◌&&◌, nat_lt, false, if◌then◌else◌, List, [], ◌∷◌, take, drop}
use Rattle.std.specs.List.{flat_map}
use Rattle.shape_rules.specs.Forms.{Form}
use Rattle.design_ir.specs.declared.ids.ExprId.{ExprId}
use Rattle.design_ir.specs.declared.expr.Expr.{Expr}
use Rattle.design_ir.specs.declared.expr.Expr.TheVariants as expr
use Rattle.design_ir.specs.Pools.{Pooled, answer}
use Rattle.design_ir.specs.Values.{signal_form}
use Rattle.design_ir.specs.Targets.{Bit, bits_of}
pub use Rattle.design_ir.specs.Fixed.{fixed_step, is_fixed, is_plain}
use Rattle.design_ir.specs.Trees.{assign, choose, Block, done, next}
use Rattle.rtlil_text.specs.Sources.{Source, Constant, Net}
use Rattle.netlist_laws.specs.Operators.{Value}

-- where each bit of each signal comes from
abbrev pub Latest : Type 0
Latest = ℕ → ℕ → Source

-- the bits that a fixed target stands for, the lowest first
abbrev pub places_step : (ℕ → Form) → (ℕ → List Bit) → Expr → List Bit
places_step sig_form places (expr.Sig s) = bits_of s.0 (sig_form s.0).width
places_step sig_form places (expr.Slice a low width) = take width (drop low (places a.0))
places_step sig_form places (expr.Cat es) = flat_map (λ (e : ExprId). places e.0) es
places_step sig_form places (expr.Cast a signed) = places a.0
places_step sig_form places (expr.Part a offset width stride) = []
places_step sig_form places (expr.Pick index es) = []
places_step sig_form places (expr.Const n s) = []
places_step sig_form places (expr.Unary o a) = []
places_step sig_form places (expr.Binary o a b) = []
places_step sig_form places (expr.Mux s a b) = []
places_step sig_form places (expr.Matches a patterns) = []
places_step sig_form places (expr.Reset domain place) = []

unfoldable pub places : Pooled → ℕ → List Bit
places pool k = answer [] (places_step (signal_form pool.signals)) pool.exprs k

-- ---- assignments

-- bit k of a value: behind its end its sign, or 0
abbrev pub source_at : Value → ℕ → Source
source_at v k = if nat_lt k v.form.width then Net v.id k else (if v.form.signed then Net v.id (v.form.width - 1) else Constant false)

-- the bit comes from there
abbrev pub with_source : Bit → Source → Latest → Latest
with_source b x latest = λ s i. if (s == b.sig) && (i == b.index) then x else latest s i

-- the bits of a value from bit k on, one into each of these places
abbrev pub given : Value → List Bit → ℕ → Latest → Latest
given v [] k latest = latest
given v (b ∷ bs) k latest = given v bs (k + 1) (with_source b (source_at v k) latest)

-- one statement after the other
abbrev pub latest_of : Pooled → (ℕ → Value) → Block → Latest → Latest
latest_of pool value done latest = latest
latest_of pool value (next (assign target source place) rest) latest = latest_of pool value rest (given (value source.0) (places pool target.0) 0 latest)
latest_of pool value (next (choose arms) rest) latest = latest_of pool value rest latest
