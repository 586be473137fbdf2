-- Short words for small designs.
use Rattle.std.specs.Prelude.{ℕ, true, false, List, [], ℤ, Some, None}
use Rattle.amh_host.specs.declared.place.Place.{Place}
use Rattle.shape_rules.specs.Forms.{Form}
use Rattle.design_ir.specs.declared.ids.ExprId.{ExprId}
use Rattle.design_ir.specs.declared.ids.DomainId.{DomainId}
use Rattle.design_ir.specs.declared.signal.Sig.{Sig}
use Rattle.design_ir.specs.declared.expr.Expr as expr
use Rattle.design_ir.specs.declared.expr.Expr.{Expr}
use Rattle.design_ir.specs.declared.domain.Domain.{Domain}
use Rattle.design_ir.specs.declared.port.Port.{Port}
use Rattle.design_ir.specs.declared.process.DesignProcess.{DesignProcess}
use Rattle.design_ir.specs.declared.event.Event.{Event}
use Rattle.design_ir.specs.declared.event.Event.TheVariants.{Set}
use Rattle.design_ir.specs.Trees.{Statement, assign, Block}
use Rattle.design_ir.specs.Targets.{Bit}

-- a signal with its first number
abbrev pub signal : Form → ℤ → Sig
signal f n = record { name = []; shape = f; init = n; reset_less = false }

abbrev pub e : ℕ → ExprId
e n = record { 0 = n }

abbrev pub bit : ℕ → ℕ → Bit
bit s i = record { sig = s; index = i }

-- signal n as an expression
abbrev pub s : ℕ → Expr
s n = expr.TheVariants.Sig record { 0 = n }

abbrev pub here : Place
here = record { line = 1; col = 1 }

-- the target takes the value
abbrev pub set : ℕ → ℕ → Statement
set target value = assign (e target) (e value) here

abbrev pub comb : Block → DesignProcess
comb body = record { domain = None; body = body }

abbrev pub clocked_by : ℕ → Block → DesignProcess
clocked_by d body = record { domain = Some record { 0 = d }; body = body }

abbrev pub input : ℕ → Port
input n = record { name = []; sig = record { 0 = n }; is_input = true }

abbrev pub output : ℕ → Port
output n = record { name = []; sig = record { 0 = n }; is_input = false }

abbrev pub domain : List ℕ → ℕ → ℕ → Domain
domain name clk rst = record { name = name; clk = record { 0 = clk }; rst = Some record { 0 = rst }; falling = false; async_reset = false }

abbrev pub falling_domain : List ℕ → ℕ → ℕ → Domain
falling_domain name clk rst = record (domain name clk rst) { falling = true }

abbrev pub async_domain : List ℕ → ℕ → ℕ → Domain
async_domain name clk rst = record (domain name clk rst) { async_reset = true }

abbrev pub gives : ℕ → ℤ → Event
gives n value = Set record { 0 = n } value

abbrev pub toggles : ℕ → DomainId
toggles d = record { 0 = d }
