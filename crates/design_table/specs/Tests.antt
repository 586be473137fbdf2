-- What is tested of the parts of a design, and the design that they make.
use Rattle.std.specs.Prelude.{◌≡◌, ℕ, suc, ◌<◌, ◌==◌, ◌&&◌, nat_lt, nat_le, Bool, true, false, not, ⊤, List, [], ◌∷◌, map, length, slice_index_or, Option, None, Some}
use Rattle.std.specs.List.{AllByRecursion, list_any, list_all}
use Rattle.lists.specs.Names.{starts_name, continues_name}
use Rattle.lists.specs.Texts.{text_eq}
use Rattle.shape_rules.specs.Forms.{unsigned}
use Rattle.design_ir.specs.declared.ids.DomainId.{DomainId}
use Rattle.design_ir.specs.declared.ids.ExprId.{ExprId}
use Rattle.design_ir.specs.declared.ids.SigId.{SigId}
use Rattle.design_ir.specs.declared.expr.Expr as expr
use Rattle.design_ir.specs.declared.expr.Expr.{Expr}
use Rattle.design_ir.specs.declared.expr.Expr.TheVariants.{Const, Unary, Binary, Mux, Slice, Cat, Part, Pick, Cast, Matches, Reset}
use Rattle.design_ir.specs.declared.port.Port.{Port}
use Rattle.design_ir.specs.declared.port.Column.{Column}
use Rattle.design_ir.specs.declared.domain.Domain.{Domain}
use Rattle.design_ir.specs.declared.memory.Memory.{Memory}
use Rattle.design_ir.specs.declared.process.DesignProcess.{DesignProcess}
use Rattle.design_ir.specs.Trees.{Statement, assign, choose, Choices, none, arm, Block, done, next}
use Rattle.design_ir.specs.Pools.{Pooled, answers}
use Rattle.design_ir.specs.Values.{signal_form}
use Rattle.design_ir.specs.Circuits.{Circuit, option_test}

-- ---- signals

-- a number is marked
abbrev pub is_at : List Bool → ℕ → Bool
is_at marks k = slice_index_or marks k false

-- the side on which a signal is driven: 0 is the combinational one, and behind it come the domains in order
abbrev pub side_of : List ℕ → ℕ → ℕ
side_of sides s = slice_index_or sides s 0

-- a signal is the port of an input
abbrev pub is_input_of : List Port → ℕ → Bool
is_input_of ports s = list_any (λ (p : Port). p.is_input && (p.sig.0 == s)) ports

-- a signal is no input, and driven on this side
abbrev pub is_own : List Port → List ℕ → ℕ → ℕ → Bool
is_own ports sides side s = not (is_input_of ports s) && (side_of sides s == side)

-- a letter, and behind it letters and digits
abbrev pub is_name : List ℕ → Bool
is_name [] = false
is_name (b ∷ bs) = starts_name b && list_all continues_name bs

-- two ports have neither a signal nor a name in common
abbrev pub is_apart : Port → Port → Bool
is_apart p q = not (p.sig.0 == q.sig.0) && not (text_eq p.name q.name)

abbrev pub are_apart : List Port → Bool
are_apart [] = true
are_apart (p ∷ ps) = list_all (is_apart p) ps && are_apart ps

-- the port of a signal with bits, under a name
abbrev pub is_shown : Pooled → Port → Bool
is_shown pool p = nat_lt p.sig.0 (length pool.signals) && (nat_le 1 (signal_form pool.signals p.sig.0).width && is_name p.name)

-- ports that are apart and shown
pub record AreSignals (pool : Pooled) (ports : List Port) : Type 0 where
  pub apart : are_apart ports ≡ true
  pub shown : list_all (is_shown pool) ports ≡ true

-- ---- domains

-- an input of one bit
pub record IsInputBit (pool : Pooled) (ports : List Port) (s : SigId) : Type 0 where
  pub there : s.0 < length pool.signals
  pub shape : signal_form pool.signals s.0 ≡ unsigned 1
  pub input : is_input_of ports s.0 ≡ true

abbrev pub IsResetBit : Pooled → List Port → Option SigId → Type 0
IsResetBit pool ports None = ⊤
IsResetBit pool ports (Some s) = IsInputBit pool ports s

-- a domain of inputs
pub record IsOfInputs (pool : Pooled) (ports : List Port) (x : Domain) : Type 0 where
  pub clock : IsInputBit pool ports x.clk
  pub reset : IsResetBit pool ports x.rst

-- a signal is the reset of the domain
abbrev pub is_reset_by : ℕ → Domain → Bool
is_reset_by s x = option_test (λ (r : SigId). r.0 == s) x.rst

abbrev pub share_reset : Option SigId → List Domain → Bool
share_reset None xs = false
share_reset (Some s) xs = list_any (is_reset_by s.0) xs

-- a domain has neither its name nor its clock nor its reset in common with these
abbrev pub is_domain_apart : Domain → List Domain → Bool
is_domain_apart x xs =
    not (list_any (λ (y : Domain). text_eq x.name y.name) xs)
    && (not (list_any (λ (y : Domain). x.clk.0 == y.clk.0) xs) && not (share_reset x.rst xs))

abbrev pub domains_apart : List Domain → Bool
domains_apart [] = true
domains_apart (x ∷ xs) = is_domain_apart x xs && domains_apart xs

-- domains of inputs that are apart, and no clock of which is a reset
pub record AreDomains (pool : Pooled) (ports : List Port) (xs : List Domain) : Type 0 where
  pub few : length xs < 65536
  pub inputs : AllByRecursion (IsOfInputs pool ports) xs
  pub apart : domains_apart xs ≡ true
  pub no_resets : AllByRecursion (λ (x : Domain). list_any (is_reset_by x.clk.0) xs ≡ false) xs

-- ---- targets

-- a target of signals of one side: signals, and parts, joins and readings of such targets
abbrev pub side_step : (ℕ → Bool) → (ℕ → Bool) → Expr → Bool
side_step own is (expr.TheVariants.Sig s) = own s.0
side_step own is (Slice a low width) = is a.0
side_step own is (Cat es) = list_all (λ (e : ExprId). is e.0) es
side_step own is (Part a offset width stride) = is a.0
side_step own is (Pick index es) = list_all (λ (e : ExprId). is e.0) es
side_step own is (Cast a signed) = is a.0
side_step own is (Const n s) = false
side_step own is (Unary op a) = false
side_step own is (Binary op a b) = false
side_step own is (Mux s a b) = false
side_step own is (Matches a patterns) = false
side_step own is (Reset domain place) = false

abbrev pub is_reset : Expr → Bool
is_reset (Reset domain place) = true
is_reset e = false

-- none of these is a reset
abbrev pub no_resets : List Expr → Bool
no_resets [] = true
no_resets (e ∷ es) = not (is_reset e) && no_resets es

-- ---- statements

-- targets that are marked, and no expression past so many
abbrev mutual
  pub statement_fits : (ℕ → Bool) → ℕ → Statement → Bool
  statement_fits is n (assign t v p) = is t.0 && (nat_lt t.0 n && nat_lt v.0 n)
  statement_fits is n (choose arms) = choices_fit is n arms

  pub choices_fit : (ℕ → Bool) → ℕ → Choices → Bool
  choices_fit is n none = true
  choices_fit is n (arm c body others) = nat_lt c.0 n && (block_fits is n body && choices_fit is n others)

  pub block_fits : (ℕ → Bool) → ℕ → Block → Bool
  block_fits is n done = true
  block_fits is n (next s rest) = statement_fits is n s && block_fits is n rest

-- statements that drive signals of one side alone
abbrev pub IsSide : Pooled → List Port → List ℕ → ℕ → Block → Type 0
IsSide pool ports sides side body =
    block_fits (is_at (answers false (side_step (is_own ports sides side)) [] pool.exprs)) (length pool.exprs) body ≡ true

-- the processes of the sides from this one on, each of which drives signals of its side alone
abbrev pub AreSides : Pooled → List Port → List ℕ → ℕ → List DesignProcess → Type 0
AreSides pool ports sides side [] = ⊤
AreSides pool ports sides side (p ∷ ps) = IsSide pool ports sides side p.body × AreSides pool ports sides (suc side) ps

-- a domain is one of these
abbrev pub IsAmong : List Domain → Option DomainId → Type 0
IsAmong xs None = ⊤
IsAmong xs (Some d) = d.0 < length xs

-- ---- the design

abbrev pub column_of : Port → Column
column_of p = record { name = p.name; sig = p.sig }

-- every signal a port, these domains, processes and memories
abbrev pub circuit_of : Pooled → List Port → List Domain → List DesignProcess → List Memory → Circuit
circuit_of pool ports domains processes memories = record {
  pool = pool;
  processes = processes;
  memories = memories;
  domains = domains;
  ports = ports;
  columns = map column_of ports;
}
