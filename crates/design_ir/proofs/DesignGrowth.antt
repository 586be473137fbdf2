-- A design keeps its rules where its pool grows by an expression.
use Rattle.std.specs.Prelude.{◌≡◌, refl, ℕ, ◌<◌, ◌&&◌, ◌||◌, ◌==◌, Bool, true, false, IsTrue, is_some, List, [], ◌∷◌, ◌++◌, map, length, slice_index_or, Option, Some, None, Result, Ok, Err, IfOk, IfErr}
use Rattle.std.specs.List.{AllByRecursion, flat_map, list_any}
use Rattle.std.proofs.Common.{◌∙◌, ap, arith, get_or}
use Rattle.std.proofs.Math.ListN.{get_or-append}
use Rattle.shape_rules.specs.Forms.{Form, unsigned}
use Rattle.design_ir.specs.declared.ids.ExprId.{ExprId}
use Rattle.design_ir.specs.declared.ids.SigId.{SigId}
use Rattle.design_ir.specs.declared.ids.DomainId.{DomainId}
use Rattle.design_ir.specs.declared.expr.Expr.{Expr}
use Rattle.design_ir.specs.declared.domain.Domain.{Domain}
use Rattle.design_ir.specs.declared.memory.MemWrite.{MemWrite}
use Rattle.design_ir.specs.declared.memory.MemRead.{MemRead}
use Rattle.design_ir.specs.declared.memory.Memory.{Memory}
use Rattle.design_ir.specs.declared.process.DesignProcess.{DesignProcess}
use Rattle.design_ir.specs.declared.refusal.PoolStop.{PoolStop}
use Rattle.design_ir.specs.Trees.{Statement, assign, choose, Choices, none, arm, Block, done, next}
use Rattle.design_ir.specs.Pools.{Pooled, answers, answer}
use Rattle.design_ir.specs.PoolRules.{expr_added, expr_refusal, IsRefusal}
use Rattle.design_ir.specs.Values.{form, form_step}
use Rattle.design_ir.specs.Targets.{is_target, target_test, target_signals, signals_step}
use Rattle.design_ir.specs.Guards.{Guard, Guarded, guarded, guarded_in, guarded_arms, driven, statement_exprs, choices_exprs, block_exprs}
use Rattle.design_ir.specs.Circuits.{Circuit, is_among, is_register}
use Rattle.design_ir.specs.Designs.{holds_reset, reset_test, IsUsable, IsUsableOf, IsDomain, IsProcess, IsSignalOf, IsReset, IsInputReset, IsClockDomain, IsAddress, IsWritePort, IsClocking, IsReadPort, IsMemory, AreColumns, IsDesign, drivers}
use Rattle.design_ir.proofs.Growth.{length_more}
use Rattle.design_ir.proofs.Answers.{answers_append, answers_begin}

-- ---- lists

all_imp : {A : Type 0} {P Q : A → Type 0} (f : (x : A) → P x → Q x) (xs : List A) → AllByRecursion P xs → AllByRecursion Q xs
all_imp f [] h = tt
all_imp f (x ∷ xs) h = (f x h.0, all_imp f xs h.1)

all_both : {A : Type 0} {P Q R : A → Type 0} (f : (x : A) → P x → Q x → R x) (xs : List A) → AllByRecursion P xs → AllByRecursion Q xs → AllByRecursion R xs
all_both f [] h k = tt
all_both f (x ∷ xs) h k = (f x h.0 k.0, all_both f xs h.1 k.1)

all_left : {A : Type 0} (P : A → Type 0) (xs ys : List A) → AllByRecursion P (xs ++ ys) → AllByRecursion P xs
all_left P [] ys h = tt
all_left P (x ∷ xs) ys h = (h.0, all_left P xs ys h.1)

all_right : {A : Type 0} (P : A → Type 0) (xs ys : List A) → AllByRecursion P (xs ++ ys) → AllByRecursion P ys
all_right P [] ys h = h
all_right P (x ∷ xs) ys h = all_right P xs ys h.1

all_append : {A : Type 0} (P : A → Type 0) (xs ys : List A) → AllByRecursion P xs → AllByRecursion P ys → AllByRecursion P (xs ++ ys)
all_append P [] ys h k = k
all_append P (x ∷ xs) ys h k = (h.0, all_append P xs ys h.1 k)

flat_map_same : {A B : Type 0} (f g : A → List B) (xs : List A) → AllByRecursion (λ x. f x ≡ g x) xs → flat_map f xs ≡ flat_map g xs
flat_map_same f g [] h = refl
flat_map_same f g (x ∷ xs) h = let a = h.0 in let b = flat_map_same f g xs h.1 in cc

map_same : {A B : Type 0} (f g : A → B) (xs : List A) → AllByRecursion (λ x. f x ≡ g x) xs → map f xs ≡ map g xs
map_same f g [] h = refl
map_same f g (x ∷ xs) h = let a = h.0 in let b = map_same f g xs h.1 in cc

any_same : {A : Type 0} (f g : A → Bool) (xs : List A) → AllByRecursion (λ x. f x ≡ g x) xs → list_any f xs ≡ list_any g xs
any_same f g [] h = refl
any_same f g (x ∷ xs) h = let a = h.0 in let b = any_same f g xs h.1 in cc

-- ---- answers for the expressions that are there

pub answer_more : {A : Type 0} (d : A) (step : (ℕ → A) → Expr → A) (es : List Expr) (e : Expr) (k : ℕ) → k < length es → answer d step (es ++ e ∷ []) k ≡ answer d step es k
answer_more {A} d step es e k h =
    let known : List A = answers d step [] es in
    let r = answers_begin d step [] es in
    let same : length known ≡ length es = ap length r.1 ∙ r.2 in
    ap (λ x. get_or x k d) (answers_append d step [] es (e ∷ []))
    ∙ get_or-append known (step (λ j. slice_index_or known j d) e ∷ []) d k (omega (arith, h, same))

-- ---- what all expressions of statements keep to, so do the targets
module _ (P : ExprId → Type 0) where
  mutual
    in_targets : (gs : List Guard) (s : Statement) → AllByRecursion P (statement_exprs s) → AllByRecursion (λ (g : Guarded). P g.target) (guarded_in gs s)
    in_targets gs (assign t v p) h = (h.0, tt)
    in_targets gs (choose arms) h = arm_targets gs arms h

    arm_targets : (gs : List Guard) (arms : Choices) → AllByRecursion P (choices_exprs arms) → AllByRecursion (λ (g : Guarded). P g.target) (guarded_arms gs arms)
    arm_targets gs none h = tt
    arm_targets gs (arm c body others) h =
        all_append (λ (g : Guarded). P g.target) (guarded (gs ++ record { condition = c; taken = true } ∷ []) body) (guarded_arms (gs ++ record { condition = c; taken = false } ∷ []) others)
        (block_targets (gs ++ record { condition = c; taken = true } ∷ []) body (all_left P (block_exprs body) (choices_exprs others) h.1))
        (arm_targets (gs ++ record { condition = c; taken = false } ∷ []) others (all_right P (block_exprs body) (choices_exprs others) h.1))

    pub block_targets : (gs : List Guard) (b : Block) → AllByRecursion P (block_exprs b) → AllByRecursion (λ (g : Guarded). P g.target) (guarded gs b)
    block_targets gs done h = tt
    block_targets gs (next s rest) h =
        all_append (λ (g : Guarded). P g.target) (guarded_in gs s) (guarded gs rest)
        (in_targets gs s (all_left P (statement_exprs s) (block_exprs rest) h))
        (block_targets gs rest (all_right P (statement_exprs s) (block_exprs rest) h))

-- ---- one expression more
module _ (c : Circuit) (e : Expr) where
  d : Circuit
  d = record c { pool = expr_added c.pool e }

  longer : (k : ℕ) → k < length c.pool.exprs → k < length (c.pool.exprs ++ e ∷ [])
  longer k h = omega (arith, h, length_more c.pool.exprs e)

  usable : (x : ExprId) → IsUsable c x → IsUsable d x
  unfolding d holds_reset
  usable x h = record { there = longer x.0 h.there; resolved = answer_more false reset_test c.pool.exprs e x.0 h.there ∙ h.resolved }

  form_same : (x : ExprId) → x.0 < length c.pool.exprs → form (expr_added c.pool e) x.0 ≡ form c.pool x.0
  unfolding form
  form_same x h = answer_more (unsigned 0) (form_step c.pool.signals) c.pool.exprs e x.0 h

  usable_of : (f : Form) (x : ExprId) → IsUsableOf c f x → IsUsableOf d f x
  unfolding d
  usable_of f x h = record { usable = usable x h.usable; shape = form_same x h.usable.there ∙ h.shape }

  domain : (x : Option DomainId) → IsDomain c x → IsDomain d x
  unfolding d
  domain None h = tt
  domain (Some x) h = h

  target : (g : Guarded) → IsUsable c g.target → IsTrue (is_target c.pool g.target.0) → IsTrue (is_target (expr_added c.pool e) g.target.0)
  unfolding is_target
  target g u h = answer_more false target_test c.pool.exprs e g.target.0 u.there ∙ h

  targets : (p : DesignProcess) → IsProcess c p → AllByRecursion (λ (g : Guarded). IsUsable c g.target) (guarded [] p.body)
  targets p h = block_targets (IsUsable c) [] p.body h.expressions

  process : (p : DesignProcess) → IsProcess c p → IsProcess d p
  unfolding d
  process p h = record {
    domain = domain p.domain h.domain;
    expressions = all_imp usable (block_exprs p.body) h.expressions;
    targets = all_both target (guarded [] p.body) (targets p h) h.targets;
  }

  signals_same : (g : Guarded) → IsUsable c g.target → target_signals (expr_added c.pool e) g.target.0 ≡ target_signals c.pool g.target.0
  unfolding target_signals
  signals_same g u = answer_more [] signals_step c.pool.exprs e g.target.0 u.there

  driven_same : (p : DesignProcess) → IsProcess c p → driven (expr_added c.pool e) p.body ≡ driven c.pool p.body
  driven_same p h =
      flat_map_same (λ (g : Guarded). target_signals (expr_added c.pool e) g.target.0) (λ (g : Guarded). target_signals c.pool g.target.0) (guarded [] p.body) (all_imp signals_same (guarded [] p.body) (targets p h))

  signal_of : (f : Form) (s : SigId) → IsSignalOf c f s → IsSignalOf d f s
  unfolding d
  signal_of f s h = record { there = h.there; shape = h.shape }

  reset : (s : Option SigId) → IsReset c s → IsReset d s
  unfolding d
  reset None h = tt
  reset (Some s) h = signal_of (unsigned 1) s h

  input : (s : Option SigId) → IsInputReset c s → IsInputReset d s
  unfolding d
  input None h = tt
  input (Some s) h = h

  clock_domain : (x : Domain) → IsClockDomain c x → IsClockDomain d x
  unfolding d
  clock_domain x h = record { clock = signal_of (unsigned 1) x.clk h.clock; reset = reset x.rst h.reset; clock_input = h.clock_input; clock_no_reset = h.clock_no_reset; async_input = λ t. input x.rst (h.async_input t) }

  address : (m : Memory) (x : ExprId) → IsAddress c m x → IsAddress d m x
  unfolding d
  address m x h = record {
    usable = usable x h.usable;
    is_unsigned = ap (λ (f : Form). f.signed) (form_same x h.usable.there) ∙ h.is_unsigned;
    width = rw (form_same x h.usable.there) h.width;
  }

  write_port : (m : Memory) (w : MemWrite) → IsWritePort c m w → IsWritePort d m w
  unfolding d
  write_port m w h = record { domain = h.domain; addr = address m w.addr h.addr; word = usable_of m.shape w.word h.word; granularity = h.granularity; enable = usable_of _ w.enable h.enable }

  clocking : (x : Option (List ℕ)) (y : Option ExprId) → IsClocking c x y → IsClocking d x y
  unfolding d
  clocking None None h = tt
  clocking None (Some y) h = absurd h
  clocking (Some x) None h = absurd h
  clocking (Some x) (Some y) h = (h.0, usable_of (unsigned 1) y h.1)

  read_port : (m : Memory) (r : MemRead) → IsReadPort c m r → IsReadPort d m r
  unfolding d
  read_port m r h = record { addr = address m r.addr h.addr; word = signal_of m.shape r.word h.word; word_init = h.word_init; clocking = clocking r.domain r.enable h.clocking; transparent = h.transparent }

  memory : (m : Memory) → IsMemory c m → IsMemory d m
  unfolding d
  memory m h = record {
    path = h.path;
    depth = h.depth;
    rows = h.rows;
    row_shapes = h.row_shapes;
    few_ports = h.few_ports;
    writes = all_imp (write_port m) m.writes h.writes;
    reads = all_imp (read_port m) m.reads h.reads;
    one_domain = h.one_domain;
  }

  drivers_same : AllByRecursion (IsProcess c) c.processes → drivers d ≡ drivers c
  unfolding d
  drivers_same h =
      ap (λ xs. xs ++ flat_map (λ (m : Memory). map (λ (r : MemRead). r.word.0 ∷ []) m.reads) c.memories)
      (map_same (λ (p : DesignProcess). driven (expr_added c.pool e) p.body) (λ (p : DesignProcess). driven c.pool p.body) c.processes (all_imp driven_same c.processes h))

  register_same : (s : ℕ) → AllByRecursion (IsProcess c) c.processes → is_register d s ≡ is_register c s
  unfolding d
  register_same s h =
      ap (λ b. b || list_any (λ (m : Memory). list_any (λ (r : MemRead). is_some r.domain && (r.word.0 == s)) m.reads) c.memories)
      (any_same (λ (p : DesignProcess). is_some p.domain && is_among (driven (expr_added c.pool e) p.body) s) (λ (p : DesignProcess). is_some p.domain && is_among (driven c.pool p.body) s) c.processes
      (all_imp (λ p x. ap (λ ss. is_some p.domain && is_among ss s) (driven_same p x)) c.processes h))

  columns : AllByRecursion (IsProcess c) c.processes → AreColumns c → AreColumns d
  unfolding d
  columns ps h = record {
    registers = h.registers;
    split = h.split;
    are_registers = all_imp (λ s x. register_same s ps ∙ x) h.registers h.are_registers;
    no_ports = h.no_ports;
    each_once = h.each_once;
    there = h.there;
    some_width = h.some_width;
    names = h.names;
    name_forms = h.name_forms;
  }

  pub design_more : IsDesign c → IsDesign (record c { pool = expr_added c.pool e })
  unfolding d
  design_more h = record {
    few_processes = h.few_processes;
    processes = all_imp process c.processes h.processes;
    domains = all_imp clock_domain c.domains h.domains;
    domain_names = h.domain_names;
    clocks = h.clocks;
    resets = h.resets;
    memories = all_imp memory c.memories h.memories;
    ports = h.ports;
    columns = columns h.processes h.columns;
    one_driver = rw (drivers_same h.processes) h.one_driver;
    no_driven_input = rw (drivers_same h.processes) h.no_driven_input;
  }

-- whatever a pool answers, its design keeps its rules
pub grown_design : (r : Result ExprId PoolStop) (c : Circuit) (q : Pooled) (e : Expr) → IfOk r (λ id. (expr_refusal c.pool e ≡ None) × (id ≡ record { 0 = length c.pool.exprs }) × (q ≡ expr_added c.pool e)) → IfErr r (λ stop. IsRefusal (expr_refusal c.pool e) stop × (q ≡ c.pool)) → IsDesign c → IsDesign (record c { pool = q })
grown_design (Ok id) c q e added refused h = rw added.2 (design_more c e h)
grown_design (Err stop) c q e added refused h = rw refused.1 h
