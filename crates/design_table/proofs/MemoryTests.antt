-- What a memory that passes the tests keeps to.
use Rattle.std.specs.Prelude.{◌≡◌, refl, true, Bool, ℕ, ◌+◌, ◌/◌, ◌%◌, ◌<◌, ◌≤◌, IsTrue, IsSomeAnd, IfOk, List, [], length, slice_get, All, Option, Some, Result, Ok, Err}
use Rattle.std.specs.List.{AllByRecursion}
use Rattle.std.proofs.Common.{sym, ◌∙◌, subst, arith, inl, inr}
use Rattle.std.proofs.Math.Nat.{div-add-mod, mul_comm}
use Rattle.lists.specs.Names.{IsName, IsPath}
use Rattle.lists.specs.Texts.{text_eq}
use Rattle.lists.proofs.TextLaws.{text_eq_true}
use Rattle.amh_bits.specs.Patterns.{IsOf}
use Rattle.design_ir.specs.declared.port.Port.{Port}
use Rattle.design_ir.specs.declared.domain.Domain.{Domain}
use Rattle.design_ir.specs.declared.process.DesignProcess.{DesignProcess}
use Rattle.design_ir.specs.declared.memory.MemWrite.{MemWrite}
use Rattle.design_ir.specs.declared.memory.Memory.{Memory}
use Rattle.design_ir.specs.Pools.{Pooled}
use Rattle.design_ir.specs.Designs.{IsGranularity, IsWritePort, IsReadPort, IsMemory}
use Rattle.design_table.specs.Tests.{is_name}
use Rattle.design_table.specs.MemoryTests.{bare, given_ports, AreGiven, AreMemories}
use Rattle.design_table.proofs.Ports.{name_is}
use Rattle.design_table.proofs.Statements.{all_imp}

no_more : All IsName []
no_more k d h = absurd (omega (arith, h))

-- a name is a path
pub path_of : (name : List ℕ) → is_name name ≡ true → IsPath name
path_of name e = record { name = name; more = []; first = name_is name e; others = no_more; whole = refl }

pub some_and : {A : Type 0} (P : A → Type 0) (o : Option A) (x : A) → o ≡ Some x → P x → IsSomeAnd o P
some_and P o x e h = rw e h

-- a write port of this number has this domain
pub some_named : (ws : List MemWrite) (k : ℕ) (w : MemWrite) (domain : List ℕ) → slice_get ws k ≡ Some w → text_eq w.domain domain ≡ true → IsSomeAnd (slice_get ws k) (λ (x : MemWrite). x.domain ≡ domain)
some_named ws k w domain e t = rw e (text_eq_true w.domain domain t)

-- ports of one domain
pub one_domain : (ws : List MemWrite) (domain : List ℕ) → AllByRecursion (λ (w : MemWrite). w.domain ≡ domain) ws
    → AllByRecursion (λ (w : MemWrite). AllByRecursion (λ (v : MemWrite). v.domain ≡ w.domain) ws) ws
one_domain ws domain h = all_imp (λ (w : MemWrite) e. all_imp (λ (v : MemWrite) f. f ∙ sym e) ws h) ws h

-- granules
pub whole_row : (m : Memory) (g : ℕ) → g ≡ m.shape.width → IsGranularity m g
whole_row m g e = record { some = inl e; count = 1; divides = omega (arith, e) }

pub part_of_row : (m : Memory) (g : ℕ) → 0 < g → m.shape.width % g ≡ 0 → IsGranularity m g
part_of_row m g some e = record { some = inr some; count = m.shape.width / g; divides = omega (arith, e, div-add-mod m.shape.width g, mul_comm g (m.shape.width / g)) }

pub memory_is : (pool : Pooled) (xs : List Domain) (m : Memory) → IsPath m.name → m.depth ≤ 65536 → length m.rows ≡ m.depth → AllByRecursion (IsOf m.shape.signed m.shape.width) m.rows
    → length m.writes + length m.reads ≤ 64 → AllByRecursion (IsWritePort (bare pool xs) m) m.writes
    → AllByRecursion (λ (w : MemWrite). AllByRecursion (λ (v : MemWrite). v.domain ≡ w.domain) m.writes) m.writes
    → AllByRecursion (IsReadPort (bare pool xs) m) m.reads → IsMemory (bare pool xs) m
memory_is pool xs m path depth rows shapes few writes domain reads = record {
  path = path;
  depth = depth;
  rows = rows;
  row_shapes = shapes;
  few_ports = few;
  writes = writes;
  reads = reads;
  one_domain = domain;
}

-- the signals that are tested are those that the memories give
pub given_is : {E : Type 0} (pool : Pooled) (ports : List Port) (sides : List ℕ) (xs : List Domain) (processes : List DesignProcess) (ms : List Memory) (given : List Port) (r : Result Bool E)
    → given ≡ given_ports ms → AllByRecursion (IsMemory (bare pool xs)) ms → IfOk r (λ b. IsTrue b → AreGiven pool ports sides processes given)
    → IfOk r (λ b. IsTrue b → AreMemories pool ports sides xs processes ms)
given_is pool ports sides xs processes ms given (Ok b) e rules h = λ t. record { rules = rules; given = subst (AreGiven pool ports sides processes) e (h t) }
given_is pool ports sides xs processes ms given (Err x) e rules h = h
