-- `m.d`, its domains, and statements that are put under them. (Amaranth language guide 0.5, "Modules", "Domains".)
use Rattle.std.specs.Prelude.{ℕ, zero, suc, nat_lt, ◌==◌, ◌&&◌, Bool, true, false, if◌then◌else◌, List, [], ◌∷◌, ◌++◌, length, Option, Some, None, option_map, option_and_then, slice_get, slice_set, codes}
use Rattle.lists.specs.Texts.{text_eq}
use Rattle.identifiers.specs.Identifiers.{is_identifier}
use Rattle.py_values.specs.declared.val.Val.{Val}
use Rattle.py_values.specs.declared.val.Val.TheVariants as val
use Rattle.py_heap.specs.Heaps.{Seen, text_at, row_at}
use Rattle.py_frames.specs.declared.request.Answer.{Answer}
use Rattle.py_frames.specs.declared.request.Answer.TheVariants as answer
use Rattle.py_frames.specs.declared.request.Cause.{Cause}
use Rattle.py_frames.specs.declared.request.Cause.TheVariants.{Raised, Limit}
use Rattle.design_ir.specs.declared.process.Side.{Side}
use Rattle.module_dsl.specs.Blocks.{in_switch}
use Rattle.module_dsl.specs.Builders.{Built, built_blocks, and_given}
use Rattle.elab_store.specs.declared.kept.DomainName.TheVariants as domain
use Rattle.elab_store.specs.declared.kept.Equation.{Equation}
use Rattle.elab_store.specs.declared.kept.Kept.{Kept}
use Rattle.elab_store.specs.declared.kept.Kept.TheVariants as kept
use Rattle.elab_acts.specs.Blocks.{block_named, block_name_given}
use Rattle.elab_store.specs.declared.kept.MachinePart.{MachinePart}
use Rattle.elab_store.specs.OpenMachines.{in_machine}
use Rattle.elab_machines.specs.StateMachines.{part_named}
use Rattle.elab_store.specs.Counts.{statement_count}
use Rattle.elab_store.specs.Stores.{Stored, Held, Answered, refused, given, kept_given, kept_of, naming_domain, is_domain}

-- ---- the domains of a module

-- `m.FSM` and `m.State`, and else a block
abbrev pub part_given : Option MachinePart → Answered → Held → Answered
part_given (Some x) others h = kept_given (kept.OfMachine x) h
part_given None others h = others

-- `m.d`, `m.submodules`, `m.domains`, and the blocks of a module
abbrev pub module_attribute : ℕ → List ℕ → Held → Answered
module_attribute m name h =
    if text_eq name (codes "d") then kept_given (kept.Domains m) h
    else (if text_eq name (codes "submodules") then kept_given (kept.Submodules m) h
    else (if text_eq name (codes "domains") then kept_given (kept.Definitions m) h else part_given (part_named m name) (block_name_given m (block_named name) h) h))

-- a domain with a clock is named
abbrev pub clocked_given : ℕ → List ℕ → Held → Answered
clocked_given m n h = kept_given (kept.Domain m (domain.Clocked (length h.store.domains))) (record h { store = naming_domain n h.store })

-- `m.d.comb` and `m.d["comb"]`: `comb` is combinational, and each other identifier names a domain with a clock
abbrev pub domain_given : ℕ → Option (List ℕ) → Held → Answered
domain_given m None h = refused Raised h
domain_given m (Some n) h =
    if text_eq n (codes "comb") then kept_given (kept.Domain m domain.Comb) h
    else (if is_identifier n then clocked_given m n h else refused Raised h)

-- the name that an index is
abbrev pub index_name : Seen → Val → Option (List ℕ)
index_name s (val.Str x) = Some (text_at s x.0)
index_name s v = None

-- ---- assignment to `m.d.comb`: that of what `+=` gave, which is the same domain of the same module

abbrev pub is_domain_of : Stored → ℕ → Option (List ℕ) → Option Kept → Bool
is_domain_of s m (Some name) (Some (kept.Domain n d)) = (n == m) && is_domain s d name
is_domain_of s m name k = false

abbrev pub domain_stored : ℕ → Option (List ℕ) → Val → Held → Answered
domain_stored m name v h = if is_domain_of h.store m name (kept_of h.store v) then given val.None h else refused Raised h

-- ---- `+=`

abbrev pub equation_of : Option Kept → Option Equation
equation_of (Some (kept.Statement q)) = Some q
equation_of k = None

-- the row of a list or of a tuple
abbrev pub row_of_list : Seen → Val → Option (List Val)
row_of_list s (val.List o) = Some (row_at s o.0)
row_of_list s (val.Tuple o) = Some (row_at s o.0)
row_of_list s v = None

abbrev pub joined_all : (Val → Option (List Equation)) → List Val → Option (List Equation)
joined_all f [] = Some []
joined_all f (v ∷ vs) = option_and_then (λ xs. option_map (λ ys. xs ++ ys) (joined_all f vs)) (f v)

abbrev pub one_or : Option Equation → Option (List Equation) → Option (List Equation)
one_or (Some q) others = Some (q ∷ [])
one_or None others = others

-- The statements that a value is: one, or those of a list or a tuple in order, which may stand in one another so many deep. None where
-- something else stands there.
unfoldable pub equations_in : ℕ → Seen → Stored → Val → Option (List Equation)
equations_in zero s store v = option_map (λ q. q ∷ []) (equation_of (kept_of store v))
equations_in (suc n) s store v =
    one_or (equation_of (kept_of store v)) (option_and_then (joined_all (equations_in n s store)) (row_of_list s v))

-- statements, where all are some
abbrev pub collected : Bool → List Equation → Option (List Equation)
collected true qs = Some qs
collected false qs = None

-- lists of statements may stand in one another as deep as an equality of lists goes
abbrev pub deepest : ℕ
deepest = 64

-- one statement more, at the end of module m
abbrev pub built_with : Built → Side → Equation → Built
built_with b d q = and_given b d q.target q.value q.place

abbrev pub store_with_statement : ℕ → Built → Side → Equation → Stored → Stored
store_with_statement m b d q s = record s { modules = slice_set s.modules m (built_with b d q) }

-- directly in a `Switch` no statement stands; then comes one statement too many of the design
abbrev pub statement_refusal : ℕ → Built → Side → Equation → Stored → Option Cause
statement_refusal m b d q s =
    if in_switch (built_blocks b).around then Some Raised
    else (if nat_lt 65536 (statement_count (store_with_statement m b d q s).modules) then Some Limit else None)

-- what is held behind a statement, and why it is refused, where it is
abbrev pub statement_put : Option Cause → Stored → Stored → Stored × Option Cause
statement_put (Some why) s t = (s, Some why)
statement_put None s t = (t, None)

abbrev pub statement_told : ℕ → Side → Equation → Option Built → Stored → Stored × Option Cause
statement_told m d q (Some b) s = statement_put (statement_refusal m b d q s) s (store_with_statement m b d q s)
statement_told m d q None s = (s, None)

-- the others follow, where it is not refused
abbrev pub statements_behind : (Stored → Stored × Option Cause) → Stored × Option Cause → Stored × Option Cause
statements_behind others (s, Some why) = (s, Some why)
statements_behind others (s, None) = others s

-- statements one after the other, up to the first that is refused
abbrev pub statements_told : ℕ → Side → List Equation → Stored → Stored × Option Cause
statements_told m d [] s = (s, None)
statements_told m d (q ∷ qs) s = statements_behind (statements_told m d qs) (statement_told m d q (slice_get s.modules m) s)

-- The domain itself is given, which is assigned to its name again. What was put before a statement that is refused stays; the
-- program ends there.
abbrev pub told_answer : Val → Option Cause → Answer
told_answer v None = answer.Give v
told_answer v (Some why) = answer.Refuse why

-- directly in an `FSM` no statement stands
abbrev pub has_no_place : ℕ → List Equation → Stored → Bool
has_no_place m [] s = false
has_no_place m (q ∷ qs) s = in_machine m s.machines

abbrev pub statements_added : Val → ℕ → Option Side → Option (List Equation) → Held → Answered
statements_added v m None qs h = refused Raised h
statements_added v m (Some d) None h = refused Raised h
statements_added v m (Some d) (Some qs) h = if has_no_place m qs h.store then refused Raised h else record { answer = told_answer v (statements_told m d qs h.store).1; held = record h { store = (statements_told m d qs h.store).0 } }
