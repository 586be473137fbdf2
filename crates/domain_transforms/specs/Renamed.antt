-- What a `DomainRenamer` makes of a fragment, and of the pool. (Amaranth guide: Renaming domains; which expressions it makes, and
-- in which order, is this project's own rule: one for each expression of the fragment in which a renamed reset stands, in the
-- order of the pool.)
use Rattle.std.specs.Prelude.{ℕ, suc, ◌==◌, ◌&&◌, not, Bool, true, false, if◌then◌else◌, List, [], ◌∷◌, ◌++◌, map, length, slice_get, option_map}
use Rattle.std.specs.List.{filter, filter_map, flat_map, list_any, range_with_len}
use Rattle.lists.specs.Texts.{text_eq}
use Rattle.design_ir.specs.declared.ids.ExprId.{ExprId}
use Rattle.design_ir.specs.declared.expr.Expr as expr
use Rattle.design_ir.specs.declared.expr.Expr.{Expr}
use Rattle.design_ir.specs.declared.expr.Expr.TheVariants.{Const, Unary, Binary, Mux, Slice, Cat, Part, Pick, Cast, Matches, Reset}
use Rattle.design_ir.specs.declared.domain.DomainDef.{DomainDef}
use Rattle.design_ir.specs.declared.memory.MemWrite.{MemWrite}
use Rattle.design_ir.specs.declared.memory.MemRead.{MemRead}
use Rattle.design_ir.specs.declared.memory.Memory.{Memory}
use Rattle.design_ir.specs.declared.process.Side.{Side}
use Rattle.design_ir.specs.declared.process.Side.TheVariants.{Comb, Clocked}
use Rattle.design_ir.specs.declared.process.Process.{Process}
use Rattle.design_ir.specs.declared.fragment.Fragment.{Fragment}
use Rattle.design_ir.specs.Forests.{Leaf}
use Rattle.design_ir.specs.Trees.{Statement, assign, choose, Choices, none, arm, Block, done, next}
use Rattle.design_ir.specs.Pools.{Pooled, answer}
use Rattle.design_ir.specs.Named.{named}
use Rattle.design_ir.specs.Circuits.{is_among}
use Rattle.fragment_walks.specs.Marks.{numbers}
use Rattle.domain_transforms.specs.declared.controls.NamePair.{NamePair}
use Rattle.domain_transforms.specs.Controlled.{is_renamed, name_after}
use Rattle.domain_transforms.specs.Making.{fragment_in}
use Rattle.domain_transforms.specs.Placed.{fragment_exprs}

-- ---- which expressions are made anew

-- a renamed reset, or an expression in which one stands
abbrev pub renamed_test : List NamePair → (ℕ → Bool) → Expr → Bool
renamed_test names holds (Reset domain place) = is_renamed names domain
renamed_test names holds e = list_any (λ (k : ExprId). holds k.0) (named e)

unfoldable pub holds_renamed : List NamePair → Pooled → ℕ → Bool
holds_renamed names q k = answer false (renamed_test names) q.exprs k

-- the expressions that stand in an expression
abbrev pub inside_step : (ℕ → List ℕ) → Expr → List ℕ
inside_step inside e = numbers (named e) ++ flat_map (λ (a : ExprId). inside a.0) (named e)

unfoldable pub inside : Pooled → ℕ → List ℕ
inside q k = answer [] inside_step q.exprs k

-- an expression is one of these, or stands in one of them
abbrev pub is_within : Pooled → List ExprId → ℕ → Bool
is_within q roots k = is_among (numbers roots ++ flat_map (inside q) (numbers roots)) k

-- the numbers of those that are made anew, in the order of the pool
unfoldable pub remade : List NamePair → Pooled → List ExprId → List ℕ
remade names q roots = filter (λ k. is_within q roots k && holds_renamed names q k) (range_with_len 0 (length q.exprs))

-- ---- what they become

-- what stands for an expression where those of these numbers have new ones, the first of them n
abbrev pub anew : ℕ → List ℕ → ExprId → ExprId
anew n [] e = e
anew n (k ∷ ks) e = if k == e.0 then record { 0 = n } else anew (suc n) ks e

abbrev pub renamed_expr : List NamePair → (ExprId → ExprId) → Expr → Expr
renamed_expr names to (Const n s) = Const n s
renamed_expr names to (expr.TheVariants.Sig s) = expr.TheVariants.Sig s
renamed_expr names to (Unary op a) = Unary op (to a)
renamed_expr names to (Binary op a b) = Binary op (to a) (to b)
renamed_expr names to (Mux s a b) = Mux (to s) (to a) (to b)
renamed_expr names to (Slice a low width) = Slice (to a) low width
renamed_expr names to (Cat es) = Cat (map to es)
renamed_expr names to (Part a offset width stride) = Part (to a) (to offset) width stride
renamed_expr names to (Pick index es) = Pick (to index) (map to es)
renamed_expr names to (Cast a signed) = Cast (to a) signed
renamed_expr names to (Matches a patterns) = Matches (to a) patterns
renamed_expr names to (Reset domain place) = Reset (name_after names domain) place

-- the expressions of some numbers made anew
abbrev pub new_exprs : List NamePair → (ExprId → ExprId) → List Expr → List ℕ → List Expr
new_exprs names to es ks = filter_map (λ k. option_map (renamed_expr names to) (slice_get es k)) ks

abbrev pub renamed_pool : List NamePair → Pooled → List ℕ → Pooled
renamed_pool names q ks = record q { exprs = q.exprs ++ new_exprs names (anew (length q.exprs) ks) q.exprs ks }

-- ---- statements

abbrev mutual
  pub renamed_statement : (ExprId → ExprId) → Statement → Statement
  renamed_statement to (assign t v p) = assign (to t) (to v) p
  renamed_statement to (choose arms) = choose (renamed_choices to arms)

  pub renamed_choices : (ExprId → ExprId) → Choices → Choices
  renamed_choices to none = none
  renamed_choices to (arm c body others) = arm (to c) (renamed_block to body) (renamed_choices to others)

  pub renamed_block : (ExprId → ExprId) → Block → Block
  renamed_block to done = done
  renamed_block to (next s rest) = next (renamed_statement to s) (renamed_block to rest)

-- ---- processes: those that get one side become one, in the place of the first

abbrev pub renamed_side : List NamePair → Side → Side
renamed_side names Comb = Comb
renamed_side names (Clocked name) = Clocked (name_after names name)

abbrev pub side_eq : Side → Side → Bool
side_eq Comb Comb = true
side_eq Comb (Clocked b) = false
side_eq (Clocked a) Comb = false
side_eq (Clocked a) (Clocked b) = text_eq a b

-- each where it comes first
abbrev pub sides_once : List Side → List Side
sides_once [] = []
sides_once (s ∷ more) = s ∷ filter (λ r. not (side_eq s r)) (sides_once more)

abbrev pub block_append : Block → Block → Block
block_append done b = b
block_append (next s rest) b = next s (block_append rest b)

-- the statements of all processes that get a side, in their order
abbrev pub side_statements : List NamePair → (ExprId → ExprId) → Side → List Process → Block
side_statements names to side [] = done
side_statements names to side (p ∷ ps) =
    if side_eq side (renamed_side names p.side) then block_append (renamed_block to p.body) (side_statements names to side ps) else side_statements names to side ps

abbrev pub renamed_sides : List NamePair → List Process → List Side
renamed_sides names ps = sides_once (map (λ (p : Process). renamed_side names p.side) ps)

abbrev pub renamed_processes : List NamePair → (ExprId → ExprId) → List Process → List Process
renamed_processes names to ps = map (λ (s : Side). record { side = s; body = side_statements names to s ps }) (renamed_sides names ps)

-- ---- memories and definitions

abbrev pub renamed_write : List NamePair → (ExprId → ExprId) → MemWrite → MemWrite
renamed_write names to w = record w { domain = name_after names w.domain; addr = to w.addr; word = to w.word; enable = to w.enable }

abbrev pub renamed_read : List NamePair → (ExprId → ExprId) → MemRead → MemRead
renamed_read names to r = record r { domain = option_map (name_after names) r.domain; addr = to r.addr; enable = option_map to r.enable }

abbrev pub renamed_memory : List NamePair → (ExprId → ExprId) → Memory → Memory
renamed_memory names to m = record m { writes = map (renamed_write names to) m.writes; reads = map (renamed_read names to) m.reads }

abbrev pub renamed_definition : List NamePair → DomainDef → DomainDef
renamed_definition names d = record d { domain = record (d.domain) { name = name_after names d.domain.name } }

-- ---- fragments

abbrev pub renamed_leaf : List NamePair → (ExprId → ExprId) → Leaf → Leaf
renamed_leaf names to l = record l {
  domains = map (renamed_definition names) l.domains;
  processes = renamed_processes names to l.processes;
  memories = map (renamed_memory names to) l.memories;
}

-- the fragment with all below it, over the expressions that stand for its own; and the pool
abbrev pub renamed_by : List NamePair → Pooled → Fragment → List ℕ → Fragment × Pooled
renamed_by names q f ks =
    fragment_in (λ p l. (renamed_leaf names (anew (length q.exprs) ks) l, p)) (renamed_pool names q ks) f

abbrev pub renamed : List NamePair → Pooled → Fragment → Fragment × Pooled
renamed names q f = renamed_by names q f (remade names q (fragment_exprs f))
