-- What an act of a testbench makes, put to the design: an expression that is there already is not made again.
-- Source: this project's own rule (docs/RULES.md).
use Rattle.std.specs.Prelude.{◌≡◌, ℕ, nat_lt, ◌&&◌, Bool, List, [], ◌∷◌, ◌++◌, length, map, drop, take, Option, Some, None, fold}
use Rattle.design_ir.specs.declared.ids.ExprId.{ExprId}
use Rattle.design_ir.specs.declared.expr.Expr.{Expr}
use Rattle.design_ir.specs.Pools.{Pooled}
use Rattle.elab_store.specs.declared.kept.Begin.{Begin}
use Rattle.elab_store.specs.declared.kept.Begin.TheVariants as begin
use Rattle.elab_store.specs.declared.kept.Kept.{Kept}
use Rattle.elab_store.specs.declared.kept.Kept.TheVariants as kept
use Rattle.elab_store.specs.Stores.{Held}
use Rattle.amh_things.specs.Renumbered.{things_now}
use Rattle.expr_index.specs.First.{first_number}
use Rattle.expr_index.specs.Numbers.{number_now, renumbered}

-- ---- expressions

-- the numbers that expressions got so far, and the expressions of the pool with those that it got
pub record Shared : Type 0 where
  pub numbers : List ExprId
  pub exprs : List Expr

-- the first one that is the same, or else the expression at the end
abbrev pub number_in : Option ℕ → Expr → Shared → Shared
number_in (Some k) e s = record s { numbers = s.numbers ++ (record { 0 = k }) ∷ [] }
number_in None e s = record { numbers = s.numbers ++ (record { 0 = length s.exprs }) ∷ []; exprs = s.exprs ++ e ∷ [] }

-- an expression over those before it, by the numbers that these got
abbrev pub share_one : ℕ → Shared → Expr → Shared
share_one before s x = let e = renumbered (number_now before s.numbers) x in number_in (first_number s.exprs e) e s

-- expressions that were made behind these, one after another
abbrev pub shared : List Expr → List Expr → Shared
shared es more = fold (share_one (length es)) (record { numbers = []; exprs = es }) more

-- ---- what stands over them

abbrev pub begin_now : (ExprId → ExprId) → Begin → Begin
begin_now to (begin.If e) = begin.If (to e)
begin_now to (begin.Elif e) = begin.Elif (to e)
begin_now to (begin.Switch e) = begin.Switch (to e)
begin_now to begin.Else = begin.Else
begin_now to (begin.Case k) = begin.Case k
begin_now to begin.Default = begin.Default
begin_now to begin.Misplaced = begin.Misplaced

-- statements and blocks; what else has expressions comes with signals of its own, which no testbench makes
abbrev pub kept_now : (ExprId → ExprId) → Kept → Kept
kept_now to (kept.Statement s) = kept.Statement (record s { target = to s.target; value = to s.value })
kept_now to (kept.Block m b) = kept.Block m (begin_now to b)
kept_now to k = k

abbrev pub kepts_now : ℕ → (ExprId → ExprId) → List Kept → List Kept
kepts_now from to ks = take from ks ++ map (kept_now to) (drop from ks)

-- what is held behind an act, over the pool and the counts of things and of kept ones before it: the pool gets what is new, and what the act
-- made stands over it
abbrev pub held_over : Pooled → (things kept : ℕ) → Held → Held
held_over p things kept k =
    let s = shared p.exprs (drop (length p.exprs) k.pool.exprs) in
    let to = number_now (length p.exprs) s.numbers in
    record k { pool = record p { exprs = s.exprs }; store = record k.store { things = things_now things to k.store.things; kept = kepts_now kept to k.store.kept } }

abbrev pub held_shared : Held → Held → Held
held_shared h k = held_over h.pool (length h.store.things) (length h.store.kept) k

-- the expressions of a pool behind an act
abbrev pub exprs_shared : Pooled → Held → List Expr
exprs_shared p k = (shared p.exprs (drop (length p.exprs) k.pool.exprs)).exprs

-- one of these expressions more than those of the pool is past the count; a design may have more of its own
abbrev pub too_many : Pooled → List Expr → Bool
too_many p es = nat_lt (length p.exprs) (length es) && nat_lt 262144 (length es)

-- an act puts expressions behind those of the pool, and its pool keeps to the rules
pub record IsBehind (p : Pooled) (k : Held) : Type 0 where
  pub signals : k.pool.signals ≡ p.signals
  pub exprs : k.pool.exprs ≡ p.exprs ++ drop (length p.exprs) k.pool.exprs
