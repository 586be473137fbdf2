-- A design whose pool grew by expressions means what it did before. (A testbench puts expressions to a design that runs.)
use Rattle.std.specs.Prelude.{◌≡◌, ◌<◌, ◌↔◌, ℕ, List, length, ℤ}
use Rattle.design_ir.specs.declared.event.Event.{Event}
use Rattle.design_ir.specs.declared.expr.Expr.{Expr}
use Rattle.design_ir.specs.PoolRules.{IsPool, expr_added}
use Rattle.design_ir.specs.Values.{form, num}
use Rattle.design_ir.specs.Targets.{Bit}
use Rattle.design_ir.specs.Circuits.{Circuit, State}
use Rattle.design_ir.specs.Designs.{IsDesign}
use Rattle.design_ir.specs.Settled.{Settled}
use Rattle.design_ir.specs.Steps.{step, first_state}
use Rattle.design_ir.specs.Histories.{History}
use Rattle.design_ir.specs.Legal.{AllLegal}
use Rattle.design_ir.specs.Loops.{Needs, Loop}
use Rattle.comb_graph.specs.Orders.{IsLongest}
use Rattle.comb_graph.specs.Rankings.{Ranking, IsRanking}
use Rattle.flat_design.specs.Growing.{IsMore}

-- the same design but for a pool that has the same signals, and behind the expressions that were there more of them
pub record IsGrown (c d : Circuit) : Type 0 where
  pub more : IsMore c.pool d.pool
  pub rest : d ≡ record c { pool = d.pool }

-- a design has grown from itself, and by one expression more; and what grew twice has grown
pub record GrowsOn : Type 0 where
  pub itself : (c : Circuit) → IsGrown c c
  pub one_more : (c : Circuit) (e : Expr) → IsGrown c (record c { pool = expr_added c.pool e })
  pub twice : (c d e : Circuit) → IsGrown c d → IsGrown d e → IsGrown c e

-- the shapes and integers of expressions, the first state, settled environments, steps, legal events and histories are those
-- of the other design
pub record MeansTheSame (c d : Circuit) : Type 0 where
  pub shapes : (k : ℕ) → k < length c.pool.exprs → form d.pool k ≡ form c.pool k
  pub values : (env : List ℤ) (k : ℕ) → k < length c.pool.exprs → num d.pool env k ≡ num c.pool env k
  pub first : first_state d ≡ first_state c
  pub settled : (st : State) (env : List ℤ) → Settled d st env ↔ Settled c st env
  pub steps : (st : State) (env : List ℤ) (e : Event) → step d st env e ≡ step c st env e
  pub legal : (es : List Event) → AllLegal d es ↔ AllLegal c es
  pub histories : (es : List Event) (envs : List (List ℤ)) → History d es envs ↔ History c es envs

-- the same bits need each other, so many stand on the longest chain of needs, and the ranks of the one are those of the other
pub record NeedsTheSame (c d : Circuit) : Type 0 where
  pub needs : (b x : Bit) → Needs d b x ↔ Needs c b x
  pub loops : (b : Bit) → Loop d b ↔ Loop c b
  pub longest : (n : ℕ) → IsLongest d n ↔ IsLongest c n
  pub ranks : (r : Ranking) → IsRanking d r ↔ IsRanking c r

abbrev pub GrowthKeepsMeaning : Type 0
GrowthKeepsMeaning = (c d : Circuit) → IsPool c.pool → IsDesign c → IsGrown c d → MeansTheSame c d

abbrev pub GrowthKeepsNeeds : Type 0
GrowthKeepsNeeds = (c d : Circuit) → IsPool c.pool → IsDesign c → IsGrown c d → NeedsTheSame c d
