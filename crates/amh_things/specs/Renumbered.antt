-- Things whose expressions got other numbers: where expressions of a pool are kept once, and those behind a number stand at other places
-- than they were put, or at those of expressions that were there. Which number an expression gets is not known here. (This project's own; no
-- text of Amaranth says it.)
use Rattle.std.specs.Prelude.{ℕ, List, ◌++◌, map, take, drop}
use Rattle.design_ir.specs.declared.ids.ExprId.{ExprId}
use Rattle.amh_things.specs.declared.thing.Thing.{Thing}
use Rattle.amh_things.specs.declared.thing.Thing.TheVariants as thing

-- a thing that stands for an expression stands for the one of its new number
abbrev pub thing_now : (ExprId → ExprId) → Thing → Thing
thing_now f (thing.Value e) = thing.Value (f e)
thing_now f (thing.Numbered h e) = thing.Numbered h (f e)
thing_now f (thing.View h e) = thing.View h (f e)
thing_now f (thing.Method h e m) = thing.Method h (f e) m
thing_now f t = t

-- the first so many things are as they were
abbrev pub things_now : ℕ → (ExprId → ExprId) → List Thing → List Thing
things_now from f ts = take from ts ++ map (thing_now f) (drop from ts)
