-- What stands in a fragment: the expressions of its statements and memory ports with all that stand in these, and the resets among
-- them. (Amaranth guide: Clock domains, `ResetSignal`; that resets come in order of making is this project's own rule.)
use Rattle.std.specs.Prelude.{ℕ, Bool, List, [], ◌∷◌, ◌++◌, length, slice_get, Option, Some, None, option_and_then}
use Rattle.std.specs.List.{filter, filter_map, flat_map, range_with_len}
use Rattle.std.specs.Option.{option_map_or}
use Rattle.amh_host.specs.declared.place.Place.{Place}
use Rattle.design_ir.specs.declared.ids.ExprId.{ExprId}
use Rattle.design_ir.specs.declared.expr.Expr.{Expr}
use Rattle.design_ir.specs.declared.expr.Expr.TheVariants.{Reset}
use Rattle.design_ir.specs.declared.memory.MemWrite.{MemWrite}
use Rattle.design_ir.specs.declared.memory.MemRead.{MemRead}
use Rattle.design_ir.specs.declared.memory.Memory.{Memory}
use Rattle.design_ir.specs.declared.process.Process.{Process}
use Rattle.design_ir.specs.declared.fragment.Fragment.{Fragment}
use Rattle.design_ir.specs.Forests.{Leaf, Forest, bare, grown}
use Rattle.design_ir.specs.Fragments.{leaf_of}
use Rattle.design_ir.specs.Guards.{block_exprs}
use Rattle.design_ir.specs.Pools.{Pooled, answer}
use Rattle.design_ir.specs.Named.{named}
use Rattle.design_ir.specs.Circuits.{is_among}
use Rattle.fragment_walks.specs.Marks.{numbers}

-- ---- what stands directly in a fragment

abbrev pub write_exprs : MemWrite → List ExprId
write_exprs w = w.addr ∷ w.word ∷ w.enable ∷ []

abbrev pub read_exprs : MemRead → List ExprId
read_exprs r = r.addr ∷ option_map_or (λ (e : ExprId). e ∷ []) r.enable []

abbrev pub memory_exprs : Memory → List ExprId
memory_exprs m = flat_map write_exprs m.writes ++ flat_map read_exprs m.reads

abbrev pub leaf_exprs : Leaf → List ExprId
leaf_exprs l = flat_map (λ (p : Process). block_exprs p.body) l.processes ++ flat_map memory_exprs l.memories

-- and below it
abbrev pub forest_exprs : Forest → List ExprId
forest_exprs bare = []
forest_exprs (grown l below rest) = leaf_exprs l ++ (forest_exprs below ++ forest_exprs rest)

abbrev pub fragment_exprs : Fragment → List ExprId
fragment_exprs f = leaf_exprs (leaf_of f) ++ forest_exprs f.submodules

-- ---- what stands in an expression

abbrev pub inside_step : (ℕ → List ℕ) → Expr → List ℕ
inside_step inside e = numbers (named e) ++ flat_map (λ (a : ExprId). inside a.0) (named e)

unfoldable pub inside : Pooled → ℕ → List ℕ
inside q k = answer [] inside_step q.exprs k

-- an expression is one of these, or stands in one of them
abbrev pub is_within : Pooled → List ExprId → ℕ → Bool
is_within q roots k = is_among (numbers roots ++ flat_map (inside q) (numbers roots)) k

-- ---- the resets among them

-- the reset of a domain, and its call
pub record ResetCall : Type 0 where
  pub domain : List ℕ
  pub place : Place

abbrev pub reset_call : Expr → Option ResetCall
reset_call (Reset domain place) = Some (record { domain = domain; place = place })
reset_call e = None

-- in order of making
unfoldable pub held_resets : Pooled → List ExprId → List ResetCall
held_resets q roots = filter_map (λ k. option_and_then reset_call (slice_get q.exprs k)) (filter (is_within q roots) (range_with_len 0 (length q.exprs)))
