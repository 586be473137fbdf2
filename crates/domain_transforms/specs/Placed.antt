-- What stands in a fragment and below it, and that it is of the pool. (Internal: no rule of the language.)
use Rattle.std.specs.Prelude.{◌≡◌, ◌<◌, ℕ, List, [], ◌∷◌, ◌++◌, length, slice_get, Option, Some, None}
use Rattle.std.specs.List.{flat_map}
use Rattle.std.specs.Option.{option_map_or}
use Rattle.design_ir.specs.declared.ids.ExprId.{ExprId}
use Rattle.design_ir.specs.declared.expr.Expr.{Expr}
use Rattle.design_ir.specs.declared.memory.MemWrite.{MemWrite}
use Rattle.design_ir.specs.declared.memory.MemRead.{MemRead}
use Rattle.design_ir.specs.declared.memory.Memory.{Memory}
use Rattle.design_ir.specs.declared.process.Process.{Process}
use Rattle.design_ir.specs.declared.fragment.Fragment.{Fragment}
use Rattle.design_ir.specs.Forests.{Leaf, Forest, bare, grown}
use Rattle.design_ir.specs.Fragments.{leaf_of}
use Rattle.design_ir.specs.Guards.{block_exprs}
use Rattle.amh_bits.specs.Patterns.{IsOf}
use Rattle.shape_rules.specs.Forms.{IsForm}
use Rattle.domain_transforms.specs.declared.controls.Control.{Control}
use Rattle.domain_transforms.specs.declared.resetting.Register.{Register}
use Rattle.domain_transforms.specs.Resetting.{place_from}

abbrev pub write_exprs : MemWrite → List ExprId
write_exprs w = w.addr ∷ w.word ∷ w.enable ∷ []

abbrev pub read_exprs : MemRead → List ExprId
read_exprs r = r.addr ∷ option_map_or (λ (e : ExprId). e ∷ []) r.enable []

abbrev pub memory_exprs : Memory → List ExprId
memory_exprs m = flat_map write_exprs m.writes ++ flat_map read_exprs m.reads

abbrev pub leaf_exprs : Leaf → List ExprId
leaf_exprs l = flat_map (λ (p : Process). block_exprs p.body) l.processes ++ flat_map memory_exprs l.memories

abbrev pub forest_exprs : Forest → List ExprId
forest_exprs bare = []
forest_exprs (grown l below rest) = leaf_exprs l ++ (forest_exprs below ++ forest_exprs rest)

-- the expressions that stand directly in statements and memory ports
abbrev pub fragment_exprs : Fragment → List ExprId
fragment_exprs f = leaf_exprs (leaf_of f) ++ forest_exprs f.submodules

-- ---- controls

abbrev pub AreControls : ℕ → List Control → Type 0
AreControls n [] = Unit {0}
AreControls n (c ∷ cs) = (c.condition.0 < n) × AreControls n cs

abbrev pub OptionBelow : ℕ → Option ExprId → Type 0
OptionBelow n None = Unit {0}
OptionBelow n (Some e) = e.0 < n

-- ---- the first expression that is a signal, for each signal

pub record ArePlaces (exprs : List Expr) (places : List (Option ExprId)) : Type 0 where
  pub size : length places ≡ 16384
  pub each : (s : ℕ) → s < 16384 → slice_get places s ≡ Some (place_from s 0 exprs)

-- a register has a shape, and its init is of it
pub record IsInitial (r : Register) : Type 0 where
  pub shape : IsForm r.shape.width r.shape.signed
  pub init : IsOf r.shape.signed r.shape.width r.init
