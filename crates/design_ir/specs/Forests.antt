-- Fragments with those below them.
use Rattle.std.specs.Prelude.{◌≡◌, refl, ℕ, suc, ◌+◌, Bool, List, [], ◌∷◌}
use Rattle.std.specs.Coded.{Coded}
use base.Stored.{Gv, gnil, gcons}
use Rattle.design_ir.specs.declared.domain.DomainDef.{DomainDef}
use Rattle.design_ir.specs.declared.memory.Memory.{Memory}
use Rattle.design_ir.specs.declared.process.Process.{Process}

-- a fragment without those below it
pub record Leaf : Type 0 where
  pub name : List ℕ
  pub is_part : Bool
  pub domains : List DomainDef
  pub processes : List Process
  pub memories : List Memory

-- fragments one after another, each with those below it
pub data Forest : Type 0 where
  bare : Forest
  grown : Leaf → (below rest : Forest) → Forest

-- the fragments that stand directly in a forest, each with those below it
abbrev pub trees : Forest → List (Leaf × Forest)
trees bare = []
trees (grown l below rest) = (l, below) ∷ trees rest

abbrev pub forest_len : Forest → ℕ
forest_len bare = 0
forest_len (grown l below rest) = suc (forest_len rest)

-- one fragment more at the end
abbrev pub forest_and : Forest → Leaf → Forest → Forest
forest_and bare l below = grown l below bare
forest_and (grown k b rest) l below = grown k b (forest_and rest l below)

-- whatever stands in a forest is smaller than it
abbrev pub forest_size : Forest → ℕ
forest_size bare = 1
forest_size (grown l below rest) = suc (forest_size below + forest_size rest)

-- ---- a code, by which a proof tells two forests apart

abbrev pub forest_gv : Coded Leaf → Forest → Gv
forest_gv c bare = gnil
forest_gv c (grown l below rest) = gcons (c.code l) (gcons (forest_gv c below) (forest_gv c rest))

pub forest_inj : (c : Coded Leaf) (x y : Forest) → forest_gv c x ≡ forest_gv c y → x ≡ y
forest_inj c bare bare e = refl
forest_inj c bare (grown l b r) e = cc
forest_inj c (grown l b r) bare e = cc
forest_inj c (grown l b r) (grown l' b' r') e =
    let f : c.code l ≡ c.code l' = cc in
    let g : forest_gv c b ≡ forest_gv c b' = cc in
    let h : forest_gv c r ≡ forest_gv c r' = cc in
    let i = c.inj l l' f in
    let j = forest_inj c b b' g in
    let k = forest_inj c r r' h in
    cc

abbrev pub forest_code : Coded Leaf → Coded Forest
forest_code c = record { code = forest_gv c; inj = forest_inj c }
