-- Things that are made one after another, where making one may add expressions to the pool. (This project's own rule: the order
-- in which a fragment and those below it get their expressions.)
use Rattle.std.specs.Prelude.{List, [], ◌∷◌}
use Rattle.design_ir.specs.declared.fragment.Fragment.{Fragment}
use Rattle.design_ir.specs.Forests.{Leaf, Forest, bare, grown}
use Rattle.design_ir.specs.Fragments.{leaf_of}
use Rattle.design_ir.specs.Pools.{Pooled}

-- of each of these one, over the pool that the ones before it left; and the pool in the end
abbrev pub each_in : {A B : Type 0} → (Pooled → A → B × Pooled) → Pooled → List A → List B × Pooled
each_in make q [] = ([], q)
each_in make q (x ∷ xs) = let one = make q x in let others = each_in make one.1 xs in (one.0 ∷ others.0, others.1)

-- of each fragment one: a fragment before those below it, and these before those behind it
abbrev pub forest_in : (Pooled → Leaf → Leaf × Pooled) → Pooled → Forest → Forest × Pooled
forest_in make q bare = (bare, q)
forest_in make q (grown l below rest) =
    let one = make q l in
    let inner = forest_in make one.1 below in
    let others = forest_in make inner.1 rest in
    (grown one.0 inner.0 others.0, others.1)

abbrev pub fragment_with : Leaf → Forest → Fragment
fragment_with l below = record { name = l.name; is_part = l.is_part; domains = l.domains; processes = l.processes; memories = l.memories; submodules = below }

-- of a fragment and of all below it
abbrev pub fragment_in : (Pooled → Leaf → Leaf × Pooled) → Pooled → Fragment → Fragment × Pooled
fragment_in make q f =
    let one = make q (leaf_of f) in
    let inner = forest_in make one.1 f.submodules in
    (fragment_with one.0 inner.0, inner.1)
