-- Submodules, worked out: modules 0 to 3 are things 0 to 3. To module 0 are added module 1 as `a`, and module 2 without a name; to module 1
-- module 3 as `x`.
use Rattle.std.specs.Prelude.{◌≡◌, refl, ℕ, true, List, [], ◌∷◌, map, Some, None, codes}
use Rattle.std.specs.Fmt.{digits}
use Rattle.identifiers.proofs.Computing.{identifiers}
use Rattle.py_values.specs.declared.val.Val.{Val}
use Rattle.py_values.specs.declared.val.Val.TheVariants as val
use Rattle.py_heap.specs.Heaps.{Seen, seen, nothing}
use Rattle.py_frames.specs.declared.request.Answer.TheVariants as answer
use Rattle.py_frames.specs.declared.request.Cause.TheVariants.{Raised, Limit}
use Rattle.elab_store.specs.declared.hierarchy.Addition.{Addition}
use Rattle.elab_store.specs.declared.hierarchy.NodeOf.TheVariants as node
use Rattle.elab_store.specs.Calls.{called}
use Rattle.elab_store.specs.Stores.{Held, Answered, nothing_held}
use Rattle.elab_components.specs.Signals.{module_called}
use Rattle.elab_acts.specs.Submodules.{submodule_added, submodule_stored, submodule_given}
use Rattle.elab_acts.specs.Tops.{named_top, body_ended, walked}

thing : ℕ → Val
thing n = val.Hw (record { 0 = n })

-- nothing is made in the heap
heap : Seen
heap = seen nothing nothing

module_more : Held → Held
module_more h = (module_called (called (thing 9 ∷ []) []) h).held

modules : Held
modules = module_more (module_more (module_more (module_more nothing_held)))

-- m0.submodules.a = m1
with_first : Answered
with_first = submodule_stored heap 0 (Some (codes "a")) (thing 1) modules

-- m0.submodules += m2, where thing 7 is `m0.submodules`
with_second : Answered
with_second = submodule_added heap 0 None (thing 2) (thing 7) with_first.held

-- m1.submodules.x = m3
with_third : Answered
with_third = submodule_stored heap 1 (Some (codes "x")) (thing 3) with_second.held

answers_given : (with_first.answer ≡ answer.Give val.None) × (with_second.answer ≡ answer.Give (thing 7)) × (with_third.answer ≡ answer.Give val.None)
unfolding identifiers thing heap module_more modules with_first with_second with_third
answers_given = (refl, refl, refl)

-- the second addition to module 0 has the number 1
names_given : map (λ (a : Addition). a.name) with_third.held.store.hierarchy.additions ≡ codes "a" ∷ codes "u1" ∷ codes "x" ∷ []
unfolding identifiers thing heap module_more modules with_first with_second with_third digits
names_given = refl

found_again : (submodule_given 0 (Some (codes "a")) with_third.held).answer ≡ answer.Give (thing 1)
unfolding identifiers thing heap module_more modules with_first with_second with_third
found_again = refl

-- an addition without a name is found under none; a name is taken once, and is an identifier; a number is no module
refused : ((submodule_given 0 (Some (codes "u1")) with_third.held).answer ≡ answer.Refuse Raised)
    × ((submodule_stored heap 0 (Some (codes "a")) (thing 3) with_third.held).answer ≡ answer.Refuse Raised)
    × ((submodule_stored heap 0 (Some (codes "1a")) (thing 3) with_third.held).answer ≡ answer.Refuse Raised)
    × ((submodule_added heap 0 None (val.Bool true) (thing 7) with_third.held).answer ≡ answer.Refuse Raised)
unfolding identifiers thing heap module_more modules with_first with_second with_third
refused = (refl, refl, refl, refl)

-- ---- the walk: top = m0

ended : Answered
ended = body_ended None heap (thing 0 ∷ []) (codes "top" ∷ []) with_third.held

-- module 1 stands by addition 0 and has one below it, which is module 3 by addition 2; then module 2 by addition 1
tree_walked : (ended.answer ≡ answer.Give val.None)
    × (ended.held.store.hierarchy.nodes
    ≡ record { addition = 0; of = node.Module 1; below = 1 } ∷ record { addition = 2; of = node.Module 3; below = 0 } ∷ record { addition = 1; of = node.Module 2; below = 0 } ∷ [])
    × (ended.held.store.hierarchy.waiting ≡ []) × (ended.held.store.top.root ≡ Some 0)
unfolding identifiers thing heap module_more modules with_first with_second with_third ended walked
tree_walked = (refl, refl, refl, refl)

-- what is elaborated gets nothing more
refused_later : ((submodule_added heap 0 None (thing 3) (thing 7) ended.held).answer ≡ answer.Refuse Raised) × ((submodule_added heap 3 None (thing 2) (thing 7) ended.held).answer ≡ answer.Refuse Raised)
unfolding identifiers thing heap module_more modules with_first with_second with_third ended walked
refused_later = (refl, refl)

-- a module within itself stands too deep
looped : Answered
looped = body_ended None heap (thing 0 ∷ []) (codes "top" ∷ []) (submodule_added heap 0 None (thing 0) (thing 7) modules).held

too_deep : looped.answer ≡ answer.Refuse Limit
unfolding identifiers thing heap module_more modules looped walked digits
too_deep = refl

-- ---- what the top is: `dut = m1`, `top = m2`

globals : List Val
unfolding thing
globals = thing 1 ∷ thing 2 ∷ []

-- the name that the words give, whatever is simulated; else what is simulated; else the global `top`
top_by_name : (named_top (Some (codes "dut")) (Some (thing 3)) globals (codes "dut" ∷ codes "top" ∷ []) ≡ Some (thing 1))
    × (named_top (Some (codes "low")) (Some (thing 3)) globals (codes "dut" ∷ codes "top" ∷ []) ≡ None)
    × (named_top None (Some (thing 3)) globals (codes "dut" ∷ codes "top" ∷ []) ≡ Some (thing 3))
    × (named_top None None globals (codes "dut" ∷ codes "top" ∷ []) ≡ Some (thing 2))
unfolding thing globals
top_by_name = (refl, refl, refl, refl)
