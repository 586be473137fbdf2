-- Wrappers, worked out: modules 0 and 1 are things 0 and 1. Module 1 is wrapped by wrapping 4, and what comes of it by wrapping 2.
use Rattle.std.specs.Prelude.{◌≡◌, refl, ℕ, true, List, [], ◌∷◌, ◌++◌, Some, None, codes}
use Rattle.std.specs.Fmt.{digits}
use Rattle.identifiers.proofs.Computing.{identifiers}
use Rattle.py_values.specs.declared.val.Val.{Val}
use Rattle.py_values.specs.declared.val.Val.TheVariants as val
use Rattle.py_heap.specs.Heaps.{Seen, seen, nothing}
use Rattle.py_frames.specs.declared.request.Answer.TheVariants as answer
use Rattle.py_frames.specs.declared.request.Cause.TheVariants.{Raised}
use Rattle.elab_store.specs.declared.hierarchy.NodeOf.TheVariants as node
use Rattle.elab_store.specs.Calls.{called}
use Rattle.elab_store.specs.Stores.{Held, Answered, nothing_held, inner_of, wraps_in}
use Rattle.elab_components.specs.Signals.{module_called}
use Rattle.elab_acts.specs.Submodules.{submodule_stored}
use Rattle.elab_acts.specs.Tops.{body_ended, walked}
use Rattle.elab_acts.specs.Wrappers.{wrapping_called, wrapped_attribute}

thing : ℕ → Val
thing n = val.Hw (record { 0 = n })

-- nothing is made in the heap
heap : Seen
heap = seen nothing nothing

module_more : Held → Held
module_more h = (module_called (called (thing 9 ∷ []) []) h).held

modules : Held
modules = module_more (module_more nothing_held)

-- a call of wrapping k, which is thing 9, with one argument
wrap : ℕ → Val → Held → Answered
wrap k v h = wrapping_called heap k (called (thing 9 ∷ v ∷ []) []) h

first : Answered
first = wrap 4 (thing 1) modules

second : Answered
second = wrap 2 (thing 2) first.held

-- each is a new thing, whose attributes are those of module 1
wrapped_twice : (first.answer ≡ answer.Give (thing 2)) × (second.answer ≡ answer.Give (thing 3)) × (inner_of second.held.store (thing 3) ≡ thing 1) × (wraps_in second.held.store (thing 3) ≡ 2 ∷ 4 ∷ [])
    × ((wrapped_attribute 1 second.held).answer ≡ answer.Through (thing 1)) × ((wrapped_attribute 2 second.held).answer ≡ answer.Refuse Raised)
unfolding thing heap module_more modules wrap first second
wrapped_twice = (refl, refl, refl, refl, refl, refl)

-- one argument, which is something to elaborate, and no keyword
refused : ((wrap 4 (val.Bool true) modules).answer ≡ answer.Refuse Raised)
    × ((wrapping_called heap 4 (called (thing 9 ∷ []) []) modules).answer ≡ answer.Refuse Raised)
    × ((wrapping_called heap 4 (called (thing 9 ∷ thing 0 ∷ thing 1 ∷ []) []) modules).answer ≡ answer.Refuse Raised)
    × ((wrapping_called heap 4 (called (thing 9 ∷ thing 0 ∷ []) ([] ∷ codes "module" ∷ [])) modules).answer ≡ answer.Refuse Raised)
unfolding thing heap module_more modules wrap
refused = (refl, refl, refl, refl)

-- ---- the walk: m0.submodules.a = the thing that is wrapped twice, and top = m0 within wrapping 5

added : Answered
added = submodule_stored heap 0 (Some (codes "a")) (thing 3) second.held

topped : Answered
topped = wrap 5 (thing 0) added.held

ended : Answered
ended = body_ended None heap (thing 4 ∷ []) (codes "top" ∷ []) topped.held

-- wrappers stand before module 1, the outermost first, and only module 1 counts
tree_walked : (ended.answer ≡ answer.Give val.None)
    × (ended.held.store.hierarchy.nodes
    ≡ record { addition = 0; of = node.Wrapper 2; below = 1 } ∷ record { addition = 0; of = node.Wrapper 4; below = 1 } ∷ record { addition = 0; of = node.Module 1; below = 0 } ∷ [])
    × (ended.held.store.hierarchy.taken ≡ 1) × (ended.held.store.hierarchy.root_wraps ≡ 5 ∷ []) × (ended.held.store.top.root ≡ Some 0)
unfolding identifiers thing heap module_more modules wrap first second added topped ended walked digits
tree_walked = (refl, refl, refl, refl, refl)
