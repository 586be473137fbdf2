-- Samples of signals, members and cases of enumerations and layouts, worked out:
--     class Op(Enum, shape=2):     thing 0
--         SUB = 2                  thing 1
--     class Cmd(Struct):           thing 2
--         op: Op
--         val: signed(4)
use Rattle.std.specs.Prelude.{◌≡◌, refl, ℕ, Bool, true, false, List, [], ◌∷◌, pos, Some, None, codes}
use Rattle.shape_rules.specs.Forms.{unsigned, signed_form}
use Rattle.design_ir.specs.declared.signal.Sig.{Sig}
use Rattle.design_ir.specs.Values.{form}
use Rattle.identifiers.proofs.Computing.{identifiers}
use Rattle.py_values.specs.declared.val.Val.{Val}
use Rattle.py_values.specs.declared.val.Val.TheVariants as val
use Rattle.py_heap.specs.Heaps.{Seen, seen, nothing}
use Rattle.py_frames.specs.declared.request.Answer.TheVariants as answer
use Rattle.py_frames.specs.declared.request.Cause.TheVariants.{Raised}
use Rattle.amh_things.specs.declared.thing.Thing.{Thing}
use Rattle.amh_things.specs.declared.thing.Thing.TheVariants as thing
use Rattle.amh_things.specs.declared.thing.Reading.{Reading}
use Rattle.amh_things.specs.declared.thing.Reading.TheVariants as reading
use Rattle.elab_store.specs.declared.kept.Kept.TheVariants as kept
use Rattle.elab_store.specs.declared.kept.BlockName.TheVariants as named
use Rattle.elab_store.specs.declared.kept.Begin.TheVariants as begin
use Rattle.elab_store.specs.declared.leaves.Leaf.{Leaf}
use Rattle.elab_store.specs.Calls.{Called, called}
use Rattle.elab_components.specs.Signals.{signal_called}
use Rattle.elab_components.specs.Likes.{like_called}
use Rattle.elab_components.specs.Members.{member_called}
use Rattle.elab_components.specs.Faces.{leaf_made}
use Rattle.elab_acts.specs.Blocks.{case_patterns, condition_called}
use Rattle.elab_store.specs.Stores.{Held, Answered, nothing_held}

unfoldable pub hw : ℕ → Val
hw n = val.Hw (record { 0 = n })

unfoldable pub heap : Seen
heap = seen nothing nothing

unfoldable pub op : Thing
op = thing.Enumeration (record { shape = unsigned 2; members = record { name = codes "SUB"; number = pos 2 } ∷ [] })

unfoldable pub sub : Thing
sub = thing.Member (record { of = record { 0 = 0 }; number = pos 2; shape = unsigned 2; is_integer = false })

unfoldable pub cmd : Thing
cmd = thing.Layout (record {
  layout = record { fields = record { name = codes "op"; low = 0; shape = unsigned 2 } ∷ record { name = codes "val"; low = 2; shape = signed_form 4 } ∷ []; width = 6 };
  readings = reading.Numbered (record { 0 = 0 }) ∷ reading.Plain ∷ [];
  is_array = false;
})

unfoldable pub held : Held
held = record nothing_held { store = record nothing_held.store { things = op ∷ sub ∷ cmd ∷ [] } }

-- a call that is assigned to a name: the callee is thing 9
unfoldable pub call : List ℕ → List Val → List (List ℕ) → Called
call target vals keywords = called (hw 9 ∷ vals) (target ∷ keywords)

signal : List ℕ → ℕ → ℕ → Sig
signal n width init = record { name = n; shape = unsigned width; init = pos init; reset_less = false }

-- ---- signals

-- `c = Signal(Cmd)` is a view of six bits
unfoldable pub with_c : Answered
with_c = signal_called heap (call (codes "c") (hw 2 ∷ []) []) held

c_given : (with_c.answer ≡ answer.Give (hw 3)) × (with_c.held.pool.signals ≡ signal (codes "c") 6 0 ∷ [])
    × (with_c.held.store.things ≡ op ∷ sub ∷ cmd ∷ thing.View (record { 0 = 2 }) (record { 0 = 0 }) ∷ [])
unfolding identifiers hw heap op sub cmd held call signal with_c
c_given = (refl, refl, refl)

-- `s = Signal(Op, init=Op.SUB)` is a value of the enumeration, and begins at the number of the member
unfoldable pub with_s : Answered
with_s = signal_called heap (call (codes "s") (hw 0 ∷ hw 1 ∷ []) (codes "init" ∷ [])) with_c.held

s_given : (with_s.answer ≡ answer.Give (hw 4)) × (with_s.held.pool.signals ≡ signal (codes "c") 6 0 ∷ signal (codes "s") 2 2 ∷ [])
    × (with_s.held.store.things ≡ op ∷ sub ∷ cmd ∷ thing.View (record { 0 = 2 }) (record { 0 = 0 }) ∷ thing.Numbered (record { 0 = 0 }) (record { 0 = 1 }) ∷ [])
unfolding identifiers hw heap op sub cmd held call signal with_c with_s
s_given = (refl, refl, refl)

-- a signal of another shape may begin at a member too, but at no enumeration, layout or signal
inits : ((signal_called heap (call (codes "n") (val.Int (pos 8) ∷ hw 1 ∷ []) (codes "init" ∷ [])) held).held.pool.signals ≡ signal (codes "n") 8 2 ∷ [])
    × ((signal_called heap (call (codes "n") (hw 0 ∷ hw 0 ∷ []) (codes "init" ∷ [])) held).answer ≡ answer.Refuse Raised)
    × ((signal_called heap (call (codes "n") (hw 0 ∷ hw 2 ∷ []) (codes "init" ∷ [])) held).answer ≡ answer.Refuse Raised)
    × ((signal_called heap (call (codes "n") (hw 0 ∷ hw 4 ∷ []) (codes "init" ∷ [])) with_s.held).answer ≡ answer.Refuse Raised)
unfolding identifiers hw heap op sub cmd held call signal with_c with_s
inits = (refl, refl, refl, refl)

-- a member and a view are no shapes
no_shapes : ((signal_called heap (call (codes "n") (hw 1 ∷ []) []) held).answer ≡ answer.Refuse Raised) × ((signal_called heap (call (codes "n") (hw 3 ∷ []) []) with_c.held).answer ≡ answer.Refuse Raised)
unfolding identifiers hw heap op sub cmd held call with_c
no_shapes = (refl, refl)

-- ---- `Signal.like`

like : List Val → List (List ℕ) → Answered
like vals keywords = like_called heap (call (codes "t") vals keywords) with_s.held

-- the last of the things
last_thing : List Thing → List Thing
last_thing [] = []
last_thing (t ∷ []) = t ∷ []
last_thing (t ∷ u ∷ ts) = last_thing (u ∷ ts)

-- of a view its layout, of a value of an enumeration and of a member this; and of a signal its init
like_given : (last_thing (like (hw 3 ∷ []) []).held.store.things ≡ thing.View (record { 0 = 2 }) (record { 0 = 2 }) ∷ [])
    × (last_thing (like (hw 4 ∷ []) []).held.store.things ≡ thing.Numbered (record { 0 = 0 }) (record { 0 = 2 }) ∷ [])
    × (last_thing (like (hw 1 ∷ []) []).held.store.things ≡ thing.Numbered (record { 0 = 0 }) (record { 0 = 2 }) ∷ [])
    × ((like (hw 4 ∷ []) []).held.pool.signals ≡ signal (codes "c") 6 0 ∷ signal (codes "s") 2 2 ∷ signal (codes "t") 2 2 ∷ [])
    × ((like (hw 3 ∷ hw 1 ∷ []) (codes "init" ∷ [])).held.pool.signals ≡ signal (codes "c") 6 0 ∷ signal (codes "s") 2 2 ∷ signal (codes "t") 6 2 ∷ [])
    × ((like (hw 1 ∷ []) []).held.pool.signals ≡ signal (codes "c") 6 0 ∷ signal (codes "s") 2 2 ∷ signal (codes "t") 2 0 ∷ [])
unfolding identifiers hw heap op sub cmd held call signal with_c with_s like last_thing form
like_given = (refl, refl, refl, refl, refl, refl)

-- an enumeration and a layout are no values
no_values : ((like (hw 0 ∷ []) []).answer ≡ answer.Refuse Raised) × ((like (hw 2 ∷ []) []).answer ≡ answer.Refuse Raised)
unfolding identifiers hw heap op sub cmd held call with_c with_s like
no_values = (refl, refl)

-- ---- members of interfaces

member : Bool → List Val → List (List ℕ) → Answered
member is_out vals keywords = member_called heap is_out (call [] vals keywords) held

-- `In(Cmd)` and `Out(Op, init=Op.SUB)`
members_given : ((member false (hw 2 ∷ []) []).held.store.kept ≡ kept.Port false (record { form = unsigned 6; reading = reading.Viewed (record { 0 = 2 }) }) (pos 0) ∷ [])
    × ((member true (hw 0 ∷ hw 1 ∷ []) (codes "init" ∷ [])).held.store.kept ≡ kept.Port true (record { form = unsigned 2; reading = reading.Numbered (record { 0 = 0 }) }) (pos 2) ∷ [])
    × ((member true (hw 0 ∷ hw 0 ∷ []) (codes "init" ∷ [])).answer ≡ answer.Refuse Raised)
unfolding hw heap op sub cmd held call member
members_given = (refl, refl, refl)

-- the signals that they make
leaf : List ℕ → ℕ → ℕ → Reading → Leaf
leaf n width init r = record { path = n; is_out = true; shape = record { form = unsigned width; reading = r }; init = pos init }

leaves_given : (last_thing (leaf_made (leaf (codes "c") 6 0 (reading.Viewed (record { 0 = 2 }))) held).1.store.things ≡ thing.View (record { 0 = 2 }) (record { 0 = 0 }) ∷ [])
    × (last_thing (leaf_made (leaf (codes "s") 2 2 (reading.Numbered (record { 0 = 0 }))) held).1.store.things ≡ thing.Numbered (record { 0 = 0 }) (record { 0 = 0 }) ∷ [])
    × ((leaf_made (leaf (codes "s") 2 2 (reading.Numbered (record { 0 = 0 }))) held).1.pool.signals ≡ signal (codes "s") 2 2 ∷ [])
unfolding hw op sub cmd held signal last_thing leaf
leaves_given = (refl, refl, refl)

-- ---- blocks

-- `m.Case(Op.SUB, 1)` for s, and for c, whose shape holds it too; an enumeration is no pattern
cases_given : (case_patterns heap with_s.held (record { 0 = 1 }) (hw 1 ∷ val.Int (pos 1) ∷ []) ≡ Some (record { mask = 3; bits = 2 } ∷ record { mask = 3; bits = 1 } ∷ []))
    × (case_patterns heap with_s.held (record { 0 = 0 }) (hw 1 ∷ []) ≡ Some (record { mask = 63; bits = 2 } ∷ []))
    × (case_patterns heap with_s.held (record { 0 = 1 }) (hw 0 ∷ []) ≡ None)
unfolding identifiers hw heap op sub cmd held call with_c with_s form
cases_given = (refl, refl, refl)

-- `m.If(c)` and `m.Switch(c)` take the value under the view, which is expression 0
blocks_given : ((condition_called 0 named.If (hw 3 ∷ []) [] with_s.held).held.store.kept ≡ kept.Block 0 (begin.If (record { 0 = 0 })) ∷ [])
    × ((condition_called 0 named.Switch (hw 3 ∷ []) [] with_s.held).held.store.kept ≡ kept.Block 0 (begin.Switch (record { 0 = 0 })) ∷ [])
unfolding identifiers hw heap op sub cmd held call with_c with_s
blocks_given = (refl, refl)
