-- Wrappings, worked out where nothing was made before. The strings of the heap are `sync`, `pix`, `comb` and `2x`, and its dicts
-- `{"sync": "pix", "pix": "sync"}`, `{"pix": 1, "sync": 0}`, `{"comb": 1}`, `{"sync": 1, "pix": "sync"}`, `{}`, `{"pix": "comb"}` and `{1: "pix"}`.
use Rattle.std.specs.Prelude.{◌≡◌, refl, ℕ, pos, false, [], ◌∷◌, codes}
use Rattle.identifiers.proofs.Computing.{identifiers}
use Rattle.py_values.specs.declared.val.Val.{Val}
use Rattle.py_values.specs.declared.val.Val.TheVariants as val
use Rattle.py_heap.specs.Heaps.{Seen, seen, nothing}
use Rattle.py_frames.specs.declared.request.Answer.TheVariants as answer
use Rattle.py_frames.specs.declared.request.Cause.TheVariants.{Raised}
use Rattle.py_builtins.specs.Scalars.{first_from}
use Rattle.design_ir.specs.declared.expr.Expr.TheVariants.{Const}
use Rattle.elab_store.specs.declared.kept.Kept.TheVariants as kept
use Rattle.elab_store.specs.declared.wrappings.Wrapping.TheVariants as wrapping
use Rattle.elab_store.specs.Calls.{Called}
use Rattle.elab_store.specs.Stores.{Answered, nothing_held}
use Rattle.elab_wrappers.specs.declared.wrappers.Inserter.TheVariants.{Reset, Enable}
use Rattle.elab_wrappers.specs.Wrappers.{renamer_called, inserter_called}

text : ℕ → Val
text n = val.Str (record { 0 = n })

int : ℕ → Val
int n = val.Int (pos n)

dict : ℕ → Val
dict n = val.Dict (record { 0 = n })

heap : Seen
heap = seen nothing (record nothing {
  texts = codes "sync" ∷ codes "pix" ∷ codes "comb" ∷ codes "2x" ∷ [];
  rows = (text 0 ∷ text 1 ∷ text 1 ∷ text 0 ∷ []) ∷ (text 1 ∷ int 1 ∷ text 0 ∷ int 0 ∷ []) ∷ (text 2 ∷ int 1 ∷ []) ∷ (text 0 ∷ int 1 ∷ text 1 ∷ text 0 ∷ []) ∷ []
      ∷ (text 1 ∷ text 2 ∷ []) ∷ (int 1 ∷ text 1 ∷ []) ∷ [];
})

call : Val → Called
call v = record { callee = val.None; placed = v ∷ []; keywords = []; keyword_vals = []; name = [] }

-- ---- new names

to_pix : Answered
to_pix = renamer_called heap (call (text 1)) nothing_held

to_pix_is : (to_pix.answer ≡ answer.Give (val.Hw (record { 0 = 0 }))) × (to_pix.held.store.kept ≡ kept.Wrapping 0 ∷ [])
    × (to_pix.held.store.wrappings ≡ wrapping.Rename (record { before = codes "sync"; after = codes "pix" } ∷ []) ∷ [])
unfolding identifiers text int dict heap call to_pix
to_pix_is = (refl, refl, refl)

-- the second wrapping, by the names of a dict in its order
turned : Answered
turned = renamer_called heap (call (dict 0)) to_pix.held

turned_is : (turned.answer ≡ answer.Give (val.Hw (record { 0 = 1 }))) × (turned.held.store.kept ≡ kept.Wrapping 0 ∷ kept.Wrapping 1 ∷ [])
    × (turned.held.store.wrappings ≡ wrapping.Rename (record { before = codes "sync"; after = codes "pix" } ∷ [])
    ∷ wrapping.Rename (record { before = codes "sync"; after = codes "pix" } ∷ record { before = codes "pix"; after = codes "sync" } ∷ []) ∷ [])
unfolding identifiers text int dict heap call to_pix turned
turned_is = (refl, refl, refl)

-- an empty dict renames nothing; `comb` is no name here, nor is what is no identifier or no string
names_refused : ((renamer_called heap (call (dict 4)) nothing_held).held.store.wrappings ≡ wrapping.Rename [] ∷ [])
    × ((renamer_called heap (call (text 2)) nothing_held).answer ≡ answer.Refuse Raised)
    × ((renamer_called heap (call (text 3)) nothing_held).answer ≡ answer.Refuse Raised)
    × ((renamer_called heap (call (dict 5)) nothing_held).answer ≡ answer.Refuse Raised)
    × ((renamer_called heap (call (dict 6)) nothing_held).answer ≡ answer.Refuse Raised)
    × ((renamer_called heap (call (int 1)) nothing_held).answer ≡ answer.Refuse Raised)
unfolding identifiers text int dict heap call
names_refused = (refl, refl, refl, refl, refl, refl)

-- one argument, by its place
calls_refused : ((renamer_called heap (record { callee = val.None; placed = []; keywords = []; keyword_vals = []; name = [] }) nothing_held).answer ≡ answer.Refuse Raised)
    × ((renamer_called heap (record { callee = val.None; placed = text 1 ∷ text 1 ∷ []; keywords = []; keyword_vals = []; name = [] }) nothing_held).answer ≡ answer.Refuse Raised)
    × ((inserter_called heap Reset (record { callee = val.None; placed = []; keywords = codes "controls" ∷ []; keyword_vals = int 1 ∷ []; name = [] }) nothing_held).answer ≡ answer.Refuse Raised)
unfolding identifiers text int dict heap call
calls_refused = (refl, refl, refl)

-- ---- controls

-- `EnableInserter(1)`: the pool gets a constant
always : Answered
always = inserter_called heap Enable (call (int 1)) nothing_held

always_is : (always.answer ≡ answer.Give (val.Hw (record { 0 = 0 }))) × (always.held.pool.exprs ≡ Const (pos 1) (record { width = 1; signed = false }) ∷ [])
    × (always.held.store.wrappings ≡ wrapping.Enable (record { domain = codes "sync"; condition = record { 0 = 0 } } ∷ []) ∷ [])
unfolding identifiers first_from text int dict heap call always
always_is = (refl, refl, refl)

-- each value of a dict gets its own
both : Answered
both = inserter_called heap Reset (call (dict 1)) nothing_held

both_is : (both.held.pool.exprs ≡ Const (pos 1) (record { width = 1; signed = false }) ∷ Const (pos 0) (record { width = 1; signed = false }) ∷ [])
    × (both.held.store.wrappings ≡ wrapping.Reset (record { domain = codes "pix"; condition = record { 0 = 0 } } ∷ record { domain = codes "sync"; condition = record { 0 = 1 } } ∷ []) ∷ [])
unfolding identifiers first_from text int dict heap call both
both_is = (refl, refl)

-- thing 0 of what stands before is a wrapping, which is no value; a refusal leaves the pool as it was
controls_refused : ((inserter_called heap Enable (call (dict 2)) nothing_held).answer ≡ answer.Refuse Raised)
    × (inserter_called heap Enable (call (dict 3)) nothing_held ≡ record { answer = answer.Refuse Raised; held = nothing_held })
    × ((inserter_called heap Reset (call (text 1)) nothing_held).answer ≡ answer.Refuse Raised)
    × (inserter_called heap Reset (call (val.Hw (record { 0 = 0 }))) always.held ≡ record { answer = answer.Refuse Raised; held = always.held })
    × ((inserter_called heap Reset (call (dict 4)) nothing_held).held.store.wrappings ≡ wrapping.Reset [] ∷ [])
unfolding identifiers text int dict heap call always
controls_refused = (refl, refl, refl, refl, refl)
