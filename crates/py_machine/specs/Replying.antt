-- What answers make.
use Rattle.std.specs.Prelude.{ℕ, List, []}
use Rattle.amh_host.specs.declared.place.Place.{Place}
use Rattle.py_values.specs.declared.val.Val.{Val}
use Rattle.py_heap.specs.Places.{new_text, new_tuple}
use Rattle.py_frames.specs.declared.request.Act.{Act}
use Rattle.py_frames.specs.Doing.{Doing, Known, heap_seen, ◌>>=◌, give, making}
use Rattle.py_frames.specs.Asking.{asked, returned}

-- a new string
abbrev pub text_given : Known → List ℕ → Place → Doing
text_given k text place = making (λ s. new_text (heap_seen k s) text) place give

-- a new tuple
abbrev pub list_given : Known → List Val → Place → Doing
list_given k vals place = making (λ s. new_tuple (heap_seen k s) vals) place give

-- a function is called, and its end is asked
abbrev pub call_told : Known → ℕ → Act → Val → List Val → Place → Doing
call_told k rounds act callee args place = do
  v ← k.call callee args [] place
  λ w s. asked rounds k act (returned (heap_seen k s) place callee v) w s
