-- What the requests that came so far have.
-- Internal: no rule of the language.
use Rattle.std.specs.Prelude.{ℕ, List, Option, None, Some, slice_get}
use Rattle.py_values.specs.declared.val.Val.{Val}
use Rattle.py_frames.specs.declared.request.Request.{Request}

-- a value of a request, where there is one
abbrev pub value_in : Option Request → ℕ → Option Val
value_in (Some request) k = slice_get request.vals k
value_in None k = None

-- value k of request r
abbrev pub value_at : List Request → ℕ → ℕ → Option Val
value_at requests r k = value_in (slice_get requests r) k
