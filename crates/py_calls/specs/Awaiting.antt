-- Which functions run under `await` alone.
-- Internal: no rule of the language.
use Rattle.std.specs.Prelude.{Bool, false, Option, Some, None}
use Rattle.py_tree.specs.Steps.{Steps}
use Rattle.py_values.specs.declared.val.Val.{Val}
use Rattle.py_values.specs.declared.val.Val.TheVariants as val
use Rattle.py_values.specs.declared.func.Func.{Func}
use Rattle.py_values.specs.declared.func.Code.{Code}
use Rattle.py_values.specs.declared.func.Code.TheVariants as code
use Rattle.py_heap.specs.Heaps.{Seen, func_at}
use Rattle.py_frames.specs.Functions.{function_at}
use Rattle.py_frames.specs.Async.{is_async_body}

-- by the program alone
abbrev pub is_async_by : Steps → Code → Bool
is_async_by program (code.Def p) = is_async_body (function_at p program)
is_async_by program (code.Builtin b) = false

abbrev pub is_async_of : Steps → Option Func → Bool
is_async_of program None = false
is_async_of program (Some f) = is_async_by program f.code

abbrev pub is_async_in : Steps → Seen → Val → Bool
is_async_in program s (val.Func f) = is_async_of program (func_at s f.0)
is_async_in program s v = false
