-- Which functions run under `await` alone.
-- Source: Python reference 8.9.1, Coroutine function definition.
use Rattle.std.specs.Prelude.{Bool, false, Option, Some, None}
use Rattle.py_tree.specs.Steps.{Body, Fun}
use Rattle.py_values.specs.declared.val.Val.{Val}
use Rattle.py_values.specs.declared.val.Val.TheVariants as val
use Rattle.py_values.specs.declared.func.Func.{Func}
use Rattle.py_values.specs.declared.func.Code.{Code}
use Rattle.py_values.specs.declared.func.Code.TheVariants as code
use Rattle.py_heap.specs.Heaps.{Seen, func_at}
use Rattle.py_frames.specs.Doing.{Known}
use Rattle.py_frames.specs.Functions.{function_at}

abbrev pub is_async_body : Option Body → Bool
is_async_body None = false
is_async_body (Some (Fun p name is_async params result body)) = is_async

abbrev pub is_async_code : Known → Code → Bool
is_async_code k (code.Def p) = is_async_body (function_at p k.program)
is_async_code k (code.Builtin b) = false

abbrev pub is_async_func : Known → Option Func → Bool
is_async_func k None = false
is_async_func k (Some f) = is_async_code k f.code

abbrev pub is_async : Known → Seen → Val → Bool
is_async k s (val.Func f) = is_async_func k (func_at s f.0)
is_async k s _ = false
