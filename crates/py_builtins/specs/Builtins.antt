-- What each builtin, method, index and slice gives.
-- Source: Python library reference, Built-in Functions and Built-in Types; amaranth.utils.
use Rattle.std.specs.Prelude.{List, Result, Ok, Err}
use Rattle.py_values.specs.declared.val.Val.{Val}
use Rattle.py_values.specs.declared.val.ValueStop.{ValueStop}
use Rattle.py_values.specs.declared.val.ValueStop.TheVariants.{Raised}
use Rattle.py_heap.specs.declared.fresh.Fresh.{Fresh}
use Rattle.py_values.specs.declared.op.Builtin.{Builtin}
use Rattle.py_values.specs.declared.op.Builtin.TheVariants as of
use Rattle.py_heap.specs.Heaps.{Made, Seen, seen}
use Rattle.py_heap.specs.Places.{placed}
use Rattle.py_builtins.specs.Sequences.{range_of, len_of, list_of, tuple_of, reversed_of, enumerate_of, zip_of}
use Rattle.py_builtins.specs.Indices.{index_of, slice_of, index_set}
use Rattle.py_builtins.specs.Lists.{append_to, extend_to, repeat_to, insert_to, pop_from}
use Rattle.py_builtins.specs.Scalars.{int_of, str_of, bool_of, least_of, greatest_of, sum_of, magnitude_of, nothing_printed, ceil_log2, bits_for}
use Rattle.py_heap.specs.Dicts.{dict_of, items_of, keys_of, values_of, get_of}

-- what is new stands in the heap behind all that was made
abbrev pub settled : Seen → Result Fresh ValueStop → Result (Val × Made) ValueStop
settled s (Ok x) = placed s x
settled s (Err stop) = Err stop

-- those that change nothing that stands: a value, or what a new one has in it
abbrev pub fresh_of : Seen → Builtin → List Val → Result Fresh ValueStop
fresh_of s of.Len args = len_of s args
fresh_of s of.List args = list_of s args
fresh_of s of.Tuple args = tuple_of s args
fresh_of s of.Reversed args = reversed_of s args
fresh_of s of.Index args = index_of s args
fresh_of s of.Slice args = slice_of s args
fresh_of s _ args = Err Raised

-- `super` and what it gives are the machine's
abbrev pub built : Seen → Builtin → List Val → Result (Val × Made) ValueStop
built s of.Range args = range_of s args
built s of.Len args = settled s (fresh_of s of.Len args)
built s of.Int args = int_of s args
built s of.Str args = str_of s args
built s of.Bool args = bool_of s args
built s of.List args = settled s (fresh_of s of.List args)
built s of.Tuple args = settled s (fresh_of s of.Tuple args)
built s of.Dict args = dict_of s args
built s of.Enumerate args = enumerate_of s args
built s of.Zip args = zip_of s args
built s of.Reversed args = settled s (fresh_of s of.Reversed args)
built s of.Min args = least_of s args
built s of.Max args = greatest_of s args
built s of.Sum args = sum_of s args
built s of.Abs args = magnitude_of s args
built s of.Print args = nothing_printed s args
built s of.Super args = Err Raised
built s of.InitThing args = Err Raised
built s of.InitNothing args = Err Raised
built s of.CeilLog2 args = ceil_log2 s args
built s of.BitsFor args = bits_for s args
built s of.Append args = append_to s args
built s of.Extend args = extend_to s args
built s of.Repeat args = repeat_to s args
built s of.Insert args = insert_to s args
built s of.Pop args = pop_from s args
built s of.Items args = items_of s args
built s of.Keys args = keys_of s args
built s of.Values args = values_of s args
built s of.Get args = get_of s args
built s of.Index args = settled s (fresh_of s of.Index args)
built s of.Slice args = settled s (fresh_of s of.Slice args)
built s of.SetIndex args = index_set s args

-- the value, and the heap after it
abbrev pub builtin : Made → Made → Builtin → List Val → Result (Val × Made) ValueStop
builtin frozen own which args = built (seen frozen own) which args
