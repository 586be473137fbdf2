-- The columns of a trace as its rows show them.
-- Internal: no rule of the language.
use Rattle.std.specs.Prelude.{if◌then◌else◌, List, [], ◌++◌, codes, map, ℕ, ℤ}
use Rattle.std.specs.Fmt.{decimal}
use Rattle.std.specs.Ordering.{int_eq}
use Rattle.amh_bits.specs.Decimals.{int_text}
use Rattle.design_ir.specs.Circuits.{at}
use Rattle.play_text.specs.Trace.{◌▸◌, Row, event_text}
use Rattle.play_text.specs.declared.board.Shown.{Shown}
use Rattle.play_text.specs.declared.board.Board.{Board}
use Rattle.play_text.specs.declared.trace_columns.Lane.{Lane}

-- what stands before a number: ` NAME=`
abbrev pub label_of : List ℕ → List ℕ
label_of name = codes " " ▸ name ▸ codes "="

-- a column where the signals have these numbers
abbrev pub lane_at : List ℤ → Shown → Lane
lane_at env x = record { label = label_of x.name; sig = x.sig; last = at env x.sig.0 }

abbrev pub lanes_at : List Shown → List ℤ → List Lane
lanes_at xs env = map (lane_at env) xs

-- the column behind a row
abbrev pub moved : List ℤ → Lane → Lane
moved now x = record { label = x.label; sig = x.sig; last = at now x.sig.0 }

-- what a row shows of it: its number, where that is another one
abbrev pub lane_text : List ℤ → Lane → List ℕ
lane_text now x = if int_eq x.last (at now x.sig.0) then [] else x.label ++ int_text (at now x.sig.0)

-- the line of a row up to its columns
abbrev pub row_head : Board → Row → List ℤ → List ℕ
row_head b r before = decimal r.time ▸ codes " " ▸ event_text b before r.event ▸ codes " |"
