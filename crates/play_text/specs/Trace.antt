-- The text of a trace.
-- Source: this project's own rule (docs/RULES.md).
use Rattle.std.specs.Prelude.{ℕ, suc, ◌==◌, if◌then◌else◌, List, [], ◌∷◌, ◌++◌, codes, ℤ, Option, Some, None, unwrap_or, slice_get}
use Rattle.std.specs.Option.{option_map}
use Rattle.std.specs.List.{flat_map, find}
use Rattle.std.specs.Ordering.{int_eq}
use Rattle.std.specs.Fmt.{decimal}
use Rattle.amh_host.specs.declared.place.Place.{Place}
use Rattle.amh_bits.specs.Decimals.{int_text}
use Rattle.shape_rules.specs.Forms.{Form}
use Rattle.shape_rules.specs.Operators.{is_zero}
use Rattle.design_ir.specs.declared.ids.DomainId.{DomainId}
use Rattle.design_ir.specs.declared.domain.Domain.{Domain}
use Rattle.design_ir.specs.declared.event.Event.{Event}
use Rattle.design_ir.specs.declared.event.Event.TheVariants.{Set, Edge}
use Rattle.design_ir.specs.Circuits.{at}
use Rattle.play_text.specs.declared.board.Shown.{Shown}
use Rattle.play_text.specs.declared.board.Board.{Board}

-- an event, and its time in femtoseconds or its number in a script
pub record Row : Type 0 where
  pub time : ℕ
  pub event : Event

-- how a run ends: all its events came to pass, or something stopped it, at a place of the design file
pub data End : Type 0 where
  Done : End
  Asserts : Place → End
  Raises : Place → End
  PassesWidth : Place → End
  PassesLimit : Place → End
  Spends : End

-- one text, then another; it groups to the right
infixr 6 ◌▸◌
abbrev pub ◌▸◌ : List ℕ → List ℕ → List ℕ
a ▸ b = a ++ b

abbrev pub line_feed : List ℕ
line_feed = 10 ∷ []

-- ---- the head

unfoldable pub head_line : List ℕ
head_line = codes "amh-trace 1" ▸ line_feed

-- `u8`, `s8`
unfoldable pub shape_text : Form → List ℕ
shape_text f = (if f.signed then codes "s" else codes "u") ▸ decimal f.width

-- `col NAME SHAPE`
unfoldable pub column_line : Shown → List ℕ
column_line x = codes "col " ▸ x.name ▸ codes " " ▸ shape_text x.shape ▸ line_feed

-- ---- values

-- ` NAME=VALUE`
unfoldable pub field : List ℕ → ℤ → List ℕ
field name value = codes " " ▸ name ▸ codes "=" ▸ int_text value

-- the field of each column
abbrev pub all_fields : List Shown → List ℤ → List ℕ
all_fields xs env = flat_map (λ (x : Shown). field x.name (at env x.sig.0)) xs

-- the field of a column whose number changed
abbrev pub changed_field : List ℤ → List ℤ → Shown → List ℕ
changed_field before now x = if int_eq (at before x.sig.0) (at now x.sig.0) then [] else field x.name (at now x.sig.0)

-- the fields of the columns whose numbers changed
abbrev pub changed_fields : List Shown → List ℤ → List ℤ → List ℕ
changed_fields xs before now = flat_map (changed_field before now) xs

-- ---- rows

-- the name of the column that shows the signal
abbrev pub name_of : List Shown → ℕ → List ℕ
name_of xs s = unwrap_or (option_map (λ (x : Shown). x.name) (find (λ (x : Shown). x.sig.0 == s) xs)) []

-- ` NAME+` for a clock that was 0 and rises, ` NAME-` for one that falls
abbrev pub edge_field : List ℤ → Option Domain → List ℕ
edge_field before None = []
edge_field before (Some d) = codes " " ▸ d.name ▸ (if is_zero (at before d.clk.0) then codes "+" else codes "-")

-- what happened, where the signals had these numbers before
unfoldable pub event_text : Board → List ℤ → Event → List ℕ
event_text b before (Set s n) = codes "set " ▸ name_of b.columns s.0 ▸ codes " " ▸ int_text n
event_text b before (Edge ds) = codes "edge" ▸ flat_map (λ (d : DomainId). edge_field before (slice_get b.domains d.0)) ds

unfoldable pub first_line : Board → List ℤ → List ℕ
first_line b first = codes "0 init |" ▸ all_fields b.columns first ▸ line_feed

unfoldable pub row_line : Board → Row → List ℤ → List ℤ → List ℕ
row_line b r before now =
    decimal r.time ▸ codes " " ▸ event_text b before r.event ▸ codes " |" ▸ changed_fields b.columns before now ▸ line_feed

-- the lines of the rows, where the environments after them are given
abbrev pub row_lines : Board → List Row → List ℤ → List (List ℤ) → List ℕ
row_lines b [] before envs = []
row_lines b (r ∷ rs) before [] = []
row_lines b (r ∷ rs) before (now ∷ envs) = row_line b r before now ++ row_lines b rs now envs

-- ---- the whole

unfoldable pub done_line : List ℕ
done_line = codes "end done" ▸ line_feed

-- `end raised 3:5`
unfoldable pub stop_line : List ℕ → Place → List ℕ
stop_line why p = codes "end " ▸ why ▸ codes " " ▸ decimal p.line ▸ codes ":" ▸ decimal p.col ▸ line_feed

unfoldable pub spent_line : List ℕ
spent_line = codes "end spent" ▸ line_feed

abbrev pub end_line : End → List ℕ
end_line Done = done_line
end_line (Asserts p) = stop_line (codes "assert") p
end_line (Raises p) = stop_line (codes "raised") p
end_line (PassesWidth p) = stop_line (codes "width") p
end_line (PassesLimit p) = stop_line (codes "limit") p
end_line Spends = spent_line

abbrev pub rows_text : Board → List Row → List (List ℤ) → List ℕ
rows_text b rows [] = []
rows_text b rows (first ∷ envs) = first_line b first ++ row_lines b rows first envs

-- the trace as far as these rows
unfoldable pub front_text : Board → List Row → List (List ℤ) → List ℕ
front_text b rows envs = head_line ++ (flat_map column_line b.columns ++ rows_text b rows envs)

-- the rows' events lead from the first environment to the others, one each
unfoldable pub trace_text : Board → List Row → List (List ℤ) → End → List ℕ
trace_text b rows envs end = head_line ++ (flat_map column_line b.columns ++ (rows_text b rows envs ++ end_line end))

-- a script's events have the times 1, 2 and on
abbrev pub timed : ℕ → List Event → List Row
timed time [] = []
timed time (e ∷ es) = record { time = time; event = e } ∷ timed (suc time) es

abbrev pub events_in : List Row → List Event
events_in [] = []
events_in (r ∷ rs) = r.event ∷ events_in rs
