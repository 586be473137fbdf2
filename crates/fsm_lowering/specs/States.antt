-- The states of a machine, in the order of their first mentions. (Amaranth guide, Finite state machines: each state has a
-- name of its own.)
use Rattle.std.specs.Prelude.{ℕ, zero, suc, ◌+◌, ◌^◌, nat_le, Bool, true, false, ◌&&◌, if◌then◌else◌, List, [], ◌∷◌, ◌++◌, Option, Some, None, unwrap_or}
use Rattle.std.specs.List.{list_any}
use Rattle.lists.specs.Texts.{text_eq}
use Rattle.amh_host.specs.declared.place.Place.{Place}
use Rattle.design_ir.specs.declared.ids.ExprId.{ExprId}
use Rattle.fsm_lowering.specs.declared.states.State.{State}
use Rattle.fsm_lowering.specs.declared.states.Stage.{Stage}
use Rattle.fsm_lowering.specs.declared.states.Stage.TheVariants.{Between, Within, Finished}

-- ---- where a machine stands

abbrev pub is_between : Stage → Bool
is_between Between = true
is_between Within = false
is_between Finished = false

abbrev pub is_within : Stage → Bool
is_within Between = false
is_within Within = true
is_within Finished = false

abbrev pub is_finished : Stage → Bool
is_finished Between = false
is_finished Within = false
is_finished Finished = true

-- ---- finding a state

abbrev pub is_named : List ℕ → State → Bool
is_named name s = text_eq s.name name

abbrev pub is_known : List State → List ℕ → Bool
is_known states name = list_any (is_named name) states

abbrev pub is_entered : List State → List ℕ → Bool
is_entered states name = list_any (λ (s : State). is_named name s && s.entered) states

-- State k has the number k, and one that was not mentioned yet has the next number.
abbrev pub number_of : List State → List ℕ → ℕ
number_of [] name = 0
number_of (s ∷ states) name = if is_named name s then 0 else suc (number_of states name)

-- the condition of a state that was entered
abbrev pub condition_in : List State → List ℕ → Option ExprId
condition_in [] name = None
condition_in (s ∷ states) name = if is_named name s && s.entered then s.condition else condition_in states name

-- the first mention of the first state that was never entered
abbrev pub first_unentered : List State → Option Place
first_unentered [] = None
first_unentered (s ∷ states) = if s.entered then first_unentered states else Some s.mention

-- ---- what a mention and an entry leave

abbrev pub unentered : List ℕ → Place → State
unentered name place = record { name = name; mention = place; entered = false; condition = None }

abbrev pub mentioned : List State → List ℕ → Place → List State
mentioned states name place = if is_known states name then states else states ++ unentered name place ∷ []

-- the first condition stays
abbrev pub held_as : List ℕ → ExprId → State → State
held_as name e s = if is_named name s then record s { condition = Some (unwrap_or s.condition e) } else s

abbrev pub entered_as : List ℕ → ExprId → State → State
entered_as name e s = if is_named name s then record s { entered = true; condition = Some (unwrap_or s.condition e) } else s

-- ---- the numbers of states

-- the least width from w on that has so many numbers, and the last of so many widths where no one before has
unfoldable pub least_width : (widths w count : ℕ) → ℕ
least_width zero w count = w
least_width (suc widths) w count = if nat_le count (2 ^ w) then w else least_width widths (w + 1) count

-- The width of the range of so many states, of which there are 256 at most.
abbrev pub range_width : ℕ → ℕ
range_width count = least_width 8 0 count
