-- The widths that the code keeps by ids, as a function.
-- Internal: no rule of the language.
use Rattle.std.specs.Prelude.{ℕ, List, Option}
use Rattle.std.specs.BTreeMap.{get_by_text}
use Rattle.rtlil_text.specs.declared.widths.Widths.{Widths}

abbrev pub width_in : Widths → List ℕ → Option ℕ
width_in w = λ id. get_by_text w.by_id id
