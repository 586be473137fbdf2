-- What a module keeps when its cells are cut.
-- Internal: no rule of the language.
use Rattle.std.specs.Prelude.{◌≡◌, ◌≢◌, ℕ, ◌≤◌, ◌<◌, List, All}
use Rattle.rtlil_text.specs.declared.module.RtlModule.{RtlModule}
use Rattle.rtlil_text.specs.Meaning.{Inputs}
use Rattle.rtlil_text.specs.History.{rtl_history}
use Rattle.cell_split.specs.Pieces.{numbered_id}

-- whatever inputs come, after each event every bit of every wire has one value in both modules, or has none in both
abbrev pub KeepsHistory : RtlModule → RtlModule → Type 0
KeepsHistory m other = (first : Inputs) (events : List Inputs) → rtl_history other first events ≡ rtl_history m first events

-- none of the ids has one of the numbers from n on and below the end
abbrev pub AreFree : (n end : ℕ) → List (List ℕ) → Type 0
AreFree n end ids = All (λ id. (k : ℕ) → n ≤ k → k < end → id ≢ numbered_id k) ids
