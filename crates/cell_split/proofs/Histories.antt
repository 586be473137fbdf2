-- The history of a module of which cells are cut.
use Rattle.std.proofs.Common.{◌≡◌, ◌∙◌, ℕ, Bool, List, [], ◌∷◌, ap}
use Rattle.rtlil_text.specs.declared.module.RtlModule.{RtlModule}
use Rattle.rtlil_text.specs.Meaning.{Inputs, State}
use Rattle.rtlil_text.specs.History.{Wires, wire_bit, first_state, step, history_from}
use Rattle.cell_split.specs.Split.{split_of}
use Rattle.cell_split.specs.Laws.{SplitsKeepTheHistory}
use Rattle.cell_split.proofs.Steps.{wire_bit-split, first_state-split, step-split}

history_from-split : (n : ℕ) (marks : List Bool) (m : RtlModule) (st : State) (inputs : Inputs) (events : List Inputs)
    → history_from (split_of n marks m) st inputs events ≡ history_from m st inputs events
history_from-split n marks m st inputs [] = ap (λ (v : Wires). v ∷ []) (wire_bit-split n marks m st inputs)
history_from-split n marks m st inputs (new ∷ more) =
    ap (λ (v : Wires). v ∷ history_from (split_of n marks m) (step (split_of n marks m) inputs new st) new more) (wire_bit-split n marks m st inputs)
    ∙ ap (λ (s : State). wire_bit m st inputs ∷ history_from (split_of n marks m) s new more) (step-split n marks m inputs new st)
    ∙ ap (λ (vs : List Wires). wire_bit m st inputs ∷ vs) (history_from-split n marks m (step m inputs new st) new more)

pub splits_keep_history : SplitsKeepTheHistory
splits_keep_history n marks m first events =
    ap (λ (s : State). history_from (split_of n marks m) s first events) (first_state-split n marks m)
    ∙ history_from-split n marks m (first_state m) first events
