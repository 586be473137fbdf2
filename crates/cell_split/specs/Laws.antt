-- What is proved of cut cells, whichever cells are marked.
-- Internal: no rule of the language.
use Rattle.std.specs.Prelude.{◌≡◌, ℕ, ◌≤◌, ◌+◌, ◌^◌, Bool, List, length}
use Rattle.rtlil_text.specs.declared.module.RtlModule.{RtlModule}
use Rattle.rtlil_text.specs.Rules.{IsModule, module_ids}
use Rattle.rtlil_text.specs.Inits.{register_bits}
use Rattle.cell_split.specs.Split.{split_cells, split_of}
use Rattle.cell_split.specs.Kept.{KeepsHistory, AreFree}

-- where no id of the module has one of the new numbers, it keeps the rules
abbrev pub SplitsKeepTheRules : Type 0
SplitsKeepTheRules =
    (n : ℕ) (marks : List Bool) (m : RtlModule) → IsModule m → AreFree n (n + length (split_cells n marks m.cells)) (module_ids m) → n + length (split_cells n marks m.cells) ≤ 10 ^ 64 → IsModule (split_of n marks m)

-- the module keeps its history, whatever it is
abbrev pub SplitsKeepTheHistory : Type 0
SplitsKeepTheHistory = (n : ℕ) (marks : List Bool) (m : RtlModule) → KeepsHistory m (split_of n marks m)

-- registers drive the bits that they drove, in the same order
abbrev pub SplitsKeepTheRegisters : Type 0
SplitsKeepTheRegisters = (n : ℕ) (marks : List Bool) (m : RtlModule) → register_bits (split_of n marks m) ≡ register_bits m
