-- When a text stands for a module.
-- Source: Yosys manual, RTLIL text representation; the part of it that this tool writes: own rule (docs/RULES.md).
use Rattle.std.specs.Prelude.{◌≡◌, ℕ, List}
use Rattle.rtlil_text.specs.declared.module.RtlModule.{RtlModule}
use Rattle.rtlil_text.specs.Grammar.{IsText}
use Rattle.rtlil_text.specs.Rules.{IsModule}

-- it has the grammar, and the module keeps the rules
pub record Reads (text : List ℕ) (m : RtlModule) : Type 0 where
  pub grammar : IsText text m
  pub rules : IsModule m

-- there is no other module that the text stands for
abbrev pub TextsStandForOneModule : Type 0
TextsStandForOneModule = (text : List ℕ) (m other : RtlModule) → Reads text m → Reads text other → m ≡ other
