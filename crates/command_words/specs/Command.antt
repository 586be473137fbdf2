-- The command line as data of `clap`, whose definitions say which words are of a command and what is found in them.
-- Source: this project's own rule (docs/RULES.md); the kit's `clap` (specs/Walk, specs/Faults) for words with `=`, behind `--` and given twice.
use Rattle.std.specs.Prelude.{ℕ, true, List, [], ◌∷◌, Some, codes}
use Rattle.clap.specs.Words.{App, Rule, Text, new_rule}
use Rattle.clap.specs.Simple.{new_shape}
use Rattle.clap.specs.declared.builder.action.ArgAction.TheVariants.{Set}
use Rattle.clap.specs.declared.builder.value_parser.ValueParser.TheVariants.{Unsigned}

-- a word that has to be given, at the next place
abbrev pub place : Text → Rule
place id = record (new_rule id) { action = Some Set; required = true }

-- an option with one value, which is any text
abbrev pub named : Text → Rule
named id = record (new_rule id) { long = Some id; action = Some Set }

-- an option with one value, which is a number from 1 to `most`
abbrev pub numbered : Text → ℕ → Rule
numbered id most = record (named id) { parser = Some (Unsigned 1 most) }

-- `DESIGN IL TRACE [--play FILE] [--top NAME] [--budget N] [--make N]`
abbrev pub rules : List Rule
rules = place (codes "DESIGN") ∷ place (codes "IL") ∷ place (codes "TRACE") ∷ named (codes "play") ∷ named (codes "top")
    ∷ numbered (codes "budget") 1000000000 ∷ numbered (codes "make") 1000 ∷ []

-- the command, of words without the program's name, which has no flag for help
unfoldable pub command : App
command = record {
  top = record (new_shape (codes "amh_tool")) { rules = rules; no_binary_name = true; disable_help_flag = true };
  subs = [];
}
