-- The definitions at words that are written out, worked out by hand.
use Rattle.std.proofs.Common.{◌≡◌, true, [], ◌∷◌, Some, None, refl, codes}
use Rattle.clap.specs.Words.{is_simple_and_free}
use Rattle.clap.proofs.OnLiterals.{clap_on_literals}
use Rattle.command_words.specs.Command.{command}
use Rattle.command_words.specs.Request.{Request, asked, request_of}

-- the definitions of `clap` say which words are of the command, and what is found in them
simple : is_simple_and_free command ≡ true
unfolding command clap_on_literals
simple = refl

-- what three words ask for
abbrev plain : Request
plain = record {
  design = codes "a";
  il = codes "b";
  trace = codes "c";
  play = None;
  top = None;
  budget = 10000000;
  make = None;
}

-- ---- words of the command

three_names : asked (codes "a" ∷ codes "b" ∷ codes "c" ∷ []) ≡ Some plain
unfolding asked request_of command clap_on_literals
three_names = refl

script : asked (codes "g.py" ∷ codes "g.il" ∷ codes "g.tr" ∷ codes "--play" ∷ codes "gate.stim" ∷ []) ≡ Some (record { design = codes "g.py"; il = codes "g.il"; trace = codes "g.tr"; play = Some (codes "gate.stim"); top = None; budget = 10000000; make = None })
unfolding asked request_of command clap_on_literals
script = refl

made_design : asked (codes "g.py" ∷ codes "g.il" ∷ codes "g.tr" ∷ codes "--make" ∷ codes "3" ∷ codes "--top" ∷ codes "dut" ∷ []) ≡ Some (record { design = codes "g.py"; il = codes "g.il"; trace = codes "g.tr"; play = None; top = Some (codes "dut"); budget = 10000000; make = Some 3 })
unfolding asked request_of command clap_on_literals
made_design = refl

ten_registers : asked (codes "g.py" ∷ codes "g.il" ∷ codes "g.tr" ∷ codes "--make" ∷ codes "10" ∷ []) ≡ Some (record { design = codes "g.py"; il = codes "g.il"; trace = codes "g.tr"; play = None; top = None; budget = 10000000; make = Some 10 })
unfolding asked request_of command clap_on_literals
ten_registers = refl

all_options : asked (codes "--make=2" ∷ codes "a" ∷ codes "--top=t" ∷ codes "b" ∷ codes "--budget" ∷ codes "7" ∷ codes "c" ∷ codes "--play=s" ∷ []) ≡ Some (record { design = codes "a"; il = codes "b"; trace = codes "c"; play = Some (codes "s"); top = Some (codes "t"); budget = 7; make = Some 2 })
unfolding asked request_of command clap_on_literals
all_options = refl

option_first : asked (codes "--play" ∷ codes "s" ∷ codes "a" ∷ codes "b" ∷ codes "c" ∷ []) ≡ Some (record plain { play = Some (codes "s") })
unfolding asked request_of command clap_on_literals
option_first = refl

joined_value : asked (codes "a" ∷ codes "b" ∷ codes "c" ∷ codes "--budget=5" ∷ []) ≡ Some (record plain { budget = 5 })
unfolding asked request_of command clap_on_literals
joined_value = refl

most_budget : asked (codes "a" ∷ codes "b" ∷ codes "c" ∷ codes "--budget" ∷ codes "1000000000" ∷ []) ≡ Some (record plain { budget = 1000000000 })
unfolding asked request_of command clap_on_literals
most_budget = refl

most_made : asked (codes "a" ∷ codes "b" ∷ codes "c" ∷ codes "--make" ∷ codes "1000" ∷ []) ≡ Some (record plain { make = Some 1000 })
unfolding asked request_of command clap_on_literals
most_made = refl

behind_dashes : asked (codes "--" ∷ codes "a" ∷ codes "b" ∷ codes "c" ∷ []) ≡ Some plain
unfolding asked request_of command clap_on_literals
behind_dashes = refl

dashed_name : asked (codes "a" ∷ codes "b" ∷ codes "--" ∷ codes "-c" ∷ []) ≡ Some (record plain { trace = codes "-c" })
unfolding asked request_of command clap_on_literals
dashed_name = refl

top_as_a_file : asked (codes "a" ∷ codes "b" ∷ codes "c" ∷ codes "--top" ∷ codes "a" ∷ []) ≡ Some (record plain { top = Some (codes "a") })
unfolding asked request_of command clap_on_literals
top_as_a_file = refl

-- ---- words that are not of it

no_words : asked [] ≡ None
unfolding asked request_of command clap_on_literals
no_words = refl

two_words : asked (codes "a" ∷ codes "b" ∷ []) ≡ None
unfolding asked request_of command clap_on_literals
two_words = refl

four_words : asked (codes "a" ∷ codes "b" ∷ codes "c" ∷ codes "d" ∷ []) ≡ None
unfolding asked request_of command clap_on_literals
four_words = refl

no_budget : asked (codes "a" ∷ codes "b" ∷ codes "c" ∷ codes "--budget" ∷ codes "0" ∷ []) ≡ None
unfolding asked request_of command clap_on_literals
no_budget = refl

budget_past_most : asked (codes "a" ∷ codes "b" ∷ codes "c" ∷ codes "--budget" ∷ codes "1000000001" ∷ []) ≡ None
unfolding asked request_of command clap_on_literals
budget_past_most = refl

no_number : asked (codes "a" ∷ codes "b" ∷ codes "c" ∷ codes "--budget" ∷ codes "x" ∷ []) ≡ None
unfolding asked request_of command clap_on_literals
no_number = refl

made_none : asked (codes "a" ∷ codes "b" ∷ codes "c" ∷ codes "--make" ∷ codes "0" ∷ []) ≡ None
unfolding asked request_of command clap_on_literals
made_none = refl

made_past_most : asked (codes "a" ∷ codes "b" ∷ codes "c" ∷ codes "--make" ∷ codes "1001" ∷ []) ≡ None
unfolding asked request_of command clap_on_literals
made_past_most = refl

below_zero : asked (codes "a" ∷ codes "b" ∷ codes "c" ∷ codes "--make" ∷ codes "-1" ∷ []) ≡ None
unfolding asked request_of command clap_on_literals
below_zero = refl

help : asked (codes "a" ∷ codes "b" ∷ codes "c" ∷ codes "--help" ∷ []) ≡ None
unfolding asked request_of command clap_on_literals
help = refl

version : asked (codes "a" ∷ codes "b" ∷ codes "c" ∷ codes "--version" ∷ []) ≡ None
unfolding asked request_of command clap_on_literals
version = refl

unknown : asked (codes "a" ∷ codes "b" ∷ codes "c" ∷ codes "--run" ∷ []) ≡ None
unfolding asked request_of command clap_on_literals
unknown = refl

short_option : asked (codes "a" ∷ codes "b" ∷ codes "c" ∷ codes "-p" ∷ codes "s" ∷ []) ≡ None
unfolding asked request_of command clap_on_literals
short_option = refl

no_value : asked (codes "a" ∷ codes "b" ∷ codes "c" ∷ codes "--play" ∷ []) ≡ None
unfolding asked request_of command clap_on_literals
no_value = refl

given_twice : asked (codes "a" ∷ codes "b" ∷ codes "c" ∷ codes "--top" ∷ codes "x" ∷ codes "--top" ∷ codes "y" ∷ []) ≡ None
unfolding asked request_of command clap_on_literals
given_twice = refl

option_behind_dashes : asked (codes "a" ∷ codes "b" ∷ codes "c" ∷ codes "--" ∷ codes "--top" ∷ codes "x" ∷ []) ≡ None
unfolding asked request_of command clap_on_literals
option_behind_dashes = refl

-- ---- equal names

trace_over_design : asked (codes "a" ∷ codes "b" ∷ codes "a" ∷ []) ≡ None
unfolding asked request_of command clap_on_literals
trace_over_design = refl

il_over_design : asked (codes "a" ∷ codes "a" ∷ codes "c" ∷ []) ≡ None
unfolding asked request_of command clap_on_literals
il_over_design = refl

trace_over_il : asked (codes "a" ∷ codes "b" ∷ codes "b" ∷ []) ≡ None
unfolding asked request_of command clap_on_literals
trace_over_il = refl

script_is_design : asked (codes "a" ∷ codes "b" ∷ codes "c" ∷ codes "--play" ∷ codes "a" ∷ []) ≡ None
unfolding asked request_of command clap_on_literals
script_is_design = refl

script_is_il : asked (codes "a" ∷ codes "b" ∷ codes "c" ∷ codes "--play" ∷ codes "b" ∷ []) ≡ None
unfolding asked request_of command clap_on_literals
script_is_il = refl

script_is_trace : asked (codes "a" ∷ codes "b" ∷ codes "c" ∷ codes "--play" ∷ codes "c" ∷ []) ≡ None
unfolding asked request_of command clap_on_literals
script_is_trace = refl
