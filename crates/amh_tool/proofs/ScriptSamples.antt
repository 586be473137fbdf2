-- The definition of a script at literal texts.
use Rattle.std.specs.Prelude.{◌≡◌, refl, ℕ, true, false, pos, negsuc, List, [], ◌∷◌, None, Result, Ok, Err, codes}
use Rattle.shape_rules.specs.Forms.{unsigned, signed_form}
use Rattle.design_ir.specs.declared.event.Event.{Event}
use Rattle.design_ir.specs.declared.event.Event.TheVariants.{Set, Edge}
use Rattle.play_text.specs.declared.board.Board.{Board}
use Rattle.play_text.specs.Script.{script_events}

-- the gate: inputs `a` and `b`, output `y`, each of one bit
gate : Board
gate = record {
  columns = record { name = codes "a"; sig = record { 0 = 0 }; shape = unsigned 1; is_settable = true }
      ∷ record { name = codes "b"; sig = record { 0 = 1 }; shape = unsigned 1; is_settable = true }
      ∷ record { name = codes "y"; sig = record { 0 = 2 }; shape = unsigned 1; is_settable = false } ∷ [];
  domains = [];
}

-- a clock `clk`, an input `a` of four bits with a sign, and the domains `sync` and `slow`
clocked : Board
clocked = record {
  columns = record { name = codes "clk"; sig = record { 0 = 0 }; shape = unsigned 1; is_settable = false }
      ∷ record { name = codes "a"; sig = record { 0 = 2 }; shape = signed_form 4; is_settable = true } ∷ [];
  domains = record { name = codes "sync"; clk = record { 0 = 0 }; rst = None; falling = false; async_reset = false }
      ∷ record { name = codes "slow"; clk = record { 0 = 1 }; rst = None; falling = false; async_reset = false } ∷ [];
}

says_of : List ℕ → Result (List Event) ℕ
says_of text = script_events gate text

clocked_says : List ℕ → Result (List Event) ℕ
clocked_says text = script_events clocked text

-- each line an event, and the last may be without its line feed
sets : says_of (codes "set a 1\nset b 1\nset a 0") ≡ Ok (Set (record { 0 = 0 }) (pos 1) ∷ Set (record { 0 = 1 }) (pos 1) ∷ Set (record { 0 = 0 }) (pos 0) ∷ [])
unfolding says_of gate script_events
sets = refl

-- a name that no column has is refused, and so is one of an output
no_name : says_of (codes "set a 1\nset q 1\n") ≡ Err 2
unfolding says_of gate script_events
no_name = refl

output : says_of (codes "set y 1\n") ≡ Err 1
unfolding says_of gate script_events
output = refl

clock : clocked_says (codes "set clk 1\n") ≡ Err 1
unfolding clocked_says clocked script_events
clock = refl

-- a number that the shape does not have is refused
no_room : says_of (codes "set a 2\n") ≡ Err 1
unfolding says_of gate script_events
no_room = refl

least : clocked_says (codes "set a -8\nset a 7\nset a 8\n") ≡ Err 3
unfolding clocked_says clocked script_events
least = refl

ends : clocked_says (codes "set a -8\nset a 7\n") ≡ Ok (Set (record { 0 = 2 }) (negsuc 7) ∷ Set (record { 0 = 2 }) (pos 7) ∷ [])
unfolding clocked_says clocked script_events
ends = refl

-- a number has one numeral
zeros : says_of (codes "set a 01\n") ≡ Err 1
unfolding says_of gate script_events
zeros = refl

minus_zero : clocked_says (codes "set a -0\n") ≡ Err 1
unfolding clocked_says clocked script_events
minus_zero = refl

plus : clocked_says (codes "set a +1\n") ≡ Err 1
unfolding clocked_says clocked script_events
plus = refl

-- between words stands one blank, and none behind them
two_blanks : says_of (codes "set  a 1\n") ≡ Err 1
unfolding says_of gate script_events
two_blanks = refl

blank_behind : says_of (codes "set a 1 \n") ≡ Err 1
unfolding says_of gate script_events
blank_behind = refl

carriage_return : says_of (codes "set a 1\r\n") ≡ Err 1
unfolding says_of gate script_events
carriage_return = refl

-- comments and empty lines are passed over, and counted
passed : says_of (codes "# on\n\nset a 1\n\nset a 2\n") ≡ Err 5
unfolding says_of gate script_events
passed = refl

nothing : says_of [] ≡ Ok []
unfolding says_of gate script_events
nothing = refl

-- domains come in domain order, whatever order they are named in
edges : clocked_says (codes "edge sync\nedge slow sync\n") ≡ Ok (Edge (record { 0 = 0 } ∷ []) ∷ Edge (record { 0 = 0 } ∷ record { 0 = 1 } ∷ []) ∷ [])
unfolding clocked_says clocked script_events
edges = refl

-- a domain stands once, and there is one at least
edge_twice : clocked_says (codes "edge sync sync\n") ≡ Err 1
unfolding clocked_says clocked script_events
edge_twice = refl

edge_alone : clocked_says (codes "edge\n") ≡ Err 1
unfolding clocked_says clocked script_events
edge_alone = refl

edge_unknown : clocked_says (codes "edge sync fast\n") ≡ Err 1
unfolding clocked_says clocked script_events
edge_unknown = refl

-- a line of another kind is refused
other : says_of (codes "get a\n") ≡ Err 1
unfolding says_of gate script_events
other = refl
