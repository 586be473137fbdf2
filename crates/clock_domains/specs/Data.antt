-- How the data of read ports are marked one after another. (Internal: no rule of the language.)
use Rattle.std.specs.Prelude.{ℕ, ◌||◌, Bool, false, List, [], ◌∷◌, map}
use Rattle.design_ir.specs.declared.memory.MemRead.{MemRead}
use Rattle.design_ir.specs.Circuits.{is_among}
use Rattle.fragment_walks.specs.Marks.{is_marked}

abbrev pub words : List MemRead → List ℕ
words reads = map (λ (r : MemRead). r.word.0) reads

-- one of these numbers is marked, or stands twice among them
abbrev pub is_taken : List Bool → List ℕ → Bool
is_taken marks [] = false
is_taken marks (s ∷ more) = is_marked marks s || (is_among more s || is_taken marks more)
