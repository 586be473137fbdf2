use Rattle.std.proofs.Common.{◌≡◌, map, take}
use Rattle.private_names.specs.Expressions.{mangled_piece}
use Rattle.private_names.proofs.class.Class.pieces.Given as goal

abbrev pub invariant-loop-piece : goal.invariant-loop-piece
invariant-loop-piece l = l.made ≡ map (mangled_piece l.self.name) (take l.piece-index l.piece-items)
