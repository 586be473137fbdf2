use Rattle.std.proofs.Common.{◌≡◌, ◌+◌, ◌++◌, ◌∷◌, [], take, get_or, sym, subst, arith}
use Rattle.std.proofs.lemmas.Grind.{common_steps}
use Rattle.std.specs.String.{string_bytes}
use Rattle.table_text.specs.Escapes.{Spells}
use Rattle.table_text.proofs.Spellings.{spells_then}
use Rattle.table_text.proofs.spelling.spelled.Goals as goal

pub loop-byte-init : goal.loop-byte-init
loop-byte-init c = subst (λ xs. Spells [] xs) (sym c.new-line.ensures.bytes) Spells.nothing

pub loop-byte-preserved : goal.loop-byte-preserved
loop-byte-preserved c =
    let i = c.loop-byte.byte-index
    in let bytes = c.args.bytes.now
    in let longer : Spells (take i bytes ++ get_or bytes i 0 ∷ []) (string_bytes c.loop-byte.line ++ string_bytes c.in_ok-piece.piece) =
    spells_then (take i bytes) (string_bytes c.loop-byte.line) (get_or bytes i 0) (string_bytes c.in_ok-piece.piece) c.loop-byte.invariant c.in_ok-piece.ensures
    in let taken : take (i + 1) bytes ≡ take i bytes ++ get_or bytes i 0 ∷ [] = grind (arith, common_steps)
    in let pushed : string_bytes c.push_str.new.self ≡ string_bytes c.loop-byte.line ++ string_bytes c.in_ok-piece.piece = grind (arith, c.in_ok-push_str.ensures.bytes, c.as_str.ensures.value)
    in subst (λ bs. Spells bs (string_bytes c.push_str.new.self)) (sym taken) (subst (λ line. Spells (take i bytes ++ get_or bytes i 0 ∷ []) line) (sym pushed) longer)
