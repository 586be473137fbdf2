-- The names of kinds, parameters and ends are words, and a kind's name is that of no other kind.
use Rattle.std.proofs.Common.{◌≡◌, ◌∙◌, ◌&&◌, ℕ, Bool, true, false, if◌then◌else◌, List, [], ◌∷◌, map, refl, sym, ap}
use Rattle.std.specs.Prelude.{nat_le}
use Rattle.std.specs.List.{AllByRecursion}
use Rattle.std.proofs.lemmas.Bool.{leb-true, false≢true}
use Rattle.lists.specs.Texts.{text_eq}
use Rattle.shape_rules.specs.declared.cell.CellKind.{CellKind}
use Rattle.shape_rules.specs.declared.cell.CellKind.TheVariants.{Not, And, Or, Xor, ReduceOr, ReduceAnd, ReduceXor, Add, Sub, Mul, Eq, Lt, Le, Shl, Shr, Sshr, DivFloor, ModFloor, Mux, Dff, Adff, MemoryRead, MemoryWrite, MemoryInit, Many}
use Rattle.rtlil_text.specs.Lines.{kind_text}
use Rattle.rtlil_text.specs.CellTables.{Named, parameters_of, ends_of}
use Rattle.rtlil_text.proofs.Words.{IsWord}

-- ---- a test of words, which computes

abbrev is_word : List ℕ → Bool
is_word [] = true
is_word (x ∷ xs) = nat_le 33 x && is_word xs

abbrev are_words : List (List ℕ) → Bool
are_words [] = true
are_words (x ∷ xs) = is_word x && are_words xs

both : (a b : Bool) → (a && b) ≡ true → (a ≡ true) × (b ≡ true)
both true b e = (refl, e)
both false b e = absurd (false≢true e)

word : (xs : List ℕ) → is_word xs ≡ true → IsWord xs
word [] e = tt
word (x ∷ xs) e = let h = both (nat_le 33 x) (is_word xs) e in (leb-true 33 x h.0, word xs h.1)

words : (xs : List (List ℕ)) → are_words xs ≡ true → AllByRecursion IsWord xs
words [] e = tt
words (x ∷ xs) e = let h = both (is_word x) (are_words xs) e in (word x h.0, words xs h.1)

kind_word : (kind : CellKind) → is_word (kind_text kind) ≡ true
kind_word Not = refl
kind_word And = refl
kind_word Or = refl
kind_word Xor = refl
kind_word ReduceOr = refl
kind_word ReduceAnd = refl
kind_word ReduceXor = refl
kind_word Add = refl
kind_word Sub = refl
kind_word Mul = refl
kind_word Eq = refl
kind_word Lt = refl
kind_word Le = refl
kind_word Shl = refl
kind_word Shr = refl
kind_word Sshr = refl
kind_word DivFloor = refl
kind_word ModFloor = refl
kind_word Mux = refl
kind_word Dff = refl
kind_word Adff = refl
kind_word MemoryRead = refl
kind_word MemoryWrite = refl
kind_word MemoryInit = refl
kind_word Many = refl

pub IsWord-kind_text : (kind : CellKind) → IsWord (kind_text kind)
IsWord-kind_text kind = word (kind_text kind) (kind_word kind)

parameter_words : (kind : CellKind) → are_words (map (λ (n : Named). n.0) (parameters_of kind)) ≡ true
parameter_words Not = refl
parameter_words And = refl
parameter_words Or = refl
parameter_words Xor = refl
parameter_words ReduceOr = refl
parameter_words ReduceAnd = refl
parameter_words ReduceXor = refl
parameter_words Add = refl
parameter_words Sub = refl
parameter_words Mul = refl
parameter_words Eq = refl
parameter_words Lt = refl
parameter_words Le = refl
parameter_words Shl = refl
parameter_words Shr = refl
parameter_words Sshr = refl
parameter_words DivFloor = refl
parameter_words ModFloor = refl
parameter_words Mux = refl
parameter_words Dff = refl
parameter_words Adff = refl
parameter_words MemoryRead = refl
parameter_words MemoryWrite = refl
parameter_words MemoryInit = refl
parameter_words Many = refl

pub words-parameters_of : (kind : CellKind) → AllByRecursion IsWord (map (λ (n : Named). n.0) (parameters_of kind))
words-parameters_of kind = words (map (λ (n : Named). n.0) (parameters_of kind)) (parameter_words kind)

end_words : (kind : CellKind) → are_words (ends_of kind) ≡ true
end_words Not = refl
end_words And = refl
end_words Or = refl
end_words Xor = refl
end_words ReduceOr = refl
end_words ReduceAnd = refl
end_words ReduceXor = refl
end_words Add = refl
end_words Sub = refl
end_words Mul = refl
end_words Eq = refl
end_words Lt = refl
end_words Le = refl
end_words Shl = refl
end_words Shr = refl
end_words Sshr = refl
end_words DivFloor = refl
end_words ModFloor = refl
end_words Mux = refl
end_words Dff = refl
end_words Adff = refl
end_words MemoryRead = refl
end_words MemoryWrite = refl
end_words MemoryInit = refl
end_words Many = refl

pub words-ends_of : (kind : CellKind) → AllByRecursion IsWord (ends_of kind)
words-ends_of kind = words (ends_of kind) (end_words kind)

-- ---- the kind with a name

abbrev kind_among : List CellKind → List ℕ → CellKind
kind_among [] text = Many
kind_among (k ∷ ks) text = if text_eq (kind_text k) text then k else kind_among ks text

kinds : List CellKind
kinds = Not ∷ And ∷ Or ∷ Xor ∷ ReduceOr ∷ ReduceAnd ∷ ReduceXor ∷ Add ∷ Sub ∷ Mul ∷ Eq ∷ Lt ∷ Le ∷ Shl ∷ Shr ∷ Sshr ∷ DivFloor ∷ ModFloor ∷ Mux ∷ Dff ∷ Adff ∷ MemoryRead ∷ MemoryWrite ∷ MemoryInit ∷ []

kind_back : (kind : CellKind) → kind_among kinds (kind_text kind) ≡ kind
unfolding kinds
kind_back Not = refl
kind_back And = refl
kind_back Or = refl
kind_back Xor = refl
kind_back ReduceOr = refl
kind_back ReduceAnd = refl
kind_back ReduceXor = refl
kind_back Add = refl
kind_back Sub = refl
kind_back Mul = refl
kind_back Eq = refl
kind_back Lt = refl
kind_back Le = refl
kind_back Shl = refl
kind_back Shr = refl
kind_back Sshr = refl
kind_back DivFloor = refl
kind_back ModFloor = refl
kind_back Mux = refl
kind_back Dff = refl
kind_back Adff = refl
kind_back MemoryRead = refl
kind_back MemoryWrite = refl
kind_back MemoryInit = refl
kind_back Many = refl

pub kind_text-injective : (a b : CellKind) → kind_text a ≡ kind_text b → a ≡ b
kind_text-injective a b e = sym (kind_back a) ∙ ap (kind_among kinds) e ∙ kind_back b
