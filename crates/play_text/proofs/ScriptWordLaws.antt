-- Laws of the words of a script.
use Rattle.std.proofs.Common.{◌≡◌, refl, ℕ, Bool, true, false, cond, List, [], ◌∷◌, ◌++◌, sym, ap, ◌∙◌}
use Rattle.std.specs.Prelude.{Option, Some, None}
use Rattle.std.specs.Option.{option_map}
use Rattle.std.specs.Prelude.{◌==◌}
use denote.Ref.{Bor}
use Rattle.play_text.specs.Script.{words_in, in_word}
use Rattle.play_text.specs.ScriptParts.{two_words, words_behind}

-- words whose first begins with these bytes
abbrev pub joined_word : List ℕ → List (List ℕ) → List (List ℕ)
joined_word [] ws = ws
joined_word (b ∷ bs) [] = (b ∷ bs) ∷ []
joined_word (b ∷ bs) (w ∷ ws) = ((b ∷ bs) ++ w) ∷ ws

-- a word and two more are no two words
two_words-more : (a b text : List ℕ) → two_words (a ∷ b ∷ words_in text) ≡ None
two_words-more a b [] = refl
two_words-more a b (c ∷ cs) = here (c == 32) (words_in cs)
  where
    here : (t : Bool) (ws : List (List ℕ)) → two_words (a ∷ b ∷ cond t ([] ∷ ws) (in_word c ws)) ≡ None
    here true ws = refl
    here false [] = refl
    here false (w ∷ ws) = refl

-- a text with a blank behind its second word has more than two words
pub two_words-past : (ws : List (List ℕ)) (a b : List ℕ) (r s : Option (Bor (List ℕ))) (rest more : Bor (List ℕ))
    → ws ≡ a ∷ words_behind (option_map (λ x. x.now) r) → r ≡ Some rest
    → words_in rest.now ≡ b ∷ words_behind (option_map (λ x. x.now) s) → s ≡ Some more → None ≡ two_words ws
two_words-past ws a b r s rest more first behind second past =
    let whole : ws ≡ a ∷ b ∷ words_in more.now = rw (first, behind, second, past) refl in
    sym (ap two_words whole ∙ two_words-more a b more.now)
