-- Laws of the words behind `set`.
use Rattle.std.proofs.Common.{◌≡◌, refl, ℕ, Bool, true, false, cond, List, [], ◌∷◌, sym, ap, ◌∙◌}
use Rattle.std.specs.Prelude.{Option, Some, None, option_and_then}
use Rattle.std.specs.Option.{option_map}
use Rattle.std.specs.Prelude.{ℤ}
use Rattle.design_ir.specs.declared.event.Event.{Event}
use Rattle.design_ir.specs.declared.event.Event.TheVariants.{Set}
use Rattle.play_text.specs.declared.board.Shown.{Shown}
use Rattle.play_text.specs.declared.board.Board.{Board}
use Rattle.play_text.specs.Script.{integer_of, holds, settable, set_to, set_event}
use Rattle.play_text.specs.ScriptParts.{two_words, in_shape}

set_to-in_shape : (x : Shown) (o : Option ℤ) → option_map (λ z. Set x.sig z) (option_and_then (in_shape x.shape) o) ≡ option_and_then (set_to x) o
set_to-in_shape x None = refl
set_to-in_shape x (Some z) = here (holds x.shape z)
  where
    here : (t : Bool) → option_map {U = Event} (λ n. Set x.sig n) (cond t (Some z) None) ≡ cond t (Some (Set x.sig z)) None
    here true = refl
    here false = refl

set_event-two : (b : Board) (ws : List (List ℕ)) (name text : List ℕ) → two_words ws ≡ Some (name, text)
    → set_event b ws ≡ option_and_then (λ x. option_and_then (set_to x) (integer_of text)) (settable b name)
set_event-two b [] name text h = absurd (cc)
set_event-two b (a ∷ []) name text h = absurd (cc)
set_event-two b (n ∷ v ∷ []) name text h =
    let same : (n, v) ≡ (name, text) = cc in
    ap (λ (p : List ℕ × List ℕ). option_and_then (λ x. option_and_then (set_to x) (integer_of p.1)) (settable b p.0)) same
set_event-two b (n ∷ v ∷ more ∷ ws) name text h = absurd (cc)

-- a number of the column's shape is what the column takes
pub set_event-value : (b : Board) (ws : List (List ℕ)) (name text : List ℕ) (x : Shown) (r : Option ℤ) → two_words ws ≡ Some (name, text) → settable b name ≡ Some x
    → r ≡ option_and_then (in_shape x.shape) (integer_of text) → option_map (λ z. Set x.sig z) r ≡ set_event b ws
set_event-value b ws name text x r words column value =
    ap (λ o. option_map (λ z. Set x.sig z) o) value
    ∙ set_to-in_shape x (integer_of text)
    ∙ ap (λ (o : Option Shown). option_and_then (λ y. option_and_then (set_to y) (integer_of text)) o) (sym column)
    ∙ sym (set_event-two b ws name text words)
