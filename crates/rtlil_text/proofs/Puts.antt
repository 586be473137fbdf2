-- A loop that puts a text for each element of a list.
use Rattle.std.proofs.Common.{◌≡◌, ◌∙◌, ◌<◌, ◌≤◌, ◌+◌, ℕ, List, length, get_or, take, drop, ap, sym, subst}
use Rattle.std.specs.List.{flat_map}
use Rattle.amh_host.specs.Seen.{Seen, written}
use Rattle.amh_host.specs.Calls.{AddsFront}
use Rattle.amh_host.proofs.SeenLaws.{AddsFront-before, AddsFront-behind, written-written}
use Rattle.rtlil_text.proofs.Turns.{flat_map-take_more, flat_map-take_drop, flat_map-split, take-all}

module _ {A : Type 0} (f : A → List ℕ) (xs : List A) (i : ℕ) (name : List ℕ) (old now : Seen) (so_far : now ≡ written name (flat_map f (take i xs)) old) where
  -- a call that was refused
  pub puts_front : (x : A) (new : Seen) → i < length xs → x ≡ get_or xs i x → AddsFront (written name) (f x) now new → AddsFront (written name) (flat_map f xs) old new
  puts_front x new h e a =
      let k : AddsFront (written name) (f x) (written name (flat_map f (take i xs)) old) new = subst (λ (s : Seen). AddsFront (written name) (f x) s new) so_far a in
      subst (λ (b : List ℕ). AddsFront (written name) b old new) (flat_map-split f xs i x h e) (AddsFront-before (flat_map f (drop (i + 1) xs)) (AddsFront-behind name (flat_map f (take i xs)) old k))

  -- what stands where the loop is left between two elements
  pub puts_stop : AddsFront (written name) (flat_map f xs) old now
  puts_stop = record { front = flat_map f (take i xs); rest = flat_map f (drop i xs); whole = flat_map-take_drop f xs i; changed = so_far }

  pub puts_more : (x : A) (new : Seen) → i < length xs → x ≡ get_or xs i x → new ≡ written name (f x) now → new ≡ written name (flat_map f (take (i + 1) xs)) old
  puts_more x new h e p =
      p ∙ ap (written name (f x)) so_far ∙ written-written name (flat_map f (take i xs)) (f x) old ∙ ap (λ (b : List ℕ). written name b old) (sym (flat_map-take_more f xs i x h e))

  pub puts_all : length xs ≤ i → now ≡ written name (flat_map f xs) old
  puts_all h = so_far ∙ ap (λ ys. written name (flat_map f ys) old) (take-all xs i h)
