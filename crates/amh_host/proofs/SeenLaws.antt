-- Laws of the changes of what a host tells.
use Rattle.std.proofs.Common.{◌≡◌, ◌≢◌, ℕ, true, false, cond, List, [], ◌++◌, refl, sym, ap, ◌∙◌, subst, append_assoc}
use Rattle.std.specs.Prelude.{Option, None, Some}
use Rattle.std.specs.Option.{option_map}
use Rattle.std.specs.Str.{bytes_eq}
use Rattle.std.proofs.lemmas.Slice.Eq.{bytes_eq-Decides}
use Rattle.std.proofs.lemmas.List.{append-nil}
use Rattle.amh_host.specs.Calls.{AddsFront}
use Rattle.amh_host.specs.Seen.{Files, Seen, file_of, holding, extended, with_file, written, with_said, with_warned}

-- a value chosen by a name's test is the other one, where they agree at that name
pub chosen_same : {X : Type 0} (name q : List ℕ) (x y : X) → (name ≡ q → x ≡ y) → cond (bytes_eq name q) x y ≡ y
chosen_same {X} name q x y h =
    elim (bytes_eq name q) as (λ b. bytes_eq name q ≡ b → cond b x y ≡ y) [
      | true ↦ λ e. h ((bytes_eq-Decides name q).0 e)
      | false ↦ λ e. refl
    ] refl

-- what is told of the name itself
pub chosen_here : {X : Type 0} (name : List ℕ) (x y : X) → cond (bytes_eq name name) x y ≡ x
chosen_here name x y = ap (λ b. cond b x y) ((bytes_eq-Decides name name).1 refl)

pub chosen_apart : {X : Type 0} (name q : List ℕ) (x y : X) → q ≢ name → cond (bytes_eq name q) x y ≡ y
chosen_apart name q x y apart = chosen_same name q x y (λ e. absurd (apart (sym e)))

map_nil : (o : Option (List ℕ)) → option_map (λ old. old ++ []) o ≡ o
map_nil None = refl
map_nil (Some x) = ap Some (append-nil x)

map_map : (a b : List ℕ) (o : Option (List ℕ)) → option_map (λ old. old ++ b) (option_map (λ old. old ++ a) o) ≡ option_map (λ old. old ++ (a ++ b)) o
map_map a b None = refl
map_map a b (Some x) = ap Some (append_assoc x a b)

pub extended-nil : (name : List ℕ) (f : Files) → extended name [] f ≡ f
extended-nil name f = λ i q. chosen_same name q (option_map (λ old. old ++ []) (f name)) (f q) (λ e. map_nil (f name) ∙ ap f e) i

pub extended-extended : (name a b : List ℕ) (f : Files) → extended name b (extended name a f) ≡ extended name (a ++ b) f
extended-extended name a b f = λ i q.
    (elim (bytes_eq name q) as (λ t. cond t (option_map (λ old. old ++ b) (extended name a f name)) (cond t (option_map (λ old. old ++ a) (f name)) (f q)) ≡ cond t (option_map (λ old. old ++ (a ++ b)) (f name)) (f q)) [
      | true ↦ ap (option_map (λ old. old ++ b)) (chosen_here name (option_map (λ old. old ++ a) (f name)) (f name)) ∙ map_map a b (f name)
      | false ↦ refl
    ]) i

maybe : {A : Type 0} (f : A → A) (o : Option A) → ((x : A) → f x ≡ x) → option_map f o ≡ o
maybe f None h = refl
maybe f (Some x) h = ap Some (h x)

twice : {A : Type 0} (f g k : A → A) (o : Option A) → ((x : A) → g (f x) ≡ k x) → option_map g (option_map f o) ≡ option_map k o
twice f g k None h = refl
twice f g k (Some x) h = ap Some (h x)

-- nothing written changes nothing
pub written-nil : (name : List ℕ) (s : Seen) → written name [] s ≡ s
written-nil name s = ap (λ (o : Option Files). record s { files = o }) (maybe (extended name []) s.files (extended-nil name))

pub with_said-nil : (s : Seen) → with_said [] s ≡ s
with_said-nil s = ap (λ (o : Option (List ℕ)). record s { said = o }) (map_nil s.said)

pub with_warned-nil : (s : Seen) → with_warned [] s ≡ s
with_warned-nil s = ap (λ (o : Option (List ℕ)). record s { warned = o }) (map_nil s.warned)

-- two pieces are one
pub written-written : (name a b : List ℕ) (s : Seen) → written name b (written name a s) ≡ written name (a ++ b) s
written-written name a b s = ap (λ (o : Option Files). record s { files = o }) (twice (extended name a) (extended name b) (extended name (a ++ b)) s.files (extended-extended name a b))

-- a host that told all its files before tells the same of all
pub put_nothing : (name piece : List ℕ) (f g : Files) (said warned : Option (List ℕ)) → g ≡ f →
    AddsFront (written name) piece (record { files = Some f; said = said; warned = warned }) (record { files = Some g; said = said; warned = warned })
put_nothing name piece f g said warned e =
    let s : Seen = record { files = Some f; said = said; warned = warned } in
    let p : ◌≡◌ {A = Seen} (record { files = Some g; said = said; warned = warned }) s = λ i. record { files = Some (e i); said = said; warned = warned } in
    record { front = []; rest = piece; whole = refl; changed = p ∙ sym (written-nil name s) }

extended-holding : (name a b : List ℕ) (f : Files) → extended name b (holding name a f) ≡ holding name (a ++ b) f
extended-holding name a b f = λ i q.
    (elim (bytes_eq name q) as (λ t. cond t (option_map (λ old. old ++ b) (holding name a f name)) (cond t (Some a) (f q)) ≡ cond t (Some (a ++ b)) (f q)) [
      | true ↦ ap (option_map (λ old. old ++ b)) (chosen_here name (Some a) (f name))
      | false ↦ refl
    ]) i

-- a piece behind what was started with
pub written-with_file : (name a b : List ℕ) (s : Seen) → written name b (with_file name a s) ≡ with_file name (a ++ b) s
written-with_file name a b s = ap (λ (o : Option Files). record s { files = o }) (twice (holding name a) (extended name b) (holding name (a ++ b)) s.files (extended-holding name a b))

-- what follows the piece is not there
pub AddsFront-before : {c : List ℕ → Seen → Seen} {a : List ℕ} {s t : Seen} (b : List ℕ) → AddsFront c a s t → AddsFront c (a ++ b) s t
AddsFront-before b h = record { front = h.front; rest = h.rest ++ b; whole = sym (append_assoc h.front h.rest b) ∙ ap (λ x. x ++ b) h.whole; changed = h.changed }

pub AddsFront-behind : (name a : List ℕ) {piece : List ℕ} (s : Seen) {t : Seen} → AddsFront (written name) piece (written name a s) t → AddsFront (written name) (a ++ piece) s t
AddsFront-behind name a s h = record { front = a ++ h.front; rest = h.rest; whole = append_assoc a h.front h.rest ∙ ap (λ x. a ++ x) h.whole; changed = h.changed ∙ written-written name a h.front s }

pub AddsFront-in_file : (name a : List ℕ) {piece : List ℕ} (s : Seen) {t : Seen} → AddsFront (written name) piece (with_file name a s) t → AddsFront (with_file name) (a ++ piece) s t
AddsFront-in_file name a s h = record { front = a ++ h.front; rest = h.rest; whole = append_assoc a h.front h.rest ∙ ap (λ x. a ++ x) h.whole; changed = h.changed ∙ written-with_file name a h.front s }

pub AddsFront-nothing : (c : List ℕ → Seen → Seen) (piece : List ℕ) (s t : Seen) → c [] s ≡ s → t ≡ s → AddsFront c piece s t
AddsFront-nothing c piece s t n e = record { front = []; rest = piece; whole = refl; changed = e ∙ sym n }

-- what is told of the files after a change

pub file_of-with_file_here : (name bytes : List ℕ) (s : Seen) (f : Files) → s.files ≡ Some f → file_of (with_file name bytes s) name ≡ Some (Some bytes)
file_of-with_file_here name bytes s f e = ap (λ o. option_map (λ g. g name) (option_map (holding name bytes) o)) e ∙ ap Some (chosen_here name (Some bytes) (f name))

over : (name bytes q : List ℕ) → q ≢ name → (o : Option Files) → option_map (λ g. g q) (option_map (holding name bytes) o) ≡ option_map (λ g. g q) o
over name bytes q apart None = refl
over name bytes q apart (Some f) = ap Some (chosen_apart name q (Some bytes) (f q) apart)

pub file_of-with_file_apart : (name bytes q : List ℕ) (s : Seen) → q ≢ name → file_of (with_file name bytes s) q ≡ file_of s q
file_of-with_file_apart name bytes q s apart = over name bytes q apart s.files

-- Into a file that was made anew: what was written so far, and what is still to come

pub record IsAt (name so_far : List ℕ) (old now : Seen) : Type 0 where
  pub seen : now ≡ with_file name so_far old

pub IsAt-put : (name so_far piece : List ℕ) (old now new : Seen) → IsAt name so_far old now → new ≡ written name piece now → IsAt name (so_far ++ piece) old new
IsAt-put name so_far piece old now new h e = record { seen = e ∙ ap (written name piece) h.seen ∙ written-with_file name so_far piece old }

-- a call that was refused, with a piece of the whole before it and one behind
pub IsAt-refused : (name so_far piece rest whole : List ℕ) (old now new : Seen) → IsAt name so_far old now → (so_far ++ piece) ++ rest ≡ whole → AddsFront (written name) piece now new → AddsFront (with_file name) whole old new
IsAt-refused name so_far piece rest whole old now new h e a =
    subst (λ (b : List ℕ). AddsFront (with_file name) b old new) e
    (AddsFront-before rest (AddsFront-in_file name so_far old (subst (λ (s : Seen). AddsFront (written name) piece s new) h.seen a)))
