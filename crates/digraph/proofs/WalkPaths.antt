-- The nodes that wait for the one that is walked.
use Rattle.std.proofs.Common.{◌≡◌, ◌⊎◌, inl, inr, ℕ, zero, suc, List, [], ◌∷◌, ◌++◌, map, refl, sym, ap, subst, arith}
use Rattle.std.specs.List.{Contains}
use Rattle.std.proofs.lemmas.List.{map-append}
use Rattle.std.proofs.lemmas.List.Elements.{Contains-append_left, Contains-push, Contains-push_cases}
use Rattle.digraph.specs.declared.walk.Mark.{Mark}
use Rattle.digraph.specs.declared.walk.Mark.TheVariants.{Done}
use Rattle.digraph.specs.declared.walk.Frame.{Frame}
use Rattle.digraph.specs.Graphs.{Digraph, Leads, Reaches}
use Rattle.digraph.specs.Walks.{mark, Apart, Awaits, ArePath, above, stack}

-- ---- numbers that differ

pub contains-cons : {X : Type 0} (y x : X) (xs : List X) → Contains xs x → Contains (y ∷ xs) x
contains-cons y x xs (k, below, is) = (suc k, omega (arith, below), is)

pub contains-head : {X : Type 0} (x : X) (xs : List X) → Contains (x ∷ xs) x
contains-head x xs = (zero, omega arith, refl)

pub contains-cases : {X : Type 0} (y x : X) (xs : List X) → Contains (y ∷ xs) x → (y ≡ x) ⊎ Contains xs x
contains-cases y x xs (zero, below, is) = inl is
contains-cases y x xs (suc k, below, is) = inr (k, omega (arith, below), is)

pub apart-push : (xs : List ℕ) (y : ℕ) → Apart xs → (Contains xs y → ⊥) → Apart (xs ++ y ∷ [])
apart-push [] y h other = ((λ q. absurd (omega (arith, q.1))), tt)
apart-push (x ∷ xs) y h other = (
  (λ q. elim (Contains-push_cases xs y x q) [ inl in' ↦ h.0 in' | inr same ↦ other (zero, omega arith, sym same) ]),
  apart-push xs y h.1 (λ q. other (contains-cons x y xs q)),
)

pub apart-pop : (xs : List ℕ) (y : ℕ) → Apart (xs ++ y ∷ []) → Apart xs × (Contains xs y → ⊥)
apart-pop [] y h = (tt, λ q. absurd (omega (arith, q.1)))
apart-pop (x ∷ xs) y h =
    let rest = apart-pop xs y h.1 in (
      ((λ q. h.0 (Contains-append_left xs (y ∷ []) x q)), rest.0),
      λ q. elim (contains-cases x y xs q) [ inl same ↦ h.0 (subst (λ z. Contains (xs ++ y ∷ []) z) (sym same) (Contains-push xs y)) | inr in' ↦ rest.1 in' ],
    )

-- ---- paths

pub stack-push : (fs : List Frame) (f : Frame) (x : ℕ) → stack (fs ++ f ∷ []) x ≡ stack fs f.node ++ x ∷ []
stack-push fs f x = ap (λ ns. ns ++ x ∷ []) (map-append (λ (y : Frame). y.node) fs (f ∷ []))

above-push : (fs : List Frame) (f : Frame) (x : ℕ) → above (fs ++ f ∷ []) x ≡ above fs f.node
above-push [] f x = refl
above-push (y ∷ fs) f x = refl

pub path-push : (g : Digraph) (marks : List Mark) (fs : List Frame) (f : Frame) (x : ℕ) → ArePath g marks fs f.node → Awaits g marks f x → ArePath g marks (fs ++ f ∷ []) x
path-push g marks [] f x h a = (a, tt)
path-push g marks (y ∷ fs) f x h a = (subst (λ z. Awaits g marks y z) (sym (above-push fs f x)) h.0, path-push g marks fs f x h.1 a)

pub path-pop : (g : Digraph) (marks : List Mark) (fs : List Frame) (f : Frame) (x : ℕ) → ArePath g marks (fs ++ f ∷ []) x → ArePath g marks fs f.node × Awaits g marks f x
path-pop g marks [] f x h = (tt, h.0)
path-pop g marks (y ∷ fs) f x h =
    let rest = path-pop g marks fs f x h.1 in
    ((subst (λ z. Awaits g marks y z) (above-push fs f x) h.0, rest.0), rest.1)

awaits-kept : (g : Digraph) (marks more : List Mark) (f : Frame) (x : ℕ) → ((n : ℕ) → mark marks n ≡ Done → mark more n ≡ Done) → Awaits g marks f x → Awaits g more f x
awaits-kept g marks more f x kept h = record {
  rest = h.rest;
  leads = h.leads;
  read = λ k b from at. elim (h.read k b from at) [ inl done ↦ inl (kept b done) | inr same ↦ inr same ];
}

-- what is done stays done
pub path-kept : (g : Digraph) (marks more : List Mark) (fs : List Frame) (x : ℕ) → ((n : ℕ) → mark marks n ≡ Done → mark more n ≡ Done) → ArePath g marks fs x → ArePath g more fs x
path-kept g marks more [] x kept h = tt
path-kept g marks more (f ∷ fs) x kept h = (awaits-kept g marks more f (above fs x) kept h.0, path-kept g marks more fs x kept h.1)

-- the first of these reaches what the last waits for
above_reaches : (g : Digraph) (marks : List Mark) (fs : List Frame) (a x : ℕ) → Leads g a (above fs x) → ArePath g marks fs x → Reaches g a x
above_reaches g marks [] a x leads h = ([], leads)
above_reaches g marks (f ∷ fs) a x leads h =
    let more = above_reaches g marks fs f.node x h.0.leads h.1 in
    (f.node ∷ more.0, (leads, more.1))

-- each of these reaches what the last waits for
pub path_reaches : (g : Digraph) (marks : List Mark) (fs : List Frame) (x n : ℕ) → ArePath g marks fs x → Contains (map (λ (f : Frame). f.node) fs) n → Reaches g n x
path_reaches g marks [] x n h (k, below, is) = absurd (omega (arith, below))
path_reaches g marks (f ∷ fs) x n h q =
    elim (contains-cases f.node n (map (λ (f : Frame). f.node) fs) q) [
      | inl same ↦ subst (λ m. Reaches g m x) same (above_reaches g marks fs f.node x h.0.leads h.1)
      | inr in' ↦ path_reaches g marks fs x n h.1 in'
    ]
