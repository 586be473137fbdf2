-- Each turn of the walk keeps what it keeps to.
use Rattle.std.proofs.Common.{◌≡◌, ◌≢◌, ◌∙◌, ◌⊎◌, inl, inr, ℕ, zero, suc, ◌-◌, ◌<◌, ◌≤◌, List, [], ◌∷◌, ◌++◌, length, refl, sym, ap, subst, arith, Some, slice_set, slice_index_or, take}
use Rattle.std.specs.List.{Contains}
use Rattle.std.proofs.lemmas.List.{get_or-set_same, get_or-set_other, length-set, take-append-le}
use Rattle.std.proofs.Math.Seq.{take-append_seam}
use Rattle.std.proofs.lemmas.Bool.{cases_eq, cases_lt}
use Rattle.std.proofs.lemmas.Option.{slice_get_within, slice_get-get_or, slice_get_read, get_or_from_slice_get}
use Rattle.std.proofs.lemmas.List.Elements.{Contains-append_left, Contains-push, Contains-push_cases}
use Rattle.digraph.specs.declared.graph.Edge.{Edge}
use Rattle.digraph.specs.declared.walk.Mark.{Mark}
use Rattle.digraph.specs.declared.walk.Mark.TheVariants.{New, Open, Done}
use Rattle.digraph.specs.declared.walk.Frame.{Frame}
use Rattle.digraph.specs.Graphs.{Digraph, Leads, EdgeAt, IsBehind, IsNext, edge}
use Rattle.digraph.specs.Walks.{mark, Kept, IsClosed, IsOnPath}
use Rattle.digraph.proofs.GraphLists.{some-same, get-push_cases}
use Rattle.digraph.proofs.WalkPaths.{apart-push}

-- ---- marks

-- only nodes have been marked
pub marked_inside : (marks : List Mark) (n : ℕ) (m : Mark) → mark marks n ≡ m → m ≢ New → n < length marks
marked_inside [] n m is other = absurd (other (sym is))
marked_inside (x ∷ marks) zero m is other = omega arith
marked_inside (x ∷ marks) (suc n) m is other = omega (arith, marked_inside marks n m is other)

pub mark-same : (marks : List Mark) (n : ℕ) (m : Mark) → n < length marks → mark (slice_set marks n m) n ≡ m
mark-same marks n m inside = get_or-set_same marks n m New inside

pub mark-other : (marks : List Mark) (n k : ℕ) (m : Mark) → k ≢ n → mark (slice_set marks n m) k ≡ mark marks k
mark-other marks n k m other = get_or-set_other marks n k m New other

-- what is done stays done, where one more node is
pub done-kept : (marks : List Mark) (n k : ℕ) → n < length marks → mark marks k ≡ Done → mark (slice_set marks n Done) k ≡ Done
done-kept marks n k inside is =
    elim (cases_eq k n) [
      | inl same ↦ subst (λ j. mark (slice_set marks n Done) j ≡ Done) (sym same) (mark-same marks n Done inside)
      | inr other ↦ mark-other marks n k Done other ∙ is
    ]

-- a node that is opened was not done
pub opened-done : (marks : List Mark) (n k : ℕ) → mark marks n ≡ New → mark marks k ≡ Done → mark (slice_set marks n Open) k ≡ Done
opened-done marks n k new is =
    mark-other marks n k Open (λ same. let d : mark marks n ≡ Done = subst (λ j. mark marks j ≡ Done) same is in cc) ∙ is

-- ---- a node is done

behind-push : (g : Digraph) (order : List ℕ) (n : ℕ) → IsBehind g order → ((x : ℕ) → Leads g n x → Contains order x) → IsBehind g (order ++ n ∷ [])
behind-push g order n h all k m x at leads =
    elim (get-push_cases order n m k at) [
      | inl old ↦
          let within : k < length order = slice_get_within order k m old in
          subst (λ xs. Contains xs x) (sym (take-append-le k order (n ∷ []) (omega (arith, within)))) (h k m x old leads)
      | inr new ↦
          subst (λ xs. Contains xs x) (sym (ap (λ j. take j (order ++ n ∷ [])) (new.0) ∙ take-append_seam order (n ∷ [])))
          (all x (subst (λ j. Leads g j x) (sym (new.1)) leads))
    ]

pub closed_finished : (g : Digraph) (marks : List Mark) (order : List ℕ) (n : ℕ) → IsClosed g marks order → mark marks n ≡ Open
    → ((x : ℕ) → Leads g n x → mark marks x ≡ Done) → IsClosed g (slice_set marks n Done) (order ++ n ∷ [])
closed_finished g marks order n h is all =
    let inside : n < length marks = marked_inside marks n Open is (λ q. cc) in
    record {
      size = length-set marks n Done ∙ h.size;
      ordered = λ k done. elim (cases_eq k n) [
        | inl same ↦ subst (λ j. Contains (order ++ n ∷ []) j) (sym same) (Contains-push order n)
        | inr other ↦ Contains-append_left order (n ∷ []) k (h.ordered k (sym (mark-other marks n k Done other) ∙ done))
      ];
      done = λ k in'. elim (Contains-push_cases order n k in') [
        | inl old ↦ done-kept marks n k inside (h.done k old)
        | inr same ↦ subst (λ j. mark (slice_set marks n Done) j ≡ Done) same (mark-same marks n Done inside)
      ];
      once = apart-push order n h.once (λ in'. let d : mark marks n ≡ Done = h.done n in' in absurd cc);
      behind = behind-push g order n h.behind (λ x leads. h.ordered x (all x leads));
    }

-- ---- edges

pub leads_at : (g : Digraph) (k a b : ℕ) → EdgeAt g k a b → Leads g a b
leads_at g k a b at = (k, slice_get_within g.edges k (edge a b) at, get_or_from_slice_get g.edges k (edge a b) (edge a b) at)

pub at_leads : (g : Digraph) (a b : ℕ) → Leads g a b → (k : ℕ) × EdgeAt g k a b
at_leads g a b (k, within, is) = (k, slice_get-get_or g.edges k (edge a b) within ∙ ap (λ e. Some e) is)

-- all edges of a node were looked at
pub all_read : (g : Digraph) (marks : List Mark) (path : List Frame) (at : Frame) → at.rest ≡ 0 → IsOnPath g marks path at → (x : ℕ) → Leads g at.node x → mark marks x ≡ Done
all_read g marks path at none h x leads =
    let found = at_leads g at.node x leads in
    h.read (found.0) x (omega (arith, none)) (found.1)

pub same_edge : (g : Digraph) (k a b c : ℕ) → EdgeAt g k a b → EdgeAt g k a c → b ≡ c
same_edge g k a b c x y = ap (λ (e : Edge). e.upto) (some-same (edge a b) (edge a c) (sym x ∙ y))

-- once the next edge was looked at
pub read_next : (g : Digraph) (marks : List Mark) (path : List Frame) (at : Frame) (upto others : ℕ) → IsOnPath g marks path at → IsNext g at.node at.rest upto others
    → (k b : ℕ) → others ≤ k → EdgeAt g k at.node b → (mark marks b ≡ Done) ⊎ (b ≡ upto)
read_next g marks path at upto others h next k b from found =
    elim (cases_lt k (at.rest - 1)) [
      | inl below ↦ absurd (next.none k b from below found)
      | inr past ↦ elim (cases_lt k at.rest) [
        | inl here ↦
            let place : k ≡ at.rest - 1 = omega (arith, past, here) in
            inr (same_edge g (at.rest - 1) at.node b upto (subst (λ j. EdgeAt g j at.node b) place found) next.at)
        | inr old ↦ inl (h.read k b old found)
      ]
    ]

-- what is read at a place inside is the mark of the node
pub mark_read : (marks : List Mark) (n : ℕ) (x m : Mark) → n < length marks → x ≡ slice_index_or marks n x → x ≡ m → mark marks n ≡ m
mark_read marks n x m inside read is = get_or_from_slice_get marks n x New (slice_get_read marks (length marks) n x refl inside read) ∙ is

-- a node that is marked is not new
pub kept-set : (marks : List Mark) (n : ℕ) (m : Mark) → n < length marks → m ≢ New → Kept marks (slice_set marks n m)
kept-set marks n m inside old k is =
    elim (cases_eq k n) [
      | inl same ↦ absurd (old (sym (subst (λ j. mark (slice_set marks n m) j ≡ m) (sym same) (mark-same marks n m inside)) ∙ is))
      | inr other ↦ sym (mark-other marks n k m other) ∙ is
    ]

pub done_of : (m : Mark) → m ≢ New → m ≢ Open → m ≡ Done
done_of New a b = absurd (a refl)
done_of Open a b = absurd (b refl)
done_of Done a b = refl
