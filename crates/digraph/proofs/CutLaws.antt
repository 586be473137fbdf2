-- No node that was cut away reaches itself: all that leads to it was cut away before it.
use Rattle.std.proofs.Common.{◌≡◌, ◌∙◌, inl, inr, ℕ, zero, suc, ◌+◌, ◌<◌, ◌≤◌, ◌==◌, ◌&&◌, Bool, true, List, [], ◌∷◌, ◌++◌, length, refl, sym, ap, subst, arith}
use Rattle.std.specs.List.{Contains}
use Rattle.std.proofs.lemmas.Bool.{cases_lt}
use Rattle.std.proofs.lemmas.Option.{slice_get_within}
use Rattle.std.proofs.lemmas.List.Elements.{Contains-append_left, Contains-push}
use Rattle.digraph.specs.declared.graph.Edge.{Edge}
use Rattle.digraph.specs.Graphs.{Digraph, Leads, Path, Reaches, EdgeAt, edge}
use Rattle.digraph.specs.Cuts.{turn_of, is_left, IsCutBefore, IsCut, IsReversed}
use Rattle.digraph.proofs.GraphLists.{some-same}
use Rattle.digraph.proofs.WalkLaws.{at_leads}
use Rattle.digraph.proofs.WalkTurns.{reaches-then}

path_cut : (g : Digraph) (turns : List ℕ) (between : List ℕ) (n x : ℕ) → IsCut g turns → Path g n between x → IsCutBefore turns n x
path_cut g turns [] n x h leads = h.before n x leads
path_cut g turns (y ∷ ys) n x h path =
    λ cut.
    let rest = path_cut g turns ys y x h path.1 cut in
    let first = h.before n y path.0 rest.0 in
    (first.0, omega (arith, first.1, rest.1))

pub cut_no_loop : (g : Digraph) (turns : List ℕ) (n : ℕ) → IsCut g turns → 0 < turn_of turns n → Reaches g n n → ⊥
cut_no_loop g turns n h cut (between, path) = omega (arith, (path_cut g turns between n n h path cut).1)

-- what a node reaches, reaches it the other way round
reversed_reaches : (g h : Digraph) (between : List ℕ) (a b : ℕ) → IsReversed g h → Path g a between b → Reaches h b a
reversed_reaches g h [] a b is leads = ([], is.leads a b leads)
reversed_reaches g h (y ∷ ys) a b is path = reaches-then h b y a (reversed_reaches g h ys y b is path.1) (is.leads a y path.0)

-- nor does a node that was cut away where each edge is the other way round
pub reversed_no_loop : (g h : Digraph) (turns : List ℕ) (n : ℕ) → IsReversed g h → IsCut h turns → 0 < turn_of turns n → Reaches g n n → ⊥
reversed_no_loop g h turns n is all cut (between, path) = cut_no_loop h turns n all cut (reversed_reaches g h between n n is path)

-- ---- the other way round

-- once one more edge was turned
pub reversed_more : (g h : Digraph) (place from upto : ℕ) → EdgeAt g place from upto → ((k a b : ℕ) → k < place → EdgeAt g k a b → Leads h b a)
    → (k a b : ℕ) → k < place + 1 → EdgeAt g k a b → Contains (h.edges ++ edge upto from ∷ []) (edge b a)
reversed_more g h place from upto here all k a b below at =
    elim (cases_lt k place) [
      | inl less ↦ Contains-append_left h.edges (edge upto from ∷ []) (edge b a) (all k a b less at)
      | inr past ↦
          let same : k ≡ place = omega (arith, below, past) in
          let is : edge from upto ≡ edge a b = some-same (edge from upto) (edge a b) (sym here ∙ subst (λ j. EdgeAt g j a b) same at) in
          subst (λ (e : Edge). Contains (h.edges ++ edge upto from ∷ []) (edge e.upto e.from)) is (Contains-push h.edges (edge upto from))
    ]

-- once all edges were turned
pub reversed_all : (g h : Digraph) (place : ℕ) → length g.edges ≤ place → ((k a b : ℕ) → k < place → EdgeAt g k a b → Leads h b a) → (a b : ℕ) → Leads g a b → Leads h b a
reversed_all g h place past all a b leads =
    let found = at_leads g a b leads in
    all found.0 a b (omega (arith, past, slice_get_within g.edges found.0 (edge a b) found.1)) found.1

-- ---- what is left

zero_of : (n : ℕ) → (0 < n → ⊥) → n ≡ 0
zero_of zero h = refl
zero_of (suc n) h = absurd (h (omega arith))

-- a node that reaches itself was cut away neither way
pub left_of : (g h : Digraph) (firsts lasts : List ℕ) (n : ℕ) → IsReversed g h → IsCut g firsts → IsCut h lasts → Reaches g n n → ((turn_of firsts n == 0) && (turn_of lasts n == 0)) ≡ true
left_of g h firsts lasts n is first last loops =
    let a : turn_of firsts n ≡ 0 = zero_of (turn_of firsts n) (λ cut. cut_no_loop g firsts n first cut loops) in
    let b : turn_of lasts n ≡ 0 = zero_of (turn_of lasts n) (λ cut. reversed_no_loop g h lasts n is last cut loops) in
    ap (λ k. (k == 0) && (turn_of lasts n == 0)) a ∙ ap (λ k. k == 0) b

left-kept : (xs : List Bool) (b : Bool) (n : ℕ) → n < length xs → is_left (xs ++ b ∷ []) n ≡ is_left xs n
left-kept [] b n below = absurd (omega (arith, below))
left-kept (x ∷ xs) b zero below = refl
left-kept (x ∷ xs) b (suc n) below = left-kept xs b n (omega (arith, below))

left-last : (xs : List Bool) (b : Bool) → is_left (xs ++ b ∷ []) (length xs) ≡ b
left-last [] b = refl
left-last (x ∷ xs) b = left-last xs b

-- once one more node was looked at
pub left_more : (g : Digraph) (left : List Bool) (node : ℕ) (b : Bool) → length left ≡ node → ((n : ℕ) → n < node → Reaches g n n → is_left left n ≡ true) → (Reaches g node node → b ≡ true)
    → (n : ℕ) → n < node + 1 → Reaches g n n → is_left (left ++ b ∷ []) n ≡ true
left_more g left node b long all last n below loops =
    elim (cases_lt n node) [
      | inl less ↦ left-kept left b n (omega (arith, long, less)) ∙ all n less loops
      | inr past ↦
          let same : n ≡ node = omega (arith, below, past) in
          ap (is_left (left ++ b ∷ [])) (same ∙ sym long) ∙ left-last left b ∙ last (subst (λ k. Reaches g k k) same loops)
    ]
