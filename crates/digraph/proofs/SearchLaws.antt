-- Each step of a search keeps what it keeps to.
use Rattle.std.proofs.Common.{◌≡◌, ◌∙◌, ◌⊎◌, inl, inr, ◌↔◌, ℕ, ◌+◌, ◌-◌, ◌<◌, Bool, true, false, not, cond, List, [], ◌∷◌, ◌++◌, length, refl, sym, ap, subst, arith, slice_set}
use Rattle.std.specs.List.{Contains, count_by}
use Rattle.std.proofs.lemmas.Bool.{cases_eq, cases_lt}
use Rattle.std.proofs.lemmas.List.{get_or-set_same, get_or-set_other, length-set, length-append}
use Rattle.std.proofs.lemmas.List.Sums.{sum_by-set}
use Rattle.std.proofs.lemmas.List.Elements.{Contains-append_left, Contains-push, Contains-push_cases}
use Rattle.digraph.specs.Graphs.{Digraph, Leads, Path, Reaches, EdgeAt, IsNext}
use Rattle.digraph.specs.Searches.{Searching, is_reached, IsFrom, WasMet, IsSpread, IsSearch, IsSpreading, Reached}
use Rattle.digraph.proofs.WalkLaws.{at_leads, same_edge}
use Rattle.digraph.proofs.WalkTurns.{reaches-then}

reached-same : (rs : List Bool) (n : ℕ) → n < length rs → is_reached (slice_set rs n true) n ≡ true
reached-same rs n inside = get_or-set_same rs n true false inside

reached-kept : (rs : List Bool) (n k : ℕ) → n < length rs → is_reached rs k ≡ true → is_reached (slice_set rs n true) k ≡ true
reached-kept rs n k inside is =
    elim (cases_eq k n) [
      | inl same ↦ subst (λ j. is_reached (slice_set rs n true) j ≡ true) (sym same) (reached-same rs n inside)
      | inr other ↦ get_or-set_other rs n k true false other ∙ is
    ]

-- one node fewer was not reached
count_reached : (rs : List Bool) (n : ℕ) → n < length rs → is_reached rs n ≡ false → count_by not (slice_set rs n true) + 1 ≡ count_by not rs
count_reached rs n inside is =
    let one : Bool → ℕ = λ b. cond (not b) 1 0 in
    let more : count_by not (slice_set rs n true) + one (is_reached rs n) ≡ count_by not rs + one true = sum_by-set one rs n true false inside in
    let was : one (is_reached rs n) ≡ 1 = ap one is in
    omega (arith, more, was)

pub reached_push : (s : Searching) (n : ℕ) → n < length s.reached → is_reached s.reached n ≡ false
    → Reached s n (record { root = s.root; reached = slice_set s.reached n true; todo = s.todo ++ n ∷ [] })
reached_push s n inside is = record {
  root = refl;
  now = reached-same s.reached n inside;
  size = length-set s.reached n true;
  kept = λ k was. reached-kept s.reached n k inside was;
  todo = λ k in'. Contains-append_left s.todo (n ∷ []) k in';
  only = λ k now. elim (cases_eq k n) [
    | inl same ↦ inr (same, Contains-push s.todo n)
    | inr other ↦ inl (sym (get_or-set_other s.reached n k true false other) ∙ now)
  ];
  added = λ k in'. elim (Contains-push_cases s.todo n k in') [ inl old ↦ inl old | inr same ↦ inr (sym same) ];
  left = omega (arith, count_reached s.reached n inside is, length-append s.todo (n ∷ []));
}

-- ---- the edges of one node

spread-kept : (g : Digraph) (rs more : List Bool) (n : ℕ) → ((k : ℕ) → is_reached rs k ≡ true → is_reached more k ≡ true) → IsSpread g rs n → IsSpread g more n
spread-kept g rs more n kept h x leads = kept x (h x leads)

-- a node that the root leads to, or one that it reaches
from_leads : (g : Digraph) (root n x : ℕ) → IsFrom g root n → Leads g n x → Reaches g root x
from_leads g root n x (inl same) leads = ([], subst (λ m. Leads g m x) same leads)
from_leads g root n x (inr reached) leads = reaches-then g root n x reached leads

-- what is left to look at, with the node that is looked at
push_more : (xs ys : List ℕ) (from k : ℕ) → ((k : ℕ) → Contains xs k → Contains ys k) → Contains (xs ++ from ∷ []) k → Contains (ys ++ from ∷ []) k
push_more xs ys from k more in' =
    elim (Contains-push_cases xs from k in') [
      | inl old ↦ Contains-append_left ys (from ∷ []) k (more k old)
      | inr same ↦ subst (λ j. Contains (ys ++ from ∷ []) j) same (Contains-push ys from)
    ]

-- the search, once one more edge was looked at
pub search_more : (g : Digraph) (old s : Searching) (from upto : ℕ) → IsSearch g old.root old.reached (old.todo ++ from ∷ []) → Leads g from upto → upto < g.size → Reached old upto s
    → IsSearch g s.root s.reached (s.todo ++ from ∷ [])
search_more g old s from upto h leads inside r =
    let start : IsFrom g old.root from = h.from from (Contains-push old.todo from) in
    let reaches : Reaches g old.root upto = from_leads g old.root from upto start leads in
    let P : ℕ → Type 0 = λ root. IsSearch g root s.reached (s.todo ++ from ∷ []) in
    subst P (sym r.root) (record {
      size = r.size ∙ h.size;
      sound = λ n now. elim (r.only n now) [ inl was ↦ h.sound n was | inr new ↦ subst (λ j. Reaches g old.root j) (sym (new.0)) reaches ];
      from = λ n in'. elim (Contains-push_cases s.todo from n in') [
        | inl todo ↦ elim (r.added n todo) [
          | inl was ↦ h.from n (Contains-append_left old.todo (from ∷ []) n was)
          | inr same ↦ inr (subst (λ j. Reaches g old.root j) (sym same) reaches)
        ]
        | inr same ↦ subst (λ j. IsFrom g old.root j) same start
      ];
      inside = λ n in'. elim (Contains-push_cases s.todo from n in') [
        | inl todo ↦ elim (r.added n todo) [
          | inl was ↦ h.inside n (Contains-append_left old.todo (from ∷ []) n was)
          | inr same ↦ subst (λ j. j < g.size) (sym same) inside
        ]
        | inr same ↦ subst (λ j. j < g.size) same (h.inside from (Contains-push old.todo from))
      ];
      spread = λ n met.
          let was : WasMet old.reached old.root n → Contains (s.todo ++ from ∷ []) n ⊎ IsSpread g s.reached n = λ m.
          elim (h.spread n m) [ inl left ↦ inl (push_more old.todo s.todo from n r.todo left) | inr all ↦ inr (spread-kept g old.reached s.reached n r.kept all) ] in
          elim met [
            | inl root ↦ was (inl root)
            | inr now ↦ elim (r.only n now) [
              | inl old' ↦ was (inr old')
              | inr new ↦ inl (subst (λ j. Contains (s.todo ++ from ∷ []) j) (sym (new.0)) (Contains-append_left s.todo (from ∷ []) upto (new.1)))
            ]
          ];
    })

pub spreading_more : (g : Digraph) (old s : Searching) (from rest upto others : ℕ) → IsSpreading g old.reached from rest → IsNext g from rest upto others → Reached old upto s → IsSpreading g s.reached from others
spreading_more g old s from rest upto others h next r = record {
  is_rest = next.is_rest;
  read = λ k b above at. elim (cases_lt k (rest - 1)) [
    | inl below ↦ absurd (next.none k b above below at)
    | inr past ↦ elim (cases_lt k rest) [
      | inl here ↦
          let place : k ≡ rest - 1 = omega (arith, past, here) in
          let same : upto ≡ b = same_edge g (rest - 1) from upto b next.at (subst (λ j. EdgeAt g j from b) place at) in
          subst (λ x. is_reached s.reached x ≡ true) same r.now
      | inr old' ↦ r.kept b (h.read k b old' at)
    ]
  ];
}

-- all edges of the node were looked at
pub spread_ends : (g : Digraph) (s : Searching) (from : ℕ) → IsSearch g s.root s.reached (s.todo ++ from ∷ []) → IsSpreading g s.reached from 0 → IsSearch g s.root s.reached s.todo
spread_ends g s from h all = record {
  size = h.size;
  sound = h.sound;
  from = λ n in'. h.from n (Contains-append_left s.todo (from ∷ []) n in');
  inside = λ n in'. h.inside n (Contains-append_left s.todo (from ∷ []) n in');
  spread = λ n met. elim (h.spread n met) [
    | inl left ↦ elim (Contains-push_cases s.todo from n left) [
      | inl todo ↦ inl todo
      | inr same ↦ inr (λ x leads. let at = at_leads g n x leads in all.read at.0 x (omega arith) (subst (λ j. EdgeAt g at.0 j x) (sym same) at.1))
    ]
    | inr spread ↦ inr spread
  ];
}

-- ---- the end

all_reached : (g : Digraph) (rs : List Bool) (root : ℕ) → ((n : ℕ) → WasMet rs root n → IsSpread g rs n) → (n : ℕ) (between : List ℕ) (x : ℕ) → WasMet rs root n → Path g n between x → is_reached rs x ≡ true
all_reached g rs root all n [] x met leads = all n met x leads
all_reached g rs root all n (y ∷ ys) x met path = all_reached g rs root all y ys x (inr (all n met y path.0)) path.1

pub search_ends : (g : Digraph) (root : ℕ) (rs : List Bool) (x : ℕ) → IsSearch g root rs [] → (is_reached rs x ≡ true) ↔ Reaches g root x
search_ends g root rs x h =
    let all = λ (n : ℕ) (met : WasMet rs root n). elim (h.spread n met) as (λ _. IsSpread g rs n) [ inl left ↦ absurd (omega (arith, left.1)) | inr spread ↦ spread ] in
    (h.sound x, λ (between, path). all_reached g rs root all root between x (inl refl) path)
