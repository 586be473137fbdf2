-- What `rank` comes to, by the parts that it calls.
use Rattle.std.proofs.Common.{◌≡◌, ◌∙◌, ℕ, ◌≤◌, Bool, true, false, cond, Option, Some, None, IsSome, List, [], ◌∷◌, map, length, refl, sym, ap, subst, arith, ⊎_elim, inl, inr}
use Rattle.std.specs.List.{filter}
use Rattle.std.proofs.lemmas.Bool.{cases_Bool, cases_lt}
use Rattle.std.proofs.lemmas.List.{get_or_past}
use Rattle.amh_host.specs.declared.place.Place.{Place}
use Rattle.design_ir.specs.PoolRules.{IsPool}
use Rattle.design_ir.specs.Circuits.{Circuit}
use Rattle.comb_graph.specs.declared.ranks.RankedBit.{RankedBit}
use Rattle.comb_graph.specs.declared.stop.GraphStop.TheVariants.{Loop as loop_stop}
use Rattle.digraph.specs.Graphs.{Digraph, IsSorted}
use Rattle.comb_graph.specs.Places.{bit_nodes}
use Rattle.comb_graph.specs.Orders.{IsOrder}
use Rattle.digraph.specs.Searches.{IsLeast}
use Rattle.digraph.specs.Walks.{IsSeen}
use Rattle.digraph.specs.declared.walk.Mark.{Mark}
use Rattle.digraph.specs.Depths.{is_counted, IsMost}
use Rattle.comb_graph.specs.CombNodes.{bit_at, is_comb_node, AreCombNodes, comb_bits}
use Rattle.comb_graph.specs.Rankings.{bit_of, IsRanking}
use Rattle.comb_graph.specs.Refusals.{IsLeastLoop, IsRefused, loop_place}
use Rattle.comb_graph.proofs.RankNodes.{node_at, comb_of_test}
use Rattle.comb_graph.proofs.RankPaths.{IsOfNeeds, comb_node}
use Rattle.comb_graph.proofs.RankOrders.{order_of, some_least, least_loop_of, longest_of, most_few}

filter_same : (p q : ℕ → Bool) → ((n : ℕ) → p n ≡ q n) → (xs : List ℕ) → filter p xs ≡ filter q xs
filter_same p q same [] = refl
filter_same p q same (x ∷ xs) = ap (λ b. cond b (x ∷ filter p xs) (filter p xs)) (same x) ∙ ap (λ ys. cond (q x) (x ∷ ys) ys) (filter_same p q same xs)

-- nodes past the signals' are counted neither
pub all_counted : (c : Circuit) (counted : List Bool) → IsPool c.pool → AreCombNodes c counted → (n : ℕ) → is_counted counted n ≡ is_comb_node c n
all_counted c counted pool are n =
    elim (cases_lt n (length counted)) [
      | inl below ↦ are.each n below
      | inr end ↦
          get_or_past counted n false (omega (arith, end))
          ∙ sym (⊎_elim
          (λ (is : is_comb_node c n ≡ true). let inside = comb_node c (bit_at n) pool (comb_of_test c (bit_at n) is) in absurd (omega (arith, inside.0, node_at n, are.size, end)))
          (λ (is : is_comb_node c n ≡ false). is)
          (cases_Bool (is_comb_node c n)))
    ]

module _ (c : Circuit) (g : Digraph) (pool : IsPool c.pool) (is : IsOfNeeds g c) where
  pub ranking_of : (order : List ℕ) (counted : List Bool) (bits : List RankedBit) (most : ℕ) → IsSorted g order → AreCombNodes c counted
      → map bit_of bits ≡ map bit_at (filter (is_counted counted) order) → IsMost g counted most → IsRanking c (record { order = bits; longest = most })
  ranking_of order counted bits most sorted are same longest =
      let all = all_counted c counted pool are in
      let kept : map bit_of bits ≡ comb_bits c order = same ∙ ap (λ ns. map bit_at ns) (filter_same (is_counted counted) (is_comb_node c) all order) in
      record {
        order = subst (IsOrder c) (sym kept) (order_of c g pool is order sorted);
        longest = longest_of c g pool is counted all most longest;
      }

  pub few_of : (order : List ℕ) (counted : List Bool) (most : ℕ) → IsSorted g order → AreCombNodes c counted → IsMost g counted most → most ≤ bit_nodes c.pool
  few_of order counted most sorted are longest = most_few c g pool is counted (all_counted c counted pool are) order sorted most longest

  pub refused_of : (n : ℕ) (bit : RankedBit) (place : Place) → IsLeast g (bit_nodes c.pool) (Some n) → bit_of bit ≡ bit_at n → place ≡ loop_place c (bit_of bit) → IsRefused c (loop_stop bit.sig bit.bit place)
  refused_of n bit place least same told = record { is_least = subst (IsLeastLoop c) (sym same) (least_loop_of c g pool is n least); place = told }

  pub some_of : (o : Option ℕ) (marks : List Mark) → IsSeen g marks → IsLeast g (bit_nodes c.pool) o → IsSome o
  some_of None marks seen least = absurd (some_least c g pool is marks seen least)
  some_of (Some n) marks seen least = refl
