-- How long a chain of needs can be: no longer than an order of bits, and there are few of them.
use Rattle.std.specs.Prelude.{◌≡◌, refl, ℕ, zero, suc, ◌+◌, ◌*◌, ◌^◌, ◌<◌, ◌≤◌, ◌==◌, ◌&&◌, ◌||◌, nat_eq, Bool, true, false, List, [], ◌∷◌, map, length, slice_get, Some}
use Rattle.std.specs.List.{AllByRecursion, list_any, IsDistinct}
use Rattle.std.proofs.Common.{sym, ◌∙◌, ap, arith, ⊎_elim}
use Rattle.std.proofs.lemmas.Bool.{cases_Bool, cases_lt, eq-eqb, eqb-true, false≢true}
use Rattle.std.proofs.lemmas.Map.Steps.{length-le_from_distinct_below}
use Rattle.shape_rules.specs.Forms.{IsForm}
use Rattle.design_ir.specs.declared.signal.Sig.{Sig}
use Rattle.design_ir.specs.Circuits.{Circuit}
use Rattle.design_ir.specs.PoolRules.{IsPool}
use Rattle.design_ir.specs.Targets.{Bit}
use Rattle.design_ir.specs.Values.{signal_form}
use Rattle.design_ir.proofs.Equations.{split_at}
use Rattle.comb_graph.specs.Orders.{IsCombBit, IsCombChain, IsLongest, IsOrder, NeedsNext, same_bit}
use Rattle.comb_graph.proofs.Positions.{position_of}
use Rattle.sim_plans.proofs.CombPorts.{get_front}

-- ---- a chain falls along an order

module _ (c : Circuit) (order : List Bit) (ordered : IsOrder c order) where
  chain_at : (i : ℕ) (b : Bit) (rest : List Bit) → slice_get order i ≡ Some b → AllByRecursion (IsCombBit c) (b ∷ rest) → NeedsNext c (b ∷ rest) → length rest ≤ i
  chain_at i b [] e bits needs = omega arith
  chain_at i b (x ∷ rest) e bits needs =
      let r = split_at order i b e in
      let found = position_of r.0 x (ordered.behind r.0 r.1 b x r.2 bits.1.0 needs.0) in
      let at : slice_get order found.0 ≡ Some x = ap (λ xs. slice_get xs found.0) r.2 ∙ get_front r.0 (b ∷ r.1) found.0 x found.2 in
      let more = chain_at found.0 x rest at bits.1 needs.1 in
      omega (arith, more, found.1, r.3)

  chain_short : (chain : List Bit) → IsCombChain c chain → length chain ≤ length order
  chain_short [] h = omega arith
  chain_short (b ∷ rest) h =
      let found = position_of order b (ordered.all b h.bits.0) in
      let more = chain_at found.0 b rest found.2 h.bits h.needs in
      omega (arith, more, found.1)

-- ---- there are few bits

abbrev code : Bit → ℕ
code b = b.sig * 256 + b.index

abbrev IsSmall : Bit → Type 0
IsSmall b = (b.sig < 16384) × (b.index < 256)

and_both : (a b : Bool) → a ≡ true → b ≡ true → (a && b) ≡ true
and_both true b e h = h
and_both false b e h = absurd (false≢true e)

other_code : (a b : Bit) → IsSmall a → IsSmall b → same_bit a b ≡ false → nat_eq (code a) (code b) ≡ false
other_code a b ha hb e =
    ⊎_elim
    (λ (t : nat_eq (code a) (code b) ≡ true).
    let same : a.sig * 256 + a.index ≡ b.sig * 256 + b.index = eqb-true (code a) (code b) t in
    let sig : a.sig ≡ b.sig = omega (arith, same, ha.1, hb.1) in
    let index : a.index ≡ b.index = omega (arith, same, sig) in
    absurd (false≢true (sym e ∙ and_both (a.sig == b.sig) (a.index == b.index) (eq-eqb a.sig b.sig sig) (eq-eqb a.index b.index index))))
    (λ (t : nat_eq (code a) (code b) ≡ false). t)
    (cases_Bool (nat_eq (code a) (code b)))

other_codes : (a : Bit) (bs : List Bit) → IsSmall a → AllByRecursion IsSmall bs → AllByRecursion (λ b. same_bit a b ≡ false) bs → AllByRecursion (λ n. nat_eq (code a) n ≡ false) (map code bs)
other_codes a [] ha h k = tt
other_codes a (b ∷ bs) ha h k = (other_code a b ha h.0 k.0, other_codes a bs ha h.1 k.1)

codes_once : (bs : List Bit) → AllByRecursion IsSmall bs → IsDistinct same_bit bs → IsDistinct nat_eq (map code bs)
unfolding IsDistinct
codes_once [] h d = tt
codes_once (b ∷ bs) h d = (other_codes b bs h.0 h.1 d.0, codes_once bs h.1 d.1)

code_small : (bs : List Bit) (n : ℕ) → AllByRecursion IsSmall bs → list_any (λ m. nat_eq n m) (map code bs) ≡ true → n < 4194304
code_small [] n h e = absurd (false≢true e)
code_small (b ∷ bs) n h e = first (λ any. code_small bs n h.1 any) (nat_eq n (code b)) refl e
  where
    first : (list_any (λ m. nat_eq n m) (map code bs) ≡ true → n < 4194304) → (t : Bool) → nat_eq n (code b) ≡ t → (t || list_any (λ m. nat_eq n m) (map code bs)) ≡ true → n < 4194304
    first more true is any = omega (arith, eqb-true n (code b) is, h.0.0, h.0.1)
    first more false is any = more any

map_length : (bs : List Bit) → length (map code bs) ≡ length bs
map_length [] = refl
map_length (b ∷ bs) = ap suc (map_length bs)

module _ (c : Circuit) (rules : IsPool c.pool) where
  narrow : (xs : List Sig) (s : ℕ) → AllByRecursion (λ (x : Sig). IsForm x.shape.width x.shape.signed) xs → (signal_form xs s).width ≤ 128
  narrow [] s h = omega arith
  narrow (x ∷ xs) zero h = of x.shape.width x.shape.signed h.0
    where
      of : (n : ℕ) (signed : Bool) → IsForm n signed → n ≤ 128
      of n false f = f
      of n true f = f.1
  narrow (x ∷ xs) (suc s) h = narrow xs s h.1

  past : (xs : List Sig) (s : ℕ) → length xs ≤ s → (signal_form xs s).width ≡ 0
  past [] s h = refl
  past (x ∷ xs) zero h = absurd (omega (arith, h))
  past (x ∷ xs) (suc s) h = past xs s (omega (arith, h))

  small : (b : Bit) → IsCombBit c b → IsSmall b
  small b comb = (
    ⊎_elim (λ (lt : b.sig < length c.pool.signals). omega (arith, lt, rules.few_signals)) (λ (ge : length c.pool.signals ≤ b.sig). absurd (omega (arith, comb.inside, past c.pool.signals b.sig ge))) (cases_lt b.sig (length c.pool.signals)),
    omega (arith, comb.inside, narrow c.pool.signals b.sig rules.shapes),
  )

  all_small : (bs : List Bit) → AllByRecursion (IsCombBit c) bs → AllByRecursion IsSmall bs
  all_small [] h = tt
  all_small (b ∷ bs) h = (small b h.0, all_small bs h.1)

  pub longest_few : (order : List Bit) (n : ℕ) → IsOrder c order → IsLongest c n → n ≤ 2 ^ 22
  longest_few order n ordered longest =
      let of = all_small order ordered.only in
      let most = length-le_from_distinct_below (map code order) 4194304 (codes_once order of ordered.once) (λ k h. code_small order k of h) in
      omega (arith, most, map_length order, chain_short c order ordered longest.chain longest.is_chain, longest.long)
