use Rattle.std.proofs.Common.{◌≡◌, ◌∙◌, ℕ, None, false, length, replicate, sym, ap, subst}
use Rattle.std.specs.List.{AllByRecursion}
use Rattle.std.proofs.lemmas.List.{length-replicate}
use Rattle.design_ir.specs.Named.{AllBelow}
use Rattle.fragment_walks.specs.Holders.{first_roots}
use Rattle.fragment_walks.specs.Marks.{is_marked}
use Rattle.fragment_walks.specs.Numbers.{bounded}
use Rattle.fragment_walks.proofs.HolderLaws.{first_there, within_is}
use Rattle.fragment_walks.proofs.Markings.{fresh_marks}
use Rattle.fragment_walks.proofs.NumberLaws.{bounded_none}
use Rattle.fragment_walks.proofs.holders.first_holders.Goals as goal

pub number_roots-requires : goal.number_roots-requires
number_roots-requires c =
    let size : length c.in_ok-holders.holders.items ≡ length c.args.pool.now.exprs = ap length c.in_ok-holders.ensures ∙ length-replicate c.count.result None ∙ c.count.ensures.value in
    subst (λ n. AllByRecursion (AllBelow n) c.args.roots.now) (sym size) c.requires

pub hand_all_down-requires : goal.hand_all_down-requires
hand_all_down-requires c = record { size = c.number_roots.ensures.size ∙ ap length c.in_ok-holders.ensures ∙ length-replicate c.count.result None ∙ c.count.ensures.value }

pub returns : goal.returns
returns c =
    let q = c.args.pool.now in
    let roots = c.args.roots.now in
    let n = length q.exprs in
    let fresh = c.in_ok-holders.holders.items in
    let made = c.number_roots.new.holders.items in
    let none : (i : ℕ) → bounded i fresh ≡ replicate c.count.result false = λ i. ap (bounded i) c.in_ok-holders.ensures ∙ bounded_none i c.count.result in
    record {
      size = c.hand_all_down.ensures.size;
      each = λ i k small.
          c.hand_all_down.ensures.held i k small
          ∙ within_is q (first_roots i roots) (bounded i fresh) (bounded i made) k (first_there n i roots c.requires)
          (ap length (none i) ∙ length-replicate c.count.result false ∙ c.count.ensures.value)
          (λ j. ap (λ ms. is_marked ms j) (none i) ∙ fresh_marks c.count.result j)
          (c.number_roots.ensures.each i);
    }
