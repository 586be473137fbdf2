use Rattle.std.proofs.Common.{◌≡◌, ◌∙◌, List, Some, length, slice_get, refl, sym, ap, subst}
use Rattle.std.proofs.lemmas.Option.{slice_get_read}
use Rattle.design_ir.specs.declared.ids.ExprId.{ExprId}
use Rattle.design_ir.specs.Named.{AllBelow}
use Rattle.fragment_walks.specs.Holders.{first_roots}
use Rattle.fragment_walks.specs.Marks.{marked, numbers}
use Rattle.fragment_walks.specs.Numbers.{bounded, lowered}
use Rattle.fragment_walks.proofs.HolderLaws.{roots_turn}
use Rattle.fragment_walks.proofs.Lists.{all_at, take_end}
use Rattle.fragment_walks.proofs.NumberLaws.{length_lowered}
use Rattle.fragment_walks.proofs.holders.number_roots.Goals as goal

pub lower_all-requires : goal.lower_all-requires
lower_all-requires c =
    let roots = c.args.roots.now in
    let i = c.loop-number.number in
    let x : List ExprId = c.index-roots-number.result in
    let at : slice_get roots i ≡ Some x = slice_get_read roots (length roots) i x refl c.loop-number-test.true c.index-roots-number.is in
    subst (λ (es : List ExprId). AllBelow (length c.loop-number.holders.items) es) (sym c.as_slice.ensures) (subst (λ n. AllBelow n x) (sym c.loop-number.invariant.size) (all_at (AllBelow (length c.args.holders.now.items)) roots i x c.requires at))

pub loop-number-preserved : goal.loop-number-preserved
loop-number-preserved c =
    let roots = c.args.roots.now in
    let i = c.loop-number.number in
    let x : List ExprId = c.index-roots-number.result in
    let at : slice_get roots i ≡ Some x = slice_get_read roots (length roots) i x refl c.loop-number-test.true c.index-roots-number.is in
    let cur = c.loop-number.holders.items in
    record {
      size = ap length c.lower_all.ensures ∙ length_lowered (numbers c.as_slice.result.now) i cur ∙ c.loop-number.invariant.size;
      each = roots_turn roots i x c.args.holders.now.items cur c.lower_all.new.firsts.items at c.loop-number.invariant.each (c.lower_all.ensures ∙ ap (λ (es : List ExprId). lowered (numbers es) i cur) c.as_slice.ensures);
    }

pub returns-clause-each : goal.returns-clause-each
returns-clause-each c i =
    c.loop-number.invariant.each i ∙ ap (λ (xs : List (List ExprId)). marked (numbers (first_roots i xs)) (bounded i c.args.holders.now.items)) (take_end c.args.roots.now c.loop-number.number c.loop-number-test.false)
