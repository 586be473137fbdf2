use Rattle.std.proofs.Common.{◌<◌, ◌^◌, ◌++◌, ◌∙◌, sym, ap, subst}
use Rattle.std.specs.List.{AllByRecursion}
use Rattle.std.specs.List.Sorted.{IsNonDecreasing}
use Rattle.std.proofs.lemmas.List.Sorted.{IsNonDecreasingBy-from_sort}
use Rattle.std.proofs.lemmas.Result.{IfOk-weaker}
use Rattle.design_ir.specs.Circuits.{is_among}
use Rattle.sim_plans.proofs.Compiling.{sorted_has, sorted_below}
use Rattle.sim_plans.proofs.compile.program.Goals as goal

pub ids-requires : goal.ids-requires
ids-requires c =
    let are = c.in_ok-add_marked-2.ensures.all ∙ ap (λ l. l ++ c.args.values.now.list) (c.in_ok-add_marked.ensures.all ∙ ap (λ l. l ++ c.args.aims.now.list) c.new-all.ensures.items) in
    subst (AllByRecursion (λ k. k < 2 ^ 32)) (sym c.as_slice.ensures.value)
    (sorted_below c.args.aims.now c.args.values.now c.add_marked.ensures.rules c.add_marked-2.ensures.rules c.add_marked-2.new.all.items c.sort_unstable.new.self.items are c.sort_unstable.ensures.permutation (2 ^ 32) c.requires.aims c.requires.values)

pub returns-clause-order : goal.returns-clause-order
returns-clause-order c =
    let up = IsNonDecreasingBy-from_sort (λ x. x) c.sort_unstable.new.self.items c.sort_unstable.ensures.sorted in
    IfOk-weaker c.ids.result _ _ (λ list e. subst IsNonDecreasing (sym (e ∙ c.as_slice.ensures.value)) up) c.ids.ensures

pub returns-clause-all : goal.returns-clause-all
returns-clause-all c =
    let are = c.in_ok-add_marked-2.ensures.all ∙ ap (λ l. l ++ c.args.values.now.list) (c.in_ok-add_marked.ensures.all ∙ ap (λ l. l ++ c.args.aims.now.list) c.new-all.ensures.items) in
    let has = sorted_has c.args.aims.now c.args.values.now c.add_marked.ensures.rules c.add_marked-2.ensures.rules c.add_marked-2.new.all.items c.sort_unstable.new.self.items are c.sort_unstable.ensures.permutation in
    IfOk-weaker c.ids.result _ _ (λ list e j. ap (λ xs. is_among xs j) (e ∙ c.as_slice.ensures.value) ∙ has j) c.ids.ensures
