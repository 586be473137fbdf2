use Rattle.std.proofs.Common.{◌∙◌, get_or, sym, ap}
use Rattle.std.specs.Prelude.{◌&&◌, not}
use Rattle.std.specs.BTreeMap.{get_by_text}
use Rattle.std.proofs.lemmas.List.Folds.{list_all_at, list_all_more}
use Rattle.lib_wiring.specs.Wiring.{has_path}
use Rattle.lib_wiring.proofs.LinkSteps.{path_looked_up}
use Rattle.lib_wiring.proofs.wires.have_paths.Goals as goal

pub returns-then-is_none : goal.returns-then-is_none
returns-then-is_none c =
    let x = c.leaf-item.result in
    let there = path_looked_up c.args.first.now (get_by_text c.args.firsts.now) x.path c.as_str.result.now c.place_of.result c.requires c.place_of.ensures c.as_str.ensures in
    sym (list_all_at (λ m. has_path m.path c.args.first.now) c.args.second.now c.loop-leaf.leaf-index x c.loop-leaf-test.true (ap (λ m. has_path m.path c.args.first.now) (sym c.leaf-item.is) ∙ sym there ∙ c.is_none.ensures ∙ ap not c.if-is_none.true))

pub loop-leaf-preserved : goal.loop-leaf-preserved
loop-leaf-preserved c =
    let x = c.leaf-item.result in
    let there = path_looked_up c.args.first.now (get_by_text c.args.firsts.now) x.path c.as_str.result.now c.place_of.result c.requires c.place_of.ensures c.as_str.ensures in
    list_all_more (λ m. has_path m.path c.args.first.now) c.args.second.now c.loop-leaf.leaf-index x c.loop-leaf-test.true
    ∙ ap (λ b. b && has_path (get_or c.args.second.now c.loop-leaf.leaf-index x).path c.args.first.now) c.loop-leaf.invariant ∙ ap (λ m. has_path m.path c.args.first.now) (sym c.leaf-item.is) ∙ sym there ∙ c.is_none.ensures ∙ ap not c.if-is_none.false
