use Rattle.std.proofs.Common.{◌≡◌, ◌∙◌, List, [], ◌∷◌, ◌++◌, sym, subst, ap, length, map}
use Rattle.std.proofs.lemmas.List.{append-nil}
use Rattle.std.proofs.lemmas.List.Elements.{Contains-push}
use Rattle.digraph.specs.declared.walk.Mark.TheVariants.{Open, Done}
use Rattle.digraph.specs.declared.walk.Frame.{Frame}
use Rattle.digraph.specs.Walks.{Walking, mark, IsOver, GoesOn, finished}
use Rattle.digraph.proofs.GraphLists.{nil_of_length}
use Rattle.digraph.proofs.WalkLaws.{marked_inside, kept-set}
use Rattle.digraph.proofs.WalkTurns.{finished_goes, finished_ends}
use Rattle.digraph.proofs.WalkWork.{work_back}
use Rattle.digraph.proofs.walk.Walk.back.Goals as goal

pub finish-requires : goal.finish-requires
finish-requires c =
    let was : mark c.args.self.now.marks c.args.at.node ≡ Open = c.requires.stands.on_path.is_open c.args.at.node (Contains-push (map (λ (f : Frame). f.node) c.args.self.now.path) c.args.at.node) in
    marked_inside c.args.self.now.marks c.args.at.node Open was (λ q. cc)

-- the walk once the node is done, with this path
abbrev with_path : Walking → List Frame → Walking
with_path v path = record { marks = v.marks; path = path; order = v.order }

pub returns-in_default : goal.returns-in_default
returns-in_default c =
    let g = c.args.graph.now in
    let w = c.args.self.now in
    let at = c.args.at in
    let is = c.self.view_is ∙ c.in_ok-finish.ensures in
    let items : c.self.inside.path.items ≡ c.pop.new.self.items ++ [] = c.in_default.ensures.items in
    let same : c.pop.new.self.items ≡ w.path = sym (append-nil c.pop.new.self.items) ∙ sym items ∙ ap (λ (v : Walking). v.path) is in
    let len : length c.pop.new.self.items ≡ 0 = sym c.pop.new.self.ok.0 ∙ c.in_default.ensures.cases.1 in
    let none : w.path ≡ [] = sym same ∙ nil_of_length c.pop.new.self.items len in
    let after = ap (λ (v : Walking). with_path v c.pop.new.self.items) is ∙ ap (with_path (finished w at.node)) (same ∙ none) in
    let was : mark w.marks at.node ≡ Open = c.requires.stands.on_path.is_open at.node (Contains-push (map (λ (f : Frame). f.node) w.path) at.node) in
    let kept = kept-set w.marks at.node Done (marked_inside w.marks at.node Open was (λ q. cc)) (λ q. cc) in
    subst (IsOver g w) (sym after) (record { idle = finished_ends g w at c.requires.stands c.requires.read none; kept = kept })

pub returns : goal.returns
returns c =
    let g = c.args.graph.now in
    let w = c.args.self.now in
    let at = c.args.at in
    let below = c.in-Some.below in
    let left = c.pop.new.self.items in
    let was : mark w.marks at.node ≡ Open = c.requires.stands.on_path.is_open at.node (Contains-push (map (λ (f : Frame). f.node) w.path) at.node) in
    let is = c.self.view_is ∙ c.in_ok-finish.ensures in
    let items : c.self.inside.path.items ≡ left ++ below ∷ [] = c.in-Some.ensures.items in
    let split : w.path ≡ left ++ below ∷ [] = sym (ap (λ (v : Walking). v.path) is) ∙ items in
    let after = ap (λ (v : Walking). with_path v left) is in
    let P : Walking → Type 0 = λ v. GoesOn g w at v below in
    subst P (sym after) (record {
      stands = finished_goes g w at below left c.requires.stands c.requires.read split;
      less = work_back g w at below left (w.order ++ at.node ∷ []) c.requires.read split was;
      kept = kept-set w.marks at.node Done (marked_inside w.marks at.node Open was (λ q. cc)) (λ q. cc);
    })
