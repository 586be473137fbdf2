use Rattle.std.proofs.Common.{◌≡◌, ◌∙◌, ◌++◌, ◌∷◌, [], false, Some, slice_get, slice_set, true, length, refl, sym, subst}
use Rattle.std.proofs.lemmas.Option.{slice_get_read, get_or_from_slice_get}
use Rattle.module_dsl.specs.Walks.{is_marked, IsReached}
use Rattle.module_dsl.proofs.TargetWalks.{reached_new}
use Rattle.module_dsl.proofs.target.Walk.reach.Goals as goal

pub returns-in_ok-push : goal.returns-in_ok-push
returns-in_ok-push c =
    let marks = c.args.self.now.marks.items in
    let e = c.args.e in
    let h = c.if-not-index.true in
    let at : slice_get marks e.0 ≡ Some c.index.result.now = slice_get_read marks (length marks) e.0 c.index.result.now refl c.requires c.index.ensures in
    let unmarked : is_marked marks e.0 ≡ false = get_or_from_slice_get marks e.0 c.index.result.now false at ∙ h in
    let more : c.push.new.self.items ≡ c.args.self.now.waiting.items ++ e ∷ [] = c.in_ok-push.ensures.items in
    subst (λ ws. IsReached (e.0 ∷ []) marks c.args.self.now.waiting.items (slice_set marks e.0 true) ws) (sym more) (reached_new marks c.args.self.now.waiting.items e c.requires unmarked)
