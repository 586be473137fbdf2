use Rattle.std.proofs.Common.{◌∙◌, sym, subst}
use Rattle.design_ir.specs.Named.{AllBelow}
use Rattle.domain_transforms.specs.Placed.{fragment_exprs}
use Rattle.domain_transforms.proofs.RootLaws.{same_length, within_is}
use Rattle.domain_transforms.proofs.roots.within_marks.Goals as goal

pub mark_fragment-requires : goal.mark_fragment-requires
mark_fragment-requires c = subst (λ n. AllBelow n (fragment_exprs c.args.f.now)) (sym (c.in_ok-marks.ensures.size ∙ c.count.ensures.value)) c.requires

pub spread_all-requires : goal.spread_all-requires
spread_all-requires c = record { size = same_length (fragment_exprs c.args.f.now) c.in_ok-marks.marks.items c.mark_fragment.new.marks.items c.mark_fragment.ensures ∙ c.in_ok-marks.ensures.size ∙ c.count.ensures.value }

pub returns-clause-each : goal.returns-clause-each
returns-clause-each c = λ n below.
    c.spread_all.ensures.reach n below
    ∙ within_is c.args.pool.now (fragment_exprs c.args.f.now) c.in_ok-marks.marks.items c.mark_fragment.new.marks.items n c.requires (c.in_ok-marks.ensures.size ∙ c.count.ensures.value) c.in_ok-marks.ensures.each c.mark_fragment.ensures
