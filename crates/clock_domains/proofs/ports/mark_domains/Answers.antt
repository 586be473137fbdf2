use Rattle.std.proofs.Common.{◌≡◌, ◌<◌, ◌∙◌, length, take, Some, slice_get, refl, ap, sym, subst}
use Rattle.std.specs.List.{AllByRecursion, flat_map}
use Rattle.std.proofs.lemmas.Option.{slice_get_read}
use Rattle.design_ir.specs.declared.domain.Domain.{Domain}
use Rattle.fragment_walks.proofs.Lists.{all_at}
use Rattle.fragment_walks.proofs.Markings.{length_marked}
use Rattle.clock_domains.specs.Resolved.{domain_inputs}
use Rattle.clock_domains.proofs.PortLaws.{inputs_marked}
use Rattle.clock_domains.proofs.ports.mark_domains.Goals as goal

pub mark_domain-requires : goal.mark_domain-requires
mark_domain-requires c =
    let ds = c.args.domains.now in
    let i = c.loop-domain.domain-index in
    let d = c.domain-item.result in
    let old = c.args.marks.now.items in
    let at : slice_get ds i ≡ Some d = slice_get_read ds (length ds) i d refl c.loop-domain-test.true c.domain-item.is in
    let same = ap length c.loop-domain.invariant ∙ length_marked (flat_map domain_inputs (take i ds)) old in
    subst (λ n. AllByRecursion (λ s. s < n) (domain_inputs d)) (sym same) (all_at (λ (d : Domain). AllByRecursion (λ s. s < length old) (domain_inputs d)) ds i d c.requires at)

pub loop-domain-preserved : goal.loop-domain-preserved
loop-domain-preserved c =
    let ds = c.args.domains.now in
    let i = c.loop-domain.domain-index in
    let d = c.domain-item.result in
    let at : slice_get ds i ≡ Some d = slice_get_read ds (length ds) i d refl c.loop-domain-test.true c.domain-item.is in
    inputs_marked ds i d c.args.marks.now.items c.loop-domain.marks.items c.mark_domain.new.marks.items at c.loop-domain.invariant c.mark_domain.ensures
