use Rattle.std.proofs.Common.{◌≡◌, length, Some, slice_get, refl}
use Rattle.std.proofs.lemmas.Option.{slice_get_read}
use Rattle.fragment_walks.specs.Marks.{is_marked}
use Rattle.fragment_walks.proofs.Lists.{all_at}
use Rattle.clock_domains.specs.Chosen.{IsSignal}
use Rattle.clock_domains.specs.Resolved.{ports_of_domain}
use Rattle.clock_domains.proofs.PortLaws.{domains_turn}
use Rattle.clock_domains.proofs.ports.domain_ports.Goals as goal

pub add_domain-requires-clause-there : goal.add_domain-requires-clause-there
add_domain-requires-clause-there c =
    let ds = c.args.domains.now in
    let i = c.loop-domain.domain-index in
    let d = c.domain-item.result in
    let at : slice_get ds i ≡ Some d = slice_get_read ds (length ds) i d refl c.loop-domain-test.true c.domain-item.is in
    all_at (IsSignal c.args.pool.now) ds i d c.requires.there at

pub loop-domain-preserved : goal.loop-domain-preserved
loop-domain-preserved c =
    let ds = c.args.domains.now in
    let i = c.loop-domain.domain-index in
    let d = c.domain-item.result in
    let at : slice_get ds i ≡ Some d = slice_get_read ds (length ds) i d refl c.loop-domain-test.true c.domain-item.is in
    domains_turn (ports_of_domain c.args.pool.now ds (is_marked c.args.driven.now)) ds i d c.loop-domain.ports c.add_domain.new.ports at c.loop-domain.invariant c.in_ok-add_domain.ensures
