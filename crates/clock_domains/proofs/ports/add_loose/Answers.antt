use Rattle.fragment_walks.specs.Marks.{is_marked}
use Rattle.clock_domains.specs.Chosen.{is_new, known_port}
use Rattle.clock_domains.proofs.PortLaws.{loose_turn}
use Rattle.clock_domains.proofs.ports.add_loose.Goals as goal

pub loop-s-preserved : goal.loop-s-preserved
loop-s-preserved c =
    loose_turn (known_port c.args.pool.now c.args.domains.now (is_marked c.args.known.now.own.items) (is_marked c.args.known.now.driven.items) (is_marked c.args.known.now.read.items)) (is_new c.args.pool.now (is_marked c.args.known.now.is_port.items)) c.loop-s.s c.args.ports.now c.loop-s.ports c.add_signal.new.ports
    c.loop-s.invariant c.in_ok-add_signal.ensures
