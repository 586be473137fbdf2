use Rattle.std.proofs.Common.{arith}
use Rattle.amh_host.proofs.WholeLaws.{front_read}
use Rattle.amh_host.proofs.whole.read_whole.Goals as goal

pub returns-clause-bytes : goal.returns-clause-bytes
returns-clause-bytes g c =
    front_read (g.H.Host.seen c.args.host.now).files c.args.name.now c.loop-piece.bytes.items c.args.limit c.loop-piece.bytes.len
    c.loop-piece.bytes.ok.0 (omega (arith, c.loop-piece-test.false, c.len.ensures)) c.loop-piece.invariant.so_far
