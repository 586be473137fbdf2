use Rattle.std.proofs.Common.{◌≡◌, ◌∷◌, [], length, take, Some, slice_get, refl}
use Rattle.std.specs.List.{filter_map}
use Rattle.std.proofs.lemmas.Option.{slice_get_read}
use Rattle.std.proofs.lemmas.List.Elements.{filter_map-append}
use Rattle.design_ir.specs.declared.memory.MemRead.{MemRead}
use Rattle.fragment_walks.proofs.ExprLists.{added_turn}
use Rattle.fragment_walks.proofs.walk.add_reads.Goals as goal

pub loop-read-preserved : goal.loop-read-preserved
loop-read-preserved c =
    let rs = c.args.reads.now in
    let i = c.loop-read.read-index in
    let r = c.read-item.result in
    let at : slice_get rs i ≡ Some r = slice_get_read rs (length rs) i r refl c.loop-read-test.true c.read-item.is in
    added_turn (filter_map (λ (x : MemRead). x.domain)) rs i r (filter_map (λ (x : MemRead). x.domain) (r ∷ [])) c.args.names.now c.loop-read.names c.add_read.new.names at
    (filter_map-append (λ (x : MemRead). x.domain) (take i rs) (r ∷ [])) c.loop-read.invariant c.in_ok-add_read.ensures
