use Rattle.std.proofs.Common.{◌≡◌, ◌+◌, ◌*◌, sym, ◌∙◌, subst, get_or}
use Rattle.std.proofs.lemmas.List.{length-set, take_all}
use Rattle.design_ir.specs.Targets.{Bit}
use Rattle.netlist_laws.specs.Ids.{value_id}
use Rattle.netlist_laws.specs.Operators.{Value}
use Rattle.netlist_laws.specs.Latest.{given}
use Rattle.netlist.specs.Tables.{Shows}
use Rattle.netlist.proofs.LowerSources.{given_turn}
use Rattle.netlist.proofs.sources.give.Goals as goal

pub loop-k-preserved : goal.loop-k-preserved
loop-k-preserved c =
    let l = c.loop-k in
    let bs = c.args.places.now in
    let b : Bit = record { sig = c.b.inside.sig; index = c.b.inside.index } in
    let v : Value = record { id = value_id c.args.value.0; form = c.args.shape } in
    let is : b ≡ get_or bs l.k b = subst (λ (x : Bit). x ≡ get_or bs l.k x) (sym c.b.view_is) c.index-places-k.is in
    record {
      long = length-set l.bits.items (b.sig * 128 + b.index) c.source_at.result ∙ l.invariant.long;
      given = λ ids latest old. given_turn ids c.args.count v bs l.k b l.bits.items c.source_at.result latest c.requires.places c.loop-k-test.true is (c.source_at.ensures ids) (l.invariant.given ids latest old);
    }

pub returns-clause-given : goal.returns-clause-given
returns-clause-given c = λ ids latest old.
    let v : Value = record { id = value_id c.args.value.0; form = c.args.shape } in
    subst (λ bs. Shows ids c.args.count c.loop-k.bits.items (given v bs 0 latest)) (take_all c.loop-k.k c.args.places.now c.loop-k-test.false) (c.loop-k.invariant.given ids latest old)
