use Rattle.std.proofs.Common.{ap, sym, ◌∙◌, ◌++◌, position, slice_set, arith}
use Rattle.std.proofs.lemmas.Result.{on_ok_weaker}
use Rattle.std.proofs.lemmas.List.{nil_from_length}
use Rattle.py_values.specs.Bindings.{by_bytes, bound_to}
use Rattle.py_values.proofs.BindingLaws.{has_name, bound_to-front, bound_to-behind, bound_to-end}
use Rattle.py_values.proofs.bindings.Bindings.bind.Goals as goal

pub returns-in-Some-clause-ok : goal.returns-in-Some-clause-ok
returns-in-Some-clause-ok c =
    let name = c.args.name.now in
    let few = c.self.inside.few.items in
    let more = c.self.inside.more.entries in
    let at = ap (position (has_name name)) (sym c.deref.ensures.value) ∙ sym c.place_in.ensures ∙ c.in-Some.is in
    ap (λ e. by_bytes (slice_set few c.in-Some.i (e.0, c.args.v) ++ more)) c.index_mut.ensures.value
    ∙ bound_to-front name c.args.v few more c.in-Some.i c.index_mut.result.now at ∙ ap (bound_to name c.args.v) c.self.view_is

pub returns-in-None-clause-ok : goal.returns-in-None-clause-ok
returns-in-None-clause-ok c =
    let name = c.args.name.now in
    let few = c.self.inside.few.items in
    let more = c.self.inside.more.entries in
    let none = ap (position (has_name name)) (sym c.deref.ensures.value) ∙ sym c.place_in.ensures ∙ c.in-None.is in
    let empty = nil_from_length more (c.self.invariant.1 (omega (arith, c.if-len-lt-FEW.true, c.len.ensures, c.self.inside.few.ok.0))) in
    on_ok_weaker c.add_name.result
    (λ e. bound_to-end name c.args.v few more c.add_name.new.few.items none empty e ∙ ap (bound_to name c.args.v) c.self.view_is)
    c.add_name.ensures.ok

pub returns-in-None-2-clause-ok : goal.returns-in-None-2-clause-ok
returns-in-None-2-clause-ok c =
    let name = c.args.name.now in
    let few = c.self.inside.few.items in
    let more = c.self.inside.more.entries in
    let none = ap (position (has_name name)) (sym c.deref.ensures.value) ∙ sym c.place_in.ensures ∙ c.in-None-2.is in
    on_ok_weaker c.bind_in.result
    (λ e. bound_to-behind name c.args.v few more c.bind_in.new.more.entries none e ∙ ap (bound_to name c.args.v) c.self.view_is)
    c.bind_in.ensures.ok
