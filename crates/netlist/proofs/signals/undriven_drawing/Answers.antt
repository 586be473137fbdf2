use Rattle.std.proofs.Common.{◌≡◌, List, Bool, true, false, length, sym, ap, ◌∙◌, arith}
use Rattle.std.specs.Prelude.{slice_index_or}
use Rattle.std.proofs.lemmas.Result.{IfOk-weaker}
use Rattle.netlist_laws.specs.Module.{link_to, driving_drawing}
use Rattle.netlist.proofs.LowerReads.{undriven_read, undriven_free}
use Rattle.netlist.proofs.signals.undriven_drawing.Goals as goal

pub is_marked-requires : goal.is_marked-requires
is_marked-requires c = omega (arith, c.requires.there, c.requires.tables.reads.long, ap (λ (xs : List Bool). length xs) c.as_slice.ensures.value)

pub returns-then-is_marked : goal.returns-then-is_marked
returns-then-is_marked c =
    let d = c.args.design.now in
    let s = c.args.s.0 in
    let reads = c.args.t.now.reads.items in
    let marked : slice_index_or reads s false ≡ true = ap (λ (xs : List Bool). slice_index_or xs s false) (sym c.as_slice.ensures.value) ∙ sym c.is_marked.ensures ∙ c.if-is_marked.true in
    c.new.ensures ∙ ap (driving_drawing d s) (sym (undriven_read d s reads c.requires.tables.reads marked))

pub returns : goal.returns
returns c =
    let d = c.args.design.now in
    let s = c.args.s.0 in
    let reads = c.args.t.now.reads.items in
    let free : slice_index_or reads s false ≡ false = ap (λ (xs : List Bool). slice_index_or xs s false) (sym c.as_slice.ensures.value) ∙ sym c.is_marked.ensures ∙ c.if-is_marked.false in
    IfOk-weaker c.link_to.result _ _ (λ x e. e ∙ ap (link_to d s) c.in_ok-bits.ensures ∙ ap (driving_drawing d s) (sym (undriven_free d s reads c.requires.tables.reads free))) c.link_to.ensures
