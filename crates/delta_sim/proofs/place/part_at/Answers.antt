use Rattle.std.proofs.Common.{◌∙◌, sym, ap, subst, Some, length, unsigned_abs, min, ◌*◌, ◌-◌, slice_get}
use Rattle.shape_rules.specs.Forms.{Form}
use Rattle.design_ir.specs.declared.expr.Expr as expr
use Rattle.design_ir.specs.declared.expr.Expr.{Expr}
use Rattle.design_ir.specs.declared.expr.Expr.TheVariants.{Slice, Cat, Part, Pick, Cast}
use Rattle.design_ir.proofs.Equations.{standing}
use Rattle.delta_sim.specs.Walked.{IsWalked}
use Rattle.delta_sim.proofs.PlaceWalks.{among_there, among_below, among_named, signal_walked, slice_walked, cat_walked, part_walked, pick_walked, cast_walked, other_walked, all_there}
use Rattle.delta_sim.proofs.place.part_at.Goals as goal

pub at-requires : goal.at-requires
at-requires c = among_there c.args.design.now.pool c.args.env.now c.args.nums.now c.args.task.now.exprs c.requires.read c.args.e.0 c.requires.among

pub shape-requires : goal.shape-requires
shape-requires c = among_there c.args.design.now.pool c.args.env.now c.args.nums.now c.args.task.now.exprs c.requires.read c.args.e.0 c.requires.among

pub signal_place-requires : goal.signal_place-requires
signal_place-requires c =
    let p = c.args.design.now.pool in
    (standing p c.args.e.0 (expr.TheVariants.Sig c.in-Sig.s) c.requires.read.rules (c.at.ensures ∙ ap Some c.in-Sig.is)).askable.parts

pub item_at-requires : goal.item_at-requires
item_at-requires c =
    let p = c.args.design.now.pool in
    let among = among_named p c.args.env.now c.args.nums.now c.args.task.now.exprs c.requires.read c.args.e.0 (Cat c.in-Cat.items) (c.at.ensures ∙ ap Some c.in-Cat.is) c.requires.among in
    all_there p c.args.env.now c.args.nums.now c.args.task.now.exprs c.requires.read c.in-Cat.items among

pub number-requires : goal.number-requires
number-requires c =
    let p = c.args.design.now.pool in
    let among = among_named p c.args.env.now c.args.nums.now c.args.task.now.exprs c.requires.read c.args.e.0 (Part c.in-Part.a c.in-Part.offset c.in-Part.width c.in-Part.stride) (c.at.ensures ∙ ap Some c.in-Part.is) c.requires.among in
    among_below p c.args.env.now c.args.nums.now c.args.task.now.exprs c.requires.read c.in-Part.offset.0 among.1.0

pub number-requires-in-Pick : goal.number-requires-in-Pick
number-requires-in-Pick c =
    let p = c.args.design.now.pool in
    let among = among_named p c.args.env.now c.args.nums.now c.args.task.now.exprs c.requires.read c.args.e.0 (Pick c.in-Pick.index c.in-Pick.items) (c.at.ensures ∙ ap Some c.in-Pick.is) c.requires.among in
    among_below p c.args.env.now c.args.nums.now c.args.task.now.exprs c.requires.read c.in-Pick.index.0 among.0

pub chosen-requires : goal.chosen-requires
chosen-requires c =
    let p = c.args.design.now.pool in
    (standing p c.args.e.0 (Pick c.in-Pick.index c.in-Pick.items) c.requires.read.rules (c.at.ensures ∙ ap Some c.in-Pick.is)).askable.parts

pub returns-in-Sig : goal.returns-in-Sig
returns-in-Sig c =
    c.signal_place.ensures
    ∙ signal_walked c.args.design.now.pool c.args.env.now c.args.nums.now c.args.task.now.exprs c.requires.read c.args.e.0 c.requires.among c.requires.target c.in-Sig.s c.args.i (c.at.ensures ∙ ap Some c.in-Sig.is)

pub returns-in-Slice : goal.returns-in-Slice
returns-in-Slice c =
    subst (IsWalked c.args.design.now.pool c.args.env.now c.args.task.now.exprs c.args.e.0 c.args.i) (sym c.window.ensures)
    (slice_walked c.args.design.now.pool c.args.env.now c.args.nums.now c.args.task.now.exprs c.requires.read c.args.e.0 c.requires.among c.requires.target c.in-Slice.a c.in-Slice.low c.in-Slice.width c.args.i (c.at.ensures ∙ ap Some c.in-Slice.is))

pub returns-in-Cat : goal.returns-in-Cat
returns-in-Cat c =
    subst (IsWalked c.args.design.now.pool c.args.env.now c.args.task.now.exprs c.args.e.0 c.args.i) (sym c.item_at.ensures)
    (cat_walked c.args.design.now.pool c.args.env.now c.args.nums.now c.args.task.now.exprs c.requires.read c.args.e.0 c.requires.among c.requires.target c.in-Cat.items c.args.i (c.at.ensures ∙ ap Some c.in-Cat.is))

pub returns-in-Part : goal.returns-in-Part
returns-in-Part c =
    subst (IsWalked c.args.design.now.pool c.args.env.now c.args.task.now.exprs c.args.e.0 c.args.i) (sym c.window-in-Part.ensures)
    (part_walked c.args.design.now.pool c.args.env.now c.args.nums.now c.args.task.now.exprs c.requires.read c.args.e.0 c.requires.among c.requires.target c.in-Part.a c.in-Part.offset c.in-Part.width c.in-Part.stride c.args.i c.start.result (c.at.ensures ∙ ap Some c.in-Part.is)
    (c.start.ensures ∙ ap (λ n. min (unsigned_abs n * c.in-Part.stride) 128) c.number.ensures))

pub returns-in-Pick : goal.returns-in-Pick
returns-in-Pick c =
    let p = c.args.design.now.pool in
    subst (IsWalked p c.args.env.now c.args.task.now.exprs c.args.e.0 c.args.i) (sym c.window-in-Pick.ensures)
    (pick_walked p c.args.env.now c.args.nums.now c.args.task.now.exprs c.requires.read c.args.e.0 c.requires.among c.requires.target c.in-Pick.index c.in-Pick.items c.chosen.result c.width.inside.width c.args.i (c.at.ensures ∙ ap Some c.in-Pick.is)
    (ap (λ (f : Form). f.width) (c.width.view_is ∙ c.shape.ensures))
    (ap (λ n. slice_get c.in-Pick.items (min (unsigned_abs n) (length c.in-Pick.items - 1))) (sym c.number-in-Pick.ensures) ∙ c.chosen.ensures))

pub returns-in-Cast : goal.returns-in-Cast
returns-in-Cast c =
    cast_walked c.args.design.now.pool c.args.env.now c.args.nums.now c.args.task.now.exprs c.requires.read c.args.e.0 c.requires.among c.requires.target c.in-Cast.a c.in-Cast.signed c.args.i (c.at.ensures ∙ ap Some c.in-Cast.is)

pub returns-in_default : goal.returns-in_default
returns-in_default c =
    let h = c.in_default in
    other_walked c.args.design.now.pool c.args.env.now c.args.nums.now c.args.task.now.exprs c.requires.read c.args.e.0 c.requires.among c.requires.target c.at.result.now c.args.i c.at.ensures h.not-Sig h.not-Slice h.not-Cat h.not-Part h.not-Pick h.not-Cast
