use Rattle.std.proofs.Common.{◌∙◌, List, length, ap, sym, subst}
use Rattle.std.specs.List.{flat_map}
use Rattle.design_ir.specs.declared.memory.MemWrite.{MemWrite}
use Rattle.design_ir.specs.declared.memory.MemRead.{MemRead}
use Rattle.design_ir.specs.Named.{AllBelow}
use Rattle.fragment_walks.specs.Marks.{marked, numbers}
use Rattle.fragment_walks.proofs.Lists.{below_split}
use Rattle.domain_transforms.specs.Placed.{read_exprs, write_exprs}
use Rattle.domain_transforms.proofs.RootLaws.{marked_both, same_length}
use Rattle.domain_transforms.proofs.roots.mark_memory.Goals as goal

pub mark_writes-requires : goal.mark_writes-requires
mark_writes-requires c =
    let m = c.args.memory.now in
    let n = length c.args.marks.now.items in
    subst (λ ws. AllBelow n (flat_map write_exprs ws)) (sym c.as_slice.ensures) (below_split n (flat_map write_exprs m.writes) (flat_map read_exprs m.reads) c.requires).0

pub mark_reads-requires : goal.mark_reads-requires
mark_reads-requires c =
    let m = c.args.memory.now in
    let n = length c.args.marks.now.items in
    let before = subst (λ rs. AllBelow n (flat_map read_exprs rs)) (sym c.as_slice-2.ensures) (below_split n (flat_map write_exprs m.writes) (flat_map read_exprs m.reads) c.requires).1 in
    subst (λ k. AllBelow k (flat_map read_exprs c.as_slice-2.result.now)) (sym (same_length (flat_map write_exprs c.as_slice.result.now) c.args.marks.now.items c.mark_writes.new.marks.items c.mark_writes.ensures)) before

pub returns : goal.returns
returns c =
    let m = c.args.memory.now in
    let old = c.args.marks.now.items in
    c.mark_reads.ensures ∙ ap (marked (numbers (flat_map read_exprs c.as_slice-2.result.now))) c.mark_writes.ensures
    ∙ ap (λ (rs : List MemRead). marked (numbers (flat_map read_exprs rs)) (marked (numbers (flat_map write_exprs c.as_slice.result.now)) old)) c.as_slice-2.ensures
    ∙ ap (λ (ws : List MemWrite). marked (numbers (flat_map read_exprs m.reads)) (marked (numbers (flat_map write_exprs ws)) old)) c.as_slice.ensures
    ∙ marked_both (flat_map write_exprs m.writes) (flat_map read_exprs m.reads) old
