use Rattle.std.proofs.Common.{◌∙◌, List, length, ap, sym, subst}
use Rattle.std.specs.List.{flat_map}
use Rattle.design_ir.specs.declared.ids.ExprId.{ExprId}
use Rattle.design_ir.specs.declared.memory.Memory.{Memory}
use Rattle.design_ir.specs.declared.process.Process.{Process}
use Rattle.design_ir.specs.Guards.{block_exprs}
use Rattle.design_ir.specs.Named.{AllBelow}
use Rattle.fragment_walks.specs.Marks.{marked, numbers}
use Rattle.fragment_walks.proofs.Lists.{below_split}
use Rattle.domain_transforms.specs.Placed.{memory_exprs}
use Rattle.domain_transforms.proofs.RootLaws.{marked_both, same_length}
use Rattle.domain_transforms.proofs.roots.mark_leaf.Goals as goal

pub mark_processes-requires : goal.mark_processes-requires
mark_processes-requires c =
    let m = c.args.module.now in
    let n = length c.args.marks.now.items in
    subst (λ ps. AllBelow n (flat_map (λ (p : Process). block_exprs p.body) ps)) (sym c.as_slice.ensures) (below_split n (flat_map (λ (p : Process). block_exprs p.body) m.processes) (flat_map memory_exprs m.memories) c.requires).0

pub mark_memories-requires : goal.mark_memories-requires
mark_memories-requires c =
    let m = c.args.module.now in
    let n = length c.args.marks.now.items in
    let own : List Process → List ExprId = flat_map (λ (p : Process). block_exprs p.body) in
    let before = subst (λ ms. AllBelow n (flat_map memory_exprs ms)) (sym c.as_slice-2.ensures) (below_split n (own m.processes) (flat_map memory_exprs m.memories) c.requires).1 in
    subst (λ k. AllBelow k (flat_map memory_exprs c.as_slice-2.result.now)) (sym (same_length (own c.as_slice.result.now) c.args.marks.now.items c.mark_processes.new.marks.items c.mark_processes.ensures)) before

pub returns : goal.returns
returns c =
    let m = c.args.module.now in
    let old = c.args.marks.now.items in
    let own : List Process → List ExprId = flat_map (λ (p : Process). block_exprs p.body) in
    c.mark_memories.ensures ∙ ap (marked (numbers (flat_map memory_exprs c.as_slice-2.result.now))) c.mark_processes.ensures
    ∙ ap (λ (ms : List Memory). marked (numbers (flat_map memory_exprs ms)) (marked (numbers (own c.as_slice.result.now)) old)) c.as_slice-2.ensures
    ∙ ap (λ (ps : List Process). marked (numbers (flat_map memory_exprs m.memories)) (marked (numbers (own ps)) old)) c.as_slice.ensures
    ∙ marked_both (own m.processes) (flat_map memory_exprs m.memories) old
