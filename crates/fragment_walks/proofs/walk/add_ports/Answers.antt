use Rattle.std.proofs.Common.{◌≡◌, ◌∙◌, ◌++◌, ℕ, List, length, map, Some, slice_get, refl, ap, append_assoc}
use Rattle.std.specs.List.{filter_map}
use Rattle.std.proofs.lemmas.Option.{slice_get_read}
use Rattle.design_ir.specs.declared.memory.MemWrite.{MemWrite}
use Rattle.design_ir.specs.declared.memory.MemRead.{MemRead}
use Rattle.fragment_walks.specs.Walks.{port_names}
use Rattle.fragment_walks.proofs.ExprLists.{flat_added}
use Rattle.fragment_walks.proofs.walk.add_ports.Goals as goal

abbrev write_names : List MemWrite → List (List ℕ)
write_names ws = map (λ (w : MemWrite). w.domain) ws

abbrev read_names : List MemRead → List (List ℕ)
read_names rs = filter_map (λ (r : MemRead). r.domain) rs

pub loop-memory-preserved : goal.loop-memory-preserved
loop-memory-preserved c =
    let ms = c.args.memories.now in
    let i = c.loop-memory.memory-index in
    let m = c.memory-item.result in
    let at : slice_get ms i ≡ Some m = slice_get_read ms (length ms) i m refl c.loop-memory-test.true c.memory-item.is in
    let cur : List (List ℕ) = c.loop-memory.names in
    let ws : List MemWrite = c.as_slice.result.now in
    let rs : List MemRead = c.as_slice-in-loop-memory.result.now in
    flat_added port_names ms i m c.args.names.now cur c.add_reads.new.names at c.loop-memory.invariant
    (c.in_ok-add_reads.ensures ∙ ap (λ xs. xs ++ read_names rs) c.in_ok-add_writes.ensures ∙ append_assoc cur (write_names ws) (read_names rs)
    ∙ ap (λ us. cur ++ (write_names us ++ read_names rs)) c.as_slice.ensures ∙ ap (λ us. cur ++ (write_names m.writes ++ read_names us)) c.as_slice-in-loop-memory.ensures)
