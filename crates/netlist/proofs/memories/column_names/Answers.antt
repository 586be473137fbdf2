use Rattle.std.proofs.Common.{ℕ, List, [], ◌∷◌, ◌++◌, map, ap, ◌∙◌, arith}
use Rattle.design_ir.specs.declared.port.Column.{Column}
use Rattle.new_names.specs.Fresh.{fresh_name, given_names}
use Rattle.netlist.proofs.LowerMemories.{columns_turn, columns_end}
use Rattle.netlist.proofs.memories.column_names.Goals as goal

pub loop-k-preserved : goal.loop-k-preserved
loop-k-preserved c =
    let cs = c.args.design.now.columns in
    columns_turn cs c.loop-k.k c.column.result.now c.loop-k.names c.give.new.self (given_names [] (map (λ (x : Column). x.name) cs)) (omega (arith, c.columns-k-end.ensures)) c.column.ensures
    (c.in_ok-give.ensures.names ∙ ap (λ (name : List ℕ). c.loop-k.names ++ fresh_name c.loop-k.names name ∷ []) c.as_str.ensures) c.loop-k.invariant

pub returns : goal.returns
returns c =
    let cs = c.args.design.now.columns in
    columns_end cs c.loop-k.k c.loop-k.names (given_names [] (map (λ (x : Column). x.name) cs)) (omega (arith, c.columns-k-end.ensures)) c.loop-k.invariant
    ∙ c.names_are_new.ensures.stay [] (map (λ (x : Column). x.name) cs) c.processes.ensures.rules.columns.names
