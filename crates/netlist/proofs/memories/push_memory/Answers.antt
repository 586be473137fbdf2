use Rattle.std.proofs.Common.{◌≡◌, ◌+◌, ◌*◌, ◌∷◌, [], ◌++◌, ℕ, List, true, false, sym, ap, ◌∙◌, arith}
use Rattle.memory_cells.specs.declared.plan.Plan.{Plan}
use Rattle.new_names.specs.Fresh.{fresh_name}
use Rattle.rtlil_text.specs.declared.module.RtlMemory.{RtlMemory}
use Rattle.netlist_laws.specs.Module.{is_there}
use Rattle.netlist_laws.specs.MemoryDrawings.{plan_of}
use Rattle.netlist.proofs.LowerMemories.{one_named, one_line, one_drawn, one_count, none_named, none_line, none_drawn, none_count}
use Rattle.netlist.proofs.memories.push_memory.Goals as goal

pub push_parts-requires-clause-counted : goal.push_parts-requires-clause-counted
push_parts-requires-clause-counted c = ap (λ (p : Plan). p.writes) c.in_ok-plan.ensures.plan

pub returns-then-not-is_there : goal.returns-then-not-is_there
returns-then-not-is_there c =
    let d = c.args.design.now in
    let names = c.args.names.now in
    let m = c.args.m.now in
    let away : is_there m ≡ false = sym c.is_there.ensures ∙ c.if-not-is_there.true in
    record {
      names = none_named d names m away;
      lines = none_line d names m away c.args.lines.now;
      drawn = none_drawn d names m away c.args.n c.args.drawing.now;
      count = none_count d names m away c.args.n;
      few = omega arith;
    }

pub returns : goal.returns
returns c =
    let d = c.args.design.now in
    let names = c.args.names.now in
    let m = c.args.m.now in
    let there : is_there m ≡ true = sym c.is_there.ensures ∙ c.if-not-is_there.false in
    let name = c.in_ok-name.name in
    let named : name ≡ fresh_name names m.name = c.in_ok-name.ensures.fresh ∙ ap (fresh_name names) c.as_str.ensures in
    let p = c.in_ok-plan.plan in
    let plan : p ≡ plan_of name m = c.in_ok-plan.ensures.plan ∙ ap (λ (x : List ℕ). plan_of x m) c.as_str-2.ensures in
    record {
      names = one_named d names m there name named p plan c.give.new.self (c.in_ok-name.ensures.names ∙ ap (λ (x : List ℕ). names ++ fresh_name names x ∷ []) c.as_str.ensures);
      lines = one_line d names m there name named p plan c.args.lines.now c.push.new.self (c.in_ok-push.ensures.ok ∙ ap (λ (x : RtlMemory). c.args.lines.now ++ x ∷ []) c.in_ok-memory.ensures);
      drawn = one_drawn d names m there name named p plan c.args.n c.args.drawing.now c.push_parts.new.drawing c.in_ok-push_parts.ensures;
      count = (λ i. c.args.n + 11 * (1 + c.len.ensures i + c.len-2.ensures i)) ∙ one_count d names m there name named p plan c.args.n;
      few = omega (arith, c.len.ensures, c.len-2.ensures, c.requires.memory.few_ports);
    }
