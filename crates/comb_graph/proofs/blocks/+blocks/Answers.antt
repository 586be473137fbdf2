use Rattle.std.proofs.Common.{◌≡◌, ◌∙◌, ◌+◌, ◌<◌, [], ◌∷◌, refl, sym, subst, ap, arith, length, take, Some, slice_get}
use Rattle.std.proofs.lemmas.Option.{slice_get_read}
use Rattle.design_ir.specs.Trees.{block_size, choices_size, statement_size}
use Rattle.design_ir.specs.Statements.{statement_of, block_of, choices_of}
use Rattle.design_ir.specs.Guards.{Guarded, block_exprs, choices_exprs}
use Rattle.design_ir.specs.Named.{AllBelow}
use Rattle.design_ir.specs.Values.{form}
use Rattle.design_ir.specs.declared.stmt.Stmt.{Stmt}
use Rattle.design_ir.specs.declared.stmt.Arm.{Arm}
use Rattle.std.proofs.lemmas.List.{append-nil}
use Rattle.digraph.specs.Graphs.{IsGraph}
use Rattle.digraph.specs.Graphs.{Digraph, joined}
use Rattle.comb_graph.specs.Meanings.{Extends}
use Rattle.comb_graph.specs.Places.{HasPlaces, bit_nodes, first_of, whole_at}
use Rattle.comb_graph.specs.Rules.{Adds, AddsBlock, AddsStatement, AddsArms, MeansPassed, rules_of}
use Rattle.comb_graph.proofs.GraphMeanings.{extends_then, extends_joined, two_inside}
use Rattle.comb_graph.proofs.GraphPlaces.{whole}
use Rattle.comb_graph.proofs.GraphTables.{places_more}
use Rattle.comb_graph.proofs.GraphBlocks.{statement_names, arm_names, block_turn, arms_turn, passed_turn}
use Rattle.digraph.proofs.Takes.{take_end}
use Rattle.comb_graph.proofs.blocks.+blocks.Goals as goal

-- ---- a block

pub add_block-add_statement-requires : goal.add_block-add_statement-requires
add_block-add_statement-requires t c =
    let g = c.args.graph.now in
    let pool = c.args.design.now.pool in
    let items = c.as_slice-statement-items.result.now in
    let i = c.loop-statement.statement-index in
    let at : slice_get items i ≡ Some c.statement-item.result = slice_get_read items (length items) i c.statement-item.result refl c.loop-statement-test.true c.statement-item.is in
    let places = places_more g c.loop-statement.graph pool c.args.tables.0.now c.known.ensures c.loop-statement.invariant.extends c.requires.places in
    let body : block_of items ≡ c.args.body.now = c.as_slice-statement-items.ensures.value in
    let names = statement_names (length pool.exprs) items i c.statement-item.result (subst (λ b. AllBelow (length pool.exprs) (block_exprs b)) (sym body) c.requires.names) at in
    let item = c.statement-item.result in
    let small : statement_size (statement_of item) < block_size c.args.body.now =
    subst (λ (s : Stmt). statement_size (statement_of s) < block_size c.args.body.now) (sym c.statement-item.is) (c.as_slice-statement-items.ensures.smaller i item c.loop-statement-test.true) in
    let measure : block_size c.args.body.now ≡ t = c.decreases in
    let less : statement_size (statement_of item) < t = omega (arith, small, measure) in
    let inside : c.args.guard < c.loop-statement.graph.size = omega (arith, c.requires.guard, c.loop-statement.invariant.extends.size) in
    (less, (c.requires.rules, (places, (c.requires.aims, (c.requires.count, (names, inside))))))

pub add_block-loop-statement-preserved : goal.add_block-loop-statement-preserved
add_block-loop-statement-preserved t c =
    let g = c.args.graph.now in
    let h = c.loop-statement.graph in
    let j = c.add_statement.new.graph in
    let pool = c.args.design.now.pool in
    let items = c.as_slice-statement-items.result.now in
    let i = c.loop-statement.statement-index in
    let at : slice_get items i ≡ Some c.statement-item.result = slice_get_read items (length items) i c.statement-item.result refl c.loop-statement-test.true c.statement-item.is in
    record {
      extends = extends_then g h j (bit_nodes pool) c.loop-statement.invariant.extends c.in_ok-add_statement.ensures.extends;
      rules = block_turn g h j pool c.args.guard items i c.statement-item.result c.known.ensures c.loop-statement.invariant.extends at c.loop-statement.invariant.rules c.in_ok-add_statement.ensures.rules;
    }

pub add_block-returns-clause-rules : goal.add_block-returns-clause-rules
add_block-returns-clause-rules t c =
    let items = c.as_slice-statement-items.result.now in
    let end : c.loop-statement.statement-index ≡ length items = omega (arith, c.loop-statement-test.false, c.loop-statement.auto.statement-index-end) in
    let all : block_of (take c.loop-statement.statement-index items) ≡ c.args.body.now = ap block_of (take_end items c.loop-statement.statement-index end) ∙ c.as_slice-statement-items.ensures.value in
    subst (AddsBlock c.args.graph.now c.loop-statement.graph c.args.design.now.pool c.args.guard) all c.loop-statement.invariant.rules

-- ---- a statement

pub add_statement-returns-in_ok-add_assignment-in-Assign-clause-rules : goal.add_statement-returns-in_ok-add_assignment-in-Assign-clause-rules
add_statement-returns-in_ok-add_assignment-in-Assign-clause-rules t c =
    let g = c.args.graph.now in
    let h = c.add_assignment.new.graph in
    let pool = c.args.design.now.pool in
    let added = c.in_ok-add_assignment-in-Assign.ensures.rules in
    subst (λ (s : Stmt). AddsStatement g h pool c.args.guard (statement_of s)) (sym c.in-Assign.is)
    (λ gs m.
    let x : Guarded = record { guards = gs; target = c.in-Assign.target; value = c.in-Assign.value; place = c.in-Assign.place } in
    subst (Adds g h pool) (sym (append-nil (rules_of pool x))) (added x refl refl m))

pub add_statement-returns-in_ok-add_arms-in-Choose-clause-rules : goal.add_statement-returns-in_ok-add_arms-in-Choose-clause-rules
add_statement-returns-in_ok-add_arms-in-Choose-clause-rules t c =
    subst (λ (s : Stmt). AddsStatement c.args.graph.now c.add_arms.new.graph c.args.design.now.pool c.args.guard (statement_of s)) (sym c.in-Choose.is) c.in_ok-add_arms-in-Choose.ensures.rules

-- ---- arms

pub add_arms-guard_arm-requires-clause-places : goal.add_arms-guard_arm-requires-clause-places
add_arms-guard_arm-requires-clause-places t c =
    places_more c.args.graph.now c.loop-arm.graph c.args.design.now.pool c.args.tables.0.now c.known.ensures c.loop-arm.invariant.extends c.requires.places

pub add_arms-guard_arm-requires-clause-condition : goal.add_arms-guard_arm-requires-clause-condition
add_arms-guard_arm-requires-clause-condition t c =
    let pool = c.args.design.now.pool in
    let items = c.as_slice-arm-items.result.now in
    let i = c.loop-arm.arm-index in
    let at : slice_get items i ≡ Some c.arm-item.result = slice_get_read items (length items) i c.arm-item.result refl c.loop-arm-test.true c.arm-item.is in
    let names = arm_names (length pool.exprs) items i c.arm-item.result (subst (λ b. AllBelow (length pool.exprs) (choices_exprs b)) (sym c.as_slice-arm-items.ensures.value) c.requires.names) at in
    omega (arith, names.0, c.requires.count)

pub add_arms-add_block-requires : goal.add_arms-add_block-requires
add_arms-add_block-requires t c =
    let g = c.args.graph.now in
    let h = c.loop-arm.graph in
    let pool = c.args.design.now.pool in
    let firsts = c.args.tables.0.now in
    let items = c.as_slice-arm-items.result.now in
    let i = c.loop-arm.arm-index in
    let item = c.arm-item.result in
    let at : slice_get items i ≡ Some item = slice_get_read items (length items) i item refl c.loop-arm-test.true c.arm-item.is in
    let names = arm_names (length pool.exprs) items i item (subst (λ b. AllBelow (length pool.exprs) (choices_exprs b)) (sym c.as_slice-arm-items.ensures.value) c.requires.names) at in
    let ts = c.loop-arm.inner ∷ whole_at (form pool) (first_of firsts) item.condition ∷ [] in
    let before = places_more g h pool firsts c.known.ensures c.loop-arm.invariant.extends c.requires.places in
    let there : item.condition.0 < length firsts = omega (arith, names.0, c.requires.count) in
    let last = whole h (bit_nodes pool) pool (first_of firsts) (length firsts) before.placed item.condition there in
    let after = places_more h (joined h ts) pool firsts c.known-in-loop-arm.ensures (extends_joined h (bit_nodes pool) ts (two_inside h c.loop-arm.inner (whole_at (form pool) (first_of firsts) item.condition) c.loop-arm.invariant.inside last.inside)) before in
    let places = subst (λ j. HasPlaces j pool firsts) (sym c.in_ok-inner.ensures.graph) after in
    let small : block_size item.body < choices_size c.args.arms.now =
    subst (λ (a : Arm). block_size a.body < choices_size c.args.arms.now) (sym c.arm-item.is) (c.as_slice-arm-items.ensures.smaller i item c.loop-arm-test.true) in
    let measure : choices_size c.args.arms.now ≡ t = c.decreases in
    let less : block_size item.body < t = omega (arith, small, measure) in
    let size = ap (λ (j : Digraph). j.size) c.in_ok-inner.ensures.graph in
    let inside : c.in_ok-inner.inner < c.guard_arm.new.graph.size = omega (arith, c.in_ok-inner.ensures.node, size) in
    (less, (c.requires.rules, (places, (c.requires.aims, (c.requires.count, (names.1, inside))))))

pub add_arms-loop-arm-preserved : goal.add_arms-loop-arm-preserved
add_arms-loop-arm-preserved t c =
    let g = c.args.graph.now in
    let h = c.loop-arm.graph in
    let j = c.add_block.new.graph in
    let pool = c.args.design.now.pool in
    let count = bit_nodes pool in
    let firsts = c.args.tables.0.now in
    let guard = c.args.guard in
    let items = c.as_slice-arm-items.result.now in
    let i = c.loop-arm.arm-index in
    let item = c.arm-item.result in
    let inner = c.loop-arm.inner in
    let at : slice_get items i ≡ Some item = slice_get_read items (length items) i item refl c.loop-arm-test.true c.arm-item.is in
    let names = arm_names (length pool.exprs) items i item (subst (λ b. AllBelow (length pool.exprs) (choices_exprs b)) (sym c.as_slice-arm-items.ensures.value) c.requires.names) at in
    let there : item.condition.0 < length firsts = omega (arith, names.0, c.requires.count) in
    let ts = inner ∷ whole_at (form pool) (first_of firsts) item.condition ∷ [] in
    let before = places_more g h pool firsts c.known.ensures c.loop-arm.invariant.extends c.requires.places in
    let graph = c.in_ok-inner.ensures.graph in
    let graph' = subst IsGraph graph c.known-in-loop-arm-2.ensures in
    let e = subst (λ k. Extends k j count) graph c.in_ok-add_block.ensures.extends in
    let rules = subst (λ k. AddsBlock k j pool c.in_ok-inner.inner item.body) graph c.in_ok-add_block.ensures.rules in
    let rules' = subst (λ n. AddsBlock (joined h ts) j pool n item.body) c.in_ok-inner.ensures.node rules in
    let last = whole h count pool (first_of firsts) (length firsts) before.placed item.condition there in
    let all = extends_then h (joined h ts) j count (extends_joined h count ts (two_inside h inner (whole_at (form pool) (first_of firsts) item.condition) c.loop-arm.invariant.inside last.inside)) e in
    let passed' = passed_turn g h j pool firsts guard inner items i item c.known-in-loop-arm.ensures before there at graph' e c.loop-arm.invariant.means in
    record {
      extends = extends_then g h j count c.loop-arm.invariant.extends all;
      inside = omega (arith, c.in_ok-inner.ensures.node, e.size);
      rules = arms_turn g h j pool firsts guard inner items i item c.known-in-loop-arm.ensures before there at c.loop-arm.invariant.rules c.loop-arm.invariant.means rules';
      means = subst (λ n. MeansPassed g j pool guard n (choices_of (take (i + 1) items))) (sym c.in_ok-inner.ensures.node) passed';
    }

pub add_arms-returns-clause-rules : goal.add_arms-returns-clause-rules
add_arms-returns-clause-rules t c =
    let items = c.as_slice-arm-items.result.now in
    let end : c.loop-arm.arm-index ≡ length items = omega (arith, c.loop-arm-test.false, c.loop-arm.auto.arm-index-end) in
    let all : choices_of (take c.loop-arm.arm-index items) ≡ c.args.arms.now = ap choices_of (take_end items c.loop-arm.arm-index end) ∙ c.as_slice-arm-items.ensures.value in
    subst (AddsArms c.args.graph.now c.loop-arm.graph c.args.design.now.pool c.args.guard) all c.loop-arm.invariant.rules
