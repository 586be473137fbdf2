use Rattle.std.proofs.Common.{rules, arith, length}
use Rattle.std.specs.Prelude.{codes}
use Rattle.py_tree.specs.Programs.{step_of, branch_of}
use Rattle.py_grammar.specs.Block_reading.{statement, elif_block, stays, next_at}
use Rattle.py_parser.specs.Files.{lines_from, around_of, file_form, within}
use Rattle.py_parser.proofs.BlockLoops.{view_turn, choice_reads}
use Rattle.py_parser.proofs.block.+block.Goals as goal

pub read_statements-loop-turn-preserved : goal.read_statements-loop-turn-preserved
read_statements-loop-turn-preserved g t c = record {
  reads = view_turn step_of (stays c.args.site.indent) (statement file_form (within c.args.site.room) (around_of c.args.site.around) c.args.site.indent) (length (lines_from c.args.lines.now c.args.at)) c.loop-turn._turn c.loop-turn.stmts.items c.push.new.self.items c.in_ok-stmt.stmt (lines_from c.args.lines.now c.loop-turn.here) (lines_from c.args.lines.now c.in_ok-stmt.after) _ c.loop-turn.invariant.reads (omega (arith, c.loop-turn-test.true, c.lines_left-turn-end.ensures)) c.in_ok-push.ensures.items (search rules) c.in_ok-stmt.ensures;
}

pub read_branches-loop-turn-preserved : goal.read_branches-loop-turn-preserved
read_branches-loop-turn-preserved g t c = record {
  reads = view_turn branch_of (next_at c.args.site.indent (codes "elif")) (elif_block file_form (within c.args.site.room) (around_of c.args.site.around) c.args.site.indent) (length (lines_from c.args.lines.now c.args.at)) c.loop-turn._turn c.loop-turn.branches.items c.push.new.self.items c.in_ok-branch.branch (lines_from c.args.lines.now c.loop-turn.here) (lines_from c.args.lines.now c.in_ok-branch.after) _ c.loop-turn.invariant.reads (omega (arith, c.loop-turn-test.true, c.lines_left-turn-end.ensures)) c.in_ok-push.ensures.items (search rules) c.in_ok-branch.ensures;
}

pub read_choice-returns : goal.read_choice-returns
read_choice-returns g t c = choice_reads file_form (within c.args.site.room) (around_of c.args.site.around) c.args.site.indent c.args.place (branch_of c.args.first) _ _ _ (lines_from c.args.lines.now c.args.at) (lines_from c.args.lines.now c.in_ok-branches.at) (lines_from c.args.lines.now c.in_ok-other.at) c.in_ok-branches.ensures c.in_ok-other.ensures c.in_ok-choice.ensures
