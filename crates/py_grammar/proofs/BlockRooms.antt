-- Within any number of nested blocks, what is read is what is derived.
use Rattle.std.proofs.Common.{ℕ, zero, suc, refl, List}
use Rattle.std.specs.Prelude.{Bool}
use Rattle.py_tree.specs.Steps.{Steps}
use Rattle.py_grammar.specs.Blocks.{Line, Around, BlockIn}
use Rattle.py_grammar.specs.Block_reading.{Stuck, Form, Inner, block}
use Rattle.py_grammar.proofs.BlockParts.{stuck_here}
use Rattle.py_grammar.proofs.BlockLines.{Exact_form}
use Rattle.py_grammar.proofs.BlockSuites.{Knows_blocks}
use Rattle.py_grammar.proofs.BlockBodiesRead.{knows_blocks}

abbrev no_blocks : Around → ℕ → Bool → List Line → Steps → Type 0
no_blocks = λ a i c ls ss. ⊥

abbrev reads_no_blocks : Inner
reads_no_blocks = λ a i ls. Stuck ls

knows_none : Knows_blocks no_blocks reads_no_blocks
knows_none = record {
  found = λ a i ls h. stuck_here (no_blocks a i) (reads_no_blocks a i) ls (λ q e. refl);
  complete = λ a i ls b r d h. absurd d;
  cut = λ a i ls b d. absurd d;
  begins = λ a i cut ls b d. absurd d;
}

pub knows_block : (form : Form) → Exact_form form → (room : ℕ) → Knows_blocks (BlockIn room) (block form room)
unfolding block
knows_block form exact zero = knows_blocks form exact no_blocks reads_no_blocks knows_none
knows_block form exact (suc room) = knows_blocks form exact (BlockIn room) (block form room) (knows_block form exact room)
