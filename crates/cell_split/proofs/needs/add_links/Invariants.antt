use Rattle.std.proofs.Common.{◌≡◌, ◌<◌, ℕ}
use Rattle.std.specs.Prelude.{Some, slice_get}
use Rattle.rtlil_text.specs.declared.module.RtlLink.{RtlLink}
use Rattle.cell_split.specs.Needs.{node_of, Grows, HasLink}
use Rattle.cell_split.proofs.needs.add_links.Given as goal

abbrev pub invariant-loop-place : goal.invariant-loop-place
invariant-loop-place l = record {
  grows : Grows l.fn.graph l.graph;
  added : (p : ℕ) (x : RtlLink) → p < l.place → slice_get l.links p ≡ Some x → HasLink l.graph (node_of l.nodes) x;
}
