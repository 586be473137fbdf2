-- A tree of modules stands over a pool that grew.
use Rattle.std.proofs.Common.{◌≡◌, ℕ, ◌<◌, ◌≤◌, IsTrue, false, List, length, Option, Some, None, slice_get, refl, sym, ap, ◌∙◌, subst, ⊎_elim}
use Rattle.std.specs.List.{AllByRecursion}
use Rattle.std.proofs.lemmas.Bool.{false≢true, cases_lt}
use Rattle.shape_rules.specs.Forms.{Form, unsigned}
use Rattle.design_ir.specs.declared.ids.ExprId.{ExprId}
use Rattle.design_ir.specs.declared.domain.DomainDef.{DomainDef}
use Rattle.design_ir.specs.declared.memory.MemWrite.{MemWrite}
use Rattle.design_ir.specs.declared.memory.MemRead.{MemRead}
use Rattle.design_ir.specs.declared.memory.Memory.{Memory}
use Rattle.design_ir.specs.declared.process.Process.{Process}
use Rattle.design_ir.specs.declared.fragment.Fragment.{Fragment}
use Rattle.design_ir.specs.declared.expr.Expr.{Expr}
use Rattle.design_ir.specs.Forests.{Leaf, Forest, bare, grown}
use Rattle.design_ir.specs.Fragments.{leaf_of}
use Rattle.design_ir.specs.Named.{named}
use Rattle.design_ir.specs.Pools.{Pooled}
use Rattle.design_ir.specs.PoolRules.{IsPool}
use Rattle.design_ir.specs.Targets.{is_open_target, open_target_test}
use Rattle.design_ir.specs.Guards.{block_exprs}
use Rattle.design_ir.specs.Rows.{granules}
use Rattle.design_ir.proofs.Answers.{answer_past}
use Rattle.design_ir.proofs.Congruence.{same_below}
use Rattle.design_ir.proofs.Equations.{answer_at, place_below, standing}
use Rattle.flat_design.specs.Growing.{IsMore}
use Rattle.flat_design.proofs.Growing.{answer_kept, form_more, get_kept, there_more}
use Rattle.fragment_walks.specs.Held.{leaf_exprs}
use Rattle.fragment_walks.specs.Reads.{block_targets}
use Rattle.fragment_walks.proofs.Lists.{all_imp}
use Rattle.clock_domains.specs.Resolvable.{AreModules, IsClockingOf, IsDefinition, IsMemoryOf, IsModule, IsNamedReset, IsOpenSide, IsReadOf, IsShaped, IsThere, IsTree, IsWriteOf}
use Rattle.clock_domains.proofs.PlacedLaws.{open_same}
use Rattle.transform_laws.proofs.Carried.{IsCarried, domain_kept, read_carried, shaped_carried, side_from, side_targets, write_carried}
use Rattle.transform_laws.proofs.HeldMore.{held_more}
use Rattle.transform_laws.proofs.Standing.{module_there}

-- ---- open targets

pub open_there : (q : Pooled) (k : ℕ) → IsTrue (is_open_target q k) → k < length q.exprs
unfolding is_open_target
open_there q k h = ⊎_elim (λ (below : k < length q.exprs). below) (λ (past : length q.exprs ≤ k). absurd (false≢true (sym (answer_past false open_target_test q.exprs k past) ∙ h))) (cases_lt k (length q.exprs))

pub open_is : (q : Pooled) (k : ℕ) (e : Expr) → IsPool q → slice_get q.exprs k ≡ Some e → is_open_target q k ≡ open_target_test (is_open_target q) e
unfolding is_open_target
open_is q k e rules at = answer_at false open_target_test q.exprs k e at (λ f g same. open_same f g e (same_below f g k (named e) same (standing q k e rules at).names))

-- what stands in a pool stands in one that grew from it
pub stands_more : (q p : Pooled) (k : ℕ) (e : Expr) → IsMore q p → slice_get q.exprs k ≡ Some e → slice_get p.exprs k ≡ Some e
stands_more q p k e more at = ap (λ es. slice_get es k) more.exprs ∙ get_kept q.exprs more.more k (place_below q.exprs k e at) ∙ at

module _ (q p : Pooled) (rules : IsPool q) (more : IsMore q p) where
  pub open_more : (k : ℕ) → k < length q.exprs → is_open_target p k ≡ is_open_target q k
  unfolding is_open_target
  open_more k there = answer_kept false open_target_test open_target_test q p rules more (λ e names f. refl) k there

  pub open_stays : (k : ℕ) → IsTrue (is_open_target q k) → IsTrue (is_open_target p k)
  open_stays k h = open_more k (open_there q k h) ∙ h

  pub carried_more : (e : ExprId) → e.0 < length q.exprs → IsCarried q p e e
  carried_more e there = (there_more q p e.0 more there, form_more q p rules more e.0 there)

  pub shaped_more : (f : Form) (e : ExprId) → IsShaped q f e → IsShaped p f e
  shaped_more f e h = shaped_carried q p f e e (carried_more e h.there) h

  -- ---- memories

  write_stays : (m : Memory) (w : MemWrite) → IsWriteOf q m w → IsWriteOf p m w
  write_stays m w h = write_carried q p more.signals m m.writes m.reads w w.domain w.addr w.word w.enable h.domain (carried_more w.addr h.addr.there) (carried_more w.word h.word.there) (shaped_more (unsigned (granules m w)) w.enable h.enable) h

  clocking_stays : (name : Option (List ℕ)) (e : Option ExprId) → IsClockingOf q name e → IsClockingOf p name e
  clocking_stays None None h = tt
  clocking_stays None (Some e) h = h
  clocking_stays (Some d) None h = h
  clocking_stays (Some d) (Some e) h = (h.0, shaped_more (unsigned 1) e h.1)

  read_stays : (m : Memory) (r : MemRead) → IsReadOf q m r → IsReadOf p m r
  read_stays m r h = read_carried q p more.signals m m.writes m.reads r r.domain r.addr r.enable (carried_more r.addr h.addr.there) (clocking_stays r.domain r.enable h.clocking) h.transparent h

  pub memory_stays : (m : Memory) → IsMemoryOf q m → IsMemoryOf p m
  memory_stays m h = record {
    depth = h.depth;
    rows = h.rows;
    row_shapes = h.row_shapes;
    few_ports = h.few_ports;
    writes = all_imp (write_stays m) m.writes h.writes;
    reads = all_imp (read_stays m) m.reads h.reads;
    one_domain = h.one_domain;
  }

  -- ---- modules

  pub definition_stays : (d : DomainDef) → IsDefinition q d → IsDefinition p d
  definition_stays d h = domain_kept q p more.signals d.domain d.domain.name h.name h

  pub there_stays : (es : List ExprId) → AllByRecursion (IsThere q) es → AllByRecursion (IsThere p) es
  there_stays es h = all_imp (λ e there. there_more q p e.0 more there) es h

  pub side_stays : (s : Process) → IsOpenSide q s → IsOpenSide p s
  side_stays s h = side_from p s.side s.body h.side (there_stays (block_exprs s.body) h.expressions) (all_imp open_stays (block_targets s.body) (side_targets q s h))

  pub module_stays : (l : Leaf) → IsModule q l → IsModule p l
  module_stays l h = record {
    domains = all_imp definition_stays l.domains h.domains;
    memories = all_imp memory_stays l.memories h.memories;
    processes = all_imp side_stays l.processes h.processes;
    resets = subst (AllByRecursion IsNamedReset) (sym (held_more q p rules more (leaf_exprs l) (module_there q l h))) h.resets;
  }

  pub modules_stay : (f : Forest) → AreModules q f → AreModules p f
  modules_stay bare h = tt
  modules_stay (grown l below rest) h = (h.0, (module_stays l h.1.0, (modules_stay below h.1.1.0, modules_stay rest h.1.1.1)))

  pub tree_stays : (f : Fragment) → IsTree q f → IsTree p f
  tree_stays f h = record { own = module_stays (leaf_of f) h.own; below = modules_stay f.submodules h.below }
