-- An order of the bits of a design is one of the flat design's, as no bit needs more in it.
use Rattle.std.specs.Prelude.{◌≡◌, List, is_some, None, IsTrue, Contains}
use Rattle.std.specs.List.{AllByRecursion}
use Rattle.std.proofs.Common.{sym, ◌∙◌, ap, subst, ⊎_elim, inl, inr}
use Rattle.design_ir.specs.declared.expr.Expr.{Expr}
use Rattle.design_ir.specs.declared.process.DesignProcess.{DesignProcess}
use Rattle.design_ir.specs.PoolRules.{IsPool}
use Rattle.design_ir.specs.Designs.{IsDesign, IsMemory, IsReadPort}
use Rattle.design_ir.specs.Targets.{Bit}
use Rattle.design_ir.specs.Circuits.{Circuit}
use Rattle.design_ir.specs.Loops.{ProcessNeeds, ReadNeeds, Needs}
use Rattle.design_ir.proofs.Elements.{has_get}
use Rattle.comb_graph.specs.Orders.{IsCombBit, IsOrder}
use Rattle.digraph.proofs.Members.{all_at, all_from_contains}
use Rattle.flat_design.specs.Growing.{IsMore}
use Rattle.flat_design.specs.Flat.{AreFlatProcesses}
use Rattle.flat_design.specs.Laws.{FlatKeepsOrders}
use Rattle.flat_design.proofs.Growing.{needed_whole_more}
use Rattle.flat_design.proofs.FlatPairs.{HasOld, old_of, with_exprs, with_parts, design_is, more_is, flat_is, comb_same}

pub all_of : {A : Type 0} (P : A → Type 0) (xs : List A) (x : A) → AllByRecursion P xs → Contains xs x → P x
all_of P xs x h c = let r = has_get xs x c in all_at P xs r.0 x h r.1

pub all_each : {A : Type 0} {P Q : A → Type 0} (f : (x : A) → P x → Q x) (xs : List A) → AllByRecursion P xs → AllByRecursion Q xs
all_each {A} {P} {Q} f xs h = all_from_contains Q xs (λ x c. f x (all_of P xs x h c))

module _ (c : Circuit) (es : List Expr) (ps : List DesignProcess) (rules : IsPool c.pool) (design : IsDesign c) (more : IsMore c.pool (with_exprs c.pool es))
    (are : AreFlatProcesses c.pool (with_exprs c.pool es) c.processes ps) where
  abbrev d : Circuit
  d = with_parts c es ps

  process_needs : (b x : Bit) → ProcessNeeds d b x → ProcessNeeds c b x
  process_needs b x n =
      let o : HasOld c.pool (with_exprs c.pool es) c.processes n.process = old_of c.pool (with_exprs c.pool es) c.processes ps are n.process n.among in
      let comb : o.old.domain ≡ None = sym o.flat.domain ∙ n.comb in
      let some = o.flat.body.needs (ap (λ y. is_some y) comb) n.assignment b x n.stands n.needs in
      record { process = o.old; among = o.among; comb = comb; assignment = some.assignment; stands = some.among; needs = some.needs }

  read_needs : (b x : Bit) → ReadNeeds d b x → ReadNeeds c b x
  read_needs b x n =
      let memory : IsMemory c n.memory = all_of (IsMemory c) c.memories n.memory design.memories n.among in
      let port : IsReadPort c n.memory n.read = all_of (IsReadPort c n.memory) n.memory.reads n.read memory.reads n.stands in
      record {
        memory = n.memory;
        among = n.among;
        read = n.read;
        stands = n.stands;
        comb = n.comb;
        word = n.word;
        inside = n.inside;
        address = subst (λ bits. Contains bits x) (needed_whole_more c.pool (with_exprs c.pool es) rules more n.read.addr port.addr.usable.there) n.address;
      }

  pub needs_before : (b x : Bit) → Needs d b x → Needs c b x
  needs_before b x n = ⊎_elim (λ h. inl (process_needs b x h)) (λ h. inr (read_needs b x h)) n

  bit_before : (b : Bit) → IsCombBit d b → IsCombBit c b
  bit_before b h = record { comb = subst IsTrue (comb_same c es ps are b.sig) h.comb; inside = h.inside }

  bit_after : (b : Bit) → IsCombBit c b → IsCombBit d b
  bit_after b h = record { comb = subst IsTrue (sym (comb_same c es ps are b.sig)) h.comb; inside = h.inside }

  pub order_kept : (order : List Bit) → IsOrder c order → IsOrder d order
  order_kept order h = record {
    all = λ b is. h.all b (bit_before b is);
    only = all_each bit_after order h.only;
    once = h.once;
    behind = λ before after b x e is needs. h.behind before after b x e (bit_before x is) (needs_before b x needs);
  }

pub flat_keeps_orders : FlatKeepsOrders
flat_keeps_orders c d order rules design flat ordered =
    subst (λ x. IsOrder x order) (sym (design_is c d flat)) (order_kept c d.pool.exprs d.processes rules design (more_is c d flat) (flat_is c d flat) order ordered)
