-- A design whose pool grew by expressions means what it did before.
use Rattle.std.specs.Prelude.{◌≡◌, refl, ℕ, List, [], ◌∷◌, ℤ, Option, Some, None}
use Rattle.std.specs.Option.{option_map_or}
use Rattle.std.proofs.Common.{sym, ◌∙◌, ap, subst}
use Rattle.design_ir.specs.declared.ids.ExprId.{ExprId}
use Rattle.design_ir.specs.declared.signal.Sig.{Sig}
use Rattle.design_ir.specs.declared.event.Event.{Event}
use Rattle.design_ir.specs.declared.event.Event.TheVariants.{Set, Edge}
use Rattle.design_ir.specs.declared.memory.MemWrite.{MemWrite}
use Rattle.design_ir.specs.declared.memory.MemRead.{MemRead}
use Rattle.design_ir.specs.declared.memory.Memory.{Memory}
use Rattle.design_ir.specs.declared.process.DesignProcess.{DesignProcess}
use Rattle.design_ir.specs.Pools.{Pooled}
use Rattle.design_ir.specs.PoolRules.{IsPool}
use Rattle.design_ir.specs.Guards.{block_exprs}
use Rattle.design_ir.specs.Circuits.{Circuit, State}
use Rattle.design_ir.specs.Designs.{IsUsable, IsProcess, IsWritePort, IsClocking, IsReadPort, IsMemory, IsDesign}
use Rattle.design_ir.specs.Settled.{delta}
use Rattle.design_ir.specs.Steps.{step, first_state}
use Rattle.design_ir.specs.Histories.{HistoryFrom}
use Rattle.design_ir.specs.Legal.{IsLegal}
use Rattle.flat_design.specs.Growing.{IsMore}
use Rattle.flat_design.proofs.Growing.{more_refl, more_added, more_trans, form_more, num_more, bits_more, signals_more}
use Rattle.fragment_walks.specs.Held.{read_exprs, write_exprs}
use Rattle.fragment_laws.specs.SamePools.{IsSame, AllSame, IsSameMemory, AreSameIn}
use Rattle.fragment_laws.specs.Growth.{GrowsOn, MeansTheSame, GrowthKeepsMeaning}
use Rattle.fragment_laws.proofs.Twins.{all_imp, delta_same, step_same, first_same}
use Rattle.fragment_laws.proofs.RootHistories.{settled_alike, histories_alike}

abbrev over : Circuit → Pooled → Circuit
over c q = record c { pool = q }

pub grows_on : GrowsOn
grows_on = record {
  itself = λ c. record { more = more_refl c.pool; rest = refl };
  one_more = λ c e. record { more = more_added c.pool e; rest = refl };
  twice = λ c d e g h. record { more = more_trans c.pool d.pool e.pool g.more h.more; rest = h.rest ∙ ap (λ (x : Circuit). over x e.pool) g.rest };
}

module _ (c : Circuit) (q : Pooled) (rules : IsPool c.pool) (design : IsDesign c) (more : IsMore c.pool q) where
  abbrev d : Circuit
  d = record c { pool = q }

  -- ---- expressions that were there mean the same

  same_at : (e : ExprId) → IsUsable c e → IsSame q c.pool e.0
  same_at e h = record {
    value = λ env. num_more c.pool q rules more env e.0 h.there;
    places = λ env. bits_more c.pool q rules more env e.0 h.there;
    signals = signals_more c.pool q rules more e.0 h.there;
  }

  body_same : (p : DesignProcess) → IsProcess c p → AllSame q c.pool (block_exprs p.body)
  body_same p h = all_imp same_at (block_exprs p.body) h.expressions

  write_same : (m : Memory) (w : MemWrite) → IsWritePort c m w → AllSame q c.pool (write_exprs w)
  write_same m w h = (same_at w.addr h.addr.usable, (same_at w.word h.word.usable, (same_at w.enable h.enable.usable, tt)))

  enable_same : (o : Option (List ℕ)) (e : Option ExprId) → IsClocking c o e → AllSame q c.pool (option_map_or (λ (x : ExprId). x ∷ []) e [])
  enable_same None None h = tt
  enable_same None (Some e) h = absurd h
  enable_same (Some n) None h = tt
  enable_same (Some n) (Some e) h = (same_at e h.1.usable, tt)

  read_same : (m : Memory) (r : MemRead) → IsReadPort c m r → AllSame q c.pool (read_exprs r)
  read_same m r h = (same_at r.addr h.addr.usable, enable_same r.domain r.enable h.clocking)

  memory_same : (m : Memory) → IsMemory c m → IsSameMemory q c.pool m
  memory_same m h = record { writes = all_imp (write_same m) m.writes h.writes; reads = all_imp (read_same m) m.reads h.reads }

  pub pools_same : AreSameIn q c.pool c
  pools_same = record { signals = more.signals; processes = all_imp body_same c.processes design.processes; memories = all_imp memory_same c.memories design.memories }

  -- ---- so does the design

  deltas : (st : State) (env : List ℤ) → delta d st env ≡ delta c st env
  deltas st env = delta_same c q pools_same env st

  steps : (st : State) (env : List ℤ) (e : Event) → step d st env e ≡ step c st env e
  steps st env e = step_same c q pools_same st env e

  first : first_state d ≡ first_state c
  first = first_same c q pools_same

  abbrev IsLegalOver : List Sig → Event → Type 0
  IsLegalOver sigs e = IsLegal (record c { pool = record q { signals = sigs } }) e

  legal_into : (e : Event) → IsLegal d e → IsLegal c e
  legal_into (Set s n) h = subst (λ sigs. IsLegalOver sigs (Set s n)) more.signals h
  legal_into (Edge ds) h = h

  legal_from : (e : Event) → IsLegal c e → IsLegal d e
  legal_from (Set s n) h = subst (λ sigs. IsLegalOver sigs (Set s n)) (sym more.signals) h
  legal_from (Edge ds) h = h

  pub means_same : MeansTheSame c d
  means_same = record {
    shapes = λ k there. form_more c.pool q rules more k there;
    values = λ env k there. num_more c.pool q rules more env k there;
    first = first;
    settled = λ st env. (settled_alike c d deltas steps st env, settled_alike d c (λ x y. sym (deltas x y)) (λ x y z. sym (steps x y z)) st env);
    steps = steps;
    legal = λ es. (all_imp legal_into es, all_imp legal_from es);
    histories = λ es envs. (
      (λ h. subst (λ x. HistoryFrom c x es envs) first (histories_alike c d deltas steps es envs (first_state d) h)),
      (λ h. subst (λ x. HistoryFrom d x es envs) (sym first) (histories_alike d c (λ x y. sym (deltas x y)) (λ x y z. sym (steps x y z)) es envs (first_state c) h)),
    );
  }

pub growth_keeps_meaning : GrowthKeepsMeaning
growth_keeps_meaning c d rules design grown = subst (MeansTheSame c) (sym grown.rest) (means_same c d.pool rules design grown.more)
