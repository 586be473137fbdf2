-- The module of a plain design with an order of its bits has the design's history.
use Rattle.std.specs.Prelude.{◌≡◌, ℕ, ◌<◌, ◌^◌, List, [], ◌∷◌, length, slice_set, ℤ, All, Some}
use Rattle.std.specs.List.{AllByRecursion}
use Rattle.std.proofs.Common.{refl, sym, ap, ◌∙◌, subst}
use Rattle.std.proofs.lemmas.List.Elements.{All-nil, All-cons}
use Rattle.design_ir.specs.declared.ids.DomainId.{DomainId}
use Rattle.design_ir.specs.declared.ids.ExprId.{ExprId}
use Rattle.design_ir.specs.declared.port.Column.{Column}
use Rattle.design_ir.specs.declared.event.Event.{Event}
use Rattle.design_ir.specs.declared.event.Event.TheVariants.{Set, Edge}
use Rattle.design_ir.specs.PoolRules.{IsPool}
use Rattle.design_ir.specs.Targets.{Bit}
use Rattle.design_ir.specs.Values.{num}
use Rattle.design_ir.specs.Circuits.{Circuit, State, at}
use Rattle.design_ir.specs.Designs.{IsDesign}
use Rattle.design_ir.specs.Steps.{moved, step, first_state}
use Rattle.design_ir.specs.Histories.{HistoryFrom}
use Rattle.design_ir.specs.Legal.{IsLegal, AllLegal}
use Rattle.comb_graph.specs.Orders.{IsOrder}
use Rattle.comb_graph.specs.Laws.{SettlesOnce}
use Rattle.comb_graph.proofs.SettledOnce.{settles_once}
use Rattle.rtlil_text.specs.Rules.{IsModule}
use Rattle.rtlil_text.specs.Meaning.{Inputs, State as Kept}
use Rattle.rtlil_text.specs.History as rtl
use Rattle.rtlil_text.specs.History.{wire_bit, history_from}
use Rattle.rtlil_text.proofs.Among.{Among}
use Rattle.netlist_laws.specs.Carried.{Carries}
use Rattle.netlist_laws.specs.Made.{HasByteStride}
use Rattle.netlist_laws.specs.Plain.{IsPlain}
use Rattle.netlist_laws.specs.Histories.{inputs_at, first_inputs, inputs_after, inputs_over, SameColumn, SameColumns, AllDefined, SameHistory}
use Rattle.netlist_laws.specs.PortLaws.{IsCarried}
use Rattle.netlist_laws.specs.Module.{signal_value, expr_value, module_of}
use Rattle.netlist_laws.specs.MemoryDrawings.{all_parts, memories_of}
use Rattle.netlist_laws.specs.Laws.{ModulesHaveTheHistory}
use Rattle.netlist_laws.proofs.ColumnSignals.{columns_distinct}
use Rattle.netlist_laws.proofs.ModuleHeld.{All-among}
use Rattle.netlist_laws.proofs.PartsFit.{CellLaws}
use Rattle.netlist_laws.proofs.ModuleRules.{module_rules}
use Rattle.netlist_laws.proofs.RegisterCells.{clocked_held}
use Rattle.netlist_laws.proofs.SettledNumbers.{settled_held}
use Rattle.netlist_laws.proofs.SignalWires.{named_by}
use Rattle.netlist_laws.proofs.HeldFits.{AreHeld, first_held, step_held}
use Rattle.netlist_laws.proofs.ModuleStates.{AgreeOnInputs, Keeps, input_carries}
use Rattle.netlist_laws.proofs.KeptMemories.{KeepsMemories, first_memories}
use Rattle.netlist_laws.proofs.MovedMemories.{memories_moved, memories_set}
use Rattle.netlist_laws.proofs.MemoryLaws.{MemoryLaws}
use Rattle.netlist_laws.proofs.MemoryWires.{memory_wires}
use Rattle.netlist_laws.proofs.SettledModule.{signals_carry, exprs_carry, shows}
use Rattle.netlist_laws.proofs.DefinedWires.{column_found, wires_defined}
use Rattle.netlist_laws.proofs.ModuleSteps.{held_same, inputs_agree, inputs_step, first_keeps, step_keeps}

module _ (laws : MemoryLaws) (c : Circuit) (order : List Bit) (rules : IsPool c.pool) (bytes : AllByRecursion HasByteStride c.pool.exprs) (design : IsDesign c) (plain : IsPlain c) (few : length (all_parts (memories_of c)) < 10 ^ 18) (module_so : IsModule (module_of c)) (is_order : IsOrder c order) where
  -- the module is where the design is
  record IsThere (st : State) (kept : Kept) (ins : List ℤ) : Type 0 where
    held : AreHeld c st
    memories : KeepsMemories c kept st
    agree : AgreeOnInputs c ins st.held
    keeps : Keeps c kept st.held

  module _ (st : State) (kept : Kept) (ins : List ℤ) (h : IsThere st kept ins) where
    once : SettlesOnce c st
    once = settles_once c order rules design is_order st h.held.fits

    signals : (s : ℕ) → Carries (wire_bit (module_of c) kept (inputs_at c ins)) (signal_value c s) (at once.env s)
    signals = signals_carry laws c order rules bytes design plain.plain few module_so is_order st once.env once.settled once.fits kept ins h.memories h.agree h.keeps

    exprs : (e : ExprId) → e.0 < length c.pool.exprs → Carries (wire_bit (module_of c) kept (inputs_at c ins)) (expr_value c e.0) (num c.pool once.env e.0)
    exprs = exprs_carry laws c order rules bytes design plain.plain few module_so is_order st once.env once.settled once.fits kept ins h.memories h.agree h.keeps

    column_now : (x : Column) → Among c.columns x → SameColumn c once.env (wire_bit (module_of c) kept (inputs_at c ins)) x
    column_now x a i l =
        ap (λ id. wire_bit (module_of c) kept (inputs_at c ins) id i) (sym (named_by c x.sig.0 (Some x) (column_found c.columns x (columns_distinct c design) a)))
        ∙ signals x.sig.0 i l

    columns_now : All (SameColumn c once.env (wire_bit (module_of c) kept (inputs_at c ins))) c.columns
    columns_now = All-among (SameColumn c once.env (wire_bit (module_of c) kept (inputs_at c ins))) c.columns column_now

    defined_now : AllDefined (module_of c) (wire_bit (module_of c) kept (inputs_at c ins))
    defined_now =
        wires_defined c rules design plain.plain module_so kept (inputs_at c ins) once.env st.held once.fits h.held.long signals exprs
        (λ s p d clock there. sym (settled_held c once.env design st once.settled s there (clocked_held c design rules plain.plain s p d clock)))
        (memory_wires laws c rules design few module_so once.env once.fits st kept (inputs_at c ins) h.memories exprs)

    carried : (listed : List DomainId) (new : Inputs) → IsCarried (record { design = c; env = once.env; listed = listed; rtl = module_of c; st = kept; old = inputs_at c ins; new = new })
    carried listed new = record { pool = rules; fits = once.fits; exprs = exprs }

    memories_after : (e : Event) → IsLegal c e → KeepsMemories c (rtl.step (module_of c) (inputs_at c ins) (inputs_at c (inputs_after c ins e)) kept) (step c st once.env e)
    memories_after (Set s n) legal =
        memories_set c rules design few module_so once.env st kept ins s n legal laws.writes laws.reads laws.follow (carried [] (inputs_at c (slice_set ins s.0 n))) h.memories
    memories_after (Edge listed) legal =
        let new : List ℤ = inputs_after c ins (Edge listed) in
        let after = inputs_agree c design st once.env ins (Edge listed) legal h.held.long h.agree in
        memories_moved c rules design few module_so once.env once.fits st listed legal.2 h.held.long (held_same c design st once.env once.settled h.held.long) kept (inputs_at c ins) (inputs_at c new) laws.writes laws.reads laws.follow (carried listed (inputs_at c new)) signals
        (λ s input. input_carries c design module_so kept new (moved c st once.env (Edge listed)).held after s input) h.memories

    -- so it is after an event
    there_after : (e : Event) → IsLegal c e → IsThere (step c st once.env e) (rtl.step (module_of c) (inputs_at c ins) (inputs_at c (inputs_after c ins e)) kept) (inputs_after c ins e)
    there_after e legal = record {
      held = step_held c rules design st once.env e legal h.held;
      memories = memories_after e legal;
      agree = inputs_step c design st once.env ins e legal h.held.long h.agree;
      keeps =
          step_keeps c rules design plain.plain module_so st once.env once.settled once.fits kept ins h.held.long h.agree h.keeps
          signals
          (shows laws c order rules bytes design plain.plain few module_so is_order st once.env once.settled once.fits kept ins h.memories h.agree h.keeps) e legal;
    }

  there_first : IsThere (first_state c) (rtl.first_state (module_of c)) (first_inputs c)
  there_first = record { held = first_held c rules design; memories = first_memories c rules design few module_so laws.begin; agree = record { long = refl; same = λ s e. refl }; keeps = first_keeps c design module_so }

  -- ---- the only history

  only_now : (st : State) (o : SettlesOnce c st) (others : List (List ℤ)) → HistoryFrom c st [] others → others ≡ o.env ∷ []
  only_now st o [] h = absurd h
  only_now st o (env ∷ []) h = ap (λ x. x ∷ []) (o.only env h)
  only_now st o (env ∷ more ∷ envs) h = absurd h

  only_then : (st : State) (o : SettlesOnce c st) (e : Event) (es : List Event) (rest : List (List ℤ)) → ((others : List (List ℤ)) → HistoryFrom c (step c st o.env e) es others → others ≡ rest)
      → (others : List (List ℤ)) → HistoryFrom c st (e ∷ es) others → others ≡ o.env ∷ rest
  only_then st o e es rest f [] h = absurd h
  only_then st o e es rest f (env ∷ envs) h =
      let same : env ≡ o.env = o.only env h.0 in
      let later : envs ≡ rest = f envs (subst (λ x. HistoryFrom c (step c st x e) es envs) same h.1) in
      λ i. same i ∷ later i

  -- ---- event by event

  record Runs (st : State) (kept : Kept) (ins : List ℤ) (es : List Event) : Type 0 where
    envs : List (List ℤ)
    settles_so : HistoryFrom c st es envs
    only : (others : List (List ℤ)) → HistoryFrom c st es others → others ≡ envs
    columns : SameColumns c envs (history_from (module_of c) kept (inputs_at c ins) (inputs_over c ins es))
    defined : All (AllDefined (module_of c)) (history_from (module_of c) kept (inputs_at c ins) (inputs_over c ins es))

  runs : (es : List Event) (st : State) (kept : Kept) (ins : List ℤ) → AllLegal c es → IsThere st kept ins → Runs st kept ins es
  runs [] st kept ins legal h =
      let o : SettlesOnce c st = once st kept ins h in
      record {
        envs = o.env ∷ [];
        settles_so = o.settled;
        only = only_now st o;
        columns = (columns_now st kept ins h, tt);
        defined = All-cons (AllDefined (module_of c)) (wire_bit (module_of c) kept (inputs_at c ins)) [] (defined_now st kept ins h) (All-nil (AllDefined (module_of c)));
      }
  runs (e ∷ es) st kept ins legal h =
      let o : SettlesOnce c st = once st kept ins h in
      let m = module_of c in
      let new : List ℤ = inputs_after c ins e in
      let after : Kept = rtl.step m (inputs_at c ins) (inputs_at c new) kept in
      let r = runs es (step c st o.env e) after new legal.1 (there_after st kept ins h e legal.0) in
      record {
        envs = o.env ∷ r.envs;
        settles_so = (o.settled, r.settles_so);
        only = only_then st o e es r.envs r.only;
        columns = (columns_now st kept ins h, r.columns);
        defined = All-cons (AllDefined m) (wire_bit m kept (inputs_at c ins)) (history_from m after (inputs_at c new) (inputs_over c new es)) (defined_now st kept ins h) r.defined;
      }

  same_history : SameHistory c (module_of c)
  same_history events legal =
      let r = runs events (first_state c) (rtl.first_state (module_of c)) (first_inputs c) legal there_first in
      record { envs = r.envs; is_history = record { settles = r.settles_so; only = r.only }; columns = r.columns; defined = r.defined }

pub modules_have_the_history : CellLaws → MemoryLaws → ModulesHaveTheHistory
modules_have_the_history cells laws c order rules bytes design plain parts few is_order = same_history laws c order rules bytes design plain parts (module_rules c rules design cells parts few) is_order
