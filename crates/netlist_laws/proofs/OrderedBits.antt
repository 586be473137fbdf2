-- Along an order of the combinational bits, each bit of each signal's wire is that of the settled environment.
use Rattle.std.specs.Prelude.{◌≡◌, refl, ℕ, zero, suc, ◌-◌, ◌==◌, ◌<◌, ◌≤◌, ◌+◌, nat_lt, Bool, true, false, cond, List, [], ◌∷◌, ◌++◌, length, slice_get, ℤ, Some, Contains}
use Rattle.std.specs.List.{AllByRecursion, range_with_len}
use Rattle.std.proofs.Common.{sym, ◌∙◌, ap, subst, arith, ⊎_elim, inl, inr, append-nil, append_assoc}
use Rattle.std.proofs.lemmas.Bool.{cases_lt, cond_below, ltb-true, ltb-false}
use Rattle.amh_bits.specs.Patterns.{IsOf}
use Rattle.amh_bits.proofs.Same.{past_unsigned, past_signed}
use Rattle.shape_rules.specs.Forms.{Form, IsForm}
use Rattle.design_ir.specs.declared.ids.ExprId.{ExprId}
use Rattle.design_ir.specs.declared.signal.Sig.{Sig}
use Rattle.design_ir.specs.PoolRules.{IsPool}
use Rattle.design_ir.specs.Targets.{Bit}
use Rattle.design_ir.specs.Needed.{extended, needed, needed_whole}
use Rattle.design_ir.specs.Values.{form, num, signal_form}
use Rattle.design_ir.specs.Circuits.{Circuit, State, at, is_held}
use Rattle.design_ir.specs.Designs.{IsDesign}
use Rattle.design_ir.specs.Settled.{Settled}
use Rattle.design_ir.specs.Loops.{Needs, ReadNeeds}
use Rattle.design_ir.proofs.NumbersFit.{element, FitsSignals, has_shape, num_fits}
use Rattle.comb_graph.specs.Orders.{is_comb, IsCombBit, IsOrder}
use Rattle.rtlil_text.specs.Sources.{Constant, Net}
use Rattle.rtlil_text.specs.Meaning.{source_value}
use Rattle.rtlil_text.specs.History.{Wires}
use Rattle.rtlil_text.proofs.Among.{Among, Among-contains, Contains-among, Among-right, Among-flat_map, AllByRecursion-among, AllByRecursion-append}
use Rattle.netlist_laws.specs.Ids.{value_id}
use Rattle.netlist_laws.specs.Carried.{Carries}
use Rattle.netlist_laws.specs.CombDrawings.{ObeysComb}
use Rattle.netlist_laws.specs.Latest.{source_at}
use Rattle.netlist_laws.specs.Made.{SignalHas}
use Rattle.netlist_laws.specs.Plain.{ArePlain}
use Rattle.netlist_laws.specs.PoolsDrawn.{known_of, AllFollow}
use Rattle.netlist_laws.specs.Module.{wire_id, signal_value, expr_value, at_last, signal_drawing}
use Rattle.netlist_laws.proofs.Reading.{HasBits, bit_of, has_carried, carries_bits}
use Rattle.netlist_laws.proofs.BitWrites.{some_signal}
use Rattle.netlist_laws.proofs.FixedTargets.{IsInside}
use Rattle.netlist_laws.proofs.NeededInside.{needed_inside}
use Rattle.netlist_laws.proofs.SettledBits.{IsFrom, settled_bit}
use Rattle.netlist_laws.proofs.CombSignals.{HasProcess, IsReadAtOnce, comb_source, comb_bit, free_bits}
use Rattle.netlist_laws.proofs.KeptMemories.{port_rules}
use Rattle.netlist_laws.proofs.PortSignals.{HasPort, is_comb_port, none_is, port_of}

range_among : (low n k : ℕ) → low ≤ k → k < low + n → Among (range_with_len low n) k
range_among low zero k p q = absurd (omega (arith, p, q))
range_among low (suc n) k p q = ⊎_elim (λ (later : low < k). inr (range_among (low + 1) n k (omega (arith, later)) (omega (arith, q)))) (λ (past : k ≤ low). let same : low ≡ k = omega (arith, p, past) in inl same) (cases_lt low k)

all_from : {A : Type 0} (P : A → Type 0) (xs : List A) → ((x : A) → Among xs x → P x) → AllByRecursion P xs
all_from P [] f = tt
all_from P (x ∷ xs) f = (f x (inl refl), all_from P xs (λ y a. f y (inr a)))

module _ (c : Circuit) (order : List Bit) (rules : IsPool c.pool) (design : IsDesign c) (plain : ArePlain c) (is_order : IsOrder c order)
    (wires : Wires) (st : State) (env : List ℤ) (settled : Settled c st env) (fit : FitsSignals c.pool env)
    (follow : AllFollow wires c.pool env (wire_id c) value_id) (obeys : (s : ℕ) → s < length c.pool.signals → ObeysComb wires (signal_drawing c s))
    (held : (s : ℕ) → is_held c s ≡ true → Carries wires (signal_value c s) (at env s))
    (reads : (s : ℕ) (h : HasPort c s is_comb_port) → Carries wires (expr_value c h.port.addr.0) (num c.pool env h.port.addr.0) → HasBits wires (wire_id c s) (signal_form c.pool.signals s).width (at env s)) where
  -- the wire of the signal has the bit of its number
  abbrev Has : Bit → Type 0
  Has b = SignalHas wires (known_of c.pool env (wire_id c) value_id) b

  abbrev width : Bit → ℕ
  width b = (signal_form c.pool.signals b.sig).width

  free_has : (b : Bit) → b.index < width b → is_comb c b.sig ≡ false → Has b
  free_has b inside free = by (is_held c b.sig) refl
    where
      there : b.sig < length c.pool.signals
      there = some_signal c.pool.signals b.sig (omega (arith, inside))

      by : (t : Bool) → is_held c b.sig ≡ t → Has b
      by true e = (has_carried wires (signal_value c b.sig) (at env b.sig) (held b.sig e)).at b.index inside
      by false e = (free_bits c b.sig wires (omega (arith, inside)) (obeys b.sig there) design env st settled e free).at b.index inside

  -- ---- one bit, where those before it are there

  module _ (before : List Bit) (have : AllByRecursion Has before) where
    needed_has : (b : Bit) → ((x : Bit) → IsCombBit c x → Needs c b x → Contains before x) → (e : ExprId) (k : ℕ) → e.0 < length c.pool.exprs
        → ((x : Bit) → Among (extended (form c.pool e.0) (needed c.pool e.0) k) x → Needs c b x) → AllByRecursion Has (extended (form c.pool e.0) (needed c.pool e.0) k)
    needed_has b behind e k there needs = all_from Has bits (λ x a. by x a (is_comb c x.sig) refl)
      where
        bits : List Bit
        bits = extended (form c.pool e.0) (needed c.pool e.0) k

        by : (x : Bit) → Among bits x → (t : Bool) → is_comb c x.sig ≡ t → Has x
        by x a true comb =
            let inside = AllByRecursion-among (IsInside (signal_form c.pool.signals)) bits x (needed_inside c.pool env rules fit e k there) a in
            AllByRecursion-among Has before x have (Among-contains before x (behind x (record { comb = comb; inside = inside }) (needs x a)))
        by x a false comb = free_has x (AllByRecursion-among (IsInside (signal_form c.pool.signals)) bits x (needed_inside c.pool env rules fit e k there) a) comb

    -- ---- a bit of an expression, also past its end

    past : (s : Bool) (w : ℕ) (id : List ℕ) (k : ℕ) (x : ℤ) (bits : ℕ → List Bit) → IsForm w s → IsOf s w x → ((i : ℕ) → i < w → AllByRecursion Has (bits i) → wires id i ≡ Some (bit_of x i)) → w ≤ k
        → AllByRecursion Has (cond s (bits (w - 1)) []) → source_value wires (cond s (Net id (w - 1)) (Constant false)) ≡ Some (bit_of x k)
    past false w id k x bits p f each le h = ap (λ d. Some (d == 1)) (sym (past_unsigned w k x f le))
    past true zero id k x bits p f each le h = absurd (omega (arith, p.0))
    past true (suc w) id k x bits p f each le h =
        each (suc w - 1) (omega arith) h ∙ ap (λ i. Some (bit_of x i)) (let e : suc w - 1 ≡ w = omega arith in e) ∙ ap (λ d. Some (d == 1)) (sym (past_signed w k x f (omega arith)))

    source_has : (e : ExprId) (k : ℕ) → e.0 < length c.pool.exprs → AllByRecursion Has (extended (form c.pool e.0) (needed c.pool e.0) k) → source_value wires (source_at (expr_value c e.0) k) ≡ Some (bit_of (num c.pool env e.0) k)
    source_has e k there h = by (nat_lt k f.width) refl h
      where
        f : Form
        f = form c.pool e.0

        by : (t : Bool) → nat_lt k f.width ≡ t → AllByRecursion Has (cond t (needed c.pool e.0 k) (cond f.signed (needed c.pool e.0 (f.width - 1)) []))
            → source_value wires (cond t (Net (value_id e.0) k) (cond f.signed (Net (value_id e.0) (f.width - 1)) (Constant false))) ≡ Some (bit_of (num c.pool env e.0) k)
        by true l h = follow e there k (ltb-true k f.width l) h
        by false l h = past f.signed f.width (value_id e.0) k (num c.pool env e.0) (needed c.pool e.0) (has_shape c.pool env rules fit e there) (num_fits c.pool env rules fit e there) (follow e there) (ltb-false k f.width l) h

    process_has : (b : Bit) → IsCombBit c b → ((x : Bit) → IsCombBit c x → Needs c b x → Contains before x) → HasProcess c design b.sig → Has b
    process_has b is behind h =
        let there : b.sig < length c.pool.signals = some_signal c.pool.signals b.sig (omega (arith, is.inside)) in
        let x : (y : Sig) × (slice_get c.pool.signals b.sig ≡ Some y) = element c.pool.signals b.sig there in
        comb_bit c b.sig wires (omega (arith, is.inside)) (obeys b.sig there) design h b.index is.inside
        ∙ ⊎_elim
        (λ (e : at_last c false h.process b.sig b.index ≡ Constant (bit_of (at env b.sig) b.index)). ap (source_value wires) e)
        (λ (f : IsFrom c env design rules plain st settled b.sig h.process b.index).
        ap (source_value wires) f.source ∙ source_has f.expr f.place f.usable.there (needed_has b behind f.expr f.place f.usable.there f.needs) ∙ ap (λ t. Some t) (sym f.same))
        (settled_bit c env design rules plain st settled b.sig h.process b.index x.0 x.1 h.unheld h.only h.domain is.inside)

    -- a bit that a port gives has those of the address behind it
    address_bits : (b : Bit) → ((x : Bit) → IsCombBit c x → Needs c b x → Contains before x) → (h : HasPort c b.sig is_comb_port) → h.port.addr.0 < length c.pool.exprs → b.index < width b → HasBits wires (value_id h.port.addr.0) (form c.pool h.port.addr.0).width (num c.pool env h.port.addr.0)
    address_bits b behind h there inside = record { at = λ k l. follow e there k l (low k l (needed_has b behind e k there (λ x a. inr (needs k l x (subst (λ bits. Among bits x) (extended_low k l) a))))) }
      where
        e : ExprId
        e = h.port.addr

        bits : ℕ → List Bit
        bits = needed c.pool e.0

        extended_low : (k : ℕ) → k < (form c.pool e.0).width → extended (form c.pool e.0) bits k ≡ bits k
        extended_low k l = sym (cond_below k (form c.pool e.0).width (bits k) (cond (form c.pool e.0).signed (bits ((form c.pool e.0).width - 1)) []) l)

        low : (k : ℕ) → k < (form c.pool e.0).width → AllByRecursion Has (extended (form c.pool e.0) bits k) → AllByRecursion Has (bits k)
        low k l all = subst (AllByRecursion Has) (extended_low k l) all

        needs : (k : ℕ) → k < (form c.pool e.0).width → (x : Bit) → Among (bits k) x → ReadNeeds c b x
        needs k l x a = record {
          memory = h.memory;
          among = Contains-among c.memories h.memory h.stored;
          read = h.port;
          stands = Contains-among h.memory.reads h.port h.among;
          comb = none_is h.port.domain h.is;
          word = sym h.word;
          inside = inside;
          address = Contains-among (needed_whole c.pool e) x (Among-flat_map bits (range_with_len 0 (form c.pool e.0).width) k x (range_among 0 (form c.pool e.0).width k (omega arith) (omega (arith, l))) a);
        }

    read_has : (b : Bit) → IsCombBit c b → ((x : Bit) → IsCombBit c x → Needs c b x → Contains before x) → IsReadAtOnce c design b.sig → Has b
    read_has b is behind r =
        let h : HasPort c b.sig is_comb_port = port_of c b.sig is_comb_port r.read in
        let e : ExprId = h.port.addr in
        (reads b.sig h (carries_bits wires (expr_value c e.0) (num c.pool env e.0) (address_bits b behind h (port_rules c design h.memory h.port h.stored h.among).addr.usable.there is.inside))).at b.index is.inside

    comb_has : (b : Bit) → IsCombBit c b → ((x : Bit) → IsCombBit c x → Needs c b x → Contains before x) → Has b
    comb_has b is behind = ⊎_elim (λ h. process_has b is behind h) (λ r. read_has b is behind r) (comb_source c design b.sig is.comb)

  -- ---- all bits

  along : (before after : List Bit) → order ≡ before ++ after → AllByRecursion Has before → AllByRecursion Has order
  along before [] e h = subst (AllByRecursion Has) (sym (e ∙ append-nil before)) h
  along before (b ∷ after) e h =
      let is : IsCombBit c b = AllByRecursion-among (IsCombBit c) order b is_order.only (subst (λ o. Among o b) (sym e) (Among-right before (b ∷ after) b (inl refl))) in
      along (before ++ b ∷ []) after (e ∙ sym (append_assoc before (b ∷ []) after))
      (AllByRecursion-append Has before (b ∷ []) h (comb_has before h b is (λ x. is_order.behind before after b x e), tt))

  any_has : (b : Bit) → b.index < width b → Has b
  any_has b inside = by (is_comb c b.sig) refl
    where
      by : (t : Bool) → is_comb c b.sig ≡ t → Has b
      by true comb = AllByRecursion-among Has order b (along [] order refl tt) (Among-contains order b (is_order.all b (record { comb = comb; inside = inside })))
      by false comb = free_has b inside comb

  -- the wire of each signal carries its number
  pub signal_carries : (s : ℕ) → Carries wires (signal_value c s) (at env s)
  signal_carries s = carries_bits wires (signal_value c s) (at env s) (record { at = λ i l. any_has (record { sig = s; index = i }) l })

  -- and that of each expression its integer
  pub expr_carries : (e : ExprId) → e.0 < length c.pool.exprs → Carries wires (expr_value c e.0) (num c.pool env e.0)
  expr_carries e there =
      let f : Form = form c.pool e.0 in
      carries_bits wires (expr_value c e.0) (num c.pool env e.0) (record {
        at = λ k l.
            let bits : List Bit = needed c.pool e.0 k in
            let inside : AllByRecursion (IsInside (signal_form c.pool.signals)) bits =
            rw (← cond_below k f.width bits (cond f.signed (needed c.pool e.0 (f.width - 1)) []) l) at (needed_inside c.pool env rules fit e k there) in
            follow e there k l (all_from Has bits (λ x a. any_has x (AllByRecursion-among (IsInside (signal_form c.pool.signals)) bits x inside a)));
      })
