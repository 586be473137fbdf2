-- A text stands for one module at most.
use Rattle.std.proofs.Common.{◌≡◌, ◌∙◌, ◌==◌, ℕ, Bool, false, List, [], ◌∷◌, ◌++◌, map, All, refl, sym, ap, subst, inl, inr, ⊎_elim}
use Rattle.std.specs.Prelude.{Contains, Option, None, Some}
use Rattle.std.specs.List.{flat_map, AllByRecursion, IsDistinct}
use Rattle.std.proofs.lemmas.Bool.{true≢false}
use Rattle.std.proofs.lemmas.List.Elements.{recursion_from_All}
use Rattle.lists.specs.Texts.{text_eq}
use Rattle.lists.proofs.TextLaws.{text_eq_same}
use Rattle.rtlil_text.specs.declared.cell.RtlValue.{RtlValue}
use Rattle.rtlil_text.specs.declared.cell.RtlValue.TheVariants as values
use Rattle.rtlil_text.specs.declared.cell.RtlParameter.{RtlParameter}
use Rattle.rtlil_text.specs.declared.cell.RtlEnd.{RtlEnd}
use Rattle.rtlil_text.specs.declared.cell.RtlCell.{RtlCell}
use Rattle.rtlil_text.specs.declared.module.RtlWire.{RtlWire}
use Rattle.rtlil_text.specs.declared.module.RtlMemory.{RtlMemory}
use Rattle.rtlil_text.specs.declared.module.RtlLink.{RtlLink}
use Rattle.rtlil_text.specs.declared.module.RtlModule.{RtlModule}
use Rattle.rtlil_text.specs.Lines.{init_text, wire_line, wire_text, memory_text, head_text, module_end}
use Rattle.rtlil_text.specs.Ids.{IsId}
use Rattle.rtlil_text.specs.CellTables.{Named, value_form}
use Rattle.rtlil_text.specs.Grammar.{Each, IsLink, IsCell}
use Rattle.rtlil_text.specs.Rules.{IsModule, ValueFits, SpecFits, CellFits, LinkFits}
use Rattle.rtlil_text.specs.Reads.{Reads}
use Rattle.rtlil_text.proofs.Among.{Among, Among-contains, AllByRecursion-among}
use Rattle.rtlil_text.proofs.Driven.{wire_ids, wire_ids-distinct}
use Rattle.rtlil_text.proofs.Words.{IsWord, append-cancel}
use Rattle.rtlil_text.proofs.SpecOnce.{IsIdText, All-left, All-right}
use Rattle.rtlil_text.proofs.IdText.{IsIdText-id, IsIdText-public}
use Rattle.rtlil_text.proofs.KindTexts.{words-parameters_of, words-ends_of}
use Rattle.rtlil_text.proofs.ModuleOnce.{is_third, is_wire_start, IsWordMemory, IsIdWire, memories-once, wires-once}
use Rattle.rtlil_text.proofs.CellOnce.{IsWordValue, IsWordParameter, EndFits, IsWordCell, FitsWires, is_cell_start, cells-once, links-once}

-- ---- elements, by recursion

both_of : {A : Type 0} (P Q R : A → Type 0) → ((a : A) → P a → Q a → R a) → (xs : List A) → AllByRecursion P xs → AllByRecursion Q xs → AllByRecursion R xs
both_of P Q R f [] h k = tt
both_of P Q R f (x ∷ xs) h k = (f x h.0 k.0, both_of P Q R f xs h.1 k.1)

of_map : {A B : Type 0} (P : B → Type 0) (f : A → B) (xs : List A) → AllByRecursion P (map f xs) → AllByRecursion (λ a. P (f a)) xs
of_map P f [] h = tt
of_map P f (x ∷ xs) h = (h.0, of_map P f xs h.1)

wire_id_texts : (m : RtlModule) → IsModule m → AllByRecursion (λ (w : RtlWire). IsId w.id) m.wires
wire_id_texts m rules =
    of_map IsId (λ (w : RtlWire). w.id) m.wires (recursion_from_All IsId (wire_ids m.wires) (All-left IsId (wire_ids m.wires) (map (λ (r : RtlMemory). r.id) m.memories)
    (All-left IsId (wire_ids m.wires ++ map (λ (r : RtlMemory). r.id) m.memories) (map (λ (c : RtlCell). c.id) m.cells) rules.ids)))

memory_id_texts : (m : RtlModule) → IsModule m → AllByRecursion (λ (r : RtlMemory). IsId r.id) m.memories
memory_id_texts m rules =
    of_map IsId (λ (r : RtlMemory). r.id) m.memories (recursion_from_All IsId (map (λ (r : RtlMemory). r.id) m.memories) (All-right IsId (wire_ids m.wires) (map (λ (r : RtlMemory). r.id) m.memories)
    (All-left IsId (wire_ids m.wires ++ map (λ (r : RtlMemory). r.id) m.memories) (map (λ (c : RtlCell). c.id) m.cells) rules.ids)))

cell_id_texts : (m : RtlModule) → IsModule m → AllByRecursion (λ (c : RtlCell). IsId c.id) m.cells
cell_id_texts m rules =
    of_map IsId (λ (c : RtlCell). c.id) m.cells (recursion_from_All IsId (map (λ (c : RtlCell). c.id) m.cells)
    (All-right IsId (wire_ids m.wires ++ map (λ (r : RtlMemory). r.id) m.memories) (map (λ (c : RtlCell). c.id) m.cells) rules.ids))

memory_words : (m : RtlModule) → IsModule m → AllByRecursion IsWordMemory m.memories
memory_words m rules =
    both_of (λ (r : RtlMemory). IsId r.id) (λ (r : RtlMemory). IsId r.id) IsWordMemory (λ r i j. (IsIdText-id r.id i).word) m.memories (memory_id_texts m rules) (memory_id_texts m rules)

wire_ids_are : (m : RtlModule) → IsModule m → AllByRecursion IsIdWire m.wires
wire_ids_are m rules =
    both_of (λ (w : RtlWire). IsId w.id) (λ (w : RtlWire). IsId w.id) IsIdWire (λ w i j. IsIdText-id w.id i) m.wires (wire_id_texts m rules) (wire_id_texts m rules)

id_among : (ws : List RtlWire) (w : RtlWire) → Among ws w → Among (wire_ids ws) w.id
id_among [] w h = absurd h
id_among (x ∷ ws) w h = ⊎_elim (λ e. inl (ap (λ (y : RtlWire). y.id) e)) (λ later. inr (id_among ws w later)) h

same_width : (ws : List RtlWire) → IsDistinct text_eq (wire_ids ws) → (v w : RtlWire) → Among ws v → Among ws w → v.id ≡ w.id → v.width ≡ w.width
unfolding IsDistinct
same_width [] d v w a b e = absurd a
same_width (x ∷ ws) d v w (inl p) (inl q) e = ap (λ (y : RtlWire). y.width) (sym p ∙ q)
same_width (x ∷ ws) d v w (inl p) (inr b) e = absurd (true≢false (sym (text_eq_same w.id) ∙ ap (λ i. text_eq i w.id) (sym e ∙ ap (λ (y : RtlWire). y.id) (sym p)) ∙ AllByRecursion-among (λ y. text_eq x.id y ≡ false) (wire_ids ws) w.id d.0 (id_among ws w b)))
same_width (x ∷ ws) d v w (inr a) (inl q) e = absurd (true≢false (sym (text_eq_same v.id) ∙ ap (λ i. text_eq i v.id) (e ∙ ap (λ (y : RtlWire). y.id) (sym q)) ∙ AllByRecursion-among (λ y. text_eq x.id y ≡ false) (wire_ids ws) v.id d.0 (id_among ws v a)))
same_width (x ∷ ws) d v w (inr a) (inr b) e = same_width ws d.1 v w a b e

-- ---- cells over the wires of a module that is read of the same text

word_value : (v : RtlValue) → ValueFits v → IsWordValue v
word_value (values.Number n) f = tt
word_value (values.Bits bits) f = tt
word_value (values.Id id) f = (IsIdText-public id f).word

parameter_names : (ps : List RtlParameter) → AllByRecursion IsWord (map (λ (n : Named). n.0) (map (λ (p : RtlParameter). (p.name, value_form p.value)) ps)) → AllByRecursion (λ (p : RtlParameter). IsWord p.name) ps
parameter_names [] h = tt
parameter_names (p ∷ ps) h = (h.0, parameter_names ps h.1)

word_parameters : (m : RtlModule) (c : RtlCell) → CellFits m c → AllByRecursion IsWordParameter c.parameters
word_parameters m c fits =
    both_of (λ (p : RtlParameter). IsWord p.name) (λ (p : RtlParameter). ValueFits p.value) IsWordParameter (λ p n v. record { name = n; value = word_value p.value v }) c.parameters
    (parameter_names c.parameters (subst (λ (ns : List Named). AllByRecursion IsWord (map (λ (n : Named). n.0) ns)) (sym fits.parameters) (words-parameters_of c.kind)))
    (recursion_from_All (λ (p : RtlParameter). ValueFits p.value) c.parameters fits.values)

module _ (wires : List RtlWire) (ids : (w : RtlWire) → Contains wires w → IsIdText w.id) (agree : (v w : RtlWire) → Contains wires v → Contains wires w → v.id ≡ w.id → v.width ≡ w.width) where
  fit_ends : (m : RtlModule) (c : RtlCell) → m.wires ≡ wires → CellFits m c → AllByRecursion (EndFits wires ids agree) c.ends
  fit_ends m c e fits =
      let names = of_map IsWord (λ (x : RtlEnd). x.name) c.ends (subst (AllByRecursion IsWord) (sym fits.ends) (words-ends_of c.kind)) in
      let specs = recursion_from_All (λ (x : RtlEnd). SpecFits wires x.spec) c.ends (subst (λ (ws : List RtlWire). All (λ (x : RtlEnd). SpecFits ws x.spec) c.ends) e fits.specs) in
      both_of (λ (x : RtlEnd). IsWord x.name) (λ (x : RtlEnd). SpecFits wires x.spec) (EndFits wires ids agree) (λ x n s. record { name = n; spec = s }) c.ends names specs

  word_cells : (m : RtlModule) → m.wires ≡ wires → IsModule m → AllByRecursion (IsWordCell wires ids agree) m.cells
  word_cells m e rules =
      both_of (λ (c : RtlCell). IsId c.id) (CellFits m) (IsWordCell wires ids agree) (λ c i f. record { id = (IsIdText-id c.id i).word; parameters = word_parameters m c f; ends = fit_ends m c e f }) m.cells (cell_id_texts m rules)
      (recursion_from_All (CellFits m) m.cells rules.cells)

  fit_links : (m : RtlModule) → m.wires ≡ wires → IsModule m → AllByRecursion (FitsWires wires ids agree) m.links
  fit_links m e rules =
      both_of (LinkFits m) (LinkFits m) (FitsWires wires ids agree) (λ l f g. record { left = subst (λ (ws : List RtlWire). SpecFits ws l.left) e f.left; right = subst (λ (ws : List RtlWire). SpecFits ws l.right) e f.right }) m.links
      (recursion_from_All (LinkFits m) m.links rules.links) (recursion_from_All (LinkFits m) m.links rules.links)

-- ---- what stands behind each section

links_third : (c : ℕ) → (99 == c) ≡ false → (100 == c) ≡ false → (wires : List RtlWire) (t : List ℕ) (ls : List RtlLink) → Each (IsLink wires) t ls → is_third c (t ++ module_end) ≡ false
unfolding is_third
links_third c p q wires t [] h = rw h q
links_third c p q wires t (l ∷ ls) h = rw (h.4, h.2.whole) p

cells_third : (c : ℕ) → (99 == c) ≡ false → (100 == c) ≡ false → (wires : List RtlWire) (t u : List ℕ) (cs : List RtlCell) (ls : List RtlLink) → Each (IsCell wires) t cs → Each (IsLink wires) u ls → is_third c (t ++ (u ++ module_end)) ≡ false
unfolding is_third
cells_third c p q wires t u [] ls h k = rw h (links_third c p q wires u ls k)
cells_third c p q wires t u (x ∷ cs) ls h k = rw (h.4, h.2.whole) p

init_third : (o : Option (List Bool)) (w : RtlWire) (more r : List ℕ) → is_third 109 (((init_text o ++ wire_line w) ++ more) ++ r) ≡ false
unfolding is_third
init_third None w more r = refl
init_third (Some bits) w more r = refl

wires_third : (ws : List RtlWire) (r : List ℕ) → is_third 109 r ≡ false → is_third 109 (flat_map wire_text ws ++ r) ≡ false
wires_third [] r h = h
wires_third (w ∷ ws) r h = init_third w.init w (flat_map wire_text ws) r

links_start : (wires : List RtlWire) (t : List ℕ) (ls : List RtlLink) → Each (IsLink wires) t ls → is_cell_start (t ++ module_end) ≡ false
unfolding is_cell_start
links_start wires t [] h = rw h refl
links_start wires t (l ∷ ls) h = rw (h.4, h.2.whole) refl

no_link : is_third 99 module_end ≡ false
unfolding is_third
no_link = refl

no_wire : (r : List ℕ) → is_third 97 r ≡ false → is_third 119 r ≡ false → is_wire_start r ≡ false
unfolding is_wire_start
no_wire r p q = rw (p, q) refl

-- ---- the whole text

pub Reads-once : (t : List ℕ) (m n : RtlModule) → Reads t m → Reads t n → m ≡ n
Reads-once t m n rm rn =
    let gm = rm.grammar in
    let gn = rn.grammar in
    let wires_m = flat_map wire_text m.wires in
    let wires_n = flat_map wire_text n.wires in
    let rest_m = gm.cells ++ (gm.links ++ module_end) in
    let rest_n = gn.cells ++ (gn.links ++ module_end) in
    let third_m = λ (c : ℕ) (p : (99 == c) ≡ false) (q : (100 == c) ≡ false). cells_third c p q m.wires gm.cells gm.links m.cells m.links gm.spells_cells gm.spells_links in
    let third_n = λ (c : ℕ) (p : (99 == c) ≡ false) (q : (100 == c) ≡ false). cells_third c p q n.wires gn.cells gn.links n.cells n.links gn.spells_cells gn.spells_links in
    let e1 = append-cancel head_text (flat_map memory_text m.memories ++ (wires_m ++ rest_m)) (flat_map memory_text n.memories ++ (wires_n ++ rest_n)) (sym gm.whole ∙ gn.whole) in
    let memories = memories-once m.memories n.memories (wires_m ++ rest_m) (wires_n ++ rest_n) (memory_words m rm.rules) (memory_words n rn.rules) (wires_third m.wires rest_m (third_m 109 refl refl)) (wires_third n.wires rest_n (third_n 109 refl refl)) e1 in
    let wires = wires-once m.wires n.wires rest_m rest_n (wire_ids_are m rm.rules) (wire_ids_are n rn.rules) (no_wire rest_m (third_m 97 refl refl) (third_m 119 refl refl)) (no_wire rest_n (third_n 97 refl refl) (third_n 119 refl refl)) memories.1 in
    let ids = λ (w : RtlWire) (h : Contains m.wires w). AllByRecursion-among IsIdWire m.wires w (wire_ids_are m rm.rules) (Among-contains m.wires w h) in
    let agree = λ (v w : RtlWire) (h : Contains m.wires v) (k : Contains m.wires w). same_width m.wires (wire_ids-distinct m rm.rules) v w (Among-contains m.wires v h) (Among-contains m.wires w k) in
    let back = sym wires.0 in
    let cells_n = subst (λ (ws : List RtlWire). Each (IsCell ws) gn.cells n.cells) back gn.spells_cells in
    let links_n = subst (λ (ws : List RtlWire). Each (IsLink ws) gn.links n.links) back gn.spells_links in
    let cells = cells-once m.wires ids agree m.cells n.cells gm.cells gn.cells (gm.links ++ module_end) (gn.links ++ module_end) (word_cells m.wires ids agree m refl rm.rules) (word_cells m.wires ids agree n back rn.rules)
    gm.spells_cells cells_n (links_start m.wires gm.links m.links gm.spells_links) (links_start m.wires gn.links n.links links_n) wires.1 in
    let links = links-once m.wires ids agree m.links n.links gm.links gn.links module_end module_end (fit_links m.wires ids agree m refl rm.rules) (fit_links m.wires ids agree n back rn.rules) gm.spells_links links_n no_link no_link cells.1 in
    (λ i. record { wires = wires.0 i; memories = memories.0 i; cells = cells.0 i; links = links.0 i })
