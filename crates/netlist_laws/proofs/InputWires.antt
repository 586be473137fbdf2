-- The bits of the inputs of a design, by the ids of their wires.
use Rattle.std.specs.Prelude.{◌≡◌, ◌==◌, ◌&&◌, ◌||◌, ℕ, Bool, true, false, cond, List, [], ◌∷◌, map, slice_get, Option, Some, None, option_and_then, ℤ}
use Rattle.std.specs.List.{filter_map, cons_option, list_any, IsDistinct}
use Rattle.std.proofs.Common.{refl, sym, ap, ◌∙◌, inl, inr, ⊎_elim}
use Rattle.std.proofs.lemmas.Bool.{false≢true, or_left, or_right, eqb-true, eq-eqb}
use Rattle.lists.specs.Texts.{text_eq}
use Rattle.lists.proofs.TextLaws.{text_eq_same, text_eq_true}
use Rattle.design_ir.specs.declared.port.Port.{Port}
use Rattle.design_ir.specs.declared.port.Column.{Column}
use Rattle.design_ir.specs.Circuits.{Circuit, is_input}
use Rattle.design_ir.specs.Designs.{IsDesign}
use Rattle.rtlil_text.specs.Meaning.{under, input_bit}
use Rattle.rtlil_text.proofs.Among.{Among, Among-map, AllByRecursion-among}
use Rattle.netlist_laws.specs.Module.{column_of, wire_id}
use Rattle.netlist_laws.specs.Histories.{signal_bits, input_bits, inputs_at}
use Rattle.netlist_laws.proofs.ColumnSignals.{column_at, found, hidden_no_input}
use Rattle.netlist_laws.proofs.SignalWires.{named_by}

-- ---- the ids of inputs differ

find_among : (xs : List Column) (s : ℕ) (x : Column) → column_at s xs ≡ Some x → Among xs x
find_among [] s x e = cc
find_among (y ∷ ys) s x e = by (find_among ys s x) (y.sig.0 == s) e
  where
    by : (column_at s ys ≡ Some x → Among ys x) → (b : Bool) → cond b (Some y) (column_at s ys) ≡ Some x → Among (y ∷ ys) x
    by later true e = inl cc
    by later false e = inr (later e)

other_name : (x y : Column) (ys : List Column) → Among ys y → IsDistinct text_eq (map (λ (z : Column). z.name) (x ∷ ys)) → x.name ≡ y.name → ⊥
unfolding IsDistinct
other_name x y ys a d e = false≢true (sym (AllByRecursion-among (λ n. text_eq x.name n ≡ false) (map (λ (z : Column). z.name) ys) y.name d.0 (Among-map (λ (z : Column). z.name) ys y a)) ∙ ap (λ n. text_eq n y.name) e ∙ text_eq_same y.name)

pub same_column : (xs : List Column) (x y : Column) → IsDistinct text_eq (map (λ (z : Column). z.name) xs) → Among xs x → Among xs y → x.name ≡ y.name → x ≡ y
unfolding IsDistinct
same_column [] x y d a b e = absurd a
same_column (z ∷ zs) x y d a b e = ⊎_elim
    (λ (zx : z ≡ x). ⊎_elim (λ (zy : z ≡ y). sym zx ∙ zy) (λ (later : Among zs y). absurd (other_name z y zs later d (ap (λ (u : Column). u.name) zx ∙ e))) b)
    (λ (earlier : Among zs x). ⊎_elim (λ (zy : z ≡ y). absurd (other_name z x zs earlier d (ap (λ (u : Column). u.name) zy ∙ sym e))) (λ (later : Among zs y). same_column zs x y d.1 earlier later e) b)
    a

module _ (c : Circuit) (design : IsDesign c) where
  -- an input has a column
  shown : (s : ℕ) → is_input c s ≡ true → (x : Column) × (column_of c s ≡ Some x)
  shown s e = by (column_of c s) refl
    where
      by : (o : Option Column) → column_of c s ≡ o → (x : Column) × (column_of c s ≡ Some x)
      by None f = absurd (false≢true (sym (hidden_no_input c design s f) ∙ e))
      by (Some x) f = (x, f)

  tail : List ℕ → List ℕ
  tail [] = []
  tail (n ∷ ns) = ns

  same_input : (s t : ℕ) → is_input c s ≡ true → is_input c t ≡ true → wire_id c s ≡ wire_id c t → s ≡ t
  unfolding tail
  same_input s t e f same =
      let x = shown s e in
      let y = shown t f in
      let names : x.0.name ≡ y.0.name = ap tail (sym (named_by c s (Some x.0) x.1) ∙ same ∙ named_by c t (Some y.0) y.1) in
      let columns : x.0 ≡ y.0 = same_column c.columns x.0 y.0 design.columns.names (find_among c.columns s x.0 x.1) (find_among c.columns t y.0 y.1) names in
      sym (found c.columns s x.0 x.1) ∙ ap (λ (z : Column). z.sig.0) columns ∙ found c.columns t y.0 y.1

  -- ---- under the id of an input stand its bits

  module _ (ins : List ℤ) (s : ℕ) (input : is_input c s ≡ true) where
    module _ (p : Port) (ps : List Port) (own : p.is_input ≡ true → is_input c p.sig.0 ≡ true)
        (others : list_any (λ (q : Port). q.is_input && (q.sig.0 == s)) ps ≡ true → under (wire_id c s) (filter_map (input_bits c ins) ps) ≡ Some (signal_bits c ins s))
        (any : ((p.is_input && (p.sig.0 == s)) || list_any (λ (q : Port). q.is_input && (q.sig.0 == s)) ps) ≡ true) where
      rest : List (List ℕ × List Bool)
      rest = filter_map (input_bits c ins) ps

      more : (p.is_input && (p.sig.0 == s)) ≡ false → under (wire_id c s) rest ≡ Some (signal_bits c ins s)
      unfolding rest
      more none = others (ap (λ t. t || list_any (λ (q : Port). q.is_input && (q.sig.0 == s)) ps) (sym none) ∙ any)

      not_it : text_eq (wire_id c p.sig.0) (wire_id c s) ≡ false → (p.sig.0 == s) ≡ false
      not_it apart = by (p.sig.0 == s) refl
        where
          by : (t : Bool) → (p.sig.0 == s) ≡ t → t ≡ false
          by true n = absurd (false≢true (sym apart ∙ ap (λ k. text_eq (wire_id c k) (wire_id c s)) (eqb-true p.sig.0 s n) ∙ text_eq_same (wire_id c s)))
          by false n = refl

      by_id : (t : Bool) → text_eq (wire_id c p.sig.0) (wire_id c s) ≡ t → p.is_input ≡ true → cond t (Some (signal_bits c ins p.sig.0)) (under (wire_id c s) rest) ≡ Some (signal_bits c ins s)
      by_id true same side =
          let number : p.sig.0 ≡ s = same_input p.sig.0 s (own side) input (text_eq_true (wire_id c p.sig.0) (wire_id c s) same) in
          ap (λ n. Some (signal_bits c ins n)) number
      by_id false apart side = more (λ i. side i && not_it apart i)

      by_side : (t : Bool) → p.is_input ≡ t → under (wire_id c s) (cons_option (cond t (Some (wire_id c p.sig.0, signal_bits c ins p.sig.0)) None) rest) ≡ Some (signal_bits c ins s)
      by_side true side = by_id (text_eq (wire_id c p.sig.0) (wire_id c s)) refl side
      by_side false side = more (ap (λ t. t && (p.sig.0 == s)) side)

      first_port : under (wire_id c s) (filter_map (input_bits c ins) (p ∷ ps)) ≡ Some (signal_bits c ins s)
      unfolding rest
      first_port = by_side p.is_input refl

    under_ports : (ps : List Port) → ((p : Port) → Among ps p → p.is_input ≡ true → is_input c p.sig.0 ≡ true) → list_any (λ (p : Port). p.is_input && (p.sig.0 == s)) ps ≡ true
        → under (wire_id c s) (filter_map (input_bits c ins) ps) ≡ Some (signal_bits c ins s)
    under_ports [] each e = absurd (false≢true e)
    under_ports (p ∷ ps) each e = first_port p ps (each p (inl refl)) (λ h. under_ports ps (λ q a. each q (inr a)) h) e

    input_any : (ps : List Port) (p : Port) → Among ps p → p.is_input ≡ true → list_any (λ (q : Port). q.is_input && (q.sig.0 == p.sig.0)) ps ≡ true
    input_any [] p a e = absurd a
    input_any (q ∷ ps) p a e = ⊎_elim
        (λ (same : q ≡ p). or_left (q.is_input && (q.sig.0 == p.sig.0)) _ (ap (λ (r : Port). r.is_input && (r.sig.0 == p.sig.0)) same ∙ (λ i. e i && eq-eqb p.sig.0 p.sig.0 refl i)))
        (λ (later : Among ps p). or_right (q.is_input && (q.sig.0 == p.sig.0)) _ (input_any ps p later e))
        a

    pub input_bits_are : (i : ℕ) → input_bit (inputs_at c ins) (wire_id c s) i ≡ slice_get (signal_bits c ins s) i
    input_bits_are i = ap (option_and_then (λ bits. slice_get bits i)) (under_ports c.ports (λ p a e. input_any c.ports p a e) input)
