-- The lines of a cell and of a link are read in one way.
use Rattle.std.proofs.Common.{◌≡◌, ◌∙◌, ◌≤◌, ◌==◌, ◌&&◌, ℕ, Bool, true, false, List, [], ◌∷◌, ◌++◌, map, reverse, length, codes, refl, sym, ap, arith, inl, append_assoc}
use Rattle.std.specs.Prelude.{Contains}
use Rattle.std.specs.List.{flat_map, AllByRecursion}
use Rattle.rtlil_text.specs.Numerals.{numeral}
use Rattle.rtlil_text.specs.declared.sig.SigPart.{SigPart}
use Rattle.rtlil_text.specs.declared.cell.RtlValue.{RtlValue}
use Rattle.rtlil_text.specs.declared.cell.RtlValue.TheVariants as values
use Rattle.rtlil_text.specs.declared.cell.RtlParameter.{RtlParameter}
use Rattle.rtlil_text.specs.declared.cell.RtlEnd.{RtlEnd}
use Rattle.rtlil_text.specs.declared.cell.RtlCell.{RtlCell}
use Rattle.rtlil_text.specs.declared.module.RtlWire.{RtlWire}
use Rattle.rtlil_text.specs.declared.module.RtlLink.{RtlLink}
use Rattle.rtlil_text.specs.Lines.{bit_char, const_text, kind_text, value_text, parameter_text, cell_end}
use Rattle.rtlil_text.specs.Grammar.{Each, IsSpec, IsEnd, IsLink, IsCell}
use Rattle.rtlil_text.specs.Rules.{SpecFits}
use Rattle.rtlil_text.proofs.Words.{IsWord, append-cancel, word-cut, digits-cut, IsWord-append}
use Rattle.rtlil_text.proofs.Numerals.{IsWord-numeral, IsDigits-numeral, numeral-first, numeral-injective}
use Rattle.rtlil_text.proofs.SpecOnce.{IsIdText, Stops, IsWord-const_text, const-begins, const_text-injective, spec-once, spec-begins, no_start}
use Rattle.rtlil_text.proofs.ModuleOnce.{each-once, each-flat_map, is_third}
use Rattle.rtlil_text.proofs.KindTexts.{IsWord-kind_text, kind_text-injective}

-- ---- parameters

-- a value with no blank in its text
abbrev pub IsWordValue : RtlValue → Type 0
IsWordValue (values.Number n) = Unit {0}
IsWordValue (values.Bits bits) = Unit {0}
IsWordValue (values.Id id) = IsWord id

push-injective : (xs ys : List ℕ) (c : ℕ) → xs ++ c ∷ [] ≡ ys ++ c ∷ [] → xs ≡ ys
push-injective [] [] c e = refl
push-injective [] (y ∷ []) c e = cc
push-injective [] (y ∷ z ∷ ys) c e = cc
push-injective (x ∷ []) [] c e = cc
push-injective (x ∷ z ∷ xs) [] c e = cc
push-injective (x ∷ xs) (y ∷ ys) c e =
    let f : x ≡ y = cc in
    let g : xs ++ c ∷ [] ≡ ys ++ c ∷ [] = cc in
    (λ i. f i ∷ push-injective xs ys c g i)

IsWord-value : (v : RtlValue) → IsWordValue v → IsWord (value_text v)
IsWord-value (values.Number n) h = IsWord-numeral n
IsWord-value (values.Bits bits) h = IsWord-const_text bits
IsWord-value (values.Id id) h = (omega arith, (omega arith, IsWord-append id (34 ∷ []) h (omega arith, tt)))

number_or_bits : (n : ℕ) (bits : List Bool) → numeral n ≡ const_text bits → ⊥
number_or_bits n bits e =
    let c = digits-cut (numeral n) (numeral (length bits)) 10 39 [] (map bit_char (reverse bits) ++ 10 ∷ []) (IsDigits-numeral n) (IsDigits-numeral (length bits)) (inl (omega arith)) (inl (omega arith)) (ap (λ x. x ++ 10 ∷ []) e ∙ append_assoc (numeral (length bits)) (39 ∷ map bit_char (reverse bits)) (10 ∷ [])) in
    omega (arith, c.1)

digit_or_quote : (x : ℕ) (xs : List ℕ) (t rest : List ℕ) → 48 ≤ x → t ≡ x ∷ xs → t ≡ 34 ∷ rest → ⊥
digit_or_quote x xs t rest h e f = let g : x ≡ 34 = cc in omega (arith, h, g)

number_or_id : (n : ℕ) (rest : List ℕ) → numeral n ≡ 34 ∷ rest → ⊥
number_or_id n rest e = let d = numeral-first n in digit_or_quote d.0 d.1 (numeral n) rest d.2 d.4 e

bits_or_id : (bits : List Bool) (rest : List ℕ) → const_text bits ≡ 34 ∷ rest → ⊥
bits_or_id bits rest e = let b = const-begins bits in digit_or_quote b.first b.rest (const_text bits) rest b.such.0 b.is e

value_text-injective : (a b : RtlValue) → IsWordValue a → IsWordValue b → value_text a ≡ value_text b → a ≡ b
value_text-injective (values.Number m) (values.Number n) h k e = ap values.Number (numeral-injective m n e)
value_text-injective (values.Number m) (values.Bits y) h k e = absurd (number_or_bits m y e)
value_text-injective (values.Number m) (values.Id y) h k e = absurd (number_or_id m (92 ∷ (y ++ 34 ∷ [])) e)
value_text-injective (values.Bits x) (values.Number n) h k e = absurd (number_or_bits n x (sym e))
value_text-injective (values.Bits x) (values.Bits y) h k e = ap values.Bits (const_text-injective x y e)
value_text-injective (values.Bits x) (values.Id y) h k e = absurd (bits_or_id x (92 ∷ (y ++ 34 ∷ [])) e)
value_text-injective (values.Id x) (values.Number n) h k e = absurd (number_or_id n (92 ∷ (x ++ 34 ∷ [])) (sym e))
value_text-injective (values.Id x) (values.Bits y) h k e = absurd (bits_or_id y (92 ∷ (x ++ 34 ∷ [])) (sym e))
value_text-injective (values.Id x) (values.Id y) h k e = ap values.Id (push-injective x y 34 (append-cancel (34 ∷ 92 ∷ []) (x ++ 34 ∷ []) (y ++ 34 ∷ []) e))

pub record IsWordParameter (p : RtlParameter) : Type 0 where
  pub name : IsWord p.name
  pub value : IsWordValue p.value

parameter_spread : (p a w v r : List ℕ) → (p ++ (a ++ (w ++ (v ++ (10 ∷ []))))) ++ r ≡ p ++ (a ++ (w ++ (v ++ (10 ∷ r))))
parameter_spread p a w v r = simp append_assoc

parameter-once : (a b : RtlParameter) (r s : List ℕ) → IsWordParameter a → IsWordParameter b → parameter_text a ++ r ≡ parameter_text b ++ s → (a ≡ b) × (r ≡ s)
parameter-once a b r s h k same =
    let p = codes "    parameter " in
    let w = codes " " in
    let e = append-cancel p (a.name ++ (w ++ (value_text a.value ++ (10 ∷ r)))) (b.name ++ (w ++ (value_text b.value ++ (10 ∷ s)))) (sym (parameter_spread p a.name w (value_text a.value) r) ∙ same ∙ parameter_spread p b.name w (value_text b.value) s) in
    let c = word-cut a.name b.name 32 32 (value_text a.value ++ (10 ∷ r)) (value_text b.value ++ (10 ∷ s)) h.name k.name (omega arith) (omega arith) e in
    let d = word-cut (value_text a.value) (value_text b.value) 10 10 r s (IsWord-value a.value h.value) (IsWord-value b.value k.value) (omega arith) (omega arith) c.2 in
    let v = value_text-injective a.value b.value h.value k.value d.0 in
    ((λ i. record { name = c.0 i; value = v i }), d.2)

-- byte 4, from 0 on, is c
unfoldable pub is_fifth : ℕ → List ℕ → Bool
is_fifth c (v ∷ w ∷ x ∷ y ∷ z ∷ rest) = z == c
is_fifth c (v ∷ w ∷ x ∷ y ∷ []) = false
is_fifth c (v ∷ w ∷ x ∷ []) = false
is_fifth c (v ∷ w ∷ []) = false
is_fifth c (v ∷ []) = false
is_fifth c [] = false

parameters-once : (xs ys : List RtlParameter) (r s : List ℕ) → AllByRecursion IsWordParameter xs → AllByRecursion IsWordParameter ys → is_fifth 112 r ≡ false → is_fifth 112 s ≡ false → flat_map parameter_text xs ++ r ≡ flat_map parameter_text ys ++ s → (xs ≡ ys) × (r ≡ s)
unfolding is_fifth
parameters-once xs ys r s px py nr ns same =
    each-once (λ t a. t ≡ parameter_text a) IsWordParameter (is_fifth 112) (λ t r a e. rw e refl) (λ t u r s a b h k e f g. parameter-once a b r s h k (ap (λ x. x ++ r) (sym e) ∙ g ∙ ap (λ x. x ++ s) f))
    xs ys (flat_map parameter_text xs) (flat_map parameter_text ys) r s px py (each-flat_map parameter_text xs) (each-flat_map parameter_text ys) nr ns same

-- ---- ends and links, over the wires

stops-line : (r : List ℕ) → Stops (10 ∷ r)
stops-line r = record { head = 10; rest = r; is = refl; blank = omega arith; closed = λ more e f. omega (arith, e) }

end_spread : (p a w v r : List ℕ) → (p ++ (a ++ (w ++ (v ++ (10 ∷ []))))) ++ r ≡ p ++ (a ++ (w ++ (v ++ (10 ∷ r))))
end_spread p a w v r = simp append_assoc

link_spread : (p a w v r : List ℕ) → (p ++ (a ++ (w ++ (v ++ (10 ∷ []))))) ++ r ≡ p ++ (a ++ (w ++ (v ++ (10 ∷ r))))
link_spread p a w v r = simp append_assoc

cell_spread : (p k w id ps es ce r : List ℕ) → ((p ++ (k ++ (w ++ (id ++ (10 ∷ []))))) ++ (ps ++ (es ++ ce))) ++ r ≡ p ++ (k ++ (w ++ (id ++ (10 ∷ (ps ++ (es ++ (ce ++ r)))))))
cell_spread p k w id ps es ce r = simp append_assoc

first_is : (t r more : List ℕ) (x : ℕ) (xs : List ℕ) → t ≡ x ∷ xs → t ++ r ≡ 91 ∷ more → x ≡ 91
first_is t r more x xs e f = let g : x ∷ (xs ++ r) ≡ 91 ∷ more = ap (λ z. z ++ r) (sym e) ∙ f in cc

-- the line of a cell begins here
unfoldable pub is_cell_start : List ℕ → Bool
is_cell_start (w ∷ x ∷ y ∷ z ∷ rest) = (y == 99) && (z == 101)
is_cell_start (w ∷ x ∷ y ∷ []) = false
is_cell_start (w ∷ x ∷ []) = false
is_cell_start (w ∷ []) = false
is_cell_start [] = false

module _ (wires : List RtlWire) (ids : (w : RtlWire) → Contains wires w → IsIdText w.id)
    (agree : (v w : RtlWire) → Contains wires v → Contains wires w → v.id ≡ w.id → v.width ≡ w.width) where
  pub record EndFits (e : RtlEnd) : Type 0 where
    pub name : IsWord e.name
    pub spec : SpecFits wires e.spec

  end-once : (t u r s : List ℕ) (a b : RtlEnd) → EndFits a → EndFits b → IsEnd wires t a → IsEnd wires u b → t ++ r ≡ u ++ s → (a ≡ b) × (r ≡ s)
  end-once t u r s a b h k x y same =
      let p = codes "    connect " in
      let w = codes " " in
      let e = append-cancel p (a.name ++ (w ++ (x.spec ++ (10 ∷ r)))) (b.name ++ (w ++ (y.spec ++ (10 ∷ s))))
      (sym (end_spread p a.name w x.spec r) ∙ ap (λ z. z ++ r) (sym x.whole) ∙ same ∙ ap (λ z. z ++ s) y.whole ∙ end_spread p b.name w y.spec s) in
      let c = word-cut a.name b.name 32 32 (x.spec ++ (10 ∷ r)) (y.spec ++ (10 ∷ s)) h.name k.name (omega arith) (omega arith) e in
      let d = spec-once wires ids agree x.spec y.spec (10 ∷ r) (10 ∷ s) a.spec b.spec x.spells y.spells h.spec k.spec (stops-line r) (stops-line s) c.2 in
      ((λ i. record { name = c.0 i; spec = d.0 i }), append-cancel (10 ∷ []) r s d.1)

  end-begins : (t r : List ℕ) (a : RtlEnd) → IsEnd wires t a → is_fifth 99 (t ++ r) ≡ true
  unfolding is_fifth
  end-begins t r a x = rw x.whole refl

  ends-once : (xs ys : List RtlEnd) (t u r s : List ℕ) → AllByRecursion EndFits xs → AllByRecursion EndFits ys → Each (IsEnd wires) t xs → Each (IsEnd wires) u ys → is_fifth 99 r ≡ false → is_fifth 99 s ≡ false → t ++ r ≡ u ++ s → (xs ≡ ys) × (r ≡ s)
  ends-once = each-once (IsEnd wires) EndFits (is_fifth 99) end-begins end-once

  pub record FitsWires (l : RtlLink) : Type 0 where
    pub left : SpecFits wires l.left
    pub right : SpecFits wires l.right

  -- a spec that stands behind another one
  stops-spec : (t : List ℕ) (ps : List SigPart) (r : List ℕ) → IsSpec wires t ps → SpecFits wires ps → Stops (32 ∷ (t ++ r))
  stops-spec t ps r x h =
      let b = spec-begins wires ids agree t ps x h in
      record { head = 32; rest = t ++ r; is = refl; blank = omega arith; closed = λ more e f. no_start wires ids agree b.first 91 (inl refl) b.such (first_is t r more b.first b.rest b.is f) }

  link-once : (t u r s : List ℕ) (a b : RtlLink) → FitsWires a → FitsWires b → IsLink wires t a → IsLink wires u b → t ++ r ≡ u ++ s → (a ≡ b) × (r ≡ s)
  link-once t u r s a b h k x y same =
      let p = codes "  connect " in
      let w = codes " " in
      let e = append-cancel p (x.left ++ (w ++ (x.right ++ (10 ∷ r)))) (y.left ++ (w ++ (y.right ++ (10 ∷ s))))
      (sym (link_spread p x.left w x.right r) ∙ ap (λ z. z ++ r) (sym x.whole) ∙ same ∙ ap (λ z. z ++ s) y.whole ∙ link_spread p y.left w y.right s) in
      let c = spec-once wires ids agree x.left y.left (32 ∷ (x.right ++ (10 ∷ r))) (32 ∷ (y.right ++ (10 ∷ s))) a.left b.left x.spells_left y.spells_left h.left k.left
      (stops-spec x.right a.right (10 ∷ r) x.spells_right h.right) (stops-spec y.right b.right (10 ∷ s) y.spells_right k.right) e in
      let d = spec-once wires ids agree x.right y.right (10 ∷ r) (10 ∷ s) a.right b.right x.spells_right y.spells_right h.right k.right (stops-line r) (stops-line s) (append-cancel (32 ∷ []) (x.right ++ (10 ∷ r)) (y.right ++ (10 ∷ s)) c.1) in
      ((λ i. record { left = c.0 i; right = d.0 i }), append-cancel (10 ∷ []) r s d.1)

  link-begins : (t r : List ℕ) (a : RtlLink) → IsLink wires t a → is_third 99 (t ++ r) ≡ true
  unfolding is_third
  link-begins t r a x = rw x.whole refl

  pub links-once : (xs ys : List RtlLink) (t u r s : List ℕ) → AllByRecursion FitsWires xs → AllByRecursion FitsWires ys → Each (IsLink wires) t xs → Each (IsLink wires) u ys → is_third 99 r ≡ false → is_third 99 s ≡ false → t ++ r ≡ u ++ s → (xs ≡ ys) × (r ≡ s)
  links-once = each-once (IsLink wires) FitsWires (is_third 99) link-begins link-once

  -- ---- cells

  pub record IsWordCell (c : RtlCell) : Type 0 where
    pub id : IsWord c.id
    pub parameters : AllByRecursion IsWordParameter c.parameters
    pub ends : AllByRecursion EndFits c.ends

  -- behind the parameters stands no other one
  ends-fifth : (t : List ℕ) (es : List RtlEnd) (r : List ℕ) → Each (IsEnd wires) t es → is_fifth 112 (t ++ (cell_end ++ r)) ≡ false
  unfolding is_fifth
  ends-fifth t [] r h = rw h refl
  ends-fifth t (e ∷ es) r h = rw (h.4, h.2.whole) refl

  last-fifth : (r : List ℕ) → is_fifth 99 (cell_end ++ r) ≡ false
  unfolding is_fifth
  last-fifth r = refl

  cell-once : (t u r s : List ℕ) (a b : RtlCell) → IsWordCell a → IsWordCell b → IsCell wires t a → IsCell wires u b → t ++ r ≡ u ++ s → (a ≡ b) × (r ≡ s)
  cell-once t u r s a b h k x y same =
      let p = codes "  cell " in
      let w = codes " " in
      let pa = flat_map parameter_text a.parameters in
      let pb = flat_map parameter_text b.parameters in
      let e = append-cancel p (kind_text a.kind ++ (w ++ (a.id ++ (10 ∷ (pa ++ (x.ends ++ (cell_end ++ r))))))) (kind_text b.kind ++ (w ++ (b.id ++ (10 ∷ (pb ++ (y.ends ++ (cell_end ++ s)))))))
      (sym (cell_spread p (kind_text a.kind) w a.id pa x.ends cell_end r) ∙ ap (λ z. z ++ r) (sym x.whole) ∙ same ∙ ap (λ z. z ++ s) y.whole ∙ cell_spread p (kind_text b.kind) w b.id pb y.ends cell_end s) in
      let c = word-cut (kind_text a.kind) (kind_text b.kind) 32 32 (a.id ++ (10 ∷ (pa ++ (x.ends ++ (cell_end ++ r))))) (b.id ++ (10 ∷ (pb ++ (y.ends ++ (cell_end ++ s))))) (IsWord-kind_text a.kind) (IsWord-kind_text b.kind) (omega arith) (omega arith) e in
      let d = word-cut a.id b.id 10 10 (pa ++ (x.ends ++ (cell_end ++ r))) (pb ++ (y.ends ++ (cell_end ++ s))) h.id k.id (omega arith) (omega arith) c.2 in
      let f = parameters-once a.parameters b.parameters (x.ends ++ (cell_end ++ r)) (y.ends ++ (cell_end ++ s)) h.parameters k.parameters (ends-fifth x.ends a.ends r x.spells) (ends-fifth y.ends b.ends s y.spells) d.2 in
      let g = ends-once a.ends b.ends x.ends y.ends (cell_end ++ r) (cell_end ++ s) h.ends k.ends x.spells y.spells (last-fifth r) (last-fifth s) f.1 in
      let kind = kind_text-injective a.kind b.kind c.0 in
      ((λ i. record { kind = kind i; id = d.0 i; parameters = f.0 i; ends = g.0 i }), append-cancel cell_end r s g.1)

  cell-begins : (t r : List ℕ) (a : RtlCell) → IsCell wires t a → is_cell_start (t ++ r) ≡ true
  unfolding is_cell_start
  cell-begins t r a x = rw x.whole refl

  pub cells-once : (xs ys : List RtlCell) (t u r s : List ℕ) → AllByRecursion IsWordCell xs → AllByRecursion IsWordCell ys → Each (IsCell wires) t xs → Each (IsCell wires) u ys → is_cell_start r ≡ false → is_cell_start s ≡ false → t ++ r ≡ u ++ s → (xs ≡ ys) × (r ≡ s)
  cells-once = each-once (IsCell wires) IsWordCell is_cell_start cell-begins cell-once
