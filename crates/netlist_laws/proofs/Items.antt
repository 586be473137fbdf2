-- Items by an index.
use Rattle.std.proofs.Common.{◌≡◌, ℕ, zero, suc, ◌+◌, ◌-◌, ◌<◌, ◌≤◌, ◌^◌, ◌==◌, min, Bool, true, false, cond, List, [], ◌∷◌, ◌++◌, map, length, take, get_or, refl, sym, ◌∙◌, ap, subst, arith, ⊎_elim, ℤ, pos, negsuc, ◌-ℤ◌, unsigned_abs}
use Rattle.std.specs.Prelude.{⊤}
use Rattle.std.specs.List.{AllByRecursion, flat_map}
use Rattle.std.proofs.lemmas.Int.{ints}
use Rattle.std.proofs.lemmas.Bool.{eq-eqb, ne_eqb, eqb-true, eqb-false, cases_eq}
use Rattle.std.proofs.lemmas.Nat.{pow_pos}
use Rattle.amh_bits.specs.Patterns.{IsOf}
use Rattle.shape_rules.specs.Forms.{Form}
use Rattle.shape_rules.specs.Operators.{is_zero, truth, int_same}
use Rattle.shape_rules.specs.declared.cell.CellKind.TheVariants as kind
use Rattle.design_ir.specs.declared.ids.ExprId.{ExprId}
use Rattle.design_ir.specs.declared.expr.Expr.TheVariants as expr
use Rattle.design_ir.specs.Targets.{Bit}
use Rattle.design_ir.specs.Needed.{every}
use Rattle.design_ir.specs.Values as values
use Rattle.rtlil_text.specs.History.{Wires}
use Rattle.netlist_laws.specs.Ids.{part_id}
use Rattle.netlist_laws.specs.Cells.{binary_cell, mux_cell}
use Rattle.netlist_laws.specs.Operands.{wire_part, at_width, const_operand}
use Rattle.netlist_laws.specs.Operators.{Value, Drawing, inner_wire, whole, one_bit, as_form}
use Rattle.netlist_laws.specs.Carried.{IsIn, Obeys}
use Rattle.netlist_laws.specs.Expressions.{picked, picked_of}
use Rattle.netlist_laws.specs.Made.{Known, known_form, SignalHas, IsMade, MakesExpression}
use Rattle.netlist_laws.proofs.Reading.{HasBits, HasSign, reads_low, reads_const, reads_at_width}
use Rattle.netlist_laws.proofs.Whole.{signed_cell}
use Rattle.netlist_laws.proofs.Drawn.{form_sign, first_cell, second_cell}
use Rattle.netlist_laws.proofs.Bitwise.{mux_cell_bits}
use Rattle.netlist_laws.proofs.Comparisons.{zero_false, eq_whole, eq_result}
use Rattle.netlist_laws.proofs.Widths.{reads_narrow, has_equal, linked_bits, one_bit_is}
use Rattle.netlist_laws.proofs.NeededBits.{all_left, all_right, made_every}
use Rattle.netlist_laws.proofs.Linked.{follows_shown}
use Rattle.netlist_laws.proofs.Choices.{also_first, also_second}
use Rattle.netlist_laws.proofs.Selections.{part_accepted}

-- ---- values with their integers

pub record Has (wires : Wires) (v : Value) (x : ℤ) : Type 0 where
  pub sign : HasSign v.form
  pub inside : IsIn v.form x
  pub bits : HasBits wires v.id v.form.width x

abbrev AllHave : Wires → List Value → List ℤ → Type 0
AllHave wires [] [] = ⊤
AllHave wires [] (x ∷ xs) = ⊥
AllHave wires (v ∷ vs) [] = ⊥
AllHave wires (v ∷ vs) (x ∷ xs) = Has wires v x × AllHave wires vs xs

all_take : (wires : Wires) (n : ℕ) (vs : List Value) (xs : List ℤ) → AllHave wires vs xs → AllHave wires (take n vs) (take n xs)
all_take wires zero vs xs h = tt
all_take wires (suc n) [] [] h = tt
all_take wires (suc n) [] (x ∷ xs) h = absurd h
all_take wires (suc n) (v ∷ vs) [] h = absurd h
all_take wires (suc n) (v ∷ vs) (x ∷ xs) h = (h.0, all_take wires n vs xs h.1)

all_made : (wires : Wires) (c : Known) (es : List ExprId) → AllByRecursion (IsMade wires c) es → AllByRecursion (SignalHas wires c) (flat_map (λ (e : ExprId). every (known_form c e.0) (c.needed e.0)) es)
    → AllHave wires (map (λ (e : ExprId). c.value e.0) es) (map (λ (e : ExprId). c.num e.0) es)
all_made wires c [] made needs = tt
all_made wires c (e ∷ es) made needs =
    let here : List Bit = every (known_form c e.0) (c.needed e.0) in
    let more : List Bit = flat_map (λ (e : ExprId). every (known_form c e.0) (c.needed e.0)) es in (
      record { sign = form_sign (known_form c e.0) made.0.shape; inside = made.0.integer; bits = made_every wires c e made.0 (all_left (SignalHas wires c) here more needs) },
      all_made wires c es made.1 (all_right (SignalHas wires c) here more needs),
    )

-- ---- the pick

pub same_pos : (m i : ℕ) → int_same (pos m) (pos i) ≡ (m == i)
same_pos m i =
    ⊎_elim
    (λ (e : m ≡ i). let d : pos m -ℤ pos i ≡ pos 0 = omega (arith, ints) in ap is_zero d ∙ sym (eq-eqb m i e))
    (λ (ne : m ≡ i → ⊥). zero_false (pos m -ℤ pos i) (λ d. ne (omega (arith, ints))) ∙ sym (ne_eqb m i ne))
    (cases_eq m i)

-- from item i on, the one that m says, or the last
abbrev pick_from : ℕ → ℕ → ℤ → List ℤ → ℤ
pick_from m i x [] = x
pick_from m i x (y ∷ ys) = cond (m == i) x (pick_from m (suc i) y ys)

pick_by : (m i : ℕ) (x y d : ℤ) (ys : List ℤ) (rest : ℤ) (t : Bool) → (m == i) ≡ t → i ≤ m → (i < m → rest ≡ get_or (y ∷ ys) (min (m - suc i) (length ys)) d) → cond t x rest ≡ get_or (x ∷ y ∷ ys) (min (m - i) (suc (length ys))) d
pick_by m i x y d ys rest true e le h =
    let same : m ≡ i = eqb-true m i e in
    ap (λ j. get_or (x ∷ y ∷ ys) j d) (let z : 0 ≡ min (m - i) (suc (length ys)) = omega arith in z)
pick_by m i x y d ys rest false e le h =
    let above : i < m = omega (arith, eqb-false m i e) in
    h above ∙ ap (λ j. get_or (x ∷ y ∷ ys) j d) (let z : suc (min (m - suc i) (length ys)) ≡ min (m - i) (suc (length ys)) = omega arith in z)

pick_from-is : (m i : ℕ) (x d : ℤ) (xs : List ℤ) → i ≤ m → pick_from m i x xs ≡ get_or (x ∷ xs) (min (m - i) (length xs)) d
pick_from-is m i x d [] le = ap (λ j. get_or (x ∷ []) j d) (let z : 0 ≡ min (m - i) 0 = omega arith in z)
pick_from-is m i x d (y ∷ ys) le = pick_by m i x y d ys (pick_from m (suc i) y ys) (m == i) refl le (λ above. pick_from-is m (suc i) y d ys above)

below_in : (f : Form) (i : ℕ) → f.signed ≡ false → i < 2 ^ f.width → IsIn f (pos i)
below_in f i unsigned h = subst (λ (s : Bool). IsOf s f.width (pos i)) (sym unsigned) h

picked_bits : (wires : Wires) (n : ℕ) (index : Value) (m i : ℕ) (first : Value) (more : List Value) (into : Value) (x : ℤ) (xs : List ℤ) → index.form.signed ≡ false → IsIn index.form (pos m) → HasBits wires index.id index.form.width (pos m)
    → Has wires first x → AllHave wires more xs → i + length more < 2 ^ index.form.width → Obeys wires (picked n index i first more into) → HasBits wires into.id into.form.width (pick_from m i x xs)
picked_bits wires n index m i first [] into x [] unsigned f b p h fits o =
    linked_bits wires into (at_width first.id first.form into.form.width) into.form.width x (reads_at_width wires first.id first.form into.form.width x p.sign p.inside p.bits) (omega arith) o
picked_bits wires n index m i first [] into x (y ∷ ys) unsigned f b p h fits o = absurd h
picked_bits wires n index m i first (second ∷ more) into x [] unsigned f b p h fits o = absurd h
picked_bits wires n index m i first (second ∷ more) into x (y ∷ ys) unsigned f b p h fits o =
    let w : ℕ = into.form.width in
    let others : Value = record { id = part_id (n + 3); form = into.form } in
    let test = binary_cell kind.Eq (part_id n) (as_form index index.form) (const_operand index.form (pos i)) 1 (one_bit (part_id (n + 1))) in
    let choose = mux_cell (part_id (n + 2)) w (wire_part (part_id (n + 3)) 0 w) (at_width first.id first.form w) (one_bit (part_id (n + 1))) (whole into) in
    let here : Drawing = record { wires = inner_wire (part_id (n + 1)) 1 ∷ inner_wire (part_id (n + 3)) w ∷ []; cells = test ∷ choose ∷ []; links = [] } in
    let rest : Drawing = picked (n + 4) index (suc i) second more others in
    let cells = also_first wires here rest o in
    let chosen : HasBits wires (part_id (n + 3)) w (pick_from m (suc i) y ys) =
    picked_bits wires (n + 4) index m (suc i) second more others y ys unsigned f b h.0 h.1 (omega arith) (also_second wires here rest o) in
    let equal : HasBits wires (part_id (n + 1)) 1 (truth (m == i)) =
    has_equal wires (part_id (n + 1)) 1 (truth (int_same (pos m) (pos i))) (truth (m == i)) (ap truth (same_pos m i))
    (signed_cell wires kind.Eq (part_id n) (as_form index index.form) (const_operand index.form (pos i)) 1 (part_id (n + 1)) 1 (pos m) (pos i) (truth (int_same (pos m) (pos i))) eq_whole (λ s. refl)
    (reads_narrow wires index.id index.form index.form.width (pos m) (omega arith) b) (reads_const wires index.form.width (pos i)) f (below_in index.form i unsigned (omega arith)) (eq_result (pos m) (pos i))
    (first_cell wires test (choose ∷ []) cells.cells)) in
    mux_cell_bits wires (part_id (n + 2)) w (wire_part (part_id (n + 3)) 0 w) (at_width first.id first.form w) (one_bit (part_id (n + 1))) into.id w (m == i) (pick_from m (suc i) y ys) x (one_bit_is wires (part_id (n + 1)) (m == i) equal)
    (reads_low wires (part_id (n + 3)) w w (pick_from m (suc i) y ys) (omega arith) chosen) (reads_at_width wires first.id first.form w x p.sign p.inside p.bits) (second_cell wires test choose [] cells.cells)

picked_of_bits : (wires : Wires) (n : ℕ) (index : Value) (m : ℕ) (vs : List Value) (xs : List ℤ) (y : Value) (d : ℤ) → index.form.signed ≡ false → IsIn index.form (pos m) → HasBits wires index.id index.form.width (pos m)
    → AllHave wires vs xs → 1 ≤ length xs → length vs ≤ 2 ^ index.form.width → Obeys wires (picked_of n index vs y) → HasBits wires y.id y.form.width (get_or xs (min m (length xs - 1)) d)
picked_of_bits wires n index m [] [] y d unsigned f b h some fits o = absurd (omega arith)
picked_of_bits wires n index m [] (x ∷ xs) y d unsigned f b h some fits o = absurd h
picked_of_bits wires n index m (v ∷ vs) [] y d unsigned f b h some fits o = absurd h
picked_of_bits wires n index m (v ∷ vs) (x ∷ xs) y d unsigned f b h some fits o =
    has_equal wires y.id y.form.width (pick_from m 0 x xs) (get_or (x ∷ xs) (min m (suc (length xs) - 1)) d)
    (pick_from-is m 0 x d xs (omega arith) ∙ ap (λ j. get_or (x ∷ xs) j d) (let e : min (m - 0) (length xs) ≡ min m (suc (length xs) - 1) = omega arith in e))
    (picked_bits wires n index m 0 v vs y x xs unsigned f b h.0 h.1 (omega arith) o)

-- ---- an index of a width picks none of the items behind those that it can reach

get_or-take_low : (n : ℕ) (xs : List ℤ) (k : ℕ) (d : ℤ) → k < n → get_or (take n xs) k d ≡ get_or xs k d
get_or-take_low zero xs k d h = absurd (omega arith)
get_or-take_low (suc n) [] k d h = refl
get_or-take_low (suc n) (x ∷ xs) zero d h = refl
get_or-take_low (suc n) (x ∷ xs) (suc k) d h = get_or-take_low n xs k d (omega arith)

length-take_is : {A : Type 0} (n : ℕ) (xs : List A) → length (take n xs) ≡ min n (length xs)
length-take_is zero xs = let e : 0 ≡ min 0 (length xs) = omega arith in e
length-take_is (suc n) [] = let e : 0 ≡ min (suc n) 0 = omega arith in e
length-take_is (suc n) (x ∷ xs) = ap suc (length-take_is n xs) ∙ (let e : suc (min n (length xs)) ≡ min (suc n) (suc (length xs)) = omega arith in e)

reached : (n m : ℕ) (xs : List ℤ) (d : ℤ) → m < n → get_or (take n xs) (min m (length (take n xs) - 1)) d ≡ get_or xs (min m (length xs - 1)) d
reached n m xs d h =
    let l : length (take n xs) ≡ min n (length xs) = length-take_is n xs in
    ap (λ j. get_or (take n xs) j d) (let e : min m (length (take n xs) - 1) ≡ min m (length xs - 1) = omega arith in e) ∙ get_or-take_low n xs (min m (length xs - 1)) d (omega arith)

length-mapped : {A B : Type 0} (f : A → B) (xs : List A) → length (map f xs) ≡ length xs
length-mapped f [] = refl
length-mapped f (x ∷ xs) = ap suc (length-mapped f xs)

some_items : (es : List ExprId) → (es ≡ [] → ⊥) → 1 ≤ length es
some_items [] h = absurd (h refl)
some_items (e ∷ es) h = omega arith

-- a number that is not negative is its size
unsigned_is : (f : Form) (v : ℤ) → f.signed ≡ false → IsIn f v → (pos (unsigned_abs v) ≡ v) × (unsigned_abs v < 2 ^ f.width)
unsigned_is f v unsigned i = size_of f.width v (subst (λ (s : Bool). IsOf s f.width v) unsigned i)
  where
    size_of : (w : ℕ) (v : ℤ) → IsOf false w v → (pos (unsigned_abs v) ≡ v) × (unsigned_abs v < 2 ^ w)
    size_of w (pos m) h = (refl, h)
    size_of w (negsuc m) h = absurd h

pub makes_pick : (index : ExprId) (es : List ExprId) → MakesExpression (expr.Pick index es)
makes_pick index es wires c n y signals range accepted stride e made =
    let holds : Bit → Type 0 = SignalHas wires c in
    let v : ℤ = c.num index.0 in
    let m : ℕ = unsigned_abs v in
    let f : Form = known_form c index.0 in
    let vs : List Value = map (λ (e : ExprId). c.value e.0) es in
    let xs : List ℤ = map (λ (e : ExprId). c.num e.0) es in
    let left : List Bit = every f (c.needed index.0) in
    let right : List Bit = flat_map (λ (e : ExprId). every (known_form c e.0) (c.needed e.0)) es in
    let unsigned : f.signed ≡ false = part_accepted f.signed (values.common_of_all (known_form c) es).width accepted in
    let size = unsigned_is f v unsigned made.0.integer in
    let reach : ℕ = 2 ^ f.width in
    follows_shown wires c n y (expr.Pick index es) (λ k. left ++ right) (values.picked (pos 0) xs m) (λ some o k h needs.
    let bits : HasBits wires (c.value index.0).id f.width (pos m) = has_equal wires (c.value index.0).id f.width v (pos m) (sym size.0) (made_every wires c index made.0 (all_left holds left right needs)) in
    let all = all_take wires reach vs xs (all_made wires c es made.1 (all_right holds left right needs)) in
    let lx : length (take reach xs) ≡ min reach (length xs) = length-take_is reach xs in
    let lv : length (take reach vs) ≡ min reach (length vs) = length-take_is reach vs in
    let le : length xs ≡ length es = length-mapped (λ (e : ExprId). c.num e.0) es in
    let there : 1 ≤ length (take reach xs) = omega (arith, pow_pos f.width, some_items es range) in
    (has_equal wires y.id y.form.width (get_or (take reach xs) (min m (length (take reach xs) - 1)) (pos 0)) (values.picked (pos 0) xs m) (reached reach m xs (pos 0) size.1)
    (picked_of_bits wires n (c.value index.0) m (take reach vs) (take reach xs) y (pos 0) unsigned (below_in f m unsigned size.1) bits all there (omega arith) o)).at k h)
