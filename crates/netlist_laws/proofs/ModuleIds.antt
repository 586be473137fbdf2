-- All ids of the module of a design: they are ids of the text's form, and no two are the same.
use Rattle.std.specs.Prelude.{◌≡◌, ◌≢◌, ◌<◌, ◌+◌, ◌*◌, ◌^◌, ◌&&◌, nat_lt, ℕ, zero, suc, Bool, true, false, List, [], ◌∷◌, ◌++◌, map, length, IsPermutation, All, is_none, slice_get}
use Rattle.std.specs.List.{flat_map, range_with_len, AllByRecursion, IsDistinct}
use Rattle.std.proofs.Common.{refl, sym, ap, ◌∙◌, arith, subst, append_assoc, inl, inr}
use Rattle.std.proofs.lemmas.Bool.{cond_both}
use Rattle.std.proofs.lemmas.List.{map-append}
use Rattle.std.proofs.lemmas.List.Concat.{flat_map-append}
use Rattle.std.proofs.lemmas.List.Elements.{All-nil, All-cons, All-append}
use Rattle.std.proofs.lemmas.List.Sorted.{IsPermutation-refl, IsPermutation-trans, IsPermutation-sym, IsPermutation-append, IsPermutation-append_left, IsPermutation-append_right, IsPermutation-append_comm, All-permutation}
use Rattle.std.proofs.lemmas.Map.Keys.{IsDistinct-IsPermutation}
use Rattle.std.proofs.lemmas.Map.Made.{AllPairs-from_IsDistinct}
use Rattle.lists.specs.Names.{IsPublicName}
use Rattle.lists.specs.Texts.{text_eq}
use Rattle.lists.proofs.TextLaws.{text_eq_true, text_eq_same}
use Rattle.design_ir.specs.declared.port.Column.{Column}
use Rattle.design_ir.specs.Values.{form, signal_form}
use Rattle.design_ir.specs.PoolRules.{IsPool}
use Rattle.design_ir.specs.Circuits.{Circuit}
use Rattle.design_ir.specs.Designs.{IsDesign}
use Rattle.rtlil_text.specs.declared.cell.RtlCell.{RtlCell}
use Rattle.rtlil_text.specs.declared.module.RtlWire.{RtlWire}
use Rattle.rtlil_text.specs.declared.module.RtlMemory.{RtlMemory}
use Rattle.rtlil_text.specs.declared.module.WirePort.TheVariants.{Inner}
use Rattle.rtlil_text.specs.Ids.{AreDistinct, IsId}
use Rattle.rtlil_text.specs.Rules.{module_ids}
use Rattle.netlist_laws.specs.Ids.{inner_id, signal_id, value_id, part_id, step_id}
use Rattle.netlist_laws.specs.Operators.{Drawing, inner_wire}
use Rattle.netlist_laws.specs.Expressions.{part_total}
use Rattle.netlist_laws.specs.Module.{public_id, column_of, first_value, column_wires, signal_wires, expr_wires, drawings, other_drawings, all_drawings, module_of}
use Rattle.netlist_laws.specs.MemoryDrawings.{memories_of, all_parts, memory_lines}
use Rattle.netlist_laws.proofs.Permuted.{IsPermutation-flat_map}
use Rattle.rtlil_text.proofs.Among.{AllByRecursion-append}
use Rattle.rtlil_text.proofs.Numerals.{numeral_is_decimal}
use Rattle.netlist_laws.proofs.Fresh.{Apart, Within, Apart-append, Apart-map, IsFresh, IsFresh-append, inner_id-differ}
use Rattle.netlist_laws.proofs.Drives.{drawing_ids, fresh_none}
use Rattle.netlist_laws.proofs.ManyDrawn.{drawn_from_are}
use Rattle.netlist_laws.proofs.OthersDrawn.{step_total, others_drawn}
use Rattle.netlist_laws.proofs.MemoryNames.{column_names, memory_names, memory_ids, names_distinct, names_public}

-- ---- a test of ids

text_ne : (a b : List ℕ) → a ≢ b → text_eq a b ≡ false
text_ne a b h = by (text_eq a b) refl
  where
    by : (t : Bool) → text_eq a b ≡ t → t ≡ false
    by true e = absurd (h (text_eq_true a b e))
    by false e = refl

text_flips : (a b : List ℕ) → text_eq a b ≡ text_eq b a
text_flips a b = by (text_eq a b) refl
  where
    by : (t : Bool) → text_eq a b ≡ t → t ≡ text_eq b a
    by true e = sym (ap (λ x. text_eq b x) (text_eq_true a b e) ∙ text_eq_same b)
    by false e = other (text_eq b a) refl
      where
        other : (u : Bool) → text_eq b a ≡ u → false ≡ u
        other true f = sym e ∙ ap (λ x. text_eq a x) (text_eq_true b a f) ∙ text_eq_same a
        other false f = refl

-- ---- numbers of the four kinds

-- no number of one list is one of the other
abbrev Across : List ℕ → List ℕ → Type 0
Across ns ms = AllByRecursion (λ n. AllByRecursion (λ m. n ≢ m) ms) ns

Across-kinds : (f g : ℕ → ℕ) (ns ms : List ℕ) → ((a b : ℕ) → f a ≢ g b) → Across (map f ns) (map g ms)
Across-kinds f g [] ms h = tt
Across-kinds f g (n ∷ ns) ms h = (others ms, Across-kinds f g ns ms h)
  where
    others : (ms : List ℕ) → AllByRecursion (λ m. f n ≢ m) (map g ms)
    others [] = tt
    others (m ∷ ms) = (h n m, others ms)

Across-right : (ns ms ks : List ℕ) → Across ns ms → Across ns ks → Across ns (ms ++ ks)
Across-right [] ms ks p q = tt
Across-right (n ∷ ns) ms ks p q = (AllByRecursion-append (λ m. n ≢ m) ms ks p.0 q.0, Across-right ns ms ks p.1 q.1)

abbrev by_signal : ℕ → ℕ
by_signal s = 4 * s

abbrev by_value : ℕ → ℕ
by_value k = 4 * k + 1

abbrev by_part : ℕ → ℕ
by_part n = 4 * n + 2

abbrev by_step : ℕ → ℕ
by_step n = 4 * n + 3

abbrev inner_numbers : (ss ks ps ts : List ℕ) → List ℕ
inner_numbers ss ks ps ts = (map by_signal ss ++ map by_value ks) ++ (map by_part ps ++ map by_step ts)

inner_numbers-apart : (ss ks ps ts : List ℕ) → Apart ss → Apart ks → Apart ps → Apart ts → Apart (inner_numbers ss ks ps ts)
inner_numbers-apart ss ks ps ts a b c d =
    let S = map by_signal ss in
    let K = map by_value ks in
    let P = map by_part ps in
    let T = map by_step ts in
    let left : Apart (S ++ K) = Apart-append S K (Apart-map by_signal ss (λ m n e. omega (arith, e)) a) (Apart-map by_value ks (λ m n e. omega (arith, e)) b) (Across-kinds by_signal by_value ss ks (λ a b e. omega (arith, e))) in
    let right : Apart (P ++ T) = Apart-append P T (Apart-map by_part ps (λ m n e. omega (arith, e)) c) (Apart-map by_step ts (λ m n e. omega (arith, e)) d) (Across-kinds by_part by_step ps ts (λ a b e. omega (arith, e))) in
    let across : Across (S ++ K) (P ++ T) =
    AllByRecursion-append (λ n. AllByRecursion (λ m. n ≢ m) (P ++ T)) S K
    (Across-right S P T (Across-kinds by_signal by_part ss ps (λ a b e. omega (arith, e))) (Across-kinds by_signal by_step ss ts (λ a b e. omega (arith, e))))
    (Across-right K P T (Across-kinds by_value by_part ks ps (λ a b e. omega (arith, e))) (Across-kinds by_value by_step ks ts (λ a b e. omega (arith, e)))) in
    Apart-append (S ++ K) (P ++ T) left right across

abbrev Below : List ℕ → Type 0
Below ns = AllByRecursion (λ n. n < 10 ^ 64) ns

Below-map : (f : ℕ → ℕ) (low high : ℕ) (ns : List ℕ) → ((n : ℕ) → n < high → f n < 10 ^ 64) → Within low high ns → Below (map f ns)
Below-map f low high [] h w = tt
Below-map f low high (n ∷ ns) h w = (h n w.0.1, Below-map f low high ns h w.1)

map-twice : (f : ℕ → ℕ) (ns : List ℕ) → map (λ n. inner_id (f n)) ns ≡ map inner_id (map f ns)
map-twice f [] = refl
map-twice f (n ∷ ns) = ap (λ r. inner_id (f n) ∷ r) (map-twice f ns)

inner_numbers-ids : (ss ks ps ts : List ℕ) → (map signal_id ss ++ map value_id ks) ++ (map part_id ps ++ map step_id ts) ≡ map inner_id (inner_numbers ss ks ps ts)
inner_numbers-ids ss ks ps ts =
    let S = map by_signal ss in
    let K = map by_value ks in
    let P = map by_part ps in
    let T = map by_step ts in
    (λ i. (map-twice by_signal ss i ++ map-twice by_value ks i) ++ (map-twice by_part ps i ++ map-twice by_step ts i))
    ∙ sym (map-append inner_id (S ++ K) (P ++ T) ∙ (λ i. map-append inner_id S K i ++ map-append inner_id P T i))

-- ---- public ids and inner ids

inner_distinct : (ns : List ℕ) → Apart ns → Below ns → IsDistinct text_eq (map inner_id ns)
unfolding IsDistinct
inner_distinct [] h b = tt
inner_distinct (n ∷ ns) h b = (others ns h.0 b.1, inner_distinct ns h.1 b.1)
  where
    others : (ms : List ℕ) → AllByRecursion (λ m. n ≢ m) ms → Below ms → AllByRecursion (λ y. text_eq (inner_id n) y ≡ false) (map inner_id ms)
    others [] g k = tt
    others (m ∷ ms) g k = (text_ne (inner_id n) (inner_id m) (inner_id-differ n m b.0 k.0 g.0), others ms g.1 k.1)

public_distinct : (xs : List (List ℕ)) (ns : List ℕ) → IsDistinct text_eq xs → IsDistinct text_eq (map inner_id ns) → IsDistinct text_eq (map public_id xs ++ map inner_id ns)
unfolding IsDistinct
public_distinct [] ns h k = k
public_distinct (x ∷ xs) ns h k = (AllByRecursion-append (λ y. text_eq (public_id x) y ≡ false) (map public_id xs) (map inner_id ns) (named xs h.0) (inner ns), public_distinct xs ns h.1 k)
  where
    named : (ys : List (List ℕ)) → AllByRecursion (λ y. text_eq x y ≡ false) ys → AllByRecursion (λ y. text_eq (public_id x) y ≡ false) (map public_id ys)
    named [] g = tt
    named (y ∷ ys) g = (g.0, named ys g.1)

    inner : (ms : List ℕ) → AllByRecursion (λ y. text_eq (public_id x) y ≡ false) (map inner_id ms)
    inner [] = tt
    inner (m ∷ ms) = (refl, inner ms)

-- ---- the ids of wires in a row

abbrev wire_id_of : RtlWire → List ℕ
wire_id_of w = w.id

abbrev cell_id_of : RtlCell → List ℕ
cell_id_of c = c.id

fresh_row : (id : ℕ → List ℕ) (f : ℕ → List RtlWire) → ((k : ℕ) → IsFresh id k (k + 1) (map wire_id_of (f k))) → (k n : ℕ) → IsFresh id k (k + n) (map wire_id_of (flat_map f (range_with_len k n)))
fresh_row id f h k zero = fresh_none id k (k + 0)
fresh_row id f h k (suc n) =
    let a : (k + 1) + n ≡ k + suc n = omega arith in
    subst (IsFresh id k (k + suc n)) (sym (map-append wire_id_of (f k) (flat_map f (range_with_len (k + 1) n))))
    (IsFresh-append id k (k + 1) (k + 1) (k + suc n) (map wire_id_of (f k)) (map wire_id_of (flat_map f (range_with_len (k + 1) n))) (omega arith) (omega arith) (omega arith) (h k)
    (subst (λ b. IsFresh id (k + 1) b (map wire_id_of (flat_map f (range_with_len (k + 1) n)))) a (fresh_row id f h (k + 1) n)))

fresh_one : (id : ℕ → List ℕ) (k : ℕ) → IsFresh id k (k + 1) (id k ∷ [])
fresh_one id k = record { numbers = k ∷ []; same = IsPermutation-refl (id k ∷ []); apart = (tt, tt); within = ((omega arith, omega arith), tt) }

signal_wires-fresh : (c : Circuit) (s : ℕ) → IsFresh signal_id s (s + 1) (map wire_id_of (signal_wires c s))
signal_wires-fresh c s =
    cond_both (nat_lt 0 (signal_form c.pool.signals s).width && is_none (column_of c s)) (record { id = signal_id s; width = (signal_form c.pool.signals s).width; port = Inner; init = first_value c s } ∷ []) [] (λ (b : List RtlWire). IsFresh signal_id s (s + 1) (map wire_id_of b)) (λ _. fresh_one signal_id s) (λ _. fresh_none signal_id s (s + 1))

expr_wires-fresh : (c : Circuit) (k : ℕ) → IsFresh value_id k (k + 1) (map wire_id_of (expr_wires c k))
expr_wires-fresh c k = cond_both (nat_lt 0 (form c.pool k).width) (inner_wire (value_id k) (form c.pool k).width ∷ []) [] (λ (b : List RtlWire). IsFresh value_id k (k + 1) (map wire_id_of b)) (λ _. fresh_one value_id k) (λ _. fresh_none value_id k (k + 1))

column_wires-ids : (c : Circuit) (k : ℕ) (xs : List Column) → map wire_id_of (column_wires c k xs) ≡ map public_id (map (λ (x : Column). x.name) xs)
column_wires-ids c k [] = refl
column_wires-ids c k (x ∷ xs) = ap (λ r. public_id x.name ∷ r) (column_wires-ids c (suc k) xs)

map-flat_map : {A B C : Type 0} (f : B → C) (g : A → List B) (xs : List A) → map f (flat_map g xs) ≡ flat_map (λ x. map f (g x)) xs
map-flat_map f g [] = refl
map-flat_map f g (x ∷ xs) = map-append f (g x) (flat_map g xs) ∙ ap (λ r. map f (g x) ++ r) (map-flat_map f g xs)

-- ---- the ids of the module

-- the public ids, and then the inner ids by their numbers
pub record HasIds (c : Circuit) : Type 0 where
  pub numbers : List ℕ
  pub same : IsPermutation (module_ids (module_of c)) (map public_id (memory_names c ++ column_names c) ++ map inner_id numbers)
  pub apart : Apart numbers
  pub below : Below numbers

module _ (c : Circuit) where
  columns_ids : List (List ℕ)
  columns_ids = map public_id (map (λ (x : Column). x.name) c.columns)

  hidden_ids : List (List ℕ)
  hidden_ids = map wire_id_of (flat_map (signal_wires c) (range_with_len 0 (length c.pool.signals)))

  shown_ids : List (List ℕ)
  shown_ids = map wire_id_of (flat_map (expr_wires c) (range_with_len 0 (length c.pool.exprs)))

  part_ids : List (List ℕ)
  part_ids = flat_map drawing_ids (drawings c)

  step_ids : List (List ℕ)
  step_ids = flat_map drawing_ids (other_drawings c)

  module_ids-parts : IsPermutation (module_ids (module_of c)) (map public_id (memory_names c) ++ (((columns_ids ++ hidden_ids) ++ shown_ids) ++ (part_ids ++ step_ids)))
  unfolding module_of columns_ids hidden_ids shown_ids part_ids step_ids
  module_ids-parts =
      let R = range_with_len 0 (length c.pool.signals) in
      let C = column_wires c 0 c.columns in
      let S = flat_map (signal_wires c) R in
      let X = flat_map (expr_wires c) (range_with_len 0 (length c.pool.exprs)) in
      let ds = all_drawings c in
      let W : List RtlWire = flat_map (λ (d : Drawing). d.wires) ds in
      let L : List RtlCell = flat_map (λ (d : Drawing). d.cells) ds in
      let A = map public_id (map (λ (x : Column). x.name) c.columns) in
      let F = (A ++ map wire_id_of S) ++ map wire_id_of X in
      let front : map wire_id_of ((C ++ S) ++ X) ≡ F = map-append wire_id_of (C ++ S) X ∙ ap (λ r. r ++ map wire_id_of X) (map-append wire_id_of C S ∙ ap (λ r. r ++ map wire_id_of S) (column_wires-ids c 0 c.columns)) in
      let wires : map wire_id_of (((C ++ S) ++ X) ++ W) ≡ F ++ flat_map (λ (d : Drawing). map wire_id_of d.wires) ds =
      map-append wire_id_of ((C ++ S) ++ X) W ∙ (λ i. front i ++ map-flat_map wire_id_of (λ (d : Drawing). d.wires) ds i) in
      let cells : map cell_id_of L ≡ flat_map (λ (d : Drawing). map cell_id_of d.cells) ds = map-flat_map cell_id_of (λ (d : Drawing). d.cells) ds in
      let V = flat_map (λ (d : Drawing). map wire_id_of d.wires) ds in
      let K = flat_map (λ (d : Drawing). map cell_id_of d.cells) ds in
      let N = map public_id (memory_names c) in
      let lines : map (λ (r : RtlMemory). r.id) (memory_lines c) ≡ N = memory_ids c in
      let all : (map wire_id_of (((C ++ S) ++ X) ++ W) ++ map (λ (r : RtlMemory). r.id) (memory_lines c)) ++ map cell_id_of L ≡ ((F ++ V) ++ N) ++ K = λ i. (wires i ++ lines i) ++ cells i in
      let first : IsPermutation (((F ++ V) ++ N) ++ K) (N ++ (F ++ (V ++ K))) =
      subst (IsPermutation (((F ++ V) ++ N) ++ K)) (append_assoc N (F ++ V) K ∙ ap (λ r. N ++ r) (append_assoc F V K)) (IsPermutation-append_left K ((F ++ V) ++ N) (N ++ (F ++ V)) (IsPermutation-append_comm (F ++ V) N)) in
      let drawn : IsPermutation (V ++ K) (flat_map drawing_ids ds) = IsPermutation-flat_map (λ (d : Drawing). map wire_id_of d.wires) (λ (d : Drawing). map cell_id_of d.cells) ds in
      let O = flat_map drawing_ids (drawings c) ++ flat_map drawing_ids (other_drawings c) in
      let split : flat_map drawing_ids ds ≡ O = flat_map-append drawing_ids (drawings c) (other_drawings c) in
      let rest : IsPermutation (N ++ (F ++ (V ++ K))) (N ++ (F ++ O)) =
      IsPermutation-append_right N (F ++ (V ++ K)) (F ++ O) (subst (λ u. IsPermutation (F ++ (V ++ K)) (F ++ u)) split (IsPermutation-append_right F (V ++ K) (flat_map drawing_ids ds) drawn)) in
      subst (λ u. IsPermutation u (N ++ (F ++ O))) (sym all) (IsPermutation-trans (((F ++ V) ++ N) ++ K) (N ++ (F ++ (V ++ K))) (N ++ (F ++ O)) first rest)

  module _ (pool : IsPool c.pool) (few : part_total c.pool.exprs < 10 ^ 63) (h : IsDesign c) (few_parts : length (all_parts (memories_of c)) < 10 ^ 18) where
    has_ids : HasIds c
    unfolding columns_ids hidden_ids shown_ids part_ids step_ids
    has_ids =
        let n = length c.pool.signals in
        let A = map public_id (map (λ (x : Column). x.name) c.columns) in
        let hidden : IsFresh signal_id 0 (0 + n) hidden_ids = fresh_row signal_id (signal_wires c) (signal_wires-fresh c) 0 n in
        let shown : IsFresh value_id 0 (0 + length c.pool.exprs) shown_ids = fresh_row value_id (expr_wires c) (expr_wires-fresh c) 0 (length c.pool.exprs) in
        let parts : IsFresh part_id 0 (part_total c.pool.exprs) part_ids = (drawn_from_are c pool 0 0 (part_total c.pool.exprs) c.pool.exprs (λ i lt. ap (slice_get c.pool.exprs) (omega arith)) (omega arith)).fresh in
        let steps : IsFresh step_id 0 (step_total c) step_ids = (others_drawn c h).fresh in
        let N = map public_id (memory_names c) in
        let H = map signal_id hidden.numbers in
        let K = map value_id shown.numbers in
        let P = map part_id parts.numbers in
        let T = map step_id steps.numbers in
        let front : IsPermutation ((A ++ hidden_ids) ++ shown_ids) ((A ++ H) ++ K) =
        IsPermutation-append (A ++ hidden_ids) (A ++ H) shown_ids K (IsPermutation-append_right A hidden_ids H hidden.same) shown.same in
        let back : IsPermutation (part_ids ++ step_ids) (P ++ T) = IsPermutation-append part_ids P step_ids T parts.same steps.same in
        let old = ((A ++ hidden_ids) ++ shown_ids) ++ (part_ids ++ step_ids) in
        let new = ((A ++ H) ++ K) ++ (P ++ T) in
        let all : IsPermutation (module_ids (module_of c)) (N ++ new) =
        IsPermutation-trans (module_ids (module_of c)) (N ++ old) (N ++ new) module_ids-parts
        (IsPermutation-append_right N old new (IsPermutation-append ((A ++ hidden_ids) ++ shown_ids) ((A ++ H) ++ K) (part_ids ++ step_ids) (P ++ T) front back)) in
        let inner = map inner_id (inner_numbers hidden.numbers shown.numbers parts.numbers steps.numbers) in
        let grouped : N ++ new ≡ map public_id (memory_names c ++ column_names c) ++ inner =
        ap (λ r. N ++ r) ((λ i. append_assoc A H K i ++ (P ++ T)) ∙ append_assoc A (H ++ K) (P ++ T) ∙ ap (λ r. A ++ r) (inner_numbers-ids hidden.numbers shown.numbers parts.numbers steps.numbers))
        ∙ sym (append_assoc N A inner) ∙ ap (λ r. r ++ inner) (sym (map-append public_id (memory_names c) (column_names c))) in
        record {
          numbers = inner_numbers hidden.numbers shown.numbers parts.numbers steps.numbers;
          same = subst (IsPermutation (module_ids (module_of c))) grouped all;
          apart = inner_numbers-apart hidden.numbers shown.numbers parts.numbers steps.numbers hidden.apart shown.apart parts.apart steps.apart;
          below =
              AllByRecursion-append (λ n. n < 10 ^ 64) (map by_signal hidden.numbers ++ map by_value shown.numbers) (map by_part parts.numbers ++ map by_step steps.numbers)
              (AllByRecursion-append (λ n. n < 10 ^ 64) (map by_signal hidden.numbers) (map by_value shown.numbers)
              (Below-map by_signal 0 (0 + n) hidden.numbers (λ s lt. omega (arith, pool.few_signals)) hidden.within) (Below-map by_value 0 (0 + length c.pool.exprs) shown.numbers (λ s lt. omega (arith, pool.few_exprs)) shown.within))
              (AllByRecursion-append (λ n. n < 10 ^ 64) (map by_part parts.numbers) (map by_step steps.numbers)
              (Below-map by_part 0 (part_total c.pool.exprs) parts.numbers (λ s lt. omega (arith, few)) parts.within) (Below-map by_step 0 (step_total c) steps.numbers (λ s lt. omega (arith, lt, few_parts, pool.few_signals)) steps.within));
        }

    pub module_ids-distinct : AreDistinct (module_ids (module_of c))
    module_ids-distinct =
        let g = has_ids in
        let names = memory_names c ++ column_names c in
        let all = map public_id names ++ map inner_id g.numbers in
        let apart : IsDistinct text_eq names =
        IsDistinct-IsPermutation text_eq text_flips (column_names c ++ memory_names c) names (IsPermutation-append_comm (column_names c) (memory_names c)) (names_distinct c pool h few_parts) in
        let distinct : IsDistinct text_eq all = public_distinct names g.numbers apart (inner_distinct g.numbers g.apart g.below) in
        AllPairs-from_IsDistinct (λ a b. (text_eq_true a b, λ e. rw e (text_eq_same b))) (module_ids (module_of c))
        (IsDistinct-IsPermutation text_eq text_flips all (module_ids (module_of c)) (IsPermutation-sym (module_ids (module_of c)) all g.same) distinct)

    -- ---- they are ids of the text's form

    pub module_ids-are : All IsId (module_ids (module_of c))
    module_ids-are =
        let g = has_ids in
        let names = memory_names c ++ column_names c in
        let A = map public_id names in
        let forms : AllByRecursion IsPublicName names = AllByRecursion-append IsPublicName (memory_names c) (column_names c) (names_public c pool h few_parts) (named c.columns h.columns.name_forms) in
        let all : All IsId (A ++ map inner_id g.numbers) = All-append IsId A (map inner_id g.numbers) (publics names forms) (inners g.numbers g.below) in
        All-permutation IsId (A ++ map inner_id g.numbers) (module_ids (module_of c)) (IsPermutation-sym (module_ids (module_of c)) (A ++ map inner_id g.numbers) g.same) all
      where
        named : (xs : List Column) → AllByRecursion (λ (x : Column). IsPublicName x.name) xs → AllByRecursion IsPublicName (map (λ (x : Column). x.name) xs)
        named [] k = tt
        named (x ∷ xs) k = (k.0, named xs k.1)

        publics : (names : List (List ℕ)) → AllByRecursion IsPublicName names → All IsId (map public_id names)
        publics [] k = All-nil IsId
        publics (name ∷ names) k = All-cons IsId (public_id name) (map public_id names) (inl (name, k.0, refl)) (publics names k.1)

        inners : (ns : List ℕ) → Below ns → All IsId (map inner_id ns)
        inners [] k = All-nil IsId
        inners (n ∷ ns) k = All-cons IsId (inner_id n) (map inner_id ns) (inr (n, ap (λ ds. 36 ∷ ds) (sym (numeral_is_decimal n k.0)))) (inners ns k.1)
