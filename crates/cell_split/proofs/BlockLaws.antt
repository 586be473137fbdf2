-- Blocks of numbers, and those that ids take.
use Rattle.std.proofs.Common.{◌≡◌, ◌≢◌, ◌∙◌, ◌<◌, ◌≤◌, ◌+◌, ◌*◌, ◌^◌, ℕ, zero, suc, Bool, true, false, cond, List, ◌∷◌, ◌++◌, map, length, get_or, take, drop, refl, sym, ap, arith, subst, All, length-append, add-one, slice_set}
use Rattle.std.specs.Prelude.{Option, Some, None, MatchOption, Result, Ok, Err}
use Rattle.std.specs.Borrow.{Bor}
use Rattle.std.specs.Str.Parse.{ParsesUnsigned}
use Rattle.std.specs.Str.Pattern.{FindsCharPrefix}
use Rattle.std.proofs.lemmas.Fmt.{parse-decimal_wide}
use Rattle.std.proofs.lemmas.Str.Pattern.{strip_prefix_char}
use Rattle.std.specs.Fmt.{decimal}
use Rattle.std.proofs.lemmas.List.{length-map, take_all}
use Rattle.std.proofs.lemmas.List.Sums.{sum_by-set, count_by_more_yes}
use Rattle.std.proofs.lemmas.List.Elements.{All-weaker, All-append, All-map}
use Rattle.rtlil_text.specs.declared.cell.RtlCell.{RtlCell}
use Rattle.rtlil_text.specs.declared.module.RtlWire.{RtlWire}
use Rattle.rtlil_text.specs.declared.module.RtlMemory.{RtlMemory}
use Rattle.rtlil_text.specs.declared.module.RtlModule.{RtlModule}
use Rattle.rtlil_text.specs.Rules.{module_ids}
use Rattle.cell_split.specs.Pieces.{numbered_id}
use Rattle.cell_split.specs.Kept.{AreFree}
use Rattle.cell_split.specs.Blocks.{is_taken, count_taken, Marks, MarksId}
use Rattle.cell_split.proofs.Lists.{All-next}

-- ---- one more mark

pub marks_then : (a b c : List Bool) → Marks a b → Marks b c → Marks a c
marks_then a b c p q = record { size = q.size ∙ p.size; kept = λ block h. q.kept block (p.kept block h) }

pub set_count : (old new : List Bool) (i : ℕ) → i < length old → new ≡ slice_set old i true → count_taken new ≤ count_taken old + 1
set_count old new i lt is =
    let one : Bool → ℕ = λ b. cond b 1 0 in
    let more : count_taken (slice_set old i true) + one (is_taken old i) ≡ count_taken old + one true = sum_by-set one old i true false lt in
    let same : count_taken new ≡ count_taken (slice_set old i true) = ap count_taken is in
    omega (arith, more, same)

-- ---- ids

pub id_kept : (old new : List Bool) (id : List ℕ) → Marks old new → MarksId old id → MarksId new id
id_kept old new id more h k block same lt low high = more.kept block (h k block same (omega (arith, lt, more.size)) low high)

pub ids_kept : {A : Type 0} (name : A → List ℕ) (old new : List Bool) (xs : List A) → Marks old new → All (λ x. MarksId old (name x)) xs → All (λ x. MarksId new (name x)) xs
ids_kept name old new xs more h = All-weaker (λ x. MarksId old (name x)) (λ x. MarksId new (name x)) (λ x. id_kept old new (name x) more) xs h

pub ids_next : {A : Type 0} (name : A → List ℕ) (old new : List Bool) (xs : List A) (i : ℕ) (x : A) (id : List ℕ) → i < length xs → x ≡ get_or xs i x → id ≡ name x → Marks old new → MarksId new id
    → All (λ y. MarksId old (name y)) (take i xs) → All (λ y. MarksId new (name y)) (take (i + 1) xs)
ids_next name old new xs i x id lt is same more here h =
    All-next (λ y. MarksId new (name y)) xs i x lt is (ids_kept name old new (take i xs) more h) (subst (MarksId new) same here)

-- ---- a block that is free

taken_front : (taken : List Bool) → ((p : ℕ) → p < length taken → is_taken taken p ≡ true) → (i : ℕ) → i ≤ length taken → count_taken (take i taken) ≡ i
taken_front taken h zero le = refl
taken_front taken h (suc i) le =
    let lt : i < length taken = omega arith in
    let more : count_taken (take (i + 1) taken) ≡ count_taken (take i taken) + 1 = count_by_more_yes (λ (b : Bool). b) taken i false lt (h i lt) in
    let before : count_taken (take i taken) ≡ i = taken_front taken h i (omega arith) in
    ap (λ (n : ℕ). count_taken (take n taken)) (sym (add-one i)) ∙ more ∙ omega (arith, before)

pub all_taken : (taken : List Bool) → ((p : ℕ) → p < length taken → is_taken taken p ≡ true) → count_taken taken ≡ length taken
all_taken taken h = ap count_taken (sym (take_all (length taken) taken (omega arith))) ∙ taken_front taken h (length taken) (omega arith)

pub length_ids : (m : RtlModule) → length (module_ids m) ≡ length m.wires + (length m.memories + length m.cells)
length_ids m =
    let wires = map (λ (w : RtlWire). w.id) m.wires in
    let memories = map (λ (r : RtlMemory). r.id) m.memories in
    let cells = map (λ (c : RtlCell). c.id) m.cells in
    let whole : length (module_ids m) ≡ length (wires ++ memories ++ cells) = refl in
    omega (arith, whole, length-append (wires ++ memories) cells, length-append wires memories, length-append wires (memories ++ cells), length-append memories cells, length-map m.wires (λ (w : RtlWire). w.id), length-map m.memories (λ (r : RtlMemory). r.id), length-map m.cells (λ (c : RtlCell). c.id))

pub all_marked : (taken : List Bool) (m : RtlModule) → All (λ (w : RtlWire). MarksId taken w.id) m.wires → All (λ (r : RtlMemory). MarksId taken r.id) m.memories → All (λ (c : RtlCell). MarksId taken c.id) m.cells → All (MarksId taken) (module_ids m)
all_marked taken m wires memories cells =
    All-append (MarksId taken) (map (λ (w : RtlWire). w.id) m.wires ++ map (λ (r : RtlMemory). r.id) m.memories) (map (λ (c : RtlCell). c.id) m.cells)
    (All-append (MarksId taken) (map (λ (w : RtlWire). w.id) m.wires) (map (λ (r : RtlMemory). r.id) m.memories)
    (All-map (MarksId taken) (λ (w : RtlWire). w.id) m.wires wires) (All-map (MarksId taken) (λ (r : RtlMemory). r.id) m.memories memories))
    (All-map (MarksId taken) (λ (c : RtlCell). c.id) m.cells cells)

pub ids_free : (taken : List Bool) (block n : ℕ) (ids : List (List ℕ)) → n ≡ block * 2 ^ 64 → block < length taken → is_taken taken block ≡ false → All (MarksId taken) ids → AreFree n (n + 2 ^ 64) ids
ids_free taken block n ids is lt free marked = All-weaker (MarksId taken) (λ id. (k : ℕ) → n ≤ k → k < n + 2 ^ 64 → id ≢ numbered_id k) one ids marked
  where
    one : (id : List ℕ) → MarksId taken id → (k : ℕ) → n ≤ k → k < n + 2 ^ 64 → id ≢ numbered_id k
    one id h k low high same = let no : true ≡ false = sym (h k block same lt (omega (arith, is, low)) (omega (arith, is, high))) ∙ free in cc

-- ---- the number in an id

numbered_digits : (id digits : List ℕ) (k : ℕ) → id ≡ 36 ∷ digits → id ≡ numbered_id k → digits ≡ decimal k
numbered_digits id digits k is same = cc

pub parsed : {E : Type 0} (id digits : List ℕ) (k : ℕ) (r : Result ℕ E) → k < 2 ^ 128 → id ≡ 36 ∷ digits → id ≡ numbered_id k → ParsesUnsigned 128 10 digits r → r ≡ Ok k
parsed id digits k r small is same value = parse-decimal_wide 128 k digits r small (omega arith) (numbered_digits id digits k is same) value

pub stripped : (id : List ℕ) (r o : Option (Bor (List ℕ))) → MatchOption r (FindsCharPrefix 36 id None) (λ x. (n : ℕ) × FindsCharPrefix 36 id (Some n) × (x.now ≡ drop n id) × (length x.now + n ≡ length id)) → r ≡ o → MatchOption o ((rest : List ℕ) → id ≢ 36 ∷ rest) (λ x. id ≡ 36 ∷ x.now)
stripped id r o cases is = subst (λ (p : Option (Bor (List ℕ))). MatchOption p ((rest : List ℕ) → id ≢ 36 ∷ rest) (λ x. id ≡ 36 ∷ x.now)) is (strip_prefix_char 36 id r cases (omega arith))

same_ok : {E : Type 0} (a b : ℕ) → ◌≡◌ {A = Result ℕ E} (Ok a) (Ok b) → a ≡ b
same_ok a b e = cc

pub ok_some : {E : Type 0} (r : Result ℕ E) (n k : ℕ) → r ≡ Ok n → r ≡ Ok k → Some n ≡ Some k
ok_some r n k p q = ap Some (same_ok n k (sym p ∙ q))

never_ok : {E A : Type 0} (e : E) (k : ℕ) → ◌≡◌ {A = Result ℕ E} (Err e) (Ok k) → A
never_ok e k f = cc

pub no_ok : {E A : Type 0} (r : Result ℕ E) (e : E) (k : ℕ) → r ≡ Err e → r ≡ Ok k → A
no_ok r e k p q = never_ok e k (sym p ∙ q)
