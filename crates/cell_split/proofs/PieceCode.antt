-- One bit of a spec, found part by part.
use Rattle.std.proofs.Common.{◌≡◌, ◌∙◌, ◌<◌, ◌≤◌, ◌+◌, ◌-◌, ℕ, zero, suc, Bool, false, List, [], ◌∷◌, ◌++◌, map, length, take, drop, refl, sym, ap, arith, subst, length-append, append_assoc}
use Rattle.std.specs.Prelude.{Option, Some, option_map, slice_get}
use Rattle.std.specs.List.{range_with_len}
use Rattle.std.proofs.lemmas.Option.{slice_get-get_or, slice_get-map, slice_get_past, get_or_from_slice_get}
use Rattle.std.proofs.lemmas.List.{take-append-drop, drop_more, append-nil}
use Rattle.std.proofs.lemmas.List.FromFn.{length-map-range_with_len, get_or-map-range_with_len, map-range_with_len_more}
use Rattle.rtlil_text.specs.declared.sig.SigPart.{SigPart}
use Rattle.rtlil_text.specs.declared.sig.SigPart.TheVariants as parts
use Rattle.rtlil_text.specs.declared.cell.RtlCell.{RtlCell}
use Rattle.rtlil_text.specs.Sources.{Source, Constant, Net, part_bits, spec_bits}
use Rattle.cell_split.specs.Pieces.{bit_parts, bit_spec}

-- ---- lists

slice_get-front : {A : Type 0} (xs ys : List A) (k : ℕ) → k < length xs → slice_get (xs ++ ys) k ≡ slice_get xs k
slice_get-front [] ys k h = absurd (omega arith)
slice_get-front (x ∷ xs) ys zero h = refl
slice_get-front (x ∷ xs) ys (suc k) h = slice_get-front xs ys k (omega arith)

slice_get-behind : {A : Type 0} (xs ys : List A) (j k : ℕ) → length xs + j ≡ k → slice_get (xs ++ ys) k ≡ slice_get ys j
slice_get-behind [] ys j k e = ap (slice_get ys) (let same : k ≡ j = omega arith in same)
slice_get-behind (x ∷ xs) ys j zero e = absurd (omega arith)
slice_get-behind (x ∷ xs) ys j (suc k) e = slice_get-behind xs ys j k (omega arith)

-- ---- parts

pub length-wire : (p : SigPart) (id : List ℕ) (low width : ℕ) → p ≡ parts.Wire id low width → width ≡ length (part_bits p)
length-wire p id low width e = sym (ap (λ (q : SigPart). length (part_bits q)) e ∙ length-map-range_with_len (λ i. Net id i) low width)

pub bit_of_constant : (p : SigPart) (bits new : List Bool) (b : Bool) (k : ℕ) → p ≡ parts.Const bits → slice_get bits k ≡ Some b → new ≡ b ∷ [] → bit_parts (slice_get (part_bits p) k) ≡ parts.Const new ∷ []
bit_of_constant p bits new b k e at is =
    ap (λ (q : SigPart). bit_parts (slice_get (part_bits q) k)) e ∙ ap bit_parts (slice_get-map Constant bits k) ∙ ap (λ (o : Option Bool). bit_parts (option_map Constant o)) at
    ∙ ap (λ (c : List Bool). parts.Const c ∷ []) (sym is)

net_at : (id : List ℕ) (low width k : ℕ) → k < width → slice_get (map (λ i. Net id i) (range_with_len low width)) k ≡ Some (Net id (low + k))
net_at id low width k h =
    let within : k < length (map (λ i. Net id i) (range_with_len low width)) = omega (arith, length-map-range_with_len (λ i. Net id i) low width, h) in
    slice_get-get_or (map (λ i. Net id i) (range_with_len low width)) k (Constant false) within
    ∙ ap Some (get_or-map-range_with_len (λ i. Net id i) low width k (low + k) (Constant false) h refl)

pub bit_of_wire : (p : SigPart) (id copy : List ℕ) (low width k : ℕ) → p ≡ parts.Wire id low width → k < length (part_bits p) → copy ≡ id → bit_parts (slice_get (part_bits p) k) ≡ parts.Wire copy (low + k) 1 ∷ []
bit_of_wire p id copy low width k e h same =
    let within : k < width = omega (arith, length-wire p id low width e, h) in
    ap (λ (q : SigPart). bit_parts (slice_get (part_bits q) k)) e ∙ ap bit_parts (net_at id low width k within) ∙ ap (λ (name : List ℕ). parts.Wire name (low + k) 1 ∷ []) (sym same)

-- ---- specs

spec_bits-append : (xs ys : List SigPart) → spec_bits (xs ++ ys) ≡ spec_bits ys ++ spec_bits xs
spec_bits-append [] ys = sym (append-nil (spec_bits ys))
spec_bits-append (x ∷ xs) ys = ap (λ (bits : List Source). bits ++ part_bits x) (spec_bits-append xs ys) ∙ append_assoc (spec_bits ys) (spec_bits xs) (part_bits x)

pub drop-at : (spec : List SigPart) (k : ℕ) (p : SigPart) → k < length spec → slice_get spec k ≡ Some p → drop k spec ≡ p ∷ drop (k + 1) spec
drop-at spec k p h e = drop_more spec k p h ∙ ap (λ (q : SigPart). q ∷ drop (k + 1) spec) (get_or_from_slice_get spec k p p e)

bits-at : (spec : List SigPart) (k : ℕ) (p : SigPart) → k < length spec → slice_get spec k ≡ Some p → spec_bits spec ≡ (spec_bits (drop (k + 1) spec) ++ part_bits p) ++ spec_bits (take k spec)
bits-at spec k p h e =
    ap spec_bits (sym (take-append-drop k spec)) ∙ spec_bits-append (take k spec) (drop k spec)
    ∙ ap (λ (rest : List SigPart). spec_bits rest ++ spec_bits (take k spec)) (drop-at spec k p h e)

-- the place is in this part
pub bit_found : (spec : List SigPart) (k place left : ℕ) (p q : SigPart) (bit new : List SigPart) → k < length spec → slice_get spec k ≡ Some p
    → length (spec_bits (drop (k + 1) spec)) + left ≡ place → left < length (part_bits p) → bit_parts (slice_get (part_bits p) left) ≡ q ∷ []
    → bit ≡ [] → new ≡ bit ++ q ∷ [] → new ≡ bit_spec spec place
bit_found spec k place left p q bit new h e passed here is empty pushed =
    let front : List Source = spec_bits (drop (k + 1) spec) in
    let within : place < length (front ++ part_bits p) = omega (arith, length-append front (part_bits p), passed, here) in
    let at : slice_get (spec_bits spec) place ≡ slice_get (part_bits p) left =
    ap (λ (bits : List Source). slice_get bits place) (bits-at spec k p h e)
    ∙ slice_get-front (front ++ part_bits p) (spec_bits (take k spec)) place within ∙ slice_get-behind front (part_bits p) left place passed in
    pushed ∙ ap (λ (b : List SigPart). b ++ q ∷ []) empty ∙ sym (ap bit_parts at ∙ is)

-- the place is in a part above it
pub bit_passed : (spec : List SigPart) (k place left : ℕ) (p : SigPart) → k < length spec → slice_get spec k ≡ Some p
    → length (spec_bits (drop (k + 1) spec)) + left ≡ place → length (part_bits p) ≤ left → length (spec_bits (drop k spec)) + (left - length (part_bits p)) ≡ place
bit_passed spec k place left p h e passed wide =
    let parted : length (spec_bits (drop k spec)) ≡ length (spec_bits (drop (k + 1) spec) ++ part_bits p) = ap (λ (rest : List SigPart). length (spec_bits rest)) (drop-at spec k p h e) in
    omega (arith, parted, length-append (spec_bits (drop (k + 1) spec)) (part_bits p), passed, wide)

-- the place is past all parts
pub bit_nowhere : (spec : List SigPart) (k place left : ℕ) (bit : List SigPart) → k ≡ 0 → length (spec_bits (drop k spec)) + left ≡ place → bit ≡ [] → bit ≡ bit_spec spec place
bit_nowhere spec k place left bit none passed empty =
    let all : length (spec_bits spec) + left ≡ place = subst (λ (j : ℕ). length (spec_bits (drop j spec)) + left ≡ place) none passed in
    empty ∙ sym (ap bit_parts (slice_get_past (spec_bits spec) place (omega arith)))

-- ---- pieces

pub one_more : (f : ℕ → RtlCell) (before now new : List RtlCell) (k : ℕ) (x : RtlCell) → now ≡ before ++ map f (range_with_len 0 k) → x ≡ f k → new ≡ now ++ x ∷ [] → new ≡ before ++ map f (range_with_len 0 (k + 1))
one_more f before now new k x was is pushed =
    pushed ∙ ap (λ (cells : List RtlCell). cells ++ x ∷ []) was ∙ append_assoc before (map f (range_with_len 0 k)) (x ∷ [])
    ∙ ap (λ (y : RtlCell). before ++ (map f (range_with_len 0 k) ++ y ∷ [])) is
    ∙ ap (λ (cells : List RtlCell). before ++ cells) (sym (map-range_with_len_more f 0 k k (omega arith)))
