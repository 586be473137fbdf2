-- Bits of one part, joined from the highest down.
use Rattle.std.proofs.Common.{◌≡◌, ◌<◌, ◌≤◌, ◌+◌, ◌-◌, ◌==◌, ◌&&◌, ℕ, suc, Bool, true, false, cond, List, [], ◌∷◌, ◌++◌, map, length, take, drop, get_or, refl, sym, ap, ◌∙◌, arith, append_assoc}
use Rattle.std.specs.Prelude.{Some, None, option_map, unwrap_or}
use Rattle.std.specs.List.{AllByRecursion, find}
use Rattle.std.proofs.lemmas.Bool.{ne_eqb, and_parts}
use Rattle.std.proofs.lemmas.List.{drop_more, drop_all, take_more, map-append}
use Rattle.lists.specs.Texts.{text_eq}
use Rattle.lists.proofs.TextLaws.{text_eq_true}
use Rattle.design_ir.specs.declared.port.Column.{Column}
use Rattle.design_ir.specs.Circuits.{Circuit}
use Rattle.design_ir.specs.Designs.{IsDesign}
use Rattle.rtlil_text.specs.declared.sig.SigPart.{SigPart}
use Rattle.rtlil_text.specs.declared.sig.SigPart.TheVariants as parts
use Rattle.rtlil_text.specs.Sources.{Source, Constant, Net}
use Rattle.netlist_laws.specs.Ids.{signal_id}
use Rattle.netlist_laws.specs.Operands.{const_part}
use Rattle.netlist_laws.specs.Module.{public_id, wire_id}
use Rattle.netlist_laws.specs.Spelled.{one_part, below, added_below, spec_of}
use Rattle.netlist.specs.Tables.{joins, bit_of, run_of, source_id, source_place}

-- ---- signals that are not there

no_column : (xs : List Column) (n s : ℕ) → AllByRecursion (λ (x : Column). x.sig.0 < n) xs → n ≤ s → find (λ (x : Column). x.sig.0 == s) xs ≡ None
no_column [] n s h le = refl
no_column (x ∷ xs) n s h le = let t : (x.sig.0 == s) ≡ false = ne_eqb x.sig.0 s (λ e. omega (arith, e, h.0)) in rw t (no_column xs n s h.1 le)

pub hidden_id : (c : Circuit) (s : ℕ) → IsDesign c → length c.pool.signals ≤ s → wire_id c s ≡ signal_id s
hidden_id c s h le = ap (λ o. unwrap_or (option_map (λ (x : Column). public_id x.name) o) (signal_id s)) (no_column c.columns (length c.pool.signals) s h.columns.there le)

-- ---- whether a bit joins the one above it

pub joins_none : (x y : Source) → source_place x ≡ None → source_place y ≡ None → joins x y ≡ true
joins_none (Constant a) (Constant b) e f = refl
joins_none (Constant a) (Net id i) e f = cc
joins_none (Net id i) y e f = cc

pub joins_net : (x y : Source) (i j : ℕ) → source_place x ≡ Some i → source_place y ≡ Some j → joins x y ≡ (text_eq (source_id x) (source_id y) && (i + 1 == j))
joins_net (Constant a) y i j e f = cc
joins_net (Net id k) (Constant b) i j e f = cc
joins_net (Net id k) (Net wire low) i j e f =
    let p : k ≡ i = cc in
    let q : low ≡ j = cc in
    let one : suc k ≡ i + 1 = omega (arith, p) in
    λ t. text_eq id wire && (one t == q t)

pub joins_left : (x y : Source) (i : ℕ) → source_place x ≡ None → source_place y ≡ Some i → joins x y ≡ false
joins_left (Constant a) (Constant b) i e f = cc
joins_left (Constant a) (Net id k) i e f = refl
joins_left (Net id k) y i e f = cc

pub joins_right : (x y : Source) (i : ℕ) → source_place x ≡ Some i → source_place y ≡ None → joins x y ≡ false
joins_right (Constant a) y i e f = cc
joins_right (Net id k) (Constant b) i e f = refl
joins_right (Net id k) (Net wire low) i e f = cc

-- ---- one bit more

below_last : (x : Source) (ps : List SigPart) (p : SigPart) → added_below x (ps ++ p ∷ []) ≡ ps ++ below x p
below_last x [] p = refl
below_last x (q ∷ []) p = refl
below_last x (q ∷ r ∷ ps) p = ap (λ s. q ∷ s) (below_last x (r ∷ ps) p)

joined_wire : (id wire : List ℕ) (i low n : ℕ) (b : Bool) → (text_eq id wire && (suc i == low)) ≡ b
    → cond b (parts.Wire wire i (suc (suc n)) ∷ []) (parts.Wire wire low (suc n) ∷ parts.Wire id i 1 ∷ []) ≡ cond b (parts.Wire id i (suc (suc n)) ∷ []) (parts.Wire wire low (suc n) ∷ parts.Wire id i 1 ∷ [])
joined_wire id wire i low n true e = ap (λ w. parts.Wire w i (suc (suc n)) ∷ []) (sym (text_eq_true id wire (and_parts (text_eq id wire) (suc i == low) e).0))
joined_wire id wire i low n false e = refl

below_run : (x y : Source) (ys : List Source) → below x (run_of (y ∷ ys)) ≡ cond (joins x y) (run_of (x ∷ y ∷ ys) ∷ []) (run_of (y ∷ ys) ∷ run_of (x ∷ []) ∷ [])
below_run (Constant a) (Constant b) ys = refl
below_run (Constant a) (Net id i) ys = refl
below_run (Net id i) (Constant b) ys = refl
below_run (Net id i) (Net wire low) ys = joined_wire id wire i low (length ys) (text_eq id wire && (suc i == low)) refl

-- ---- turns of the loop from the highest bit down

one_run : (x : Source) → one_part x ≡ run_of (x ∷ [])
one_run (Constant b) = refl
one_run (Net id i) = refl

module _ {B : Type 0} (f : B → Source) where
  last_alone : (bits : List B) (d : B) → 0 < length bits → drop (length bits - 1) bits ≡ get_or bits (length bits - 1) d ∷ []
  last_alone bits d h = drop_more bits (length bits - 1) d (omega arith) ∙ ap (λ r. get_or bits (length bits - 1) d ∷ r) (drop_all (length bits - 1 + 1) bits (omega arith))

  pub spelled_first : (bits : List B) (d : B) → 0 < length bits → spec_of (map f (drop (length bits - 1) bits)) ≡ [] ++ run_of (map f (take (length bits - (length bits - 1)) (drop (length bits - 1) bits))) ∷ []
  unfolding spec_of
  spelled_first bits d h =
      let one : length bits - (length bits - 1) ≡ 1 = omega arith in
      let b : B = get_or bits (length bits - 1) d in
      let last = last_alone bits d h in
      ap (λ xs. spec_of (map f xs)) last ∙ ap (λ (p : SigPart). p ∷ []) (one_run (f b))
      ∙ sym (ap (λ xs. run_of (map f (take (length bits - (length bits - 1)) xs)) ∷ []) last ∙ ap (λ n. run_of (map f (take n (b ∷ []))) ∷ []) one)

  spelled_below : (x y : Source) (ys rest : List Source) (ps : List SigPart) → spec_of rest ≡ ps ++ run_of (y ∷ ys) ∷ [] → spec_of (x ∷ rest) ≡ ps ++ cond (joins x y) (run_of (x ∷ y ∷ ys) ∷ []) (run_of (y ∷ ys) ∷ run_of (x ∷ []) ∷ [])
  unfolding spec_of
  spelled_below x y ys rest ps e = ap (added_below x) e ∙ below_last x ps (run_of (y ∷ ys)) ∙ ap (λ r. ps ++ r) (below_run x y ys)

  module _ (bits : List B) (d : B) (low high : ℕ) (ps : List SigPart) (some : 1 ≤ low) (below : low < high) (within : high ≤ length bits)
      (old : spec_of (map f (drop low bits)) ≡ ps ++ run_of (map f (take (high - low) (drop low bits))) ∷ []) where
    head : drop (low - 1) bits ≡ get_or bits (low - 1) d ∷ drop low bits
    head = let e : low - 1 + 1 ≡ low = omega arith in drop_more bits (low - 1) d (omega arith) ∙ ap (λ k. get_or bits (low - 1) d ∷ drop k bits) e

    run : map f (take (high - low) (drop low bits)) ≡ f (get_or bits low d) ∷ map f (take (high - low - 1) (drop (low + 1) bits))
    run = let e : high - low ≡ suc (high - low - 1) = omega arith in ap (λ r. map f (take (high - low) r)) (drop_more bits low d (omega arith)) ∙ ap (λ n. map f (take n (get_or bits low d ∷ drop (low + 1) bits))) e

    spelled : spec_of (map f (drop (low - 1) bits)) ≡ ps ++ cond (joins (f (get_or bits (low - 1) d)) (f (get_or bits low d))) (run_of (f (get_or bits (low - 1) d) ∷ map f (take (high - low) (drop low bits))) ∷ []) (run_of (map f (take (high - low) (drop low bits))) ∷ run_of (f (get_or bits (low - 1) d) ∷ []) ∷ [])
    spelled =
        let a = f (get_or bits (low - 1) d) in
        let b = f (get_or bits low d) in
        let r = map f (take (high - low - 1) (drop (low + 1) bits)) in
        ap (λ xs. spec_of (map f xs)) head ∙ spelled_below a b r (map f (drop low bits)) ps (old ∙ ap (λ s. ps ++ run_of s ∷ []) run)
        ∙ ap (λ s. ps ++ cond (joins a b) (run_of (a ∷ s) ∷ []) (run_of s ∷ run_of (a ∷ []) ∷ [])) (sym run)

    pub spelled_joined : joins (f (get_or bits (low - 1) d)) (f (get_or bits low d)) ≡ true → spec_of (map f (drop (low - 1) bits)) ≡ ps ++ run_of (map f (take (high - (low - 1)) (drop (low - 1) bits))) ∷ []
    spelled_joined t =
        let a = f (get_or bits (low - 1) d) in
        let e : high - (low - 1) ≡ suc (high - low) = omega arith in
        spelled ∙ ap (λ b. ps ++ cond b (run_of (a ∷ map f (take (high - low) (drop low bits))) ∷ []) (run_of (map f (take (high - low) (drop low bits))) ∷ run_of (a ∷ []) ∷ [])) t
        ∙ sym (ap (λ r. ps ++ run_of (map f (take (high - (low - 1)) r)) ∷ []) head ∙ ap (λ n. ps ++ run_of (map f (take n (get_or bits (low - 1) d ∷ drop low bits))) ∷ []) e)

    pub spelled_split : (part : SigPart) (ps' : List SigPart) → joins (f (get_or bits (low - 1) d)) (f (get_or bits low d)) ≡ false → part ≡ run_of (map f (take (high - low) (drop low bits))) → ps' ≡ ps ++ part ∷ []
        → spec_of (map f (drop (low - 1) bits)) ≡ ps' ++ run_of (map f (take (low - (low - 1)) (drop (low - 1) bits))) ∷ []
    spelled_split part ps' t is added =
        let a = f (get_or bits (low - 1) d) in
        let one : low - (low - 1) ≡ 1 = omega arith in
        let s = run_of (map f (take (high - low) (drop low bits))) in
        spelled ∙ ap (λ b. ps ++ cond b (run_of (a ∷ map f (take (high - low) (drop low bits))) ∷ []) (s ∷ run_of (a ∷ []) ∷ [])) t
        ∙ sym (append_assoc ps (s ∷ []) (run_of (a ∷ []) ∷ []))
        ∙ ap (λ q. (ps ++ q ∷ []) ++ run_of (a ∷ []) ∷ []) (sym is)
        ∙ ap (λ qs. qs ++ run_of (a ∷ []) ∷ []) (sym added)
        ∙ sym (ap (λ r. ps' ++ run_of (map f (take (low - (low - 1)) r)) ∷ []) head ∙ ap (λ n. ps' ++ run_of (map f (take n (get_or bits (low - 1) d ∷ drop low bits))) ∷ []) one)

-- ---- constants, and no bits

constant_run : (x : Source) (xs : List Source) → source_place x ≡ None → parts.Const (map bit_of (x ∷ xs)) ≡ run_of (x ∷ xs)
constant_run (Constant b) xs e = refl
constant_run (Net id i) xs e = cc

pub run_constant : {B : Type 0} (f : B → Source) (run : List B) (d : B) (bits : List Bool) → 0 < length run → source_place (f (get_or run 0 d)) ≡ None → bits ≡ map bit_of (map f run) → parts.Const bits ≡ run_of (map f run)
run_constant f [] d bits h e is = absurd (omega arith)
run_constant f (x ∷ xs) d bits h e is = ap (λ bs. parts.Const bs) is ∙ constant_run (f x) (map f xs) e

pub bits_more : {B : Type 0} (f : B → Source) (run : List B) (i : ℕ) (d : B) (b : Bool) (bits bits' : List Bool) → i < length run → bits ≡ map bit_of (map f (take i run)) → b ≡ bit_of (f (get_or run i d)) → bits' ≡ bits ++ b ∷ []
    → bits' ≡ map bit_of (map f (take (i + 1) run))
bits_more f run i d b bits bits' lt before is added =
    let whole : map bit_of (map f (take (i + 1) run)) ≡ map bit_of (map f (take i run)) ++ bit_of (f (get_or run i d)) ∷ [] =
    ap (λ xs. map bit_of (map f xs)) (take_more run i d lt) ∙ ap (map bit_of) (map-append f (take i run) (get_or run i d ∷ [])) ∙ map-append bit_of (map f (take i run)) (f (get_or run i d) ∷ []) in
    added ∙ (λ j. before j ++ is j ∷ []) ∙ sym whole

pub spelled_none : {B : Type 0} (f : B → Source) (bits : List B) → length bits ≡ 0 → spec_of (map f bits) ≡ []
unfolding spec_of
spelled_none f [] h = refl
spelled_none f (b ∷ bs) h = absurd (omega arith)

pub spelled_constants : (bs : List Bool) → spec_of (map Constant bs) ≡ const_part bs
unfolding spec_of
spelled_constants [] = refl
spelled_constants (b ∷ bs) = ap (added_below (Constant b)) (spelled_constants bs) ∙ one_below b bs
  where
    one_below : (b : Bool) (bs : List Bool) → added_below (Constant b) (const_part bs) ≡ const_part (b ∷ bs)
    one_below b [] = refl
    one_below b (c ∷ cs) = refl
