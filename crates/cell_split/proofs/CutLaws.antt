-- Once the tangled cells are cut, loops through cells taken whole are loops of bits.
use Rattle.std.proofs.Common.{◌≡◌, ◌≢◌, ◌∙◌, ◌⊎◌, inl, inr, ◌<◌, ◌≤◌, ◌+◌, ◌==◌, ◌&&◌, ◌||◌, not, ℕ, zero, suc, Bool, true, false, cond, List, [], ◌∷◌, map, length, refl, sym, ap, arith, subst}
use Rattle.std.specs.Prelude.{Option, Some, None, Result, Ok, Err, IfOk, ◌^◌, slice_get, Contains, nat_lt, codes}
use Rattle.std.specs.List.{range_with_len}
use Rattle.std.proofs.lemmas.Bool.{and_parts}
use Rattle.std.proofs.lemmas.Bool.Decides.{nat_tests}
use Rattle.std.proofs.lemmas.List.Elements.{All-contains, All-weaker}
use Rattle.shape_rules.specs.declared.cell.CellKind.{CellKind}
use Rattle.shape_rules.specs.declared.cell.CellKind.TheVariants.{Not, And, Or, Xor, Mux, Dff, Adff, MemoryRead, MemoryWrite, MemoryInit}
use Rattle.rtlil_text.specs.declared.cell.RtlCell.{RtlCell}
use Rattle.rtlil_text.specs.declared.module.RtlModule.{RtlModule}
use Rattle.rtlil_text.specs.Sources.{Source, Constant, spec_bits, end_bits, end_width, number_at}
use Rattle.rtlil_text.specs.CellTables.{output_of, ends_of}
use Rattle.rtlil_text.specs.CellRules.{FitsArithmetic}
use Rattle.rtlil_text.specs.Rules.{IsModule, KindFits, CellFits, module_ids}
use Rattle.rtlil_text.specs.Memories.{is_write, is_init}
use Rattle.rtlil_text.specs.Meaning.{is_kept_kind}
use Rattle.rtlil_text.specs.Drivers.{Driver, ByInput, ByLink, ByCell, ByNone, output_bits, driver}
use Rattle.rtlil_text.proofs.Among.{Among, Among-contains, Contains-among, Among-append, Among-slice_get}
use Rattle.cell_split.specs.Pieces.{is_bitwise, bit_parts, is_shared, numbered_id, piece, pieces}
use Rattle.cell_split.specs.Split.{can_split, split_cell, split_cells, split_of}
use Rattle.cell_split.specs.Loops.{Bit, net, is_comb, IsRead, StandsAt, TakesBit, TakesWhole, DriverTakes, Feeds, FeedsWhole, OnLoop, LoopsAreOfBits}
use Rattle.cell_split.specs.Kept.{AreFree}
use Rattle.cell_split.specs.Needs.{is_marked, IsTangled}
use Rattle.cell_split.proofs.PieceBits.{spec_bits-bit_part, length-bit_parts, end_bits-shared, end_bits-piece}
use Rattle.cell_split.proofs.PieceDrivers.{AreAlike, Same, Cut, driver-alike, width-outputs}
use Rattle.cell_split.proofs.Rules.{splits_keep_rules}
use Rattle.cell_split.proofs.NeedLaws.{within_some}
use Rattle.cell_split.proofs.DriverLaws.{driven_by_cell, end_named}
use Rattle.cell_split.proofs.LoopLaws.{Among-place}
use Rattle.cell_split.proofs.Ways.{loop_other, loop_better}

-- ---- pieces

comb_kind-bitwise : (clocked : ℕ) (kind : CellKind) → is_bitwise kind ≡ true → not (is_kept_kind clocked kind || is_write kind || is_init kind) ≡ true
comb_kind-bitwise clocked Dff h = cc
comb_kind-bitwise clocked Adff h = cc
comb_kind-bitwise clocked MemoryRead h = cc
comb_kind-bitwise clocked MemoryWrite h = cc
comb_kind-bitwise clocked MemoryInit h = cc
comb_kind-bitwise clocked kind h = refl

comb-bitwise : (c : RtlCell) → is_bitwise c.kind ≡ true → is_comb c ≡ true
comb-bitwise c h = comb_kind-bitwise (number_at c (codes "\\CLK_ENABLE")) c.kind h

one_bit : (o : Option Source) (s : Source) → Among (spec_bits (bit_parts o)) s → o ≡ Some s
one_bit None s h = absurd h
one_bit (Some t) s h = here (subst (λ (bits : List Source). Among bits s) (spec_bits-bit_part t) h)
  where
    here : Among (t ∷ []) s → Some t ≡ Some s
    here (inl e) = ap Some e
    here (inr none) = absurd none

-- what stands at an end of a piece stands at that of the cell
piece_stands : (j k : ℕ) (c : RtlCell) (name : List ℕ) (s : Source) → Among (end_bits (piece j c k) name) s → Among (end_bits c name) s
piece_stands j k c name s h = here (is_shared name) refl
  where
    here : (b : Bool) → is_shared name ≡ b → Among (end_bits c name) s
    here true t = subst (λ (bits : List Source). Among bits s) (end_bits-shared j k c name t) h
    here false t = Among-slice_get (end_bits c name) k s (one_bit (slice_get (end_bits c name) k) s (subst (λ (bits : List Source). Among bits s) (end_bits-piece j k c name t) h))

narrow_bits : (o : Option Source) → length (spec_bits (bit_parts o)) ≤ 1
narrow_bits None = omega arith
narrow_bits (Some s) = let one = length-bit_parts s in omega (arith, one)

piece_narrow : (j k : ℕ) (c : RtlCell) (name : List ℕ) → is_shared name ≡ false → end_width (piece j c k) name ≤ 1
piece_narrow j k c name t = let same = ap length (end_bits-piece j k c name t) in let one = narrow_bits (slice_get (end_bits c name) k) in omega (arith, same, one)

takes_before : (a : Bit) (d d' : Driver) → AreAlike d d' → DriverTakes (λ c k. TakesWhole c) a d' → DriverTakes (λ c k. TakesWhole c) a d
takes_before a d d' (Same x) takes = takes
takes_before a d d' (Cut j k c h) takes = record {
  comb = comb-bitwise c h;
  name = takes.name;
  other = takes.other;
  stands = Contains-among (end_bits c takes.name) (net a) (piece_stands j k c takes.name (net a) (Among-contains (end_bits (piece j c k) takes.name) (net a) takes.stands));
}

-- ---- the cells of the cut module

-- a piece of one bit, or a cell of before that was not cut
abbrev IsPieceCell : RtlCell → Type 0
IsPieceCell c = (j : ℕ) × (k : ℕ) × (x : RtlCell) × (piece j x k ≡ c)

abbrev IsUncut : List Bool → List RtlCell → RtlCell → Type 0
IsUncut marks cells c = (p : ℕ) × (slice_get cells p ≡ Some c) × ((is_marked marks p && can_split c) ≡ false)

among_mapped : {A B : Type 0} (f : A → B) (xs : List A) (y : B) → Among (map f xs) y → (x : A) × (f x ≡ y)
among_mapped f [] y h = absurd h
among_mapped f (x ∷ xs) y (inl e) = (x, e)
among_mapped f (x ∷ xs) y (inr later) = among_mapped f xs y later

of_cell : (n : ℕ) (x : RtlCell) (cut : Bool) (c : RtlCell) → Among (cond cut (pieces n x) (x ∷ [])) c → IsPieceCell c ⊎ ((x ≡ c) × (cut ≡ false))
of_cell n x true c h = let r = among_mapped (λ k. piece (n + k) x k) (range_with_len 0 (end_width x (codes "\\Y"))) c h in inl (n + r.0, r.0, x, r.1)
of_cell n x false c (inl e) = inr (e, refl)
of_cell n x false c (inr none) = absurd none

none_marked : (p : ℕ) → is_marked [] p ≡ false
none_marked zero = refl
none_marked (suc p) = refl

of_split : (n : ℕ) (marks : List Bool) (cells : List RtlCell) (c : RtlCell) → Among (split_cells n marks cells) c → IsPieceCell c ⊎ IsUncut marks cells c
of_split n [] cells c h = let at = Among-place cells c h in inr (at.0, at.1, ap (λ (b : Bool). b && can_split c) (none_marked at.0))
of_split n (b ∷ marks) [] c h = absurd h
of_split n (b ∷ marks) (x ∷ cells) c h =
    elim (Among-append (split_cell n b x) (split_cells (n + length (split_cell n b x)) marks cells) c h) [
      | inl own ↦ (elim (of_cell n x (b && can_split x) c own) [
        | inl piece ↦ inl piece
        | inr whole ↦ inr (0, ap Some whole.0, subst (λ (y : RtlCell). (b && can_split y) ≡ false) whole.0 whole.1)
      ])
      | inr later ↦ (elim (of_split (n + length (split_cell n b x)) marks cells c later) [ inl piece ↦ inl piece | inr r ↦ inr (suc r.0, r.1, r.2) ])
    ]

alike_before : (d d' : Driver) (c : RtlCell) (k : ℕ) → AreAlike d d' → d' ≡ ByCell c k → (d ≡ ByCell c k) ⊎ (end_width c (codes "\\Y") ≤ 1)
alike_before d d' c k (Same x) e = inl e
alike_before d d' c k (Cut j i x h) e =
    let same : piece j x i ≡ c = cell_same (piece j x i) c 0 k e in
    inr (subst (λ (y : RtlCell). end_width y (codes "\\Y") ≤ 1) same (piece_narrow j i x (codes "\\Y") refl))
  where
    cell_same : (c d : RtlCell) (j k : ℕ) → ByCell c j ≡ ByCell d k → c ≡ d
    cell_same c d j k f = cc

-- ---- what the rules say of the ends of a cell

arithmetic_width : (c : RtlCell) → FitsArithmetic c → (name : List ℕ) → Among (codes "\\A" ∷ codes "\\B" ∷ codes "\\Y" ∷ []) name → name ≢ codes "\\Y" → end_width c name ≡ end_width c (codes "\\Y")
arithmetic_width c fits name (inl e) other = subst (λ (n : List ℕ). end_width c n ≡ end_width c (codes "\\Y")) e fits.equal_y
arithmetic_width c fits name (inr (inl e)) other = subst (λ (n : List ℕ). end_width c n ≡ end_width c (codes "\\Y")) e (sym fits.equal_b ∙ fits.equal_y)
arithmetic_width c fits name (inr (inr (inl e))) other = absurd (other (sym e))
arithmetic_width c fits name (inr (inr (inr none))) other = absurd none

shared_name : {A : Type 0} (name : List ℕ) → codes "\\S" ≡ name → is_shared name ≡ false → A
shared_name name e own = let no : true ≡ false = subst (λ (n : List ℕ). is_shared n ≡ false) (sym e) own in cc

-- an operand of a cell that goes bit by bit is as wide as its output
operand_width : (m : RtlModule) (c : RtlCell) (kind : CellKind) → is_bitwise kind ≡ true → KindFits m c kind → (name : List ℕ) → Among (ends_of kind) name → name ≢ output_of kind → is_shared name ≡ false → end_width c name ≡ end_width c (codes "\\Y")
operand_width m c Not h fits name (inl e) other own = subst (λ (n : List ℕ). end_width c n ≡ end_width c (codes "\\Y")) e fits.equal
operand_width m c Not h fits name (inr (inl e)) other own = absurd (other (sym e))
operand_width m c Not h fits name (inr (inr none)) other own = absurd none
operand_width m c And h fits name named other own = arithmetic_width c fits name named other
operand_width m c Or h fits name named other own = arithmetic_width c fits name named other
operand_width m c Xor h fits name named other own = arithmetic_width c fits name named other
operand_width m c Mux h fits name (inl e) other own = subst (λ (n : List ℕ). end_width c n ≡ end_width c (codes "\\Y")) e (sym fits.a ∙ fits.y)
operand_width m c Mux h fits name (inr (inl e)) other own = subst (λ (n : List ℕ). end_width c n ≡ end_width c (codes "\\Y")) e (sym fits.b ∙ fits.y)
operand_width m c Mux h fits name (inr (inr (inl e))) other own = shared_name name e own
operand_width m c Mux h fits name (inr (inr (inr (inl e)))) other own = absurd (other (sym e))
operand_width m c Mux h fits name (inr (inr (inr (inr none)))) other own = absurd none
operand_width m c kind h fits name named other own = cc

flag_zero : (n : ℕ) → n ≤ 1 → (n == 1) ≡ false → n ≡ 0
flag_zero zero le e = refl
flag_zero (suc zero) le e = cc
flag_zero (suc (suc n)) le e = absurd (omega arith)

not_clocked : (b : Bool) → not (b || false || false) ≡ true → b ≡ false
not_clocked true e = cc
not_clocked false e = refl

no_net : {A : Type 0} (c : RtlCell) (end name : List ℕ) (b : Bool) (x : Bit) → end ≡ name → end_bits c end ≡ Constant b ∷ [] → Among (end_bits c name) (net x) → A
no_net {A} c end name b x e is h = here (subst (λ (bits : List Source). Among bits (net x)) is (subst (λ (n : List ℕ). Among (end_bits c n) (net x)) (sym e) h))
  where
    here : Among (Constant b ∷ []) (net x) → A
    here (inl f) = cc
    here (inr none) = absurd none

-- an end at which a bit stands is one that the output follows
read_end : (m : RtlModule) (c : RtlCell) (kind : CellKind) → KindFits m c kind → not (is_kept_kind (number_at c (codes "\\CLK_ENABLE")) kind || is_write kind || is_init kind) ≡ true
    → (name : List ℕ) → Among (ends_of kind) name → name ≢ output_of kind → (x : Bit) → Among (end_bits c name) (net x) → IsRead kind name
read_end m c MemoryRead fits comb name named other x stands = here named
  where
    free : number_at c (codes "\\CLK_ENABLE") ≡ 0
    free = flag_zero (number_at c (codes "\\CLK_ENABLE")) fits.clocked (not_clocked (number_at c (codes "\\CLK_ENABLE") == 1) comb)

    here : Among (codes "\\CLK" ∷ codes "\\EN" ∷ codes "\\ARST" ∷ codes "\\SRST" ∷ codes "\\ADDR" ∷ codes "\\DATA" ∷ []) name → name ≡ codes "\\ADDR"
    here (inl e) = no_net c (codes "\\CLK") name false x e (fits.comb free).clock stands
    here (inr (inl e)) = no_net c (codes "\\EN") name true x e (fits.comb free).enable stands
    here (inr (inr (inl e))) = no_net c (codes "\\ARST") name false x e fits.no_reset stands
    here (inr (inr (inr (inl e)))) = no_net c (codes "\\SRST") name false x e fits.no_clocked_reset stands
    here (inr (inr (inr (inr (inl e))))) = sym e
    here (inr (inr (inr (inr (inr (inl e)))))) = absurd (other (sym e))
    here (inr (inr (inr (inr (inr (inr none)))))) = absurd none
read_end m c kind fits comb name named other x stands = other

-- ---- one bit

only_bit : (bits : List Source) (s : Source) → length bits ≤ 1 → Among bits s → slice_get bits 0 ≡ Some s
only_bit [] s le h = absurd h
only_bit (t ∷ []) s le (inl e) = ap Some e
only_bit (t ∷ []) s le (inr none) = absurd none
only_bit (t ∷ u ∷ bits) s le h = absurd (omega arith)

stands_at : (b : Bool) (bits : List Source) (k : ℕ) (x : Bit) → Contains bits (net x) → (b ≡ true → slice_get bits k ≡ Some (net x)) → StandsAt b bits k x
stands_at true bits k x h exact = exact refl
stands_at false bits k x h exact = h

not_shared : (b : Bool) → not b ≡ true → b ≡ false
not_shared true e = cc
not_shared false e = refl

small_width : (b : Bool) (w : ℕ) → b ≡ true → (b && nat_lt 1 w) ≡ false → w ≤ 1
small_width b w e f = grind (arith, nat_tests)

-- ---- the law

module _ (n : ℕ) (marks : List Bool) (m : RtlModule) (rules : IsModule (split_of n marks m)) (marked : (p : ℕ) (c : RtlCell) → slice_get m.cells p ≡ Some c → IsTangled m c → is_marked marks p ≡ true) where
  abbrev cut : RtlModule
  cut = split_of n marks m

  whole_before : (a b : Bit) → FeedsWhole cut a b → FeedsWhole m a b
  whole_before a b h = takes_before a (driver m b.wire b.place) (driver cut b.wire b.place) (driver-alike n marks m b.wire b.place) h

  -- a cell on a loop that goes bit by bit has one bit
  narrow : (y : Bit) (c : RtlCell) (k : ℕ) → driver cut y.wire y.place ≡ ByCell c k → Among cut.cells c → is_bitwise c.kind ≡ true → OnLoop (FeedsWhole cut) y → end_width c (codes "\\Y") ≤ 1
  narrow y c k e among bitwise loop =
      elim (alike_before (driver m y.wire y.place) (driver cut y.wire y.place) c k (driver-alike n marks m y.wire y.place) e) [
        | inr small ↦ small
        | inl drives ↦ (elim (of_split n marks m.cells c among) [
          | inl r ↦ subst (λ (x : RtlCell). end_width x (codes "\\Y") ≤ 1) r.3 (piece_narrow r.0 r.1 r.2 (codes "\\Y") refl)
          | inr r ↦ uncut r.0 r.1 drives r.2
        ])
      ]
    where
      uncut : (p : ℕ) → slice_get m.cells p ≡ Some c → driver m y.wire y.place ≡ ByCell c k → (is_marked marks p && can_split c) ≡ false → end_width c (codes "\\Y") ≤ 1
      uncut p at drives is =
          let tangled : IsTangled m c = record { bit = y; place = k; drives = drives; loops = loop_other (FeedsWhole cut) (FeedsWhole m) whole_before y loop } in
          let no : can_split c ≡ false = subst (λ (b : Bool). (b && can_split c) ≡ false) (marked p c at tangled) is in
          small_width (is_bitwise c.kind) (end_width c (codes "\\Y")) bitwise no

  at_bit : (x y : Bit) (c : RtlCell) (k : ℕ) → driver cut y.wire y.place ≡ ByCell c k → TakesWhole c x → OnLoop (FeedsWhole cut) y → TakesBit c k x
  at_bit x y c k e takes loop =
      let by = driven_by_cell cut y.wire y.place c k e in
      let fits : CellFits cut c = All-contains (CellFits cut) cut.cells c rules.cells (Contains-among cut.cells c by.0) in
      let stands : Among (end_bits c takes.name) (net x) = Among-contains (end_bits c takes.name) (net x) takes.stands in
      let named : Among (ends_of c.kind) takes.name = subst (λ (names : List (List ℕ)). Among names takes.name) fits.ends (end_named c takes.name (net x) stands) in
      let exact : (is_bitwise c.kind && not (is_shared takes.name)) ≡ true → slice_get (end_bits c takes.name) k ≡ Some (net x) =
      λ both.
      let parts = and_parts (is_bitwise c.kind) (not (is_shared takes.name)) both in
      let wide : end_width c takes.name ≡ end_width c (codes "\\Y") = operand_width cut c c.kind parts.0 fits.rules takes.name named takes.other (not_shared (is_shared takes.name) parts.1) in
      let small : end_width c (codes "\\Y") ≤ 1 = narrow y c k e by.0 parts.0 loop in
      let within : k < length (output_bits c) = within_some (output_bits c) k (net y) by.1 in
      let zero : 0 ≡ k = omega (arith, within, width-outputs c parts.0, small) in
      subst (λ (j : ℕ). slice_get (end_bits c takes.name) j ≡ Some (net x)) zero (only_bit (end_bits c takes.name) (net x) (omega (arith, wide, small)) stands) in
      record {
        comb = takes.comb;
        name = takes.name;
        reads = read_end cut c c.kind fits.rules takes.comb takes.name named takes.other x stands;
        stands = stands_at (is_bitwise c.kind && not (is_shared takes.name)) (end_bits c takes.name) k x takes.stands exact;
      }

  better : (x y : Bit) → FeedsWhole cut x y → OnLoop (FeedsWhole cut) y → Feeds cut x y
  better x y h loop = here (driver cut y.wire y.place) refl h
    where
      here : (d : Driver) → driver cut y.wire y.place ≡ d → DriverTakes (λ c k. TakesWhole c) x d → DriverTakes TakesBit x d
      here ByInput e takes = absurd takes
      here ByNone e takes = absurd takes
      here (ByLink l k) e takes = takes
      here (ByCell c k) e takes = at_bit x y c k e takes loop

  pub cut_loops : LoopsAreOfBits cut
  cut_loops b h = loop_better (FeedsWhole cut) (Feeds cut) better b h

-- where no cell is tangled, nothing need be cut
pub free_loops : (m : RtlModule) → IsModule m → ((p : ℕ) (c : RtlCell) → slice_get m.cells p ≡ Some c → IsTangled m c → ⊥) → LoopsAreOfBits m
free_loops m rules none = cut_loops 0 [] m rules (λ p c at t. absurd (none p c at t))

-- with new numbers that no id has, the cut module is a module
pub loops_cut : (n : ℕ) (marks : List Bool) (m : RtlModule) → IsModule m → AreFree n (n + 2 ^ 64) (module_ids m) → n < 2 ^ 127 → ((p : ℕ) (c : RtlCell) → slice_get m.cells p ≡ Some c → IsTangled m c → is_marked marks p ≡ true)
    → length (split_cells n marks m.cells) < 2 ^ 64 → LoopsAreOfBits (split_of n marks m)
loops_cut n marks m rules free small marked few =
    let high : ℕ = n + length (split_cells n marks m.cells) in
    let enough : AreFree n high (module_ids m) =
    All-weaker (λ id. (k : ℕ) → n ≤ k → k < n + 2 ^ 64 → id ≢ numbered_id k) (λ id. (k : ℕ) → n ≤ k → k < high → id ≢ numbered_id k) (λ id h k low below. h k low (omega (arith, below, few))) (module_ids m) free in
    cut_loops n marks m (splits_keep_rules n marks m rules enough (omega (arith, small, few))) marked

pub both_ok : {X Y : Type 0} (r : Result X Y) (P Q R : X → Type 0) → ((x : X) → P x → Q x → R x) → IfOk r P → IfOk r Q → IfOk r R
both_ok (Ok x) P Q R f p q = f x p q
both_ok (Err e) P Q R f p q = tt

pub unmarked : (seen marks : List Bool) (p : ℕ) → seen ≡ marks → is_marked seen p ≡ false → is_marked marks p ≡ true → ⊥
unmarked seen marks p same off on = let never : false ≡ true = sym off ∙ ap (λ (bs : List Bool). is_marked bs p) same ∙ on in cc
