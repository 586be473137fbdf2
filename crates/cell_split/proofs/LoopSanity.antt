-- Loops through cells, and loops through bits, in small modules.
use Rattle.std.proofs.Common.{◌≡◌, ◌≢◌, ◌⊎◌, ◌∙◌, inl, inr, ◌&&◌, not, ℕ, Bool, true, false, List, [], ◌∷◌, ◌+◌, ◌≤◌, All, Contains, refl, sym, ap, arith, subst}
use Rattle.std.specs.Prelude.{Some, codes}
use Rattle.lists.specs.Texts.{text_eq}
use Rattle.shape_rules.specs.declared.cell.CellKind.TheVariants.{And, Add}
use Rattle.rtlil_text.specs.declared.sig.SigPart.{SigPart}
use Rattle.rtlil_text.specs.declared.sig.SigPart.TheVariants as parts
use Rattle.rtlil_text.specs.declared.cell.RtlCell.{RtlCell}
use Rattle.rtlil_text.specs.declared.module.WirePort.TheVariants.{Inner, Input}
use Rattle.rtlil_text.specs.declared.module.RtlModule.{RtlModule}
use Rattle.rtlil_text.specs.Sources.{Source, Net, end_bits}
use Rattle.rtlil_text.proofs.Among.{Among, Among-slice_get, Among-contains}
use Rattle.rtlil_text.specs.declared.cell.RtlParameter.{RtlParameter}
use Rattle.rtlil_text.specs.declared.cell.RtlEnd.{RtlEnd}
use Rattle.rtlil_text.specs.declared.module.WirePort.{WirePort}
use Rattle.rtlil_text.specs.declared.module.RtlWire.{RtlWire}
use Rattle.rtlil_text.specs.Numerals.{numeral}
use Rattle.rtlil_text.specs.Ids.{IsId}
use Rattle.rtlil_text.specs.MemoryRules.{MemoryFits}
use Rattle.rtlil_text.specs.Rules.{IsModule, ValueFits, SpecFits, PartFits, WireFits, CellFits, LinkFits, module_ids}
use Rattle.rtlil_text.proofs.Distinct.{AreDistinct-are_distinct}
use Rattle.rtlil_text.proofs.GateSanity.{public}
use Rattle.std.proofs.lemmas.List.Elements.{All-from_recursion, All-nil}
use Rattle.rtlil_text.proofs.Builders.{wire, whole, binary, mux}
use Rattle.cell_split.specs.Pieces.{is_shared, numbered_id}
use Rattle.cell_split.specs.Split.{split_of}
use Rattle.cell_split.specs.Loops.{Bit, net, StandsAt, TakesBit, TakesWhole, Feeds, FeedsWhole, OnLoop, LoopsAreOfBits}
use Rattle.cell_split.proofs.DriverLaws.{end_named}
use Rattle.cell_split.proofs.Ways.{way_last}

abbrev a : List ℕ
a = codes "\\a"

abbrev b : List ℕ
b = codes "\\b"

abbrev y : List ℕ
y = codes "$1"

abbrev bit : List ℕ → ℕ → Bit
bit wire place = record { wire = wire; place = place }

abbrev slice : List ℕ → ℕ → SigPart
slice wire place = parts.Wire wire place 1

-- `\a` and `\b` are inputs, and the cell drives `$1`
abbrev of_cell : RtlCell → RtlModule
of_cell c = record { wires = wire a 2 (Input 1) ∷ wire b 2 (Input 2) ∷ wire y 2 Inner ∷ []; memories = []; cells = c ∷ []; links = [] }

differ : (v w : List ℕ) → text_eq v w ≡ false → text_eq w w ≡ true → v ≢ w
differ v w apart same e = let never : false ≡ true = sym apart ∙ (ap (λ (x : List ℕ). text_eq x w) e ∙ same) in cc

-- ---- a `$and` whose bit 1 needs its bit 0

abbrev the_and : RtlCell
the_and = binary And (codes "$2") 0 0 2 2 2 (slice y 0 ∷ slice a 0 ∷ []) (whole b 2) (whole y 2)

abbrev tangle : RtlModule
tangle = of_cell the_and

-- taken whole, bit 0 needs itself
and_whole : OnLoop (FeedsWhole tangle) (bit y 0)
and_whole =
    let takes : TakesWhole the_and (bit y 0) = record { comb = refl; name = codes "\\A"; other = differ (codes "\\A") (codes "\\Y") refl refl; stands = (1, omega arith, refl) } in
    ([], takes)

-- bit by bit, it feeds bit 1
and_feeds : Feeds tangle (bit y 0) (bit y 1)
and_feeds =
    let takes : TakesBit the_and 1 (bit y 0) = record { comb = refl; name = codes "\\A"; reads = differ (codes "\\A") (codes "\\Y") refl refl; stands = refl } in
    takes

stands_among : (exactly : Bool) (bits : List Source) (k : ℕ) (x : Bit) → StandsAt exactly bits k x → Among bits (net x)
stands_among true bits k x h = Among-slice_get bits k (net x) h
stands_among false bits k x h = Among-contains bits (net x) h

-- what feeds bit 0 is a bit of an input
and_fed : (x : Bit) → Feeds tangle x (bit y 0) → (a ≡ x.wire) ⊎ (b ≡ x.wire)
and_fed x h = by_bit h
  where
    named : (name : List ℕ) → name ≢ codes "\\Y" → Among (codes "\\A" ∷ codes "\\B" ∷ codes "\\Y" ∷ []) name → StandsAt (true && not (is_shared name)) (end_bits the_and name) 0 x → (a ≡ x.wire) ⊎ (b ≡ x.wire)
    named name other (inl e) s = inl (first (subst (λ (n : List ℕ). StandsAt (true && not (is_shared n)) (end_bits the_and n) 0 x) (sym e) s))
      where
        first : Some (Net a 0) ≡ Some (net x) → a ≡ x.wire
        first f = cc
    named name other (inr (inl e)) s = inr (first (subst (λ (n : List ℕ). StandsAt (true && not (is_shared n)) (end_bits the_and n) 0 x) (sym e) s))
      where
        first : Some (Net b 0) ≡ Some (net x) → b ≡ x.wire
        first f = cc
    named name other (inr (inr (inl e))) s = absurd (other (sym e))
    named name other (inr (inr (inr none))) s = absurd none

    by_bit : TakesBit the_and 0 x → (a ≡ x.wire) ⊎ (b ≡ x.wire)
    by_bit takes =
        named takes.name takes.reads (end_named the_and takes.name (net x) (stands_among (true && not (is_shared takes.name)) (end_bits the_and takes.name) 0 x takes.stands)) takes.stands

-- and what is a bit of an input nothing feeds
input_fed : (x z : Bit) → (a ≡ x.wire) ⊎ (b ≡ x.wire) → Feeds tangle z x → ⊥
input_fed x z (inl e) h = subst (λ (w : List ℕ). Feeds tangle z (bit w x.place)) (sym e) h
input_fed x z (inr e) h = subst (λ (w : List ℕ). Feeds tangle z (bit w x.place)) (sym e) h

-- so it is no loop of bits, and the module is not one whose loops are
and_bits : OnLoop (Feeds tangle) (bit y 0) → ⊥
and_bits h =
    let last = way_last (Feeds tangle) (bit y 0) h.0 (bit y 0) h.1 in
    elim last.2 [
      | inl same ↦ input_fed last.0 last.0 (and_fed last.0 last.1) (subst (λ (z : Bit). Feeds tangle last.0 z) (sym same) last.1)
      | inr more ↦ input_fed last.0 (way_last (Feeds tangle) (bit y 0) more.0 last.0 more.1).0 (and_fed last.0 last.1) (way_last (Feeds tangle) (bit y 0) more.0 last.0 more.1).1
    ]

and_tangled : LoopsAreOfBits tangle → ⊥
and_tangled h = and_bits (h (bit y 0) and_whole)

-- it is cut into a cell for each bit
and_cut : (split_of 5 (true ∷ []) tangle).cells
    ≡ binary And (numbered_id 5) 0 0 1 1 1 (slice a 0 ∷ []) (slice b 0 ∷ []) (slice y 0 ∷ []) ∷ binary And (numbered_id 6) 0 0 1 1 1 (slice y 0 ∷ []) (slice b 1 ∷ []) (slice y 1 ∷ []) ∷ []
and_cut = refl

-- ---- the rules hold of that module, so the clause of `split_tangled` speaks of it

abbrev wire_a : RtlWire
wire_a = wire a 2 (Input 1)

abbrev wire_b : RtlWire
wire_b = wire b 2 (Input 2)

abbrev wire_y : RtlWire
wire_y = wire y 2 Inner

slice_fits : (w : RtlWire) (low width : ℕ) → Contains tangle.wires w → 1 ≤ width → low + width ≤ w.width → PartFits tangle.wires (parts.Wire w.id low width)
slice_fits w low width among some within = record { wire = w; among = among; named = refl; some = some; within = within }

whole_fits : (w : RtlWire) → Contains tangle.wires w → w.width ≡ 2 → SpecFits tangle.wires (whole w.id 2)
whole_fits w among e = All-from_recursion (PartFits tangle.wires) (whole w.id 2) (slice_fits w 0 2 among (omega arith) (omega (arith, e)), tt)

and_fits : CellFits tangle the_and
and_fits = record {
  parameters = refl;
  values = All-from_recursion (λ (p : RtlParameter). ValueFits p.value) the_and.parameters (tt, (tt, (tt, (tt, (tt, tt)))));
  ends = refl;
  specs = All-from_recursion (λ (e : RtlEnd). SpecFits tangle.wires e.spec) the_and.ends (
    All-from_recursion (PartFits tangle.wires) (slice y 0 ∷ slice a 0 ∷ []) (slice_fits wire_y 0 1 (2, omega arith, refl) (omega arith) (omega arith), (slice_fits wire_a 0 1 (0, omega arith, refl) (omega arith) (omega arith), tt)),
    (whole_fits wire_b (1, omega arith, refl) refl, (whole_fits wire_y (2, omega arith, refl) refl, tt)),
  );
  rules = record {
    widths = record { a = refl; b = refl; y = refl; sign_a = omega arith; sign_b = omega arith };
    equal_b = refl;
    equal_y = refl;
    same_sign = refl;
  };
}

wire_fits : {id : List ℕ} {port : WirePort} → WireFits (wire id 2 port)
wire_fits = record { wide = omega arith; init = tt }

tangle_ids : All IsId (module_ids tangle)
unfolding numeral
tangle_ids = All-from_recursion IsId (module_ids tangle) (public 97 refl, (public 98 refl, (inr (1, refl), (inr (2, refl), tt))))

IsModule-tangle : IsModule tangle
IsModule-tangle = record {
  distinct = AreDistinct-are_distinct (module_ids tangle) refl;
  ids = tangle_ids;
  wires = All-from_recursion WireFits tangle.wires (wire_fits, (wire_fits, (wire_fits, tt)));
  memories = All-nil (MemoryFits tangle);
  cells = All-from_recursion (CellFits tangle) tangle.cells (and_fits, tt);
  links = All-nil (LinkFits tangle);
  ports = refl;
  drivers = record { moves = []; below = tt; is = refl };
}

-- ---- loops of bits stay

-- a `$mux` whose S is a bit of its output
abbrev the_mux : RtlCell
the_mux = mux (codes "$2") 2 (whole a 2) (whole b 2) (slice y 0 ∷ []) (whole y 2)

mux_bits : OnLoop (Feeds (of_cell the_mux)) (bit y 0)
mux_bits =
    let takes : TakesBit the_mux 0 (bit y 0) = record { comb = refl; name = codes "\\S"; reads = differ (codes "\\S") (codes "\\Y") refl refl; stands = (0, omega arith, refl) } in
    ([], takes)

-- a `$add` of its own output, which is never cut
abbrev the_add : RtlCell
the_add = binary Add (codes "$2") 0 0 2 2 2 (whole y 2) (whole b 2) (whole y 2)

add_bits : OnLoop (Feeds (of_cell the_add)) (bit y 0)
add_bits =
    let takes : TakesBit the_add 0 (bit y 0) = record { comb = refl; name = codes "\\A"; reads = differ (codes "\\A") (codes "\\Y") refl refl; stands = (0, omega arith, refl) } in
    ([], takes)

add_stays : split_of 5 (true ∷ []) (of_cell the_add) ≡ of_cell the_add
add_stays = refl
