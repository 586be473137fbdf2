-- What is added to a module changes no value that was there.
use Rattle.std.specs.Prelude.{◌≡◌, refl, ℕ, zero, suc, Bool, true, false, if◌then◌else◌, ◌&&◌, ◌||◌, ◌⊎◌, List, [], ◌∷◌, ◌++◌, Option}
use Rattle.std.specs.List.{flat_map, list_any}
use Rattle.std.proofs.Common.{sym, subst, ◌∙◌, ap, inl, inr, ⊎_elim, append_assoc}
use Rattle.std.proofs.lemmas.Bool.{false≢true}
use Rattle.std.proofs.lemmas.List.{append-nil}
use Rattle.std.proofs.lemmas.List.Concat.{flat_map-append}
use Rattle.lists.specs.Texts.{text_eq}
use Rattle.rtlil_text.specs.declared.cell.RtlCell.{RtlCell}
use Rattle.rtlil_text.specs.declared.module.RtlWire.{RtlWire}
use Rattle.rtlil_text.specs.declared.module.RtlLink.{RtlLink}
use Rattle.rtlil_text.specs.declared.module.RtlMemory.{RtlMemory}
use Rattle.rtlil_text.specs.declared.module.RtlModule.{RtlModule}
use Rattle.rtlil_text.specs.Sources.{Source, spec_bits, is_input_port}
use Rattle.rtlil_text.specs.Drivers.{Driver, ByInput, ByLink, ByCell, ByNone, output_bits, numbered, is_bit, driver_in, driver}
use Rattle.rtlil_text.specs.Meaning.{State, Inputs, source_value, driven_bit, bit}
use Rattle.rtlil_text.proofs.Depth.{Grows, Grows-none, Grows-driven, Grows-source}

-- the memories are the same, and each bit that had a driver has the same one
pub record Extends (m more : RtlModule) : Type 0 where
  pub memories : more.memories ≡ m.memories
  pub drivers : (wire : List ℕ) (i : ℕ) → (driver m wire i ≡ ByNone) ⊎ (driver more wire i ≡ driver m wire i)

-- a bit's value from its driver needs nothing of the module but its memories
same_driven : (m more : RtlModule) (st : State) (inputs : Inputs) (f : Source → Option Bool) (wire : List ℕ) (i : ℕ) (d : Driver) → more.memories ≡ m.memories → driven_bit m st inputs f wire i d ≡ driven_bit more st inputs f wire i d
same_driven m more st inputs f wire i d e = ap (λ (ms : List RtlMemory). driven_bit (record m { memories = ms }) st inputs f wire i d) (sym e)

module _ (m more : RtlModule) (st : State) (inputs : Inputs) (n : ℕ) (wire : List ℕ) (i : ℕ) where
  no_driver : driver m wire i ≡ ByNone → Grows (bit m st inputs (suc n) wire i) (bit more st inputs (suc n) wire i)
  no_driver e = rw e (Grows-none _)

  one_driver : more.memories ≡ m.memories → ((s : Source) → Grows (source_value (bit m st inputs n) s) (source_value (bit more st inputs n) s)) → driver more wire i ≡ driver m wire i → Grows (bit m st inputs (suc n) wire i) (bit more st inputs (suc n) wire i)
  one_driver same grows e =
      let f = source_value (bit m st inputs n) in
      let g = source_value (bit more st inputs n) in
      let d = driver m wire i in
      rw e (subst (λ (x : Option Bool). Grows (driven_bit m st inputs f wire i d) x) (same_driven m more st inputs g wire i d same) (Grows-driven f g grows m st inputs wire i d))

pub bit-kept : (m more : RtlModule) (st : State) (inputs : Inputs) → Extends m more → (n : ℕ) (wire : List ℕ) (i : ℕ) → Grows (bit m st inputs n wire i) (bit more st inputs n wire i)
bit-kept m more st inputs h zero wire i = Grows-none _
bit-kept m more st inputs h (suc n) wire i =
    ⊎_elim (no_driver m more st inputs n wire i) (one_driver m more st inputs n wire i h.memories (Grows-source (bit m st inputs n) (bit more st inputs n) (bit-kept m more st inputs h n))) (h.drivers wire i)

-- ---- wires that are no inputs, a cell, and links, at the ends of their lists

-- none of these drives bit i of the wire
abbrev pub is_among : List ℕ → ℕ → List (Source × Driver) → Bool
is_among wire i ds = list_any (λ (p : Source × Driver). is_bit wire i p.0) ds

or-split : (a b : Bool) → (a || b) ≡ false → (a ≡ false) × (b ≡ false)
or-split true b e = absurd (false≢true (sym e))
or-split false b e = (refl, e)

driver_in-skip : (wire : List ℕ) (i : ℕ) (xs ys : List (Source × Driver)) → is_among wire i xs ≡ false → driver_in wire i (xs ++ ys) ≡ driver_in wire i ys
driver_in-skip wire i [] ys h = refl
driver_in-skip wire i ((s, d) ∷ xs) ys h = let o = or-split (is_bit wire i s) (is_among wire i xs) h in rw o.0 (driver_in-skip wire i xs ys o.1)

driver_in-between : (wire : List ℕ) (i : ℕ) (xs ys zs : List (Source × Driver)) → is_among wire i ys ≡ false → driver_in wire i (xs ++ (ys ++ zs)) ≡ driver_in wire i (xs ++ zs)
driver_in-between wire i [] ys zs h = driver_in-skip wire i ys zs h
driver_in-between wire i ((s, d) ∷ xs) ys zs h = ap (λ x. if is_bit wire i s then d else x) (driver_in-between wire i xs ys zs h)

is_input-more : (ws added : List RtlWire) (wire : List ℕ) → list_any (λ (w : RtlWire). is_input_port w.port) added ≡ false → list_any (λ (w : RtlWire). text_eq w.id wire && is_input_port w.port) (ws ++ added) ≡ list_any (λ (w : RtlWire). text_eq w.id wire && is_input_port w.port) ws
is_input-more [] [] wire h = refl
is_input-more [] (a ∷ added) wire h =
    let o = or-split (is_input_port a.port) (list_any (λ (w : RtlWire). is_input_port w.port) added) h in
    rw (o.0, and-false (text_eq a.id wire)) (is_input-more [] added wire o.1)
  where
    and-false : (b : Bool) → (b && false) ≡ false
    and-false true = refl
    and-false false = refl
is_input-more (w ∷ ws) added wire h = ap (λ b. (text_eq w.id wire && is_input_port w.port) || b) (is_input-more ws added wire h)

-- the drivers of one cell, and of some links
abbrev pub cell_drivers : RtlCell → List (Source × Driver)
cell_drivers c = numbered (ByCell c) 0 (output_bits c)

abbrev pub link_drivers : RtlLink → List (Source × Driver)
link_drivers l = numbered (ByLink l) 0 (spec_bits l.left)

choose : (wire : List ℕ) (i : ℕ) (added : List (Source × Driver)) (m more : RtlModule) → (is_among wire i added ≡ true → driver m wire i ≡ ByNone) → (is_among wire i added ≡ false → driver more wire i ≡ driver m wire i)
    → (b : Bool) → is_among wire i added ≡ b → (driver m wire i ≡ ByNone) ⊎ (driver more wire i ≡ driver m wire i)
choose wire i added m more fresh same true e = inl (fresh e)
choose wire i added m more fresh same false e = inr (same e)

-- a cell whose output had no driver
pub Extends-cell : (m : RtlModule) (added : List RtlWire) (c : RtlCell) → list_any (λ (w : RtlWire). is_input_port w.port) added ≡ false
    → ((wire : List ℕ) (i : ℕ) → is_among wire i (cell_drivers c) ≡ true → driver m wire i ≡ ByNone) → Extends m (record m { wires = m.wires ++ added; cells = m.cells ++ c ∷ [] })
Extends-cell m added c inner fresh = record { memories = refl; drivers = each }
  where
    each : (wire : List ℕ) (i : ℕ) → (driver m wire i ≡ ByNone) ⊎ (driver (record m { wires = m.wires ++ added; cells = m.cells ++ c ∷ [] }) wire i ≡ driver m wire i)
    each wire i =
        let links = flat_map link_drivers m.links in
        let split : flat_map cell_drivers (m.cells ++ c ∷ []) ++ links ≡ flat_map cell_drivers m.cells ++ (cell_drivers c ++ links) =
        ap (λ x. x ++ links) (flat_map-append cell_drivers m.cells (c ∷ []) ∙ ap (λ x. flat_map cell_drivers m.cells ++ x) (append-nil (cell_drivers c))) ∙ append_assoc (flat_map cell_drivers m.cells) (cell_drivers c) links in
        choose wire i (cell_drivers c) m (record m { wires = m.wires ++ added; cells = m.cells ++ c ∷ [] }) (fresh wire i)
        (λ e. (λ j. if is_input-more m.wires added wire inner j then ByInput else (ap (driver_in wire i) split ∙ driver_in-between wire i (flat_map cell_drivers m.cells) (cell_drivers c) links e) j))
        (is_among wire i (cell_drivers c)) refl

-- a link whose left side had no driver
pub Extends-link : (m : RtlModule) (added : List RtlWire) (l : RtlLink) → list_any (λ (w : RtlWire). is_input_port w.port) added ≡ false
    → ((wire : List ℕ) (i : ℕ) → is_among wire i (link_drivers l) ≡ true → driver m wire i ≡ ByNone) → Extends m (record m { wires = m.wires ++ added; links = m.links ++ l ∷ [] })
Extends-link m added l inner fresh = record { memories = refl; drivers = each }
  where
    each : (wire : List ℕ) (i : ℕ) → (driver m wire i ≡ ByNone) ⊎ (driver (record m { wires = m.wires ++ added; links = m.links ++ l ∷ [] }) wire i ≡ driver m wire i)
    each wire i =
        let cells = flat_map cell_drivers m.cells in
        let links = flat_map link_drivers m.links in
        let split : cells ++ flat_map link_drivers (m.links ++ l ∷ []) ≡ (cells ++ links) ++ (link_drivers l ++ []) =
        ap (λ x. cells ++ x) (flat_map-append link_drivers m.links (l ∷ [])) ∙ sym (append_assoc cells links (link_drivers l ++ [])) in
        choose wire i (link_drivers l) m (record m { wires = m.wires ++ added; links = m.links ++ l ∷ [] }) (fresh wire i)
        (λ e. (λ j. if is_input-more m.wires added wire inner j then ByInput else (ap (driver_in wire i) split ∙ driver_in-between wire i (cells ++ links) (link_drivers l) [] e ∙ ap (driver_in wire i) (append-nil (cells ++ links))) j))
        (is_among wire i (link_drivers l)) refl
