-- Where the driver of a bit stands, and the end of a cell at which a bit stands.
use Rattle.std.proofs.Common.{◌≡◌, ◌∙◌, inl, inr, ◌+◌, ◌==◌, ℕ, suc, Bool, true, false, cond, List, [], ◌∷◌, map, refl, sym, ap, arith, subst}
use Rattle.std.specs.Prelude.{Some, option_map, slice_get, unwrap_or}
use Rattle.std.specs.List.{find, flat_map}
use Rattle.std.proofs.lemmas.Bool.{and_parts, eqb-true}
use Rattle.lists.specs.Texts.{text_eq}
use Rattle.lists.proofs.TextLaws.{text_eq_true}
use Rattle.rtlil_text.specs.declared.cell.RtlEnd.{RtlEnd}
use Rattle.rtlil_text.specs.declared.cell.RtlCell.{RtlCell}
use Rattle.rtlil_text.specs.declared.module.RtlLink.{RtlLink}
use Rattle.rtlil_text.specs.declared.module.RtlModule.{RtlModule}
use Rattle.rtlil_text.specs.Sources.{Source, Constant, Net, spec_bits, end_bits, is_input}
use Rattle.rtlil_text.specs.Drivers.{Driver, ByInput, ByLink, ByCell, ByNone, output_bits, numbered, drivers, is_bit, driver_in, driver}
use Rattle.rtlil_text.proofs.Among.{Among, Among-append, Among-map}

abbrev Entry : Type 0
Entry = Source × Driver

-- ---- entries of the list of drivers

numbered-at : (by : ℕ → Driver) (k : ℕ) (ss : List Source) (s : Source) (d : Driver) → Among (numbered by k ss) (s, d) → (j : ℕ) × (p : ℕ) × (p ≡ k + j) × (d ≡ by p) × (slice_get ss j ≡ Some s)
numbered-at by k [] s d h = absurd h
numbered-at by k (t ∷ ss) s d (inl e) =
    let same : t ≡ s = ap (λ (x : Entry). x.0) e in
    (0, k, omega arith, sym (ap (λ (x : Entry). x.1) e), ap Some same)
numbered-at by k (t ∷ ss) s d (inr later) =
    let r = numbered-at by (suc k) ss s d later in
    (suc r.0, r.1, omega (arith, r.2), r.3, r.4)

abbrev entries : {A : Type 0} → (A → ℕ → Driver) → (A → List Source) → A → List Entry
entries by bits a = numbered (by a) 0 (bits a)

-- an entry is of a bit of one of these
entry_of : {A : Type 0} (by : A → ℕ → Driver) (bits : A → List Source) (xs : List A) (s : Source) (d : Driver) → Among (flat_map (entries by bits) xs) (s, d)
    → (a : A) × (j : ℕ) × Among xs a × (d ≡ by a j) × (slice_get (bits a) j ≡ Some s)
entry_of by bits [] s d h = absurd h
entry_of by bits (x ∷ xs) s d h =
    elim (Among-append (entries by bits x) (flat_map (entries by bits) xs) (s, d) h) [
      | inl own ↦ (let r = numbered-at (by x) 0 (bits x) s d own in let same : r.1 ≡ r.0 = omega (arith, r.2) in (x, r.0, inl refl, r.3 ∙ ap (by x) same, r.4))
      | inr later ↦ (let r = entry_of by bits xs s d later in (r.0, r.1, inr r.2, r.3, r.4))
    ]

is_bit-net : (wire : List ℕ) (i : ℕ) (s : Source) → is_bit wire i s ≡ true → s ≡ Net wire i
is_bit-net wire i (Constant b) e = cc
is_bit-net wire i (Net id k) e =
    let both = and_parts (text_eq id wire) (k == i) e in
    ap (λ (w : List ℕ). Net w k) (text_eq_true id wire both.0) ∙ ap (Net wire) (eqb-true k i both.1)

driver_in-among : (wire : List ℕ) (i : ℕ) (ds : List Entry) (d : Driver) → driver_in wire i ds ≡ d → (d ≡ ByNone → ⊥) → Among ds (Net wire i, d)
driver_in-among wire i [] d e some = absurd (some (sym e))
driver_in-among wire i ((s, x) ∷ ds) d e some = here (is_bit wire i s) refl e (λ f. driver_in-among wire i ds d f some)
  where
    here : (b : Bool) → is_bit wire i s ≡ b → cond b x (driver_in wire i ds) ≡ d → (driver_in wire i ds ≡ d → Among ds (Net wire i, d)) → Among ((s, x) ∷ ds) (Net wire i, d)
    here true t f more = inl (ap (λ (y : Source). let z : Entry = (y, x) in z) (is_bit-net wire i s t) ∙ ap (λ (y : Driver). let z : Entry = (Net wire i, y) in z) f)
    here false t f more = inr (more f)

driver-among : (m : RtlModule) (wire : List ℕ) (i : ℕ) (d : Driver) → driver m wire i ≡ d → (d ≡ ByNone → ⊥) → (d ≡ ByInput → ⊥) → Among (drivers m) (Net wire i, d)
driver-among m wire i d e some own = here (is_input m wire) e
  where
    here : (b : Bool) → cond b ByInput (driver_in wire i (drivers m)) ≡ d → Among (drivers m) (Net wire i, d)
    here true f = absurd (own (sym f))
    here false f = driver_in-among wire i (drivers m) d f some

-- ---- the cell or the link that drives a bit

abbrev link_left : RtlLink → List Source
link_left l = spec_bits l.left

pub driven_by_cell : (m : RtlModule) (wire : List ℕ) (i : ℕ) (c : RtlCell) (k : ℕ) → driver m wire i ≡ ByCell c k → Among m.cells c × (slice_get (output_bits c) k ≡ Some (Net wire i))
driven_by_cell m wire i c k e =
    elim (Among-append (flat_map (entries ByCell output_bits) m.cells) (flat_map (entries ByLink link_left) m.links) (Net wire i, ByCell c k) (driver-among m wire i (ByCell c k) e (λ f. cc) (λ f. cc))) [
      | inl own ↦ (let r = entry_of ByCell output_bits m.cells (Net wire i) (ByCell c k) own in
          let cell : r.0 ≡ c = cell_same r.0 c r.1 k (sym r.3) in
          let place : r.1 ≡ k = place_same r.0 c r.1 k (sym r.3) in
          (subst (Among m.cells) cell r.2, subst (λ (j : ℕ). slice_get (output_bits c) j ≡ Some (Net wire i)) place (subst (λ (x : RtlCell). slice_get (output_bits x) r.1 ≡ Some (Net wire i)) cell r.4)))
      | inr other ↦ (let r = entry_of ByLink link_left m.links (Net wire i) (ByCell c k) other in no_link c k r.0 r.1 (r.3))
    ]
  where
    cell_same : (c d : RtlCell) (j k : ℕ) → ByCell c j ≡ ByCell d k → c ≡ d
    cell_same c d j k e = cc

    place_same : (c d : RtlCell) (j k : ℕ) → ByCell c j ≡ ByCell d k → j ≡ k
    place_same c d j k e = cc

    no_link : {A : Type 0} (c : RtlCell) (k : ℕ) (l : RtlLink) (j : ℕ) → ByCell c k ≡ ByLink l j → A
    no_link c k l j e = cc

pub driven_by_link : (m : RtlModule) (wire : List ℕ) (i : ℕ) (l : RtlLink) (k : ℕ) → driver m wire i ≡ ByLink l k → Among m.links l × (slice_get (spec_bits l.left) k ≡ Some (Net wire i))
driven_by_link m wire i l k e =
    elim (Among-append (flat_map (entries ByCell output_bits) m.cells) (flat_map (entries ByLink link_left) m.links) (Net wire i, ByLink l k) (driver-among m wire i (ByLink l k) e (λ f. cc) (λ f. cc))) [
      | inl other ↦ (let r = entry_of ByCell output_bits m.cells (Net wire i) (ByLink l k) other in no_cell l k r.0 r.1 (r.3))
      | inr own ↦ (let r = entry_of ByLink link_left m.links (Net wire i) (ByLink l k) own in
          let link : r.0 ≡ l = link_same r.0 l r.1 k (sym r.3) in
          let place : r.1 ≡ k = place_same r.0 l r.1 k (sym r.3) in
          (subst (Among m.links) link r.2, subst (λ (j : ℕ). slice_get (spec_bits l.left) j ≡ Some (Net wire i)) place (subst (λ (x : RtlLink). slice_get (spec_bits x.left) r.1 ≡ Some (Net wire i)) link r.4)))
    ]
  where
    link_same : (l x : RtlLink) (j k : ℕ) → ByLink l j ≡ ByLink x k → l ≡ x
    link_same l x j k e = cc

    place_same : (l x : RtlLink) (j k : ℕ) → ByLink l j ≡ ByLink x k → j ≡ k
    place_same l x j k e = cc

    no_cell : {A : Type 0} (l : RtlLink) (k : ℕ) (c : RtlCell) (j : ℕ) → ByLink l k ≡ ByCell c j → A
    no_cell l k c j e = cc

-- ---- the end at which a bit stands

abbrev bits_under : List ℕ → List RtlEnd → List Source
bits_under name ends = spec_bits (unwrap_or (option_map (λ (e : RtlEnd). e.spec) (find (λ (e : RtlEnd). text_eq e.name name) ends)) [])

end_under : (name : List ℕ) (ends : List RtlEnd) (s : Source) → Among (bits_under name ends) s → (e : RtlEnd) × Among ends e × (e.name ≡ name) × Among (spec_bits e.spec) s
end_under name [] s h = absurd h
end_under name (x ∷ ends) s h = here (text_eq x.name name) refl h (end_under name ends s)
  where
    here : (b : Bool) → text_eq x.name name ≡ b → Among (spec_bits (unwrap_or (option_map (λ (e : RtlEnd). e.spec) (cond b (Some x) (find (λ (e : RtlEnd). text_eq e.name name) ends))) [])) s
        → (Among (bits_under name ends) s → (e : RtlEnd) × Among ends e × (e.name ≡ name) × Among (spec_bits e.spec) s) → (e : RtlEnd) × Among (x ∷ ends) e × (e.name ≡ name) × Among (spec_bits e.spec) s
    here true t k more = (x, inl refl, text_eq_true x.name name t, k)
    here false t k more = let r = more k in (r.0, inr r.1, r.2, r.3)

pub end_among : (c : RtlCell) (name : List ℕ) (s : Source) → Among (end_bits c name) s → (e : RtlEnd) × Among c.ends e × (e.name ≡ name) × Among (spec_bits e.spec) s
end_among c name s h = end_under name c.ends s h

-- only ends that the cell has have bits
pub end_named : (c : RtlCell) (name : List ℕ) (s : Source) → Among (end_bits c name) s → Among (map (λ (e : RtlEnd). e.name) c.ends) name
end_named c name s h =
    let r = end_among c name s h in
    subst (Among (map (λ (e : RtlEnd). e.name) c.ends)) r.2 (Among-map (λ (e : RtlEnd). e.name) c.ends r.0 r.1)
