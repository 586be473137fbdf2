-- A cell on a loop through cells taken whole lies on a loop of the graph, and so it is marked.
use Rattle.std.proofs.Common.{◌≡◌, ◌≢◌, ◌∙◌, inl, inr, ◌<◌, ℕ, suc, Bool, true, false, List, [], ◌∷◌, ◌++◌, length, take, refl, ap, arith, subst, All}
use Rattle.std.specs.Prelude.{Some, slice_get, Contains, min}
use Rattle.std.proofs.Math.Nat.{min-eq_left}
use Rattle.std.proofs.lemmas.List.{get_or-take, length-take}
use Rattle.std.proofs.lemmas.List.Elements.{All-contains}
use Rattle.lists.specs.Texts.{text_eq}
use Rattle.lists.proofs.TextLaws.{text_eq_true, text_eq_same}
use Rattle.rtlil_text.specs.declared.cell.RtlCell.{RtlCell}
use Rattle.rtlil_text.specs.declared.module.RtlModule.{RtlModule}
use Rattle.rtlil_text.specs.Sources.{Source, spec_bits, end_bits}
use Rattle.rtlil_text.specs.CellTables.{output_of}
use Rattle.rtlil_text.specs.Drivers.{Driver, ByInput, ByLink, ByCell, ByNone, output_bits, driver}
use Rattle.rtlil_text.proofs.Among.{Among, Among-contains, Contains-among, Among-slice_get}
use Rattle.digraph.specs.Graphs.{Digraph, Leads, Path, Reaches}
use Rattle.digraph.specs.Cuts.{IsLeft}
use Rattle.cell_split.specs.Loops.{Bit, net, is_comb, TakesWhole, DriverTakes, FeedsWhole, Way}
use Rattle.cell_split.specs.Needs.{Ties, HasEnd, HasNeeds, is_marked, IsTangled, MarksTangled}
use Rattle.cell_split.proofs.NeedLaws.{within_some}
use Rattle.cell_split.proofs.DriverLaws.{driven_by_cell, driven_by_link, end_among}
use Rattle.cell_split.proofs.Ways.{way_last}

-- ---- places

pub Among-place : {A : Type 0} (xs : List A) (a : A) → Among xs a → (p : ℕ) × (slice_get xs p ≡ Some a)
Among-place [] a h = absurd h
Among-place (x ∷ xs) a (inl e) = (0, ap Some e)
Among-place (x ∷ xs) a (inr later) = let r = Among-place xs a later in (suc r.0, r.1)

pub text_differ : (xs ys : List ℕ) → xs ≢ ys → text_eq xs ys ≡ false
text_differ xs ys other = here (text_eq xs ys) refl
  where
    here : (b : Bool) → text_eq xs ys ≡ b → text_eq xs ys ≡ false
    here true e = absurd (other (text_eq_true xs ys e))
    here false e = e

-- ---- paths

path_then : (g : Digraph) (a b c : ℕ) (xs ys : List ℕ) → Path g a xs b → Path g b ys c → Path g a (xs ++ b ∷ ys) c
path_then g a b c [] ys p q = (p, q)
path_then g a b c (x ∷ xs) ys p q = (p.0, path_then g x b c xs ys p.1 q)

reaches_then : (g : Digraph) (a b c : ℕ) → Reaches g a b → Reaches g b c → Reaches g a c
reaches_then g a b c p q = (p.0 ++ b ∷ q.0, path_then g a b c p.0 q.0 p.1 q.1)

module _ (m : RtlModule) (g : Digraph) (needs : HasNeeds m g) where
  abbrev node_at : Bit → ℕ
  node_at b = needs.node (net b)

  -- the edge between the node of a cell and that of a bit at an end
  tied : (p : ℕ) (c : RtlCell) → slice_get m.cells p ≡ Some c → is_comb c ≡ true → (name : List ℕ) (s : Source) → Contains (end_bits c name) s → Ties g p (text_eq name (output_of c.kind)) (needs.node s)
  tied p c at comb name s stands =
      let ends : All (HasEnd g needs.node p (output_of c.kind)) c.ends = needs.cells p c at comb in
      let r = end_among c name s (Among-contains (end_bits c name) s stands) in
      let one : HasEnd g needs.node p (output_of c.kind) r.0 = All-contains (HasEnd g needs.node p (output_of c.kind)) c.ends r.0 ends (Contains-among c.ends r.0 r.1) in
      let tie : Ties g p (text_eq r.0.name (output_of c.kind)) (needs.node s) =
      All-contains (λ (t : Source). Ties g p (text_eq r.0.name (output_of c.kind)) (needs.node t)) (spec_bits r.0.spec) s one (Contains-among (spec_bits r.0.spec) s r.3) in
      subst (λ (n : List ℕ). Ties g p (text_eq n (output_of c.kind)) (needs.node s)) r.2 tie

  goes_in : (p : ℕ) (c : RtlCell) (a : Bit) → slice_get m.cells p ≡ Some c → TakesWhole c a → Leads g (node_at a) p
  goes_in p c a at takes =
      subst (λ (b : Bool). Ties g p b (node_at a)) (text_differ takes.name (output_of c.kind) takes.other) (tied p c at takes.comb takes.name (net a) takes.stands)

  comes_out : (p : ℕ) (c : RtlCell) (b : Bit) (k : ℕ) → slice_get m.cells p ≡ Some c → is_comb c ≡ true → slice_get (output_bits c) k ≡ Some (net b) → Leads g p (node_at b)
  comes_out p c b k at comb out =
      subst (λ (x : Bool). Ties g p x (node_at b)) (text_eq_same (output_of c.kind)) (tied p c at comb (output_of c.kind) (net b) (Contains-among (output_bits c) (net b) (Among-slice_get (output_bits c) k (net b) out)))

  driver_reaches : (a b : Bit) (d : Driver) → driver m b.wire b.place ≡ d → DriverTakes (λ c k. TakesWhole c) a d → Reaches g (node_at a) (node_at b)
  driver_reaches a b ByInput e takes = absurd takes
  driver_reaches a b ByNone e takes = absurd takes
  driver_reaches a b (ByLink l k) e takes =
      let by = driven_by_link m b.wire b.place l k e in
      let at = Among-place m.links l by.0 in
      ([], needs.links at.0 l at.1 k (net a) (net b) takes by.1)
  driver_reaches a b (ByCell c k) e takes =
      let by = driven_by_cell m b.wire b.place c k e in
      let at = Among-place m.cells c by.0 in
      (at.0 ∷ [], (goes_in at.0 c a at.1 takes, comes_out at.0 c b k at.1 takes.comb by.1))

  way_reaches : (a : Bit) (xs : List Bit) (b : Bit) → Way (FeedsWhole m) a xs b → Reaches g (node_at a) (node_at b)
  way_reaches a [] b h = driver_reaches a b (driver m b.wire b.place) refl h
  way_reaches a (x ∷ xs) b h = reaches_then g (node_at a) (node_at x) (node_at b) (driver_reaches a x (driver m x.wire x.place) refl h.0) (way_reaches x xs b h.1)

  -- the node of a tangled cell reaches itself
  tangled_reaches : (p : ℕ) (c : RtlCell) → slice_get m.cells p ≡ Some c → IsTangled m c → Reaches g p p
  tangled_reaches p c at t =
      let b : Bit = t.bit in
      let last = way_last (FeedsWhole m) b t.loops.0 b t.loops.1 in
      let takes : TakesWhole c last.0 = subst (λ (d : Driver). DriverTakes (λ c k. TakesWhole c) last.0 d) t.drives last.1 in
      let in' : Leads g (node_at last.0) p = goes_in p c last.0 at takes in
      let out : Leads g p (node_at b) = comes_out p c b t.place at takes.comb (driven_by_cell m b.wire b.place c t.place t.drives).1 in
      elim last.2 [
        | inl same ↦ (node_at b ∷ [], (out, subst (λ (x : Bit). Leads g (node_at x) p) same in'))
        | inr more ↦ reaches_then g p (node_at b) p ([], out) (reaches_then g (node_at b) (node_at last.0) p (way_reaches b more.0 last.0 more.1) ([], in'))
      ]

  pub marks_of_left : (left marks : List Bool) → IsLeft g left → marks ≡ take (length m.cells) left → MarksTangled m marks
  marks_of_left left marks is cut = record {
    size = ap length cut ∙ length-take (length m.cells) left ∙ few;
    marked = λ p c at t.
        let lt : p < length m.cells = within_some m.cells p c at in
        ap (λ (bs : List Bool). is_marked bs p) cut ∙ get_or-take (length m.cells) left p false lt ∙ is.loops p (omega (arith, lt, needs.size)) (tangled_reaches p c at t);
  }
    where
      few : min (length m.cells) (length left) ≡ length m.cells
      few = min-eq_left (omega (arith, needs.size, is.size))
