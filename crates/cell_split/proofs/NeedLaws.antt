-- Edges of a graph stay while more are added.
use Rattle.std.proofs.Common.{◌≡◌, ◌∙◌, ◌<◌, ◌≤◌, ◌+◌, ℕ, zero, suc, Bool, true, false, List, [], ◌∷◌, map, length, get_or, take, slice_index_or, inl, inr, ap, arith, subst, All}
use Rattle.std.specs.Prelude.{Option, Some, option_map, slice_get}
use Rattle.std.proofs.lemmas.Bool.{cases_lt}
use Rattle.std.proofs.lemmas.Option.{slice_get-map}
use Rattle.std.proofs.lemmas.List.Elements.{All-weaker, All-more}
use Rattle.rtlil_text.specs.declared.cell.RtlEnd.{RtlEnd}
use Rattle.rtlil_text.specs.declared.cell.RtlCell.{RtlCell}
use Rattle.rtlil_text.specs.declared.module.RtlLink.{RtlLink}
use Rattle.rtlil_text.specs.Sources.{Source, spec_bits}
use Rattle.rtlil_text.specs.CellTables.{output_of}
use Rattle.lists.specs.Texts.{text_eq}
use Rattle.digraph.specs.Graphs.{Digraph}
use Rattle.cell_split.proofs.Places.{All-unmap}
use Rattle.cell_split.specs.Needs.{Grows, Ties, LeadsAt, LeadAlong, HasEnd, HasCell, HasCells, HasLink, HasLinks}

pub grows_then : (g h k : Digraph) → Grows g h → Grows h k → Grows g k
grows_then g h k p q = record { size = q.size ∙ p.size; leads = λ a b l. q.leads a b (p.leads a b l) }

pub ties_grown : (g h : Digraph) (cell : ℕ) (out : Bool) (bit : ℕ) → Grows g h → Ties g cell out bit → Ties h cell out bit
ties_grown g h cell true bit more t = more.leads cell bit t
ties_grown g h cell false bit more t = more.leads bit cell t

pub all_ties_grown : (g h : Digraph) (cell : ℕ) (out : Bool) (bits : List ℕ) → Grows g h → All (Ties g cell out) bits → All (Ties h cell out) bits
all_ties_grown g h cell out bits more t = All-weaker (Ties g cell out) (Ties h cell out) (λ bit. ties_grown g h cell out bit more) bits t

pub end_grown : (g h : Digraph) (node : Source → ℕ) (cell : ℕ) (output : List ℕ) (e : RtlEnd) → Grows g h → HasEnd g node cell output e → HasEnd h node cell output e
end_grown g h node cell output e more t = λ k d lt. ties_grown g h cell (text_eq e.name output) (node (slice_index_or (spec_bits e.spec) k d)) more (t k d lt)

pub ends_grown : (g h : Digraph) (node : Source → ℕ) (cell : ℕ) (output : List ℕ) (ends : List RtlEnd) → Grows g h → All (HasEnd g node cell output) ends → All (HasEnd h node cell output) ends
ends_grown g h node cell output ends more t = All-weaker (HasEnd g node cell output) (HasEnd h node cell output) (λ e. end_grown g h node cell output e more) ends t

pub cell_grown : (g h : Digraph) (node : Source → ℕ) (place : ℕ) (c : RtlCell) → Grows g h → HasCell g node place c → HasCell h node place c
cell_grown g h node place c more t comb = ends_grown g h node place (output_of c.kind) c.ends more (t comb)

pub cells_grown : (g h : Digraph) (node : Source → ℕ) (cells : List RtlCell) → Grows g h → HasCells g node cells → HasCells h node cells
cells_grown g h node cells more t p c at = cell_grown g h node p c more (t p c at)

pub link_grown : (g h : Digraph) (node : Source → ℕ) (l : RtlLink) → Grows g h → HasLink g node l → HasLink h node l
link_grown g h node l more t k a b right left = more.leads (node a) (node b) (t k a b right left)

-- ---- what is added at a place

same_some : {A : Type 0} (x y : A) (o : Option A) → o ≡ Some x → o ≡ Some y → x ≡ y
same_some x y o p q = cc

pub within_some : {A : Type 0} (xs : List A) (k : ℕ) (x : A) → slice_get xs k ≡ Some x → k < length xs
within_some [] k x e = cc
within_some (y ∷ xs) zero x e = omega arith
within_some (y ∷ xs) (suc k) x e = let h = within_some xs k x e in omega (arith, h)

-- where it holds below a place and at it, it holds below the next
below_next : (P : ℕ → Type 0) (i : ℕ) → ((p : ℕ) → p < i → P p) → P i → (p : ℕ) → p < i + 1 → P p
below_next P i below here p lt = elim (cases_lt p i) [ inl less ↦ below p less | inr not ↦ (let same : i ≡ p = omega (arith, not, lt) in subst P same here) ]

pub ties_next : (g h : Digraph) (cell : ℕ) (out : Bool) (bits : List ℕ) (i : ℕ) → Grows g h → i < length bits → All (Ties g cell out) (take i bits) → Ties h cell out (get_or bits i 0) → All (Ties h cell out) (take (i + 1) bits)
ties_next g h cell out bits i more lt below here = All-more (Ties h cell out) bits i 0 lt (all_ties_grown g h cell out (take i bits) more below) here

pub along_next : (g h : Digraph) (froms uptos : List ℕ) (i : ℕ) → Grows g h → ((k : ℕ) → k < i → LeadsAt g froms uptos k) → LeadsAt h froms uptos i → (k : ℕ) → k < i + 1 → LeadsAt h froms uptos k
along_next g h froms uptos i more below here = below_next (LeadsAt h froms uptos) i (λ k lt a b p q. more.leads a b (below k lt a b p q)) here

pub along_all : (g : Digraph) (froms uptos : List ℕ) (i : ℕ) → length froms ≤ i → ((k : ℕ) → k < i → LeadsAt g froms uptos k) → LeadAlong g froms uptos
along_all g froms uptos i past below k a b p q = let lt = within_some froms k a p in below k (omega (arith, lt, past)) a b p q

pub cells_next : (g h : Digraph) (node : Source → ℕ) (cells : List RtlCell) (i : ℕ) (c : RtlCell) → Grows g h → ((p : ℕ) (x : RtlCell) → p < i → slice_get cells p ≡ Some x → HasCell g node p x) → slice_get cells i ≡ Some c → HasCell h node i c
    → (p : ℕ) (x : RtlCell) → p < i + 1 → slice_get cells p ≡ Some x → HasCell h node p x
cells_next g h node cells i c more below at here p x lt =
    below_next (λ (q : ℕ). (y : RtlCell) → slice_get cells q ≡ Some y → HasCell h node q y) i (λ q less y e. cell_grown g h node q y more (below q y less e))
    (λ y e. let same : c ≡ y = same_some c y (slice_get cells i) at e in subst (HasCell h node i) same here) p lt x

pub cells_all : (g : Digraph) (node : Source → ℕ) (cells : List RtlCell) (i : ℕ) → length cells ≤ i → ((p : ℕ) (x : RtlCell) → p < i → slice_get cells p ≡ Some x → HasCell g node p x) → HasCells g node cells
cells_all g node cells i past below p c at = let lt = within_some cells p c at in below p c (omega (arith, lt, past)) at

pub links_next : (g h : Digraph) (node : Source → ℕ) (links : List RtlLink) (i : ℕ) (l : RtlLink) → Grows g h → ((p : ℕ) (x : RtlLink) → p < i → slice_get links p ≡ Some x → HasLink g node x) → slice_get links i ≡ Some l → HasLink h node l
    → (p : ℕ) (x : RtlLink) → p < i + 1 → slice_get links p ≡ Some x → HasLink h node x
links_next g h node links i l more below at here p x lt =
    below_next (λ (q : ℕ). (y : RtlLink) → slice_get links q ≡ Some y → HasLink h node y) i (λ q less y e. link_grown g h node y more (below q y less e))
    (λ y e. let same : l ≡ y = same_some l y (slice_get links i) at e in subst (HasLink h node) same here) p lt x

pub links_all : (g : Digraph) (node : Source → ℕ) (links : List RtlLink) (i : ℕ) → length links ≤ i → ((p : ℕ) (x : RtlLink) → p < i → slice_get links p ≡ Some x → HasLink g node x) → HasLinks g node links
links_all g node links i past below p l at = let lt = within_some links p l at in below p l (omega (arith, lt, past)) at

-- ---- ends and links, by the nodes of their bits

pub end_tied : (g : Digraph) (node : Source → ℕ) (cell : ℕ) (output : List ℕ) (e : RtlEnd) (out : Bool) (bits ns : List ℕ) → out ≡ text_eq e.name output → bits ≡ ns → ns ≡ map node (spec_bits e.spec) → All (Ties g cell out) bits → HasEnd g node cell output e
end_tied g node cell output e out bits ns named same are tied =
    All-unmap (Ties g cell (text_eq e.name output)) node (spec_bits e.spec) (subst (λ (b : Bool). All (Ties g cell b) (map node (spec_bits e.spec))) named (subst (All (Ties g cell out)) (same ∙ are) tied))

mapped_at : (node : Source → ℕ) (ns : List ℕ) (bits : List Source) (k : ℕ) (s : Source) → ns ≡ map node bits → slice_get bits k ≡ Some s → slice_get ns k ≡ Some (node s)
mapped_at node ns bits k s are at = ap (λ (xs : List ℕ). slice_get xs k) are ∙ slice_get-map node bits k ∙ ap (option_map node) at

pub link_led : (g : Digraph) (node : Source → ℕ) (l : RtlLink) (rights lefts : List ℕ) → rights ≡ map node (spec_bits l.right) → lefts ≡ map node (spec_bits l.left) → LeadAlong g rights lefts → HasLink g node l
link_led g node l rights lefts r e leads k a b right left =
    leads k (node a) (node b) (mapped_at node rights (spec_bits l.right) k a r right) (mapped_at node lefts (spec_bits l.left) k b e left)
