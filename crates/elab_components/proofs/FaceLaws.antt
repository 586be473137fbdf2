-- Steps of the loops that make interfaces.
use Rattle.std.proofs.Common.{◌≡◌, refl, sym, ◌∙◌, ap, subst, ℕ, suc, ◌+◌, ◌<◌, ◌≤◌, nat_le, Bool, true, false, cond, List, [], ◌∷◌, ◌++◌, length, drop, Option, Some, None, arith, true≢false}
use Rattle.std.specs.Prelude.{slice_get}
use Rattle.std.proofs.lemmas.List.{append_assoc, length-append, length-drop}
use Rattle.std.proofs.lemmas.Bool.{leb-true, leb-false}
use Rattle.std.proofs.Math.ListN.{drop_of_length-le}
use Rattle.design_ir.specs.declared.ids.SigId.{SigId}
use Rattle.design_ir.specs.declared.port.Port.{Port}
use Rattle.design_ir.proofs.Growth.{length_more}
use Rattle.py_values.specs.declared.val.Val.{Val}
use Rattle.py_heap.proofs.ObjectLaws.{drop_at}
use Rattle.py_frames.specs.declared.request.NamedVal.{NamedVal}
use Rattle.elab_store.specs.declared.faces.FaceMember.{FaceMember}
use Rattle.elab_store.specs.declared.leaves.Leaf.{Leaf}
use Rattle.elab_store.specs.declared.members.NamedMember.{NamedMember}
use Rattle.elab_store.specs.Stores.{Held}
use Rattle.elab_components.specs.Signals.{signal_passes}
use Rattle.elab_store.specs.declared.faces.Face.{Face}
use Rattle.elab_store.specs.Components.{Components, with_signature}
use Rattle.elab_store.specs.Leaves.{Signatures, leaves, leaf_count, cut}
use Rattle.elab_store.specs.Faces.{IsFace}
use Rattle.elab_store.proofs.LeafLaws.{cut_many, in_length}
use Rattle.elab_components.specs.Faces.{leaf_signal, next_end, with_leaf, leaf_made, and_made, leaves_made, port_of, leaf_ports, face_behind, face_made, part_val}
use Rattle.elab_components.specs.Interfaces.{name_bound, names_bound}

-- ---- leaves

pub made_next : (ls : List Leaf) (i : ℕ) (l : Leaf) (h g : Held) (whole : Bool × Held) → slice_get ls i ≡ Some l → (true, g) ≡ leaf_made l h → leaves_made (drop i ls) h ≡ whole → leaves_made (drop (i + 1) ls) g ≡ whole
made_next ls i l h g whole at made so_far =
    ap (and_made (leaves_made (drop (i + 1) ls))) made ∙ sym (ap (λ (xs : List Leaf). leaves_made xs h) (drop_at ls i l at)) ∙ so_far

pub made_ends : (ls : List Leaf) (i : ℕ) (l : Leaf) (h g : Held) (whole : Bool × Held) → slice_get ls i ≡ Some l → (false, g) ≡ leaf_made l h → leaves_made (drop i ls) h ≡ whole → (false, g) ≡ whole
made_ends ls i l h g whole at made so_far =
    ap (and_made (leaves_made (drop (i + 1) ls))) made ∙ sym (ap (λ (xs : List Leaf). leaves_made xs h) (drop_at ls i l at)) ∙ so_far

-- a leaf that is made is one signal more
pub signal_more : (l : Leaf) (h g : Held) → (true, g) ≡ leaf_made l h → length g.pool.signals ≡ suc (length h.pool.signals)
signal_more l h g made = by_test (signal_passes h l.shape.form.width) made
  where
    by_test : (b : Bool) → ◌≡◌ {A = Bool × Held} (true, g) (cond b (false, h) (true, with_leaf l h)) → length g.pool.signals ≡ suc (length h.pool.signals)
    by_test true e = absurd (true≢false (ap (λ (x : Bool × Held). x.0) e))
    by_test false e = ap (λ (x : Bool × Held). length x.1.pool.signals) e ∙ length_more h.pool.signals (leaf_signal l)

pub ports_next : (ls : List Leaf) (i : ℕ) (l : Leaf) (h g : Held) (s : SigId) (ports more whole : List Port) → slice_get ls i ≡ Some l → (true, g) ≡ leaf_made l h → s ≡ record { 0 = length h.pool.signals } → more ≡ ports ++ port_of s l ∷ []
    → ports ++ leaf_ports (length h.pool.signals) (drop i ls) ≡ whole → more ++ leaf_ports (length g.pool.signals) (drop (i + 1) ls) ≡ whole
ports_next ls i l h g s ports more whole at made sig pushed so_far =
    ap (λ (ps : List Port). ps ++ leaf_ports (length g.pool.signals) (drop (i + 1) ls)) (pushed ∙ ap (λ (x : SigId). ports ++ port_of x l ∷ []) sig)
    ∙ append_assoc ports (port_of (record { 0 = length h.pool.signals }) l ∷ []) (leaf_ports (length g.pool.signals) (drop (i + 1) ls))
    ∙ ap (λ n. ports ++ port_of (record { 0 = length h.pool.signals }) l ∷ leaf_ports n (drop (i + 1) ls)) (signal_more l h g made)
    ∙ sym (ap (λ (xs : List Leaf). ports ++ leaf_ports (length h.pool.signals) xs) (drop_at ls i l at))
    ∙ so_far

-- ---- the ends of an interface

record IsAfter (ls : List Leaf) (h g : Held) : Type 0 where
  sigs : g.store.components.signatures ≡ h.store.components.signatures
  ends : length g.store.components.ends ≡ length h.store.components.ends + length ls

made_one : (l : Leaf) (h : Held) (b : Bool) (g : Held) → ◌≡◌ {A = Bool × Held} (true, g) (cond b (false, h) (true, with_leaf l h)) → IsAfter (l ∷ []) h g
made_one l h true g e = absurd (true≢false (ap (λ (x : Bool × Held). x.0) e))
made_one l h false g e = record {
  sigs = ap (λ (x : Bool × Held). x.1.store.components.signatures) e;
  ends = ap (λ (x : Bool × Held). length x.1.store.components.ends) e ∙ length-append h.store.components.ends (next_end h ∷ []);
}

made_after : (ls : List Leaf) (h g : Held) → ◌≡◌ {A = Bool × Held} (true, g) (leaves_made ls h) → IsAfter ls h g
made_after [] h g e = record { sigs = ap (λ (x : Bool × Held). x.1.store.components.signatures) e; ends = ap (λ (x : Bool × Held). length x.1.store.components.ends) e ∙ plus_none (length h.store.components.ends) }
  where
    plus_none : (n : ℕ) → n ≡ n + 0
    plus_none n = omega arith
made_after (l ∷ ls) h g e = by_first (leaf_made l h) refl e (made_after ls)
  where
    by_first : (x : Bool × Held) → x ≡ leaf_made l h → ◌≡◌ {A = Bool × Held} (true, g) (and_made (leaves_made ls) x) → ((k i : Held) → ◌≡◌ {A = Bool × Held} (true, i) (leaves_made ls k) → IsAfter ls k i) → IsAfter (l ∷ ls) h g
    by_first (true, k) is e rest =
        let one = made_one l h (signal_passes h l.shape.form.width) k is in
        let more = rest k g e in
        record { sigs = more.sigs ∙ one.sigs; ends = omega (arith, more.ends, one.ends) }
    by_first (false, k) is e rest = absurd (true≢false (ap (λ (x : Bool × Held). x.0) e))

few_of : (n : ℕ) → cut n ≤ 16384 → n ≤ 16384
few_of n h = by_test (nat_le n 16384) refl
  where
    by_test : (b : Bool) → nat_le n 16384 ≡ b → n ≤ 16384
    by_test true e = leb-true n 16384 e
    by_test false e = absurd (omega (arith, h, cut_many n (leb-false n 16384 e)))

pub face_stands : (n : ℕ) (prefix : List ℕ) (h g : Held) (f : Face) → ◌≡◌ {A = Option Face × Held} (Some f, g) (face_made n prefix h) → n < length h.store.components.signatures → IsFace g.store.components.signatures g.store.components.ends f
face_stands n prefix h g f e there = by_count (nat_le (leaf_count sigs n) 16384) refl e
  where
    sigs : Signatures
    sigs = h.store.components.signatures

    by_made : (x : Bool × Held) → x ≡ leaves_made (leaves sigs false prefix n) h → leaf_count sigs n ≤ 16384 → ◌≡◌ {A = Option Face × Held} (Some f, g) (face_behind n h x) → IsFace g.store.components.signatures g.store.components.ends f
    by_made (true, k) is few e =
        let after = made_after (leaves sigs false prefix n) h k is in
        let at_g : k ≡ g = ap (λ (x : Option Face × Held). x.1) (sym e) in
        let at_f : record { signature = n; turned = false; first = length h.store.components.ends } ≡ f = some_same (ap (λ (x : Option Face × Held). x.0) (sym e)) in
        subst (λ (x : Face). IsFace g.store.components.signatures g.store.components.ends x) at_f
        (subst (λ (x : Held). IsFace x.store.components.signatures x.store.components.ends (record { signature = n; turned = false; first = length h.store.components.ends })) at_g
        (subst (λ (s : Signatures). IsFace s k.store.components.ends (record { signature = n; turned = false; first = length h.store.components.ends })) (sym after.sigs)
        (record { there = there; few = few_of (length (leaves sigs false [] n)) few; within = omega (arith, after.ends, in_length (suc n) sigs false false prefix [] n) })))
      where
        some_same : Some (record { signature = n; turned = false; first = length h.store.components.ends }) ≡ Some f → record { signature = n; turned = false; first = length h.store.components.ends } ≡ f
        some_same e = cc
    by_made (false, k) is few e = absurd (none_some (ap (λ (x : Option Face × Held). x.0) e))
      where
        none_some : Some f ≡ None → ⊥
        none_some e = cc

    by_count : (b : Bool) → nat_le (leaf_count sigs n) 16384 ≡ b → ◌≡◌ {A = Option Face × Held} (Some f, g) (cond b (face_behind n h (leaves_made (leaves sigs false prefix n) h)) (None, h)) → IsFace g.store.components.signatures g.store.components.ends f
    by_count true is e = by_made (leaves_made (leaves sigs false prefix n) h) refl (leb-true (leaf_count sigs n) 16384 is) e
    by_count false is e = absurd (none_some (ap (λ (x : Option Face × Held). x.0) e))
      where
        none_some : Some f ≡ None → ⊥
        none_some e = cc

-- ---- names

module _ (names : List NamedVal) (ms : List NamedMember) (ps : List (Option FaceMember)) (i : ℕ) (h : Held) (whole : Option (List NamedVal) × Held) where
  here : (m : NamedMember) (p : Option FaceMember) → slice_get ms i ≡ Some m → slice_get ps i ≡ Some p → names_bound names (drop i ms) (drop i ps) h ≡ names_bound names (m ∷ drop (i + 1) ms) (p ∷ drop (i + 1) ps) h
  here m p at_m at_p = ap (λ (xs : List NamedMember). names_bound names xs (drop i ps) h) (drop_at ms i m at_m) ∙ ap (λ (xs : List (Option FaceMember)). names_bound names (m ∷ drop (i + 1) ms) xs h) (drop_at ps i p at_p)

  pub name_next : (m : NamedMember) (p : Option FaceMember) (v : Val) (g : Held) (x : NamedVal) (more : List NamedVal) → slice_get ms i ≡ Some m → slice_get ps i ≡ Some p → (Some v, g) ≡ part_val p h
      → x ≡ record { name = m.name; val = v } → more ≡ names ++ x ∷ [] → names_bound names (drop i ms) (drop i ps) h ≡ whole → names_bound more (drop (i + 1) ms) (drop (i + 1) ps) g ≡ whole
  name_next m p v g x more at_m at_p is made pushed so_far =
      ap (λ (xs : List NamedVal). names_bound xs (drop (i + 1) ms) (drop (i + 1) ps) g) (pushed ∙ ap (λ (y : NamedVal). names ++ y ∷ []) made)
      ∙ ap (name_bound names m.name (λ after k. names_bound after (drop (i + 1) ms) (drop (i + 1) ps) k)) is
      ∙ sym (here m p at_m at_p) ∙ so_far

  pub name_none : (m : NamedMember) (p : Option FaceMember) (g : Held) → slice_get ms i ≡ Some m → slice_get ps i ≡ Some p → (None, g) ≡ part_val p h → names_bound names (drop i ms) (drop i ps) h ≡ whole → (None, g) ≡ whole
  name_none m p g at_m at_p is so_far =
      ap (name_bound names m.name (λ after k. names_bound after (drop (i + 1) ms) (drop (i + 1) ps) k)) is ∙ sym (here m p at_m at_p) ∙ so_far

  none_left : (xs : List NamedMember) → 0 < length xs → names_bound names xs [] h ≡ (None, h)
  none_left [] some = absurd (omega (arith, some))
  none_left (x ∷ xs) some = refl

  pub names_short : i < length ms → length ps ≤ i → names_bound names (drop i ms) (drop i ps) h ≡ whole → (None, h) ≡ whole
  names_short some short so_far =
      sym (ap (λ (xs : List (Option FaceMember)). names_bound names (drop i ms) xs h) (drop_of_length-le ps short) ∙ none_left (drop i ms) (omega (arith, some, length-drop i ms))) ∙ so_far

abbrev pub with_held : Option Face → Held → Option Face × Held
with_held o h = (o, h)

-- a signature that is kept stands behind the others
pub stands_behind : (n : ℕ) (x y : Components) (ms : List NamedMember) → n ≡ length x.signatures → y ≡ with_signature ms x → n < length y.signatures
stands_behind n x y ms e kept = omega (arith, e, ap (λ (z : Components). length z.signatures) kept, length-append x.signatures (ms ∷ []))
