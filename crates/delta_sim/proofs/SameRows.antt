-- Which rows are the same.
use Rattle.std.specs.Prelude.{◌≡◌, refl, ℕ, suc, ◌+◌, ◌<◌, ◌≤◌, ◌==◌, ◌||◌, ◌&&◌, Bool, true, false, not, List, [], ◌∷◌, length, slice_get, slice_set, ℤ, pos, Some, fold}
use Rattle.std.specs.List.{list_any}
use Rattle.std.specs.Ordering.{int_eq}
use Rattle.std.proofs.Common.{sym, ◌∙◌, ap, arith, ⊎_elim}
use Rattle.std.proofs.lemmas.Bool.{cases_Bool, cases_lt, cond_both, eq-eqb, eqb-true, false≢true}
use Rattle.std.proofs.lemmas.Bool.Decides.{Decides-int_eq}
use Rattle.std.proofs.lemmas.List.{length-set, get_or-set_same, get_or-set_other}
use Rattle.design_ir.specs.declared.ids.DomainId.{DomainId}
use Rattle.design_ir.specs.declared.memory.MemWrite.{MemWrite}
use Rattle.design_ir.specs.declared.memory.Memory.{Memory}
use Rattle.design_ir.specs.Circuits.{Circuit, at}
use Rattle.design_ir.specs.Pools.{Pooled}
use Rattle.design_ir.specs.Rows.{address, row_at, written}
use Rattle.design_ir.specs.Steps.{port_active, write_row}
use Rattle.design_ir.proofs.Equations.{place_below}
use Rattle.sim_plans.specs.Ports.{AreNoted, IsOther}
use Rattle.sim_plans.specs.Woken.{same_rows}
use Rattle.sim_plans.proofs.Settling.{same_lists}

and_left : (a b : Bool) → (a && b) ≡ true → a ≡ true
and_left true b e = refl
and_left false b e = e

and_right : (a b : Bool) → (a && b) ≡ true → b ≡ true
and_right true b e = e
and_right false b e = absurd (false≢true e)

pub same_rows_is : (xs ys : List ℤ) → same_rows xs ys ≡ true → xs ≡ ys
same_rows_is [] [] e = refl
same_rows_is [] (y ∷ ys) e = absurd (false≢true e)
same_rows_is (x ∷ xs) [] e = absurd (false≢true e)
same_rows_is (x ∷ xs) (y ∷ ys) e =
    let first : x ≡ y = (Decides-int_eq x y).0 (and_left (int_eq x y) (same_rows xs ys) e) in
    let rest = same_rows_is xs ys (and_right (int_eq x y) (same_rows xs ys) e) in
    ap (λ z. z ∷ xs) first ∙ ap (λ zs. y ∷ zs) rest

pub same_rows_self : (xs : List ℤ) → same_rows xs xs ≡ true
same_rows_self [] = refl
same_rows_self (x ∷ xs) = ap (λ b. b && same_rows xs xs) ((Decides-int_eq x x).1 refl) ∙ same_rows_self xs

pub no_change : (xs ys : List ℤ) → xs ≡ ys → not (same_rows xs ys) ≡ false
no_change xs ys e = ap not (sym (ap (same_rows xs) e) ∙ same_rows_self xs)

-- ---- rows that are noted

module _ (p : Pooled) (env rows : List ℤ) (ws : List MemWrite) where
  -- those of the first so many ports
  abbrev pub AreFirst : ℕ → List ℤ → Type 0
  AreFirst i noted = (j : ℕ) (w : MemWrite) → j < i → slice_get ws j ≡ Some w → at noted j ≡ row_at p env rows w.addr

  pub noted_more : (i : ℕ) (w : MemWrite) (noted : List ℤ) → slice_get ws i ≡ Some w → at noted i ≡ row_at p env rows w.addr → AreFirst i noted → AreFirst (i + 1) noted
  noted_more i w noted is e was j v lt there =
      ⊎_elim
      (λ (before : j < i). was j v before there)
      (λ (here : i ≤ j).
      let same : j ≡ i = omega (arith, lt, here) in
      let alike : w ≡ v = let f : Some w ≡ Some v = sym is ∙ ap (slice_get ws) (sym same) ∙ there in cc in
      ap (at noted) same ∙ e ∙ ap (λ (x : MemWrite). row_at p env rows x.addr) alike)
      (cases_lt j i)

  pub noted_turn : (i : ℕ) (w : MemWrite) (noted : List ℤ) (row : ℤ) → i < length noted → slice_get ws i ≡ Some w → row ≡ row_at p env rows w.addr → AreFirst i noted → AreFirst (i + 1) (slice_set noted i row)
  noted_turn i w noted row there is e was =
      noted_more i w (slice_set noted i row) is (get_or-set_same noted i row (pos 0) there ∙ e) (λ j v lt at'. get_or-set_other noted i j row (pos 0) (λ f. absurd (omega (arith, f, lt))) ∙ was j v lt at')

  pub noted_all : (i : ℕ) (noted : List ℤ) → length ws ≤ i → AreFirst i noted → AreNoted p env rows ws noted
  noted_all i noted past was j w is = was j w (let l = place_below ws j w is in omega (arith, l, past)) is

-- ---- what write ports leave

module _ (c : Circuit) (env : List ℤ) (listed : List DomainId) (m : Memory) where
  writes_length : (ws : List MemWrite) (rows : List ℤ) → length (fold (write_row c env listed m) rows ws) ≡ length rows
  writes_length [] rows = refl
  writes_length (w ∷ ws) rows =
      writes_length ws (write_row c env listed m rows w)
      ∙ cond_both (port_active c env listed (Some w.domain)) (slice_set rows (address c.pool env w.addr) (written c.pool env m (row_at c.pool env rows w.addr) w)) rows (λ xs. length xs ≡ length rows) (λ t. length-set rows (address c.pool env w.addr) _) (λ t. refl)

  -- a row that no port addresses stays
  writes_other : (ws : List MemWrite) (rows : List ℤ) (a : ℕ) → list_any (λ (w : MemWrite). address c.pool env w.addr == a) ws ≡ false → at (fold (write_row c env listed m) rows ws) a ≡ at rows a
  writes_other [] rows a e = refl
  writes_other (w ∷ ws) rows a e =
      let here = first (address c.pool env w.addr == a) (list_any (λ (x : MemWrite). address c.pool env x.addr == a) ws) e in
      writes_other ws (write_row c env listed m rows w) a here.1
      ∙ cond_both (port_active c env listed (Some w.domain)) (slice_set rows (address c.pool env w.addr) (written c.pool env m (row_at c.pool env rows w.addr) w)) rows (λ xs. at xs a ≡ at rows a)
      (λ t. get_or-set_other rows (address c.pool env w.addr) a (written c.pool env m (row_at c.pool env rows w.addr) w) (pos 0) (λ f. false≢true (sym here.0 ∙ eq-eqb (address c.pool env w.addr) a (sym f)))) (λ t. refl)
    where
      first : (x y : Bool) → (x || y) ≡ false → (x ≡ false) × (y ≡ false)
      first true y e = absurd (false≢true (sym e))
      first false y e = (refl, e)

  some_port : (ws : List MemWrite) (a : ℕ) → list_any (λ (w : MemWrite). address c.pool env w.addr == a) ws ≡ true → (i : ℕ) × (w : MemWrite) × (slice_get ws i ≡ Some w) × (address c.pool env w.addr ≡ a)
  some_port [] a h = absurd (false≢true h)
  some_port (w ∷ ws) a h =
      ⊎_elim
      (λ (t : (address c.pool env w.addr == a) ≡ true). (0, w, refl, eqb-true (address c.pool env w.addr) a t))
      (λ (t : (address c.pool env w.addr == a) ≡ false).
      let r = some_port ws a (sym (ap (λ b. b || list_any (λ (x : MemWrite). address c.pool env x.addr == a) ws) t) ∙ h) in (suc r.0, r.1, r.2, r.3))
      (cases_Bool (address c.pool env w.addr == a))

  module _ (old new noted : List ℤ) (is : new ≡ fold (write_row c env listed m) old m.writes) (notes : AreNoted c.pool env old m.writes noted) where
    -- where the rows at all addresses are the same, all rows are
    pub rows_same : AreNoted c.pool env new m.writes noted → not (same_rows old new) ≡ false
    rows_same now = no_change old new (same_lists old new (sym (ap length is ∙ writes_length m.writes old)) (λ a h.
        ⊎_elim
        (λ (t : list_any (λ (w : MemWrite). address c.pool env w.addr == a) m.writes ≡ true).
        let r = some_port m.writes a t in
        ap (at old) (sym r.3) ∙ sym (notes r.0 r.1 r.2) ∙ now r.0 r.1 r.2 ∙ ap (at new) r.3)
        (λ (t : list_any (λ (w : MemWrite). address c.pool env w.addr == a) m.writes ≡ false). sym (ap (λ xs. at xs a) is ∙ writes_other m.writes old a t))
        (cases_Bool (list_any (λ (w : MemWrite). address c.pool env w.addr == a) m.writes))))

    pub rows_other : IsOther c.pool env new m.writes noted → not (same_rows old new) ≡ true
    rows_other o = tested (same_rows old new) refl
      where
        tested : (t : Bool) → same_rows old new ≡ t → not (same_rows old new) ≡ true
        tested true e = absurd (o.other (notes o.i o.w o.stands ∙ ap (λ xs. row_at c.pool env xs o.w.addr) (same_rows_is old new e)))
        tested false e = ap not e
