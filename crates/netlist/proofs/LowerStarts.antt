-- Bits of signals of the pool, and the first sources of bits.
use Rattle.std.proofs.Common.{◌≡◌, ◌<◌, ◌≤◌, ◌+◌, ◌*◌, ℕ, zero, suc, Bool, true, false, List, [], ◌∷◌, ◌++◌, length, take, get_or, refl, sym, ap, ◌∙◌, arith, ⊎_elim}
use Rattle.std.specs.List.{AllByRecursion}
use Rattle.std.proofs.lemmas.Bool.{cases_lt}
use Rattle.std.proofs.lemmas.List.{take_more, length-append, get_or_append_left, get_or-append-add}
use Rattle.shape_rules.specs.Forms.{IsForm}
use Rattle.design_ir.specs.declared.signal.Sig.{Sig}
use Rattle.design_ir.specs.declared.process.DesignProcess.{DesignProcess}
use Rattle.design_ir.specs.Pools.{Pooled}
use Rattle.design_ir.specs.PoolRules.{IsPool}
use Rattle.design_ir.specs.Values.{signal_form}
use Rattle.design_ir.specs.Targets.{Bit}
use Rattle.design_ir.specs.Circuits.{Circuit}
use Rattle.netlist_laws.specs.Latest.{Latest, places, latest_of}
use Rattle.netlist.specs.declared.sources.BitSource.{BitSource}
use Rattle.netlist.specs.declared.sources.BitSource.TheVariants as sources
use Rattle.netlist_laws.specs.Module.{expr_value, wire_id, is_clocked, driving, at_first}
use Rattle.netlist.specs.Tables.{source_of, Shows, at_start, IsBitOf, IsRow, latest_of_all}
use Rattle.netlist_laws.proofs.FixedTargets.{IsInside, places_inside}

-- ---- bits of signals

narrow : (w : ℕ) (b : Bool) → IsForm w b → w ≤ 128
narrow w true h = h.1
narrow w false h = h

pub form_at : (xs : List Sig) (s : ℕ) → AllByRecursion (λ (x : Sig). IsForm x.shape.width x.shape.signed) xs → (signal_form xs s).width ≤ 128
form_at [] s h = omega arith
form_at (x ∷ xs) zero h = narrow x.shape.width x.shape.signed h.0
form_at (x ∷ xs) (suc s) h = form_at xs s h.1

there_at : (xs : List Sig) (s i : ℕ) → i < (signal_form xs s).width → s < length xs
there_at [] s i h = absurd (omega arith)
there_at (x ∷ xs) zero i h = omega arith
there_at (x ∷ xs) (suc s) i h = omega (arith, there_at xs s i h)

bits_inside : (p : Pooled) → IsPool p → (bs : List Bit) → AllByRecursion (IsInside (signal_form p.signals)) bs → AllByRecursion (IsBitOf (length p.signals)) bs
bits_inside p pool [] h = tt
bits_inside p pool (b ∷ bs) h = ((there_at p.signals b.sig b.index h.0, omega (arith, h.0, form_at p.signals b.sig pool.shapes)), bits_inside p pool bs h.1)

pub places_bits : (p : Pooled) (k : ℕ) → IsPool p → AllByRecursion (IsBitOf (length p.signals)) (places p k)
places_bits p k pool = bits_inside p pool (places p k) (places_inside p k)

-- ---- one process more

all_more : (c : Circuit) (ps : List DesignProcess) (p : DesignProcess) (latest : Latest) → latest_of_all c (ps ++ p ∷ []) latest ≡ latest_of c.pool (expr_value c) p.body (latest_of_all c ps latest)
all_more c [] p latest = refl
all_more c (q ∷ ps) p latest = all_more c ps p (latest_of c.pool (expr_value c) q.body latest)

pub all_turn : (c : Circuit) (ps : List DesignProcess) (i : ℕ) (p : DesignProcess) (latest : Latest) → i < length ps → p ≡ get_or ps i p → latest_of_all c (take (i + 1) ps) latest ≡ latest_of c.pool (expr_value c) p.body (latest_of_all c (take i ps) latest)
all_turn c ps i p latest lt is =
    ap (λ qs. latest_of_all c qs latest) (take_more ps i p lt ∙ ap (λ (x : DesignProcess). take i ps ++ x ∷ []) (sym is)) ∙ all_more c (take i ps) p latest

-- ---- one row more

pub shows_row : (c : Circuit) (n : ℕ) (clocked : Bool) (bits row bits' : List BitSource) → Shows (wire_id c) n bits (at_start c) → IsRow c clocked n 128 row → clocked ≡ is_clocked (driving c n) → bits' ≡ bits ++ row → Shows (wire_id c) (n + 1) bits' (at_start c)
shows_row c n clocked bits row bits' old new kind e =
    let none : BitSource = sources.Constant false in
    let long : length bits' ≡ (n + 1) * 128 = ap length e ∙ length-append bits row ∙ (let z : length bits + length row ≡ (n + 1) * 128 = omega (arith, old.long, new.long) in z) in
    record {
      long = long;
      each = λ s i lt small. ⊎_elim
          (λ (before : s < n).
          ap (λ xs. source_of (wire_id c) (get_or xs (s * 128 + i) none)) e ∙ ap (source_of (wire_id c)) (get_or_append_left bits row none (s * 128 + i) (omega (arith, old.long, before, small))) ∙ old.each s i before small)
          (λ (le : n ≤ s).
          let here : s ≡ n = omega arith in
          let at : s * 128 + i ≡ length bits + i = omega (arith, old.long, here) in
          ap (λ xs. source_of (wire_id c) (get_or xs (s * 128 + i) none)) e ∙ ap (λ k. source_of (wire_id c) (get_or (bits ++ row) k none)) at ∙ ap (source_of (wire_id c)) (get_or-append-add bits row i none) ∙ new.each i small
          ∙ (λ j. at_first c (kind j) (sym here j) i) ∙ ap (λ k. at_first c (is_clocked (driving c k)) s i) (sym here))
          (cases_lt s n);
    }
