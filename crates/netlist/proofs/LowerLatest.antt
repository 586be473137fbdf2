-- The last sources of a signal's bits, by the one process that drives it.
use Rattle.std.proofs.Common.{◌≡◌, ◌<◌, ◌≤◌, ◌+◌, ◌*◌, ◌==◌, ◌&&◌, ℕ, zero, suc, Bool, true, false, cond, List, [], ◌∷◌, ◌++◌, map, length, take, drop, get_or, refl, sym, ap, ◌∙◌, arith, subst}
use Rattle.std.specs.Prelude.{Option, Some, None, is_some}
use Rattle.std.specs.List.{AllByRecursion, range_with_len, find}
use Rattle.std.proofs.lemmas.Bool.{ne_eqb, and_parts, false≢true}
use Rattle.std.proofs.lemmas.List.{drop_more}
use Rattle.design_ir.specs.declared.ids.DomainId.{DomainId}
use Rattle.design_ir.specs.declared.process.DesignProcess.{DesignProcess}
use Rattle.design_ir.specs.Pools.{Pooled}
use Rattle.design_ir.specs.Values.{signal_form}
use Rattle.design_ir.specs.Targets.{Bit, target_signals}
use Rattle.design_ir.specs.Trees.{assign, choose, Block, done, next}
use Rattle.design_ir.specs.Guards.{driven}
use Rattle.design_ir.specs.Circuits.{Circuit, is_among}
use Rattle.design_ir.specs.Designs.{IsDesign}
use Rattle.design_ir.proofs.Counts.{all_left}
use Rattle.design_ir.proofs.PutLaws.{apart, among_parts}
use Rattle.rtlil_text.specs.Sources.{Source}
use Rattle.netlist.specs.declared.sources.BitSource.{BitSource}
use Rattle.netlist.specs.declared.sources.BitSource.TheVariants as sources
use Rattle.netlist_laws.specs.Operators.{Value}
use Rattle.netlist_laws.specs.Latest.{Latest, is_fixed, is_plain, places, source_at, with_source, given, latest_of}
use Rattle.netlist_laws.specs.Spelled.{spec_of}
use Rattle.netlist_laws.specs.Module.{expr_value, drives, driving, driving_at, is_clocked, at_first, at_last, bits_at_last}
use Rattle.netlist_laws.specs.Plain.{IsPlain}
use Rattle.netlist.specs.Tables.{source_of, Shows, at_start, latest_of_all, last_spec}
use Rattle.netlist_laws.proofs.FixedTargets.{IsOfThese, places_of}
use Rattle.netlist_laws.proofs.OneDriver.{AreNone, IsOnly, find_only}
use Rattle.netlist_laws.proofs.Driven.{driven_by, distinct_processes}

-- ---- a row of the table

row_is : (f : BitSource → Source) (g : ℕ → Source) (bits : List BitSource) (d : BitSource) (w k i : ℕ) → k + w ≤ length bits → ((j : ℕ) → j < w → f (get_or bits (k + j) d) ≡ g (i + j)) → map f (take w (drop k bits)) ≡ map g (range_with_len i w)
row_is f g bits d zero k i h each = refl
row_is f g bits d (suc w) k i h each =
    let here : f (get_or bits k d) ≡ g i = (let a : k + 0 ≡ k = omega arith in let b : i + 0 ≡ i = omega arith in ap (λ n. f (get_or bits n d)) (sym a) ∙ each 0 (omega arith) ∙ ap g b) in
    let more : map f (take w (drop (k + 1) bits)) ≡ map g (range_with_len (i + 1) w) =
    row_is f g bits d w (k + 1) (i + 1) (omega (arith, h)) (λ j lt. let a : (k + 1) + j ≡ k + suc j = omega arith in let b : i + suc j ≡ (i + 1) + j = omega arith in ap (λ n. f (get_or bits n d)) a ∙ each (suc j) (omega (arith, lt)) ∙ ap g b) in
    ap (λ xs. map f (take (suc w) xs)) (drop_more bits k d (omega (arith, h))) ∙ (λ t. here t ∷ more t)

pub row_shown : (ids : ℕ → List ℕ) (n : ℕ) (bits : List BitSource) (latest : Latest) (s w : ℕ) → Shows ids n bits latest → s < n → w ≤ 128 → map (source_of ids) (take w (drop (s * 128) bits)) ≡ map (latest s) (range_with_len 0 w)
row_shown ids n bits latest s w h lt small =
    row_is (source_of ids) (latest s) bits (sources.Constant false) w (s * 128) 0 (omega (arith, h.long)) (λ j below. let z : 0 + j ≡ j = omega arith in h.each s j lt (omega (arith, below)) ∙ ap (latest s) (sym z))

-- ---- one statement reads and writes each signal alone

with_same : (b : Bit) (x : Source) (latest other : Latest) (s : ℕ) → ((i : ℕ) → latest s i ≡ other s i) → (i : ℕ) → with_source b x latest s i ≡ with_source b x other s i
with_same b x latest other s same i = ap (λ y. cond ((s == b.sig) && (i == b.index)) x y) (same i)

given_same : (v : Value) (bs : List Bit) (k : ℕ) (latest other : Latest) (s : ℕ) → ((i : ℕ) → latest s i ≡ other s i) → (i : ℕ) → given v bs k latest s i ≡ given v bs k other s i
given_same v [] k latest other s same i = same i
given_same v (b ∷ bs) k latest other s same i =
    given_same v bs (k + 1) (with_source b (source_at v k) latest) (with_source b (source_at v k) other) s (with_same b (source_at v k) latest other s same) i

latest_same : (pool : Pooled) (value : ℕ → Value) (b : Block) (latest other : Latest) (s : ℕ) → ((i : ℕ) → latest s i ≡ other s i) → (i : ℕ) → latest_of pool value b latest s i ≡ latest_of pool value b other s i
latest_same pool value done latest other s same i = same i
latest_same pool value (next (assign t v p) rest) latest other s same i =
    latest_same pool value rest (given (value v.0) (places pool t.0) 0 latest) (given (value v.0) (places pool t.0) 0 other) s (given_same (value v.0) (places pool t.0) 0 latest other s same) i
latest_same pool value (next (choose arms) rest) latest other s same i = latest_same pool value rest latest other s same i

-- ---- a signal that statements do not drive keeps its sources

given_other : (v : Value) (bs : List Bit) (k : ℕ) (latest : Latest) (ss : List ℕ) (s : ℕ) → is_among ss s ≡ false → AllByRecursion (IsOfThese ss) bs → (i : ℕ) → given v bs k latest s i ≡ latest s i
given_other v [] k latest ss s none h i = refl
given_other v (b ∷ bs) k latest ss s none h i =
    let t : (s == b.sig) ≡ false = ne_eqb s b.sig (apart ss s b.sig none h.0) in
    given_other v bs (k + 1) (with_source b (source_at v k) latest) ss s none h.1 i ∙ ap (λ q. cond (q && (i == b.index)) (source_at v k) (latest s i)) t

latest_other : (pool : Pooled) (value : ℕ → Value) (b : Block) (latest : Latest) (s : ℕ) → is_plain pool b ≡ true → is_among (driven pool b) s ≡ false → (i : ℕ) → latest_of pool value b latest s i ≡ latest s i
latest_other pool value done latest s plain none i = refl
latest_other pool value (next (assign t v p) rest) latest s plain none i =
    let parts = and_parts (is_fixed pool t.0) (is_plain pool rest) plain in
    let apart = among_parts (target_signals pool t.0) (driven pool rest) s none in
    latest_other pool value rest (given (value v.0) (places pool t.0) 0 latest) s parts.1 apart.1 i
    ∙ given_other (value v.0) (places pool t.0) 0 latest (target_signals pool t.0) s apart.0 (places_of pool t.0 parts.0) i
latest_other pool value (next (choose arms) rest) latest s plain none i = absurd (false≢true plain)

-- ---- all processes

abbrev PlainBody : Circuit → DesignProcess → Type 0
PlainBody c p = is_plain c.pool p.body ≡ true

all_right : {A : Type 0} (P : A → Type 0) (xs ys : List A) → AllByRecursion P (xs ++ ys) → AllByRecursion P ys
all_right P [] ys h = h
all_right P (x ∷ xs) ys h = all_right P xs ys h.1

all_append : (c : Circuit) (ps qs : List DesignProcess) (latest : Latest) → latest_of_all c (ps ++ qs) latest ≡ latest_of_all c qs (latest_of_all c ps latest)
all_append c [] qs latest = refl
all_append c (p ∷ ps) qs latest = all_append c ps qs (latest_of c.pool (expr_value c) p.body latest)

all_other : (c : Circuit) (ps : List DesignProcess) (latest : Latest) (s : ℕ) → AllByRecursion (PlainBody c) ps → AreNone (driven_by c) s ps → (i : ℕ) → latest_of_all c ps latest s i ≡ latest s i
all_other c [] latest s plain none i = refl
all_other c (p ∷ ps) latest s plain none i =
    all_other c ps (latest_of c.pool (expr_value c) p.body latest) s plain.1 none.1 i ∙ latest_other c.pool (expr_value c) p.body latest s plain.0 none.0 i

module _ (c : Circuit) (design : IsDesign c) (plain : IsPlain c) (s : ℕ) (p : DesignProcess) (found : find (drives c s) c.processes ≡ Some p) where
  one_process : (latest : Latest) (i : ℕ) → latest_of_all c c.processes latest s i ≡ latest_of c.pool (expr_value c) p.body latest s i
  one_process latest i =
      let only : IsOnly (driven_by c) s c.processes p = find_only (driven_by c) s c.processes p (distinct_processes c design) found in
      let all : AllByRecursion (PlainBody c) (only.before ++ p ∷ only.after) = subst (AllByRecursion (PlainBody c)) only.split plain.plain in
      let first = all_left (PlainBody c) only.before (p ∷ only.after) all in
      let rest = all_right (PlainBody c) only.before (p ∷ only.after) all in
      let mid : Latest = latest_of_all c only.before latest in
      ap (λ ps. latest_of_all c ps latest s i) only.split ∙ ap (λ (l : Latest). l s i) (all_append c only.before (p ∷ only.after) latest)
      ∙ all_other c only.after (latest_of c.pool (expr_value c) p.body mid) s rest.1 only.none_after i
      ∙ latest_same c.pool (expr_value c) p.body mid latest s (all_other c only.before latest s first only.none_before) i

  pub last_is : (clocked : Bool) → is_clocked (driving c s) ≡ clocked → bits_at_last c clocked p s ≡ last_spec c s
  last_is clocked kind =
      let start : (i : ℕ) → at_start c s i ≡ at_first c clocked s i = λ i. ap (λ b. at_first c b s i) kind in
      let each : (i : ℕ) → at_last c clocked p s i ≡ latest_of_all c c.processes (at_start c) s i =
      λ i. sym (latest_same c.pool (expr_value c) p.body (at_start c) (at_first c clocked) s start i) ∙ sym (one_process (at_start c) i) in
      λ t. spec_of (map (λ i. each i t) (range_with_len 0 (signal_form c.pool.signals s).width))

pub clocked_at : (p : DesignProcess) (o : Option DomainId) → is_clocked (driving_at p o) ≡ is_some o
clocked_at p None = refl
clocked_at p (Some d) = refl
