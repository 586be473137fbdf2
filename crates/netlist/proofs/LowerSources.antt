-- Sources of bits, written one by one.
use Rattle.std.proofs.Common.{◌≡◌, ◌≢◌, ◌<◌, ◌+◌, ◌*◌, ◌==◌, ◌&&◌, ℕ, zero, suc, Bool, true, false, cond, List, [], ◌∷◌, ◌++◌, length, take, get_or, set, refl, sym, ap, ◌∙◌, arith, subst}
use Rattle.std.specs.List.{AllByRecursion}
use Rattle.std.proofs.lemmas.Bool.{eqb-true, eqb-false}
use Rattle.std.proofs.lemmas.List.{length-set, length-take-le, take_more, get_or-set_same, get_or-set_other}
use Rattle.amh_host.specs.declared.place.Place.{Place}
use Rattle.design_ir.specs.declared.ids.ExprId.{ExprId}
use Rattle.design_ir.specs.declared.stmt.Stmt.{Stmt}
use Rattle.design_ir.specs.declared.stmt.Stmt.TheVariants as stmt
use Rattle.design_ir.specs.Pools.{Pooled}
use Rattle.design_ir.specs.Targets.{Bit}
use Rattle.design_ir.specs.Statements.{block_of}
use Rattle.rtlil_text.specs.Sources.{Source}
use Rattle.netlist.specs.declared.sources.BitSource.{BitSource}
use Rattle.netlist.specs.declared.sources.BitSource.TheVariants as sources
use Rattle.netlist_laws.specs.Operators.{Value}
use Rattle.netlist_laws.specs.Latest.{Latest, places, source_at, with_source, given, latest_of}
use Rattle.netlist.specs.Tables.{source_of, Shows, IsBitOf}

-- ---- one write

module _ (ids : ℕ → List ℕ) (n : ℕ) (bits : List BitSource) (latest : Latest) (b : Bit) (x : BitSource) (y : Source) (old : Shows ids n bits latest) (inside : IsBitOf n b) (is : source_of ids x ≡ y) where
  within : b.sig * 128 + b.index < length bits
  within = omega (arith, old.long, inside.0, inside.1)

  same_place : (s i : ℕ) → s ≡ b.sig → i ≡ b.index → source_of ids (get_or (set bits (b.sig * 128 + b.index) x) (s * 128 + i) (sources.Constant false)) ≡ y
  same_place s i p q =
      ap (λ k. source_of ids (get_or (set bits (b.sig * 128 + b.index) x) k (sources.Constant false))) (λ j. p j * 128 + q j)
      ∙ ap (source_of ids) (get_or-set_same bits (b.sig * 128 + b.index) x (sources.Constant false) within) ∙ is

  other_place : (s i : ℕ) → s < n → i < 128 → (s * 128 + i ≢ b.sig * 128 + b.index) → source_of ids (get_or (set bits (b.sig * 128 + b.index) x) (s * 128 + i) (sources.Constant false)) ≡ latest s i
  other_place s i lt small apart = ap (source_of ids) (get_or-set_other bits (b.sig * 128 + b.index) (s * 128 + i) x (sources.Constant false) apart) ∙ old.each s i lt small

  at_bit : (s i : ℕ) → s < n → i < 128 → (p q : Bool) → (s == b.sig) ≡ p → (i == b.index) ≡ q → source_of ids (get_or (set bits (b.sig * 128 + b.index) x) (s * 128 + i) (sources.Constant false)) ≡ cond (p && q) y (latest s i)
  at_bit s i lt small true true e f = same_place s i (eqb-true s b.sig e) (eqb-true i b.index f)
  at_bit s i lt small true false e f = other_place s i lt small (λ g. eqb-false i b.index f (let same : s ≡ b.sig = eqb-true s b.sig e in omega (arith, g, same)))
  at_bit s i lt small false q e f = other_place s i lt small (λ g. eqb-false s b.sig e (omega (arith, g, small, inside.1)))

  pub shows_write : Shows ids n (set bits (b.sig * 128 + b.index) x) (with_source b y latest)
  shows_write = record { long = length-set bits (b.sig * 128 + b.index) x ∙ old.long; each = λ s i lt small. at_bit s i lt small (s == b.sig) (i == b.index) refl refl }

-- ---- one place more

given_more : (v : Value) (bs : List Bit) (b : Bit) (k : ℕ) (latest : Latest) → given v (bs ++ b ∷ []) k latest ≡ with_source b (source_at v (k + length bs)) (given v bs k latest)
given_more v [] b k latest = let e : k ≡ k + 0 = omega arith in ap (λ j. with_source b (source_at v j) latest) e
given_more v (c ∷ bs) b k latest =
    let e : (k + 1) + length bs ≡ k + suc (length bs) = omega arith in
    given_more v bs b (k + 1) (with_source c (source_at v k) latest) ∙ ap (λ j. with_source b (source_at v j) (given v bs (k + 1) (with_source c (source_at v k) latest))) e

bit_get : (n : ℕ) (bs : List Bit) (k : ℕ) (d : Bit) → AllByRecursion (IsBitOf n) bs → k < length bs → IsBitOf n (get_or bs k d)
bit_get n [] k d h lt = absurd (omega arith)
bit_get n (b ∷ bs) zero d h lt = h.0
bit_get n (b ∷ bs) (suc k) d h lt = bit_get n bs k d h.1 (omega arith)

pub bit_inside : (n : ℕ) (bs : List Bit) (k : ℕ) (b : Bit) → AllByRecursion (IsBitOf n) bs → k < length bs → b ≡ get_or bs k b → IsBitOf n b
bit_inside n bs k b h lt is = subst (IsBitOf n) (sym is) (bit_get n bs k b h lt)

pub given_turn : (ids : ℕ → List ℕ) (n : ℕ) (v : Value) (bs : List Bit) (k : ℕ) (b : Bit) (bits : List BitSource) (x : BitSource) (latest : Latest) → AllByRecursion (IsBitOf n) bs → k < length bs → b ≡ get_or bs k b
    → source_of ids x ≡ source_at v k → Shows ids n bits (given v (take k bs) 0 latest) → Shows ids n (set bits (b.sig * 128 + b.index) x) (given v (take (k + 1) bs) 0 latest)
given_turn ids n v bs k b bits x latest all lt is source old =
    let count : 0 + length (take k bs) ≡ k = omega (arith, length-take-le k bs (omega arith)) in
    let more : given v (take (k + 1) bs) 0 latest ≡ with_source b (source_at v k) (given v (take k bs) 0 latest) =
    ap (λ cs. given v cs 0 latest) (take_more bs k b lt ∙ ap (λ (c : Bit). take k bs ++ c ∷ []) (sym is)) ∙ given_more v (take k bs) b 0 latest ∙ ap (λ j. with_source b (source_at v j) (given v (take k bs) 0 latest)) count in
    subst (Shows ids n (set bits (b.sig * 128 + b.index) x)) (sym more) (shows_write ids n bits (given v (take k bs) 0 latest) b x (source_at v k) old (bit_inside n bs k b all lt is) source)

-- ---- one statement more

latest_more : (pool : Pooled) (value : ℕ → Value) (ss : List Stmt) (t v : ExprId) (place : Place) (latest : Latest)
    → latest_of pool value (block_of (ss ++ stmt.Assign t v place ∷ [])) latest ≡ given (value v.0) (places pool t.0) 0 (latest_of pool value (block_of ss) latest)
latest_more pool value [] t v place latest = refl
latest_more pool value (stmt.Assign a b p ∷ ss) t v place latest = latest_more pool value ss t v place (given (value b.0) (places pool a.0) 0 latest)
latest_more pool value (stmt.Choose arms ∷ ss) t v place latest = latest_more pool value ss t v place latest

pub latest_turn : (pool : Pooled) (value : ℕ → Value) (ss : List Stmt) (i : ℕ) (t v : ExprId) (place : Place) (latest : Latest) → i < length ss → stmt.Assign t v place ≡ get_or ss i (stmt.Assign t v place)
    → latest_of pool value (block_of (take (i + 1) ss)) latest ≡ given (value v.0) (places pool t.0) 0 (latest_of pool value (block_of (take i ss)) latest)
latest_turn pool value ss i t v place latest lt is =
    let s : Stmt = stmt.Assign t v place in
    ap (λ xs. latest_of pool value (block_of xs) latest) (take_more ss i s lt ∙ ap (λ (x : Stmt). take i ss ++ x ∷ []) (sym is)) ∙ latest_more pool value (take i ss) t v place latest
