-- Where one bit of a signal comes from behind a plain block: from before it, or from one bit of one value.
use Rattle.std.specs.Prelude.{◌≡◌, ◌≢◌, refl, ⊤, ℕ, suc, slice_get, ◌+◌, ◌<◌, ◌≤◌, ◌==◌, ◌⊎◌, true, List, [], ◌∷◌, map, length, ℤ, Some}
use Rattle.std.specs.List.{AllByRecursion}
use Rattle.std.proofs.Common.{sym, ◌∙◌, ap, arith, subst, ⊎_elim, inl, inr}
use Rattle.std.proofs.lemmas.Bool.{false≢true, cases_eq, and_parts}
use Rattle.std.proofs.lemmas.List.{length-map, length-set}
use Rattle.amh_bits.specs.Patterns.{pattern, nat_bit}
use Rattle.amh_bits.proofs.BitsOf.{bit_pattern, nat_bit_low}
use Rattle.design_ir.specs.declared.ids.ExprId.{ExprId}
use Rattle.design_ir.specs.Pools.{Pooled}
use Rattle.design_ir.specs.Values.{num, signal_form}
use Rattle.design_ir.specs.Targets.{Bit, target_bits}
use Rattle.design_ir.specs.Trees.{assign, choose, Block, done, next}
use Rattle.design_ir.specs.Put.{put, put_statement, put_number, put_bits, put_bit}
use Rattle.design_ir.specs.Circuits.{at}
use Rattle.design_ir.proofs.PutLaws.{put_length}
use Rattle.netlist_laws.specs.Operators.{Value}
use Rattle.netlist_laws.specs.Latest.{Latest, places, is_fixed, source_at, with_source, given, latest_of, is_plain}
use Rattle.netlist_laws.proofs.Reading.{bit_of}
use Rattle.netlist_laws.proofs.FixedTargets.{IsInside, target_bits-fixed, places_inside}
use Rattle.netlist_laws.proofs.BitWrites.{some_signal, at-put_bit_other, int_bit-put_bit_same, int_bit-put_bit_other}
use Rattle.netlist_laws.proofs.PutSources.{with_source_same, with_source_sig, with_source_index}

-- what a block assigns, target and value, has this
abbrev pub AreAssigned : (ExprId → ExprId → Type 0) → Block → Type 0
AreAssigned P done = ⊤
AreAssigned P (next (assign target source place) rest) = P target source × AreAssigned P rest
AreAssigned P (next (choose arms) rest) = AreAssigned P rest

module _ (pool : Pooled) (env : List ℤ) (value : ℕ → Value) (P : ExprId → ExprId → Type 0) (s i : ℕ) (inside : i < (signal_form pool.signals s).width) where
  -- the bit and its source are those from before
  pub record IsBefore (first : Latest) (from : List ℤ) (last : Latest) (to : List ℤ) : Type 0 where
    pub source : last s i ≡ first s i
    pub same : bit_of (at to s) i ≡ bit_of (at from s) i

  -- they are those of one bit of one value, which its target has at that place
  pub record IsAssigned (last : Latest) (to : List ℤ) : Type 0 where
    pub target : ExprId
    pub expr : ExprId
    pub place : ℕ
    pub holds : P target expr
    pub fixed : is_fixed pool target.0 ≡ true
    pub lands : slice_get (places pool target.0) place ≡ Some (record { sig = s; index = i })
    pub source : last s i ≡ source_at (value expr.0) place
    pub same : bit_of (at to s) i ≡ bit_of (num pool env expr.0) place

  abbrev pub Origin : Latest → List ℤ → Latest → List ℤ → Type 0
  Origin first from last to = IsBefore first from last to ⊎ IsAssigned last to

  nothing_done : (first : Latest) (from : List ℤ) → Origin first from first from
  nothing_done first from = inl (record { source = refl; same = refl })

  one_more : (first : Latest) (from : List ℤ) (mid : Latest) (now : List ℤ) (last : Latest) (to : List ℤ) → Origin first from mid now → Origin mid now last to → Origin first from last to
  one_more first from mid now last to o p = ⊎_elim
      (λ (b : IsBefore mid now last to). ⊎_elim
      (λ (a : IsBefore first from mid now). inl (record { source = b.source ∙ a.source; same = b.same ∙ a.same }))
      (λ (a : IsAssigned mid now). inr (record { target = a.target; expr = a.expr; place = a.place; holds = a.holds; fixed = a.fixed; lands = a.lands; source = b.source ∙ a.source; same = b.same ∙ a.same }))
      o)
      (λ (a : IsAssigned last to). inr a)
      p

  -- ---- one bit

  module _ (t v : ExprId) (holds : P t v) (fixed : is_fixed pool t.0 ≡ true) (b : Bit) (k m : ℕ) (lands : slice_get (places pool t.0) k ≡ Some b) (below : k < m) (latest : Latest) (cur : List ℤ) (count : length cur ≡ length pool.signals) (fits : b.index < (signal_form pool.signals b.sig).width) where
    -- the sources and the numbers behind it
    abbrev After : Latest
    After = with_source b (source_at (value v.0) k) latest

    abbrev Numbers : List ℤ
    Numbers = put_bit pool b (nat_bit (pattern m (num pool env v.0)) k) cur

    low : nat_bit (pattern m (num pool env v.0)) k < 2
    low = nat_bit_low (pattern m (num pool env v.0)) k

    there : b.sig < length cur
    there = omega (arith, count, some_signal pool.signals b.sig (omega (arith, fits)))

    hit : s ≡ b.sig → i ≡ b.index → IsAssigned After Numbers
    hit e f = record {
      target = t;
      expr = v;
      place = k;
      holds = holds;
      fixed = fixed;
      lands = lands ∙ (λ j. Some (record { sig = sym e j; index = sym f j }));
      source = ap (λ u. After u i) e ∙ ap (After b.sig) f ∙ with_source_same b (source_at (value v.0) k) latest;
      same = ap (λ u. bit_of (at Numbers u) i) e ∙ ap (λ j. bit_of (at Numbers b.sig) j) f ∙ ap (λ n. n == 1) (int_bit-put_bit_same pool b (nat_bit (pattern m (num pool env v.0)) k) cur low fits there ∙ bit_pattern (num pool env v.0) m k below);
    }

    beside : s ≡ b.sig → i ≢ b.index → IsBefore latest cur After Numbers
    beside e f = record {
      source = with_source_index b (source_at (value v.0) k) latest s i f;
      same =
          ap (λ t. bit_of (at Numbers t) i) e
          ∙ ap (λ n. n == 1) (int_bit-put_bit_other pool b (nat_bit (pattern m (num pool env v.0)) k) cur low fits i there (subst (λ t. i < (signal_form pool.signals t).width) e inside) f)
          ∙ ap (λ t. bit_of (at cur t) i) (sym e);
    }

    away : s ≢ b.sig → IsBefore latest cur After Numbers
    away e = record {
      source = with_source_sig b (source_at (value v.0) k) latest s i e;
      same = ap (λ z. bit_of z i) (at-put_bit_other pool b (nat_bit (pattern m (num pool env v.0)) k) cur low fits s e);
    }

    bit_origin : Origin latest cur After Numbers
    bit_origin = ⊎_elim
        (λ (e : s ≡ b.sig). ⊎_elim (λ (f : i ≡ b.index). inr (hit e f)) (λ (f : i ≢ b.index). inl (beside e f)) (cases_eq i b.index))
        (λ (e : s ≢ b.sig). inl (away e))
        (cases_eq s b.sig)

  -- ---- one assignment, and a block

  given_origin : (t v : ExprId) → P t v → is_fixed pool t.0 ≡ true → (bs : List Bit) (k m : ℕ) (latest : Latest) (cur : List ℤ) → ((j : ℕ) (b : Bit) → slice_get bs j ≡ Some b → slice_get (places pool t.0) (k + j) ≡ Some b)
      → k + length bs ≤ m → length cur ≡ length pool.signals → AllByRecursion (IsInside (signal_form pool.signals)) bs
      → Origin latest cur (given (value v.0) bs k latest) (put_bits pool (map (λ b. Some b) bs) (pattern m (num pool env v.0)) k cur)
  given_origin t v h fixed [] k m latest cur lands le count fits = nothing_done latest cur
  given_origin t v h fixed (b ∷ bs) k m latest cur lands le count fits =
      let mid : Latest = with_source b (source_at (value v.0) k) latest in
      let now : List ℤ = put_bit pool b (nat_bit (pattern m (num pool env v.0)) k) cur in
      let here : k + 0 ≡ k = omega arith in
      one_more latest cur mid now (given (value v.0) bs (k + 1) mid) (put_bits pool (map (λ x. Some x) bs) (pattern m (num pool env v.0)) (k + 1) now)
      (bit_origin t v h fixed b k m (ap (slice_get (places pool t.0)) (sym here) ∙ lands 0 b refl) (omega arith) latest cur count fits.0)
      (given_origin t v h fixed bs (k + 1) m mid now (λ j x e. let next : (k + 1) + j ≡ k + suc j = omega arith in ap (slice_get (places pool t.0)) next ∙ lands (suc j) x e) (omega (arith, le)) (length-set cur b.sig _ ∙ count) fits.1)

  assigned_origin : (t v : ExprId) → P t v → (latest : Latest) (cur : List ℤ) → is_fixed pool t.0 ≡ true → length cur ≡ length pool.signals
      → Origin latest cur (given (value v.0) (places pool t.0) 0 latest) (put_number pool (target_bits pool env t.0) (num pool env v.0) cur)
  assigned_origin t v h latest cur fixed count =
      let bs : List Bit = places pool t.0 in
      let wide : length (map (λ b. Some b) bs) ≡ length bs = length-map bs (λ b. Some b) in
      subst (λ xs. Origin latest cur (given (value v.0) bs 0 latest) (put_number pool xs (num pool env v.0) cur)) (sym (target_bits-fixed pool env t.0 fixed))
      (given_origin t v h fixed bs 0 (length (map (λ b. Some b) bs)) latest cur (λ j b e. let d : 0 + j ≡ j = omega arith in ap (slice_get bs) d ∙ e) (omega (arith, wide)) count (places_inside pool t.0))

  pub put_origin : (b : Block) (latest : Latest) (cur : List ℤ) → is_plain pool b ≡ true → AreAssigned P b → length cur ≡ length pool.signals → Origin latest cur (latest_of pool value b latest) (put pool env b cur)
  put_origin done latest cur plain h count = nothing_done latest cur
  put_origin (next (assign t v p) rest) latest cur plain h count =
      let parts = and_parts (is_fixed pool t.0) (is_plain pool rest) plain in
      let mid : Latest = given (value v.0) (places pool t.0) 0 latest in
      let now : List ℤ = put_statement pool env (assign t v p) cur in
      one_more latest cur mid now (latest_of pool value rest mid) (put pool env rest now)
      (assigned_origin t v h.0 latest cur parts.0 count)
      (put_origin rest mid now parts.1 h.1 (put_length pool env (next (assign t v p) done) cur ∙ count))
  put_origin (next (choose arms) rest) latest cur plain h count = absurd (false≢true plain)
