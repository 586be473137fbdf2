-- The nodes to which the nodes of an expression lead stand together for what it needs.
use Rattle.std.proofs.Common.{◌≡◌, ℕ, ◌+◌, ◌-◌, ◌<◌, ◌≤◌, nat_lt, if◌then◌else◌, Bool, true, false, List, [], ◌∷◌, ◌++◌, map, refl, arith}
use Rattle.std.specs.List.{flat_map}
use Rattle.std.proofs.lemmas.Bool.{false≢true, ltb-true, ltb-false}
use Rattle.shape_rules.specs.Forms.{IsForm, unsigned}
use Rattle.shape_rules.specs.Operators.{form_of}
use Rattle.shape_rules.specs.Rows.{operand_count}
use Rattle.shape_rules.specs.declared.op.Op.{Op}
use Rattle.shape_rules.specs.declared.op.Op.TheVariants.{Not, And, Or, Xor}
use Rattle.design_ir.specs.declared.ids.ExprId.{ExprId}
use Rattle.design_ir.specs.declared.expr.Expr as expr
use Rattle.design_ir.specs.declared.expr.Expr.{Expr}
use Rattle.design_ir.specs.declared.expr.Expr.TheVariants.{Const, Unary, Binary, Mux, Slice, Cat, Part, Pick, Cast, Matches, Reset}
use Rattle.design_ir.specs.Named.{named, AllBelow}
use Rattle.design_ir.specs.Pools.{Pooled}
use Rattle.design_ir.specs.PoolRules.{IsInRange}
use Rattle.design_ir.specs.Targets.{Bit}
use Rattle.design_ir.specs.Values.{form, form_step, total_width}
use Rattle.design_ir.specs.Needed.{is_bitwise, extended, every, joined_bits, bits_step, needed, needed_indices, index_step}
use Rattle.digraph.specs.Graphs.{Digraph}
use Rattle.comb_graph.specs.Meanings.{Means, MeanAll, node_of}
use Rattle.comb_graph.specs.Places.{ArePlaced, FitSignals, extended_at, joined_at, whole_at, indices_at, bit_targets, index_targets}
use Rattle.comb_graph.proofs.GraphMeanings.{mean-none, mean-one, mean-append, mean-cons, mean-bit}

some_bit : (s : Bool) (w : ℕ) → IsForm w s → s ≡ true → 1 ≤ w
some_bit false w p e = absurd (false≢true e)
some_bit true w p e = p.0

module _ (g : Digraph) (count : ℕ) (pool : Pooled) (first : ℕ → ℕ) (below : ℕ) (h : ArePlaced g count pool first below) where
  one : (a k : ℕ) → a < below → k < (form pool a).width → MeanAll g count ((first a + k) ∷ []) (needed pool a k)
  one a k in' inside = mean-one g count (first a + k) (needed pool a k) ((h.placed a in').bits k inside)

  pub whole : (a : ExprId) → a.0 < below → Means g count (whole_at (form pool) first a) (every (form pool a.0) (needed pool a.0))
  whole a in' = (h.placed a.0 in').whole

  top : (a : ℕ) → a < below → (s : Bool) → (form pool a).signed ≡ s
      → MeanAll g count (if s then (first a + ((form pool a).width - 1)) ∷ [] else []) (if s then needed pool a ((form pool a).width - 1) else [])
  top a in' true is = let some = some_bit (form pool a).signed (form pool a).width (h.shaped a in') is in one a ((form pool a).width - 1) in' (omega (arith, some))
  top a in' false is = mean-none g count

  choose : (a k : ℕ) → a < below → (b : Bool) → nat_lt k (form pool a).width ≡ b
      → MeanAll g count (if b then (first a + k) ∷ [] else (if (form pool a).signed then (first a + ((form pool a).width - 1)) ∷ [] else []))
      (if b then needed pool a k else (if (form pool a).signed then needed pool a ((form pool a).width - 1) else []))
  choose a k in' true is = one a k in' (ltb-true k (form pool a).width is)
  choose a k in' false is = top a in' (form pool a).signed refl

  pub extends : (a : ExprId) (k : ℕ) → a.0 < below → MeanAll g count (extended_at (form pool) first a k) (extended (form pool a.0) (needed pool a.0) k)
  extends a k in' = choose a.0 k in' (nat_lt k (form pool a.0).width) refl

  -- all of several expressions
  wholes : (es : List ExprId) → AllBelow below es → MeanAll g count (map (whole_at (form pool) first) es) (flat_map (λ (e : ExprId). every (form pool e.0) (needed pool e.0)) es)
  wholes [] names = mean-none g count
  wholes (e ∷ es) names = mean-cons g count (whole_at (form pool) first e) (map (whole_at (form pool) first) es) (every (form pool e.0) (needed pool e.0)) (flat_map (λ (x : ExprId). every (form pool x.0) (needed pool x.0)) es) (whole e names.0) (wholes es names.1)

  -- the part of a join in which the bit stands
  join_one : (e : ExprId) (k : ℕ) (ns : List ℕ) (bs : List Bit) (b : Bool) → nat_lt k (form pool e.0).width ≡ b → e.0 < below → ((form pool e.0).width ≤ k → MeanAll g count ns bs)
      → MeanAll g count (if b then (first e.0 + k) ∷ [] else ns) (if b then needed pool e.0 k else bs)
  join_one e k ns bs true is in' rest = one e.0 k in' (ltb-true k (form pool e.0).width is)
  join_one e k ns bs false is in' rest = rest (ltb-false k (form pool e.0).width is)

  joins : (es : List ExprId) (k : ℕ) → AllBelow below es → k < total_width (form pool) es → MeanAll g count (joined_at (form pool) first es k) (joined_bits (form pool) (needed pool) es k)
  joins [] k names inside = absurd (omega (arith, inside))
  joins (e ∷ es) k names inside =
      join_one e k (joined_at (form pool) first es (k - (form pool e.0).width)) (joined_bits (form pool) (needed pool) es (k - (form pool e.0).width)) (nat_lt k (form pool e.0).width) refl names.0
      (λ past. joins es (k - (form pool e.0).width) names.1 (omega (arith, inside, past)))

  unary_one : (op : Op) (a : ExprId) (k : ℕ) → operand_count op ≡ 1 → a.0 < below → k < (form_of op (form pool a.0) (unsigned 0)).width
      → MeanAll g count (if is_bitwise op then (first a.0 + k) ∷ [] else whole_at (form pool) first a ∷ []) (if is_bitwise op then needed pool a.0 k else every (form pool a.0) (needed pool a.0))
  unary_one Not a k one-operand in' inside = one a.0 k in' inside
  unary_one And a k one-operand in' inside = absurd (omega (arith, one-operand))
  unary_one Or a k one-operand in' inside = absurd (omega (arith, one-operand))
  unary_one Xor a k one-operand in' inside = absurd (omega (arith, one-operand))
  unary_one op a k one-operand in' inside = mean-one g count (whole_at (form pool) first a) (every (form pool a.0) (needed pool a.0)) (whole a in')

  pair : (a b : ExprId) → a.0 < below → b.0 < below → MeanAll g count (whole_at (form pool) first a ∷ whole_at (form pool) first b ∷ []) (every (form pool a.0) (needed pool a.0) ++ every (form pool b.0) (needed pool b.0))
  pair a b x y =
      mean-cons g count (whole_at (form pool) first a) (whole_at (form pool) first b ∷ []) (every (form pool a.0) (needed pool a.0)) (every (form pool b.0) (needed pool b.0)) (whole a x)
      (mean-one g count (whole_at (form pool) first b) (every (form pool b.0) (needed pool b.0)) (whole b y))

  both : (b : Bool) (x y : ExprId) (k : ℕ) → x.0 < below → y.0 < below
      → MeanAll g count (if b then extended_at (form pool) first x k ++ extended_at (form pool) first y k else whole_at (form pool) first x ∷ whole_at (form pool) first y ∷ [])
      (if b then extended (form pool x.0) (needed pool x.0) k ++ extended (form pool y.0) (needed pool y.0) k else every (form pool x.0) (needed pool x.0) ++ every (form pool y.0) (needed pool y.0))
  both true x y k p q = mean-append g count (extended_at (form pool) first x k) (extended_at (form pool) first y k) (extended (form pool x.0) (needed pool x.0) k) (extended (form pool y.0) (needed pool y.0) k) (extends x k p) (extends y k q)
  both false x y k p q = pair x y p q

  -- the node of a bit leads to what the bit needs
  pub bit_means : (e : Expr) (k : ℕ) → count ≤ g.size → AllBelow below (named e) → IsInRange pool.signals (form pool) e → FitSignals count pool.signals → k < (form_step pool.signals (form pool) e).width
      → MeanAll g count (bit_targets (form pool) first e k) (bits_step (form pool) (needed pool) e k)
  bit_means (Const n s) k size names range fit inside = mean-none g count
  bit_means (expr.TheVariants.Sig s) k size names range fit inside =
      let b : Bit = record { sig = s.0; index = k } in
      let fits = fit s.0 k range inside in
      mean-one g count (node_of b) (b ∷ []) (mean-bit g count b size fits.0 fits.1)
  bit_means (Unary op a) k size names range fit inside = unary_one op a k range names.0 inside
  bit_means (Binary op a b) k size names range fit inside = both (is_bitwise op) a b k names.0 names.1.0
  bit_means (Mux s a b) k size names range fit inside =
      mean-append g count (whole_at (form pool) first s ∷ extended_at (form pool) first a k) (extended_at (form pool) first b k)
      (every (form pool s.0) (needed pool s.0) ++ extended (form pool a.0) (needed pool a.0) k) (extended (form pool b.0) (needed pool b.0) k)
      (mean-cons g count (whole_at (form pool) first s) (extended_at (form pool) first a k) (every (form pool s.0) (needed pool s.0)) (extended (form pool a.0) (needed pool a.0) k) (whole s names.0) (extends a k names.1.0))
      (extends b k names.1.1.0)
  bit_means (Slice a low width) k size names range fit inside = one a.0 (low + k) names.0 (omega (arith, range, inside))
  bit_means (Cat es) k size names range fit inside = joins es k names inside
  bit_means (Part a offset width stride) k size names range fit inside = pair a offset names.0 names.1.0
  bit_means (Pick index es) k size names range fit inside =
      mean-cons g count (whole_at (form pool) first index) (map (whole_at (form pool) first) es) (every (form pool index.0) (needed pool index.0)) (flat_map (λ (x : ExprId). every (form pool x.0) (needed pool x.0)) es) (whole index names.0) (wholes es names.1)
  bit_means (Cast a signed) k size names range fit inside = one a.0 k names.0 inside
  bit_means (Matches a patterns) k size names range fit inside = mean-one g count (whole_at (form pool) first a) (every (form pool a.0) (needed pool a.0)) (whole a names.0)
  bit_means (Reset domain place) k size names range fit inside = mean-none g count

  -- the node of the offsets and indices leads to what they need
  indices : (a : ExprId) → a.0 < below → Means g count (indices_at (form pool) first a) (needed_indices pool a.0)
  indices a in' = (h.placed a.0 in').indices

  all_indices : (es : List ExprId) → AllBelow below es → MeanAll g count (map (indices_at (form pool) first) es) (flat_map (λ (e : ExprId). needed_indices pool e.0) es)
  all_indices [] names = mean-none g count
  all_indices (e ∷ es) names = mean-cons g count (indices_at (form pool) first e) (map (indices_at (form pool) first) es) (needed_indices pool e.0) (flat_map (λ (x : ExprId). needed_indices pool x.0) es) (indices e names.0) (all_indices es names.1)

  lone : (a : ExprId) → a.0 < below → MeanAll g count (indices_at (form pool) first a ∷ []) (needed_indices pool a.0)
  lone a in' = mean-one g count (indices_at (form pool) first a) (needed_indices pool a.0) (indices a in')

  pub index_means : (e : Expr) → AllBelow below (named e) → MeanAll g count (index_targets (form pool) first e) (index_step pool (needed_indices pool) e)
  index_means (Slice a low width) names = lone a names.0
  index_means (Cat es) names = all_indices es names
  index_means (Part a offset width stride) names =
      mean-cons g count (whole_at (form pool) first offset) (indices_at (form pool) first a ∷ []) (every (form pool offset.0) (needed pool offset.0)) (needed_indices pool a.0) (whole offset names.1.0) (lone a names.0)
  index_means (Pick index es) names =
      mean-cons g count (whole_at (form pool) first index) (map (indices_at (form pool) first) es) (every (form pool index.0) (needed pool index.0)) (flat_map (λ (x : ExprId). needed_indices pool x.0) es) (whole index names.0) (all_indices es names.1)
  index_means (Cast a signed) names = lone a names.0
  index_means (Const n s) names = mean-none g count
  index_means (expr.TheVariants.Sig s) names = mean-none g count
  index_means (Unary op a) names = mean-none g count
  index_means (Binary op a b) names = mean-none g count
  index_means (Mux s a b) names = mean-none g count
  index_means (Matches a patterns) names = mean-none g count
  index_means (Reset domain place) names = mean-none g count
