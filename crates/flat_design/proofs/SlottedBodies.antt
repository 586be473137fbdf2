-- Assignments of slots to whole signals leave what the statements behind the slots leave.
use Rattle.std.specs.Prelude.{◌≡◌, refl, ℕ, zero, suc, ◌-◌, ◌<◌, ◌==◌, ◌&&◌, ◌||◌, if◌then◌else◌, Bool, true, false, IsTrue, List, [], ◌∷◌, ◌++◌, All, Contains, map, length, slice_get, slice_index_or, slice_set, ℤ, pos, Some, None}
use Rattle.std.specs.List.{AllByRecursion, flat_map, range_with_len}
use Rattle.std.proofs.Common.{sym, ◌∙◌, ap, arith, subst, ⊎_elim}
use Rattle.std.proofs.lemmas.Bool.{false≢true, cond_below, cases_Bool, eq-eqb, eqb-true, or_cases}
use Rattle.std.proofs.lemmas.List.{length-set, get_or-set_same}
use Rattle.std.proofs.lemmas.List.Elements.{All-from_recursion}
use Rattle.amh_bits.specs.Patterns.{IsOf, pattern, nat_bit, wrap}
use Rattle.amh_bits.proofs.BitsOf.{bit_pattern}
use Rattle.amh_bits.proofs.Wraps.{pattern_wrap, wrap_is_of}
use Rattle.amh_bits.proofs.Same.{same_int}
use Rattle.shape_rules.specs.Forms.{Form}
use Rattle.design_ir.specs.declared.ids.ExprId.{ExprId}
use Rattle.design_ir.specs.declared.ids.SigId.{SigId}
use Rattle.design_ir.specs.declared.expr.Expr.TheVariants.{Sig}
use Rattle.design_ir.specs.declared.process.DesignProcess.{DesignProcess}
use Rattle.design_ir.specs.Pools.{Pooled}
use Rattle.design_ir.specs.PoolRules.{IsPool}
use Rattle.design_ir.specs.Values.{form, num, signal_form}
use Rattle.design_ir.specs.Targets.{Bit, Aim, bits_of, fixed_place, aim_at, aim_step, aims, numbers, target_bits, target_step, target_signals, signals_step}
use Rattle.design_ir.specs.Needed.{needed, needed_whole, needed_indices, index_step, extended}
use Rattle.design_ir.specs.Trees.{assign, choose, Block, done, next}
use Rattle.design_ir.specs.Guards.{Guard, Guarded, guarded, driven, block_exprs}
use Rattle.design_ir.specs.Put.{put, put_number}
use Rattle.design_ir.specs.Loops.{AssignmentNeeds, needed_value}
use Rattle.design_ir.specs.Fixed.{is_fixed, fixed_step, is_plain}
use Rattle.design_ir.specs.Circuits.{Circuit, at, is_among, FitsSignals}
use Rattle.design_ir.specs.Designs.{IsUsable, IsProcess}
use Rattle.design_ir.proofs.Elements.{contains_none, contains_cases, map_of, range_of}
use Rattle.design_ir.proofs.Equations.{answer_at}
use Rattle.design_ir.proofs.GuardLaws.{put_is}
use Rattle.design_ir.proofs.NumbersFit.{element}
use Rattle.design_ir.proofs.PutLaws.{put_length, put_other}
use Rattle.design_ir.proofs.Whole.{put_whole}
use Rattle.comb_graph.proofs.PutFits.{AreTargets, set_fits, put_fits}
use Rattle.flat_design.specs.declared.sources.Source.{Source}
use Rattle.flat_design.specs.Growing.{IsReadable}
use Rattle.flat_design.specs.Sources.{IsJoined, source_bit}
use Rattle.flat_design.specs.Shown.{SoFar, AreSlots, SomeNeeds, Starts, after}
use Rattle.flat_design.specs.Begun.{IsOwn, IsBegun}
use Rattle.flat_design.specs.Found.{numbers_of, targets_of}
use Rattle.flat_design.specs.Assigned.{IsAssigned, AreAssigned, AreReady, begins}
use Rattle.flat_design.specs.Flat.{IsFlatBody}
use Rattle.flat_design.proofs.Growing.{fits_more}
use Rattle.flat_design.proofs.FoundLaws.{among_append}
use Rattle.flat_design.proofs.StartLaws.{signal_few}

-- ---- a target that is a whole signal

module _ (q : Pooled) (k : ℕ) (s : SigId) (is : slice_get q.exprs k ≡ Some (Sig s)) where
  signal_fixed : is_fixed q k ≡ true
  unfolding is_fixed
  signal_fixed = answer_at false fixed_step q.exprs k (Sig s) is (λ f g same. refl)

  signal_signals : target_signals q k ≡ s.0 ∷ []
  unfolding target_signals
  signal_signals = answer_at [] signals_step q.exprs k (Sig s) is (λ f g same. refl)

  signal_bits : (env : List ℤ) → target_bits q env k ≡ map (λ b. Some b) (bits_of s.0 (signal_form q.signals s.0).width)
  unfolding target_bits
  signal_bits env = answer_at [] (target_step (signal_form q.signals) (form q) (num q env)) q.exprs k (Sig s) is (λ f g same. refl)

  signal_aims : aims q k ≡ map (aim_at s.0) (range_with_len 0 (signal_form q.signals s.0).width)
  unfolding aims
  signal_aims = answer_at [] (aim_step (signal_form q.signals) (form q) (numbers q)) q.exprs k (Sig s) is (λ f g same. refl)

  signal_indices : needed_indices q k ≡ []
  unfolding needed_indices
  signal_indices = answer_at [] (index_step q) q.exprs k (Sig s) is (λ f g same. refl)

-- ---- all assignments

module _ (q : Pooled) (slots : List (List Source)) where
  assigned_plain : (ss : List SigId) (b : Block) → AreAssigned q slots ss b → is_plain q b ≡ true
  assigned_plain [] done h = refl
  assigned_plain [] (next x rest) h = absurd h
  assigned_plain (s ∷ ss) done h = absurd h
  assigned_plain (s ∷ ss) (next (choose arms) rest) h = absurd h
  assigned_plain (s ∷ ss) (next (assign t v place) rest) h =
      let one = signal_fixed q t.0 s h.0.signal in
      let others = assigned_plain ss rest h.1 in
      λ i. one i && others i

  assigned_exprs : (ss : List SigId) (b : Block) → AreAssigned q slots ss b → AllByRecursion (IsReadable q) (block_exprs b)
  assigned_exprs [] done h = tt
  assigned_exprs [] (next x rest) h = absurd h
  assigned_exprs (s ∷ ss) done h = absurd h
  assigned_exprs (s ∷ ss) (next (choose arms) rest) h = absurd h
  assigned_exprs (s ∷ ss) (next (assign t v place) rest) h = (h.0.readable, (h.0.joined.readable, assigned_exprs ss rest h.1))

  assigned_driven : (ss : List SigId) (b : Block) → AreAssigned q slots ss b → driven q b ≡ numbers_of ss
  assigned_driven [] done h = refl
  assigned_driven [] (next x rest) h = absurd h
  assigned_driven (s ∷ ss) done h = absurd h
  assigned_driven (s ∷ ss) (next (choose arms) rest) h = absurd h
  assigned_driven (s ∷ ss) (next (assign t v place) rest) h =
      let one = signal_signals q t.0 s h.0.signal in
      let others = assigned_driven ss rest h.1 in
      λ i. one i ++ others i

  -- each of them gives a signal its slot
  record IsGiven (ss : List SigId) (g : Guarded) : Type 0 where
    guards : g.guards ≡ []
    signal : SigId
    among : is_among (numbers_of ss) signal.0 ≡ true
    assigned : IsAssigned q slots signal g.target g.value

  first_among : (a : ℕ) (xs : List ℕ) → ((a == a) || is_among xs a) ≡ true
  first_among a xs = ap (λ b. b || is_among xs a) (eq-eqb a a refl)

  more_among : (a b : ℕ) (xs : List ℕ) → is_among xs b ≡ true → ((a == b) || is_among xs b) ≡ true
  more_among a b xs e = or_second (a == b) (is_among xs b) e
    where
      or_second : (x y : Bool) → y ≡ true → (x || y) ≡ true
      or_second true y e = refl
      or_second false y e = e

  given : (ss : List SigId) (b : Block) (g : Guarded) → AreAssigned q slots ss b → Contains (guarded [] b) g → IsGiven ss g
  given [] done g h has = absurd (contains_none g has)
  given [] (next x rest) g h has = absurd h
  given (s ∷ ss) done g h has = absurd h
  given (s ∷ ss) (next (choose arms) rest) g h has = absurd h
  given (s ∷ ss) (next (assign t v place) rest) g h has =
      ⊎_elim
      (λ (same : record { guards = []; target = t; value = v; place = place } ≡ g). subst (IsGiven (s ∷ ss)) same (record { guards = refl; signal = s; among = first_among s.0 (numbers_of ss); assigned = h.0 }))
      (λ others. let r = given ss rest g h.1 others in record { guards = r.guards; signal = r.signal; among = more_among s.0 (r.signal).0 (numbers_of ss) r.among; assigned = r.assigned })
      (contains_cases (record { guards = []; target = t; value = v; place = place }) g (guarded [] rest) has)

  -- ---- what they leave

  IsNumberOf : List ℤ → List ℤ → SigId → ExprId → Type 0
  IsNumberOf env fin s value = wrap (signal_form q.signals s.0).signed (signal_form q.signals s.0).width (num q env value.0) ≡ at fin s.0

  HasNumbers : List ℤ → List ℤ → List SigId → Type 0
  HasNumbers env fin ss = (s : SigId) (value : ExprId) → is_among (numbers_of ss) s.0 ≡ true → IsJoined q (slice_index_or slots s.0 []) value → IsNumberOf env fin s value

  one_put : (env cur : List ℤ) (s : SigId) (t v : ExprId) → IsAssigned q slots s t v → s.0 < length q.signals → length cur ≡ length q.signals → FitsSignals q cur
      → put_number q (target_bits q env t.0) (num q env v.0) cur ≡ slice_set cur s.0 (wrap (signal_form q.signals s.0).signed (signal_form q.signals s.0).width (num q env v.0))
  one_put env cur s t v h there long fit =
      ap (λ places. put_number q places (num q env v.0) cur) (signal_bits q t.0 s h.signal env) ∙ put_whole q s.0 cur (num q env v.0) (omega (arith, there, long)) (fit s.0 there)

  assigned_puts : (env fin : List ℤ) (ss : List SigId) (b : Block) (cur : List ℤ) → AreAssigned q slots ss b → HasNumbers env fin ss → All (λ (s : SigId). s.0 < length q.signals) ss → length cur ≡ length q.signals → FitsSignals q cur
      → (u : ℕ) → is_among (numbers_of ss) u ≡ true → at (put q env b cur) u ≡ at fin u
  unfolding HasNumbers IsNumberOf
  assigned_puts env fin [] b cur h numbers there long fit u e = absurd (false≢true e)
  assigned_puts env fin (s ∷ ss) done cur h numbers there long fit u e = absurd h
  assigned_puts env fin (s ∷ ss) (next (choose arms) rest) cur h numbers there long fit u e = absurd h
  assigned_puts env fin (s ∷ ss) (next (assign t v place) rest) cur h numbers there long fit u e =
      let f : Form = signal_form q.signals s.0 in
      let n : ℤ = wrap f.signed f.width (num q env v.0) in
      let now : List ℤ = slice_set cur s.0 n in
      let here : s.0 < length q.signals = there 0 s (omega arith) in
      ap (λ x. at (put q env rest x) u) (one_put env cur s t v h.0 here long fit)
      ∙ ⊎_elim
      (λ (others : is_among (numbers_of ss) u ≡ true).
      assigned_puts env fin ss rest now h.1 (λ x value among joined. numbers x value (more_among s.0 x.0 (numbers_of ss) among) joined) (λ i d lt. there (suc i) d (omega (arith, lt))) (length-set cur s.0 n ∙ long)
      (set_fits q cur s.0 n (wrap_is_of f.signed f.width (num q env v.0)) fit) u others)
      (λ (last : is_among (numbers_of ss) u ≡ false).
      let same : s.0 ≡ u = is_first s.0 u (numbers_of ss) e last in
      put_other q env rest now u (ap (λ xs. is_among xs u) (assigned_driven ss rest h.1) ∙ last)
      ∙ ap (at now) (sym same) ∙ get_or-set_same cur s.0 n (pos 0) (omega (arith, here, long)) ∙ numbers s v (first_among s.0 (numbers_of ss)) h.0.joined ∙ ap (at fin) same)
      (cases_Bool (is_among (numbers_of ss) u))
    where
      is_first : (a b : ℕ) (xs : List ℕ) → ((a == b) || is_among xs b) ≡ true → is_among xs b ≡ false → a ≡ b
      is_first a b xs e last = ⊎_elim (λ (h : (a == b) ≡ true). eqb-true a b h) (λ (h : is_among xs b ≡ true). absurd (false≢true (sym last ∙ h))) (or_cases (a == b) (is_among xs b) e)

-- the number whose bits are those of a slot
joined_number : (q : Pooled) (env : List ℤ) (f : Form) (xs : List Source) (value : ExprId) (n : ℤ) → IsJoined q xs value → length xs ≡ f.width → IsOf f.signed f.width n → ((i : ℕ) (x : Source) → slice_get xs i ≡ Some x → source_bit q env x ≡ nat_bit (pattern f.width n) i)
    → wrap f.signed f.width (num q env value.0) ≡ n
joined_number q env f xs value n h size of bits =
    let m : ℤ = num q env value.0 in
    let width : (form q value.0).width ≡ f.width = ap (λ (g : Form). g.width) h.shape ∙ size in
    same_int f.signed f.width (wrap f.signed f.width m) n (wrap_is_of f.signed f.width m) of
    (λ k lt.
    let x = element xs k (omega (arith, lt, size)) in
    sym (bit_pattern (wrap f.signed f.width m) f.width k lt)
    ∙ ap (λ b. nat_bit b k) (pattern_wrap f.signed f.width m)
    ∙ ap (λ w. nat_bit (pattern w m) k) (sym width)
    ∙ h.bits env k x.0 x.1
    ∙ bits k x.0 x.1
    ∙ bit_pattern n f.width k lt)

-- lists of one length that have the same at each place
same_lists : (xs ys : List ℤ) (n : ℕ) → length xs ≡ n → length ys ≡ n → ((s : ℕ) → s < n → at xs s ≡ at ys s) → xs ≡ ys
same_lists [] [] n e f same = refl
same_lists [] (y ∷ ys) n e f same = absurd (omega (arith, e, f))
same_lists (x ∷ xs) [] n e f same = absurd (omega (arith, e, f))
same_lists (x ∷ xs) (y ∷ ys) zero e f same = absurd (omega (arith, e))
same_lists (x ∷ xs) (y ∷ ys) (suc n) e f same =
    let head : x ≡ y = same 0 (omega arith) in
    let tail : xs ≡ ys = same_lists xs ys n (omega (arith, e)) (omega (arith, f)) (λ s l. same (suc s) (omega (arith, l))) in
    λ i. head i ∷ tail i

-- ---- the flat statements of a process

module _ (p q : Pooled) (base : IsPool p) (clocked : Bool) (old new : Block) (ss : List SigId) (slots : List (List Source)) (shown : AreSlots (after (begins p clocked (driven p old)) (guarded [] old)) q slots) (targets : AreTargets p (guarded [] old))
    (listed : (s : ℕ) → is_among (numbers_of ss) s ≡ is_among (driven p old) s) (there : All (λ (s : SigId). s.0 < length p.signals) ss) (assigned : AreAssigned q slots ss new) where
  signals_same : signal_form q.signals ≡ signal_form p.signals
  signals_same = ap signal_form shown.more.signals

  drives : (s : ℕ) → is_among (driven q new) s ≡ is_among (driven p old) s
  drives s = ap (λ xs. is_among xs s) (assigned_driven q slots ss new assigned) ∙ listed s

  numbers_are : (env cur : List ℤ) → FitsSignals p env → FitsSignals p cur → length cur ≡ length p.signals → Starts p clocked (driven p old) env cur → HasNumbers q slots env (put p env old cur) ss
  unfolding HasNumbers IsNumberOf
  numbers_are env cur fit fits long starts s value among joined =
      let fin : List ℤ = put p env old cur in
      let slot = shown.each s.0 (sym (listed s.0) ∙ among) in
      let f : Form = signal_form p.signals s.0 in
      let here : s.0 < length p.signals = number_there s.0 ss there among in
      ap (λ (g : ℕ → Form). wrap (g s.0).signed (g s.0).width (num q env value.0)) signals_same
      ∙ joined_number q env f (slice_index_or slots s.0 []) value (at fin s.0) joined slot.size (put_fits p env old cur base targets fits s.0 here)
      (λ i x e. slot.bits env cur i x fit fits long starts e ∙ ap (λ now. nat_bit (pattern f.width (at now s.0)) i) (sym (put_is p env old cur)))
    where
      number_there : (u : ℕ) (xs : List SigId) → All (λ (x : SigId). x.0 < length p.signals) xs → is_among (numbers_of xs) u ≡ true → u < length p.signals
      number_there u [] h e = absurd (false≢true e)
      number_there u (x ∷ xs) h e =
          ⊎_elim (λ (same : (x.0 == u) ≡ true). let i : x.0 ≡ u = eqb-true x.0 u same in omega (arith, i, h 0 x (omega arith))) (λ rest. number_there u xs (λ k d lt. h (suc k) d (omega (arith, lt))) rest) (or_cases (x.0 == u) (is_among (numbers_of xs) u) e)

  puts : (env cur : List ℤ) → FitsSignals p env → FitsSignals p cur → length cur ≡ length p.signals → Starts p clocked (driven p old) env cur → put q env new cur ≡ put p env old cur
  puts env cur fit fits long starts =
      let sizes : length q.signals ≡ length p.signals = ap length shown.more.signals in
      let there' : All (λ (s : SigId). s.0 < length q.signals) ss = subst (λ n. All (λ (s : SigId). s.0 < n) ss) (sym sizes) there in
      same_lists (put q env new cur) (put p env old cur) (length p.signals) (put_length q env new cur ∙ long) (put_length p env old cur ∙ long)
      (λ u lt.
      ⊎_elim
      (λ (among : is_among (numbers_of ss) u ≡ true). assigned_puts q slots env (put p env old cur) ss new cur assigned (numbers_are env cur fit fits long starts) there' (long ∙ sym sizes) (fits_more p q base shown.more cur fits) u among)
      (λ (none : is_among (numbers_of ss) u ≡ false). put_other q env new cur u (drives u ∙ sym (listed u) ∙ none) ∙ sym (put_other p env old cur u (sym (listed u) ∙ none)))
      (cases_Bool (is_among (numbers_of ss) u)))

  needs_are : clocked ≡ false → (g : Guarded) (b c : Bit) → Contains (guarded [] new) g → AssignmentNeeds q g b c → SomeNeeds p (guarded [] old) b c
  needs_are comb g b c has need =
      let r = given q slots ss new g assigned has in
      let s : SigId = r.signal in
      let slot = shown.each s.0 (sym (listed s.0) ∙ r.among) in
      let xs : List Source = slice_index_or slots s.0 [] in
      let w : ℕ = (signal_form q.signals s.0).width in
      let aimed = map_of (aim_at s.0) (range_with_len 0 w) need.aim (subst (λ list. Contains list need.aim) (signal_aims q g.target.0 s (r.assigned).signal) need.may) in
      let i : ℕ = aimed.0 in
      let inside = (range_of 0 w i aimed.1).1 in
      let size : length xs ≡ w = slot.size ∙ ap (λ (f : ℕ → Form). (f s.0).width) (sym signals_same) in
      let width : (form q g.value.0).width ≡ length xs = ap (λ (f : Form). f.width) (r.assigned).joined.shape in
      let within : i < length xs = omega (arith, inside, size) in
      let x = element xs i within in
      let same : flat_map (λ (y : Guard). needed_whole q y.condition) g.guards ++ needed_indices q g.target.0 ++ needed_value q g.value (fixed_place (need.aim).spot) ≡ extended (form q g.value.0) (needed q g.value.0) i =
      λ j. flat_map (λ (y : Guard). needed_whole q y.condition) (r.guards j) ++ signal_indices q g.target.0 s (r.assigned).signal j ++ needed_value q g.value (fixed_place (sym aimed.2 j).spot) in
      let low : i < (form q g.value.0).width = omega (arith, within, width) in
      let own : extended (form q g.value.0) (needed q g.value.0) i ≡ needed q g.value.0 i =
      sym (cond_below i (form q g.value.0).width (needed q g.value.0 i) (if (form q g.value.0).signed then needed q g.value.0 ((form q g.value.0).width - 1) else []) low) in
      let reads : Contains (needed q g.value.0 i) c = subst (λ bits. Contains bits c) (same ∙ own) need.reads in
      subst (λ bit. SomeNeeds p (guarded [] old) bit c) (ap (λ (a : Aim). a.bit) aimed.2 ∙ need.writes) (slot.needs comb i x.0 c x.1 ((r.assigned).joined.needs i x.0 c x.1 reads))

  pub slotted_is_flat : IsFlatBody p q clocked old new
  slotted_is_flat = record {
    plain = assigned_plain q slots ss new assigned;
    readable = All-from_recursion (IsReadable q) (block_exprs new) (assigned_exprs q slots ss new assigned);
    drives = drives;
    puts = puts;
    needs = needs_are;
  }

-- ---- what a process has before it begins

pub usable_readable : (c : Circuit) (es : List ExprId) → AllByRecursion (IsUsable c) es → AllByRecursion (IsReadable c.pool) es
usable_readable c [] h = tt
usable_readable c (e ∷ es) h = (record { there = h.0.there; resolved = h.0.resolved }, usable_readable c es h.1)

all_among : (driven xs : List ℕ) → ((s : ℕ) → is_among xs s ≡ true → is_among driven s ≡ true) → AllByRecursion (λ s. IsTrue (is_among driven s)) xs
all_among driven [] h = tt
all_among driven (x ∷ xs) h =
    (h x (ap (λ b. b || is_among xs x) (eq-eqb x x refl)), all_among driven xs (λ s e. h s (or_second (x == s) (is_among xs s) e)))
  where
    or_second : (a b : Bool) → b ≡ true → (a || b) ≡ true
    or_second true b e = refl
    or_second false b e = e

pub own_targets : (p : Pooled) (driven : List ℕ) (gs : List Guarded) → AreTargets p gs → ((s : ℕ) → is_among (targets_of p gs) s ≡ true → is_among driven s ≡ true) → AllByRecursion (IsOwn p driven) gs
own_targets p driven [] targets h = tt
own_targets p driven (g ∷ gs) targets h =
    let left : (s : ℕ) → is_among (target_signals p g.target.0) s ≡ true → is_among driven s ≡ true =
    λ s e. h s (among_append (target_signals p g.target.0) (targets_of p gs) s ∙ ap (λ b. b || is_among (targets_of p gs) s) e) in
    (record { target = targets.0; signals = all_among driven (target_signals p g.target.0) left }, own_targets p driven gs targets.1 (λ s e. h s (among_append (target_signals p g.target.0) (targets_of p gs) s ∙ or_true (is_among (target_signals p g.target.0) s) (is_among (targets_of p gs) s) e)))
  where
    or_true : (a b : Bool) → b ≡ true → (a || b) ≡ true
    or_true true b e = refl
    or_true false b e = e

pub process_begun : (c : Circuit) (x : DesignProcess) (clocked : Bool) (q : Pooled) (slots : List (List Source)) → IsPool c.pool → IsProcess c x → AreSlots (begins c.pool clocked (driven c.pool x.body)) q slots
    → IsBegun (begins c.pool clocked (driven c.pool x.body)) [] q slots None (block_exprs x.body) (guarded [] x.body)
process_begun c x clocked q slots rules h shown = record {
  rules = rules;
  shown = shown;
  taken = λ env fit. refl;
  readable = usable_readable c (block_exprs x.body) h.expressions;
  own = own_targets c.pool (driven c.pool x.body) (guarded [] x.body) h.targets (λ s e. e);
}

contained_among : (ss : List SigId) (s : SigId) → Contains ss s → is_among (numbers_of ss) s.0 ≡ true
contained_among [] s has = absurd (contains_none s has)
contained_among (x ∷ ss) s has =
    ⊎_elim (λ (same : x ≡ s). ap (λ (b : Bool). b || is_among (numbers_of ss) s.0) (eq-eqb x.0 s.0 (ap (λ (y : SigId). y.0) same))) (λ others. or_true (x.0 == s.0) (is_among (numbers_of ss) s.0) (contained_among ss s others)) (contains_cases x s ss has)
  where
    or_true : (a b : Bool) → b ≡ true → (a || b) ≡ true
    or_true true b e = refl
    or_true false b e = e

pub slots_ready : (t : SoFar) (q : Pooled) (slots : List (List Source)) (ss : List SigId) → IsPool t.pool → IsPool q → AreSlots t q slots → ((s : ℕ) → is_among (numbers_of ss) s ≡ is_among t.driven s) → All (λ (s : SigId). s.0 < length t.pool.signals) ss → AreReady q slots ss
slots_ready t q slots ss base rules shown listed there = record {
  rules = rules;
  size = shown.size ∙ sym (ap length shown.more.signals);
  there = subst (λ n. All (λ (s : SigId). s.0 < n) ss) (sym (ap length shown.more.signals)) there;
  few = λ s has. let slot = shown.each s.0 (sym (listed s.0) ∙ contained_among ss s has) in omega (arith, slot.size, signal_few t.pool s.0 base);
  sources = λ s has. (shown.each s.0 (sym (listed s.0) ∙ contained_among ss s has)).sources;
}
