-- The design of a module with those below it keeps to the rules of designs.
use Rattle.std.proofs.Common.{◌≡◌, ◌≢◌, ℕ, zero, suc, ◌+◌, ◌<◌, ◌==◌, nat_eq, Bool, true, false, IsTrue, not, ◌&&◌, ◌||◌, cond, List, [], ◌∷◌, ◌++◌, map, length, Option, Some, None, slice_index_or, position, refl, sym, ap, ◌∙◌, subst, arith}
use Rattle.std.specs.Prelude.{option_map}
use Rattle.std.specs.List.{AllByRecursion, IsDistinct, list_any, flat_map, filter, filter_map, cons_option, range_with_len}
use Rattle.std.proofs.lemmas.Bool.{false≢true, eqb-true, eq-eqb}
use Rattle.std.proofs.lemmas.List.Quantifiers.{position-Some}
use Rattle.lists.specs.Texts.{text_eq}
use Rattle.lists.specs.Names.{IsName}
use Rattle.design_ir.specs.declared.ids.ExprId.{ExprId}
use Rattle.design_ir.specs.declared.ids.DomainId.{DomainId}
use Rattle.design_ir.specs.declared.signal.Sig.{Sig}
use Rattle.design_ir.specs.declared.domain.Domain.{Domain}
use Rattle.design_ir.specs.declared.port.Port.{Port}
use Rattle.design_ir.specs.declared.process.Side.{Side}
use Rattle.design_ir.specs.declared.process.Side.TheVariants.{Comb, Clocked}
use Rattle.design_ir.specs.declared.process.Process.{Process}
use Rattle.design_ir.specs.Pools.{Pooled}
use Rattle.design_ir.specs.Targets.{is_target, target_signals}
use Rattle.design_ir.specs.Guards.{Guarded, guarded, driven, block_exprs}
use Rattle.design_ir.specs.Circuits.{is_among}
use Rattle.design_ir.specs.Designs.{share}
use Rattle.fragment_walks.specs.Reads.{is_driven, is_given, is_read}
use Rattle.fragment_walks.specs.Walks.{Contents}
use Rattle.fragment_walks.proofs.Lists.{all_filtered, all_imp, all_joined, all_mapped, all_unmapped, any-append, any_none, none_any, or_none, map_map}
use Rattle.clock_domains.specs.declared.top.TopPorts.{TopPorts}
use Rattle.clock_domains.specs.declared.top.TopPorts.TheVariants.{Members, Held, Loose}
use Rattle.clock_domains.specs.Resolvable.{IsPlain, IsSideOf, AreTopPorts}
use Rattle.clock_domains.specs.Resolved.{domain_number, held_port, port_of, top_ports, signals_of, driver_refusal, loose_port, first_of, first_refusal, statement_refusal}
use Rattle.clock_domains.proofs.ChoiceLaws.{range_all}

-- ---- a pool with more signals

-- ports are ports of a pool that has more signals
pub top_wider : (q w : Pooled) (top : TopPorts) → ((s : ℕ) → s < length q.signals → s < length w.signals) → AreTopPorts q top → AreTopPorts w top
top_wider q w (Members given) longer h = record { each = all_imp (λ (p : Port) k. record { there = longer p.sig.0 k.there; name = k.name }) given h.each; distinct = h.distinct }
top_wider q w (Held given) longer h = record { each = all_imp (λ (p : Port) k. record { there = longer p.sig.0 k.there; name = k.name }) given h.each; distinct = h.distinct }
top_wider q w Loose longer h = tt

-- ---- sides have domains

abbrev pub IsThere : List Domain → Option DomainId → Type 0
IsThere ds None = Unit {0}
IsThere ds (Some d) = d.0 < length ds

pub domain_there : (ds : List Domain) (s : Side) → IsThere ds (domain_number ds s)
domain_there ds Comb = tt
domain_there ds (Clocked n) = by_place (position (λ (d : Domain). text_eq d.name n) ds) refl
  where
    by_place : (o : Option ℕ) → position (λ (d : Domain). text_eq d.name n) ds ≡ o → IsThere ds (option_map (λ (k : ℕ). record { 0 = k }) o)
    by_place None e = tt
    by_place (Some k) e = within ds k e
      where
        within : (xs : List Domain) (k : ℕ) → position (λ (d : Domain). text_eq d.name n) xs ≡ Some k → k < length xs
        within [] k e = cc
        within (x ∷ xs) k e = (position-Some (λ (d : Domain). text_eq d.name n) (x ∷ xs) k x e).0

-- ---- lists

pub distinct_filtered : {A : Type 0} (f : A → ℕ) (p : A → Bool) (xs : List A) → IsDistinct nat_eq (map f xs) → IsDistinct nat_eq (map f (filter p xs))
unfolding IsDistinct
distinct_filtered f p [] h = tt
distinct_filtered f p (x ∷ xs) h =
    split (all_mapped (λ y. nat_eq (f x) y ≡ false) f (filter p xs) (all_filtered (λ z. nat_eq (f x) (f z) ≡ false) p xs (all_unmapped (λ y. nat_eq (f x) y ≡ false) f xs h.0))) (distinct_filtered f p xs h.1) (p x)
  where
    split : AllByRecursion (λ y. nat_eq (f x) y ≡ false) (map f (filter p xs)) → IsDistinct nat_eq (map f (filter p xs)) → (b : Bool) → IsDistinct nat_eq (map f (cond b (x ∷ filter p xs) (filter p xs)))
    split apart rest true = (apart, rest)
    split apart rest false = rest

pub distinct_joined : (xs ys : List ℕ) → IsDistinct nat_eq xs → IsDistinct nat_eq ys → AllByRecursion (λ y. is_among xs y ≡ false) ys → IsDistinct nat_eq (xs ++ ys)
unfolding IsDistinct
distinct_joined [] ys h k apart = k
distinct_joined (x ∷ xs) ys h k apart = (
  all_joined (λ y. nat_eq x y ≡ false) xs ys h.0 (all_imp (λ y a. (or_none (x == y) (is_among xs y) a).0) ys apart),
  distinct_joined xs ys h.1 k (all_imp (λ y a. (or_none (x == y) (is_among xs y) a).1) ys apart),
)

pub not_equal : (a b : ℕ) → a ≢ b → nat_eq a b ≡ false
not_equal a b ne = split (nat_eq a b) refl
  where
    split : (t : Bool) → nat_eq a b ≡ t → t ≡ false
    split false e = refl
    split true e = absurd (ne (eqb-true a b e))

pub not_flipped : (a b : ℕ) → nat_eq a b ≡ false → nat_eq b a ≡ false
not_flipped a b h = not_equal b a (λ e. false≢true (sym h ∙ eq-eqb a b (sym e)))

pub range_distinct : (a n : ℕ) → IsDistinct nat_eq (range_with_len a n)
unfolding IsDistinct
range_distinct a zero = tt
range_distinct a (suc n) = (range_all (λ y. nat_eq a y ≡ false) (a + 1) n (λ s low high. not_equal a s (λ e. omega (arith, e, low))), range_distinct (a + 1) n)

pub map_same : (xs : List ℕ) → map (λ (s : ℕ). s) xs ≡ xs
map_same [] = refl
map_same (x ∷ xs) = ap (λ ys. x ∷ ys) (map_same xs)

-- ---- loose ports

abbrev is_loose : Pooled → List Process → Contents → ℕ → Bool
is_loose q own all a = is_driven q own a || (is_read q all.processes all.memories a && not (is_given q all.processes all.memories a))

loose_step : (q : Pooled) (ds : List Domain) (own : List Process) (all : Contents) (a n : ℕ)
    → signals_of (filter_map (loose_port q ds own all) (range_with_len a (suc n))) ≡ cond (is_loose q own all a) (a ∷ signals_of (filter_map (loose_port q ds own all) (range_with_len (a + 1) n))) (signals_of (filter_map (loose_port q ds own all) (range_with_len (a + 1) n)))
loose_step q ds own all a n = bools (is_driven q own a) (is_read q all.processes all.memories a && not (is_given q all.processes all.memories a)) (filter_map (loose_port q ds own all) (range_with_len (a + 1) n))
  where
    bools : (x y : Bool) (rest : List Port) → signals_of (cons_option (cond x (Some (port_of q ds false a)) (cond y (Some (port_of q ds true a)) None)) rest) ≡ cond (x || y) (a ∷ signals_of rest) (signals_of rest)
    bools true y rest = refl
    bools false true rest = refl
    bools false false rest = refl

loose_past : (q : Pooled) (ds : List Domain) (own : List Process) (all : Contents) (k a n : ℕ) → k < a → AllByRecursion (λ y. nat_eq k y ≡ false) (signals_of (filter_map (loose_port q ds own all) (range_with_len a n)))
loose_past q ds own all k a zero h = tt
loose_past q ds own all k a (suc n) h = subst (AllByRecursion (λ y. nat_eq k y ≡ false)) (sym (loose_step q ds own all a n)) (split (is_loose q own all a) (loose_past q ds own all k (a + 1) n (omega (arith, h))))
  where
    split : (b : Bool) → AllByRecursion (λ y. nat_eq k y ≡ false) (signals_of (filter_map (loose_port q ds own all) (range_with_len (a + 1) n)))
        → AllByRecursion (λ y. nat_eq k y ≡ false) (cond b (a ∷ signals_of (filter_map (loose_port q ds own all) (range_with_len (a + 1) n))) (signals_of (filter_map (loose_port q ds own all) (range_with_len (a + 1) n))))
    split true rest = (not_equal k a (λ e. omega (arith, e, h)), rest)
    split false rest = rest

loose_distinct : (q : Pooled) (ds : List Domain) (own : List Process) (all : Contents) (a n : ℕ) → IsDistinct nat_eq (signals_of (filter_map (loose_port q ds own all) (range_with_len a n)))
unfolding IsDistinct
loose_distinct q ds own all a zero = tt
loose_distinct q ds own all a (suc n) = subst (IsDistinct nat_eq) (sym (loose_step q ds own all a n)) (split (is_loose q own all a) (loose_distinct q ds own all (a + 1) n))
  where
    split : (b : Bool) → IsDistinct nat_eq (signals_of (filter_map (loose_port q ds own all) (range_with_len (a + 1) n)))
        → IsDistinct nat_eq (cond b (a ∷ signals_of (filter_map (loose_port q ds own all) (range_with_len (a + 1) n))) (signals_of (filter_map (loose_port q ds own all) (range_with_len (a + 1) n))))
    split true rest = (loose_past q ds own all a (a + 1) n (omega arith), rest)
    split false rest = rest

pub top_distinct : (q : Pooled) (ds : List Domain) (own : List Process) (all : Contents) (top : TopPorts) → AreTopPorts q top → IsDistinct nat_eq (signals_of (top_ports q ds own all top))
top_distinct q ds own all (Members given) h = h.distinct
top_distinct q ds own all (Held given) h = subst (IsDistinct nat_eq) (sym (map_map (held_port ds (is_given q all.processes all.memories)) (λ (p : Port). p.sig.0) given)) h.distinct
top_distinct q ds own all Loose h = loose_distinct q ds own all 0 (length q.signals)

-- ---- names of signals

pub name_at : (xs : List Sig) (s : ℕ) (d : Sig) → s < length xs → AllByRecursion (λ (x : Sig). IsName x.name) xs → IsName (slice_index_or xs s d).name
name_at [] s d low h = absurd (omega (arith, low))
name_at (x ∷ xs) zero d low h = h.0
name_at (x ∷ xs) (suc s) d low h = name_at xs s d (omega (arith, low)) h.1

-- a signal driven by none of these inputs, by statements that are not refused
pub none_some : {A : Type 0} (b : Bool) (x : A) (o : Option A) → cond b (Some x) o ≡ None → (b ≡ false) × (o ≡ None)
none_some true x o e = cc
none_some false x o e = (refl, e)

pub first_none : {A : Type 0} (a b : Option A) → first_of a b ≡ None → (a ≡ None) × (b ≡ None)
first_none None b e = (refl, e)
first_none (Some x) b e = cc

share_joined : (xs ys zs : List ℕ) → share xs zs ≡ false → share ys zs ≡ false → share (xs ++ ys) zs ≡ false
share_joined xs ys zs h k = any-append (is_among zs) xs ys ∙ ap (λ b. b || list_any (is_among zs) ys) h ∙ k

guarded_free : (q : Pooled) (ins before : List ℕ) (gs : List Guarded) → first_refusal (statement_refusal q ins before) gs ≡ None
    → (share (flat_map (λ (g : Guarded). target_signals q g.target.0) gs) ins ≡ false) × (share (flat_map (λ (g : Guarded). target_signals q g.target.0) gs) before ≡ false)
guarded_free q ins before [] e = (refl, refl)
guarded_free q ins before (g ∷ gs) e =
    let parts = first_none (statement_refusal q ins before g) (first_refusal (statement_refusal q ins before) gs) e in
    let rest = guarded_free q ins before gs parts.1 in
    let here = none_some (share (target_signals q g.target.0) ins) _ _ parts.0 in
    let there = none_some (share (target_signals q g.target.0) before) _ _ here.1 in
    (share_joined (target_signals q g.target.0) (flat_map (λ (g : Guarded). target_signals q g.target.0) gs) ins here.0 rest.0, share_joined (target_signals q g.target.0) (flat_map (λ (g : Guarded). target_signals q g.target.0) gs) before there.0 rest.1)

any_has : (p : ℕ → Bool) (xs : List ℕ) (s : ℕ) → is_among xs s ≡ true → p s ≡ true → list_any p xs ≡ true
any_has p [] s h e = absurd (false≢true h)
any_has p (x ∷ xs) s h e = split (x == s) refl h (any_has p xs s)
  where
    or_true : (a b : Bool) → b ≡ true → (a || b) ≡ true
    or_true true b k = refl
    or_true false b k = k

    split : (b : Bool) → (x == s) ≡ b → (b || is_among xs s) ≡ true → (is_among xs s ≡ true → p s ≡ true → list_any p xs ≡ true) → (p x || list_any p xs) ≡ true
    split true f h rest = ap (λ b. b || list_any p xs) (ap p (eqb-true x s f) ∙ e)
    split false f h rest = or_true (p x) (list_any p xs) (rest h e)

-- lists that share nothing share no number
pub apart_at : (xs ys : List ℕ) (s : ℕ) → share xs ys ≡ false → is_among ys s ≡ true → is_among xs s ≡ false
apart_at xs ys s h in' = split (is_among xs s) refl
  where
    split : (b : Bool) → is_among xs s ≡ b → b ≡ false
    split false e = refl
    split true e = absurd (false≢true (sym h ∙ any_has (is_among ys) xs s e in'))

pub share_flipped : (xs ys : List ℕ) → share xs ys ≡ false → share ys xs ≡ false
share_flipped xs ys h = any_none (is_among xs) ys (each ys (λ s in'. apart_at xs ys s h in'))
  where
    each : (zs : List ℕ) → ((s : ℕ) → is_among zs s ≡ true → is_among xs s ≡ false) → AllByRecursion (λ s. is_among xs s ≡ false) zs
    each [] f = tt
    each (z ∷ zs) f = (f z (ap (λ b. b || is_among zs z) (eq-eqb z z refl)), each zs (λ s in'. f s (or_true (z == s) (is_among zs s) in')))
      where
        or_true : (a b : Bool) → b ≡ true → (a || b) ≡ true
        or_true true b k = refl
        or_true false b k = k

-- lists that share nothing with two lists joined share nothing with either
pub share_both : (xs a b : List ℕ) → share xs (a ++ b) ≡ false → (share xs a ≡ false) × (share xs b ≡ false)
share_both xs a b h = (any_none (is_among a) xs (all_imp (λ s k. k.0) xs parts), any_none (is_among b) xs (all_imp (λ s k. k.1) xs parts))
  where
    parts : AllByRecursion (λ s. (is_among a s ≡ false) × (is_among b s ≡ false)) xs
    parts = all_imp (λ s k. or_none (is_among a s) (is_among b s) (sym (any-append (λ x. x == s) a b) ∙ k)) xs (none_any (is_among (a ++ b)) xs h)

-- what is driven by processes that are not refused
pub record AreFree (q : Pooled) (ins before : List ℕ) (ps : List Process) : Type 0 where
  pub inputs : AllByRecursion (λ (p : Process). share (driven q p.body) ins ≡ false) ps
  pub earlier : AllByRecursion (λ (p : Process). share (driven q p.body) before ≡ false) ps
  pub apart : IsDistinct share (map (λ (p : Process). driven q p.body) ps)

pub are_free : (q : Pooled) (ins before : List ℕ) (ps : List Process) → driver_refusal q ins before ps ≡ None → AreFree q ins before ps
unfolding IsDistinct
are_free q ins before [] e = record { inputs = tt; earlier = tt; apart = tt }
are_free q ins before (p ∷ ps) e =
    let parts = first_none (first_refusal (statement_refusal q ins before) (guarded [] p.body)) (driver_refusal q ins (before ++ driven q p.body) ps) e in
    let here = guarded_free q ins before (guarded [] p.body) parts.0 in
    let rest = are_free q ins (before ++ driven q p.body) ps parts.1 in
    record {
      inputs = (here.0, rest.inputs);
      earlier = (here.1, all_imp (λ (x : Process) k. (share_both (driven q x.body) before (driven q p.body) k).0) ps rest.earlier);
      apart = (all_mapped (λ ys. share (driven q p.body) ys ≡ false) (λ (x : Process). driven q x.body) ps (all_imp (λ (x : Process) k. share_flipped (driven q x.body) (driven q p.body) (share_both (driven q x.body) before (driven q p.body) k).1) ps rest.earlier), rest.apart);
    }
