-- The ports that are chosen by marks are those of the definition.
use Rattle.std.proofs.Common.{◌≡◌, inl, inr, ℕ, zero, suc, ◌+◌, ◌-◌, ◌<◌, ◌≤◌, Bool, true, false, ◌&&◌, if◌then◌else◌, not, List, [], ◌∷◌, ◌++◌, map, length, Option, Some, None, refl, sym, ap, ◌∙◌, subst, arith, append-nil}
use Rattle.std.specs.List.{AllByRecursion, filter, filter_map, flat_map, range_with_len}
use Rattle.std.specs.Option.{option_map_or}
use Rattle.std.proofs.lemmas.Bool.{false≢true, cases_lt}
use Rattle.std.proofs.lemmas.List.{get_or_past}
use Rattle.std.proofs.lemmas.List.Elements.{filter_map-append}
use Rattle.design_ir.specs.declared.ids.SigId.{SigId}
use Rattle.design_ir.specs.declared.port.Port.{Port}
use Rattle.design_ir.specs.declared.domain.Domain.{Domain}
use Rattle.design_ir.specs.declared.process.Process.{Process}
use Rattle.design_ir.specs.Pools.{Pooled}
use Rattle.design_ir.specs.PoolRules.{IsPool}
use Rattle.design_ir.specs.Circuits.{is_among}
use Rattle.fragment_walks.specs.Marks.{Flag, is_marked}
use Rattle.fragment_walks.specs.Reads.{is_driven, is_given, is_read, read_roots}
use Rattle.fragment_walks.specs.Walks.{Contents}
use Rattle.fragment_walks.proofs.Lists.{all_imp, all_joined, all_mapped}
use Rattle.clock_domains.specs.declared.top.TopPorts.{TopPorts}
use Rattle.clock_domains.specs.declared.top.TopPorts.TheVariants.{Members, Held, Loose}
use Rattle.clock_domains.specs.Resolvable.{AreTopPorts}
use Rattle.clock_domains.specs.Resolved.{has_width, held_port, loose_port, name_among, port_of, top_ports, signals_of, reset_port, domain_ports, ports_of_domain, ports_of, and_new}
use Rattle.clock_domains.specs.Chosen.{is_new, known_port, known_ports, IsKnown, IsSignal, IsResetThere}
use Rattle.clock_domains.proofs.DriverLaws.{is_driven_none, read_none}

-- ---- what is marked is a signal of the pool

pub flag_there : (marks : List Bool) (test : ℕ → Bool) (n : ℕ) → Flag marks test → ((s : ℕ) → n ≤ s → test s ≡ false) → (s : ℕ) → is_marked marks s ≡ true → s < n
flag_there marks test n f none s is =
    elim (cases_lt s n) [
      | inl below ↦ below
      | inr past ↦ elim (cases_lt s 16384) [
        | inl small ↦ absurd (false≢true (sym (none s (omega (arith, past))) ∙ sym (f.each s small) ∙ is))
        | inr large ↦ absurd (false≢true (sym (get_or_past marks s false (omega (arith, large, f.size))) ∙ is))
      ]
    ]

pub flags_known : (q : Pooled) (own : List Process) (all : Contents) (mine driven read : List Bool) → IsPool q → Flag mine (is_driven q own) → Flag driven (is_given q all.processes all.memories) → Flag read (is_read q all.processes all.memories) → IsKnown q mine driven read
flags_known q own all mine driven read rules o d r = record {
  own_size = o.size;
  driven_size = d.size;
  read_size = r.size;
  own_there = flag_there mine (is_driven q own) (length q.signals) o (λ s le. is_driven_none q own s rules le);
  read_there = flag_there read (is_read q all.processes all.memories) (length q.signals) r (λ s le. read_none q (read_roots q all.processes all.memories) s rules le);
}

-- ---- lists

filter_agree : {A : Type 0} (p q : A → Bool) (xs : List A) → AllByRecursion (λ x. p x ≡ q x) xs → filter p xs ≡ filter q xs
filter_agree p q [] h = refl
filter_agree p q (x ∷ xs) h = let a = h.0 in let b = filter_agree p q xs h.1 in cc

filter_map_agree : {A B : Type 0} (f g : A → Option B) (xs : List A) → AllByRecursion (λ x. f x ≡ g x) xs → filter_map f xs ≡ filter_map g xs
filter_map_agree f g [] h = refl
filter_map_agree f g (x ∷ xs) h = let a = h.0 in let b = filter_map_agree f g xs h.1 in cc

filter_map_none : {A B : Type 0} (f : A → Option B) (xs : List A) → AllByRecursion (λ x. f x ≡ None) xs → filter_map f xs ≡ []
filter_map_none f [] h = refl
filter_map_none f (x ∷ xs) h = let a = h.0 in let b = filter_map_none f xs h.1 in cc

map_on : {A B : Type 0} (f g : A → B) (xs : List A) → AllByRecursion (λ x. f x ≡ g x) xs → map f xs ≡ map g xs
map_on f g [] h = refl
map_on f g (x ∷ xs) h = let a = h.0 in let b = map_on f g xs h.1 in cc

pub range_all : (P : ℕ → Type 0) (a n : ℕ) → ((s : ℕ) → a ≤ s → s < a + n → P s) → AllByRecursion P (range_with_len a n)
range_all P a zero h = tt
range_all P a (suc n) h = (h a (omega arith) (omega arith), range_all P (a + 1) n (λ s low high. h s (omega (arith, low)) (omega (arith, high))))

pub range_split : (a n m : ℕ) → range_with_len a (n + m) ≡ range_with_len a n ++ range_with_len (a + n) m
range_split a zero m = ap (range_with_len a) (let e : 0 + m ≡ m = omega arith in e) ∙ ap (λ k. range_with_len k m) (let e : a ≡ a + 0 = omega arith in e)
range_split a (suc n) m =
    ap (range_with_len a) (let e : suc n + m ≡ suc (n + m) = omega arith in e)
    ∙ ap (λ xs. a ∷ xs) (range_split (a + 1) n m ∙ ap (λ k. range_with_len (a + 1) n ++ range_with_len k m) (let e : a + 1 + n ≡ a + suc n = omega arith in e))

-- a range up to another bound, where nothing past the first one gives anything
pub range_shorter : {B : Type 0} (f : ℕ → Option B) (n m : ℕ) → n ≤ m → ((s : ℕ) → n ≤ s → f s ≡ None) → filter_map f (range_with_len 0 m) ≡ filter_map f (range_with_len 0 n)
range_shorter f n m le none =
    ap (λ k. filter_map f (range_with_len 0 k)) (let e : m ≡ n + (m - n) = omega (arith, le) in e)
    ∙ ap (filter_map f) (range_split 0 n (m - n))
    ∙ filter_map-append f (range_with_len 0 n) (range_with_len (0 + n) (m - n))
    ∙ ap (λ xs. filter_map f (range_with_len 0 n) ++ xs) (filter_map_none f (range_with_len (0 + n) (m - n)) (range_all (λ s. f s ≡ None) (0 + n) (m - n) (λ s low high. none s (omega (arith, low)))))
    ∙ append-nil (filter_map f (range_with_len 0 n))

-- ---- the ports

port_by : (q : Pooled) (ds : List Domain) (s : ℕ) (a b c a' b' c' : Bool) → a ≡ a' → b ≡ b' → c ≡ c'
    → (if a then Some (port_of q ds false s) else (if b && not c then Some (port_of q ds true s) else None)) ≡ (if a' then Some (port_of q ds false s) else (if b' && not c' then Some (port_of q ds true s) else None))
port_by q ds s a b c a' b' c' e f g =
    ap (λ x. if x then Some (port_of q ds false s) else (if b && not c then Some (port_of q ds true s) else None)) e
    ∙ ap (λ x. if a' then Some (port_of q ds false s) else (if x && not c then Some (port_of q ds true s) else None)) f
    ∙ ap (λ x. if a' then Some (port_of q ds false s) else (if b' && not x then Some (port_of q ds true s) else None)) g

loose_none : (q : Pooled) (ds : List Domain) (own : List Process) (all : Contents) (s : ℕ) → IsPool q → length q.signals ≤ s → loose_port q ds own all s ≡ None
loose_none q ds own all s rules le =
    port_by q ds s (is_driven q own s) (is_read q all.processes all.memories s) (is_given q all.processes all.memories s) false false (is_given q all.processes all.memories s) (is_driven_none q own s rules le) (read_none q (read_roots q all.processes all.memories) s rules le) refl

loose_same : (q : Pooled) (ds : List Domain) (own : List Process) (all : Contents) (mine driven read : List Bool) → IsPool q → Flag mine (is_driven q own) → Flag driven (is_given q all.processes all.memories) → Flag read (is_read q all.processes all.memories)
    → filter_map (known_port q ds (is_marked mine) (is_marked driven) (is_marked read)) (range_with_len 0 (length mine)) ≡ top_ports q ds own all Loose
loose_same q ds own all mine driven read rules o d r =
    let same : (s : ℕ) → s < length mine → known_port q ds (is_marked mine) (is_marked driven) (is_marked read) s ≡ loose_port q ds own all s =
    λ s low. port_by q ds s (is_marked mine s) (is_marked read s) (is_marked driven s) (is_driven q own s) (is_read q all.processes all.memories s) (is_given q all.processes all.memories s) (o.each s (omega (arith, low, o.size))) (r.each s (omega (arith, low, o.size))) (d.each s (omega (arith, low, o.size))) in
    filter_map_agree (known_port q ds (is_marked mine) (is_marked driven) (is_marked read)) (loose_port q ds own all) (range_with_len 0 (length mine)) (range_all (λ s. known_port q ds (is_marked mine) (is_marked driven) (is_marked read) s ≡ loose_port q ds own all s) 0 (length mine) (λ s low high. same s (omega (arith, high))))
    ∙ range_shorter (loose_port q ds own all) (length q.signals) (length mine) (omega (arith, rules.few_signals, o.size)) (λ s le. loose_none q ds own all s rules le)

known_same : (q : Pooled) (ds : List Domain) (own : List Process) (all : Contents) (mine driven read : List Bool) (top : TopPorts) → IsPool q → AreTopPorts q top → Flag mine (is_driven q own) → Flag driven (is_given q all.processes all.memories) → Flag read (is_read q all.processes all.memories) → known_ports q ds mine driven read top ≡ top_ports q ds own all top
known_same q ds own all mine driven read (Members given) rules h o d r = refl
known_same q ds own all mine driven read (Held given) rules h o d r =
    map_on (held_port ds (is_marked driven)) (held_port ds (is_given q all.processes all.memories)) given
    (all_imp (λ p k. ap (λ (b : Bool). record p { name = name_among ds p.sig.0 p.name; is_input = not b }) (d.each p.sig.0 (omega (arith, k.there, rules.few_signals)))) given h.each)
known_same q ds own all mine driven read Loose rules h o d r = loose_same q ds own all mine driven read rules o d r

AreSmall : Pooled → List Port → Type 0
AreSmall q ports = AllByRecursion (λ (p : Port). p.sig.0 < length q.signals) ports

loose_there : (q : Pooled) (ds : List Domain) (own : List Process) (all : Contents) (a n : ℕ) → a + n ≤ length q.signals → AreSmall q (filter_map (loose_port q ds own all) (range_with_len a n))
unfolding AreSmall
loose_there q ds own all a zero le = tt
loose_there q ds own all a (suc n) le = by_port (loose_port q ds own all a) refl (loose_there q ds own all (a + 1) n (omega (arith, le)))
  where
    by_test : (p : Port) (x y : Bool) → (if x then Some (port_of q ds false a) else (if y then Some (port_of q ds true a) else None)) ≡ Some p → p.sig.0 < length q.signals
    by_test p true y e = let same : port_of q ds false a ≡ p = cc in subst (λ (x : Port). x.sig.0 < length q.signals) same (omega (arith, le))
    by_test p false true e = let same : port_of q ds true a ≡ p = cc in subst (λ (x : Port). x.sig.0 < length q.signals) same (omega (arith, le))
    by_test p false false e = cc

    by_port : (o : Option Port) → loose_port q ds own all a ≡ o → AllByRecursion (λ (p : Port). p.sig.0 < length q.signals) (filter_map (loose_port q ds own all) (range_with_len (a + 1) n)) → AllByRecursion (λ (p : Port). p.sig.0 < length q.signals) (filter_map (loose_port q ds own all) (range_with_len a (suc n)))
    by_port None e rest = subst (λ xs. AllByRecursion (λ (p : Port). p.sig.0 < length q.signals) xs) (sym (cons_none e)) rest
      where
        cons_none : loose_port q ds own all a ≡ None → filter_map (loose_port q ds own all) (range_with_len a (suc n)) ≡ filter_map (loose_port q ds own all) (range_with_len (a + 1) n)
        cons_none e = let r = filter_map (loose_port q ds own all) (range_with_len (a + 1) n) in cc
    by_port (Some p) e rest = subst (λ xs. AllByRecursion (λ (p : Port). p.sig.0 < length q.signals) xs) (sym (cons_some e)) (by_test p (is_driven q own a) (is_read q all.processes all.memories a && not (is_given q all.processes all.memories a)) e, rest)
      where
        cons_some : loose_port q ds own all a ≡ Some p → filter_map (loose_port q ds own all) (range_with_len a (suc n)) ≡ p ∷ filter_map (loose_port q ds own all) (range_with_len (a + 1) n)
        cons_some e = let r = filter_map (loose_port q ds own all) (range_with_len (a + 1) n) in cc

pub top_there : (q : Pooled) (ds : List Domain) (own : List Process) (all : Contents) (top : TopPorts) → AreTopPorts q top → AllByRecursion (λ (p : Port). p.sig.0 < length q.signals) (top_ports q ds own all top)
unfolding AreSmall
top_there q ds own all (Members given) h = all_imp (λ p k. k.there) given h.each
top_there q ds own all (Held given) h = all_mapped (λ (p : Port). p.sig.0 < length q.signals) (held_port ds (is_given q all.processes all.memories)) given (all_imp (λ p k. k.there) given h.each)
top_there q ds own all Loose h = loose_there q ds own all 0 (length q.signals) (omega arith)

-- ---- the ports of domains

resets_same : (q : Pooled) (ds : List Domain) (driven : List Bool) (test : ℕ → Bool) (o : Option SigId) → IsPool q → Flag driven test → IsResetThere q o → option_map_or (reset_port q ds (is_marked driven)) o [] ≡ option_map_or (reset_port q ds test) o []
resets_same q ds driven test None rules f h = refl
resets_same q ds driven test (Some s) rules f h = ap (λ (b : Bool). if b then [] else port_of q ds true s.0 ∷ []) (f.each s.0 (omega (arith, h, rules.few_signals)))

-- of some of all domains
some_same : (q : Pooled) (ds : List Domain) (driven : List Bool) (test : ℕ → Bool) (some : List Domain) → IsPool q → Flag driven test → AllByRecursion (IsSignal q) some → flat_map (ports_of_domain q ds (is_marked driven)) some ≡ flat_map (ports_of_domain q ds test) some
some_same q ds driven test [] rules f h = refl
some_same q ds driven test (d ∷ some) rules f h =
    ap (λ ps. (port_of q ds true d.clk.0 ∷ ps) ++ flat_map (ports_of_domain q ds (is_marked driven)) some) (resets_same q ds driven test d.rst rules f h.0.reset)
    ∙ ap (λ ps. ports_of_domain q ds test d ++ ps) (some_same q ds driven test some rules f h.1)

pub domains_same : (q : Pooled) (driven : List Bool) (test : ℕ → Bool) (ds : List Domain) → IsPool q → Flag driven test → AllByRecursion (IsSignal q) ds → domain_ports q (is_marked driven) ds ≡ domain_ports q test ds
domains_same q driven test ds = some_same q ds driven test ds

reset_there : (q : Pooled) (ds : List Domain) (driven : ℕ → Bool) (o : Option SigId) → IsResetThere q o → AllByRecursion (λ (p : Port). p.sig.0 < length q.signals) (option_map_or (reset_port q ds driven) o [])
reset_there q ds driven None h = tt
reset_there q ds driven (Some s) h = split (driven s.0)
  where
    split : (b : Bool) → AllByRecursion (λ (p : Port). p.sig.0 < length q.signals) (if b then [] else port_of q ds true s.0 ∷ [])
    split true = tt
    split false = (h, tt)

-- they are signals
some_there : (q : Pooled) (ds : List Domain) (driven : ℕ → Bool) (some : List Domain) → AllByRecursion (IsSignal q) some → AllByRecursion (λ (p : Port). p.sig.0 < length q.signals) (flat_map (ports_of_domain q ds driven) some)
some_there q ds driven [] h = tt
some_there q ds driven (d ∷ some) h =
    all_joined (λ (p : Port). p.sig.0 < length q.signals) (ports_of_domain q ds driven d) (flat_map (ports_of_domain q ds driven) some) (h.0.clock, reset_there q ds driven d.rst h.0.reset) (some_there q ds driven some h.1)

pub domain_there : (q : Pooled) (driven : ℕ → Bool) (ds : List Domain) → AllByRecursion (IsSignal q) ds → AllByRecursion (λ (p : Port). p.sig.0 < length q.signals) (domain_ports q driven ds)
domain_there q driven ds = some_there q ds driven ds

-- ---- all ports

pub chosen_same : (q : Pooled) (domains : List Domain) (own : List Process) (all : Contents) (is_port mine driven read : List Bool) (top : TopPorts) → IsPool q → AreTopPorts q top → AllByRecursion (IsSignal q) domains → Flag is_port (is_among (signals_of (domain_ports q (is_marked driven) domains)))
    → Flag mine (is_driven q own) → Flag driven (is_given q all.processes all.memories) → Flag read (is_read q all.processes all.memories) → domain_ports q (is_marked driven) domains ++ filter (is_new q (is_marked is_port)) (known_ports q domains mine driven read top) ≡ ports_of q domains own all top
chosen_same q domains own all is_port mine driven read top rules h signals f o d r =
    let before = domain_ports q (is_marked driven) domains in
    ap (λ xs. before ++ filter (is_new q (is_marked is_port)) xs) (known_same q domains own all mine driven read top rules h o d r)
    ∙ ap (λ xs. before ++ xs)
    (filter_agree (is_new q (is_marked is_port)) (λ (p : Port). not (is_among (signals_of before) p.sig.0) && has_width q p.sig.0) (top_ports q domains own all top)
    (all_imp (λ p low. ap (λ (b : Bool). not b && has_width q p.sig.0) (f.each p.sig.0 (omega (arith, low, rules.few_signals)))) (top_ports q domains own all top) (top_there q domains own all top h)))
    ∙ ap (λ xs. and_new q xs (top_ports q domains own all top)) (domains_same q driven (is_given q all.processes all.memories) domains rules d signals)
