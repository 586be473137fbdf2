-- Domains that are made one after another.
use Rattle.std.proofs.Common.{◌≡◌, ℕ, suc, ◌+◌, ◌*◌, ◌<◌, ◌≤◌, nat_lt, nat_le, ◌||◌, not, Bool, true, false, cond, if◌then◌else◌, List, [], ◌∷◌, ◌++◌, map, length, take, drop, Option, Some, None, is_some, position, slice_get, refl, sym, ap, ◌∙◌, subst, arith, append_assoc, append-nil}
use Rattle.std.specs.Prelude.{option_map}
use Rattle.std.specs.List.{AllByRecursion, find, flat_map, list_any}
use Rattle.std.proofs.lemmas.Bool.Decides.{nat_tests}
use Rattle.std.proofs.lemmas.List.{length-append}
use Rattle.std.proofs.lemmas.List.Elements.{filter-append}
use Rattle.std.proofs.lemmas.List.Concat.{flat_map-append}
use Rattle.lists.specs.Texts.{text_eq}
use Rattle.lists.proofs.TextLaws.{text_eq_true}
use Rattle.design_ir.specs.declared.signal.Sig.{Sig}
use Rattle.design_ir.specs.declared.ids.SigId.{SigId}
use Rattle.design_ir.specs.declared.domain.Domain.{Domain}
use Rattle.design_ir.specs.declared.domain.DomainDef.{DomainDef}
use Rattle.design_ir.specs.declared.refusal.PoolStop.{PoolStop}
use Rattle.design_ir.specs.declared.refusal.PoolStop.TheVariants as pool
use Rattle.design_ir.specs.Pools.{Pooled}
use Rattle.design_ir.specs.PoolRules as rules
use Rattle.design_ir.specs.PoolRules.{IsPool, IsRefusal, signal_bits, signal_added, signal_refusal}
use Rattle.fragment_walks.proofs.Lists.{any_map, or_none, take-push, take_and_drop}
use Rattle.clock_domains.specs.declared.stop.ResolveStop.{ResolveStop}
use Rattle.clock_domains.specs.declared.stop.ResolveStop.TheVariants as stop
use Rattle.clock_domains.specs.Resolved.{each_once, defined_domain, undefined_names, bit_signal, domain_signals, domain_at, domain_for, number_after, with_domains, domains_from, is_past_limit, limit_where}
use Rattle.clock_domains.specs.Made.{limit, stop_of, with_domain, is_tight, pool_for, is_tight_for, is_full, is_made, IsNameMade, IsNameOwed, AreMade}
use Rattle.clock_domains.specs.Stops.{IsOwed}
use Rattle.clock_domains.proofs.EachOnce.{once-push, once_any, once_grows, position_any, find_placed, find_nowhere}

pub signal_owed : (owed : Option PoolStop) (stop : PoolStop) → IsRefusal owed stop → IsOwed (option_map limit owed) (stop_of stop)
signal_owed owed pool.Width h = ap (option_map limit) h
signal_owed owed pool.BadOperand h = ap (option_map limit) h
signal_owed owed pool.Limit h = ap (option_map limit) h
signal_owed owed pool.NoMemory h = tt

-- ---- refusals

pub nothing_owed : (s : ResolveStop) (owed : Option ResolveStop) → IsOwed None s → IsOwed owed s
nothing_owed (stop.DomainClash p) owed h = absurd cc
nothing_owed (stop.NoReset p) owed h = absurd cc
nothing_owed (stop.TwoDrivers p) owed h = absurd cc
nothing_owed (stop.DrivenInput p) owed h = absurd cc
nothing_owed (stop.Limit p) owed h = absurd cc
nothing_owed stop.NoMemory owed h = tt

-- where a limit is owed, this is full
pub owed_where : (o : Option PoolStop) (full : Bool) (s : ResolveStop) → ((x : PoolStop) → o ≡ Some x → full ≡ true) → IsOwed (option_map limit o) s → IsOwed (limit_where full) s
owed_where None full s h owed = nothing_owed s (limit_where full) owed
owed_where (Some x) full s h owed = subst (λ b. IsOwed (limit_where b) s) (sym (h x refl)) owed

owed_both : (a b : Bool) (s : ResolveStop) → (a ≡ true → b ≡ true) → IsOwed (limit_where a) s → IsOwed (limit_where b) s
owed_both true b s h owed = subst (λ b. IsOwed (limit_where b) s) (sym (h refl)) owed
owed_both false b s h owed = nothing_owed s (limit_where b) owed

-- ---- room for signals

refused : (b : Bool) (x : PoolStop) → rules.limit_where b ≡ Some x → b ≡ true
refused true x e = refl
refused false x e = cc

accepted : (b : Bool) → rules.limit_where b ≡ None → b ≡ false
accepted true e = cc
accepted false e = refl

first_full : (n bits : ℕ) → (nat_le 16384 n || nat_lt 262144 (bits + 1)) ≡ true → (nat_lt 16384 (n + 2) || nat_lt 262144 (bits + 2)) ≡ true
first_full n bits h = grind (arith, nat_tests)

second_full : (n bits m c : ℕ) → m ≡ n + 1 → c ≡ bits + 1 → (nat_le 16384 m || nat_lt 262144 (c + 1)) ≡ true → (nat_lt 16384 (n + 2) || nat_lt 262144 (bits + 2)) ≡ true
second_full n bits m c e f h = grind (arith, nat_tests)

both_room : (n bits m c : ℕ) → m ≡ n + 1 → c ≡ bits + 1 → (nat_le 16384 m || nat_lt 262144 (c + 1)) ≡ false → (nat_lt 16384 (n + 2) || nat_lt 262144 (bits + 2)) ≡ false
both_room n bits m c e f h = grind (arith, nat_tests)

or_true : (a b : Bool) → b ≡ true → (a || b) ≡ true
or_true true b e = refl
or_true false b e = e

bits_more : (xs : List Sig) (y : Sig) → signal_bits (xs ++ y ∷ []) ≡ signal_bits xs + y.shape.width
bits_more [] y = omega arith
bits_more (x ∷ xs) y = omega (arith, bits_more xs y)

pub first_owed : (q : Pooled) (s : ResolveStop) → IsOwed (option_map limit (signal_refusal q 1)) s → IsOwed (limit_where (is_tight q)) s
first_owed q s owed =
    owed_where (signal_refusal q 1) (is_tight q) s
    (λ x e. first_full (length q.signals) (signal_bits q.signals) (refused (nat_le 16384 (length q.signals) || nat_lt 262144 (signal_bits q.signals + 1)) x e)) owed

pub second_owed : (q : Pooled) (name : List ℕ) (r : Pooled) (s : ResolveStop) → r ≡ signal_added q (bit_signal name) → IsOwed (option_map limit (signal_refusal r 1)) s → IsOwed (limit_where (is_tight q)) s
second_owed q name r s same owed =
    owed_where (signal_refusal r 1) (is_tight q) s
    (λ x e. second_full (length q.signals) (signal_bits q.signals) (length r.signals) (signal_bits r.signals) (ap (λ (p : Pooled). length p.signals) same ∙ length-append q.signals (bit_signal name ∷ []))
    (ap (λ (p : Pooled). signal_bits p.signals) same ∙ bits_more q.signals (bit_signal name)) (refused (nat_le 16384 (length r.signals) || nat_lt 262144 (signal_bits r.signals + 1)) x e)) owed

pub is_room : (q : Pooled) (name : List ℕ) (r : Pooled) → r ≡ signal_added q (bit_signal name) → signal_refusal r 1 ≡ None → is_tight q ≡ false
is_room q name r same fine =
    both_room (length q.signals) (signal_bits q.signals) (length r.signals) (signal_bits r.signals) (ap (λ (p : Pooled). length p.signals) same ∙ length-append q.signals (bit_signal name ∷ []))
    (ap (λ (p : Pooled). signal_bits p.signals) same ∙ bits_more q.signals (bit_signal name)) (accepted (nat_le 16384 (length r.signals) || nat_lt 262144 (signal_bits r.signals + 1)) fine)

-- ---- few domains

many : (n : ℕ) → 64 ≤ n → nat_le 64 n ≡ true
many n h = grind (arith, nat_tests)

few : (n : ℕ) → n < 64 → nat_le 64 n ≡ false
few n h = grind (arith, nat_tests)

pub full_many : (defined : Option Domain) (q : Pooled) (ds : List Domain) → 64 ≤ length ds → is_full defined q ds ≡ true
full_many defined q ds h = ap (λ b. b || is_tight_for defined q) (many (length ds) h)

pub full_few : (defined : Option Domain) (q : Pooled) (ds : List Domain) → length ds < 64 → is_full defined q ds ≡ is_tight_for defined q
full_few defined q ds h = ap (λ b. b || is_tight_for defined q) (few (length ds) h)

-- ---- the domain that is defined with a name

find_passes : {A : Type 0} (p : A → Bool) (xs : List A) (x : A) → find p xs ≡ Some x → p x ≡ true
find_passes p [] x e = cc
find_passes p (y ∷ xs) x e = split (p y) refl e (find_passes p xs x)
  where
    split : (b : Bool) → p y ≡ b → cond b (Some y) (find p xs) ≡ Some x → (find p xs ≡ Some x → p x ≡ true) → p x ≡ true
    split true f e rest = let same : y ≡ x = cc in subst (λ z. p z ≡ true) same f
    split false f e rest = rest e

find_all : {A : Type 0} (P : A → Type 0) (p : A → Bool) (xs : List A) (x : A) → AllByRecursion P xs → find p xs ≡ Some x → P x
find_all P p [] x h e = cc
find_all P p (y ∷ xs) x h e = split (p y) e (find_all P p xs x h.1)
  where
    split : (b : Bool) → cond b (Some y) (find p xs) ≡ Some x → (find p xs ≡ Some x → P x) → P x
    split true e rest = let same : y ≡ x = cc in subst P same h.0
    split false e rest = rest e

-- it has that name
pub defined_name : (definitions : List DomainDef) (n : List ℕ) (d : Domain) → defined_domain definitions n ≡ Some d → d.name ≡ n
defined_name definitions n d e = by (find (λ (x : DomainDef). text_eq x.domain.name n) definitions) refl e
  where
    by : (o : Option DomainDef) → find (λ (x : DomainDef). text_eq x.domain.name n) definitions ≡ o → option_map (λ (x : DomainDef). x.domain) o ≡ Some d → d.name ≡ n
    by None f e = cc
    by (Some x) f e = let same : x.domain ≡ d = cc in subst (λ (y : Domain). y.name ≡ n) same (text_eq_true x.domain.name n (find_passes (λ (x : DomainDef). text_eq x.domain.name n) definitions x f))

-- what holds of all that are defined holds of it
pub defined_all : (P : Domain → Type 0) (definitions : List DomainDef) (n : List ℕ) (d : Domain) → AllByRecursion (λ (x : DomainDef). P x.domain) definitions → defined_domain definitions n ≡ Some d → P d
defined_all P definitions n d h e = by (find (λ (x : DomainDef). text_eq x.domain.name n) definitions) refl e
  where
    by : (o : Option DomainDef) → find (λ (x : DomainDef). text_eq x.domain.name n) definitions ≡ o → option_map (λ (x : DomainDef). x.domain) o ≡ Some d → P d
    by None f e = cc
    by (Some x) f e = let same : x.domain ≡ d = cc in subst P same (find_all (λ (x : DomainDef). P x.domain) (λ (x : DomainDef). text_eq x.domain.name n) definitions x h f)

-- the first definition with a name
pub defined_at : (definitions : List DomainDef) (n : List ℕ) (k : ℕ) (x : DomainDef) → position (λ (d : DomainDef). text_eq d.domain.name n) definitions ≡ Some k → slice_get definitions k ≡ Some x → defined_domain definitions n ≡ Some x.domain
defined_at definitions n k x e at = ap (option_map (λ (d : DomainDef). d.domain)) (find_placed (λ (d : DomainDef). text_eq d.domain.name n) definitions k e ∙ at)

pub defined_none : (definitions : List DomainDef) (n : List ℕ) → position (λ (d : DomainDef). text_eq d.domain.name n) definitions ≡ None → defined_domain definitions n ≡ None
defined_none definitions n e = ap (option_map (λ (d : DomainDef). d.domain)) (find_nowhere (λ (d : DomainDef). text_eq d.domain.name n) definitions e)

-- ---- one name more

pub names_back : (definitions : List DomainDef) (m : ℕ) (names : List (List ℕ)) → map (λ (d : Domain). d.name) (domains_from definitions m names) ≡ names
names_back definitions m [] = refl
names_back definitions m (n ∷ names) =
    let o = defined_domain definitions n in
    ap (λ ns. (domain_for o m n).name ∷ ns) (names_back definitions (number_after o m) names) ∙ ap (λ x. x ∷ names) (by o refl)
  where
    by : (o : Option Domain) → defined_domain definitions n ≡ o → (domain_for o m n).name ≡ n
    by None e = refl
    by (Some d) e = defined_name definitions n d e

-- a domain was made where its name is one of these
pub made_any : (definitions : List DomainDef) (m : ℕ) (names : List (List ℕ)) (n : List ℕ) → is_made (domains_from definitions m names) n ≡ list_any (λ k. text_eq k n) names
made_any definitions m names n =
    position_any (λ (d : Domain). text_eq d.name n) (domains_from definitions m names)
    ∙ sym (any_map (λ k. text_eq k n) (λ (d : Domain). d.name) (domains_from definitions m names))
    ∙ ap (list_any (λ k. text_eq k n)) (names_back definitions m names)

-- a name that is not defined is one more whose domain is made
made_one : Option Domain → List ℕ → List (List ℕ)
made_one o n = if not (is_some o) then n ∷ [] else []

undefined-push : (definitions : List DomainDef) (names : List (List ℕ)) (n : List ℕ) → undefined_names definitions (names ++ n ∷ []) ≡ undefined_names definitions names ++ made_one (defined_domain definitions n) n
unfolding made_one
undefined-push definitions names n = filter-append (λ n. not (is_some (defined_domain definitions n))) names (n ∷ [])

made_count : Option Domain → ℕ
made_count (Some d) = 0
made_count None = 1

made_one_length : (o : Option Domain) (n : List ℕ) → length (made_one o n) ≡ made_count o
unfolding made_one made_count
made_one_length (Some d) n = refl
made_one_length None n = refl

undefined_count : (definitions : List DomainDef) (names : List (List ℕ)) (n : List ℕ) → length (undefined_names definitions (names ++ n ∷ [])) ≡ length (undefined_names definitions names) + made_count (defined_domain definitions n)
undefined_count definitions names n =
    ap length (undefined-push definitions names n) ∙ length-append (undefined_names definitions names) (made_one (defined_domain definitions n) n)
    ∙ ap (λ k. length (undefined_names definitions names) + k) (made_one_length (defined_domain definitions n) n)

with-push : (q : Pooled) (names : List (List ℕ)) (n : List ℕ) → with_domains q (names ++ n ∷ []) ≡ with_domain (with_domains q names) n
with-push q names n =
    ap (λ ss. record q { signals = q.signals ++ ss }) (flat_map-append domain_signals names (n ∷ []) ∙ ap (λ ss. flat_map domain_signals names ++ ss) (append-nil (domain_signals n)))
    ∙ ap (λ ss. record q { signals = ss }) (sym (append_assoc q.signals (flat_map domain_signals names) (domain_signals n)))

with_one : (q : Pooled) (names : List (List ℕ)) (o : Option Domain) (n : List ℕ) → with_domains q (names ++ made_one o n) ≡ pool_for o (with_domains q names) n
unfolding made_one
with_one q names (Some d) n = ap (with_domains q) (append-nil names)
with_one q names None n = with-push q names n

after_first : (o : Option Domain) (m : ℕ) (x : List ℕ) (rest : List (List ℕ)) → number_after o m + 2 * length rest ≡ m + 2 * length (if not (is_some o) then x ∷ rest else rest)
after_first (Some d) m x rest = refl
after_first None m x rest = omega arith

from-push : (definitions : List DomainDef) (m : ℕ) (names : List (List ℕ)) (n : List ℕ)
    → domains_from definitions m (names ++ n ∷ []) ≡ domains_from definitions m names ++ domain_for (defined_domain definitions n) (m + 2 * length (undefined_names definitions names)) n ∷ []
from-push definitions m [] n = ap (λ k. domain_for (defined_domain definitions n) k n ∷ []) (let e : m ≡ m + 2 * 0 = omega arith in e)
from-push definitions m (x ∷ names) n =
    let o = defined_domain definitions x in
    ap (λ ds. domain_for o m x ∷ ds) (from-push definitions (number_after o m) names n)
    ∙ ap (λ k. domain_for o m x ∷ (domains_from definitions (number_after o m) names ++ domain_for (defined_domain definitions n) k n ∷ [])) (after_first o m x (undefined_names definitions names))

signals_length : (xs : List Sig) (names : List (List ℕ)) → length (xs ++ flat_map domain_signals names) ≡ length xs + 2 * length names
signals_length xs [] = ap length (append-nil xs) ∙ (let e : length xs ≡ length xs + 2 * 0 = omega arith in e)
signals_length xs (n ∷ names) = omega (arith, length-append xs (flat_map domain_signals (n ∷ names)), length-append xs (flat_map domain_signals names), signals_length xs names)

bits_joined : (xs ys : List Sig) → signal_bits (xs ++ ys) ≡ signal_bits xs + signal_bits ys
bits_joined [] ys = omega arith
bits_joined (x ∷ xs) ys = omega (arith, bits_joined xs ys)

bits_of_domains : (names : List (List ℕ)) → signal_bits (flat_map domain_signals names) ≡ 2 * length names
bits_of_domains [] = omega arith
bits_of_domains (n ∷ names) = omega (arith, bits_of_domains names)

pub length_with : (q : Pooled) (names : List (List ℕ)) → length (with_domains q names).signals ≡ length q.signals + 2 * length names
length_with q names = signals_length q.signals names

bits_with : (q : Pooled) (names : List (List ℕ)) → signal_bits (with_domains q names).signals ≡ signal_bits q.signals + 2 * length names
bits_with q names = bits_joined q.signals (flat_map domain_signals names) ∙ ap (λ n. signal_bits q.signals + n) (bits_of_domains names)

pub domains_length : (definitions : List DomainDef) (m : ℕ) (names : List (List ℕ)) → length (domains_from definitions m names) ≡ length names
domains_length definitions m [] = refl
domains_length definitions m (n ∷ names) = ap suc (domains_length definitions (number_after (defined_domain definitions n) m) names)

-- ---- limits

-- so many names, of which so many have domains that are made
abbrev is_past : (n bits names made : ℕ) → Bool
is_past n bits names made = nat_lt 64 names || (nat_lt 16384 (n + 2 * made) || nat_lt 262144 (bits + 2 * made))

room_more : (n bits k j d l c : ℕ) (o : Option Domain) (q : Pooled) → l ≡ length q.signals → c ≡ signal_bits q.signals → d ≡ k → l ≡ n + 2 * j → c ≡ bits + 2 * j → is_past n bits k j ≡ false → (nat_le 64 d || is_tight_for o q) ≡ false → is_past n bits (k + 1) (j + made_count o) ≡ false
unfolding made_count
room_more n bits k j d l c (Some x) q _ _ e f g room h = let many = or_none (nat_le 64 d) false h in by many.0 room
  where
    by : nat_le 64 d ≡ false → (nat_lt 64 k || (nat_lt 16384 (n + 2 * j) || nat_lt 262144 (bits + 2 * j))) ≡ false → (nat_lt 64 (k + 1) || (nat_lt 16384 (n + 2 * (j + 0)) || nat_lt 262144 (bits + 2 * (j + 0)))) ≡ false
    by a b = grind (arith, nat_tests)
room_more n bits k j d l c None q s t e f g room h = by (length q.signals) (signal_bits q.signals) s t h
  where
    by : (l' c' : ℕ) → l ≡ l' → c ≡ c' → (nat_le 64 d || (nat_lt 16384 (l' + 2) || nat_lt 262144 (c' + 2))) ≡ false → (nat_lt 64 (k + 1) || (nat_lt 16384 (n + 2 * (j + 1)) || nat_lt 262144 (bits + 2 * (j + 1)))) ≡ false
    by l' c' a b h = grind (arith, nat_tests)

past_more : (n bits k j d l c m i : ℕ) (o : Option Domain) (q : Pooled) → l ≡ length q.signals → c ≡ signal_bits q.signals → k + 1 ≤ m → j + made_count o ≤ i → d ≡ k → l ≡ n + 2 * j → c ≡ bits + 2 * j → (nat_le 64 d || is_tight_for o q) ≡ true → is_past n bits m i ≡ true
unfolding made_count
past_more n bits k j d l c m i (Some x) q _ _ more some e f g h = by (nat_le 64 d) refl h
  where
    by : (b : Bool) → nat_le 64 d ≡ b → (b || false) ≡ true → (nat_lt 64 m || (nat_lt 16384 (n + 2 * i) || nat_lt 262144 (bits + 2 * i))) ≡ true
    by true a b = grind (arith, nat_tests)
    by false a b = cc
past_more n bits k j d l c m i None q s t more some e f g h = by (length q.signals) (signal_bits q.signals) s t h
  where
    by : (l' c' : ℕ) → l ≡ l' → c ≡ c' → (nat_le 64 d || (nat_lt 16384 (l' + 2) || nat_lt 262144 (c' + 2))) ≡ true → (nat_lt 64 m || (nat_lt 16384 (n + 2 * i) || nat_lt 262144 (bits + 2 * i))) ≡ true
    by l' c' a b h = grind (arith, nat_tests)

full_none : (n bits : ℕ) → n ≤ 16384 → bits ≤ 262144 → (nat_lt 64 0 || (nat_lt 16384 (n + 2 * 0) || nat_lt 262144 (bits + 2 * 0))) ≡ false
full_none n bits a b = grind (arith, nat_tests)

pub none_made : (q : Pooled) (definitions : List DomainDef) → IsPool q → AreMade q definitions [] q []
none_made q definitions rules = record {
  room = full_none (length q.signals) (signal_bits q.signals) rules.few_signals rules.few_bits;
  pool = ap (λ ss. record q { signals = ss }) (sym (append-nil q.signals));
  domains = refl;
}

module _ (q q' : Pooled) (definitions : List DomainDef) (names : List (List ℕ)) (n : List ℕ) (r : List Domain) (h : AreMade q definitions names q' r) where
  abbrev once : List (List ℕ)
  once = each_once names

  abbrev made : List (List ℕ)
  made = undefined_names definitions once

  abbrev o : Option Domain
  o = defined_domain definitions n

  long : length q'.signals ≡ length q.signals + 2 * length made
  long = ap (λ (x : Pooled). length x.signals) h.pool ∙ length_with q made

  wide : signal_bits q'.signals ≡ signal_bits q.signals + 2 * length made
  wide = ap (λ (x : Pooled). signal_bits x.signals) h.pool ∙ bits_with q made

  count : length r ≡ length once
  count = ap length h.domains ∙ domains_length definitions (length q.signals) once

  pub there : list_any (λ m. text_eq m n) names ≡ is_made r n
  there = sym (once_any names n) ∙ sym (ap (λ ds. is_made ds n) h.domains ∙ made_any definitions (length q.signals) once n)

  none_more : (r' : List Domain) (q'' : Pooled) → each_once (names ++ n ∷ []) ≡ once → (q'' ≡ q') × (r' ≡ r) → AreMade q definitions (names ++ n ∷ []) q'' r'
  none_more r' q'' same m = record {
    room = ap (is_past_limit q definitions) same ∙ h.room;
    pool = m.0 ∙ h.pool ∙ ap (λ ns. with_domains q (undefined_names definitions ns)) (sym same);
    domains = m.1 ∙ h.domains ∙ ap (domains_from definitions (length q.signals)) (sym same);
  }

  name_more : (r' : List Domain) (q'' : Pooled) → each_once (names ++ n ∷ []) ≡ once ++ n ∷ [] → (is_full o q' r ≡ false) × (q'' ≡ pool_for o q' n) × (r' ≡ r ++ domain_for o (length q'.signals) n ∷ []) → AreMade q definitions (names ++ n ∷ []) q'' r'
  name_more r' q'' same m = record {
    room =
        ap (is_past_limit q definitions) same
        ∙ ap (λ k. is_past (length q.signals) (signal_bits q.signals) k (length (undefined_names definitions (once ++ n ∷ [])))) (length-append once (n ∷ []))
        ∙ ap (is_past (length q.signals) (signal_bits q.signals) (length once + 1)) (undefined_count definitions once n)
        ∙ room_more (length q.signals) (signal_bits q.signals) (length once) (length made) (length r) (length q'.signals) (signal_bits q'.signals) o q' refl refl count long wide h.room m.0;
    pool =
        m.1 ∙ ap (λ x. pool_for o x n) h.pool ∙ sym (with_one q made o n) ∙ ap (with_domains q) (sym (undefined-push definitions once n)) ∙ ap (λ ns. with_domains q (undefined_names definitions ns)) (sym same);
    domains =
        m.2 ∙ ap (λ ds. ds ++ domain_for o (length q'.signals) n ∷ []) h.domains ∙ ap (λ k. domains_from definitions (length q.signals) once ++ domain_for o k n ∷ []) long ∙ sym (from-push definitions (length q.signals) once n)
        ∙ ap (domains_from definitions (length q.signals)) (sym same);
  }

  pub one_more : (r' : List Domain) (q'' : Pooled) → IsNameMade (is_made r n) o n q' r q'' r' → AreMade q definitions (names ++ n ∷ []) q'' r'
  one_more r' q'' m = by (is_made r n) (once-push names n ∙ ap (λ b. cond b once (once ++ n ∷ [])) there) m
    where
      by : (b : Bool) → each_once (names ++ n ∷ []) ≡ cond b once (once ++ n ∷ []) → IsNameMade b o n q' r q'' r' → AreMade q definitions (names ++ n ∷ []) q'' r'
      by true same m = none_more r' q'' same m
      by false same m = name_more r' q'' same m

  pub one_owed : (more : List (List ℕ)) (s : ResolveStop) → IsNameOwed (is_made r n) o q' r s → IsOwed (limit_where (is_past_limit q definitions (each_once ((names ++ n ∷ []) ++ more)))) s
  one_owed more s owed = by (is_made r n) (once-push names n ∙ ap (λ b. cond b once (once ++ n ∷ [])) there) owed
    where
      all : List (List ℕ)
      all = (names ++ n ∷ []) ++ more

      longer : (xs : List (List ℕ)) (x : List ℕ) → length xs ≤ length (xs ++ x ∷ [])
      longer xs x = omega (arith, length-append xs (x ∷ []))

      later : (xs : List (List ℕ)) (x : List ℕ) → length (undefined_names definitions xs) ≤ length (undefined_names definitions (xs ++ x ∷ []))
      later xs x = omega (arith, undefined_count definitions xs x)

      by : (b : Bool) → each_once (names ++ n ∷ []) ≡ cond b once (once ++ n ∷ []) → IsNameOwed b o q' r s → IsOwed (limit_where (is_past_limit q definitions (each_once all))) s
      by true same owed = nothing_owed s (limit_where (is_past_limit q definitions (each_once all))) owed
      by false same owed =
          owed_both (is_full o q' r) (is_past_limit q definitions (each_once all)) s
          (past_more (length q.signals) (signal_bits q.signals) (length once) (length made) (length r) (length q'.signals) (signal_bits q'.signals) (length (each_once all)) (length (undefined_names definitions (each_once all))) o q' refl refl
          (let a = once_grows length longer (names ++ n ∷ []) more in omega (arith, a, ap length same, length-append once (n ∷ [])))
          (let a = once_grows (λ xs. length (undefined_names definitions xs)) later (names ++ n ∷ []) more in omega (arith, a, ap (λ xs. length (undefined_names definitions xs)) same, undefined_count definitions once n)) count long wide) owed

pub made_turn : (q q' : Pooled) (definitions : List DomainDef) (names : List (List ℕ)) (i : ℕ) (n : List ℕ) (r r' : List Domain) (q'' : Pooled) → slice_get names i ≡ Some n → AreMade q definitions (take i names) q' r → IsNameMade (is_made r n) (defined_domain definitions n) n q' r q'' r' → AreMade q definitions (take (i + 1) names) q'' r'
made_turn q q' definitions names i n r r' q'' at h m = subst (λ xs. AreMade q definitions xs q'' r') (sym (take-push names i n at)) (one_more q q' definitions (take i names) n r h r' q'' m)

pub made_owed : (q q' : Pooled) (definitions : List DomainDef) (names : List (List ℕ)) (i : ℕ) (n : List ℕ) (r : List Domain) (s : ResolveStop) → slice_get names i ≡ Some n → AreMade q definitions (take i names) q' r → IsNameOwed (is_made r n) (defined_domain definitions n) q' r s → IsOwed (limit_where (is_past_limit q definitions (each_once names))) s
made_owed q q' definitions names i n r s at h owed =
    subst (λ xs. IsOwed (limit_where (is_past_limit q definitions (each_once xs))) s) (ap (λ xs. xs ++ drop (i + 1) names) (sym (take-push names i n at)) ∙ sym (take_and_drop names (i + 1)))
    (one_owed q q' definitions (take i names) n r h (drop (i + 1) names) s owed)

-- ---- one domain

pub domain_is : (name name' : List ℕ) (n : ℕ) (clk rst : SigId) → name ≡ name' → clk.0 ≡ n → rst.0 ≡ suc n → record { name = name; clk = clk; rst = Some rst; falling = false; async_reset = false } ≡ domain_at n name'
domain_is name name' n clk rst a b c =
    ap (λ m. record { name = m; clk = clk; rst = Some rst; falling = false; async_reset = false }) a
    ∙ ap (λ (k : ℕ). record { name = name'; clk = record { 0 = k }; rst = Some rst; falling = false; async_reset = false }) b
    ∙ ap (λ (k : ℕ). record { name = name'; clk = record { 0 = n }; rst = Some (record { 0 = k }); falling = false; async_reset = false }) c

pub next_signal : (q r : Pooled) (name : List ℕ) (s : ℕ) → r ≡ signal_added q (bit_signal name) → s ≡ length r.signals → s ≡ suc (length q.signals)
next_signal q r name s same e = omega (arith, e, ap (λ (p : Pooled). length p.signals) same, length-append q.signals (bit_signal name ∷ []))
