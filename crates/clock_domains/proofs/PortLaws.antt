-- Ports, one after another.
use Rattle.std.proofs.Common.{◌≡◌, ℕ, zero, suc, ◌+◌, ◌<◌, ◌≤◌, Bool, true, false, ◌||◌, cond, if◌then◌else◌, List, [], ◌∷◌, ◌++◌, map, length, take, Option, Some, None, slice_get, sym, ap, ◌∙◌, subst, arith, append-nil, append_assoc}
use Rattle.std.specs.List.{AllByRecursion, filter, filter_map, flat_map, range_with_len}
use Rattle.std.specs.Option.{option_map_or}
use Rattle.std.proofs.lemmas.List.Elements.{filter-append, filter_map-append}
use Rattle.std.proofs.lemmas.List.Concat.{flat_map-append}
use Rattle.design_ir.specs.declared.ids.SigId.{SigId}
use Rattle.design_ir.specs.declared.port.Port.{Port}
use Rattle.design_ir.specs.declared.domain.Domain.{Domain}
use Rattle.design_ir.specs.declared.memory.Memory.{Memory}
use Rattle.design_ir.specs.declared.process.Process.{Process}
use Rattle.design_ir.specs.Pools.{Pooled}
use Rattle.design_ir.specs.Circuits.{is_among}
use Rattle.fragment_walks.specs.Marks.{Flag, is_marked, marked}
use Rattle.fragment_walks.proofs.Lists.{all_imp, all_joined, take-push, map-push, map-append}
use Rattle.fragment_walks.proofs.Markings.{marked-append, marked_at, length_marked}
use Rattle.clock_domains.specs.declared.top.TopPorts.{TopPorts}
use Rattle.clock_domains.specs.declared.top.TopPorts.TheVariants.{Members, Held, Loose}
use Rattle.clock_domains.specs.Resolvable.{IsPortOf, ArePorts, AreTopPorts, top_inputs}
use Rattle.clock_domains.specs.Resolved.{domain_inputs, signals_of}
use Rattle.clock_domains.specs.Chosen.{IsSignal, IsResetThere}

-- these are marked beside those that were
abbrev pub IsMarking : List Bool → List ℕ → List Bool → Type 0
IsMarking old ss new = new ≡ marked ss old

pub marking_flag : (old : List Bool) (ss : List ℕ) (new : List Bool) → length old ≡ 16384 → ((s : ℕ) → is_marked old s ≡ false) → AllByRecursion (λ s. s < 16384) ss → IsMarking old ss new → Flag new (is_among ss)
marking_flag old ss new size none low h = record {
  size = ap length h ∙ length_marked ss old ∙ size;
  each = λ s small. ap (λ ms. is_marked ms s) h ∙ marked_at ss old s (subst (λ n. AllByRecursion (λ s. s < n) ss) (sym size) low) ∙ ap (λ b. b || is_among ss s) (none s);
}

pub small_signals : (ps : List Port) → AllByRecursion (λ (p : Port). p.sig.0 < 16384) ps → AllByRecursion (λ s. s < 16384) (signals_of ps)
small_signals [] h = tt
small_signals (p ∷ ps) h = (h.0, small_signals ps h.1)

pub small_filtered : (test : Port → Bool) (ps : List Port) → AllByRecursion (λ (p : Port). p.sig.0 < 16384) ps → AllByRecursion (λ s. s < 16384) (signals_of (filter test ps))
small_filtered test [] h = tt
small_filtered test (p ∷ ps) h = split (small_filtered test ps h.1) (test p)
  where
    split : AllByRecursion (λ s. s < 16384) (signals_of (filter test ps)) → (b : Bool) → AllByRecursion (λ s. s < 16384) (signals_of (cond b (p ∷ filter test ps) (filter test ps)))
    split rest true = (h.0, rest)
    split rest false = rest

pub ports_turn : (ps : List Port) (i : ℕ) (p : Port) (old cur new : List Bool) → slice_get ps i ≡ Some p → IsMarking old (signals_of (take i ps)) cur → new ≡ marked (p.sig.0 ∷ []) cur → IsMarking old (signals_of (take (i + 1) ps)) new
ports_turn ps i p old cur new at h k =
    k ∙ ap (marked (p.sig.0 ∷ [])) h ∙ sym (marked-append (signals_of (take i ps)) (p.sig.0 ∷ []) old) ∙ ap (λ ss. marked ss old) (sym (map-push (λ (p : Port). p.sig.0) (take i ps) p) ∙ ap signals_of (sym (take-push ps i p at)))

-- ---- lists that grow by what one element more gives

pub filtered_turn : {A B : Type 0} (f : List A → List B) (xs : List A) (i : ℕ) (x : A) (old cur new more : List B) → slice_get xs i ≡ Some x → f (take i xs ++ x ∷ []) ≡ f (take i xs) ++ more → cur ≡ old ++ f (take i xs) → new ≡ cur ++ more → new ≡ old ++ f (take (i + 1) xs)
filtered_turn f xs i x old cur new more at push h k =
    k ∙ ap (λ ys. ys ++ more) h ∙ append_assoc old (f (take i xs)) more ∙ ap (λ ys. old ++ ys) (sym push ∙ ap f (sym (take-push xs i x at)))

pub range-push : (a n : ℕ) → range_with_len a (n + 1) ≡ range_with_len a n ++ (a + n) ∷ []
range-push a n = ap (range_with_len a) (let e : n + 1 ≡ suc n = omega arith in e) ∙ push a n
  where
    push : (a n : ℕ) → range_with_len a (suc n) ≡ range_with_len a n ++ (a + n) ∷ []
    push a zero = ap (λ k. k ∷ []) (let e : a ≡ a + 0 = omega arith in e)
    push a (suc n) = ap (λ ks. a ∷ ks) (push (a + 1) n ∙ ap (λ k. range_with_len (a + 1) n ++ k ∷ []) (let e : a + 1 + n ≡ a + suc n = omega arith in e))

pub loose_turn : (f : ℕ → Option Port) (test : Port → Bool) (n : ℕ) (old cur new : List Port) → cur ≡ old ++ filter test (filter_map f (range_with_len 0 n)) → new ≡ cur ++ filter test (filter_map f (n ∷ [])) → new ≡ old ++ filter test (filter_map f (range_with_len 0 (n + 1)))
loose_turn f test n old cur new h k =
    k ∙ ap (λ ys. ys ++ filter test (filter_map f (n ∷ []))) h ∙ append_assoc old (filter test (filter_map f (range_with_len 0 n))) (filter test (filter_map f (n ∷ [])))
    ∙ ap (λ ys. old ++ ys)
    (sym (filter-append test (filter_map f (range_with_len 0 n)) (filter_map f (n ∷ []))) ∙ ap (filter test) (sym (filter_map-append f (range_with_len 0 n) (n ∷ [])) ∙ ap (λ m. filter_map f (range_with_len 0 n ++ m ∷ [])) (let e : n ≡ 0 + n = omega arith in e) ∙ ap (filter_map f) (sym (range-push 0 n))))

pub inputs_turn : (ps : List Port) (i : ℕ) (p : Port) (old cur new : List Bool) → slice_get ps i ≡ Some p → IsMarking old (signals_of (filter (λ (p : Port). p.is_input) (take i ps))) cur → new ≡ marked (signals_of (filter (λ (p : Port). p.is_input) (p ∷ []))) cur
    → IsMarking old (signals_of (filter (λ (p : Port). p.is_input) (take (i + 1) ps))) new
inputs_turn ps i p old cur new at h k =
    let test : Port → Bool = λ (p : Port). p.is_input in
    k ∙ ap (marked (signals_of (filter test (p ∷ [])))) h ∙ sym (marked-append (signals_of (filter test (take i ps))) (signals_of (filter test (p ∷ []))) old)
    ∙ ap (λ ss. marked ss old) (sym (map-append (λ (p : Port). p.sig.0) (filter test (take i ps)) (filter test (p ∷ []))) ∙ ap signals_of (sym (filter-append test (take i ps) (p ∷ [])) ∙ ap (filter test) (sym (take-push ps i p at))))

pub inputs_marked : (ds : List Domain) (i : ℕ) (d : Domain) (old cur new : List Bool) → slice_get ds i ≡ Some d → IsMarking old (flat_map domain_inputs (take i ds)) cur → new ≡ marked (domain_inputs d) cur → IsMarking old (flat_map domain_inputs (take (i + 1) ds)) new
inputs_marked ds i d old cur new at h k =
    k ∙ ap (marked (domain_inputs d)) h ∙ sym (marked-append (flat_map domain_inputs (take i ds)) (domain_inputs d) old)
    ∙ ap (λ ss. marked ss old) (ap (λ ss. flat_map domain_inputs (take i ds) ++ ss) (sym (append-nil (domain_inputs d))) ∙ sym (flat_map-append domain_inputs (take i ds) (d ∷ [])) ∙ ap (flat_map domain_inputs) (sym (take-push ds i d at)))

-- the inputs of all domains are small where those of each are
pub small_inputs : (n : ℕ) (ds : List Domain) → AllByRecursion (λ (d : Domain). AllByRecursion (λ s. s < n) (domain_inputs d)) ds → AllByRecursion (λ s. s < n) (flat_map domain_inputs ds)
small_inputs n [] h = tt
small_inputs n (d ∷ ds) h = all_joined (λ s. s < n) (domain_inputs d) (flat_map domain_inputs ds) h.0 (small_inputs n ds h.1)

-- those of ports beside those of domains
pub marking_both : (inputs ss : List ℕ) (old mid new : List Bool) → IsMarking old inputs mid → IsMarking mid ss new → IsMarking old (inputs ++ ss) new
marking_both inputs ss old mid new h k = k ∙ ap (marked ss) h ∙ sym (marked-append inputs ss old)

pub domains_turn : (f : Domain → List Port) (ds : List Domain) (i : ℕ) (d : Domain) (cur new : List Port) → slice_get ds i ≡ Some d → cur ≡ flat_map f (take i ds) → new ≡ cur ++ f d → new ≡ flat_map f (take (i + 1) ds)
domains_turn f ds i d cur new at h k =
    k ∙ ap (λ ps. ps ++ f d) h ∙ ap (λ ps. flat_map f (take i ds) ++ ps) (sym (append-nil (f d))) ∙ sym (flat_map-append f (take i ds) (d ∷ [])) ∙ ap (flat_map f) (sym (take-push ds i d at))

pub members_turn : (test : Port → Bool) (ps : List Port) (i : ℕ) (p : Port) (old cur new : List Port) → slice_get ps i ≡ Some p → cur ≡ old ++ filter test (take i ps) → new ≡ cur ++ filter test (p ∷ []) → new ≡ old ++ filter test (take (i + 1) ps)
members_turn test ps i p old cur new at = filtered_turn (filter test) ps i p old cur new (filter test (p ∷ [])) at (filter-append test (take i ps) (p ∷ []))

pub held_turn : (test : Port → Bool) (f : Port → Port) (ps : List Port) (i : ℕ) (p : Port) (old cur new : List Port) → slice_get ps i ≡ Some p → cur ≡ old ++ filter test (map f (take i ps)) → new ≡ cur ++ filter test (f p ∷ []) → new ≡ old ++ filter test (map f (take (i + 1) ps))
held_turn test f ps i p old cur new at =
    filtered_turn (λ xs. filter test (map f xs)) ps i p old cur new (filter test (f p ∷ [])) at (ap (filter test) (map-push f (take i ps) p) ∙ filter-append test (map f (take i ps)) (f p ∷ []))

-- ---- what is asked of marks

pub given_low : (q : Pooled) (n : ℕ) (ps : List Port) → length q.signals ≤ n → ArePorts q ps → AllByRecursion (λ (p : Port). p.sig.0 < n) ps
given_low q n ps le h = all_imp (λ (p : Port) (k : IsPortOf q p). let low : p.sig.0 < n = omega (arith, le, k.there) in low) ps h.each

-- the inputs of a domain whose signals are in a pool
domain_low : (q : Pooled) (n : ℕ) (d : Domain) → length q.signals ≤ n → IsSignal q d → AllByRecursion (λ s. s < n) (domain_inputs d)
domain_low q n d le h = (omega (arith, le, h.clock), at_once d.async_reset d.rst h.reset)
  where
    at_once : (b : Bool) (o : Option SigId) → IsResetThere q o → AllByRecursion (λ s. s < n) (if b then option_map_or (λ (s : SigId). s.0 ∷ []) o [] else [])
    at_once false o k = tt
    at_once true None k = tt
    at_once true (Some s) k = (omega (arith, le, k), tt)

pub domains_low : (q : Pooled) (n : ℕ) (ds : List Domain) → length q.signals ≤ n → AllByRecursion (IsSignal q) ds → AllByRecursion (λ (d : Domain). AllByRecursion (λ s. s < n) (domain_inputs d)) ds
domains_low q n ds le h = all_imp (λ (d : Domain) (k : IsSignal q d). domain_low q n d le k) ds h

pub inputs_low : (q : Pooled) (top : TopPorts) → length q.signals ≤ 16384 → AreTopPorts q top → AllByRecursion (λ s. s < 16384) (top_inputs top)
inputs_low q (Members ps) le h = small_filtered (λ (p : Port). p.is_input) ps (given_low q 16384 ps le h)
inputs_low q (Held ps) le h = tt
inputs_low q Loose le h = tt

-- marks by processes and memories that are the same
pub flag_same : (marks : List Bool) (test : List Process → List Memory → ℕ → Bool) (ps ps' : List Process) (ms ms' : List Memory) → ps ≡ ps' → ms ≡ ms' → Flag marks (test ps ms) → Flag marks (test ps' ms')
flag_same marks test ps ps' ms ms' e f h = subst (λ xs. Flag marks (test ps' xs)) f (subst (λ xs. Flag marks (test xs ms)) e h)
