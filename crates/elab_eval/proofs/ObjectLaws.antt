-- The signals that an object holds: each once, and each in the pool.
use Rattle.std.specs.Prelude.{◌≡◌, refl, ℕ, zero, suc, ◌+◌, ◌<◌, ◌||◌, not, nat_eq, Bool, true, false, cond, List, [], ◌∷◌, ◌++◌, map, length, take, get_or, slice_get, slice_index_or, Option, Some, None, option_and_then, option_map}
use Rattle.std.specs.List.{AllByRecursion, IsDistinct, filter, list_any}
use Rattle.std.specs.Ordering.{nat_cmp}
use Rattle.std.specs.BTreeMap.{is_at}
use Rattle.std.proofs.Common.{sym, ◌∙◌, ap, subst, arith, true≢false, add-one}
use Rattle.std.proofs.Math.Seq.{take-suc}
use Rattle.std.proofs.lemmas.List.{append-nil, map-append}
use Rattle.std.proofs.lemmas.List.Folds.{list_any-append}
use Rattle.std.proofs.lemmas.List.Elements.{filter-append}
use Rattle.std.proofs.lemmas.Bool.{eqb-true}
use Rattle.std.proofs.lemmas.Bool.Decides.{nat_tests}
use Rattle.lists.specs.Names.{IsName}
use Rattle.shape_rules.specs.Forms.{Form, unsigned}
use Rattle.py_values.specs.declared.val.Val.{Val}
use Rattle.py_values.specs.declared.val.ObjId.{ObjId}
use Rattle.py_heap.specs.Heaps.{Seen, row_at}
use Rattle.py_heap.specs.Objects.{attributes, first_in}
use Rattle.design_ir.specs.declared.ids.ExprId.{ExprId}
use Rattle.design_ir.specs.declared.ids.SigId.{SigId}
use Rattle.design_ir.specs.declared.expr.Expr.{Expr}
use Rattle.design_ir.specs.declared.expr.Expr.TheVariants as expr
use Rattle.design_ir.specs.declared.port.Port.{Port}
use Rattle.design_ir.specs.declared.signal.Sig.{Sig}
use Rattle.design_ir.specs.Pools.{Pooled}
use Rattle.design_ir.specs.PoolRules.{IsPool, IsInRange, AreExprs}
use Rattle.clock_domains.specs.declared.top.TopPorts.{TopPorts}
use Rattle.clock_domains.specs.declared.top.TopPorts.TheVariants as ports
use Rattle.clock_domains.specs.Resolved.{port_of}
use Rattle.clock_domains.specs.Resolvable.{IsPortOf, ArePorts, AreTopPorts}
use Rattle.amh_things.specs.Things.{thing_of, held_expr}
use Rattle.elab_store.specs.Stores.{Held}
use Rattle.elab_store.specs.declared.faces.ComponentObject.{ComponentObject}
use Rattle.elab_store.specs.Sound.{IsObject}
use Rattle.elab_store.specs.Components.{Components, object_at, ports_at}
use Rattle.elab_eval.specs.ComponentTops.{made_ports, component_ports}
use Rattle.elab_components.specs.Interfaces.{component_class}
use Rattle.elab_eval.specs.ObjectTops.{signal_in, held_signal, has_public_name, attribute_signal, attribute_signals, before_others, each_once, signal_ports, held_ports, ports_as}
use Rattle.elab_eval.specs.Elaborates.{ports_of}
use Rattle.elab_store.specs.Sound.{IsSound}
use Rattle.elab_acts.proofs.EachLaws.{all_map, all_filter, all_each}
use Rattle.elab_acts.proofs.PortLaws.{all_found}

-- ---- each once

-- the others than one
abbrev others : SigId → List SigId → List SigId
others y xs = filter (λ (x : SigId). not (nat_eq x.0 y.0)) xs

module _ (s y : SigId) (ys : List SigId) where
  kept : (here : Bool) → nat_eq s.0 y.0 ≡ here → others y (s ∷ []) ≡ cond here [] (s ∷ [])
  kept true e = ap (λ b. cond (not b) (s ∷ []) []) e
  kept false e = ap (λ b. cond (not b) (s ∷ []) []) e

  pushed : (here : Bool) → nat_eq s.0 y.0 ≡ here → others y (each_once ys ++ s ∷ []) ≡ others y (each_once ys) ++ cond here [] (s ∷ [])
  pushed here e = filter-append (λ (x : SigId). not (nat_eq x.0 y.0)) (each_once ys) (s ∷ []) ∙ ap (λ xs. others y (each_once ys) ++ xs) (kept here e)

  one_more : (here rest : Bool) → nat_eq s.0 y.0 ≡ here → each_once (ys ++ s ∷ []) ≡ cond rest (each_once ys) (each_once ys ++ s ∷ []) → each_once (y ∷ ys ++ s ∷ []) ≡ cond (here || rest) (each_once (y ∷ ys)) (each_once (y ∷ ys) ++ s ∷ [])
  one_more true true e ih = ap (λ xs. y ∷ others y xs) ih
  one_more false true e ih = ap (λ xs. y ∷ others y xs) ih
  one_more true false e ih = ap (λ xs. y ∷ others y xs) ih ∙ ap (λ (xs : List SigId). y ∷ xs) (pushed true e ∙ append-nil (others y (each_once ys)))
  one_more false false e ih = ap (λ xs. y ∷ others y xs) ih ∙ ap (λ (xs : List SigId). y ∷ xs) (pushed false e)

-- one signal more is put behind the others where it is none of them
pub each_once-push : (xs : List SigId) (s : SigId) (known : Bool) → list_any (nat_eq s.0) (map (λ (x : SigId). x.0) xs) ≡ known → each_once (xs ++ s ∷ []) ≡ cond known (each_once xs) (each_once xs ++ s ∷ [])
each_once-push [] s true e = absurd (true≢false (sym e))
each_once-push [] s false e = refl
each_once-push (y ∷ ys) s known e =
    one_more s y ys (nat_eq s.0 y.0) (list_any (nat_eq s.0) (map (λ (x : SigId). x.0) ys)) refl (each_once-push ys s (list_any (nat_eq s.0) (map (λ (x : SigId). x.0) ys)) refl)
    ∙ ap (λ b. cond b (each_once (y ∷ ys)) (each_once (y ∷ ys) ++ s ∷ [])) e

-- ---- one turn of the loop over signals

numbers_more : (ss : List SigId) (i : ℕ) (d : SigId) → i < length ss → take (i + 1) ss ≡ take i ss ++ get_or ss i d ∷ []
numbers_more ss i d h = ap (λ n. take n ss) (add-one i) ∙ take-suc ss i d h

-- the test by which a set of numbers is asked
same_test : (n q : ℕ) → is_at (nat_cmp n) q ≡ nat_eq q n
same_test n q = grind (arith, nat_tests)

or_last : (c b : Bool) → cond c true b ≡ (b || (c || false))
or_last true true = refl
or_last true false = refl
or_last false true = refl
or_last false false = refl

same_number : (n q : ℕ) (b : Bool) → cond (is_at (nat_cmp n) q) true b ≡ (b || (nat_eq q n || false))
same_number n q b = ap (λ c. cond c true b) (same_test n q) ∙ or_last (nat_eq q n) b

pub known_more : (ss : List SigId) (i q : ℕ) (d : SigId) (old new : Bool) → i < length ss → new ≡ cond (is_at (nat_cmp (get_or ss i d).0) q) true old
    → old ≡ list_any (nat_eq q) (map (λ (s : SigId). s.0) (take i ss)) → new ≡ list_any (nat_eq q) (map (λ (s : SigId). s.0) (take (i + 1) ss))
known_more ss i q d old new h is before =
    is
    ∙ same_number (get_or ss i d).0 q old
    ∙ ap (λ b. b || (nat_eq q (get_or ss i d).0 || false)) before
    ∙ sym (ap (λ xs. list_any (nat_eq q) (map (λ (s : SigId). s.0) xs)) (numbers_more ss i d h)
    ∙ ap (list_any (nat_eq q)) (map-append (λ (s : SigId). s.0) (take i ss) (get_or ss i d ∷ []))
    ∙ list_any-append (nat_eq q) (map (λ (s : SigId). s.0) (take i ss)) ((get_or ss i d).0 ∷ []))

-- a signal that was met before gives no port more
pub ports_more : (h : Held) (ss : List SigId) (i : ℕ) (d : SigId) (known : Bool) (old new : List Port) → i < length ss → list_any (nat_eq (get_or ss i d).0) (map (λ (s : SigId). s.0) (take i ss)) ≡ known
    → old ≡ signal_ports h (take i ss) → new ≡ cond known old (old ++ port_of h.pool [] true (get_or ss i d).0 ∷ []) → new ≡ signal_ports h (take (i + 1) ss)
ports_more h ss i d known old new l is before after =
    after
    ∙ ap (λ ps. cond known ps (ps ++ port_of h.pool [] true (get_or ss i d).0 ∷ [])) before
    ∙ by_known known
    ∙ sym (ap (signal_ports h) (numbers_more ss i d l) ∙ ap (map (λ (s : SigId). port_of h.pool [] true s.0)) (each_once-push (take i ss) (get_or ss i d) known is))
  where
    by_known : (b : Bool) → cond b (signal_ports h (take i ss)) (signal_ports h (take i ss) ++ port_of h.pool [] true (get_or ss i d).0 ∷ [])
        ≡ map (λ (s : SigId). port_of h.pool [] true s.0) (cond b (each_once (take i ss)) (each_once (take i ss) ++ get_or ss i d ∷ []))
    by_known true = refl
    by_known false = sym (map-append (λ (s : SigId). port_of h.pool [] true s.0) (each_once (take i ss)) (get_or ss i d ∷ []))

-- ---- no two are one

nat_eq_flips : (n m : ℕ) (b : Bool) → nat_eq n m ≡ false → nat_eq m n ≡ b → b ≡ false
nat_eq_flips n m false e f = refl
nat_eq_flips n m true e f = grind (arith, eqb-true m n f)

apart_from : (y : SigId) (xs : List SigId) → AllByRecursion (λ n. nat_eq y.0 n ≡ false) (map (λ (x : SigId). x.0) (others y xs))
apart_from y [] = tt
apart_from y (x ∷ xs) = by_test (nat_eq x.0 y.0) refl (apart_from y xs)
  where
    by_test : (b : Bool) → nat_eq x.0 y.0 ≡ b → AllByRecursion (λ n. nat_eq y.0 n ≡ false) (map (λ (x : SigId). x.0) (others y xs))
        → AllByRecursion (λ n. nat_eq y.0 n ≡ false) (map (λ (x : SigId). x.0) (cond (not b) (x ∷ others y xs) (others y xs)))
    by_test true e rest = rest
    by_test false e rest = (nat_eq_flips x.0 y.0 _ e refl, rest)

module _ (test : SigId → Bool) where
  one_of : (P : ℕ → Type 0) (b : Bool) (x : SigId) (xs : List SigId) → P x.0 → AllByRecursion P (map (λ (x : SigId). x.0) xs) → AllByRecursion P (map (λ (x : SigId). x.0) (cond b (x ∷ xs) xs))
  one_of P true x xs h rest = (h, rest)
  one_of P false x xs h rest = rest

  all_of : (P : ℕ → Type 0) (xs : List SigId) → AllByRecursion P (map (λ (x : SigId). x.0) xs) → AllByRecursion P (map (λ (x : SigId). x.0) (filter test xs))
  all_of P [] h = tt
  all_of P (x ∷ xs) h = one_of P (test x) x (filter test xs) h.0 (all_of P xs h.1)

  distinct_one : (b : Bool) (x : SigId) (xs : List SigId) → AllByRecursion (λ n. nat_eq x.0 n ≡ false) (map (λ (x : SigId). x.0) xs) → IsDistinct nat_eq (map (λ (x : SigId). x.0) xs)
      → IsDistinct nat_eq (map (λ (x : SigId). x.0) (cond b (x ∷ xs) xs))
  unfolding IsDistinct
  distinct_one true x xs h rest = (h, rest)
  distinct_one false x xs h rest = rest

  distinct_of : (xs : List SigId) → IsDistinct nat_eq (map (λ (x : SigId). x.0) xs) → IsDistinct nat_eq (map (λ (x : SigId). x.0) (filter test xs))
  unfolding IsDistinct
  distinct_of [] h = tt
  distinct_of (x ∷ xs) h = distinct_one (test x) x (filter test xs) (all_of (λ n. nat_eq x.0 n ≡ false) xs h.0) (distinct_of xs h.1)

once_distinct : (xs : List SigId) → IsDistinct nat_eq (map (λ (x : SigId). x.0) (each_once xs))
unfolding IsDistinct
once_distinct [] = tt
once_distinct (x ∷ xs) = (apart_from x (each_once xs), distinct_of (λ (y : SigId). not (nat_eq y.0 x.0)) (each_once xs) (once_distinct xs))

all_once : (P : SigId → Type 0) (xs : List SigId) → AllByRecursion P xs → AllByRecursion P (each_once xs)
all_once P [] h = tt
all_once P (x ∷ xs) h = (h.0, all_filter P (λ (y : SigId). not (nat_eq y.0 x.0)) (each_once xs) (all_once P xs h.1))

-- ---- each in the pool

signal_is : (o : Option Expr) (s : SigId) → signal_in o ≡ Some s → o ≡ Some (expr.Sig s)
signal_is (Some (expr.Sig t)) s e = cc
signal_is None s e = cc
signal_is (Some (expr.Const n f)) s e = cc
signal_is (Some (expr.Unary o a)) s e = cc
signal_is (Some (expr.Binary o a b)) s e = cc
signal_is (Some (expr.Mux c a b)) s e = cc
signal_is (Some (expr.Slice a low width)) s e = cc
signal_is (Some (expr.Cat es)) s e = cc
signal_is (Some (expr.Part a offset width stride)) s e = cc
signal_is (Some (expr.Pick index es)) s e = cc
signal_is (Some (expr.Cast a signed)) s e = cc
signal_is (Some (expr.Matches a patterns)) s e = cc
signal_is (Some (expr.Reset domain place)) s e = cc

sig_there : (sigs : List Sig) (es : List Expr) (known : List Form) (k : ℕ) (s : SigId) → AreExprs sigs known es → slice_get es k ≡ Some (expr.Sig s) → s.0 < length sigs
sig_there sigs [] known k s h e = cc
sig_there sigs (x ∷ es) known zero s h e = let same : x ≡ expr.Sig s = cc in subst (λ y. IsInRange sigs (λ k. slice_index_or known k (unsigned 0)) y) same h.0.parts
sig_there sigs (x ∷ es) known (suc k) s h e = sig_there sigs es _ k s h.1 e

module _ (seen : Seen) (h : Held) (rules : IsPool h.pool) where
  held_there : (v : Val) (s : SigId) → held_signal h v ≡ Some s → s.0 < length h.pool.signals
  held_there v s e = by_expr (held_expr (thing_of h.store.things v)) (signal_is _ s e)
    where
      by_expr : (o : Option ExprId) → option_and_then (λ (e : ExprId). slice_get h.pool.exprs e.0) o ≡ Some (expr.Sig s) → s.0 < length h.pool.signals
      by_expr None e = cc
      by_expr (Some d) e = sig_there h.pool.signals h.pool.exprs [] d.0 s rules.exprs e

  attribute_there : (b : Bool) (v : Val) (s : SigId) → cond b (held_signal h v) None ≡ Some s → s.0 < length h.pool.signals
  attribute_there true v s e = held_there v s e
  attribute_there false v s e = cc

  first_there : (o : Option SigId) (others : List SigId) → ((s : SigId) → o ≡ Some s → s.0 < length h.pool.signals) → AllByRecursion (λ (s : SigId). s.0 < length h.pool.signals) others → AllByRecursion (λ (s : SigId). s.0 < length h.pool.signals) (before_others o others)
  first_there None others f all = all
  first_there (Some s) others f all = (f s refl, all)

  pub signals_there : (row : List Val) → AllByRecursion (λ (s : SigId). s.0 < length h.pool.signals) (attribute_signals seen h row)
  signals_there [] = tt
  signals_there (name ∷ []) = tt
  signals_there (name ∷ v ∷ row) =
      first_there (attribute_signal seen h name v) (attribute_signals seen h row) (λ s e. attribute_there (has_public_name seen name) v s e) (signals_there row)

-- ---- ports

name_at : (sigs : List Sig) (n : ℕ) (d : Sig) → AllByRecursion (λ (x : Sig). IsName x.name) sigs → n < length sigs → IsName (slice_index_or sigs n d).name
name_at [] n d h l = absurd (omega arith)
name_at (x ∷ sigs) zero d h l = h.0
name_at (x ∷ sigs) (suc n) d h l = name_at sigs n d h.1 (omega arith)

port_numbers : (q : Pooled) (ss : List SigId) → map (λ (p : Port). p.sig.0) (map (λ (s : SigId). port_of q [] true s.0) ss) ≡ map (λ (s : SigId). s.0) ss
port_numbers q [] = refl
port_numbers q (s ∷ ss) = ap (λ (ns : List ℕ). s.0 ∷ ns) (port_numbers q ss)

pub ports_stand : (h : Held) (ss : List SigId) → IsSound h → AllByRecursion (λ (s : SigId). s.0 < length h.pool.signals) ss → ArePorts h.pool (signal_ports h ss)
ports_stand h ss sound there = record {
  each = all_map (IsPortOf h.pool) (λ (s : SigId). port_of h.pool [] true s.0) (each_once ss)
      (all_each (λ (s : SigId). s.0 < length h.pool.signals) (λ (s : SigId). IsPortOf h.pool (port_of h.pool [] true s.0)) (each_once ss)
      (λ s l. record { there = l; name = name_at h.pool.signals s.0 _ sound.names l })
      (all_once (λ (s : SigId). s.0 < length h.pool.signals) ss there));
  distinct = subst (IsDistinct nat_eq) (sym (port_numbers h.pool (each_once ss))) (once_distinct ss);
}

-- ---- the ports of the top are ports of the pool

ports_resolve : (q : Pooled) (made : Option (List Port)) (found : TopPorts) → ((ps : List Port) → made ≡ Some ps → ArePorts q ps) → made_ports made ≡ Some found → AreTopPorts q found
ports_resolve q (Some ps) found h e = subst (AreTopPorts q) (some_same e) (h ps refl)
  where
    some_same : Some (ports.Members ps) ≡ Some found → ports.Members ps ≡ found
    some_same e = cc
ports_resolve q None found h e = absurd (none_some e)
  where
    none_some : None ≡ Some found → ⊥
    none_some e = cc

-- an object has its ports
object_ports_stand : (q : Pooled) (cs : Components) (o : Option ComponentObject) (ps : List Port) → ((x : ComponentObject) → o ≡ Some x → IsObject q cs.signatures cs.ends x) → option_map (λ (x : ComponentObject). x.ports) o ≡ Some ps → ArePorts q ps
object_ports_stand q cs None ps f e = absurd (none_some e)
  where
    none_some : None ≡ Some ps → ⊥
    none_some e = cc
object_ports_stand q cs (Some x) ps f e = subst (ArePorts q) (some_same e) (f x refl).ports
  where
    some_same : Some x.ports ≡ Some ps → x.ports ≡ ps
    some_same e = cc

pub top_stands : (s : Seen) (h : Held) (o : Option ObjId) (found : TopPorts) → IsSound h → IsPool h.pool → ports_of s h o ≡ Some found → AreTopPorts h.pool found
top_stands s h None found sound rules e = subst (AreTopPorts h.pool) (some_same e) tt
  where
    some_same : Some ports.Loose ≡ Some found → ports.Loose ≡ found
    some_same e = cc
top_stands s h (Some o) found sound rules e = by_class (component_class h.store (first_in (row_at s o.0))) e
  where
    by_class : (class : Option ℕ) → ports_as class (component_ports h.store o) (held_ports s h o) ≡ Some found → AreTopPorts h.pool found
    by_class (Some class) e = ports_resolve h.pool (ports_at h.store.components.objects o.0) found (λ ps is. object_ports_stand h.pool h.store.components (object_at h.store.components.objects o.0) ps (λ x there. all_found (IsObject h.pool h.store.components.signatures h.store.components.ends) _ h.store.components.objects x sound.components.objects there) is) e
    by_class None e =
        let same : ports.Held (held_ports s h o) ≡ found = cc in
        subst (AreTopPorts h.pool) same (ports_stand h _ sound (signals_there s h rules (attributes (row_at s o.0))))
