-- The ports of components stand in the pool, under names, and each signal once.
use Rattle.std.specs.Prelude.{◌≡◌, refl, ℕ, suc, ◌<◌, ◌≤◌, ◌&&◌, ◌||◌, Bool, true, false, cond, List, [], ◌∷◌, ◌++◌, map, length, nat_eq, Option, Some, None}
use Rattle.std.specs.List.{AllByRecursion, IsDistinct, list_any}
use Rattle.std.specs.Map.{lookup}
use Rattle.std.specs.Ordering.{nat_cmp, match_ordering}
use Rattle.std.specs.declared.cmp.Ordering.{Ordering}
use Rattle.std.specs.declared.cmp.Ordering.TheVariants.{Less, Equal, Greater}
use Rattle.std.specs.BTreeMap.{insert_entry}
use Rattle.std.specs.Cmp.{nat_eq_equiv}
use Rattle.std.proofs.Common.{sym, ◌∙◌, ap, subst, arith, true≢false}
use Rattle.std.proofs.lemmas.List.{map-append}
use Rattle.std.proofs.lemmas.Map.Keys.{IsDistinct-push}
use Rattle.std.proofs.lemmas.Bool.{eqb-true}
use Rattle.lists.specs.Names.{IsName}
use Rattle.design_ir.specs.declared.port.Port.{Port}
use Rattle.design_ir.specs.declared.signal.Sig.{Sig}
use Rattle.design_ir.specs.Pools.{Pooled}
use Rattle.design_ir.specs.PoolRules.{signal_added}
use Rattle.design_ir.proofs.Growth.{all_append, length_more}
use Rattle.clock_domains.specs.Resolvable.{IsPortOf, ArePorts}
use Rattle.elab_store.specs.declared.faces.End.{End}
use Rattle.elab_store.specs.declared.faces.ComponentObject.{ComponentObject}
use Rattle.elab_store.specs.Leaves.{Signatures}
use Rattle.elab_store.specs.Sound.{IsObject}
use Rattle.elab_acts.proofs.EachLaws.{all_each}

-- ---- tests

pub and_split : (a b : Bool) → (a && b) ≡ true → (a ≡ true) × (b ≡ true)
and_split true b e = (refl, e)
and_split false b e = absurd (true≢false (sym e))

-- ---- entries of a table

all_chosen : {A : Type 0} (P : A → Type 0) (o : Ordering) (a b c : List A) → AllByRecursion P a → AllByRecursion P b → AllByRecursion P c → AllByRecursion P (match_ordering o a b c)
all_chosen P Less a b c ha hb hc = ha
all_chosen P Equal a b c ha hb hc = hb
all_chosen P Greater a b c ha hb hc = hc

pub all_put : {X : Type 0} (P : X → Type 0) (es : List (ℕ × X)) (k : ℕ) (v : X) → AllByRecursion (λ (e : ℕ × X). P e.1) es → P v → AllByRecursion (λ (e : ℕ × X). P e.1) (insert_entry nat_cmp es k v)
all_put P [] k v h p = (p, tt)
all_put P (e ∷ es) k v h p =
    all_chosen _ (nat_cmp k e.0) ((k, v) ∷ e ∷ es) ((e.0, v) ∷ es) (e ∷ insert_entry nat_cmp es k v) (p, h) (p, h.1) (h.0, all_put P es k v h.1 p)

found_in : {X : Type 0} (P : X → Type 0) (here : Bool) (x v : X) (rest : Option X) → P x → (rest ≡ Some v → P v) → cond here (Some x) rest ≡ Some v → P v
found_in P true x v rest p q e = subst P (some_same e) p
  where
    some_same : Some x ≡ Some v → x ≡ v
    some_same e = cc
found_in P false x v rest p q e = q e

pub all_found : {X : Type 0} (P : X → Type 0) (test : ℕ → Bool) (es : List (ℕ × X)) (v : X) → AllByRecursion (λ (e : ℕ × X). P e.1) es → lookup test es ≡ Some v → P v
all_found P test [] v h e = absurd (none_some e)
  where
    none_some : None ≡ Some v → ⊥
    none_some e = cc
all_found P test (e ∷ es) v h found = found_in P (test e.0) e.1 v (lookup test es) h.0 (all_found P test es v h.1) found

-- ---- ports as a pool grows

port_stays : (q r : Pooled) → length q.signals ≤ length r.signals → (p : Port) → IsPortOf q p → IsPortOf r p
port_stays q r h p is = record { there = omega (arith, h, is.there); name = is.name }

pub ports_stay : (q r : Pooled) (ps : List Port) → length q.signals ≤ length r.signals → ArePorts q ps → ArePorts r ps
ports_stay q r ps h are = record { each = all_each (IsPortOf q) (IsPortOf r) ps (port_stays q r h) are.each; distinct = are.distinct }

-- what is kept of objects keeps to it
abbrev pub AreObjects : Pooled → Signatures → List End → List (ℕ × ComponentObject) → Type 0
AreObjects q sigs ends objects = AllByRecursion (λ (o : ℕ × ComponentObject). IsObject q sigs ends o.1) objects

pub objects_stay : (q r : Pooled) (sigs : Signatures) (ends : List End) (objects : List (ℕ × ComponentObject)) → length q.signals ≤ length r.signals → AreObjects q sigs ends objects → AreObjects r sigs ends objects
objects_stay q r sigs ends objects h all =
    all_each (λ (o : ℕ × ComponentObject). IsObject q sigs ends o.1) (λ (o : ℕ × ComponentObject). IsObject r sigs ends o.1) objects
    (λ o is. record { ports = ports_stay q r o.1.ports h is.ports; face = is.face }) all

-- ---- one port more, which is that of a new signal

no_twin : (n k : ℕ) (b : Bool) → k < n → nat_eq n k ≡ b → b ≡ false
no_twin n k true h e = absurd (omega (arith, h, eqb-true n k e))
no_twin n k false h e = refl

or_false : (a b : Bool) → a ≡ false → b ≡ false → (a || b) ≡ false
or_false true b e f = e
or_false false b e f = f

not_among : (q : Pooled) (ps : List Port) → AllByRecursion (IsPortOf q) ps → list_any (nat_eq (length q.signals)) (map (λ (p : Port). p.sig.0) ps) ≡ false
not_among q [] h = refl
not_among q (p ∷ ps) h =
    or_false (nat_eq (length q.signals) p.sig.0) (list_any (nat_eq (length q.signals)) (map (λ (p : Port). p.sig.0) ps)) (no_twin (length q.signals) p.sig.0 _ h.0.there refl) (not_among q ps h.1)

pub port_more : (q : Pooled) (ps : List Port) (x : Sig) (p : Port) → ArePorts q ps → p.sig.0 ≡ length q.signals → IsName p.name → ArePorts (signal_added q x) (ps ++ p ∷ [])
port_more q ps x p are new name =
    let more : length (signal_added q x).signals ≡ suc (length q.signals) = length_more q.signals x in
    let grown : length q.signals ≤ length (signal_added q x).signals = omega (arith, more) in
    record {
      each = all_append (IsPortOf (signal_added q x)) ps p (all_each (IsPortOf q) (IsPortOf (signal_added q x)) ps (port_stays q (signal_added q x) grown) are.each)
          (record { there = omega (arith, more, new); name = name });
      distinct = subst (IsDistinct nat_eq) (sym (map-append (λ (p : Port). p.sig.0) ps (p ∷ [])))
          (IsDistinct-push nat_eq_equiv (map (λ (p : Port). p.sig.0) ps) p.sig.0 are.distinct
          (ap (λ n. list_any (nat_eq n) (map (λ (p : Port). p.sig.0) ps)) new ∙ not_among q ps are.each));
    }
