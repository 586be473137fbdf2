-- What is connected are targets and values of the pool.
use Rattle.std.proofs.Common.{◌≡◌, ◌⊎◌, inl, inr, ℕ, zero, suc, ◌<◌, Bool, true, false, cond, List, [], ◌∷◌, map, length, drop, Option, Some, None, sym, ap, ◌∙◌, subst, is_some, option_map, true≢false}
use Rattle.std.specs.Prelude.{◌&&◌, Contains, if◌then◌else◌}
use Rattle.std.specs.List.{AllByRecursion}
use Rattle.amh_host.specs.declared.place.Place.{Place}
use Rattle.design_ir.specs.Pools.{Pooled}
use Rattle.design_ir.specs.Targets.{is_target, is_open_target}
use Rattle.design_ir.proofs.Elements.{contains_first, contains_more}
use Rattle.module_dsl.proofs.OpenTargets.{target_is_open}
use Rattle.lib_wiring.specs.declared.leaf.Leaf as wired
use Rattle.lib_wiring.specs.declared.leaf.Link.{Link}
use Rattle.lib_wiring.specs.Wiring.{is_at, leaf_at, are_apart, is_connectable, links, connected, AreSignals}
use Rattle.lib_wiring.specs.Laws.{Leads, IsLinked}
use Rattle.lib_wiring.proofs.WireLaws.{links_lead_in}
use Rattle.elab_store.specs.declared.faces.End.{End}
use Rattle.elab_store.specs.declared.faces.Face.{Face}
use Rattle.elab_store.specs.declared.kept.Equation.{Equation}
use Rattle.elab_store.specs.declared.leaves.Leaf.{Leaf}
use Rattle.elab_store.specs.Components.{Components}
use Rattle.elab_store.specs.Leaves.{leaves}
use Rattle.elab_store.specs.Sound.{IsEquation, IsEnd}
use Rattle.elab_store.specs.Stores.{Held}
use Rattle.elab_wiring.specs.Connections.{over, wires, linked, connected_wires, equations_of}

-- ---- lists

ends_behind : (q : Pooled) (es : List End) (i : ℕ) → AllByRecursion (IsEnd q) es → AllByRecursion (IsEnd q) (drop i es)
ends_behind q [] zero h = tt
ends_behind q [] (suc i) h = tt
ends_behind q (e ∷ es) zero h = h
ends_behind q (e ∷ es) (suc i) h = ends_behind q es i h.1

all_contained : {A : Type 0} (P : A → Type 0) (xs : List A) → ((x : A) → Contains xs x → P x) → AllByRecursion P xs
all_contained P [] f = tt
all_contained P (x ∷ xs) f = (f x (contains_first x xs), all_contained P xs (λ y c. f y (contains_more x xs y c)))

all_mapped : {A B : Type 0} (P : B → Type 0) (f : A → B) (xs : List A) → AllByRecursion (λ x. P (f x)) xs → AllByRecursion P (map f xs)
all_mapped P f [] h = tt
all_mapped P f (x ∷ xs) h = (h.0, all_mapped P f xs h.1)

-- ---- signals of leaves

-- the expression is of the pool, and may be written
pub record IsWire (q : Pooled) (w : wired.Leaf) : Type 0 where
  pub signal : w.sig.0 < length q.signals
  pub there : w.expr.0 < length q.exprs
  pub target : is_target q w.expr.0 ≡ true

over_stands : (q : Pooled) (ls : List Leaf) (es : List End) → AllByRecursion (IsEnd q) es → AllByRecursion (IsWire q) (over ls es)
over_stands q [] es h = tt
over_stands q (l ∷ ls) [] h = tt
over_stands q (l ∷ ls) (e ∷ es) h = (record { signal = h.0.there; there = h.0.expr_there; target = h.0.target }, over_stands q ls es h.1)

wires_stand : (q : Pooled) (cs : Components) (f : Face) → AllByRecursion (IsEnd q) cs.ends → AllByRecursion (IsWire q) (wires cs f)
wires_stand q cs f h = over_stands q (leaves cs.signatures f.turned [] f.signature) (drop f.first cs.ends) (ends_behind q cs.ends f.first h)

signals_of : (q : Pooled) (ws : List wired.Leaf) → AllByRecursion (IsWire q) ws → AreSignals q.signals ws
signals_of q [] h = tt
signals_of q (w ∷ ws) h = (h.0.signal, signals_of q ws h.1)

pub wires_are_signals : (q : Pooled) (cs : Components) (f : Face) → AllByRecursion (IsEnd q) cs.ends → AreSignals q.signals (wires cs f)
wires_are_signals q cs f h = signals_of q (wires cs f) (wires_stand q cs f h)

-- ---- statements

found_stands : (q : Pooled) (path : List ℕ) (ws : List wired.Leaf) (w : wired.Leaf) → AllByRecursion (IsWire q) ws → leaf_at path ws ≡ Some w → IsWire q w
found_stands q path [] w h e = cc
found_stands q path (x ∷ ws) w h e = by_test (is_at path x) e (found_stands q path ws w h.1)
  where
    by_test : (b : Bool) → cond b (Some x) (leaf_at path ws) ≡ Some w → (leaf_at path ws ≡ Some w → IsWire q w) → IsWire q w
    by_test true e later = let same : x ≡ w = cc in subst (IsWire q) same h.0
    by_test false e later = later e

leads_equation : (q : Pooled) (p : Place) (target source : wired.Leaf) (k : Link) → IsWire q target → IsWire q source → Leads target source k → IsEquation q (linked p k)
leads_equation q p target source k t s h = record {
  target_there = subst (λ e. e.0 < length q.exprs) (sym h.driven) t.there;
  value_there = subst (λ e. e.0 < length q.exprs) (sym h.drives) s.there;
  is_target = ap (λ e. is_open_target q e.0) h.driven ∙ target_is_open q target.expr.0 t.target;
}

link_stands : (q : Pooled) (p : Place) (first second : List wired.Leaf) (k : Link) → AllByRecursion (IsWire q) first → AllByRecursion (IsWire q) second → IsLinked first second k → IsEquation q (linked p k)
link_stands q p first second k f s h =
    by_way (found_stands q h.path first h.one f h.of_first) (found_stands q h.path second h.other s h.of_second) h.leads
  where
    by_way : IsWire q h.one → IsWire q h.other → Leads h.one h.other k ⊎ Leads h.other h.one k → IsEquation q (linked p k)
    by_way one other (inl way) = leads_equation q p h.one h.other k one other way
    by_way one other (inr way) = leads_equation q p h.other h.one k other one way

links_stand : (q : Pooled) (p : Place) (first second : List wired.Leaf) → AllByRecursion (IsWire q) first → AllByRecursion (IsWire q) second → AllByRecursion (IsEquation q) (map (linked p) (links first second))
links_stand q p first second f s =
    all_mapped (IsEquation q) (linked p) (links first second) (all_contained (λ k. IsEquation q (linked p k)) (links first second) (λ k c. link_stands q p first second k f s ((links_lead_in first second k).0 c)))

connected_stand : (q : Pooled) (p : Place) (first second : List wired.Leaf) (qs : List Equation) → AllByRecursion (IsEquation q) (map (linked p) (links first second)) → option_map (map (linked p)) (connected_wires q first second) ≡ Some qs → AllByRecursion (IsEquation q) qs
connected_stand q p first second qs h e = by_apart (are_apart first && are_apart second) e
  where
    by_test : (b : Bool) → option_map (map (linked p)) (if b then Some (links first second) else None) ≡ Some qs → AllByRecursion (IsEquation q) qs
    by_test true e = let same : map (linked p) (links first second) ≡ qs = cc in subst (AllByRecursion (IsEquation q)) same h
    by_test false e = absurd (true≢false (ap is_some (sym e)))

    by_apart : (b : Bool) → option_map (map (linked p)) (if b then connected q.signals first second else None) ≡ Some qs → AllByRecursion (IsEquation q) qs
    by_apart true e = by_test (is_connectable q.signals first second) e
    by_apart false e = absurd (true≢false (ap is_some (sym e)))

pub equations_stand : (p : Place) (h : Held) (f g : Option Face) (qs : List Equation) → AllByRecursion (IsEnd h.pool) h.store.components.ends → equations_of p h f g ≡ Some qs → AllByRecursion (IsEquation h.pool) qs
equations_stand p h None g qs s e = absurd (true≢false (ap is_some (sym e)))
equations_stand p h (Some f) None qs s e = absurd (true≢false (ap is_some (sym e)))
equations_stand p h (Some f) (Some g) qs s e =
    let cs = h.store.components in
    connected_stand h.pool p (wires cs f) (wires cs g) qs (links_stand h.pool p (wires cs f) (wires cs g) (wires_stand h.pool cs f s) (wires_stand h.pool cs g s)) e
