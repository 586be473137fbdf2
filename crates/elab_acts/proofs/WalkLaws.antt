-- The walk over submodules, one turn on.
use Rattle.std.proofs.Common.{◌≡◌, ◌∙◌, ℕ, zero, suc, ap, sym, Bool, true, false, Option, Some, None, nat_lt}
use Rattle.std.specs.Prelude.{if◌then◌else◌}
use Rattle.py_values.specs.declared.val.Val.{Val}
use Rattle.py_values.specs.declared.val.Val.TheVariants as val
use Rattle.py_heap.specs.Heaps.{Seen}
use Rattle.py_frames.specs.declared.request.Cause.TheVariants.{Raised, Limit}
use Rattle.elab_store.specs.declared.hierarchy.NodeOf.{NodeOf}
use Rattle.elab_store.specs.declared.hierarchy.Waiting.{Waiting}
use Rattle.elab_store.specs.Hierarchies.{first_waiting, thing_waiting}
use Rattle.elab_store.specs.Stores.{Held, Answered, refused, given, kept_of, node_in, inner_of, wraps_in}
use Rattle.elab_acts.specs.Tops.{elaborate_of, deepest_submodule, with_wraps, with_node, below_called, node_or_called, thing_walked, next_walked, last_walked, walked}

-- nothing waits
pub walked_ended : (j : ℕ) (s : Seen) (h : Held) (all : Answered) → first_waiting h.store.hierarchy ≡ None → walked j s h ≡ all → given val.None h ≡ all
unfolding walked
walked_ended zero s h all none e = sym (ap (λ (o : Option Waiting). last_walked o h) none) ∙ e
walked_ended (suc n) s h all none e = sym (ap (λ (o : Option Waiting). next_walked s (walked n s) o h) none) ∙ e

-- no more may come
pub walked_last : (j : ℕ) (s : Seen) (h : Held) (w : Waiting) (all : Answered) → j ≡ 0 → first_waiting h.store.hierarchy ≡ Some w → walked j s h ≡ all → refused Limit h ≡ all
unfolding walked
walked_last j s h w all none some e = sym (ap (λ i. walked i s h) none ∙ ap (λ (o : Option Waiting). last_walked o h) some) ∙ e

walked_next : (j n : ℕ) (s : Seen) (h : Held) (w : Waiting) (b : Bool) → j ≡ suc n → first_waiting h.store.hierarchy ≡ Some w → nat_lt deepest_submodule w.depth ≡ b
    → walked j s h ≡ (if b then refused Limit h else thing_walked s (walked n s) (thing_waiting h.store.hierarchy) h)
unfolding walked
walked_next j n s h w b step some is =
    ap (λ i. walked i s h) step
    ∙ ap (λ (o : Option Waiting). next_walked s (walked n s) o h) some
    ∙ ap (λ (c : Bool). if c then refused Limit h else thing_walked s (walked n s) (thing_waiting h.store.hierarchy) h) is

-- what waits first stands too deep
pub walked_deep : (j n : ℕ) (s : Seen) (h : Held) (w : Waiting) (all : Answered) → j ≡ suc n → first_waiting h.store.hierarchy ≡ Some w → nat_lt deepest_submodule w.depth ≡ true → walked j s h ≡ all → refused Limit h ≡ all
walked_deep j n s h w all step some deep e = sym (walked_next j n s h w true step some deep) ∙ e

pub walked_nothing : (j n : ℕ) (s : Seen) (h : Held) (w : Waiting) (all : Answered) → j ≡ suc n → first_waiting h.store.hierarchy ≡ Some w → nat_lt deepest_submodule w.depth ≡ false → thing_waiting h.store.hierarchy ≡ None
    → walked j s h ≡ all → refused Raised h ≡ all
walked_nothing j n s h w all step some deep none e = sym (walked_next j n s h w false step some deep ∙ ap (λ (o : Option Val). thing_walked s (walked n s) o h) none) ∙ e

-- the next one is value v, and what stands within it is no other than x, by which its wrappers are taken and g is held
pub record IsNext (h : Held) (v x : Val) (m : Option NodeOf) (g : Held) : Type 0 where
  pub thing : thing_waiting h.store.hierarchy ≡ Some v
  pub inner : x ≡ inner_of h.store v
  pub node : m ≡ node_in (kept_of h.store x)
  pub taken : g ≡ with_wraps (wraps_in h.store v) h

walked_thing : (j n : ℕ) (s : Seen) (h : Held) (w : Waiting) (v x : Val) (m : Option NodeOf) (g : Held) → j ≡ suc n → first_waiting h.store.hierarchy ≡ Some w → nat_lt deepest_submodule w.depth ≡ false → IsNext h v x m g
    → walked j s h ≡ node_or_called (walked n s) m (elaborate_of s x) g
walked_thing j n s h w v x m g step first deep is =
    walked_next j n s h w false step first deep
    ∙ ap (λ (o : Option Val). thing_walked s (walked n s) o h) is.thing
    ∙ ap (λ (y : Val). node_or_called (walked n s) (node_in (kept_of h.store y)) (elaborate_of s y) (with_wraps (wraps_in h.store v) h)) (sym is.inner)
    ∙ ap (λ (o : Option NodeOf). node_or_called (walked n s) o (elaborate_of s x) (with_wraps (wraps_in h.store v) h)) (sym is.node)
    ∙ ap (λ (k : Held). node_or_called (walked n s) m (elaborate_of s x) k) (sym is.taken)

-- it is neither a module nor a memory
pub walked_called : (j n : ℕ) (s : Seen) (h : Held) (w : Waiting) (v x : Val) (g : Held) (all : Answered) → j ≡ suc n → first_waiting h.store.hierarchy ≡ Some w → nat_lt deepest_submodule w.depth ≡ false → IsNext h v x None g
    → walked j s h ≡ all → below_called (elaborate_of s x) g ≡ all
walked_called j n s h w v x g all step first deep is e = sym (walked_thing j n s h w v x None g step first deep is) ∙ e

-- it is one of them, and the others follow
pub walked_more : (j n : ℕ) (s : Seen) (h : Held) (w : Waiting) (v x : Val) (m : NodeOf) (g : Held) (all : Answered) → j ≡ suc n → first_waiting h.store.hierarchy ≡ Some w → nat_lt deepest_submodule w.depth ≡ false → IsNext h v x (Some m) g
    → walked j s h ≡ all → walked n s (with_node m g) ≡ all
walked_more j n s h w v x m g all step first deep is e = sym (walked_thing j n s h w v x (Some m) g step first deep is) ∙ e
