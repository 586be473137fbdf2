-- What is held stays sound by what is added to modules, and as the tree of modules is walked.
use Rattle.std.proofs.Common.{◌≡◌, ℕ, zero, suc, refl, ap, sym, subst, Bool, true, false, List, [], ◌∷◌, Option, Some, None, true≢false, is_some, nat_lt, length}
use Rattle.std.specs.Prelude.{◌||◌, not, if◌then◌else◌}
use Rattle.std.specs.List.{AllByRecursion}
use Rattle.lists.specs.Names.{IsName}
use Rattle.identifiers.specs.Identifiers.{is_identifier}
use Rattle.identifiers.proofs.NameLaws.{identifier_is_name}
use Rattle.py_values.specs.declared.val.Val.{Val}
use Rattle.py_heap.specs.Heaps.{Seen}
use Rattle.py_frames.specs.declared.request.Cause.{Cause}
use Rattle.py_frames.specs.declared.request.Cause.TheVariants.{Raised, Limit}
use Rattle.elab_store.specs.declared.hierarchy.Addition.{Addition}
use Rattle.elab_store.specs.declared.hierarchy.Waiting.{Waiting}
use Rattle.elab_store.specs.declared.hierarchy.NodeOf.{NodeOf}
use Rattle.elab_store.specs.Hierarchies.{Hierarchy, children_of, addition_name, added_as, with_addition, taken_by, node_taken, wraps_before, wraps_taken, root_wrapped, first_waiting, thing_waiting}
use Rattle.elab_store.specs.Stores.{Stored, Held, Answered, kept_of, node_in, inner_of, wraps_in}
use Rattle.elab_store.specs.Sound.{IsSound}
use Rattle.elab_store.proofs.NumberNames.{numbered_is_name}
use Rattle.elab_acts.specs.declared.tops.Calling.{Calling}
use Rattle.elab_acts.specs.Tops.{elaborate_of, most_submodules, deepest_submodule, with_node, with_top, with_wraps, with_root_wraps, below_called, node_or_called, value_walked, thing_walked, next_walked, last_walked, walked, walk}
use Rattle.elab_acts.specs.Submodules.{is_elaboratable, is_elaborated, is_no_name, addition_refusal, addition_put, submodule_added, submodule_stored, found_given, submodule_given, is_submodules_of, submodules_stored}
use Rattle.elab_acts.proofs.GrownLaws.{all_and}

if_sound : (b : Bool) (x y : Answered) → IsSound x.held → IsSound y.held → IsSound (if b then x else y).held
if_sound true x y h g = h
if_sound false x y h g = g

-- ---- additions

abbrev pub AreNamed : List Addition → Type 0
AreNamed = AllByRecursion (λ (a : Addition). IsName a.name)

-- where only the hierarchy is another one
hierarchy_sound : (h : Held) (t : Hierarchy) → IsSound h → AreNamed t.additions → IsSound (record h { store = record h.store { hierarchy = t } })
hierarchy_sound h t s named = record { names = s.names; things = s.things; kept = s.kept; modules = s.modules; components = s.components; machines = s.machines; domains = s.domains; additions = named; clock_domains = s.clock_domains; memories = s.memories; registers = s.registers; wrappings = s.wrappings; waits = s.waits }

no_refusal : (a b c : Bool) (o : Option Cause) → (if a || (b || c) then Some Raised else o) ≡ None → b ≡ false
no_refusal true b c o e = absurd (true≢false (ap is_some e))
no_refusal false true c o e = absurd (true≢false (ap is_some e))
no_refusal false false c o e = refl

identifier_of : (a b : Bool) → (not a || b) ≡ false → a ≡ true
identifier_of true b e = refl
identifier_of false b e = absurd (true≢false e)

-- the name of what is added is one
named_as : (m : ℕ) (name : Option (List ℕ)) (t : Hierarchy) → is_no_name m name t ≡ false → IsName (addition_name m name t)
named_as m None t e = numbered_is_name (length (children_of m t))
named_as m (Some name) t e = identifier_is_name name (identifier_of (is_identifier name) (is_some (added_as m name t)) e)

addition_named : (s : Seen) (m : ℕ) (name : Option (List ℕ)) (v : Val) (store : Stored) → addition_refusal s m name v store ≡ None → IsName (addition_name m name store.hierarchy)
addition_named s m name v store e = named_as m name store.hierarchy (no_refusal (not (is_elaboratable s v store)) (is_no_name m name store.hierarchy) (is_elaborated m store) (if nat_lt (length store.hierarchy.additions) most_submodules then None else Some Limit) e)

put_sound : (o : Option Cause) (m : ℕ) (name : Option (List ℕ)) (v gives : Val) (h : Held) → IsSound h → (o ≡ None → IsName (addition_name m name h.store.hierarchy)) → IsSound (addition_put o m name v gives h).held
put_sound (Some why) m name v gives h t named = t
put_sound None m name v gives h t named =
    hierarchy_sound h (with_addition m name v h.store.hierarchy) t
    (all_and (λ (a : Addition). IsName a.name) h.store.hierarchy.additions (record { of = m; name = addition_name m name h.store.hierarchy; is_named = is_some name; thing = v } ∷ []) t.additions (named refl, tt))

pub added_sound : (s : Seen) (m : ℕ) (name : Option (List ℕ)) (v gives : Val) (h : Held) → IsSound h → IsSound (submodule_added s m name v gives h).held
added_sound s m name v gives h t = put_sound (addition_refusal s m name v h.store) m name v gives h t (addition_named s m name v h.store)

pub stored_sound : (s : Seen) (m : ℕ) (name : Option (List ℕ)) (v : Val) (h : Held) → IsSound h → IsSound (submodule_stored s m name v h).held
stored_sound s m None v h t = t
stored_sound s m (Some name) v h t = added_sound s m (Some name) v _ h t

found_sound : (o : Option Val) (h : Held) → IsSound h → IsSound (found_given o h).held
found_sound None h t = t
found_sound (Some v) h t = t

pub given_sound : (m : ℕ) (name : Option (List ℕ)) (h : Held) → IsSound h → IsSound (submodule_given m name h).held
given_sound m None h t = t
given_sound m (Some name) h t = found_sound (added_as m name h.store.hierarchy) h t

pub submodules_sound : (m : ℕ) (v : Val) (h : Held) → IsSound h → IsSound (submodules_stored m v h).held
submodules_sound m v h t = if_sound (is_submodules_of m (kept_of h.store v)) _ _ t t

-- ---- the walk

additions_stay : (m : NodeOf) (ws : List Waiting) (t : Hierarchy) → (taken_by m ws t).additions ≡ t.additions
additions_stay m [] t = refl
additions_stay m (w ∷ ws) t = refl

node_sound : (m : NodeOf) (h : Held) → IsSound h → IsSound (with_node m h)
node_sound m h t = hierarchy_sound h (node_taken m h.store.hierarchy) t (subst AreNamed (sym (additions_stay m h.store.hierarchy.waiting h.store.hierarchy)) t.additions)

pub entered_sound : (m : ℕ) (h : Held) → IsSound h → IsSound (with_top m h)
entered_sound m h t = record { names = t.names; things = t.things; kept = t.kept; modules = t.modules; components = t.components; machines = t.machines; domains = t.domains; additions = t.additions; clock_domains = t.clock_domains; memories = t.memories; registers = t.registers; wrappings = t.wrappings; waits = t.waits }

below_sound : (c : Option Calling) (h : Held) → IsSound h → IsSound (below_called c h).held
below_sound None h t = t
below_sound (Some c) h t = t

node_or_called_sound : (others : Held → Answered) (m : Option NodeOf) (c : Option Calling) (h : Held) → IsSound h → ((g : Held) → IsSound g → IsSound (others g).held) → IsSound (node_or_called others m c h).held
node_or_called_sound others None c h t f = below_sound c h t
node_or_called_sound others (Some m) c h t f = f (with_node m h) (node_sound m h t)

wraps_stay : (bys : List ℕ) (ws : List Waiting) (t : Hierarchy) → (wraps_before bys ws t).additions ≡ t.additions
wraps_stay bys [] t = refl
wraps_stay bys (w ∷ ws) t = refl

wraps_sound : (bys : List ℕ) (h : Held) → IsSound h → IsSound (with_wraps bys h)
wraps_sound bys h t = hierarchy_sound h (wraps_taken bys h.store.hierarchy) t (subst AreNamed (sym (wraps_stay bys h.store.hierarchy.waiting h.store.hierarchy)) t.additions)

pub root_wraps_sound : (bys : List ℕ) (h : Held) → IsSound h → IsSound (with_root_wraps bys h)
root_wraps_sound bys h t = hierarchy_sound h (root_wrapped bys h.store.hierarchy) t t.additions

pub value_sound : (s : Seen) (others : Held → Answered) (v : Val) (h : Held) → IsSound h → ((g : Held) → IsSound g → IsSound (others g).held) → IsSound (value_walked s others v h).held
value_sound s others v h t f =
    let w = inner_of h.store v in
    let bys = wraps_in h.store v in
    node_or_called_sound others (node_in (kept_of h.store w)) (elaborate_of s w) (with_wraps bys h) (wraps_sound bys h t) f

thing_sound : (s : Seen) (others : Held → Answered) (o : Option Val) (h : Held) → IsSound h → ((g : Held) → IsSound g → IsSound (others g).held) → IsSound (thing_walked s others o h).held
thing_sound s others None h t f = t
thing_sound s others (Some v) h t f = value_sound s others v h t f

next_sound : (s : Seen) (others : Held → Answered) (o : Option Waiting) (h : Held) → IsSound h → ((g : Held) → IsSound g → IsSound (others g).held) → IsSound (next_walked s others o h).held
next_sound s others None h t f = t
next_sound s others (Some w) h t f = if_sound (nat_lt deepest_submodule w.depth) _ _ t (thing_sound s others (thing_waiting h.store.hierarchy) h t f)

last_sound : (o : Option Waiting) (h : Held) → IsSound h → IsSound (last_walked o h).held
last_sound None h t = t
last_sound (Some w) h t = t

walked_sound : (n : ℕ) (s : Seen) (h : Held) → IsSound h → IsSound (walked n s h).held
unfolding walked
walked_sound zero s h t = last_sound (first_waiting h.store.hierarchy) h t
walked_sound (suc n) s h t = next_sound s (walked n s) (first_waiting h.store.hierarchy) h t (λ g. walked_sound n s g)

pub walk_sound : (s : Seen) (h : Held) → IsSound h → IsSound (walk s h).held
walk_sound s h t = walked_sound _ s h t
