-- Names and what they are bound to.
-- Source: Python reference 4.2.2, Resolution of names; freezing: own rule (docs/RULES.md).
use Rattle.std.specs.Prelude.{ℕ, zero, suc, ◌+◌, ◌-◌, nat_lt, if◌then◌else◌, Bool, true, false, List, [], ◌∷◌, ◌++◌, length, slice_get, slice_set, Option, Some, None, Result, Ok, Err}
use Rattle.std.specs.Str.{chars}
use Rattle.py_values.specs.declared.val.Val.{Val}
use Rattle.py_values.specs.declared.val.Val.TheVariants as val
use Rattle.py_values.specs.declared.val.ScopeId.{ScopeId}
use Rattle.py_values.specs.declared.val.ValueStop.{ValueStop}
use Rattle.py_values.specs.declared.val.ValueStop.TheVariants.{Limit, Raised}
use Rattle.py_values.specs.declared.func.Func.{Func}
use Rattle.py_values.specs.declared.func.Scope.{Scope}
use Rattle.py_heap.specs.declared.scopes.LookUp.{LookUp}
use Rattle.py_heap.specs.declared.scopes.LookUp.TheVariants.{Found, Unbound, Nowhere}
use Rattle.py_heap.specs.Heaps.{Made, Seen}
use Rattle.py_values.specs.Bindings.{Binding, bound_in, bound_to, is_among}

-- a string of the program's text, which no operator made
abbrev pub literal : Seen → List ℕ → Result (Val × Made) ValueStop
literal s text =
    if nat_lt 4096 (length (chars text)) then Err Limit
    else Ok (val.Str (record { 0 = length s.frozen.texts + length s.own.texts }), record s.own { texts = s.own.texts ++ text ∷ [] })

abbrev pub new_func : Seen → Func → Result (Val × Made) ValueStop
new_func s f = Ok (val.Func (record { 0 = length s.frozen.funcs + length s.own.funcs }), record s.own { funcs = s.own.funcs ++ f ∷ [] })

-- a scope that binds nothing yet
abbrev pub new_scope : Seen → Option ScopeId → Bool → List (List ℕ) → Result (ScopeId × Made) ValueStop
new_scope s enclosing is_class own =
    Ok (record { 0 = length s.frozen.scopes + length s.own.scopes }, record s.own { scopes = s.own.scopes ++ record { enclosing = enclosing; is_class = is_class; own = own; bindings = [] } ∷ [] })

-- the scope of a number, where there is one
abbrev pub scope_at : Seen → ℕ → Option Scope
scope_at s n = if nat_lt n (length s.frozen.scopes) then slice_get s.frozen.scopes n else slice_get s.own.scopes (n - length s.frozen.scopes)

abbrev pub bindings_in : Option Scope → List Binding
bindings_in None = []
bindings_in (Some scope) = scope.bindings

abbrev pub enclosing_in : Option Scope → Option ScopeId
enclosing_in None = None
enclosing_in (Some scope) = scope.enclosing

-- a number that stands for none reads as without names
abbrev pub bindings_at : Seen → ℕ → List Binding
bindings_at s n = bindings_in (scope_at s n)

-- ---- what a name means where it is read

abbrev pub found_or : Option Val → LookUp → LookUp
found_or (Some v) other = Found v
found_or None other = other

-- in the module's scope alone
abbrev pub in_module : Seen → List ℕ → LookUp
in_module s name = found_or (bound_in name (bindings_at s 0)) Nowhere

-- in one scope of the chain, by what the chain behind it answers: a class shows its names to none that it encloses,
-- and the name of a body is its own before it is bound
abbrev pub in_chained : List ℕ → Scope → LookUp → LookUp
in_chained name scope behind =
    if scope.is_class then behind
    else found_or (bound_in name scope.bindings) (if is_among name scope.own then Unbound else behind)

abbrev pub chained : Seen → List ℕ → (Option ScopeId → LookUp) → Option Scope → LookUp
chained s name behind None = Nowhere
chained s name behind (Some scope) = in_chained name scope (behind scope.enclosing)

-- in so many scopes at most, each the one that encloses the last; past the module is nothing
unfoldable pub in_chain : ℕ → Seen → List ℕ → Option ScopeId → LookUp
in_chain zero s name id = Nowhere
in_chain (suc n) s name None = Nowhere
in_chain (suc n) s name (Some id) = chained s name (in_chain n s name) (scope_at s id.0)

-- a body of a class reads its own names there and then in the module, and others from the scope that encloses it
abbrev pub in_class : Seen → List ℕ → Scope → LookUp → LookUp
in_class s name scope behind =
    found_or (bound_in name scope.bindings) (if is_among name scope.own then in_module s name else behind)

abbrev pub looked_up : Seen → List ℕ → ℕ → Option Scope → LookUp
looked_up s name n None = Nowhere
looked_up s name n (Some scope) =
    if scope.is_class then in_class s name scope (in_chain n s name scope.enclosing)
    else in_chained name scope (in_chain n s name scope.enclosing)

-- an enclosing scope was made before, so a chain has no more scopes than the number of its first one says
abbrev pub look_up : Seen → ℕ → List ℕ → LookUp
look_up s n name = looked_up s name n (scope_at s n)

-- ---- binding

abbrev pub scopes_with : Option Scope → List Scope → ℕ → List Binding → List Scope
scopes_with None scopes i bindings = scopes
scopes_with (Some scope) scopes i bindings = slice_set scopes i (record scope { bindings = bindings })

-- a scope of this heap, by its place in it, with a name bound
abbrev pub own_bound : Made → ℕ → List ℕ → Val → Made
own_bound m i name v =
    record m { scopes = scopes_with (slice_get m.scopes i) m.scopes i (bound_to name v (bindings_in (slice_get m.scopes i))) }

-- what was frozen is bound no more
abbrev pub scope_bound : Seen → ℕ → List ℕ → Val → Result (Unit {0} × Made) ValueStop
scope_bound s n name v =
    if nat_lt n (length s.frozen.scopes) then Err Raised
    else (if nat_lt (n - length s.frozen.scopes) (length s.own.scopes) then Ok (tt, own_bound s.own (n - length s.frozen.scopes) name v) else Err Raised)
