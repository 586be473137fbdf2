-- Links, worked out: a producer with a payload, a valid and a ready, and what it is connected with. Signal n is expression 10 + n.
use Rattle.std.specs.Prelude.{◌≡◌, refl, ℕ, ◌+◌, true, false, List, [], ◌∷◌, Some, None, ℤ, pos, codes}
use Rattle.design_ir.specs.declared.signal.Sig.{Sig}
use Rattle.lib_wiring.specs.declared.leaf.Leaf.{Leaf}
use Rattle.lib_wiring.specs.declared.leaf.Link.{Link}
use Rattle.lib_wiring.specs.Wiring.{first_leaves, connected}

abbrev signal : ℕ → ℤ → Sig
signal width init = record { name = []; shape = record { width = width; signed = false }; init = init; reset_less = false }

abbrev out : List ℕ → ℕ → Leaf
out path sig = record { path = path; sig = record { 0 = sig }; expr = record { 0 = 10 + sig }; is_out = true }

abbrev into : List ℕ → ℕ → Leaf
into path sig = record { path = path; sig = record { 0 = sig }; expr = record { 0 = 10 + sig }; is_out = false }

abbrev link : ℕ → ℕ → Link
link target source = record { target = record { 0 = 10 + target }; source = record { 0 = 10 + source } }

-- signals 0 and 3 are payloads, 1 and 4 valids, 2 and 5 readies; 6 is a wider payload, 7 a payload with another init
signals : List Sig
signals = signal 4 (pos 9) ∷ signal 1 (pos 0) ∷ signal 1 (pos 0) ∷ signal 4 (pos 9) ∷ signal 1 (pos 0) ∷ signal 1 (pos 0) ∷ signal 5 (pos 9) ∷ signal 4 (pos 8) ∷ []

producer : List Leaf
producer = out (codes "payload") 0 ∷ out (codes "valid") 1 ∷ into (codes "ready") 2 ∷ []

-- the consumer lists its leaves in another order: the links have the order of the first
consumer : List Leaf
consumer = out (codes "ready") 5 ∷ into (codes "payload") 3 ∷ into (codes "valid") 4 ∷ []

forward : connected signals producer consumer ≡ Some (link 3 0 ∷ link 4 1 ∷ link 2 5 ∷ [])
unfolding signals producer consumer
forward = refl

backward : connected signals consumer producer ≡ Some (link 2 5 ∷ link 3 0 ∷ link 4 1 ∷ [])
unfolding signals producer consumer
backward = refl

-- two outputs meet; two inputs meet, and nothing is linked
two_outputs : connected signals (out (codes "payload") 0 ∷ []) (out (codes "payload") 3 ∷ []) ≡ None
unfolding signals
two_outputs = refl

two_inputs : connected signals (into (codes "payload") 0 ∷ []) (into (codes "payload") 3 ∷ []) ≡ Some []
unfolding signals
two_inputs = refl

-- a path of one interface alone
of_the_first : connected signals producer (into (codes "payload") 3 ∷ into (codes "valid") 4 ∷ []) ≡ None
unfolding signals producer
of_the_first = refl

of_the_second : connected signals (out (codes "payload") 0 ∷ []) (into (codes "payload") 3 ∷ into (codes "valid") 4 ∷ []) ≡ None
unfolding signals
of_the_second = refl

-- another width, and another init
another_width : connected signals (out (codes "payload") 0 ∷ []) (into (codes "payload") 6 ∷ []) ≡ None
unfolding signals
another_width = refl

another_init : connected signals (out (codes "payload") 0 ∷ []) (into (codes "payload") 7 ∷ []) ≡ None
unfolding signals
another_init = refl

-- where a path stands twice, its first leaf counts
twice : first_leaves (out (codes "a") 0 ∷ into (codes "b") 1 ∷ into (codes "a") 6 ∷ []) ≡ out (codes "a") 0 ∷ into (codes "b") 1 ∷ []
twice = refl

twice_linked : connected signals (out (codes "a") 0 ∷ into (codes "a") 6 ∷ []) (into (codes "a") 3 ∷ []) ≡ Some (link 3 0 ∷ [])
unfolding signals
twice_linked = refl

-- nothing is connected with nothing
empty : connected signals [] [] ≡ Some []
unfolding signals
empty = refl
