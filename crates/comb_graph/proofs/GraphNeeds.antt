-- The rules of a design say which bit needs which.
use Rattle.std.proofs.Common.{◌≡◌, ◌∙◌, ◌<◌, ◌+◌, ◌++◌, inl, inr, ℕ, zero, suc, Option, Some, None, is_none, if◌then◌else◌, List, [], ◌∷◌, map, refl, sym, ap, subst, arith}
use Rattle.std.specs.List.{Contains, flat_map, range_with_len}
use Rattle.std.proofs.lemmas.List.Elements.{Contains-append_left, Contains-append_right, Contains-append_cases}
use Rattle.design_ir.specs.declared.ids.DomainId.{DomainId}
use Rattle.design_ir.specs.declared.memory.MemRead.{MemRead}
use Rattle.design_ir.specs.declared.process.DesignProcess.{DesignProcess}
use Rattle.design_ir.specs.Circuits.{Circuit}
use Rattle.design_ir.specs.Guards.{Guarded, guarded}
use Rattle.design_ir.specs.Targets.{Bit, aims}
use Rattle.design_ir.specs.Pools.{Pooled}
use Rattle.design_ir.specs.Values.{signal_form}
use Rattle.design_ir.specs.Loops.{ProcessNeeds, ReadNeeds, Needs}
use Rattle.comb_graph.specs.Rules.{Rule, IsAsked, rule_of, rules_of, all_rules, comb_part, comb_assignments, word_rule, word_rules, read_rules, memory_rules, needs_rules}
use Rattle.digraph.proofs.WalkPaths.{contains-cons, contains-head, contains-cases}
use Rattle.design_ir.proofs.Elements.{map_of, flat_of, range_of}

pub flat_has : {X Y : Type 0} (f : X → List Y) (xs : List X) (x : X) (y : Y) → Contains xs x → Contains (f x) y → Contains (flat_map f xs) y
flat_has f [] x y among in' = absurd (omega (arith, among.1))
flat_has f (z ∷ xs) x y among in' =
    elim (contains-cases z x xs among) [
      | inl same ↦ Contains-append_left (f z) (flat_map f xs) y (subst (λ w. Contains (f w) y) (sym same) in')
      | inr rest ↦ Contains-append_right (f z) (flat_map f xs) y (flat_has f xs x y rest in')
    ]

pub map_has : {X Y : Type 0} (f : X → Y) (xs : List X) (x : X) → Contains xs x → Contains (map f xs) (f x)
map_has f [] x among = absurd (omega (arith, among.1))
map_has f (z ∷ xs) x among =
    elim (contains-cases z x xs among) [
      | inl same ↦ subst (λ w. Contains (f z ∷ map f xs) (f w)) same (contains-head (f z) (map f xs))
      | inr rest ↦ contains-cons (f z) (f x) (map f xs) (map_has f xs x rest)
    ]

-- what a process asks stands among the rules
asked_of : (c : Circuit) (b x : Bit) → ProcessNeeds c b x → IsAsked (all_rules c.pool (comb_assignments c.processes)) b x
asked_of c b x h =
    let P : Option DomainId → Type 0 = λ d. Contains (if is_none d then guarded [] h.process.body else []) h.assignment in
    let part : Contains (comb_part h.process) h.assignment = subst P (sym h.comb) h.stands in
    let among = flat_has comb_part c.processes h.process h.assignment h.among part in
    record {
      rule = rule_of c.pool h.assignment h.needs.aim;
      among = flat_has (rules_of c.pool) (comb_assignments c.processes) h.assignment (rule_of c.pool h.assignment h.needs.aim) among
          (map_has (rule_of c.pool h.assignment) (aims c.pool h.assignment.target.0) h.needs.aim h.needs.may);
      bit = h.needs.writes;
      reads = h.needs.reads;
    }

-- only a combinational process has a part
comb_of : (p : DesignProcess) (d : Option DomainId) (g : Guarded) → p.domain ≡ d → Contains (if is_none d then guarded [] p.body else []) g → (p.domain ≡ None) × Contains (guarded [] p.body) g
comb_of p None g is in' = (is, in')
comb_of p (Some x) g is in' = absurd (omega (arith, in'.1))

needed_of : (c : Circuit) (b x : Bit) → IsAsked (all_rules c.pool (comb_assignments c.processes)) b x → ProcessNeeds c b x
needed_of c b x h =
    let assignment = flat_of (rules_of c.pool) (comb_assignments c.processes) h.rule h.among in
    let process = flat_of comb_part c.processes assignment.0 assignment.1 in
    let stands = comb_of process.0 process.0.domain assignment.0 refl process.2 in
    let aim = map_of (rule_of c.pool assignment.0) (aims c.pool assignment.0.target.0) h.rule assignment.2 in
    record {
      process = process.0;
      among = process.1;
      comb = stands.0;
      assignment = assignment.0;
      stands = stands.1;
      needs = record {
        aim = aim.0;
        may = aim.1;
        writes = ap (λ (r : Rule). r.bit) aim.2 ∙ h.bit;
        reads = subst (λ (r : Rule). Contains r.reads x) (sym aim.2) h.reads;
      };
    }

-- ---- read ports

range_has : (low n k : ℕ) → k < n → Contains (range_with_len low n) (low + k)
range_has low zero k h = absurd (omega (arith, h))
range_has low (suc n) zero h = let same : low ≡ low + 0 = omega arith in subst (Contains (range_with_len low (suc n))) same (contains-head low (range_with_len (low + 1) n))
range_has low (suc n) (suc k) h =
    let same : low + 1 + k ≡ low + suc k = omega arith in
    contains-cons low (low + suc k) (range_with_len (low + 1) n) (subst (Contains (range_with_len (low + 1) n)) same (range_has (low + 1) n k (omega (arith, h))))

-- a rule for a bit of the word of a combinational port stands among those of the port
port_has : (pool : Pooled) (r : MemRead) (d : Option (List ℕ)) (rule : Rule) → d ≡ None → Contains (word_rules pool r.word.0 r.addr (signal_form pool.signals r.word.0).width) rule
    → Contains (if is_none d then word_rules pool r.word.0 r.addr (signal_form pool.signals r.word.0).width else []) rule
port_has pool r d rule is among = subst (λ o. Contains (if is_none o then word_rules pool r.word.0 r.addr (signal_form pool.signals r.word.0).width else []) rule) (sym is) among

-- what a read port asks stands among the rules of the memories
read_asked : (c : Circuit) (b x : Bit) → ReadNeeds c b x → IsAsked (flat_map (memory_rules c.pool) c.memories) b x
read_asked c b x h =
    let pool = c.pool in
    let r : MemRead = h.read in
    let rule = word_rule pool r.word.0 r.addr b.index in
    let inside : b.index < (signal_form pool.signals r.word.0).width = subst (λ s. b.index < (signal_form pool.signals s).width) h.word h.inside in
    let place = range_has 0 (signal_form pool.signals r.word.0).width b.index inside in
    let zero' : 0 + b.index ≡ b.index = omega arith in
    let word = map_has (word_rule pool r.word.0 r.addr) (range_with_len 0 (signal_form pool.signals r.word.0).width) b.index (subst (Contains (range_with_len 0 (signal_form pool.signals r.word.0).width)) zero' place) in
    let port = port_has pool r r.domain rule h.comb word in
    record {
      rule = rule;
      among = flat_has (memory_rules pool) c.memories h.memory rule h.among (flat_has (read_rules pool) h.memory.reads r rule h.stands port);
      bit = ap (λ s. record { sig = s; index = b.index }) (sym h.word);
      reads = h.address;
    }

-- only a combinational port asks
port_of : (pool : Pooled) (r : MemRead) (d : Option (List ℕ)) (rule : Rule) → r.domain ≡ d → Contains (if is_none d then word_rules pool r.word.0 r.addr (signal_form pool.signals r.word.0).width else []) rule
    → (r.domain ≡ None) × Contains (word_rules pool r.word.0 r.addr (signal_form pool.signals r.word.0).width) rule
port_of pool r None rule is among = (is, among)
port_of pool r (Some d) rule is among = absurd (omega (arith, among.1))

read_needed : (c : Circuit) (b x : Bit) → IsAsked (flat_map (memory_rules c.pool) c.memories) b x → ReadNeeds c b x
read_needed c b x h =
    let pool = c.pool in
    let memory = flat_of (memory_rules pool) c.memories h.rule h.among in
    let read = flat_of (read_rules pool) memory.0.reads h.rule memory.2 in
    let r : MemRead = read.0 in
    let port = port_of pool r r.domain h.rule refl read.2 in
    let width = (signal_form pool.signals r.word.0).width in
    let place = map_of (word_rule pool r.word.0 r.addr) (range_with_len 0 width) h.rule port.1 in
    let bit : record { sig = r.word.0; index = place.0 } ≡ b = ap (λ (y : Rule). y.bit) place.2 ∙ h.bit in
    let word : b.sig ≡ r.word.0 = sym (ap (λ (y : Bit). y.sig) bit) in
    let index : b.index ≡ place.0 = sym (ap (λ (y : Bit). y.index) bit) in
    let below = (range_of 0 width place.0 place.1).1 in
    record {
      memory = memory.0;
      among = memory.1;
      read = r;
      stands = read.1;
      comb = port.0;
      word = word;
      inside = subst (λ s. b.index < (signal_form pool.signals s).width) (sym word) (omega (arith, index, below));
      address = subst (λ (y : Rule). Contains y.reads x) (sym place.2) h.reads;
    }

-- ---- both

asked_left : (xs ys : List Rule) (b x : Bit) → IsAsked xs b x → IsAsked (xs ++ ys) b x
asked_left xs ys b x h = record { rule = h.rule; among = Contains-append_left xs ys h.rule h.among; bit = h.bit; reads = h.reads }

asked_right : (xs ys : List Rule) (b x : Bit) → IsAsked ys b x → IsAsked (xs ++ ys) b x
asked_right xs ys b x h = record { rule = h.rule; among = Contains-append_right xs ys h.rule h.among; bit = h.bit; reads = h.reads }

-- a bit needs another exactly where a rule of the design asks for it
pub needs_are_asked : (c : Circuit) (b x : Bit) → Needs c b x → IsAsked (needs_rules c) b x
needs_are_asked c b x (inl h) = asked_left (all_rules c.pool (comb_assignments c.processes)) (flat_map (memory_rules c.pool) c.memories) b x (asked_of c b x h)
needs_are_asked c b x (inr h) = asked_right (all_rules c.pool (comb_assignments c.processes)) (flat_map (memory_rules c.pool) c.memories) b x (read_asked c b x h)

pub asked_are_needs : (c : Circuit) (b x : Bit) → IsAsked (needs_rules c) b x → Needs c b x
asked_are_needs c b x h =
    elim (Contains-append_cases (all_rules c.pool (comb_assignments c.processes)) (flat_map (memory_rules c.pool) c.memories) h.rule h.among) [
      | inl process ↦ inl (needed_of c b x (record { rule = h.rule; among = process; bit = h.bit; reads = h.reads }))
      | inr memory ↦ inr (read_needed c b x (record { rule = h.rule; among = memory; bit = h.bit; reads = h.reads }))
    ]
