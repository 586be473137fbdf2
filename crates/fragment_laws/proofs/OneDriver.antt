-- Who drives a signal of a design, and what it holds where settling starts.
use Rattle.std.specs.Prelude.{◌≡◌, refl, ℕ, zero, suc, ◌+◌, ◌<◌, ◌==◌, ◌&&◌, ◌||◌, Bool, true, false, IsTrue, if◌then◌else◌, is_some, List, [], ◌∷◌, ◌++◌, map, length}
use Rattle.std.specs.List.{AllByRecursion, IsDistinct, flat_map, list_any}
use Rattle.std.proofs.Common.{sym, ◌∙◌, ap, arith, subst}
use Rattle.std.proofs.Math.Path.{fun_ext}
use Rattle.std.proofs.lemmas.Bool.{false≢true, or_from, eqb-true}
use Rattle.design_ir.specs.declared.signal.Sig.{Sig}
use Rattle.design_ir.specs.declared.memory.MemRead.{MemRead}
use Rattle.design_ir.specs.declared.memory.Memory.{Memory}
use Rattle.design_ir.specs.declared.port.Port.{Port}
use Rattle.design_ir.specs.declared.process.DesignProcess.{DesignProcess}
use Rattle.design_ir.specs.Guards.{driven}
use Rattle.design_ir.specs.Circuits.{Circuit, State, at, is_among, is_input, is_register, is_held}
use Rattle.design_ir.specs.Designs.{drivers, share}
use Rattle.design_ir.specs.Settled.{starts}
use Rattle.fragment_laws.specs.Givers.{ReadPort, ports_from}
use Rattle.fragment_laws.specs.Settling.{inits}
use Rattle.fragment_laws.proofs.Once.{NonePass, AtMostOne, IsOnly, one_left, one_right, one_across, only_any, none_of_kind, only_of_kind, one_mapped, none_mapped, any_mapped, once}
use Rattle.fragment_laws.proofs.PortFolds.{data_of, data_listed, any_listed}

-- each signal is driven once at most, and no input is driven
pub record IsDrivenOnce (c : Circuit) : Type 0 where
  pub once : IsDistinct share (drivers c)
  pub inputs : AllByRecursion (λ (p : Port). IsTrue p.is_input → list_any (λ ss. is_among ss p.sig.0) (drivers c) ≡ false) c.ports

module _ (c : Circuit) (s : ℕ) where
  abbrev pub drives : DesignProcess → Bool
  drives x = is_among (driven c.pool x.body) s

  abbrev pub reads : ReadPort → Bool
  reads x = x.port.word.0 == s

  abbrev pub ports : List ReadPort
  ports = ports_from 0 c.memories

  abbrev has : List ℕ → Bool
  has ss = is_among ss s

  abbrev own : DesignProcess → List ℕ
  own x = driven c.pool x.body

  abbrev words : List (List ℕ)
  words = flat_map (λ (m : Memory). map (λ (r : MemRead). r.word.0 ∷ []) m.reads) c.memories

  or_false : (b : Bool) → (b || false) ≡ b
  or_false true = refl
  or_false false = refl

  data_reads : (λ (x : ReadPort). is_among (data_of x) s) ≡ reads
  data_reads = fun_ext λ x. or_false (reads x)

  module _ (rules : IsDrivenOnce c) where
    all_once : AtMostOne has (map own c.processes ++ words)
    all_once = once s (drivers c) rules.once

    pub processes_once : AtMostOne drives c.processes
    processes_once = one_mapped has own c.processes (one_left has (map own c.processes) words all_once)

    pub ports_once : AtMostOne reads ports
    ports_once =
        subst (λ t. AtMostOne t ports) data_reads
        (one_mapped has data_of ports (subst (AtMostOne has) (sym (data_listed 0 c.memories)) (one_right has (map own c.processes) words all_once)))

    -- where a process drives it, it is the data of no port
    pub no_port : (p : DesignProcess) → IsOnly drives c.processes p → NonePass reads ports
    no_port p o =
        let some : list_any has (map own c.processes) ≡ true = any_mapped has own c.processes ∙ only_any drives c.processes p o in
        subst (λ t. NonePass t ports) data_reads
        (none_mapped has data_of ports (subst (NonePass has) (sym (data_listed 0 c.memories)) (one_across has (map own c.processes) words all_once some)))

    -- what is driven is no input
    no_inputs : list_any has (drivers c) ≡ true → (ps : List Port) → AllByRecursion (λ (p : Port). IsTrue p.is_input → list_any (λ ss. is_among ss p.sig.0) (drivers c) ≡ false) ps
        → list_any (λ (p : Port). p.is_input && (p.sig.0 == s)) ps ≡ false
    no_inputs some [] h = refl
    no_inputs some (p ∷ ps) h = or_from (p.is_input && (p.sig.0 == s)) (list_any (λ (p : Port). p.is_input && (p.sig.0 == s)) ps) (by p.is_input (p.sig.0 == s) refl h.0) (no_inputs some ps h.1)
      where
        by : (a b : Bool) → (p.sig.0 == s) ≡ b → (IsTrue a → list_any (λ ss. is_among ss p.sig.0) (drivers c) ≡ false) → (a && b) ≡ false
        by false b e free = refl
        by true false e free = refl
        by true true e free = absurd (false≢true (sym (free refl) ∙ ap (λ t. list_any (λ ss. is_among ss t) (drivers c)) (eqb-true p.sig.0 s e) ∙ some))

    or_first : (a b : Bool) → a ≡ true → (a || b) ≡ true
    or_first true b e = refl
    or_first false b e = absurd (false≢true e)

    or_second : (a b : Bool) → b ≡ true → (a || b) ≡ true
    or_second true b e = refl
    or_second false b e = e

    any_joined : (xs ys : List (List ℕ)) → list_any has (xs ++ ys) ≡ (list_any has xs || list_any has ys)
    any_joined [] ys = refl
    any_joined (x ∷ xs) ys = ap (λ b. has x || b) (any_joined xs ys) ∙ or_assoc (has x) (list_any has xs) (list_any has ys)
      where
        or_assoc : (a b e : Bool) → (a || (b || e)) ≡ ((a || b) || e)
        or_assoc true b e = refl
        or_assoc false b e = refl

    driven_no_input : (p : DesignProcess) → IsOnly drives c.processes p → is_input c s ≡ false
    driven_no_input p o =
        no_inputs (any_joined (map own c.processes) words ∙ or_first (list_any has (map own c.processes)) (list_any has words) (any_mapped has own c.processes ∙ only_any drives c.processes p o)) c.ports rules.inputs

    read_no_input : (x : ReadPort) → IsOnly reads ports x → is_input c s ≡ false
    read_no_input x o =
        let some : list_any has words ≡ true = ap (list_any has) (sym (data_listed 0 c.memories)) ∙ any_mapped has data_of ports ∙ ap (λ t. list_any t ports) data_reads ∙ only_any reads ports x o in
        no_inputs (any_joined (map own c.processes) words ∙ or_second (list_any has (map own c.processes)) (list_any has words) some) c.ports rules.inputs

    -- ---- who drives it

    register_is : (a b : Bool) → list_any (λ (x : DesignProcess). is_some x.domain && drives x) c.processes ≡ a → list_any (λ (x : ReadPort). is_some x.port.domain && reads x) ports ≡ b → is_register c s ≡ (a || b)
    register_is a b e f =
        ap (λ t. t || list_any (λ (m : Memory). list_any (λ (r : MemRead). is_some r.domain && (r.word.0 == s)) m.reads) c.memories) e
        ∙ ap (λ t. a || t) (any_listed (λ (r : MemRead). is_some r.domain && (r.word.0 == s)) 0 c.memories ∙ f)

    -- a process alone
    pub driven_held : (p : DesignProcess) → IsOnly drives c.processes p → is_held c s ≡ is_some p.domain
    driven_held p o =
        ap (λ b. b || is_register c s) (driven_no_input p o)
        ∙ register_is (is_some p.domain) false (only_of_kind drives (λ (x : DesignProcess). is_some x.domain) c.processes p o) (none_of_kind reads (λ (x : ReadPort). is_some x.port.domain) ports (no_port p o))
        ∙ or_false (is_some p.domain)

    -- a port alone
    pub read_held : (x : ReadPort) → NonePass drives c.processes → IsOnly reads ports x → is_held c s ≡ is_some x.port.domain
    read_held x none o =
        ap (λ b. b || is_register c s) (read_no_input x o)
        ∙ register_is false (is_some x.port.domain) (none_of_kind drives (λ (x : DesignProcess). is_some x.domain) c.processes none) (only_of_kind reads (λ (x : ReadPort). is_some x.port.domain) ports x o)

    -- nobody
    pub free_held : NonePass drives c.processes → NonePass reads ports → is_held c s ≡ is_input c s
    free_held none nothing =
        ap (λ b. is_input c s || b) (register_is false false (none_of_kind drives (λ (x : DesignProcess). is_some x.domain) c.processes none) (none_of_kind reads (λ (x : ReadPort). is_some x.port.domain) ports nothing))
        ∙ or_false (is_input c s)

  -- ---- where settling starts

  module _ (st : State) where
    starts_number : (a : ℕ) (xs : List Sig) (k : ℕ) → k < length xs → a + k ≡ s → at (starts c st a xs) k ≡ (if is_held c s then at st.held s else at (map (λ (x : Sig). x.init) xs) k)
    starts_number a [] k there e = absurd (omega (arith, there))
    starts_number a (x ∷ xs) zero there e = let i : a ≡ s = omega (arith, e) in ap (λ n. if is_held c n then at st.held n else x.init) i
    starts_number a (x ∷ xs) (suc k) there e = starts_number (suc a) xs k (omega (arith, there)) (omega (arith, e))

    pub starts_at : s < length c.pool.signals → at (starts c st 0 c.pool.signals) s ≡ (if is_held c s then at st.held s else at (inits c.pool) s)
    starts_at there = starts_number 0 c.pool.signals s there (omega arith)

    pub starts_length : (a : ℕ) (xs : List Sig) → length (starts c st a xs) ≡ length xs
    starts_length a [] = refl
    starts_length a (x ∷ xs) = ap suc (starts_length (suc a) xs)
