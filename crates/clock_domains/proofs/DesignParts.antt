-- The whole design of a module with those below it keeps to the rules of designs.
use Rattle.std.proofs.Common.{◌≡◌, ℕ, ◌≤◌, nat_le, Bool, true, false, IsTrue, ◌&&◌, ◌||◌, ◌==◌, cond, List, [], ◌∷◌, ◌++◌, map, length, Option, Some, None, is_some, unwrap_or, if◌then◌else◌, refl, ap, ◌∙◌, arith}
use Rattle.std.specs.List.{AllByRecursion, list_any, flat_map, filter}
use Rattle.std.specs.Prelude.{All, codes}
use Rattle.std.proofs.lemmas.List.Elements.{All-cons, All-append, All-nil, All-tail}
use Rattle.std.proofs.lemmas.Bool.{false≢true}
use Rattle.std.proofs.lemmas.Bool.Decides.{nat_tests}
use Rattle.lists.specs.Texts.{text_eq}
use Rattle.lists.specs.Names.{IsName, continues_name}
use Rattle.design_ir.specs.declared.ids.SigId.{SigId}
use Rattle.design_ir.specs.declared.signal.Sig.{Sig}
use Rattle.design_ir.specs.declared.domain.Domain.{Domain}
use Rattle.design_ir.specs.declared.port.Port.{Port}
use Rattle.design_ir.specs.declared.port.Column.{Column}
use Rattle.design_ir.specs.declared.memory.MemRead.{MemRead}
use Rattle.design_ir.specs.declared.memory.Memory.{Memory}
use Rattle.design_ir.specs.declared.process.Process.{Process}
use Rattle.design_ir.specs.declared.process.DesignProcess.{DesignProcess}
use Rattle.design_ir.specs.Pools.{Pooled}
use Rattle.design_ir.specs.Guards.{driven}
use Rattle.design_ir.specs.Circuits.{is_among, option_test}
use Rattle.fragment_walks.specs.Reads.{is_driven}
use Rattle.fragment_walks.proofs.Lists.{all_imp}
use Rattle.clock_domains.specs.Resolvable.{IsDomainOf, IsResetOf}
use Rattle.clock_domains.specs.Resolved.{domain_prefix, domain_signals, name_among, name_by, clocked_data, process_in, is_clocked, memory_path, signals_of, ports_named}
use Rattle.clock_domains.specs.Chosen.{IsSignal, IsResetThere}
use Rattle.clock_domains.specs.Ready.{HasDomain}

pub or_true : (a b : Bool) → b ≡ true → (a || b) ≡ true
or_true true b e = refl
or_true false b e = e

-- ---- clocked sides have domains

pub clocked_any : (q : Pooled) (ds : List Domain) (s : ℕ) (ps : List Process) → AllByRecursion (HasDomain ds) ps
    → list_any (λ (p : DesignProcess). is_some p.domain && is_among (driven q p.body) s) (map (process_in ds) ps) ≡ is_driven q (filter is_clocked ps) s
clocked_any q ds s [] h = refl
clocked_any q ds s (p ∷ ps) h =
    ap (λ b. (b && is_among (driven q p.body) s) || list_any (λ (p : DesignProcess). is_some p.domain && is_among (driven q p.body) s) (map (process_in ds) ps)) h.0
    ∙ ap (λ b. (is_clocked p && is_among (driven q p.body) s) || b) (clocked_any q ds s ps h.1)
    ∙ split (is_clocked p)
  where
    split : (b : Bool) → ((b && is_among (driven q p.body) s) || is_driven q (filter is_clocked ps) s) ≡ is_driven q (cond b (p ∷ filter is_clocked ps) (filter is_clocked ps)) s
    split true = refl
    split false = refl

-- the data of a clocked read port are those of its memory
data_any : (s : ℕ) (rs : List MemRead) → list_any (λ (r : MemRead). is_some r.domain && (r.word.0 == s)) rs ≡ is_among (map (λ (r : MemRead). r.word.0) (filter (λ (r : MemRead). is_some r.domain) rs)) s
data_any s [] = refl
data_any s (r ∷ rs) = ap (λ b. (is_some r.domain && (r.word.0 == s)) || b) (data_any s rs) ∙ split (is_some r.domain)
  where
    split : (b : Bool) → ((b && (r.word.0 == s)) || is_among (map (λ (r : MemRead). r.word.0) (filter (λ (r : MemRead). is_some r.domain) rs)) s) ≡ is_among (map (λ (r : MemRead). r.word.0) (cond b (r ∷ filter (λ (r : MemRead). is_some r.domain) rs) (filter (λ (r : MemRead). is_some r.domain) rs))) s
    split true = refl
    split false = refl

-- what has a path as the data of a clocked read port is that
pub memory_data : (ms : List Memory) (paths : List (Option (List ℕ))) (s : ℕ) → is_some (memory_path ms paths s) ≡ true → list_any (λ (m : Memory). list_any (λ (r : MemRead). is_some r.domain && (r.word.0 == s)) m.reads) ms ≡ true
memory_data [] paths s h = h
memory_data (m ∷ ms) [] s h = absurd (false≢true h)
memory_data (m ∷ ms) (path ∷ paths) s h = split (is_among (clocked_data m) s) (data_any s m.reads) h (memory_data ms paths s)
  where
    split : (b : Bool) → list_any (λ (r : MemRead). is_some r.domain && (r.word.0 == s)) m.reads ≡ b → is_some (cond b path (memory_path ms paths s)) ≡ true → (is_some (memory_path ms paths s) ≡ true → list_any (λ (m : Memory). list_any (λ (r : MemRead). is_some r.domain && (r.word.0 == s)) m.reads) ms ≡ true)
        → (list_any (λ (r : MemRead). is_some r.domain && (r.word.0 == s)) m.reads || list_any (λ (m : Memory). list_any (λ (r : MemRead). is_some r.domain && (r.word.0 == s)) m.reads) ms) ≡ true
    split true e k rest = ap (λ b. b || list_any (λ (m : Memory). list_any (λ (r : MemRead). is_some r.domain && (r.word.0 == s)) m.reads) ms) e
    split false e k rest = or_true (list_any (λ (r : MemRead). is_some r.domain && (r.word.0 == s)) m.reads) _ (rest k)

-- ---- ports under the names of their columns

pub named_signals : (ports : List Port) (cs : List Column) → length ports ≤ length cs → signals_of (ports_named ports cs) ≡ signals_of ports
named_signals [] cs h = refl
named_signals (p ∷ ports) [] h = absurd (omega (arith, h))
named_signals (p ∷ ports) (c ∷ cs) h = ap (λ ss. p.sig.0 ∷ ss) (named_signals ports cs (omega (arith, h)))

pub named_any : (t : ℕ → Bool → Bool) (ports : List Port) (cs : List Column) → length ports ≤ length cs → list_any (λ (p : Port). t p.sig.0 p.is_input) (ports_named ports cs) ≡ list_any (λ (p : Port). t p.sig.0 p.is_input) ports
named_any t [] cs h = refl
named_any t (p ∷ ports) [] h = absurd (omega (arith, h))
named_any t (p ∷ ports) (c ∷ cs) h = ap (λ b. t p.sig.0 p.is_input || b) (named_any t ports cs (omega (arith, h)))

pub named_all : (P : ℕ → Bool → Type 0) (ports : List Port) (cs : List Column) → AllByRecursion (λ (p : Port). P p.sig.0 p.is_input) ports → AllByRecursion (λ (p : Port). P p.sig.0 p.is_input) (ports_named ports cs)
named_all P [] cs h = tt
named_all P (p ∷ ports) [] h = tt
named_all P (p ∷ ports) (c ∷ cs) h = (h.0, named_all P ports cs h.1)

-- ---- names

name_more : (name more : List ℕ) → IsName name → All (λ b. IsTrue (continues_name b)) more → IsName (name ++ more)
name_more name more n h = record { first = n.first; rest = n.rest ++ more; whole = ap (λ xs. xs ++ more) n.whole; starts = n.starts; continues = All-append (λ b. IsTrue (continues_name b)) n.rest more n.continues h }

letters : List ℕ → Type 0
letters xs = All (λ b. IsTrue (continues_name b)) xs

clk_letters : letters (codes "clk")
unfolding letters
clk_letters = All-cons (λ b. IsTrue (continues_name b)) 99 (codes "lk") refl (All-cons (λ b. IsTrue (continues_name b)) 108 (codes "k") refl (All-cons (λ b. IsTrue (continues_name b)) 107 [] refl (All-nil (λ b. IsTrue (continues_name b)))))

rst_letters : letters (codes "rst")
unfolding letters
rst_letters = All-cons (λ b. IsTrue (continues_name b)) 114 (codes "st") refl (All-cons (λ b. IsTrue (continues_name b)) 115 (codes "t") refl (All-cons (λ b. IsTrue (continues_name b)) 116 [] refl (All-nil (λ b. IsTrue (continues_name b)))))

line_letters : letters (codes "_")
unfolding letters
line_letters = All-cons (λ b. IsTrue (continues_name b)) 95 [] refl (All-nil (λ b. IsTrue (continues_name b)))

clk_name : IsName (codes "clk")
unfolding letters
clk_name = record { first = 99; rest = codes "lk"; whole = refl; starts = refl; continues = All-tail (λ b. IsTrue (continues_name b)) 99 (codes "lk") clk_letters }

rst_name : IsName (codes "rst")
unfolding letters
rst_name = record { first = 114; rest = codes "st"; whole = refl; starts = refl; continues = All-tail (λ b. IsTrue (continues_name b)) 114 (codes "st") rst_letters }

prefixed_name : (name end : List ℕ) → IsName name → IsName end → letters end → IsName (domain_prefix name ++ end)
unfolding letters
prefixed_name name end n e l = split (text_eq name (codes "sync"))
  where
    split : (b : Bool) → IsName (cond b [] (name ++ codes "_") ++ end)
    split true = e
    split false = name_more (name ++ codes "_") end (name_more name (codes "_") n line_letters) l

pub domain_signal_names : (names : List (List ℕ)) → AllByRecursion IsName names → AllByRecursion (λ (x : Sig). IsName x.name) (flat_map domain_signals names)
domain_signal_names [] h = tt
domain_signal_names (n ∷ names) h = (prefixed_name n (codes "clk") h.0 clk_name clk_letters, (prefixed_name n (codes "rst") h.0 rst_name rst_letters, domain_signal_names names h.1))

-- what domains name has a name
by_named : (d : Domain) (s : ℕ) (other : List ℕ) → IsName d.name → IsName other → IsName (unwrap_or (name_by d s) other)
by_named d s other n o = split (d.clk.0 == s) (option_test (λ (r : SigId). r.0 == s) d.rst)
  where
    split : (x y : Bool) → IsName (unwrap_or (if x then Some (domain_prefix d.name ++ codes "clk") else (if y then Some (domain_prefix d.name ++ codes "rst") else None)) other)
    split true y = prefixed_name d.name (codes "clk") n clk_name clk_letters
    split false true = prefixed_name d.name (codes "rst") n rst_name rst_letters
    split false false = o

pub among_named : (ds : List Domain) (s : ℕ) (other : List ℕ) → AllByRecursion (λ (d : Domain). IsName d.name) ds → IsName other → IsName (name_among ds s other)
among_named [] s other h o = o
among_named (d ∷ ds) s other h o = by_named d s (name_among ds s other) h.0 (among_named ds s other h.1 o)

-- ---- small facts

pub wide_enough : (n : ℕ) → nat_le 1 n ≡ true → 1 ≤ n
wide_enough n e = grind (arith, nat_tests)

pub domains_signal : (q : Pooled) (ds : List Domain) → AllByRecursion (IsDomainOf q) ds → AllByRecursion (IsSignal q) ds
domains_signal q ds h = all_imp (λ (d : Domain) k. record { clock = k.clock.there; reset = by d.clk d.rst k.reset }) ds h
  where
    by : (clk : SigId) (o : Option SigId) → IsResetOf q clk o → IsResetThere q o
    by clk None k = tt
    by clk (Some s) k = k.0.there
