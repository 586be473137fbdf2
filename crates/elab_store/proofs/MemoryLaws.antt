-- What is held of memories stays: as the pool grows, where a register gets its shape, and where other things are made.
use Rattle.std.specs.Prelude.{◌≡◌, ◌≢◌, refl, ℕ, zero, suc, ◌<◌, ◌≤◌, ◌==◌, ◌||◌, Bool, true, false, List, [], ◌∷◌, ◌++◌, map, length, slice_get, ℤ, Option, Some, None}
use Rattle.std.specs.List.{AllByRecursion, list_any}
use Rattle.std.specs.Option.{option_map_or}
use Rattle.std.proofs.Common.{sym, ◌∙◌, ap, arith}
use Rattle.std.proofs.lemmas.Bool.Decides.{nat_tests}
use Rattle.shape_rules.specs.Forms.{Form}
use Rattle.design_ir.specs.declared.ids.ExprId.{ExprId}
use Rattle.design_ir.specs.declared.ids.SigId.{SigId}
use Rattle.design_ir.specs.declared.expr.Expr.TheVariants as expr
use Rattle.design_ir.specs.declared.memory.MemWrite.{MemWrite}
use Rattle.design_ir.specs.declared.memory.MemRead.{MemRead}
use Rattle.design_ir.specs.declared.memory.Memory.{Memory}
use Rattle.design_ir.specs.declared.port.Port.{Port}
use Rattle.design_ir.specs.Circuits.{is_among, option_test}
use Rattle.design_ir.specs.Pools.{Pooled}
use Rattle.design_ir.specs.Settling.{is_signal, signal_settled}
use Rattle.clock_domains.specs.Resolvable.{domain_numbers}
use Rattle.memory_ports.specs.Ports.{IsGrown}
use Rattle.memory_ports.specs.Memories.{IsSignal, HasEnable, HasWrite, HasRead, HasPorts}
use Rattle.memory_ports.specs.Laws.{IsOther, IsOtherEnable, IsOtherWrite, IsOtherRead, IsApart}
use Rattle.memory_ports.proofs.PortLaws.{ports_stay, others_left}
use Rattle.elab_store.specs.declared.own_machine.OwnMachine.{OwnMachine}
use Rattle.elab_store.specs.declared.memories.OwnMemory.{OwnMemory}
use Rattle.elab_store.specs.declared.domains.ClockDomain.{ClockDomain}
use Rattle.elab_store.specs.declared.faces.ComponentObject.{ComponentObject}
use Rattle.elab_store.specs.Sound.{HasNoClock, HasNoPort, IsClockDomain, IsResetBehind, IsOwnData, IsOwnMemory, HasOwnRegister}

-- ---- lists

pub all_both : {A : Type 0} (P Q R : A → Type 0) (xs : List A) → ((x : A) → P x → Q x → R x) → AllByRecursion P xs → AllByRecursion Q xs → AllByRecursion R xs
all_both P Q R [] f h g = tt
all_both P Q R (x ∷ xs) f h g = (f x h.0 g.0, all_both P Q R xs f h.1 g.1)

pub each_holds : {A : Type 0} (P Q : A → Type 0) (xs : List A) → ((x : A) → P x → Q x) → AllByRecursion P xs → AllByRecursion Q xs
each_holds P Q [] f h = tt
each_holds P Q (x ∷ xs) f h = (f x h.0, each_holds P Q xs f h.1)

pub place_below : {A : Type 0} (xs : List A) (k : ℕ) (x : A) → slice_get xs k ≡ Some x → k < length xs
place_below [] k x e = absurd cc
place_below (y ∷ xs) zero x e = omega arith
place_below (y ∷ xs) (suc k) x e = omega (arith, place_below xs k x e)

pub still_at : {A : Type 0} (xs ys : List A) (k : ℕ) (x : A) → slice_get xs k ≡ Some x → slice_get (xs ++ ys) k ≡ Some x
still_at [] ys k x e = absurd cc
still_at (z ∷ xs) ys zero x e = e
still_at (z ∷ xs) ys (suc k) x e = still_at xs ys k x e

other_number : (n m : ℕ) → n < m → (n == m) ≡ false
other_number n m lt = grind (arith, nat_tests)

pub not_among : (ns : List ℕ) (s : ℕ) → AllByRecursion (λ n. s < n) ns → is_among ns s ≡ false
not_among [] s h = refl
not_among (n ∷ ns) s h = ap (λ b. b || list_any (λ x. x == s) ns) (above s n h.0) ∙ not_among ns s h.1
  where
    above : (s n : ℕ) → s < n → (n == s) ≡ false
    above s n lt = grind (arith, nat_tests)

pub none_among : (ns : List ℕ) (s : ℕ) → AllByRecursion (λ n. n < s) ns → is_among ns s ≡ false
none_among [] s h = refl
none_among (n ∷ ns) s h = ap (λ b. b || list_any (λ x. x == s) ns) (other_number n s h.0) ∙ none_among ns s h.1

-- ---- a pool that grows

pub memory_stays : (p q : Pooled) (made : List ClockDomain) (objects : List (ℕ × ComponentObject)) → IsGrown p q → (x : OwnMemory) → IsOwnMemory p made objects x → IsOwnMemory q made objects x
memory_stays p q made objects g x h = record {
  spec = h.spec;
  ports = ports_stay p q x.spec g h.ports;
  write_names = h.write_names;
  read_names = h.read_names;
  own_data = h.own_data;
}

module _ (p q : Pooled) (g : IsGrown p q) (t : ℕ) where
  other_stays : (f : Form) (e : ExprId) → IsSignal p f e → IsOther p t e → IsOther q t e
  other_stays f e h o =
      let here : slice_get q.exprs e.0 ≡ Some (expr.Sig h.sig) = ap (λ es. slice_get es e.0) g.exprs ∙ still_at p.exprs g.more_exprs e.0 (expr.Sig h.sig) h.stands in
      ap (option_test (is_signal t)) (here ∙ sym h.stands) ∙ o

  enable_other : (domain : Option (List ℕ)) (e : Option ExprId) → HasEnable p domain e → IsOtherEnable p t e → IsOtherEnable q t e
  enable_other domain None h o = tt
  enable_other None (Some e) h o = absurd h
  enable_other (Some d) (Some e) h o = other_stays _ e h o

  write_other : (depth : ℕ) (shape : Form) (w : MemWrite) → HasWrite p depth shape w → IsOtherWrite p t w → IsOtherWrite q t w
  write_other depth shape w h o = (other_stays _ w.addr h.addr o.0, other_stays _ w.word h.word o.1, other_stays _ w.enable h.enable o.2)

  read_other : (depth : ℕ) (shape : Form) (r : MemRead) → HasRead p depth shape r → IsOtherRead p t r → IsOtherRead q t r
  read_other depth shape r h o = (other_stays _ r.addr h.addr o.0, o.1, enable_other r.domain r.enable h.enable o.2)

  pub apart_stays : (m : Memory) → HasPorts p m → IsApart p t m → IsApart q t m
  apart_stays m h a = record {
    writes = all_both (HasWrite p m.depth m.shape) (IsOtherWrite p t) (IsOtherWrite q t) m.writes (write_other m.depth m.shape) h.writes a.writes;
    reads = all_both (HasRead p m.depth m.shape) (IsOtherRead p t) (IsOtherRead q t) m.reads (read_other m.depth m.shape) h.reads a.reads;
  }

pub register_stays : (p q : Pooled) (made : List ClockDomain) (objects : List (ℕ × ComponentObject)) (xs : List OwnMemory) → IsGrown p q → AllByRecursion (IsOwnMemory p made objects) xs → (m : OwnMachine) → HasOwnRegister p made xs m → HasOwnRegister q made xs m
register_stays p q made objects xs g are m own = record {
  clocks = own.clocks;
  ports = all_both (IsOwnMemory p made objects) (λ (x : OwnMemory). IsApart p m.machine.signal.0 x.spec) (λ (x : OwnMemory). IsApart q m.machine.signal.0 x.spec) xs (λ x h a. apart_stays p q g m.machine.signal.0 x.spec h.ports a) are own.ports;
}

-- ---- a signal that is not there yet

module _ (p : Pooled) (t : ℕ) (past : length p.signals ≤ t) where
  other_than : (f : Form) (e : ExprId) → IsSignal p f e → IsOther p t e
  other_than f e h =
      let below : h.sig.0 < length p.signals = place_below p.signals h.sig.0 h.signal h.there in
      ap (option_test (is_signal t)) h.stands ∙ other_number h.sig.0 t (omega (arith, below, past))

  enable_than : (domain : Option (List ℕ)) (e : Option ExprId) → HasEnable p domain e → IsOtherEnable p t e
  enable_than domain None h = tt
  enable_than None (Some e) h = absurd h
  enable_than (Some d) (Some e) h = other_than _ e h

  write_than : (depth : ℕ) (shape : Form) (w : MemWrite) → HasWrite p depth shape w → IsOtherWrite p t w
  write_than depth shape w h = (other_than _ w.addr h.addr, other_than _ w.word h.word, other_than _ w.enable h.enable)

  read_than : (depth : ℕ) (shape : Form) (r : MemRead) → HasRead p depth shape r → IsOtherRead p t r
  read_than depth shape r h =
      let below : r.word.0 < length p.signals = place_below p.signals r.word.0 h.word.signal h.word.there in
      (other_than _ r.addr h.addr, (λ e. omega (arith, e, below, past)), enable_than r.domain r.enable h.enable)

  pub apart_from : (m : Memory) → HasPorts p m → IsApart p t m
  apart_from m h = record {
    writes = each_holds (HasWrite p m.depth m.shape) (IsOtherWrite p t) m.writes (write_than m.depth m.shape) h.writes;
    reads = each_holds (HasRead p m.depth m.shape) (IsOtherRead p t) m.reads (read_than m.depth m.shape) h.reads;
  }

pub domain_low : (q : Pooled) (s : ℕ) → length q.signals ≤ s → (x : ClockDomain) → IsClockDomain q x → HasNoClock s x
domain_low q s past x h = none_among (domain_numbers x.domain) s (omega (arith, past, h.clock.there), by_reset x.domain.rst h.reset)
  where
    by_reset : (o : Option SigId) → IsResetBehind q x.domain.clk o → AllByRecursion (λ n. n < s) (option_map_or (λ (t : SigId). t.0 ∷ []) o [])
    by_reset None r = tt
    by_reset (Some t) r = (omega (arith, past, r.0.there), tt)

-- the register of a machine that begins is no signal of a clock domain, and none of a port
pub register_fresh : (p : Pooled) (made : List ClockDomain) (objects : List (ℕ × ComponentObject)) (xs : List OwnMemory) (m : OwnMachine) → AllByRecursion (IsClockDomain p) made → AllByRecursion (IsOwnMemory p made objects) xs → length p.signals ≤ m.machine.signal.0 → HasOwnRegister p made xs m
register_fresh p made objects xs m clocks are past = record {
  clocks = each_holds (IsClockDomain p) (HasNoClock m.machine.signal.0) made (domain_low p m.machine.signal.0 past) clocks;
  ports = each_holds (IsOwnMemory p made objects) (λ (x : OwnMemory). IsApart p m.machine.signal.0 x.spec) xs (λ x h. apart_from p m.machine.signal.0 past x.spec h.ports) are;
}

-- ---- a register that gets its shape

pub memories_settled : (p : Pooled) (made : List ClockDomain) (objects : List (ℕ × ComponentObject)) (xs : List OwnMemory) (m : OwnMachine) (f : Form) (n : ℤ) → AllByRecursion (IsOwnMemory p made objects) xs → HasOwnRegister p made xs m → AllByRecursion (IsOwnMemory (signal_settled p m.machine.signal.0 f n) made objects) xs
memories_settled p made objects xs m f n are own =
    all_both (IsOwnMemory p made objects) (λ (x : OwnMemory). IsApart p m.machine.signal.0 x.spec) (IsOwnMemory (signal_settled p m.machine.signal.0 f n) made objects) xs
    (λ x h a. record { spec = h.spec; ports = others_left p x.spec m.machine.signal.0 f n a h.ports; write_names = h.write_names; read_names = h.read_names; own_data = h.own_data }) are own.ports

-- the expressions are as before
pub registers_settled : (p : Pooled) (made : List ClockDomain) (xs : List OwnMemory) (t : ℕ) (f : Form) (n : ℤ) (m : OwnMachine) → HasOwnRegister p made xs m → HasOwnRegister (signal_settled p t f n) made xs m
registers_settled p made xs t f n m own = record {
  clocks = own.clocks;
  ports = each_holds (λ (x : OwnMemory). IsApart p m.machine.signal.0 x.spec) (λ (x : OwnMemory). IsApart (signal_settled p t f n) m.machine.signal.0 x.spec) xs (λ x a. record { writes = a.writes; reads = a.reads }) own.ports;
}

-- ---- a clock domain and a component more

all_last : {A : Type 0} (P : A → Type 0) (xs : List A) (x : A) → AllByRecursion P xs → P x → AllByRecursion P (xs ++ x ∷ [])
all_last P [] x h p = (p, tt)
all_last P (y ∷ xs) x h p = (h.0, all_last P xs x h.1 p)

-- the data of its read ports are among the first so many signals
abbrev pub HasDataBelow : ℕ → OwnMemory → Type 0
HasDataBelow k x = AllByRecursion (λ (r : MemRead). r.word.0 < k) x.spec.reads

pub data_below : (p : Pooled) (made : List ClockDomain) (objects : List (ℕ × ComponentObject)) (x : OwnMemory) → IsOwnMemory p made objects x → HasDataBelow (length p.signals) x
data_below p made objects x h = each_holds (HasRead p x.spec.depth x.spec.shape) (λ (r : MemRead). r.word.0 < length p.signals) x.spec.reads (λ r has. place_below p.signals r.word.0 has.word.signal has.word.there) h.ports.reads

-- signals from k on are none of them
above_data : (k s : ℕ) (ns : List ℕ) → s < k → AllByRecursion (λ n. k ≤ n) ns → is_among ns s ≡ false
above_data k s ns below past = not_among ns s (each_holds (λ n. k ≤ n) (λ n. s < n) ns (λ n le. omega (arith, below, le)) past)

pub with_clock : (q : Pooled) (made : List ClockDomain) (objects : List (ℕ × ComponentObject)) (k : ℕ) (x : ClockDomain) → AllByRecursion (λ n. k ≤ n) (domain_numbers x.domain) → (m : OwnMemory) → IsOwnMemory q made objects m → HasDataBelow k m → IsOwnMemory q (made ++ x ∷ []) objects m
with_clock q made objects k x past m h data_low = record {
  spec = h.spec;
  ports = h.ports;
  write_names = h.write_names;
  read_names = h.read_names;
  own_data = all_both (IsOwnData made objects) (λ (r : MemRead). r.word.0 < k) (IsOwnData (made ++ x ∷ []) objects) m.spec.reads
      (λ r own low. record { clocks = all_last (HasNoClock r.word.0) made x own.clocks (above_data k r.word.0 (domain_numbers x.domain) low past); ports = own.ports }) h.own_data data_low;
}

-- the register of a machine is among the first so many signals
abbrev pub HasRegisterBelow : ℕ → OwnMachine → Type 0
HasRegisterBelow k m = m.machine.signal.0 < k

-- nor is it a signal of a clock domain that was made since
pub register_with_clock : (q : Pooled) (made : List ClockDomain) (memories : List OwnMemory) (k : ℕ) (x : ClockDomain) → AllByRecursion (λ n. k ≤ n) (domain_numbers x.domain) → (m : OwnMachine) → HasOwnRegister q made memories m → HasRegisterBelow k m → HasOwnRegister q (made ++ x ∷ []) memories m
register_with_clock q made memories k x past m own low = record {
  clocks = all_last (HasNoClock m.machine.signal.0) made x own.clocks (above_data k m.machine.signal.0 (domain_numbers x.domain) low past);
  ports = own.ports;
}

-- the data of its read ports are none of these ports
abbrev pub HasFreeData : List Port → OwnMemory → Type 0
HasFreeData ports x = AllByRecursion (λ (r : MemRead). is_among (map (λ (p : Port). p.sig.0) ports) r.word.0 ≡ false) x.spec.reads

-- nor are they of ports whose signals were made since
pub data_free : (k : ℕ) (ports : List Port) → AllByRecursion (λ n. k ≤ n) (map (λ (x : Port). x.sig.0) ports) → (x : OwnMemory) → HasDataBelow k x → HasFreeData ports x
data_free k ports past x low = each_holds (λ (r : MemRead). r.word.0 < k) (λ (r : MemRead). is_among (map (λ (y : Port). y.sig.0) ports) r.word.0 ≡ false) x.spec.reads (λ r below. above_data k r.word.0 (map (λ (y : Port). y.sig.0) ports) below past) low
