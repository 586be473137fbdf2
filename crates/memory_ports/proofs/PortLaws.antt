-- The signals of ports in a pool that grows.
use Rattle.std.specs.Prelude.{◌≡◌, ◌≢◌, refl, ℕ, zero, suc, ◌+◌, ◌==◌, false, List, [], ◌∷◌, ◌++◌, length, slice_get, ℤ, pos, Option, Some, None, codes}
use Rattle.std.specs.List.{AllByRecursion}
use Rattle.std.proofs.Common.{sym, ◌∙◌, ap, arith, append-nil}
use Rattle.std.proofs.lemmas.Bool.{false≢true, eq-eqb}
use Rattle.shape_rules.specs.Forms.{Form, unsigned}
use Rattle.design_ir.specs.declared.ids.ExprId.{ExprId}
use Rattle.design_ir.specs.declared.ids.SigId.{SigId}
use Rattle.design_ir.specs.declared.signal.Sig.{Sig}
use Rattle.design_ir.specs.declared.expr.Expr.{Expr}
use Rattle.design_ir.specs.declared.expr.Expr.TheVariants as expr
use Rattle.design_ir.specs.declared.memory.MemWrite.{MemWrite}
use Rattle.design_ir.specs.declared.memory.MemRead.{MemRead}
use Rattle.design_ir.specs.declared.memory.Memory.{Memory}
use Rattle.design_ir.specs.Circuits.{option_test}
use Rattle.design_ir.specs.Pools.{Pooled}
use Rattle.design_ir.specs.PoolRules.{expr_added}
use Rattle.design_ir.specs.Settling.{is_signal, settled_at, signal_settled}
use Rattle.design_ir.proofs.Growth.{all_append, length_more}
use Rattle.memory_ports.specs.Ports.{with_signal, with_signals, address_signal, data_signal, write_enable, read_enable, enable_width, granule, IsGrown}
use Rattle.memory_ports.specs.Memories.{IsSignal, IsData, HasEnable, HasWrite, HasRead, HasPorts}
use Rattle.memory_ports.specs.Calls.{write_signals, and_write, read_signals, and_read}
use Rattle.memory_ports.specs.Laws.{IsOther, IsOtherEnable, IsOtherWrite, IsOtherRead, IsApart, PoolsGrow}
use Rattle.memory_ports.proofs.Growing.{grown_not, grown_signal, grown_more, grown_all}
use Rattle.memory_ports.proofs.SpecLaws.{all_imp}

-- ---- growth

still_there : {A : Type 0} (xs ys : List A) (k : ℕ) (x : A) → slice_get xs k ≡ Some x → slice_get (xs ++ ys) k ≡ Some x
still_there [] ys k x e = cc
still_there (z ∷ xs) ys zero x e = e
still_there (z ∷ xs) ys (suc k) x e = still_there xs ys k x e

signal_stays : (q q' : Pooled) (f : Form) (e : ExprId) → IsGrown q q' → IsSignal q f e → IsSignal q' f e
signal_stays q q' f e g h = record {
  sig = h.sig;
  signal = h.signal;
  stands = rw g.exprs (still_there q.exprs g.more_exprs e.0 (expr.Sig h.sig) h.stands);
  there = rw g.signals (still_there q.signals g.more_signals h.sig.0 h.signal h.there);
  shape = h.shape;
}

pub data_stays : (q q' : Pooled) (f : Form) (s : SigId) → IsGrown q q' → IsData q f s → IsData q' f s
data_stays q q' f s g h = record {
  signal = h.signal;
  there = rw g.signals (still_there q.signals g.more_signals s.0 h.signal h.there);
  shape = h.shape;
  begins = h.begins;
}

enable_stays : (q q' : Pooled) (domain : Option (List ℕ)) (e : Option ExprId) → IsGrown q q' → HasEnable q domain e → HasEnable q' domain e
enable_stays q q' None None g h = h
enable_stays q q' None (Some e) g h = absurd h
enable_stays q q' (Some d) None g h = absurd h
enable_stays q q' (Some d) (Some e) g h = signal_stays q q' (unsigned 1) e g h

write_stays : (q q' : Pooled) (depth : ℕ) (shape : Form) (w : MemWrite) → IsGrown q q' → HasWrite q depth shape w → HasWrite q' depth shape w
write_stays q q' depth shape w g h = record { addr = signal_stays q q' _ w.addr g h.addr; word = signal_stays q q' _ w.word g h.word; enable = signal_stays q q' _ w.enable g h.enable }

read_stays : (q q' : Pooled) (depth : ℕ) (shape : Form) (r : MemRead) → IsGrown q q' → HasRead q depth shape r → HasRead q' depth shape r
read_stays q q' depth shape r g h = record { addr = signal_stays q q' _ r.addr g h.addr; word = data_stays q q' _ r.word g h.word; enable = enable_stays q q' r.domain r.enable g h.enable }

pub ports_stay : (q q' : Pooled) (m : Memory) → IsGrown q q' → HasPorts q m → HasPorts q' m
ports_stay q q' m g h = record {
  writes = all_imp (λ w x. write_stays q q' m.depth m.shape w g x) m.writes h.writes;
  reads = all_imp (λ r x. read_stays q q' m.depth m.shape r g x) m.reads h.reads;
}

grown_expr : (q : Pooled) (e : Expr) → IsGrown q (expr_added q e)
grown_expr q e = record { more_signals = []; more_exprs = e ∷ []; signals = sym (append-nil q.signals); exprs = refl }

pub pools_grow : PoolsGrow
pools_grow = record { same = grown_not; signals = grown_signal; exprs = grown_expr; more = grown_more }

-- ---- a new signal

last_there : {A : Type 0} (xs : List A) (x : A) (k : ℕ) → k ≡ length xs → slice_get (xs ++ x ∷ []) k ≡ Some x
last_there [] x zero e = refl
last_there [] x (suc k) e = absurd (omega (arith, e))
last_there (y ∷ xs) x zero e = absurd (omega (arith, e))
last_there (y ∷ xs) x (suc k) e = last_there xs x k (omega (arith, e))

new_signal : (q : Pooled) (x : Sig) (k : ℕ) → k ≡ length q.exprs → IsSignal (with_signal q x) x.shape (record { 0 = k })
new_signal q x k e = record {
  sig = record { 0 = length q.signals };
  signal = x;
  stands = last_there q.exprs (expr.Sig (record { 0 = length q.signals })) k e;
  there = last_there q.signals x (length q.signals) refl;
  shape = refl;
}

new_data : (q : Pooled) (x : Sig) (k : ℕ) → k ≡ length q.signals → x.init ≡ pos 0 → IsData (with_signal q x) x.shape (record { 0 = k })
new_data q x k e begins = record { signal = x; there = last_there q.signals x k e; shape = refl; begins = begins }

one_more : {A : Type 0} (xs : List A) (x : A) → length xs + 1 ≡ length (xs ++ x ∷ [])
one_more xs x = let h = length_more xs x in omega (arith, h)

two_more : {A : Type 0} (xs : List A) (x y : A) → length xs + 2 ≡ length ((xs ++ x ∷ []) ++ y ∷ [])
two_more xs x y = let h = length_more xs x in let k = length_more (xs ++ x ∷ []) y in omega (arith, h, k)

-- ---- the calls

pub write_has : (q : Pooled) (m : Memory) (domain : List ℕ) (g : Option ℕ) → HasPorts q m → HasPorts (with_signals q (write_signals m g)) (and_write q m domain g)
write_has q m domain g h =
    let a = address_signal (codes "w") (length m.writes) m.depth in
    let w = data_signal (codes "w") (length m.writes) m.shape in
    let e = write_enable (length m.writes) (enable_width m.shape.width (granule m.shape.width g)) in
    let q1 = with_signal q a in
    let q2 = with_signal q1 w in
    let r = with_signals q (write_signals m g) in
    let kept = ports_stay q r m (grown_all q (write_signals m g)) h in
    record {
      writes = all_append (HasWrite r m.depth m.shape) m.writes _ kept.writes record {
        addr = signal_stays q1 r a.shape _ (grown_all q1 (w ∷ e ∷ [])) (new_signal q a (length q.exprs) refl);
        word = signal_stays q2 r w.shape _ (grown_all q2 (e ∷ [])) (new_signal q1 w (length q.exprs + 1) (one_more q.exprs _));
        enable = new_signal q2 e (length q.exprs + 2) (two_more q.exprs _ _);
      };
      reads = kept.reads;
    }

pub read_has : (q : Pooled) (m : Memory) (domain : Option (List ℕ)) (ks : List ℕ) → HasPorts q m → HasPorts (with_signals q (read_signals m domain)) (and_read q m domain ks)
read_has q m None ks h =
    let a = address_signal (codes "r") (length m.reads) m.depth in
    let w = data_signal (codes "r") (length m.reads) m.shape in
    let q1 = with_signal q a in
    let r = with_signals q (read_signals m None) in
    let kept = ports_stay q r m (grown_all q (read_signals m None)) h in
    record {
      writes = kept.writes;
      reads = all_append (HasRead r m.depth m.shape) m.reads _ kept.reads record {
        addr = signal_stays q1 r a.shape _ (grown_all q1 (w ∷ [])) (new_signal q a (length q.exprs) refl);
        word = new_data q1 w (length q.signals + 1) (one_more q.signals _) refl;
        enable = tt;
      };
    }
read_has q m (Some d) ks h =
    let a = address_signal (codes "r") (length m.reads) m.depth in
    let w = data_signal (codes "r") (length m.reads) m.shape in
    let e = read_enable (length m.reads) in
    let q1 = with_signal q a in
    let q2 = with_signal q1 w in
    let r = with_signals q (read_signals m (Some d)) in
    let kept = ports_stay q r m (grown_all q (read_signals m (Some d))) h in
    record {
      writes = kept.writes;
      reads = all_append (HasRead r m.depth m.shape) m.reads _ kept.reads record {
        addr = signal_stays q1 r a.shape _ (grown_all q1 (w ∷ e ∷ [])) (new_signal q a (length q.exprs) refl);
        word = data_stays q2 r w.shape _ (grown_all q2 (e ∷ [])) (new_data q1 w (length q.signals + 1) (one_more q.signals _) refl);
        enable = new_signal q2 e (length q.exprs + 2) (two_more q.exprs _ _);
      };
    }

-- ---- other signals that are settled

settled_apart : (xs : List Sig) (t s : ℕ) (f : Form) (n : ℤ) → t ≢ s → slice_get (settled_at xs t f n) s ≡ slice_get xs s
settled_apart [] t s f n apart = refl
settled_apart (x ∷ xs) zero zero f n apart = absurd (apart refl)
settled_apart (x ∷ xs) zero (suc s) f n apart = refl
settled_apart (x ∷ xs) (suc t) zero f n apart = refl
settled_apart (x ∷ xs) (suc t) (suc s) f n apart = settled_apart xs t s f n (λ e. apart (ap suc e))

not_this : (q : Pooled) (t : ℕ) (e : ExprId) (s : SigId) → IsOther q t e → slice_get q.exprs e.0 ≡ Some (expr.Sig s) → t ≢ s.0
not_this q t e s other stands same =
    let here : (s.0 == t) ≡ false = sym (ap (option_test (is_signal t)) stands) ∙ other in
    false≢true (sym here ∙ eq-eqb s.0 t (sym same))

module _ (q : Pooled) (t : ℕ) (f : Form) (n : ℤ) where
  signal_left : (g : Form) (e : ExprId) → IsOther q t e → IsSignal q g e → IsSignal (signal_settled q t f n) g e
  signal_left g e other h = record {
    sig = h.sig;
    signal = h.signal;
    stands = h.stands;
    there = settled_apart q.signals t h.sig.0 f n (not_this q t e h.sig other h.stands) ∙ h.there;
    shape = h.shape;
  }

  enable_left : (domain : Option (List ℕ)) (e : Option ExprId) → IsOtherEnable q t e → HasEnable q domain e → HasEnable (signal_settled q t f n) domain e
  enable_left None None other h = h
  enable_left None (Some e) other h = absurd h
  enable_left (Some d) None other h = absurd h
  enable_left (Some d) (Some e) other h = signal_left (unsigned 1) e other h

  writes_left : (depth : ℕ) (shape : Form) (ws : List MemWrite) → AllByRecursion (IsOtherWrite q t) ws → AllByRecursion (HasWrite q depth shape) ws → AllByRecursion (HasWrite (signal_settled q t f n) depth shape) ws
  writes_left depth shape [] other h = tt
  writes_left depth shape (w ∷ ws) other h = (
    record { addr = signal_left _ w.addr other.0.0 h.0.addr; word = signal_left _ w.word other.0.1 h.0.word; enable = signal_left _ w.enable other.0.2 h.0.enable },
    writes_left depth shape ws other.1 h.1,
  )

  reads_left : (depth : ℕ) (shape : Form) (rs : List MemRead) → AllByRecursion (IsOtherRead q t) rs → AllByRecursion (HasRead q depth shape) rs → AllByRecursion (HasRead (signal_settled q t f n) depth shape) rs
  reads_left depth shape [] other h = tt
  reads_left depth shape (r ∷ rs) other h = (
    record {
      addr = signal_left _ r.addr other.0.0 h.0.addr;
      word = record { signal = h.0.word.signal; there = settled_apart q.signals t r.word.0 f n other.0.1 ∙ h.0.word.there; shape = h.0.word.shape; begins = h.0.word.begins };
      enable = enable_left r.domain r.enable other.0.2 h.0.enable;
    },
    reads_left depth shape rs other.1 h.1,
  )

pub others_left : (q : Pooled) (m : Memory) (t : ℕ) (f : Form) (n : ℤ) → IsApart q t m → HasPorts q m → HasPorts (signal_settled q t f n) m
others_left q m t f n other h = record { writes = writes_left q t f n m.depth m.shape m.writes other.writes h.writes; reads = reads_left q t f n m.depth m.shape m.reads other.reads h.reads }
