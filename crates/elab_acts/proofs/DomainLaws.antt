-- Clock domains stand as a pool grows, and as another one is made behind them.
use Rattle.std.proofs.Common.{◌≡◌, ℕ, zero, suc, ◌<◌, ◌≤◌, refl, ap, ◌∙◌, sym, List, [], ◌∷◌, ◌++◌, length, Option, Some, None, ℤ, arith}
use Rattle.std.specs.Prelude.{◌≢◌}
use Rattle.std.specs.List.{AllByRecursion}
use Rattle.std.proofs.lemmas.List.{length-append}
use Rattle.shape_rules.specs.Forms.{Form, unsigned}
use Rattle.design_ir.specs.declared.ids.SigId.{SigId}
use Rattle.design_ir.specs.declared.signal.Sig.{Sig}
use Rattle.design_ir.specs.Pools.{Pooled}
use Rattle.design_ir.specs.Values.{signal_form}
use Rattle.design_ir.specs.Settling as settling
use Rattle.elab_store.specs.declared.domains.ClockDomain.{ClockDomain}
use Rattle.elab_store.specs.Sound.{IsBit, IsResetBehind, IsClockDomain, last_signal, IsMadeBefore, AreInOrder, AreClockDomains}
use Rattle.elab_acts.proofs.EachLaws.{all_each}

-- ---- the forms of signals

form_stays : (xs more : List Sig) (k : ℕ) → k < length xs → signal_form (xs ++ more) k ≡ signal_form xs k
form_stays [] more k h = absurd (omega (arith, h))
form_stays (x ∷ xs) more zero h = refl
form_stays (x ∷ xs) more (suc k) h = form_stays xs more k (omega (arith, h))

form_last : (xs : List Sig) (x : Sig) → signal_form (xs ++ x ∷ []) (length xs) ≡ x.shape
form_last [] x = refl
form_last (y ∷ xs) x = form_last xs x

settled_form : (xs : List Sig) (s k : ℕ) (f : Form) (n : ℤ) → k ≢ s → signal_form (settling.settled_at xs s f n) k ≡ signal_form xs k
settled_form [] s k f n h = refl
settled_form (x ∷ xs) zero zero f n h = absurd (h refl)
settled_form (x ∷ xs) zero (suc k) f n h = refl
settled_form (x ∷ xs) (suc s) zero f n h = refl
settled_form (x ∷ xs) (suc s) (suc k) f n h = settled_form xs s k f n (λ e. h (ap suc e))

-- ---- bits

pub bit_stays : (q r : Pooled) (more : List Sig) → r.signals ≡ q.signals ++ more → (s : SigId) → IsBit q s → IsBit r s
bit_stays q r more e s h = record {
  there = omega (arith, h.there, ap length e, length-append q.signals more);
  form = ap (λ xs. signal_form xs s.0) e ∙ form_stays q.signals more s.0 h.there ∙ h.form;
}

-- ---- clock domains as their pool changes

reset_stays : (q r : Pooled) → ((s : SigId) → IsBit q s → IsBit r s) → (clk : SigId) (o : Option SigId) → IsResetBehind q clk o → IsResetBehind r clk o
reset_stays q r f clk None h = tt
reset_stays q r f clk (Some s) h = (f s h.0, h.1)

domain_stays : (q r : Pooled) → ((s : SigId) → IsBit q s → IsBit r s) → (x : ClockDomain) → IsClockDomain q x → IsClockDomain r x
domain_stays q r f x h = record { name = h.name; clock = f x.domain.clk h.clock; reset = reset_stays q r f x.domain.clk x.domain.rst h.reset }

pub domains_stay : (q r : Pooled) (xs : List ClockDomain) → ((s : SigId) → IsBit q s → IsBit r s) → AreClockDomains q xs → AreClockDomains r xs
domains_stay q r xs f h = record { each = all_each (IsClockDomain q) (IsClockDomain r) xs (domain_stays q r f) h.each; order = h.order }

-- ---- one more

all_more : {A : Type 0} (P : A → Type 0) (xs : List A) (x : A) → AllByRecursion P xs → P x → AllByRecursion P (xs ++ x ∷ [])
all_more P [] x h g = (g, tt)
all_more P (y ∷ xs) x h g = (h.0, all_more P xs x h.1 g)

order_more : (xs : List ClockDomain) (x : ClockDomain) → AreInOrder xs → AllByRecursion (λ (y : ClockDomain). IsMadeBefore y x) xs → AreInOrder (xs ++ x ∷ [])
order_more [] x h g = (tt, tt)
order_more (y ∷ xs) x h g = (all_more (IsMadeBefore y) xs x h.0 g.0, order_more xs x h.1 g.1)

-- what stands in a pool was made before what comes behind its signals
before_end : (q : Pooled) (x y : ClockDomain) → length q.signals ≤ y.domain.clk.0 → IsClockDomain q x → IsMadeBefore x y
before_end q x y le h = by_reset x.domain.rst h.reset
  where
    by_reset : (o : Option SigId) → IsResetBehind q x.domain.clk o → last_signal (record x.domain { rst = o }) < y.domain.clk.0
    by_reset None g = omega (arith, h.clock.there, le)
    by_reset (Some s) g = omega (arith, g.0.there, le)

pub domains_more : (p q : Pooled) (xs : List ClockDomain) (x : ClockDomain) → AreClockDomains p xs → AreClockDomains q xs → IsClockDomain q x → length p.signals ≤ x.domain.clk.0 → AreClockDomains q (xs ++ x ∷ [])
domains_more p q xs x before h new le = record {
  each = all_more (IsClockDomain q) xs x h.each new;
  order = order_more xs x h.order (all_each (IsClockDomain p) (λ (y : ClockDomain). IsMadeBefore y x) xs (λ y g. before_end p y x le g) before.each);
}

-- ---- signals that are new, or get their shape

pub new_bit : (q r : Pooled) (x : Sig) → r.signals ≡ q.signals ++ x ∷ [] → x.shape ≡ unsigned 1 → IsBit r (record { 0 = length q.signals })
new_bit q r x e shape = record {
  there = omega (arith, ap length e, length-append q.signals (x ∷ []));
  form = ap (λ xs. signal_form xs (length q.signals)) e ∙ form_last q.signals x ∙ shape;
}

pub settled_bit : (q : Pooled) (t : ℕ) (f : Form) (n : ℤ) → (signal_form q.signals t).width ≡ 0 → (s : SigId) → IsBit q s → length q.signals ≤ length (settling.settled_at q.signals t f n) → IsBit (record q { signals = settling.settled_at q.signals t f n }) s
settled_bit q t f n none s h le =
    record {
      there = omega (arith, h.there, le);
      form = settled_form q.signals t s.0 f n (λ e. let same : 1 ≡ 0 = sym (ap (λ (g : Form). g.width) h.form) ∙ ap (λ k. (signal_form q.signals k).width) e ∙ none in omega (arith, same)) ∙ h.form;
    }
