-- What asynchronous resets leave: the init in a register whose reset is 1, and every other number as it is.
use Rattle.std.specs.Prelude.{◌≡◌, ◌≢◌, ℕ, zero, suc, ◌<◌, ◌==◌, ◌&&◌, Bool, true, false, not, cond, List, [], ◌∷◌, length, slice_get, ℤ, Option, Some, None, fold}
use Rattle.std.specs.List.{list_any}
use Rattle.std.proofs.Common.{refl, sym, ap, ◌∙◌, arith, subst, ⊎_elim}
use Rattle.std.proofs.lemmas.Bool.{false≢true, cond_both, and_right, or_left, or_right, eq-eqb}
use Rattle.shape_rules.specs.Forms.{unsigned}
use Rattle.shape_rules.specs.Operators.{is_zero}
use Rattle.design_ir.specs.declared.ids.DomainId.{DomainId}
use Rattle.design_ir.specs.declared.ids.SigId.{SigId}
use Rattle.design_ir.specs.declared.signal.Sig.{Sig}
use Rattle.design_ir.specs.declared.domain.Domain.{Domain}
use Rattle.design_ir.specs.declared.process.DesignProcess.{DesignProcess}
use Rattle.design_ir.specs.declared.event.Event.TheVariants.{Edge}
use Rattle.design_ir.specs.Values.{signal_form}
use Rattle.design_ir.specs.Guards.{driven}
use Rattle.design_ir.specs.Circuits.{Circuit, State, at, option_test, is_among, is_input}
use Rattle.design_ir.specs.Designs.{IsClockDomain, IsInputReset, IsReset, IsSignalOf, IsDesign}
use Rattle.design_ir.specs.Steps.{is_reset, is_cleared, reset_all, cleared_at, cleared, all_cleared, clocked, clocked_reads, moved}
use Rattle.netlist_laws.specs.Module.{driving, ByClock, reset_of, is_async, Heeding, NoReset, AtEdges, AtOnce, heeding}
use Rattle.netlist_laws.proofs.Heedings.{not_heeded, at_edges, at_once}
use Rattle.netlist_laws.proofs.OneDriver.{AreNone, IsOnly, IsFolded, find_only, fold_none, fold_only}
use Rattle.netlist_laws.proofs.Driven.{driven_by, distinct_processes, input_none, input_unread}
use Rattle.netlist_laws.proofs.ReadOnce.{clocked_reads-other}
use Rattle.netlist_laws.proofs.ResetLaws.{length-reset_all, reset_all-other, reset_all-less, reset_all-full, IsResetOf, is_reset-of, reset_of-some, reset_of-none}
use Rattle.netlist_laws.proofs.RegisterSteps.{is_clocked, all_at, clocked_at-other, length-clocked_at, toggles-other}

-- ---- what a process's reset leaves alone

module _ (c : Circuit) (held : List ℤ) where
  length-cleared_at : (p : DesignProcess) (cur : List ℤ) (o : Option DomainId) → length (cleared_at c held p cur o) ≡ length cur
  length-cleared_at p cur None = refl
  length-cleared_at p cur (Some d) =
      cond_both (is_cleared c held d.0) (reset_all c.pool.signals cur (driven c.pool p.body)) cur (λ xs. length xs ≡ length cur) (λ t. length-reset_all c.pool.signals 0 (driven c.pool p.body) cur) (λ t. refl)

  pub length-clears : (ps : List DesignProcess) (cur : List ℤ) → length (fold (cleared c held) cur ps) ≡ length cur
  length-clears [] cur = refl
  length-clears (p ∷ ps) cur = length-clears ps (cleared c held cur p) ∙ length-cleared_at p cur p.domain

  cleared_at-other : (s : ℕ) (p : DesignProcess) (cur : List ℤ) (o : Option DomainId) → is_among (driven_by c p) s ≡ false → at (cleared_at c held p cur o) s ≡ at cur s
  cleared_at-other s p cur None h = refl
  cleared_at-other s p cur (Some d) h =
      cond_both (is_cleared c held d.0) (reset_all c.pool.signals cur (driven c.pool p.body)) cur (λ xs. at xs s ≡ at cur s) (λ t. reset_all-other c.pool.signals s (driven c.pool p.body) cur h) (λ t. refl)

-- a signal that no process drives
pub none_cleared : (c : Circuit) (st : State) (s : ℕ) → AreNone (driven_by c) s c.processes → at (all_cleared c st).held s ≡ at st.held s
none_cleared c st s none =
    fold_none (driven_by c) s (cleared c st.held) (λ cur q. length-cleared_at c st.held q cur q.domain) (λ cur q h. cleared_at-other c st.held s q cur q.domain h) c.processes st.held none

-- ---- an asynchronous reset is an input, and no clock

pub any_at : {A : Type 0} (t : A → Bool) (xs : List A) (k : ℕ) (x : A) → slice_get xs k ≡ Some x → t x ≡ true → list_any t xs ≡ true
any_at t [] k x e h = cc
any_at t (y ∷ xs) zero x e h = let same : y ≡ x = cc in or_left (t y) (list_any t xs) (ap t same ∙ h)
any_at t (y ∷ xs) (suc k) x e h = or_right (t y) (list_any t xs) (any_at t xs k x e h)

module _ (c : Circuit) (design : IsDesign c) (d : DomainId) (r : ℕ) (h : IsResetOf c d r) where
  pub reset_input : is_async c d ≡ true → is_input c r ≡ true
  reset_input async =
      let rule : IsClockDomain c h.domain = all_at (IsClockDomain c) c.domains d.0 h.domain design.domains h.listed in
      let at_once : h.domain.async_reset ≡ true = sym (ap (option_test (λ (x : Domain). x.async_reset)) h.listed) ∙ async in
      ap (is_input c) (sym h.number) ∙ subst (IsInputReset c) h.has (rule.async_input at_once)

  signal : IsSignalOf c (unsigned 1) h.signal
  signal =
      let rule : IsClockDomain c h.domain = all_at (IsClockDomain c) c.domains d.0 h.domain design.domains h.listed in
      subst (IsReset c) h.has rule.reset

  pub reset_there : r < length c.pool.signals
  reset_there = subst (λ n. n < length c.pool.signals) h.number signal.there

  pub reset_shape : signal_form c.pool.signals r ≡ unsigned 1
  reset_shape = ap (signal_form c.pool.signals) (sym h.number) ∙ signal.shape

  reset_no_clock : (e : DomainId) (x : Domain) → slice_get c.domains e.0 ≡ Some x → r ≢ x.clk.0
  reset_no_clock e x is same =
      let rule : IsClockDomain c x = all_at (IsClockDomain c) c.domains e.0 x design.domains is in
      let number : (h.signal.0 == x.clk.0) ≡ true = eq-eqb h.signal.0 x.clk.0 (h.number ∙ same) in
      let resets : option_test (λ (q : SigId). q.0 == x.clk.0) h.domain.rst ≡ true = ap (option_test (λ (q : SigId). q.0 == x.clk.0)) h.has ∙ number in
      false≢true (sym rule.clock_no_reset ∙ any_at (λ (y : Domain). option_test (λ (q : SigId). q.0 == x.clk.0) y.rst) c.domains d.0 h.domain h.listed resets)

  -- so an edge leaves its number
  pub reset_still : is_async c d ≡ true → (env : List ℤ) (st : State) (listed : List DomainId) → at (moved c st env (Edge listed)).held r ≡ at st.held r
  reset_still async env st listed =
      let input : is_input c r ≡ true = reset_input async in
      let after : List ℤ = fold (clocked c env listed) st.held c.processes in
      toggles-other c env listed r listed (clocked_reads c env listed c.memories st.rows after) reset_no_clock
      ∙ clocked_reads-other c env listed r c.memories st.rows after (input_unread c r design input)
      ∙ fold_none (driven_by c) r (clocked c env listed) (λ cur q. length-clocked_at c env listed r q cur q.domain) (λ cur q k. clocked_at-other c env listed r q cur q.domain k) c.processes st.held (input_none c r design input)

-- ---- a register

-- the register's reset acts at once, and is 1
abbrev pub is_clear : Heeding → List ℤ → Bool
is_clear NoReset held = false
is_clear (AtEdges r) held = false
is_clear (AtOnce r) held = not (is_zero (at held r))

module _ (c : Circuit) (design : IsDesign c) (s : ℕ) (p : DesignProcess) (d : DomainId) (clock : driving c s ≡ ByClock p d) (x : Sig) (is : slice_get c.pool.signals s ≡ Some x) (st : State) where
  only : IsOnly (driven_by c) s c.processes p
  only = find_only (driven_by c) s c.processes p (distinct_processes c design) (is_clocked c p d s clock).found

  folded : IsFolded (driven_by c) s (cleared c st.held) (λ cur q. length-cleared_at c st.held q cur q.domain) (λ cur q h. cleared_at-other c st.held s q cur q.domain h) c.processes p st.held
  folded = fold_only (driven_by c) s (cleared c st.held) (λ cur q. length-cleared_at c st.held q cur q.domain) (λ cur q h. cleared_at-other c st.held s q cur q.domain h) c.processes p st.held only

  abbrev reset : List ℤ
  reset = reset_all c.pool.signals folded.then (driven c.pool p.body)

  by_process : at (all_cleared c st).held s ≡ at (cond (is_cleared c st.held d.0) reset folded.then) s
  by_process = folded.result ∙ ap (λ o. at (cleared_at c st.held p folded.then o) s) (is_clocked c p d s clock).domain

  -- it stays where no reset is 1, or none is heeded
  unmoved : is_cleared c st.held d.0 ≡ false → at (all_cleared c st).held s ≡ at st.held s
  unmoved e = by_process ∙ ap (λ t. at (cond t reset folded.then) s) e ∙ folded.same

  unheeding : x.reset_less ≡ true → at (all_cleared c st).held s ≡ at st.held s
  unheeding less =
      by_process
      ∙ cond_both (is_cleared c st.held d.0) reset folded.then (λ xs. at xs s ≡ at folded.then s) (λ t. reset_all-less c.pool.signals s x is less (driven c.pool p.body) folded.then) (λ t. refl)
      ∙ folded.same

  by_heeding : (h : Heeding) → heeding c s d ≡ h → s < length st.held → at (all_cleared c st).held s ≡ cond (is_clear h st.held) x.init (at st.held s)
  by_heeding NoReset e there = ⊎_elim
      (λ (less : x.reset_less ≡ true). unheeding less)
      (λ (off : is_reset c st.held d.0 ≡ false). unmoved (and_right (is_async c d) (is_reset c st.held d.0) off))
      (reset_of-none c d st.held s x is (not_heeded (is_async c d) (reset_of c s d) e))
  by_heeding (AtEdges r) e there = unmoved (ap (λ b. b && is_reset c st.held d.0) (at_edges (is_async c d) (reset_of c s d) r e).1)
  by_heeding (AtOnce r) e there =
      let heeds = at_once (is_async c d) (reset_of c s d) r e in
      let own = reset_of-some c d st.held s x is r heeds.0 in
      let on : is_cleared c st.held d.0 ≡ not (is_zero (at st.held r)) = ap (λ b. b && is_reset c st.held d.0) heeds.1 ∙ is_reset-of c d st.held r own.1 in
      by_process
      ∙ ap (λ t. at (cond t reset folded.then) s) on
      ∙ both (not (is_zero (at st.held r))) own.0
    where
      both : (b : Bool) → x.reset_less ≡ false → at (cond b reset folded.then) s ≡ cond b x.init (at st.held s)
      both true full = reset_all-full c.pool.signals s x is full (driven c.pool p.body) folded.then (omega (arith, there, folded.long)) only.here
      both false full = folded.same

  -- its init where its reset is 1
  pub cleared_register : s < length st.held → at (all_cleared c st).held s ≡ cond (is_clear (heeding c s d) st.held) x.init (at st.held s)
  cleared_register there = by_heeding (heeding c s d) refl there
