-- What a testbench asks may be done where it is served: what is read stands in the pool, and what is set may be set.
use Rattle.std.proofs.Common.{◌≡◌, refl, sym, ◌∙◌, ap, subst, Some, None, ℕ, zero, suc, ◌+◌, ◌≤◌, ◌==◌, Bool, true, false, List, [], ◌∷◌, Option, arith, length}
use Rattle.std.specs.Prelude.{⊤, ◌||◌, not, if◌then◌else◌, nat_lt, slice_get, option_and_then, pos, negsuc, ℤ, ◌<◌, option_map, codes}
use Rattle.design_ir.specs.declared.ids.ExprId.{ExprId}
use Rattle.design_ir.specs.declared.ids.SigId.{SigId}
use Rattle.design_ir.specs.declared.expr.Expr.{Expr}
use Rattle.design_ir.specs.declared.expr.Expr.TheVariants.{Const, Sig, Unary, Binary, Mux, Slice, Cat, Part, Pick, Cast, Matches, Reset}
use Rattle.design_ir.specs.Circuits.{Circuit, is_input, is_clock, domain_named}
use Rattle.design_ir.specs.PoolRules.{IsPool}
use Rattle.design_ir.specs.Values.{form, signal_form}
use Rattle.design_ir.proofs.Equations.{standing, form_is}
use Rattle.py_values.specs.declared.val.Val.{Val}
use Rattle.py_heap.specs.Heaps.{Seen}
use Rattle.py_frames.specs.declared.request.Act.{Act}
use Rattle.py_frames.specs.declared.request.Act.TheVariants as act
use Rattle.py_frames.specs.declared.request.Answer.TheVariants as answer
use Rattle.py_frames.specs.declared.request.Cause.TheVariants.{Limit}
use Rattle.py_frames.specs.declared.request.Request.{Request}
use Rattle.elab_store.specs.declared.kept.BenchPart.{BenchPart}
use Rattle.elab_store.specs.declared.kept.BenchPart.TheVariants as part
use Rattle.elab_store.specs.declared.simulation.Sample.{Sample}
use Rattle.elab_store.specs.declared.simulation.TickEnd.{TickEnd}
use Rattle.elab_store.specs.declared.simulation.TickEnd.TheVariants as end
use Rattle.elab_store.specs.declared.simulation.Wait.{Wait}
use Rattle.elab_store.specs.declared.simulation.Wait.TheVariants as wait
use Rattle.elab_store.specs.Stores.{Held, Answered}
use Rattle.amh_values.specs.Acts.{acted}
use Rattle.elab_eval.specs.Table.{prim}
use Rattle.bench_acts.specs.declared.targets.InputBits.{InputBits}
use Rattle.bench_acts.specs.declared.serving.Served.TheVariants as served
use Rattle.bench_acts.specs.Context.{Serving, serving, raises, ticks_at, target_of, got_from, set_from, set_placed, tick_of, delay_of, tick_with, sampled_more, sample_placed, until_from, repeat_from, part_called, part_asked, named_given, part_attribute, part_awaited, read_of, usable, operand_read, value_read, reading_of, only_placed, number_set, all_read, domain_given, one_or_none, attribute_named}
use Rattle.bench_acts.specs.Serving.{is_served, table_served, served_by, asked_part, bench_served}
use Rattle.bench_acts.specs.Sharing.{held_shared, too_many}
use Rattle.bench_acts.specs.Targets.{input_of, bits_within, input_bits}
use Rattle.bench_acts.proofs.TargetLaws.{slice_room, cast_room}
use Rattle.bench_run.specs.Standing.{IsSettable, MayBeDone}
use Rattle.design_ir.specs.Pools.{Pooled}
use Rattle.py_values.specs.declared.val.Val.TheVariants as val
use Rattle.amh_things.specs.declared.operand.Operand.{Operand}
use Rattle.amh_things.specs.declared.operand.Operand.TheVariants as operand
use Rattle.amh_things.specs.declared.thing.Member.{Member}
use Rattle.amh_things.specs.declared.thing.Reading.{Reading}
use Rattle.amh_things.specs.declared.thing.Reading.TheVariants as reading
use Rattle.amh_things.specs.declared.thing.Thing.{Thing}
use Rattle.amh_things.specs.declared.thing.Thing.TheVariants as thing
use Rattle.amh_things.specs.Held.{AreHeld}
use Rattle.amh_things.specs.Operands.{held_operand, number_operand, thing_operand, operand_of}
use Rattle.amh_things.specs.Things.{held_expr, shown_member, thing_of}
use Rattle.elab_store.specs.declared.simulation.Sample.TheVariants as sample
use Rattle.elab_store.specs.Calls.{Called, called}
use Rattle.elab_store.specs.Sound.{IsSample, IsSound}
use Rattle.expr_index.specs.First.{has_reset}
use Rattle.py_values.specs.Numbers.{number_of}
use Rattle.amh_things.specs.Members.{counted}
use Rattle.elab_acts.specs.Simulators.{time_meant}

-- ---- bits of an input

neither : (a b c : Bool) → (not a || (b || c)) ≡ false → (a ≡ true) × (b ≡ false) × (c ≡ false)
neither true false false e = (refl, refl, refl)
neither true false true e = absurd ((cc))
neither true true c e = absurd ((cc))
neither false b c e = absurd ((cc))

module _ (c : Circuit) (rules : IsPool c.pool) where
  settable_signal : (k : ℕ) (s : SigId) (low width : ℕ) (bits : InputBits) → slice_get c.pool.exprs k ≡ Some (Sig s) → low + width ≤ (form c.pool k).width → input_of c s low width ≡ Some bits → IsSettable c bits
  settable_signal k s low width bits is room e = by_test (not (is_input c s.0) || (is_clock c s.0 || ((signal_form c.pool.signals s.0).width == 0))) refl
    where
      made : (b : Bool) → (not (is_input c s.0) || (is_clock c s.0 || ((signal_form c.pool.signals s.0).width == 0))) ≡ b → (if b then None else Some (record { sig = s; low = low; width = width })) ≡ Some bits
      made b same = sym (ap (λ z. if z then None else Some (record { sig = s; low = low; width = width })) same) ∙ e

      by_test : (b : Bool) → (not (is_input c s.0) || (is_clock c s.0 || ((signal_form c.pool.signals s.0).width == 0))) ≡ b → IsSettable c bits
      by_test true same = absurd (nothing bits (made true same))
        where
          nothing : (x : InputBits) → None ≡ Some x → ⊥
          nothing x e = cc
      by_test false same =
          let n = neither (is_input c s.0) (is_clock c s.0) ((signal_form c.pool.signals s.0).width == 0) same in
          let there = (standing c.pool k (Sig s) rules is).askable.parts in
          let whole = ap (λ f. f.width) (form_is c.pool k (Sig s) rules is) in
          subst (IsSettable c) (some_is (record { sig = s; low = low; width = width }) bits (made false same))
          (record {
            there = there;
            input = n.0;
            no_clock = n.1;
            some = not_zero (signal_form c.pool.signals s.0).width n.2;
            room = omega (arith, room, whole);
          })
        where
          some_is : (a b : InputBits) → Some a ≡ Some b → a ≡ b
          some_is a b e = cc

          not_zero : (w : ℕ) → (w == 0) ≡ false → 0 < w
          not_zero zero e = absurd ((cc))
          not_zero (suc w) e = omega arith

  settable_within : (n k low width : ℕ) (bits : InputBits) (e : Option Expr) → slice_get c.pool.exprs k ≡ e → low + width ≤ (form c.pool k).width → bits_within c n e low width ≡ Some bits → IsSettable c bits
  settable_within zero k low width bits e is room h = absurd ((cc))
  settable_within (suc n) k low width bits None is room h = absurd ((cc))
  settable_within (suc n) k low width bits (Some (Sig s)) is room h = settable_signal k s low width bits is room h
  settable_within (suc n) k low width bits (Some (Slice a from w)) is room h =
      settable_within n a.0 (low + from) width bits (slice_get c.pool.exprs a.0) refl (slice_room c rules width k low a from w is room) h
  settable_within (suc n) k low width bits (Some (Cast a signed)) is room h =
      settable_within n a.0 low width bits (slice_get c.pool.exprs a.0) refl (cast_room c rules width k low a signed is room) h
  settable_within (suc n) k low width bits (Some (Const x s)) is room h = absurd ((cc))
  settable_within (suc n) k low width bits (Some (Unary op a)) is room h = absurd ((cc))
  settable_within (suc n) k low width bits (Some (Binary op a b)) is room h = absurd ((cc))
  settable_within (suc n) k low width bits (Some (Mux s a b)) is room h = absurd ((cc))
  settable_within (suc n) k low width bits (Some (Cat es)) is room h = absurd ((cc))
  settable_within (suc n) k low width bits (Some (Part a offset w stride)) is room h = absurd ((cc))
  settable_within (suc n) k low width bits (Some (Pick index es)) is room h = absurd ((cc))
  settable_within (suc n) k low width bits (Some (Matches a patterns)) is room h = absurd ((cc))
  settable_within (suc n) k low width bits (Some (Reset domain place)) is room h = absurd ((cc))

  settable : (e : ExprId) (bits : InputBits) → input_bits c e ≡ Some bits → IsSettable c bits
  settable e bits h = settable_within (suc e.0) e.0 0 (form c.pool e.0).width bits (slice_get c.pool.exprs e.0) refl (omega arith) h

  settable_target : (o : Option ExprId) (bits : InputBits) → option_and_then (input_bits c) o ≡ Some bits → IsSettable c bits
  settable_target None bits h = absurd ((cc))
  settable_target (Some e) bits h = settable e bits h

-- ---- what is read

abbrev IsThere : Pooled → Option Operand → Type 0
IsThere p (Some (operand.Held e f)) = e.0 < length p.exprs
IsThere p (Some (operand.Number n f)) = ⊤
IsThere p None = ⊤

thing_there : (p : Pooled) (ts : List Thing) (k : ℕ) → AreHeld (length p.exprs) ts → IsThere p (thing_operand (option_map (held_operand p) (held_expr (slice_get ts k))) (shown_member (slice_get ts k)))
thing_there p [] k h = tt
thing_there p (t ∷ ts) (suc k) h = thing_there p ts k h.1
thing_there p (thing.Value e ∷ ts) zero h = h.0
thing_there p (thing.Numbered of e ∷ ts) zero h = h.0
thing_there p (thing.View of e ∷ ts) zero h = h.0
thing_there p (t ∷ ts) zero h = member_there (shown_member (Some t))
  where
    member_there : (m : Option Member) → IsThere p (thing_operand None m)
    member_there (Some m) = tt
    member_there None = tt

number_there : (p : Pooled) (n : Option ℤ) → IsThere p (option_map number_operand n)
number_there p (Some n) = tt
number_there p None = tt

operand_there : (p : Pooled) (ts : List Thing) (v : Val) → AreHeld (length p.exprs) ts → IsThere p (operand_of p ts v)
operand_there p ts (val.Hw k) h = thing_there p ts k.0 h
operand_there p ts v h = number_there p (number_of v)

some_is : {A : Type 0} (a b : A) → Some a ≡ Some b → a ≡ b
some_is a b e = cc

value_there : (p : Pooled) (r : Reading) (e : ExprId) (x : Sample) → e.0 < length p.exprs → value_read r e ≡ Some x → IsSample p x
value_there p (reading.Viewed of) e x h is = absurd ((cc))
value_there p (reading.Numbered of) e x h is = subst (IsSample p) (some_is (sample.Value e (reading.Numbered of)) x is) h
value_there p reading.Plain e x h is = subst (IsSample p) (some_is (sample.Value e reading.Plain) x is) h

sample_there : (p : Pooled) (r : Reading) (o : Option Operand) (x : Sample) → IsThere p o → operand_read r o ≡ Some x → IsSample p x
sample_there p r None x h is = absurd ((cc))
sample_there p r (Some (operand.Held e f)) x h is = value_there p r e x h is
sample_there p r (Some (operand.Number n f)) x h is = subst (IsSample p) (some_is (sample.Number n) x is) tt

usable_is : (h : Held) (o : Option Sample) (x : Sample) → usable h o ≡ Some x → o ≡ Some x
usable_is h None x e = absurd ((cc))
usable_is h (Some (sample.Number n)) x e = e
usable_is h (Some (sample.Value a r)) x e = by_test (has_reset h.pool.exprs a.0) e
  where
    by_test : (b : Bool) → (if b then None else Some (sample.Value a r)) ≡ Some x → Some (sample.Value a r) ≡ Some x
    by_test true q = absurd ((cc))
    by_test false q = q

module _ (c : Circuit) (rules : IsPool c.pool) (h : Held) (sound : IsSound h) (same : h.pool ≡ c.pool) where
  read_there : (v : Val) (x : Sample) → read_of h v ≡ Some x → IsSample h.pool x
  read_there v x e =
      (sample_there h.pool (reading_of (thing_of h.store.things v)) (operand_of h.pool h.store.things v) x (operand_there h.pool h.store.things v sound.things)
      (usable_is h (operand_read (reading_of (thing_of h.store.things v)) (operand_of h.pool h.store.things v)) x e))

  placed_there : (o : Option Val) (x : Sample) → option_and_then (read_of h) o ≡ Some x → IsSample h.pool x
  placed_there None x e = absurd ((cc))
  placed_there (Some v) x e = read_there v x e

  -- ---- what is served

  abbrev May : Serving → Type 0
  May s = MayBeDone (record c { pool = s.held.pool }) s.served

  may_from : (o : Option InputBits) (n : Option ℤ) → ((bits : InputBits) → o ≡ Some bits → IsSettable c bits) → May (set_from o n h)
  may_from (Some x) (Some n) k = subst (λ (p : Pooled). IsSettable (record c { pool = p }) x) (sym same) (k x refl)
  may_from (Some x) None k = tt
  may_from None n k = tt

  may_placed : (vs : List Val) (ns : List (List ℕ)) → May (set_placed c vs ns h)
  may_placed [] ns = tt
  may_placed (x ∷ []) ns = tt
  may_placed (x ∷ v ∷ []) [] = may_from (option_and_then (input_bits c) (target_of h x)) (number_set h (operand_of h.pool h.store.things v)) (settable_target c rules (target_of h x))
  may_placed (x ∷ v ∷ []) (n ∷ ns) = tt
  may_placed (x ∷ v ∷ w ∷ vs) ns = tt

  may_got : (o : Option Sample) → ((x : Sample) → o ≡ Some x → IsSample h.pool x) → May (got_from o h)
  may_got (Some x) k = k x refl
  may_got None k = tt

  may_tick : (o : Option ℕ) → May (tick_of o h)
  may_tick (Some d) = tt
  may_tick None = tt

  may_delay : (o : Option ℕ) → May (delay_of o h)
  may_delay (Some t) = tt
  may_delay None = tt

  may_with : (w : Option Wait) (more : List Sample) (e : TickEnd) → May (tick_with w more e h)
  may_with (Some (wait.Tick t)) more e = tt
  may_with (Some (wait.Delay t)) more e = tt
  may_with None more e = tt

  may_sampled : (k : ℕ) (o : Option (List Sample)) → May (sampled_more k o h)
  may_sampled k (Some more) = may_with (ticks_at h k) more end.Once
  may_sampled k None = tt

  may_sample : (k : ℕ) (vs : List Val) (ns : List (List ℕ)) → May (sample_placed k vs ns h)
  may_sample k vs [] = may_sampled k (all_read h vs)
  may_sample k vs (n ∷ ns) = tt

  may_until : (k : ℕ) (o : Option Sample) → May (until_from k o h)
  may_until k (Some x) = may_with (ticks_at h k) [] (end.Until x)
  may_until k None = tt

  may_repeat : (k : ℕ) (o : Option ℤ) → May (repeat_from k o h)
  may_repeat k (Some (pos n)) = by_test (nat_lt 0 n)
    where
      by_test : (b : Bool) → May (if b then tick_with (ticks_at h k) [] (end.Times n) h else raises h)
      by_test true = may_with (ticks_at h k) [] (end.Times n)
      by_test false = tt
  may_repeat k (Some (negsuc n)) = tt
  may_repeat k None = tt

  may_called : (s : Seen) (p : BenchPart) (k : Called) → May (part_called s c p k h)
  may_called s part.Get k = may_got (option_and_then (read_of h) (only_placed k)) (placed_there (only_placed k))
  may_called s part.Set k = may_placed k.placed k.keywords
  may_called s part.Tick k = may_tick (option_and_then (domain_named c) (option_and_then (domain_given s) (one_or_none (codes "domain") k)))
  may_called s part.Delay k = may_delay (option_and_then time_meant (only_placed k))
  may_called s (part.Sample n) k = may_sample n k.placed k.keywords
  may_called s (part.Until n) k = may_until n (option_and_then (read_of h) (only_placed k))
  may_called s (part.Repeat n) k = may_repeat n (option_and_then (counted h.store.things) (only_placed k))
  may_called s part.Context k = tt
  may_called s (part.Wait n) k = tt

  may_named : (o : Option BenchPart) → May (named_given o h)
  may_named (Some p) = tt
  may_named None = tt

  may_attribute : (p : BenchPart) (ns : List (List ℕ)) → May (part_attribute p ns h)
  may_attribute p [] = tt
  may_attribute p (n ∷ []) = may_named (attribute_named p n h)
  may_attribute p (n ∷ o ∷ ns) = tt

  may_awaited : (p : BenchPart) → May (part_awaited p h)
  may_awaited (part.Wait k) = tt
  may_awaited part.Context = tt
  may_awaited part.Get = tt
  may_awaited part.Set = tt
  may_awaited part.Tick = tt
  may_awaited part.Delay = tt
  may_awaited (part.Sample k) = tt
  may_awaited (part.Until k) = tt
  may_awaited (part.Repeat k) = tt

  may_asked : (s : Seen) (p : BenchPart) (r : Request) (a : Act) → May (part_asked s c p r a h)
  may_asked s p r act.Attribute = may_attribute p r.names
  may_asked s p r act.CallThing = may_called s p (called r.vals r.names)
  may_asked s p r act.Await = may_awaited p
  may_asked s p r act.Import = tt
  may_asked s p r act.SetAttribute = tt
  may_asked s p r act.Index = tt
  may_asked s p r act.SetIndex = tt
  may_asked s p r act.Operator = tt
  may_asked s p r act.Length = tt
  may_asked s p r act.Iterate = tt
  may_asked s p r act.Enter = tt
  may_asked s p r act.Leave = tt
  may_asked s p r act.ClassMade = tt
  may_asked s p r act.InitBase = tt
  may_asked s p r act.BodyEnd = tt
  may_asked s p r act.Returned = tt

  may_table : (on : Bool) (a : Answered) → May (table_served on h a)
  may_table false a = tt
  may_table true a = by_count (too_many h.pool (held_shared h a.held).pool.exprs)
    where
      by_count : (b : Bool) → May (if b then serving (served.Answer (answer.Refuse Limit)) h else serving (served.Answer a.answer) (held_shared h a.held))
      by_count true = tt
      by_count false = tt

  -- what a request comes to may be done
  pub served_may : (s : Seen) (r : Request) → MayBeDone (record c { pool = (bench_served s c r h).held.pool }) (bench_served s c r h).served
  served_may s r = by_part (asked_part h r.vals)
    where
      by_part : (o : Option BenchPart) → May (served_by o s c r h)
      by_part (Some p) = may_asked s p r r.act
      by_part None = may_table (is_served r.act (acted s h.pool h.store.things r)) (prim None s h r)
