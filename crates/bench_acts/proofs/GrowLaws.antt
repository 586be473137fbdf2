-- What is served leaves the pool as it is, or puts expressions behind it.
use Rattle.std.proofs.Common.{◌≡◌, refl, sym, ◌∙◌, ap, Some, None, ℕ, suc, Bool, true, false, List, [], ◌∷◌, ◌++◌, Option, length}
use Rattle.std.specs.Prelude.{if◌then◌else◌, nat_lt, pos, negsuc, ℤ, fold, drop, option_and_then}
use Rattle.std.proofs.lemmas.List.{append_assoc, append-nil}
use Rattle.design_ir.specs.declared.ids.ExprId.{ExprId}
use Rattle.design_ir.specs.declared.expr.Expr.{Expr}
use Rattle.design_ir.specs.Circuits.{Circuit}
use Rattle.design_ir.specs.Pools.{Pooled}
use Rattle.flat_design.specs.Growing.{IsMore}
use Rattle.py_values.specs.declared.val.Val.{Val}
use Rattle.py_heap.specs.Heaps.{Seen}
use Rattle.py_frames.specs.declared.request.Act.{Act}
use Rattle.py_frames.specs.declared.request.Act.TheVariants as act
use Rattle.py_frames.specs.declared.request.Answer.TheVariants as answer
use Rattle.py_frames.specs.declared.request.Cause.TheVariants.{Limit}
use Rattle.py_frames.specs.declared.request.Request.{Request}
use Rattle.elab_store.specs.declared.kept.BenchPart.{BenchPart}
use Rattle.elab_store.specs.declared.kept.BenchPart.TheVariants as part
use Rattle.elab_store.specs.declared.simulation.Sample.{Sample}
use Rattle.elab_store.specs.declared.simulation.TickEnd.{TickEnd}
use Rattle.elab_store.specs.declared.simulation.TickEnd.TheVariants as end
use Rattle.elab_store.specs.declared.simulation.Wait.{Wait}
use Rattle.elab_store.specs.declared.simulation.Wait.TheVariants as wait
use Rattle.elab_store.specs.Stores.{Held, Answered}
use Rattle.elab_store.specs.Calls.{Called, called}
use Rattle.amh_values.specs.Acts.{acted}
use Rattle.elab_eval.specs.Table.{prim}
use Rattle.expr_index.specs.First.{first_number}
use Rattle.expr_index.specs.Numbers.{number_now, renumbered}
use Rattle.bench_acts.specs.declared.targets.InputBits.{InputBits}
use Rattle.bench_acts.specs.declared.serving.Served.TheVariants as served
use Rattle.amh_things.specs.Members.{counted}
use Rattle.bench_acts.specs.Context.{only_placed, Serving, serving, raises, ticks_at, got_from, set_from, set_placed, tick_of, delay_of, tick_with, sampled_more, sample_placed, until_from, repeat_from, part_called, part_asked, named_given, part_attribute, part_awaited}
use Rattle.bench_acts.specs.Serving.{is_served, table_served, served_by, asked_part, bench_served}
use Rattle.bench_acts.specs.Sharing.{Shared, number_in, share_one, shared, held_shared, too_many}

-- ---- `ctx`

abbrev Keeps : Held → Serving → Type 0
Keeps h s = s.held.pool ≡ h.pool

keeps_got : (h : Held) (o : Option Sample) → Keeps h (got_from o h)
keeps_got h (Some x) = refl
keeps_got h None = refl

keeps_set : (h : Held) (bits : Option InputBits) (n : Option ℤ) → Keeps h (set_from bits n h)
keeps_set h (Some bits) (Some n) = refl
keeps_set h (Some bits) None = refl
keeps_set h None n = refl

keeps_placed : (d : Circuit) (h : Held) (vs : List Val) (ns : List (List ℕ)) → Keeps h (set_placed d vs ns h)
keeps_placed d h [] ns = refl
keeps_placed d h (x ∷ []) ns = refl
keeps_placed d h (x ∷ v ∷ []) [] = keeps_set h _ _
keeps_placed d h (x ∷ v ∷ []) (n ∷ ns) = refl
keeps_placed d h (x ∷ v ∷ w ∷ vs) ns = refl

keeps_tick : (h : Held) (o : Option ℕ) → Keeps h (tick_of o h)
keeps_tick h (Some d) = refl
keeps_tick h None = refl

keeps_delay : (h : Held) (o : Option ℕ) → Keeps h (delay_of o h)
keeps_delay h (Some t) = refl
keeps_delay h None = refl

keeps_with : (h : Held) (w : Option Wait) (more : List Sample) (e : TickEnd) → Keeps h (tick_with w more e h)
keeps_with h (Some (wait.Tick t)) more e = refl
keeps_with h (Some (wait.Delay t)) more e = refl
keeps_with h None more e = refl

keeps_sampled : (h : Held) (k : ℕ) (o : Option (List Sample)) → Keeps h (sampled_more k o h)
keeps_sampled h k (Some more) = keeps_with h _ more _
keeps_sampled h k None = refl

keeps_sample : (h : Held) (k : ℕ) (vs : List Val) (ns : List (List ℕ)) → Keeps h (sample_placed k vs ns h)
keeps_sample h k vs [] = keeps_sampled h k _
keeps_sample h k vs (n ∷ ns) = refl

keeps_until : (h : Held) (k : ℕ) (o : Option Sample) → Keeps h (until_from k o h)
keeps_until h k (Some x) = keeps_with h _ [] _
keeps_until h k None = refl

keeps_repeat : (h : Held) (k : ℕ) (o : Option ℤ) → Keeps h (repeat_from k o h)
keeps_repeat h k (Some (pos n)) = by_test (nat_lt 0 n)
  where
    by_test : (b : Bool) → Keeps h (if b then tick_with (ticks_at h k) [] (end.Times n) h else raises h)
    by_test true = keeps_with h _ [] _
    by_test false = refl
keeps_repeat h k (Some (negsuc n)) = refl
keeps_repeat h k None = refl

keeps_called : (s : Seen) (d : Circuit) (p : BenchPart) (c : Called) (h : Held) → Keeps h (part_called s d p c h)
keeps_called s d part.Get c h = keeps_got h _
keeps_called s d part.Set c h = keeps_placed d h c.placed c.keywords
keeps_called s d part.Tick c h = keeps_tick h _
keeps_called s d part.Delay c h = keeps_delay h _
keeps_called s d (part.Sample k) c h = keeps_sample h k c.placed c.keywords
keeps_called s d (part.Until k) c h = keeps_until h k _
keeps_called s d (part.Repeat k) c h = keeps_repeat h k (option_and_then (counted h.store.things) (only_placed c))
keeps_called s d part.Context c h = refl
keeps_called s d (part.Wait k) c h = refl

keeps_named : (h : Held) (o : Option BenchPart) → Keeps h (named_given o h)
keeps_named h (Some p) = refl
keeps_named h None = refl

keeps_attribute : (h : Held) (p : BenchPart) (ns : List (List ℕ)) → Keeps h (part_attribute p ns h)
keeps_attribute h p [] = refl
keeps_attribute h p (n ∷ []) = keeps_named h _
keeps_attribute h p (n ∷ m ∷ ns) = refl

keeps_awaited : (h : Held) (p : BenchPart) → Keeps h (part_awaited p h)
keeps_awaited h (part.Wait k) = refl
keeps_awaited h part.Context = refl
keeps_awaited h part.Get = refl
keeps_awaited h part.Set = refl
keeps_awaited h part.Tick = refl
keeps_awaited h part.Delay = refl
keeps_awaited h (part.Sample k) = refl
keeps_awaited h (part.Until k) = refl
keeps_awaited h (part.Repeat k) = refl

keeps_asked : (s : Seen) (d : Circuit) (p : BenchPart) (r : Request) (a : Act) (h : Held) → Keeps h (part_asked s d p r a h)
keeps_asked s d p r act.Attribute h = keeps_attribute h p r.names
keeps_asked s d p r act.CallThing h = keeps_called s d p (called r.vals r.names) h
keeps_asked s d p r act.Await h = keeps_awaited h p
keeps_asked s d p r act.Import h = refl
keeps_asked s d p r act.SetAttribute h = refl
keeps_asked s d p r act.Index h = refl
keeps_asked s d p r act.SetIndex h = refl
keeps_asked s d p r act.Operator h = refl
keeps_asked s d p r act.Length h = refl
keeps_asked s d p r act.Iterate h = refl
keeps_asked s d p r act.Enter h = refl
keeps_asked s d p r act.Leave h = refl
keeps_asked s d p r act.ClassMade h = refl
keeps_asked s d p r act.InitBase h = refl
keeps_asked s d p r act.BodyEnd h = refl
keeps_asked s d p r act.Returned h = refl

-- ---- what is shared

record Behind (es fs : List Expr) : Type 0 where
  more : List Expr
  is : fs ≡ es ++ more

behind_one : (es : List Expr) (before : ℕ) (s : Shared) (x : Expr) → Behind es s.exprs → Behind es (share_one before s x).exprs
behind_one es before s x h = by_number (first_number s.exprs (renumbered (number_now before s.numbers) x))
  where
    by_number : (o : Option ℕ) → Behind es (number_in o (renumbered (number_now before s.numbers) x) s).exprs
    by_number (Some k) = h
    by_number None =
        let e = renumbered (number_now before s.numbers) x in
        record { more = h.more ++ e ∷ []; is = ap (λ l. l ++ e ∷ []) h.is ∙ append_assoc es h.more (e ∷ []) }

behind_all : (es : List Expr) (before : ℕ) (s : Shared) (xs : List Expr) → Behind es s.exprs → Behind es (fold (share_one before) s xs).exprs
behind_all es before s [] h = h
behind_all es before s (x ∷ xs) h = behind_all es before (share_one before s x) xs (behind_one es before s x h)

shared_behind : (es more : List Expr) → Behind es (shared es more).exprs
shared_behind es more = behind_all es (length es) (record { numbers = []; exprs = es }) more (record { more = []; is = sym (append-nil es) })

-- ---- a request

same_more : (p q : Pooled) → q ≡ p → IsMore p q
same_more p q e = record { signals = ap (λ (x : Pooled). x.signals) e; more = []; exprs = ap (λ (x : Pooled). x.exprs) e ∙ sym (append-nil p.exprs) }

table_more : (on : Bool) (h : Held) (a : Answered) → IsMore h.pool (table_served on h a).held.pool
table_more false h a = same_more h.pool h.pool refl
table_more true h a = by_count (too_many h.pool (held_shared h a.held).pool.exprs)
  where
    by_count : (b : Bool) → IsMore h.pool (if b then serving (served.Answer (answer.Refuse Limit)) h else serving (served.Answer a.answer) (held_shared h a.held)).held.pool
    by_count true = same_more h.pool h.pool refl
    by_count false =
        let b = shared_behind h.pool.exprs (drop (length h.pool.exprs) a.held.pool.exprs) in
        record { signals = refl; more = b.more; exprs = b.is }

-- the pool behind a request is the one before it, with more expressions behind it
pub served_more : (s : Seen) (d : Circuit) (r : Request) (h : Held) → IsMore h.pool (bench_served s d r h).held.pool
served_more s d r h = by_part (asked_part h r.vals)
  where
    by_part : (o : Option BenchPart) → IsMore h.pool (served_by o s d r h).held.pool
    by_part (Some p) = same_more h.pool (part_asked s d p r r.act h).held.pool (keeps_asked s d p r r.act h)
    by_part None = table_more (is_served r.act (acted s h.pool h.store.things r)) h (prim None s h r)
