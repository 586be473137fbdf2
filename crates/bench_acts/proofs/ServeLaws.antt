-- What is owed, where a refusal owes less.
use Rattle.std.proofs.Common.{◌≡◌, ◌≤◌, refl, sym, subst, ◌∙◌, ap, length, Bool, true, false, Result, Ok, Err}
use Rattle.std.specs.Prelude.{OnOk, if◌then◌else◌}
use Rattle.lists.specs.declared.items.NoMemory.{NoMemory}
use Rattle.py_frames.specs.declared.request.Answer.{Answer}
use Rattle.py_frames.specs.declared.request.Answer.TheVariants as answer
use Rattle.py_frames.specs.declared.request.Cause.TheVariants.{Raised, Limit}
use Rattle.design_ir.specs.Pools.{Pooled}
use Rattle.design_ir.specs.Circuits.{Circuit}
use Rattle.expr_index.specs.Knows.{Knows}
use Rattle.elab_store.specs.Held.{held_of}
use Rattle.elab_store.specs.Sound.{IsSound}
use Rattle.elab_store.specs.Stores.{Held, Answered}
use Rattle.bench_acts.specs.declared.serving.Bench.{Bench}
use Rattle.bench_acts.specs.declared.serving.Served.{Served}
use Rattle.bench_acts.specs.declared.serving.Served.TheVariants as served
use Rattle.bench_acts.specs.Context.{Serving, serving}
use Rattle.bench_acts.specs.Serving.{table_served}
use Rattle.bench_acts.specs.Sharing.{held_over, held_shared, exprs_shared, too_many}
use Rattle.bench_acts.specs.Held.{IsBench, Serves, GoesOn, ServesOn}
use Rattle.bench_acts.proofs.ShareLaws.{few_still}

goes_on : (s : Served) (t : Type 0) → t → GoesOn s t
goes_on (served.Answer (answer.Refuse why)) t h = tt
goes_on (served.Answer answer.Begin) t h = h
goes_on (served.Answer (answer.Give v)) t h = h
goes_on (served.Answer (answer.GiveText x)) t h = h
goes_on (served.Answer (answer.GiveList x)) t h = h
goes_on (served.Answer (answer.Bind x)) t h = h
goes_on (served.Answer (answer.Call c x)) t h = h
goes_on (served.Answer (answer.Through x)) t h = h
goes_on (served.Get x) t h = h
goes_on (served.Set bits n) t h = h
goes_on (served.Wait k) t h = h

pub serves_on : (r : Result Served NoMemory) (before behind : Bench) (owed : Serving) → Serves r before behind owed → OnOk r (IsBench behind) → ServesOn r before behind owed
serves_on (Ok s) before behind owed h sound = (h.0, goes_on s _ (h.1, h.2, sound))
serves_on (Err e) before behind owed h sound = tt

-- ---- by the tables of elaboration

module _ (b c : Bench) (on : Bool) (k : Held) (a : Answer) (owed : Answered) where
  abbrev h : Held
  h = held_of b.held

  module _ (bench : IsBench b) (served_on : on ≡ true) (gives : owed ≡ record { answer = a; held = k }) where
    served_as : (many : Bool) → too_many h.pool (held_shared h k).pool.exprs ≡ many → table_served on h owed ≡ (if many then serving (served.Answer (answer.Refuse Limit)) h else serving (served.Answer a) (held_shared h k))
    served_as many is =
        ap (λ o. table_served o h owed) served_on ∙ ap (table_served true h) gives ∙ ap (λ m. if m then serving (served.Answer (answer.Refuse Limit)) h else serving (served.Answer a) (held_shared h k)) is

    pub shared_serves : IsSound (held_shared h k) → held_of c.held ≡ held_over b.design.pool (length b.held.store.things) (length b.held.store.kept) k → c.design ≡ record (b.design) { pool = c.held.pool } → Knows c.known c.held.pool.exprs
        → too_many b.design.pool c.held.pool.exprs ≡ false → ServesOn (Ok (served.Answer a)) b c (table_served on h owed)
    shared_serves sound held design known few =
        let over : held_of c.held ≡ held_shared h k = held ∙ ap (λ p. held_over p (length b.held.store.things) (length b.held.store.kept) k) (sym bench.pool) in
        let pool : c.held.pool ≡ (held_shared h k).pool = ap (λ (x : Held). x.pool) over in
        let fewer : too_many h.pool (held_shared h k).pool.exprs ≡ false = ap (λ p. too_many p (held_shared h k).pool.exprs) bench.pool ∙ ap (λ (p : Pooled). too_many b.design.pool p.exprs) (sym pool) ∙ few in
        let same : c.held.pool ≡ c.design.pool = sym (ap (λ (d : Circuit). d.pool) design) in
        let room = few_still b.design.pool c.held.pool.exprs bench.few few in
        let behind : IsBench c = record { pool = same; few = subst (λ (p : Pooled). length p.exprs ≤ 262144) same room; sound = subst IsSound (sym over) sound; known = subst (λ (p : Pooled). Knows c.known p.exprs) same known } in
        subst (ServesOn (Ok (served.Answer a)) b c) (sym (served_as false fewer)) (refl, goes_on (served.Answer a) _ (sym over, design ∙ ap (λ p. record (b.design) { pool = p }) pool, behind))

    pub limit_serves : too_many b.design.pool (exprs_shared b.design.pool k) ≡ true → ServesOn (Ok (served.Answer (answer.Refuse Limit))) b c (table_served on h owed)
    limit_serves many =
        let more : too_many h.pool (held_shared h k).pool.exprs ≡ true = ap (λ p. too_many p (exprs_shared p k)) bench.pool ∙ many in
        subst (ServesOn (Ok (served.Answer (answer.Refuse Limit))) b c) (sym (served_as true more)) (refl, tt)

  pub raises_on : on ≡ false → ServesOn (Ok (served.Answer (answer.Refuse Raised))) b c (table_served on h owed)
  raises_on off = subst (λ o. ServesOn (Ok (served.Answer (answer.Refuse Raised))) b c (table_served o h owed)) (sym off) (refl, tt)
