-- Slots behind the writes of an assignment stand for what a process has left behind the assignment.
use Rattle.std.specs.Prelude.{◌≡◌, refl, ℕ, ◌+◌, ◌<◌, ◌&&◌, Bool, true, false, if◌then◌else◌, List, [], ◌∷◌, ◌++◌, length, fold, ℤ, Option, Some, None}
use Rattle.std.proofs.Common.{sym, ◌∙◌, ap}
use Rattle.std.proofs.lemmas.List.Elements.{Contains-append_left}
use Rattle.amh_bits.specs.Patterns.{pattern, nat_bit}
use Rattle.design_ir.specs.declared.signal.Sig.{Sig}
use Rattle.design_ir.specs.declared.expr.Expr.{Expr}
use Rattle.design_ir.specs.Pools.{Pooled}
use Rattle.design_ir.specs.PoolRules.{IsPool}
use Rattle.design_ir.specs.Values.{form, num, signal_form}
use Rattle.design_ir.specs.Targets.{Bit, is_target, target_bits}
use Rattle.design_ir.specs.Put.{put_bits, put_number}
use Rattle.design_ir.specs.Guards.{Guarded}
use Rattle.design_ir.specs.GuardedPut.{put_guarded}
use Rattle.design_ir.specs.Circuits.{at, FitsSignals}
use Rattle.design_ir.proofs.GuardLaws.{fold_append}
use Rattle.design_ir.proofs.TargetLaws.{target_length}
use Rattle.flat_design.specs.declared.sources.Source.{Source}
use Rattle.flat_design.specs.declared.writes.Write.{Write}
use Rattle.flat_design.specs.Growing.{IsMore}
use Rattle.flat_design.specs.Activity.{tests_hold}
use Rattle.flat_design.specs.Writes.{writes, written_bits, put_write}
use Rattle.flat_design.specs.WriteLaws.{WritesPut}
use Rattle.flat_design.specs.Shown.{SoFar, AreSlots, SomeNeeds, after}
use Rattle.flat_design.specs.Begun.{all_hold}
use Rattle.flat_design.proofs.Growing.{fits_more, bits_more, target_more}
use Rattle.flat_design.proofs.ShownWrites.{put_where}

-- ---- part of the way

-- what is written of a value: as many bits as the target has
abbrev pub value_bits : Pooled → Guarded → List ℤ → ℕ
value_bits p g env = pattern (form p g.target.0).width (num p env g.value.0)

-- a write of an assignment, whose tests are those of the pool q
abbrev pub write_step : Pooled → Pooled → Guarded → List ℤ → List ℤ → Write → List ℤ
write_step p q g env cur w = put_where p (all_hold p g.guards env && tests_hold q w.tests env) w (value_bits p g env) cur

-- behind some writes of an assignment
abbrev pub midway : SoFar → Pooled → Guarded → List Write → SoFar
midway t q g ws = record t { behind = λ env cur. fold (write_step t.pool q g env) (t.behind env cur) ws; done = t.done ++ g ∷ [] }

-- one write more
pub midway_more : (t : SoFar) (q : Pooled) (g : Guarded) (ws : List Write) (w : Write) → midway t q g (ws ++ w ∷ [])
    ≡ record (midway t q g ws) { behind = λ env cur. write_step t.pool q g env (fold (write_step t.pool q g env) (t.behind env cur) ws) w }
midway_more t q g ws w = λ i. record (midway t q g ws) { behind = λ env cur. fold_append (write_step t.pool q g env) (t.behind env cur) ws (w ∷ []) i }

-- ---- the slots stand for the same where the same is left

pub some_more : (p : Pooled) (done more : List Guarded) (b c : Bit) → SomeNeeds p done b c → SomeNeeds p (done ++ more) b c
some_more p done more b c h = record { assignment = h.assignment; among = Contains-append_left done more h.assignment h.among; needs = h.needs }

pub slots_of_more : (t : SoFar) (q : Pooled) (more : List Guarded) (slots : List (List Source)) → AreSlots t q slots → AreSlots (record t { done = t.done ++ more }) q slots
slots_of_more t q more slots h = record {
  more = h.more;
  size = h.size;
  long = h.long;
  each = λ s among.
      let x = h.each s among in
      record { size = x.size; sources = x.sources; bits = x.bits; needs = λ comb i y c e has. some_more t.pool t.done more record { sig = s; index = i } c (x.needs comb i y c e has) };
}

pub slots_same : (t : SoFar) (q : Pooled) (behind : List ℤ → List ℤ → List ℤ) (slots : List (List Source)) → ((env cur : List ℤ) → FitsSignals t.pool env → t.behind env cur ≡ behind env cur) → AreSlots t q slots → AreSlots (record t { behind = behind }) q slots
slots_same t q behind slots same h = record {
  more = h.more;
  size = h.size;
  long = λ env cur fit. ap length (sym (same env cur fit)) ∙ h.long env cur fit;
  each = λ s among.
      let x = h.each s among in
      record {
        size = x.size;
        sources = x.sources;
        bits = λ env cur i y fit fits long starts e. x.bits env cur i y fit fits long starts e ∙ ap (λ now. nat_bit (pattern (signal_form t.pool.signals s).width (at now s)) i) (same env cur fit);
        needs = x.needs;
      };
}

-- ---- all writes of an assignment

put_bits_exprs : (sigs : List Sig) (es fs : List Expr) (xs : List (Option Bit)) (v i : ℕ) (cur : List ℤ) → put_bits (record { signals = sigs; exprs = es }) xs v i cur ≡ put_bits (record { signals = sigs; exprs = fs }) xs v i cur
put_bits_exprs sigs es fs [] v i cur = refl
put_bits_exprs sigs es fs (None ∷ xs) v i cur = put_bits_exprs sigs es fs xs v (i + 1) cur
put_bits_exprs sigs es fs (Some x ∷ xs) v i cur = put_bits_exprs sigs es fs xs v (i + 1) _

pub put_bits_more : (p q : Pooled) (xs : List (Option Bit)) (v i : ℕ) (cur : List ℤ) → IsMore p q → put_bits q xs v i cur ≡ put_bits p xs v i cur
put_bits_more p q xs v i cur more = ap (λ sigs. put_bits (record { signals = sigs; exprs = q.exprs }) xs v i cur) more.signals ∙ put_bits_exprs p.signals q.exprs p.exprs xs v i cur

where_more : (p q : Pooled) (holds : Bool) (w : Write) (v : ℕ) (cur : List ℤ) → IsMore p q → put_where p holds w v cur ≡ put_where q holds w v cur
where_more p q true w v cur more = sym (put_bits_more p q (written_bits w) v w.from cur more)
where_more p q false w v cur more = refl

module _ (p q : Pooled) (more : IsMore p q) (env : List ℤ) (v : ℕ) where
  held : (ws : List Write) (cur : List ℤ) → fold (λ now w. put_where p (tests_hold q w.tests env) w v now) cur ws ≡ fold (put_write q env v) cur ws
  held [] cur = refl
  held (w ∷ ws) cur = ap (λ now. fold (λ now w. put_where p (tests_hold q w.tests env) w v now) now ws) (where_more p q (tests_hold q w.tests env) w v cur more) ∙ held ws (put_write q env v cur w)

  not_held : (ws : List Write) (cur : List ℤ) → fold {A = Write} (λ now w. now) cur ws ≡ cur
  not_held [] cur = refl
  not_held (w ∷ ws) cur = not_held ws cur

  pub all_writes : (b : Bool) (ws : List Write) (cur : List ℤ) → fold (λ now w. put_where p (b && tests_hold q w.tests env) w v now) cur ws ≡ (if b then fold (put_write q env v) cur ws else cur)
  all_writes true ws cur = held ws cur
  all_writes false ws cur = not_held ws cur

module _ (p q : Pooled) (base : IsPool p) (rules : IsPool q) (more : IsMore p q) (law : WritesPut q) (g : Guarded) (there : g.target.0 < length p.exprs) (target : is_target p g.target.0 ≡ true) where
  target_put : (env cur : List ℤ) → FitsSignals p env → fold (put_write q env (value_bits p g env)) cur (writes q g.target.0) ≡ put_number p (target_bits p env g.target.0) (num p env g.value.0) cur
  target_put env cur fit =
      let k : ℕ = g.target.0 in
      let v : ℕ = value_bits p g env in
      let places : List (Option Bit) = target_bits p env k in
      sym (law k env cur v (target_more p q base more k there ∙ target) (fits_more p q base more env fit))
      ∙ put_bits_more p q (target_bits q env k) v 0 cur more
      ∙ ap (λ xs. put_bits p xs v 0 cur) (bits_more p q base more env k there)
      ∙ ap (λ n. put_bits p places (pattern n (num p env g.value.0)) 0 cur) (sym (target_length p env base g.target there target))

  writes_guarded : (env cur : List ℤ) → FitsSignals p env → fold (write_step p q g env) cur (writes q g.target.0) ≡ put_guarded p env cur g
  writes_guarded env cur fit =
      all_writes p q more env (value_bits p g env) (all_hold p g.guards env) (writes q g.target.0) cur
      ∙ ap (λ now. if all_hold p g.guards env then now else cur) (target_put env cur fit)

pub midway_end : (t : SoFar) (q r : Pooled) (g : Guarded) (slots : List (List Source)) → IsPool t.pool → IsPool q → IsMore t.pool q → WritesPut q → g.target.0 < length t.pool.exprs → is_target t.pool g.target.0 ≡ true
    → AreSlots (midway t q g (writes q g.target.0)) r slots → AreSlots (after t (g ∷ [])) r slots
midway_end t q r g slots base rules more law there target h =
    slots_same (midway t q g (writes q g.target.0)) r (λ env cur. put_guarded t.pool env (t.behind env cur) g) slots (λ env cur fit. writes_guarded t.pool q base rules more law g there target env (t.behind env cur) fit) h
