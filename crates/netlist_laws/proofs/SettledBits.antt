-- Where each bit of a signal of a settled environment comes from: its init, or one bit of one expression.
use Rattle.std.specs.Prelude.{◌≡◌, refl, ℕ, ◌<◌, ◌⊎◌, true, false, List, [], ◌∷◌, ◌++◌, slice_get, ℤ, Some, None}
use Rattle.std.specs.List.{AllByRecursion, flat_map}
use Rattle.std.proofs.Common.{sym, ◌∙◌, ap, subst, ⊎_elim, inl, inr}
use Rattle.std.proofs.lemmas.Bool.{false≢true, and_parts}
use Rattle.design_ir.specs.declared.ids.ExprId.{ExprId}
use Rattle.design_ir.specs.declared.signal.Sig.{Sig}
use Rattle.design_ir.specs.declared.process.DesignProcess.{DesignProcess}
use Rattle.design_ir.specs.Pools.{Pooled}
use Rattle.design_ir.specs.PoolRules.{IsPool}
use Rattle.design_ir.specs.Values.{form, num, signal_form}
use Rattle.design_ir.specs.Targets.{Bit, fixed, Aim, aims}
use Rattle.design_ir.specs.Needed.{extended, needed, needed_whole, needed_indices}
use Rattle.design_ir.specs.Trees.{assign, choose, Block, done, next}
use Rattle.design_ir.specs.Guards.{Guard, Guarded, guarded, block_exprs}
use Rattle.design_ir.specs.Loops.{needed_value, Needs}
use Rattle.design_ir.specs.Put.{put}
use Rattle.design_ir.specs.Circuits.{Circuit, State, at, is_held}
use Rattle.design_ir.specs.Designs.{IsUsable, IsProcess, IsDesign}
use Rattle.design_ir.specs.Settled.{Settled}
use Rattle.rtlil_text.specs.Sources.{Constant}
use Rattle.rtlil_text.proofs.Among.{Among, Contains-among, Among-right}
use Rattle.netlist_laws.specs.Latest.{source_at, places, is_fixed, is_plain}
use Rattle.netlist_laws.specs.Module.{expr_value, at_first, at_last}
use Rattle.netlist_laws.proofs.Reading.{bit_of}
use Rattle.netlist_laws.proofs.Origins.{AreAssigned, IsBefore, IsAssigned, put_origin}
use Rattle.netlist_laws.proofs.FixedAims.{fixed_aims}
use Rattle.netlist_laws.proofs.OneDriver.{IsOnly, only_holds}
use Rattle.netlist_laws.proofs.Driven.{driven_by}
use Rattle.netlist_laws.specs.Plain.{ArePlain}
use Rattle.netlist_laws.proofs.PlainProcesses.{process_plain}
use Rattle.netlist_laws.proofs.SourcedSpecs.{first_source}
use Rattle.netlist_laws.proofs.SettledNumbers.{settled_by}

-- ---- the assignments of a block

-- an assignment of these statements, with this target and this value
pub record Stands (b : Block) (t v : ExprId) : Type 0 where
  pub assignment : Guarded
  pub among : Among (guarded [] b) assignment
  pub target : assignment.target ≡ t
  pub value : assignment.value ≡ v

all_assigned : (P : ExprId → ExprId → Type 0) (Q : ExprId → Type 0) (pool : Pooled) (b : Block) → is_plain pool b ≡ true → AllByRecursion Q (block_exprs b)
    → ((g : Guarded) → Among (guarded [] b) g → Q g.target → Q g.value → P g.target g.value) → AreAssigned P b
all_assigned P Q pool done plain h f = tt
all_assigned P Q pool (next (assign t v p) rest) plain h f =
    (f (record { guards = []; target = t; value = v; place = p }) (inl refl) h.0 h.1.0, all_assigned P Q pool rest (and_parts (is_fixed pool t.0) (is_plain pool rest) plain).1 h.1.1 (λ g a. f g (inr a)))
all_assigned P Q pool (next (choose arms) rest) plain h f = absurd (false≢true plain)

all_among : {A : Type 0} (xs ys : List A) → ((x : A) → Among xs x → Among ys x) → AllByRecursion (Among ys) xs
all_among [] ys f = tt
all_among (x ∷ xs) ys f = (f x (inl refl), all_among xs ys (λ y a. f y (inr a)))

module _ (c : Circuit) (env : List ℤ) (design : IsDesign c) (rules : IsPool c.pool) (plain : ArePlain c) (st : State) (settled : Settled c st env) (s : ℕ) (p : DesignProcess) (i : ℕ) where
  -- the bit of an expression that a process may read, and its source: what that needs, this needs
  pub record IsFrom : Type 0 where
    pub expr : ExprId
    pub place : ℕ
    pub usable : IsUsable c expr
    pub source : at_last c false p s i ≡ source_at (expr_value c expr.0) place
    pub same : bit_of (at env s) i ≡ bit_of (num c.pool env expr.0) place
    pub needs : (x : Bit) → Among (extended (form c.pool expr.0) (needed c.pool expr.0) place) x → Needs c (record { sig = s; index = i }) x

  -- an assignment of the process, of usable expressions
  record IsItsOwn (t v : ExprId) : Type 0 where
    target : IsUsable c t
    value : IsUsable c v
    stands : Stands p.body t v

  process_needs : (o : IsOnly (driven_by c) s c.processes p) → p.domain ≡ None → (t v : ExprId) (place : ℕ) → IsItsOwn t v → is_fixed c.pool t.0 ≡ true → slice_get (places c.pool t.0) place ≡ Some (record { sig = s; index = i })
      → (x : Bit) → Among (extended (form c.pool v.0) (needed c.pool v.0) place) x → Needs c (record { sig = s; index = i }) x
  process_needs o d t v place own firm lands x a =
      let g : Guarded = own.stands.assignment in
      let aim : Aim = record { bit = record { sig = s; index = i }; spot = fixed place } in
      let aimed : Among (aims c.pool g.target.0) aim = subst (λ (u : ExprId). Among (aims c.pool u.0) aim) (sym own.stands.target) (fixed_aims c.pool rules t place (record { sig = s; index = i }) own.target.there firm lands) in
      let read : Among (needed_value c.pool g.value (Some place)) x = subst (λ (u : ExprId). Among (needed_value c.pool u (Some place)) x) (sym own.stands.value) a in
      let others : List Bit = flat_map (λ (y : Guard). needed_whole c.pool y.condition) g.guards ++ needed_indices c.pool g.target.0 in
      inl (record {
        process = p;
        among = Contains-among c.processes p (only_holds (Among c.processes) (driven_by c) s c.processes p o (all_among c.processes c.processes (λ y b. b)));
        comb = d;
        assignment = g;
        stands = Contains-among (guarded [] p.body) g own.stands.among;
        needs = record {
          aim = aim;
          may = Contains-among (aims c.pool g.target.0) aim aimed;
          writes = refl;
          reads = Contains-among (others ++ needed_value c.pool g.value (Some place)) x (Among-right others (needed_value c.pool g.value (Some place)) x read);
        };
      })

  assigned : (o : IsOnly (driven_by c) s c.processes p) → AreAssigned IsItsOwn p.body
  assigned o =
      all_assigned IsItsOwn (IsUsable c) c.pool p.body (process_plain c design plain s p o) (only_holds (IsProcess c) (driven_by c) s c.processes p o design.processes).expressions
      (λ g a u v. record { target = u; value = v; stands = record { assignment = g; among = a; target = refl; value = refl } })

  pub settled_bit : (x : Sig) → slice_get c.pool.signals s ≡ Some x → is_held c s ≡ false → IsOnly (driven_by c) s c.processes p → p.domain ≡ None → i < (signal_form c.pool.signals s).width
      → (at_last c false p s i ≡ Constant (bit_of (at env s) i)) ⊎ IsFrom
  settled_bit x is held o d inside =
      let r = settled_by c env design st settled s x p is held o d in
      ⊎_elim
      (λ (b : IsBefore c.pool env (expr_value c) IsItsOwn s i inside (at_first c false) r.then (at_last c false p) (put c.pool env p.body r.then)).
      inl (b.source ∙ first_source c s x i is inside ∙ ap (λ z. Constant (bit_of z i)) (sym r.first) ∙ ap Constant (sym b.same) ∙ ap (λ z. Constant (bit_of z i)) (sym r.result)))
      (λ (a : IsAssigned c.pool env (expr_value c) IsItsOwn s i inside (at_last c false p) (put c.pool env p.body r.then)).
      inr (record {
        expr = a.expr;
        place = a.place;
        usable = a.holds.value;
        source = a.source;
        same = ap (λ z. bit_of z i) r.result ∙ a.same;
        needs = process_needs o d a.target a.expr a.place a.holds a.fixed a.lands;
      }))
      (put_origin c.pool env (expr_value c) IsItsOwn s i inside p.body (at_first c false) r.then (process_plain c design plain s p o) (assigned o) r.long)
