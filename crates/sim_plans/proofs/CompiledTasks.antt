-- The task of some statements of a process.
use Rattle.std.specs.Prelude.{◌≡◌, refl, ℕ, zero, suc, ◌+◌, ◌<◌, ◌≤◌, ◌||◌, Bool, true, false, List, [], ◌∷◌, ◌++◌, length, map, replicate, slice_get, slice_index_or, Some}
use Rattle.std.specs.List.{AllByRecursion, range_with_len}
use Rattle.std.specs.List.Sorted.{IsNonDecreasing}
use Rattle.std.proofs.Common.{sym, ◌∙◌, ap, arith, subst}
use Rattle.design_ir.specs.declared.ids.ExprId.{ExprId}
use Rattle.design_ir.specs.declared.ids.SigId.{SigId}
use Rattle.design_ir.specs.declared.expr.Expr as expr
use Rattle.design_ir.specs.declared.process.DesignProcess.{DesignProcess}
use Rattle.design_ir.specs.Circuits.{Circuit, at, is_among}
use Rattle.design_ir.specs.Designs.{IsDesign, IsProcess}
use Rattle.design_ir.specs.Guards.{driven, block_exprs, statement_exprs, choices_exprs}
use Rattle.design_ir.specs.PoolRules.{IsPool}
use Rattle.design_ir.specs.Put.{put}
use Rattle.design_ir.specs.Targets.{is_target}
use Rattle.design_ir.specs.Trees.{Statement, assign, choose, Choices, none, arm, Block, done, next, statements, block_len}
use Rattle.design_ir.proofs.Equations.{standing}
use Rattle.sim_plans.specs.declared.compile.Compiled.{Compiled}
use Rattle.sim_plans.specs.Compiled.{IsCompiled, HoldsSignal}
use Rattle.sim_plans.specs.Driven.{AreTargets, numbers_of, listed, statement_listed}
use Rattle.sim_plans.specs.Given.{marked}
use Rattle.sim_plans.specs.Groups.{IsApart, drives_at, drives_of}
use Rattle.sim_plans.specs.Marks.{is_marked, AreMarked, AreSpread, ReadOnly, Stays}
use Rattle.sim_plans.specs.Plans.{IsClockedTask}
use Rattle.sim_plans.specs.Reading.{AreBelow, AreThere}
use Rattle.sim_plans.specs.Reads.{block_reads}
use Rattle.sim_plans.specs.Tasks.{IsTask, AreAmong, AreTargetsOf, picked, places_of, block_targets, statement_targets, choices_targets, block_values, statement_values, choices_values}
use Rattle.sim_plans.proofs.DrivenLists.{driven_like}
use Rattle.sim_plans.proofs.EdgesFit.{all_get}
use Rattle.sim_plans.proofs.Listing.{listed_program, all_among, whole, block_either, block_aims, first_targets}
use Rattle.sim_plans.proofs.Marks.{usable_there, marked_length}
use Rattle.sim_plans.proofs.Picking.{picked_all, drives_is, drives_part, group_same}
use Rattle.sim_plans.proofs.ReadMarks.{first_only, reads_exact}
use Rattle.sim_plans.proofs.SignalsInside.{driven_there, all_of}
use Rattle.sim_plans.proofs.DeltaSteps.{below_of}
use Rattle.sim_plans.proofs.Spreading.{marks_new, all_stay}
use Rattle.sim_plans.proofs.TargetsInside.{all_append}
use Rattle.sim_plans.proofs.Waits.{none_marked, replicate_length}
use Rattle.sim_plans.proofs.Walks.{all_parts}

-- ---- the targets, right sides and conditions are expressions of the statements

module _ (n : ℕ) where
  parts : (xs ys : List ExprId) → AreBelow n (xs ++ ys) → AreBelow n xs × AreBelow n ys
  parts xs ys h = all_parts (λ (e : ExprId). e.0 < n) xs ys h

  join : (xs ys : List ExprId) → AreBelow n xs → AreBelow n ys → AreBelow n (xs ++ ys)
  join xs ys h k = all_append (λ (e : ExprId). e.0 < n) xs ys h k

  mutual
    statement_aims : (s : Statement) → AreBelow n (statement_exprs s) → AreBelow n (statement_targets s)
    statement_aims (assign t v place) h = (h.0, tt)
    statement_aims (choose arms) h = choices_aims arms h

    choices_aims : (arms : Choices) → AreBelow n (choices_exprs arms) → AreBelow n (choices_targets arms)
    choices_aims none h = tt
    choices_aims (arm c body others) h =
        let r = parts (block_exprs body) (choices_exprs others) h.1 in
        join (block_targets body) (choices_targets others) (aims_below body r.0) (choices_aims others r.1)

    pub aims_below : (b : Block) → AreBelow n (block_exprs b) → AreBelow n (block_targets b)
    aims_below done h = tt
    aims_below (next s rest) h =
        let r = parts (statement_exprs s) (block_exprs rest) h in
        join (statement_targets s) (block_targets rest) (statement_aims s r.0) (aims_below rest r.1)

  mutual
    statement_reads : (s : Statement) → AreBelow n (statement_exprs s) → AreBelow n (statement_values s)
    statement_reads (assign t v place) h = (h.1.0, tt)
    statement_reads (choose arms) h = choices_reads arms h

    choices_reads : (arms : Choices) → AreBelow n (choices_exprs arms) → AreBelow n (choices_values arms)
    choices_reads none h = tt
    choices_reads (arm c body others) h =
        let r = parts (block_exprs body) (choices_exprs others) h.1 in
        (h.0, join (block_values body) (choices_values others) (values_below body r.0) (choices_reads others r.1))

    pub values_below : (b : Block) → AreBelow n (block_exprs b) → AreBelow n (block_values b)
    values_below done h = tt
    values_below (next s rest) h =
        let r = parts (statement_exprs s) (block_exprs rest) h in
        join (statement_values s) (block_values rest) (statement_reads s r.0) (values_below rest r.1)

-- ---- places

range_below : (a n bound : ℕ) → a + n ≤ bound → AllByRecursion (λ i. i < bound) (range_with_len a n)
range_below a zero bound h = tt
range_below a (suc n) bound h = (omega (arith, h), range_below (a + 1) n bound (omega (arith, h)))

statements_len : (b : Block) → length (statements b) ≡ block_len b
statements_len done = refl
statements_len (next s rest) = ap suc (statements_len rest)

-- all places of a block
pub whole_inside : (b : Block) (n : ℕ) (is : List ℕ) → is ≡ range_with_len 0 n → n ≡ block_len b → AllByRecursion (λ i. i < length (statements b)) is
whole_inside b n is e many = subst (AllByRecursion (λ i. i < length (statements b))) (sym e) (range_below 0 n (length (statements b)) (omega (arith, statements_len b, many)))

-- ---- some statements of a process

module _ (c : Circuit) (rules : IsPool c.pool) (design : IsDesign c) (k : ℕ) (p : DesignProcess) (stands : slice_get c.processes k ≡ Some p) where
  is_process : IsProcess c p
  is_process = all_get (IsProcess c) c.processes k p design.processes stands

  pub expressions : AreThere c.pool (block_exprs p.body)
  expressions = usable_there c (block_exprs p.body) is_process.expressions

  -- the signals of each of its statements
  module _ (targets : List (List SigId)) (known : AreTargets c.pool (length c.pool.exprs) targets) (drives : List (List SigId)) (are : drives ≡ map (statement_listed (λ j. slice_index_or targets j [])) (statements p.body)) where
    pub drives_many : length drives ≡ length (statements p.body)
    drives_many = ap length are ∙ mapped (statements p.body)
      where
        mapped : (xs : List Statement) → length (map (statement_listed (λ j. slice_index_or targets j [])) xs) ≡ length xs
        mapped [] = refl
        mapped (x ∷ xs) = ap suc (mapped xs)

    pub drives_are : (i s : ℕ) → i < length (statements p.body) → is_among (drives_of drives i) s ≡ drives_at c.pool p.body i s
    drives_are = drives_is c.pool targets p.body drives known expressions are

    pub drives_below : (n : ℕ) → n ≡ length c.pool.signals → (i : ℕ) → i < length drives → AllByRecursion (λ s. s < n) (drives_of drives i)
    drives_below n many i h = all_of (λ s. s < n) (drives_of drives i) (λ s m.
        let at : drives_at c.pool p.body i s ≡ true = sym (drives_are i s (omega (arith, h, drives_many))) ∙ m in
        let below = below_of (length c.pool.signals) (driven c.pool p.body) s (driven_there c.pool rules p.body expressions) (drives_part c.pool s p.body (i ∷ []) at) in
        omega (arith, below, many))

  module _ (places : List ℕ) where
    abbrev body : Block
    body = picked p.body places

    pub there : AreThere c.pool (block_exprs body)
    there = picked_all (λ (e : ExprId). e.0 < length c.pool.exprs) block_exprs statement_exprs (λ s r. refl) p.body places expressions tt

    aims_are : AreTargetsOf c.pool (block_targets body)
    aims_are = picked_all (λ (e : ExprId). is_target c.pool e.0 ≡ true) block_targets statement_targets (λ s r. refl) p.body places (block_aims c.pool [] p.body is_process.targets) tt

    -- no more is marked first than targets
    pub first_aims : (n : ℕ) (aims : List Bool) → aims ≡ marked (places_of (block_targets body)) (replicate n false) → (j : ℕ) → is_marked aims j ≡ true → is_target c.pool j ≡ true
    first_aims n aims e j h = first_targets c.pool (block_targets body) (replicate n false) (none_marked n) aims_are j (sym (ap (λ m. is_marked m j) e) ∙ h)

    pub first_length : (ss : List ℕ) (marks : List Bool) → marks ≡ marked ss (replicate (length c.pool.exprs) false) → length marks ≡ length c.pool.exprs
    first_length ss marks e = ap length e ∙ marked_length ss (replicate (length c.pool.exprs) false) ∙ replicate_length false (length c.pool.exprs)

    module _ (aims0 values0 aims values : List Bool)
        (ea : aims0 ≡ marked (places_of (block_targets body)) (replicate (length c.pool.exprs) false)) (ev : values0 ≡ marked (places_of (block_values body)) (replicate (length c.pool.exprs) false))
        (long : length aims ≡ length c.pool.exprs) (long' : length values ≡ length c.pool.exprs) (stay : Stays aims0 aims) (stay' : Stays values0 values) (closed : AreSpread c.pool aims values)
        (are : (j : ℕ) → is_marked aims j ≡ true → is_target c.pool j ≡ true) (only : (r : ℕ → Bool) → ReadOnly c.pool aims0 values0 r → ReadOnly c.pool aims values r) where
      abbrev unmarked : List Bool
      unmarked = replicate (length c.pool.exprs) false

      marked_first : (es : List ExprId) → AreThere c.pool es → AreMarked (marked (places_of es) unmarked) es
      marked_first es there = marks_new es unmarked (subst (λ m. AreBelow m es) (sym (replicate_length false (length c.pool.exprs))) there)

      aims_marked : AreMarked aims (block_targets body)
      aims_marked = all_stay aims0 aims (block_targets body) stay (subst (λ m. AreMarked m (block_targets body)) (sym ea) (marked_first (block_targets body) (aims_below (length c.pool.exprs) body there)))

      values_marked : AreMarked values (block_values body)
      values_marked = all_stay values0 values (block_values body) stay' (subst (λ m. AreMarked m (block_values body)) (sym ev) (marked_first (block_values body) (values_below (length c.pool.exprs) body there)))

      only_reads : ReadOnly c.pool aims values (λ s. block_reads c.pool s body)
      only_reads =
          only (λ s. block_reads c.pool s body)
          (subst (λ m. ReadOnly c.pool m values0 (λ s. block_reads c.pool s body)) (sym ea)
          (subst (λ m. ReadOnly c.pool (marked (places_of (block_targets body)) unmarked) m (λ s. block_reads c.pool s body)) (sym ev)
          (first_only c.pool body unmarked unmarked (none_marked (length c.pool.exprs)) (none_marked (length c.pool.exprs)))))

      pub compiled : (x : Compiled) (targets : List (List SigId)) → AreTargets c.pool (length c.pool.exprs) targets → x.task.process ≡ k → x.task.statements ≡ places → x.task.outs ≡ listed (λ j. slice_index_or targets j []) body
          → IsNonDecreasing (places_of x.task.exprs) → ((j : ℕ) → is_among (places_of x.task.exprs) j ≡ (is_marked aims j || is_marked values j))
          → ((j : ℕ) (s : SigId) → slice_get c.pool.exprs j ≡ Some (expr.TheVariants.Sig s) → is_marked values j ≡ true → is_among (numbers_of x.reads) s.0 ≡ true) → ((s : ℕ) → is_among (numbers_of x.reads) s ≡ true → HoldsSignal c.pool values s) → IsCompiled c k p places x
      compiled x targets known process statements outs order has all_in only_in = record {
        process = process;
        statements = statements;
        program = listed_program c.pool rules aims values long long' closed are x.task.exprs order has;
        computed = all_among c.pool rules aims values long long' closed are x.task.exprs order has (block_exprs body) (block_either aims values body aims_marked values_marked);
        targets = aims_are;
        outs = outs_like;
        outs_below = all_of (λ s. s < length c.pool.signals) (numbers_of x.task.outs) (λ s h. below_of (length c.pool.signals) (driven c.pool body) s (driven_there c.pool rules body there) (sym (outs_like s) ∙ h));
        reads = reads_exact c.pool rules body aims values long long' closed aims_marked values_marked only_reads x.reads all_in only_in;
        reads_below = all_of (λ s. s < length c.pool.signals) (numbers_of x.reads) (λ s h. let y = only_in s h in subst (λ i. i < length c.pool.signals) y.same (standing c.pool y.k (expr.TheVariants.Sig y.sig) rules y.is).askable.parts);
      }
        where
          outs_like : (s : ℕ) → is_among (numbers_of x.task.outs) s ≡ is_among (driven c.pool body) s
          outs_like = driven_like c.pool targets body x.task.outs known there outs

-- ---- tasks

module _ (c : Circuit) (k : ℕ) (p : DesignProcess) (stands : slice_get c.processes k ≡ Some p) (x : Compiled) where
  -- the task of all statements
  pub task_whole : IsCompiled c k p (range_with_len 0 (block_len p.body)) x → IsClockedTask c (length c.pool.exprs) x.task p
  task_whole of = record {
    task = record {
      process = ap (slice_get c.processes) of.process ∙ stands;
      inside = subst (AllByRecursion (λ i. i < length (statements p.body))) (sym of.statements) (range_below 0 (block_len p.body) (length (statements p.body)) (omega (arith, statements_len p.body)));
      outs = λ s. of.outs s ∙ ap (λ is. is_among (driven c.pool (picked p.body is)) s) (sym of.statements);
      drives = λ s h. ap (λ b. is_among (driven c.pool b) s) (sym all) ∙ sym (of.outs s) ∙ h;
      same = λ env cur s h. ap (λ b. at (put c.pool env b cur) s) (sym all ∙ ap (picked p.body) (sym of.statements));
      program = of.program;
      computed = subst (λ is. AreAmong x.task.exprs (block_exprs (picked p.body is))) (sym of.statements) of.computed;
      targets = subst (λ is. AreTargetsOf c.pool (block_targets (picked p.body is))) (sym of.statements) of.targets;
    };
    whole = ap (picked p.body) of.statements ∙ all;
    outs = λ s. of.outs s ∙ ap (λ b. is_among (driven c.pool b) s) all;
  }
    where
      all : picked p.body (range_with_len 0 (block_len p.body)) ≡ p.body
      all = ap (λ n. picked p.body (range_with_len 0 n)) (sym (statements_len p.body)) ∙ whole p.body

  -- the task of a group
  pub task_group : (group : List ℕ) → IsApart c.pool p.body group → IsCompiled c k p group x → IsTask c (length c.pool.exprs) x.task p
  task_group group apart of = record {
    process = ap (slice_get c.processes) of.process ∙ stands;
    inside = subst (AllByRecursion (λ i. i < length (statements p.body))) (sym of.statements) apart.inside;
    outs = λ s. of.outs s ∙ ap (λ is. is_among (driven c.pool (picked p.body is)) s) (sym of.statements);
    drives = λ s h. drives_part c.pool s p.body group (sym (of.outs s) ∙ h);
    same = λ env cur s h. group_same c.pool env p.body s group cur apart (sym (of.outs s) ∙ h) ∙ ap (λ is. at (put c.pool env (picked p.body is) cur) s) (sym of.statements);
    program = of.program;
    computed = subst (λ is. AreAmong x.task.exprs (block_exprs (picked p.body is))) (sym of.statements) of.computed;
    targets = subst (λ is. AreTargetsOf c.pool (block_targets (picked p.body is))) (sym of.statements) of.targets;
  }
