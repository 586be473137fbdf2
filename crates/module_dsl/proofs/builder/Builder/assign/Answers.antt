use Rattle.std.proofs.Common.{◌≡◌, ◌+◌, ◌<◌, ◌≤◌, ◌∷◌, ◌++◌, [], true, false, refl, sym, ap, ◌∙◌, subst, arith}
use Rattle.design_ir.specs.Trees.{assign}
use Rattle.design_ir.specs.Targets.{is_open_target}
use Rattle.module_dsl.specs.declared.step.Step.TheVariants.{Assign}
use Rattle.module_dsl.specs.Blocks.{Given, blocks_of, and_statement, in_switch}
use Rattle.module_dsl.specs.Builders.{Built, assign_refusal, and_given}
use Rattle.module_dsl.specs.Progress.{IsProgress}
use Rattle.module_dsl.proofs.BuilderLaws.{blocks_of-push, assign-limit, assign-none}
use Rattle.module_dsl.proofs.builder.Builder.assign.Goals as goal
use Rattle.module_dsl.proofs.builder.Builder.assign.Goals.{then-added-gt65536-via-then-added-gt65536, then-added-gt65536-via-else-added-gt65536+then-self-added}

pub returns-then-added-gt65536-clause-refused : goal.returns-then-added-gt65536-clause-refused
returns-then-added-gt65536-clause-refused c =
    let inside = c.self.inside in
    let steps = inside.steps.items in
    let b : Built = record { name = inside.name; steps = steps } in
    let g : Given = record { side = c.args.side.now; statement = assign c.args.target c.args.value c.args.place } in
    let i : in_switch (blocks_of steps).around ≡ false = sym (c.in_switch.ensures (blocks_of steps) c.self.invariant) ∙ c.if-in_switch.false in
    let t : is_open_target c.args.pool.now c.args.target.0 ≡ true = sym c.in_ok-is_target.ensures ∙ c.if-not-branch.false in
    let added = c.added_by-added.ensures (blocks_of steps) g c.self.invariant i refl in
    let far : 65536 < inside.progress.statements + c.added_by-added.result =
    elim c.then-added-gt65536.branch [
      | then-added-gt65536-via-then-added-gt65536 w ↦ omega arith
      | then-added-gt65536-via-else-added-gt65536+then-self-added w ↦ omega arith
    ] in (
      sym (ap (λ x. assign_refusal c.args.pool.now x c.args.side.now c.args.target c.args.value c.args.place) c.self.view_is)
          ∙ assign-limit c.args.pool.now b c.args.side.now c.args.target c.args.value c.args.place (inside.progress.statements + c.added_by-added.result) i t added far,
      refl,
    )

pub invariant_of-self-in-Ok : goal.invariant_of-self-in-Ok
invariant_of-self-in-Ok c =
    let steps = c.self.inside.steps.items in
    let g : Given = record { side = c.args.side.now; statement = assign c.args.target c.args.value c.args.place } in
    let i : in_switch (blocks_of steps).around ≡ false = sym (c.in_switch.ensures (blocks_of steps) c.self.invariant) ∙ c.if-in_switch.false in
    let added = c.added_by-added.ensures (blocks_of steps) g c.self.invariant i refl in
    subst (λ b. IsProgress b c.give.new.self) (sym (ap blocks_of c.in_ok-tell.ensures.told ∙ blocks_of-push steps (Assign c.in_ok-copied.field-0 c.args.target c.args.value c.args.place)
    ∙ ap (λ s. and_statement (record { side = s; statement = assign c.args.target c.args.value c.args.place }) (blocks_of steps)) c.in_ok-copied.ensures)) (c.in-Ok.ensures.given (blocks_of steps) g c.self.invariant i refl added)

pub returns-clause-given : goal.returns-clause-given
returns-clause-given c =
    let inside = c.self.inside in
    let steps = inside.steps.items in
    let b : Built = record { name = inside.name; steps = steps } in
    let g : Given = record { side = c.args.side.now; statement = assign c.args.target c.args.value c.args.place } in
    let i : in_switch (blocks_of steps).around ≡ false = sym (c.in_switch.ensures (blocks_of steps) c.self.invariant) ∙ c.if-in_switch.false in
    let t : is_open_target c.args.pool.now c.args.target.0 ≡ true = sym c.in_ok-is_target.ensures ∙ c.if-not-branch.false in
    let added = c.added_by-added.ensures (blocks_of steps) g c.self.invariant i refl in
    let near : inside.progress.statements + c.added_by-added.result ≤ 65536 = omega arith in
    let told : Built = record { name = inside.name; steps = c.tell.new.steps.items } in
    let whole : told ≡ and_given b c.args.side.now c.args.target c.args.value c.args.place =
    ap (λ xs. record { name = inside.name; steps = xs }) (c.in_ok-tell.ensures.told ∙ ap (λ s. steps ++ Assign s c.args.target c.args.value c.args.place ∷ []) c.in_ok-copied.ensures) in (
      sym (ap (λ x. assign_refusal c.args.pool.now x c.args.side.now c.args.target c.args.value c.args.place) c.self.view_is)
          ∙ assign-none c.args.pool.now b c.args.side.now c.args.target c.args.value c.args.place (inside.progress.statements + c.added_by-added.result) i t added near,
      whole ∙ ap (λ x. and_given x c.args.side.now c.args.target c.args.value c.args.place) c.self.view_is,
    )
