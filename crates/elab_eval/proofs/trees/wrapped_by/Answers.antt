use Rattle.std.proofs.Common.{◌≡◌, sym, subst, false, true}
use Rattle.std.specs.Prelude.{IfOk, IfErr, OnOk}
use Rattle.domain_transforms.specs.declared.stop.ControlStop.TheVariants.{Limit}
use Rattle.elab_store.specs.declared.wrappings.Wrapping.{Wrapping}
use Rattle.elab_store.specs.Sound.{IsWrapping}
use Rattle.elab_eval.specs.Elaborates.{wrapped_by, is_past_by}
use Rattle.elab_eval.proofs.trees.wrapped_by.Goals as goal

pub insert_enable-requires-clause-controls : goal.insert_enable-requires-clause-controls
insert_enable-requires-clause-controls c = subst (λ (w : Wrapping). IsWrapping c.args.pool.now w) c.in-Enable.is c.requires.wrapping

pub returns-in-Rename-clause-made : goal.returns-in-Rename-clause-made
returns-in-Rename-clause-made c = subst (λ (w : Wrapping). IfOk c.rename.result (λ g. (g, c.rename.new.pool) ≡ wrapped_by w c.args.pool.now c.args.f)) (sym c.in-Rename.is) c.rename.ensures.made

pub returns-in-Rename-clause-room : goal.returns-in-Rename-clause-room
returns-in-Rename-clause-room c = subst (λ (w : Wrapping). OnOk c.rename.result (is_past_by w (wrapped_by w c.args.pool.now c.args.f) ≡ false)) (sym c.in-Rename.is) c.rename.ensures.room

pub returns-in-Rename-clause-limit : goal.returns-in-Rename-clause-limit
returns-in-Rename-clause-limit c = subst (λ (w : Wrapping). IfErr c.rename.result (λ stop. stop ≡ Limit → is_past_by w (wrapped_by w c.args.pool.now c.args.f) ≡ true)) (sym c.in-Rename.is) c.rename.ensures.limit

pub returns-in-Reset-clause-made : goal.returns-in-Reset-clause-made
returns-in-Reset-clause-made c = subst (λ (w : Wrapping). IfOk c.insert_reset.result (λ g. (g, c.insert_reset.new.pool) ≡ wrapped_by w c.args.pool.now c.args.f)) (sym c.in-Reset.is) c.insert_reset.ensures.made

pub returns-in-Reset-clause-room : goal.returns-in-Reset-clause-room
returns-in-Reset-clause-room c = subst (λ (w : Wrapping). OnOk c.insert_reset.result (is_past_by w (wrapped_by w c.args.pool.now c.args.f) ≡ false)) (sym c.in-Reset.is) c.insert_reset.ensures.room

pub returns-in-Reset-clause-limit : goal.returns-in-Reset-clause-limit
returns-in-Reset-clause-limit c = subst (λ (w : Wrapping). IfErr c.insert_reset.result (λ stop. stop ≡ Limit → is_past_by w (wrapped_by w c.args.pool.now c.args.f) ≡ true)) (sym c.in-Reset.is) c.insert_reset.ensures.limit

pub returns-in-Enable-clause-made : goal.returns-in-Enable-clause-made
returns-in-Enable-clause-made c = subst (λ (w : Wrapping). IfOk c.insert_enable.result (λ g. (g, c.insert_enable.new.pool) ≡ wrapped_by w c.args.pool.now c.args.f)) (sym c.in-Enable.is) c.insert_enable.ensures.made

pub returns-in-Enable-clause-room : goal.returns-in-Enable-clause-room
returns-in-Enable-clause-room c = subst (λ (w : Wrapping). OnOk c.insert_enable.result (is_past_by w (wrapped_by w c.args.pool.now c.args.f) ≡ false)) (sym c.in-Enable.is) c.insert_enable.ensures.room

pub returns-in-Enable-clause-limit : goal.returns-in-Enable-clause-limit
returns-in-Enable-clause-limit c = subst (λ (w : Wrapping). IfErr c.insert_enable.result (λ stop. stop ≡ Limit → is_past_by w (wrapped_by w c.args.pool.now c.args.f) ≡ true)) (sym c.in-Enable.is) c.insert_enable.ensures.limit
