use Rattle.std.proofs.Common.{ℕ, ◌∙◌, ◌&&◌, ◌++◌, ◌∷◌, [], Bool, not, cond, map, is_some, ap}
use Rattle.design_ir.specs.declared.ids.SigId.{SigId}
use Rattle.fragment_walks.specs.Marks.{is_marked}
use Rattle.fragment_walks.specs.Numbers.{first_at}
use Rattle.clock_domains.specs.Firsts.{path_at}
use Rattle.clock_domains.specs.Resolved.{has_width}
use Rattle.clock_domains.proofs.NameLaws.{registers_turn}
use Rattle.clock_domains.proofs.columns.named_registers.Goals as goal

pub loop-s-preserved : goal.loop-s-preserved
loop-s-preserved c =
    let q = c.args.pool.now in
    let named : ℕ → Bool = λ s. is_some (path_at c.args.paths.now (first_at c.args.sites.now s)) in
    let new : ℕ → Bool = λ s. not (is_marked c.args.is_port.now s) && has_width q s in
    registers_turn (λ s. named s && new s) c.loop-s.s (map (λ (s : SigId). s.0) c.loop-s.registers.items) (map (λ (s : SigId). s.0) c.add_register.new.registers.items) c.loop-s.invariant
    (c.in_ok-add_register.ensures ∙ ap (λ (b : Bool). map (λ (s : SigId). s.0) c.loop-s.registers.items ++ cond (b && new c.loop-s.s) (c.loop-s.s ∷ []) []) c.is_naming.ensures)
