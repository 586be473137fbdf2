use Rattle.std.proofs.Common.{◌≡◌, ◌∙◌, sym, true, false, codes}
use Rattle.lists.specs.Texts.{text_eq}
use Rattle.memory_ports.specs.Ports.{IsGrown}
use Rattle.memory_ports.specs.Calls.{is_full, is_elsewhere, is_granule, write_signals}
use Rattle.memory_ports.proofs.Growing.{anyway, grown_not, grown_all}
use Rattle.memory_ports.proofs.SpecLaws.{spec_write, or_none, not_false}
use Rattle.memory_ports.proofs.memory.MemorySpec.add_write.Goals as goal

pub returns-then-is_bad_domain-clause-grown : goal.returns-then-is_bad_domain-clause-grown
returns-then-is_bad_domain-clause-grown c = grown_not c.args.pool.now

pub returns-then-is_bad_granularity-clause-grown : goal.returns-then-is_bad_granularity-clause-grown
returns-then-is_bad_granularity-clause-grown c = grown_not c.args.pool.now

pub returns-then-is_full-clause-grown : goal.returns-then-is_full-clause-grown
returns-then-is_full-clause-grown c = grown_not c.args.pool.now

pub returns-in_err-domain-clause-grown : goal.returns-in_err-domain-clause-grown
returns-in_err-domain-clause-grown c = anyway c.from_residual.result (grown_not c.args.pool.now)

pub invariant_of-self : goal.invariant_of-self
invariant_of-self c = rw c.in_err-push.ensures.err c.self.invariant

pub returns-in_err-push-clause-grown : goal.returns-in_err-push-clause-grown
returns-in_err-push-clause-grown c =
    let p = c.args.pool.now in
    let grown : IsGrown p c.made_write.new.pool = rw c.in-Ok.ensures.pool (grown_all p (write_signals c.self.inside.memory c.args.granularity)) in
    anyway c.from_residual-in_err-push.result grown

pub invariant_of-self-2 : goal.invariant_of-self-2
invariant_of-self-2 c =
    let m = c.self.inside.memory in
    let domain = c.args.domain.now in
    let none = or_none (text_eq domain (codes "comb")) (is_elsewhere m.writes domain) (sym c.is_bad_domain.ensures ∙ c.if-is_bad_domain.false) in
    let fits : is_granule m.shape.width c.args.granularity ≡ true = not_false (is_granule m.shape.width c.args.granularity) (sym c.is_bad_granularity.ensures ∙ c.if-is_bad_granularity.false) in
    let room : is_full m ≡ false = sym c.is_full.ensures ∙ c.if-is_full.false in
    rw (c.in_ok-push.ensures.ok, c.in-Ok.ensures.made, c.in_ok-domain.ensures) (spec_write c.args.pool.now m domain c.args.granularity c.self.invariant none.0 none.1 fits room)
