use Rattle.std.proofs.Common.{◌≡◌, ◌∙◌, sym, ap, false}
use Rattle.std.specs.Prelude.{not, option_copied}
use Rattle.std.specs.List.{list_any}
use Rattle.memory_ports.specs.Ports.{IsGrown}
use Rattle.memory_ports.specs.Calls.{is_full, is_transparent, read_signals}
use Rattle.memory_ports.proofs.Growing.{anyway, grown_not, grown_all}
use Rattle.memory_ports.proofs.SpecLaws.{spec_read}
use Rattle.memory_ports.proofs.memory.MemorySpec.add_read.Goals as goal

pub returns-then-is_bad_transparent-clause-grown : goal.returns-then-is_bad_transparent-clause-grown
returns-then-is_bad_transparent-clause-grown c = grown_not c.args.pool.now

pub returns-then-is_full-clause-grown : goal.returns-then-is_full-clause-grown
returns-then-is_full-clause-grown c = grown_not c.args.pool.now

pub returns-in_err-transparent-clause-grown : goal.returns-in_err-transparent-clause-grown
returns-in_err-transparent-clause-grown c = anyway c.from_residual.result (grown_not c.args.pool.now)

pub returns-in_err-own_domain-clause-grown : goal.returns-in_err-own_domain-clause-grown
returns-in_err-own_domain-clause-grown c = anyway c.from_residual-in_err-own_domain.result (grown_not c.args.pool.now)

pub returns-in_err-push-clause-grown : goal.returns-in_err-push-clause-grown
returns-in_err-push-clause-grown c =
    let p = c.args.pool.now in
    let grown : IsGrown p c.made_read.new.pool = rw c.in-Ok.ensures.pool (grown_all p (read_signals c.self.inside.memory (option_copied c.args.domain))) in
    anyway c.from_residual-in_err-push.result grown

pub invariant_of-self-2 : goal.invariant_of-self-2
invariant_of-self-2 c =
    let m = c.self.inside.memory in
    let domain = option_copied c.args.domain in
    let ks = c.args.transparent.now in
    let through : list_any (λ k. not (is_transparent m.writes domain k)) ks ≡ false = ap (list_any (λ k. not (is_transparent m.writes domain k))) (sym c.as_slice.ensures) ∙ sym c.is_bad_transparent.ensures ∙ c.if-is_bad_transparent.false in
    let room : is_full m ≡ false = sym c.is_full.ensures ∙ c.if-is_full.false in
    let kept : c.in_ok-transparent.transparent ≡ ks = c.in_ok-transparent.ensures ∙ c.as_slice-2.ensures in
    rw (c.in_ok-push.ensures.ok, c.in-Ok.ensures.made, c.in_ok-own_domain.ensures, kept) (spec_read c.args.pool.now m domain ks c.self.invariant c.requires through room)
