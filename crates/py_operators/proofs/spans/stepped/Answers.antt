use Rattle.std.proofs.Common.{◌≡◌, ◌+◌, ◌-◌, ◌/◌, ◌≤◌, arith}
use Rattle.py_operators.proofs.StepLaws.{half_fails_at, there_at, rest_decides}
use Rattle.py_operators.proofs.spans.stepped.Goals as goal

pub returns-in-Some : goal.returns-in-Some
returns-in-Some c =
    let h = c.args.count / 2 in
    let g = c.args.count - c.args.count / 2 in
    let e : h + g ≡ c.args.count = omega arith in
    let l : g ≤ h + 1 = omega arith in
    rest_decides c.args.n c.args.step c.in-Some.m c.args.count h g c.hop-in-Some.result e l c.note_kept-2.ensures (there_at c.args.n c.args.step c.in-Some.m h c.hop.result c.in-Some.is c.hop.ensures) c.note_kept.ensures c.hop-in-Some.ensures

pub returns-in-None : goal.returns-in-None
returns-in-None c =
    let h = c.args.count / 2 in
    let g = c.args.count - c.args.count / 2 in
    let e : h + g ≡ c.args.count = omega arith in
    let l : h ≤ g = omega arith in
    half_fails_at c.args.n c.args.step c.args.count h g c.hop.result c.in-None.is c.hop.ensures e l c.note_kept.ensures
