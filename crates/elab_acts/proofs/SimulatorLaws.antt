-- Keywords of the calls of a simulator, where their values are at an end.
use Rattle.std.proofs.Common.{◌≡◌, ℕ, ◌<◌, refl, List, [], ◌∷◌, length, None, arith}
use Rattle.py_values.specs.declared.val.Val.{Val}
use Rattle.elab_acts.specs.declared.simulators.ClockArguments.{ClockArguments}
use Rattle.elab_acts.specs.declared.simulators.BenchArguments.{BenchArguments}
use Rattle.elab_acts.specs.Simulators.{clock_keywords, bench_keywords}

pub clock_keywords_none : (ns : List (List ℕ)) (vs : List Val) (args : ClockArguments) → 0 < length ns → length vs ≡ 0 → clock_keywords ns vs args ≡ None
clock_keywords_none [] vs args h1 h2 = absurd (omega arith)
clock_keywords_none (n ∷ ns) [] args h1 h2 = refl
clock_keywords_none (n ∷ ns) (v ∷ vs) args h1 h2 = absurd (omega arith)

pub bench_keywords_none : (ns : List (List ℕ)) (vs : List Val) (args : BenchArguments) → 0 < length ns → length vs ≡ 0 → bench_keywords ns vs args ≡ None
bench_keywords_none [] vs args h1 h2 = absurd (omega arith)
bench_keywords_none (n ∷ ns) [] args h1 h2 = refl
bench_keywords_none (n ∷ ns) (v ∷ vs) args h1 h2 = absurd (omega arith)
