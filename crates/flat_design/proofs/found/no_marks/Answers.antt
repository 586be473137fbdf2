use Rattle.std.proofs.Common.{◌≡◌, ◌∷◌, [], ap, subst, sym, arith, length, length-append}
use Rattle.std.specs.Prelude.{ℕ, Bool, List, false, slice_index_or}
use Rattle.flat_design.proofs.FoundLaws.{unset_push}
use Rattle.flat_design.proofs.found.no_marks.Goals as goal

pub loop-i-preserved : goal.loop-i-preserved
loop-i-preserved c =
    let e = c.in_ok-push.ensures.items in
    let size : length c.loop-i.marks.items ≡ c.loop-i.i = c.loop-i.invariant.size in
    record {
      size = omega (arith, ap length e, size, length-append c.loop-i.marks.items (false ∷ []));
      unset = subst (λ (xs : List Bool). (s : ℕ) → slice_index_or xs s false ≡ false) (sym e) (unset_push c.loop-i.marks.items c.loop-i.invariant.unset);
    }
