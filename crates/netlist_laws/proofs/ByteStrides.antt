-- A loop that reads the expressions of a pool finds that each stride is a byte.
use Rattle.std.specs.Prelude.{◌≡◌, ◌+◌, ℕ, List, [], ◌∷◌, take, slice_get, Some}
use Rattle.std.specs.List.{AllByRecursion}
use Rattle.std.proofs.Common.{sym, subst, get_or}
use Rattle.std.proofs.lemmas.List.{take_more}
use Rattle.std.proofs.lemmas.Option.{get_or_from_slice_get, slice_get_within}
use Rattle.design_ir.specs.declared.expr.Expr.{Expr}
use Rattle.rtlil_text.proofs.Among.{AllByRecursion-append}
use Rattle.netlist_laws.specs.Made.{HasByteStride}

-- a turn of the loop
pub byte_strides-more : (es : List Expr) (i : ℕ) (e : Expr) → slice_get es i ≡ Some e → HasByteStride e → AllByRecursion HasByteStride (take i es) → AllByRecursion HasByteStride (take (i + 1) es)
byte_strides-more es i e there byte before =
    let is : get_or es i e ≡ e = get_or_from_slice_get es i e e there in
    subst (AllByRecursion HasByteStride) (sym (take_more es i e (slice_get_within es i e there)))
    (AllByRecursion-append HasByteStride (take i es) (get_or es i e ∷ []) before (subst HasByteStride (sym is) byte, tt))
