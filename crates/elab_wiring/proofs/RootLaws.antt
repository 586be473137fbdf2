-- What a class stands over, base by base.
use Rattle.std.proofs.Common.{◌≡◌, ℕ, suc, refl, sym, ap, ◌∙◌, Option, None}
use Rattle.py_values.specs.declared.val.Val.{Val}
use Rattle.py_values.specs.declared.val.Val.TheVariants as val
use Rattle.py_values.specs.declared.val.ObjId.{ObjId}
use Rattle.py_values.specs.declared.val.Hw.{Hw}
use Rattle.py_heap.specs.Heaps.{Seen, row_at}
use Rattle.elab_store.specs.Calls.{first_or}
use Rattle.elab_wiring.specs.SignatureClasses.{root_by, root_in}

turn : (s : Seen) (n : ℕ) (class : ObjId) → root_in (suc n) s class ≡ root_by (root_in n s) (first_or val.None (row_at s class.0))
unfolding root_in
turn s n class = refl

pub root_next : (s : Seen) (n m : ℕ) (class : ObjId) (base : Val) (root : Option Hw) → n ≡ suc m → base ≡ first_or val.None (row_at s class.0) → root_by (root_in m s) base ≡ root → root_in n s class ≡ root
root_next s n m class base root fuel is e = ap (λ k. root_in k s class) fuel ∙ turn s m class ∙ ap (root_by (root_in m s)) (sym is) ∙ e

pub root_out : (s : Seen) (n : ℕ) (class : ObjId) → n ≡ 0 → root_in n s class ≡ None
unfolding root_in
root_out s n class fuel = ap (λ k. root_in k s class) fuel

pub root_other : (f : ObjId → Option Hw) (base : Val) → ((o : ObjId) → base ≡ val.Class o → ⊥) → ((h : Hw) → base ≡ val.Hw h → ⊥) → root_by f base ≡ None
root_other f (val.Class o) c h = absurd (c o refl)
root_other f (val.Hw x) c h = absurd (h x refl)
root_other f _ c h = refl
