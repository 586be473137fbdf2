-- What is held stays sound where a reset is made.
use Rattle.std.proofs.Common.{◌≡◌, refl, sym, ℕ, List, [], ◌∷◌, length, Option, Some, None, arith, append-nil}
use Rattle.std.specs.Prelude.{nat_le}
use Rattle.std.proofs.lemmas.List.{length-append}
use Rattle.amh_host.specs.declared.place.Place.{Place}
use Rattle.py_values.specs.declared.val.Val.{Val}
use Rattle.py_heap.specs.Heaps.{Seen}
use Rattle.design_ir.specs.declared.expr.Expr.{Expr}
use Rattle.design_ir.specs.declared.expr.Expr.TheVariants as expr
use Rattle.amh_things.specs.declared.thing.Reading.TheVariants as reading
use Rattle.amh_things.specs.Things.{read_as}
use Rattle.elab_store.specs.Calls.{Called}
use Rattle.elab_store.specs.Stores.{Held}
use Rattle.elab_store.specs.Sound.{IsSound}
use Rattle.elab_components.specs.Resets.{domain_argument, reset_domain, with_reset, reset_given, reset_said, reset_from, reset_called}
use Rattle.elab_acts.proofs.DomainSound.{if_sound}
use Rattle.elab_acts.proofs.GrownLaws.{pool_grown, things_grown, read_held}

given_sound : (name : List ℕ) (p : Place) (h : Held) → IsSound h → IsSound (reset_given name p h).held
given_sound name p h t =
    let e : Expr = expr.Reset name p in
    if_sound (nat_le 262144 (length h.pool.exprs)) _ _ t
    (things_grown (with_reset name p h) (read_as reading.Plain (record { 0 = length h.pool.exprs }) ∷ [])
    (pool_grown h (with_reset name p h).pool [] (e ∷ []) t (sym (append-nil h.pool.signals)) refl tt)
    (read_held (length (with_reset name p h).pool.exprs) reading.Plain (record { 0 = length h.pool.exprs }) (omega (arith, length-append h.pool.exprs (e ∷ []))), tt))

said_sound : (name : Option (List ℕ)) (p : Place) (h : Held) → IsSound h → IsSound (reset_said name p h).held
said_sound None p h t = t
said_sound (Some name) p h t = given_sound name p h t

from_sound : (s : Seen) (given : Option (Option Val)) (p : Place) (h : Held) → IsSound h → IsSound (reset_from s given p h).held
from_sound s None p h t = t
from_sound s (Some given) p h t = said_sound (reset_domain s given) p h t

pub reset_sound : (s : Seen) (c : Called) (p : Place) (h : Held) → IsSound h → IsSound (reset_called s c p h).held
reset_sound s c p h t = from_sound s (domain_argument c.placed c.keywords c.keyword_vals) p h t
