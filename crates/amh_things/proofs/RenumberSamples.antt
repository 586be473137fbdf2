-- Numbers that are told, worked out: a pool had 3 expressions, and of the next three the first stands at 3, the second is that at 1, the third stands
-- at 4. Of five things the first two stay.
use Rattle.std.specs.Prelude.{◌≡◌, refl, ℕ, List, [], ◌∷◌}
use Rattle.design_ir.specs.declared.ids.ExprId.{ExprId}
use Rattle.expr_index.specs.Numbers.{number_now}
use Rattle.amh_things.specs.declared.thing.Thing.{Thing}
use Rattle.amh_things.specs.declared.thing.Thing.TheVariants as thing
use Rattle.amh_things.specs.declared.thing.Method.TheVariants as method
use Rattle.amh_things.specs.Renumbered.{things_now}

e : ℕ → ExprId
e n = record { 0 = n }

now : List ExprId
now = e 3 ∷ e 1 ∷ e 4 ∷ []

-- what was there stays, and so does what was never told of
numbers_found : (number_now 3 now (e 0) ≡ e 0) × (number_now 3 now (e 2) ≡ e 2) × (number_now 3 now (e 3) ≡ e 3) × (number_now 3 now (e 4) ≡ e 1) × (number_now 3 now (e 5) ≡ e 4) × (number_now 3 now (e 6) ≡ e 6)
unfolding e now
numbers_found = (refl, refl, refl, refl, refl, refl)

view : ℕ → Thing
view n = thing.View (record { 0 = 7 }) (e n)

things_found : things_now 2 (number_now 3 now) (thing.Value (e 4) ∷ thing.Kept 4 ∷ view 4 ∷ thing.Kept 4 ∷ thing.Method (record { 0 = 0 }) (e 5) method.Eq ∷ [])
    ≡ thing.Value (e 4) ∷ thing.Kept 4 ∷ view 1 ∷ thing.Kept 4 ∷ thing.Method (record { 0 = 0 }) (e 4) method.Eq ∷ []
unfolding e now view
things_found = refl
