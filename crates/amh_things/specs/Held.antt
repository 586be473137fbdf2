-- What a list of things keeps to, beside its pool too.
use Rattle.std.specs.Prelude.{ℕ, ◌<◌, List, ⊤}
use Rattle.std.specs.List.{AllByRecursion}
use Rattle.amh_bits.specs.Patterns.{IsOf}
use Rattle.shape_rules.specs.Forms.{IsForm}
use Rattle.amh_things.specs.declared.thing.Member.{Member}
use Rattle.amh_things.specs.declared.thing.Thing.{Thing}
use Rattle.amh_things.specs.declared.thing.Thing.TheVariants as thing

-- the number of a member is one of its shape
abbrev pub IsNumber : Member → Type 0
IsNumber m = IsForm m.shape.width m.shape.signed × IsOf m.shape.signed m.shape.width m.number

-- an expression that a thing stands for is one of so many
abbrev pub IsHeld : ℕ → Thing → Type 0
IsHeld n (thing.Value e) = e.0 < n
IsHeld n (thing.Numbered h e) = e.0 < n
IsHeld n (thing.View h e) = e.0 < n
IsHeld n (thing.Method h e m) = e.0 < n
IsHeld n (thing.Member m) = IsNumber m
IsHeld n t = ⊤

abbrev pub AreHeld : ℕ → List Thing → Type 0
AreHeld n things = AllByRecursion (IsHeld n) things
