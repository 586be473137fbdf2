use Rattle.std.proofs.Common.{◌≡◌, List, [], ◌∷◌, Some, ap}
use Rattle.std.specs.Prelude.{find, option_map}
use Rattle.std.specs.List.{AllByRecursion}
use Rattle.lists.specs.Texts.{text_eq}
use Rattle.data_layouts.specs.declared.field.Field.{Field}
use Rattle.data_layouts.specs.declared.enumeration.NumberedName.{NumberedName}
use Rattle.data_layouts.specs.Enumerations.{number_named}
use Rattle.data_layouts.proofs.NameLaws.{all_found}
use Rattle.data_layouts.proofs.laws.names_are_found.Goals as goal

numbers_of : (xs ms : List NumberedName) → AllByRecursion (λ (m : NumberedName). find (λ (x : NumberedName). text_eq x.name m.name) xs ≡ Some m) ms → AllByRecursion (λ (m : NumberedName). number_named m.name xs ≡ Some m.number) ms
numbers_of xs [] h = tt
numbers_of xs (m ∷ ms) h = (ap (λ o. option_map (λ (x : NumberedName). x.number) o) h.0, numbers_of xs ms h.1)

pub returns : goal.returns
returns c = record {
  fields = all_found (λ (f : Field). f.name);
  numbers = λ ms h. numbers_of ms ms (all_found (λ (m : NumberedName). m.name) ms h);
}
