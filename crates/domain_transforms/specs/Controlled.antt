-- Which control and which new name a domain has. (Amaranth guide: Control flow modifiers, Renaming domains; that of several
-- entries for one domain the first counts is this project's own rule.)
use Rattle.std.specs.Prelude.{ℕ, Bool, is_some, List, Option, option_map, unwrap_or}
use Rattle.std.specs.List.{find}
use Rattle.lists.specs.Texts.{text_eq}
use Rattle.design_ir.specs.declared.ids.ExprId.{ExprId}
use Rattle.domain_transforms.specs.declared.controls.Control.{Control}
use Rattle.domain_transforms.specs.declared.controls.NamePair.{NamePair}

-- the control of the domain with a name
abbrev pub control_of : List Control → List ℕ → Option ExprId
control_of controls name = option_map (λ (c : Control). c.condition) (find (λ (c : Control). text_eq c.domain name) controls)

-- the pair that renames a domain
abbrev pub pair_of : List NamePair → List ℕ → Option NamePair
pair_of names name = find (λ (x : NamePair). text_eq x.before name) names

abbrev pub is_renamed : List NamePair → List ℕ → Bool
is_renamed names name = is_some (pair_of names name)

-- the name after it; a domain without a pair keeps its name
abbrev pub name_after : List NamePair → List ℕ → List ℕ
name_after names name = unwrap_or (option_map (λ (x : NamePair). x.after) (pair_of names name)) name
