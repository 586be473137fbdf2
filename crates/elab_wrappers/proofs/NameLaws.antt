-- New names of domains are names.
use Rattle.std.proofs.Common.{◌≡◌, ℕ, refl, Bool, true, false, List, [], ◌∷◌, Option, Some, None}
use Rattle.std.specs.Prelude.{if◌then◌else◌, IfSome, codes}
use Rattle.std.specs.List.{AllByRecursion}
use Rattle.lists.specs.Names.{IsName}
use Rattle.lists.specs.Texts.{text_eq}
use Rattle.identifiers.specs.Identifiers.{is_identifier}
use Rattle.identifiers.proofs.NameLaws.{identifier_is_name}
use Rattle.py_values.specs.declared.val.Val.{Val}
use Rattle.py_values.specs.declared.val.Val.TheVariants as val
use Rattle.py_heap.specs.Heaps.{Seen, text_at, row_at}
use Rattle.domain_transforms.specs.declared.controls.NamePair.{NamePair}
use Rattle.elab_wrappers.specs.Wrappers.{domain_formed, domain_named, and_item, pair_named, pairs_of_row, pairs_given}

-- each new name is one
abbrev pub AreNamed : List NamePair → Type 0
AreNamed ps = AllByRecursion (λ (p : NamePair). IsName p.after) ps

formed_is : (name : List ℕ) → IfSome (domain_formed name) IsName
formed_is name = by_comb (text_eq name (codes "comb"))
  where
    by_name : (b : Bool) → is_identifier name ≡ b → IfSome (if b then Some name else None) IsName
    by_name true e = identifier_is_name name e
    by_name false e = tt

    by_comb : (b : Bool) → IfSome (if b then None else (if is_identifier name then Some name else None)) IsName
    by_comb true = tt
    by_comb false = by_name (is_identifier name) refl

pub named_is : (s : Seen) (v : Val) → IfSome (domain_named s v) IsName
named_is s (val.Str x) = formed_is (text_at s x.0)
named_is s v = tt

pair_after : (before after : Option (List ℕ)) → IfSome after IsName → IfSome (pair_named before after) (λ (p : NamePair). IsName p.after)
pair_after (Some b) (Some a) h = h
pair_after None a h = tt
pair_after (Some b) None h = tt

and_named : (o : Option NamePair) (ps : Option (List NamePair)) → IfSome o (λ (p : NamePair). IsName p.after) → IfSome ps AreNamed → IfSome (and_item o ps) AreNamed
and_named (Some p) (Some ps) h g = (h, g)
and_named None ps h g = tt
and_named (Some p) None h g = tt

row_named : (s : Seen) (row : List Val) → IfSome (pairs_of_row s row) AreNamed
row_named s [] = tt
row_named s (k ∷ []) = tt
row_named s (k ∷ v ∷ row) = and_named (pair_named (domain_named s k) (domain_named s v)) (pairs_of_row s row) (pair_after (domain_named s k) (domain_named s v) (named_is s v)) (row_named s row)

-- the new names that a value says
pub pairs_named : (s : Seen) (v : Val) → IfSome (pairs_given s v) AreNamed
pairs_named s (val.Dict o) = row_named s (row_at s o.0)
pairs_named s v = and_named (pair_named (Some (codes "sync")) (domain_named s v)) (Some []) (pair_after (Some (codes "sync")) (domain_named s v) (named_is s v)) tt
