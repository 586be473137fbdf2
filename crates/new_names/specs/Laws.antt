-- What is proved of names that are made new.
-- Source: this project's own rule (docs/RULES.md): names in what is written differ.
use Rattle.std.specs.Prelude.{◌≡◌, ℕ, ◌+◌, ◌<◌, ◌^◌, false, List, ◌++◌, length}
use Rattle.std.specs.List.{IsDistinct}
use Rattle.lists.specs.Texts.{text_eq}
use Rattle.lists.specs.Names.{IsPath, IsPublicName}
use Rattle.new_names.specs.Fresh.{has_name, fresh_name, given_names}

-- none of the names has the one that is given
abbrev pub FreshIsNew : Type 0
FreshIsNew = (names : List (List ℕ)) (name : List ℕ) → length names < 2 ^ 64 → has_name names (fresh_name names name) ≡ false

-- a path is given as a public name
abbrev pub FreshIsPublic : Type 0
FreshIsPublic = (names : List (List ℕ)) (path : List ℕ) → length names < 2 ^ 64 → IsPath path → IsPublicName (fresh_name names path)

-- names one after another: no two are the same, and none stood before
abbrev pub GivenAreDistinct : Type 0
GivenAreDistinct = (names more : List (List ℕ)) → length names + length more < 2 ^ 64 → IsDistinct text_eq names → IsDistinct text_eq (names ++ given_names names more)

-- names that differ are given as they are
abbrev pub DistinctStay : Type 0
DistinctStay = (names more : List (List ℕ)) → IsDistinct text_eq (names ++ more) → given_names names more ≡ more
