-- A name without the `cd_` that it begins with.
use Rattle.std.proofs.Common.{◌≡◌, ℕ, refl, sym, ap, Bool, true, false, List, ◌++◌, drop}
use Rattle.std.specs.Prelude.{◌≢◌, if◌then◌else◌, codes, nat_eq}
use Rattle.std.specs.List.{starts_with}
use Rattle.std.proofs.lemmas.Bool.Decides.{Decides-eqb}
use Rattle.std.proofs.lemmas.Slice.Eq.{starts_is}
use Rattle.elab_acts.specs.ClockDomains.{without_cd}

pub cut_off : (name rest : List ℕ) → name ≡ codes "cd_" ++ rest → rest ≡ without_cd name
cut_off name rest e = sym (ap without_cd e)

pub left_whole : (name : List ℕ) → ((rest : List ℕ) → name ≢ codes "cd_" ++ rest) → name ≡ without_cd name
left_whole name h = by_test (starts_with nat_eq name (codes "cd_")) refl
  where
    by_test : (b : Bool) → starts_with nat_eq name (codes "cd_") ≡ b → name ≡ (if b then drop 3 name else name)
    by_test false e = refl
    by_test true e = absurd (h (drop 3 name) ((starts_is Decides-eqb name (codes "cd_") (starts_with nat_eq name (codes "cd_")) refl).0 e))
