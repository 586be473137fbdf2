-- The lines of a file from a number on.
use Rattle.std.proofs.Common.{◌≡◌, ℕ, ◌<◌, ◌≤◌, ◌+◌, ◌-◌, zero, suc, refl, ap, ◌∙◌, subst, length, map, List, [], ◌∷◌, Option, Some, None, arith}
use Rattle.std.specs.Prelude.{option_map}
use Rattle.std.specs.List.{slice_get, HoldsAt}
use Rattle.std.specs.Option.{MatchOption}
use Rattle.std.proofs.lemmas.Option.{slice_get_past, slice_get_read}
use Rattle.std.proofs.lemmas.List.{length-drop, length-map}
use Rattle.py_parser.specs.declared.block_parts.LineWords.{LineWords}
use Rattle.py_parser.specs.Files.{line_seen, lines_from, Comes}

pub length_from : (lines : List LineWords) (at : ℕ) → length (lines_from lines at) ≡ length lines - at
unfolding lines_from
length_from lines at = length-drop at (map line_seen lines) ∙ ap (λ n. n - at) (length-map lines line_seen)

one_later : (l : LineWords) (lines : List LineWords) (at : ℕ) (o : Option LineWords) → Comes lines at o → Comes (l ∷ lines) (suc at) o
unfolding lines_from
one_later l lines at None h = h
one_later l lines at (Some m) h = let q : suc (at + 1) ≡ suc at + 1 = omega arith in (h.0 ∙ ap (λ n. line_seen m ∷ lines_from (l ∷ lines) n) q, omega (arith, h.1))

line_there : (lines : List LineWords) (at : ℕ) → Comes lines at (slice_get lines at)
unfolding lines_from
line_there [] zero = refl
line_there [] (suc at) = refl
line_there (l ∷ lines) zero = (refl, omega arith)
line_there (l ∷ lines) (suc at) = one_later l lines at (slice_get lines at) (line_there lines at)

pub line_comes : (lines : List LineWords) (at : ℕ) (o : Option LineWords) → slice_get lines at ≡ o → Comes lines at o
line_comes lines at o h = subst (λ (z : Option LineWords). Comes lines at z) h (line_there lines at)

-- what `get` finds
pub found_comes : {T : Type 0} (now : T → LineWords) (lines : List LineWords) (at : ℕ) (o : Option T) → MatchOption o (length lines ≤ at) (λ x. (at < length lines) × HoldsAt (λ y. now x ≡ y) lines at) → Comes lines at (option_map now o)
found_comes now lines at None h = line_comes lines at None (slice_get_past lines at h)
found_comes now lines at (Some x) h = line_comes lines at (Some (now x)) (slice_get_read lines (length lines) at (now x) refl h.0 (h.1 (now x)))
