-- The characters of a text, the ends of its lines, and places in it.
-- Source: Python reference 2.1.2, Physical lines; that a lone CR ends none, and places: own rules (docs/RULES.md).
use Rattle.std.specs.Prelude.{ℕ, suc, ◌+◌, ◌==◌, ◌&&◌, nat_lt, Bool, List, [], ◌∷◌, if◌then◌else◌, slice_index}
use Rattle.std.specs.Char.{len_utf8}
use Rattle.amh_host.specs.declared.place.Place.{Place}
use Rattle.py_lexer.specs.declared.piece.Mark.{Mark}

-- how many characters end the line here: LF, or CR LF
abbrev pub line_end : List ℕ → ℕ
line_end cs =
    if slice_index cs 0 == 10 then 1
    else (if (slice_index cs 0 == 13) && (slice_index cs 1 == 10) then 2 else 0)

-- a line ends here
abbrev pub ends_line : List ℕ → Bool
ends_line cs = nat_lt 0 (line_end cs)

-- how many characters stand before the end of the line
unfoldable pub line_width : List ℕ → ℕ
line_width [] = 0
line_width (c ∷ cs) = if ends_line (c ∷ cs) then 0 else suc (line_width cs)

-- the place behind a character; a line feed begins a line
abbrev pub next_place : Place → ℕ → Place
next_place p c = if c == 10 then record { line = p.line + 1; col = 1 } else record { line = p.line; col = p.col + 1 }

-- the mark behind a character
abbrev pub next : Mark → ℕ → Mark
next m c = record { byte = m.byte + len_utf8 c; place = next_place m.place c }

-- the mark behind these characters
unfoldable pub past : Mark → List ℕ → Mark
past m [] = m
past m (c ∷ cs) = past (next m c) cs

-- before the first character
abbrev pub start : Mark
start = record { byte = 0; place = record { line = 1; col = 1 } }
