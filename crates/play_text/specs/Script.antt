-- What a script says: one event a line.
-- Source: this project's own rule (docs/RULES.md).
use Rattle.std.specs.Prelude.{ℕ, suc, ◌+◌, ◌-◌, ◌*◌, ◌^◌, ◌==◌, nat_lt, ◌&&◌, Bool, true, not, if◌then◌else◌, List, [], ◌∷◌, length, codes, ℤ, pos, negsuc, Option, Some, None, option_and_then, Result, Ok, Err, bytes_eq}
use Rattle.std.specs.Option.{option_map}
use Rattle.std.specs.List.{find, filter_map, list_any, list_all, enumerate_from}
use Rattle.std.specs.Char.{is_ascii_digit}
use Rattle.shape_rules.specs.Forms.{Form}
use Rattle.design_ir.specs.declared.ids.DomainId.{DomainId}
use Rattle.design_ir.specs.declared.domain.Domain.{Domain}
use Rattle.design_ir.specs.declared.event.Event.{Event}
use Rattle.design_ir.specs.declared.event.Event.TheVariants.{Set, Edge}
use Rattle.play_text.specs.TextLines.{Line, lines_in}
use Rattle.play_text.specs.declared.board.Shown.{Shown}
use Rattle.play_text.specs.declared.board.Board.{Board}
use Rattle.play_text.specs.declared.script_saying.Saying.{Saying}
use Rattle.play_text.specs.declared.script_saying.Saying.TheVariants.{Nothing, Asks, Bad}

-- ---- words

-- a byte at the front of the first word
abbrev pub in_word : ℕ → List (List ℕ) → List (List ℕ)
in_word b [] = (b ∷ []) ∷ []
in_word b (w ∷ ws) = (b ∷ w) ∷ ws

-- the words of a line, with a blank between each two
abbrev pub words_in : List ℕ → List (List ℕ)
words_in [] = [] ∷ []
words_in (b ∷ bs) = if b == 32 then [] ∷ words_in bs else in_word b (words_in bs)

-- a line without the line feed that ends it
abbrev pub content : Line → List ℕ
content [] = []
content (b ∷ bs) = if b == 10 then [] else b ∷ content bs

-- ---- numbers

-- the number that digits go on with
abbrev pub digits_from : ℕ → List ℕ → Option ℕ
digits_from n [] = Some n
digits_from n (b ∷ bs) = if is_ascii_digit b then digits_from (10 * n + (b - 48)) bs else None

-- the number that a numeral without needless zeros stands for
abbrev pub natural_of : List ℕ → Option ℕ
natural_of [] = None
natural_of (b ∷ []) = digits_from 0 (b ∷ [])
natural_of (b ∷ c ∷ bs) = if b == 48 then None else digits_from 0 (b ∷ c ∷ bs)

-- the opposite of a number above 0
abbrev pub opposite : ℕ → Option ℤ
opposite n = if n == 0 then None else Some (negsuc (n - 1))

-- the integer that a text stands for: a numeral, with `-` before it where it is negative
abbrev pub integer_of : List ℕ → Option ℤ
integer_of [] = None
integer_of (b ∷ bs) = if b == 45 then option_and_then opposite (natural_of bs) else option_map pos (natural_of (b ∷ bs))

-- the shape has the number
abbrev pub holds : Form → ℤ → Bool
holds f (pos n) = if f.signed then nat_lt (2 * n) (2 ^ f.width) else nat_lt n (2 ^ f.width)
holds f (negsuc n) = f.signed && nat_lt (2 * n + 1) (2 ^ f.width)

-- ---- `set NAME VALUE`

-- the column of this name that a script may set
abbrev pub settable : Board → List ℕ → Option Shown
settable b name = find (λ (x : Shown). x.is_settable && bytes_eq x.name name) b.columns

abbrev pub set_to : Shown → ℤ → Option Event
set_to x n = if holds x.shape n then Some (Set x.sig n) else None

abbrev pub set_event : Board → List (List ℕ) → Option Event
set_event b [] = None
set_event b (name ∷ []) = None
set_event b (name ∷ value ∷ []) = option_and_then (λ x. option_and_then (set_to x) (integer_of value)) (settable b name)
set_event b (name ∷ value ∷ more ∷ rest) = None

-- ---- `edge NAME ..`

abbrev pub is_word : List (List ℕ) → List ℕ → Bool
is_word words name = list_any (bytes_eq name) words

-- the domains that the words name, in domain order
abbrev pub named_domains : Board → List (List ℕ) → List DomainId
named_domains b words = filter_map (λ (k, d). if is_word words d.name then Some (record { 0 = k }) else None) (enumerate_from 0 b.domains)

abbrev pub is_domain : Board → List ℕ → Bool
is_domain b name = list_any (λ (d : Domain). bytes_eq d.name name) b.domains

-- no word stands twice
abbrev pub all_apart : List (List ℕ) → Bool
all_apart [] = true
all_apart (w ∷ ws) = not (is_word ws w) && all_apart ws

-- one or more distinct names of domains, in any order
abbrev pub edge_event : Board → List (List ℕ) → Option Event
edge_event b [] = None
edge_event b (w ∷ ws) = if list_all (is_domain b) (w ∷ ws) && all_apart (w ∷ ws) then Some (Edge (named_domains b (w ∷ ws))) else None

-- ---- lines

abbrev pub event_of : Board → List (List ℕ) → Option Event
event_of b [] = None
event_of b (kind ∷ words) =
    if bytes_eq kind (codes "set") then set_event b words
    else if bytes_eq kind (codes "edge") then edge_event b words
    else None

-- an empty line, and one that begins with `#`
abbrev pub is_passed : List ℕ → Bool
is_passed [] = true
is_passed (b ∷ bs) = b == 35

abbrev pub most_bytes : ℕ
most_bytes = 16_777_216

abbrev pub most_events : ℕ
most_events = 1_000_000

-- an event, or none, that a line asks for
abbrev pub asking : Option Event → Saying
asking None = Bad
asking (Some e) = Asks e

-- what a line without its line feed says
abbrev pub says : Board → List ℕ → Saying
says b line = if is_passed line then Nothing else asking (event_of b (words_in line))

-- how many events may still come behind it
abbrev pub left_behind : Saying → ℕ → ℕ
left_behind Nothing left = left
left_behind (Asks e) left = left - 1
left_behind Bad left = left

abbrev pub with_event : Event → Result (List Event) ℕ → Result (List Event) ℕ
with_event e (Ok es) = Ok (e ∷ es)
with_event e (Err n) = Err n

-- what line n says, before what the lines behind it say
abbrev pub said_at : ℕ → ℕ → Saying → Result (List Event) ℕ → Result (List Event) ℕ
said_at n left Nothing rest = rest
said_at n left (Asks e) rest = if left == 0 then Err n else with_event e rest
said_at n left Bad rest = Err n

-- the events of the lines from number n on, where so many bytes and events may still come, or the first bad line:
-- one that passes a limit, or that says what no script says
abbrev pub events_from : Board → (n room left : ℕ) → List Line → Result (List Event) ℕ
events_from b n room left [] = Ok []
events_from b n room left (l ∷ ls) =
    if nat_lt room (length l) then Err n
    else said_at n left (says b (content l)) (events_from b (suc n) (room - length l) (left_behind (says b (content l)) left) ls)

unfoldable pub script_events : Board → List ℕ → Result (List Event) ℕ
script_events b text = events_from b 1 most_bytes most_events (lines_in text)
