-- Words that do not begin with a hyphen are read as they stand.
use Rattle.std.proofs.Common.{cond, ◌==◌, ◌≡◌, ◌∙◌, ℕ, true, false, List, [], ◌∷◌, Option, Some, None, is_some, refl, ap, ap₂, codes}
use Rattle.std.specs.Str.{bytes_eq}
use Rattle.clap.specs.Lexer.{long_of, short_of}
use Rattle.clap.specs.Words.{Row, Text, Rule, fault_of, matches_of}
use Rattle.clap.specs.Kinds.{Kinds, or_else}
use Rattle.clap.specs.Walk.{is_empty, Held, Waiting, Walk, Step, after_step, finished, idle, option, plain_word, positional, settled, walked, walk, walk_from, word_met, nothing_held}
use Rattle.clap.specs.Faults.{built_fault, check_fault, entered_fault, defaults_fault, settle_fault, turn_fault, step_fault, walk_fault, word_fault}
use Rattle.clap.specs.Simple.{App, Shape, built, entered, names_of as sub_names}
use Rattle.clap.specs.declared.builder.value_parser.Reading.TheVariants.{AsWritten}
use Rattle.clap.specs.declared.parser.matches.ValueSource.TheVariants.{CommandLine}
use Rattle.clap.proofs.OnLiterals.{clap_on_literals}
use Rattle.command_words.specs.Command.{command}
use Rattle.std.specs.List.{list_all}
use Rattle.clap.proofs.SimpleLemmas.{is_false}
use Rattle.clap.proofs.WalkLemmas.{both}
use Rattle.command_words.specs.Request.{Request, are_apart, asked, names_of, request_of, with_names_apart}
use Rattle.command_words.specs.Laws.{ArePlain, PlainWordsAreRead, is_plain_word, plain_request}

-- the word is no option
record IsNoOption (word : Text) : Type 0 where
  long : long_of word ≡ None
  short : short_of word ≡ None
  dashes : bytes_eq word (45 ∷ 45 ∷ []) ≡ false

-- ---- one word

met : (c : List Rule) (waiting : Waiting) (position : ℕ) (word : Text) (h : Held) → IsNoOption word → word_met c [] false waiting position word h ≡ plain_word c waiting word h
met c idle position word h is = rw (is.dashes, is.long, is.short) refl
met c (option id) position word h is = rw (is.dashes, is.long, is.short) refl
met c positional position word h is = rw (is.dashes, is.long, is.short) refl

no_flag : (s : Shape) (waiting : Waiting) (word : Text) (h : Held) → IsNoOption word → word_fault s [] false waiting word h ≡ []
no_flag s idle word h is = rw (is.dashes, is.long, is.short) refl
no_flag s (option id) word h is = rw (is.dashes, is.long, is.short) refl
no_flag s positional word h is = rw (is.dashes, is.long, is.short) refl

-- a place between two words
abbrev at : Held → Waiting → ℕ → Walk
at h waiting position = record { held = h; waiting = waiting; position = position; is_trailing = false; stopped = None }

step : (c : List Rule) (h : Held) (waiting : Waiting) (position : ℕ) (word : Text) → IsNoOption word
    → walked c [] (at h waiting position) word ≡ after_step c word (at h waiting position) (plain_word c waiting word h).0 (plain_word c waiting word h).1
unfolding walked
step c h waiting position word is = ap (λ (m : Held × Step). after_step c word (at h waiting position) m.0 m.1) (met c waiting position word h is)

turn : (s : Shape) (h : Held) (waiting : Waiting) (position : ℕ) (word : Text) → IsNoOption word
    → turn_fault s [] (at h waiting position) word ≡ step_fault s position (plain_word s.rules waiting word h).0 (plain_word s.rules waiting word h).1
turn s h waiting position word is =
    ap (λ (ks : Kinds). or_else ks (step_fault s position (word_met s.rules [] false waiting position word h).0 (word_met s.rules [] false waiting position word h).1)) (no_flag s waiting word h is)
    ∙ ap (λ (m : Held × Step). step_fault s position m.0 m.1) (met s.rules waiting position word h is)

-- one word more of which no fault comes
one_more : (s : Shape) (h : Held) (waiting : Waiting) (position : ℕ) (word : Text) (rest : List Text) (w : Walk) → IsNoOption word
    → step_fault s position (plain_word s.rules waiting word h).0 (plain_word s.rules waiting word h).1 ≡ []
    → after_step s.rules word (at h waiting position) (plain_word s.rules waiting word h).0 (plain_word s.rules waiting word h).1 ≡ w
    → (walk_fault s [] (at h waiting position) (word ∷ rest) ≡ walk_fault s [] w rest) × (walked s.rules [] (at h waiting position) word ≡ w)
unfolding walk_fault
one_more s h waiting position word rest w is none next =
    let moved : walked s.rules [] (at h waiting position) word ≡ w = step s.rules h waiting position word is ∙ next in
    (ap₂ (λ (ks : Kinds) (v : Walk). or_else ks (walk_fault s [] v rest)) (turn s h waiting position word is ∙ none) moved, moved)

-- ---- all the words

abbrev end_fault : Shape → Held → Kinds
end_fault s h = or_else (settle_fault s.rules s.args_override_self h) (or_else (defaults_fault (settled s.rules h).rows s.rules) (check_fault s (finished s.rules h) false))

-- no fault comes where none does on the walk, which meets no subcommand, and none at its end
level : (a : App) (words : List Text) (w : Walk) → walk_fault a.top (sub_names a) (walk_from nothing_held) words ≡ [] → walk a.top.rules (sub_names a) nothing_held words ≡ w
    → w.stopped ≡ None → end_fault a.top w.held ≡ [] → built_fault a nothing_held words ≡ []
level a words w none is stop ends =
    ap₂ (λ (ks : Kinds) (v : Walk). or_else ks (or_else (entered_fault a v.stopped)
    (or_else (settle_fault a.top.rules a.top.args_override_self v.held) (or_else (defaults_fault (settled a.top.rules v.held).rows a.top.rules) (check_fault a.top (finished a.top.rules v.held) (is_some (entered a v.stopped))))))) none is
    ∙ (ap (λ (o : Option (Text × List Text)). or_else (entered_fault a o)
    (or_else (settle_fault a.top.rules a.top.args_override_self w.held) (or_else (defaults_fault (settled a.top.rules w.held).rows a.top.rules) (check_fault a.top (finished a.top.rules w.held) (is_some (entered a o)))))) stop ∙ ends)

-- ---- the command

abbrev top : Shape
unfolding command
top = (built command).top

abbrev row : Text → Text → Row
row id text = record { id = id; values = text ∷ []; count = None; source = Some CommandLine; reading = AsWritten }

abbrev held : List Row → Text → List Text → Held
held rows id values = record { rows = rows; pending = Some (id, values); skip = 0 }

-- the walk behind each of three words
abbrev first : Text → Walk
first a = at (held [] (codes "DESIGN") (a ∷ [])) idle 2

abbrev second : Text → Text → Walk
second a b = at (held (row (codes "DESIGN") a ∷ []) (codes "IL") (b ∷ [])) idle 3

abbrev third : Text → Text → Text → Walk
third a b c = at (held (row (codes "DESIGN") a ∷ row (codes "IL") b ∷ []) (codes "TRACE") (c ∷ [])) idle 4

to_first : (a : Text) (rest : List Text) → IsNoOption a → (walk_fault top [] (walk_from nothing_held) (a ∷ rest) ≡ walk_fault top [] (first a) rest) × (walked top.rules [] (walk_from nothing_held) a ≡ first a)
unfolding command
to_first a rest is = one_more top nothing_held idle 1 a rest (first a) is refl refl

to_second : (a b : Text) (rest : List Text) → IsNoOption b → (walk_fault top [] (first a) (b ∷ rest) ≡ walk_fault top [] (second a b) rest) × (walked top.rules [] (first a) b ≡ second a b)
unfolding command
to_second a b rest is = one_more top (first a).held idle 2 b rest (second a b) is refl refl

to_third : (a b c : Text) (rest : List Text) → IsNoOption c → (walk_fault top [] (second a b) (c ∷ rest) ≡ walk_fault top [] (third a b c) rest) × (walked top.rules [] (second a b) c ≡ third a b c)
unfolding command
to_third a b c rest is = one_more top (second a b).held idle 3 c rest (third a b c) is refl refl

-- behind the option and behind its value
abbrev rows_of_three : Text → Text → Text → List Row
rows_of_three a b c = row (codes "DESIGN") a ∷ row (codes "IL") b ∷ row (codes "TRACE") c ∷ []

abbrev fourth : Text → Text → Text → Walk
fourth a b c = at (held (rows_of_three a b c) (codes "play") []) (option (codes "play")) 4

abbrev fifth : Text → Text → Text → Text → Walk
fifth a b c s = at (held (rows_of_three a b c) (codes "play") (s ∷ [])) idle 4

to_fourth : (a b c : Text) (rest : List Text) → (walk_fault top [] (third a b c) (codes "--play" ∷ rest) ≡ walk_fault top [] (fourth a b c) rest) × (walked top.rules [] (third a b c) (codes "--play") ≡ fourth a b c)
unfolding command clap_on_literals
to_fourth a b c rest = (refl, refl)

to_fifth : (a b c s : Text) (rest : List Text) → IsNoOption s → (walk_fault top [] (fourth a b c) (s ∷ rest) ≡ walk_fault top [] (fifth a b c s) rest) × (walked top.rules [] (fourth a b c) s ≡ fifth a b c s)
unfolding command
to_fifth a b c s rest is = one_more top (fourth a b c).held (option (codes "play")) 4 s rest (fifth a b c s) is refl refl

no_more : (w : Walk) → walk_fault top [] w [] ≡ []
unfolding walk_fault
no_more w = refl

three_end : (a b c : Text) → end_fault top (third a b c).held ≡ []
unfolding command clap_on_literals
three_end a b c = refl

five_end : (a b c s : Text) → end_fault top (fifth a b c s).held ≡ []
unfolding command clap_on_literals
five_end a b c s = refl

three_walk : (a b c : Text) → IsNoOption a → IsNoOption b → IsNoOption c → walk top.rules [] nothing_held (a ∷ b ∷ c ∷ []) ≡ third a b c
three_walk a b c p q r =
    ap (λ (w : Walk). walked top.rules [] (walked top.rules [] w b) c) (to_first a [] p).1 ∙ (ap (λ (w : Walk). walked top.rules [] w c) (to_second a b [] q).1 ∙ (to_third a b c [] r).1)

three_fault : (a b c : Text) (rest : List Text) → IsNoOption a → IsNoOption b → IsNoOption c → walk_fault top [] (walk_from nothing_held) (a ∷ b ∷ c ∷ rest) ≡ walk_fault top [] (third a b c) rest
three_fault a b c rest p q r = (to_first a (b ∷ c ∷ rest) p).0 ∙ ((to_second a b (c ∷ rest) q).0 ∙ (to_third a b c rest r).0)

-- ---- the words that are read

no_option : (word : Text) → is_plain_word word ≡ true → IsNoOption word
no_option [] is = record { long = refl; short = refl; dashes = refl }
no_option (b ∷ bs) is =
    let other : (b == 45) ≡ false = is_false _ is in
    record { long = rw other refl; short = rw other refl; dashes = rw other refl }

read_as : (words : List Text) (r : Request) → fault_of command words ≡ [] → request_of (matches_of command words) ≡ r → are_apart (names_of r) ≡ true → asked words ≡ Some r
unfolding asked
read_as words r none is apart = ap (λ (ks : Kinds). cond (is_empty ks) (with_names_apart (request_of (matches_of command words))) None) none ∙ (ap with_names_apart is ∙ rw apart refl)

plain_words : (word : Text) (rest : List Text) → list_all is_plain_word (word ∷ rest) ≡ true → IsNoOption word × (list_all is_plain_word rest ≡ true)
plain_words word rest all = let parts = both _ _ all in (no_option word parts.0, parts.1)

names : (a b c : Text) → ArePlain (a ∷ b ∷ c ∷ []) → asked (a ∷ b ∷ c ∷ []) ≡ Some (plain_request a b c None)
unfolding command request_of
names a b c plain =
    let p = plain_words a (b ∷ c ∷ []) plain.0 in
    let q = plain_words b (c ∷ []) p.1 in
    let r = plain_words c [] q.1 in
    let walked = three_walk a b c p.0 q.0 r.0 in
    read_as (a ∷ b ∷ c ∷ []) (plain_request a b c None)
    (level (built command) (a ∷ b ∷ c ∷ []) (third a b c) (three_fault a b c [] p.0 q.0 r.0 ∙ no_more (third a b c)) walked refl (three_end a b c))
    (ap (λ (w : Walk). request_of (finished top.rules w.held)) walked) plain.1

five_walk : (a b c s : Text) → IsNoOption a → IsNoOption b → IsNoOption c → IsNoOption s → walk top.rules [] nothing_held (a ∷ b ∷ c ∷ codes "--play" ∷ s ∷ []) ≡ fifth a b c s
five_walk a b c s p q r t =
    ap (λ (w : Walk). walked top.rules [] (walked top.rules [] w (codes "--play")) s) (three_walk a b c p q r)
    ∙ (ap (λ (w : Walk). walked top.rules [] w s) (to_fourth a b c []).1 ∙ (to_fifth a b c s [] t).1)

script : (a b c s : Text) → ArePlain (a ∷ b ∷ c ∷ s ∷ []) → asked (a ∷ b ∷ c ∷ codes "--play" ∷ s ∷ []) ≡ Some (plain_request a b c (Some s))
unfolding command request_of
script a b c s plain =
    let p = plain_words a (b ∷ c ∷ s ∷ []) plain.0 in
    let q = plain_words b (c ∷ s ∷ []) p.1 in
    let r = plain_words c (s ∷ []) q.1 in
    let t = plain_words s [] r.1 in
    let walked = five_walk a b c s p.0 q.0 r.0 t.0 in
    read_as (a ∷ b ∷ c ∷ codes "--play" ∷ s ∷ []) (plain_request a b c (Some s))
    (level (built command) (a ∷ b ∷ c ∷ codes "--play" ∷ s ∷ []) (fifth a b c s)
    (three_fault a b c (codes "--play" ∷ s ∷ []) p.0 q.0 r.0 ∙ ((to_fourth a b c (s ∷ [])).0 ∙ ((to_fifth a b c s [] t.0).0 ∙ no_more (fifth a b c s)))) walked refl (five_end a b c s))
    (ap (λ (w : Walk). request_of (finished top.rules w.held)) walked) plain.1

pub plain_are_read : PlainWordsAreRead
plain_are_read = record { names = names; script = script }
