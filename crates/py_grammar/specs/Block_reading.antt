-- The reader of blocks: statements at one indent, where a head takes the deeper lines behind it as its block.
-- Internal: no rule of the language.
use Rattle.std.specs.Prelude.{ℕ, zero, suc, nat_lt, nat_le, ◌==◌, ◌&&◌, Bool, true, false, if◌then◌else◌, length, List, [], ◌∷◌, ◌++◌, Option, Some, None, codes}
use Rattle.amh_host.specs.declared.place.Place.{Place}
use Rattle.py_tree.specs.Tree.{Tree}
use Rattle.py_tree.specs.Steps.{Step, If, While, For, With, Def, Class, Fun, Steps, last, next, steps, branches, else_of}
use Rattle.py_grammar.specs.declared.word.Word.{Word}
use Rattle.py_grammar.specs.Words.{next_key}
use Rattle.py_grammar.specs.Shapes.{Head, IfHead, ElifHead, ElseHead, WhileHead, ForHead, WithHead, DefHead, ClassHead, Noted, LineForm, Simple, Headed}
use Rattle.py_grammar.specs.Line_reading.{line_of}
use Rattle.py_grammar.specs.Blocks.{Line, Around, at_top, step_fits, head_fits, inside}

-- what is read off the front of some lines, with the lines that are left; or the lines that are left where reading stops
pub data Part (A : Type 0) : Type 0 where
  Taken : A → List Line → Part A
  Stuck : List Line → Part A

abbrev pub Takes : Type 0 → Type 0
Takes A = List Line → Part A

-- one thing, and another off the lines behind it
infixl 10 ◌>>=◌
abbrev pub ◌>>=◌ : {A B : Type 0} → Part A → (A → List Line → Part B) → Part B
(Taken a ls) >>= f = f a ls
(Stuck ls) >>= f = Stuck ls

abbrev pub made : {A B : Type 0} → (A → B) → Takes A → Takes B
made f rd = λ ls. rd ls >>= λ a r. Taken (f a) r

abbrev pub maybe : {A : Type 0} → (List Line → Bool) → Takes A → Takes (Option A)
maybe goes rd = λ ls. if goes ls then made (λ a. Some a) rd ls else Taken None ls

-- things as long as the lines that come next tell so, at most n, behind those that were read before
unfoldable pub repeat : {A : Type 0} → (List Line → Bool) → Takes A → ℕ → List A → Takes (List A)
repeat goes rd zero xs ls = Taken xs ls
repeat goes rd (suc n) xs ls = if goes ls then (rd ls >>= λ x r. repeat goes rd n (xs ++ x ∷ []) r) else Taken xs ls

abbrev pub many : {A : Type 0} → (List Line → Bool) → Takes A → List A → Takes (List A)
many goes rd xs ls = repeat goes rd (length ls) xs ls

-- ---- the line that comes next

-- a test of the line that comes next, which no lines fail
abbrev pub next_line : (Line → Bool) → List Line → Bool
next_line test [] = false
next_line test (l ∷ ls) = test l

-- whether it does not stand left of an indent
abbrev pub stays : ℕ → List Line → Bool
stays indent = next_line (λ l. nat_le indent l.indent)

-- whether it stands right of an indent
abbrev pub is_deeper : ℕ → List Line → Bool
is_deeper indent = next_line (λ l. nat_lt indent l.indent)

-- whether it stands at an indent and begins with a keyword
abbrev pub next_at : ℕ → List ℕ → List Line → Bool
next_at indent this = next_line (λ l. (l.indent == indent) && next_key this l.words)

-- whether a line fits its surroundings, with the statement behind its colon
abbrev pub behind_fits : Around → Option (Noted Step) → Bool
behind_fits around None = true
behind_fits around (Some s) = step_fits around s

abbrev pub form_fits : Around → LineForm → Bool
form_fits around (Simple s) = step_fits around s
form_fits around (Headed h behind) = head_fits around h && behind_fits (inside around h.0) behind

abbrev pub fitting : Around → Option LineForm → Option LineForm
fitting around None = None
fitting around (Some f) = if form_fits around f then Some f else None

-- what words stand for, where they stand for anything
abbrev pub Form : Type 0
Form = List Word → Option LineForm

-- what a line stands for, where it stands at this indent and fits its surroundings
unfoldable pub form_at : Form → Around → ℕ → Line → Option LineForm
form_at form around indent l = if l.indent == indent then fitting around (form l.words) else None

abbrev pub taken_or_stuck : List Line → List Line → Option LineForm → Part LineForm
taken_or_stuck here behind None = Stuck here
taken_or_stuck here behind (Some f) = Taken f behind

unfoldable pub one_line : Form → Around → ℕ → Takes LineForm
one_line form around indent [] = Stuck []
one_line form around indent (l ∷ ls) = taken_or_stuck (l ∷ ls) ls (form_at form around indent l)

-- ---- statements

-- the reader of blocks within: of lines at an indent, in their surroundings
abbrev pub Inner : Type 0
Inner = Around → ℕ → Takes Steps

-- a block begins with the next line, at whose indent it stands
unfoldable pub deeper : Inner → Around → ℕ → Takes Steps
deeper inner around indent [] = Stuck []
deeper inner around indent (l ∷ ls) = if nat_lt indent l.indent then inner around l.indent (l ∷ ls) else Stuck (l ∷ ls)

-- what a head stands before: the statement behind its colon, or a block
unfoldable pub suite : Inner → Around → ℕ → Option (Noted Step) → Takes Steps
suite inner around indent None = deeper inner around indent
suite inner around indent (Some s) = λ ls. Taken (next s.0 last) ls

-- `elif` and `else` with what they stand before
abbrev pub behind_elif : Inner → Around → ℕ → List Line → LineForm → Takes (Tree × Steps)
behind_elif inner around indent here (Headed (ElifHead p e, noted) behind) ls = made (λ body. (e, body)) (suite inner around indent behind) ls
behind_elif inner around indent here f ls = Stuck here

unfoldable pub elif_block : Form → Inner → Around → ℕ → Takes (Tree × Steps)
elif_block form inner around indent ls = one_line form around indent ls >>= behind_elif inner around indent ls

abbrev pub behind_else : Inner → Around → ℕ → List Line → LineForm → Takes Steps
behind_else inner around indent here (Headed (ElseHead p, noted) behind) ls = suite inner around indent behind ls
behind_else inner around indent here f ls = Stuck here

unfoldable pub else_block : Form → Inner → Around → ℕ → Takes Steps
else_block form inner around indent ls = one_line form around indent ls >>= behind_else inner around indent ls

-- each `elif` behind an `if` and its block, and the `else` behind them
unfoldable pub choice : Form → Inner → Around → ℕ → Place → Tree → Steps → Takes Step
choice form inner around indent p e body ls =
    many (next_at indent (codes "elif")) (elif_block form inner around indent) ((e, body) ∷ []) ls >>= λ bs r.
    maybe (next_at indent (codes "else")) (else_block form inner around indent) r >>= λ o q.
    Taken (If p (branches bs) (else_of o)) q

-- a head with what it stands before; `elif` and `else` stand behind an `if` only
abbrev pub compound : Form → Inner → Around → ℕ → List Line → Head → Option (Noted Step) → Takes Step
compound form inner around indent here (IfHead p e) behind ls = suite inner around indent behind ls >>= choice form inner around indent p e
compound form inner around indent here (ElifHead p e) behind ls = Stuck here
compound form inner around indent here (ElseHead p) behind ls = Stuck here
compound form inner around indent here (WhileHead p e) behind ls = made (While p e) (suite inner (inside around (WhileHead p e)) indent behind) ls
compound form inner around indent here (ForHead p t e) behind ls = made (For p t e) (suite inner (inside around (ForHead p t e)) indent behind) ls
compound form inner around indent here (WithHead p e t) behind ls = made (With p e t) (suite inner around indent behind) ls
compound form inner around indent here (DefHead p n is_async ps t) behind ls =
    made (λ body. Def p (Fun p n is_async ps t body)) (suite inner (inside around (DefHead p n is_async ps t)) indent behind) ls
compound form inner around indent here (ClassHead p n bs) behind ls = made (Class p n bs) (suite inner (inside around (ClassHead p n bs)) indent behind) ls

abbrev pub of_form : Form → Inner → Around → ℕ → List Line → LineForm → Takes Step
of_form form inner around indent here (Simple s) ls = Taken s.0 ls
of_form form inner around indent here (Headed h behind) ls = compound form inner around indent here h.0 behind ls

unfoldable pub statement : Form → Inner → Around → ℕ → Takes Step
statement form inner around indent ls = one_line form around indent ls >>= of_form form inner around indent ls

-- statements one after another, up to a line left of them
unfoldable pub statements : Form → Inner → Around → ℕ → Takes Steps
statements form inner around indent = made steps (many (stays indent) (statement form inner around indent) [])

-- blocks within which so many may be nested
unfoldable pub block : Form → ℕ → Inner
block form zero = statements form (λ around indent ls. Stuck ls)
block form (suc room) = statements form (block form room)

-- ---- files

-- the statements of a file, or the line at which reading stops, which is the last one where no line is left
pub data Verdict : Type 0 where
  Whole : Steps → Verdict
  Refused : Line → Verdict

abbrev pub last_line : Line → List Line → Line
last_line l [] = l
last_line l (m ∷ ls) = last_line m ls

abbrev pub verdict : Line → List Line → Part Steps → Verdict
verdict l ls (Taken body []) = Whole body
verdict l ls (Taken body (m ∷ r)) = Refused m
verdict l ls (Stuck []) = Refused (last_line l ls)
verdict l ls (Stuck (m ∷ r)) = Refused m

-- of lines of which each is read by itself
unfoldable pub program_by : Form → List Line → Verdict
program_by form [] = Whole last
program_by form (l ∷ ls) = verdict l ls (block form 64 at_top 0 (l ∷ ls))

unfoldable pub program : List Line → Verdict
program = program_by (line_of 64)
