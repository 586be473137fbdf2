use Rattle.std.proofs.Common.{arith, ne_eqb, ◌≡◌, ◌∙◌, true, false, List, [], ◌∷◌, Some, None, length, map, refl, sym, ap, ap₂, subst, inl, inr, string_bytes}
use Rattle.std.specs.Prelude.{option_map}
use Rattle.clap.specs.Words.{Text, app_of, fault_of, is_simple, is_simple_and_free, matches_of, rows_of, found_of}
use Rattle.clap.specs.Walk.{is_empty}
use Rattle.clap.specs.Kinds.{HasKind, IsAmong, Kinds}
use Rattle.clap.specs.declared.error.kind.ErrorKind.{ErrorKind}
use Rattle.command_words.specs.Command.{command}
use Rattle.command_words.specs.Request.{Request, are_apart, asked, names_of, request_of, with_names_apart, is_of_command, IsGiven}
use Rattle.command_words.specs.Views.{asked_seen}
use Rattle.command_words.proofs.MatchLaws.{holds_numbers, is_given}
use Rattle.command_words.proofs.request.read_words.Goals as goal
use Rattle.command_words.proofs.request.read_words.Goals.{then-are_apart, else-are_apart}

is_simple_command : is_simple command ≡ true
unfolding command
is_simple_command = refl

is_free_command : is_simple_and_free command ≡ true
unfolding command
is_free_command = refl

-- ---- the definition, by cases

among_some : (k : ErrorKind) (kinds : Kinds) → IsAmong k kinds → is_empty kinds ≡ false
among_some k [] h = absurd h
among_some k (x ∷ xs) h = ne_eqb (length (x ∷ xs)) 0 (λ e. omega arith)

refused : (words : List Text) → is_of_command words ≡ false → None ≡ asked words
unfolding asked
refused words e = rw e refl

taken : (words : List Text) → fault_of command words ≡ [] → with_names_apart (request_of (matches_of command words)) ≡ asked words
unfolding asked
taken words e = rw e refl

apart : (r : Request) → are_apart (names_of r) ≡ true → Some r ≡ with_names_apart r
apart r e = rw e refl

joined : (r : Request) → are_apart (names_of r) ≡ false → None ≡ with_names_apart r
joined r e = rw e refl

-- ---- the answers

pub asked_in-asked-requires : goal.asked_in-asked-requires
asked_in-asked-requires c = record { numbers = holds_numbers c.in_ok-command.command c.in-Ok.matches c.in_ok-command.ensures c.in-Ok.ensures.parsed }

pub returns-in-Ok-clause-value : goal.returns-in-Ok-clause-value
returns-in-Ok-clause-value c =
    let is : app_of c.in_ok-command.command ≡ command = c.in_ok-command.ensures in
    let words_are : map string_bytes c.items.result.now ≡ c.args.words.now = c.items.ensures in
    let none : fault_of command c.args.words.now ≡ [] = sym (ap₂ fault_of is words_are) ∙ c.in-Ok.ensures.kinds (ap is_simple_and_free is ∙ is_free_command) in
    let rows : rows_of (found_of c.in-Ok.matches) ≡ matches_of command c.args.words.now = (c.in-Ok.ensures.matches (ap is_simple is ∙ is_simple_command)).0 ∙ ap₂ matches_of is words_are in
    let seen : asked_seen c.asked_in-asked.result ≡ request_of (matches_of command c.args.words.now) = c.asked_in-asked.ensures ∙ ap request_of rows in
    let whole : with_names_apart (asked_seen c.asked_in-asked.result) ≡ asked c.args.words.now = ap with_names_apart seen ∙ taken c.args.words.now none in
    elim c.if-are_apart.branch [
      | then-are_apart w ↦ ap (option_map asked_seen) w.result-is ∙ (apart (asked_seen c.asked_in-asked.result) (sym c.are_apart.ensures ∙ w.if-are_apart.true) ∙ whole)
      | else-are_apart w ↦ ap (option_map asked_seen) w.result-is ∙ (joined (asked_seen c.asked_in-asked.result) (sym c.are_apart.ensures ∙ w.if-are_apart.false) ∙ whole)
    ]

pub returns-in-Ok-clause-given : goal.returns-in-Ok-clause-given
returns-in-Ok-clause-given c =
    let is : app_of c.in_ok-command.command ≡ command = c.in_ok-command.ensures in
    let words_are : map string_bytes c.items.result.now ≡ c.args.words.now = c.items.ensures in
    let rows : rows_of (found_of c.in-Ok.matches) ≡ matches_of command c.args.words.now = (c.in-Ok.ensures.matches (ap is_simple is ∙ is_simple_command)).0 ∙ ap₂ matches_of is words_are in
    let seen : asked_seen c.asked_in-asked.result ≡ request_of (matches_of command c.args.words.now) = c.asked_in-asked.ensures ∙ ap request_of rows in
    elim c.if-are_apart.branch [
      | then-are_apart w ↦
          let apart : are_apart (names_of (asked_seen c.asked_in-asked.result)) ≡ true = sym c.are_apart.ensures ∙ w.if-are_apart.true in
          let same = subst (λ (r : Request). are_apart (names_of r) ≡ true) seen apart in
          let there = is_given c.in_ok-command.command c.in-Ok.matches is c.in-Ok.ensures.parsed c.args.words.now rows same in
          let whole : IsGiven c.args.words.now (asked_seen c.asked_in-asked.result) = subst (IsGiven c.args.words.now) (sym seen) there in
          rw w.result-is whole
      | else-are_apart w ↦ rw w.result-is tt
    ]

pub returns : goal.returns
returns c =
    let is : app_of c.in_ok-command.command ≡ command = c.in_ok-command.ensures in
    let words_are : map string_bytes c.items.result.now ≡ c.args.words.now = c.items.ensures in
    let kinds : HasKind (fault_of command c.args.words.now) c.in-Err.error = subst (λ (k : Kinds). HasKind k c.in-Err.error) (ap₂ fault_of is words_are) (c.in-Err.ensures.kinds (ap is_simple_and_free is ∙ is_free_command)) in
    let fault : is_empty (fault_of command c.args.words.now) ≡ false = elim kinds [
      | inl memory ↦ absurd (c.in_default.not-OutOfMemory (c.kind.ensures ∙ memory))
      | inr among ↦ among_some _ _ among
    ] in
    record { value = refused c.args.words.now fault; given = tt }
