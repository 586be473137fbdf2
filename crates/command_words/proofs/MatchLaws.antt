-- What a parse of the command leaves in its matches.
use Rattle.std.proofs.Common.{◌≡◌, ◌∙◌, ◌<◌, ◌≤◌, ◌&&◌, ℕ, zero, suc, Bool, true, false, not, List, [], ◌∷◌, map, length, Option, Some, None, is_some, true≢false, refl, sym, ap, subst, arith, inl, inr, codes}
use Rattle.std.specs.Prelude.{IfSome, option_and_then, option_map, slice_get, unwrap_or}
use Rattle.std.specs.Borrow.{Bor}
use Rattle.std.specs.List.{All, list_all, slice_index_or}
use Rattle.std.specs.Str.{bytes_eq}
use Rattle.std.proofs.lemmas.List.{get_or-map, length-map}
use Rattle.std.proofs.lemmas.List.Elements.{All-get_or}
use Rattle.std.proofs.lemmas.Slice.Eq.{bytes_eq-Decides}
use Rattle.clap.specs.Words.{Accepts, App, IsParsedFrom, IsPlain, Row, Rule, Text, app_of, args_of, first_of, found_of, matched_of, matches_of, one_of, one_text, read_as, reading_of, rows_of, rule_of}
use Rattle.clap.specs.Facts.{Entry, EntryPasses, HasReading, IsGroupEntry, PassesArg, least_values, parser_of, parser_of_value}
use Rattle.clap.specs.Built.{IsAuto, SameRules}
use Rattle.clap.specs.Simple.{IsSimple, is_ready, is_ready_leaf, new_rule}
use Rattle.clap.specs.declared.builder.value_parser.Reading.{Reading}
use Rattle.clap.specs.declared.builder.value_parser.Reading.TheVariants.{AsWritten}
use Rattle.clap.specs.declared.builder.value_parser.ValueParser.TheVariants.{Unsigned}
use Rattle.clap.specs.declared.builder.arg_group.ArgGroup.{ArgGroup}
use Rattle.clap.specs.declared.builder.arg.Arg.{Arg}
use Rattle.clap.specs.declared.builder.action.ArgAction.TheVariants.{Set}
use Rattle.clap.specs.declared.builder.command.Command.{Command}
use Rattle.clap.specs.declared.builder.command.Command.TheViews.{out-Command}
use Rattle.clap.specs.declared.builder.value_parser.ValueParser.{ValueParser}
use Rattle.clap.specs.declared.parser.matches.ArgMatches.{ArgMatches}
use Rattle.clap.specs.declared.parser.matches.MatchedArg.{MatchedArg}
use Rattle.clap.proofs.CallerLemmas.{entry_by_id, required_has_value, same_rules_by_id}
use Rattle.clap.proofs.SimpleLemmas.{is_false, is_nil, plain_fields, ready_simple}
use Rattle.clap.proofs.TakesLemmas.{each_rule}
use Rattle.clap.proofs.WalkLemmas.{both, first_value-rows, one_text-rows}
use Rattle.command_words.specs.Command.{command, rules}
use Rattle.std.specs.Str.Parse.{digits_value, without_leading_plus}
use Rattle.clap.specs.Words.{IsUnsignedIn}
use Rattle.command_words.specs.Request.{HoldsNumbers, IsGiven, are_apart, names_of, request_of}

-- ---- the element at one place alone

-- the test passes at place k, and nowhere else
abbrev is_only : {X : Type 0} → (X → Bool) → List X → ℕ → Bool
is_only p [] k = false
is_only p (x ∷ xs) zero = list_all (λ y. not (p y)) xs
is_only p (x ∷ xs) (suc k) = not (p x) && is_only p xs k

none_passes : {X : Type 0} (p : X → Bool) (xs : List X) (j : ℕ) (d : X) → list_all (λ y. not (p y)) xs ≡ true → j < length xs → p (slice_index_or xs j d) ≡ false
none_passes p [] j d all lt = absurd (omega arith)
none_passes p (x ∷ xs) zero d all lt = is_false _ (both _ _ all).0
none_passes p (x ∷ xs) (suc j) d all lt = none_passes p xs j d (both _ _ all).1 (omega arith)

only_one : {X : Type 0} (p : X → Bool) (xs : List X) (k j : ℕ) (d : X) → is_only p xs k ≡ true → j < length xs → p (slice_index_or xs j d) ≡ true → j ≡ k
only_one p [] k j d only lt hit = absurd (omega arith)
only_one p (x ∷ xs) zero zero d only lt hit = refl
only_one p (x ∷ xs) zero (suc j) d only lt hit =
    let miss : p (slice_index_or xs j d) ≡ false = none_passes p xs j d only (omega arith) in
    cc
only_one p (x ∷ xs) (suc k) zero d only lt hit =
    let miss : p x ≡ false = is_false _ (both _ _ only).0 in
    cc
only_one p (x ∷ xs) (suc k) (suc j) d only lt hit = ap suc (only_one p xs k j d (both _ _ only).1 (omega arith) hit)

-- ---- parts of an argument

ap_least : (a : Arg) → a.num_vals ≡ None → 1 ≤ least_values a
ap_least a e = rw e (omega arith)

-- ---- the command

abbrev no_rule : Rule
no_rule = new_rule []

-- an id of the command's own, which its place alone has
abbrev is_own : ℕ → Text → Bool
is_own k id = is_only (λ (r : Rule). bytes_eq r.id id) rules k && (not (bytes_eq id (codes "help")) && not (bytes_eq id (codes "version")))

module _ (c : Command) (m : ArgMatches) (e : app_of c ≡ command) (p : IsParsedFrom c m) where
  rules_are : map rule_of (args_of c) ≡ rules
  unfolding command
  rules_are = ap (λ (a : App). a.top.rules) e

  length_is : length (args_of c) ≡ 7
  length_is = sym (length-map (args_of c) rule_of) ∙ ap (λ (l : List Rule). length l) rules_are

  rule_at : (k : ℕ) (d : Arg) (r : Rule) → k < 7 → rule_of (slice_index_or (args_of c) k d) ≡ slice_index_or rules k r
  rule_at k d r lt = sym (get_or-map rule_of (args_of c) k d r (omega (arith, length_is))) ∙ ap (λ (l : List Rule). slice_index_or l k r) rules_are

  no_globals : (out-Command c).has_globals ≡ false
  unfolding command
  no_globals = (plain_fields c (ap (λ (a : App). a.top.is_plain) e)).globals

  negates : (out-Command c).subcommand_negates_reqs ≡ false
  unfolding command
  negates = ap (λ (a : App). a.top.subcommand_negates_reqs) e

  plain : IsPlain c
  unfolding command
  plain =
      let simple = each_rule (λ a. a.is_simple) (args_of c) (ap (λ (a : App). list_all (λ (r : Rule). r.is_simple) a.top.rules) e) in
      let free = each_rule (λ a. a.is_free) (args_of c) (ap (λ (a : App). list_all (λ (r : Rule). r.is_free) a.top.rules) e) in (
        λ k d lt.
            let s = both _ _ (simple k d lt) in
            let t = both _ _ (both _ _ s.1).1 in
            let f = both _ _ (free k d lt) in
            (is_false _ f.0, is_nil _ (both _ _ f.1).0, is_nil _ s.0, is_nil _ t.0),
        (plain_fields c (ap (λ (a : App). a.top.is_plain) e)).groups,
      )

  is_simple_command : IsSimple c
  unfolding command
  is_simple_command = ready_simple c (ap (λ (a : App). is_ready a.top) e) (ap (λ (a : App). list_all is_ready_leaf a.subs) e)

  id_at : (k : ℕ) (d : Arg) (id : Text) → k < 7 → (slice_index_or rules k no_rule).id ≡ id → (slice_index_or (args_of c) k d).id.now ≡ id
  id_at k d id lt is = ap (λ (r : Rule). r.id) (rule_at k d no_rule lt) ∙ is

  module _ (k : ℕ) (d : Arg) (id : Text) (lt : k < 7) (is : (slice_index_or rules k no_rule).id ≡ id) (own : is_own k id ≡ true) where
    unique : (j : ℕ) (f : Arg) → j < length (args_of c) → bytes_eq (slice_index_or (args_of c) j f).id.now (slice_index_or (args_of c) k d).id.now ≡ true → j ≡ k
    unique j f low same =
        let under : j < 7 = omega (arith, length_is) in
        let hit : bytes_eq (slice_index_or rules j no_rule).id id ≡ true =
        ap (λ (r : Rule). bytes_eq r.id id) (sym (rule_at j f no_rule under)) ∙ (ap (bytes_eq (slice_index_or (args_of c) j f).id.now) (sym (id_at k d id lt is)) ∙ same) in
        only_one (λ (r : Rule). bytes_eq r.id id) rules k j no_rule (both _ _ own).0 under hit

    not_auto : IsAuto (slice_index_or (args_of c) k d) → ⊥
    not_auto auto =
        let names = both (not (bytes_eq id (codes "help"))) (not (bytes_eq id (codes "version"))) (both (is_only (λ (r : Rule). bytes_eq r.id id) rules k) _ own).1 in
        elim auto [
          | inl h ↦
              let hit : bytes_eq id (codes "help") ≡ true = (bytes_eq-Decides id (codes "help")).1 (sym (id_at k d id lt is) ∙ h) in
              absurd (true≢false (sym hit ∙ is_false _ names.0))
          | inr h ↦
              let hit : bytes_eq id (codes "version") ≡ true = (bytes_eq-Decides id (codes "version")).1 (sym (id_at k d id lt is) ∙ h) in
              absurd (true≢false (sym hit ∙ is_false _ names.1))
        ]

    -- a word that has to be given is there
    given : (slice_index_or rules k no_rule).required ≡ true → (slice_index_or rules k no_rule).action ≡ Some Set → (slice_index_or rules k no_rule).range ≡ None
        → 0 < length id → is_some (first_of id (rows_of (found_of m))) ≡ true
    given required set range some =
        let a = slice_index_or (args_of c) k d in
        let same = rule_at k d no_rule lt in
        let named : a.id.now ≡ id = id_at k d id lt is in
        let low : k < length (args_of c) = omega (arith, length_is) in
        let wanted : a.required ≡ true = ap (λ (r : Rule). r.required) same ∙ required in
        let takes_one : a.action ≡ Some Set = ap (λ (r : Rule). r.action) same ∙ set in
        let any : a.num_vals ≡ None = ap (λ (r : Rule). r.range) same ∙ range in
        let uncut : a.val_delim ≡ None = (is_simple_command.args k d low).delimiter in
        let least : 1 ≤ least_values a = ap_least a any in
        let has = required_has_value c m p plain no_globals negates k d low wanted takes_one uncut least unique
        (λ empty. absurd (omega (arith, ap (λ (l : Text). length l) (sym empty ∙ named)))) not_auto in
        subst (λ (t : Text). is_some (first_of t (rows_of (found_of m))) ≡ true) named (ap is_some (sym (first_value-rows (found_of m) a.id.now)) ∙ has)

    -- ---- an option that was used

    abbrev own_arg : Arg
    own_arg = slice_index_or (args_of c) k d

    -- an argument of the built command with this id is the own one
    own_rules : (y : Arg) (i : ℕ) → i < length (args_of p.built) → slice_index_or (args_of p.built) i y ≡ y → bytes_eq y.id.now own_arg.id.now ≡ true → SameRules own_arg y
    own_rules y i low at same = same_rules_by_id c m p k d (omega (arith, length_is)) unique not_auto i y low at same

    module _ (q : ValueParser) (parser : (slice_index_or rules k no_rule).parser ≡ Some q) (some : 0 < length id) where
      own_parser : (y : Arg) → SameRules own_arg y → parser_of y ≡ q
      own_parser y s = ap parser_of_value (s.parser q (ap (λ (r : Rule). r.parser) (rule_at k d no_rule lt) ∙ parser))

      accepted : (v : Text) → PassesArg p.built own_arg.id.now v → Accepts own_arg.ignore_case q v
      accepted v h =
          let s = own_rules h.1 h.0 h.2 h.3 h.4.0 in
          let by_own : Accepts h.1.ignore_case q v = subst (λ (w : ValueParser). Accepts h.1.ignore_case w v) (own_parser h.1 s) h.4.1 in
          subst (λ (b : Bool). Accepts b q v) s.ignore_case by_own

      read_by : (how : Reading) → HasReading p.built own_arg.id.now how → how ≡ reading_of q
      read_by how h = sym h.4.1 ∙ ap reading_of (own_parser h.1 (own_rules h.1 h.0 h.2 h.3 h.4.0))

      no_group : (entry : Entry) → entry.0.now ≡ own_arg.id.now → IsGroupEntry p.built entry → entry.1.is_group ≡ true → ⊥
      no_group entry key known g = elim (known g) [
        | inl empty ↦ absurd (omega (arith, ap (λ (l : Text). length l) (sym empty ∙ (key ∙ id_at k d id lt is))))
        | inr lots ↦
            let bad : 0 < 0 = subst (λ (l : List ArgGroup). 0 < length l) (p.from.plain plain).1 lots in
            absurd (omega arith)
      ]

      from_values : (vs : List (Bor Text)) (how : Reading) (text : Text) → how ≡ AsWritten → All (λ v. PassesArg p.built own_arg.id.now v.now) vs
          → option_map (λ s. read_as how s.now) (slice_get vs 0) ≡ Some text → Accepts own_arg.ignore_case q text
      from_values [] how text written all one = cc
      from_values (v ∷ vs) how text written all one =
          let plainly : Some v.now ≡ Some text = subst (λ (h : Reading). option_map (λ s. read_as h s.now) (slice_get (v ∷ vs) 0) ≡ Some text) written one in
          let same : v.now ≡ text = ap (λ (o : Option Text). unwrap_or o text) plainly in
          subst (λ (t : Text). Accepts own_arg.ignore_case q t) same (accepted v.now (All-get_or (λ (w : Bor Text). PassesArg p.built own_arg.id.now w.now) (v ∷ vs) 0 v (omega arith) all))

      from_entry : (x : MatchedArg) (text : Text) → reading_of q ≡ AsWritten → matched_of (found_of m) own_arg.id.now ≡ Some x
          → option_map (λ s. read_as x.reading s.now) (slice_get x.vals.items 0) ≡ Some text → Accepts own_arg.ignore_case q text
      from_entry x text written found one =
          let parsed = p.parsed (p.from.globals ∙ no_globals) in
          let got = entry_by_id (EntryPasses p.built) (found_of m).entries.items own_arg.id.now x parsed.values found in
          let key : got.0.0.now ≡ own_arg.id.now = (bytes_eq-Decides got.0.0.now own_arg.id.now).0 got.2 in
          let alone = no_group got.0 key got.3.3 in
          let how : got.0.1.reading ≡ reading_of q = elim got.3.4 [
            | inl g ↦ absurd (alone g)
            | inr h ↦ read_by got.0.1.reading (subst (λ (t : Text). HasReading p.built t got.0.1.reading) key h)
          ] in
          let all : All (λ v. PassesArg p.built own_arg.id.now v.now) got.0.1.vals.items = elim got.3.0 [
            | inl g ↦ absurd (alone g)
            | inr vals ↦ subst (λ (t : Text). All (λ v. PassesArg p.built t v.now) got.0.1.vals.items) key vals
          ] in
          let here = subst (λ (y : MatchedArg). option_map (λ s. read_as y.reading s.now) (slice_get y.vals.items 0) ≡ Some text) (sym got.1) one in
          from_values got.0.1.vals.items got.0.1.reading text (how ∙ written) all here

      from_found : (o : Option MatchedArg) (text : Text) → reading_of q ≡ AsWritten → matched_of (found_of m) own_arg.id.now ≡ o
          → option_and_then (λ (x : MatchedArg). option_map (λ s. read_as x.reading s.now) (slice_get x.vals.items 0)) o ≡ Some text → Accepts own_arg.ignore_case q text
      from_found None text written found one = cc
      from_found (Some x) text written found one = from_entry x text written found one

      -- what is read of it passed its parser
      passed : reading_of q ≡ AsWritten → (text : Text) → one_of id (rows_of (found_of m)) ≡ Some text → Accepts own_arg.ignore_case q text
      passed written text one =
          let named : own_arg.id.now ≡ id = id_at k d id lt is in
          let found : one_text (found_of m) own_arg.id.now ≡ Some text = one_text-rows (found_of m) own_arg.id.now ∙ (ap (λ (t : Text). one_of t (rows_of (found_of m))) named ∙ one) in
          from_found (matched_of (found_of m) own_arg.id.now) text written refl found

-- ---- the words of the command

known : (o : Option Text) → is_some o ≡ true → o ≡ Some (unwrap_or o [])
known None h = absurd (true≢false (sym h))
known (Some t) h = refl

in_range : (o : Option Text) (most : ℕ) → ((t : Text) → o ≡ Some t → IsUnsignedIn 1 most t) → IfSome (option_map (λ t. digits_value 10 (without_leading_plus t)) o) (λ n. (1 ≤ n) × (n ≤ most))
in_range None most inside = tt
in_range (Some t) most inside = let h = inside t refl in (h.2, h.3)

in_range_or : (o : Option Text) (most other : ℕ) → ((t : Text) → o ≡ Some t → IsUnsignedIn 1 most t) → 1 ≤ other → other ≤ most
    → (1 ≤ unwrap_or (option_map (λ t. digits_value 10 (without_leading_plus t)) o) other) × (unwrap_or (option_map (λ t. digits_value 10 (without_leading_plus t)) o) other ≤ most)
in_range_or None most other inside low high = (low, high)
in_range_or (Some t) most other inside low high = let h = inside t refl in (h.2, h.3)

-- an argument of the command, where it has one
some_arg : (xs : List Arg) → 0 < length xs → Arg
some_arg [] lt = absurd (omega arith)
some_arg (x ∷ xs) lt = x

module _ (c : Command) (m : ArgMatches) (e : app_of c ≡ command) (p : IsParsedFrom c m) where
  any_arg : Arg
  any_arg = some_arg (args_of c) (omega (arith, length_is c m e p))

  pub holds_numbers : HoldsNumbers (rows_of (found_of m))
  holds_numbers = record {
    budget = passed c m e p 5 any_arg (codes "budget") (omega arith) refl refl (Unsigned 1 1000000000) refl (omega arith) refl;
    make = passed c m e p 6 any_arg (codes "make") (omega arith) refl refl (Unsigned 1 1000) refl (omega arith) refl;
  }

  pub is_given : (words : List Text) → rows_of (found_of m) ≡ matches_of command words → are_apart (names_of (request_of (matches_of command words))) ≡ true → IsGiven words (request_of (matches_of command words))
  unfolding request_of
  is_given words same apart =
      let inside = subst HoldsNumbers same holds_numbers in
      let there = λ (id : Text) (h : is_some (first_of id (rows_of (found_of m))) ≡ true). known (first_of id (matches_of command words)) (subst (λ (rows : List Row). is_some (first_of id rows) ≡ true) same h) in
      record {
        design = there _ (given c m e p 0 any_arg (codes "DESIGN") (omega arith) refl refl refl refl refl (omega arith));
        il = there _ (given c m e p 1 any_arg (codes "IL") (omega arith) refl refl refl refl refl (omega arith));
        trace = there _ (given c m e p 2 any_arg (codes "TRACE") (omega arith) refl refl refl refl refl (omega arith));
        apart = apart;
        budget = in_range_or (one_of (codes "budget") (matches_of command words)) 1000000000 10000000 inside.budget (omega arith) (omega arith);
        make = in_range (one_of (codes "make") (matches_of command words)) 1000 inside.make;
      }
