-- What a script says is legal for its design.
use Rattle.std.proofs.Common.{◌≡◌, ◌≢◌, refl, ℕ, suc, ◌+◌, ◌-◌, ◌*◌, ◌^◌, ◌≤◌, ◌<◌, Bool, true, false, cond, List, [], ◌∷◌, length, sym, ap, ◌∙◌, subst, arith}
use Rattle.std.specs.Prelude.{◌==◌, Result, Ok, Err, Option, Some, None, ℤ, pos, negsuc, nat_lt, not, ◌&&◌, ◌||◌, map, codes, bytes_eq, option_and_then}
use Rattle.std.specs.List.{find, list_any, list_all, filter_map, enumerate_from, cons_option, AllByRecursion}
use Rattle.std.proofs.lemmas.Bool.{false≢true, and_parts}
use Rattle.std.proofs.lemmas.Bool.Decides.{nat_tests}
use Rattle.amh_bits.specs.Patterns.{IsOf}
use Rattle.shape_rules.specs.Forms.{Form}
use Rattle.design_ir.specs.declared.ids.DomainId.{DomainId}
use Rattle.design_ir.specs.declared.domain.Domain.{Domain}
use Rattle.design_ir.specs.declared.port.Column.{Column}
use Rattle.design_ir.specs.declared.event.Event.{Event}
use Rattle.design_ir.specs.declared.event.Event.TheVariants.{Set, Edge}
use Rattle.design_ir.specs.Circuits.{Circuit, is_input}
use Rattle.design_ir.specs.Legal.{IsLegal, AllLegal, Ascending}
use Rattle.play_text.specs.declared.board.Shown.{Shown}
use Rattle.play_text.specs.declared.script_saying.Saying.{Saying}
use Rattle.play_text.specs.declared.script_saying.Saying.TheVariants.{Nothing, Asks, Bad}
use Rattle.play_text.specs.TextLines.{Line, lines_in}
use Rattle.play_text.specs.Boards.{board_of, shown_of, is_clock}
use Rattle.play_text.specs.Script.{script_events, events_from, most_bytes, most_events, says, asking, event_of, said_at, with_event, left_behind, content, is_passed, words_in, set_event, set_to, settable, integer_of, holds, edge_event, is_word, is_domain, all_apart, named_domains}
use Rattle.play_text.specs.ScriptParts.{is_settable_as}
use Rattle.play_text.proofs.ScriptEdgeLaws.{named, not_true}

-- what an option goes on with
record Goes {T U : Type 0} (f : T → Option U) (o : Option T) (y : U) : Type 0 where
  from : T
  is : o ≡ Some from
  to : f from ≡ Some y

goes : {T U : Type 0} (f : T → Option U) (o : Option T) (y : U) → option_and_then f o ≡ Some y → Goes f o y
goes f None y h = absurd (cc)
goes f (Some x) y h = record { from = x; is = refl; to = h }

-- ---- `set NAME VALUE`

-- a number that a shape holds is one of its numbers
pub holds-IsOf : (f : Form) (z : ℤ) → holds f z ≡ true → IsOf f.signed f.width z
holds-IsOf f (pos n) h = here f.signed h
  where
    here : (s : Bool) → cond s (nat_lt (2 * n) (2 ^ f.width)) (nat_lt n (2 ^ f.width)) ≡ true → IsOf s f.width (pos n)
    here true k = grind (arith, nat_tests)
    here false k = grind (arith, nat_tests)
holds-IsOf f (negsuc n) h = here f.signed h
  where
    here : (s : Bool) → (s && nat_lt (2 * n + 1) (2 ^ f.width)) ≡ true → IsOf s f.width (negsuc n)
    here true k = grind (arith, nat_tests)
    here false k = absurd (false≢true k)

-- the column that passes a test
record Found (c : Circuit) (p : Shown → Bool) (x : Shown) : Type 0 where
  column : Column
  is : x ≡ shown_of c column
  passes : p x ≡ true

found : (c : Circuit) (p : Shown → Bool) (columns : List Column) (x : Shown) → find p (map (shown_of c) columns) ≡ Some x → Found c p x
found c p [] x h = absurd (cc)
found c p (k ∷ ks) x h = here (p (shown_of c k)) refl h (λ j. found c p ks x j)
  where
    here : (t : Bool) → p (shown_of c k) ≡ t → cond t (Some (shown_of c k)) (find p (map (shown_of c) ks)) ≡ Some x → (find p (map (shown_of c) ks) ≡ Some x → Found c p x) → Found c p x
    here true e j more =
        let same : shown_of c k ≡ x = cc in
        record { column = k; is = sym same; passes = subst (λ (y : Shown). p y ≡ true) same e }
    here false e j more = more j

-- a settable column takes a number of its shape
set_to-legal : (c : Circuit) (name : List ℕ) (x : Shown) (z : ℤ) (e : Event) → Found c (is_settable_as name) x → set_to x z ≡ Some e → IsLegal c e
set_to-legal c name x z e f h = here (holds x.shape z) refl h
  where
    of_column : (k : Column) → is_settable_as name (shown_of c k) ≡ true → holds (shown_of c k).shape z ≡ true → IsLegal c (Set k.sig z)
    of_column k may fits =
        let both = (and_parts (is_input c k.sig.0 && not (is_clock c k.sig.0)) (bytes_eq k.name name) may).0 in
        ((and_parts (is_input c k.sig.0) (not (is_clock c k.sig.0)) both).0, not_true (is_clock c k.sig.0) ((and_parts (is_input c k.sig.0) (not (is_clock c k.sig.0)) both).1), holds-IsOf (shown_of c k).shape z fits)

    here : (t : Bool) → holds x.shape z ≡ t → cond t (Some (Set x.sig z)) None ≡ Some e → IsLegal c e
    here false q j = absurd (cc)
    here true q j =
        let same : Set x.sig z ≡ e = cc in
        let legal : IsLegal c (Set x.sig z) =
        subst (λ (y : Shown). IsLegal c (Set y.sig z)) (sym f.is)
        (of_column f.column (ap (is_settable_as name) (sym f.is) ∙ f.passes) (ap (λ (y : Shown). holds y.shape z) (sym f.is) ∙ q)) in
        subst (λ (y : Event). IsLegal c y) same legal

set_event-legal : (c : Circuit) (ws : List (List ℕ)) (e : Event) → set_event (board_of c) ws ≡ Some e → IsLegal c e
set_event-legal c [] e h = absurd (cc)
set_event-legal c (name ∷ []) e h = absurd (cc)
set_event-legal c (name ∷ value ∷ []) e h =
    let column = goes (λ x. option_and_then (set_to x) (integer_of value)) (settable (board_of c) name) e h in
    let number = goes (set_to column.from) (integer_of value) e column.to in
    set_to-legal c name column.from number.from e (found c (is_settable_as name) c.columns column.from column.is) number.to
set_event-legal c (name ∷ value ∷ more ∷ rest) e h = absurd (cc)

-- ---- `edge NAME ..`

-- the numbers of named domains, of those from number n on
abbrev named_from : List (List ℕ) → ℕ → List Domain → List DomainId
named_from ws n ds = filter_map (named ws) (enumerate_from n ds)

named_within : (ws : List (List ℕ)) (n most : ℕ) (ds : List Domain) → n + length ds ≤ most → AllByRecursion (λ (k : DomainId). k.0 < most) (named_from ws n ds)
named_within ws n most [] h = tt
named_within ws n most (d ∷ ds) h = here (is_word ws d.name) (named_within ws (n + 1) most ds (omega arith))
  where
    here : (t : Bool) → AllByRecursion (λ (k : DomainId). k.0 < most) (named_from ws (n + 1) ds) → AllByRecursion (λ (k : DomainId). k.0 < most) (cons_option (cond t (Some (record { 0 = n })) None) (named_from ws (n + 1) ds))
    here true rest = (omega arith, rest)
    here false rest = rest

named_ascending : (ws : List (List ℕ)) (n least : ℕ) (ds : List Domain) → least ≤ n → Ascending least (named_from ws n ds)
named_ascending ws n least [] h = tt
named_ascending ws n least (d ∷ ds) h = here (is_word ws d.name) (named_ascending ws (n + 1) (suc n) ds (omega arith)) (named_ascending ws (n + 1) least ds (omega arith))
  where
    here : (t : Bool) → Ascending (suc n) (named_from ws (n + 1) ds) → Ascending least (named_from ws (n + 1) ds) → Ascending least (cons_option (cond t (Some (record { 0 = n })) None) (named_from ws (n + 1) ds))
    here true past rest = (h, past)
    here false past rest = rest

-- a domain of the first word is among them
named_some : (w : List ℕ) (ws : List (List ℕ)) (n : ℕ) (ds : List Domain) → list_any (λ (d : Domain). bytes_eq d.name w) ds ≡ true → named_from (w ∷ ws) n ds ≢ []
named_some w ws n [] h = absurd (false≢true h)
named_some w ws n (d ∷ ds) h = here (bytes_eq d.name w) h (λ j. named_some w ws (n + 1) ds j)
  where
    later : (t : Bool) → named_from (w ∷ ws) (n + 1) ds ≢ [] → cons_option (cond t (Some (record { 0 = n })) None) (named_from (w ∷ ws) (n + 1) ds) ≢ []
    later true some e = absurd (cc)
    later false some e = some e

    here : (t : Bool) → (t || list_any (λ (x : Domain). bytes_eq x.name w) ds) ≡ true → (list_any (λ (x : Domain). bytes_eq x.name w) ds ≡ true → named_from (w ∷ ws) (n + 1) ds ≢ [])
        → cons_option (cond (t || list_any (bytes_eq d.name) ws) (Some (record { 0 = n })) None) (named_from (w ∷ ws) (n + 1) ds) ≢ []
    here true j more = λ e. absurd (cc)
    here false j more = later (list_any (bytes_eq d.name) ws) (more j)

edge_event-legal : (c : Circuit) (ws : List (List ℕ)) (e : Event) → edge_event (board_of c) ws ≡ Some e → IsLegal c e
edge_event-legal c [] e h = absurd (cc)
edge_event-legal c (w ∷ ws) e h = here (list_all (is_domain (board_of c)) (w ∷ ws)) refl (all_apart (w ∷ ws)) h
  where
    here : (s : Bool) → list_all (is_domain (board_of c)) (w ∷ ws) ≡ s → (t : Bool) → cond (s && t) (Some (Edge (named_domains (board_of c) (w ∷ ws)))) None ≡ Some e → IsLegal c e
    here false q t j = absurd (cc)
    here true q false j = absurd (cc)
    here true q true j =
        let same : Edge (named_domains (board_of c) (w ∷ ws)) ≡ e = cc in
        let known : is_domain (board_of c) w ≡ true = (and_parts (is_domain (board_of c) w) (list_all (is_domain (board_of c)) ws) q).0 in
        let legal : IsLegal c (Edge (named_domains (board_of c) (w ∷ ws))) = (named_some w ws 0 c.domains known, named_within (w ∷ ws) 0 (length c.domains) c.domains (omega arith), named_ascending (w ∷ ws) 0 0 c.domains (omega arith)) in
        subst (λ (y : Event). IsLegal c y) same legal

-- ---- lines

event_of-legal : (c : Circuit) (ws : List (List ℕ)) (e : Event) → event_of (board_of c) ws ≡ Some e → IsLegal c e
event_of-legal c [] e h = absurd (cc)
event_of-legal c (kind ∷ words) e h = here (bytes_eq kind (codes "set")) (bytes_eq kind (codes "edge")) h
  where
    here : (s t : Bool) → cond s (set_event (board_of c) words) (cond t (edge_event (board_of c) words) None) ≡ Some e → IsLegal c e
    here true t j = set_event-legal c words e j
    here false true j = edge_event-legal c words e j
    here false false j = absurd (cc)

says-legal : (c : Circuit) (line : List ℕ) (e : Event) → says (board_of c) line ≡ Asks e → IsLegal c e
says-legal c line e h = here (is_passed line) (event_of (board_of c) (words_in line)) refl h
  where
    here : (t : Bool) (o : Option Event) → event_of (board_of c) (words_in line) ≡ o → cond t Nothing (asking o) ≡ Asks e → IsLegal c e
    here true o q j = absurd (cc)
    here false None q j = absurd (cc)
    here false (Some d) q j =
        let same : d ≡ e = cc in
        event_of-legal c (words_in line) e (q ∙ ap (λ (y : Event). Some y) same)

said_at-legal : (c : Circuit) (n left : ℕ) (s : Saying) (r : Result (List Event) ℕ) (es : List Event)
    → ((e : Event) → s ≡ Asks e → IsLegal c e) → ((xs : List Event) → r ≡ Ok xs → AllLegal c xs) → said_at n left s r ≡ Ok es → AllLegal c es
said_at-legal c n left Nothing r es one more h = more es h
said_at-legal c n left Bad r es one more h = absurd (cc)
said_at-legal c n left (Asks e) r es one more h = here (left == 0) r more h
  where
    here : (t : Bool) (q : Result (List Event) ℕ) → ((xs : List Event) → q ≡ Ok xs → AllLegal c xs) → cond t (Err n) (with_event e q) ≡ Ok es → AllLegal c es
    here true q later j = absurd (cc)
    here false (Err m) later j = absurd (cc)
    here false (Ok xs) later j =
        let same : e ∷ xs ≡ es = cc in
        subst (λ (ys : List Event). AllLegal c ys) same (one e refl, later xs refl)

events_from-legal : (c : Circuit) (n room left : ℕ) (ls : List Line) (es : List Event) → events_from (board_of c) n room left ls ≡ Ok es → AllLegal c es
events_from-legal c n room left [] es h = let same : [] ≡ es = cc in subst (λ (ys : List Event). AllLegal c ys) same tt
events_from-legal c n room left (l ∷ ls) es h =
    here (nat_lt room (length l)) h (λ k xs j. events_from-legal c (suc n) (room - length l) k ls xs j)
  where
    here : (t : Bool)
        → cond t (Err n) (said_at n left (says (board_of c) (content l)) (events_from (board_of c) (suc n) (room - length l) (left_behind (says (board_of c) (content l)) left) ls)) ≡ Ok es
        → ((k : ℕ) (xs : List Event) → events_from (board_of c) (suc n) (room - length l) k ls ≡ Ok xs → AllLegal c xs) → AllLegal c es
    here true j later = absurd (cc)
    here false j later =
        said_at-legal c n left (says (board_of c) (content l)) _ es (says-legal c (content l)) (later (left_behind (says (board_of c) (content l)) left)) j

-- a script that is accepted has legal events alone
pub script_events-legal : (c : Circuit) (text : List ℕ) (es : List Event) → script_events (board_of c) text ≡ Ok es → AllLegal c es
unfolding script_events
script_events-legal c text es e = events_from-legal c 1 most_bytes most_events (lines_in text) es e
