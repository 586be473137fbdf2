-- Every rule of expressions is read exactly, within any number of brackets.
use Rattle.std.proofs.Common.{◌≡◌, ℕ, ◌<◌, ◌≤◌, ◌+◌, suc, zero, refl, sym, ap, subst, ◌∙◌, List, [], ◌∷◌, ◌++◌, append_assoc, length, Option, Some, None, arith, inl, inr}
use Rattle.std.specs.Prelude.{◌⊎◌, Bool, true, false, ◌==◌, ◌&&◌, ◌||◌, codes, is_some}
use Rattle.lists.specs.Texts.{text_eq}
use Rattle.amh_host.specs.declared.place.Place.{Place}
use Rattle.py_tree.specs.declared.expr.Operator.{Operator}
use Rattle.py_tree.specs.declared.expr.Operator.TheVariants as op
use Rattle.py_tree.specs.declared.expr.Sign.{Sign}
use Rattle.py_tree.specs.Tree.{Tree}
use Rattle.py_grammar.specs.declared.word.Word.{Word}
use Rattle.py_grammar.specs.declared.word.Mark.{Mark}
use Rattle.py_grammar.specs.declared.word.Mark.TheVariants as mark
use Rattle.py_grammar.specs.declared.word.Kind.{Kind}
use Rattle.py_grammar.specs.declared.word.Kind.TheVariants.{Target as a_target, Unary as a_unary, Not as a_not, Or as an_or, Expr as an_expr}
use Rattle.py_grammar.specs.Words.{word, next, next_sign, next_key, keyword_of, sign_of, valued}
use Rattle.py_grammar.specs.Values.{unary_of, sign_at, key_at}
use Rattle.py_grammar.specs.Forms.{Signed, Keyed, One, ◌▸◌, ◌∣◌, Made, Such, Maybe, not_there, there, Many, no_more, one_more}
use Rattle.py_grammar.specs.Readers.{Read, one, sign, key, ◌▹◌, made, maybe, such, many}
use Rattle.py_grammar.specs.Seen.{Seen, Deep, and_one, all_of, await_seen, power_fits, power_seen, unary_seen, not_seen, link_seen, chain_seen, choice_fits, choice_seen, seen_is_target, name_seen}
use Rattle.py_grammar.specs.Grammar.{Primary, Awaited, PowerRule, UnaryRule, Worded, Op, Chain, Level, NotRule, OrRule, ExprRule, TargetRule, rule, Within}
use Rattle.py_grammar.specs.Reading.{Inner, primary, awaited, power, unary, if_not, starts_worded, worded, is_operator, operator, link, chain, level, operand, negated, either, choice_part, expr, target, by_kind, inner}
use Rattle.py_grammar.proofs.Exact.{Exact, Any, exact_sign, exact_key, exact_one, exact_then, exact_made, exact_choose, exact_such, exact_maybe, text_same}
use Rattle.py_grammar.proofs.Runs.{Runs, exact_many}
use Rattle.py_grammar.proofs.Ends.{lead, mark_lead, sign_lead, key_lead, Key_first, sign_by_rank, key_by_rank, key_by_lead, operator_rank, no_operator, refuted, if_is_some, six_is}
use Rattle.py_grammar.proofs.Lists.{After, kind_rank, Knows, exact_weaken, then_first, signed_first, keyed_first, keyed_is, sign_after, key_after, sign_there, key_there}
use Rattle.py_grammar.proofs.Atoms.{one_lead}
use Rattle.py_grammar.proofs.Alone.{primary_expr}
use Rattle.py_grammar.proofs.Primaries.{exact_primary, primary_leads}

-- ---- `await`, `**` and signs before one operand

pub key_leads : (s : List ℕ) (n : ℕ) (ws : List Word) → key_lead s ≤ n → Key_first s ws → lead ws ≤ n
key_leads s n ws h f = subst (λ z. z ≤ n) (sym (ap lead f.whole)) h

exact_awaited : (I : Kind → List Word → Seen → Type 0) (i : Inner) → Knows I i → Exact (After 0) (Awaited I) (awaited i)
unfolding awaited
exact_awaited I i kn = exact_choose (After 0) (next_key (codes "await")) (Made await_seen (Keyed (codes "await") ▸ Primary I)) (Primary I) (made await_seen (key (codes "await") ▹ primary i)) (primary i)
    (exact_made (After 0) await_seen (Keyed (codes "await") ▸ Primary I) (key (codes "await") ▹ primary i) (exact_then Any (After 0) (Keyed (codes "await")) (Primary I) (key (codes "await")) (primary i) (exact_key (codes "await")) (exact_primary I i kn) (λ us b r d h. tt)))
    (exact_primary I i kn)
    (λ ws a r d h. key_there (codes "await") (ws ++ r) (keyed_first (codes "await") (Primary I) ws d.from r d.derived))
    (λ ws a r d h. key_by_lead (codes "await") (ws ++ r) 0 (primary_leads I ws a r d) (omega arith))

awaited_leads : (I : Kind → List Word → Seen → Type 0) (ws : List Word) (e : Seen) (r : List Word) → Awaited I ws e → lead (ws ++ r) ≤ 1
awaited_leads I ws e r (inl d) = key_leads (codes "await") 1 (ws ++ r) (omega arith) (keyed_first (codes "await") (Primary I) ws d.from r d.derived)
awaited_leads I ws e r (inr d) = let h = primary_leads I ws e r d in omega arith

power_on : (I : Kind → List Word → Seen → Type 0) (us : List Word) (o : Option (Place × Seen)) (r : List Word) → Maybe (Signed (codes "**") ▸ I a_unary) us o → After 1 r → After 0 (us ++ r)
power_on I us o r (not_there) h = omega arith
power_on I us o r (there {x = x} d) h = sign_after (codes "**") 0 (us ++ r) (omega arith) (signed_first (codes "**") (I a_unary) us x r d)

exact_power : (I : Kind → List Word → Seen → Type 0) (i : Inner) (room : ℕ) → Knows I i → Exact (After 1) (PowerRule I room) (power i room)
unfolding power
exact_power I i room kn = exact_made (After 1) power_seen (Such (power_fits room) (Awaited I ▸ Maybe (Signed (codes "**") ▸ I a_unary))) _ (exact_such (After 1) (power_fits room) (Awaited I ▸ Maybe (Signed (codes "**") ▸ I a_unary)) _
    (exact_then (After 0) (After 1) (Awaited I) (Maybe (Signed (codes "**") ▸ I a_unary)) (awaited i) (maybe (next_sign (codes "**")) (sign (codes "**") ▹ i a_unary)) (exact_awaited I i kn)
    (exact_maybe (After 1) (After 1) (next_sign (codes "**")) (Signed (codes "**") ▸ I a_unary) (sign (codes "**") ▹ i a_unary)
    (exact_then Any (After 1) (Signed (codes "**")) (I a_unary) (sign (codes "**")) (i a_unary) (exact_sign (codes "**")) (kn.exact a_unary) (λ us b r d h. tt))
    (λ r h. h) (λ ws x r d h. sign_there (codes "**") (ws ++ r) (signed_first (codes "**") (I a_unary) ws x r d)) (λ r h. sign_by_rank (codes "**") r 1 h (omega arith)))
    (power_on I)))

power_leads : (I : Kind → List Word → Seen → Type 0) (room : ℕ) (ws : List Word) (e : Seen) (r : List Word) → PowerRule I room ws e → lead (ws ++ r) ≤ 1
power_leads I room ws e r d = then_first (λ ws. lead ws ≤ 1) (Awaited I) (Maybe (Signed (codes "**") ▸ I a_unary)) (awaited_leads I) ws d.from r d.derived.derived

lead_at : (s t : List ℕ) → text_eq s t ≡ true → sign_lead s ≡ sign_lead t
lead_at s t h = ap sign_lead (text_same s t h)

unary_lead_is : (m : Mark) → is_some (valued sign_of unary_of m) ≡ true → mark_lead m ≡ 2
unary_lead_is (mark.Sign s) h = elim (if_is_some (text_eq s (codes "-")) _ _ h) [
  | inl e ↦ lead_at s (codes "-") e
  | inr h ↦
      elim (if_is_some (text_eq s (codes "+")) _ _ h) [
        | inl e ↦ lead_at s (codes "+") e
        | inr h ↦
            elim (if_is_some (text_eq s (codes "~")) _ _ h) [ inl e ↦ lead_at s (codes "~") e | inr h ↦ cc ]
      ]
]
unary_lead_is (mark.Name s) h = cc
unary_lead_is (mark.Keyword s) h = cc
unary_lead_is (mark.Number n) h = cc
unary_lead_is (mark.Decimal d) h = cc
unary_lead_is (mark.Str s) h = cc
unary_lead_is (mark.Format s) h = cc
unary_lead_is mark.Other h = cc

no_unary : (ws : List Word) → lead ws ≤ 1 → next (λ m. is_some (valued sign_of unary_of m)) ws ≡ false
no_unary [] h = refl
no_unary (w ∷ r) h = refuted (is_some (valued sign_of unary_of w.mark)) (λ t. let e = unary_lead_is w.mark t in omega arith)

unary_there : (ws : List Word) (x : Place × Sign) (r : List Word) → One (valued sign_of unary_of) ws x → next (λ m. is_some (valued sign_of unary_of m)) (ws ++ r) ≡ true
unary_there ws x r d = ap (λ z. next (λ m. is_some (valued sign_of unary_of m)) (z ++ r)) d.whole ∙ ap is_some d.valued

exact_unary : (I : Kind → List Word → Seen → Type 0) (i : Inner) (room : ℕ) → Knows I i → Exact (After 1) (UnaryRule I room) (unary i room)
unfolding unary
exact_unary I i room kn = exact_choose (After 1) (next (λ m. is_some (valued sign_of unary_of m))) (Made unary_seen (One (valued sign_of unary_of) ▸ I a_unary)) (PowerRule I room) (made unary_seen (one (valued sign_of unary_of) ▹ i a_unary)) (power i room)
    (exact_made (After 1) unary_seen (One (valued sign_of unary_of) ▸ I a_unary) (one (valued sign_of unary_of) ▹ i a_unary) (exact_then Any (After 1) (One (valued sign_of unary_of)) (I a_unary) (one (valued sign_of unary_of)) (i a_unary) (exact_one (valued sign_of unary_of)) (kn.exact a_unary) (λ us b r d h. tt)))
    (exact_power I i room kn)
    (λ ws a r d h. then_first (λ ws. next (λ m. is_some (valued sign_of unary_of m)) ws ≡ true) (One (valued sign_of unary_of)) (I a_unary) unary_there ws d.from r d.derived)
    (λ ws a r d h. no_unary (ws ++ r) (power_leads I room ws a r d))

sign_mark_leads : (m : Mark) (a : Sign) → valued sign_of unary_of m ≡ Some a → mark_lead m ≤ 2
sign_mark_leads m a h = let e = unary_lead_is m (ap is_some h) in omega arith

unary_leads : (I : Kind → List Word → Seen → Type 0) (room : ℕ) (ws : List Word) (e : Seen) (r : List Word) → UnaryRule I room ws e → lead (ws ++ r) ≤ 2
unary_leads I room ws e r (inl d) = then_first (λ ws. lead ws ≤ 2) (One (valued sign_of unary_of)) (I a_unary) (λ us a r d. one_lead (valued sign_of unary_of) 2 sign_mark_leads us a r d) ws d.from r d.derived
unary_leads I room ws e r (inr d) = let h = power_leads I room ws e r d in omega arith

-- ---- operators

lead_no_not : (n : ℕ) (ws : List Word) → n ≤ 2 → lead ws ≤ n → next_key (codes "not") ws ≡ false
lead_no_not n ws a h = key_by_lead (codes "not") ws n h (omega arith)

-- `not` may not follow a comparison
abbrev No_not : ℕ → List Word → Type 0
No_not k r = (k == 6) ≡ true → next_key (codes "not") r ≡ false

abbrev Plain_not : List Word → Type 0
Plain_not r = next_key (codes "not") r ≡ false

-- the words of `is` and `is not`, as one rule
abbrev Is_rule : List Word → Operator → Type 0
Is_rule = Made (λ x. if_not x.1) (Keyed (codes "is") ▸ Maybe (Keyed (codes "not")))

is_split : (ws : List Word) (o : Operator) → (Made (λ x. op.IsNot) (Keyed (codes "is") ▸ Keyed (codes "not")) ∣ Made (λ x. op.Is) (Keyed (codes "is"))) ws o → Is_rule ws o
is_split ws o (inl d) = let t = d.derived in record { from = (d.from.0, Some d.from.1); derived = record { front = t.front; back = t.back; whole = t.whole; first = t.first; second = there t.second }; is = d.is }
is_split ws o (inr d) = record { from = (d.from, None); derived = record { front = ws; back = []; whole = append_nil ws; first = d.derived; second = not_there }; is = d.is }
  where
    append_nil : (ws : List Word) → ws ≡ ws ++ []
    append_nil [] = refl
    append_nil (w ∷ ws) = ap (λ z. w ∷ z) (append_nil ws)

is_join_by : (front back ws : List Word) (p : Place) (q : Option Place) (o : Operator) → ws ≡ front ++ back → Keyed (codes "is") front p → Maybe (Keyed (codes "not")) back q → o ≡ if_not q → (Made (λ x. op.IsNot) (Keyed (codes "is") ▸ Keyed (codes "not")) ∣ Made (λ x. op.Is) (Keyed (codes "is"))) ws o
is_join_by front back ws p q o w f (not_there) e = inr record { from = p; derived = record { whole = w ∙ (ap (λ z. z ++ []) f.whole) }; is = e }
is_join_by front back ws p q o w f (there {x = x} m) e = inl record { from = (p, x); derived = record { front = front; back = back; whole = w; first = f; second = m }; is = e }

is_join : (ws : List Word) (o : Operator) → Is_rule ws o → (Made (λ x. op.IsNot) (Keyed (codes "is") ▸ Keyed (codes "not")) ∣ Made (λ x. op.Is) (Keyed (codes "is"))) ws o
is_join ws o d = let t = d.derived in is_join_by t.front t.back ws d.from.0 d.from.1 o t.whole t.first t.second d.is

exact_same : {A : Type 0} (E : List Word → Type 0) (D F : List Word → A → Type 0) (rd : Read A) → ((ws : List Word) (a : A) → D ws a → F ws a) → ((ws : List Word) (a : A) → F ws a → D ws a) → Exact E D rd → Exact E F rd
exact_same E D F rd f g e = record { sound = λ ws a r h. let x = e.sound ws a r h in record { front = x.front; split = x.split; derived = f x.front a x.derived }; complete = λ ws a r d h. e.complete ws a r (g ws a d) h }

exact_is : Exact Plain_not Is_rule (made (λ x. if_not x.1) (key (codes "is") ▹ maybe (next_key (codes "not")) (key (codes "not"))))
exact_is = exact_made Plain_not (λ x. if_not x.1) (Keyed (codes "is") ▸ Maybe (Keyed (codes "not"))) _ (exact_then Any Plain_not (Keyed (codes "is")) (Maybe (Keyed (codes "not"))) (key (codes "is")) _ (exact_key (codes "is"))
    (exact_maybe Any Plain_not (next_key (codes "not")) (Keyed (codes "not")) (key (codes "not")) (exact_key (codes "not")) (λ r h. tt) (λ ws p r d h. key_there (codes "not") (ws ++ r) (keyed_is (codes "not") ws p r d)) (λ r h. h))
    (λ us b r d h. tt))

worded_first : (ws : List Word) (o : Operator) (r : List Word) → (Made (λ x. op.IsNot) (Keyed (codes "is") ▸ Keyed (codes "not")) ∣ Made (λ x. op.Is) (Keyed (codes "is"))) ws o → Key_first (codes "is") (ws ++ r)
worded_first ws o r (inl d) = keyed_first (codes "is") (Keyed (codes "not")) ws d.from r d.derived
worded_first ws o r (inr d) = keyed_is (codes "is") ws d.from r d.derived

exact_worded : Exact Plain_not Worded worded
unfolding worded
exact_worded = exact_choose Plain_not (next_key (codes "not")) (Made (λ x. op.NotIn) (Keyed (codes "not") ▸ Keyed (codes "in"))) (Made (λ x. op.IsNot) (Keyed (codes "is") ▸ Keyed (codes "not")) ∣ Made (λ x. op.Is) (Keyed (codes "is"))) _ _
    (exact_made Plain_not (λ x. op.NotIn) (Keyed (codes "not") ▸ Keyed (codes "in")) (key (codes "not") ▹ key (codes "in")) (exact_then Any Plain_not (Keyed (codes "not")) (Keyed (codes "in")) (key (codes "not")) (key (codes "in")) (exact_key (codes "not")) (exact_weaken Any Plain_not (Keyed (codes "in")) (key (codes "in")) (exact_key (codes "in")) (λ r h. tt)) (λ us b r d h. tt)))
    (exact_same Plain_not Is_rule (Made (λ x. op.IsNot) (Keyed (codes "is") ▸ Keyed (codes "not")) ∣ Made (λ x. op.Is) (Keyed (codes "is"))) _ is_join is_split exact_is)
    (λ ws a r d h. key_there (codes "not") (ws ++ r) (keyed_first (codes "not") (Keyed (codes "in")) ws d.from r d.derived))
    (λ ws a r d h. ap (next_key (codes "not")) (worded_first ws a r d).whole)

abbrev sign_test : ℕ → Mark → Bool
sign_test k m = is_some (valued sign_of (sign_at k) m)

abbrev key_test : ℕ → Mark → Bool
key_test k m = is_some (valued keyword_of (key_at k) m)

one_passes : {A : Type 0} (value : Mark → Option A) (ws : List Word) (x : Place × A) (r : List Word) → One value ws x → next (λ m. is_some (value m)) (ws ++ r) ≡ true
one_passes value ws x r d = ap (λ z. next (λ m. is_some (value m)) (z ++ r)) d.whole ∙ ap is_some d.valued

no_sign_mark : (k : ℕ) (m : Mark) (a : Operator) → valued keyword_of (key_at k) m ≡ Some a → sign_test k m ≡ false
no_sign_mark k (mark.Keyword s) a h = refl
no_sign_mark k (mark.Sign s) a h = cc
no_sign_mark k (mark.Name s) a h = refl
no_sign_mark k (mark.Number n) a h = refl
no_sign_mark k (mark.Decimal d) a h = refl
no_sign_mark k (mark.Str s) a h = refl
no_sign_mark k (mark.Format s) a h = refl
no_sign_mark k mark.Other a h = refl

pub worded_word : (ws : List Word) (o : Operator) (r : List Word) → Worded ws o → (Key_first (codes "not") (ws ++ r)) ⊎ (Key_first (codes "is") (ws ++ r))
worded_word ws o r (inl d) = inl (keyed_first (codes "not") (Keyed (codes "in")) ws d.from r d.derived)
worded_word ws o r (inr d) = inr (worded_first ws o r d)

worded_no_key : (k : ℕ) (ws : List Word) (o : Operator) (r : List Word) → Such (λ x. k == 6) Worded ws o → next (key_test k) (ws ++ r) ≡ false
worded_no_key k ws o r d = let e = six_is k d.passes in subst (λ k. next (key_test k) (ws ++ r) ≡ false) (sym e) (elim (worded_word ws o r d.derived) [ inl f ↦ ap (next (key_test 6)) f.whole | inr f ↦ ap (next (key_test 6)) f.whole ])

worded_no_sign : (k : ℕ) (ws : List Word) (o : Operator) (r : List Word) → Worded ws o → next (sign_test k) (ws ++ r) ≡ false
worded_no_sign k ws o r d = elim (worded_word ws o r d) [ inl f ↦ ap (next (sign_test k)) f.whole | inr f ↦ ap (next (sign_test k)) f.whole ]

-- what a comparison in words needs behind it is asked of comparisons alone
exact_worded_at : (k : ℕ) → Exact (No_not k) (Such (λ x. k == 6) Worded) (such (λ x. k == 6) worded)
exact_worded_at k = record {
  sound = (exact_such Plain_not (λ x. k == 6) Worded worded exact_worded).sound;
  complete = λ ws a r d h. (exact_such Plain_not (λ x. k == 6) Worded worded exact_worded).complete ws a r d (h d.passes);
}

exact_operator : (k : ℕ) → Exact (No_not k) (Op k) (operator k)
unfolding operator
exact_operator k = exact_choose (No_not k) (next (sign_test k)) (Made (λ x. x.1) (One (valued sign_of (sign_at k)))) (Made (λ x. x.1) (One (valued keyword_of (key_at k))) ∣ Such (λ x. k == 6) Worded) _ _
    (exact_weaken Any (No_not k) _ _ (exact_made Any (λ x. x.1) (One (valued sign_of (sign_at k))) (one (valued sign_of (sign_at k))) (exact_one (valued sign_of (sign_at k)))) (λ r h. tt))
    (exact_choose (No_not k) (next (key_test k)) (Made (λ x. x.1) (One (valued keyword_of (key_at k)))) (Such (λ x. k == 6) Worded) _ _
    (exact_weaken Any (No_not k) _ _ (exact_made Any (λ x. x.1) (One (valued keyword_of (key_at k))) (one (valued keyword_of (key_at k))) (exact_one (valued keyword_of (key_at k)))) (λ r h. tt))
    (exact_worded_at k)
    (λ ws a r d h. one_passes (valued keyword_of (key_at k)) ws d.from r d.derived)
    (λ ws a r d h. worded_no_key k ws a r d))
    (λ ws a r d h. one_passes (valued sign_of (sign_at k)) ws d.from r d.derived)
    (λ ws a r d h. later k ws a r d)
  where
    later : (k : ℕ) (ws : List Word) (a : Operator) (r : List Word) → (Made (λ x. x.1) (One (valued keyword_of (key_at k))) ∣ Such (λ x. k == 6) Worded) ws a → next (sign_test k) (ws ++ r) ≡ false
    later k ws a r (inl d) = let o = d.derived in ap (λ z. next (sign_test k) (z ++ r)) o.whole ∙ no_sign_mark k o.mark_is d.from.1 o.valued
    later k ws a r (inr d) = worded_no_sign k ws a r d.derived

or_first : (a b : Bool) → a ≡ true → (a || b) ≡ true
or_first a b h = ap (λ z. z || b) h

or_second : (a b : Bool) → b ≡ true → (a || b) ≡ true
or_second true b h = refl
or_second false b h = h

worded_mark : (k : ℕ) (r : List Word) (ws : List Word) → ((k == 6) ≡ true) → (Key_first (codes "not") ws) ⊎ (Key_first (codes "is") ws) → is_operator k ws ≡ true
unfolding is_operator
worded_mark k r ws h (inl f) = ap (is_operator k) f.whole ∙ or_second (key_test k (mark.Keyword (codes "not"))) ((k == 6) && true) (ap (λ z. z && true) h)
worded_mark k r ws h (inr f) = ap (is_operator k) f.whole ∙ or_second (key_test k (mark.Keyword (codes "is"))) ((k == 6) && true) (ap (λ z. z && true) h)

op_goes : (k : ℕ) (ws : List Word) (o : Operator) (r : List Word) → Op k ws o → is_operator k (ws ++ r) ≡ true
unfolding is_operator
op_goes k ws o r (inl d) = let x = d.derived in ap (λ z. is_operator k (z ++ r)) x.whole ∙ or_first (sign_test k x.mark_is || key_test k x.mark_is) ((k == 6) && starts_worded x.mark_is) (or_first (sign_test k x.mark_is) (key_test k x.mark_is) (ap is_some x.valued))
op_goes k ws o r (inr (inl d)) = let x = d.derived in ap (λ z. is_operator k (z ++ r)) x.whole ∙ or_first (sign_test k x.mark_is || key_test k x.mark_is) ((k == 6) && starts_worded x.mark_is) (or_second (sign_test k x.mark_is) (key_test k x.mark_is) (ap is_some x.valued))
op_goes k ws o r (inr (inr d)) = worded_mark k r (ws ++ r) d.passes (worded_word ws o r d.derived)

nothing_operates : (k : ℕ) → is_operator k [] ≡ false
unfolding is_operator
nothing_operates k = refl

-- ---- chains

link_goes : (k : ℕ) (D : List Word → Seen → Type 0) (ws : List Word) (x : Deep (Operator × Tree)) (r : List Word) → Made link_seen (Op k ▸ D) ws x → is_operator k (ws ++ r) ≡ true
link_goes k D ws x r d = then_first (λ ws. is_operator k ws ≡ true) (Op k) D (op_goes k) ws d.from r d.derived

link_long : (k : ℕ) (D : List Word → Seen → Type 0) (ws : List Word) (x : Deep (Operator × Tree)) → Made link_seen (Op k ▸ D) ws x → 0 < length ws
link_long k D [] x d = let e = link_goes k D [] x [] d in let n = nothing_operates k in cc
link_long k D (w ∷ ws) x d = omega arith

exact_link : (k : ℕ) (D : List Word → Seen → Type 0) (rd : Read Seen) → Exact (After (k + 1)) D rd → ((ws : List Word) (e : Seen) (r : List Word) → D ws e → No_not k (ws ++ r)) → Exact (After (k + 1)) (Made link_seen (Op k ▸ D)) (link k rd)
unfolding link
exact_link k D rd e n = exact_made (After (k + 1)) link_seen (Op k ▸ D) (operator k ▹ rd) (exact_then (No_not k) (After (k + 1)) (Op k) D (operator k) rd (exact_operator k) e (λ us b r d h. n us b r d))

link_runs : (k : ℕ) (D : List Word → Seen → Type 0) (rd : Read Seen) → Exact (After (k + 1)) D rd → ((ws : List Word) (e : Seen) (r : List Word) → D ws e → No_not k (ws ++ r)) → Runs (After (k + 1)) (After (k + 2)) (Made link_seen (Op k ▸ D)) (is_operator k) (link k rd)
link_runs k D rd e n = record { exact = exact_link k D rd e n; length_there = link_long k D; goes_on = link_goes k D; ends = λ r h. no_operator k r h; at_end = λ r h. omega arith; at_next = λ ws x r d. let q = operator_rank k (ws ++ r) (link_goes k D ws x r d) in omega arith }

links_on : (k : ℕ) (D : List Word → Seen → Type 0) (us : List Word) (xs : List (Deep (Operator × Tree))) (r : List Word) → Many (Made link_seen (Op k ▸ D)) us xs → After (k + 2) r → After (k + 1) (us ++ r)
links_on k D us xs r (no_more) h = omega arith
links_on k D us xs r (one_more {ws = vs} {us = ys} {x = x} d m) h = subst (After (k + 1)) (sym (append_assoc vs ys r)) (let q = operator_rank k (vs ++ (ys ++ r)) (link_goes k D vs x (ys ++ r) d) in omega arith)

pub exact_chain : (k : ℕ) (D : List Word → Seen → Type 0) (rd : Read Seen) → Exact (After (k + 1)) D rd → ((ws : List Word) (e : Seen) (r : List Word) → D ws e → No_not k (ws ++ r)) → Exact (After (k + 2)) (Chain k D) (chain k rd)
unfolding chain
exact_chain k D rd e n = exact_made (After (k + 2)) (chain_seen k) (D ▸ Made all_of (Many (Made link_seen (Op k ▸ D)))) (rd ▹ many (is_operator k) (link k rd) and_one ([], 0))
    (exact_then (After (k + 1)) (After (k + 2)) D (Made all_of (Many (Made link_seen (Op k ▸ D)))) rd (many (is_operator k) (link k rd) and_one ([], 0)) e
    (exact_many (After (k + 1)) (After (k + 2)) (Made link_seen (Op k ▸ D)) (is_operator k) (link k rd) and_one ([], 0) (link_runs k D rd e n))
    (λ us b r d h. links_on k D us d.from r d.derived h))

chain_leads : (n k : ℕ) (D : List Word → Seen → Type 0) → ((ws : List Word) (e : Seen) (r : List Word) → D ws e → lead (ws ++ r) ≤ n) → (ws : List Word) (e : Seen) (r : List Word) → Chain k D ws e → lead (ws ++ r) ≤ n
chain_leads n k D f ws e r d = then_first (λ ws. lead ws ≤ n) D (Made all_of (Many (Made link_seen (Op k ▸ D)))) f ws d.from r d.derived

-- ---- levels

level_leads : (I : Kind → List Word → Seen → Type 0) (room k : ℕ) (ws : List Word) (e : Seen) (r : List Word) → Level I room k ws e → lead (ws ++ r) ≤ 2
level_leads I room zero ws e r d = unary_leads I room ws e r d
level_leads I room (suc k) ws e r d = chain_leads 2 k (Level I room k) (level_leads I room k) ws e r d

exact_level : (I : Kind → List Word → Seen → Type 0) (i : Inner) (room : ℕ) → Knows I i → (k : ℕ) → Exact (After (k + 1)) (Level I room k) (level i room k)
unfolding level
exact_level I i room kn zero = exact_unary I i room kn
exact_level I i room kn (suc k) = exact_weaken (After (k + 2)) (After (suc k + 1)) (Chain k (Level I room k)) (chain k (level i room k)) (exact_chain k (Level I room k) (level i room k) (exact_level I i room kn k) (λ ws e r d six. lead_no_not 2 (ws ++ r) (omega arith) (level_leads I room k ws e r d))) (λ r h. omega arith)

level_seven : (i : Inner) (room : ℕ) → level i room 7 ≡ chain 6 (level i room 6)
unfolding level
level_seven i room = refl

exact_negated : (I : Kind → List Word → Seen → Type 0) (i : Inner) (room : ℕ) → Knows I i → Exact (After 8) (NotRule I room) (negated i room)
unfolding negated level
exact_negated I i room kn = exact_choose (After 8) (next_key (codes "not")) (Made not_seen (Keyed (codes "not") ▸ I a_not)) (Level I room 7) (made not_seen (key (codes "not") ▹ i a_not)) (chain 6 (level i room 6))
    (exact_made (After 8) not_seen (Keyed (codes "not") ▸ I a_not) (key (codes "not") ▹ i a_not) (exact_then Any (After 8) (Keyed (codes "not")) (I a_not) (key (codes "not")) (i a_not) (exact_key (codes "not")) (kn.exact a_not) (λ us b r d h. tt)))
    (exact_level I i room kn 7)
    (λ ws a r d h. key_there (codes "not") (ws ++ r) (keyed_first (codes "not") (I a_not) ws d.from r d.derived))
    (λ ws a r d h. lead_no_not 2 (ws ++ r) (omega arith) (level_leads I room 7 ws a r d))

not_leads : (I : Kind → List Word → Seen → Type 0) (room : ℕ) (ws : List Word) (e : Seen) (r : List Word) → NotRule I room ws e → lead (ws ++ r) ≤ 3
not_leads I room ws e r (inl d) = key_leads (codes "not") 3 (ws ++ r) (omega arith) (keyed_first (codes "not") (I a_not) ws d.from r d.derived)
not_leads I room ws e r (inr d) = let h = level_leads I room 7 ws e r d in omega arith

exact_either : (I : Kind → List Word → Seen → Type 0) (i : Inner) (room : ℕ) → Knows I i → Exact (After 10) (OrRule I room) (either i room)
unfolding either operand
exact_either I i room kn = exact_chain 8 (Chain 7 (NotRule I room)) (chain 7 (negated i room)) (exact_chain 7 (NotRule I room) (negated i room) (exact_negated I i room kn) (λ ws e r d six. cc)) (λ ws e r d six. cc)

or_leads : (I : Kind → List Word → Seen → Type 0) (room : ℕ) (ws : List Word) (e : Seen) (r : List Word) → OrRule I room ws e → lead (ws ++ r) ≤ 3
or_leads I room ws e r d = chain_leads 3 8 (Chain 7 (NotRule I room)) (chain_leads 3 7 (NotRule I room) (not_leads I room)) ws e r d

choice_on : {A : Type 0} (D : List Word → A → Type 0) (us : List Word) (o : Option (Place × A)) (r : List Word) → Maybe (Keyed (codes "if") ▸ D) us o → After 11 r → After 10 (us ++ r)
choice_on D us o r (not_there) h = omega arith
choice_on D us o r (there {x = x} d) h = key_after (codes "if") 10 (us ++ r) (omega arith) (keyed_first (codes "if") D us x r d)

exact_expr : (I : Kind → List Word → Seen → Type 0) (i : Inner) (room : ℕ) → Knows I i → Exact (After 11) (ExprRule I room) (expr i room)
unfolding expr
exact_expr I i room kn = exact_made (After 11) choice_seen (Such (choice_fits room) (OrRule I room ▸ Maybe (Keyed (codes "if") ▸ (I an_or ▸ (Keyed (codes "else") ▸ I an_expr))))) _ (exact_such (After 11) (choice_fits room) (OrRule I room ▸ Maybe (Keyed (codes "if") ▸ (I an_or ▸ (Keyed (codes "else") ▸ I an_expr)))) _
    (exact_then (After 10) (After 11) (OrRule I room) (Maybe (Keyed (codes "if") ▸ (I an_or ▸ (Keyed (codes "else") ▸ I an_expr)))) (either i room) (choice_part i) (exact_either I i room kn)
    (exact_maybe (After 11) (After 11) (next_key (codes "if")) (Keyed (codes "if") ▸ (I an_or ▸ (Keyed (codes "else") ▸ I an_expr))) (key (codes "if") ▹ (i an_or ▹ (key (codes "else") ▹ i an_expr)))
    (exact_then Any (After 11) (Keyed (codes "if")) (I an_or ▸ (Keyed (codes "else") ▸ I an_expr)) (key (codes "if")) (i an_or ▹ (key (codes "else") ▹ i an_expr)) (exact_key (codes "if"))
    (exact_then (After 10) (After 11) (I an_or) (Keyed (codes "else") ▸ I an_expr) (i an_or) (key (codes "else") ▹ i an_expr) (kn.exact an_or)
    (exact_then Any (After 11) (Keyed (codes "else")) (I an_expr) (key (codes "else")) (i an_expr) (exact_key (codes "else")) (kn.exact an_expr) (λ us b r d h. tt))
    (λ us b r d h. key_after (codes "else") 10 (us ++ r) (omega arith) (keyed_first (codes "else") (I an_expr) us b r d)))
    (λ us b r d h. tt))
    (λ r h. h) (λ ws x r d h. key_there (codes "if") (ws ++ r) (keyed_first (codes "if") (I an_or ▸ (Keyed (codes "else") ▸ I an_expr)) ws x r d)) (λ r h. key_by_rank (codes "if") r 11 h (omega arith)))
    (choice_on (I an_or ▸ (Keyed (codes "else") ▸ I an_expr)))))

expr_leads : (I : Kind → List Word → Seen → Type 0) (room : ℕ) (ws : List Word) (e : Seen) (r : List Word) → ExprRule I room ws e → lead (ws ++ r) ≤ 3
expr_leads I room ws e r d = then_first (λ ws. lead ws ≤ 3) (OrRule I room) (Maybe (Keyed (codes "if") ▸ (I an_or ▸ (Keyed (codes "else") ▸ I an_expr)))) (or_leads I room) ws d.from r d.derived.derived

exact_target : (I : Kind → List Word → Seen → Type 0) (i : Inner) → Knows I i → Exact (After 0) (TargetRule I) (target i)
unfolding target
exact_target I i kn = exact_such (After 0) seen_is_target (Primary I) (primary i) (exact_primary I i kn)

exact_kind : (I : Kind → List Word → Seen → Type 0) (i : Inner) (room : ℕ) → Knows I i → (k : Kind) → Exact (After (kind_rank k)) (rule I room k) (by_kind i room k)
exact_kind I i room kn a_target = exact_target I i kn
exact_kind I i room kn a_unary = exact_unary I i room kn
exact_kind I i room kn a_not = exact_negated I i room kn
exact_kind I i room kn an_or = exact_either I i room kn
exact_kind I i room kn an_expr = exact_expr I i room kn

kind_leads : (I : Kind → List Word → Seen → Type 0) (room : ℕ) (k : Kind) (ws : List Word) (e : Seen) (r : List Word) → rule I room k ws e → lead (ws ++ r) ≤ 3
kind_leads I room a_target ws e r d = let h = primary_leads I ws e r d.derived in omega arith
kind_leads I room a_unary ws e r d = let h = unary_leads I room ws e r d in omega arith
kind_leads I room a_not ws e r d = not_leads I room ws e r d
kind_leads I room an_or ws e r d = or_leads I room ws e r d
kind_leads I room an_expr ws e r d = expr_leads I room ws e r d

-- ---- a name is an expression

abbrev named_word : List ℕ → Place → List Word
named_word n p = word (mark.Name n) p ∷ []

name_primary : (I : Kind → List Word → Seen → Type 0) (n : List ℕ) (p : Place) → Primary I (named_word n p) (name_seen (p, n))
name_primary I n p = record { from = (name_seen (p, n), ([], 0)); derived = record { front = named_word n p; back = []; whole = refl; first = inl record { from = (p, n); derived = record { mark_is = mark.Name n; whole = refl; valued = refl }; is = refl }; second = record { from = []; derived = no_more; is = refl } }; is = refl }

name_expr : (I : Kind → List Word → Seen → Type 0) (room : ℕ) (n : List ℕ) (p : Place) → ExprRule I room (named_word n p) (name_seen (p, n))
name_expr I room n p = primary_expr I room (named_word n p) (name_seen (p, n)) (name_primary I n p)

-- ---- within any number of brackets

pub knows_within : (room : ℕ) → Knows (Within room) (inner room)
unfolding inner
knows_within zero = record { exact = λ k. record { sound = λ ws a r h. cc; complete = λ ws a r d h. absurd d }; leads = λ k ws e r d. absurd d; named = λ ws e d. absurd d }
knows_within (suc room) = record { exact = λ k. exact_kind (Within room) (inner room) room (knows_within room) k; leads = λ k ws e r d. kind_leads (Within room) room k ws e r d; named = λ ws e d n p. (name_seen (p, n), name_expr (Within room) room n p) }
