-- What a reader reads is a front of the words that means it; and what means something is read, where nothing follows
-- that would go on.
use Rattle.std.proofs.Common.{◌≡◌, ℕ, refl, sym, ap, subst, ◌∙◌, List, [], ◌∷◌, ◌++◌, append_assoc, Option, Some, None, arith, inl, inr}
use Rattle.std.specs.Prelude.{◌⊎◌, Bool, true, false, if◌then◌else◌, ◌==◌, ◌&&◌, IsTrue}
use Rattle.lists.specs.Texts.{text_eq}
use Rattle.amh_host.specs.declared.place.Place.{Place}
use Rattle.py_grammar.specs.declared.word.Word.{Word}
use Rattle.py_grammar.specs.declared.word.Mark.{Mark}
use Rattle.py_grammar.specs.declared.word.Mark.TheVariants as mark
use Rattle.py_grammar.specs.Words.{word, is_text, sign_of, keyword_of}
use Rattle.py_grammar.specs.Forms.{Signed, Keyed, One, Then, ◌▸◌, ◌∣◌, Made, Such, Maybe, not_there, there}
use Rattle.py_grammar.specs.Readers.{Read, ◌>>=◌, one_placed, one, sign, key, ◌▹◌, made, choose, maybe, such}

pub record Front {A : Type 0} (D : List Word → A → Type 0) (ws : List Word) (a : A) (r : List Word) : Type 0 where
  pub front : List Word
  pub split : ws ≡ front ++ r
  pub derived : D front a

pub record Exact {A : Type 0} (Ends : List Word → Type 0) (D : List Word → A → Type 0) (read : Read A) : Type 0 where
  pub sound : (ws : List Word) (a : A) (r : List Word) → read ws ≡ Some (a, r) → Front D ws a r
  pub complete : (ws : List Word) (a : A) (r : List Word) → D ws a → Ends r → read (ws ++ r) ≡ Some (a, r)

-- anything may follow
abbrev pub Any : List Word → Type 0
Any r = Unit {0}

-- ---- options and tests

pub record Bound {A B : Type 0} (o : Option A) (f : A → Option B) (y : B) : Type 0 where
  pub from : A
  pub was : o ≡ Some from
  pub gave : f from ≡ Some y

pub bind_ok : {A B : Type 0} (o : Option A) (f : A → Option B) (y : B) → (o >>= f) ≡ Some y → Bound o f y
bind_ok None f y h = cc
bind_ok (Some x) f y h = record { from = x; was = refl; gave = h }

pub some_same : {A : Type 0} (x y : A) → Some x ≡ Some y → x ≡ y
some_same x y h = cc

pub front_at : {A : Type 0} (D : List Word → A → Type 0) (ws : List Word) (x y : A × List Word) → Front D ws x.0 x.1 → Some x ≡ Some y → Front D ws y.0 y.1
front_at {A = A} D ws x y f h = subst (λ (z : A × List Word). Front D ws z.0 z.1) (some_same x y h) f

pub if_some : {A : Type 0} (b : Bool) (x y : Option A) (z : A) → (if b then x else y) ≡ Some z → ((b ≡ true) × (x ≡ Some z)) ⊎ ((b ≡ false) × (y ≡ Some z))
if_some true x y z h = inl (refl, h)
if_some false x y z h = inr (refl, h)

pub if_true : {A : Type 0} (b : Bool) (x y : A) → b ≡ true → (if b then x else y) ≡ x
if_true b x y h = ap (λ c. if c then x else y) h

pub if_false : {A : Type 0} (b : Bool) (x y : A) → b ≡ false → (if b then x else y) ≡ y
if_false b x y h = ap (λ c. if c then x else y) h

-- ---- texts

pub text_same : (a b : List ℕ) → text_eq a b ≡ true → a ≡ b
text_same [] [] h = refl
text_same [] (y ∷ ys) h = cc
text_same (x ∷ xs) [] h = cc
text_same (x ∷ xs) (y ∷ ys) h = let p : (x == y) ≡ true = both_first (x == y) (text_eq xs ys) h in let q = text_same xs ys (both_second (x == y) (text_eq xs ys) h) in let e : x ≡ y = grind (arith, p) in cc
  where
    both_first : (a b : Bool) → (a && b) ≡ true → a ≡ true
    both_first true b h = refl
    both_first false b h = cc

    both_second : (a b : Bool) → (a && b) ≡ true → b ≡ true
    both_second true b h = h
    both_second false b h = cc

pub text_itself : (a : List ℕ) → text_eq a a ≡ true
text_itself [] = refl
text_itself (x ∷ xs) = let q = text_itself xs in let e : (x == x) ≡ true = grind arith in rw (e, q) refl

-- ---- words

pub is_sign_text : (this : List ℕ) (m : Mark) → is_text this (sign_of m) ≡ true → m ≡ mark.Sign this
is_sign_text this (mark.Sign text) h = ap mark.Sign (text_same text this h)
is_sign_text this (mark.Name text) h = cc
is_sign_text this (mark.Keyword text) h = cc
is_sign_text this (mark.Number n) h = cc
is_sign_text this (mark.Decimal d) h = cc
is_sign_text this (mark.Str text) h = cc
is_sign_text this (mark.Format pieces) h = cc
is_sign_text this mark.Other h = cc

pub is_key_text : (this : List ℕ) (m : Mark) → is_text this (keyword_of m) ≡ true → m ≡ mark.Keyword this
is_key_text this (mark.Keyword text) h = ap mark.Keyword (text_same text this h)
is_key_text this (mark.Name text) h = cc
is_key_text this (mark.Sign text) h = cc
is_key_text this (mark.Number n) h = cc
is_key_text this (mark.Decimal d) h = cc
is_key_text this (mark.Str text) h = cc
is_key_text this (mark.Format pieces) h = cc
is_key_text this mark.Other h = cc

sign_sound : (this : List ℕ) (ws : List Word) (p : Place) (r : List Word) → sign this ws ≡ Some (p, r) → Front (Signed this) ws p r
sign_sound this [] p r h = cc
sign_sound this (w ∷ ws) p r h = elim (if_some (is_text this (sign_of w.mark)) (Some (w.place, ws)) None (p, r) h) [
  | inl y ↦ front_at (Signed this) (w ∷ ws) (w.place, ws) (p, r) (record { front = w ∷ []; split = refl; derived = record { whole = ap (λ m. word m w.place ∷ []) (is_sign_text this w.mark y.0) } }) y.1
  | inr n ↦ let e = n.1 in cc
]

sign_complete : (this : List ℕ) (ws : List Word) (p : Place) (r : List Word) → Signed this ws p → sign this (ws ++ r) ≡ Some (p, r)
sign_complete this ws p r d = ap (λ z. sign this (z ++ r)) d.whole ∙ if_true (text_eq this this) (Some (p, r)) None (text_itself this)

pub exact_sign : (this : List ℕ) → Exact Any (Signed this) (sign this)
exact_sign this = record { sound = sign_sound this; complete = λ ws p r d e. sign_complete this ws p r d }

key_sound : (this : List ℕ) (ws : List Word) (p : Place) (r : List Word) → key this ws ≡ Some (p, r) → Front (Keyed this) ws p r
key_sound this [] p r h = cc
key_sound this (w ∷ ws) p r h = elim (if_some (is_text this (keyword_of w.mark)) (Some (w.place, ws)) None (p, r) h) [
  | inl y ↦ front_at (Keyed this) (w ∷ ws) (w.place, ws) (p, r) (record { front = w ∷ []; split = refl; derived = record { whole = ap (λ m. word m w.place ∷ []) (is_key_text this w.mark y.0) } }) y.1
  | inr n ↦ let e = n.1 in cc
]

key_complete : (this : List ℕ) (ws : List Word) (p : Place) (r : List Word) → Keyed this ws p → key this (ws ++ r) ≡ Some (p, r)
key_complete this ws p r d = ap (λ z. key this (z ++ r)) d.whole ∙ if_true (text_eq this this) (Some (p, r)) None (text_itself this)

pub exact_key : (this : List ℕ) → Exact Any (Keyed this) (key this)
exact_key this = record { sound = key_sound this; complete = λ ws p r d e. key_complete this ws p r d }

placed_sound : {A : Type 0} (value : Mark → Option A) (w : Word) (ws : List Word) (o : Option A) (x : Place × A) (r : List Word) → value w.mark ≡ o → one_placed w.place ws o ≡ Some (x, r) → Front (One value) (w ∷ ws) x r
placed_sound value w ws None x r e h = cc
placed_sound value w ws (Some a) x r e h = front_at (One value) (w ∷ ws) ((w.place, a), ws) (x, r) (record { front = w ∷ []; split = refl; derived = record { mark_is = w.mark; whole = refl; valued = e } }) h

one_sound : {A : Type 0} (value : Mark → Option A) (ws : List Word) (x : Place × A) (r : List Word) → one value ws ≡ Some (x, r) → Front (One value) ws x r
one_sound value [] x r h = cc
one_sound value (w ∷ ws) x r h = placed_sound value w ws (value w.mark) x r refl h

one_complete : {A : Type 0} (value : Mark → Option A) (ws : List Word) (x : Place × A) (r : List Word) → One value ws x → one value (ws ++ r) ≡ Some (x, r)
one_complete value ws x r d = ap (λ z. one value (z ++ r)) d.whole ∙ ap (one_placed x.0 r) d.valued

pub exact_one : {A : Type 0} (value : Mark → Option A) → Exact Any (One value) (one value)
exact_one value = record { sound = one_sound value; complete = λ ws x r d e. one_complete value ws x r d }

-- ---- one thing and then another

then_sound : {A B : Type 0} (E1 E2 : List Word → Type 0) (D1 : List Word → A → Type 0) (D2 : List Word → B → Type 0) (r1 : Read A) (r2 : Read B) → Exact E1 D1 r1 → Exact E2 D2 r2 → (ws : List Word) (x : A × B) (r : List Word) → (r1 ▹ r2) ws ≡ Some (x, r) → Front (D1 ▸ D2) ws x r
then_sound E1 E2 D1 D2 r1 r2 e1 e2 ws x r h =
    let p = bind_ok (r1 ws) (λ a. r2 a.1 >>= λ b. Some ((a.0, b.0), b.1)) (x, r) h in
    let q = bind_ok (r2 p.from.1) (λ b. Some ((p.from.0, b.0), b.1)) (x, r) p.gave in
    let f = e1.sound ws p.from.0 p.from.1 p.was in
    let g = e2.sound p.from.1 q.from.0 q.from.1 q.was in
    let whole : ws ≡ (f.front ++ g.front) ++ q.from.1 = f.split ∙ (ap (λ z. f.front ++ z) g.split ∙ sym (append_assoc f.front g.front q.from.1)) in
    front_at (D1 ▸ D2) ws ((p.from.0, q.from.0), q.from.1) (x, r) (record { front = f.front ++ g.front; split = whole; derived = record { front = f.front; back = g.front; whole = refl; first = f.derived; second = g.derived } }) q.gave

then_complete : {A B : Type 0} (E1 E2 : List Word → Type 0) (D1 : List Word → A → Type 0) (D2 : List Word → B → Type 0) (r1 : Read A) (r2 : Read B) → Exact E1 D1 r1 → Exact E2 D2 r2 → ((us : List Word) (b : B) (r : List Word) → D2 us b → E2 r → E1 (us ++ r)) → (ws : List Word) (x : A × B) (r : List Word) → Then D1 D2 ws x → E2 r → (r1 ▹ r2) (ws ++ r) ≡ Some (x, r)
then_complete E1 E2 D1 D2 r1 r2 e1 e2 follow ws x r d e =
    ap (λ z. (r1 ▹ r2) (z ++ r)) d.whole
    ∙ (ap (r1 ▹ r2) (append_assoc d.front d.back r)
    ∙ (ap (λ o. o >>= λ a. r2 a.1 >>= λ b. Some ((a.0, b.0), b.1)) (e1.complete d.front x.0 (d.back ++ r) d.first (follow d.back x.1 r d.second e))
    ∙ ap (λ o. o >>= λ b. Some ((x.0, b.0), b.1)) (e2.complete d.back x.1 r d.second e)))

pub exact_then : {A B : Type 0} (E1 E2 : List Word → Type 0) (D1 : List Word → A → Type 0) (D2 : List Word → B → Type 0) (r1 : Read A) (r2 : Read B) → Exact E1 D1 r1 → Exact E2 D2 r2 → ((us : List Word) (b : B) (r : List Word) → D2 us b → E2 r → E1 (us ++ r)) → Exact E2 (D1 ▸ D2) (r1 ▹ r2)
exact_then E1 E2 D1 D2 r1 r2 e1 e2 follow = record { sound = then_sound E1 E2 D1 D2 r1 r2 e1 e2; complete = then_complete E1 E2 D1 D2 r1 r2 e1 e2 follow }

-- ---- a thing, seen as what f makes of it; one thing or another; a thing that passes a test

pub exact_made : {A B : Type 0} (E : List Word → Type 0) (f : A → B) (D : List Word → A → Type 0) (rd : Read A) → Exact E D rd → Exact E (Made f D) (made f rd)
exact_made E f D rd e = record {
  sound = λ ws y r h. let p = bind_ok (rd ws) (λ x. Some (f x.0, x.1)) (y, r) h in let g = e.sound ws p.from.0 p.from.1 p.was in front_at (Made f D) ws (f p.from.0, p.from.1) (y, r) (record { front = g.front; split = g.split; derived = record { from = p.from.0; derived = g.derived; is = refl } }) p.gave;
  complete = λ ws y r d ends. ap (λ o. o >>= λ x. Some (f x.0, x.1)) (e.complete ws d.from r d.derived ends) ∙ ap (λ z. Some (z, r)) (sym d.is);
}

pub exact_choose : {A : Type 0} (E : List Word → Type 0) (test : List Word → Bool) (D1 D2 : List Word → A → Type 0) (r1 r2 : Read A) → Exact E D1 r1 → Exact E D2 r2 → ((ws : List Word) (a : A) (r : List Word) → D1 ws a → E r → test (ws ++ r) ≡ true) → ((ws : List Word) (a : A) (r : List Word) → D2 ws a → E r → test (ws ++ r) ≡ false) → Exact E (D1 ∣ D2) (choose test r1 r2)
exact_choose E test D1 D2 r1 r2 e1 e2 t1 t2 = record {
  sound = λ ws a r h. elim (if_some (test ws) (r1 ws) (r2 ws) (a, r) h) [
    | inl y ↦ let f = e1.sound ws a r y.1 in record { front = f.front; split = f.split; derived = inl f.derived }
    | inr n ↦ let f = e2.sound ws a r n.1 in record { front = f.front; split = f.split; derived = inr f.derived }
  ];
  complete = λ ws a r d ends. elim d [
    | inl x ↦ if_true (test (ws ++ r)) (r1 (ws ++ r)) (r2 (ws ++ r)) (t1 ws a r x ends) ∙ e1.complete ws a r x ends
    | inr x ↦ if_false (test (ws ++ r)) (r1 (ws ++ r)) (r2 (ws ++ r)) (t2 ws a r x ends) ∙ e2.complete ws a r x ends
  ];
}

such_sound : {A : Type 0} (test : A → Bool) (x : A × List Word) (y : A × List Word) → (if test x.0 then Some x else None) ≡ Some y → (test x.0 ≡ true) × (x ≡ y)
such_sound test x y h = elim (if_some (test x.0) (Some x) None y h) [ inl p ↦ (p.0, some_same x y p.1) | inr n ↦ let e = n.1 in cc ]

pub true_is : (b : Bool) → IsTrue b → b ≡ true
true_is b h = h

pub is_true : (b : Bool) → b ≡ true → IsTrue b
is_true b h = h

pub exact_such : {A : Type 0} (E : List Word → Type 0) (test : A → Bool) (D : List Word → A → Type 0) (rd : Read A) → Exact E D rd → Exact E (Such test D) (such test rd)
exact_such {A = A} E test D rd e = record {
  sound = λ ws a r h. let p = bind_ok (rd ws) (λ x. if test x.0 then Some x else None) (a, r) h in let g = e.sound ws p.from.0 p.from.1 p.was in let s = such_sound test p.from (a, r) p.gave in subst (λ (z : A × List Word). Front (Such test D) ws z.0 z.1) s.1 (record { front = g.front; split = g.split; derived = record { derived = g.derived; passes = is_true (test p.from.0) s.0 } });
  complete = λ ws a r d ends. ap (λ o. o >>= λ x. if test x.0 then Some x else None) (e.complete ws a r d.derived ends) ∙ if_true (test a) (Some (a, r)) None (true_is (test a) d.passes);
}

-- ---- a thing or nothing

maybe_complete : {A : Type 0} (E F : List Word → Type 0) (test : List Word → Bool) (D : List Word → A → Type 0) (rd : Read A) → Exact E D rd → ((r : List Word) → F r → E r) → ((ws : List Word) (a : A) (r : List Word) → D ws a → F r → test (ws ++ r) ≡ true) → ((r : List Word) → F r → test r ≡ false) → (ws : List Word) (o : Option A) (r : List Word) → Maybe D ws o → F r → maybe test rd (ws ++ r) ≡ Some (o, r)
maybe_complete E F test D rd e ef t1 t2 ws o r (not_there) ends = if_false (test r) (rd r >>= λ x. Some (Some x.0, x.1)) (Some (None, r)) (t2 r ends)
maybe_complete E F test D rd e ef t1 t2 ws o r (there {x = a} d) ends = if_true (test (ws ++ r)) (rd (ws ++ r) >>= λ x. Some (Some x.0, x.1)) (Some (None, ws ++ r)) (t1 ws a r d ends) ∙ ap (λ o. o >>= λ x. Some (Some x.0, x.1)) (e.complete ws a r d (ef r ends))

pub exact_maybe : {A : Type 0} (E F : List Word → Type 0) (test : List Word → Bool) (D : List Word → A → Type 0) (rd : Read A) → Exact E D rd → ((r : List Word) → F r → E r) → ((ws : List Word) (a : A) (r : List Word) → D ws a → F r → test (ws ++ r) ≡ true) → ((r : List Word) → F r → test r ≡ false) → Exact F (Maybe D) (maybe test rd)
exact_maybe E F test D rd e ef t1 t2 = record {
  sound = λ ws o r h. elim (if_some (test ws) (rd ws >>= λ x. Some (Some x.0, x.1)) (Some (None, ws)) (o, r) h) [
    | inl y ↦ let p = bind_ok (rd ws) (λ x. Some (Some x.0, x.1)) (o, r) y.1 in let g = e.sound ws p.from.0 p.from.1 p.was in front_at (Maybe D) ws (Some p.from.0, p.from.1) (o, r) (record { front = g.front; split = g.split; derived = there g.derived }) p.gave
    | inr n ↦ front_at (Maybe D) ws (None, ws) (o, r) (record { front = []; split = refl; derived = not_there }) n.1
  ];
  complete = maybe_complete E F test D rd e ef t1 t2;
}
