-- The first word of a line tells `elif` and `else`.
use Rattle.std.proofs.Common.{◌≡◌, ℕ, refl, ap, subst, ◌∙◌, List, [], ◌∷◌, Option, Some, None, inl, inr}
use Rattle.std.specs.Prelude.{suc, ◌-◌, take, length, Bool, true, false, not, ◌||◌, is_some, codes}
use Rattle.lists.specs.Texts.{text_eq}
use Rattle.py_tree.specs.Steps.{Step}
use Rattle.py_grammar.specs.declared.word.Word.{Word}
use Rattle.py_grammar.specs.Words.{is_text, keyword_of, next_key}
use Rattle.py_grammar.specs.Shapes.{Head, if_seen, elif_seen, else_seen, while_seen, for_seen, with_seen, def_seen, class_seen, awaits, Noted, LineForm, Simple, headed_seen}
use Rattle.py_grammar.specs.Blocks.{elif_of}
use Rattle.py_grammar.specs.Readers.{Read, ◌>>=◌, made, choose, maybe, sign, key, ◌▹◌}
use Rattle.py_grammar.specs.Reading.{Inner, inner}
use Rattle.py_grammar.specs.Seen.{is_empty}
use Rattle.py_grammar.specs.Line_reading.{noting, simple, tested, for_head, with_head, class_head, definition, head, head_next, headed, line, all_read, line_of}
use Rattle.py_grammar.proofs.Exact.{bind_ok, some_same, if_some, is_key_text}
use Rattle.py_grammar.proofs.BlockLines.{is_elif, head_is_else, is_else}

-- a keyword at the front of words is no other one
key_not : (a b : List ℕ) → text_eq a b ≡ false → (ws : List Word) → next_key a ws ≡ true → next_key b ws ≡ false
key_not a b h [] e = refl
key_not a b h (w ∷ ws) e = ap (λ m. is_text b (keyword_of m)) (is_key_text a w.mark e) ∙ h

pub record Leads (ws : List Word) (elif other : Bool) : Type 0 where
  pub elif_leads : next_key (codes "elif") ws ≡ elif
  pub else_leads : next_key (codes "else") ws ≡ other

-- what a head tells, as a reader of heads gives it
abbrev Tells : List Word → Head → Type 0
Tells ws h = Leads ws (is_some (elif_of h)) (head_is_else h)

record Telling (ws : List Word) (rd : List Word → Option (Head × List Word)) : Type 0 where
  tells : (h : Head) (r : List Word) → rd ws ≡ Some (h, r) → Tells ws h

made_telling : {A : Type 0} (ws : List Word) (f : A → Head) (rd : Read A) → ((a : A) → Tells ws (f a)) → Telling ws (made f rd)
made_telling ws f rd t = record {
  tells = λ h r e.
      let p = bind_ok (rd ws) (λ x. Some (f x.0, x.1)) (h, r) e in
      let made_here : Head × List Word = (f p.from.0, p.from.1) in
      let given : Head × List Word = (h, r) in
      subst (λ (z : Head × List Word). Tells ws z.0) (some_same made_here given p.gave) (t p.from.0);
}

choose_telling : (ws : List Word) (test : List Word → Bool) (rd other : Read Head) → (test ws ≡ true → Telling ws rd) → (test ws ≡ false → Telling ws other) → Telling ws (choose test rd other)
choose_telling ws test rd other f g = record {
  tells = λ h r e. elim (if_some (test ws) (rd ws) (other ws) (h, r) e) [ inl y ↦ (f y.0).tells h r y.1 | inr n ↦ (g n.0).tells h r n.1 ];
}

-- ---- the heads that are no `if`, and stand behind none

while_telling : (i : Inner) (ws : List Word) → Leads ws false false → Telling ws (tested (codes "while") while_seen i)
unfolding tested
while_telling i ws told = made_telling ws while_seen _ (λ x. told)

for_telling : (i : Inner) (ws : List Word) → Leads ws false false → Telling ws (for_head i)
unfolding for_head
for_telling i ws told = made_telling ws for_seen _ (λ x. told)

with_telling : (i : Inner) (ws : List Word) → Leads ws false false → Telling ws (with_head i)
unfolding with_head
with_telling i ws told = made_telling ws with_seen _ (λ x. told)

class_telling : (j : Inner) (ws : List Word) → Leads ws false false → Telling ws (class_head j)
unfolding class_head
class_telling j ws told = made_telling ws class_seen _ (λ x. told)

def_telling : (i j : Inner) (ws : List Word) → Leads ws false false → Telling ws (definition i j)
unfolding definition
def_telling i j ws told = made_telling ws def_seen _ (λ x. told)

abbrev named_heads : Inner → Inner → Read Head
named_heads i j = choose (next_key (codes "class")) (class_head j) (definition i j)

abbrev with_heads : Inner → Inner → Read Head
with_heads i j = choose (next_key (codes "with")) (with_head i) (named_heads i j)

abbrev for_heads : Inner → Inner → Read Head
for_heads i j = choose (next_key (codes "for")) (for_head i) (with_heads i j)

abbrev while_heads : Inner → Inner → Read Head
while_heads i j = choose (next_key (codes "while")) (tested (codes "while") while_seen i) (for_heads i j)

other_telling : (i j : Inner) (ws : List Word) → Leads ws false false → Telling ws (while_heads i j)
other_telling i j ws told =
    choose_telling ws (next_key (codes "while")) (tested (codes "while") while_seen i) (for_heads i j) (λ t. while_telling i ws told) (λ n.
    choose_telling ws (next_key (codes "for")) (for_head i) (with_heads i j) (λ t. for_telling i ws told) (λ n.
    choose_telling ws (next_key (codes "with")) (with_head i) (named_heads i j) (λ t. with_telling i ws told) (λ n.
    choose_telling ws (next_key (codes "class")) (class_head j) (definition i j) (λ t. class_telling j ws told) (λ n. def_telling i j ws told))))

-- ---- all heads

if_telling : (i : Inner) (ws : List Word) → next_key (codes "if") ws ≡ true → Telling ws (tested (codes "if") if_seen i)
unfolding tested
if_telling i ws t = made_telling ws if_seen _ (λ x. record { elif_leads = key_not (codes "if") (codes "elif") refl ws t; else_leads = key_not (codes "if") (codes "else") refl ws t })

elif_telling : (i : Inner) (ws : List Word) → next_key (codes "elif") ws ≡ true → Telling ws (tested (codes "elif") elif_seen i)
unfolding tested
elif_telling i ws t = made_telling ws elif_seen _ (λ x. record { elif_leads = t; else_leads = key_not (codes "elif") (codes "else") refl ws t })

else_telling : (ws : List Word) → next_key (codes "else") ws ≡ true → Telling ws (made else_seen (key (codes "else") ▹ sign (codes ":")))
else_telling ws t = made_telling ws else_seen (key (codes "else") ▹ sign (codes ":")) (λ x. record { elif_leads = key_not (codes "else") (codes "elif") refl ws t; else_leads = t })

abbrev else_heads : Inner → Inner → Read Head
else_heads i j = choose (next_key (codes "else")) (made else_seen (key (codes "else") ▹ sign (codes ":"))) (while_heads i j)

abbrev elif_heads : Inner → Inner → Read Head
elif_heads i j = choose (next_key (codes "elif")) (tested (codes "elif") elif_seen i) (else_heads i j)

head_telling : (i j : Inner) (ws : List Word) → Telling ws (head i j)
unfolding head
head_telling i j ws =
    choose_telling ws (next_key (codes "if")) (tested (codes "if") if_seen i) (elif_heads i j) (if_telling i ws) (λ n.
    choose_telling ws (next_key (codes "elif")) (tested (codes "elif") elif_seen i) (else_heads i j) (elif_telling i ws) (λ a.
    choose_telling ws (next_key (codes "else")) (made else_seen (key (codes "else") ▹ sign (codes ":"))) (while_heads i j) (else_telling ws) (λ b.
    other_telling i j ws (record { elif_leads = a; else_leads = b }))))

-- ---- lines

abbrev Line_tells : List Word → LineForm → Type 0
Line_tells ws f = Leads ws (is_elif f) (is_else f)

noting_is : {A : Type 0} (Q : A → Type 0) (rd : Read A) (ws : List Word) → ((a : A) (r : List Word) → rd ws ≡ Some (a, r) → Q a) → (x : Noted A) (r : List Word) → noting rd ws ≡ Some (x, r) → Q x.0
noting_is {A = A} Q rd ws f x r h =
    let p = bind_ok (rd ws) (λ y. Some ((y.0, awaits (take (length ws - length y.1) ws)), y.1)) (x, r) h in
    let noted_here : Noted A × List Word = ((p.from.0, awaits (take (length ws - length p.from.1) ws)), p.from.1) in
    let given : Noted A × List Word = (x, r) in
    subst (λ (z : Noted A × List Word). Q z.0.0) (some_same noted_here given p.gave) (f p.from.0 p.from.1 p.was)

headed_leads : (i j : Inner) (ws : List Word) (f : LineForm) (r : List Word) → headed i j ws ≡ Some (f, r) → Line_tells ws f
unfolding headed
headed_leads i j ws f r h =
    let behind : Read (Option (Noted Step)) = maybe (λ ws. not (is_empty ws)) (noting (simple i)) in
    let p = bind_ok ((noting (head i j) ▹ behind) ws) (λ x. Some (headed_seen x.0, x.1)) (f, r) h in
    let q = bind_ok (noting (head i j) ws) (λ x. behind x.1 >>= λ y. Some ((x.0, y.0), y.1)) p.from p.was in
    let s = bind_ok (behind q.from.1) (λ y. Some ((q.from.0, y.0), y.1)) p.from q.gave in
    let read_here : (Noted Head × Option (Noted Step)) × List Word = ((q.from.0, s.from.0), s.from.1) in
    let told : Tells ws q.from.0.0 = noting_is (Tells ws) (head i j) ws (head_telling i j ws).tells q.from.0 q.from.1 q.was in
    let seen : Line_tells ws (headed_seen p.from.0) = subst (λ (z : (Noted Head × Option (Noted Step)) × List Word). Line_tells ws (headed_seen z.0)) (some_same read_here p.from s.gave) told in
    let form_here : LineForm × List Word = (headed_seen p.from.0, p.from.1) in
    let given : LineForm × List Word = (f, r) in
    subst (λ (z : LineForm × List Word). Line_tells ws z.0) (some_same form_here given p.gave) seen

either_none : (a b : Bool) → (a || b) ≡ false → (a ≡ false) × (b ≡ false)
either_none true b h = cc
either_none false b h = (refl, h)

-- where no head comes next, neither keyword does
no_head : (ws : List Word) → head_next ws ≡ false → Leads ws false false
unfolding head_next
no_head ws h =
    let a = either_none _ (next_key (codes "def") ws) h in
    let b = either_none _ (next_key (codes "async") ws) a.0 in
    let c = either_none _ (next_key (codes "class") ws) b.0 in
    let d = either_none _ (next_key (codes "with") ws) c.0 in
    let e = either_none _ (next_key (codes "for") ws) d.0 in
    let f = either_none _ (next_key (codes "while") ws) e.0 in
    let g = either_none _ (next_key (codes "else") ws) f.0 in
    let k = either_none (next_key (codes "if") ws) (next_key (codes "elif") ws) g.0 in
    record { elif_leads = k.1; else_leads = g.1 }

line_leads : (i j : Inner) (ws : List Word) (f : LineForm) (r : List Word) → line i j ws ≡ Some (f, r) → Line_tells ws f
unfolding line
line_leads i j ws f r h = elim (if_some (head_next ws) (headed i j ws) (made Simple (noting (simple i)) ws) (f, r) h) [
  | inl y ↦ headed_leads i j ws f r y.1
  | inr n ↦
      let p = bind_ok (noting (simple i) ws) (λ x. Some (Simple x.0, x.1)) (f, r) n.1 in
      let form_here : LineForm × List Word = (Simple p.from.0, p.from.1) in
      let given : LineForm × List Word = (f, r) in
      subst (λ (z : LineForm × List Word). Line_tells ws z.0) (some_same form_here given p.gave) (no_head ws n.0)
]

all_read_is : (o : Option (LineForm × List Word)) (f : LineForm) → all_read o ≡ Some f → (r : List Word) × (o ≡ Some (f, r))
all_read_is None f h = cc
all_read_is (Some x) f h = elim (if_some (is_empty x.1) (Some x.0) None f h) [
  | inl y ↦ let e = some_same x.0 f y.1 in (x.1, ap (λ z. Some (z, x.1)) e)
  | inr n ↦ let e = n.1 in cc
]

pub form_leads : (room : ℕ) (ws : List Word) (f : LineForm) → line_of room ws ≡ Some f → Leads ws (is_elif f) (is_else f)
unfolding line_of
form_leads room ws f h =
    let x = all_read_is (line (inner (suc room)) (inner room) ws) f h in
    line_leads (inner (suc room)) (inner room) ws f x.0 x.1
