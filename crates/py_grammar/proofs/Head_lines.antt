-- Heads are read exactly, each told by its keyword.
use Rattle.std.proofs.Common.{◌≡◌, ℕ, refl, ap, ◌∙◌, List, ◌∷◌, ◌++◌, arith, inl, inr}
use Rattle.std.specs.Prelude.{true, codes}
use Rattle.amh_host.specs.declared.place.Place.{Place}
use Rattle.py_grammar.specs.declared.word.Word.{Word}
use Rattle.py_grammar.specs.declared.word.Mark.TheVariants as mark
use Rattle.py_grammar.specs.declared.word.Kind.{Kind}
use Rattle.py_grammar.specs.Words.{word, name_of}
use Rattle.py_grammar.specs.Forms.{Keyed, One, ◌▸◌, ◌∣◌, Made, Maybe}
use Rattle.py_grammar.specs.Readers.{Read}
use Rattle.py_grammar.specs.Seen.{Seen}
use Rattle.py_grammar.specs.Reading.{Inner}
use Rattle.py_grammar.proofs.Exact.{Any}
use Rattle.py_grammar.proofs.Ends.{Key_first}
use Rattle.py_grammar.proofs.Lists.{Knows, keyed_first}
use Rattle.py_grammar.proofs.Line_forms.{swap, exact_swap}
use Rattle.py_grammar.specs.declared.word.Kind.TheVariants.{Expr as an_expr}
use Rattle.py_grammar.specs.Shapes.{Head, if_seen, elif_seen, while_seen, class_seen}
use Rattle.py_grammar.specs.Statements.{Exprs, Targets, DefRule, BasesRule, HeadRule}
use Rattle.py_grammar.specs.Line_reading.{head, head_next}
use Rattle.py_grammar.proofs.Simple_lines.{Part, keyed_or}
use Rattle.py_grammar.proofs.Heads.{Colon, Bound_to, tested_part, else_part, for_part, with_part, class_part, def_first, def_part}

part_swap : {A : Type 0} (E : List Word → Type 0) (n : ℕ) (D F : List Word → A → Type 0) (rd : Read A) → Part E n (D ∣ F) rd → Part E n (F ∣ D) rd
part_swap E n D F rd p = record { exact = exact_swap E D F rd p.exact; past = λ ws a r d. p.past ws a r (swap d) }

abbrev Class_rule : (Kind → List Word → Seen → Type 0) → List Word → Head → Type 0
Class_rule J = Made class_seen (Keyed (codes "class") ▸ (One name_of ▸ (Maybe (BasesRule J) ▸ Colon)))

pub head_part : (I J : Kind → List Word → Seen → Type 0) (i j : Inner) → Knows I i → Knows J j → Part Any 0 (HeadRule I J) (head i j)
unfolding head
head_part I J i j ki kj =
    keyed_or Any (codes "if") 0 1 _ _ _ _ (omega arith) (omega arith) (tested_part I i ki (codes "if") if_seen)
    (keyed_or Any (codes "elif") 1 2 _ _ _ _ (omega arith) (omega arith) (tested_part I i ki (codes "elif") elif_seen)
    (keyed_or Any (codes "else") 2 3 _ _ _ _ (omega arith) (omega arith) else_part
    (keyed_or Any (codes "while") 3 4 _ _ _ _ (omega arith) (omega arith) (tested_part I i ki (codes "while") while_seen)
    (keyed_or Any (codes "for") 4 5 _ _ _ _ (omega arith) (omega arith) (for_part I i ki)
    (keyed_or Any (codes "with") 5 6 _ _ _ _ (omega arith) (omega arith) (with_part I i ki)
    (part_swap Any 6 (Class_rule J) (DefRule I J) _ (keyed_or Any (codes "class") 6 7 (Class_rule J) (DefRule I J) _ _ (omega arith) (omega arith) (class_part J j kj) (def_part I J i j ki kj))))))))

-- each head begins with a keyword of heads
there_by : (s : List ℕ) (ws : List Word) → ((p : Place) (r : List Word) → head_next (word (mark.Keyword s) p ∷ r) ≡ true) → Key_first s ws → head_next ws ≡ true
there_by s ws h f = ap head_next f.whole ∙ h f.place f.rest

pub head_there : (I J : Kind → List Word → Seen → Type 0) (ws : List Word) (h : Head) (r : List Word) → HeadRule I J ws h → head_next (ws ++ r) ≡ true
unfolding head_next
head_there I J ws h r (inl d) = there_by (codes "if") (ws ++ r) (λ p q. refl) (keyed_first (codes "if") (I an_expr ▸ Colon) ws d.from r d.derived)
head_there I J ws h r (inr (inl d)) = there_by (codes "elif") (ws ++ r) (λ p q. refl) (keyed_first (codes "elif") (I an_expr ▸ Colon) ws d.from r d.derived)
head_there I J ws h r (inr (inr (inl d))) = there_by (codes "else") (ws ++ r) (λ p q. refl) (keyed_first (codes "else") Colon ws d.from r d.derived)
head_there I J ws h r (inr (inr (inr (inl d)))) = there_by (codes "while") (ws ++ r) (λ p q. refl) (keyed_first (codes "while") (I an_expr ▸ Colon) ws d.from r d.derived)
head_there I J ws h r (inr (inr (inr (inr (inl d))))) = there_by (codes "for") (ws ++ r) (λ p q. refl) (keyed_first (codes "for") (Targets I ▸ (Keyed (codes "in") ▸ (Exprs I ▸ Colon))) ws d.from r d.derived)
head_there I J ws h r (inr (inr (inr (inr (inr (inl d)))))) = there_by (codes "with") (ws ++ r) (λ p q. refl) (keyed_first (codes "with") (I an_expr ▸ (Bound_to I ▸ Colon)) ws d.from r d.derived)
head_there I J ws h r (inr (inr (inr (inr (inr (inr (inl d))))))) = def_first (λ ws. head_next ws ≡ true) (λ ws f. there_by (codes "async") ws (λ p q. refl) f) (λ ws f. there_by (codes "def") ws (λ p q. refl) f) I J ws h r d
head_there I J ws h r (inr (inr (inr (inr (inr (inr (inr d))))))) = there_by (codes "class") (ws ++ r) (λ p q. refl) (keyed_first (codes "class") (One name_of ▸ (Maybe (BasesRule J) ▸ Colon)) ws d.from r d.derived)
