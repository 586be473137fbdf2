-- A loop that reads things is the reader `repeat`, turn by turn.
use Rattle.std.proofs.Common.{◌≡◌, ℕ, ◌<◌, ◌≤◌, ◌≢◌, ◌-◌, ◌+◌, suc, zero, refl, ap, ◌∙◌, List, arith, Option, Some, None, sym, map, max, [], ◌∷◌, ◌++◌}
use Rattle.std.specs.Prelude.{Bool, true, if◌then◌else◌, codes}
use Rattle.py_grammar.specs.declared.word.Word.{Word}
use Rattle.py_grammar.specs.Readers.{Read, ◌>>=◌, repeat, ◌▹◌, made, sign}
use Rattle.amh_host.specs.declared.place.Place.{Place}
use Rattle.py_tree.specs.declared.expr.Operator.{Operator}
use Rattle.py_grammar.specs.Seen.{Seen, Deep, and_one, after_comma, link_seen}
use Rattle.py_words.proofs.Lists.{map_one_more}
use Rattle.py_grammar.specs.declared.word.Kind.{Kind}
use Rattle.py_grammar.specs.Reading.{Inner, unary, negated, chain, level, operand, inner, by_kind, operator, link, plain_of}

pub repeat_step : {A B : Type 0} (goes : List Word → Bool) (r : Read A) (add : B → A → B) (most turn : ℕ) (b : B) (ws : List Word) → turn < most → repeat goes r add (most - turn) b ws ≡ (if goes ws then (r ws >>= λ x. repeat goes r add (most - (turn + 1)) (add b x.0) x.1) else Some (b, ws))
unfolding repeat
repeat_step goes r add most turn b ws h = let q : most - turn ≡ suc (most - (turn + 1)) = omega arith in ap (λ n. repeat goes r add n b ws) q

pub repeat_end : {A B : Type 0} (goes : List Word → Bool) (r : Read A) (add : B → A → B) (most turn : ℕ) (b : B) (ws : List Word) → most ≤ turn → repeat goes r add (most - turn) b ws ≡ Some (b, ws)
unfolding repeat
repeat_end goes r add most turn b ws h = let q : most - turn ≡ zero = omega arith in ap (λ n. repeat goes r add n b ws) q

pub ruleset repeats = (repeat_step, repeat_end)

-- the operands of a level that are chains of the level below
pub operand_below : (i : Inner) (room k : ℕ) → 0 < k → k ≢ 7 → k ≤ 8 → operand i room k ≡ chain (k - 1) (operand i room (k - 1))
unfolding operand level
operand_below i room zero h n m = absurd (omega arith)
operand_below i room (suc zero) h n m = refl
operand_below i room (suc (suc zero)) h n m = refl
operand_below i room (suc (suc (suc zero))) h n m = refl
operand_below i room (suc (suc (suc (suc zero)))) h n m = refl
operand_below i room (suc (suc (suc (suc (suc zero))))) h n m = refl
operand_below i room (suc (suc (suc (suc (suc (suc zero)))))) h n m = refl
operand_below i room (suc (suc (suc (suc (suc (suc (suc zero))))))) h n m = absurd (n refl)
operand_below i room (suc (suc (suc (suc (suc (suc (suc (suc zero)))))))) h n m = refl
operand_below i room (suc (suc (suc (suc (suc (suc (suc (suc (suc k))))))))) h n m = absurd (omega arith)

pub operand_first : (i : Inner) (room k : ℕ) → k ≡ 0 → operand i room k ≡ unary i room
unfolding operand level
operand_first i room k h = ap (operand i room) h

pub operand_not : (i : Inner) (room k : ℕ) → k ≡ 7 → operand i room k ≡ negated i room
unfolding operand level
operand_not i room k h = ap (operand i room) h

pub operand_six : (i : Inner) (room : ℕ) → level i room 6 ≡ operand i room 6
unfolding operand
operand_six i room = refl

pub ruleset operands = (operand_below, operand_first, operand_not)

pub inner_step : (room : ℕ) (kind : Kind) (ws : List Word) → room ≢ 0 → inner room kind ws ≡ by_kind (inner (room - 1)) (room - 1) kind ws
unfolding inner
inner_step zero kind ws h = absurd (h refl)
inner_step (suc room) kind ws h = let q : suc room - 1 ≡ room = omega arith in ap (λ n. by_kind (inner n) n kind ws) (sym q)

pub inner_end : (room : ℕ) (kind : Kind) (ws : List Word) → room ≡ 0 → inner room kind ws ≡ None
unfolding inner
inner_end room kind ws h = ap (λ n. inner n kind ws) h

pub ruleset inners = (inner_step, inner_end)

-- one more turn of a loop that pushes what it reads
pub repeat_turn : {T X : Type 0} (view : T → X) (goes : List Word → Bool) (rd : Read (Deep X)) (most turn : ℕ) (items more : List T) (depth deeper : ℕ) (x : T) (d : ℕ) (ws after : List Word) (whole : Option (Deep (List X) × List Word)) → repeat goes rd and_one (most - turn) (map view items, depth) ws ≡ whole → turn < most → more ≡ items ++ x ∷ [] → goes ws ≡ true → rd ws ≡ Some ((view x, d), after) → deeper ≡ max depth d → repeat goes rd and_one (most - (turn + 1)) (map view more, deeper) after ≡ whole
repeat_turn {X = X} view goes rd most turn items more depth deeper x d ws after whole was less m g r h =
    let pushed : map view more ≡ map view items ++ view x ∷ [] = ap (map view) m ∙ map_one_more view items x in
    let u : Deep (List X) = (map view more, deeper) in
    let v : Deep (List X) = and_one (map view items, depth) (view x, d) in
    let same : u ≡ v = pair_same (map view more) (map view items ++ view x ∷ []) deeper (max depth d) pushed h in
    let next = λ (y : Deep X × List Word). repeat goes rd and_one (most - (turn + 1)) (and_one (map view items, depth) y.0) y.1 in
    ap (λ (z : Deep (List X)). repeat goes rd and_one (most - (turn + 1)) z after) same
    ∙ (sym (ap (λ o. o >>= next) r)
    ∙ (sym (ap (λ b. if b then (rd ws >>= next) else Some ((map view items, depth), ws)) g)
    ∙ (sym (repeat_step goes rd and_one most turn (map view items, depth) ws less) ∙ was)))
  where
    pair_same : {X : Type 0} (a b : List X) (m n : ℕ) → a ≡ b → m ≡ n → (let u : Deep (List X) = (a, m) in let v : Deep (List X) = (b, n) in u ≡ v)
    pair_same a b m n p q = cc

-- the same, where the reader's value is known in other words
pub repeat_turn_as : {T X : Type 0} (view : T → X) (goes : List Word → Bool) (rd : Read (Deep X)) (most turn : ℕ) (items more : List T) (depth deeper : ℕ) (x : T) (y : X) (d : ℕ) (ws after : List Word) (whole : Option (Deep (List X) × List Word)) → repeat goes rd and_one (most - turn) (map view items, depth) ws ≡ whole → turn < most → more ≡ items ++ x ∷ [] → view x ≡ y → goes ws ≡ true → rd ws ≡ Some ((y, d), after) → deeper ≡ max depth d → repeat goes rd and_one (most - (turn + 1)) (map view more, deeper) after ≡ whole
repeat_turn_as view goes rd most turn items more depth deeper x y d ws after whole was less m v g r h = repeat_turn view goes rd most turn items more depth deeper x d ws after whole was less m g (r ∙ ap (λ z. Some ((z, d), after)) (sym v)) h

-- what one turn reads, by the readers of its parts
pub then_reads : {A B : Type 0} (r : Read A) (q : Read B) (ws after rest : List Word) (a : A) (b : B) → r ws ≡ Some (a, after) → q after ≡ Some (b, rest) → (r ▹ q) ws ≡ Some ((a, b), rest)
then_reads r q ws after rest a b g h = ap (λ z. z >>= λ x. q x.1 >>= λ y. Some ((x.0, y.0), y.1)) g ∙ ap (λ z. z >>= λ y. Some ((a, y.0), y.1)) h

pub made_reads : {A B : Type 0} (f : A → B) (r : Read A) (ws rest : List Word) (a : A) → r ws ≡ Some (a, rest) → made f r ws ≡ Some (f a, rest)
made_reads f r ws rest a h = ap (λ z. z >>= λ x. Some (f x.0, x.1)) h

pub link_reads : (k : ℕ) (rd : Read Seen) (ws after rest : List Word) (o : Operator) (e : Seen) → operator k ws ≡ Some (o, after) → rd after ≡ Some (e, rest) → link k rd ws ≡ Some (((o, e.tree), e.depth), rest)
unfolding link
link_reads k rd ws after rest o e p q = made_reads link_seen (operator k ▹ rd) ws rest (o, e) (then_reads (operator k) rd ws after rest o e p q)

pub comma_reads : {A : Type 0} (rd : Read (Deep A)) (ws after rest : List Word) (p : Place) (x : Deep A) → sign (codes ",") ws ≡ Some (p, after) → rd after ≡ Some (x, rest) → made after_comma (sign (codes ",") ▹ rd) ws ≡ Some (x, rest)
comma_reads rd ws after rest p x g h = made_reads after_comma (sign (codes ",") ▹ rd) ws rest (p, x) (then_reads (sign (codes ",")) rd ws after rest p x g h)

pub plain_reads : (rd : Read Seen) (ws rest : List Word) (e : Seen) → rd ws ≡ Some (e, rest) → plain_of rd ws ≡ Some ((e.tree, e.depth), rest)
plain_reads rd ws rest e h = made_reads (λ e. (e.tree, e.depth)) rd ws rest e h
