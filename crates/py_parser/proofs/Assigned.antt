-- Expressions with `=` between each two: those before the last are targets.
use Rattle.std.proofs.Common.{◌≡◌, refl, ap, sym, ◌∙◌, List, [], ◌∷◌, ◌++◌, Option, Some, None}
use Rattle.std.specs.Prelude.{Bool, true, false, if◌then◌else◌, ◌&&◌, codes}
use Rattle.amh_host.specs.declared.place.Place.{Place}
use Rattle.py_tree.specs.Tree.{Tree, trees}
use Rattle.py_tree.specs.Steps.{Step, Assign, Evaluate}
use Rattle.py_grammar.specs.declared.word.Word.{Word}
use Rattle.py_grammar.specs.Words.{next_sign}
use Rattle.py_grammar.specs.Readers.{◌>>=◌, many, sign, ◌▹◌}
use Rattle.py_grammar.specs.Seen.{Seen, is_empty, is_target, are_targets}
use Rattle.py_grammar.specs.Reading.{Inner}
use Rattle.py_grammar.specs.Line_reading.{and_then, exprs, assignment, are_assigned, front_trees, last_tree, assigned_fit, assigned_seen}
use Rattle.py_parser.specs.Line_forms.{one_more}
use Rattle.py_parser.proofs.Runs.{seen_by, many_seen}

abbrev pub found : {A : Type 0} → A → List Word → Option (A × List Word)
found a r = Some (a, r)

-- targets and a value, or an expression alone
abbrev pub assigned_of : Place → List Tree × Tree → List Word → Option (Step × List Word)
assigned_of p x r = if is_empty x.0 then found (Evaluate p x.1) r else if are_targets (trees x.0) then found (Assign p (trees x.0) x.1) r else None

-- the trees before the last, and the last
abbrev parted : Tree → List (Place × Seen) → List Tree × Tree
parted t xs = (front_trees t xs, last_tree t xs)

are_assigned_trees : (e : Seen) (xs : List (Place × Seen)) → are_assigned e xs ≡ are_targets (trees (front_trees e.tree xs))
are_assigned_trees e [] = refl
are_assigned_trees e (x ∷ xs) = ap (λ b. is_target e.tree && b) (are_assigned_trees x.1 xs)

front_more : (t : Tree) (xs : List (Place × Seen)) (x : Place × Seen) → front_trees t (xs ++ x ∷ []) ≡ front_trees t xs ++ last_tree t xs ∷ []
front_more t [] x = refl
front_more t (y ∷ xs) x = ap (λ (z : List Tree). t ∷ z) (front_more y.1.tree xs x)

last_more : (t : Tree) (xs : List (Place × Seen)) (x : Place × Seen) → last_tree t (xs ++ x ∷ []) ≡ x.1.tree
last_more t [] x = refl
last_more t (y ∷ xs) x = last_more y.1.tree xs x

pub pair_same : {A B : Type 0} (a c : A) (b d : B) → a ≡ c → b ≡ d → (let u : A × B = (a, b) in let v : A × B = (c, d) in u ≡ v)
pair_same a c b d p q = cc

parted_more : (t : Tree) (xs : List (Place × Seen)) (x : Place × Seen) → parted t (and_then xs x) ≡ one_more (parted t xs) x
parted_more t xs x = pair_same (front_trees t (xs ++ x ∷ [])) (front_trees t xs ++ last_tree t xs ∷ []) (last_tree t (xs ++ x ∷ [])) x.1.tree (front_more t xs x) (last_more t xs x)

abbrev judged : Seen → Option (List (Place × Seen) × List Word) → Option (Step × List Word)
judged e o = seen_by assigned_seen (seen_by (λ (xs : List (Place × Seen)). let z : Seen × List (Place × Seen) = (e, xs) in z) o >>= λ x. if assigned_fit x.0 then Some x else None)

if_made : {A B : Type 0} (f : A → B) (b : Bool) (x : A × List Word) → seen_by f (if b then Some x else None) ≡ (if b then found (f x.0) x.1 else None)
if_made f true x = refl
if_made f false x = refl

judged_parts : (e : Seen) (xs : List (Place × Seen)) (r : List Word) → judged e (found xs r) ≡ assigned_of e.place (parted e.tree xs) r
judged_parts e [] r = refl
judged_parts e (x ∷ xs) r =
    let z : (Seen × List (Place × Seen)) × List Word = ((e, x ∷ xs), r) in
    if_made assigned_seen (are_assigned e (x ∷ xs)) z
    ∙ ap (λ b. if b then found (assigned_seen z.0) r else None) (are_assigned_trees e (x ∷ xs))

judged_seen : (e : Seen) (o : Option (List (Place × Seen) × List Word)) → judged e o ≡ (seen_by (parted e.tree) o >>= λ x. assigned_of e.place x.0 x.1)
judged_seen e None = refl
judged_seen e (Some x) = judged_parts e x.0 x.1

pub assignment_made : (i : Inner) (e : Seen) (ws : List Word) → assignment i e ws ≡ (many (next_sign (codes "=")) (sign (codes "=") ▹ exprs i) one_more ([], e.tree) ws >>= λ x. assigned_of e.place x.0 x.1)
unfolding assignment
assignment_made i e ws =
    judged_seen e (many (next_sign (codes "=")) (sign (codes "=") ▹ exprs i) and_then [] ws)
    ∙ ap (λ m. m >>= λ x. assigned_of e.place x.0 x.1) (sym (many_seen (parted e.tree) (next_sign (codes "=")) (sign (codes "=") ▹ exprs i) and_then one_more (parted_more e.tree) [] ws))

-- what the loop over `=` read, and what that says
abbrev pub Valued : Inner → Seen → List Word → List Tree → Tree → List Word → Type 0
Valued i e ws ts v r = many (next_sign (codes "=")) (sign (codes "=") ▹ exprs i) one_more ([], e.tree) ws ≡ found (ts, v) r

valued : (i : Inner) (e : Seen) (ws : List Word) (ts : List Tree) (v : Tree) (r : List Word) → Valued i e ws ts v r → assignment i e ws ≡ assigned_of e.place (ts, v) r
valued i e ws ts v r h = assignment_made i e ws ∙ ap (λ m. m >>= λ x. assigned_of e.place x.0 x.1) h

branch_true : {A : Type 0} (b : Bool) (x y : A) → b ≡ true → (if b then x else y) ≡ x
branch_true true x y h = refl
branch_true false x y h = cc

branch_false : {A : Type 0} (b : Bool) (x y : A) → b ≡ false → (if b then x else y) ≡ y
branch_false false x y h = refl
branch_false true x y h = cc

pub assigned_alone : (i : Inner) (e : Seen) (ws : List Word) (ts : List Tree) (v : Tree) (r : List Word) (s : Step) → Valued i e ws ts v r → is_empty ts ≡ true → s ≡ Evaluate e.place v → assignment i e ws ≡ found s r
assigned_alone i e ws ts v r s h none_there is_that =
    valued i e ws ts v r h ∙ (branch_true (is_empty ts) _ _ none_there ∙ ap (λ (z : Step). found z r) (sym is_that))

pub assigned_to : (i : Inner) (e : Seen) (ws : List Word) (ts : List Tree) (v : Tree) (r : List Word) (s : Step) → Valued i e ws ts v r → is_empty ts ≡ false → are_targets (trees ts) ≡ true → s ≡ Assign e.place (trees ts) v → assignment i e ws ≡ found s r
assigned_to i e ws ts v r s h some_there all_fit is_that =
    valued i e ws ts v r h ∙ (branch_false (is_empty ts) _ _ some_there ∙ (branch_true (are_targets (trees ts)) _ _ all_fit ∙ ap (λ (z : Step). found z r) (sym is_that)))

pub assigned_to_none : (i : Inner) (e : Seen) (ws : List Word) (ts : List Tree) (v : Tree) (r : List Word) → Valued i e ws ts v r → is_empty ts ≡ false → are_targets (trees ts) ≡ false → assignment i e ws ≡ None
assigned_to_none i e ws ts v r h some_there one_unfit =
    valued i e ws ts v r h ∙ (branch_false (is_empty ts) _ _ some_there ∙ branch_false (are_targets (trees ts)) _ _ one_unfit)
