-- Lists that the builders of nodes make.
use Rattle.std.proofs.Common.{◌≡◌, List, [], ◌∷◌, ◌++◌, ap, map, refl, insert, ◌∙◌}
use Rattle.std.specs.Prelude.{not, Option, Some, None, is_some, option_map}
use Rattle.py_tree.specs.Tree.{Tree, trees, perhaps}
use Rattle.py_tree.specs.Seen.{tree}
use Rattle.py_tree.specs.declared.expr.Expr.{Expr}
use Rattle.py_grammar.specs.Seen.{is_empty, some_there}
use Rattle.py_grammar.specs.Shapes.{is_present}

pub is_empty_map : {A B : Type 0} (f : A → B) (xs : List A) → is_empty (map f xs) ≡ is_empty xs
is_empty_map f [] = refl
is_empty_map f (x ∷ xs) = refl

pub insert_first : {A : Type 0} (xs : List A) (x : A) → insert xs 0 x ≡ x ∷ xs
insert_first xs x = refl

pub some_there_trees : {A : Type 0} (f : A → Tree) (xs : List A) → some_there (trees (map f xs)) ≡ not (is_empty xs)
some_there_trees f [] = refl
some_there_trees f (x ∷ xs) = refl

pub map_one_more : {A B : Type 0} (f : A → B) (xs : List A) (x : A) → map f (xs ++ x ∷ []) ≡ map f xs ++ f x ∷ []
map_one_more f [] x = refl
map_one_more f (y ∷ xs) x = ap (λ z. f y ∷ z) (map_one_more f xs x)

pub map_pushed : {A B : Type 0} (f : A → B) (xs more : List A) (x : A) → more ≡ xs ++ x ∷ [] → map f more ≡ map f xs ++ f x ∷ []
map_pushed f xs more x h = ap (map f) h ∙ map_one_more f xs x

pub present_there : (e : Option Expr) → is_present (perhaps (option_map tree e)) ≡ is_some e
present_there None = refl
present_there (Some e) = refl
