-- Outside of all classes a name stays, and so does whatever has no statement in it.
use Rattle.std.proofs.Common.{◌≡◌, ◌∙◌, ℕ, false, List, [], ◌∷◌, map, Option, Some, None, option_map, refl, sym, ap}
use Rattle.std.proofs.lemmas.Bool.{true≢false, or_parts}
use Rattle.py_tree.specs.declared.name.Piece.{Piece}
use Rattle.py_tree.specs.declared.name.Piece.TheVariants as piece
use Rattle.py_tree.specs.Tree.{Tree, Name, Number, Decimal_time, Quotient, Str, Format, Constant_value, Tuple, Display, Dict, ListOf, DictOf, Trailed, Await, Power, Unary, Not, Binary, Compare, Boolean, Choice, Each, each, Trailer, Attribute, Call, CallOf, Index, Slice, Argument, Positional, Starred, Keyword, Trees, none, some, Links, no_link, link, Pairs, no_pair, pair, Perhaps, absent, present, Trailers, no_trailer, trailer, Arguments, no_argument, argument}
use Rattle.py_tree.specs.Steps.{Step, Pass, Break, Continue, Return, Assert, Raise, ImportAll, Import, Assign, Annotate, Augment, Evaluate, If, While, For, With, Def, Class, Import_name, Steps, last, next, Branches, no_branch, branch, Otherwise, nothing_else, otherwise, Body, Fun, Parameter, Named, Star}
use Rattle.private_names.specs.Names.{mangled_name}
use Rattle.private_names.specs.Expressions.{mangled_piece, mangled_tree, mangled_trees, mangled_links, mangled_pairs, mangled_perhaps, mangled_each, mangled_trailers, mangled_trailer, mangled_arguments, mangled_argument}
use Rattle.private_names.specs.Statements.{mangled_path, mangled_import, mangled_parameter, mangled_step, mangled_steps, mangled_branches, mangled_else, mangled_body, mangled_program, has_body, has_class, steps_have_class, branches_have_class, else_has_class, body_has_class}

pub name_outside : (name : List ℕ) → mangled_name [] name ≡ name
unfolding mangled_name
name_outside name = refl

pieces_outside : (ps : List Piece) → map (mangled_piece []) ps ≡ ps
pieces_outside [] = refl
pieces_outside (piece.Text text ∷ ps) = ap (λ z. piece.Text text ∷ z) (pieces_outside ps)
pieces_outside (piece.Hole name ∷ ps) = ap (λ z. piece.Hole z ∷ map (mangled_piece []) ps) (name_outside name) ∙ ap (λ z. piece.Hole name ∷ z) (pieces_outside ps)

mutual
  pub tree_outside : (t : Tree) → mangled_tree [] t ≡ t
  tree_outside (Name p name) = ap (Name p) (name_outside name)
  tree_outside (Number p n) = refl
  tree_outside (Decimal_time p d) = refl
  tree_outside (Quotient p n d) = refl
  tree_outside (Str p text) = refl
  tree_outside (Format p pieces) = ap (Format p) (pieces_outside pieces)
  tree_outside (Constant_value p c) = refl
  tree_outside (Tuple p es) = ap (Tuple p) (trees_outside es)
  tree_outside (Display p es) = ap (Display p) (trees_outside es)
  tree_outside (Dict p ps) = ap (Dict p) (pairs_outside ps)
  tree_outside (ListOf p e c) = let a = tree_outside e in let b = each_outside c in cc
  tree_outside (DictOf p key value c) = let a = tree_outside key in let b = tree_outside value in let d = each_outside c in cc
  tree_outside (Trailed p e ts) = let a = tree_outside e in let b = trailers_outside ts in cc
  tree_outside (Await p e) = ap (Await p) (tree_outside e)
  tree_outside (Power p x y) = let a = tree_outside x in let b = tree_outside y in cc
  tree_outside (Unary p sign e) = ap (Unary p sign) (tree_outside e)
  tree_outside (Not p e) = ap (Not p) (tree_outside e)
  tree_outside (Binary p e ls) = let a = tree_outside e in let b = links_outside ls in cc
  tree_outside (Compare p e ls) = let a = tree_outside e in let b = links_outside ls in cc
  tree_outside (Boolean p e ls) = let a = tree_outside e in let b = links_outside ls in cc
  tree_outside (Choice p chosen test other) = let a = tree_outside chosen in let b = tree_outside test in let d = tree_outside other in cc

  pub trees_outside : (ts : Trees) → mangled_trees [] ts ≡ ts
  trees_outside none = refl
  trees_outside (some e es) = let a = tree_outside e in let b = trees_outside es in cc

  links_outside : (ls : Links) → mangled_links [] ls ≡ ls
  links_outside no_link = refl
  links_outside (link o e ls) = let a = tree_outside e in let b = links_outside ls in cc

  pairs_outside : (ps : Pairs) → mangled_pairs [] ps ≡ ps
  pairs_outside no_pair = refl
  pairs_outside (pair key value ps) = let a = tree_outside key in let b = tree_outside value in let d = pairs_outside ps in cc

  pub perhaps_outside : (e : Perhaps) → mangled_perhaps [] e ≡ e
  perhaps_outside absent = refl
  perhaps_outside (present e) = ap present (tree_outside e)

  each_outside : (c : Each) → mangled_each [] c ≡ c
  each_outside (each targets source condition) = let a = tree_outside targets in let b = tree_outside source in let d = perhaps_outside condition in cc

  trailers_outside : (ts : Trailers) → mangled_trailers [] ts ≡ ts
  trailers_outside no_trailer = refl
  trailers_outside (trailer t ts) = let a = trailer_outside t in let b = trailers_outside ts in cc

  trailer_outside : (t : Trailer) → mangled_trailer [] t ≡ t
  trailer_outside (Attribute name) = ap Attribute (name_outside name)
  trailer_outside (Call as_given) = ap Call (arguments_outside as_given)
  trailer_outside (CallOf e c) = let a = tree_outside e in let b = each_outside c in cc
  trailer_outside (Index e) = ap Index (tree_outside e)
  trailer_outside (Slice start stop step) = let a = perhaps_outside start in let b = perhaps_outside stop in let d = perhaps_outside step in cc

  arguments_outside : (as_given : Arguments) → mangled_arguments [] as_given ≡ as_given
  arguments_outside no_argument = refl
  arguments_outside (argument a as_more) = let x = argument_outside a in let y = arguments_outside as_more in cc

  argument_outside : (a : Argument) → mangled_argument [] a ≡ a
  argument_outside (Positional e) = ap Positional (tree_outside e)
  argument_outside (Starred e) = ap Starred (tree_outside e)
  argument_outside (Keyword name e) = ap (Keyword name) (tree_outside e)

path_outside : (path : List (List ℕ)) → mangled_path [] path ≡ path
path_outside [] = refl
path_outside (name ∷ []) = ap (λ z. z ∷ []) (name_outside name)
path_outside (first ∷ second ∷ more) = refl

bound_outside : (o : Option (List ℕ)) → option_map (mangled_name []) o ≡ o
bound_outside None = refl
bound_outside (Some name) = ap (λ z. Some z) (name_outside name)

import_outside : (x : Import_name) → mangled_import [] x ≡ x
import_outside x = ap (λ (z : List ℕ). record x { name = z; bound = option_map (mangled_name []) x.bound }) (name_outside x.name) ∙ ap (λ (z : Option (List ℕ)). record x { bound = z }) (bound_outside x.bound)

imports_outside : (xs : List Import_name) → map (mangled_import []) xs ≡ xs
imports_outside [] = refl
imports_outside (x ∷ xs) = let a = import_outside x in let b = imports_outside xs in cc

-- a statement without others in it
pub step_outside : (s : Step) → has_body s ≡ false → s ≡ mangled_step [] s
step_outside (Pass p) h = refl
step_outside (Break p) h = refl
step_outside (Continue p) h = refl
step_outside (Return p e) h = let a = perhaps_outside e in cc
step_outside (Assert p test message) h = let a = tree_outside test in let b = perhaps_outside message in cc
step_outside (Raise p e) h = let a = tree_outside e in cc
step_outside (ImportAll p path) h = refl
step_outside (Import p path names) h = let a = path_outside path in let b = imports_outside names in cc
step_outside (Assign p targets e) h = let a = trees_outside targets in let b = tree_outside e in cc
step_outside (Annotate p target annotation e) h = let a = tree_outside target in let b = tree_outside annotation in let d = perhaps_outside e in cc
step_outside (Augment p target o e) h = let a = tree_outside target in let b = tree_outside e in cc
step_outside (Evaluate p e) h = let a = tree_outside e in cc
step_outside (If p bs b) h = absurd (true≢false h)
step_outside (While p e b) h = absurd (true≢false h)
step_outside (For p targets source b) h = absurd (true≢false h)
step_outside (With p context target b) h = absurd (true≢false h)
step_outside (Def p f) h = absurd (true≢false h)
step_outside (Class p name bs b) h = absurd (true≢false h)

-- an expression where no class is around
pub outside : (class : List ℕ) (t : Tree) → class ≡ [] → t ≡ mangled_tree class t
outside [] t e = let a = tree_outside t in cc
outside (c ∷ class) t e = cc

pub statement_outside : (class : List ℕ) (s : Step) → class ≡ [] → has_body s ≡ false → s ≡ mangled_step class s
statement_outside [] s e h = step_outside s h
statement_outside (c ∷ class) s e h = cc

-- ---- programs

parameter_outside : (x : Parameter) → mangled_parameter [] x ≡ x
parameter_outside (Named p name annotation default_value) = let a = name_outside name in let b = perhaps_outside annotation in let d = perhaps_outside default_value in cc
parameter_outside (Star p) = refl

parameters_outside : (xs : List Parameter) → map (mangled_parameter []) xs ≡ xs
parameters_outside [] = refl
parameters_outside (x ∷ xs) = let a = parameter_outside x in let b = parameters_outside xs in cc

mutual
  step_stays : (s : Step) → has_class s ≡ false → mangled_step [] s ≡ s
  step_stays (If p bs b) h = let h2 = or_parts (branches_have_class bs) (else_has_class b) h in let a = branches_stay bs h2.0 in let d = else_stays b h2.1 in cc
  step_stays (While p e b) h = let a = tree_outside e in let d = steps_stay b h in cc
  step_stays (For p targets source b) h = let a = tree_outside targets in let d = tree_outside source in let f = steps_stay b h in cc
  step_stays (With p context target b) h = let a = tree_outside context in let d = perhaps_outside target in let f = steps_stay b h in cc
  step_stays (Def p f) h = ap (Def p) (body_stays f h)
  step_stays (Class p name bs b) h = absurd (true≢false h)
  step_stays (Pass p) h = refl
  step_stays (Break p) h = refl
  step_stays (Continue p) h = refl
  step_stays (Return p e) h = sym (step_outside (Return p e) refl)
  step_stays (Assert p test message) h = sym (step_outside (Assert p test message) refl)
  step_stays (Raise p e) h = sym (step_outside (Raise p e) refl)
  step_stays (ImportAll p path) h = refl
  step_stays (Import p path names) h = sym (step_outside (Import p path names) refl)
  step_stays (Assign p targets e) h = sym (step_outside (Assign p targets e) refl)
  step_stays (Annotate p target annotation e) h = sym (step_outside (Annotate p target annotation e) refl)
  step_stays (Augment p target o e) h = sym (step_outside (Augment p target o e) refl)
  step_stays (Evaluate p e) h = sym (step_outside (Evaluate p e) refl)

  steps_stay : (ss : Steps) → steps_have_class ss ≡ false → mangled_steps [] ss ≡ ss
  steps_stay last h = refl
  steps_stay (next s ss) h = let h2 = or_parts (has_class s) (steps_have_class ss) h in let a = step_stays s h2.0 in let d = steps_stay ss h2.1 in cc

  branches_stay : (bs : Branches) → branches_have_class bs ≡ false → mangled_branches [] bs ≡ bs
  branches_stay no_branch h = refl
  branches_stay (branch test b bs) h = let h2 = or_parts (steps_have_class b) (branches_have_class bs) h in let a = tree_outside test in let d = steps_stay b h2.0 in let f = branches_stay bs h2.1 in cc

  else_stays : (b : Otherwise) → else_has_class b ≡ false → mangled_else [] b ≡ b
  else_stays nothing_else h = refl
  else_stays (otherwise b) h = ap otherwise (steps_stay b h)

  body_stays : (f : Body) → body_has_class f ≡ false → mangled_body [] f ≡ f
  body_stays (Fun p name is_async params result_type b) h = let a = name_outside name in let d = parameters_outside params in let f = perhaps_outside result_type in let g = steps_stay b h in cc

-- a program in which no class stands
pub program_outside : (ss : Steps) → steps_have_class ss ≡ false → mangled_program ss ≡ ss
program_outside = steps_stay
