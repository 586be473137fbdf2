-- What the words of a logical line stand for: a simple statement, or the head of a compound one.
-- Source: Python reference 7, Simple statements, and 8, Compound statements; for parameters 8.7, Function definitions.
use Rattle.std.specs.Prelude.{◌≡◌, ℕ, Bool, true, false, not, ◌&&◌, ◌||◌, is_some, is_none, if◌then◌else◌, List, [], ◌∷◌, map, Option, Some, None, codes}
use Rattle.std.specs.List.{list_any}
use Rattle.lists.specs.Texts.{text_eq}
use Rattle.amh_host.specs.declared.place.Place.{Place}
use Rattle.py_tree.specs.declared.expr.Operator.{Operator}
use Rattle.py_tree.specs.declared.expr.Operator.TheVariants as op
use Rattle.py_tree.specs.Tree.{Tree, Perhaps, absent, present, trees, perhaps, Trailer}
use Rattle.py_tree.specs.Steps.{Step, Pass, Break, Continue, Return, Assert, Raise, ImportAll, Import, Assign, Annotate, Augment, Evaluate, Import_name, Parameter, Named, Star, Bases, no_bases, bases}
use Rattle.py_grammar.specs.declared.word.Word.{Word}
use Rattle.py_grammar.specs.declared.word.Mark.{Mark}
use Rattle.py_grammar.specs.Words.{keyword_of, is_text}
use Rattle.py_grammar.specs.Seen.{Seen, Deep, is_empty}

-- ---- parts that may be left out

abbrev pub tree_of : Option Seen → Perhaps
tree_of None = absent
tree_of (Some e) = present e.tree

-- with the place of the sign or keyword before them
abbrev pub tree_behind : Option (Place × Seen) → Perhaps
tree_behind None = absent
tree_behind (Some x) = present x.1.tree

-- ---- simple statements

abbrev pub return_seen : Place × Option Seen → Step
return_seen x = Return x.0 (tree_of x.1)

abbrev pub assert_seen : Place × (Seen × Option (Place × Seen)) → Step
assert_seen x = Assert x.0 x.1.0.tree (tree_behind x.1.1)

abbrev pub raise_seen : Place × Seen → Step
raise_seen x = Raise x.0 x.1.tree

-- a name, and the name that it is bound to
abbrev pub bound_name : Option (Place × (Place × List ℕ)) → Option (List ℕ)
bound_name None = None
bound_name (Some x) = Some x.1.1

abbrev pub import_name_seen : (Place × List ℕ) × Option (Place × (Place × List ℕ)) → Import_name
import_name_seen x = record { place = x.0.0; name = x.0.1; bound = bound_name x.1 }

-- names with a dot between each two
abbrev pub dotted_seen : (Place × List ℕ) × List (Place × (Place × List ℕ)) → List (List ℕ)
dotted_seen x = x.0.1 ∷ map (λ (y : Place × (Place × List ℕ)). y.1.1) x.1

-- things with a comma between each two
abbrev pub listed : {A : Type 0} → A × List (Place × A) → List A
listed x = x.0 ∷ map (λ y. y.1) x.1

-- all names, or those that are listed
abbrev pub import_of : Place → List (List ℕ) → Option (List Import_name) → Step
import_of p path None = ImportAll p path
import_of p path (Some names) = Import p path names

abbrev pub import_seen : Place × (List (List ℕ) × (Place × Option (List Import_name))) → Step
import_seen x = import_of x.0 x.1.0 x.1.1.1

-- one or more targets with `=` behind each, and the value
abbrev pub assign_seen : Seen × (Place × (List (Seen × Place) × Seen)) → Step
assign_seen x = Assign x.0.place (trees (x.0.tree ∷ map (λ (y : Seen × Place). y.0.tree) x.1.1.0)) x.1.1.1.tree

abbrev pub annotate_seen : Seen × (Place × (Seen × Option (Place × Seen))) → Step
annotate_seen x = Annotate x.0.place x.0.tree x.1.1.0.tree (tree_behind x.1.1.1)

abbrev pub augment_seen : Seen × ((Place × Operator) × Seen) → Step
augment_seen x = Augment x.0.place x.0.tree x.1.0.1 x.1.1.tree

abbrev pub evaluate_seen : Seen → Step
evaluate_seen e = Evaluate e.place e.tree

-- the operator of an augmented assignment
abbrev pub augmented_of : List ℕ → Option Operator
augmented_of text =
    if text_eq text (codes "+=") then Some op.Add else
    if text_eq text (codes "-=") then Some op.Sub else
    if text_eq text (codes "*=") then Some op.Mul else
    if text_eq text (codes "//=") then Some op.FloorDiv else
    if text_eq text (codes "%=") then Some op.Mod else
    if text_eq text (codes "&=") then Some op.BitAnd else
    if text_eq text (codes "|=") then Some op.BitOr else
    if text_eq text (codes "^=") then Some op.BitXor else
    if text_eq text (codes "<<=") then Some op.ShiftLeft else
    if text_eq text (codes ">>=") then Some op.ShiftRight else None

-- ---- parameters

abbrev pub named_seen : (Place × List ℕ) × (Option (Place × Seen) × Option (Place × Seen)) → Parameter
named_seen x = Named x.0.0 x.0.1 (tree_behind x.1.0) (tree_behind x.1.1)

abbrev pub is_star : Parameter → Bool
is_star (Named p n a d) = false
is_star (Star p) = true

abbrev pub is_present : Perhaps → Bool
is_present absent = false
is_present (present t) = true

-- before the star, one without a default stands before those with one
abbrev pub defaults_last : Bool → List Parameter → Bool
defaults_last seen [] = true
defaults_last seen (Star p ∷ ps) = true
defaults_last seen (Named p n a d ∷ ps) = (is_present d || not seen) && defaults_last (is_present d) ps

-- at most one star, and something behind it
abbrev pub star_fits : List Parameter → Bool
star_fits [] = true
star_fits (Named p n a d ∷ ps) = star_fits ps
star_fits (Star p ∷ ps) = not (is_empty ps) && not (list_any is_star ps)

abbrev pub has_name : List ℕ → Parameter → Bool
has_name this (Named p n a d) = text_eq n this
has_name this (Star p) = false

-- no name stands twice
abbrev pub names_differ : List Parameter → Bool
names_differ [] = true
names_differ (Named p n a d ∷ ps) = not (list_any (has_name n) ps) && names_differ ps
names_differ (Star p ∷ ps) = names_differ ps

abbrev pub params_fit : List Parameter → Bool
params_fit ps = defaults_last false ps && (star_fits ps && names_differ ps)

abbrev pub params_seen : List Parameter × Option Place → List Parameter
params_seen x = x.0

abbrev pub all_params : Option (List Parameter) → List Parameter
all_params None = []
all_params (Some ps) = ps

-- ---- heads of compound statements

pub data Head : Type 0 where
  IfHead : Place → Tree → Head
  ElifHead : Place → Tree → Head
  ElseHead : Place → Head
  WhileHead : Place → Tree → Head
  ForHead : Place → (targets source : Tree) → Head
  WithHead : Place → Tree → Perhaps → Head
  DefHead : Place → (name : List ℕ) → (is_async : Bool) → List Parameter → (result_type : Perhaps) → Head
  ClassHead : Place → (name : List ℕ) → Bases → Head

abbrev pub if_seen : Place × (Seen × Place) → Head
if_seen x = IfHead x.0 x.1.0.tree

abbrev pub elif_seen : Place × (Seen × Place) → Head
elif_seen x = ElifHead x.0 x.1.0.tree

abbrev pub else_seen : Place × Place → Head
else_seen x = ElseHead x.0

abbrev pub while_seen : Place × (Seen × Place) → Head
while_seen x = WhileHead x.0 x.1.0.tree

abbrev pub for_seen : Place × (Seen × (Place × (Seen × Place))) → Head
for_seen x = ForHead x.0 x.1.0.tree x.1.1.1.0.tree

abbrev pub with_seen : Place × (Seen × (Option (Place × Seen) × Place)) → Head
with_seen x = WithHead x.0 x.1.0.tree (tree_behind x.1.1.0)

-- a function begins at `async` where that stands there
abbrev pub def_place : Option Place → Place → Place
def_place None p = p
def_place (Some p) q = p

abbrev pub DefParts : Type 0
DefParts = Option Place × (Place × ((Place × List ℕ) × (Place × (Option (List Parameter) × (Place × (Option (Place × Seen) × Place))))))

abbrev pub def_seen : DefParts → Head
def_seen x = DefHead (def_place x.0 x.1.0) x.1.1.0.1 (is_some x.0) (all_params x.1.1.1.1.0) (tree_behind x.1.1.1.1.1.1.0)

abbrev pub bases_seen : Option (Deep Trailer) → Bases
bases_seen None = no_bases
bases_seen (Some t) = bases t.0

abbrev pub class_seen : Place × ((Place × List ℕ) × (Option (Deep Trailer) × Place)) → Head
class_seen x = ClassHead x.0 x.1.0.1 (bases_seen x.1.1.0)

-- ---- lines

-- whether `await` stands among these words
abbrev pub awaits : List Word → Bool
awaits ws = list_any (λ (w : Word). is_text (codes "await") (keyword_of w.mark)) ws

-- a thing, and whether `await` stands in it
abbrev pub Noted : Type 0 → Type 0
Noted A = A × Bool

-- a simple statement, or a head with the simple statement behind its colon where there is one
pub data LineForm : Type 0 where
  Simple : Noted Step → LineForm
  Headed : Noted Head → Option (Noted Step) → LineForm

abbrev pub headed_seen : Noted Head × Option (Noted Step) → LineForm
headed_seen x = Headed x.0 x.1
