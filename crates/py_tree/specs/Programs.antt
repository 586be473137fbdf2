-- What the contracts see of statements in memory: their trees.
-- Internal: no rule of the language.
use Rattle.std.specs.Prelude.{ℕ, List, [], ◌∷◌, map, Option, Some, None, option_map}
use Rattle.amh_host.specs.declared.place.Place.{Place}
use Rattle.py_tree.specs.declared.stmt.Stmt.{Stmt, Stmt-F, fold-Stmt}
use Rattle.py_tree.specs.declared.stmt.StmtKind.{StmtKind, StmtKind-F, fold-StmtKind}
use Rattle.py_tree.specs.declared.stmt.StmtKind.TheOpen as layer
use Rattle.py_tree.specs.declared.stmt.Block.{Block, Block-F, fold-Block}
use Rattle.py_tree.specs.declared.stmt.Branch.{Branch, Branch-F, fold-Branch}
use Rattle.py_tree.specs.declared.stmt.Function.{Function, Function-F, fold-Function}
use Rattle.py_tree.specs.declared.stmt.Program.{Program}
use Rattle.py_tree.specs.declared.stmt.Imported.{Imported}
use Rattle.py_tree.specs.declared.stmt.Param.{Param}
use Rattle.py_tree.specs.declared.stmt.Param.TheVariants as params
use Rattle.py_tree.specs.Tree.{Tree, trees, perhaps}
use Rattle.py_tree.specs.Seen.{tree, trailer_of}
use Rattle.py_tree.specs.Steps.{Step, Pass, Break, Continue, Return, Assert, Raise, ImportAll, Import, Assign, Annotate, Augment, Evaluate, If, While, For, With, Def, Class, Steps, Body, Fun, Import_name, Parameter, Named, Star, steps, branches, else_of, bases_of}

abbrev pub import_of : Imported → Import_name
import_of x = record { place = x.place; name = x.name; bound = x.bound }

abbrev pub parameter_of : Param → Parameter
parameter_of (params.Named p n a d) = Named p n (perhaps (option_map tree a)) (perhaps (option_map tree d))
parameter_of (params.Star p) = Star p

-- one layer of each type, its parts already seen
abbrev pub kind_step_seen : StmtKind-F (Place → Step) Steps (Tree × Steps) Body Step → Place → Step
kind_step_seen layer.Pass p = Pass p
kind_step_seen layer.Break p = Break p
kind_step_seen layer.Continue p = Continue p
kind_step_seen (layer.Return e) p = Return p (perhaps (option_map tree e))
kind_step_seen (layer.Assert e m) p = Assert p (tree e) (perhaps (option_map tree m))
kind_step_seen (layer.Raise e) p = Raise p (tree e)
kind_step_seen (layer.ImportAll path) p = ImportAll p path.items
kind_step_seen (layer.Import path names) p = Import p path.items (map import_of names.items)
kind_step_seen (layer.Assign ts e) p = Assign p (trees (map tree ts.items)) (tree e)
kind_step_seen (layer.Annotate t a e) p = Annotate p (tree t) (tree a) (perhaps (option_map tree e))
kind_step_seen (layer.Augment t o e) p = Augment p (tree t) o (tree e)
kind_step_seen (layer.Evaluate e) p = Evaluate p (tree e)
kind_step_seen (layer.If bs b) p = If p (branches bs.items) (else_of b)
kind_step_seen (layer.While e b) p = While p (tree e) b
kind_step_seen (layer.For ts e b) p = For p (tree ts) (tree e) b
kind_step_seen (layer.With e t b) p = With p (tree e) (perhaps (option_map tree t)) b
kind_step_seen (layer.Def f) p = Def p f.value
kind_step_seen (layer.Class n a b) p = Class p n (bases_of (option_map trailer_of a)) b

abbrev pub block_seen : Block-F (Place → Step) Steps (Tree × Steps) Body Step → Steps
block_seen b = steps b.stmts.value.items

abbrev pub branch_seen : Branch-F (Place → Step) Steps (Tree × Steps) Body Step → Tree × Steps
branch_seen b = (tree b.test, b.body)

abbrev pub function_seen : Function-F (Place → Step) Steps (Tree × Steps) Body Step → Body
function_seen f = Fun f.place f.name f.is_async (map parameter_of f.params.items) (perhaps (option_map tree f.result)) f.body

abbrev pub stmt_seen : Stmt-F (Place → Step) Steps (Tree × Steps) Body Step → Step
stmt_seen s = s.kind.value s.place

-- the tree of a statement
abbrev pub step_of : Stmt → Step
step_of = fold-Stmt (Place → Step) Steps (Tree × Steps) Body Step kind_step_seen block_seen branch_seen function_seen stmt_seen

abbrev pub kind_step : StmtKind → Place → Step
kind_step = fold-StmtKind (Place → Step) Steps (Tree × Steps) Body Step kind_step_seen block_seen branch_seen function_seen stmt_seen

abbrev pub steps_of : Block → Steps
steps_of = fold-Block (Place → Step) Steps (Tree × Steps) Body Step kind_step_seen block_seen branch_seen function_seen stmt_seen

abbrev pub branch_of : Branch → Tree × Steps
branch_of = fold-Branch (Place → Step) Steps (Tree × Steps) Body Step kind_step_seen block_seen branch_seen function_seen stmt_seen

abbrev pub body_of : Function → Body
body_of = fold-Function (Place → Step) Steps (Tree × Steps) Body Step kind_step_seen block_seen branch_seen function_seen stmt_seen

-- the tree of a whole file
abbrev pub program_of : Program → Steps
program_of p = steps_of p.body
