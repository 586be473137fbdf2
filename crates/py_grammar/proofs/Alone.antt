-- A primary alone is an expression.
use Rattle.std.proofs.Common.{ℕ, suc, zero, refl, sym, List, [], None, inr}
use Rattle.std.proofs.lemmas.List.{append-nil}
use Rattle.py_grammar.specs.declared.word.Word.{Word}
use Rattle.py_grammar.specs.declared.word.Kind.{Kind}
use Rattle.py_grammar.specs.Forms.{not_there, no_more}
use Rattle.py_grammar.specs.Seen.{Seen}
use Rattle.py_grammar.specs.Grammar.{Primary, PowerRule, Chain, Level, NotRule, ExprRule}

primary_power : (I : Kind → List Word → Seen → Type 0) (room : ℕ) (ws : List Word) (e : Seen) → Primary I ws e → PowerRule I room ws e
primary_power I room ws e d = record { from = (e, None); derived = record { derived = record { front = ws; back = []; whole = sym (append-nil ws); first = inr d; second = not_there }; passes = refl }; is = refl }

lone_chain : (k : ℕ) (D : List Word → Seen → Type 0) (ws : List Word) (e : Seen) → D ws e → Chain k D ws e
lone_chain k D ws e d = record { from = (e, ([], 0)); derived = record { front = ws; back = []; whole = sym (append-nil ws); first = d; second = record { from = []; derived = no_more; is = refl } }; is = refl }

primary_level : (I : Kind → List Word → Seen → Type 0) (room k : ℕ) (ws : List Word) (e : Seen) → Primary I ws e → Level I room k ws e
primary_level I room zero ws e d = inr (primary_power I room ws e d)
primary_level I room (suc k) ws e d = lone_chain k (Level I room k) ws e (primary_level I room k ws e d)

pub primary_expr : (I : Kind → List Word → Seen → Type 0) (room : ℕ) (ws : List Word) (e : Seen) → Primary I ws e → ExprRule I room ws e
primary_expr I room ws e d = record { from = (e, None); derived = record { derived = record { front = ws; back = []; whole = sym (append-nil ws); first = lone_chain 8 (Chain 7 (NotRule I room)) ws e (lone_chain 7 (NotRule I room) ws e (inr (primary_level I room 7 ws e d))); second = not_there }; passes = refl }; is = refl }
