-- Small modules and what they give, by computation.
use Rattle.std.specs.Prelude.{◌≡◌, refl, ℕ, false, List, [], ◌∷◌, map, pos, Some, None, codes}
use Rattle.shape_rules.specs.Forms.{unsigned}
use Rattle.amh_host.specs.declared.place.Place.{Place}
use Rattle.design_ir.specs.declared.signal.Sig.{Sig}
use Rattle.design_ir.specs.declared.expr.Expr.TheVariants as expr
use Rattle.design_ir.specs.declared.memory.Memory.{Memory}
use Rattle.design_ir.specs.declared.process.Side.TheVariants.{Comb, Clocked}
use Rattle.design_ir.specs.declared.process.Process.{Process}
use Rattle.design_ir.specs.declared.fragment.Fragment.{Fragment}
use Rattle.design_ir.specs.Forests.{Forest, bare, grown}
use Rattle.design_ir.specs.Trees.{Block, done, next, assign}
use Rattle.design_ir.specs.Pools.{Pooled}
use Rattle.fragment_walks.specs.Held.{fragment_exprs, held_resets, inside}
use Rattle.fragment_walks.specs.Numbers.{lowered}
use Rattle.fragment_walks.specs.Reads.{is_read, offsets_in, signals_in}
use Rattle.fragment_walks.specs.Walks.{all_memories, all_names, all_paths}

place : ℕ → Place
place line = record { line = line; col = 13 }

one_bit : List ℕ → Sig
one_bit name = record { name = name; shape = unsigned 1; init = pos 0; reset_less = false }

-- the signals `a` and `b`, their expressions, `ResetSignal("fast")`, that reset beside `b`, and one bit of `b` at `a`
pool : Pooled
unfolding one_bit place
pool = record {
  signals = one_bit (codes "a") ∷ one_bit (codes "b") ∷ [];
  exprs = expr.Sig (record { 0 = 0 }) ∷ expr.Sig (record { 0 = 1 }) ∷ expr.Reset (codes "fast") (place 7) ∷ expr.Cat (record { 0 = 2 } ∷ record { 0 = 1 } ∷ []) ∷ expr.Part (record { 0 = 1 }) (record { 0 = 0 }) 1 1 ∷ [];
}

set : ℕ → ℕ → Block
unfolding place
set target value = next (assign (record { 0 = target }) (record { 0 = value }) (place 5)) done

-- `m.d.comb += TARGET.eq(VALUE)`, and the same in `sync`
comb : ℕ → ℕ → Process
unfolding set place
comb target value = record { side = Comb; body = set target value }

sync : ℕ → ℕ → Process
unfolding set place
sync target value = record { side = Clocked (codes "sync"); body = set target value }

-- two rows of one bit, read at `a`, where `a` is 1, at the edges of `slow`, into `b`
rows : Memory
rows = record {
  name = [];
  shape = unsigned 1;
  depth = 2;
  rows = pos 0 ∷ pos 1 ∷ [];
  writes = [];
  reads = record { domain = Some (codes "slow"); addr = record { 0 = 0 }; word = record { 0 = 1 }; enable = Some (record { 0 = 0 }); transparent = [] } ∷ [];
}

leaf : List ℕ → List Process → List Memory → Forest → Forest
leaf name ps ms below = grown (record { name = name; is_part = false; domains = []; processes = ps; memories = ms }) below bare

-- a module with one below it, `sub`, and one below that, `ram`
tree : Fragment
unfolding leaf comb sync set place rows
tree = record { name = codes "m"; is_part = false; domains = []; processes = comb 1 0 ∷ []; memories = []; submodules = leaf (codes "sub") (sync 1 3 ∷ []) [] (leaf (codes "ram") [] (rows ∷ []) bare) }

-- a process has the path of its module, and a memory that path as its name
paths : all_paths tree ≡ Some [] ∷ Some (codes "sub.") ∷ []
unfolding tree leaf comb sync set place rows
paths = refl

names : map (λ (m : Memory). m.name) (all_memories tree) ≡ codes "sub.ram" ∷ []
unfolding tree leaf comb sync set place rows
names = refl

-- the reset that stands in what `sub` assigns is of `sub`: its domain comes behind that of the statement, and before those below
domains : all_names pool tree ≡ codes "sync" ∷ codes "fast" ∷ codes "slow" ∷ []
unfolding tree leaf comb sync set place rows pool one_bit held_resets inside
domains = refl

held : held_resets pool (fragment_exprs tree) ≡ record { domain = codes "fast"; place = record { line = 7; col = 13 } } ∷ []
unfolding tree leaf comb sync set place rows pool one_bit held_resets inside
held = refl

-- an offset is read and no part of the target
offset_read : offsets_in pool 4 ≡ 0 ∷ []
unfolding pool one_bit place offsets_in
offset_read = refl

target_unread : is_read pool (comb 4 2 ∷ []) [] 1 ≡ false
unfolding comb set pool one_bit place offsets_in signals_in
target_unread = refl

-- of two numbers the lesser stays
least_stays : lowered (1 ∷ 2 ∷ []) 5 (None ∷ Some 3 ∷ None ∷ []) ≡ None ∷ Some 3 ∷ Some 5 ∷ []
least_stays = refl
