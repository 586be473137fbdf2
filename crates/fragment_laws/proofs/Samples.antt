-- A small fragment and what it does, by computation.
use Rattle.std.specs.Prelude.{◌≡◌, refl, ℕ, Bool, false, List, [], ◌∷◌, slice_get, ℤ, pos, Some, None, codes}
use Rattle.shape_rules.specs.Forms.{unsigned}
use Rattle.shape_rules.specs.declared.op.Op.TheVariants.{Add}
use Rattle.design_ir.specs.declared.domain.Domain.{Domain}
use Rattle.design_ir.specs.declared.expr.Expr.TheVariants.{Const, Binary, Reset}
use Rattle.design_ir.specs.declared.process.Side.{Side}
use Rattle.design_ir.specs.declared.process.Side.TheVariants.{Comb, Clocked}
use Rattle.design_ir.specs.declared.process.Process.{Process}
use Rattle.design_ir.specs.declared.memory.Memory.{Memory}
use Rattle.design_ir.specs.declared.fragment.Fragment.{Fragment}
use Rattle.design_ir.specs.Forests.{Forest, bare, grown}
use Rattle.design_ir.specs.Trees.{Statement, done, next}
use Rattle.design_ir.specs.Pools.{Pooled}
use Rattle.design_ir.specs.Values.{form, num}
use Rattle.design_ir.specs.Targets.{target_bits, target_signals}
use Rattle.design_ir.specs.Circuits.{is_among}
use Rattle.design_ir.proofs.SanityParts.{signal, e, s, set, here, domain, falling_domain, async_domain}
use Rattle.fragment_walks.specs.Held.{fragment_exprs, inside}
use Rattle.fragment_walks.specs.Walks.{all_memories}
use Rattle.clock_domains.specs.Placed.{placed_pool}
use Rattle.fragment_laws.specs.Surroundings.{Surroundings, pool_in}
use Rattle.fragment_laws.specs.Stepping.{Happening, given, toggled, step}
use Rattle.fragment_laws.specs.Lives.{History}

-- ---- the top counts n up in `sync`, and gives the reset of `sync` to y; below it r counts up in `fast`, and a memory of two
-- ---- rows takes 3 at the row of address a at each edge of `sync`, and shows that row in w

-- signals: the clock and the reset of `sync`, those of `fast`, n, r, w, a, y
pool : Pooled
pool = record {
  signals =
      signal (unsigned 1) (pos 0) ∷ signal (unsigned 1) (pos 0) ∷ signal (unsigned 1) (pos 0) ∷ signal (unsigned 1) (pos 0)
      ∷ signal (unsigned 4) (pos 5) ∷ signal (unsigned 4) (pos 2) ∷ signal (unsigned 8) (pos 0) ∷ signal (unsigned 1) (pos 0) ∷ signal (unsigned 1) (pos 0) ∷ [];
  exprs =
      s 4 ∷ s 5 ∷ Const (pos 1) (unsigned 1) ∷ Binary Add (e 0) (e 2) ∷ Binary Add (e 1) (e 2)
      ∷ s 7 ∷ Reset (codes "sync") here ∷ s 8 ∷ Const (pos 3) (unsigned 8) ∷ [];
}

side : Side → Statement → Process
side x statement = record { side = x; body = next statement done }

memory : Memory
memory = record {
  name = [];
  shape = unsigned 8;
  depth = 2;
  rows = pos 7 ∷ pos 9 ∷ [];
  writes = record { domain = codes "sync"; addr = e 5; word = e 8; enable = e 2; granularity = 8 } ∷ [];
  reads = record { domain = None; addr = e 5; word = record { 0 = 6 }; enable = None; transparent = [] } ∷ [];
}

below : Forest
unfolding side memory
below = grown (record { name = codes "below"; is_part = false; domains = []; processes = side (Clocked (codes "fast")) (set 1 4) ∷ []; memories = memory ∷ [] }) bare bare

top : Fragment
unfolding side below
top = record { name = codes "top"; is_part = false; domains = []; processes = side (Clocked (codes "sync")) (set 0 3) ∷ side Comb (set 7 6) ∷ []; memories = []; submodules = below }

from_outside : ℕ → Bool
from_outside k = is_among (0 ∷ 1 ∷ 2 ∷ 3 ∷ 7 ∷ []) k

-- `sync` rises, and `fast` as it is given
around : Domain → Surroundings
around fast = record { domains = domain (codes "sync") 0 1 ∷ fast ∷ []; outside = from_outside }

sync : Happening
sync = toggled (codes "sync" ∷ [])

fast : Happening
fast = toggled (codes "fast" ∷ [])

both : Happening
both = toggled (codes "sync" ∷ codes "fast" ∷ [])

shown : ℕ → ℕ → ℕ → ℕ → ℕ → ℕ → ℕ → ℕ → ℕ → List ℤ
shown clk rst fast_clk fast_rst n r w a y = pos clk ∷ pos rst ∷ pos fast_clk ∷ pos fast_rst ∷ pos n ∷ pos r ∷ pos w ∷ pos a ∷ pos y ∷ []

-- an asynchronous reset acts at once, and as long as it is 1; the other one waits for the edge, and is read meanwhile
lives : History pool top (around (async_domain (codes "fast") 2 3)) (sync ∷ given 7 (pos 1) ∷ fast ∷ given 3 (pos 1) ∷ given 1 (pos 1) ∷ both ∷ sync ∷ [])
    (shown 0 0 0 0 5 2 7 0 0 ∷ shown 1 0 0 0 6 2 3 0 0 ∷ shown 1 0 0 0 6 2 9 1 0 ∷ shown 1 0 1 0 6 3 9 1 0 ∷ shown 1 0 1 1 6 2 9 1 0 ∷ shown 1 1 1 1 6 2 9 1 1 ∷ shown 0 1 0 1 6 2 9 1 1 ∷ shown 1 1 0 1 5 2 3 1 1 ∷ [])
unfolding pool top below side memory around from_outside sync fast both shown form num target_bits target_signals
lives = (refl, (refl, (refl, (refl, (refl, (refl, (refl, refl)))))))

-- the same fragment where `fast` falls: it counts at the second toggle, and its reset waits for the third
lives_otherwise : History pool top (around (falling_domain (codes "fast") 2 3)) (fast ∷ fast ∷ given 3 (pos 1) ∷ fast ∷ fast ∷ [])
    (shown 0 0 0 0 5 2 7 0 0 ∷ shown 0 0 1 0 5 2 7 0 0 ∷ shown 0 0 0 0 5 3 7 0 0 ∷ shown 0 0 0 1 5 3 7 0 0 ∷ shown 0 0 1 1 5 3 7 0 0 ∷ shown 0 0 0 1 5 2 7 0 0 ∷ [])
unfolding pool top below side memory around from_outside fast shown form num target_bits target_signals
lives_otherwise = (refl, (refl, (refl, (refl, (refl, refl)))))

-- where no domain has a name, nothing acts under it, and its reset is 0
nothing_acts : step pool top (record { domains = []; outside = from_outside }) (record { held = shown 0 0 0 0 5 2 7 0 0; rows = (pos 7 ∷ pos 9 ∷ []) ∷ [] }) (shown 0 0 0 0 5 2 7 0 0) both
    ≡ record { held = shown 0 0 0 0 5 2 7 0 0; rows = (pos 7 ∷ pos 9 ∷ []) ∷ [] }
unfolding pool top below side memory from_outside both shown form num target_bits target_signals
nothing_acts = refl

-- `resolve` puts in the place of the reset that the top holds what its domain's name reads there
reads_reset : slice_get (pool_in (around (domain (codes "fast") 2 3)).domains pool).exprs 6 ≡ Some (s 1)
unfolding pool around
reads_reset = refl

places_reset : slice_get (placed_pool (around (domain (codes "fast") 2 3)).domains pool (fragment_exprs top)).exprs 6 ≡ Some (s 1)
unfolding pool around top below side memory placed_pool inside
places_reset = refl

-- and gives the memory the path of its module as its name
names_memory : all_memories top ≡ record memory { name = codes "below" } ∷ []
unfolding top below memory
names_memory = refl
