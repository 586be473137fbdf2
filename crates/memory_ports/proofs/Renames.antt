-- A memory whose domains get other names.
use Rattle.std.specs.Prelude.{◌≡◌, ◌≢◌, refl, ℕ, zero, suc, true, IsSomeAnd, List, [], ◌∷◌, map, length, slice_get, Option, Some, None, option_map, codes}
use Rattle.std.specs.List.{AllByRecursion}
use Rattle.std.proofs.Common.{ap, arith}
use Rattle.design_ir.specs.declared.ids.ExprId.{ExprId}
use Rattle.design_ir.specs.declared.memory.MemWrite.{MemWrite}
use Rattle.design_ir.specs.declared.memory.MemRead.{MemRead}
use Rattle.design_ir.specs.declared.memory.Memory.{Memory}
use Rattle.design_ir.specs.Pools.{Pooled}
use Rattle.design_ir.specs.Designs.{IsTransparent}
use Rattle.memory_ports.specs.Memories.{is_granularity, IsSpec, HasFittingEnable, FitsWrite, FitsRead, FitsPool}
use Rattle.memory_ports.specs.Laws.{renamed, RenamesStay}

length_map : {A B : Type 0} (g : A → B) (xs : List A) → length (map g xs) ≡ length xs
length_map g [] = refl
length_map g (x ∷ xs) = ap suc (length_map g xs)

-- what holds behind the map of each holds of each that is mapped
all_map : {A B : Type 0} {P : A → Type 0} (Q : B → Type 0) (g : A → B) (f : (x : A) → P x → Q (g x)) (xs : List A) → AllByRecursion P xs → AllByRecursion Q (map g xs)
all_map Q g f [] h = tt
all_map Q g f (x ∷ xs) h = (f x h.0, all_map Q g f xs h.1)

some_is : (a b : List ℕ) → Some a ≡ Some b → a ≡ b
some_is a b e = cc

module _ (f : List ℕ → List ℕ) where
  abbrev write_as : MemWrite → MemWrite
  write_as w = record w { domain = f w.domain }

  abbrev read_as : MemRead → MemRead
  read_as r = record r { domain = option_map f r.domain }

  port_as : (ws : List MemWrite) (k : ℕ) (d : List ℕ) → IsSomeAnd (slice_get ws k) (λ (w : MemWrite). w.domain ≡ d) → IsSomeAnd (slice_get (map write_as ws) k) (λ (w : MemWrite). w.domain ≡ f d)
  port_as [] k d h = absurd h
  port_as (w ∷ ws) zero d h = ap f h
  port_as (w ∷ ws) (suc k) d h = port_as ws k d h

  transparent_as : (m : Memory) (d : Option (List ℕ)) (k : ℕ) → IsTransparent m d k → IsTransparent (renamed f m) (option_map f d) k
  transparent_as m None k h = h
  transparent_as m (Some d) k h = port_as m.writes k d h

  clocked_as : ((domain : List ℕ) → domain ≢ codes "comb" → f domain ≢ codes "comb") → (d : Option (List ℕ)) → d ≢ Some (codes "comb") → option_map f d ≢ Some (codes "comb")
  clocked_as other None h = λ e. cc
  clocked_as other (Some d) h = λ e. other d (λ same. h (ap (λ x. Some x) same)) (some_is (f d) (codes "comb") e)

  through_as : (m : Memory) (d : Option (List ℕ)) (ks : List ℕ) → AllByRecursion (IsTransparent m d) ks → AllByRecursion (IsTransparent (renamed f m) (option_map f d)) ks
  through_as m d [] h = tt
  through_as m d (k ∷ ks) h = (transparent_as m d k h.0, through_as m d ks h.1)

  spec_as : (m : Memory) → ((domain : List ℕ) → domain ≢ codes "comb" → f domain ≢ codes "comb") → IsSpec m → IsSpec (renamed f m)
  spec_as m other h = record {
    unnamed = h.unnamed;
    few_rows = h.few_rows;
    few_bits = h.few_bits;
    rows = h.rows;
    row_shapes = h.row_shapes;
    few_ports = (let a = length_map write_as m.writes in let b = length_map read_as m.reads in omega (arith, a, b, h.few_ports));
    clocked_writes = all_map (λ (w : MemWrite). w.domain ≢ codes "comb") write_as (λ w x. other w.domain x) m.writes h.clocked_writes;
    one_domain = all_map (λ (w : MemWrite). AllByRecursion (λ (v : MemWrite). v.domain ≡ w.domain) (map write_as m.writes)) write_as (λ w x. all_map (λ (v : MemWrite). v.domain ≡ f w.domain) write_as (λ v e. ap f e) m.writes x) m.writes h.one_domain;
    granularities = all_map (λ (w : MemWrite). is_granularity m.shape.width w.granularity ≡ true) write_as (λ w x. x) m.writes h.granularities;
    clocked_reads = all_map (λ (r : MemRead). r.domain ≢ Some (codes "comb")) read_as (λ r x. clocked_as other r.domain x) m.reads h.clocked_reads;
    transparent = all_map (λ (r : MemRead). AllByRecursion (IsTransparent (renamed f m) r.domain) r.transparent) read_as (λ r x. through_as m r.domain r.transparent x) m.reads h.transparent;
  }

  enable_as : (q : Pooled) (d : Option (List ℕ)) (e : Option ExprId) → HasFittingEnable q d e → HasFittingEnable q (option_map f d) e
  enable_as q None None h = h
  enable_as q None (Some e) h = absurd h
  enable_as q (Some d) None h = absurd h
  enable_as q (Some d) (Some e) h = h

  fits_as : (m : Memory) (q : Pooled) → FitsPool q m → FitsPool q (renamed f m)
  fits_as m q h = record {
    writes = all_map (FitsWrite q m.depth m.shape) write_as (λ w x. record { addr = x.addr; word = x.word; enable = x.enable }) m.writes h.writes;
    reads = all_map (FitsRead q m.depth m.shape) read_as (λ r x. record { addr = x.addr; word = x.word; enable = enable_as q r.domain r.enable x.enable }) m.reads h.reads;
  }

pub renames_stay : RenamesStay
renames_stay f m other = record { spec = spec_as f m other; fits = fits_as f m }
