-- What a memory that is being made keeps to, call by call.
use Rattle.std.specs.Prelude.{◌≡◌, ◌≢◌, refl, ℕ, zero, suc, ◌+◌, ◌-◌, ◌*◌, ◌==◌, ◌≤◌, ◌<◌, ◌||◌, Bool, true, false, not, IsSomeAnd, List, [], ◌∷◌, ◌++◌, replicate, length, slice_get, ℤ, pos, Option, Some, None, codes}
use Rattle.std.specs.List.{AllByRecursion, list_any}
use Rattle.std.proofs.Common.{sym, ◌∙◌, ap, arith, length-append}
use Rattle.std.proofs.lemmas.Bool.{leb-false, eq-eqb, false≢true}
use Rattle.std.proofs.lemmas.Nat.{pow_pos}
use Rattle.std.proofs.lemmas.List.{length-replicate}
use Rattle.lists.specs.Texts.{text_eq}
use Rattle.lists.proofs.TextLaws.{text_eq_true, text_eq_same}
use Rattle.amh_bits.specs.Patterns.{IsOf}
use Rattle.shape_rules.specs.Forms.{Form}
use Rattle.design_ir.specs.declared.memory.MemWrite.{MemWrite}
use Rattle.design_ir.specs.declared.memory.MemRead.{MemRead}
use Rattle.design_ir.specs.declared.memory.Memory.{Memory}
use Rattle.design_ir.specs.Circuits.{option_test}
use Rattle.design_ir.specs.Pools.{Pooled}
use Rattle.design_ir.specs.Designs.{IsTransparent}
use Rattle.design_ir.proofs.Growth.{all_append, length_more}
use Rattle.memory_ports.specs.Ports.{granule}
use Rattle.memory_ports.specs.Memories.{IsSpec, is_divisor, is_granularity}
use Rattle.memory_ports.specs.Calls.{new_memory, is_full, is_elsewhere, is_granule, is_transparent, and_write, and_read}

-- ---- lists

pub all_imp : {A : Type 0} {P Q : A → Type 0} (f : (x : A) → P x → Q x) (xs : List A) → AllByRecursion P xs → AllByRecursion Q xs
all_imp f [] h = tt
all_imp f (x ∷ xs) h = (f x h.0, all_imp f xs h.1)

all_join : {A : Type 0} (P : A → Type 0) (xs ys : List A) → AllByRecursion P xs → AllByRecursion P ys → AllByRecursion P (xs ++ ys)
all_join P [] ys h k = k
all_join P (x ∷ xs) ys h k = (h.0, all_join P xs ys h.1 k)

all_repeated : {A : Type 0} (P : A → Type 0) (n : ℕ) (x : A) → P x → AllByRecursion P (replicate n x)
all_repeated P zero x h = tt
all_repeated P (suc n) x h = (h, all_repeated P n x h)

-- where none is bad, each is good
none_bad : {A : Type 0} (good : A → Bool) (xs : List A) → list_any (λ x. not (good x)) xs ≡ false → AllByRecursion (λ x. good x ≡ true) xs
none_bad good [] h = tt
none_bad good (x ∷ xs) h = go (good x) refl (none_bad good xs) h
  where
    go : (b : Bool) → good x ≡ b → (list_any (λ y. not (good y)) xs ≡ false → AllByRecursion (λ y. good y ≡ true) xs) → (not b || list_any (λ y. not (good y)) xs) ≡ false → AllByRecursion (λ y. good y ≡ true) (x ∷ xs)
    go true e rest k = (e, rest k)
    go false e rest k = absurd (false≢true (sym k))

-- ---- a new memory

pub zero_of : (signed : Bool) (w : ℕ) → IsOf signed w (pos 0)
zero_of false w = pow_pos w
zero_of true w = let h = pow_pos w in omega (arith, h)

pub spec_new : (shape : Form) (depth : ℕ) (rows : List ℤ) → depth ≤ 65536 → depth * shape.width ≤ 1048576 → length rows ≤ depth → AllByRecursion (IsOf shape.signed shape.width) rows → IsSpec (new_memory shape depth rows)
spec_new shape depth rows few bits enough fit = record {
  unnamed = refl;
  few_rows = few;
  few_bits = bits;
  rows = length-append rows (replicate (depth - length rows) (pos 0)) ∙ (let n = length-replicate (depth - length rows) (pos 0) in omega (arith, n, enough));
  row_shapes = all_join (IsOf shape.signed shape.width) rows (replicate (depth - length rows) (pos 0)) fit (all_repeated (IsOf shape.signed shape.width) (depth - length rows) (pos 0) (zero_of shape.signed shape.width));
  few_ports = omega arith;
  clocked_writes = tt;
  one_domain = tt;
  granularities = tt;
  clocked_reads = tt;
  transparent = tt;
}

-- ---- a write port

in_domain : (ws : List MemWrite) (domain : List ℕ) → is_elsewhere ws domain ≡ false → AllByRecursion (λ (w : MemWrite). w.domain ≡ domain) ws
in_domain ws domain h = all_imp (λ (w : MemWrite) e. text_eq_true w.domain domain e) ws (none_bad (λ (w : MemWrite). text_eq w.domain domain) ws h)

one_domain : (ws : List MemWrite) (domain : List ℕ) → AllByRecursion (λ (w : MemWrite). w.domain ≡ domain) ws → AllByRecursion (λ (w : MemWrite). AllByRecursion (λ (v : MemWrite). v.domain ≡ w.domain) ws) ws
one_domain ws domain h = all_imp (λ (w : MemWrite) e. all_imp (λ (v : MemWrite) f. f ∙ sym e) ws h) ws h

other_text : (a b : List ℕ) → text_eq a b ≡ false → a ≢ b
other_text a b h e = false≢true (sym h ∙ ap (λ x. text_eq x b) e ∙ text_eq_same b)

or_right : (a b : Bool) → b ≡ true → (a || b) ≡ true
or_right true b e = refl
or_right false b e = e

or_left : (a b : Bool) → a ≡ true → (a || b) ≡ true
or_left true b e = refl
or_left false b e = cc

granule_fits : (width : ℕ) (g : Option ℕ) → is_granule width g ≡ true → is_granularity width (granule width g) ≡ true
granule_fits width None h = or_left (width == width) (is_divisor width width) (eq-eqb width width refl)
granule_fits width (Some g) h = or_right (g == width) (is_divisor width g) h

-- a write port stays where it is
write_stays : (ws : List MemWrite) (x : MemWrite) (k : ℕ) (domain : List ℕ) → IsSomeAnd (slice_get ws k) (λ (w : MemWrite). w.domain ≡ domain) → IsSomeAnd (slice_get (ws ++ x ∷ []) k) (λ (w : MemWrite). w.domain ≡ domain)
write_stays [] x k domain h = absurd h
write_stays (w ∷ ws) x zero domain h = h
write_stays (w ∷ ws) x (suc k) domain h = write_stays ws x k domain h

transparent_stays : (m : Memory) (x : MemWrite) (domain : Option (List ℕ)) (k : ℕ) → IsTransparent m domain k → IsTransparent (record m { writes = m.writes ++ x ∷ [] }) domain k
transparent_stays m x None k h = h
transparent_stays m x (Some domain) k h = write_stays m.writes x k domain h

pub spec_write : (q : Pooled) (m : Memory) (domain : List ℕ) (g : Option ℕ) → IsSpec m → text_eq domain (codes "comb") ≡ false → is_elsewhere m.writes domain ≡ false → is_granule m.shape.width g ≡ true → is_full m ≡ false → IsSpec (and_write q m domain g)
spec_write q m domain g h clocked shared fits room =
    let port : MemWrite = record { domain = domain; addr = record { 0 = length q.exprs }; word = record { 0 = length q.exprs + 1 }; enable = record { 0 = length q.exprs + 2 }; granularity = granule m.shape.width g } in
    let few : length m.writes + length m.reads < 64 = leb-false 64 (length m.writes + length m.reads) room in
    record {
      unnamed = h.unnamed;
      few_rows = h.few_rows;
      few_bits = h.few_bits;
      rows = h.rows;
      row_shapes = h.row_shapes;
      few_ports = omega (arith, few, length_more m.writes port);
      clocked_writes = all_append (λ (w : MemWrite). w.domain ≢ codes "comb") m.writes port h.clocked_writes (other_text domain (codes "comb") clocked);
      one_domain = one_domain (m.writes ++ port ∷ []) domain (all_append (λ (w : MemWrite). w.domain ≡ domain) m.writes port (in_domain m.writes domain shared) refl);
      granularities = all_append (λ (w : MemWrite). is_granularity m.shape.width w.granularity ≡ true) m.writes port h.granularities (granule_fits m.shape.width g fits);
      clocked_reads = h.clocked_reads;
      transparent = all_imp (λ (r : MemRead) t. all_imp (λ k u. transparent_stays m port r.domain k u) r.transparent t) m.reads h.transparent;
    }

-- ---- a read port

some_named : (o : Option MemWrite) (domain : List ℕ) → option_test (λ (w : MemWrite). text_eq w.domain domain) o ≡ true → IsSomeAnd o (λ (w : MemWrite). w.domain ≡ domain)
some_named None domain h = absurd (false≢true h)
some_named (Some w) domain h = text_eq_true w.domain domain h

transparent_is : (m : Memory) (domain : Option (List ℕ)) (k : ℕ) → is_transparent m.writes domain k ≡ true → IsTransparent m domain k
transparent_is m None k h = absurd (false≢true h)
transparent_is m (Some domain) k h = some_named (slice_get m.writes k) domain h

pub spec_read : (q : Pooled) (m : Memory) (domain : Option (List ℕ)) (ks : List ℕ) → IsSpec m → domain ≢ Some (codes "comb") → list_any (λ k. not (is_transparent m.writes domain k)) ks ≡ false → is_full m ≡ false → IsSpec (and_read q m domain ks)
spec_read q m domain ks h clocked through room =
    let few : length m.writes + length m.reads < 64 = leb-false 64 (length m.writes + length m.reads) room in
    record {
      unnamed = h.unnamed;
      few_rows = h.few_rows;
      few_bits = h.few_bits;
      rows = h.rows;
      row_shapes = h.row_shapes;
      few_ports = simp length-append (omega (arith, few));
      clocked_writes = h.clocked_writes;
      one_domain = h.one_domain;
      granularities = h.granularities;
      clocked_reads = all_append (λ (r : MemRead). r.domain ≢ Some (codes "comb")) m.reads _ h.clocked_reads clocked;
      transparent = all_append (λ (r : MemRead). AllByRecursion (IsTransparent m r.domain) r.transparent) m.reads _ h.transparent (all_imp (λ k t. transparent_is m domain k t) ks (none_bad (is_transparent m.writes domain) ks through));
    }

-- ---- tests that failed

pub or_none : (a b : Bool) → (a || b) ≡ false → (a ≡ false) × (b ≡ false)
or_none true b e = absurd (false≢true (sym e))
or_none false b e = (refl, e)

pub not_false : (b : Bool) → not b ≡ false → b ≡ true
not_false true e = refl
not_false false e = absurd (false≢true (sym e))
