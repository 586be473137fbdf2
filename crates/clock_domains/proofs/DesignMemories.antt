-- What memories come to in a design: each keeps to the rules of memories, and what its read ports give is driven by them alone.
use Rattle.std.proofs.Common.{◌≡◌, ℕ, ◌==◌, false, ◌||◌, List, [], ◌∷◌, ◌++◌, map, Option, Some, None, refl, sym, ap, ◌∙◌}
use Rattle.std.specs.List.{AllByRecursion, IsDistinct, list_any, flat_map}
use Rattle.std.specs.Option.{option_map_or}
use Rattle.shape_rules.specs.Forms.{Form, unsigned}
use Rattle.design_ir.specs.declared.ids.ExprId.{ExprId}
use Rattle.design_ir.specs.declared.memory.MemWrite.{MemWrite}
use Rattle.design_ir.specs.declared.memory.MemRead.{MemRead}
use Rattle.design_ir.specs.declared.memory.Memory.{Memory}
use Rattle.design_ir.specs.Circuits.{Circuit, is_among}
use Rattle.design_ir.specs.Rows.{granules}
use Rattle.design_ir.specs.Designs.{IsUsable, IsUsableOf, IsAddress, IsWritePort, IsReadPort, IsClocking, IsMemory, share}
use Rattle.fragment_walks.specs.Held.{memory_exprs, read_exprs, write_exprs}
use Rattle.fragment_walks.specs.Reads.{data_signals}
use Rattle.fragment_walks.proofs.Lists.{all_both, all_imp, all_joined, all_left, all_mapped, all_right, any_all, any_map, map-append, map_map, none_any, or_false, or_none}
use Rattle.clock_domains.specs.Resolvable.{IsPlain, IsShaped, IsAddressOf, IsWriteOf, IsReadOf, IsClockingOf}
use Rattle.clock_domains.specs.Resolved.{has_twice}
use Rattle.clock_domains.specs.Ready.{HasDomains, IsNamedDomain, IsPlainMemory}
use Rattle.clock_domains.proofs.DesignSound.{share_flipped}

-- ---- what read ports give

abbrev pub single : ℕ → List ℕ
single s = s ∷ []

-- by each read port its data alone
abbrev pub read_drivers : List Memory → List (List ℕ)
read_drivers ms = flat_map (λ (m : Memory). map (λ (r : MemRead). r.word.0 ∷ []) m.reads) ms

pub read_drivers_are : (ms : List Memory) → read_drivers ms ≡ map single (data_signals ms)
read_drivers_are [] = refl
read_drivers_are (m ∷ ms) =
    ap (λ xs. map (λ (r : MemRead). r.word.0 ∷ []) m.reads ++ xs) (read_drivers_are ms)
    ∙ ap (λ xs. xs ++ map single (data_signals ms)) (sym (map_map (λ (r : MemRead). r.word.0) single m.reads))
    ∙ sym (map-append single (map (λ (r : MemRead). r.word.0) m.reads) (data_signals ms))

pub singles_any : (ss : List ℕ) (s : ℕ) → list_any (λ ys. is_among ys s) (map single ss) ≡ is_among ss s
singles_any ss s = any_map (λ ys. is_among ys s) single ss ∙ any_all (λ t. is_among (single t) s) (λ t. t == s) ss (λ t. or_false (t == s))

pub singles_distinct : (ss : List ℕ) → has_twice ss ≡ false → IsDistinct share (map single ss)
unfolding IsDistinct
singles_distinct [] h = tt
singles_distinct (s ∷ ss) h =
    let parts = or_none (is_among ss s) (has_twice ss) h in
    (all_mapped (λ ys. share (single s) ys ≡ false) single ss (all_imp (λ t e. one t e) ss (none_any (λ x. x == s) ss parts.0)), singles_distinct ss parts.1)
  where
    one : (t : ℕ) → (t == s) ≡ false → share (single s) (single t) ≡ false
    one t e = or_false (is_among (single t) s) ∙ or_false (t == s) ∙ e

pub lists_distinct : (xs ys : List (List ℕ)) → IsDistinct share xs → IsDistinct share ys → AllByRecursion (λ x. AllByRecursion (λ y. share x y ≡ false) ys) xs → IsDistinct share (xs ++ ys)
unfolding IsDistinct
lists_distinct [] ys h k apart = k
lists_distinct (x ∷ xs) ys h k apart = (all_joined (λ y. share x y ≡ false) xs ys h.0 apart.0, lists_distinct xs ys h.1 k apart.1)

pub apart_singles : (xs ss : List ℕ) → share xs ss ≡ false → AllByRecursion (λ ys. share xs ys ≡ false) (map single ss)
apart_singles xs ss h =
    all_mapped (λ ys. share xs ys ≡ false) single ss
    (all_imp (λ t e. share_flipped (single t) xs (or_false (is_among xs t) ∙ e)) ss (none_any (is_among xs) ss (share_flipped xs ss h)))

-- ---- memories

-- what holds of all that stands in some lists holds in each
pub all_parted : {A B : Type 0} (P : B → Type 0) (f : A → List B) (xs : List A) → AllByRecursion P (flat_map f xs) → AllByRecursion (λ x. AllByRecursion P (f x)) xs
all_parted P f [] h = tt
all_parted P f (x ∷ xs) h = (all_left P (f x) (flat_map f xs) h, all_parted P f xs (all_right P (f x) (flat_map f xs) h))

module _ (c : Circuit) (m : Memory) where
  usable : (e : ExprId) → IsPlain c.pool e → IsUsable c e
  usable e p = record { there = p.there; resolved = p.resolved }

  address : (e : ExprId) → IsAddressOf c.pool m e → IsPlain c.pool e → IsAddress c m e
  address e h p = record { usable = usable e p; is_unsigned = h.is_unsigned; width = h.width }

  shaped : (f : Form) (e : ExprId) → IsShaped c.pool f e → IsPlain c.pool e → IsUsableOf c f e
  shaped f e h p = record { usable = usable e p; shape = h.shape }

  write_sound : (w : MemWrite) → IsWriteOf c.pool m w → AllByRecursion (IsPlain c.pool) (write_exprs w) → IsNamedDomain c.domains (Some w.domain) → IsWritePort c m w
  write_sound w h p d = record { domain = d; addr = address w.addr h.addr p.0; word = shaped m.shape w.word h.word p.1.0; granularity = h.granularity; enable = shaped (unsigned (granules m w)) w.enable h.enable p.1.1.0 }

  clocking_sound : (d : Option (List ℕ)) (e : Option ExprId) → IsClockingOf c.pool d e → AllByRecursion (IsPlain c.pool) (option_map_or (λ (e : ExprId). e ∷ []) e []) → IsNamedDomain c.domains d → IsClocking c d e
  clocking_sound None None h p n = tt
  clocking_sound None (Some e) h p n = absurd h
  clocking_sound (Some d) None h p n = absurd h
  clocking_sound (Some d) (Some e) h p n = (n, shaped (unsigned 1) e h.1 p.0)

  read_sound : (r : MemRead) → IsReadOf c.pool m r → AllByRecursion (IsPlain c.pool) (read_exprs r) → IsNamedDomain c.domains r.domain → IsReadPort c m r
  read_sound r h p d = record {
    addr = address r.addr h.addr p.0;
    word = record { there = h.word.there; shape = h.word.shape };
    word_init = h.word.begins;
    clocking = clocking_sound r.domain r.enable h.clocking p.1 d;
    transparent = h.transparent;
  }

  pub memory_sound : IsPlainMemory c.pool m → HasDomains c.domains m → IsMemory c m
  memory_sound h d =
      let writes = all_parted (IsPlain c.pool) write_exprs m.writes (all_left (IsPlain c.pool) (flat_map write_exprs m.writes) (flat_map read_exprs m.reads) h.expressions) in
      let reads = all_parted (IsPlain c.pool) read_exprs m.reads (all_right (IsPlain c.pool) (flat_map write_exprs m.writes) (flat_map read_exprs m.reads) h.expressions) in
      record {
        path = h.path;
        depth = h.memory.depth;
        rows = h.memory.rows;
        row_shapes = h.memory.row_shapes;
        few_ports = h.memory.few_ports;
        writes =
            all_both {P = λ (w : MemWrite). IsWriteOf c.pool m w × AllByRecursion (IsPlain c.pool) (write_exprs w)} {Q = λ (w : MemWrite). IsNamedDomain c.domains (Some w.domain)} (λ (w : MemWrite) k n. write_sound w k.0 k.1 n) m.writes
            (all_both {P = IsWriteOf c.pool m} {Q = λ (w : MemWrite). AllByRecursion (IsPlain c.pool) (write_exprs w)} (λ (w : MemWrite) k p. (k, p)) m.writes h.memory.writes writes) d.writes;
        reads =
            all_both {P = λ (r : MemRead). IsReadOf c.pool m r × AllByRecursion (IsPlain c.pool) (read_exprs r)} {Q = λ (r : MemRead). IsNamedDomain c.domains r.domain} (λ (r : MemRead) k n. read_sound r k.0 k.1 n) m.reads
            (all_both {P = IsReadOf c.pool m} {Q = λ (r : MemRead). AllByRecursion (IsPlain c.pool) (read_exprs r)} (λ (r : MemRead) k p. (k, p)) m.reads h.memory.reads reads) d.reads;
        one_domain = h.memory.one_domain;
      }
