-- Read data behind a flag that keeps whether the last address was one of a row.
use Rattle.std.proofs.Common.{◌==◌, ◌≡◌, ℕ, nat_lt, Bool, true, false, if◌then◌else◌, List, length, ℤ, pos, refl, sym, ◌∙◌, ap}
use Rattle.std.proofs.lemmas.Bool.{ltb-true}
use Rattle.amh_bits.proofs.BitsOf.{nat_bit_zero}
use Rattle.design_ir.specs.declared.memory.MemRead.{MemRead}
use Rattle.design_ir.specs.declared.memory.Memory.{Memory}
use Rattle.design_ir.specs.Circuits.{at}
use Rattle.design_ir.specs.Steps.{shown_through, read_word, reads_now}
use Rattle.memory_cells.specs.Bits.{bit_of}
use Rattle.memory_cells.specs.Carried.{Moment, address_at}
use Rattle.memory_cells.specs.Laws.{IsBehindGuard, GuardedReadsFollow, GuardsShowTheWord}
use Rattle.memory_cells.proofs.ReadRows.{clocked_reads_follow}

pub guards_show_the_word : GuardsShowTheWord
guards_show_the_word word k true raw h = h.kept refl
guards_show_the_word word k false raw h = sym (h.dropped refl)

-- past the depth a port reads 0
past_is : (t : Moment) (m : Memory) (r : MemRead) (rows : List ℤ) (k : ℕ) → length rows ≡ m.depth → nat_lt (address_at t r.addr) m.depth ≡ false → bit_of (read_word t.design t.env t.listed m rows r) k ≡ false
past_is t m r rows k long past =
    let a : ℕ = address_at t r.addr in
    let out : nat_lt a (length rows) ≡ false = ap (nat_lt a) long ∙ past in
    ap (λ (b : Bool). bit_of (if b then shown_through t.design t.env t.listed m r.transparent a 0 m.writes (at rows a) else pos 0) k) out ∙ ap (λ n. n == 1) (nat_bit_zero k)

-- a read that was made, or was not
behind : (word new : ℤ) (k : ℕ) (flag raw next now inside : Bool) → IsBehindGuard word k flag raw → (now ≡ false → next ≡ raw) → (now ≡ true → inside ≡ true → next ≡ bit_of new k) → (inside ≡ false → bit_of new k ≡ false)
    → IsBehindGuard (if now then new else word) k (if now then inside else flag) next
behind word new k flag raw next true inside h same taken past = record { kept = taken refl; dropped = past }
behind word new k flag raw next false inside h same taken past = record { kept = λ e. same refl ∙ h.kept e; dropped = h.dropped }

pub guarded_reads_follow : GuardedReadsFollow
guarded_reads_follow t m c r rows word k flag raw stands carries long some has mask lt h =
    let next = clocked_reads_follow t m c r rows k raw stands carries long some has mask lt in (
      next.0,
      next.1,
      behind word (read_word t.design t.env t.listed m rows r) k flag raw next.0 (reads_now t.design t.env t.listed r) (nat_lt (address_at t r.addr) m.depth) h next.2
          (λ now inside. next.3 now (ltb-true (address_at t r.addr) m.depth inside)) (past_is t m r rows k long),
    )
