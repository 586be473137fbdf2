-- What an enable inserter does to registers and memory ports.
use Rattle.std.specs.Prelude.{◌≡◌, refl, ℕ, zero, suc, ◌+◌, ◌-◌, ◌*◌, ◌^◌, ◌%◌, ◌/◌, ◌&&◌, Bool, true, false, not, cond, bit_and, bit_xor, List, [], ◌∷◌, ◌++◌, length, slice_get, slice_set, ℤ, pos, Option, Some, None, option_and_then}
use Rattle.std.specs.Int.Bits.{and_zero_r, xor_zero_r}
use Rattle.std.proofs.Common.{sym, ◌∙◌, ap, arith, subst, length-append}
use Rattle.std.proofs.lemmas.List.{set-get_or}
use Rattle.std.proofs.lemmas.Nat.{pow_pos}
use Rattle.std.proofs.Math.Nat.{mod-eq_of_lt}
use Rattle.amh_bits.specs.Integers.{bits_without}
use Rattle.amh_bits.specs.Patterns.{IsOf, pattern, number}
use Rattle.amh_bits.proofs.Wraps.{number_pattern}
use Rattle.shape_rules.specs.Operators.{is_zero}
use Rattle.design_ir.specs.declared.ids.ExprId.{ExprId}
use Rattle.design_ir.specs.declared.domain.Domain.{Domain}
use Rattle.design_ir.specs.declared.expr.Expr.{Expr}
use Rattle.design_ir.specs.declared.expr.Expr.TheVariants.{Const, Mux}
use Rattle.design_ir.specs.declared.memory.MemWrite.{MemWrite}
use Rattle.design_ir.specs.declared.memory.MemRead.{MemRead}
use Rattle.design_ir.specs.declared.memory.Memory.{Memory}
use Rattle.design_ir.specs.declared.process.Side.TheVariants.{Clocked}
use Rattle.design_ir.specs.Pools.{Pooled}
use Rattle.design_ir.specs.PoolRules.{IsPool}
use Rattle.design_ir.specs.Values.{form, num}
use Rattle.design_ir.specs.Put.{put}
use Rattle.design_ir.specs.Rows.{address, enabled, granules, row_at}
use Rattle.design_ir.specs.Circuits.{at, option_test}
use Rattle.design_ir.proofs.Equations.{num_is}
use Rattle.flat_design.proofs.Growing.{get_kept}
use Rattle.fragment_laws.specs.Stepping.{acts, port_acts, register_number, reads_now, write_port}
use Rattle.domain_transforms.specs.declared.controls.Control.{Control}
use Rattle.domain_transforms.specs.Controlled.{control_of}
use Rattle.domain_transforms.specs.Enabling.{enabled_read, enabled_write, gated, gated_by, gated_option, side_control, under}
use Rattle.domain_transforms.specs.Laws.{at_edge, EnabledRegistersKeep, OtherRegistersStay, EnabledWritesKeep, EnabledReadsKeep, IsReadIn}
use Rattle.domain_transforms.proofs.GateLaws.{get_last}

-- ---- registers

choice_at : (b : Bool) (xs ys : List ℤ) (s : ℕ) → at (cond b xs ys) s ≡ cond b (at xs s) (at ys s)
choice_at true xs ys s = refl
choice_at false xs ys s = refl

pub registers_keep : EnabledRegistersKeep
registers_keep controls p name c q domains st env names s side control =
    let here : side_control controls p.side ≡ Some c = ap (side_control controls) side ∙ control in
    ap (λ o. register_number q domains st env names s (under o p.body) (Clocked name)) here
    ∙ ap (at_edge q domains st env names s name) (choice_at (is_zero (num q env c.0)) st.held (put q env p.body st.held) s)

pub others_stay : OtherRegistersStay
others_stay controls p name q domains st env names s side control =
    let here : side_control controls p.side ≡ None = ap (side_control controls) side ∙ control in
    ap (λ o. register_number q domains st env names s (under o p.body) (Clocked name)) here

-- ---- the number of a gated enable

pub gated_number : (p q : Pooled) (env : List ℤ) (c e : ExprId) → IsPool q → IsReadIn (gated p c e).1 q → num q env (gated p c e).0.0 ≡ cond (is_zero (num q env c.0)) (pos 0) (num q env e.0)
gated_number p q env c e rules read =
    let n = length p.exprs in
    let constant : Expr = Const (pos 0) (form p e.0) in
    let choice : Expr = Mux c e (record { 0 = n }) in
    let count : length (p.exprs ++ constant ∷ []) ≡ suc n = omega (arith, length-append p.exprs (constant ∷ [])) in
    let last : slice_get (gated p c e).1.exprs (suc n) ≡ Some choice = ap (slice_get (gated p c e).1.exprs) (sym count) ∙ get_last (p.exprs ++ constant ∷ []) choice in
    let before : slice_get (gated p c e).1.exprs n ≡ Some constant = get_kept (p.exprs ++ constant ∷ []) (choice ∷ []) n (omega (arith, count)) ∙ get_last p.exprs constant in
    num_is q env (suc n) choice rules (read.kept (suc n) choice last tt)
    ∙ ap (λ z. cond (is_zero (num q env c.0)) z (num q env e.0)) (num_is q env n constant rules (read.kept n constant before tt))

-- ---- write ports

enabled_none : (granule count : ℕ) → enabled granule count 0 ≡ 0
enabled_none granule zero = refl
enabled_none granule (suc count) =
    let rest : enabled granule count (0 / 2) ≡ 0 = enabled_none granule count in
    ap (λ x. 0 % 2 * (2 ^ granule - 1) + 2 ^ granule * x) rest ∙ (let e : 0 % 2 * (2 ^ granule - 1) + 2 ^ granule * 0 ≡ 0 = omega arith in e)

-- what a write port leaves of a row by the number of its enable
abbrev left_by : Pooled → List ℤ → Memory → ℤ → MemWrite → ℤ → ℤ
left_by q env m old w n =
    let mask : ℕ = enabled w.granularity (granules m w) (pattern (granules m w) n) in
    let word : ℕ = pattern m.shape.width (num q env w.word.0) in
    number m.shape.signed m.shape.width (bits_without (pattern m.shape.width old) mask + bit_and word mask)

none_written : (q : Pooled) (env : List ℤ) (m : Memory) (old : ℤ) (w : MemWrite) → IsOf m.shape.signed m.shape.width old → left_by q env m old w (pos 0) ≡ old
none_written q env m old w fits =
    let none : enabled w.granularity (granules m w) (pattern (granules m w) (pos 0)) ≡ 0 = ap (enabled w.granularity (granules m w)) (zero_low (granules m w)) ∙ enabled_none w.granularity (granules m w) in
    let p : ℕ = pattern m.shape.width old in
    let word : ℕ = pattern m.shape.width (num q env w.word.0) in
    ap (λ mask. number m.shape.signed m.shape.width (bits_without p mask + bit_and word mask)) none
    ∙ ap (number m.shape.signed m.shape.width) (let a = and_zero_r word in let b = ap (bit_xor p) (and_zero_r p) ∙ xor_zero_r p in let e : bits_without p 0 + bit_and word 0 ≡ p = omega (arith, a, b) in e)
    ∙ number_pattern m.shape.signed m.shape.width old fits
  where
    zero_low : (w : ℕ) → pattern w (pos 0) ≡ 0
    zero_low w = mod-eq_of_lt (pow_pos w)

write_cases : (q : Pooled) (env : List ℤ) (m : Memory) (old : ℤ) (w : MemWrite) (rows : List ℤ) (a : ℕ) (acting : Bool) (n : ℤ) → old ≡ at rows a → IsOf m.shape.signed m.shape.width old → (b : Bool)
    → cond acting (slice_set rows a (left_by q env m old w (cond b (pos 0) n))) rows ≡ cond b rows (cond acting (slice_set rows a (left_by q env m old w n)) rows)
write_cases q env m old w rows a acting n is fits false = refl
write_cases q env m old w rows a true n is fits true = ap (slice_set rows a) (none_written q env m old w fits ∙ is) ∙ set-get_or rows a (pos 0)
write_cases q env m old w rows a false n is fits true = refl

write_steps : (controls : List Control) (w : MemWrite) (c : ExprId) (p q : Pooled) (domains : List Domain) (env : List ℤ) (names : List (List ℕ)) (m : Memory) (rows : List ℤ) → control_of controls w.domain ≡ Some c → IsPool q → IsReadIn (enabled_write controls p w).1 q
    → write_port q domains env names m rows (enabled_write controls p w).0
    ≡ cond (acts domains env names w.domain) (slice_set rows (address q env w.addr) (left_by q env m (row_at q env rows w.addr) w (cond (is_zero (num q env c.0)) (pos 0) (num q env w.enable.0)))) rows
write_steps controls w c p q domains env names m rows control rules read =
    let g : ExprId × Pooled = gated p c w.enable in
    let made : enabled_write controls p w ≡ (record w { enable = g.0 }, g.1) = ap (λ o. let x = gated_by o p w.enable in (record w { enable = x.0 }, x.1)) control in
    let read' : IsReadIn g.1 q = subst (λ (x : MemWrite × Pooled). IsReadIn x.1 q) made read in
    ap (λ (x : MemWrite × Pooled). write_port q domains env names m rows x.0) made
    ∙ ap (λ k. cond (acts domains env names w.domain) (slice_set rows (address q env w.addr) (left_by q env m (row_at q env rows w.addr) w k)) rows) (gated_number p q env c w.enable rules read')

-- the row that is written has to be of the memory's shape only where the control is 0
pub write_keeps : (controls : List Control) (w : MemWrite) (c : ExprId) (p q : Pooled) (domains : List Domain) (env : List ℤ) (names : List (List ℕ)) (m : Memory) (rows : List ℤ) → control_of controls w.domain ≡ Some c → IsPool q → IsReadIn (enabled_write controls p w).1 q
    → (is_zero (num q env c.0) ≡ true → IsOf m.shape.signed m.shape.width (row_at q env rows w.addr)) → write_port q domains env names m rows (enabled_write controls p w).0 ≡ cond (is_zero (num q env c.0)) rows (write_port q domains env names m rows w)
write_keeps controls w c p q domains env names m rows control rules read fits = by (is_zero (num q env c.0)) refl
  where
    by : (b : Bool) → is_zero (num q env c.0) ≡ b → write_port q domains env names m rows (enabled_write controls p w).0 ≡ cond (is_zero (num q env c.0)) rows (write_port q domains env names m rows w)
    by true e = write_steps controls w c p q domains env names m rows control rules read ∙ write_cases q env m (row_at q env rows w.addr) w rows (address q env w.addr) (acts domains env names w.domain) (num q env w.enable.0) refl (fits e) (is_zero (num q env c.0))
    by false e =
        write_steps controls w c p q domains env names m rows control rules read
        ∙ ap (λ b. cond (acts domains env names w.domain) (slice_set rows (address q env w.addr) (left_by q env m (row_at q env rows w.addr) w (cond b (pos 0) (num q env w.enable.0)))) rows) e
        ∙ sym (ap (λ b. cond b rows (write_port q domains env names m rows w)) e)

pub writes_keep : EnabledWritesKeep
writes_keep controls w c p q domains env names m rows control rules read fits = write_keeps controls w c p q domains env names m rows control rules read (λ e. fits)

-- ---- read ports

read_cases : (acting : Bool) (n : ℤ) (b : Bool) → (acting && not (is_zero (cond b (pos 0) n))) ≡ cond b false (acting && not (is_zero n))
read_cases acting n false = refl
read_cases true n true = refl
read_cases false n true = refl

pub reads_keep : EnabledReadsKeep
reads_keep controls r name c e p q domains env names domain enable control rules read =
    let g : ExprId × Pooled = gated p c e in
    let made : enabled_read controls p r ≡ (record r { enable = Some g.0 }, g.1) =
    ap (λ o. let x = gated_option (option_and_then (control_of controls) o) p r.enable in (record r { enable = x.0 }, x.1)) domain
    ∙ ap (λ o. let x = gated_option o p r.enable in (record r { enable = x.0 }, x.1)) control
    ∙ ap (λ o. let x = gated_option (Some c) p o in (record r { enable = x.0 }, x.1)) enable in
    let read' : IsReadIn g.1 q = subst (λ (x : MemRead × Pooled). IsReadIn x.1 q) made read in
    let n : ℤ = num q env e.0 in
    let z : Bool = is_zero (num q env c.0) in
    let acting : Bool = port_acts domains env names r.domain in
    ap (λ (x : MemRead × Pooled). reads_now q domains env names x.0) made
    ∙ ap (λ k. acting && not (is_zero k)) (gated_number p q env c e rules read')
    ∙ read_cases acting n z
    ∙ ap (λ (o : Option ExprId). cond z false (acting && option_test (λ (x : ExprId). not (is_zero (num q env x.0))) o)) (sym enable)
