-- The sources behind a block's statements are within their wires.
use Rattle.std.specs.Prelude.{◌≡◌, refl, ℕ, zero, suc, ◌+◌, ◌-◌, ◌<◌, ◌≤◌, ◌==◌, ◌&&◌, Bool, true, false, cond, nat_lt, List, [], ◌∷◌, map, length}
use Rattle.std.specs.List.{AllByRecursion, range_with_len}
use Rattle.std.proofs.Common.{◌∙◌, ap, arith}
use Rattle.std.proofs.lemmas.Bool.{cond_both, ltb-true}
use Rattle.std.proofs.lemmas.List.{length-map}
use Rattle.std.proofs.lemmas.List.FromFn.{length-range_with_len}
use Rattle.design_ir.specs.declared.ids.ExprId.{ExprId}
use Rattle.design_ir.specs.declared.process.DesignProcess.{DesignProcess}
use Rattle.design_ir.specs.Pools.{Pooled}
use Rattle.design_ir.specs.Values.{signal_form}
use Rattle.design_ir.specs.Targets.{Bit}
use Rattle.design_ir.specs.Trees.{assign, choose, Block, done, next}
use Rattle.design_ir.specs.Circuits.{Circuit}
use Rattle.rtlil_text.specs.declared.module.RtlWire.{RtlWire}
use Rattle.rtlil_text.specs.Sources.{Source, Constant, Net, spec_bits}
use Rattle.rtlil_text.specs.Rules.{IsSlice, SpecFits}
use Rattle.netlist_laws.specs.Operators.{Value}
use Rattle.netlist_laws.specs.Latest.{Latest, places, source_at, with_source, given, latest_of}
use Rattle.netlist_laws.specs.Module.{signal_value, expr_value, at_first, at_last, bits_at_last}
use Rattle.netlist_laws.proofs.Reading.{HasSign}
use Rattle.netlist_laws.proofs.SpelledLaws.{SourceFits, spec_bits-spec_of, spec_of_fits}
use Rattle.netlist_laws.proofs.PutSources.{AreGiven}

-- ---- how many bits

pub length-bits_at_last : (c : Circuit) (clocked : Bool) (p : DesignProcess) (s : ℕ) → length (spec_bits (bits_at_last c clocked p s)) ≡ (signal_form c.pool.signals s).width
length-bits_at_last c clocked p s =
    let w : ℕ = (signal_form c.pool.signals s).width in
    ap length (spec_bits-spec_of (map (at_last c clocked p s) (range_with_len 0 w))) ∙ length-map (range_with_len 0 w) (at_last c clocked p s) ∙ length-range_with_len 0 w

-- ---- values

-- a value with bits has a wire for all of them, and a signed one has a bit
pub record IsWired (wires : List RtlWire) (v : Value) : Type 0 where
  pub wire : 1 ≤ v.form.width → IsSlice wires v.id 0 v.form.width
  pub sign : HasSign v.form

module _ (wires : List RtlWire) where
  bit_fits : (v : Value) (k : ℕ) → IsWired wires v → k < v.form.width → SourceFits wires (Net v.id k)
  bit_fits v k h l =
      let whole : IsSlice wires v.id 0 v.form.width = h.wire (omega arith) in
      record { wire = whole.wire; among = whole.among; named = whole.named; some = omega arith; within = omega (arith, whole.within) }

  sign_fits : (v : Value) (b : Bool) → v.form.signed ≡ b → IsWired wires v → SourceFits wires (cond b (Net v.id (v.form.width - 1)) (Constant false))
  sign_fits v true e h = let some : 1 ≤ v.form.width = h.sign e in bit_fits v (v.form.width - 1) h (omega arith)
  sign_fits v false e h = tt

  source_at_fits : (v : Value) (k : ℕ) → IsWired wires v → SourceFits wires (source_at v k)
  source_at_fits v k h =
      cond_both (nat_lt k v.form.width) (Net v.id k) (cond v.form.signed (Net v.id (v.form.width - 1)) (Constant false)) (SourceFits wires)
      (λ e. bit_fits v k h (ltb-true k v.form.width e))
      (λ e. sign_fits v v.form.signed refl h)

  -- ---- statements

  -- each source of a signal's bit is within its wire
  abbrev pub LatestFits : Pooled → Latest → ℕ → Type 0
  LatestFits pool latest s = (i : ℕ) → i < (signal_form pool.signals s).width → SourceFits wires (latest s i)

  given_fits : (pool : Pooled) (v : Value) (bs : List Bit) (k : ℕ) (latest : Latest) (s : ℕ) → IsWired wires v → LatestFits pool latest s → LatestFits pool (given v bs k latest) s
  given_fits pool v [] k latest s h all = all
  given_fits pool v (b ∷ bs) k latest s h all =
      given_fits pool v bs (k + 1) (with_source b (source_at v k) latest) s h
      (λ i l. cond_both ((s == b.sig) && (i == b.index)) (source_at v k) (latest s i) (SourceFits wires) (λ e. source_at_fits v k h) (λ e. all i l))

  pub latest_of_fits : (pool : Pooled) (value : ℕ → Value) (b : Block) (latest : Latest) (s : ℕ) → AreGiven (λ (e : ExprId). IsWired wires (value e.0)) b → LatestFits pool latest s → LatestFits pool (latest_of pool value b latest) s
  latest_of_fits pool value done latest s h all = all
  latest_of_fits pool value (next (assign t v p) rest) latest s h all =
      latest_of_fits pool value rest (given (value v.0) (places pool t.0) 0 latest) s h.1 (given_fits pool (value v.0) (places pool t.0) 0 latest s h.0 all)
  latest_of_fits pool value (next (choose arms) rest) latest s h all = latest_of_fits pool value rest latest s h all

  first_fits : (c : Circuit) (clocked : Bool) (s : ℕ) → IsWired wires (signal_value c s) → LatestFits c.pool (at_first c clocked) s
  first_fits c true s h = λ i l. bit_fits (signal_value c s) i h l
  first_fits c false s h = λ i l. tt

  range_fits : (f : ℕ → Source) (low n : ℕ) → ((i : ℕ) → i < low + n → SourceFits wires (f i)) → AllByRecursion (SourceFits wires) (map f (range_with_len low n))
  range_fits f low zero h = tt
  range_fits f low (suc n) h = (h low (omega arith), range_fits f (low + 1) n (λ i l. h i (omega (arith, l))))

  -- so the bits of a signal behind the statements are
  pub bits_at_last_fits : (c : Circuit) (clocked : Bool) (p : DesignProcess) (s : ℕ) → AreGiven (λ (e : ExprId). IsWired wires (expr_value c e.0)) p.body → IsWired wires (signal_value c s) → SpecFits wires (bits_at_last c clocked p s)
  bits_at_last_fits c clocked p s given own =
      let w : ℕ = (signal_form c.pool.signals s).width in
      let all : LatestFits c.pool (at_last c clocked p) s = latest_of_fits c.pool (expr_value c) p.body (at_first c clocked) s given (first_fits c clocked s own) in
      spec_of_fits wires (map (at_last c clocked p s) (range_with_len 0 w)) (range_fits (at_last c clocked p s) 0 w (λ i l. all i (omega (arith, l))))
