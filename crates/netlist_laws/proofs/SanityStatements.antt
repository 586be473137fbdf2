-- What small blocks give the bits of a signal.
use Rattle.std.specs.Prelude.{◌≡◌, refl, true, false, [], ◌∷◌, pos}
use Rattle.shape_rules.specs.Forms.{unsigned}
use Rattle.design_ir.specs.declared.expr.Expr.TheVariants.{Const, Slice}
use Rattle.design_ir.specs.declared.process.DesignProcess.{DesignProcess}
use Rattle.design_ir.specs.Pools.{Pooled}
use Rattle.design_ir.specs.Trees.{done, next}
use Rattle.design_ir.specs.Values.{form}
use Rattle.design_ir.specs.Targets.{target_signals}
use Rattle.design_ir.specs.Circuits.{Circuit}
use Rattle.design_ir.proofs.SanityParts.{signal, e, s, set, comb, bit, domain}
use Rattle.rtlil_text.specs.declared.sig.SigPart.TheVariants as parts
use Rattle.rtlil_text.specs.Sources.{Constant, Net}
use Rattle.netlist_laws.specs.Ids.{signal_id, value_id}
use Rattle.design_ir.specs.Fixed.{is_fixed}
use Rattle.netlist_laws.specs.Latest.{places}
use Rattle.netlist_laws.specs.Spelled.{spec_of}
use Rattle.netlist_laws.specs.Module.{at_last, bits_at_last, driving, ByComb, ByNothing}

-- neighbours of one wire stand together, and so do constants
spec_of-neighbours : spec_of (Net (97 ∷ []) 4 ∷ Net (97 ∷ []) 5 ∷ Net (98 ∷ []) 6 ∷ Constant true ∷ Constant false ∷ [])
    ≡ parts.Const (true ∷ false ∷ []) ∷ parts.Wire (98 ∷ []) 6 1 ∷ parts.Wire (97 ∷ []) 4 2 ∷ []
unfolding spec_of
spec_of-neighbours = refl

-- a signal of two bits that begins as 1, its upper bit, and the number 1
pool : Pooled
pool = record {
  signals = signal (unsigned 2) (pos 1) ∷ signal (unsigned 1) (pos 0) ∷ [];
  exprs = s 0 ∷ Slice (e 0) 1 1 ∷ Const (pos 1) (unsigned 1) ∷ [];
}

-- the upper bit is written
writes : DesignProcess
writes = comb (next (set 1 2) done)

circuit : Circuit
circuit = record { pool = pool; processes = writes ∷ []; memories = []; domains = domain [] 0 1 ∷ []; ports = []; columns = [] }

upper_bit : places pool 1 ≡ bit 0 1 ∷ []
unfolding places pool
upper_bit = refl

upper_fixed : is_fixed pool 1 ≡ true
unfolding is_fixed pool
upper_fixed = refl

written_by : driving circuit 0 ≡ ByComb writes
unfolding circuit writes pool target_signals
written_by = refl

written_by_none : driving circuit 1 ≡ ByNothing
unfolding circuit writes pool target_signals
written_by_none = refl

-- the lower bit is that of the signal's init, the upper one comes from the number
comb_bits : bits_at_last circuit false writes 0 ≡ parts.Wire (value_id 2) 0 1 ∷ parts.Const (true ∷ []) ∷ []
unfolding circuit writes pool places form spec_of
comb_bits = refl

-- a register's lower bit stays
kept_bit : at_last circuit true writes 0 0 ≡ Net (signal_id 0) 0
unfolding circuit writes pool places form
kept_bit = refl

written_bit : at_last circuit true writes 0 1 ≡ Net (value_id 2) 0
unfolding circuit writes pool places form
written_bit = refl
