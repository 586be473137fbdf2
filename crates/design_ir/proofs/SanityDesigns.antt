-- A small design keeps to the rules of designs: a register that turns at each rise.
use Rattle.std.specs.Prelude.{refl, ℕ, List, [], ◌∷◌, All, pos, codes, IsTrue}
use Rattle.std.specs.List.{IsDistinct}
use Rattle.std.proofs.Common.{arith, inl}
use Rattle.std.proofs.lemmas.Bool.{false≢true}
use Rattle.lists.specs.Names.{IsName, IsPublicName, continues_name}
use Rattle.shape_rules.specs.Forms.{unsigned}
use Rattle.shape_rules.specs.declared.op.Op.TheVariants.{Not}
use Rattle.design_ir.specs.declared.expr.Expr.TheVariants.{Unary}
use Rattle.design_ir.specs.declared.port.Column.{Column}
use Rattle.design_ir.specs.Trees.{done, next}
use Rattle.design_ir.specs.Pools.{Pooled}
use Rattle.design_ir.specs.PoolRules.{IsPool}
use Rattle.design_ir.specs.Values.{form}
use Rattle.design_ir.specs.Targets.{is_target, target_signals}
use Rattle.design_ir.specs.Circuits.{Circuit}
use Rattle.design_ir.specs.Designs.{IsDesign, holds_reset}
use Rattle.design_ir.proofs.SanityParts.{signal, e, s, set, comb, clocked_by, input, output, domain, async_domain}

shown : List ℕ → ℕ → Column
shown name n = record { name = name; sig = record { 0 = n } }

turning : Circuit
turning = record {
  pool = record {
    signals = signal (unsigned 1) (pos 0) ∷ signal (unsigned 1) (pos 0) ∷ signal (unsigned 1) (pos 1) ∷ [];
    exprs = s 2 ∷ Unary Not (e 0) ∷ [];
  };
  processes = clocked_by 0 (next (set 0 1) done) ∷ [];
  memories = [];
  domains = domain (codes "sync") 0 1 ∷ [];
  ports = input 0 ∷ input 1 ∷ [];
  columns = shown (codes "c") 0 ∷ shown (codes "r") 1 ∷ shown (codes "q") 2 ∷ [];
}

-- one letter is a name
none_after : All (λ b. IsTrue (continues_name b)) []
none_after k d h = absurd (omega (arith, h))

no_names : All IsName []
no_names k d h = absurd (omega (arith, h))

letter : (b : ℕ) → IsName (b ∷ []) → IsPublicName (b ∷ [])
letter b h = record { name = b ∷ []; more = []; suffix = []; first = h; others = no_names; ends = inl refl; whole = refl }

turning_is_design : IsDesign turning
unfolding turning shown form is_target target_signals holds_reset IsDistinct
turning_is_design = record {
  few_processes = omega arith;
  processes = (
    record {
      domain = omega arith;
      expressions = (record { there = omega arith; resolved = refl }, (record { there = omega arith; resolved = refl }, tt));
      targets = (refl, tt);
    },
    tt,
  );
  domains = (
    record {
      clock = record { there = omega arith; shape = refl };
      reset = record { there = omega arith; shape = refl };
      clock_input = refl;
      clock_no_reset = refl;
      async_input = λ h. refl;
    },
    tt,
  );
  domain_names = (tt, tt);
  clocks = (tt, tt);
  resets = (tt, tt);
  memories = tt;
  ports = ((refl, tt), (tt, tt));
  columns = record {
    registers = 2 ∷ [];
    split = refl;
    are_registers = (refl, tt);
    no_ports = (refl, tt);
    each_once = (tt, tt);
    there = (omega arith, (omega arith, (omega arith, tt)));
    some_width = (omega arith, (omega arith, (omega arith, tt)));
    names = ((refl, (refl, tt)), ((refl, tt), (tt, tt)));
    name_forms = (
      letter 99 record { first = 99; rest = []; whole = refl; starts = refl; continues = none_after },
      (
        letter 114 record { first = 114; rest = []; whole = refl; starts = refl; continues = none_after },
        (letter 113 record { first = 113; rest = []; whole = refl; starts = refl; continues = none_after }, tt),
      ),
    );
  };
  one_driver = (tt, tt);
  no_driven_input = ((λ h. refl), ((λ h. refl), tt));
}

turning_is_pool : IsPool turning.pool
unfolding turning shown
turning_is_pool = record {
  few_signals = omega arith;
  few_bits = omega arith;
  few_exprs = omega arith;
  shapes = (omega arith, (omega arith, (omega arith, tt)));
  inits = (omega arith, (omega arith, (omega arith, tt)));
  exprs = (
    record { names = tt; formed = tt; parts = omega arith; accepted = refl },
    (record { names = (omega arith, tt); formed = tt; parts = refl; accepted = refl }, tt),
  );
}

-- ---- an asynchronous reset is an input: this one is an output that a statement drives

driven_reset : Circuit
driven_reset = record turning {
  processes = comb (next (set 2 0) done) ∷ clocked_by 0 (next (set 0 1) done) ∷ [];
  pool = record { signals = turning.pool.signals; exprs = s 2 ∷ Unary Not (e 0) ∷ s 1 ∷ [] };
  domains = async_domain (codes "sync") 0 1 ∷ [];
  ports = input 0 ∷ output 1 ∷ [];
}

driven_async_reset_is_refused : IsDesign driven_reset → ⊥
unfolding driven_reset turning
driven_async_reset_is_refused h = absurd (false≢true (h.domains.0.async_input refl))

-- a design without anything
pub bare_design : (p : Pooled) → IsDesign record { pool = p; processes = []; memories = []; domains = []; ports = []; columns = [] }
unfolding IsDistinct
bare_design p = record {
  few_processes = omega arith;
  processes = tt;
  domains = tt;
  domain_names = tt;
  clocks = tt;
  resets = tt;
  memories = tt;
  ports = tt;
  columns = record { registers = []; split = refl; are_registers = tt; no_ports = tt; each_once = tt; there = tt; some_width = tt; names = tt; name_forms = tt };
  one_driver = tt;
  no_driven_input = tt;
}
