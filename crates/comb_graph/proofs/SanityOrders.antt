-- A small design with an order of its bits: one bit of a signal needs the other, and the signal does not need itself.
use Rattle.std.specs.Prelude.{◌≡◌, ◌≢◌, refl, ℕ, zero, suc, ◌<◌, ◌⊎◌, ◌==◌, ◌&&◌, ◌||◌, Bool, false, true, IsTrue, List, [], ◌∷◌, ◌++◌, All, length, pos, codes, Contains, ℤ}
use Rattle.std.specs.List.{IsDistinct}
use Rattle.std.proofs.Common.{sym, ◌∙◌, ap, arith, subst, ⊎_elim, inl, inr}
use Rattle.std.proofs.Math.ListN.{length-append}
use Rattle.std.proofs.lemmas.Bool.{cases_eq, ne_eqb, false≢true}
use Rattle.lists.specs.Names.{IsName, IsPublicName, continues_name}
use Rattle.shape_rules.specs.Forms.{unsigned}
use Rattle.shape_rules.specs.declared.op.Op.TheVariants.{Not}
use Rattle.design_ir.specs.declared.expr.Expr.TheVariants.{Unary, Slice}
use Rattle.design_ir.specs.declared.port.Column.{Column}
use Rattle.design_ir.specs.Trees.{done, next}
use Rattle.design_ir.specs.PoolRules.{IsPool}
use Rattle.design_ir.specs.Values.{form, num, signal_form}
use Rattle.design_ir.specs.Targets.{Bit, is_target, target_signals, target_bits, aims}
use Rattle.design_ir.specs.Needed.{needed, needed_indices}
use Rattle.design_ir.specs.Settled.{Settled}
use Rattle.design_ir.specs.Loops.{ProcessNeeds, ReadNeeds, Needs}
use Rattle.amh_bits.specs.Patterns.{IsOf}
use Rattle.design_ir.specs.Circuits.{Circuit, State, at}
use Rattle.design_ir.specs.Designs.{IsDesign, holds_reset}
use Rattle.design_ir.proofs.SanityParts.{signal, e, s, set, comb, bit, input, output}
use Rattle.comb_graph.specs.Orders.{IsCombBit, IsOrder}
use Rattle.comb_graph.specs.Laws.{FitsState, SettlesOnce}
use Rattle.comb_graph.proofs.ListedNeeds.{needs_of, contains_cases, all_needs}
use Rattle.comb_graph.proofs.SettledOnce.{settles_once}

-- ---- the design: y[0] = a, y[1] = ~y[0]

shown : List ℕ → ℕ → Column
shown name n = record { name = name; sig = record { 0 = n } }

rippling : Circuit
rippling = record {
  pool = record {
    signals = signal (unsigned 1) (pos 0) ∷ signal (unsigned 2) (pos 0) ∷ [];
    exprs = s 0 ∷ s 1 ∷ Slice (e 1) 0 1 ∷ Slice (e 1) 1 1 ∷ Unary Not (e 2) ∷ [];
  };
  processes = comb (next (set 2 0) (next (set 3 4) done)) ∷ [];
  memories = [];
  domains = [];
  ports = input 0 ∷ output 1 ∷ [];
  columns = shown (codes "a") 0 ∷ shown (codes "y") 1 ∷ [];
}

first_needs : needs_of rippling (bit 1 0) ≡ bit 0 0 ∷ []
unfolding needs_of rippling form needed needed_indices aims
first_needs = refl

second_needs : needs_of rippling (bit 1 1) ≡ bit 1 0 ∷ []
unfolding needs_of rippling form needed needed_indices aims
second_needs = refl

-- ---- its bits, one behind the other

driven_only : (t : Bool) → (((true && (t || (t || false))) || false) || false) ≡ true → t ≡ true
driven_only true h = refl
driven_only false h = h

comb_signal : (b : Bit) → IsCombBit rippling b → b.sig ≡ 1
unfolding rippling target_signals
comb_signal b comb = ⊎_elim (λ (same : 1 ≡ b.sig). sym same) (λ (other : 1 ≢ b.sig). absurd (false≢true (sym (ne_eqb 1 b.sig other) ∙ driven_only (1 == b.sig) comb.comb))) (cases_eq 1 b.sig)

low_or_high : (i : ℕ) → i < 2 → (i ≡ 0) ⊎ (i ≡ 1)
low_or_high zero h = inl refl
low_or_high (suc zero) h = inr refl
low_or_high (suc (suc i)) h = absurd (omega (arith, h))

comb_bits : (b : Bit) → IsCombBit rippling b → (bit 1 0 ≡ b) ⊎ (bit 1 1 ≡ b)
unfolding rippling
comb_bits b comb =
    let same : b.sig ≡ 1 = comb_signal b comb in
    let inside : b.index < 2 = subst (λ n. b.index < (signal_form rippling.pool.signals n).width) same comb.inside in
    ⊎_elim (λ (low : b.index ≡ 0). inl (λ i. record { sig = sym same i; index = sym low i })) (λ (high : b.index ≡ 1). inr (λ i. record { sig = sym same i; index = sym high i })) (low_or_high b.index inside)

order : List Bit
order = bit 1 0 ∷ bit 1 1 ∷ []

only_need : (b x y : Bit) → needs_of rippling b ≡ y ∷ [] → Needs rippling b x → y ≡ x
unfolding rippling
only_need b x y is needs =
    ⊎_elim
    (λ (n : ProcessNeeds rippling b x).
    let among : Contains (y ∷ []) x = subst (λ ys. Contains ys x) is (all_needs rippling b x n) in
    ⊎_elim (λ (same : y ≡ x). same) (λ (none : Contains [] x). absurd (omega (arith, none.1))) (contains_cases y x [] among.0 among.1 among.2))
    (λ (n : ReadNeeds rippling b x). absurd (omega (arith, n.among.1)))
    needs

-- each bit that a comb bit needs stands before it
stands_before : (before after : List Bit) (b x : Bit) → order ≡ before ++ b ∷ after → IsCombBit rippling x → Needs rippling b x → Contains before x
unfolding order
stands_before [] after b x split comb needs =
    let is : bit 1 0 ≡ b = cc in
    let read : bit 0 0 ≡ x = only_need b x (bit 0 0) (subst (λ c. needs_of rippling c ≡ bit 0 0 ∷ []) is first_needs) needs in
    absurd (omega (arith, ap (λ (y : Bit). y.sig) read, comb_signal x comb))
stands_before (p ∷ []) after b x split comb needs =
    let first : bit 1 0 ≡ p = cc in
    let is : bit 1 1 ≡ b = cc in
    let read : bit 1 0 ≡ x = only_need b x (bit 1 0) (subst (λ c. needs_of rippling c ≡ bit 1 0 ∷ []) is second_needs) needs in
    (0, omega arith, sym first ∙ read)
stands_before (p ∷ q ∷ before) after b x split comb needs = absurd (omega (arith, ap length split, length-append before (b ∷ after)))

rippling_is_ordered : IsOrder rippling order
unfolding rippling order target_signals IsDistinct
rippling_is_ordered = record {
  all = λ b comb. ⊎_elim (λ (low : bit 1 0 ≡ b). (0, omega arith, low)) (λ (high : bit 1 1 ≡ b). (1, omega arith, high)) (comb_bits b comb);
  only = (record { comb = refl; inside = omega arith }, (record { comb = refl; inside = omega arith }, tt));
  once = ((refl, tt), (tt, tt));
  behind = stands_before;
}

-- ---- it is a design

-- one letter is a name
none_after : All (λ b. IsTrue (continues_name b)) []
none_after k d h = absurd (omega (arith, h))

no_names : All IsName []
no_names k d h = absurd (omega (arith, h))

letter : (b : ℕ) → IsName (b ∷ []) → IsPublicName (b ∷ [])
letter b h = record { name = b ∷ []; more = []; suffix = []; first = h; others = no_names; ends = inl refl; whole = refl }

rippling_is_design : IsDesign rippling
unfolding rippling shown form is_target target_signals holds_reset IsDistinct
rippling_is_design = record {
  few_processes = omega arith;
  processes = (
    record {
      domain = tt;
      expressions = (
        record { there = omega arith; resolved = refl },
        (record { there = omega arith; resolved = refl }, (record { there = omega arith; resolved = refl }, (record { there = omega arith; resolved = refl }, tt))),
      );
      targets = (refl, (refl, tt));
    },
    tt,
  );
  domains = tt;
  domain_names = tt;
  clocks = tt;
  resets = tt;
  memories = tt;
  ports = ((refl, tt), (tt, tt));
  columns = record {
    registers = [];
    split = refl;
    are_registers = tt;
    no_ports = tt;
    each_once = tt;
    there = (omega arith, (omega arith, tt));
    some_width = (omega arith, (omega arith, tt));
    names = ((refl, tt), (tt, tt));
    name_forms = (
      letter 97 record { first = 97; rest = []; whole = refl; starts = refl; continues = none_after },
      (letter 121 record { first = 121; rest = []; whole = refl; starts = refl; continues = none_after }, tt),
    );
  };
  one_driver = (tt, tt);
  no_driven_input = ((λ h. refl), ((λ h. absurd (false≢true h)), tt));
}

rippling_is_pool : IsPool rippling.pool
unfolding rippling shown
rippling_is_pool = record {
  few_signals = omega arith;
  few_bits = omega arith;
  few_exprs = omega arith;
  shapes = (omega arith, (omega arith, tt));
  inits = (omega arith, (omega arith, tt));
  exprs = (
    record { names = tt; formed = tt; parts = omega arith; accepted = refl },
    (
      record { names = tt; formed = tt; parts = omega arith; accepted = refl },
      (
        record { names = (omega arith, tt); formed = tt; parts = omega arith; accepted = refl },
        (
          record { names = (omega arith, tt); formed = tt; parts = omega arith; accepted = refl },
          (record { names = (omega arith, tt); formed = tt; parts = refl; accepted = refl }, tt),
        ),
      ),
    ),
  );
}

-- ---- so it settles once: where a is 1, y is 1

high : State
high = record { held = pos 1 ∷ pos 0 ∷ []; rows = [] }

high_fits : FitsState rippling high
unfolding rippling high
high_fits = record { held = fits; rows = tt }
  where
    fits : (t : ℕ) → t < 2 → IsOf (signal_form rippling.pool.signals t).signed (signal_form rippling.pool.signals t).width (at (pos 1 ∷ pos 0 ∷ []) t)
    fits zero h = omega arith
    fits (suc zero) h = omega arith
    fits (suc (suc t)) h = absurd (omega arith)

settled_high : Settled rippling high (pos 1 ∷ pos 1 ∷ [])
unfolding rippling high form num target_bits
settled_high = refl

only_high : (env : List ℤ) → Settled rippling high env → env ≡ pos 1 ∷ pos 1 ∷ []
only_high env settled =
    let once : SettlesOnce rippling high = settles_once rippling order rippling_is_pool rippling_is_design rippling_is_ordered high high_fits in
    once.only env settled ∙ sym (once.only (pos 1 ∷ pos 1 ∷ []) settled_high)
