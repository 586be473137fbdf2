-- Statements that are plain are flat as they are.
use Rattle.std.specs.Prelude.{◌≡◌, refl, ℕ, ◌&&◌, Bool, true, List, [], ◌∷◌, ◌++◌, ℤ, Option, Some, None, Contains}
use Rattle.std.specs.List.{AllByRecursion, flat_map}
use Rattle.std.proofs.Common.{sym, ◌∙◌, ap, subst, ⊎_elim}
use Rattle.std.proofs.lemmas.Bool.{false≢true, and_parts}
use Rattle.std.proofs.lemmas.List.Elements.{All-from_recursion}
use Rattle.shape_rules.specs.Forms.{Form}
use Rattle.design_ir.specs.declared.ids.ExprId.{ExprId}
use Rattle.design_ir.specs.Pools.{Pooled}
use Rattle.design_ir.specs.PoolRules.{IsPool}
use Rattle.design_ir.specs.Values.{form, num}
use Rattle.design_ir.specs.Targets.{Bit, fixed_place, target_bits}
use Rattle.design_ir.specs.Needed.{needed, needed_whole, needed_indices, extended}
use Rattle.design_ir.specs.Trees.{assign, choose, Block, done, next}
use Rattle.design_ir.specs.Guards.{Guard, Guarded, guarded, driven, block_exprs}
use Rattle.design_ir.specs.Put.{put, put_number}
use Rattle.design_ir.specs.Loops.{AssignmentNeeds, needed_value}
use Rattle.design_ir.specs.Fixed.{is_fixed, is_plain}
use Rattle.design_ir.specs.Circuits.{is_among}
use Rattle.design_ir.proofs.Elements.{contains_none, contains_cases}
use Rattle.flat_design.specs.Growing.{IsMore, IsReadable}
use Rattle.flat_design.specs.Flat.{IsFlatBody}
use Rattle.flat_design.proofs.Growing.{form_more, num_more, needed_more, needed_whole_more, fixed_more, signals_more, aims_more, indices_more, bits_more, readable_more}
use Rattle.flat_design.proofs.ShownAssignments.{put_bits_more}

module _ (p q : Pooled) (rules : IsPool p) (more : IsMore p q) where
  plain_more : (b : Block) → AllByRecursion (IsReadable p) (block_exprs b) → is_plain p b ≡ true → is_plain q b ≡ true
  plain_more done h plain = refl
  plain_more (next (assign t v place) rest) h plain =
      let parts = and_parts (is_fixed p t.0) (is_plain p rest) plain in
      let one : is_fixed q t.0 ≡ true = fixed_more p q rules more t.0 h.0.there ∙ parts.0 in
      let others : is_plain q rest ≡ true = plain_more rest h.1.1 parts.1 in
      λ i. one i && others i
  plain_more (next (choose arms) rest) h plain = absurd (false≢true plain)

  exprs_more : (es : List ExprId) → AllByRecursion (IsReadable p) es → AllByRecursion (IsReadable q) es
  exprs_more [] h = tt
  exprs_more (e ∷ es) h = (readable_more p q rules more e h.0, exprs_more es h.1)

  driven_more : (b : Block) → AllByRecursion (IsReadable p) (block_exprs b) → is_plain p b ≡ true → driven q b ≡ driven p b
  driven_more done h plain = refl
  driven_more (next (assign t v place) rest) h plain =
      let parts = and_parts (is_fixed p t.0) (is_plain p rest) plain in
      let one = signals_more p q rules more t.0 h.0.there in
      let others = driven_more rest h.1.1 parts.1 in
      λ i. one i ++ others i
  driven_more (next (choose arms) rest) h plain = absurd (false≢true plain)

  put_more : (b : Block) (env cur : List ℤ) → AllByRecursion (IsReadable p) (block_exprs b) → is_plain p b ≡ true → put q env b cur ≡ put p env b cur
  put_more done env cur h plain = refl
  put_more (next (assign t v place) rest) env cur h plain =
      let parts = and_parts (is_fixed p t.0) (is_plain p rest) plain in
      let places = bits_more p q rules more env t.0 h.0.there in
      let value = num_more p q rules more env v.0 h.1.0.there in
      ap (λ xs. put q env rest (put_number q xs (num q env v.0) cur)) places
      ∙ ap (λ n. put q env rest (put_number q (target_bits p env t.0) n cur)) value
      ∙ ap (put q env rest) (put_bits_more p q (target_bits p env t.0) _ 0 cur more)
      ∙ put_more rest env (put_number p (target_bits p env t.0) (num p env v.0) cur) h.1.1 parts.1
  put_more (next (choose arms) rest) env cur h plain = absurd (false≢true plain)

  -- an assignment of a plain block has no guard, and reads and writes what is there
  record IsBare (g : Guarded) : Type 0 where
    guards : g.guards ≡ []
    target : IsReadable p g.target
    value : IsReadable p g.value

  bare : (b : Block) (g : Guarded) → AllByRecursion (IsReadable p) (block_exprs b) → is_plain p b ≡ true → Contains (guarded [] b) g → IsBare g
  bare done g h plain has = absurd (contains_none g has)
  bare (next (assign t v place) rest) g h plain has =
      let parts = and_parts (is_fixed p t.0) (is_plain p rest) plain in
      ⊎_elim
      (λ (same : record { guards = []; target = t; value = v; place = place } ≡ g). subst IsBare same (record { guards = refl; target = h.0; value = h.1.0 }))
      (λ others. bare rest g h.1.1 parts.1 others)
      (contains_cases (record { guards = []; target = t; value = v; place = place }) g (guarded [] rest) has)
  bare (next (choose arms) rest) g h plain has = absurd (false≢true plain)

  needs_before : (g : Guarded) (b c : Bit) → IsBare g → AssignmentNeeds q g b c → AssignmentNeeds p g b c
  needs_before g b c own h = record {
    aim = h.aim;
    may = subst (λ xs. Contains xs h.aim) (aims_more p q rules more g.target.0 own.target.there) h.may;
    writes = h.writes;
    reads = subst (λ xs. Contains xs c) (λ i. conditions i ++ indices i ++ value (fixed_place (h.aim).spot) i) h.reads;
  }
    where
      conditions : flat_map (λ (x : Guard). needed_whole q x.condition) g.guards ≡ flat_map (λ (x : Guard). needed_whole p x.condition) g.guards
      conditions = ap (flat_map (λ (x : Guard). needed_whole q x.condition)) own.guards ∙ ap (flat_map (λ (x : Guard). needed_whole p x.condition)) (sym own.guards)

      indices : needed_indices q g.target.0 ≡ needed_indices p g.target.0
      indices = indices_more p q rules more g.target.0 own.target.there

      value : (o : Option ℕ) → needed_value q g.value o ≡ needed_value p g.value o
      value None = needed_whole_more p q rules more g.value own.value.there
      value (Some k) =
          ap (λ (f : Form). extended f (needed q g.value.0) k) (form_more p q rules more g.value.0 own.value.there) ∙ ap (λ (f : ℕ → List Bit). extended (form p g.value.0) f k) (needed_more p q rules more g.value.0 own.value.there)

  pub plain_is_flat : (clocked : Bool) (b : Block) → AllByRecursion (IsReadable p) (block_exprs b) → is_plain p b ≡ true → IsFlatBody p q clocked b b
  plain_is_flat clocked b h plain = record {
    plain = plain_more b h plain;
    readable = All-from_recursion (IsReadable q) (block_exprs b) (exprs_more (block_exprs b) h);
    drives = λ s. ap (λ ss. is_among ss s) (driven_more b h plain);
    puts = λ env cur fit fits long starts. put_more b env cur h plain;
    needs = λ comb g x c has needs. record { assignment = g; among = has; needs = needs_before g x c (bare b g h plain has) needs };
  }
