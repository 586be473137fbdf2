use Rattle.std.proofs.Common.{◌≡◌, ◌||◌, Bool, true, false, if◌then◌else◌, List, ℤ, refl, sym, ap, ◌∙◌}
use Rattle.std.proofs.lemmas.Bool.{false≢true}
use Rattle.shape_rules.specs.Operators.{is_zero}
use Rattle.design_ir.specs.declared.process.Side.{Side}
use Rattle.design_ir.specs.Pools.{Pooled}
use Rattle.design_ir.specs.Values.{num}
use Rattle.design_ir.specs.Put.{put, put_choices, put_statement}
use Rattle.design_ir.specs.Trees.{choose, next}
use Rattle.module_dsl.specs.Blocks.{Entries, nothing, given, choice, Branches, none, branch}
use Rattle.module_dsl.specs.Sided.{same_side, givens, givens_in, has_side, block_for, choices_for, carried_out, first_active}
use Rattle.module_dsl.proofs.GivenLaws.{has_side-append}
use Rattle.module_dsl.proofs.laws.blocks_are_meant.Goals as goal

or_none : (a b : Bool) → (a || b) ≡ false → (a ≡ false) × (b ≡ false)
or_none true b e = absurd (false≢true (sym e))
or_none false b e = (refl, e)

both : (t : Bool) (xs ys zs : List ℤ) → xs ≡ zs → ys ≡ zs → (if t then xs else ys) ≡ zs
both true xs ys zs e f = e
both false xs ys zs e f = f

module _ (pool : Pooled) (env : List ℤ) (side : Side) where
  mutual
    -- what has no statement of the side changes nothing for it
    nothing_done : (es : Entries) (cur : List ℤ) → has_side side (givens es) ≡ false → carried_out pool env side es cur ≡ cur
    nothing_done nothing cur e = refl
    nothing_done (given g rest) cur e =
        let apart = or_none (same_side side g.side) (has_side side (givens rest)) e in
        rw (apart.0) (nothing_done rest cur apart.1)
    nothing_done (choice bs rest) cur e =
        let apart = or_none (has_side side (givens_in bs)) (has_side side (givens rest)) (sym (has_side-append side (givens_in bs) (givens rest)) ∙ e) in
        ap (carried_out pool env side rest) (nothing_active bs cur apart.0) ∙ nothing_done rest cur apart.1

    nothing_active : (bs : Branches) (cur : List ℤ) → has_side side (givens_in bs) ≡ false → first_active pool env side bs cur ≡ cur
    nothing_active none cur e = refl
    nothing_active (branch c es bs) cur e =
        let apart = or_none (has_side side (givens es)) (has_side side (givens_in bs)) (sym (has_side-append side (givens es) (givens_in bs)) ∙ e) in
        both (is_zero (num pool env c.0)) (first_active pool env side bs cur) (carried_out pool env side es cur) cur (nothing_active bs cur apart.1) (nothing_done es cur apart.0)

  mutual
    meant : (es : Entries) (cur : List ℤ) → put pool env (block_for side es) cur ≡ carried_out pool env side es cur
    meant nothing cur = refl
    meant (given g rest) cur = split (λ now. meant rest now) (same_side side g.side)
      where
        split : ((now : List ℤ) → put pool env (block_for side rest) now ≡ carried_out pool env side rest now) → (t : Bool)
            → put pool env (if t then next g.statement (block_for side rest) else block_for side rest) cur ≡ carried_out pool env side rest (if t then put_statement pool env g.statement cur else cur)
        split more true = more (put_statement pool env g.statement cur)
        split more false = more cur
    meant (choice bs rest) cur = split (λ now. meant rest now) (active bs cur) (has_side side (givens_in bs)) refl
      where
        split : ((now : List ℤ) → put pool env (block_for side rest) now ≡ carried_out pool env side rest now) → put_choices pool env (choices_for side bs) cur ≡ first_active pool env side bs cur
            → (t : Bool) → has_side side (givens_in bs) ≡ t
            → put pool env (if t then next (choose (choices_for side bs)) (block_for side rest) else block_for side rest) cur ≡ carried_out pool env side rest (first_active pool env side bs cur)
        split more one true e = ap (put pool env (block_for side rest)) one ∙ more (first_active pool env side bs cur)
        split more one false e = more cur ∙ ap (carried_out pool env side rest) (sym (nothing_active bs cur e))

    active : (bs : Branches) (cur : List ℤ) → put_choices pool env (choices_for side bs) cur ≡ first_active pool env side bs cur
    active none cur = refl
    active (branch c es bs) cur = let a = meant es cur in let b = active bs cur in rw (a, b) refl

pub returns : goal.returns
returns c = meant
