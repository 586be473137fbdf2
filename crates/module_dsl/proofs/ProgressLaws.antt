-- What a builder keeps beside what it was told, from step to step.
use Rattle.std.proofs.Common.{◌≡◌, ℕ, ◌+◌, ◌≤◌, Bool, true, false, ◌||◌, if◌then◌else◌, List, [], ◌∷◌, ◌++◌, length, refl, sym, ap, ◌∙◌, append-nil, append_assoc, arith}
use Rattle.std.proofs.lemmas.Bool.{false≢true}
use Rattle.std.proofs.lemmas.List.{length-append}
use Rattle.design_ir.specs.declared.process.Side.{Side}
use Rattle.module_dsl.specs.declared.step.OpenBlock.{OpenBlock}
use Rattle.module_dsl.specs.declared.step.OpenBlock.TheVariants as block
use Rattle.module_dsl.specs.Blocks.{Given, Entries, Branches, ended, Open, with_content, branches_with, whole, is_switch}
use Rattle.module_dsl.specs.Sided.{givens, givens_in, sides_of, has_side, statement_count, branch_count}
use Rattle.module_dsl.specs.Progress.{one_where, reach_in, AreBranches}
use Rattle.module_dsl.proofs.GivenLaws.{has_side-append, side_any, sides_more}
use Rattle.module_dsl.proofs.BlockLaws.{givens_in-and_branch, givens-ended, count-and_branch, count-ended}

-- ---- what stands in a choice, where nothing but cases stands in a `Switch`

-- in a `Switch` nothing is given but in its cases
abbrev pub IsFilled : OpenBlock → Entries → Type 0
IsFilled x es = is_switch x ≡ true → givens es ≡ []

abbrev pub Fits : List Open → Entries → Type 0
Fits [] es = Unit {0}
Fits (o ∷ around) es = IsFilled o.block es × AreBranches around

pub fits_all : (around : List Open) (es : Entries) → AreBranches around → Fits around es
fits_all [] es h = tt
fits_all (o ∷ around) es h = (λ e. absurd (false≢true (sym h.0 ∙ e)), h.1)

pub givens_in-with : (x : OpenBlock) (bs : Branches) (es : Entries) → IsFilled x es → givens_in (with_content x bs es) ≡ givens_in bs ++ givens es
givens_in-with (block.Branch c) bs es h = givens_in-and_branch bs c es
givens_in-with (block.Last c) bs es h = givens_in-and_branch bs c es
givens_in-with (block.Switch v) bs es h = sym (ap (λ gs. givens_in bs ++ gs) (h refl) ∙ append-nil (givens_in bs))
givens_in-with (block.Case v c) bs es h = givens_in-and_branch bs c es

-- all round a block, and then what is given in it
abbrev pub outer_givens : Open → Entries → List Given
outer_givens o es = givens o.before ++ (givens_in o.branches ++ givens es)

pub givens-level : (o : Open) (es : Entries) → IsFilled o.block es → givens (ended o.before (branches_with o es)) ≡ outer_givens o es
givens-level o es h = givens-ended o.before (branches_with o es) ∙ ap (λ gs. givens o.before ++ gs) (givens_in-with o.block o.branches es h)

-- the statements round these blocks
abbrev pub around_givens : List Open → List Given
around_givens [] = []
around_givens (o ∷ around) = around_givens around ++ (givens o.before ++ givens_in o.branches)

pub givens-whole : (around : List Open) (es : Entries) → Fits around es → givens (whole around es) ≡ around_givens around ++ givens es
givens-whole [] es h = refl
givens-whole (o ∷ around) es h =
    let inner : Entries = ended o.before (branches_with o es) in
    givens-whole around inner (fits_all around inner h.1)
    ∙ ap (λ gs. around_givens around ++ gs) (givens-level o es h.0 ∙ sym (append_assoc (givens o.before) (givens_in o.branches) (givens es)))
    ∙ sym (append_assoc (around_givens around) (givens o.before ++ givens_in o.branches) (givens es))

-- ---- in how many choices a side stands

has_in : (side : Side) (x : OpenBlock) (bs : Branches) (es : Entries) → IsFilled x es → has_side side (givens_in (with_content x bs es)) ≡ (has_side side (givens_in bs) || has_side side (givens es))
has_in side x bs es h = ap (has_side side) (givens_in-with x bs es h) ∙ has_side-append side (givens_in bs) (givens es)

has_level : (side : Side) (o : Open) (es : Entries) → has_side side (givens (ended o.before (branches_with o es))) ≡ (has_side side (givens o.before) || has_side side (givens_in (branches_with o es)))
has_level side o es = ap (has_side side) (givens-ended o.before (branches_with o es)) ∙ has_side-append side (givens o.before) (givens_in (branches_with o es))

or_right : (a b : Bool) → b ≡ true → (a || b) ≡ true
or_right true b e = refl
or_right false b e = e

-- it depends on the sides of what stands in the innermost block alone
pub reach_same : (side : Side) (around : List Open) (es es' : Entries) → Fits around es → Fits around es' → has_side side (givens es) ≡ has_side side (givens es') → reach_in side around es ≡ reach_in side around es'
reach_same side [] es es' h h' e = refl
reach_same side (o ∷ around) es es' h h' e =
    let here : has_side side (givens_in (branches_with o es)) ≡ has_side side (givens_in (branches_with o es')) =
    has_in side o.block o.branches es h.0 ∙ ap (λ b. has_side side (givens_in o.branches) || b) e ∙ sym (has_in side o.block o.branches es' h'.0) in
    let inner : Entries = ended o.before (branches_with o es) in
    let inner' : Entries = ended o.before (branches_with o es') in
    let rest : reach_in side around inner ≡ reach_in side around inner' =
    reach_same side around inner inner' (fits_all around inner h.1) (fits_all around inner' h.1)
    (has_level side o es ∙ ap (λ b. has_side side (givens o.before) || b) here ∙ sym (has_level side o es')) in
    rw (here, rest) refl

-- a side that stands innermost stands in all
pub reach_full : (side : Side) (around : List Open) (es : Entries) → AreBranches around → has_side side (givens es) ≡ true → reach_in side around es ≡ length around
reach_full side [] es h e = refl
reach_full side (o ∷ around) es h e =
    let fits : Fits (o ∷ around) es = fits_all (o ∷ around) es h in
    let here : has_side side (givens_in (branches_with o es)) ≡ true = has_in side o.block o.branches es fits.0 ∙ or_right (has_side side (givens_in o.branches)) (has_side side (givens es)) e in
    let inner : Entries = ended o.before (branches_with o es) in
    let rest : reach_in side around inner ≡ length around =
    reach_full side around inner h.1 (has_level side o es ∙ or_right (has_side side (givens o.before)) (has_side side (givens_in (branches_with o es))) here) in
    rw here (omega (arith, rest))

one_most : (b : Bool) → one_where b ≤ 1
one_most true = omega arith
one_most false = omega arith

pub reach_most : (side : Side) (around : List Open) (es : Entries) → reach_in side around es ≤ length around
reach_most side [] es = omega arith
reach_most side (o ∷ around) es =
    omega (arith, one_most (has_side side (givens_in (branches_with o es))), reach_most side around (ended o.before (branches_with o es)))

-- ---- a statement more

pub count_more : (around : List Open) (es es' : Entries) (g : Given) (n : ℕ) → AreBranches around → givens es' ≡ givens es ++ g ∷ [] → statement_count es' ≡ statement_count es + n
    → statement_count (whole around es') + reach_in g.side around es ≡ statement_count (whole around es) + n + length around
count_more [] es es' g n h gs count = omega (arith, count)
count_more (o ∷ around) es es' g n h gs count =
    split (λ m more. count_more around (ended o.before (branches_with o es)) (ended o.before (branches_with o es')) g m h.1 level_now more) (has_side g.side (givens_in (branches_with o es))) refl
  where
    in_now : givens_in (branches_with o es') ≡ givens_in (branches_with o es) ++ g ∷ []
    in_now =
        givens_in-with o.block o.branches es' (fits_all (o ∷ around) es' h).0 ∙ ap (λ xs. givens_in o.branches ++ xs) gs
        ∙ sym (append_assoc (givens_in o.branches) (givens es) (g ∷ []))
        ∙ ap (λ xs. xs ++ g ∷ []) (sym (givens_in-with o.block o.branches es (fits_all (o ∷ around) es h).0))

    level_now : givens (ended o.before (branches_with o es')) ≡ givens (ended o.before (branches_with o es)) ++ g ∷ []
    level_now =
        givens-ended o.before (branches_with o es') ∙ ap (λ xs. givens o.before ++ xs) in_now
        ∙ sym (append_assoc (givens o.before) (givens_in (branches_with o es)) (g ∷ []))
        ∙ ap (λ xs. xs ++ g ∷ []) (sym (givens-ended o.before (branches_with o es)))

    branch_now : (x : OpenBlock) (bs : Branches) → is_switch x ≡ false → branch_count (with_content x bs es') ≡ branch_count (with_content x bs es) + n
    branch_now (block.Branch c) bs e = omega (arith, count, count-and_branch bs c es, count-and_branch bs c es')
    branch_now (block.Last c) bs e = omega (arith, count, count-and_branch bs c es, count-and_branch bs c es')
    branch_now (block.Switch v) bs e = absurd (false≢true (sym e))
    branch_now (block.Case v c) bs e = omega (arith, count, count-and_branch bs c es, count-and_branch bs c es')

    sides_now : length (sides_of (givens_in (branches_with o es'))) ≡ length (if has_side g.side (givens_in (branches_with o es)) then sides_of (givens_in (branches_with o es)) else sides_of (givens_in (branches_with o es)) ++ g.side ∷ [])
    sides_now =
        ap (λ xs. length (sides_of xs)) in_now ∙ ap length (sides_more (givens_in (branches_with o es)) g)
        ∙ ap (λ b. length (if b then sides_of (givens_in (branches_with o es)) else sides_of (givens_in (branches_with o es)) ++ g.side ∷ [])) (side_any g.side (givens_in (branches_with o es)))

    split : ((m : ℕ) → statement_count (ended o.before (branches_with o es')) ≡ statement_count (ended o.before (branches_with o es)) + m
        → statement_count (whole (o ∷ around) es') + reach_in g.side around (ended o.before (branches_with o es)) ≡ statement_count (whole (o ∷ around) es) + m + length around)
        → (b : Bool) → has_side g.side (givens_in (branches_with o es)) ≡ b
        → statement_count (whole (o ∷ around) es') + reach_in g.side (o ∷ around) es ≡ statement_count (whole (o ∷ around) es) + n + length (o ∷ around)
    split rest true e =
        let sides : length (sides_of (givens_in (branches_with o es'))) ≡ length (sides_of (givens_in (branches_with o es))) = sides_now ∙ ap (λ b. length (if b then sides_of (givens_in (branches_with o es)) else sides_of (givens_in (branches_with o es)) ++ g.side ∷ [])) e in
        let level : statement_count (ended o.before (branches_with o es')) ≡ statement_count (ended o.before (branches_with o es)) + n =
        omega (arith, count-ended o.before (branches_with o es), count-ended o.before (branches_with o es'), branch_now o.block o.branches h.0, sides) in
        rw e (omega (arith, rest n level))
    split rest false e =
        let sides : length (sides_of (givens_in (branches_with o es'))) ≡ length (sides_of (givens_in (branches_with o es))) + 1 =
        sides_now ∙ ap (λ b. length (if b then sides_of (givens_in (branches_with o es)) else sides_of (givens_in (branches_with o es)) ++ g.side ∷ [])) e ∙ length-append (sides_of (givens_in (branches_with o es))) (g.side ∷ []) in
        let level : statement_count (ended o.before (branches_with o es')) ≡ statement_count (ended o.before (branches_with o es)) + (n + 1) =
        omega (arith, count-ended o.before (branches_with o es), count-ended o.before (branches_with o es'), branch_now o.block o.branches h.0, sides) in
        rw e (omega (arith, rest (n + 1) level))

-- ---- the same statements otherwise

pub count_same : (around : List Open) (es es' : Entries) → Fits around es → Fits around es' → givens es' ≡ givens es → statement_count es' ≡ statement_count es → statement_count (whole around es') ≡ statement_count (whole around es)
count_same [] es es' h h' gs count = count
count_same (o ∷ around) es es' h h' gs count =
    let in_now : givens_in (branches_with o es') ≡ givens_in (branches_with o es) =
    givens_in-with o.block o.branches es' h'.0 ∙ ap (λ xs. givens_in o.branches ++ xs) gs ∙ sym (givens_in-with o.block o.branches es h.0) in
    let level_now : givens (ended o.before (branches_with o es')) ≡ givens (ended o.before (branches_with o es)) =
    givens-ended o.before (branches_with o es') ∙ ap (λ xs. givens o.before ++ xs) in_now ∙ sym (givens-ended o.before (branches_with o es)) in
    let level : statement_count (ended o.before (branches_with o es')) ≡ statement_count (ended o.before (branches_with o es)) =
    count-ended o.before (branches_with o es') ∙ ap (λ n. statement_count o.before + n) (omega (arith, ap (λ xs. length (sides_of xs)) in_now, branch_now o.block o.branches)) ∙ sym (count-ended o.before (branches_with o es)) in
    count_same around (ended o.before (branches_with o es)) (ended o.before (branches_with o es')) (fits_all around (ended o.before (branches_with o es)) h.1) (fits_all around (ended o.before (branches_with o es')) h.1) level_now level
  where
    branch_now : (x : OpenBlock) (bs : Branches) → branch_count (with_content x bs es') ≡ branch_count (with_content x bs es)
    branch_now (block.Branch c) bs = omega (arith, count, count-and_branch bs c es, count-and_branch bs c es')
    branch_now (block.Last c) bs = omega (arith, count, count-and_branch bs c es, count-and_branch bs c es')
    branch_now (block.Switch v) bs = refl
    branch_now (block.Case v c) bs = omega (arith, count, count-and_branch bs c es, count-and_branch bs c es')
