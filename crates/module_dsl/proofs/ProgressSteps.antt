-- Each step keeps what a builder keeps beside what it was told.
use Rattle.std.proofs.Common.{◌≡◌, ℕ, ◌+◌, ◌-◌, min, Bool, true, false, ◌||◌, if◌then◌else◌, List, [], ◌∷◌, ◌++◌, map, length, refl, sym, ap, ◌∙◌, append_assoc, arith}
use Rattle.std.proofs.lemmas.Bool.{false≢true}
use Rattle.design_ir.specs.declared.process.Side.{Side}
use Rattle.module_dsl.specs.declared.progress.Progress.{Progress}
use Rattle.module_dsl.specs.Blocks.{Given, Entries, nothing, given, Branches, none, branch, joined, ended, Open, Blocks, branches_with, content, whole, entries_of, in_switch, is_none, and_statement}
use Rattle.module_dsl.specs.Sided.{same_side, givens, givens_in, sides_of, has_side, statement_count}
use Rattle.module_dsl.specs.Progress.{reach_in, reach, so_far, AreBranches, IsOuter, IsProper, IsProgress, touched, has_kept, with_side, kept_reach}
use Rattle.module_dsl.proofs.GivenLaws.{any_same, same_itself, same_true, same_flipped, has_side-append, side_any, sides_more}
use Rattle.module_dsl.proofs.BlockLaws.{givens-joined, givens-ended, count-joined}
use Rattle.module_dsl.proofs.ProgressLaws.{Fits, fits_all, around_givens, givens-whole, reach_same, reach_full, reach_most, count_more}

-- ---- blocks as they may stand

fits_from : (around : List Open) (es : Entries) → IsOuter around → (in_switch around ≡ true → givens es ≡ []) → Fits around es
fits_from [] es outer bare = tt
fits_from (o ∷ around) es outer bare = (bare, outer)

pub proper_fits : (b : Blocks) → IsProper b → Fits b.around (content b)
proper_fits b h = fits_from b.around (content b) h.outer (λ e. let n = (h.bare e).0 in let m = (h.bare e).1 in rw (n, m) refl)

branches_from : (around : List Open) → IsOuter around → in_switch around ≡ false → AreBranches around
branches_from [] outer e = tt
branches_from (o ∷ around) outer e = (e, outer)

pub proper_branches : (b : Blocks) → IsProper b → in_switch b.around ≡ false → AreBranches b.around
proper_branches b h e = branches_from b.around h.outer e

-- a chain stands in no `Switch`
pub chain_branches : (b : Blocks) → IsProper b → is_none b.chain ≡ false → AreBranches b.around
chain_branches b h e = split (in_switch b.around) refl
  where
    split : (t : Bool) → in_switch b.around ≡ t → AreBranches b.around
    split false i = proper_branches b h i
    split true i = absurd (false≢true (sym e ∙ ap is_none (h.bare i).1))

has_chain : (b : Blocks) (side : Side) → has_side side (givens_in b.chain) ≡ true → is_none b.chain ≡ false
has_chain b side e = split b.chain e
  where
    split : (bs : Branches) → has_side side (givens_in bs) ≡ true → is_none bs ≡ false
    split none h = absurd (false≢true h)
    split (branch c es bs) h = refl

or_right : (a b : Bool) → b ≡ true → (a || b) ≡ true
or_right true b e = refl
or_right false b e = e

or_none : (a b : Bool) → (a || b) ≡ false → (a ≡ false) × (b ≡ false)
or_none true b e = absurd (false≢true (sym e))
or_none false b e = (refl, e)

-- ---- how far a side goes

-- where the chain goes on no more
pub reach-clipped : (b : Blocks) (side : Side) → IsProper b → min (reach b side) (length b.around) ≡ reach_in side b.around (content b)
reach-clipped b side h = split (has_side side (givens_in b.chain)) refl
  where
    split : (t : Bool) → has_side side (givens_in b.chain) ≡ t → min (reach b side) (length b.around) ≡ reach_in side b.around (content b)
    split true e =
        let stands : has_side side (givens (content b)) ≡ true =
        ap (has_side side) (givens-ended b.entries b.chain) ∙ has_side-append side (givens b.entries) (givens_in b.chain) ∙ or_right (has_side side (givens b.entries)) (has_side side (givens_in b.chain)) e in
        let full = reach_full side b.around (content b) (chain_branches b h (has_chain b side e)) stands in
        rw e (omega (arith, full))
    split false e = rw e (omega (arith, reach_most side b.around (content b)))

-- a side that stands nowhere
pub reach_none : (side : Side) (around : List Open) (es : Entries) → Fits around es → has_side side (givens (whole around es)) ≡ false → reach_in side around es ≡ 0
reach_none side [] es h e = refl
reach_none side (o ∷ around) es h e =
    let inner : Entries = ended o.before (branches_with o es) in
    let fits : Fits around inner = fits_all around inner h.1 in
    let outside : has_side side (givens inner) ≡ false =
    (or_none (has_side side (around_givens around)) (has_side side (givens inner)) (sym (has_side-append side (around_givens around) (givens inner)) ∙ ap (has_side side) (sym (givens-whole around inner fits)) ∙ e)).1 in
    let here : has_side side (givens_in (branches_with o es)) ≡ false =
    (or_none (has_side side (givens o.before)) (has_side side (givens_in (branches_with o es))) (sym (has_side-append side (givens o.before) (givens_in (branches_with o es))) ∙ ap (has_side side) (sym (givens-ended o.before (branches_with o es))) ∙ outside)).1 in
    rw here (omega (arith, reach_none side around inner fits e))

kept_so_far : (b : Blocks) (side : Side) (ss : List Side) → kept_reach side (map (so_far b) ss) ≡ (if any_same side ss then reach b side else 0)
kept_so_far b side [] = refl
kept_so_far b side (s ∷ ss) = split (kept_so_far b side ss) (same_side side s) refl
  where
    split : kept_reach side (map (so_far b) ss) ≡ (if any_same side ss then reach b side else 0) → (t : Bool) → same_side side s ≡ t → kept_reach side (map (so_far b) (s ∷ ss)) ≡ (if any_same side (s ∷ ss) then reach b side else 0)
    split rest true e = rw e (ap (reach b) (sym (same_true side s e)))
    split rest false e = rw e rest

pub has_kept-so_far : (b : Blocks) (side : Side) (ss : List Side) → has_kept side (map (so_far b) ss) ≡ any_same side ss
has_kept-so_far b side [] = refl
has_kept-so_far b side (s ∷ ss) = ap (λ t. same_side side s || t) (has_kept-so_far b side ss)

pub kept_reach-is : (b : Blocks) (p : Progress) (side : Side) → IsProgress b p → min (kept_reach side p.sides.items) (length b.around) ≡ reach_in side b.around (content b)
kept_reach-is b p side h =
    ap (λ xs. min (kept_reach side xs) (length b.around)) h.sides
    ∙ ap (λ n. min n (length b.around)) (kept_so_far b side (sides_of (givens (entries_of b))))
    ∙ ap (λ t. min (if t then reach b side else 0) (length b.around)) (side_any side (givens (entries_of b)))
    ∙ split (has_side side (givens (entries_of b))) refl
  where
    split : (t : Bool) → has_side side (givens (entries_of b)) ≡ t → min (if t then reach b side else 0) (length b.around) ≡ reach_in side b.around (content b)
    split true e = reach-clipped b side h.proper
    split false e = omega (arith, reach_none side b.around (content b) (proper_fits b h.proper) e)

-- ---- a statement

giving : (b : Blocks) (g : Given) → givens (joined (content b) (given g nothing)) ≡ givens (content b) ++ g ∷ []
giving b g = givens-joined (content b) (given g nothing)

-- so many statements one more is
pub added-is : (b : Blocks) (g : Given) (p : Progress) (reaches : ℕ) → IsProgress b p → in_switch b.around ≡ false → reaches ≡ kept_reach g.side p.sides.items
    → statement_count (entries_of (and_statement g b)) ≡ p.statements + (length b.around - min reaches (length b.around) + 1)
added-is b g p reaches h i e =
    let more = count_more b.around (content b) (joined (content b) (given g nothing)) g 1 (proper_branches b h.proper i) (giving b g) (count-joined (content b) (given g nothing)) in
    let far = kept_reach-is b p g.side h in
    let most = reach_most g.side b.around (content b) in
    omega (arith, more, far, most, e, h.statements)

pub map_agree : {A B : Type 0} (f g : A → B) → ((x : A) → f x ≡ g x) → (xs : List A) → map f xs ≡ map g xs
map_agree f g h [] = refl
map_agree f g h (x ∷ xs) = let a = h x in let b = map_agree f g h xs in cc

pub map_map : {A B C : Type 0} (f : B → C) (g : A → B) (xs : List A) → map f (map g xs) ≡ map (λ x. f (g x)) xs
map_map f g [] = refl
map_map f g (x ∷ xs) = ap (λ ys. f (g x) ∷ ys) (map_map f g xs)

pub map_id : {A : Type 0} (xs : List A) → map (λ x. x) xs ≡ xs
map_id [] = refl
map_id (x ∷ xs) = ap (λ ys. x ∷ ys) (map_id xs)

map_push : {A B : Type 0} (f : A → B) (xs : List A) (x : A) → map f (xs ++ x ∷ []) ≡ map f xs ++ f x ∷ []
map_push f [] x = refl
map_push f (y ∷ xs) x = ap (λ zs. f y ∷ zs) (map_push f xs x)

module _ (b : Blocks) (g : Given) (h : IsProper b) (i : in_switch b.around ≡ false) where
  after_fits : Fits b.around (joined (content b) (given g nothing))
  after_fits = fits_all b.around (joined (content b) (given g nothing)) (proper_branches b h i)

  after_side : (t : Side) → has_side t (givens (joined (content b) (given g nothing))) ≡ (has_side t (givens (content b)) || (same_side t g.side || false))
  after_side t = ap (has_side t) (giving b g) ∙ has_side-append t (givens (content b)) (g ∷ [])

  or_false : (a : Bool) → (a || false) ≡ a
  or_false true = refl
  or_false false = refl

  -- how far each side goes then
  reach_here : (t : Side) → same_side g.side t ≡ true → reach (and_statement g b) t ≡ length b.around
  reach_here t e =
      let own : (same_side t g.side || false) ≡ true = or_false (same_side t g.side) ∙ same_flipped t g.side ∙ e in
      omega (arith, reach_full t b.around (joined (content b) (given g nothing)) (proper_branches b h i) (after_side t ∙ or_right (has_side t (givens (content b))) (same_side t g.side || false) own))

  reach_there : (t : Side) → same_side g.side t ≡ false → reach (and_statement g b) t ≡ min (reach b t) (length b.around)
  reach_there t e =
      let own : (same_side t g.side || false) ≡ false = or_false (same_side t g.side) ∙ same_flipped t g.side ∙ e in
      let same : has_side t (givens (content b)) ≡ has_side t (givens (joined (content b) (given g nothing))) = sym (after_side t ∙ ap (λ x. has_side t (givens (content b)) || x) own ∙ or_false (has_side t (givens (content b)))) in
      omega (arith, reach-clipped b t h, reach_same t b.around (content b) (joined (content b) (given g nothing)) (proper_fits b h) after_fits same)

  touched-is : (t : Side) → touched g.side (length b.around) (so_far b t) ≡ so_far (and_statement g b) t
  touched-is t = split (same_side g.side t) refl
    where
      split : (x : Bool) → same_side g.side t ≡ x → touched g.side (length b.around) (so_far b t) ≡ so_far (and_statement g b) t
      split true e = rw e (ap (λ n. record { side = t; reach = n }) (sym (reach_here t e)))
      split false e = rw e (ap (λ n. record { side = t; reach = n }) (sym (reach_there t e)))

  new_side : touched g.side (length b.around) (record { side = g.side; reach = 0 }) ≡ so_far (and_statement g b) g.side
  new_side = rw (same_itself g.side) (ap (λ n. record { side = g.side; reach = n }) (sym (reach_here g.side (same_itself g.side))))

  pub givens-given : givens (entries_of (and_statement g b)) ≡ givens (entries_of b) ++ g ∷ []
  givens-given =
      givens-whole b.around (joined (content b) (given g nothing)) after_fits ∙ ap (λ gs. around_givens b.around ++ gs) (giving b g)
      ∙ sym (append_assoc (around_givens b.around) (givens (content b)) (g ∷ []))
      ∙ ap (λ gs. gs ++ g ∷ []) (sym (givens-whole b.around (content b) (proper_fits b h)))

  sides_given : (ss : List Side) → map (touched g.side (length b.around)) (with_side g.side (map (so_far b) ss)) ≡ map (so_far (and_statement g b)) (if any_same g.side ss then ss else ss ++ g.side ∷ [])
  sides_given ss =
      ap (λ t. map (touched g.side (length b.around)) (if t then map (so_far b) ss else map (so_far b) ss ++ record { side = g.side; reach = 0 } ∷ [])) (has_kept-so_far b g.side ss)
      ∙ split (any_same g.side ss)
    where
      all_touched : map (touched g.side (length b.around)) (map (so_far b) ss) ≡ map (so_far (and_statement g b)) ss
      all_touched = map_map (touched g.side (length b.around)) (so_far b) ss ∙ map_agree (λ t. touched g.side (length b.around) (so_far b t)) (so_far (and_statement g b)) touched-is ss

      split : (t : Bool) → map (touched g.side (length b.around)) (if t then map (so_far b) ss else map (so_far b) ss ++ record { side = g.side; reach = 0 } ∷ []) ≡ map (so_far (and_statement g b)) (if t then ss else ss ++ g.side ∷ [])
      split true = all_touched
      split false =
          map_push (touched g.side (length b.around)) (map (so_far b) ss) (record { side = g.side; reach = 0 })
          ∙ ap (λ xs. xs ++ touched g.side (length b.around) (record { side = g.side; reach = 0 }) ∷ []) all_touched
          ∙ ap (λ x. map (so_far (and_statement g b)) ss ++ x ∷ []) new_side
          ∙ sym (map_push (so_far (and_statement g b)) ss g.side)

  pub given-is : (p p' : Progress) → IsProgress b p → p'.sides.items ≡ map (touched g.side (length b.around)) (with_side g.side p.sides.items) → p'.blocks.items ≡ p.blocks.items → p'.goes_on ≡ false
      → p'.statements ≡ statement_count (entries_of (and_statement g b)) → IsProgress (and_statement g b) p'
  given-is p p' k sides blocks goes_on statements = record {
    proper = record { outer = h.outer; bare = λ e. absurd (false≢true (sym i ∙ e)) };
    sides =
        sides ∙ ap (λ xs. map (touched g.side (length b.around)) (with_side g.side xs)) k.sides ∙ sides_given (sides_of (givens (entries_of b)))
        ∙ ap (map (so_far (and_statement g b))) (sym (sides_more (givens (entries_of b)) g)) ∙ ap (λ gs. map (so_far (and_statement g b)) (sides_of gs)) (sym givens-given);
    open_blocks = blocks ∙ k.open_blocks;
    goes_on = goes_on;
    statements = statements;
  }
