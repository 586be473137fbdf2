-- Blocks that begin and end keep what a builder keeps beside what it was told.
use Rattle.std.proofs.Common.{◌≡◌, ℕ, suc, ◌+◌, min, Bool, true, false, not, ◌||◌, List, [], ◌∷◌, ◌++◌, map, length, drop, slice_set, Option, Some, None, refl, sym, ap, ◌∙◌, subst, append-nil, arith}
use Rattle.std.proofs.lemmas.Bool.{false≢true}
use Rattle.std.proofs.lemmas.List.{length-map}
use Rattle.design_ir.specs.declared.ids.ExprId.{ExprId}
use Rattle.design_ir.specs.declared.process.Side.{Side}
use Rattle.module_dsl.specs.declared.step.OpenBlock.{OpenBlock}
use Rattle.module_dsl.specs.declared.step.OpenBlock.TheVariants as block
use Rattle.module_dsl.specs.declared.step.Opening.TheVariants as opening
use Rattle.module_dsl.specs.declared.progress.SideSoFar.{SideSoFar}
use Rattle.module_dsl.specs.declared.progress.Progress.{Progress}
use Rattle.module_dsl.specs.Blocks.{Entries, nothing, Branches, none, branch, and_branch, ended, Open, Blocks, with_content, branches_with, content, whole, entries_of, is_switch, in_switch, is_none, opened, entered, left, left_in, case_opened}
use Rattle.module_dsl.specs.Sided.{givens, givens_in, sides_of, has_side, statement_count, branch_count}
use Rattle.module_dsl.specs.Progress.{one_where, reach_in, reach, so_far, AreBranches, IsOuter, IsProper, IsProgress, IsMoved, IsAsBefore, clipped, first_of}
use Rattle.module_dsl.proofs.GivenLaws.{has_side-append}
use Rattle.module_dsl.proofs.BlockLaws.{givens-ended, count-ended, count-and_branch}
use Rattle.module_dsl.proofs.ProgressLaws.{fits_all, around_givens, givens-whole, givens_in-with, reach_same, reach_full, reach_most, count_same}
use Rattle.module_dsl.proofs.ProgressSteps.{proper_branches, chain_branches, reach-clipped, map_agree, map_map}

-- a step that gives no statement
record IsTurn (reaches : SideSoFar → SideSoFar) (b b' : Blocks) : Type 0 where
  proper : IsProper b'
  far : (t : Side) → reaches (so_far b t) ≡ so_far b' t
  given : givens (entries_of b') ≡ givens (entries_of b)
  count : statement_count (entries_of b') ≡ statement_count (entries_of b)

turned : (reaches : SideSoFar → SideSoFar) (b b' : Blocks) (open_now : List OpenBlock) (goes_on : Bool) (p p' : Progress) → IsTurn reaches b b' → IsProgress b p → IsMoved reaches open_now goes_on p p'
    → open_now ≡ map (λ (o : Open). o.block) b'.around → goes_on ≡ not (is_none b'.chain) → IsProgress b' p'
turned reaches b b' open_now goes_on p p' t h m blocks chain = record {
  proper = t.proper;
  sides =
      m.sides ∙ ap (map reaches) h.sides ∙ map_map reaches (so_far b) (sides_of (givens (entries_of b))) ∙ map_agree (λ s. reaches (so_far b s)) (so_far b') t.far (sides_of (givens (entries_of b)))
      ∙ ap (λ gs. map (so_far b') (sides_of gs)) (sym t.given);
  open_blocks = m.open_blocks ∙ blocks;
  goes_on = m.goes_on_is ∙ chain;
  statements = m.statements ∙ h.statements ∙ sym t.count;
}

-- ---- a block begins, in a choice that has these branches so far

module _ (around : List Open) (before : Entries) (bs : Branches) (x : OpenBlock) (outer : AreBranches around) where
  abbrev level : Entries
  level = ended before (with_content x bs nothing)

  in_level : givens_in (with_content x bs nothing) ≡ givens_in bs
  in_level = givens_in-with x bs nothing (λ e. refl) ∙ append-nil (givens_in bs)

  level_givens : givens (ended before (with_content x bs nothing)) ≡ givens (ended before bs)
  level_givens = givens-ended before (with_content x bs nothing) ∙ ap (λ gs. givens before ++ gs) in_level ∙ sym (givens-ended before bs)

  inside_count : (x : OpenBlock) → branch_count (with_content x bs nothing) ≡ branch_count bs
  inside_count (block.Branch c) = omega (arith, count-and_branch bs c nothing)
  inside_count (block.Last c) = omega (arith, count-and_branch bs c nothing)
  inside_count (block.Switch v) = refl
  inside_count (block.Case v c) = omega (arith, count-and_branch bs c nothing)

  level_count : statement_count (ended before (with_content x bs nothing)) ≡ statement_count (ended before bs)
  level_count = omega (arith, count-ended before (with_content x bs nothing), count-ended before bs, inside_count x, ap (λ gs. length (sides_of gs)) in_level)

  opened-givens : givens (entries_of (opened before bs x around)) ≡ givens (whole around (ended before bs))
  opened-givens =
      givens-whole around (ended before (with_content x bs nothing)) (fits_all around (ended before (with_content x bs nothing)) outer) ∙ ap (λ gs. around_givens around ++ gs) level_givens
      ∙ sym (givens-whole around (ended before bs) (fits_all around (ended before bs) outer))

  opened-count : statement_count (entries_of (opened before bs x around)) ≡ statement_count (whole around (ended before bs))
  opened-count =
      count_same around (ended before bs) (ended before (with_content x bs nothing)) (fits_all around (ended before bs) outer) (fits_all around (ended before (with_content x bs nothing)) outer) level_givens level_count

  opened-reach : (t : Side) → reach (opened before bs x around) t ≡ one_where (has_side t (givens_in bs)) + reach_in t around (ended before bs)
  opened-reach t =
      let rest = reach_same t around (ended before (with_content x bs nothing)) (ended before bs) (fits_all around (ended before (with_content x bs nothing)) outer) (fits_all around (ended before bs) outer) (ap (has_side t) level_givens) in
      omega (arith, ap (λ gs. one_where (has_side t gs)) in_level, rest)

  opened-proper : IsProper (opened before bs x around)
  opened-proper = record { outer = outer; bare = λ e. (refl, refl) }

same_far : (t : Side) (m n : ℕ) → m ≡ n → ◌≡◌ {A = SideSoFar} (record { side = t; reach = m }) (record { side = t; reach = n })
same_far t m n e = ap (λ k. record { side = t; reach = k }) e

-- ---- what is outer

outer_of : (around : List Open) → AreBranches around → IsOuter around
outer_of [] h = tt
outer_of (o ∷ around) h = h.1

outermost : (around : List Open) → AreBranches around → in_switch around ≡ false
outermost [] h = refl
outermost (o ∷ around) h = h.0

-- a choice that ends: a side that stood in it stands in all round it
out_of : (o : Open) (around : List Open) (es : Entries) (t : Side) (n : ℕ) → AreBranches around → min n (suc (length around)) ≡ reach_in t (o ∷ around) es
    → min n (length around) ≡ 0 + reach_in t around (ended (ended o.before (branches_with o es)) none)
out_of o around es t n outer e = split (has_side t (givens_in (branches_with o es))) refl e
  where
    inner : Entries
    inner = ended o.before (branches_with o es)

    or_right : (a b : Bool) → b ≡ true → (a || b) ≡ true
    or_right true b e = refl
    or_right false b e = e

    split : (s : Bool) → has_side t (givens_in (branches_with o es)) ≡ s → min n (suc (length around)) ≡ one_where (has_side t (givens_in (branches_with o es))) + reach_in t around (ended o.before (branches_with o es))
        → min n (length around) ≡ 0 + reach_in t around (ended o.before (branches_with o es))
    split true i k =
        let stands : has_side t (givens (ended o.before (branches_with o es))) ≡ true =
        ap (has_side t) (givens-ended o.before (branches_with o es)) ∙ has_side-append t (givens o.before) (givens_in (branches_with o es)) ∙ or_right (has_side t (givens o.before)) (has_side t (givens_in (branches_with o es))) i in
        omega (arith, reach_full t around (ended o.before (branches_with o es)) outer stands, k, ap one_where i)
    split false i k = omega (arith, reach_most t around (ended o.before (branches_with o es)), k, ap one_where i)

-- the choice of this block ends with it
abbrev pub is_end : OpenBlock → Bool
is_end (block.Branch c) = false
is_end (block.Last c) = true
is_end (block.Switch v) = true
is_end (block.Case v c) = false

-- ---- `If` and `Switch`

begin_turn : (b : Blocks) (x : OpenBlock) → IsProper b → in_switch b.around ≡ false → IsTurn (clipped (length b.around)) b (opened (content b) none x b.around)
begin_turn b x h i =
    let outer = proper_branches b h i in
    record {
      proper = opened-proper b.around (content b) none x outer;
      far = λ t. same_far t (min (reach b t) (length b.around)) (reach (opened (content b) none x b.around) t) (omega (arith, reach-clipped b t h, opened-reach b.around (content b) none x outer t));
      given = opened-givens b.around (content b) none x outer;
      count = opened-count b.around (content b) none x outer;
    }

blocks_length : (b : Blocks) (p : Progress) → IsProgress b p → length p.blocks.items ≡ length b.around
blocks_length b p h = ap length h.open_blocks ∙ length-map b.around (λ (o : Open). o.block)

pub begun-is : (b : Blocks) (x : OpenBlock) (p p' : Progress) → IsProgress b p → in_switch b.around ≡ false → IsMoved (clipped (length p.blocks.items)) (x ∷ p.blocks.items) false p p' → IsProgress (opened (content b) none x b.around) p'
begun-is b x p p' h i m =
    turned (clipped (length b.around)) b (opened (content b) none x b.around) (x ∷ p.blocks.items) false p p' (begin_turn b x h.proper i) h (subst (λ n. IsMoved (clipped n) (x ∷ p.blocks.items) false p p') (blocks_length b p h) m)
    (ap (λ xs. x ∷ xs) h.open_blocks) refl

-- ---- `Elif` and `Else`

pub gone_on-is : (b : Blocks) (x : OpenBlock) (p p' : Progress) → IsProgress b p → is_none b.chain ≡ false → IsMoved (λ y. y) (x ∷ p.blocks.items) false p p' → IsProgress (opened b.entries b.chain x b.around) p'
gone_on-is b x p p' h i m =
    let outer = chain_branches b h.proper i in
    turned (λ y. y) b (opened b.entries b.chain x b.around) (x ∷ p.blocks.items) false p p'
    record {
      proper = opened-proper b.around b.entries b.chain x outer;
      far = λ t. same_far t (reach b t) (reach (opened b.entries b.chain x b.around) t) (sym (opened-reach b.around b.entries b.chain x outer t));
      given = opened-givens b.around b.entries b.chain x outer;
      count = opened-count b.around b.entries b.chain x outer;
    }
    h m (ap (λ xs. x ∷ xs) h.open_blocks) refl

-- ---- a case

case_begun : (c : ExprId) (es : Entries) (bs : Branches) (around : List Open) (p p' : Progress) → IsProgress (record { entries = es; chain = bs; around = around }) p → (v : ExprId) → first_of p.blocks.items ≡ Some (block.Switch v)
    → IsMoved (λ y. y) (slice_set p.blocks.items 0 (block.Case v c)) false p p' → IsProgress (case_opened c around (record { entries = es; chain = bs; around = around })) p'
case_begun c es bs [] p p' h v first m = let none_first : first_of p.blocks.items ≡ None = ap first_of h.open_blocks in cc
case_begun c es bs (o ∷ around) p p' h v first m =
    begun o.before o.branches o.block (sym first ∙ ap first_of h.open_blocks) h
  where
    begun : (before : Entries) (others : Branches) (x : OpenBlock) → ◌≡◌ {A = Option OpenBlock} (Some (block.Switch v)) (Some x) → IsProgress (record { entries = es; chain = bs; around = record { before = before; branches = others; block = x } ∷ around }) p
        → IsProgress (case_opened c (record { before = before; branches = others; block = x } ∷ around) (record { entries = es; chain = bs; around = record { before = before; branches = others; block = x } ∷ around })) p'
    begun before others (block.Branch d) e k = cc
    begun before others (block.Last d) e k = cc
    begun before others (block.Case w d) e k = cc
    begun before others (block.Switch w) e k =
        let same : v ≡ w = cc in
        let b : Blocks = record { entries = es; chain = bs; around = record { before = before; branches = others; block = block.Switch w } ∷ around } in
        let bare = k.proper.bare refl in
        let set : slice_set p.blocks.items 0 (block.Case v c) ≡ block.Case w c ∷ map (λ (o : Open). o.block) around = ap (λ xs. slice_set xs 0 (block.Case v c)) k.open_blocks ∙ ap (λ u. block.Case u c ∷ map (λ (o : Open). o.block) around) same in
        turned (λ y. y) b (opened before others (block.Case w c) around) (slice_set p.blocks.items 0 (block.Case v c)) false p p'
        record {
          proper = opened-proper around before others (block.Case w c) k.proper.outer;
          far = λ t. same_far t (reach b t) (reach (opened before others (block.Case w c) around) t) (rw (bare.1) (omega (arith, opened-reach around before others (block.Case w c) k.proper.outer t)));
          given = opened-givens around before others (block.Case w c) k.proper.outer;
          count = opened-count around before others (block.Case w c) k.proper.outer;
        }
        k m set refl

pub case_begun-is : (c : ExprId) (b : Blocks) (p p' : Progress) (v : ExprId) → IsProgress b p → first_of p.blocks.items ≡ Some (block.Switch v) → IsMoved (λ y. y) (slice_set p.blocks.items 0 (block.Case v c)) false p p' → IsProgress (entered (opening.Case c) b) p'
case_begun-is c b p p' v h first m = case_begun c b.entries b.chain b.around p p' h v first m

-- ---- a block ends

-- a chain whose block ended may go on
left_chain : (es : Entries) (bs : Branches) (around : List Open) (p p' : Progress) → IsProgress (record { entries = es; chain = bs; around = around }) p → (c : ExprId) → first_of p.blocks.items ≡ Some (block.Branch c)
    → IsMoved (clipped (length (drop 1 p.blocks.items) + 1)) (drop 1 p.blocks.items) true p p' → IsProgress (left_in around (ended es bs) (record { entries = es; chain = bs; around = around })) p'
left_chain es bs [] p p' h c first m = let none_first : first_of p.blocks.items ≡ None = ap first_of h.open_blocks in cc
left_chain es bs (o ∷ around) p p' h c first m = by_block o.before o.branches o.block (sym first ∙ ap first_of h.open_blocks) h
  where
    rest_is : length (drop 1 p.blocks.items) + 1 ≡ suc (length around)
    rest_is = omega (arith, ap (λ xs. length (drop 1 xs)) h.open_blocks, length-map around (λ (o : Open). o.block))

    is_some : (rest : Branches) (d : ExprId) (inner : Entries) → true ≡ not (is_none (and_branch rest d inner))
    is_some none d inner = refl
    is_some (branch e other rest) d inner = refl

    by_block : (before : Entries) (others : Branches) (x : OpenBlock) → ◌≡◌ {A = Option OpenBlock} (Some (block.Branch c)) (Some x) → IsProgress (record { entries = es; chain = bs; around = record { before = before; branches = others; block = x } ∷ around }) p
        → IsProgress (left_in (record { before = before; branches = others; block = x } ∷ around) (ended es bs) (record { entries = es; chain = bs; around = record { before = before; branches = others; block = x } ∷ around })) p'
    by_block before others (block.Last d) e k = cc
    by_block before others (block.Switch w) e k = cc
    by_block before others (block.Case w d) e k = cc
    by_block before others (block.Branch d) e k =
        let b : Blocks = record { entries = es; chain = bs; around = record { before = before; branches = others; block = block.Branch d } ∷ around } in
        let b' : Blocks = record { entries = before; chain = and_branch others d (ended es bs); around = around } in
        turned (clipped (suc (length around))) b b' (drop 1 p.blocks.items) true p p'
        record {
          proper = record { outer = outer_of around k.proper.outer; bare = λ i. absurd (false≢true (sym (outermost around k.proper.outer) ∙ i)) };
          far = λ t. same_far t (min (reach b t) (suc (length around))) (reach b' t) (reach-clipped b t k.proper);
          given = refl;
          count = refl;
        }
        k (subst (λ n. IsMoved (clipped n) (drop 1 p.blocks.items) true p p') rest_is m) (ap (drop 1) k.open_blocks) (is_some others d (ended es bs))

-- a choice ends with its block
left_choice : (es : Entries) (bs : Branches) (around : List Open) (p p' : Progress) → IsProgress (record { entries = es; chain = bs; around = around }) p → (x : OpenBlock) → is_end x ≡ true → first_of p.blocks.items ≡ Some x
    → IsMoved (clipped (length (drop 1 p.blocks.items) + 0)) (drop 1 p.blocks.items) false p p' → IsProgress (left_in around (ended es bs) (record { entries = es; chain = bs; around = around })) p'
left_choice es bs [] p p' h x end first m = let none_first : first_of p.blocks.items ≡ None = ap first_of h.open_blocks in cc
left_choice es bs (o ∷ around) p p' h x end first m = by_block o.before o.branches o.block (sym first ∙ ap first_of h.open_blocks) h
  where
    rest_is : length (drop 1 p.blocks.items) + 0 ≡ length around
    rest_is = omega (arith, ap (λ xs. length (drop 1 xs)) h.open_blocks, length-map around (λ (o : Open). o.block))

    ends : (before : Entries) (others : Branches) (y : OpenBlock) → IsProgress (record { entries = es; chain = bs; around = record { before = before; branches = others; block = y } ∷ around }) p
        → IsProgress (record { entries = ended before (with_content y others (ended es bs)); chain = none; around = around }) p'
    ends before others y k =
        let o : Open = record { before = before; branches = others; block = y } in
        let b : Blocks = record { entries = es; chain = bs; around = o ∷ around } in
        let b' : Blocks = record { entries = ended before (with_content y others (ended es bs)); chain = none; around = around } in
        turned (clipped (length around)) b b' (drop 1 p.blocks.items) false p p'
        record {
          proper = record { outer = outer_of around k.proper.outer; bare = λ i. absurd (false≢true (sym (outermost around k.proper.outer) ∙ i)) };
          far = λ t. same_far t (min (reach b t) (length around)) (reach b' t) (out_of o around (ended es bs) t (reach b t) k.proper.outer (reach-clipped b t k.proper));
          given = refl;
          count = refl;
        }
        k (subst (λ n. IsMoved (clipped n) (drop 1 p.blocks.items) false p p') rest_is m) (ap (drop 1) k.open_blocks) refl

    by_block : (before : Entries) (others : Branches) (y : OpenBlock) → ◌≡◌ {A = Option OpenBlock} (Some x) (Some y) → IsProgress (record { entries = es; chain = bs; around = record { before = before; branches = others; block = y } ∷ around }) p
        → IsProgress (left_in (record { before = before; branches = others; block = y } ∷ around) (ended es bs) (record { entries = es; chain = bs; around = record { before = before; branches = others; block = y } ∷ around })) p'
    by_block before others (block.Branch d) e k = let same : x ≡ block.Branch d = cc in absurd (false≢true (ap is_end (sym same) ∙ end))
    by_block before others (block.Last d) e k = ends before others (block.Last d) k
    by_block before others (block.Switch w) e k = ends before others (block.Switch w) k
    by_block before others (block.Case w d) e k = let same : x ≡ block.Case w d = cc in absurd (false≢true (ap is_end (sym same) ∙ end))

-- a case ends, and its `Switch` goes on
left_case : (es : Entries) (bs : Branches) (around : List Open) (p p' : Progress) → IsProgress (record { entries = es; chain = bs; around = around }) p → (v c : ExprId) → first_of p.blocks.items ≡ Some (block.Case v c)
    → IsMoved (clipped (length p.blocks.items)) (slice_set p.blocks.items 0 (block.Switch v)) false p p' → IsProgress (left_in around (ended es bs) (record { entries = es; chain = bs; around = around })) p'
left_case es bs [] p p' h v c first m = let none_first : first_of p.blocks.items ≡ None = ap first_of h.open_blocks in cc
left_case es bs (o ∷ around) p p' h v c first m = by_block o.before o.branches o.block (sym first ∙ ap first_of h.open_blocks) h
  where
    length_is : length p.blocks.items ≡ suc (length around)
    length_is = ap length h.open_blocks ∙ ap suc (length-map around (λ (o : Open). o.block))

    by_block : (before : Entries) (others : Branches) (x : OpenBlock) → ◌≡◌ {A = Option OpenBlock} (Some (block.Case v c)) (Some x) → IsProgress (record { entries = es; chain = bs; around = record { before = before; branches = others; block = x } ∷ around }) p
        → IsProgress (left_in (record { before = before; branches = others; block = x } ∷ around) (ended es bs) (record { entries = es; chain = bs; around = record { before = before; branches = others; block = x } ∷ around })) p'
    by_block before others (block.Branch d) e k = cc
    by_block before others (block.Last d) e k = cc
    by_block before others (block.Switch w) e k = cc
    by_block before others (block.Case w d) e k =
        let same : v ≡ w = cc in
        let b : Blocks = record { entries = es; chain = bs; around = record { before = before; branches = others; block = block.Case w d } ∷ around } in
        let now : Branches = and_branch others d (ended es bs) in
        let set : slice_set p.blocks.items 0 (block.Switch v) ≡ block.Switch w ∷ map (λ (o : Open). o.block) around = ap (λ xs. slice_set xs 0 (block.Switch v)) k.open_blocks ∙ ap (λ u. block.Switch u ∷ map (λ (o : Open). o.block) around) same in
        turned (clipped (suc (length around))) b (opened before now (block.Switch w) around) (slice_set p.blocks.items 0 (block.Switch v)) false p p'
        record {
          proper = opened-proper around before now (block.Switch w) k.proper.outer;
          far = λ t. same_far t (min (reach b t) (suc (length around))) (reach (opened before now (block.Switch w) around) t) (reach-clipped b t k.proper ∙ sym (opened-reach around before now (block.Switch w) k.proper.outer t));
          given = refl;
          count = refl;
        }
        k (subst (λ n. IsMoved (clipped n) (slice_set p.blocks.items 0 (block.Switch v)) false p p') length_is m) set refl

pub left_chain-is : (b : Blocks) (p p' : Progress) (c : ExprId) → IsProgress b p → first_of p.blocks.items ≡ Some (block.Branch c) → IsMoved (clipped (length (drop 1 p.blocks.items) + 1)) (drop 1 p.blocks.items) true p p' → IsProgress (left b) p'
left_chain-is b p p' c h first m = left_chain b.entries b.chain b.around p p' h c first m

pub left_choice-is : (b : Blocks) (p p' : Progress) (x : OpenBlock) → is_end x ≡ true → IsProgress b p → first_of p.blocks.items ≡ Some x → IsMoved (clipped (length (drop 1 p.blocks.items) + 0)) (drop 1 p.blocks.items) false p p' → IsProgress (left b) p'
left_choice-is b p p' x end h first m = left_choice b.entries b.chain b.around p p' h x end first m

pub left_case-is : (b : Blocks) (p p' : Progress) (v c : ExprId) → IsProgress b p → first_of p.blocks.items ≡ Some (block.Case v c) → IsMoved (clipped (length p.blocks.items)) (slice_set p.blocks.items 0 (block.Switch v)) false p p' → IsProgress (left b) p'
left_case-is b p p' v c h first m = left_case b.entries b.chain b.around p p' h v c first m

pub left_nothing : (b : Blocks) (p : Progress) → IsProgress b p → first_of p.blocks.items ≡ None → left b ≡ b
left_nothing b p h first = split b.around (sym first ∙ ap first_of h.open_blocks)
  where
    split : (around : List Open) → None ≡ first_of (map (λ (o : Open). o.block) around) → left_in around (content b) b ≡ b
    split [] e = refl
    split (o ∷ around) e = cc

-- ---- what is as before

pub as_before-is : (b : Blocks) (p p' : Progress) → IsAsBefore p p' → IsProgress b p → IsProgress b p'
as_before-is b p p' k h = record { proper = h.proper; sides = k.sides ∙ h.sides; open_blocks = k.open_blocks ∙ h.open_blocks; goes_on = k.goes_on_is ∙ h.goes_on; statements = k.statements ∙ h.statements }

pub not_false : (a : Bool) → not a ≡ true → a ≡ false
not_false true e = absurd (false≢true e)
not_false false e = refl

-- the innermost block, where it is a `Switch`
pub record IsSubject (p : Progress) : Type 0 where
  pub subject : ExprId
  pub first : first_of p.blocks.items ≡ Some (block.Switch subject)

pub switch_first : (b : Blocks) (p : Progress) → IsProgress b p → in_switch b.around ≡ true → IsSubject p
switch_first b p h i = by_around b.around (ap first_of h.open_blocks) i
  where
    by_block : (x : OpenBlock) → first_of p.blocks.items ≡ Some x → is_switch x ≡ true → IsSubject p
    by_block (block.Branch c) e k = absurd (false≢true k)
    by_block (block.Last c) e k = absurd (false≢true k)
    by_block (block.Switch v) e k = record { subject = v; first = e }
    by_block (block.Case v c) e k = absurd (false≢true k)

    by_around : (around : List Open) → first_of p.blocks.items ≡ first_of (map (λ (o : Open). o.block) around) → in_switch around ≡ true → IsSubject p
    by_around [] e k = absurd (false≢true k)
    by_around (o ∷ around) e k = by_block o.block e k
