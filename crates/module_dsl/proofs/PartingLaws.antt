-- The statements of one side, taken out step by step, are those that stand in the blocks.
use Rattle.std.proofs.Common.{◌≡◌, Bool, true, false, ◌||◌, if◌then◌else◌, List, [], ◌∷◌, map, refl, sym, ap, ◌∙◌}
use Rattle.std.specs.Prelude.{fold}
use Rattle.design_ir.specs.declared.ids.ExprId.{ExprId}
use Rattle.design_ir.specs.declared.process.Side.{Side}
use Rattle.design_ir.specs.Trees as tree
use Rattle.design_ir.specs.Trees.{Statement, assign, choose, Choices, arm, choices_and, Block, done, next, block_and}
use Rattle.module_dsl.specs.declared.parting.Frame.{Frame}
use Rattle.module_dsl.specs.declared.step.Step.{Step}
use Rattle.module_dsl.specs.declared.step.Step.TheVariants.{Assign, Enter, Leave}
use Rattle.module_dsl.specs.declared.step.Opening.{Opening}
use Rattle.module_dsl.specs.declared.step.Opening.TheVariants as opening
use Rattle.module_dsl.specs.declared.step.OpenBlock.{OpenBlock}
use Rattle.module_dsl.specs.declared.step.OpenBlock.TheVariants as block
use Rattle.module_dsl.specs.Blocks.{Given, Entries, nothing, given, choice, Branches, none, branch, joined, and_branch, ended, Open, Blocks, with_content, content, entered, left, left_in, left_from, case_in, case_opened, after, begun, blocks_of}
use Rattle.module_dsl.specs.Sided.{same_side, givens, givens_in, has_side, block_for, choices_for}
use Rattle.module_dsl.specs.Parting.{Parted, is_left, with_choice, arms_with, part_content, part_entered, part_case_in, part_case_opened, part_left, part_left_in, part_left_from, part_given, part_closed, part_after, parts_from, part_of}
use Rattle.module_dsl.proofs.GivenLaws.{has_side-append}

-- some statement stands here
abbrev pub is_some : Block → Bool
is_some done = false
is_some (next s rest) = true

pub is_left-arm : (c : ExprId) (b : Block) (others : Choices) → is_left (arm c b others) ≡ (is_some b || is_left others)
is_left-arm c done others = refl
is_left-arm c (next s rest) others = refl

mutual
  -- statements of a side are left exactly where some stand
  pub block_left : (side : Side) (es : Entries) → is_some (block_for side es) ≡ has_side side (givens es)
  block_left side nothing = refl
  block_left side (given g rest) = split (block_left side rest) (same_side side g.side)
    where
      split : is_some (block_for side rest) ≡ has_side side (givens rest) → (t : Bool) → is_some (if t then next g.statement (block_for side rest) else block_for side rest) ≡ (t || has_side side (givens rest))
      split more true = refl
      split more false = more
  block_left side (choice bs rest) = split (block_left side rest) (has_side side (givens_in bs)) ∙ sym (has_side-append side (givens_in bs) (givens rest))
    where
      split : is_some (block_for side rest) ≡ has_side side (givens rest) → (t : Bool) → is_some (if t then next (choose (choices_for side bs)) (block_for side rest) else block_for side rest) ≡ (t || has_side side (givens rest))
      split more true = refl
      split more false = more

  pub choices_left : (side : Side) (bs : Branches) → is_left (choices_for side bs) ≡ has_side side (givens_in bs)
  choices_left side none = refl
  choices_left side (branch c es bs) =
      is_left-arm c (block_for side es) (choices_for side bs) ∙ ap (λ t. t || is_left (choices_for side bs)) (block_left side es) ∙ ap (λ t. has_side side (givens es) || t) (choices_left side bs)
      ∙ sym (has_side-append side (givens es) (givens_in bs))

-- ---- one entry more

block_and-where : (t : Bool) (s r : Statement) (b : Block) → block_and (if t then next s b else b) r ≡ (if t then next s (block_and b r) else block_and b r)
block_and-where true s r b = refl
block_and-where false s r b = refl

-- a statement more of this side, or none
abbrev more : Bool → Block → Statement → Block
more t b s = if t then block_and b s else b

more-next : (t u : Bool) (s r : Statement) (b : Block) → (if u then next s (more t b r) else more t b r) ≡ more t (if u then next s b else b) r
more-next true true s r b = refl
more-next true false s r b = refl
more-next false true s r b = refl
more-next false false s r b = refl

pub block_for-given : (side : Side) (es : Entries) (g : Given) → block_for side (joined es (given g nothing)) ≡ more (same_side side g.side) (block_for side es) g.statement
block_for-given side nothing g = split (same_side side g.side)
  where
    split : (t : Bool) → (if t then next g.statement done else done) ≡ more t done g.statement
    split true = refl
    split false = refl
block_for-given side (given x rest) g =
    ap (λ b. if same_side side x.side then next x.statement b else b) (block_for-given side rest g) ∙ more-next (same_side side g.side) (same_side side x.side) x.statement g.statement (block_for side rest)
block_for-given side (choice bs rest) g =
    ap (λ b. if has_side side (givens_in bs) then next (choose (choices_for side bs)) b else b) (block_for-given side rest g)
    ∙ more-next (same_side side g.side) (has_side side (givens_in bs)) (choose (choices_for side bs)) g.statement (block_for side rest)

block_for-choice : (side : Side) (es : Entries) (bs : Branches) → block_for side (joined es (choice bs nothing)) ≡ more (has_side side (givens_in bs)) (block_for side es) (choose (choices_for side bs))
block_for-choice side nothing bs = split (has_side side (givens_in bs))
  where
    split : (t : Bool) → (if t then next (choose (choices_for side bs)) done else done) ≡ more t done (choose (choices_for side bs))
    split true = refl
    split false = refl
block_for-choice side (given x rest) bs =
    ap (λ b. if same_side side x.side then next x.statement b else b) (block_for-choice side rest bs) ∙ more-next (has_side side (givens_in bs)) (same_side side x.side) x.statement (choose (choices_for side bs)) (block_for side rest)
block_for-choice side (choice cs rest) bs =
    ap (λ b. if has_side side (givens_in cs) then next (choose (choices_for side cs)) b else b) (block_for-choice side rest bs)
    ∙ more-next (has_side side (givens_in bs)) (has_side side (givens_in cs)) (choose (choices_for side cs)) (choose (choices_for side bs)) (block_for side rest)

pub block_for-ended : (side : Side) (es : Entries) (bs : Branches) → block_for side (ended es bs) ≡ with_choice (block_for side es) (choices_for side bs)
block_for-ended side es none = refl
block_for-ended side es (branch c body bs) =
    block_for-choice side es (branch c body bs) ∙ ap (λ t. more t (block_for side es) (choose (choices_for side (branch c body bs)))) (sym (choices_left side (branch c body bs)))

pub choices_for-and : (side : Side) (bs : Branches) (c : ExprId) (es : Entries) → choices_for side (and_branch bs c es) ≡ choices_and (choices_for side bs) c (block_for side es)
choices_for-and side none c es = refl
choices_for-and side (branch d other bs) c es = ap (arm d (block_for side other)) (choices_for-and side bs c es)

pub choices_for-with : (side : Side) (x : OpenBlock) (bs : Branches) (es : Entries) → choices_for side (with_content x bs es) ≡ arms_with x (choices_for side bs) (block_for side es)
choices_for-with side (block.Branch c) bs es = choices_for-and side bs c es
choices_for-with side (block.Last c) bs es = choices_for-and side bs c es
choices_for-with side (block.Switch v) bs es = refl
choices_for-with side (block.Case v c) bs es = choices_for-and side bs c es

-- ---- the blocks of one side

abbrev frame_for : Side → Open → Frame
frame_for side o = record { before = block_for side o.before; arms = choices_for side o.branches; block = o.block }

abbrev parts_for : Side → Blocks → Parted
parts_for side b = record { body = block_for side b.entries; chain = choices_for side b.chain; around = map (frame_for side) b.around }

content_for : (side : Side) (b : Blocks) → block_for side (content b) ≡ part_content (parts_for side b)
content_for side b = block_for-ended side b.entries b.chain

entered_for : (side : Side) (o : Opening) (b : Blocks) → parts_for side (entered o b) ≡ part_entered o (parts_for side b)
entered_for side (opening.If c) b = ap (λ x. record { body = done; chain = tree.none; around = record { before = x; arms = tree.none; block = block.Branch c } ∷ map (frame_for side) b.around }) (content_for side b)
entered_for side (opening.Elif c) b = refl
entered_for side (opening.Else c) b = refl
entered_for side (opening.Switch v) b = ap (λ x. record { body = done; chain = tree.none; around = record { before = x; arms = tree.none; block = block.Switch v } ∷ map (frame_for side) b.around }) (content_for side b)
entered_for side (opening.Case c) b = by_around b.around
  where
    by_block : (x : OpenBlock) (o : Open) (around : List Open) → parts_for side (case_in c x o around b) ≡ part_case_in c x (frame_for side o) (map (frame_for side) around) (parts_for side b)
    by_block (block.Branch d) o around = refl
    by_block (block.Last d) o around = refl
    by_block (block.Switch v) o around = refl
    by_block (block.Case v d) o around = refl

    by_around : (around : List Open) → parts_for side (case_opened c around b) ≡ part_case_opened c (map (frame_for side) around) (parts_for side b)
    by_around [] = refl
    by_around (o ∷ around) = by_block o.block o around

left_for : (side : Side) (b : Blocks) → parts_for side (left b) ≡ part_left (parts_for side b)
left_for side b = by_around b.around
  where
    by_block : (x : OpenBlock) (before : Entries) (bs : Branches) (around : List Open) → parts_for side (left_from x before bs around) ≡ part_left_from x (block_for side before) (choices_for side bs) (map (frame_for side) around)
    by_block (block.Branch c) before bs around = refl
    by_block (block.Last c) before bs around = ap (λ x. record { body = x; chain = tree.none; around = map (frame_for side) around }) (block_for-ended side before bs)
    by_block (block.Switch v) before bs around = ap (λ x. record { body = x; chain = tree.none; around = map (frame_for side) around }) (block_for-ended side before bs)
    by_block (block.Case v c) before bs around = refl

    by_around : (around : List Open) → parts_for side (left_in around (content b) b) ≡ part_left_in (map (frame_for side) around) (part_content (parts_for side b)) (parts_for side b)
    by_around [] = refl
    by_around (o ∷ around) =
        by_block o.block o.before (with_content o.block o.branches (content b)) around
        ∙ ap (λ arms. part_left_from o.block (block_for side o.before) arms (map (frame_for side) around))
        (choices_for-with side o.block o.branches (content b) ∙ ap (arms_with o.block (choices_for side o.branches)) (content_for side b))

after_for : (side : Side) (b : Blocks) (x : Step) → parts_for side (after b x) ≡ part_after side (parts_for side b) x
after_for side b (Assign other target value place) =
    ap (λ y. record { body = y; chain = tree.none; around = map (frame_for side) b.around }) (block_for-given side (content b) (record { side = other; statement = assign target value place }) ∙ ap (λ y. more (same_side side other) y (assign target value place)) (content_for side b))
    ∙ split (same_side side other)
  where
    split : (t : Bool) → record { body = more t (part_content (parts_for side b)) (assign target value place); chain = tree.none; around = map (frame_for side) b.around }
        ≡ (if t then part_given (assign target value place) (parts_for side b) else part_closed (parts_for side b))
    split true = refl
    split false = refl
after_for side b (Enter o) = entered_for side o b
after_for side b Leave = left_for side b

all_after : (side : Side) (b : Blocks) (steps : List Step) → parts_for side (fold after b steps) ≡ fold (part_after side) (parts_for side b) steps
all_after side b [] = refl
all_after side b (x ∷ steps) = all_after side (after b x) steps ∙ ap (λ p. fold (part_after side) p steps) (after_for side b x)

pub part_of-is : (side : Side) (steps : List Step) → part_of side steps ≡ block_for side (content (blocks_of steps))
unfolding blocks_of parts_from
part_of-is side steps = sym (content_for side (fold after begun steps) ∙ ap part_content (all_after side begun steps))
