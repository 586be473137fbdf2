-- What a module was told stands in its blocks, and so in the statements of each side.
use Rattle.std.specs.Prelude.{◌≡◌, ◌<◌, ⊤, Bool, true, false, IsTrue, if◌then◌else◌, List, [], ◌∷◌, ◌++◌, length, fold}
use Rattle.std.specs.List.{AllByRecursion}
use Rattle.std.proofs.lemmas.Bool.{false≢true}
use Rattle.design_ir.specs.declared.ids.ExprId.{ExprId}
use Rattle.design_ir.specs.declared.process.Side.{Side}
use Rattle.design_ir.specs.Pools.{Pooled}
use Rattle.design_ir.specs.Trees.{Statement, assign, choose, next}
use Rattle.design_ir.specs.Guards.{Guard, Guarded, guarded, guarded_in, guarded_arms, block_exprs, choices_exprs, statement_exprs}
use Rattle.design_ir.specs.Targets.{is_open_target}
use Rattle.module_dsl.specs.declared.step.Step.{Step}
use Rattle.module_dsl.specs.declared.step.Step.TheVariants.{Assign, Enter, Leave}
use Rattle.module_dsl.specs.declared.step.Opening.{Opening}
use Rattle.module_dsl.specs.declared.step.Opening.TheVariants as opening
use Rattle.module_dsl.specs.declared.step.OpenBlock.{OpenBlock}
use Rattle.module_dsl.specs.declared.step.OpenBlock.TheVariants as inside
use Rattle.module_dsl.specs.Blocks.{Given, Entries, nothing, given, choice, Branches, none, branch, joined, and_branch, ended, Open, Blocks, content, with_content, branches_with, whole, entries_of, opened, case_in, case_opened, entered, left_in, left_from, after, begun, blocks_of, in_switch, is_switch}
use Rattle.module_dsl.specs.Sided.{same_side, givens, givens_in, has_side, block_for, choices_for}
use Rattle.module_dsl.specs.Builders.{subject_in, subject_of}
use Rattle.clock_domains.specs.Resolvable.{IsNamedSide}
use Rattle.elab_store.specs.Sound.{IsAssigned, IsOpening, IsTold}

-- a statement is an assignment that stands
abbrev pub IsStatement : Pooled → Statement → Type 0
IsStatement q (assign t v p) = IsAssigned q t v
IsStatement q (choose arms) = ⊥

pub record IsGiven (q : Pooled) (g : Given) : Type 0 where
  pub side : IsNamedSide g.side
  pub statement : IsStatement q g.statement

abbrev mutual
  pub Stand : Pooled → Entries → Type 0
  Stand q nothing = ⊤
  Stand q (given g rest) = IsGiven q g × Stand q rest
  Stand q (choice bs rest) = StandIn q bs × Stand q rest

  pub StandIn : Pooled → Branches → Type 0
  StandIn q none = ⊤
  StandIn q (branch c es bs) = (c.0 < length q.exprs) × Stand q es × StandIn q bs

abbrev pub IsInside : Pooled → OpenBlock → Type 0
IsInside q (inside.Branch c) = c.0 < length q.exprs
IsInside q (inside.Last c) = c.0 < length q.exprs
IsInside q (inside.Switch v) = v.0 < length q.exprs
IsInside q (inside.Case v c) = (v.0 < length q.exprs) × (c.0 < length q.exprs)

pub record IsOpen (q : Pooled) (o : Open) : Type 0 where
  pub before : Stand q o.before
  pub branches : StandIn q o.branches
  pub block : IsInside q o.block

pub record AreBlocks (q : Pooled) (b : Blocks) : Type 0 where
  pub entries : Stand q b.entries
  pub chain : StandIn q b.chain
  pub around : AllByRecursion (IsOpen q) b.around

module _ (q : Pooled) where
  joined_stand : (es more : Entries) → Stand q es → Stand q more → Stand q (joined es more)
  joined_stand nothing more h k = k
  joined_stand (given g rest) more h k = (h.0, joined_stand rest more h.1 k)
  joined_stand (choice bs rest) more h k = (h.0, joined_stand rest more h.1 k)

  and_branch_stand : (bs : Branches) (c : ExprId) (es : Entries) → StandIn q bs → c.0 < length q.exprs → Stand q es → StandIn q (and_branch bs c es)
  and_branch_stand none c es h there k = (there, k, tt)
  and_branch_stand (branch d other bs) c es h there k = (h.0, h.1, and_branch_stand bs c es h.2 there k)

  ended_stand : (es : Entries) (bs : Branches) → Stand q es → StandIn q bs → Stand q (ended es bs)
  ended_stand es none h k = h
  ended_stand es (branch c body bs) h k = joined_stand es (choice (branch c body bs) nothing) h (k, tt)

  with_content_stand : (x : OpenBlock) (bs : Branches) (es : Entries) → IsInside q x → StandIn q bs → Stand q es → StandIn q (with_content x bs es)
  with_content_stand (inside.Branch c) bs es i h k = and_branch_stand bs c es h i k
  with_content_stand (inside.Last c) bs es i h k = and_branch_stand bs c es h i k
  with_content_stand (inside.Switch v) bs es i h k = h
  with_content_stand (inside.Case v c) bs es i h k = and_branch_stand bs c es h i.1 k

  content_stand : (b : Blocks) → AreBlocks q b → Stand q (content b)
  content_stand b h = ended_stand b.entries b.chain h.entries h.chain

  whole_stand : (around : List Open) (es : Entries) → AllByRecursion (IsOpen q) around → Stand q es → Stand q (whole around es)
  whole_stand [] es h k = k
  whole_stand (o ∷ around) es h k = whole_stand around (ended o.before (branches_with o es)) h.1 (ended_stand o.before (branches_with o es) h.0.before (with_content_stand o.block o.branches es h.0.block h.0.branches k))

  pub entries_stand : (b : Blocks) → AreBlocks q b → Stand q (entries_of b)
  entries_stand b h = whole_stand b.around (content b) h.around (content_stand b h)

  -- ---- step by step

  opened_stand : (before : Entries) (bs : Branches) (x : OpenBlock) (around : List Open) → Stand q before → StandIn q bs → IsInside q x → AllByRecursion (IsOpen q) around → AreBlocks q (opened before bs x around)
  opened_stand before bs x around h k i r = record { entries = tt; chain = tt; around = (record { before = h; branches = k; block = i }, r) }

  case_stand : (c : ExprId) (around : List Open) (b : Blocks) → c.0 < length q.exprs → AllByRecursion (IsOpen q) around → AreBlocks q b → AreBlocks q (case_opened c around b)
  case_stand c [] b there r h = h
  case_stand c (o ∷ around) b there r h = by_block o.block r.0.block
    where
      by_block : (x : OpenBlock) → IsInside q x → AreBlocks q (case_in c x o around b)
      by_block (inside.Branch d) i = h
      by_block (inside.Last d) i = h
      by_block (inside.Switch v) i = opened_stand o.before o.branches (inside.Case v c) around r.0.before r.0.branches (i, there) r.1
      by_block (inside.Case v d) i = h

  entered_stand : (o : Opening) (b : Blocks) → IsOpening q o → AreBlocks q b → AreBlocks q (entered o b)
  entered_stand (opening.If c) b i h = opened_stand (content b) none (inside.Branch c) b.around (content_stand b h) tt i h.around
  entered_stand (opening.Elif c) b i h = opened_stand b.entries b.chain (inside.Branch c) b.around h.entries h.chain i h.around
  entered_stand (opening.Else c) b i h = opened_stand b.entries b.chain (inside.Last c) b.around h.entries h.chain i h.around
  entered_stand (opening.Switch v) b i h = opened_stand (content b) none (inside.Switch v) b.around (content_stand b h) tt i h.around
  entered_stand (opening.Case c) b i h = case_stand c b.around b i h.around h

  left_from_stand : (x : OpenBlock) (before : Entries) (bs : Branches) (around : List Open) → IsInside q x → Stand q before → StandIn q bs → AllByRecursion (IsOpen q) around → AreBlocks q (left_from x before bs around)
  left_from_stand (inside.Branch c) before bs around i h k r = record { entries = h; chain = k; around = r }
  left_from_stand (inside.Last c) before bs around i h k r = record { entries = ended_stand before bs h k; chain = tt; around = r }
  left_from_stand (inside.Switch v) before bs around i h k r = record { entries = ended_stand before bs h k; chain = tt; around = r }
  left_from_stand (inside.Case v c) before bs around i h k r = opened_stand before bs (inside.Switch v) around h k i.0 r

  left_stand : (around : List Open) (es : Entries) (b : Blocks) → AllByRecursion (IsOpen q) around → Stand q es → AreBlocks q b → AreBlocks q (left_in around es b)
  left_stand [] es b r k h = h
  left_stand (o ∷ around) es b r k h =
      left_from_stand o.block o.before (branches_with o es) around r.0.block r.0.before (with_content_stand o.block o.branches es r.0.block r.0.branches k) r.1

  after_stand : (b : Blocks) (x : Step) → IsTold q x → AreBlocks q b → AreBlocks q (after b x)
  after_stand b (Assign side target value place) t h = record {
    entries = joined_stand (content b) (given (record { side = side; statement = assign target value place }) nothing) (content_stand b h) (record { side = t.0; statement = t.1 }, tt);
    chain = tt;
    around = h.around;
  }
  after_stand b (Enter o) t h = entered_stand o b t h
  after_stand b Leave t h = left_stand b.around (content b) b h.around (content_stand b h) h

  all_stand : (b : Blocks) (steps : List Step) → AllByRecursion (IsTold q) steps → AreBlocks q b → AreBlocks q (fold after b steps)
  all_stand b [] t h = h
  all_stand b (x ∷ steps) t h = all_stand (after b x) steps t.1 (after_stand b x t.0 h)

  pub blocks_stand : (steps : List Step) → AllByRecursion (IsTold q) steps → AreBlocks q (blocks_of steps)
  unfolding blocks_of
  blocks_stand steps t = all_stand begun steps t (record { entries = tt; chain = tt; around = tt })

  -- the subject of a `Switch` that is innermost stands in the pool
  subject_stands : (around : List Open) → AllByRecursion (IsOpen q) around → in_switch around ≡ true → (subject_of around).0 < length q.exprs
  subject_stands [] h e = absurd (false≢true e)
  subject_stands (o ∷ around) h e = by_block o.block h.0.block e
    where
      by_block : (x : OpenBlock) → IsInside q x → is_switch x ≡ true → (subject_in x).0 < length q.exprs
      by_block (inside.Branch c) i e = absurd (false≢true e)
      by_block (inside.Last c) i e = absurd (false≢true e)
      by_block (inside.Switch v) i e = i
      by_block (inside.Case v c) i e = absurd (false≢true e)

  pub subject_there : (steps : List Step) → AllByRecursion (IsTold q) steps → in_switch (blocks_of steps).around ≡ true → (subject_of (blocks_of steps).around).0 < length q.exprs
  subject_there steps t e = subject_stands (blocks_of steps).around (blocks_stand steps t).around e

  -- ---- the statements of one side

  all_and : {A : Type 0} (P : A → Type 0) (xs ys : List A) → AllByRecursion P xs → AllByRecursion P ys → AllByRecursion P (xs ++ ys)
  all_and P [] ys h g = g
  all_and P (x ∷ xs) ys h g = (h.0, all_and P xs ys h.1 g)

  mutual
    pub givens_stand : (es : Entries) → Stand q es → AllByRecursion (IsGiven q) (givens es)
    givens_stand nothing h = tt
    givens_stand (given g rest) h = (h.0, givens_stand rest h.1)
    givens_stand (choice bs rest) h = all_and (IsGiven q) (givens_in bs) (givens rest) (givens_in_stand bs h.0) (givens_stand rest h.1)

    givens_in_stand : (bs : Branches) → StandIn q bs → AllByRecursion (IsGiven q) (givens_in bs)
    givens_in_stand none h = tt
    givens_in_stand (branch c es bs) h = all_and (IsGiven q) (givens es) (givens_in bs) (givens_stand es h.1) (givens_in_stand bs h.2)

  abbrev IsTargeted : Guarded → Type 0
  IsTargeted g = IsTrue (is_open_target q g.target.0)

  -- a statement that stands, whatever guards it
  one_targeted : (gs : List Guard) (s : Statement) → IsStatement q s → AllByRecursion IsTargeted (guarded_in gs s)
  one_targeted gs (assign t v p) h = (h.is_target, tt)
  one_targeted gs (choose arms) h = absurd h

  mutual
    pub targets_stand : (side : Side) (gs : List Guard) (es : Entries) → Stand q es → AllByRecursion (λ (g : Guarded). IsTrue (is_open_target q g.target.0)) (guarded gs (block_for side es))
    targets_stand side gs nothing h = tt
    targets_stand side gs (given g rest) h = split (targets_stand side gs rest h.1) (same_side side g.side)
      where
        split : AllByRecursion IsTargeted (guarded gs (block_for side rest)) → (t : Bool) → AllByRecursion IsTargeted (guarded gs (if t then next g.statement (block_for side rest) else block_for side rest))
        split more true = all_and IsTargeted (guarded_in gs g.statement) (guarded gs (block_for side rest)) (one_targeted gs g.statement h.0.statement) more
        split more false = more
    targets_stand side gs (choice bs rest) h = split (targets_stand side gs rest h.1) (arms_targeted side gs bs h.0) (has_side side (givens_in bs))
      where
        split : AllByRecursion IsTargeted (guarded gs (block_for side rest)) → AllByRecursion IsTargeted (guarded_arms gs (choices_for side bs)) → (t : Bool)
            → AllByRecursion IsTargeted (guarded gs (if t then next (choose (choices_for side bs)) (block_for side rest) else block_for side rest))
        split more arms true = all_and IsTargeted (guarded_arms gs (choices_for side bs)) (guarded gs (block_for side rest)) arms more
        split more arms false = more

    arms_targeted : (side : Side) (gs : List Guard) (bs : Branches) → StandIn q bs → AllByRecursion (λ (g : Guarded). IsTrue (is_open_target q g.target.0)) (guarded_arms gs (choices_for side bs))
    arms_targeted side gs none h = tt
    arms_targeted side gs (branch c es bs) h =
        all_and IsTargeted (guarded (gs ++ record { condition = c; taken = true } ∷ []) (block_for side es)) (guarded_arms (gs ++ record { condition = c; taken = false } ∷ []) (choices_for side bs))
        (targets_stand side (gs ++ record { condition = c; taken = true } ∷ []) es h.1) (arms_targeted side (gs ++ record { condition = c; taken = false } ∷ []) bs h.2)

  module _ (P : ExprId → Type 0) (plain : (e : ExprId) → e.0 < length q.exprs → P e) where
    one_plain : (s : Statement) → IsStatement q s → AllByRecursion P (statement_exprs s)
    one_plain (assign t v p) h = (plain t h.target_there, (plain v h.value_there, tt))
    one_plain (choose arms) h = absurd h

    mutual
      pub exprs_stand : (side : Side) (es : Entries) → Stand q es → AllByRecursion P (block_exprs (block_for side es))
      exprs_stand side nothing h = tt
      exprs_stand side (given g rest) h = split (exprs_stand side rest h.1) (same_side side g.side)
        where
          split : AllByRecursion P (block_exprs (block_for side rest)) → (t : Bool) → AllByRecursion P (block_exprs (if t then next g.statement (block_for side rest) else block_for side rest))
          split more true = all_and P (statement_exprs g.statement) (block_exprs (block_for side rest)) (one_plain g.statement h.0.statement) more
          split more false = more
      exprs_stand side (choice bs rest) h = split (exprs_stand side rest h.1) (arms_plain side bs h.0) (has_side side (givens_in bs))
        where
          split : AllByRecursion P (block_exprs (block_for side rest)) → AllByRecursion P (choices_exprs (choices_for side bs)) → (t : Bool)
              → AllByRecursion P (block_exprs (if t then next (choose (choices_for side bs)) (block_for side rest) else block_for side rest))
          split more arms true = all_and P (choices_exprs (choices_for side bs)) (block_exprs (block_for side rest)) arms more
          split more arms false = more

      arms_plain : (side : Side) (bs : Branches) → StandIn q bs → AllByRecursion P (choices_exprs (choices_for side bs))
      arms_plain side none h = tt
      arms_plain side (branch c es bs) h =
          (plain c h.0, all_and P (block_exprs (block_for side es)) (choices_exprs (choices_for side bs)) (exprs_stand side es h.1) (arms_plain side bs h.2))
