-- What a builder owes, from what it keeps.
use Rattle.std.proofs.Common.{◌≡◌, ℕ, ◌<◌, ◌≤◌, nat_lt, Bool, true, false, if◌then◌else◌, List, [], ◌∷◌, ◌++◌, map, Some, None, refl, sym, ap, ◌∙◌, arith}
use Rattle.std.proofs.lemmas.Bool.{false≢true}
use Rattle.std.proofs.lemmas.Bool.Decides.{nat_tests}
use Rattle.std.proofs.lemmas.List.Sums.{fold-append}
use Rattle.design_ir.specs.declared.process.Side.{Side}
use Rattle.design_ir.specs.declared.process.Process.{Process}
use Rattle.design_ir.specs.declared.domain.DomainDef.{DomainDef}
use Rattle.design_ir.specs.declared.memory.Memory.{Memory}
use Rattle.design_ir.specs.Forests.{Forest, bare}
use Rattle.amh_host.specs.declared.place.Place.{Place}
use Rattle.design_ir.specs.declared.ids.ExprId.{ExprId}
use Rattle.design_ir.specs.Trees.{assign}
use Rattle.design_ir.specs.Targets.{is_open_target}
use Rattle.module_dsl.specs.declared.refusal.BuildStop.TheVariants.{Limit}
use Rattle.module_dsl.specs.declared.step.Step.{Step}
use Rattle.module_dsl.specs.declared.step.Step.TheVariants.{Assign}
use Rattle.module_dsl.specs.declared.progress.Progress.{Progress}
use Rattle.module_dsl.specs.Blocks.{Open, after, begun, blocks_of, content, entries_of, whole, and_statement, in_switch, is_outermost, may_begin}
use Rattle.module_dsl.specs.Sided.{givens, sides_of, block_for, process_of, processes_of, statement_count}
use Rattle.design_ir.specs.Pools.{Pooled}
use Rattle.design_ir.specs.PoolRules.{IsAskable}
use Rattle.module_dsl.specs.declared.step.Block.{Block}
use Rattle.module_dsl.specs.declared.step.Block.TheVariants as block
use Rattle.module_dsl.specs.Builders.{Built, built_blocks, built_count, and_given, assign_refusal, fragment_of, always, condition_under, opening_of, subject_of, IsMakeable, IsEnterable}
use Rattle.module_dsl.specs.Parting.{process_from}
use Rattle.module_dsl.specs.Progress.{IsProgress, so_far}
use Rattle.module_dsl.proofs.PartingLaws.{part_of-is}
use Rattle.module_dsl.proofs.ProgressSteps.{map_agree, map_map}

pub blocks_of-none : blocks_of [] ≡ begun
unfolding blocks_of
blocks_of-none = refl

pub blocks_of-push : (steps : List Step) (x : Step) → blocks_of (steps ++ x ∷ []) ≡ after (blocks_of steps) x
unfolding blocks_of
blocks_of-push steps x = fold-append after begun steps (x ∷ [])

-- the processes that are made are those of the blocks, where none is open
pub processes-are : (steps : List Step) (p : Progress) → IsProgress (blocks_of steps) p → is_outermost (blocks_of steps).around ≡ true → map (process_from steps) p.sides.items ≡ processes_of (entries_of (blocks_of steps))
processes-are steps p h outer =
    ap (map (process_from steps)) h.sides ∙ map_map (process_from steps) (so_far (blocks_of steps)) (sides_of (givens (entries_of (blocks_of steps))))
    ∙ map_agree (λ s. process_from steps (so_far (blocks_of steps) s)) (process_of (entries_of (blocks_of steps)))
    (λ s. ap (λ b. record { side = s; body = b }) (part_of-is s steps ∙ ap (block_for s) (sym (all_content (blocks_of steps).around outer)))) (sides_of (givens (entries_of (blocks_of steps))))
  where
    all_content : (around : List Open) → is_outermost around ≡ true → whole around (content (blocks_of steps)) ≡ content (blocks_of steps)
    all_content [] e = refl
    all_content (o ∷ around) e = absurd (false≢true e)

pub fragment-is : (b : Built) (domains : List DomainDef) (processes : List Process) (memories : List Memory) (below : Forest) → domains ≡ [] → processes ≡ processes_of (entries_of (built_blocks b)) → memories ≡ [] → below ≡ bare
    → record { name = b.name; is_part = false; domains = domains; processes = processes; memories = memories; submodules = below } ≡ fragment_of b
unfolding fragment_of
fragment-is b domains processes memories below d p m s = cc

-- the constant 1 may be made
pub always_askable : (q : Pooled) → IsAskable q always
always_askable q = record { names = tt; parts = omega arith }

-- what may begin here may be made
pub makeable : (q : Pooled) (b : Built) (x : Block) → may_begin (opening_of 0 x) (built_blocks b) ≡ true → IsEnterable q b x → IsMakeable q (condition_under (subject_of (built_blocks b).around) x)
makeable q b (block.If c) may h = tt
makeable q b (block.Elif c) may h = tt
makeable q b block.Else may h = always_askable q
makeable q b (block.Switch v) may h = tt
makeable q b (block.Case patterns) may h = h may
makeable q b block.Default may h = always_askable q

-- ---- a statement

pub count-given : (b : Built) (side : Side) (target value : ExprId) (place : Place) → built_count (and_given b side target value place) ≡ statement_count (entries_of (and_statement (record { side = side; statement = assign target value place }) (built_blocks b)))
count-given b side target value place = ap (λ x. statement_count (entries_of x)) (blocks_of-push b.steps (Assign side target value place))

above : (n : ℕ) → 65536 < n → nat_lt 65536 n ≡ true
above n h = grind (arith, nat_tests)

within : (n : ℕ) → n ≤ 65536 → nat_lt 65536 n ≡ false
within n h = grind (arith, nat_tests)

module _ (q : Pooled) (b : Built) (side : Side) (target value : ExprId) (place : Place) (n : ℕ) (i : in_switch (built_blocks b).around ≡ false) (t : is_open_target q target.0 ≡ true)
    (count : statement_count (entries_of (and_statement (record { side = side; statement = assign target value place }) (built_blocks b))) ≡ n) where
  refusal_at : (over : Bool) → nat_lt 65536 n ≡ over → assign_refusal q b side target value place ≡ (if over then Some Limit else None)
  refusal_at over e = rw (i, t) (ap (λ m. if nat_lt 65536 m then Some Limit else None) (count-given b side target value place ∙ count) ∙ ap (λ x. if x then Some Limit else None) e)

  pub assign-limit : 65536 < n → assign_refusal q b side target value place ≡ Some Limit
  assign-limit h = refusal_at true (above n h)

  pub assign-none : n ≤ 65536 → assign_refusal q b side target value place ≡ None
  assign-none h = refusal_at false (within n h)
