-- The statements of a block by their number, and how a block goes on.
use Rattle.std.proofs.Common.{◌≡◌, ℕ, zero, suc, ◌+◌, ◌<◌, ◌≤◌, refl, ap, ◌∙◌, sym, subst, List, [], ◌∷◌, map, length, get_or, Some, None, Result, add-one}
use Rattle.std.specs.List.{slice_get}
use Rattle.std.proofs.lemmas.Option.{slice_get_read, slice_get_past}
use Rattle.py_tree.specs.declared.stmt.Stmt.{Stmt}
use Rattle.py_tree.specs.declared.stmt.Block.{Block}
use Rattle.py_tree.specs.Programs.{step_of, steps_of}
use Rattle.py_tree.specs.Steps.{Steps, last, next, steps}
use Rattle.py_heap.specs.Heaps.{Made}
use Rattle.py_frames.specs.declared.state.Halt.{Halt}
use Rattle.py_frames.specs.declared.state.Got.TheVariants.{Next}
use Rattle.py_frames.specs.declared.frame.Now.{Now}
use Rattle.py_frames.specs.declared.frame.Frame.{Frame}
use Rattle.py_frames.specs.declared.frame.StmtFrame.TheVariants as stmt
use Rattle.py_frames.specs.declared.frame.Frame.TheVariants as frame
use Rattle.py_frames.specs.declared.functions.Functions.{Functions}
use Rattle.py_frames.specs.declared.going.Going.{Going}
use Rattle.py_frames.specs.Doing.{came}
use Rattle.py_frames.specs.Parts.{steps_from}
use Rattle.py_frames.specs.Statements.{run, run_all}
use Rattle.py_frames.specs.Frames.{GoesOn, KeepsRoom, within}
use Rattle.py_frames.proofs.BeginLaws.{no_memory, pushed}

steps_at : (xs : List Stmt) (n : ℕ) (s : Stmt) → slice_get xs n ≡ Some s → steps_from n (steps (map step_of xs)) ≡ next (step_of s) (steps_from (suc n) (steps (map step_of xs)))
steps_at [] n s h = cc
steps_at (x ∷ xs) zero s h = let e : x ≡ s = cc in ap (λ z. next (step_of z) (steps (map step_of xs))) e
steps_at (x ∷ xs) (suc n) s h = steps_at xs n s h

steps_past : (xs : List Stmt) (n : ℕ) → slice_get xs n ≡ None → steps_from n (steps (map step_of xs)) ≡ last
steps_past [] zero h = refl
steps_past [] (suc n) h = refl
steps_past (x ∷ xs) zero h = cc
steps_past (x ∷ xs) (suc n) h = steps_past xs n h

pub step_found : (xs : List Stmt) (n : ℕ) (s t : Stmt) → n < length xs → s ≡ get_or xs n s → step_of t ≡ step_of s → steps_from n (steps (map step_of xs)) ≡ next (step_of t) (steps_from (n + 1) (steps (map step_of xs)))
step_found xs n s t h e q =
    let f : steps_from n (steps (map step_of xs)) ≡ next (step_of s) (steps_from (suc n) (steps (map step_of xs))) = steps_at xs n s (slice_get_read xs (length xs) n s refl h e) in
    f ∙ (ap (λ z. next z (steps_from (suc n) (steps (map step_of xs)))) (sym q) ∙ ap (λ j. next (step_of t) (steps_from j (steps (map step_of xs)))) (sym (add-one n)))

pub step_lacks : (xs : List Stmt) (n : ℕ) → length xs ≤ n → steps_from n (steps (map step_of xs)) ≡ last
step_lacks xs n h = steps_past xs n (slice_get_past xs n h)

pub block_steps : (fns : Functions) (frozen : Made) (r : Result Now Halt) (x y : Going) (budget n : ℕ) (b : Block) (s : Stmt) → steps_from n (steps_of b) ≡ next (step_of s) (steps_from (n + 1) (steps_of b)) → GoesOn fns frozen r x y budget (within (frame.Stmt (stmt.Block b (n + 1))) (λ k. run k (step_of s))) → GoesOn fns frozen r x y budget (λ k. run_all k (steps_from n (steps_of b)))
block_steps fns frozen r x y budget n b s e h =
    let P : Steps → Type 0 = λ z. GoesOn fns frozen r x y budget (λ k. run_all k z) in
    subst P (sym e) h

pub block_ends : (fns : Functions) (frozen : Made) (r : Result Now Halt) (x y : Going) (budget n : ℕ) (b : Block) → steps_from n (steps_of b) ≡ last → GoesOn fns frozen r x y budget (λ k. came Next) → GoesOn fns frozen r x y budget (λ k. run_all k (steps_from n (steps_of b)))
block_ends fns frozen r x y budget n b e h =
    let P : Steps → Type 0 = λ z. GoesOn fns frozen r x y budget (λ k. run_all k z) in
    subst P (sym e) h

-- another handle of the block
pub block_shared : (fns : Functions) (frozen : Made) (r : Result Now Halt) (x y : Going) (budget : ℕ) (b c : Block) → steps_of c ≡ steps_of b → GoesOn fns frozen r x y budget (λ k. run_all k (steps_from 0 (steps_of c))) → GoesOn fns frozen r x y budget (λ k. run_all k (steps_of b))
block_shared fns frozen r x y budget b c e h =
    let P : Steps → Type 0 = λ z. GoesOn fns frozen r x y budget (λ k. run_all k z) in
    subst P e h

pub block_waited : (fns : Functions) (frozen : Made) (r : Result Now Halt) (x z : Going) (budget : ℕ) (f : Frame) (fs : List Frame) (b : Block) → KeepsRoom f x.state.here.room → fs ≡ f ∷ x.frames → GoesOn fns frozen r (record x { frames = fs }) z budget (λ k. run_all k (steps_of b)) → GoesOn fns frozen r x z budget (within f (λ k. run_all k (steps_of b)))
block_waited fns frozen r x z budget f fs b room e h =
    let P : List Frame → Type 0 = λ g. GoesOn fns frozen r (record x { frames = g }) z budget (λ k. run_all k (steps_of b)) in
    pushed fns frozen r x z budget f (λ k. run_all k (steps_of b)) room (subst P e h)

pub ruleset step_rules = (step_found, step_lacks)

pub ruleset block_rules = (block_steps, block_ends, block_shared, block_waited, no_memory)
