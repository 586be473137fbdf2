-- Flat processes, one after another, and what a design of them is.
use Rattle.std.specs.Prelude.{◌≡◌, ℕ, ◌+◌, ◌<◌, ◌≤◌, length, take, true, List, [], ◌∷◌, ◌++◌, Result, Ok, Err, IfOk}
use Rattle.std.specs.List.{AllByRecursion}
use Rattle.std.proofs.Common.{sym, ◌∙◌, ap, subst, get_or}
use Rattle.std.proofs.lemmas.List.{take_all, take_more}
use Rattle.design_ir.specs.declared.process.DesignProcess.{DesignProcess}
use Rattle.design_ir.specs.Pools.{Pooled}
use Rattle.design_ir.specs.PoolRules.{IsPool}
use Rattle.design_ir.specs.Circuits.{Circuit}
use Rattle.design_ir.specs.Fixed.{is_plain}
use Rattle.flat_design.specs.Growing.{IsMore}
use Rattle.flat_design.specs.Flat.{IsFlatProcess, AreFlatProcesses}
use Rattle.flat_design.proofs.FlatBodies.{flat_more}

flat_append : (p q : Pooled) (olds news : List DesignProcess) (old new : DesignProcess) → AreFlatProcesses p q olds news → IsFlatProcess p q old new → AreFlatProcesses p q (olds ++ old ∷ []) (news ++ new ∷ [])
flat_append p q [] [] old new are flat = (flat, tt)
flat_append p q [] (n ∷ news) old new are flat = absurd are
flat_append p q (o ∷ olds) [] old new are flat = absurd are
flat_append p q (o ∷ olds) (n ∷ news) old new are flat = (are.0, flat_append p q olds news old new are.1 flat)

-- one process more, behind which the pool has grown
pub one_more : (p q r : Pooled) (olds news : List DesignProcess) (old new : DesignProcess) → IsPool q → IsMore q r → AreFlatProcesses p q olds news → IsFlatProcess p r old new
    → AreFlatProcesses p r (olds ++ old ∷ []) (news ++ new ∷ [])
one_more p q r olds news old new rules more are flat = flat_append p r olds news old new (flat_more p q r olds news rules more are) flat

all_plain : (p q : Pooled) (olds news : List DesignProcess) → AreFlatProcesses p q olds news → AllByRecursion (λ (x : DesignProcess). is_plain q x.body ≡ true) news
all_plain p q [] [] are = tt
all_plain p q [] (n ∷ news) are = absurd are
all_plain p q (o ∷ olds) [] are = absurd are
all_plain p q (o ∷ olds) (n ∷ news) are = (are.0.body.plain, all_plain p q olds news are.1)

pub made_plain : {E : Type 0} (r : Result Circuit E) (c : Circuit) (q : Pooled) (ps : List DesignProcess) → IfOk r (λ d. d ≡ record c { pool = q; processes = ps }) → AreFlatProcesses c.pool q c.processes ps
    → IfOk r (λ d. AllByRecursion (λ (x : DesignProcess). is_plain d.pool x.body ≡ true) d.processes)
made_plain (Ok d) c q ps e are = let P : Circuit → Type 0 = λ x. AllByRecursion (λ (y : DesignProcess). is_plain x.pool y.body ≡ true) x.processes in subst P (sym e) (all_plain c.pool q c.processes ps are)
made_plain (Err e) c q ps h are = h

-- ---- a loop over the processes

pub one_taken : (p q r : Pooled) (items news : List DesignProcess) (i : ℕ) (old new : DesignProcess) → IsPool q → IsMore q r → AreFlatProcesses p q (take i items) news → IsFlatProcess p r old new
    → i < length items → old ≡ get_or items i old → AreFlatProcesses p r (take (i + 1) items) (news ++ new ∷ [])
one_taken p q r items news i old new rules more are flat within is =
    let next : take (i + 1) items ≡ take i items ++ old ∷ [] = take_more items i old within ∙ ap (λ x. take i items ++ x ∷ []) (sym is) in
    subst (λ xs. AreFlatProcesses p r xs (news ++ new ∷ [])) (sym next) (one_more p q r (take i items) news old new rules more are flat)

pub all_taken : (p q : Pooled) (items olds news : List DesignProcess) (i : ℕ) → length items ≤ i → items ≡ olds → AreFlatProcesses p q (take i items) news → AreFlatProcesses p q olds news
all_taken p q items olds news i past same are = subst (λ xs. AreFlatProcesses p q xs news) (take_all i items past ∙ same) are
