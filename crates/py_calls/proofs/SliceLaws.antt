-- Laws of slices.
use Rattle.std.proofs.Common.{◌≡◌, ◌≤◌, arith, ℕ, zero, suc, refl, ap, ◌∙◌, sym, List, [], ◌∷◌, ◌++◌, length, Option, Some, None, Result}
use Rattle.amh_host.specs.declared.place.Place.{Place}
use Rattle.py_tree.specs.declared.expr.Expr.{Expr}
use Rattle.py_tree.specs.Programs.{steps_of}
use Rattle.py_tree.specs.Seen.{tree}
use Rattle.py_tree.specs.Tree.{Tree, Perhaps, absent, present, Trailers, no_trailer, trailer, Trailer, Call, CallOf, Attribute, Index, Slice}
use Rattle.py_heap.specs.Heaps.{Made}
use Rattle.py_values.specs.declared.val.Val.{Val}
use Rattle.py_values.specs.declared.val.Val.TheVariants as val
use Rattle.py_frames.specs.declared.request.Cause.TheVariants.{Raised}
use Rattle.py_frames.specs.declared.state.Halt.{Halt}
use Rattle.py_frames.specs.declared.frame.Now.{Now}
use Rattle.py_frames.specs.declared.frame.Purpose.TheVariants.{Plain}
use Rattle.py_frames.specs.declared.frame.Frame.TheVariants as frame
use Rattle.py_frames.specs.declared.frame.CallFrame.TheVariants as call
use Rattle.py_frames.specs.declared.functions.Functions.{Functions}
use Rattle.py_frames.specs.declared.going.Going.{Going}
use Rattle.py_frames.specs.Doing.{Doing, Known, after, on_value, stop}
use Rattle.py_frames.specs.Statements.{known}
use Rattle.py_frames.specs.Parts.{place_of, trailers_from}
use Rattle.py_frames.specs.Expressions.{value_of}
use Rattle.py_frames.specs.Call_frames.{trailers_of, slice_parts, perhaps_from, parts_then, sliced_by}
use Rattle.py_calls.specs.Slicing.{first_part, slice_in, slice_done}
use Rattle.py_frames.specs.Trailing.{first_trailer}
use Rattle.py_frames.specs.Frames.{GoesOn, within}
use Rattle.py_frames.proofs.CallLaws.{same_goes, same_runs}

-- ---- the parts by their numbers

pub part_none : (n : ℕ) → None ≡ first_part (perhaps_from n [])
part_none zero = refl
part_none (suc n) = refl

pub part_past : (a b c : Perhaps) (n : ℕ) → None ≡ first_part (perhaps_from (suc (suc (suc n))) (a ∷ b ∷ c ∷ []))
part_past a b c zero = refl
part_past a b c (suc n) = refl

pub ruleset part_rules = (part_none, part_past)

-- of what trails no part stands behind the third
pub part_over : (t : Trailer) (n : ℕ) → 3 ≤ n → None ≡ first_part (perhaps_from n (slice_in t))
part_over (Slice a b c) zero h = absurd (omega arith)
part_over (Slice a b c) (suc zero) h = absurd (omega arith)
part_over (Slice a b c) (suc (suc zero)) h = absurd (omega arith)
part_over (Slice a b c) (suc (suc (suc n))) h = part_past a b c n
part_over (Call gs) n h = part_none n
part_over (CallOf a c) n h = part_none n
part_over (Attribute m) n h = part_none n
part_over (Index a) n h = part_none n

pub slice_parts-first : (ts : Trailers) (t : Trailer) → Some t ≡ first_trailer ts → slice_in t ≡ slice_parts ts
slice_parts-first no_trailer t e = cc
slice_parts-first (trailer (Call gs) ts) t e = let q : t ≡ Call gs = cc in ap slice_in q
slice_parts-first (trailer (CallOf a c) ts) t e = let q : t ≡ CallOf a c = cc in ap slice_in q
slice_parts-first (trailer (Attribute n) ts) t e = let q : t ≡ Attribute n = cc in ap slice_in q
slice_parts-first (trailer (Index a) ts) t e = let q : t ≡ Index a = cc in ap slice_in q
slice_parts-first (trailer (Slice a b c) ts) t e = let q : t ≡ Slice a b c = cc in ap slice_in q

pub slice_some : (ts : Trailers) (t : Trailer) (n : ℕ) (r : Option Perhaps) → Some t ≡ first_trailer ts → r ≡ first_part (perhaps_from n (slice_in t)) → r ≡ first_part (perhaps_from n (slice_parts ts))
slice_some ts t n r e q = q ∙ ap (λ z. first_part (perhaps_from n z)) (slice_parts-first ts t e)

pub slice_none : (ts : Trailers) (n : ℕ) → None ≡ first_trailer ts → None ≡ first_part (perhaps_from n (slice_parts ts))
slice_none no_trailer n e = part_none n
slice_none (trailer t ts) n e = cc

pub ruleset slice_rules = (slice_some, slice_none)

parts-next : (n : ℕ) (ps : List Perhaps) (q : Perhaps) → Some q ≡ first_part (perhaps_from n ps) → q ∷ perhaps_from (suc n) ps ≡ perhaps_from n ps
parts-next zero [] q e = cc
parts-next zero (p ∷ ps) q e = cc
parts-next (suc n) [] q e = cc
parts-next (suc n) (p ∷ ps) q e = parts-next n ps q e

parts-end : (ps : List Perhaps) → None ≡ first_part ps → [] ≡ ps
parts-end [] e = refl
parts-end (p ∷ ps) e = cc

-- ---- what it means

pub part_waits : (fns : Functions) (frozen : Made) (r : Result Now Halt) (x y : Going) (budget : ℕ) (node more : Expr) (j : ℕ) (v : Val) (vs us : List Val) (t : Tree) → Some (present t) ≡ first_part (perhaps_from (length vs) (slice_parts (trailers_from j (trailers_of (tree node))))) → us ≡ vs → tree more ≡ tree node → GoesOn fns frozen r x y budget (within (frame.Call (call.Sliced more j v us)) (λ k. value_of k Plain t)) → GoesOn fns frozen r x y budget (λ k. parts_then k v vs (perhaps_from (length vs) (slice_parts (trailers_from j (trailers_of (tree node))))) (place_of (tree node)))
part_waits fns frozen r x y budget node more j v vs us t e1 e2 e3 h =
    same_goes fns frozen r x y budget (λ z k. parts_then k v vs z (place_of (tree node))) (present t ∷ perhaps_from (suc (length vs)) (slice_parts (trailers_from j (trailers_of (tree node))))) (perhaps_from (length vs) (slice_parts (trailers_from j (trailers_of (tree node))))) (parts-next (length vs) (slice_parts (trailers_from j (trailers_of (tree node)))) (present t) e1)
    (same_goes fns frozen r x y budget (λ z k w s. after (value_of k Plain t w s) (λ got. on_value got (λ i. parts_then k v (z ++ i ∷ []) (perhaps_from (suc (length z)) (slice_parts (trailers_from j (trailers_of (tree node))))) (place_of (tree node))) w)) us vs e2
    (same_goes fns frozen r x y budget (λ z k w s. after (value_of k Plain t w s) (λ got. on_value got (λ i. parts_then k v (us ++ i ∷ []) (perhaps_from (suc (length us)) (slice_parts (trailers_from j (trailers_of z)))) (place_of z)) w)) (tree more) (tree node) e3 h))

pub parts_absent : (fns : Functions) (frozen : Made) (r : Result Now Halt) (x y : Going) (budget : ℕ) (ps : List Perhaps) (p : Place) (v : Val) (vs : List Val) (n : ℕ) → Some absent ≡ first_part (perhaps_from n ps) → GoesOn fns frozen r x y budget (λ k. parts_then k v (vs ++ val.None ∷ []) (perhaps_from (suc n) ps) p) → GoesOn fns frozen r x y budget (λ k. parts_then k v vs (perhaps_from n ps) p)
parts_absent fns frozen r x y budget ps p v vs n e1 h = same_goes fns frozen r x y budget (λ z k. parts_then k v vs z p) (absent ∷ perhaps_from (suc n) ps) (perhaps_from n ps) (parts-next n ps absent e1) h

pub parts_end : (fns : Functions) (frozen : Made) (r : Result Now Halt) (x y : Going) (budget : ℕ) (ps : List Perhaps) (p : Place) (v : Val) (vs : List Val) (n : ℕ) → None ≡ first_part (perhaps_from n ps) → GoesOn fns frozen r x y budget (λ k. sliced_by k v vs p) → GoesOn fns frozen r x y budget (λ k. parts_then k v vs (perhaps_from n ps) p)
parts_end fns frozen r x y budget ps p v vs n e1 h = same_goes fns frozen r x y budget (λ z k. parts_then k v vs z p) [] (perhaps_from n ps) (parts-end (perhaps_from n ps) e1) h

pub ruleset parts_rules = (parts_absent, parts_end)

pub slice_begins : (fns : Functions) (frozen : Made) (r : Result Now Halt) (x y : Going) (budget : ℕ) (ts : Trailers) (t : Trailer) (p : Place) (v : Val) → Some t ≡ first_trailer ts → GoesOn fns frozen r x y budget (λ k. parts_then k v [] (perhaps_from 0 (slice_parts ts)) p) → GoesOn fns frozen r x y budget (λ k. parts_then k v [] (slice_in t) p)
slice_begins fns frozen r x y budget ts t p v e1 h = same_goes fns frozen r x y budget (λ z k. parts_then k v [] z p) (slice_parts ts) (slice_in t) (sym (slice_parts-first ts t e1)) h

-- of a slice no part stands behind the third
slice-over : (ts : Trailers) (n : ℕ) → perhaps_from (suc (suc (suc n))) (slice_parts ts) ≡ []
slice-over no_trailer n = refl
slice-over (trailer (Slice a b c) ts) zero = refl
slice-over (trailer (Slice a b c) ts) (suc n) = refl
slice-over (trailer (Call gs) ts) n = refl
slice-over (trailer (CallOf a c) ts) n = refl
slice-over (trailer (Attribute m) ts) n = refl
slice-over (trailer (Index a) ts) n = refl

slice-done : (k : Known) (x : Val) (vs : List Val) (v : Val) (ts : Trailers) (p : Place) → parts_then k x (vs ++ v ∷ []) (perhaps_from (suc (length vs)) (slice_parts ts)) p ≡ slice_done k x vs v (slice_parts ts) p
slice-done k x [] v ts p = refl
slice-done k x (i ∷ []) v ts p = refl
slice-done k x (i ∷ j ∷ []) v ts p = ap (λ z. parts_then k x (i ∷ j ∷ v ∷ []) z p) (slice-over ts zero)
slice-done k x (i ∷ j ∷ l ∷ vs) v ts p = ap (λ z. parts_then k x (i ∷ j ∷ l ∷ (vs ++ v ∷ [])) z p) (slice-over ts (suc (length vs))) ∙ slice-more k x i j l vs v p
  where
    slice-more : (k : Known) (x i j l : Val) (vs : List Val) (v : Val) (p : Place) → sliced_by k x (i ∷ j ∷ l ∷ (vs ++ v ∷ [])) p ≡ stop Raised p
    slice-more k x i j l [] v p = refl
    slice-more k x i j l (u ∷ vs) v p = refl

pub slice_goes : (fns : Functions) (frozen : Made) (r : Result Now Halt) (x y : Going) (budget : ℕ) (v : Val) (vs us : List Val) (i : Val) (ts : Trailers) (p : Place) → us ≡ vs → GoesOn fns frozen r x y budget (λ k. slice_done k v us i (slice_parts ts) p) → GoesOn fns frozen r x y budget (λ k. parts_then k v (vs ++ i ∷ []) (perhaps_from (suc (length vs)) (slice_parts ts)) p)
slice_goes fns frozen r x y budget v vs us i ts p e1 h =
    same_runs fns frozen r x y budget (λ k. slice_done k v vs i (slice_parts ts) p) (λ k. parts_then k v (vs ++ i ∷ []) (perhaps_from (suc (length vs)) (slice_parts ts)) p)
    (λ w. ap (λ (z : Doing). z w x.state) (slice-done (known (steps_of fns.program) frozen x.state.here.room) v vs i ts p))
    (same_goes fns frozen r x y budget (λ z k. slice_done k v z i (slice_parts ts) p) us vs e1 h)
