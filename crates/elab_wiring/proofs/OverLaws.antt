-- Leaves with their signals, one after the other.
use Rattle.std.proofs.Common.{◌≡◌, ℕ, zero, suc, ◌+◌, ◌<◌, ◌≤◌, List, [], ◌∷◌, ◌++◌, length, drop, get_or, refl, sym, ap, ◌∙◌, arith, append-nil, append_assoc, add-one, drop-cons}
use Rattle.lib_wiring.specs.declared.leaf.Leaf as wired
use Rattle.elab_store.specs.declared.faces.End.{End}
use Rattle.elab_store.specs.declared.leaves.Leaf.{Leaf}
use Rattle.elab_wiring.specs.Connections.{over}

drop_all : {A : Type 0} (xs : List A) (i : ℕ) → length xs ≤ i → drop i xs ≡ []
drop_all [] zero h = refl
drop_all [] (suc i) h = refl
drop_all (x ∷ xs) zero h = absurd (omega (arith, h))
drop_all (x ∷ xs) (suc i) h = drop_all xs i (omega (arith, h))

drop_at : {A : Type 0} (xs : List A) (i : ℕ) (x : A) → i < length xs → x ≡ get_or xs i x → drop i xs ≡ x ∷ drop (i + 1) xs
drop_at xs i x lt is = drop-cons xs i x lt ∙ ap (λ y. y ∷ drop (suc i) xs) (sym is) ∙ ap (λ j. x ∷ drop j xs) (sym (add-one i))

pub over_more : (ls : List Leaf) (es : List End) (i : ℕ) (l : Leaf) (e : End) (path : List ℕ) (all whole : List wired.Leaf) → i < length ls → i < length es → l ≡ get_or ls i l → e ≡ get_or es i e → path ≡ l.path → all ++ over (drop i ls) (drop i es) ≡ whole
    → (all ++ record { path = path; sig = e.sig; expr = e.expr; is_out = l.is_out } ∷ []) ++ over (drop (i + 1) ls) (drop (i + 1) es) ≡ whole
over_more ls es i l e path all whole h1 h2 is1 is2 named so_far =
    append_assoc all (record { path = path; sig = e.sig; expr = e.expr; is_out = l.is_out } ∷ []) (over (drop (i + 1) ls) (drop (i + 1) es))
    ∙ ap (λ (p : List ℕ). all ++ record { path = p; sig = e.sig; expr = e.expr; is_out = l.is_out } ∷ over (drop (i + 1) ls) (drop (i + 1) es)) named
    ∙ sym (ap (λ xs. all ++ over xs (drop i es)) (drop_at ls i l h1 is1) ∙ ap (λ ys. all ++ over (l ∷ drop (i + 1) ls) ys) (drop_at es i e h2 is2)) ∙ so_far

pub over_done : (ls : List Leaf) (es : List End) (i : ℕ) (all whole : List wired.Leaf) → length ls ≤ i → all ++ over (drop i ls) (drop i es) ≡ whole → all ≡ whole
over_done ls es i all whole h so_far = sym (append-nil all) ∙ sym (ap (λ xs. all ++ over xs (drop i es)) (drop_all ls i h)) ∙ so_far

no_ends : (ls : List Leaf) → over ls [] ≡ []
no_ends [] = refl
no_ends (l ∷ ls) = refl

pub over_out : (ls : List Leaf) (es : List End) (i : ℕ) (all whole : List wired.Leaf) → length es ≤ i → all ++ over (drop i ls) (drop i es) ≡ whole → all ≡ whole
over_out ls es i all whole h so_far = sym (append-nil all) ∙ sym (ap (λ ys. all ++ over (drop i ls) ys) (drop_all es i h) ∙ ap (λ ws. all ++ ws) (no_ends (drop i ls))) ∙ so_far
