-- Marks of expressions, one after another, and what they come to.
use Rattle.std.proofs.Common.{◌≡◌, ℕ, zero, suc, ◌+◌, ◌<◌, ◌==◌, ◌&&◌, ◌||◌, Bool, false, List, [], ◌∷◌, ◌++◌, length, take, replicate, Some, slice_get, refl, sym, ap, ◌∙◌, subst, arith, append-nil, append_assoc}
use Rattle.std.specs.List.{AllByRecursion, flat_map, list_any}
use Rattle.std.proofs.lemmas.List.{length-replicate}
use Rattle.std.proofs.lemmas.List.Concat.{flat_map-append}
use Rattle.design_ir.specs.declared.ids.ExprId.{ExprId}
use Rattle.design_ir.specs.declared.expr.Expr.{Expr}
use Rattle.design_ir.specs.declared.stmt.Stmt.{Stmt}
use Rattle.design_ir.specs.declared.stmt.Arm.{Arm}
use Rattle.design_ir.specs.declared.fragment.Fragment.{Fragment}
use Rattle.design_ir.specs.Fragments.{leaf_of, forest_of}
use Rattle.design_ir.specs.Statements.{statement_of, block_of, choices_of}
use Rattle.design_ir.specs.Guards.{block_exprs, choices_exprs, statement_exprs}
use Rattle.design_ir.specs.Named.{AllBelow, named}
use Rattle.design_ir.specs.Pools.{Pooled}
use Rattle.design_ir.specs.PoolRules.{IsPool}
use Rattle.design_ir.specs.Circuits.{is_among}
use Rattle.design_ir.proofs.Congruence.{AreSame, same_below}
use Rattle.design_ir.proofs.Equations.{standing, answer_at}
use Rattle.fragment_walks.specs.Marks.{any_below, comes_out, is_marked, marked, numbers}
use Rattle.fragment_walks.proofs.Lists.{any-append, below_all, map-append, or_false}
use Rattle.fragment_walks.proofs.Markings.{fresh_marks, length_marked, marked-append, marked_at, more_below, none_below}
use Rattle.fragment_walks.proofs.Outs.{among_flat}
use Rattle.domain_transforms.specs.Placed.{forest_exprs, fragment_exprs, leaf_exprs}
use Rattle.domain_transforms.specs.Renamed.{inside, inside_step, is_within}
use Rattle.domain_transforms.proofs.DrivenLaws.{turn}

pub same_length : (es : List ExprId) (old cur : List Bool) → cur ≡ marked (numbers es) old → length cur ≡ length old
same_length es old cur h = ap length h ∙ length_marked (numbers es) old

pub marked_both : (xs ys : List ExprId) (old : List Bool) → marked (numbers ys) (marked (numbers xs) old) ≡ marked (numbers (xs ++ ys)) old
marked_both xs ys old = sym (marked-append (numbers xs) (numbers ys) old) ∙ ap (λ ns. marked ns old) (sym (map-append (λ (e : ExprId). e.0) xs ys))

exprs_turn : {X : Type 0} (f : List X → List ExprId) (items : List X) (i : ℕ) (x : X) (more : List ExprId) (old cur new : List Bool) → slice_get items i ≡ Some x → f (take i items ++ x ∷ []) ≡ f (take i items) ++ more → cur ≡ marked (numbers (f (take i items))) old → new ≡ marked (numbers more) cur
    → new ≡ marked (numbers (f (take (i + 1) items))) old
exprs_turn f items i x more old cur new at push = turn (λ xs. numbers (f xs)) items i x (numbers more) old cur new at (ap numbers push ∙ map-append (λ (e : ExprId). e.0) (f (take i items)) more)

block-push : (ss : List Stmt) (s : Stmt) → block_exprs (block_of (ss ++ s ∷ [])) ≡ block_exprs (block_of ss) ++ statement_exprs (statement_of s)
block-push [] s = append-nil (statement_exprs (statement_of s))
block-push (t ∷ ss) s = ap (λ xs. statement_exprs (statement_of t) ++ xs) (block-push ss s) ∙ sym (append_assoc (statement_exprs (statement_of t)) (block_exprs (block_of ss)) (statement_exprs (statement_of s)))

arms-push : (arms : List Arm) (x : Arm) → choices_exprs (choices_of (arms ++ x ∷ [])) ≡ choices_exprs (choices_of arms) ++ (x.condition ∷ block_exprs x.body)
arms-push [] x = ap (λ xs. x.condition ∷ xs) (append-nil (block_exprs x.body))
arms-push (y ∷ arms) x =
    ap (λ xs. y.condition ∷ (block_exprs y.body ++ xs)) (arms-push arms x)
    ∙ ap (λ xs. y.condition ∷ xs) (sym (append_assoc (block_exprs y.body) (choices_exprs (choices_of arms)) (x.condition ∷ block_exprs x.body)))

forest-push : (fs : List Fragment) (f : Fragment) → forest_exprs (forest_of (fs ++ f ∷ [])) ≡ forest_exprs (forest_of fs) ++ fragment_exprs f
forest-push [] f = ap (λ xs. leaf_exprs (leaf_of f) ++ xs) (append-nil (forest_exprs f.submodules))
forest-push (g ∷ fs) f =
    ap (λ xs. leaf_exprs (leaf_of g) ++ (forest_exprs g.submodules ++ xs)) (forest-push fs f)
    ∙ ap (λ xs. leaf_exprs (leaf_of g) ++ xs) (sym (append_assoc (forest_exprs g.submodules) (forest_exprs (forest_of fs)) (fragment_exprs f)))
    ∙ sym (append_assoc (leaf_exprs (leaf_of g)) (forest_exprs g.submodules ++ forest_exprs (forest_of fs)) (fragment_exprs f))

pub block_turn : (ss : List Stmt) (i : ℕ) (s : Stmt) (old cur new : List Bool) → slice_get ss i ≡ Some s → cur ≡ marked (numbers (block_exprs (block_of (take i ss)))) old → new ≡ marked (numbers (statement_exprs (statement_of s))) cur → new ≡ marked (numbers (block_exprs (block_of (take (i + 1) ss)))) old
block_turn ss i s old cur new at = exprs_turn (λ xs. block_exprs (block_of xs)) ss i s (statement_exprs (statement_of s)) old cur new at (block-push (take i ss) s)

pub arms_turn : (arms : List Arm) (i : ℕ) (x : Arm) (old cur new : List Bool) → slice_get arms i ≡ Some x → cur ≡ marked (numbers (choices_exprs (choices_of (take i arms)))) old → new ≡ marked (numbers (x.condition ∷ block_exprs x.body)) cur → new ≡ marked (numbers (choices_exprs (choices_of (take (i + 1) arms)))) old
arms_turn arms i x old cur new at = exprs_turn (λ xs. choices_exprs (choices_of xs)) arms i x (x.condition ∷ block_exprs x.body) old cur new at (arms-push (take i arms) x)

pub forest_turn : (fs : List Fragment) (i : ℕ) (f : Fragment) (old cur new : List Bool) → slice_get fs i ≡ Some f → cur ≡ marked (numbers (forest_exprs (forest_of (take i fs)))) old → new ≡ marked (numbers (fragment_exprs f)) cur → new ≡ marked (numbers (forest_exprs (forest_of (take (i + 1) fs)))) old
forest_turn fs i f old cur new at = exprs_turn (λ xs. forest_exprs (forest_of xs)) fs i f (fragment_exprs f) old cur new at (forest-push (take i fs) f)

pub flat_turn : {X : Type 0} (g : X → List ExprId) (xs : List X) (i : ℕ) (x : X) (old cur new : List Bool) → slice_get xs i ≡ Some x → cur ≡ marked (numbers (flat_map g (take i xs))) old → new ≡ marked (numbers (g x)) cur → new ≡ marked (numbers (flat_map g (take (i + 1) xs))) old
flat_turn g xs i x old cur new at =
    exprs_turn (flat_map g) xs i x (g x) old cur new at (flat_map-append g (take i xs) (x ∷ []) ∙ ap (λ ys. flat_map g (take i xs) ++ ys) (append-nil (g x)))

pub items_turn : (xs : List ExprId) (i : ℕ) (x : ExprId) (old cur new : List Bool) → slice_get xs i ≡ Some x → cur ≡ marked (numbers (take i xs)) old → new ≡ marked (x.0 ∷ []) cur → new ≡ marked (numbers (take (i + 1) xs)) old
items_turn xs i x old cur new at = exprs_turn (λ ys. ys) xs i x (x ∷ []) old cur new at refl

-- ---- what stands in an expression

flat_same : (f g : ℕ → List ℕ) (es : List ExprId) → AreSame f g es → flat_map (λ (e : ExprId). f e.0) es ≡ flat_map (λ (e : ExprId). g e.0) es
flat_same f g [] h = refl
flat_same f g (e ∷ es) h = let a = h.0 in let b = flat_same f g es h.1 in cc

pub inside_is : (q : Pooled) (k : ℕ) (e : Expr) → IsPool q → slice_get q.exprs k ≡ Some e → inside q k ≡ inside_step (inside q) e
unfolding inside
inside_is q k e rules at = answer_at [] inside_step q.exprs k e at (λ f g same. ap (λ ss. numbers (named e) ++ ss) (flat_same f g (named e) (same_below f g k (named e) same (standing q k e rules at).names)))

any_numbers : (p : ℕ → Bool) (es : List ExprId) → list_any (λ (e : ExprId). p e.0) es ≡ list_any p (numbers es)
any_numbers p [] = refl
any_numbers p (e ∷ es) = ap (λ b. p e.0 || b) (any_numbers p es)

pub inside_lead : (q : Pooled) (k : ℕ) (e : Expr) (n : ℕ) → IsPool q → slice_get q.exprs k ≡ Some e → is_among (inside q k) n ≡ (is_among (numbers (named e)) n || list_any (λ j. is_among (inside q j) n) (numbers (named e)))
inside_lead q k e n rules at =
    ap (λ ss. is_among ss n) (inside_is q k e rules at)
    ∙ any-append (λ y. y == n) (numbers (named e)) (flat_map (λ (a : ExprId). inside q a.0) (named e))
    ∙ ap (λ b. is_among (numbers (named e)) n || b) (among_flat (λ (a : ExprId). inside q a.0) (named e) n ∙ any_numbers (λ j. is_among (inside q j) n) (named e))

-- ---- marks below a bound, by a list

below_agree : (p q : ℕ → Bool) (k : ℕ) → ((j : ℕ) → j < k → p j ≡ q j) → any_below p k ≡ any_below q k
below_agree p q zero h = refl
below_agree p q (suc k) h = let a = h k (omega arith) in let b = below_agree p q k (λ j low. h j (omega (arith, low))) in cc

-- marks that are exactly those of a list
below_list : (q : ℕ → Bool) (ws : List ℕ) (marks : List Bool) (n : ℕ) → AllByRecursion (λ w. w < n) ws → ((j : ℕ) → j < n → is_marked marks j ≡ is_among ws j) → any_below (λ j. is_marked marks j && q j) n ≡ list_any q ws
below_list q ws marks n low same =
    below_agree (λ j. is_marked marks j && q j) (λ j. is_marked (marked ws (replicate n false)) j && q j) n (λ j h. ap (λ b. b && q j) (same j h ∙ sym (fresh j)))
    ∙ more_below q ws (replicate n false) n low (omega (arith, length-replicate n false))
    ∙ ap (λ b. list_any q ws || b) (none_below q n n)
    ∙ or_false (list_any q ws)
  where
    fresh : (j : ℕ) → is_marked (marked ws (replicate n false)) j ≡ is_among ws j
    fresh j = marked_at ws (replicate n false) j (subst (λ m. AllByRecursion (λ w. w < m) ws) (sym (length-replicate n false)) low) ∙ ap (λ b. b || is_among ws j) (fresh_marks n j)

-- what the marks of some expressions come to
pub within_is : (q : Pooled) (roots : List ExprId) (none marks : List Bool) (n : ℕ) → AllBelow (length q.exprs) roots → length none ≡ length q.exprs → ((j : ℕ) → is_marked none j ≡ false) → marks ≡ marked (numbers roots) none → comes_out (inside q) marks marks (length q.exprs) n ≡ is_within q roots n
within_is q roots none marks n there size fresh is =
    let ws = numbers roots in
    let low : AllByRecursion (λ w. w < length q.exprs) ws = below_all (length q.exprs) roots there in
    let first : (j : ℕ) → is_marked marks j ≡ is_among ws j =
    λ j. ap (λ ms. is_marked ms j) is ∙ marked_at ws none j (subst (λ m. AllByRecursion (λ w. w < m) ws) (sym size) low) ∙ ap (λ b. b || is_among ws j) (fresh j) in
    ap (λ b. b || any_below (λ j. is_marked marks j && is_among (inside q j) n) (length q.exprs)) (first n)
    ∙ ap (λ b. is_among ws n || b) (below_list (λ j. is_among (inside q j) n) ws marks (length q.exprs) low (λ j h. first j) ∙ sym (among_flat (inside q) ws n))
    ∙ sym (any-append (λ x. x == n) ws (flat_map (inside q) ws))
