-- Statements, sides and processes under other names, one after another.
use Rattle.std.proofs.Common.{◌≡◌, ℕ, ◌+◌, Bool, true, false, not, ◌||◌, cond, List, [], ◌∷◌, ◌++◌, map, take, Some, slice_get, refl, sym, ap, ◌∙◌, append-nil}
use Rattle.std.specs.List.{list_any, filter}
use Rattle.std.proofs.lemmas.Bool.{false≢true}
use Rattle.std.proofs.lemmas.List.Elements.{filter-append}
use Rattle.lists.proofs.TextLaws.{text_eq_true}
use Rattle.design_ir.specs.declared.ids.ExprId.{ExprId}
use Rattle.design_ir.specs.declared.stmt.Stmt.{Stmt}
use Rattle.design_ir.specs.declared.stmt.Arm.{Arm}
use Rattle.design_ir.specs.declared.process.Side.{Side}
use Rattle.design_ir.specs.declared.process.Side.TheVariants.{Comb, Clocked}
use Rattle.design_ir.specs.declared.process.Process.{Process}
use Rattle.design_ir.specs.Statements.{statement_of, block_of, choices_of}
use Rattle.design_ir.specs.Trees.{Statement, Block, done, next, Choices, arm, block_and, choices_and}
use Rattle.fragment_walks.proofs.Lists.{take-push, map-push}
use Rattle.domain_transforms.specs.declared.controls.NamePair.{NamePair}
use Rattle.domain_transforms.specs.Renamed.{block_append, renamed_block, renamed_choices, renamed_side, renamed_sides, renamed_statement, side_eq, side_statements, sides_once}

-- ---- blocks

append_and : (a b : Block) (s : Statement) → block_append a (block_and b s) ≡ block_and (block_append a b) s
append_and done b s = refl
append_and (next t a) b s = ap (next t) (append_and a b s)

pub append_done : (a : Block) → block_append a done ≡ a
append_done done = refl
append_done (next t a) = ap (next t) (append_done a)

append_append : (a b c : Block) → block_append (block_append a b) c ≡ block_append a (block_append b c)
append_append done b c = refl
append_append (next t a) b c = ap (next t) (append_append a b c)

module _ (to : ExprId → ExprId) where
  block-push : (ss : List Stmt) (s : Stmt) → renamed_block to (block_of (ss ++ s ∷ [])) ≡ block_and (renamed_block to (block_of ss)) (renamed_statement to (statement_of s))
  block-push [] s = refl
  block-push (t ∷ ss) s = ap (next (renamed_statement to (statement_of t))) (block-push ss s)

  arms-push : (arms : List Arm) (a : Arm) → renamed_choices to (choices_of (arms ++ a ∷ [])) ≡ choices_and (renamed_choices to (choices_of arms)) (to a.condition) (renamed_block to a.body)
  arms-push [] a = refl
  arms-push (b ∷ arms) a = ap (arm (to b.condition) (renamed_block to b.body)) (arms-push arms a)

  pub block_turn : (ss : List Stmt) (i : ℕ) (s : Stmt) (old cur new : Block) (t : Statement) → slice_get ss i ≡ Some s → cur ≡ block_append old (renamed_block to (block_of (take i ss))) → new ≡ block_and cur t → t ≡ renamed_statement to (statement_of s)
      → new ≡ block_append old (renamed_block to (block_of (take (i + 1) ss)))
  block_turn ss i s old cur new t at h k e =
      k ∙ ap (λ b. block_and b t) h ∙ ap (block_and (block_append old (renamed_block to (block_of (take i ss))))) e
      ∙ sym (append_and old (renamed_block to (block_of (take i ss))) (renamed_statement to (statement_of s)))
      ∙ ap (block_append old) (sym (block-push (take i ss) s) ∙ ap (λ xs. renamed_block to (block_of xs)) (sym (take-push ss i s at)))

  pub arms_turn : (arms : List Arm) (i : ℕ) (a : Arm) (cur new : Choices) (condition : ExprId) (body : Block) → slice_get arms i ≡ Some a → cur ≡ renamed_choices to (choices_of (take i arms)) → new ≡ choices_and cur condition body → condition ≡ to a.condition → body ≡ renamed_block to a.body
      → new ≡ renamed_choices to (choices_of (take (i + 1) arms))
  arms_turn arms i a cur new condition body at h k e f =
      k ∙ ap (λ x. choices_and x condition body) h ∙ ap (λ x. choices_and (renamed_choices to (choices_of (take i arms))) x body) e ∙ ap (choices_and (renamed_choices to (choices_of (take i arms))) (to a.condition)) f
      ∙ sym (arms-push (take i arms) a) ∙ ap (λ xs. renamed_choices to (choices_of xs)) (sym (take-push arms i a at))

  -- ---- the statements of a side

  module _ (names : List NamePair) (side : Side) where
    statements-push : (ps : List Process) (p : Process)
        → side_statements names to side (ps ++ p ∷ []) ≡ cond (side_eq side (renamed_side names p.side)) (block_append (side_statements names to side ps) (renamed_block to p.body)) (side_statements names to side ps)
    statements-push [] p = by (side_eq side (renamed_side names p.side))
      where
        by : (b : Bool) → cond b (block_append (renamed_block to p.body) done) done ≡ cond b (renamed_block to p.body) done
        by true = append_done (renamed_block to p.body)
        by false = refl
    statements-push (r ∷ ps) p = by (side_eq side (renamed_side names r.side)) (side_eq side (renamed_side names p.side)) (statements-push ps p)
      where
        by : (a b : Bool) → side_statements names to side (ps ++ p ∷ []) ≡ cond b (block_append (side_statements names to side ps) (renamed_block to p.body)) (side_statements names to side ps)
            → cond a (block_append (renamed_block to r.body) (side_statements names to side (ps ++ p ∷ []))) (side_statements names to side (ps ++ p ∷ []))
            ≡ cond b (block_append (cond a (block_append (renamed_block to r.body) (side_statements names to side ps)) (side_statements names to side ps)) (renamed_block to p.body)) (cond a (block_append (renamed_block to r.body) (side_statements names to side ps)) (side_statements names to side ps))
        by true true h = ap (block_append (renamed_block to r.body)) h ∙ sym (append_append (renamed_block to r.body) (side_statements names to side ps) (renamed_block to p.body))
        by true false h = ap (block_append (renamed_block to r.body)) h
        by false true h = h
        by false false h = h

    pub statements_turn : (ps : List Process) (i : ℕ) (p : Process) (own : Side) (cur new : Block) → slice_get ps i ≡ Some p → own ≡ renamed_side names p.side → cur ≡ side_statements names to side (take i ps)
        → new ≡ cond (side_eq side own) (block_append cur (renamed_block to p.body)) cur → new ≡ side_statements names to side (take (i + 1) ps)
    statements_turn ps i p own cur new at is h k =
        k ∙ ap (λ x. cond (side_eq side x) (block_append cur (renamed_block to p.body)) cur) is ∙ ap (λ x. cond (side_eq side (renamed_side names p.side)) (block_append x (renamed_block to p.body)) x) h
        ∙ sym (statements-push (take i ps) p) ∙ ap (side_statements names to side) (sym (take-push ps i p at))

-- ---- sides, each once

side_true : (a b : Side) → side_eq a b ≡ true → a ≡ b
side_true Comb Comb e = refl
side_true Comb (Clocked n) e = absurd (false≢true e)
side_true (Clocked m) Comb e = absurd (false≢true e)
side_true (Clocked m) (Clocked n) e = ap Clocked (text_eq_true m n e)

once-push : (ns : List Side) (n : Side) → sides_once (ns ++ n ∷ []) ≡ cond (list_any (λ m. side_eq m n) ns) (sides_once ns) (sides_once ns ++ n ∷ [])
once-push [] n = refl
once-push (m ∷ ns) n = ap (λ xs. m ∷ filter others xs) (once-push ns n) ∙ split (list_any (λ k. side_eq k n) ns) (side_eq m n) refl
  where
    others : Side → Bool
    others k = not (side_eq m k)

    split : (a b : Bool) → side_eq m n ≡ b → m ∷ filter (λ k. not (side_eq m k)) (cond a (sides_once ns) (sides_once ns ++ n ∷ [])) ≡ cond (b || a) (m ∷ filter (λ k. not (side_eq m k)) (sides_once ns)) (m ∷ (filter (λ k. not (side_eq m k)) (sides_once ns) ++ n ∷ []))
    split true true e = refl
    split true false e = refl
    split false true e =
        ap (λ xs. m ∷ xs) (filter-append (λ k. not (side_eq m k)) (sides_once ns) (n ∷ []) ∙ ap (λ b. filter (λ k. not (side_eq m k)) (sides_once ns) ++ cond (not b) (n ∷ []) []) e ∙ append-nil (filter (λ k. not (side_eq m k)) (sides_once ns)))
    split false false e = ap (λ xs. m ∷ xs) (filter-append (λ k. not (side_eq m k)) (sides_once ns) (n ∷ []) ∙ ap (λ b. filter (λ k. not (side_eq m k)) (sides_once ns) ++ cond (not b) (n ∷ []) []) e)

-- what does not pass can be left out
any_filter : {A : Type 0} (p f : A → Bool) (xs : List A) → ((x : A) → f x ≡ false → p x ≡ false) → list_any p (filter f xs) ≡ list_any p xs
any_filter p f [] h = refl
any_filter p f (x ∷ xs) h = split (f x) refl ∙ ap (λ b. p x || b) (any_filter p f xs h)
  where
    split : (b : Bool) → f x ≡ b → list_any p (cond b (x ∷ filter f xs) (filter f xs)) ≡ (p x || list_any p (filter f xs))
    split true e = refl
    split false e = ap (λ b. b || list_any p (filter f xs)) (sym (h x e))

once_any : (ns : List Side) (n : Side) → list_any (λ m. side_eq m n) (sides_once ns) ≡ list_any (λ m. side_eq m n) ns
once_any [] n = refl
once_any (m ∷ ns) n = split (side_eq m n) refl (once_any ns n)
  where
    not_false : (b : Bool) → not b ≡ false → b ≡ true
    not_false true e = refl
    not_false false e = absurd (false≢true (sym e))

    split : (b : Bool) → side_eq m n ≡ b → list_any (λ k. side_eq k n) (sides_once ns) ≡ list_any (λ k. side_eq k n) ns → (b || list_any (λ k. side_eq k n) (filter (λ k. not (side_eq m k)) (sides_once ns))) ≡ (b || list_any (λ k. side_eq k n) ns)
    split true e h = refl
    split false e h =
        any_filter (λ k. side_eq k n) (λ k. not (side_eq m k)) (sides_once ns) (λ k same. ap (λ x. side_eq x n) (sym (side_true m k (not_false (side_eq m k) same))) ∙ e) ∙ h

pub sides_turn : (names : List NamePair) (ps : List Process) (i : ℕ) (p : Process) (side : Side) (cur new : List Side) → slice_get ps i ≡ Some p → side ≡ renamed_side names p.side → cur ≡ renamed_sides names (take i ps)
    → new ≡ cond (list_any (λ s. side_eq s side) cur) cur (cur ++ side ∷ []) → new ≡ renamed_sides names (take (i + 1) ps)
sides_turn names ps i p side cur new at is h k =
    let of : Process → Side = λ (r : Process). renamed_side names r.side in
    let before : List Side = map of (take i ps) in
    k ∙ ap (λ x. cond (list_any (λ s. side_eq s x) cur) cur (cur ++ x ∷ [])) is
    ∙ ap (λ xs. cond (list_any (λ s. side_eq s (of p)) xs) xs (xs ++ of p ∷ [])) h
    ∙ ap (λ b. cond b (sides_once before) (sides_once before ++ of p ∷ [])) (once_any before (of p))
    ∙ sym (once-push before (of p))
    ∙ ap sides_once (sym (map-push of (take i ps) p) ∙ ap (map of) (sym (take-push ps i p at)))
