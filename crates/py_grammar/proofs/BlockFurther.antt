-- Each `elif` and the `else` that are derived behind an `if` are read.
use Rattle.std.proofs.Common.{◌≡◌, ℕ, ◌<◌, ◌≤◌, suc, zero, refl, sym, ap, subst, ◌∙◌, List, [], ◌∷◌, ◌++◌, append_assoc, length, length-append, Some, arith}
use Rattle.std.specs.Prelude.{Bool, true, false, codes, is_some}
use Rattle.amh_host.specs.declared.place.Place.{Place}
use Rattle.py_tree.specs.Tree.{Tree}
use Rattle.py_tree.specs.Steps.{Step, If, Steps, Branches, no_branch, branch, branches, Otherwise, nothing_else, otherwise, else_of}
use Rattle.py_grammar.specs.Shapes.{Head, ElseHead, Headed}
use Rattle.py_grammar.specs.Blocks.{Line, Around, Headed_block, elif_of, Further, no_further, elif_cut, elif_whole, else_last}
use Rattle.py_grammar.specs.Block_reading.{Part, Taken, Takes, ◌>>=◌, Form, Inner, is_deeper, next_at, maybe, repeat, elif_block, else_block}
use Rattle.py_grammar.proofs.BlockParts.{left, left_bind, append_nothing}
use Rattle.py_grammar.proofs.BlockLoops.{repeat_stops, repeat_goes}
use Rattle.py_grammar.proofs.BlockPerhaps.{maybe_goes, maybe_stops}
use Rattle.py_grammar.proofs.BlockLines.{Exact_form}
use Rattle.py_grammar.proofs.BlockSuites.{begins_more, Knows_blocks}
use Rattle.py_grammar.proofs.BlockHeads.{headed_begins}
use Rattle.py_grammar.proofs.BlockElse.{Else_part, knows_elif, knows_else}
use Rattle.py_grammar.proofs.BlockStarts.{begins_long, begins_not_deeper, starts_elif, starts_else, headed_starts}
use Rattle.py_grammar.proofs.BlockChoices.{onto, branches_onto, begins_at}

-- the lines behind a statement do not go on with it
pub record Ends_statement (indent : ℕ) (r : List Line) : Type 0 where
  pub not_deeper : is_deeper indent r ≡ false
  pub no_elif : next_at indent (codes "elif") r ≡ false
  pub no_else : next_at indent (codes "else") r ≡ false

pub onto_one : (xs : List (Tree × Steps)) (x : Tree × Steps) (bs : Branches) → onto (xs ++ x ∷ []) bs ≡ onto xs (branch x.0 x.1 bs)
onto_one [] x bs = refl
onto_one (y ∷ xs) x bs = ap (branch y.0 y.1) (onto_one xs x bs)

module _ (form : Form) (exact : Exact_form form) (B : Around → ℕ → Bool → List Line → Steps → Type 0) (inner : Inner) (knows : Knows_blocks B inner) (around : Around) (indent : ℕ) (p : Place) where
  abbrev elifs : Takes (Tree × Steps)
  elifs = elif_block form inner around indent

  abbrev elses : Takes Steps
  elses = else_block form inner around indent

  abbrev goes_elif : List Line → Bool
  goes_elif = next_at indent (codes "elif")

  abbrev closing : List (Tree × Steps) → Takes Step
  closing ys r = maybe (next_at indent (codes "else")) elses r >>= λ o q. Taken (If p (branches ys) (else_of o)) q

  abbrev reads : ℕ → List (Tree × Steps) → Takes Step
  reads n xs ls = repeat goes_elif elifs n xs ls >>= closing

  -- ---- turn by turn

  stops : (n : ℕ) (xs : List (Tree × Steps)) (r : List Line) → goes_elif r ≡ false → next_at indent (codes "else") r ≡ false → reads n xs r ≡ Taken (If p (onto xs no_branch) nothing_else) r
  stops n xs r h k =
      ap (λ t. t >>= closing) (repeat_stops goes_elif elifs n xs r h)
      ∙ (ap (λ t. t >>= λ o q. Taken (If p (branches xs) (else_of o)) q) (maybe_stops (Else_part B around indent) (begins_at indent (codes "else")) elses r k)
      ∙ ap (λ z. Taken (If p z nothing_else) r) (branches_onto xs))

  turn : (P : Part Step → Type 0) (n : ℕ) (xs : List (Tree × Steps)) (ls : List Line) → goes_elif ls ≡ true → 0 < length ls → length ls ≤ n → ((m : ℕ) → length ls ≤ suc m → P ((elifs ls >>= λ x r. repeat goes_elif elifs m (xs ++ x ∷ []) r) >>= closing)) → P (reads n xs ls)
  turn P zero xs ls goes long less rest = absurd (omega arith)
  turn P (suc n) xs ls goes long less rest = subst (λ t. P (t >>= closing)) (sym (repeat_goes goes_elif elifs n xs ls goes)) (rest n less)

  elif_goes : (cut : Bool) (ls : List Line) (h : Head) (e : Tree) (body : Steps) → Headed_block B around indent cut ls (h, body) → elif_of h ≡ Some e → (r : List Line) → goes_elif (ls ++ r) ≡ true
  elif_goes cut ls h e body d is r = starts_elif form exact indent ls (Headed (h, d.noted) d.behind) (headed_starts form exact B around indent cut ls h body d) r ∙ ap is_some is

  else_stops : (cut : Bool) (ls : List Line) (q : Place) (body : Steps) → Headed_block B around indent cut ls (ElseHead q, body) → (r : List Line) → goes_elif (ls ++ r) ≡ false
  else_stops cut ls q body d r = starts_elif form exact indent ls (Headed (ElseHead q, d.noted) d.behind) (headed_starts form exact B around indent cut ls (ElseHead q) body d) r

  else_goes : (cut : Bool) (ls : List Line) (q : Place) (body : Steps) → Headed_block B around indent cut ls (ElseHead q, body) → (r : List Line) → next_at indent (codes "else") (ls ++ r) ≡ true
  else_goes cut ls q body d r = starts_else form exact indent ls (Headed (ElseHead q, d.noted) d.behind) (headed_starts form exact B around indent cut ls (ElseHead q) body d) r

  block_long : (cut : Bool) (ls : List Line) (h : Head) (body : Steps) → Headed_block B around indent cut ls (h, body) → 0 < length ls
  block_long cut ls h body d = begins_long indent ls (headed_begins form exact B inner knows around indent cut ls h body d)

  pub further_not_deeper : (cut : Bool) (ls : List Line) (bs : Branches) (o : Otherwise) → Further B around indent cut ls bs o → (r : List Line) → is_deeper indent r ≡ false → is_deeper indent (ls ++ r) ≡ false
  further_not_deeper cut ls bs o no_further r h = h
  further_not_deeper cut ls bs o (elif_cut {h = k} {body = body} d is) r h = begins_not_deeper indent ls r (headed_begins form exact B inner knows around indent cut ls k body d)
  further_not_deeper cut ls bs o (elif_whole {front = front} {back = back} {h = k} {body = body} d is f) r h = begins_not_deeper indent (front ++ back) r (begins_more indent front back (headed_begins form exact B inner knows around indent false front k body d))
  further_not_deeper cut ls bs o (else_last {p = q} {body = body} d) r h = begins_not_deeper indent ls r (headed_begins form exact B inner knows around indent cut ls (ElseHead q) body d)

  -- ---- all of it

  one_elif : (ls : List Line) (h : Head) (e : Tree) (body : Steps) → Headed_block B around indent false ls (h, body) → elif_of h ≡ Some e → (r : List Line) → is_deeper indent r ≡ false → (n : ℕ) (xs : List (Tree × Steps)) → length (ls ++ r) ≤ n → (t : Part Step)
      → ((m : ℕ) → length r ≤ m → reads m (xs ++ (e, body) ∷ []) r ≡ t) → reads n xs (ls ++ r) ≡ t
  one_elif ls h e body d is r nd n xs less t rest =
      let long : 0 < length ls = block_long false ls h body d in
      turn (λ z. z ≡ t) n xs (ls ++ r) (elif_goes false ls h e body d is r) (omega (arith, length-append ls r)) less
      (λ m short. ap (λ z. (z >>= λ x r. repeat goes_elif elifs m (xs ++ x ∷ []) r) >>= closing) ((knows_elif form exact B inner knows around indent).complete ls (e, body) r (record { head = h; block = d; is = is }) nd)
      ∙ rest m (omega (arith, length-append ls r)))

  pub further_complete : (cut : Bool) (ls : List Line) (bs : Branches) (o : Otherwise) → Further B around indent cut ls bs o → cut ≡ false → (r : List Line) → Ends_statement indent r → (n : ℕ) (xs : List (Tree × Steps)) → length (ls ++ r) ≤ n → reads n xs (ls ++ r) ≡ Taken (If p (onto xs bs) o) r
  further_complete cut ls bs o no_further c r e n xs less = stops n xs r e.no_elif e.no_else
  further_complete cut ls bs o (elif_cut {h = h} {e = t} {body = body} d is) c r e n xs less =
      one_elif ls h t body (subst (λ c. Headed_block B around indent c ls (h, body)) c d) is r e.not_deeper n xs less (Taken (If p (onto xs (branch t body no_branch)) nothing_else) r)
      (λ m short. stops m (xs ++ (t, body) ∷ []) r e.no_elif e.no_else ∙ ap (λ z. Taken (If p z nothing_else) r) (onto_one xs (t, body) no_branch))
  further_complete cut ls bs o (elif_whole {front = front} {back = back} {h = h} {e = t} {body = body} {bs = cs} d is f) c r e n xs less =
      ap (reads n xs) (append_assoc front back r)
      ∙ one_elif front h t body d is (back ++ r) (further_not_deeper cut back cs o f r e.not_deeper) n xs (subst (λ z. length z ≤ n) (append_assoc front back r) less) (Taken (If p (onto xs (branch t body cs)) o) r)
      (λ m short. further_complete cut back cs o f c r e m (xs ++ (t, body) ∷ []) short ∙ ap (λ z. Taken (If p z o) r) (onto_one xs (t, body) cs))
  further_complete cut ls bs o (else_last {p = q} {body = body} d) c r e n xs less =
      ap (λ t. t >>= closing) (repeat_stops goes_elif elifs n xs (ls ++ r) (else_stops cut ls q body d r))
      ∙ (ap (λ t. t >>= λ o q. Taken (If p (branches xs) (else_of o)) q) (maybe_goes (Else_part B around indent) (begins_at indent (codes "else")) elses (ls ++ r) (else_goes cut ls q body d r)
      ∙ ap (λ z. z >>= λ a r. Taken (Some a) r) ((knows_else form exact B inner knows around indent).complete ls body r (record { place = q; block = subst (λ c. Headed_block B around indent c ls (ElseHead q, body)) c d }) e.not_deeper))
      ∙ ap (λ z. Taken (If p z (otherwise body)) r) (branches_onto xs))

  -- where lines may be cut off, all of them are read
  closing_ends : (ys : List (Tree × Steps)) → left (closing ys []) ≡ []
  closing_ends ys = refl

  reads_ends : (m : ℕ) (xs : List (Tree × Steps)) → left (repeat goes_elif elifs m xs []) ≡ []
  reads_ends m xs = ap left (repeat_stops goes_elif elifs m xs [] refl)

  pub further_cut : (cut : Bool) (ls : List Line) (bs : Branches) (o : Otherwise) → Further B around indent cut ls bs o → cut ≡ true → (n : ℕ) (xs : List (Tree × Steps)) → length ls ≤ n → left (reads n xs ls) ≡ []
  further_cut cut ls bs o no_further c n xs less = left_bind (repeat goes_elif elifs n xs []) closing (reads_ends n xs) closing_ends
  further_cut cut ls bs o (elif_cut {h = h} {e = t} {body = body} d is) c n xs less =
      turn (λ z. left z ≡ []) n xs ls (ap goes_elif (sym (append_nothing ls)) ∙ elif_goes cut ls h t body d is []) (block_long cut ls h body d) less
      (λ m short. left_bind (elifs ls >>= λ x r. repeat goes_elif elifs m (xs ++ x ∷ []) r) closing
      (left_bind (elifs ls) (λ x r. repeat goes_elif elifs m (xs ++ x ∷ []) r) ((knows_elif form exact B inner knows around indent).cut ls (t, body) (record { head = h; block = subst (λ c. Headed_block B around indent c ls (h, body)) c d; is = is })) (λ x. reads_ends m (xs ++ x ∷ [])))
      closing_ends)
  further_cut cut ls bs o (elif_whole {front = front} {back = back} {h = h} {e = t} {body = body} {bs = cs} d is f) c n xs less =
      let long : 0 < length front = block_long false front h body d in
      let nd : is_deeper indent back ≡ false = ap (is_deeper indent) (sym (append_nothing back)) ∙ further_not_deeper cut back cs o f [] refl in
      turn (λ z. left z ≡ []) n xs (front ++ back) (elif_goes false front h t body d is back) (omega (arith, length-append front back)) less
      (λ m short. ap (λ z. left ((z >>= λ x r. repeat goes_elif elifs m (xs ++ x ∷ []) r) >>= closing)) ((knows_elif form exact B inner knows around indent).complete front (t, body) back (record { head = h; block = d; is = is }) nd)
      ∙ further_cut cut back cs o f c m (xs ++ (t, body) ∷ []) (omega (arith, length-append front back)))
  further_cut cut ls bs o (else_last {p = q} {body = body} d) c n xs less =
      ap (λ t. left (t >>= closing)) (repeat_stops goes_elif elifs n xs ls (ap goes_elif (sym (append_nothing ls)) ∙ else_stops cut ls q body d []))
      ∙ (ap (λ t. left (t >>= λ o q. Taken (If p (branches xs) (else_of o)) q)) (maybe_goes (Else_part B around indent) (begins_at indent (codes "else")) elses ls (ap (next_at indent (codes "else")) (sym (append_nothing ls)) ∙ else_goes cut ls q body d []))
      ∙ left_bind (elses ls >>= λ a r. Taken (Some a) r) (λ o q. Taken (If p (branches xs) (else_of o)) q)
      (left_bind (elses ls) (λ a r. Taken (Some a) r) ((knows_else form exact B inner knows around indent).cut ls body (record { place = q; block = subst (λ c. Headed_block B around indent c ls (ElseHead q, body)) c d })) (λ a. refl)) (λ o. refl))
