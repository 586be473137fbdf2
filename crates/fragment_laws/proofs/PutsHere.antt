-- What statements leave in a signal is decided by its number before them, whatever the others hold.
use Rattle.std.specs.Prelude.{◌≡◌, ◌≢◌, refl, ℕ, ◌+◌, ◌<◌, ◌≤◌, Bool, true, false, cond, List, [], ◌∷◌, length, slice_set, ℤ, pos, Option, Some, None}
use Rattle.std.proofs.Common.{sym, ◌∙◌, ap, arith, subst, ⊎_elim}
use Rattle.std.proofs.lemmas.Bool.{cases_eq, cases_lt}
use Rattle.std.proofs.lemmas.List.{length-set, get_or_past, get_or-set_same, get_or-set_other}
use Rattle.amh_bits.specs.Patterns.{pattern, number, nat_bit}
use Rattle.shape_rules.specs.Forms.{Form}
use Rattle.shape_rules.specs.Operators.{is_zero}
use Rattle.design_ir.specs.Trees.{Statement, assign, choose, Choices, none, arm, Block, done, next}
use Rattle.design_ir.specs.Pools.{Pooled}
use Rattle.design_ir.specs.Values.{num, signal_form}
use Rattle.design_ir.specs.Targets.{Bit, target_bits}
use Rattle.design_ir.specs.Put.{with_bit, put, put_statement, put_choices, put_bits, put_place}
use Rattle.design_ir.specs.Circuits.{at}
use Rattle.design_ir.proofs.PutLaws.{put_length}

-- a place that is set by its own number
set_here : (cur other : List ℤ) (k s : ℕ) (f : ℤ → ℤ) → length cur ≡ length other → at cur s ≡ at other s → at (slice_set cur k (f (at cur k))) s ≡ at (slice_set other k (f (at other k))) s
set_here cur other k s f long same =
    ⊎_elim
    (λ (e : k ≡ s). subst (λ j. at (slice_set cur j (f (at cur j))) s ≡ at (slice_set other j (f (at other j))) s) (sym e)
    (⊎_elim
    (λ (there : s < length cur). get_or-set_same cur s (f (at cur s)) (pos 0) there ∙ ap f same ∙ sym (get_or-set_same other s (f (at other s)) (pos 0) (omega (arith, there, long))))
    (λ (past : length cur ≤ s).
    get_or_past (slice_set cur s (f (at cur s))) s (pos 0) (omega (arith, past, length-set cur s (f (at cur s))))
    ∙ sym (get_or_past (slice_set other s (f (at other s))) s (pos 0) (omega (arith, past, long, length-set other s (f (at other s))))))
    (cases_lt s (length cur))))
    (λ (e : k ≢ s). get_or-set_other cur k s (f (at cur k)) (pos 0) (λ q. e (sym q)) ∙ same ∙ sym (get_or-set_other other k s (f (at other k)) (pos 0) (λ q. e (sym q))))
    (cases_eq k s)

module _ (pool : Pooled) (env : List ℤ) (s : ℕ) where
  place_length : (x : Option Bit) (b : ℕ) (cur : List ℤ) → length (put_place pool x b cur) ≡ length cur
  place_length None b cur = refl
  place_length (Some x) b cur = length-set cur x.sig _

  place_here : (x : Option Bit) (b : ℕ) (cur other : List ℤ) → length cur ≡ length other → at cur s ≡ at other s → at (put_place pool x b cur) s ≡ at (put_place pool x b other) s
  place_here None b cur other long same = same
  place_here (Some x) b cur other long same =
      let f : Form = signal_form pool.signals x.sig in
      set_here cur other x.sig s (λ n. number f.signed f.width (with_bit x.index b (pattern f.width n))) long same

  bits_here : (xs : List (Option Bit)) (v i : ℕ) (cur other : List ℤ) → length cur ≡ length other → at cur s ≡ at other s → at (put_bits pool xs v i cur) s ≡ at (put_bits pool xs v i other) s
  bits_here [] v i cur other long same = same
  bits_here (x ∷ xs) v i cur other long same =
      let b : ℕ = nat_bit v i in
      bits_here xs v (i + 1) (put_place pool x b cur) (put_place pool x b other) (place_length x b cur ∙ long ∙ sym (place_length x b other)) (place_here x b cur other long same)

  choice_here : (t : Bool) (a b c d : List ℤ) → at a s ≡ at c s → at b s ≡ at d s → at (cond t a b) s ≡ at (cond t c d) s
  choice_here true a b c d h k = h
  choice_here false a b c d h k = k

  statement_length : (x : Statement) (cur : List ℤ) → length (put_statement pool env x cur) ≡ length cur
  statement_length x cur = put_length pool env (next x done) cur

  mutual
    statement_here : (x : Statement) (cur other : List ℤ) → length cur ≡ length other → at cur s ≡ at other s → at (put_statement pool env x cur) s ≡ at (put_statement pool env x other) s
    statement_here (assign t v p) cur other long same = bits_here (target_bits pool env t.0) (pattern (length (target_bits pool env t.0)) (num pool env v.0)) 0 cur other long same
    statement_here (choose arms) cur other long same = choices_here arms cur other long same

    choices_here : (arms : Choices) (cur other : List ℤ) → length cur ≡ length other → at cur s ≡ at other s → at (put_choices pool env arms cur) s ≡ at (put_choices pool env arms other) s
    choices_here none cur other long same = same
    choices_here (arm c body others) cur other long same =
        choice_here (is_zero (num pool env c.0)) (put_choices pool env others cur) (put pool env body cur) (put_choices pool env others other) (put pool env body other)
        (choices_here others cur other long same) (put_here body cur other long same)

    pub put_here : (b : Block) (cur other : List ℤ) → length cur ≡ length other → at cur s ≡ at other s → at (put pool env b cur) s ≡ at (put pool env b other) s
    put_here done cur other long same = same
    put_here (next x rest) cur other long same =
        put_here rest (put_statement pool env x cur) (put_statement pool env x other) (statement_length x cur ∙ long ∙ sym (statement_length x other)) (statement_here x cur other long same)
