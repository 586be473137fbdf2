-- The integers of a task's expressions, one after another.
use Rattle.std.specs.Prelude.{◌≡◌, ◌≢◌, refl, ℕ, zero, suc, ◌+◌, ◌<◌, ◌≤◌, ◌==◌, ◌||◌, true, false, List, [], ◌∷◌, map, length, take, slice_get, slice_set, slice_index_or, ℤ, pos, unsigned_abs, Some}
use Rattle.std.proofs.Common.{sym, ◌∙◌, ap, arith, subst, ⊎_elim, get_or, add-one}
use Rattle.std.proofs.lemmas.Bool.{cases_eq, cases_Bool, eqb-true, false≢true}
use Rattle.std.proofs.lemmas.List.{length-set, get_or-set_same, get_or-set_other}
use Rattle.amh_bits.specs.Patterns.{IsOf}
use Rattle.shape_rules.specs.Forms.{Form}
use Rattle.design_ir.specs.declared.ids.ExprId.{ExprId}
use Rattle.design_ir.specs.declared.expr.Expr as expr
use Rattle.design_ir.specs.declared.expr.Expr.{Expr}
use Rattle.design_ir.specs.declared.expr.Expr.TheVariants.{Const, Unary, Binary, Mux, Slice, Cat, Part, Pick, Cast, Matches, Reset}
use Rattle.design_ir.specs.Circuits.{is_among}
use Rattle.design_ir.specs.Named.{named, AllBelow}
use Rattle.design_ir.specs.Pools.{Pooled}
use Rattle.design_ir.specs.PoolRules.{IsPool}
use Rattle.design_ir.specs.Values.{form, num, joined, picked, value_step}
use Rattle.design_ir.proofs.Congruence.{AreSame}
use Rattle.design_ir.proofs.Equations.{standing, num_is}
use Rattle.design_ir.proofs.NumbersFit.{FitsSignals, element, num_fits}
use Rattle.sim_plans.specs.Reading.{IsReady}
use Rattle.sim_plans.specs.Tasks.{IsProgram, IsRead, AreAmong, AreFitting, places_of}
use Rattle.sim_plans.proofs.Among.{there_at}

-- ---- the value of an expression is decided by those that it names

module _ (shape : ℕ → Form) (env : List ℤ) (f g : ℕ → ℤ) where
  joined_same : (es : List ExprId) → AreSame f g es → joined shape f es ≡ joined shape g es
  joined_same [] h = refl
  joined_same (e ∷ es) h = let a = h.0 in let b = joined_same es h.1 in cc

  map_same : (es : List ExprId) → AreSame f g es → map (λ (e : ExprId). f e.0) es ≡ map (λ (e : ExprId). g e.0) es
  map_same [] h = refl
  map_same (e ∷ es) h = let a = h.0 in let b = map_same es h.1 in cc

  pub value_named : (e : Expr) → AreSame f g (named e) → value_step shape env f e ≡ value_step shape env g e
  value_named (Const n x) h = refl
  value_named (expr.TheVariants.Sig x) h = refl
  value_named (Unary op a) h = let q = h.0 in cc
  value_named (Binary op a b) h = let q = h.0 in let r = h.1.0 in cc
  value_named (Mux i a b) h = let q = h.0 in let r = h.1.0 in let t = h.1.1.0 in cc
  value_named (Slice a low width) h = let q = h.0 in cc
  value_named (Cat es) h = ap pos (joined_same es h)
  value_named (Part a offset width stride) h = let q = h.0 in let r = h.1.0 in cc
  value_named (Pick index es) h =
      let r = map_same es h.1 in
      ap (λ x. picked (pos 0) x (unsigned_abs (f index.0))) r ∙ ap (λ x. picked (pos 0) (map (λ (e : ExprId). g e.0) es) (unsigned_abs x)) h.0
  value_named (Cast a signed) h = let q = h.0 in cc
  value_named (Matches a patterns) h = rw h.0 refl
  value_named (Reset domain place) h = refl

-- ---- one expression

pub below_more : (k n : ℕ) (es : List ExprId) → k ≤ n → AllBelow k es → AllBelow n es
below_more k n [] le h = tt
below_more k n (e ∷ es) le h = (omega (arith, h.0, le), below_more k n es le h.1)

pub ready_at : (p : Pooled) (env nums : List ℤ) (k : ℕ) (e : Expr) → IsPool p → length env ≡ length p.signals → AreFitting p nums → k < length nums → slice_get p.exprs k ≡ Some e → IsReady p env nums e
ready_at p env nums k e rules signals fitting there is =
    let s = standing p k e rules is in
    record {
      names = below_more k (length nums) (named e) (omega (arith, there)) s.names;
      askable = s.askable;
      accepted = s.accepted;
      pool = fitting.few;
      signals = signals;
      fits = fitting.fits;
    }

-- the integers of these expressions are known
abbrev pub AreKnown : Pooled → List ℤ → List ℤ → List ExprId → Type 0
AreKnown p env nums list = (k : ℕ) → is_among (places_of list) k ≡ true → slice_index_or nums k (pos 0) ≡ num p env k

all_same : (p : Pooled) (env nums : List ℤ) (list es : List ExprId) → AreKnown p env nums list → AreAmong list es → AreSame (λ k. slice_index_or nums k (pos 0)) (num p env) es
all_same p env nums list [] known h = tt
all_same p env nums list (e ∷ es) known h = (known e.0 h.0, all_same p env nums list es known h.1)

take_next : (list : List ExprId) (i : ℕ) (e : ExprId) (k : ℕ) → slice_get list i ≡ Some e → is_among (places_of (take (suc i) list)) k ≡ true → e.0 ≢ k → is_among (places_of (take i list)) k ≡ true
take_next [] i e k is h other = cc
take_next (x ∷ list) zero e k is h other =
    let same : x ≡ e = cc in
    ⊎_elim
    (λ (t : (x.0 == k) ≡ true). absurd (other (ap (λ (y : ExprId). y.0) (sym same) ∙ eqb-true x.0 k t)))
    (λ (t : (x.0 == k) ≡ false). absurd (false≢true (sym (ap (λ b. b || false) t) ∙ h)))
    (cases_Bool (x.0 == k))
take_next (x ∷ list) (suc i) e k is h other =
    ⊎_elim
    (λ (t : (x.0 == k) ≡ true). ap (λ b. b || is_among (places_of (take i list)) k) t)
    (λ (t : (x.0 == k) ≡ false). ap (λ b. b || is_among (places_of (take i list)) k) t ∙ take_next list i e k is (sym (ap (λ b. b || is_among (places_of (take (suc i) list)) k) t) ∙ h) other)
    (cases_Bool (x.0 == k))

pub get_at : (list : List ExprId) (i : ℕ) (d : ExprId) → i < length list → slice_get list i ≡ Some (get_or list i d)
get_at [] i d h = absurd (omega (arith, h))
get_at (x ∷ list) zero d h = refl
get_at (x ∷ list) (suc i) d h = get_at list i d (omega (arith, h))

pub known_none : (p : Pooled) (env nums : List ℤ) (list : List ExprId) → AreKnown p env nums (take 0 list)
known_none p env nums [] k h = absurd (false≢true h)
known_none p env nums (x ∷ list) k h = absurd (false≢true h)

module _ (p : Pooled) (env : List ℤ) (rules : IsPool p) (fit : FitsSignals p env) (count : ℕ) (list : List ExprId) (program : IsProgram p count list) where
  module _ (nums : List ℤ) (fitting : AreFitting p nums) (long : length nums ≡ count) (i : ℕ) (e : ExprId) (is : slice_get list i ≡ Some e) where
    pub below_count : e.0 < length nums
    below_count = let h = there_at count list i e program.there is in omega (arith, h, long)

    module _ (known : AreKnown p env nums (take i list)) (n : ℤ) (value : (x : Expr) → slice_get p.exprs e.0 ≡ Some x → n ≡ value_step (form p) env (λ k. slice_index_or nums k (pos 0)) x) where
      number_is : n ≡ num p env e.0
      number_is =
          let x = element p.exprs e.0 (omega (arith, below_count, fitting.few)) in
          value x.0 x.1 ∙ value_named (form p) env (λ k. slice_index_or nums k (pos 0)) (num p env) x.0 (all_same p env nums (take i list) (named x.0) known (program.behind i e x.0 is x.1)) ∙ sym (num_is p env e.0 x.0 rules x.1)

      pub known_next : AreKnown p env (slice_set nums e.0 n) (take (i + 1) list)
      known_next k h =
          let h' : is_among (places_of (take (suc i) list)) k ≡ true = ap (λ j. is_among (places_of (take j list)) k) (sym (add-one i)) ∙ h in
          ⊎_elim
          (λ (same : e.0 ≡ k). ap (λ j. slice_index_or (slice_set nums e.0 n) j (pos 0)) (sym same) ∙ get_or-set_same nums e.0 n (pos 0) below_count ∙ number_is ∙ ap (num p env) same)
          (λ (other : e.0 ≢ k). get_or-set_other nums e.0 k n (pos 0) (λ f. other (sym f)) ∙ known k (take_next list i e k is h' other))
          (cases_eq e.0 k)

      pub fitting_next : AreFitting p (slice_set nums e.0 n)
      fitting_next = record {
        few = omega (arith, length-set nums e.0 n, fitting.few);
        fits = λ k h.
            let h' : k < length nums = omega (arith, h, length-set nums e.0 n) in
            ⊎_elim
            (λ (same : e.0 ≡ k).
            let of : IsOf (form p e.0).signed (form p e.0).width n = subst (IsOf (form p e.0).signed (form p e.0).width) (sym number_is) (num_fits p env rules fit e (omega (arith, below_count, fitting.few))) in
            subst (λ j. IsOf (form p j).signed (form p j).width (slice_index_or (slice_set nums e.0 n) j (pos 0))) same (subst (IsOf (form p e.0).signed (form p e.0).width) (sym (get_or-set_same nums e.0 n (pos 0) below_count)) of))
            (λ (other : e.0 ≢ k). subst (IsOf (form p k).signed (form p k).width) (sym (get_or-set_other nums e.0 k n (pos 0) (λ f. other (sym f)))) (fitting.fits k h'))
            (cases_eq e.0 k);
      }

  pub read_all : (nums : List ℤ) (i : ℕ) → AreFitting p nums → length nums ≡ count → length list ≤ i → AreKnown p env nums (take i list) → IsRead p env nums list
  read_all nums i fitting long past known = record {
    rules = rules;
    few = fitting.few;
    program = subst (λ n. IsProgram p n list) (sym long) program;
    numbers = λ k h. known k (ap (λ es. is_among (places_of es) k) (all_taken list i past) ∙ h);
  }
    where
      all_taken : (xs : List ExprId) (i : ℕ) → length xs ≤ i → take i xs ≡ xs
      all_taken [] zero l = refl
      all_taken [] (suc i) l = refl
      all_taken (x ∷ xs) zero l = absurd (omega (arith, l))
      all_taken (x ∷ xs) (suc i) l = ap (λ ys. x ∷ ys) (all_taken xs i (omega (arith, l)))
