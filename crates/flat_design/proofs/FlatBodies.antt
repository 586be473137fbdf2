-- Flat statements stay flat where their pool grows.
use Rattle.std.specs.Prelude.{◌≡◌, refl, ℕ, ◌<◌, ◌&&◌, Bool, if◌then◌else◌, List, [], ◌∷◌, ◌++◌, length, ℤ, Option, Some, None, Contains}
use Rattle.std.specs.List.{AllByRecursion, flat_map}
use Rattle.std.proofs.Common.{sym, ◌∙◌, ap, subst}
use Rattle.std.proofs.lemmas.List.Elements.{All-contains, All-weaker}
use Rattle.shape_rules.specs.Operators.{is_zero}
use Rattle.design_ir.specs.declared.ids.ExprId.{ExprId}
use Rattle.design_ir.specs.declared.expr.Expr.{Expr}
use Rattle.design_ir.specs.declared.process.DesignProcess.{DesignProcess}
use Rattle.design_ir.specs.Pools.{Pooled}
use Rattle.design_ir.specs.PoolRules.{IsPool}
use Rattle.design_ir.specs.Trees.{Statement, assign, choose, Choices, none, arm, Block, done, next}
use Rattle.design_ir.specs.Values.{form, num}
use Rattle.design_ir.specs.Targets.{Bit, target_signals, target_bits, fixed_place}
use Rattle.design_ir.specs.Needed.{needed, needed_whole, needed_indices, extended}
use Rattle.design_ir.specs.Fixed.{is_fixed, is_plain}
use Rattle.design_ir.specs.Guards.{Guard, Guarded, guarded, driven, statement_exprs, choices_exprs, block_exprs}
use Rattle.design_ir.specs.Put.{put_number, put_statement, put_choices, put}
use Rattle.design_ir.specs.Loops.{needed_value, AssignmentNeeds}
use Rattle.design_ir.specs.Circuits.{is_among}
use Rattle.digraph.proofs.Members.{all_from_contains}
use Rattle.flat_design.specs.Growing.{IsMore, IsReadable}
use Rattle.flat_design.specs.Flat.{IsFlatBody, AreFlatProcesses}
use Rattle.flat_design.proofs.Growing.{fixed_more, readable_more, signals_more, num_more, bits_more, aims_more, indices_more, needed_whole_more, form_more, needed_more}
use Rattle.flat_design.proofs.BlockParts.{all_left, all_right, HasParts, block_parts}
use Rattle.flat_design.proofs.FlatOrders.{all_of}
use Rattle.flat_design.proofs.FlatPairs.{with_exprs, pool_is}

module _ (q : Pooled) (es : List Expr) (rules : IsPool q) (more : IsMore q (with_exprs q es)) where
  abbrev r : Pooled
  r = with_exprs q es

  abbrev IsThere : ExprId → Type 0
  IsThere e = e.0 < length q.exprs

  plain_more : (b : Block) → AllByRecursion IsThere (block_exprs b) → is_plain r b ≡ is_plain q b
  plain_more done there = refl
  plain_more (next (assign t v p) rest) there = ap (λ x. x && is_plain r rest) (fixed_more q r rules more t.0 there.0) ∙ ap (λ x. is_fixed q t.0 && x) (plain_more rest there.1.1)
  plain_more (next (choose arms) rest) there = refl

  module _ (env : List ℤ) where
    mutual
      statement_more : (s : Statement) → AllByRecursion IsThere (statement_exprs s) → (cur : List ℤ) → put_statement r env s cur ≡ put_statement q env s cur
      statement_more (assign t v p) there cur =
          ap (λ places. put_number q places (num r env v.0) cur) (bits_more q r rules more env t.0 there.0) ∙ ap (λ n. put_number q (target_bits q env t.0) n cur) (num_more q r rules more env v.0 there.1.0)
      statement_more (choose arms) there cur = choices_more arms there cur

      choices_more : (arms : Choices) → AllByRecursion IsThere (choices_exprs arms) → (cur : List ℤ) → put_choices r env arms cur ≡ put_choices q env arms cur
      choices_more none there cur = refl
      choices_more (arm c body others) there cur =
          ap (λ n. if is_zero n then put_choices r env others cur else put r env body cur) (num_more q r rules more env c.0 there.0)
          ∙ ap (λ x. if is_zero (num q env c.0) then x else put r env body cur) (choices_more others (all_right IsThere (block_exprs body) (choices_exprs others) there.1) cur)
          ∙ ap (λ x. if is_zero (num q env c.0) then put_choices q env others cur else x) (put_more body (all_left IsThere (block_exprs body) (choices_exprs others) there.1) cur)

      put_more : (b : Block) → AllByRecursion IsThere (block_exprs b) → (cur : List ℤ) → put r env b cur ≡ put q env b cur
      put_more done there cur = refl
      put_more (next s rest) there cur =
          ap (put r env rest) (statement_more s (all_left IsThere (statement_exprs s) (block_exprs rest) there) cur) ∙ put_more rest (all_right IsThere (statement_exprs s) (block_exprs rest) there) (put_statement q env s cur)

  flat_same : {A B : Type 0} (f g : A → List B) (xs : List A) → AllByRecursion (λ x. f x ≡ g x) xs → flat_map f xs ≡ flat_map g xs
  flat_same f g [] h = refl
  flat_same f g (x ∷ xs) h = let a = h.0 in let b = flat_same f g xs h.1 in cc

  all_map : {A : Type 0} {P Q : A → Type 0} (f : (x : A) → P x → Q x) (xs : List A) → AllByRecursion P xs → AllByRecursion Q xs
  all_map f [] h = tt
  all_map f (x ∷ xs) h = (f x h.0, all_map f xs h.1)

  driven_more : (b : Block) → AllByRecursion IsThere (block_exprs b) → driven r b ≡ driven q b
  driven_more b there =
      flat_same (λ (g : Guarded). target_signals r g.target.0) (λ (g : Guarded). target_signals q g.target.0) (guarded [] b)
      (all_map (λ g (h : HasParts IsThere g). signals_more q r rules more g.target.0 h.target) (guarded [] b) (block_parts IsThere [] b tt there))

  value_more : (v : ExprId) (o : Option ℕ) → IsThere v → needed_value r v o ≡ needed_value q v o
  value_more v None there = needed_whole_more q r rules more v there
  value_more v (Some k) there = ap (λ f. extended f (needed r v.0) k) (form_more q r rules more v.0 there) ∙ ap (λ bits. extended (form q v.0) bits k) (needed_more q r rules more v.0 there)

  guarded_needs : (g : Guarded) (b c : Bit) → HasParts IsThere g → AssignmentNeeds r g b c → AssignmentNeeds q g b c
  guarded_needs g b c parts n = record {
    aim = n.aim;
    may = subst (λ xs. Contains xs n.aim) (aims_more q r rules more g.target.0 parts.target) n.may;
    writes = n.writes;
    reads =
        let guards : flat_map (λ (x : Guard). needed_whole r x.condition) g.guards ≡ flat_map (λ (x : Guard). needed_whole q x.condition) g.guards =
        flat_same (λ (x : Guard). needed_whole r x.condition) (λ (x : Guard). needed_whole q x.condition) g.guards (all_map (λ (x : Guard) h. needed_whole_more q r rules more x.condition h) g.guards parts.guards) in
        subst (λ xs. Contains xs c)
        (ap (λ xs. xs ++ needed_indices r g.target.0 ++ needed_value r g.value (fixed_place n.aim.spot)) guards
        ∙ ap (λ xs. flat_map (λ (x : Guard). needed_whole q x.condition) g.guards ++ xs ++ needed_value r g.value (fixed_place n.aim.spot)) (indices_more q r rules more g.target.0 parts.target)
        ∙ ap (λ xs. flat_map (λ (x : Guard). needed_whole q x.condition) g.guards ++ needed_indices q g.target.0 ++ xs) (value_more g.value (fixed_place n.aim.spot) parts.value))
        n.reads;
  }

  body_more : (p : Pooled) (clocked : Bool) (old new : Block) → IsFlatBody p q clocked old new → IsFlatBody p r clocked old new
  body_more p clocked old new flat =
      let there : AllByRecursion IsThere (block_exprs new) = all_from_contains IsThere (block_exprs new) (λ e among. (All-contains (IsReadable q) (block_exprs new) e flat.readable among).there) in
      record {
        plain = plain_more new there ∙ flat.plain;
        readable = All-weaker (IsReadable q) (IsReadable r) (readable_more q r rules more) (block_exprs new) flat.readable;
        drives = λ s. ap (λ xs. is_among xs s) (driven_more new there) ∙ flat.drives s;
        puts = λ env cur fit fit-cur long starts. put_more env new there cur ∙ flat.puts env cur fit fit-cur long starts;
        needs = λ comb g b c among n. flat.needs comb g b c among (guarded_needs g b c (all_of (HasParts IsThere) (guarded [] new) g (block_parts IsThere [] new tt there) among) n);
      }

pub flat_more : (p q r : Pooled) (olds news : List DesignProcess) → IsPool q → IsMore q r → AreFlatProcesses p q olds news → AreFlatProcesses p r olds news
flat_more p q r olds news rules more are =
    let is : r ≡ with_exprs q r.exprs = pool_is q r more in
    subst (λ x. AreFlatProcesses p x olds news) (sym is) (all_more olds news are)
  where
    still : IsMore q (with_exprs q r.exprs)
    still = record { signals = refl; more = more.more; exprs = more.exprs }

    all_more : (olds news : List DesignProcess) → AreFlatProcesses p q olds news → AreFlatProcesses p (with_exprs q r.exprs) olds news
    all_more [] [] are = tt
    all_more [] (n ∷ news) are = absurd are
    all_more (o ∷ olds) [] are = absurd are
    all_more (o ∷ olds) (n ∷ news) are = (record { domain = are.0.domain; body = body_more q r.exprs rules still p _ o.body n.body are.0.body }, all_more olds news are.1)
