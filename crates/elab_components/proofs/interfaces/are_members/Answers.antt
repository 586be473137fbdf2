use Rattle.std.proofs.Common.{◌≡◌, ℕ, List, [], ◌∷◌, ◌++◌, ◌∙◌, sym, ap, refl, arith, Bool, true, false, cond}
use Rattle.std.specs.Prelude.{string_bytes, bytes_eq}
use Rattle.std.specs.List.{list_any}
use Rattle.std.specs.BTreeSet.{contains_text}
use Rattle.std.specs.BTreeMap.{is_at}
use Rattle.std.specs.Cmp.Lexicographic.{slice_cmp}
use Rattle.std.specs.Ordering.{nat_cmp}
use Rattle.std.proofs.lemmas.Map.Text.{btree_set_updates_text}
use Rattle.lists.specs.Texts.{text_eq}
use Rattle.elab_components.specs.Interfaces.{signature_name}
use Rattle.identifiers.specs.Identifiers.{is_identifier}
use Rattle.elab_components.proofs.ComponentLaws.{among_more, named_more}
use Rattle.elab_components.proofs.interfaces.are_members.Goals as goal

pub loop-m-init : goal.loop-m-init
loop-m-init c =
    let key : string_bytes c.in_ok-from_str.field-0 ≡ signature_name = c.in_ok-from_str.ensures.ok in
    let put = btree_set_updates_text (string_bytes c.in_ok-from_str.field-0) c.new-names.result c.insert.new.self true c.in_ok-insert.ensures.updates in
    let empty_set : (q : List ℕ) → contains_text c.new-names.result q ≡ false = λ q. ap (list_any (λ k. is_at (λ x. slice_cmp nat_cmp q (string_bytes x)) k)) c.new-names.ensures.empty in (
      signature_name ∷ [],
      refl,
      λ q.
          put q
          ∙ ap (λ (bs : List ℕ). cond (bytes_eq bs q) true (contains_text c.new-names.result q)) key
          ∙ ap (λ (b : Bool). cond (bytes_eq signature_name q) true b) (empty_set q)
          ∙ among_more [] signature_name q,
    )

pub loop-m-preserved : goal.loop-m-preserved
loop-m-preserved c =
    let ms = c.args.members.now in
    let i = c.loop-m.m-index in
    let m = c.m-item.result in
    let before = c.loop-m.invariant.0 in
    let names = c.loop-m.names in
    let key : string_bytes c.in_ok-from_str-2.field-0 ≡ m.name = c.in_ok-from_str-2.ensures.ok ∙ c.as_str-name.ensures in
    let put = btree_set_updates_text (string_bytes c.in_ok-from_str-2.field-0) names c.insert-in-loop-m.new.self true c.in_ok-insert-2.ensures.updates in
    let formed : is_identifier m.name ≡ true = ap is_identifier (sym c.as_str-name.ensures) ∙ sym c.in_ok-is_identifier.ensures.value ∙ c.if-not-branch.false in
    let apart : list_any (text_eq m.name) before ≡ false =
    sym (c.loop-m.invariant.2 m.name) ∙ ap (contains_text names) (sym c.as_str-name.ensures) ∙ sym c.contains.ensures ∙ c.if-contains.false in (
      before ++ m.name ∷ [],
      sym (named_more before ms i m (omega arith) (sym c.m-item.is) formed apart) ∙ c.loop-m.invariant.1,
      λ q. put q
          ∙ ap (λ (bs : List ℕ). cond (bytes_eq bs q) true (contains_text names q)) key
          ∙ ap (λ (b : Bool). cond (bytes_eq m.name q) true b) (c.loop-m.invariant.2 q)
          ∙ among_more before m.name q,
    )
