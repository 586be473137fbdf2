use Rattle.std.proofs.Common.{◌≡◌, ◌≤◌, ◌<◌, ◌∙◌, sym, ap, subst, ℕ, List, ◌∷◌, [], ◌++◌, take, true, false}
use Rattle.std.specs.Prelude.{nat_lt, bytes_eq, count_by}
use Rattle.std.proofs.lemmas.List.{append-nil}
use Rattle.design_ir.specs.declared.ids.DomainId.{DomainId}
use Rattle.play_text.specs.Script.{words_in}
use Rattle.play_text.proofs.ScriptEdgeLaws.{named_among, named_more, once_more, once_each-twice, once_each-whole, zero_times}
use Rattle.play_text.proofs.script_edge.once_each.Goals as goal
use Rattle.play_text.proofs.script_edge.once_each.Goals.{then-times-eq1+in_ok-push, else-times-eq1}

pub returns-then-times-gt1 : goal.returns-then-times-gt1
returns-then-times-gt1 c =
    let b = c.args.board.now in
    let ws = words_in c.args.words.now in
    let d = c.index-domains-number.result in
    let count : c.times-times.result ≡ count_by (bytes_eq d.name) ws = c.times-times.ensures.count ∙ ap (λ (n : List ℕ). count_by (bytes_eq n) ws) (c.as_bytes.ensures.value ∙ c.as_str.ensures) in
    let many : 1 < count_by (bytes_eq d.name) ws = subst (λ (n : ℕ). 1 < n) count c.if-times-gt1.true in
    once_each-twice b ws c.as_slice-domains.result.now c.loop-number.number d (sym c.as_slice-domains.ensures) c.loop-number-test.true c.index-domains-number.is many

pub loop-number-preserved : goal.loop-number-preserved
loop-number-preserved c =
    let ws = words_in c.args.words.now in
    let ds = c.as_slice-domains.result.now in
    let i = c.loop-number.number in
    let d = c.index-domains-number.result in
    let count : c.times-times.result ≡ count_by (bytes_eq d.name) ws = c.times-times.ensures.count ∙ ap (λ (n : List ℕ). count_by (bytes_eq n) ws) (c.as_bytes.ensures.value ∙ c.as_str.ensures) in
    let few : count_by (bytes_eq d.name) ws ≤ 1 = subst (λ (n : ℕ). n ≤ 1) count c.if-times-gt1.false in
    let once = once_more ws ds i d c.loop-number-test.true c.index-domains-number.is few c.loop-number.invariant.once in
    elim c.if-times-eq1.branch [
      | then-times-eq1+in_ok-push w ↦
          let one : nat_lt 0 (count_by (bytes_eq d.name) ws) ≡ true = ap (nat_lt 0) (sym count ∙ w.if-times-eq1.true) in
          record {
            clocks = w.clocks-is ∙ w.in_ok-push.ensures.ok ∙ ap (λ (xs : List DomainId). xs ++ record { 0 = i } ∷ []) c.loop-number.invariant.clocks ∙ sym (named_more ws ds i d true c.loop-number-test.true c.index-domains-number.is one);
            once = once;
          }
      | else-times-eq1 w ↦
          let none : nat_lt 0 (count_by (bytes_eq d.name) ws) ≡ false = zero_times (count_by (bytes_eq d.name) ws) few (λ e. w.if-times-eq1.false (count ∙ e)) in
          record {
            clocks = w.clocks-is ∙ c.loop-number.invariant.clocks ∙ sym (append-nil (named_among ws (take i ds))) ∙ sym (named_more ws ds i d false c.loop-number-test.true c.index-domains-number.is none);
            once = once;
          }
    ]

pub returns : goal.returns
returns c =
    once_each-whole c.args.board.now (words_in c.args.words.now) c.as_slice-domains.result.now c.loop-number.number c.loop-number.clocks (sym c.as_slice-domains.ensures) c.loop-number-test.false c.loop-number.invariant.clocks c.loop-number.invariant.once
