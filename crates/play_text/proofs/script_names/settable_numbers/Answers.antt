use Rattle.std.proofs.Common.{◌≡◌, ◌∙◌, sym, ap, ℕ, List, cond, false, BTreeMap, nat_cmp}
use Rattle.std.specs.Prelude.{Option, Some, is_some, bytes_eq}
use Rattle.std.specs.BTreeMap.{get_by}
use Rattle.std.specs.Cmp.Lexicographic.{slice_cmp}
use Rattle.std.proofs.lemmas.Map.Text.{btree_map_updates_str}
use denote.Ref.{Bor}
use Rattle.play_text.proofs.ScriptNameLaws.{numbered_same, numbered_new, not_settable, known_twin}
use Rattle.play_text.proofs.script_names.settable_numbers.Goals as goal
use Rattle.play_text.proofs.script_names.settable_numbers.Goals.{then-column+then-not-contains_key+in_ok-insert, else-column, else-column-via-then-column+else-not-contains_key, else-column-via-else-column}

abbrev found : BTreeMap (Bor (List ℕ)) ℕ → List ℕ → Option ℕ
found numbers q = get_by (λ (k : Bor (List ℕ)). slice_cmp nat_cmp q k.now) numbers

pub loop-number-preserved : goal.loop-number-preserved
loop-number-preserved c =
    let xs = c.args.columns.now in
    let i = c.loop-number.number in
    let x = c.index-columns-number.result in
    let old = c.loop-number.numbers in
    let name : c.as_bytes-name.result.now ≡ x.name = c.as_bytes-name.ensures.value ∙ c.as_str.ensures in
    elim c.if-column.branch [
      | then-column+then-not-contains_key+in_ok-insert w ↦
          let absent : is_some (found old x.name) ≡ false = ap (λ (q : List ℕ). is_some (found old q)) (sym name) ∙ sym w.contains_key.ensures ∙ w.if-not-contains_key.true in
          let put = btree_map_updates_str c.as_bytes-name.result.now old w.insert.new.self _ w.in_ok-insert.ensures.updates in
          λ q. ap (λ (m : BTreeMap (Bor (List ℕ)) ℕ). found m q) w.numbers-is
          ∙ numbered_new xs i x (found old) (found w.insert.new.self) c.loop-number-test.true c.index-columns-number.is c.loop-number.invariant w.if-column.true absent
          (λ r. put r ∙ ap (λ (bs : List ℕ). cond (bytes_eq bs r) (Some i) (found old r)) name) q
      | else-column w ↦ λ q. ap (λ (m : BTreeMap (Bor (List ℕ)) ℕ). found m q) w.numbers-is ∙
          (elim w.else-column.branch [
            | else-column-via-then-column+else-not-contains_key v ↦
                numbered_same xs i x (found old) c.loop-number-test.true c.index-columns-number.is c.loop-number.invariant
                (λ r. known_twin x r (found old) (ap (λ (n : List ℕ). is_some (found old n)) (sym name) ∙ sym v.contains_key.ensures ∙ v.if-not-contains_key.false)) q
            | else-column-via-else-column v ↦
                numbered_same xs i x (found old) c.loop-number-test.true c.index-columns-number.is c.loop-number.invariant
                (λ r. not_settable x r _ v.if-column.false) q
          ])
    ]
