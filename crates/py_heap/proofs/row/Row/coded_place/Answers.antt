use Rattle.std.proofs.Common.{◌≡◌, ◌<◌, ◌*◌, ◌+◌, length, drop, ap, sym, subst, ◌∙◌, arith, refl}
use Rattle.py_heap.specs.declared.codes.Code.{Code}
use Rattle.py_heap.specs.declared.codes.Code.TheVariants.{Number, Thing}
use Rattle.py_heap.specs.Keys.{same_code, has_code}
use Rattle.py_heap.specs.Members.{value_place}
use Rattle.py_heap.specs.contracts.codes.CodePartialEq.TheImpl.{eq-value}
use Rattle.py_heap.proofs.KeyLaws.{place_coded, coded_test, coded_within, pair_or}
use Rattle.py_heap.proofs.row.Row.coded_place.Goals as goal

same_eq : (c d : Code) → same_code c d ≡ eq-value.it c d
same_eq (Number b m) (Number c n) = refl
same_eq (Number b m) (Thing y) = refl
same_eq (Thing x) (Number c n) = refl
same_eq (Thing x) (Thing y) = refl

pub returns-in-Some-clause-place : goal.returns-in-Some-clause-place
returns-in-Some-clause-place c =
    let test = eq-value.it c.args.code in
    let items = c.self.inside.items in
    let codes = c.self.inside.codes.keys in
    let whole = place_coded (has_code c.args.code) test (coded_test c.args.code test (same_eq c.args.code)) codes items c.self.invariant in
    let here = ap (λ i. pair_or i (value_place (has_code c.args.code) (2 * length codes) (drop (2 * length codes) items))) c.in-Some.ensures.index in
    sym (ap (value_place (has_code c.args.code) 0) (sym c.self.view_is) ∙ whole ∙ sym here)

pub returns-in-Some-clause-within : goal.returns-in-Some-clause-within
returns-in-Some-clause-within c =
    let w = coded_within c.self.inside.codes.keys c.self.inside.items c.self.invariant in
    let i : c.in-Some.i < length c.self.inside.codes.keys = c.in-Some.ensures.within in
    let r : 2 * c.in-Some.i + 1 < length c.self.inside.items = omega arith in
    subst (λ row. 2 * c.in-Some.i + 1 < length row) c.self.view_is r

pub returns-in-None-clause-place : goal.returns-in-None-clause-place
returns-in-None-clause-place c =
    let test = eq-value.it c.args.code in
    let items = c.self.inside.items in
    let codes = c.self.inside.codes.keys in
    let whole = place_coded (has_code c.args.code) test (coded_test c.args.code test (same_eq c.args.code)) codes items c.self.invariant in
    let rest = value_place (has_code c.args.code) (2 * length codes) (drop (2 * length codes) items) in
    let none = ap (λ i. pair_or i rest) c.in-None.ensures.index in
    let n = c.len-count.ensures.len in
    let r = c.as_slice.ensures in
    let walked = c.walked_place.ensures.place ∙ (λ i. value_place (has_code c.args.code) (2 * n i) (drop (2 * n i) (r i))) in
    walked ∙ none ∙ sym whole ∙ ap (value_place (has_code c.args.code) 0) c.self.view_is
