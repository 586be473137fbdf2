use Rattle.std.proofs.Common.{◌≡◌, ◌∙◌, ◌&&◌, ℕ, Bool, length, ap}
use Rattle.std.specs.List.{filter, range_with_len}
use Rattle.std.proofs.lemmas.Result.{IfOk-weaker}
use Rattle.fragment_walks.specs.Marks.{is_marked}
use Rattle.domain_transforms.specs.Anew.{AreAnew}
use Rattle.domain_transforms.specs.Changes.{id_of}
use Rattle.domain_transforms.specs.Placed.{fragment_exprs}
use Rattle.domain_transforms.specs.Renamed.{anew, remade, renamed_pool}
use Rattle.domain_transforms.proofs.AnewLaws.{are_ids, are_pool, are_remade}
use Rattle.domain_transforms.proofs.remaking.anew_ids.Goals as goal

pub returns-clause-ids : goal.returns-clause-ids
returns-clause-ids c =
    let q = c.args.pool.now in
    let names = c.args.names.now in
    let new = c.remade_ids.new.pool in
    let roots = fragment_exprs c.args.f.now in
    let test : ℕ → Bool = λ k. is_marked c.as_slice.result.now k && is_marked c.as_slice-2.result.now k in
    let ks : filter test (range_with_len 0 (length q.exprs)) ≡ remade names q roots =
    are_remade names q roots c.as_slice.result.now c.as_slice-2.result.now (λ k low. ap (λ ms. is_marked ms k) c.as_slice.ensures.value ∙ c.in_ok-within.ensures.each k low) (λ k. ap (λ ms. is_marked ms k) c.as_slice-2.ensures.value ∙ c.in_ok-touched.ensures.each k) in
    IfOk-weaker c.remade_ids.result (λ v. AreAnew names q test (length q.exprs) v.items new) (λ v. id_of v.items ≡ anew (length q.exprs) (remade names q roots)) (λ v h. are_ids names q test v.items new h (remade names q roots) ks) c.remade_ids.ensures

pub returns-clause-pool : goal.returns-clause-pool
returns-clause-pool c =
    let q = c.args.pool.now in
    let names = c.args.names.now in
    let new = c.remade_ids.new.pool in
    let roots = fragment_exprs c.args.f.now in
    let test : ℕ → Bool = λ k. is_marked c.as_slice.result.now k && is_marked c.as_slice-2.result.now k in
    let ks : filter test (range_with_len 0 (length q.exprs)) ≡ remade names q roots =
    are_remade names q roots c.as_slice.result.now c.as_slice-2.result.now (λ k low. ap (λ ms. is_marked ms k) c.as_slice.ensures.value ∙ c.in_ok-within.ensures.each k low) (λ k. ap (λ ms. is_marked ms k) c.as_slice-2.ensures.value ∙ c.in_ok-touched.ensures.each k) in
    IfOk-weaker c.remade_ids.result (λ v. AreAnew names q test (length q.exprs) v.items new) (λ v. new ≡ renamed_pool names q (remade names q roots)) (λ v h. are_pool names q test v.items new h (remade names q roots) ks) c.remade_ids.ensures
