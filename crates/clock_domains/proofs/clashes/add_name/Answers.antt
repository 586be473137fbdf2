use Rattle.std.proofs.Common.{◌≡◌, ◌∙◌, ℕ, List, cond, ap}
use Rattle.std.specs.Prelude.{string_bytes, bytes_eq, Some}
use Rattle.std.specs.BTreeMap.{get_by_text}
use Rattle.std.proofs.lemmas.Map.Text.{btree_map_updates_text}
use Rattle.clock_domains.proofs.clashes.add_name.Goals as goal

pub returns : goal.returns
returns c q =
    let key : string_bytes c.in_ok-from_str.field-0 ≡ c.args.name.now = c.in_ok-from_str.ensures.ok in
    let put = btree_map_updates_text (string_bytes c.in_ok-from_str.field-0) c.args.names.now c.insert.new.self _ c.in_ok-insert.ensures.updates in
    put q ∙ ap (λ (bs : List ℕ). cond (bytes_eq bs q) (Some 0) (get_by_text c.args.names.now q)) key
