use Rattle.std.proofs.Common.{◌≡◌, ◌∙◌, sym}
use Rattle.std.specs.Prelude.{string_bytes}
use Rattle.std.specs.BTreeMap.{get_by_text}
use Rattle.std.proofs.lemmas.Map.Text.{btree_map_updates_text}
use Rattle.clock_domains.proofs.PlacingLaws.{lacking_put}
use Rattle.clock_domains.proofs.placing.add_lacking.Goals as goal

pub returns : goal.returns
returns c =
    let d = c.args.definition.now in
    let key : string_bytes c.in_ok-name.name ≡ d.domain.name = c.in_ok-name.ensures.ok ∙ c.as_str.ensures in
    let put = btree_map_updates_text (string_bytes c.in_ok-name.name) c.args.lacking.now c.insert.new.self _ c.in_ok-insert.ensures.updates in
    lacking_put (get_by_text c.args.lacking.now) (get_by_text c.insert.new.self) d (string_bytes c.in_ok-name.name) key (sym c.is_some.ensures ∙ c.if-is_some.false) put
