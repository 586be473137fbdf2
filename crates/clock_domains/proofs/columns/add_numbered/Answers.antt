use Rattle.std.proofs.Common.{◌≡◌, ◌∙◌, ◌++◌, ◌∷◌, [], ℕ, List, true, cond, is_some, sym, ap, subst}
use Rattle.std.specs.Prelude.{string_bytes, bytes_eq, Some}
use Rattle.std.specs.BTreeMap.{get_by_text}
use Rattle.std.proofs.lemmas.Map.Text.{btree_map_updates_text}
use Rattle.design_ir.specs.declared.port.Column.{Column}
use Rattle.fragment_walks.proofs.Lists.{map-push}
use Rattle.clock_domains.specs.Resolved.{has_name, numbered_name}
use Rattle.clock_domains.specs.Tracked.{names_of, IsPut, Tracks}
use Rattle.clock_domains.proofs.NameLaws.{fresh_is, tracks_numbered}
use Rattle.clock_domains.proofs.columns.add_numbered.Goals as goal

pub free_number-requires-clause-taken : goal.free_number-requires-clause-taken
free_number-requires-clause-taken c = c.requires.tracked.taken c.args.name.now c.args.last c.requires.last

pub returns-clause-columns : goal.returns-clause-columns
returns-clause-columns c =
    let names = names_of c.args.columns.now in
    let there : has_name names c.args.name.now ≡ true = sym (c.requires.tracked.has c.args.name.now) ∙ ap is_some c.requires.last in
    let fresh = fresh_is names c.args.name.now c.in_ok-number.number there c.in_ok-number.ensures in
    c.in_ok-add_new.ensures.columns ∙ ap (λ (n : List ℕ). c.args.columns.now ++ record { name = n; sig = c.args.sig } ∷ []) (c.in_ok-text.ensures ∙ sym fresh)

pub returns-clause-tracked : goal.returns-clause-tracked
returns-clause-tracked c =
    let names = names_of c.args.columns.now in
    let name = c.args.name.now in
    let number = c.in_ok-number.number in
    let there : has_name names name ≡ true = sym (c.requires.tracked.has name) ∙ ap is_some c.requires.last in
    let put = btree_map_updates_text (string_bytes c.in_ok-from_str.field-0) c.args.numbers.now c.insert.new.self _ c.in_ok-insert.ensures.updates in
    let first : IsPut (get_by_text c.args.numbers.now) name number (get_by_text c.insert.new.self) = λ q. put q ∙ ap (λ (bs : List ℕ). cond (bytes_eq bs q) (Some number) (get_by_text c.args.numbers.now q)) c.in_ok-from_str.ensures.ok in
    let second : IsPut (get_by_text c.insert.new.self) (numbered_name name number) 0 (get_by_text c.add_new.new.numbers) = subst (λ n. IsPut (get_by_text c.insert.new.self) n 0 (get_by_text c.add_new.new.numbers)) c.in_ok-text.ensures c.in_ok-add_new.ensures.numbers in
    let tracked = tracks_numbered (get_by_text c.args.numbers.now) (get_by_text c.insert.new.self) (get_by_text c.add_new.new.numbers) names name number c.requires.tracked there c.in_ok-number.ensures first second in
    let now : names_of c.add_new.new.columns ≡ names ++ numbered_name name number ∷ [] =
    ap names_of c.in_ok-add_new.ensures.columns ∙ map-push (λ (x : Column). x.name) c.args.columns.now (record { name = c.in_ok-text.text; sig = c.args.sig }) ∙ ap (λ (n : List ℕ). names ++ n ∷ []) c.in_ok-text.ensures in
    subst (Tracks (get_by_text c.add_new.new.numbers)) (sym now) tracked
