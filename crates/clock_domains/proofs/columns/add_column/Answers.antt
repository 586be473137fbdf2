use Rattle.std.proofs.Common.{◌≡◌, ◌∙◌, ◌++◌, ◌∷◌, [], ℕ, List, false, is_some, sym, ap, subst}
use Rattle.std.specs.BTreeMap.{get_by_text}
use Rattle.design_ir.specs.declared.port.Column.{Column}
use Rattle.fragment_walks.proofs.Lists.{map-push}
use Rattle.clock_domains.specs.Resolved.{has_name}
use Rattle.clock_domains.specs.Tracked.{names_of, IsPut, Tracks}
use Rattle.clock_domains.proofs.NameLaws.{fresh_new, tracks_new}
use Rattle.clock_domains.proofs.columns.add_column.Goals as goal

pub add_numbered-requires-clause-last : goal.add_numbered-requires-clause-last
add_numbered-requires-clause-last c = sym c.last_number.ensures ∙ c.in-Some.is

pub returns-in-None-clause-tracked : goal.returns-in-None-clause-tracked
returns-in-None-clause-tracked c =
    let names = names_of c.args.columns.now in
    let name = c.args.name.now in
    let none : has_name names name ≡ false = sym (c.requires.has name) ∙ ap is_some (sym c.last_number.ensures ∙ c.in-None.is) in
    let put : IsPut (get_by_text c.args.numbers.now) name 0 (get_by_text c.add_new.new.numbers) = subst (λ n. IsPut (get_by_text c.args.numbers.now) n 0 (get_by_text c.add_new.new.numbers)) c.in_ok-name-in-None.ensures c.in_ok-add_new-in-None.ensures.numbers in
    let now : names_of c.add_new.new.columns ≡ names ++ name ∷ [] =
    ap names_of c.in_ok-add_new-in-None.ensures.columns ∙ map-push (λ (x : Column). x.name) c.args.columns.now (record { name = c.in_ok-name-in-None.name; sig = c.args.sig }) ∙ ap (λ (n : List ℕ). names ++ n ∷ []) c.in_ok-name-in-None.ensures in
    subst (Tracks (get_by_text c.add_new.new.numbers)) (sym now) (tracks_new (get_by_text c.args.numbers.now) (get_by_text c.add_new.new.numbers) names name c.requires none put)

pub returns-in-None-clause-columns : goal.returns-in-None-clause-columns
returns-in-None-clause-columns c =
    let names = names_of c.args.columns.now in
    let name = c.args.name.now in
    let none : has_name names name ≡ false = sym (c.requires.has name) ∙ ap is_some (sym c.last_number.ensures ∙ c.in-None.is) in
    c.in_ok-add_new-in-None.ensures.columns ∙ ap (λ (n : List ℕ). c.args.columns.now ++ record { name = n; sig = c.args.sig } ∷ []) (c.in_ok-name-in-None.ensures ∙ sym (fresh_new names name none))
