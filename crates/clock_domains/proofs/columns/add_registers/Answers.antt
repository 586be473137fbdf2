use Rattle.std.proofs.Common.{◌≡◌, ◌∙◌, ◌++◌, ◌∷◌, [], ℕ, List, length, take, Some, slice_get, refl, sym, ap}
use Rattle.std.proofs.lemmas.Option.{slice_get_read}
use Rattle.fragment_walks.proofs.Lists.{take-push}
use Rattle.clock_domains.specs.Resolved.{columns_after, fresh_name}
use Rattle.clock_domains.specs.Tracked.{names_of}
use Rattle.clock_domains.proofs.NameLaws.{column_turn}
use Rattle.clock_domains.proofs.columns.add_registers.Goals as goal

pub loop-register-preserved : goal.loop-register-preserved
loop-register-preserved c =
    let rs = c.args.registers.now in
    let i = c.loop-register.register-index in
    let r = c.register-item.result in
    let at : slice_get rs i ≡ Some r = slice_get_read rs (length rs) i r refl c.loop-register-test.true c.register-item.is in
    let cur = c.loop-register.columns in
    let named = ap (λ (n : List ℕ). cur ++ record { name = fresh_name (names_of cur) n; sig = r.sig } ∷ []) c.as_str.ensures in
    record {
      columns =
          column_turn c.args.columns.now cur c.add_column.new.columns (take i rs) r c.loop-register.invariant.columns (c.in_ok-add_column.ensures.columns ∙ named)
          ∙ ap (λ cs. c.args.columns.now ++ columns_after (names_of c.args.columns.now) cs) (sym (take-push rs i r at));
      tracked = c.in_ok-add_column.ensures.tracked;
    }
