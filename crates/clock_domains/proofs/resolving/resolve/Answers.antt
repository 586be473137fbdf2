use Rattle.std.proofs.Common.{◌≡◌, List, None, Ok, refl, sym, ◌∙◌, ap, subst}
use Rattle.std.specs.Prelude.{IfOk, IfErr}
use Rattle.std.specs.List.{AllByRecursion}
use Rattle.std.proofs.lemmas.Result.{err_from_is_err_and}
use Rattle.design_ir.specs.declared.domain.Domain.{Domain}
use Rattle.design_ir.specs.Pools.{Pooled}
use Rattle.fragment_walks.specs.Walks.{all_contents}
use Rattle.clock_domains.specs.Ready.{IsReady}
use Rattle.clock_domains.specs.Resolved.{IsResolveRefusal, made_domains, resolved, resolved_in, whole_pool}
use Rattle.clock_domains.proofs.ReadyLaws.{domain_owed, resolved_is, walked_ready}
use Rattle.clock_domains.proofs.resolving.resolve.Goals as goal

pub placed_domains-requires : goal.placed_domains-requires
placed_domains-requires c = (refl, c.requires.tree)

pub design_in-requires-clause-ready : goal.design_in-requires-clause-ready
design_in-requires-clause-ready c =
    let q = c.args.pool in
    let root = c.args.root in
    let top = c.args.top in
    let placed = c.in_ok-held.ensures in
    subst (λ (p : Pooled). IsReady p c.in_ok-held.field-0.domains root.processes (all_contents root) top) (sym placed.pool)
    (subst (λ (ds : List Domain). IsReady (whole_pool q root) ds root.processes (all_contents root) top) (sym placed.domains) (walked_ready q root top c.requires c.known.ensures placed.made placed.accepted))

pub returns-in_err-held-clause-refused : goal.returns-in_err-held-clause-refused
returns-in_err-held-clause-refused c =
    let p = err_from_is_err_and c.from_residual.result c.from_residual.ensures.1 in
    rw (p.1, p.2) (domain_owed c.args.pool c.args.root c.args.top _ c.in_err-held.ensures.refused)

pub returns-clause-design : goal.returns-clause-design
returns-clause-design c =
    let q = c.args.pool in
    let root = c.args.root in
    let top = c.args.top in
    let placed = c.in_ok-held.ensures in
    let same : resolved q root top ≡ resolved_in c.placed_domains.new.pool c.in_ok-held.field-0.domains root.processes (all_contents root) top =
    resolved_is q root top placed.accepted
    ∙ ap (λ (p : Pooled). resolved_in p (made_domains q root) root.processes (all_contents root) top) (sym placed.pool)
    ∙ ap (λ (ds : List Domain). resolved_in c.placed_domains.new.pool ds root.processes (all_contents root) top) (sym placed.domains) in
    subst (λ r. IfOk c.design_in.result (λ d. r ≡ Ok d)) (sym same) c.design_in.ensures.design

pub returns-clause-refused : goal.returns-clause-refused
returns-clause-refused c =
    let q = c.args.pool in
    let root = c.args.root in
    let top = c.args.top in
    let placed = c.in_ok-held.ensures in
    let same : resolved q root top ≡ resolved_in c.placed_domains.new.pool c.in_ok-held.field-0.domains root.processes (all_contents root) top =
    resolved_is q root top placed.accepted
    ∙ ap (λ (p : Pooled). resolved_in p (made_domains q root) root.processes (all_contents root) top) (sym placed.pool)
    ∙ ap (λ (ds : List Domain). resolved_in c.placed_domains.new.pool ds root.processes (all_contents root) top) (sym placed.domains) in
    subst (λ r. IfErr c.design_in.result (IsResolveRefusal r)) (sym same) c.design_in.ensures.refused
