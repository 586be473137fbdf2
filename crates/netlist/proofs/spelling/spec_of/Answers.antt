use Rattle.std.proofs.Common.{◌≡◌, ◌≤◌, ◌+◌, ◌-◌, ◌++◌, ◌∷◌, [], length, map, take, drop, false, sym, ap, ◌∙◌, subst, arith}
use Rattle.netlist.specs.declared.sources.BitSource.TheVariants as sources
use Rattle.netlist_laws.specs.Module.{wire_id}
use Rattle.netlist_laws.specs.Spelled.{spec_of}
use Rattle.netlist.specs.Tables.{source_of, run_of}
use Rattle.netlist.proofs.LowerRuns.{spelled_none, spelled_first, spelled_joined, spelled_split}
use Rattle.netlist.proofs.spelling.spec_of.Goals as goal
use Rattle.netlist.proofs.spelling.spec_of.Goals.{then-not-branch+in_ok-part+in_ok-push, else-not-branch}

pub returns-then-count-eq0 : goal.returns-then-count-eq0
returns-then-count-eq0 c = c.new-spec.ensures ∙ sym (spelled_none (source_of (wire_id c.args.design.now)) c.args.bits.now c.if-count-eq0.true)

pub loop-j-init : goal.loop-j-init
loop-j-init c =
    let f = source_of (wire_id c.args.design.now) in
    let bits = c.args.bits.now in
    record {
      some = omega arith;
      within = omega arith;
      spelled = spelled_first f bits (sources.Constant false) (omega arith) ∙ ap (λ s. s ++ run_of (map f (take (length bits - (length bits - 1)) (drop (length bits - 1) bits))) ∷ []) (sym c.new-spec.ensures);
    }

pub loop-j-preserved : goal.loop-j-preserved
loop-j-preserved c =
    let f = source_of (wire_id c.args.design.now) in
    let bits = c.args.bits.now in
    let l = c.loop-j in
    let low = length bits - l.j in
    let some : 1 ≤ low = omega arith in
    let here : low - 1 ≡ length bits - (l.j + 1) = omega arith in
    elim c.if-not-branch.branch [
      | then-not-branch+in_ok-part+in_ok-push w ↦ rw (w.spec-is, w.high-is) (record {
        some = omega arith;
        within = omega arith;
        spelled =
            subst (λ k. spec_of (map f (drop k bits)) ≡ w.push.new.self ++ run_of (map f (take (low - k) (drop k bits))) ∷ []) here
            (spelled_split f bits _ low l.high l.spec some l.invariant.some l.invariant.within l.invariant.spelled w.in_ok-part.field-0 w.push.new.self (sym c.in_ok-joins.ensures ∙ w.if-not-branch.true) w.in_ok-part.ensures w.in_ok-push.ensures.ok);
      })
      | else-not-branch w ↦ rw (w.spec-is, w.high-is) (record {
        some = omega (arith, l.invariant.some);
        within = l.invariant.within;
        spelled =
            subst (λ k. spec_of (map f (drop k bits)) ≡ l.spec ++ run_of (map f (take (l.high - k) (drop k bits))) ∷ []) here
            (spelled_joined f bits _ low l.high l.spec some l.invariant.some l.invariant.within l.invariant.spelled (sym c.in_ok-joins.ensures ∙ w.if-not-branch.false));
      })
    ]
