use Rattle.std.proofs.Common.{subst, sym, List, ℕ}
use Rattle.std.specs.Prelude.{Err, IfSome, IfOk}
use Rattle.std.proofs.lemmas.Result.{IfOk-weaker}
use Rattle.amh_host.specs.Seen.{Seen}
use Rattle.amh_host.specs.Whole.{ReadsWhole}
use Rattle.amh_host.specs.declared.whole.Whole.{Whole}
use Rattle.amh_host.specs.declared.whole.Whole.TheVariants.{Bytes, TooLong}
use Rattle.amh_tool.specs.declared.refusal.Refusal.{Refusal}
use Rattle.amh_tool.specs.declared.refusal.DesignStop.{DesignStop}
use Rattle.amh_tool.specs.DesignGives.{DesignGives, given_seen}
use Rattle.amh_tool.specs.Designs.{gives, refuses, spends, IsDesigned}
use Rattle.amh_tool.specs.Outcome.{Rejected, IsJudged, Refuses, Spends}
use Rattle.amh_tool.specs.Views.{plan_seen}
use Rattle.amh_tool.specs.Verdicts.{IsFoundAs}
use Rattle.amh_tool.specs.Work.{IsFor}
use Rattle.amh_tool.proofs.AcceptLaws.{found_as, too_long, read_design_of, refused_at_once, spent_at_once}
use Rattle.amh_tool.proofs.accept.accept.Goals as goal

pub returns-in-TooLong-clause-found : goal.returns-in-TooLong-clause-found
returns-in-TooLong-clause-found g c =
    let p = plan_seen c.args.plan.now in
    let told = (g.H.Host.seen c.args.host.now).files in
    let w : ReadsWhole told p.design 1_048_576 (TooLong c.in-TooLong.field-0) = subst (λ (w : Whole). ReadsWhole told p.design 1_048_576 w) c.in-TooLong.is c.in_ok-text.ensures.bytes in
    subst (λ (r : Refusal). IsFor p (Rejected (Refuses r)) told) (sym c.too_long.ensures) (too_long p told c.in-TooLong.field-0 w)

pub returns-in-Ok-clause-found : goal.returns-in-Ok-clause-found
returns-in-Ok-clause-found g c =
    let p = plan_seen c.args.plan.now in
    let told = (g.H.Host.seen c.args.host.now).files in
    let v = c.in-Bytes.text in
    let found = gives (given_seen c.in-Ok.ranked) in
    let d : IsDesigned p v.items found = subst (λ (bytes : List ℕ). IsDesigned p bytes found) c.deref.ensures.value c.in-Ok.ensures.given in
    let w : ReadsWhole told p.design 1_048_576 (Bytes v) = subst (λ (w : Whole). ReadsWhole told p.design 1_048_576 w) c.in-Bytes.is c.in_ok-text.ensures.bytes in
    IfOk-weaker c.accept_script.result _ _
    (λ x h. found_as _ _ x (λ y. read_design_of p told v found y w d) h)
    (subst (λ (s : Seen). IfOk c.accept_script.result (IsFoundAs (λ x. IfSome s.files (λ files. IsJudged p files found x)))) c.in_ok-text.ensures.same c.accept_script.ensures.found)

pub returns-in-Err-Refused-clause-found : goal.returns-in-Err-Refused-clause-found
returns-in-Err-Refused-clause-found g c =
    let p = plan_seen c.args.plan.now in
    let told = (g.H.Host.seen c.args.host.now).files in
    let v = c.in-Bytes.text in
    let why = c.in-Err-Refused.why in
    let given : DesignGives p c.deref.result.now (Err c.in-Err-Refused.field-0) = c.in-Err-Refused.ensures.given in
    let said : IsDesigned p c.deref.result.now (refuses why) = subst (λ (x : DesignStop). DesignGives p c.deref.result.now (Err x)) c.in-Err-Refused.field-0-is given in
    let d : IsDesigned p v.items (refuses why) = subst (λ (bytes : List ℕ). IsDesigned p bytes (refuses why)) c.deref.ensures.value said in
    let w : ReadsWhole told p.design 1_048_576 (Bytes v) = subst (λ (w : Whole). ReadsWhole told p.design 1_048_576 w) c.in-Bytes.is c.in_ok-text.ensures.bytes in
    rw c.in-Err-Refused.field-0-is (read_design_of p told v (refuses why) (Rejected (Refuses why)) w d (refused_at_once p told why))

pub returns-in-Err-Spent-clause-found : goal.returns-in-Err-Spent-clause-found
returns-in-Err-Spent-clause-found g c =
    let p = plan_seen c.args.plan.now in
    let told = (g.H.Host.seen c.args.host.now).files in
    let v = c.in-Bytes.text in
    let place = c.in-Err-Spent.place in
    let given : DesignGives p c.deref.result.now (Err c.in-Err-Spent.field-0) = c.in-Err-Spent.ensures.given in
    let said : IsDesigned p c.deref.result.now (spends place) = subst (λ (x : DesignStop). DesignGives p c.deref.result.now (Err x)) c.in-Err-Spent.field-0-is given in
    let d : IsDesigned p v.items (spends place) = subst (λ (bytes : List ℕ). IsDesigned p bytes (spends place)) c.deref.ensures.value said in
    let w : ReadsWhole told p.design 1_048_576 (Bytes v) = subst (λ (w : Whole). ReadsWhole told p.design 1_048_576 w) c.in-Bytes.is c.in_ok-text.ensures.bytes in
    rw c.in-Err-Spent.field-0-is (read_design_of p told v (spends place) (Rejected (Spends place)) w d (spent_at_once p told place))
