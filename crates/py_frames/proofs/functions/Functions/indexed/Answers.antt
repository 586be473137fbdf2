-- The number of a place is the number of the first function there.
use Rattle.std.proofs.Common.{◌≡◌, ◌∙◌, ap, sym, Bool}
use Rattle.py_frames.specs.declared.functions.KnownFunction.{KnownFunction}
use Rattle.py_frames.specs.declared.spots.Spot.{Spot}
use Rattle.py_frames.specs.Functions.{same_place, body_place}
use Rattle.py_frames.specs.Tables.{known_body, spot_at}
use Rattle.py_frames.specs.contracts.spots.SpotPartialEq.TheImpl.{eq-value}
use Rattle.py_frames.proofs.TableLaws.{indexed_some, indexed_none}
use Rattle.py_frames.proofs.functions.Functions.indexed.Goals as goal

pub returns-in-Some : goal.returns-in-Some
returns-in-Some c =
    let p : KnownFunction → Bool = λ x. same_place c.args.place (body_place (known_body x).0) in
    let same : (x : KnownFunction) → p x ≡ eq-value.it c.spot_of.result (spot_at x) = λ x. sym (ap (λ (s : Spot). eq-value.it s (spot_at x)) c.spot_of.ensures) in
    c.at.ensures ∙ indexed_some (eq-value.it c.spot_of.result) p same c.args.self.now.spots.keys c.args.self.now.table.items c.in-Some.number c.requires c.in-Some.ensures.index

pub returns-in-None : goal.returns-in-None
returns-in-None c =
    let p : KnownFunction → Bool = λ x. same_place c.args.place (body_place (known_body x).0) in
    let same : (x : KnownFunction) → p x ≡ eq-value.it c.spot_of.result (spot_at x) = λ x. sym (ap (λ (s : Spot). eq-value.it s (spot_at x)) c.spot_of.ensures) in
    indexed_none (eq-value.it c.spot_of.result) p same c.args.self.now.spots.keys c.args.self.now.table.items c.requires c.in-None.ensures.index
