use Rattle.std.proofs.Common.{◌≡◌, ◌∷◌, ◌++◌, [], ◌∙◌, ap, sym}
use Rattle.py_values.specs.declared.val.Val.{Val}
use Rattle.py_frames.specs.declared.request.NamedVal.{NamedVal}
use Rattle.elab_components.specs.Interfaces.{signature_name}
use Rattle.elab_store.specs.Stores.{next_thing}
use Rattle.elab_store.specs.Held.{held_of}
use Rattle.elab_components.proofs.interfaces.bind_interface.Goals as goal

pub returns : goal.returns
returns c =
    let names = c.args.names in
    let signature : c.in_ok-named_val.field-0 ≡ record { name = signature_name; val = next_thing (held_of c.args.elaboration.now) } =
    c.in_ok-named_val.ensures ∙ ap (λ (v : Val). record { name = signature_name; val = v }) c.in_ok-val.ensures.0 in
    let bound = sym (c.in_ok-push.ensures.ok ∙ ap (λ (x : NamedVal). names ++ x ∷ []) signature) in
    let kept = sym c.in_ok-val.ensures.1 in
    cc
