use Rattle.std.proofs.Common.{rules, ◌≡◌, sym, ◌∙◌, subst, [], ◌∷◌, List, ℕ, map, string_bytes, arith}
use Rattle.py_frames.specs.declared.request.Cause.TheVariants.{Raised}
use Rattle.elab_components.specs.Imports.{imported, import_answered}
use Rattle.elab_store.specs.Held.{held_of, Gives}
use Rattle.elab_store.specs.Stores.{refused}
use Rattle.elab_components.proofs.ListLaws.{two_names, import_few, import_many}
use Rattle.elab_components.proofs.imports.import.Goals as goal
use Rattle.elab_components.proofs.imports.import.Goals.{in_default-via-then-items-lt2, in_default-via-else-items-lt2+else-this-lt3}

pub returns-in-len2 : goal.returns-in-len2
returns-in-len2 c =
    let path : c.as_str.result.now ≡ string_bytes c.path-item.result = c.as_str.ensures.value in
    let name : c.as_str-in-len2.result.now ≡ string_bytes c.name-item.result = c.as_str-in-len2.ensures.value in
    let names : c.args.request.now.names ≡ string_bytes c.path-item.result ∷ string_bytes c.name-item.result ∷ [] =
    sym c.items.ensures ∙ two_names string_bytes c.items.result.now c.path-item.result c.name-item.result (omega arith) c.path-item.is c.name-item.is in
    subst (λ (ns : List (List ℕ)). Gives c.import_from.result c.import_from.new.elaboration (import_answered ns (held_of c.args.elaboration.now))) (sym names)
    (subst (λ (p : List ℕ). Gives c.import_from.result c.import_from.new.elaboration (imported p (string_bytes c.name-item.result) (held_of c.args.elaboration.now))) path
    (subst (λ (n : List ℕ). Gives c.import_from.result c.import_from.new.elaboration (imported c.as_str.result.now n (held_of c.args.elaboration.now))) name c.import_from.ensures))

pub returns-in_default : goal.returns-in_default
returns-in_default c =
    let xs = c.items.result.now in
    let h = held_of c.args.elaboration.now in
    let other : import_answered (map string_bytes xs) h ≡ refused Raised h =
    elim c.in_default.branch [
      | in_default-via-then-items-lt2 w ↦ import_few string_bytes xs h (search rules)
      | in_default-via-else-items-lt2+else-this-lt3 w ↦ import_many string_bytes xs h (search rules)
    ] in
    subst (λ (ns : List (List ℕ)). Gives c.refuse.result c.refuse.new.self (import_answered ns h)) c.items.ensures
    (subst (Gives c.refuse.result c.refuse.new.self) (sym other) c.refuse.ensures)
