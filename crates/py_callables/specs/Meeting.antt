-- Words for arguments that meet parameters, one after the other.
-- Internal: no rule of the language.
use Rattle.std.specs.Prelude.{ℕ, Bool, if◌then◌else◌, List, ◌++◌, drop, Option, Some, None}
use Rattle.py_tree.specs.Steps.{Parameter}
use Rattle.py_values.specs.declared.val.Val.{Val}
use Rattle.py_frames.specs.declared.request.NamedVal.{NamedVal}
use Rattle.py_callables.specs.declared.call_meet.Meeting.{Meeting}
use Rattle.py_frames.specs.Functions.{parameters_met, taken_keyword}

-- behind those that were met before
abbrev pub behind_met : List NamedVal → Option (List NamedVal) → Option (List NamedVal)
behind_met met None = None
behind_met met (Some xs) = Some (met ++ xs)

-- what other parameters come to, behind those that were met
abbrev pub meeting_on : Meeting → List Val → List Val → List Parameter → Option (List NamedVal)
meeting_on m args defaults ps = behind_met m.met (parameters_met ps (drop m.next args) m.keywords (drop m.default defaults))

-- where a parameter meets an argument
abbrev pub if_met : Bool → Option (List NamedVal) → Option (List NamedVal)
if_met b more = if b then more else None

-- the first argument by a keyword, where it was found among those before
abbrev pub taken_on : Option Val → List ℕ → List NamedVal → List NamedVal → Option (Val × List NamedVal)
taken_on None name before keywords = taken_keyword name before keywords
taken_on (Some v) name before keywords = Some (v, before ++ keywords)
