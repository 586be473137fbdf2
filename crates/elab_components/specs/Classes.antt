-- Classes over `Elaboratable`, and their objects. (Amaranth language guide 0.5, "Elaboration".)
use Rattle.std.specs.Prelude.{ℕ, ◌==◌, Bool, true, false, if◌then◌else◌, List, [], ◌∷◌, Option, Some, None}
use Rattle.std.specs.List.{list_any}
use Rattle.py_values.specs.declared.val.Val.{Val}
use Rattle.py_values.specs.declared.val.Val.TheVariants as val
use Rattle.py_frames.specs.declared.request.Answer.TheVariants as answer
use Rattle.py_frames.specs.declared.request.Cause.TheVariants.{Raised}
use Rattle.elab_store.specs.declared.kept.HdlName.TheVariants as hdl
use Rattle.elab_store.specs.declared.kept.Kept.{Kept}
use Rattle.elab_store.specs.declared.kept.Kept.TheVariants as kept
use Rattle.elab_store.specs.Stores.{Held, Answered, refused, given, kept_of}

-- `Elaboratable`, or a class over it; of what stands over another thing no class was made
abbrev pub is_base : Option Kept → Val → Bool
is_base (Some (kept.Name hdl.Elaboratable)) v = true
is_base None (val.Class c) = true
is_base k v = false

-- a name that says what a keyword of the class is, which none may have
abbrev pub is_keyword : List ℕ → Bool
is_keyword [] = false
is_keyword (b ∷ bs) = b == 61

abbrev pub class_made : List Val → List (List ℕ) → Held → Answered
class_made (class ∷ base ∷ vs) names h =
    if is_base (kept_of h.store base) base then (if list_any is_keyword names then refused Raised h else given class h) else refused Raised h
class_made vs names h = refused Raised h

-- an object has nothing of `Elaboratable`, which takes no arguments
abbrev pub base_called : List Val → List (List ℕ) → Held → Answered
base_called (object ∷ []) [] h = record { answer = answer.Bind []; held = h }
base_called vs names h = refused Raised h
