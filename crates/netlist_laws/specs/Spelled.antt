-- Bits of wires and constants as a spec with few parts: neighbours of one wire stand together.
use Rattle.std.specs.Prelude.{suc, ◌==◌, ◌&&◌, if◌then◌else◌, List, [], ◌∷◌}
use Rattle.lists.specs.Texts.{text_eq}
use Rattle.rtlil_text.specs.declared.sig.SigPart.{SigPart}
use Rattle.rtlil_text.specs.declared.sig.SigPart.TheVariants as parts
use Rattle.rtlil_text.specs.Sources.{Source, Constant, Net}

abbrev pub one_part : Source → SigPart
one_part (Constant b) = parts.Const (b ∷ [])
one_part (Net id i) = parts.Wire id i 1

-- the bit below a part's lowest: it joins the part where it is its neighbour
abbrev pub below : Source → SigPart → List SigPart
below (Constant b) (parts.Const bits) = parts.Const (b ∷ bits) ∷ []
below (Constant b) (parts.Wire id low width) = parts.Wire id low width ∷ parts.Const (b ∷ []) ∷ []
below (Net id i) (parts.Const bits) = parts.Const bits ∷ parts.Wire id i 1 ∷ []
below (Net id i) (parts.Wire wire low width) =
    if text_eq id wire && (suc i == low) then parts.Wire wire i (suc width) ∷ [] else parts.Wire wire low width ∷ parts.Wire id i 1 ∷ []

-- the lowest bit behind the parts of those above it
abbrev pub added_below : Source → List SigPart → List SigPart
added_below x [] = one_part x ∷ []
added_below x (p ∷ []) = below x p
added_below x (p ∷ q ∷ ps) = p ∷ added_below x (q ∷ ps)

-- the spec of these bits, the lowest first
unfoldable pub spec_of : List Source → List SigPart
spec_of [] = []
spec_of (x ∷ xs) = added_below x (spec_of xs)
