-- The widths by ids after one more wire.
use Rattle.std.proofs.Common.{◌≡◌, ◌∙◌, ℕ, cond, List, [], ◌∷◌, ◌++◌, sym, ap}
use Rattle.std.specs.Prelude.{Option, Some, String, string_bytes}
use Rattle.std.specs.String.{string_cmp}
use Rattle.std.specs.Str.{bytes_eq}
use Rattle.std.specs.BTreeMap.{BTreeMap, Updates, get_by_text}
use Rattle.std.specs.declared.alloc.Global.{Global}
use Rattle.std.proofs.lemmas.Map.Text.{btree_map_updates_text}
use Rattle.rtlil_text.specs.declared.module.RtlWire.{RtlWire}
use Rattle.rtlil_text.specs.Written.{width_among}
use Rattle.rtlil_text.proofs.Found.{width_among-last}

pub width_among-more : (wires more : List RtlWire) (m n : BTreeMap (String Global) ℕ) (k : String Global) (w : RtlWire) → string_bytes k ≡ w.id → more ≡ wires ++ w ∷ [] → Updates string_cmp m n k (Some w.width)
    → ((id : List ℕ) → get_by_text m id ≡ width_among wires id) → (id : List ℕ) → get_by_text n id ≡ width_among more id
width_among-more wires more m n k w named grown u had id =
    btree_map_updates_text (string_bytes k) m n (Some w.width) u id
    ∙ ap (λ (key : List ℕ). cond (bytes_eq key id) (Some w.width) (get_by_text m id)) named
    ∙ ap (λ (before : Option ℕ). cond (bytes_eq w.id id) (Some w.width) before) (had id)
    ∙ sym (width_among-last wires w id)
    ∙ ap (λ (ws : List RtlWire). width_among ws id) (sym grown)
