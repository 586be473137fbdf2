-- Columns as rows show them, and the rows of a trace.
use Rattle.std.specs.Prelude.{◌≡◌, ℕ, Bool, true, false, if◌then◌else◌, List, [], ◌∷◌, ◌++◌, codes, map, ℤ}
use Rattle.std.proofs.Common.{refl, ap, ◌∙◌, append_assoc}
use Rattle.std.specs.Fmt.{decimal}
use Rattle.std.specs.List.{flat_map}
use Rattle.std.specs.Ordering.{int_eq}
use Rattle.amh_bits.specs.Decimals.{int_text}
use Rattle.design_ir.specs.Circuits.{at}
use Rattle.play_text.specs.declared.board.Shown.{Shown}
use Rattle.play_text.specs.declared.board.Board.{Board}
use Rattle.play_text.specs.Lanes.{label_of, lane_at, lanes_at, lane_text, moved, row_head}
use Rattle.play_text.specs.Trace.{Row, field, changed_field, changed_fields, event_text, row_line, line_feed}

-- a label and a number are the field
label_field : (name : List ℕ) (value : ℤ) → label_of name ++ int_text value ≡ field name value
unfolding field
label_field name value =
    append_assoc (codes " ") (name ++ codes "=") (int_text value)
    ∙ ap (λ (rest : List ℕ). codes " " ++ rest) (append_assoc name (codes "=") (int_text value))

-- a row shows of a column what changed
lane_text-at : (x : Shown) (before now : List ℤ) → lane_text now (lane_at before x) ≡ changed_field before now x
lane_text-at x before now = here (int_eq (at before x.sig.0) (at now x.sig.0))
  where
    here : (same : Bool) → (if same then [] else label_of x.name ++ int_text (at now x.sig.0)) ≡ (if same then [] else field x.name (at now x.sig.0))
    here true = refl
    here false = label_field x.name (at now x.sig.0)

pub lanes_text : (xs : List Shown) (before now : List ℤ) → flat_map (lane_text now) (lanes_at xs before) ≡ changed_fields xs before now
lanes_text [] before now = refl
lanes_text (x ∷ xs) before now = λ j. lane_text-at x before now j ++ lanes_text xs before now j

-- behind the row its numbers are the last ones
pub lanes_moved : (xs : List Shown) (before now : List ℤ) → map (moved now) (lanes_at xs before) ≡ lanes_at xs now
lanes_moved [] before now = refl
lanes_moved (x ∷ xs) before now = ap (λ lanes. lane_at now x ∷ lanes) (lanes_moved xs before now)

-- the line of a row in two parts
pub row_line-parts : (b : Board) (r : Row) (before now : List ℤ) → row_head b r before ++ (flat_map (lane_text now) (lanes_at b.columns before) ++ line_feed) ≡ row_line b r before now
unfolding row_line
row_line-parts b r before now =
    ap (λ (fields : List ℕ). row_head b r before ++ (fields ++ line_feed)) (lanes_text b.columns before now)
    ∙ append_assoc (decimal r.time) (codes " " ++ (event_text b before r.event ++ codes " |")) (changed_fields b.columns before now ++ line_feed)
    ∙ ap (λ (x : List ℕ). decimal r.time ++ (codes " " ++ x)) (append_assoc (event_text b before r.event) (codes " |") (changed_fields b.columns before now ++ line_feed))
