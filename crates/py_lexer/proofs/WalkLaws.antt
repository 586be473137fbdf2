-- One piece after the other.
use Rattle.std.proofs.Common.{◌≡◌, ℕ, zero, suc, Bool, true, false, ◌&&◌, ◌==◌, ◌-◌, ◌<◌, ◌≤◌, List, [], ◌∷◌, ◌++◌, length, take, drop, Result, Ok, Err, refl, ap, sym, ◌∙◌, arith, append_assoc}
use Rattle.amh_host.specs.declared.place.Place.{Place}
use Rattle.py_lexer.specs.declared.line.Line.{Line}
use Rattle.py_lexer.specs.declared.going.Going.{Going}
use Rattle.py_lexer.specs.declared.walk.Walk.{Walk}
use Rattle.py_lexer.specs.declared.piece.Front.{Front}
use Rattle.py_lexer.specs.declared.piece.Mark.{Mark}
use Rattle.py_lexer.specs.declared.piece.Piece.{Piece}
use Rattle.py_lexer.specs.declared.piece.Piece.TheVariants.{Space, Tab, Comment, LineEnd, Joint, Token, Open, Close, Fault, Unclosed}
use Rattle.py_lexer.specs.declared.piece.Placed.{Placed}
use Rattle.py_lexer.specs.Characters.{next, past}
use Rattle.py_lexer.specs.Fronts.{Begins}
use Rattle.py_lexer.specs.Pieces.{front_of, placed, pieces_from}
use Rattle.py_lexer.specs.Lines.{fresh, meet, meet_by, ends_logical, line_of, before, is_line_end, last_line, lines_from, logical_lines}
use Rattle.py_lexer.specs.Walks.{begun, owed}
use Rattle.py_lexer.specs.Gives.{Tells}
use Rattle.py_lexer.specs.declared.line.LexStop.{LexStop}
use Rattle.py_lexer.specs.declared.line.LexStop.TheVariants.{Subset, NoMemory}
use Rattle.std.specs.Str.{chars, IsUtf8}
use Rattle.std.proofs.lemmas.Str.{chars-encodes, length-le-encodes}

-- the rest of a piece is passed over
pieces_pass : (m : Mark) (k : ℕ) (cs : List ℕ) → pieces_from m k cs ≡ pieces_from (past m (take k cs)) 0 (drop k cs)
unfolding pieces_from past
pieces_pass m zero cs = refl
pieces_pass m (suc k) [] = refl
pieces_pass m (suc k) (c ∷ cs) = pieces_pass (next m c) k cs

-- the first piece and the others
pieces_step : (m : Mark) (cs : List ℕ) (f : Front) → f ≡ front_of cs → 0 < f.width → f.width ≤ length cs → pieces_from m 0 cs ≡ placed m f cs ∷ pieces_from (past m (take f.width cs)) 0 (drop f.width cs)
unfolding pieces_from past
pieces_step m [] f e h l = absurd (omega arith)
pieces_step m (c ∷ cs) f e h l =
    let w = f.width - 1 in
    let width : suc w ≡ f.width = omega arith in
    let first : pieces_from m 0 (c ∷ cs) ≡ placed m f (c ∷ cs) ∷ pieces_from (next m c) w cs =
    ap (λ (g : Front). placed m g (c ∷ cs) ∷ pieces_from (next m c) (g.width - 1) cs) (sym e) in
    let others : pieces_from (next m c) w cs ≡ pieces_from (past m (take f.width (c ∷ cs))) 0 (drop f.width (c ∷ cs)) =
    pieces_pass (next m c) w cs ∙ ap (λ k. pieces_from (past m (take k (c ∷ cs))) 0 (drop k (c ∷ cs))) width in
    first ∙ ap (λ ps. placed m f (c ∷ cs) ∷ ps) others

-- the first piece, with some others
pieces_head : (m : Mark) (cs : List ℕ) (f : Front) → f ≡ front_of cs → 0 < length cs → (ps : List Placed) × (pieces_from m 0 cs ≡ placed m f cs ∷ ps)
unfolding pieces_from
pieces_head m [] f e h = absurd (omega arith)
pieces_head m (c ∷ cs) f e h =
    (pieces_from (next m c) (f.width - 1) cs, ap (λ (g : Front). placed m g (c ∷ cs) ∷ pieces_from (next m c) (g.width - 1) cs) (sym e))

before_before : (ls more : List Line) (told : Result (List Line) Place) → before ls (before more told) ≡ before (ls ++ more) told
before_before ls more (Ok rest) = ap Ok (sym (append_assoc ls more rest))
before_before ls more (Err place) = refl

-- a piece that ends a logical line
turn_ends : (ls : List Line) (g : Going) (p : Placed) (ps : List Placed) → ends_logical p g ≡ true → before (ls ++ line_of g) (lines_from fresh ps) ≡ before ls (lines_from g (p ∷ ps))
unfolding lines_from
turn_ends ls g p ps e = rw e (sym (before_before ls (line_of g) (lines_from fresh ps)))

-- a piece that does not
turn_meets : (ls : List Line) (g h : Going) (p : Placed) (ps : List Placed) → ends_logical p g ≡ false → meet p g ≡ Ok h → before ls (lines_from h ps) ≡ before ls (lines_from g (p ∷ ps))
unfolding lines_from
turn_meets ls g h p ps e m = rw (e, m) refl

-- a fault
turn_stops : (ls : List Line) (g : Going) (p : Placed) (ps : List Placed) (place : Place) → ends_logical p g ≡ false → meet p g ≡ Err place → before ls (lines_from g (p ∷ ps)) ≡ Err place
unfolding lines_from
turn_stops ls g p ps place e m = rw (e, m) refl

-- a line end outside brackets
pub turn_ends_owed : (w : Walk) (cs : List ℕ) (f : Front) (ls : List Line) (g : Going) (m : Mark) → f ≡ front_of cs → 0 < f.width → f.width ≤ length cs → ends_logical (placed w.mark f cs) w.going ≡ true → ls ≡ w.lines ++ line_of w.going → g ≡ fresh → m ≡ past w.mark (take f.width cs) → owed (record { lines = ls; going = g; mark = m }) (drop f.width cs) ≡ owed w cs
unfolding owed
turn_ends_owed w cs f ls g m e h l ends lines going mark =
    rw (lines, going, mark) (turn_ends w.lines w.going (placed w.mark f cs) _ ends ∙ ap (λ ps. before w.lines (lines_from w.going ps)) (sym (pieces_step w.mark cs f e h l)))

-- the piece between the mark before it and this one
abbrev pub up_to : Front → Mark → Mark → Placed
up_to f m n = record { piece = f.piece; from = m; upto = n }

-- another piece
pub turn_meets_owed : (w : Walk) (cs : List ℕ) (f : Front) (g : Going) (m : Mark) → f ≡ front_of cs → 0 < f.width → f.width ≤ length cs → ends_logical (placed w.mark f cs) w.going ≡ false → m ≡ past w.mark (take f.width cs) → meet (up_to f w.mark m) w.going ≡ Ok g → owed (record { lines = w.lines; going = g; mark = m }) (drop f.width cs) ≡ owed w cs
unfolding owed
turn_meets_owed w cs f g m e h l ends mark meets =
    let met : meet (placed w.mark f cs) w.going ≡ Ok g = ap (λ n. meet (up_to f w.mark n) w.going) (sym mark) ∙ meets in
    rw mark (turn_meets w.lines w.going g (placed w.mark f cs) _ ends met ∙ ap (λ ps. before w.lines (lines_from w.going ps)) (sym (pieces_step w.mark cs f e h l)))

-- a fault
turn_stops_owed : (w : Walk) (cs : List ℕ) (f : Front) (place : Place) → f ≡ front_of cs → 0 < length cs → ends_logical (placed w.mark f cs) w.going ≡ false → meet (placed w.mark f cs) w.going ≡ Err place → owed w cs ≡ Err place
unfolding owed
turn_stops_owed w cs f place e h ends meets =
    let head = pieces_head w.mark cs f e h in
    ap (λ ps. before w.lines (lines_from w.going ps)) head.1 ∙ turn_stops w.lines w.going (placed w.mark f cs) head.0 place ends meets

pub turn_tells_owed : (w : Walk) (cs : List ℕ) (f : Front) (m : Mark) (stop : LexStop) → f ≡ front_of cs → 0 < length cs → ends_logical (placed w.mark f cs) w.going ≡ false → m ≡ past w.mark (take f.width cs) → Tells stop (meet (up_to f w.mark m) w.going) → Tells stop (owed w cs)
turn_tells_owed w cs f m (Subset place) e h ends mark told =
    turn_stops_owed w cs f place e h ends (ap (λ n. meet (up_to f w.mark n) w.going) (sym mark) ∙ told)
turn_tells_owed w cs f m NoMemory e h ends mark told = tt

-- where the text ends
pub owed_over : (w : Walk) (cs : List ℕ) → length cs ≡ 0 → owed w cs ≡ before w.lines (last_line w.going)
unfolding owed lines_from pieces_from
owed_over w [] h = refl
owed_over w (c ∷ cs) h = absurd (omega arith)

begins_by : (piece : Piece) (width : ℕ) (p : Placed) (g h : Going) → Begins piece width → meet_by piece p g ≡ Ok h → 0 < width
begins_by Space width p g h b e = b
begins_by Tab width p g h b e = b
begins_by Comment width p g h b e = b
begins_by LineEnd width p g h b e = b
begins_by Joint width p g h b e = b
begins_by (Token form) width p g h b e = b
begins_by (Open k) width p g h b e = b
begins_by (Close k) width p g h b e = b
begins_by Fault width p g h b e = cc
begins_by Unclosed width p g h b e = cc

-- what a line goes on with takes a character
pub meets_begins : (f : Front) (m n : Mark) (g h : Going) → Begins f.piece f.width → meet (up_to f m n) g ≡ Ok h → 0 < f.width
unfolding meet
meets_begins f m n g h b e = begins_by f.piece f.width (up_to f m n) g h b e

-- nothing to add to no lines
pub before_none : (told : Result (List Line) Place) → before [] told ≡ told
before_none (Ok ls) = refl
before_none (Err place) = refl

-- the whole walk owes the logical lines
pub owed_begun : (cs : List ℕ) → owed begun cs ≡ logical_lines cs
unfolding owed logical_lines
owed_begun cs = before_none (logical_lines cs)

ends_begins_by : (piece : Piece) (width : ℕ) (b : Bool) → Begins piece width → (is_line_end piece && b) ≡ true → 0 < width
ends_begins_by LineEnd width b begins e = begins
ends_begins_by Space width b begins e = cc
ends_begins_by Tab width b begins e = cc
ends_begins_by Comment width b begins e = cc
ends_begins_by Joint width b begins e = cc
ends_begins_by (Token form) width b begins e = cc
ends_begins_by (Open k) width b begins e = cc
ends_begins_by (Close k) width b begins e = cc
ends_begins_by Fault width b begins e = cc
ends_begins_by Unclosed width b begins e = cc

-- a line end takes a character
pub ends_begins : (f : Front) (g : Going) (m : Mark) (cs : List ℕ) → Begins f.piece f.width → ends_logical (placed m f cs) g ≡ true → 0 < f.width
ends_begins f g m cs begins e = ends_begins_by f.piece f.width (length g.brackets == 0) begins e

-- a text has no more characters than bytes
pub length-chars : (bs : List ℕ) → IsUtf8 bs → length (chars bs) ≤ length bs
length-chars bs u =
    let same : chars bs ≡ u.0 = ap chars (sym u.1.1) ∙ chars-encodes u.0 u.1.0 in
    omega (arith, length-le-encodes u.0, ap length same, ap length u.1.1)
