-- The ends and the output of a piece.
use Rattle.std.proofs.Common.{◌≡◌, ◌∙◌, ◌<◌, ◌&&◌, ◌||◌, ℕ, Bool, true, false, cond, not, List, [], ◌∷◌, map, length, get_or, refl, sym, ap}
use Rattle.std.specs.Prelude.{Option, Some, None, option_map, option_and_then, slice_get, unwrap_or, codes}
use Rattle.std.specs.List.{find}
use Rattle.std.proofs.lemmas.Option.{slice_get-get_or}
use Rattle.lists.specs.Texts.{text_eq}
use Rattle.lists.proofs.TextLaws.{text_eq_true}
use Rattle.shape_rules.specs.declared.cell.CellKind.{CellKind}
use Rattle.shape_rules.specs.declared.cell.CellKind.TheVariants.{Not, And, Or, Xor, Mux, Dff, Adff, MemoryRead, MemoryWrite, MemoryInit}
use Rattle.rtlil_text.specs.declared.sig.SigPart.{SigPart}
use Rattle.rtlil_text.specs.declared.cell.RtlEnd.{RtlEnd}
use Rattle.rtlil_text.specs.declared.cell.RtlCell.{RtlCell}
use Rattle.rtlil_text.specs.declared.module.RtlModule.{RtlModule}
use Rattle.rtlil_text.specs.Sources.{Source, Constant, Net, spec_bits, end_of, end_bits, end_width}
use Rattle.rtlil_text.specs.CellTables.{output_of}
use Rattle.rtlil_text.specs.Drivers.{output_bits}
use Rattle.rtlil_text.specs.Cells.{bit_at, both, xor, mux_bit}
use Rattle.rtlil_text.specs.Meaning.{State, comb_bit}
use Rattle.cell_split.specs.Pieces.{is_bitwise, bit_part, bit_parts, bit_spec, is_shared, piece_spec, piece_end, piece}

-- ---- one bit of a spec

pub spec_bits-bit_parts : (s : Option Source) → slice_get (spec_bits (bit_parts s)) 0 ≡ s
spec_bits-bit_parts None = refl
spec_bits-bit_parts (Some (Constant b)) = refl
spec_bits-bit_parts (Some (Net id i)) = refl

pub length-bit_parts : (s : Source) → length (spec_bits (bit_parts (Some s))) ≡ 1
length-bit_parts (Constant b) = refl
length-bit_parts (Net id i) = refl

pub spec_bits-bit_part : (s : Source) → spec_bits (bit_part s ∷ []) ≡ s ∷ []
spec_bits-bit_part (Constant b) = refl
spec_bits-bit_part (Net id i) = refl

-- ---- the ends of a piece

one_end : (name : List ℕ) (k : ℕ) (e : RtlEnd) (b : Bool) (more : Option RtlEnd) (spec : Option (List SigPart))
    → text_eq e.name name ≡ b
    → option_map (λ (x : RtlEnd). x.spec) more ≡ spec
    → (rest : Option RtlEnd) → option_map (λ (x : RtlEnd). x.spec) rest ≡ option_map (λ s. piece_spec name s k) spec
    → option_map (λ (x : RtlEnd). x.spec) (cond b (Some (piece_end k e)) rest) ≡ option_map (λ s. piece_spec name s k) (option_map (λ (x : RtlEnd). x.spec) (cond b (Some e) more))
one_end name k e true more spec t m rest r = ap (λ n. Some (piece_spec n e.spec k)) (text_eq_true e.name name t)
one_end name k e false more spec t m rest r = r ∙ ap (option_map (λ s. piece_spec name s k)) (sym m)

pub end_among-pieces : (name : List ℕ) (k : ℕ) (ends : List RtlEnd)
    → option_map (λ (x : RtlEnd). x.spec) (find (λ (e : RtlEnd). text_eq e.name name) (map (piece_end k) ends))
    ≡ option_map (λ s. piece_spec name s k) (option_map (λ (x : RtlEnd). x.spec) (find (λ (e : RtlEnd). text_eq e.name name) ends))
end_among-pieces name k [] = refl
end_among-pieces name k (e ∷ ends) =
    one_end name k e (text_eq e.name name) (find (λ (x : RtlEnd). text_eq x.name name) ends) (option_map (λ (x : RtlEnd). x.spec) (find (λ (x : RtlEnd). text_eq x.name name) ends)) refl refl
    (find (λ (x : RtlEnd). text_eq x.name name) (map (piece_end k) ends)) (end_among-pieces name k ends)

pub end_of-piece : (n k : ℕ) (c : RtlCell) (name : List ℕ) → end_of (piece n c k) name ≡ option_map (λ s. piece_spec name s k) (end_of c name)
end_of-piece n k c name = end_among-pieces name k c.ends

shared_bits : (name : List ℕ) (k : ℕ) (spec : Option (List SigPart)) → is_shared name ≡ true
    → spec_bits (unwrap_or (option_map (λ s. piece_spec name s k) spec) []) ≡ spec_bits (unwrap_or spec [])
shared_bits name k None t = refl
shared_bits name k (Some s) t = ap (λ b. spec_bits (cond b s (bit_spec s k))) t

pub end_bits-shared : (n k : ℕ) (c : RtlCell) (name : List ℕ) → is_shared name ≡ true → end_bits (piece n c k) name ≡ end_bits c name
end_bits-shared n k c name t = ap (λ o. spec_bits (unwrap_or o [])) (end_of-piece n k c name) ∙ shared_bits name k (end_of c name) t

own_bits : (name : List ℕ) (k : ℕ) (spec : Option (List SigPart)) → is_shared name ≡ false
    → spec_bits (unwrap_or (option_map (λ s. piece_spec name s k) spec) []) ≡ spec_bits (bit_parts (slice_get (spec_bits (unwrap_or spec [])) k))
own_bits name k None t = refl
own_bits name k (Some s) t = ap (λ b. spec_bits (cond b s (bit_spec s k))) t

-- an end that is not shared has one bit
pub end_bits-piece : (n k : ℕ) (c : RtlCell) (name : List ℕ) → is_shared name ≡ false → end_bits (piece n c k) name ≡ spec_bits (bit_parts (slice_get (end_bits c name) k))
end_bits-piece n k c name t = ap (λ o. spec_bits (unwrap_or o [])) (end_of-piece n k c name) ∙ own_bits name k (end_of c name) t

pub bit_at-piece : (value : Source → Option Bool) (n k : ℕ) (c : RtlCell) (name : List ℕ) → is_shared name ≡ false → bit_at value (end_bits (piece n c k) name) 0 ≡ bit_at value (end_bits c name) k
bit_at-piece value n k c name t =
    ap (λ bits. bit_at value bits 0) (end_bits-piece n k c name t) ∙ ap (option_and_then value) (spec_bits-bit_parts (slice_get (end_bits c name) k))

pub end_width-piece : (n k : ℕ) (c : RtlCell) (name : List ℕ) → is_shared name ≡ false → k < end_width c name → end_width (piece n c k) name ≡ 1
end_width-piece n k c name t h =
    ap length (end_bits-piece n k c name t) ∙ ap (λ o. length (spec_bits (bit_parts o))) (slice_get-get_or (end_bits c name) k (Constant false) h)
    ∙ length-bit_parts (get_or (end_bits c name) k (Constant false))

-- ---- the output of a piece

pub output_of-bitwise : (kind : CellKind) → is_bitwise kind ≡ true → output_of kind ≡ codes "\\Y"
output_of-bitwise Dff h = cc
output_of-bitwise Adff h = cc
output_of-bitwise MemoryRead h = cc
output_of-bitwise MemoryWrite h = cc
output_of-bitwise MemoryInit h = cc
output_of-bitwise kind h = refl

pub is_shared-output : (kind : CellKind) → is_shared (output_of kind) ≡ false
is_shared-output Dff = refl
is_shared-output Adff = refl
is_shared-output MemoryRead = refl
is_shared-output MemoryWrite = refl
is_shared-output MemoryInit = refl
is_shared-output kind = refl

pub output_bits-piece : (n k : ℕ) (c : RtlCell) (s : Source) → slice_get (output_bits c) k ≡ Some s → output_bits (piece n c k) ≡ s ∷ []
output_bits-piece n k c s e =
    end_bits-piece n k c (output_of c.kind) (is_shared-output c.kind) ∙ ap (λ o. spec_bits (bit_parts o)) e ∙ spec_bits-bit_part s

pub comb_bit-piece : (m : RtlModule) (st : State) (value : Source → Option Bool) (n k : ℕ) (c : RtlCell) (kind : CellKind) → is_bitwise kind ≡ true → comb_bit m st value (piece n c k) 0 kind ≡ comb_bit m st value c k kind
comb_bit-piece m st value n k c Not h = ap (option_map not) (bit_at-piece value n k c (codes "\\A") refl)
comb_bit-piece m st value n k c And h = ap (λ a. both ◌&&◌ a (bit_at value (end_bits (piece n c k) (codes "\\B")) 0)) (bit_at-piece value n k c (codes "\\A") refl) ∙ ap (both ◌&&◌ (bit_at value (end_bits c (codes "\\A")) k)) (bit_at-piece value n k c (codes "\\B") refl)
comb_bit-piece m st value n k c Or h = ap (λ a. both ◌||◌ a (bit_at value (end_bits (piece n c k) (codes "\\B")) 0)) (bit_at-piece value n k c (codes "\\A") refl) ∙ ap (both ◌||◌ (bit_at value (end_bits c (codes "\\A")) k)) (bit_at-piece value n k c (codes "\\B") refl)
comb_bit-piece m st value n k c Xor h = ap (λ a. both xor a (bit_at value (end_bits (piece n c k) (codes "\\B")) 0)) (bit_at-piece value n k c (codes "\\A") refl) ∙ ap (both xor (bit_at value (end_bits c (codes "\\A")) k)) (bit_at-piece value n k c (codes "\\B") refl)
comb_bit-piece m st value n k c Mux h =
    ap (λ bits. mux_bit (bit_at value bits 0) (bit_at value (end_bits (piece n c k) (codes "\\A")) 0) (bit_at value (end_bits (piece n c k) (codes "\\B")) 0)) (end_bits-shared n k c (codes "\\S") refl)
    ∙ ap (λ a. mux_bit (bit_at value (end_bits c (codes "\\S")) 0) a (bit_at value (end_bits (piece n c k) (codes "\\B")) 0)) (bit_at-piece value n k c (codes "\\A") refl)
    ∙ ap (mux_bit (bit_at value (end_bits c (codes "\\S")) 0) (bit_at value (end_bits c (codes "\\A")) k)) (bit_at-piece value n k c (codes "\\B") refl)
comb_bit-piece m st value n k c kind h = cc
