-- What an enable inserter does to the rows of a memory.
use Rattle.std.specs.Prelude.{◌≡◌, refl, ℕ, Bool, true, false, cond, List, [], ◌∷◌, ℤ, Option, Some, None, fold, option_and_then}
use Rattle.std.specs.List.{AllByRecursion}
use Rattle.std.proofs.Common.{sym, ◌∙◌, ap}
use Rattle.std.proofs.lemmas.Bool.{false≢true}
use Rattle.amh_bits.specs.Patterns.{IsOf}
use Rattle.shape_rules.specs.Operators.{is_zero}
use Rattle.design_ir.specs.declared.ids.ExprId.{ExprId}
use Rattle.design_ir.specs.declared.domain.Domain.{Domain}
use Rattle.design_ir.specs.declared.memory.MemWrite.{MemWrite}
use Rattle.design_ir.specs.declared.memory.MemRead.{MemRead}
use Rattle.design_ir.specs.declared.memory.Memory.{Memory}
use Rattle.design_ir.specs.Pools.{Pooled}
use Rattle.design_ir.specs.PoolRules.{IsPool}
use Rattle.design_ir.specs.Values.{num}
use Rattle.design_ir.specs.Rows.{address, row_at}
use Rattle.design_ir.specs.Circuits.{at}
use Rattle.flat_design.specs.Growing.{IsMore}
use Rattle.flat_design.proofs.Growing.{more_added, more_refl, more_trans}
use Rattle.fragment_laws.specs.Stepping.{write_port}
use Rattle.domain_transforms.specs.declared.controls.Control.{Control}
use Rattle.domain_transforms.specs.Controlled.{control_of}
use Rattle.domain_transforms.specs.Making.{each_in}
use Rattle.domain_transforms.specs.Enabling.{enabled_read, enabled_write, gated, gated_by, gated_option, zero_of}
use Rattle.domain_transforms.specs.Laws.{EnabledRowsKeep, IsReadIn}
use Rattle.domain_transforms.proofs.EnableLaws.{write_keeps}
use Rattle.domain_transforms.proofs.ResetFragments.{read_less}

-- ---- pools grow

gated_more : (o : Option ExprId) (x : Pooled) (e : ExprId) → IsMore x (gated_by o x e).1
gated_more None x e = more_refl x
gated_more (Some c) x e = more_trans x (zero_of x e) (gated x c e).1 (more_added x _) (more_added (zero_of x e) _)

option_more : (o : Option ExprId) (x : Pooled) (e : Option ExprId) → IsMore x (gated_option o x e).1
option_more o x None = more_refl x
option_more o x (Some e) = gated_more o x e

module _ (controls : List Control) where
  writes_more : (x : Pooled) (ws : List MemWrite) → IsMore x (each_in (enabled_write controls) x ws).1
  writes_more x [] = more_refl x
  writes_more x (w ∷ ws) = let y : Pooled = (enabled_write controls x w).1 in more_trans x y (each_in (enabled_write controls) y ws).1 (gated_more (control_of controls w.domain) x w.enable) (writes_more y ws)

  reads_more : (x : Pooled) (rs : List MemRead) → IsMore x (each_in (enabled_read controls) x rs).1
  reads_more x [] = more_refl x
  reads_more x (r ∷ rs) =
      let y : Pooled = (enabled_read controls x r).1 in more_trans x y (each_in (enabled_read controls) y rs).1 (option_more (option_and_then (control_of controls) r.domain) x r.enable) (reads_more y rs)

  -- ---- one write port after another

  module _ (q : Pooled) (domains : List Domain) (env : List ℤ) (names : List (List ℕ)) (m : Memory) (name : List ℕ) (c : ExprId) (control : control_of controls name ≡ Some c) (rules : IsPool q) where
    one_kept : (x : Pooled) (w : MemWrite) (ws : List MemWrite) (rows : List ℤ) → w.domain ≡ name → IsReadIn (each_in (enabled_write controls) x (w ∷ ws)).1 q → (is_zero (num q env c.0) ≡ true → IsOf m.shape.signed m.shape.width (row_at q env rows w.addr))
        → write_port q domains env names m rows (enabled_write controls x w).0 ≡ cond (is_zero (num q env c.0)) rows (write_port q domains env names m rows w)
    one_kept x w ws rows is read fits =
        let y : Pooled = (enabled_write controls x w).1 in
        write_keeps controls w c x q domains env names m rows (ap (control_of controls) is ∙ control) rules (read_less y (each_in (enabled_write controls) y ws).1 q (writes_more y ws) read) fits

    none_kept : (z : is_zero (num q env c.0) ≡ true) (x : Pooled) (ws : List MemWrite) (rows : List ℤ) → AllByRecursion (λ (w : MemWrite). w.domain ≡ name) ws → IsReadIn (each_in (enabled_write controls) x ws).1 q → ((k : ℕ) → IsOf m.shape.signed m.shape.width (at rows k))
        → fold (write_port q domains env names m) rows (each_in (enabled_write controls) x ws).0 ≡ rows
    none_kept z x [] rows are read fits = refl
    none_kept z x (w ∷ ws) rows are read fits =
        let y : Pooled = (enabled_write controls x w).1 in
        ap (λ r. fold (write_port q domains env names m) r (each_in (enabled_write controls) y ws).0) (one_kept x w ws rows are.0 read (λ e. fits (address q env w.addr)) ∙ ap (λ b. cond b rows (write_port q domains env names m rows w)) z)
        ∙ none_kept z y ws rows are.1 read fits

    all_kept : (z : is_zero (num q env c.0) ≡ false) (x : Pooled) (ws : List MemWrite) (rows : List ℤ) → AllByRecursion (λ (w : MemWrite). w.domain ≡ name) ws → IsReadIn (each_in (enabled_write controls) x ws).1 q
        → fold (write_port q domains env names m) rows (each_in (enabled_write controls) x ws).0 ≡ fold (write_port q domains env names m) rows ws
    all_kept z x [] rows are read = refl
    all_kept z x (w ∷ ws) rows are read =
        let y : Pooled = (enabled_write controls x w).1 in
        ap (λ r. fold (write_port q domains env names m) r (each_in (enabled_write controls) y ws).0)
        (one_kept x w ws rows are.0 read (λ e. absurd (false≢true (sym z ∙ e))) ∙ ap (λ b. cond b rows (write_port q domains env names m rows w)) z)
        ∙ all_kept z y ws (write_port q domains env names m rows w) are.1 read

pub rows_keep : EnabledRowsKeep
rows_keep controls m name c p q domains env names rows are control rules read fits =
    let y : Pooled = (each_in (enabled_write controls) p m.writes).1 in
    let read' : IsReadIn y q = read_less y (each_in (enabled_read controls) y m.reads).1 q (reads_more controls y m.reads) read in
    by read' (is_zero (num q env c.0)) refl
  where
    by : IsReadIn (each_in (enabled_write controls) p m.writes).1 q → (b : Bool) → is_zero (num q env c.0) ≡ b
        → fold (write_port q domains env names m) rows (each_in (enabled_write controls) p m.writes).0 ≡ cond (is_zero (num q env c.0)) rows (fold (write_port q domains env names m) rows m.writes)
    by read' true e = none_kept controls q domains env names m name c control rules e p m.writes rows are read' fits ∙ sym (ap (λ b. cond b rows (fold (write_port q domains env names m) rows m.writes)) e)
    by read' false e = all_kept controls q domains env names m name c control rules e p m.writes rows are read' ∙ sym (ap (λ b. cond b rows (fold (write_port q domains env names m) rows m.writes)) e)
