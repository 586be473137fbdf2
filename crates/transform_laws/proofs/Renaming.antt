-- A tree whose domains were renamed is a tree of modules of the pool that it got.
use Rattle.std.proofs.Common.{◌≡◌, ℕ, zero, suc, ◌<◌, ◌&&◌, IsTrue, Bool, true, false, cond, List, [], ◌∷◌, map, length, Option, Some, None, slice_get, refl, sym, ap, ◌∙◌, subst, arith}
use Rattle.std.specs.Prelude.{not, option_map, unwrap_or}
use Rattle.std.specs.List.{AllByRecursion, find, list_all}
use Rattle.lists.specs.Names.{IsName}
use Rattle.lists.specs.Texts.{text_eq}
use Rattle.shape_rules.specs.Forms.{unsigned}
use Rattle.design_ir.specs.declared.ids.ExprId.{ExprId}
use Rattle.design_ir.specs.declared.expr.Expr.{Expr}
use Rattle.design_ir.specs.declared.expr.Expr.TheVariants as expr
use Rattle.design_ir.specs.declared.domain.DomainDef.{DomainDef}
use Rattle.design_ir.specs.declared.memory.MemWrite.{MemWrite}
use Rattle.design_ir.specs.declared.memory.MemRead.{MemRead}
use Rattle.design_ir.specs.declared.memory.Memory.{Memory}
use Rattle.design_ir.specs.declared.process.Side.{Side}
use Rattle.design_ir.specs.declared.process.Side.TheVariants.{Comb, Clocked}
use Rattle.design_ir.specs.declared.process.Process.{Process}
use Rattle.design_ir.specs.Forests.{Leaf}
use Rattle.design_ir.specs.Named.{named}
use Rattle.design_ir.specs.Trees.{Block}
use Rattle.design_ir.specs.Pools.{Pooled}
use Rattle.design_ir.specs.PoolRules.{IsPool}
use Rattle.design_ir.specs.Values.{form}
use Rattle.design_ir.specs.Targets.{is_open_target, open_target_test}
use Rattle.design_ir.specs.Guards.{block_exprs}
use Rattle.design_ir.specs.Rows.{granules}
use Rattle.design_ir.proofs.Equations.{form_is, place_below, standing}
use Rattle.design_ir.proofs.NumbersFit.{element}
use Rattle.flat_design.specs.Growing.{IsMore}
use Rattle.fragment_walks.specs.Held.{leaf_exprs}
use Rattle.fragment_walks.specs.Reads.{block_targets}
use Rattle.fragment_walks.proofs.Lists.{all_filtered, all_imp, all_joined, all_mapped, length_map, map_map}
use Rattle.clock_domains.specs.Resolvable.{IsClockingOf, IsDefinition, IsMemoryOf, IsModule, IsNamedSide, IsOpenSide, IsReadOf, IsThere, IsWriteOf}
use Rattle.domain_transforms.specs.declared.controls.NamePair.{NamePair}
use Rattle.domain_transforms.specs.Controlled.{name_after}
use Rattle.domain_transforms.specs.Renamed.{anew, block_append, holds_renamed, is_within, new_exprs, remade, renamed_block, renamed_definition, renamed_expr, renamed_leaf, renamed_memory, renamed_pool, renamed_processes, renamed_read, renamed_side, renamed_sides, renamed_write, side_eq, side_statements, sides_once}
use Rattle.domain_transforms.specs.Laws.{new_id}
use Rattle.domain_transforms.proofs.AnewLaws.{all_below, anew_same, form_renamed}
use Rattle.domain_transforms.proofs.RenamedMeaning.{stands}
use Rattle.transform_laws.specs.Laws.{AreNamedResets, AreNewNames, IsNamedExpr}
use Rattle.transform_laws.proofs.Blocks.{exprs-append, exprs_moved, targets-append, targets_moved}
use Rattle.transform_laws.proofs.Carried.{AreOpen, IsCarried, domain_kept, memory_carried, port_domains, read_carried, shaped_carried, side_from, side_targets, transparent_carried, write_carried}
use Rattle.transform_laws.proofs.Growth.{carried_more, open_is, open_more, open_there}
use Rattle.transform_laws.proofs.Resets.{all_taken_from, held_named}

-- ---- names

after_named : (names : List NamePair) (name : List ℕ) → AreNewNames names → IsName name → IsName (name_after names name)
after_named [] name news h = h
after_named (x ∷ names) name news h = by (text_eq x.before name) (after_named names name news.1 h)
  where
    by : (b : Bool) → IsName (name_after names name) → IsName (unwrap_or (option_map (λ (y : NamePair). y.after) (cond b (Some x) (find (λ (y : NamePair). text_eq y.before name) names))) name)
    by true rest = news.0
    by false rest = rest

side_named : (names : List NamePair) (s : Side) → AreNewNames names → IsNamedSide s → IsNamedSide (renamed_side names s)
side_named names Comb news h = tt
side_named names (Clocked n) news h = after_named names n news h

-- ---- the pool

expr_named : (names : List NamePair) (to : ExprId → ExprId) (e : Expr) → AreNewNames names → IsNamedExpr e → IsNamedExpr (renamed_expr names to e)
expr_named names to (expr.Reset domain place) news h = after_named names domain news h
expr_named names to (expr.Const n s) news h = tt
expr_named names to (expr.Sig s) news h = tt
expr_named names to (expr.Unary op a) news h = tt
expr_named names to (expr.Binary op a b) news h = tt
expr_named names to (expr.Mux s a b) news h = tt
expr_named names to (expr.Slice a low width) news h = tt
expr_named names to (expr.Cat es) news h = tt
expr_named names to (expr.Part a offset width stride) news h = tt
expr_named names to (expr.Pick index es) news h = tt
expr_named names to (expr.Cast a signed) news h = tt
expr_named names to (expr.Matches a patterns) news h = tt

get_named : (es : List Expr) (k : ℕ) (e : Expr) → AllByRecursion IsNamedExpr es → slice_get es k ≡ Some e → IsNamedExpr e
get_named [] k e h at = absurd cc
get_named (x ∷ es) zero e h at = let same : x ≡ e = cc in subst IsNamedExpr same h.0
get_named (x ∷ es) (suc k) e h at = get_named es k e h.1 at

new_named : (names : List NamePair) (to : ExprId → ExprId) (es : List Expr) (ks : List ℕ) → AreNewNames names → AllByRecursion IsNamedExpr es → AllByRecursion IsNamedExpr (new_exprs names to es ks)
new_named names to es ks news h = all_taken_from IsNamedExpr (λ k. option_map (renamed_expr names to) (slice_get es k)) ks (λ k y is. by k y (slice_get es k) refl is)
  where
    by : (k : ℕ) (y : Expr) (o : Option Expr) → slice_get es k ≡ o → option_map (renamed_expr names to) o ≡ Some y → IsNamedExpr y
    by k y None at is = absurd cc
    by k y (Some e) at is = let same : renamed_expr names to e ≡ y = cc in subst IsNamedExpr same (expr_named names to e news (get_named es k e h at))

pub pool_more : (names : List NamePair) (q : Pooled) (ks : List ℕ) → IsMore q (renamed_pool names q ks)
pool_more names q ks = record { signals = refl; more = new_exprs names (anew (length q.exprs) ks) q.exprs ks; exprs = refl }

pub pool_named : (names : List NamePair) (q : Pooled) (ks : List ℕ) → AreNewNames names → AreNamedResets q → AreNamedResets (renamed_pool names q ks)
pool_named names q ks news h = all_joined IsNamedExpr q.exprs (new_exprs names (anew (length q.exprs) ks) q.exprs ks) h (new_named names (anew (length q.exprs) ks) q.exprs ks news h)

-- ---- what stands for an expression has its shape, and is an open target where it is one

all_moved_same : (f g : ℕ → Bool) (to : ExprId → ExprId) (es : List ExprId) → AllByRecursion (λ (a : ExprId). f (to a).0 ≡ g a.0) es → list_all (λ (a : ExprId). f a.0) (map to es) ≡ list_all (λ (a : ExprId). g a.0) es
all_moved_same f g to [] h = refl
all_moved_same f g to (e ∷ es) h = let a = h.0 in let b = all_moved_same f g to es h.1 in cc

open_renamed : (names : List NamePair) (to : ExprId → ExprId) (f g : ℕ → Bool) (e : Expr) → AllByRecursion (λ (a : ExprId). f (to a).0 ≡ g a.0) (named e) → open_target_test f (renamed_expr names to e) ≡ open_target_test g e
open_renamed names to f g (expr.Reset domain place) h = refl
open_renamed names to f g (expr.Const n s) h = refl
open_renamed names to f g (expr.Sig s) h = refl
open_renamed names to f g (expr.Unary op a) h = refl
open_renamed names to f g (expr.Binary op a b) h = refl
open_renamed names to f g (expr.Mux s a b) h = refl
open_renamed names to f g (expr.Slice a low width) h = h.0
open_renamed names to f g (expr.Cat es) h = all_moved_same f g to es h
open_renamed names to f g (expr.Part a offset width stride) h = h.0
open_renamed names to f g (expr.Pick index es) h = all_moved_same f g to es h.1
open_renamed names to f g (expr.Cast a signed) h = h.0
open_renamed names to f g (expr.Matches a patterns) h = refl

module _ (names : List NamePair) (q : Pooled) (roots : List ExprId) (rules : IsPool q) (rules' : IsPool (renamed_pool names q (remade names q roots))) where
  abbrev p : Pooled
  p = renamed_pool names q (remade names q roots)

  abbrev to : ExprId → ExprId
  to = new_id names q roots

  abbrev more : IsMore q p
  more = pool_more names q (remade names q roots)

  -- what an expression k is, j is in the pool with the new ones
  record IsAs (k j : ℕ) : Type 0 where
    there : j < length p.exprs
    shape : form p j ≡ form q k
    open_as : is_open_target p j ≡ is_open_target q k

  itself : (k : ℕ) → k < length q.exprs → IsAs k k
  itself k there = record { there = (carried_more q p rules more (record { 0 = k }) there).0; shape = (carried_more q p rules more (record { 0 = k }) there).1; open_as = open_more q p rules more k there }

  stays : (k : ℕ) → is_within q roots k ≡ false → to (record { 0 = k }) ≡ record { 0 = k }
  unfolding remade
  stays k out = anew_same (λ j. is_within q roots j && holds_renamed names q j) (length q.exprs) k (ap (λ b. b && holds_renamed names q k) out)

  -- by the number of the expression
  is_as : (bound k : ℕ) → k < bound → k < length q.exprs → IsAs k (to (record { 0 = k })).0
  is_as zero k less there = absurd (omega (arith, less))
  is_as (suc bound) k less there = by (λ a under. is_as bound a.0 (omega (arith, under, less)) (omega (arith, under, there))) (is_within q roots k) refl
    where
      by : ((a : ExprId) → a.0 < k → IsAs a.0 (to a).0) → (b : Bool) → is_within q roots k ≡ b → IsAs k (to (record { 0 = k })).0
      by earlier false out = subst (λ (x : ExprId). IsAs k x.0) (sym (stays k out)) (itself k there)
      by earlier true within =
          let x = element q.exprs k there in
          let j : ℕ = (to (record { 0 = k })).0 in
          let here : slice_get p.exprs j ≡ Some (renamed_expr names to x.0) = stands names q roots rules k x.0 x.1 within in
          let parts : AllByRecursion (λ (a : ExprId). IsAs a.0 (to a).0) (named x.0) =
          all_below {P = λ (a : ExprId). IsAs a.0 (to a).0} k (named x.0) (standing q k x.0 rules x.1).names earlier in
          record {
            there = place_below p.exprs j (renamed_expr names to x.0) here;
            shape =
                form_is p j (renamed_expr names to x.0) rules' here ∙ form_renamed names to (form p) (form q) q.signals x.0 (all_imp (λ (a : ExprId) (h : IsAs a.0 (to a).0). h.shape) (named x.0) parts)
                ∙ sym (form_is q k x.0 rules x.1);
            open_as =
                open_is p j (renamed_expr names to x.0) rules' here ∙ open_renamed names to (is_open_target p) (is_open_target q) x.0 (all_imp (λ (a : ExprId) (h : IsAs a.0 (to a).0). h.open_as) (named x.0) parts)
                ∙ sym (open_is q k x.0 rules x.1);
          }

  as_it_is : (e : ExprId) → e.0 < length q.exprs → IsAs e.0 (to e).0
  as_it_is e there = is_as (suc e.0) e.0 (omega arith) there

  carried : (e : ExprId) → e.0 < length q.exprs → IsCarried q p e (to e)
  carried e there = let a = as_it_is e there in (a.there, a.shape)

  target_carried : (e : ExprId) → IsTrue (is_open_target q e.0) → IsTrue (is_open_target p (to e).0)
  target_carried e h = (as_it_is e (open_there q e.0 h)).open_as ∙ h

  module _ (news : AreNewNames names) where
    -- ---- statements

    abbrev Stands : Block → Type 0
    Stands b = AllByRecursion (IsThere p) (block_exprs b) × AreOpen p (block_targets b)

    body_stands : (s : Process) → IsOpenSide q s → Stands (renamed_block to s.body)
    body_stands s h = (exprs_moved to (IsThere q) (IsThere p) (λ e there. (carried e there).0) s.body h.expressions, targets_moved to (λ k. IsTrue (is_open_target q k)) (λ k. IsTrue (is_open_target p k)) target_carried s.body (side_targets q s h))

    statements_stand : (side : Side) (ps : List Process) → AllByRecursion (IsOpenSide q) ps → Stands (side_statements names to side ps)
    statements_stand side [] h = (tt, tt)
    statements_stand side (s ∷ ps) h = by (body_stands s h.0) (statements_stand side ps h.1) (side_eq side (renamed_side names s.side))
      where
        by : Stands (renamed_block to s.body) → Stands (side_statements names to side ps) → (b : Bool) → Stands (cond b (block_append (renamed_block to s.body) (side_statements names to side ps)) (side_statements names to side ps))
        by own rest true = (
          subst (AllByRecursion (IsThere p)) (sym (exprs-append (renamed_block to s.body) (side_statements names to side ps))) (all_joined (IsThere p) (block_exprs (renamed_block to s.body)) (block_exprs (side_statements names to side ps)) own.0 rest.0),
          subst (AreOpen p) (sym (targets-append (renamed_block to s.body) (side_statements names to side ps))) (all_joined (λ k. IsTrue (is_open_target p k)) (block_targets (renamed_block to s.body)) (block_targets (side_statements names to side ps)) own.1 rest.1),
        )
        by own rest false = rest

    once_named : (ss : List Side) → AllByRecursion IsNamedSide ss → AllByRecursion IsNamedSide (sides_once ss)
    once_named [] h = tt
    once_named (s ∷ ss) h = (h.0, all_filtered IsNamedSide (λ r. not (side_eq s r)) (sides_once ss) (once_named ss h.1))

    processes_stand : (ps : List Process) → AllByRecursion (IsOpenSide q) ps → AllByRecursion (IsOpenSide p) (renamed_processes names to ps)
    processes_stand ps h =
        let sides : AllByRecursion IsNamedSide (renamed_sides names ps) =
        once_named (map (λ (s : Process). renamed_side names s.side) ps) (all_mapped IsNamedSide (λ (s : Process). renamed_side names s.side) ps (all_imp (λ (s : Process) k. side_named names s.side news k.side) ps h)) in
        all_mapped (IsOpenSide p) (λ (side : Side). record { side = side; body = side_statements names to side ps }) (renamed_sides names ps)
        (all_imp (λ side named'. let b = statements_stand side ps h in side_from p side (side_statements names to side ps) named' b.0 b.1) (renamed_sides names ps) sides)

    -- ---- memories

    module _ (m : Memory) (h : IsMemoryOf q m) where
      abbrev writes : List MemWrite
      writes = map (renamed_write names to) m.writes

      abbrev reads : List MemRead
      reads = map (renamed_read names to) m.reads

      same_domains : port_domains writes ≡ map (name_after names) (port_domains m.writes)
      same_domains = map_map (renamed_write names to) (λ (w : MemWrite). w.domain) m.writes ∙ sym (map_map (λ (w : MemWrite). w.domain) (name_after names) m.writes)

      write_stands : (w : MemWrite) → IsWriteOf q m w → IsWriteOf p (renamed_memory names to m) (renamed_write names to w)
      write_stands w k =
          write_carried q p refl m writes reads w (name_after names w.domain) (to w.addr) (to w.word) (to w.enable) (after_named names w.domain news k.domain) (carried w.addr k.addr.there) (carried w.word k.word.there)
          (shaped_carried q p (unsigned (granules m w)) w.enable (to w.enable) (carried w.enable k.enable.there) k.enable) k

      clocking_stands : (name : Option (List ℕ)) (e : Option ExprId) → IsClockingOf q name e → IsClockingOf p (option_map (name_after names) name) (option_map to e)
      clocking_stands None None k = tt
      clocking_stands None (Some e) k = k
      clocking_stands (Some d) None k = k
      clocking_stands (Some d) (Some e) k = (after_named names d news k.0, shaped_carried q p (unsigned 1) e (to e) (carried e k.1.there) k.1)

      read_stands : (r : MemRead) → IsReadOf q m r → IsReadOf p (renamed_memory names to m) (renamed_read names to r)
      read_stands r k =
          read_carried q p refl m writes reads r (option_map (name_after names) r.domain) (to r.addr) (option_map to r.enable) (carried r.addr k.addr.there) (clocking_stands r.domain r.enable k.clocking)
          (transparent_carried (name_after names) m writes reads same_domains r.domain r.transparent k.transparent) k

      memory_stands : IsMemoryOf p (renamed_memory names to m)
      memory_stands =
          memory_carried (name_after names) q p m writes reads same_domains (length_map (renamed_read names to) m.reads) (all_mapped (IsWriteOf p (renamed_memory names to m)) (renamed_write names to) m.writes (all_imp write_stands m.writes h.writes))
          (all_mapped (IsReadOf p (renamed_memory names to m)) (renamed_read names to) m.reads (all_imp read_stands m.reads h.reads)) h

    -- ---- modules

    pub leaf_stands : AreNamedResets q → (l : Leaf) → IsModule q l → IsModule p (renamed_leaf names to l)
    leaf_stands all_named l h = record {
      domains = all_mapped (IsDefinition p) (renamed_definition names) l.domains (all_imp (λ (d : DomainDef) k. domain_kept q p refl d.domain (name_after names d.domain.name) (after_named names d.domain.name news k.name) k) l.domains h.domains);
      memories = all_mapped (IsMemoryOf p) (renamed_memory names to) l.memories (all_imp (λ m k. memory_stands m k) l.memories h.memories);
      processes = processes_stand l.processes h.processes;
      resets = held_named p (leaf_exprs (renamed_leaf names to l)) (pool_named names q (remade names q roots) news all_named);
    }
