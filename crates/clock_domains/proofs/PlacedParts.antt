-- What holds of processes and of memories once the signals of domains are made and resets are signals.
use Rattle.std.proofs.Common.{◌≡◌, ◌<◌, ◌==◌, ℕ, zero, suc, Bool, true, false, cond, IsTrue, ◌||◌, List, [], ◌∷◌, ◌++◌, map, length, slice_get, slice_index_or, Option, Some, None, refl, sym, ap, ◌∙◌, subst, arith, append-nil, append_assoc}
use Rattle.std.specs.Prelude.{IsSomeAnd, option_and_then, pos}
use Rattle.std.specs.List.{AllByRecursion, find, flat_map, list_any}
use Rattle.std.specs.Option.{option_map_or}
use Rattle.std.proofs.lemmas.Bool.{eq-eqb}
use Rattle.std.proofs.lemmas.List.{length-append}
use Rattle.lists.specs.Names.{IsName, IsPath}
use Rattle.lists.specs.Texts.{text_eq}
use Rattle.shape_rules.specs.Forms.{Form, unsigned}
use Rattle.design_ir.specs.declared.ids.ExprId.{ExprId}
use Rattle.design_ir.specs.declared.ids.SigId.{SigId}
use Rattle.design_ir.specs.declared.signal.Sig.{Sig}
use Rattle.design_ir.specs.declared.domain.Domain.{Domain}
use Rattle.design_ir.specs.declared.expr.Expr as expr
use Rattle.design_ir.specs.declared.expr.Expr.{Expr}
use Rattle.design_ir.specs.declared.expr.Expr.TheVariants.{Const, Unary, Binary, Mux, Slice, Cat, Part, Pick, Cast, Matches, Reset}
use Rattle.design_ir.specs.declared.memory.MemWrite.{MemWrite}
use Rattle.design_ir.specs.declared.memory.MemRead.{MemRead}
use Rattle.design_ir.specs.declared.memory.Memory.{Memory}
use Rattle.design_ir.specs.declared.process.Process.{Process}
use Rattle.design_ir.specs.Pools.{Pooled, answers}
use Rattle.design_ir.specs.PoolRules.{AreExprs, IsPool}
use Rattle.design_ir.specs.Values.{form, form_step, signal_form}
use Rattle.design_ir.specs.Guards.{Guarded, guarded, block_exprs}
use Rattle.design_ir.specs.Circuits.{is_among}
use Rattle.design_ir.specs.Designs.{IsGranularity}
use Rattle.design_ir.proofs.Growth.{exprs_more, forms_more}
use Rattle.fragment_walks.specs.Held.{inside, is_within, memory_exprs, read_exprs, write_exprs}
use Rattle.fragment_walks.specs.Marks.{numbers}
use Rattle.fragment_walks.specs.Walks.{memory_named}
use Rattle.fragment_walks.proofs.Lists.{all_both, all_imp, all_joined, any-append}
use Rattle.clock_domains.specs.Placed.{or_signal, placed_expr, placed_from, placed_pool, reset_of}
use Rattle.clock_domains.specs.Ready.{IsPlainMemory}
use Rattle.design_ir.specs.Targets.{is_open_target}
use Rattle.clock_domains.specs.Resolvable.{AreTopPorts, IsAddressOf, IsBit, IsClockingOf, IsDataOf, IsDomainOf, IsMemoryOf, IsOpenSide, IsPlain, IsPortOf, IsReadOf, IsResetOf, IsShaped, IsSideOf, IsThere, IsWriteOf}
use Rattle.clock_domains.specs.Resolved.{domain_signals, with_domains}
use Rattle.clock_domains.proofs.GivenDomains.{old_form}
use Rattle.clock_domains.proofs.MadeDomains.{length_with}
use Rattle.clock_domains.proofs.PlacedLaws.{AreSignals, placed_count, placed_form, placed_plain, placed_signals, placed_target}
use Rattle.clock_domains.proofs.WalkedParts.{block_targets}

-- ---- what stands directly in fragments stands in them

or_true : (a b : Bool) → b ≡ true → (a || b) ≡ true
or_true true b e = refl
or_true false b e = e

numbers_among : (es : List ExprId) → AllByRecursion (λ (e : ExprId). is_among (numbers es) e.0 ≡ true) es
numbers_among [] = tt
numbers_among (x ∷ es) = (ap (λ b. b || is_among (numbers es) x.0) (eq-eqb x.0 x.0 refl), all_imp (λ (e : ExprId) h. or_true _ (is_among (numbers es) e.0) h) es (numbers_among es))

pub roots_within : (q : Pooled) (roots : List ExprId) → AllByRecursion (λ (e : ExprId). is_within q roots e.0 ≡ true) roots
roots_within q roots =
    all_imp (λ (e : ExprId) h. any-append (λ x. x == e.0) (numbers roots) (flat_map (inside q) (numbers roots)) ∙ ap (λ b. b || is_among (flat_map (inside q) (numbers roots)) e.0) h) roots (numbers_among roots)

-- ---- signals are added behind the others

pub old_get : (xs more : List Sig) (s : ℕ) → s < length xs → slice_get (xs ++ more) s ≡ slice_get xs s
old_get [] more s h = absurd (omega (arith, h))
old_get (x ∷ xs) more zero h = refl
old_get (x ∷ xs) more (suc s) h = old_get xs more s (omega (arith, h))

forms_with : (sigs more : List Sig) (es : List Expr) → AreExprs sigs [] es → answers (unsigned 0) (form_step (sigs ++ more)) [] es ≡ answers (unsigned 0) (form_step sigs) [] es
forms_with sigs [] es h = ap (λ xs. answers (unsigned 0) (form_step xs) [] es) (append-nil sigs)
forms_with sigs (x ∷ more) es h =
    ap (λ xs. answers (unsigned 0) (form_step xs) [] es) (sym (append_assoc sigs (x ∷ []) more))
    ∙ forms_with (sigs ++ x ∷ []) more es (exprs_more sigs x [] es h)
    ∙ forms_more sigs x [] es h

pub form_with : (q : Pooled) (names : List (List ℕ)) (k : ℕ) → IsPool q → form (with_domains q names) k ≡ form q k
unfolding form
form_with q names k rules = ap (λ (fs : List Form). slice_index_or fs k (unsigned 0)) (forms_with q.signals (flat_map domain_signals names) q.exprs rules.exprs)

-- ---- targets are those of the pool before

open_with : (q : Pooled) (names : List (List ℕ)) (k : ℕ) → is_open_target (with_domains q names) k ≡ is_open_target q k
unfolding is_open_target
open_with q names k = refl

-- ---- memories in another pool, under a name

-- a pool that has all that another has, under the same numbers
pub record IsMoved (q w : Pooled) : Type 0 where
  pub exprs : length w.exprs ≡ length q.exprs
  pub forms : (k : ℕ) → form w k ≡ form q k
  pub more : List Sig
  pub signals : w.signals ≡ q.signals ++ more

module _ (q w : Pooled) (moved : IsMoved q w) where
  moved_there : (s : ℕ) → s < length q.signals → s < length w.signals
  moved_there s low = omega (arith, low, ap length moved.signals, length-append q.signals moved.more)

  moved_form : (s : ℕ) → s < length q.signals → signal_form w.signals s ≡ signal_form q.signals s
  moved_form s low = ap (λ xs. signal_form xs s) moved.signals ∙ old_form q.signals moved.more s low

  moved_get : (s : ℕ) → s < length q.signals → slice_get w.signals s ≡ slice_get q.signals s
  moved_get s low = ap (λ xs. slice_get xs s) moved.signals ∙ old_get q.signals moved.more s low

  moved_bit : (s : SigId) → IsBit q s → IsBit w s
  moved_bit s h = record { there = moved_there s.0 h.there; form = moved_form s.0 h.there ∙ h.form }

  pub moved_domain : (d : Domain) → IsDomainOf q d → IsDomainOf w d
  moved_domain d h = record { name = h.name; clock = moved_bit d.clk h.clock; reset = by d.rst h.reset }
    where
      by : (o : Option SigId) → IsResetOf q d.clk o → IsResetOf w d.clk o
      by None k = tt
      by (Some s) k = (moved_bit s k.0, k.1)

  moved_shape : (f : Form) (e : ExprId) → IsShaped q f e → IsShaped w f e
  moved_shape f e h = record { there = omega (arith, h.there, moved.exprs); shape = moved.forms e.0 ∙ h.shape }

  module _ (name : List ℕ) (m : Memory) where
    abbrev under : Memory
    under = memory_named name m

    moved_address : (e : ExprId) → IsAddressOf q m e → IsAddressOf w under e
    moved_address e h = record {
      there = omega (arith, h.there, moved.exprs);
      is_unsigned = ap (λ (f : Form). f.signed) (moved.forms e.0) ∙ h.is_unsigned;
      width = let same = sym (moved.forms e.0) in let r = h.width in rw (sym same) r;
    }

    moved_granularity : (g : ℕ) → IsGranularity m g → IsGranularity under g
    moved_granularity g h = record { some = h.some; count = h.count; divides = h.divides }

    moved_write : (x : MemWrite) → IsWriteOf q m x → IsWriteOf w under x
    moved_write x h = record {
      domain = h.domain;
      addr = moved_address x.addr h.addr;
      word = moved_shape m.shape x.word h.word;
      granularity = moved_granularity x.granularity h.granularity;
      enable = moved_shape _ x.enable h.enable;
    }

    moved_clocking : (d : Option (List ℕ)) (e : Option ExprId) → IsClockingOf q d e → IsClockingOf w d e
    moved_clocking None None h = tt
    moved_clocking None (Some e) h = absurd h
    moved_clocking (Some d) None h = absurd h
    moved_clocking (Some d) (Some e) h = (h.0, moved_shape (unsigned 1) e h.1)

    moved_data : (s : SigId) → IsDataOf q m.shape s → IsDataOf w m.shape s
    moved_data s h = record {
      there = moved_there s.0 h.there;
      shape = moved_form s.0 h.there ∙ h.shape;
      begins = subst (λ (o : Option Sig). IsSomeAnd o (λ (x : Sig). x.init ≡ pos 0)) (sym (moved_get s.0 h.there)) h.begins;
    }

    moved_read : (r : MemRead) → IsReadOf q m r → IsReadOf w under r
    moved_read r h = record { addr = moved_address r.addr h.addr; word = moved_data r.word h.word; clocking = moved_clocking r.domain r.enable h.clocking; transparent = h.transparent }

    pub moved_memory : IsMemoryOf q m → IsMemoryOf w under
    moved_memory h = record {
      depth = h.depth;
      rows = h.rows;
      row_shapes = h.row_shapes;
      few_ports = h.few_ports;
      writes = all_imp (λ (x : MemWrite) k. moved_write x k) m.writes h.writes;
      reads = all_imp (λ (r : MemRead) k. moved_read r k) m.reads h.reads;
      one_domain = h.one_domain;
    }

-- ---- the expressions of a memory are there

pub all_together : {A B : Type 0} (P : B → Type 0) (f : A → List B) (xs : List A) → AllByRecursion (λ x. AllByRecursion P (f x)) xs → AllByRecursion P (flat_map f xs)
all_together P f [] h = tt
all_together P f (x ∷ xs) h = all_joined P (f x) (flat_map f xs) h.0 (all_together P f xs h.1)

pub memory_there : (q : Pooled) (m : Memory) → IsMemoryOf q m → AllByRecursion (IsThere q) (memory_exprs m)
memory_there q m h =
    all_joined (IsThere q) (flat_map write_exprs m.writes) (flat_map read_exprs m.reads)
    (all_together (IsThere q) write_exprs m.writes (all_imp (λ (x : MemWrite) k. (k.addr.there, (k.word.there, (k.enable.there, tt)))) m.writes h.writes))
    (all_together (IsThere q) read_exprs m.reads (all_imp (λ (r : MemRead) k. (k.addr.there, enables r.domain r.enable k.clocking)) m.reads h.reads))
  where
    enables : (d : Option (List ℕ)) (e : Option ExprId) → IsClockingOf q d e → AllByRecursion (IsThere q) (option_map_or (λ (e : ExprId). e ∷ []) e [])
    enables None None k = tt
    enables None (Some e) k = absurd k
    enables (Some d) None k = absurd k
    enables (Some d) (Some e) k = (k.1.there, tt)

-- ---- the whole

module _ (q : Pooled) (names : List (List ℕ)) (ds : List Domain) (roots : List ExprId) where
  abbrev made : Pooled
  made = with_domains q names

  abbrev whole : Pooled
  whole = placed_pool ds made roots

  abbrev IsHeld : ExprId → Type 0
  IsHeld e = is_within made roots e.0 ≡ true

  -- the pool keeps what it has
  module _ (rules : IsPool q) (sound : AllByRecursion (IsDomainOf made) ds) where
    pub whole_moved : IsMoved q whole
    whole_moved = record {
      exprs = placed_count ds made roots;
      forms = λ k. placed_form ds made roots k sound ∙ form_with q names k rules;
      more = flat_map domain_signals names;
      signals = placed_signals ds made roots;
    }

  made_whole_moved : AllByRecursion (IsDomainOf made) ds → IsMoved made whole
  made_whole_moved sound = record { exprs = placed_count ds made roots; forms = λ k. placed_form ds made roots k sound; more = []; signals = placed_signals ds made roots ∙ sym (append-nil made.signals) }

  pub whole_domains : AllByRecursion (IsDomainOf made) ds → AllByRecursion (IsDomainOf whole) ds
  whole_domains sound = all_imp (λ (d : Domain) h. moved_domain made whole (made_whole_moved sound) d h) ds sound

  module _ (rules : IsPool q) (rules_made : IsPool made) (rules_whole : IsPool whole) (signals : AreSignals ds made roots) (sound : AllByRecursion (IsDomainOf made) ds) where
    whole_plain : (e : ExprId) → IsThere q e → IsHeld e → IsPlain whole e
    whole_plain e low h = record { there = omega (arith, low, placed_count ds made roots); resolved = placed_plain ds made roots rules_made rules_whole signals e.0 h }

    pub whole_side : (p : Process) → IsOpenSide q p → AllByRecursion IsHeld (block_exprs p.body) → IsSideOf whole p
    whole_side p h held = record {
      side = h.side;
      expressions = all_both (λ (e : ExprId) low k. whole_plain e low k) (block_exprs p.body) h.expressions held;
      targets =
          all_both {P = λ (g : Guarded). IsTrue (is_open_target q g.target.0)} {Q = λ (g : Guarded). IsHeld g.target} (λ (g : Guarded) t k. placed_target ds made roots rules_made rules_whole signals g.target.0 k (open_with q names g.target.0 ∙ t)) (guarded [] p.body) h.targets (block_targets IsHeld [] p.body held);
    }

    pub whole_memory : (name : List ℕ) (m : Memory) → IsPath name → IsMemoryOf q m → AllByRecursion IsHeld (memory_exprs m) → IsPlainMemory whole (memory_named name m)
    whole_memory name m path h held = record {
      path = path;
      memory = moved_memory q whole (whole_moved rules sound) name m h;
      expressions = all_both (λ (e : ExprId) low k. whole_plain e low k) (memory_exprs m) (memory_there q m h) held;
    }
