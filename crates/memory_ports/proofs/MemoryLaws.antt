-- What is made is a memory of a design.
use Rattle.std.specs.Prelude.{◌≡◌, refl, ℕ, ◌/◌, ◌%◌, ◌==◌, ◌<◌, ◌≤◌, nat_lt, ◌&&◌, ◌||◌, Bool, true, false, IsSomeAnd, List, [], ◌∷◌, ◌++◌, length, slice_get, pos, Option, Some, None, option_map, unwrap_or}
use Rattle.std.specs.List.{AllByRecursion}
use Rattle.std.proofs.Common.{sym, ◌∙◌, ap, arith, inl, inr, get_or, append_assoc, append-nil, length-append}
use Rattle.std.proofs.Math.ListN.{get_or-append}
use Rattle.std.proofs.Math.Nat.{div-add-mod, mul_comm}
use Rattle.std.proofs.lemmas.Bool.{ltb-true, eqb-true, false≢true}
use Rattle.lists.specs.Names.{IsPath}
use Rattle.shape_rules.specs.Forms.{Form, unsigned}
use Rattle.design_ir.specs.declared.ids.ExprId.{ExprId}
use Rattle.design_ir.specs.declared.ids.SigId.{SigId}
use Rattle.design_ir.specs.declared.signal.Sig.{Sig}
use Rattle.design_ir.specs.declared.expr.Expr.{Expr}
use Rattle.design_ir.specs.declared.expr.Expr.TheVariants as expr
use Rattle.design_ir.specs.declared.memory.MemWrite.{MemWrite}
use Rattle.design_ir.specs.declared.memory.MemRead.{MemRead}
use Rattle.design_ir.specs.declared.memory.Memory.{Memory}
use Rattle.design_ir.specs.Pools.{Pooled, answers, answer}
use Rattle.design_ir.specs.PoolRules.{IsPool, AreExprs}
use Rattle.design_ir.specs.Values.{form, form_step}
use Rattle.design_ir.specs.Circuits.{Circuit}
use Rattle.design_ir.specs.Designs.{holds_reset, reset_test, IsUsable, IsUsableOf, IsSignalOf, IsAddress, IsGranularity, IsWritePort, IsTransparent, IsClocking, IsReadPort, IsMemory}
use Rattle.design_ir.proofs.Answers.{answers_append, answers_begin}
use Rattle.design_ir.proofs.Growth.{forms_more, exprs_more}
use Rattle.design_ir.proofs.Equations.{answer_at, form_is, place_below}
use Rattle.memory_ports.specs.Ports.{address_width, IsGrown}
use Rattle.memory_ports.specs.Memories.{is_divisor, is_granularity, IsSpec, IsSignal, IsData, HasEnable, HasPorts, IsFitting, HasFittingEnable, FitsWrite, FitsRead, FitsPool}
use Rattle.memory_ports.specs.Laws.{HasDomain, HasDomains}
use Rattle.memory_ports.proofs.Widths.{address_width-least}
use Rattle.memory_ports.proofs.SpecLaws.{all_imp}
use Rattle.memory_ports.proofs.PortLaws.{data_stays}

-- ---- expressions

form_of : (q : Pooled) (f : Form) (e : ExprId) → IsPool q → IsSignal q f e → form q e.0 ≡ f
form_of q f e pool h =
    form_is q e.0 (expr.Sig h.sig) pool h.stands
    ∙ ap (λ o. unwrap_or (option_map (λ (x : Sig). x.shape) o) (unsigned 0)) h.there
    ∙ h.shape

no_reset : (q : Pooled) (f : Form) (e : ExprId) → IsSignal q f e → holds_reset q e.0 ≡ false
unfolding holds_reset
no_reset q f e h = answer_at false reset_test q.exprs e.0 (expr.Sig h.sig) h.stands (λ g k same. refl)

fitting : (q : Pooled) (f : Form) (e : ExprId) → IsPool q → IsSignal q f e → IsFitting q f e
fitting q f e pool h = record { there = place_below q.exprs e.0 (expr.Sig h.sig) h.stands; resolved = no_reset q f e h; shape = form_of q f e pool h }

fitting_enable : (q : Pooled) (domain : Option (List ℕ)) (e : Option ExprId) → IsPool q → HasEnable q domain e → HasFittingEnable q domain e
fitting_enable q None None pool h = h
fitting_enable q None (Some e) pool h = absurd h
fitting_enable q (Some d) None pool h = absurd h
fitting_enable q (Some d) (Some e) pool h = fitting q (unsigned 1) e pool h

pub ports_fit : (q : Pooled) (m : Memory) → IsPool q → HasPorts q m → FitsPool q m
ports_fit q m pool h = record {
  writes = all_imp (λ w x. record { addr = fitting q _ w.addr pool x.addr; word = fitting q _ w.word pool x.word; enable = fitting q _ w.enable pool x.enable }) m.writes h.writes;
  reads = all_imp (λ r x. record { addr = fitting q _ r.addr pool x.addr; word = x.word; enable = fitting_enable q r.domain r.enable pool x.enable }) m.reads h.reads;
}

usable : (c : Circuit) (f : Form) (e : ExprId) → IsFitting c.pool f e → IsUsable c e
usable c f e h = record { there = h.there; resolved = h.resolved }

usable_of : (c : Circuit) (f : Form) (e : ExprId) → IsFitting c.pool f e → IsUsableOf c f e
usable_of c f e h = record { usable = usable c f e h; shape = h.shape }

address : (c : Circuit) (m : Memory) (e : ExprId) → m.depth ≤ 65536 → IsFitting c.pool (unsigned (address_width m.depth)) e → IsAddress c m e
address c m e few h = record {
  usable = usable c (unsigned (address_width m.depth)) e h;
  is_unsigned = ap (λ (f : Form). f.signed) h.shape;
  width = rw h.shape (address_width-least m.depth few);
}

-- ---- ports

divisor_parts : (w g : ℕ) → is_divisor w g ≡ true → (0 < g) × (w % g ≡ 0)
divisor_parts w g h = go (nat_lt 0 g) refl h
  where
    go : (b : Bool) → nat_lt 0 g ≡ b → (b && (w % g == 0)) ≡ true → (0 < g) × (w % g ≡ 0)
    go true e k = (ltb-true 0 g e, eqb-true (w % g) 0 k)
    go false e k = absurd (false≢true k)

pub granularity : (m : Memory) (g : ℕ) → is_granularity m.shape.width g ≡ true → IsGranularity m g
granularity m g h = go (g == m.shape.width) refl h
  where
    go : (b : Bool) → (g == m.shape.width) ≡ b → (b || is_divisor m.shape.width g) ≡ true → IsGranularity m g
    go true e k = let same = eqb-true g m.shape.width e in record { some = inl same; count = 1; divides = omega (arith, same) }
    go false e k =
        let parts = divisor_parts m.shape.width g k in
        record { some = inr parts.0; count = m.shape.width / g; divides = omega (arith, parts.1, div-add-mod m.shape.width g, mul_comm g (m.shape.width / g)) }

signal_of : (c : Circuit) (f : Form) (s : SigId) → IsData c.pool f s → IsSignalOf c f s
signal_of c f s h = record {
  there = place_below c.pool.signals s.0 h.signal h.there;
  shape = ap (λ o. unwrap_or (option_map (λ (x : Sig). x.shape) o) (unsigned 0)) h.there ∙ h.shape;
}

begins : (q : Pooled) (f : Form) (s : SigId) → IsData q f s → IsSomeAnd (slice_get q.signals s.0) (λ (x : Sig). x.init ≡ pos 0)
begins q f s h = rw h.there h.begins

clocking : (c : Circuit) (domain : Option (List ℕ)) (e : Option ExprId) → HasDomain c domain → HasFittingEnable c.pool domain e → IsClocking c domain e
clocking c None None there h = h
clocking c None (Some e) there h = absurd h
clocking c (Some d) None there h = absurd h
clocking c (Some d) (Some e) there h = (there, usable_of c (unsigned 1) e h)

module _ (c : Circuit) (m : Memory) (few : m.depth ≤ 65536) where
  write_ports : (ws : List MemWrite) → AllByRecursion (λ (w : MemWrite). is_granularity m.shape.width w.granularity ≡ true) ws → AllByRecursion (FitsWrite c.pool m.depth m.shape) ws → AllByRecursion (λ (w : MemWrite). HasDomain c (Some w.domain)) ws → AllByRecursion (IsWritePort c m) ws
  write_ports [] fits has there = tt
  write_ports (w ∷ ws) fits has there = (
    record {
      domain = there.0;
      addr = address c m w.addr few has.0.addr;
      word = usable_of c m.shape w.word has.0.word;
      granularity = granularity m w.granularity fits.0;
      enable = usable_of c _ w.enable has.0.enable;
    },
    write_ports ws fits.1 has.1 there.1,
  )

  read_ports : (rs : List MemRead) → AllByRecursion (λ (r : MemRead). AllByRecursion (IsTransparent m r.domain) r.transparent) rs → AllByRecursion (FitsRead c.pool m.depth m.shape) rs → AllByRecursion (λ (r : MemRead). HasDomain c r.domain) rs → AllByRecursion (IsReadPort c m) rs
  read_ports [] through has there = tt
  read_ports (r ∷ rs) through has there = (
    record {
      addr = address c m r.addr few has.0.addr;
      word = signal_of c m.shape r.word has.0.word;
      word_init = begins c.pool m.shape r.word has.0.word;
      clocking = clocking c r.domain r.enable there.0 has.0.enable;
      transparent = through.0;
    },
    read_ports rs through.1 has.1 there.1,
  )

transparent_as : (m : Memory) (name : List ℕ) (domain : Option (List ℕ)) (k : ℕ) → IsTransparent m domain k → IsTransparent (record m { name = name }) domain k
transparent_as m name None k h = h
transparent_as m name (Some d) k h = h

pub spec_is : (c : Circuit) (m : Memory) (name : List ℕ) → IsSpec m → FitsPool c.pool m → HasDomains c m → IsPath name → IsMemory c (record m { name = name })
spec_is c m name h has there path = record {
  path = path;
  depth = h.few_rows;
  rows = h.rows;
  row_shapes = h.row_shapes;
  few_ports = h.few_ports;
  writes = write_ports c (record m { name = name }) h.few_rows m.writes h.granularities has.writes there.writes;
  reads = read_ports c (record m { name = name }) h.few_rows m.reads (all_imp (λ (r : MemRead) t. all_imp (λ k u. transparent_as m name r.domain k u) r.transparent t) m.reads h.transparent) has.reads there.reads;
  one_domain = h.one_domain;
}

-- ---- a pool that has grown

forms_all : (sigs ms : List Sig) (es : List Expr) → AreExprs sigs [] es → answers (unsigned 0) (form_step (sigs ++ ms)) [] es ≡ answers (unsigned 0) (form_step sigs) [] es
forms_all sigs [] es h = ap (λ xs. answers (unsigned 0) (form_step xs) [] es) (append-nil sigs)
forms_all sigs (x ∷ ms) es h =
    ap (λ xs. answers (unsigned 0) (form_step xs) [] es) (sym (append_assoc sigs (x ∷ []) ms))
    ∙ forms_all (sigs ++ x ∷ []) ms es (exprs_more sigs x [] es h)
    ∙ forms_more sigs x [] es h

answer_front : {A : Type 0} (d : A) (step : (ℕ → A) → Expr → A) (es fs : List Expr) (k : ℕ) → k < length es → answer d step (es ++ fs) k ≡ answer d step es k
answer_front d step es fs k h =
    let known = answers_begin d step [] es in
    let r = answers_begin d step (answers d step [] es) fs in
    let more = answers_append d step [] es fs ∙ r.1 in
    ap (λ x. get_or x k d) more ∙ get_or-append (answers d step [] es) r.0 d k (omega (arith, h, ap length known.1, known.2))

form_stays : (q q' : Pooled) (k : ℕ) → IsPool q → IsGrown q q' → k < length q.exprs → form q' k ≡ form q k
unfolding form
form_stays q q' k pool g h =
    rw (g.signals, g.exprs)
    (answer_front (unsigned 0) (form_step (q.signals ++ g.more_signals)) q.exprs g.more_exprs k h ∙ ap (λ x. get_or x k (unsigned 0)) (forms_all q.signals g.more_signals q.exprs pool.exprs))

reset_stays : (q q' : Pooled) (k : ℕ) → IsGrown q q' → k < length q.exprs → holds_reset q' k ≡ holds_reset q k
unfolding holds_reset
reset_stays q q' k g h = rw g.exprs (answer_front false reset_test q.exprs g.more_exprs k h)

longer : (xs ys zs : List Expr) (k : ℕ) → zs ≡ xs ++ ys → k < length xs → k < length zs
longer xs ys zs k e h = let n = ap length e ∙ length-append xs ys in omega (arith, n, h)

fitting_stays : (q q' : Pooled) (f : Form) (e : ExprId) → IsPool q → IsGrown q q' → IsFitting q f e → IsFitting q' f e
fitting_stays q q' f e pool g h = record {
  there = longer q.exprs g.more_exprs q'.exprs e.0 g.exprs h.there;
  resolved = reset_stays q q' e.0 g h.there ∙ h.resolved;
  shape = form_stays q q' e.0 pool g h.there ∙ h.shape;
}

fitting_enable_stays : (q q' : Pooled) (domain : Option (List ℕ)) (e : Option ExprId) → IsPool q → IsGrown q q' → HasFittingEnable q domain e → HasFittingEnable q' domain e
fitting_enable_stays q q' None None pool g h = h
fitting_enable_stays q q' None (Some e) pool g h = absurd h
fitting_enable_stays q q' (Some d) None pool g h = absurd h
fitting_enable_stays q q' (Some d) (Some e) pool g h = fitting_stays q q' (unsigned 1) e pool g h

pub fits_stays : (q q' : Pooled) (m : Memory) → IsPool q → IsGrown q q' → FitsPool q m → FitsPool q' m
fits_stays q q' m pool g h = record {
  writes = all_imp (λ w x. record { addr = fitting_stays q q' _ w.addr pool g x.addr; word = fitting_stays q q' _ w.word pool g x.word; enable = fitting_stays q q' _ w.enable pool g x.enable }) m.writes h.writes;
  reads = all_imp (λ r x. record { addr = fitting_stays q q' _ r.addr pool g x.addr; word = data_stays q q' m.shape r.word g x.word; enable = fitting_enable_stays q q' r.domain r.enable pool g x.enable }) m.reads h.reads;
}
