-- The bits of a design whose pool grew need each other as before.
use Rattle.std.specs.Prelude.{◌≡◌, ◌<◌, ℕ, ◌==◌, ◌&&◌, ◌||◌, IsTrue, is_none, List, [], ◌∷◌, ◌++◌, map, length, Option, Some, None, Contains}
use Rattle.std.specs.List.{AllByRecursion, flat_map, list_any}
use Rattle.std.proofs.Common.{sym, ◌∙◌, ap, subst, ⊎_elim, inl, inr}
use Rattle.design_ir.specs.declared.ids.ExprId.{ExprId}
use Rattle.design_ir.specs.declared.memory.MemRead.{MemRead}
use Rattle.design_ir.specs.declared.memory.Memory.{Memory}
use Rattle.design_ir.specs.declared.process.DesignProcess.{DesignProcess}
use Rattle.design_ir.specs.Pools.{Pooled}
use Rattle.design_ir.specs.PoolRules.{IsPool}
use Rattle.design_ir.specs.Values.{form, signal_form}
use Rattle.design_ir.specs.Targets.{Bit, aims, fixed_place}
use Rattle.design_ir.specs.Guards.{Guard, Guarded, guarded, driven, block_exprs}
use Rattle.design_ir.specs.Needed.{extended, needed, needed_whole, needed_indices}
use Rattle.design_ir.specs.Circuits.{Circuit, is_among}
use Rattle.design_ir.specs.Designs.{IsUsable, IsProcess, IsReadPort, IsMemory, IsDesign}
use Rattle.design_ir.specs.Loops.{needed_value, AssignmentNeeds, ProcessNeeds, ReadNeeds, Needs, Chain, Loop}
use Rattle.comb_graph.specs.Orders.{is_comb, IsCombBit, IsOrder, NeedsNext, IsLongest}
use Rattle.comb_graph.specs.Rankings.{Ranking, IsRanking, bit_of}
use Rattle.flat_design.specs.Growing.{IsMore}
use Rattle.flat_design.proofs.Growing.{form_more, needed_more, needed_whole_more, indices_more, aims_more}
use Rattle.flat_design.proofs.BlockParts.{HasParts, block_parts}
use Rattle.flat_design.proofs.FlatOrders.{all_of}
use Rattle.fragment_laws.specs.SamePools.{AllSame}
use Rattle.fragment_laws.specs.Growth.{NeedsTheSame, GrowthKeepsNeeds}
use Rattle.fragment_laws.proofs.Twins.{all_imp, flat_same, any_same, driven_same}
use Rattle.fragment_laws.proofs.GrowthLaws.{pools_same}

-- what an assignment needs over a pool is what it needs over one with the same aims and needs
assignment_kept : (p q : Pooled) (g : Guarded) (b x : Bit) → aims p g.target.0 ≡ aims q g.target.0
    → ((o : Option ℕ) → flat_map (λ (y : Guard). needed_whole p y.condition) g.guards ++ needed_indices p g.target.0 ++ needed_value p g.value o ≡ flat_map (λ (y : Guard). needed_whole q y.condition) g.guards ++ needed_indices q g.target.0 ++ needed_value q g.value o)
    → AssignmentNeeds p g b x → AssignmentNeeds q g b x
assignment_kept p q g b x same reads n =
    record { aim = n.aim; may = subst (λ xs. Contains xs n.aim) same n.may; writes = n.writes; reads = subst (λ xs. Contains xs x) (reads (fixed_place n.aim.spot)) n.reads }

module _ (c : Circuit) (q : Pooled) (rules : IsPool c.pool) (design : IsDesign c) (more : IsMore c.pool q) where
  abbrev d : Circuit
  d = record c { pool = q }

  abbrev IsHere : ExprId → Type 0
  IsHere e = e.0 < length c.pool.exprs

  -- ---- assignments

  value_needs : (e : ExprId) (o : Option ℕ) → IsHere e → needed_value q e o ≡ needed_value c.pool e o
  value_needs e None there = needed_whole_more c.pool q rules more e there
  value_needs e (Some k) there = ap (λ f. extended f (needed q e.0) k) (form_more c.pool q rules more e.0 there) ∙ ap (λ bits. extended (form c.pool e.0) bits k) (needed_more c.pool q rules more e.0 there)

  reads_same : (g : Guarded) → HasParts IsHere g → (o : Option ℕ)
      → flat_map (λ (y : Guard). needed_whole q y.condition) g.guards ++ needed_indices q g.target.0 ++ needed_value q g.value o
      ≡ flat_map (λ (y : Guard). needed_whole c.pool y.condition) g.guards ++ needed_indices c.pool g.target.0 ++ needed_value c.pool g.value o
  reads_same g h o =
      let a = flat_same (λ (y : Guard). IsHere y.condition) (λ (y : Guard). needed_whole q y.condition) (λ (y : Guard). needed_whole c.pool y.condition) (λ y k. needed_whole_more c.pool q rules more y.condition k) g.guards h.guards in
      let b = indices_more c.pool q rules more g.target.0 h.target in
      let e = value_needs g.value o h.value in
      cc

  parts_of : (p : DesignProcess) → Contains c.processes p → (g : Guarded) → Contains (guarded [] p.body) g → HasParts IsHere g
  parts_of p among g stands =
      let process : IsProcess c p = all_of (IsProcess c) c.processes p design.processes among in
      let here : AllByRecursion IsHere (block_exprs p.body) = all_imp (λ (e : ExprId) (h : IsUsable c e). h.there) (block_exprs p.body) process.expressions in
      all_of (HasParts IsHere) (guarded [] p.body) g (block_parts IsHere [] p.body tt here) stands

  -- ---- needs

  process_into : (b x : Bit) → ProcessNeeds d b x → ProcessNeeds c b x
  process_into b x n =
      let h = parts_of n.process n.among n.assignment n.stands in
      record { process = n.process; among = n.among; comb = n.comb; assignment = n.assignment; stands = n.stands; needs = assignment_kept q c.pool n.assignment b x (aims_more c.pool q rules more n.assignment.target.0 h.target) (reads_same n.assignment h) n.needs }

  process_from : (b x : Bit) → ProcessNeeds c b x → ProcessNeeds d b x
  process_from b x n =
      let h = parts_of n.process n.among n.assignment n.stands in
      record {
        process = n.process;
        among = n.among;
        comb = n.comb;
        assignment = n.assignment;
        stands = n.stands;
        needs = assignment_kept c.pool q n.assignment b x (sym (aims_more c.pool q rules more n.assignment.target.0 h.target)) (λ o. sym (reads_same n.assignment h o)) n.needs;
      }

  address_same : (m : Memory) (r : MemRead) → Contains c.memories m → Contains m.reads r → needed_whole q r.addr ≡ needed_whole c.pool r.addr
  address_same m r among stands =
      let memory : IsMemory c m = all_of (IsMemory c) c.memories m design.memories among in
      let port : IsReadPort c m r = all_of (IsReadPort c m) m.reads r memory.reads stands in
      needed_whole_more c.pool q rules more r.addr port.addr.usable.there

  read_into : (b x : Bit) → ReadNeeds d b x → ReadNeeds c b x
  read_into b x n = record {
    memory = n.memory;
    among = n.among;
    read = n.read;
    stands = n.stands;
    comb = n.comb;
    word = n.word;
    inside = subst (λ sigs. b.index < (signal_form sigs b.sig).width) more.signals n.inside;
    address = subst (λ xs. Contains xs x) (address_same n.memory n.read n.among n.stands) n.address;
  }

  read_from : (b x : Bit) → ReadNeeds c b x → ReadNeeds d b x
  read_from b x n = record {
    memory = n.memory;
    among = n.among;
    read = n.read;
    stands = n.stands;
    comb = n.comb;
    word = n.word;
    inside = subst (λ sigs. b.index < (signal_form sigs b.sig).width) (sym more.signals) n.inside;
    address = subst (λ xs. Contains xs x) (sym (address_same n.memory n.read n.among n.stands)) n.address;
  }

  into : (b x : Bit) → Needs d b x → Needs c b x
  into b x n = ⊎_elim (λ h. inl (process_into b x h)) (λ h. inr (read_into b x h)) n

  from : (b x : Bit) → Needs c b x → Needs d b x
  from b x n = ⊎_elim (λ h. inl (process_from b x h)) (λ h. inr (read_from b x h)) n

-- ---- two designs whose bits need each other alike

module _ (c d : Circuit) (into : (b x : Bit) → Needs d b x → Needs c b x) where
  chain_alike : (b : Bit) (xs : List Bit) (end : Bit) → Chain d b xs end → Chain c b xs end
  chain_alike b [] end h = into b end h
  chain_alike b (x ∷ xs) end h = (into b x h.0, chain_alike x xs end h.1)

  loop_alike : (b : Bit) → Loop d b → Loop c b
  loop_alike b h = (h.0, chain_alike b h.0 b h.1)

  next_alike : (xs : List Bit) → NeedsNext d xs → NeedsNext c xs
  next_alike [] h = tt
  next_alike (b ∷ []) h = tt
  next_alike (b ∷ x ∷ xs) h = (into b x h.0, next_alike (x ∷ xs) h.1)

  module _ (from : (b x : Bit) → Needs c b x → Needs d b x) (bits : (b : Bit) → IsCombBit d b → IsCombBit c b) (back : (b : Bit) → IsCombBit c b → IsCombBit d b) (next_back : (xs : List Bit) → NeedsNext c xs → NeedsNext d xs) where
    order_alike : (order : List Bit) → IsOrder d order → IsOrder c order
    order_alike order h = record {
      all = λ b is. h.all b (back b is);
      only = all_imp bits order h.only;
      once = h.once;
      behind = λ before after b x e is needs. h.behind before after b x e (back x is) (from b x needs);
    }

    longest_alike : (n : ℕ) → IsLongest d n → IsLongest c n
    longest_alike n h = record {
      chain = h.chain;
      is_chain = record { bits = all_imp bits h.chain h.is_chain.bits; needs = next_alike h.chain h.is_chain.needs };
      long = h.long;
      most = λ other k. h.most other (record { bits = all_imp back other k.bits; needs = next_back other k.needs });
    }

    ranks_alike : (r : Ranking) → IsRanking d r → IsRanking c r
    ranks_alike r h = record { order = order_alike (map bit_of r.order) h.order; longest = longest_alike r.longest h.longest }

module _ (c : Circuit) (q : Pooled) (rules : IsPool c.pool) (design : IsDesign c) (more : IsMore c.pool q) where
  abbrev after : Circuit
  after = record c { pool = q }

  comb_same : (s : ℕ) → is_comb after s ≡ is_comb c s
  comb_same s =
      ap (λ b. b || list_any (λ (m : Memory). list_any (λ (r : MemRead). is_none r.domain && (r.word.0 == s)) m.reads) c.memories)
      (any_same (λ (p : DesignProcess). AllSame q c.pool (block_exprs p.body)) (λ (p : DesignProcess). is_none p.domain && is_among (driven q p.body) s) (λ (p : DesignProcess). is_none p.domain && is_among (driven c.pool p.body) s)
      (λ p h. ap (λ ss. is_none p.domain && is_among ss s) (driven_same q c.pool more.signals p.body h)) c.processes (pools_same c q rules design more).processes)

  bits : (b : Bit) → IsCombBit after b → IsCombBit c b
  bits b h = record { comb = subst IsTrue (comb_same b.sig) h.comb; inside = subst (λ sigs. b.index < (signal_form sigs b.sig).width) more.signals h.inside }

  back : (b : Bit) → IsCombBit c b → IsCombBit after b
  back b h = record { comb = subst IsTrue (sym (comb_same b.sig)) h.comb; inside = subst (λ sigs. b.index < (signal_form sigs b.sig).width) (sym more.signals) h.inside }

  pub needs_same : NeedsTheSame c after
  needs_same =
      let n : (b x : Bit) → Needs after b x → Needs c b x = into c q rules design more in
      let m : (b x : Bit) → Needs c b x → Needs after b x = from c q rules design more in
      record {
        needs = λ b x. (n b x, m b x);
        loops = λ b. (loop_alike c after n b, loop_alike after c m b);
        longest = λ k. (longest_alike c after n m bits back (next_alike after c m) k, longest_alike after c m n back bits (next_alike c after n) k);
        ranks = λ r. (ranks_alike c after n m bits back (next_alike after c m) r, ranks_alike after c m n back bits (next_alike c after n) r);
      }

pub growth_keeps_needs : GrowthKeepsNeeds
growth_keeps_needs c d rules design grown = subst (NeedsTheSame c) (sym grown.rest) (needs_same c d.pool rules design grown.more)
