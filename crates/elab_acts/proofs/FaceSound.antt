-- What is held stays sound where interfaces are made.
use Rattle.std.proofs.Common.{◌≡◌, ℕ, zero, suc, ◌+◌, ◌<◌, ◌≤◌, ◌==◌, ◌||◌, ◌&&◌, nat_lt, ap, ◌∙◌, sym, subst, refl, not, Bool, true, false, cond, List, [], ◌∷◌, ◌++◌, length, Option, Some, None, true≢false, arith}
use Rattle.std.specs.Prelude.{⊤, map, slice_get, codes, IsTrue, All}
use Rattle.std.specs.List.{AllByRecursion}
use Rattle.std.proofs.lemmas.Bool.{ltb-true}
use Rattle.std.proofs.lemmas.List.{length-append, append_assoc, append-nil}
use Rattle.std.proofs.lemmas.List.Elements.{All-append}
use Rattle.std.proofs.lemmas.List.Sums.{AllPass-from_list_all}
use Rattle.lists.specs.Names.{IsName, continues_name, is_between}
use Rattle.py_values.specs.declared.val.Val.{Val}
use Rattle.py_frames.specs.declared.request.NamedVal.{NamedVal}
use Rattle.design_ir.specs.declared.port.Port.{Port}
use Rattle.design_ir.specs.declared.expr.Expr.{Expr}
use Rattle.design_ir.specs.declared.expr.Expr.TheVariants as expr
use Rattle.design_ir.specs.PoolRules.{signal_added}
use Rattle.design_ir.proofs.Growth.{length_more}
use Rattle.clock_domains.specs.Resolvable.{ArePorts}
use Rattle.elab_store.specs.declared.faces.Face.{Face}
use Rattle.elab_store.specs.declared.faces.End.{End}
use Rattle.elab_store.specs.declared.faces.FaceMember.{FaceMember}
use Rattle.elab_store.specs.declared.faces.FaceMember.TheVariants as face
use Rattle.elab_store.specs.declared.faces.ComponentObject.{ComponentObject}
use Rattle.elab_store.specs.declared.kept.Kept.{Kept}
use Rattle.elab_store.specs.declared.kept.Kept.TheVariants as kept_as
use Rattle.elab_store.specs.declared.leaves.Leaf.{Leaf}
use Rattle.elab_store.specs.declared.members.MemberForm.{MemberForm}
use Rattle.elab_store.specs.declared.members.MemberForm.TheVariants as form
use Rattle.elab_store.specs.declared.members.NamedMember.{NamedMember}
use Rattle.elab_store.specs.Leaves.{Signatures, joined, turned_by, form_leaves, all_leaves, some_members, leaves_in, leaves, form_count}
use Rattle.elab_store.specs.Faces.{IsFace, IsMember, member_as, members_from, face_members}
use Rattle.elab_store.specs.Stores.{Held}
use Rattle.elab_store.specs.Sound.{IsKept, IsEnd, IsObject, IsOwnMemory, IsSound}
use Rattle.elab_store.proofs.MemoryLaws.{HasFreeData, data_free, data_below}
use Rattle.elab_store.proofs.FaceLaws.{all_count}
use Rattle.elab_store.proofs.LeafLaws.{leaves_here, leaves_before, leaves_grown, in_length, length_more as members_length}
use Rattle.elab_components.specs.Signals.{signal_passes}
use Rattle.elab_components.specs.Faces.{leaf_signal, next_end, with_end, with_leaf, and_made, leaves_made, port_of, leaf_ports, signing, part_val}
use Rattle.elab_components.specs.Interfaces.{name_bound, names_bound}
use Rattle.elab_acts.proofs.EachLaws.{all_each}
use Rattle.elab_acts.proofs.GrownLaws.{IsKeptIn, all_and, keeping_sound}
use Rattle.elab_acts.proofs.MachineSound.{get_last, target_last}
use Rattle.elab_acts.proofs.PortLaws.{port_more, ports_stay}
use Rattle.elab_acts.proofs.SignalSound.{unlimited_sound}

-- ---- names of leaves

-- nothing, or a name
abbrev pub IsPrefix : List ℕ → Type 0
IsPrefix [] = ⊤
IsPrefix (b ∷ bs) = IsName (b ∷ bs)

pub name_is_prefix : (name : List ℕ) → IsName name → IsPrefix name
name_is_prefix [] n = tt
name_is_prefix (b ∷ bs) n = n

joined_name : (prefix name : List ℕ) → IsPrefix prefix → IsName name → IsName (joined prefix name)
joined_name [] name p n = n
joined_name (b ∷ bs) name p n =
    let first = AllPass-from_list_all continues_name (n.first ∷ []) (ap (λ x. (x || is_between 48 57 n.first) && true) n.starts) in
    let whole = subst (λ xs. All (λ x. IsTrue (continues_name x)) xs) (sym n.whole) (All-append (λ x. IsTrue (continues_name x)) (n.first ∷ []) n.rest first n.continues) in record {
      first = p.first;
      rest = p.rest ++ (codes "__" ++ name);
      whole = ap (λ xs. xs ++ (codes "__" ++ name)) p.whole;
      starts = p.starts;
      continues = All-append (λ x. IsTrue (continues_name x)) p.rest (codes "__" ++ name) p.continues
          (All-append (λ x. IsTrue (continues_name x)) (codes "__") name (AllPass-from_list_all continues_name (codes "__") refl) whole);
    }

abbrev pub AreNamed : List NamedMember → Type 0
AreNamed ms = AllByRecursion (λ (m : NamedMember). IsName m.name) ms

abbrev pub AreAllNamed : Signatures → Type 0
AreAllNamed sigs = AllByRecursion (λ (ms : List NamedMember). AllByRecursion (λ (m : NamedMember). IsName m.name) ms) sigs

abbrev pub ArePaths : List Leaf → Type 0
ArePaths ls = AllByRecursion (λ (l : Leaf). IsName l.path) ls

members_named : (sigs : Signatures) (k : ℕ) → AreAllNamed sigs → AreNamed (some_members (slice_get sigs k))
members_named [] k h = tt
members_named (ms ∷ sigs) zero h = h.0
members_named (ms ∷ sigs) (suc k) h = members_named sigs k h.1

form_named : (known : Bool → List ℕ → ℕ → List Leaf) → ((t : Bool) (p : List ℕ) (n : ℕ) → IsPrefix p → ArePaths (known t p n)) → (is_out : Bool) (path : List ℕ) (x : MemberForm) → IsName path → ArePaths (form_leaves known is_out path x)
form_named known f is_out path (form.Port shape init) n = (n, tt)
form_named known f is_out path (form.Nested k) n = f (not is_out) path k (name_is_prefix path n)

all_named : (known : Bool → List ℕ → ℕ → List Leaf) → ((t : Bool) (p : List ℕ) (n : ℕ) → IsPrefix p → ArePaths (known t p n)) → (t : Bool) (p : List ℕ) (ms : List NamedMember) → IsPrefix p → AreNamed ms → ArePaths (all_leaves known t p ms)
all_named known f t p [] q h = tt
all_named known f t p (m ∷ ms) q h =
    all_and (λ (l : Leaf). IsName l.path) (form_leaves known (turned_by t m.member.is_out) (joined p m.name) m.member.form) (all_leaves known t p ms)
    (form_named known f (turned_by t m.member.is_out) (joined p m.name) m.member.form (joined_name p m.name q h.0)) (all_named known f t p ms q h.1)

pub leaves_named : (k : ℕ) (sigs : Signatures) → AreAllNamed sigs → (t : Bool) (p : List ℕ) (n : ℕ) → IsPrefix p → ArePaths (leaves_in k sigs t p n)
unfolding leaves_in
leaves_named zero sigs h t p n q = tt
leaves_named (suc k) sigs h t p n q = by_test (n == k) (all_named (leaves_in k sigs) (leaves_named k sigs h) t p (some_members (slice_get sigs k)) q (members_named sigs k h)) (leaves_named k sigs h t p n q)
  where
    by_test : (b : Bool) → ArePaths (all_leaves (leaves_in k sigs) t p (some_members (slice_get sigs k))) → ArePaths (leaves_in k sigs t p n)
        → ArePaths (cond b (all_leaves (leaves_in k sigs) t p (some_members (slice_get sigs k))) (leaves_in k sigs t p n))
    by_test true here below = here
    by_test false here below = below

-- ---- interfaces as ends and signatures come

ends_more : (sigs : Signatures) (ends more : List End) (f : Face) → IsFace sigs ends f → IsFace sigs (ends ++ more) f
ends_more sigs ends more f s = record { there = s.there; few = s.few; within = omega (arith, s.within, length-append ends more) }

signatures_more : (sigs more : Signatures) (ends : List End) (f : Face) → IsFace sigs ends f → IsFace (sigs ++ more) ends f
signatures_more sigs more ends f s =
    let same = ap (λ (ls : List Leaf). length ls) (leaves_grown sigs more f.turned [] f.signature s.there) in
    record { there = omega (arith, s.there, length-append sigs more); few = omega (arith, s.few, same); within = omega (arith, s.within, same) }

kept_faces : (q : _) (sigs tigs : Signatures) (ends others : List End) → ((f : Face) → IsFace sigs ends f → IsFace tigs others f) → (k : Kept) → IsKept q sigs ends k → IsKept q tigs others k
kept_faces q sigs tigs ends others g (kept_as.Statement x) h = h
kept_faces q sigs tigs ends others g (kept_as.Name n) h = tt
kept_faces q sigs tigs ends others g (kept_as.Module m) h = tt
kept_faces q sigs tigs ends others g (kept_as.Domains m) h = tt
kept_faces q sigs tigs ends others g (kept_as.Domain m d) h = tt
kept_faces q sigs tigs ends others g (kept_as.Submodules m) h = tt
kept_faces q sigs tigs ends others g (kept_as.Definitions m) h = tt
kept_faces q sigs tigs ends others g (kept_as.ClockDomain k) h = tt
kept_faces q sigs tigs ends others g (kept_as.Memory k) h = tt
kept_faces q sigs tigs ends others g (kept_as.OfMemory k m) h = tt
kept_faces q sigs tigs ends others g (kept_as.MemoryPort x) h = h
kept_faces q sigs tigs ends others g (kept_as.Wrapping k) h = tt
kept_faces q sigs tigs ends others g (kept_as.Wrapped k) h = tt
kept_faces q sigs tigs ends others g (kept_as.Port is_out shape init) h = tt
kept_faces q sigs tigs ends others g (kept_as.Nested is_out n) h = tt
kept_faces q sigs tigs ends others g (kept_as.Signature n) h = tt
kept_faces q sigs tigs ends others g (kept_as.OfSignature n m) h = tt
kept_faces q sigs tigs ends others g (kept_as.Interface f) h = g f h
kept_faces q sigs tigs ends others g (kept_as.BlockName m n) h = tt
kept_faces q sigs tigs ends others g (kept_as.Block m b) h = h
kept_faces q sigs tigs ends others g (kept_as.OfMachine x) h = tt
kept_faces q sigs tigs ends others g (kept_as.OfSimulator x) h = tt
kept_faces q sigs tigs ends others g (kept_as.OfBench x) h = tt

-- an end more
pub with_end_sound : (e : End) (h : Held) → IsSound h → IsEnd h.pool e → IsSound (with_end e h)
with_end_sound e h s is =
    let sigs = h.store.components.signatures in
    let ends = h.store.components.ends in
    let more : List End = ends ++ e ∷ [] in record {
      names = s.names;
      things = s.things;
      kept = all_each (IsKeptIn h) (IsKept h.pool sigs more) h.store.kept (kept_faces h.pool sigs sigs ends more (ends_more sigs ends (e ∷ []))) s.kept;
      modules = s.modules;
      machines = s.machines;
      domains = s.domains;
      additions = s.additions;
      clock_domains = s.clock_domains;
      memories = s.memories;
      registers = s.registers;
      wrappings = s.wrappings;
      waits = s.waits;
      components = record {
        names = s.components.names;
        ends = all_and (IsEnd h.pool) ends (e ∷ []) s.components.ends (is, tt);
        objects = all_each (λ (o : ℕ × ComponentObject). IsObject h.pool sigs ends o.1) (λ (o : ℕ × ComponentObject). IsObject h.pool sigs more o.1) h.store.components.objects
            (λ o x. record { ports = x.ports; face = ends_more sigs ends (e ∷ []) o.1.face x.face }) s.components.objects;
      };
    }

-- a signature more
pub signing_sound : (ms : List NamedMember) (h : Held) → IsSound h → AllByRecursion (λ (m : NamedMember). IsName m.name) ms → IsSound (signing ms h)
signing_sound ms h s named =
    let sigs = h.store.components.signatures in
    let more : Signatures = sigs ++ ms ∷ [] in
    let ends = h.store.components.ends in record {
      names = s.names;
      things = s.things;
      kept = all_each (IsKeptIn h) (IsKept h.pool more ends) h.store.kept (kept_faces h.pool sigs more ends ends (signatures_more sigs (ms ∷ []) ends)) s.kept;
      modules = s.modules;
      machines = s.machines;
      domains = s.domains;
      additions = s.additions;
      clock_domains = s.clock_domains;
      memories = s.memories;
      registers = s.registers;
      wrappings = s.wrappings;
      waits = s.waits;
      components = record {
        names = all_and (λ (xs : List NamedMember). AllByRecursion (λ (m : NamedMember). IsName m.name) xs) sigs (ms ∷ []) s.components.names (named, tt);
        ends = s.components.ends;
        objects = all_each (λ (o : ℕ × ComponentObject). IsObject h.pool sigs ends o.1) (λ (o : ℕ × ComponentObject). IsObject h.pool more ends o.1) h.store.components.objects
            (λ o x. record { ports = x.ports; face = signatures_more sigs (ms ∷ []) ends o.1.face x.face }) s.components.objects;
      };
    }

-- ---- leaves that are made

leaf_sound : (l : Leaf) (h : Held) → IsSound h → IsName l.path → IsSound (with_leaf l h)
leaf_sound l h s name =
    let e : Expr = expr.Sig (record { 0 = length h.pool.signals }) in
    with_end_sound (next_end h) _ (unlimited_sound l.shape.reading (leaf_signal l) h name s) (
    record {
      there = omega (arith, length-append h.pool.signals (leaf_signal l ∷ []));
      expr_there = omega (arith, length-append h.pool.exprs (e ∷ []));
      signal = get_last h.pool.exprs e;
      target = target_last (signal_added h.pool (leaf_signal l)) (record { 0 = length h.pool.signals });
    }
    )

-- what is left of them, and their ports where all were made
abbrev pub IsMade : List Port → ℕ → List Leaf → Bool × Held → Type 0
IsMade ps k ls x = IsSound x.1 × (x.0 ≡ true → ArePorts x.1.pool (ps ++ leaf_ports k ls))

pub leaves_sound : (ls : List Leaf) (h : Held) (ps : List Port) → IsSound h → ArePaths ls → ArePorts h.pool ps → IsMade ps (length h.pool.signals) ls (leaves_made ls h)
leaves_sound [] h ps s names ports = (s, λ e. subst (ArePorts h.pool) (sym (append-nil ps)) ports)
leaves_sound (l ∷ ls) h ps s names ports = by_test (signal_passes h l.shape.form.width) (leaves_sound ls (with_leaf l h) (ps ++ port_of (record { 0 = length h.pool.signals }) l ∷ []))
  where
    k : ℕ
    k = length h.pool.signals

    p : Port
    p = port_of (record { 0 = length h.pool.signals }) l

    by_test : (b : Bool) → (IsSound (with_leaf l h) → ArePaths ls → ArePorts (with_leaf l h).pool (ps ++ p ∷ []) → IsMade (ps ++ p ∷ []) (length (with_leaf l h).pool.signals) ls (leaves_made ls (with_leaf l h)))
        → IsMade ps k (l ∷ ls) (and_made (leaves_made ls) (cond b (false, h) (true, with_leaf l h)))
    by_test true rest = (s, λ e. absurd (true≢false (sym e)))
    by_test false rest =
        let made = rest (leaf_sound l h s names.0) names.1
        (ports_stay (signal_added h.pool (leaf_signal l)) (with_leaf l h).pool (ps ++ p ∷ []) (omega arith) (port_more h.pool ps (leaf_signal l) p ports refl names.0)) in
        let same : (ps ++ p ∷ []) ++ leaf_ports (length (with_leaf l h).pool.signals) ls ≡ ps ++ leaf_ports k (l ∷ ls) =
        append_assoc ps (p ∷ []) (leaf_ports (length (with_leaf l h).pool.signals) ls) ∙ ap (λ n. ps ++ p ∷ leaf_ports n ls) (length_more h.pool.signals (leaf_signal l)) in (
          made.0,
          λ e. subst (ArePorts (leaves_made ls (with_leaf l h)).1.pool) same (made.1 e),
        )

-- ---- memories

-- nothing is done to memories
pub leaves_memories : (ls : List Leaf) (h : Held) → (leaves_made ls h).1.store.memories ≡ h.store.memories
leaves_memories [] h = refl
leaves_memories (l ∷ ls) h = by_test (signal_passes h l.shape.form.width) (leaves_memories ls (with_leaf l h))
  where
    by_test : (b : Bool) → (leaves_made ls (with_leaf l h)).1.store.memories ≡ h.store.memories → (and_made (leaves_made ls) (cond b (false, h) (true, with_leaf l h))).1.store.memories ≡ h.store.memories
    by_test true rest = refl
    by_test false rest = rest

ports_from : (n k : ℕ) (ls : List Leaf) → n ≤ k → AllByRecursion (λ m. n ≤ m) (map (λ (p : Port). p.sig.0) (leaf_ports k ls))
ports_from n k [] le = tt
ports_from n k (l ∷ ls) le = (le, ports_from n (suc k) ls (omega (arith, le)))

-- the ports of an interface are no data of memories that were there
pub leaves_free : (ls : List Leaf) (h : Held) → IsSound h → AllByRecursion (HasFreeData (leaf_ports (length h.pool.signals) ls)) (leaves_made ls h).1.store.memories
leaves_free ls h s =
    subst (AllByRecursion (HasFreeData (leaf_ports (length h.pool.signals) ls))) (sym (leaves_memories ls h))
    (all_each (IsOwnMemory h.pool h.store.clock_domains.made h.store.components.objects) (HasFreeData (leaf_ports (length h.pool.signals) ls)) h.store.memories
    (λ x own. data_free (length h.pool.signals) (leaf_ports (length h.pool.signals) ls) (ports_from (length h.pool.signals) (length h.pool.signals) ls (omega arith)) x (data_below h.pool h.store.clock_domains.made h.store.components.objects x own)) s.memories)

-- ---- members of an interface

abbrev pub IsPart : Signatures → List End → Option FaceMember → Type 0
IsPart sigs ends None = ⊤
IsPart sigs ends (Some m) = IsMember sigs ends m

module _ (sigs : Signatures) (ends : List End) (f : Face) (there : f.signature < length sigs) where
  nested_sound : (is_out : Bool) (k first : ℕ) (b : Bool) → nat_lt k f.signature ≡ b → form_count sigs f.signature (form.Nested k) ≤ 16384 → first + form_count sigs f.signature (form.Nested k) ≤ length ends
      → IsPart sigs ends (cond b (Some (face.Nested (record { signature = k; turned = not is_out; first = first }))) None)
  nested_sound is_out k first true e few within = record { there = omega (arith, there, before); few = omega (arith, few, count); within = omega (arith, within, count) }
    where
      before : k < f.signature
      before = ltb-true k f.signature e

      count : length (leaves sigs (not is_out) [] k) ≡ form_count sigs f.signature (form.Nested k)
      count = in_length (suc k) sigs (not is_out) true [] [] k ∙ ap (λ (ls : List Leaf). length ls) (sym (leaves_before f.signature sigs true [] k before))
  nested_sound is_out k first false e few within = tt

  part_sound : (is_out : Bool) (first : ℕ) (x : MemberForm) → form_count sigs f.signature x ≤ 16384 → first + form_count sigs f.signature x ≤ length ends → IsPart sigs ends (member_as f.signature is_out first x)
  part_sound is_out first (form.Port shape init) few within = omega (arith, within)
  part_sound is_out first (form.Nested k) few within = nested_sound is_out k first (nat_lt k f.signature) refl few within

  parts_sound : (first : ℕ) (ms : List NamedMember) → all_count sigs f ms ≤ 16384 → first + all_count sigs f ms ≤ length ends → AllByRecursion (IsPart sigs ends) (members_from sigs f first ms)
  parts_sound first [] few within = tt
  parts_sound first (m ∷ ms) few within =
      let more = members_length sigs f.signature f.turned m ms in (
        part_sound (turned_by f.turned m.member.is_out) first m.member.form (omega (arith, few, more)) (omega (arith, within, more)),
        parts_sound (first + form_count sigs f.signature m.member.form) ms (omega (arith, few, more)) (omega (arith, within, more)),
      )

pub face_parts_sound : (sigs : Signatures) (ends : List End) (f : Face) → IsFace sigs ends f → AllByRecursion (IsPart sigs ends) (face_members sigs f)
face_parts_sound sigs ends f s =
    let same = ap (λ (ls : List Leaf). length ls) (leaves_here sigs f.turned [] f.signature) in
    parts_sound sigs ends f s.there f.first (some_members (slice_get sigs f.signature)) (omega (arith, s.few, same)) (omega (arith, s.within, same))

-- what is bound changes neither the pool nor what is kept of components
pub record IsBound (h g : Held) : Type 0 where
  pub sound : IsSound g
  pub pool : g.pool ≡ h.pool
  pub components : g.store.components ≡ h.store.components
  pub memories : g.store.memories ≡ h.store.memories

part_bound : (o : Option FaceMember) (h : Held) → IsSound h → IsPart h.store.components.signatures h.store.components.ends o → IsBound h (part_val o h).1
part_bound None h s p = record { sound = s; pool = refl; components = refl; memories = refl }
part_bound (Some (face.Port k)) h s p = record { sound = s; pool = refl; components = refl; memories = refl }
part_bound (Some (face.Nested f)) h s p = record { sound = keeping_sound h (kept_as.Interface f) s p; pool = refl; components = refl; memories = refl }

pub names_sound : (names : List NamedVal) (ms : List NamedMember) (parts : List (Option FaceMember)) (h : Held) → IsSound h → AllByRecursion (IsPart h.store.components.signatures h.store.components.ends) parts → IsBound h (names_bound names ms parts h).1
names_sound names [] parts h s p = record { sound = s; pool = refl; components = refl; memories = refl }
names_sound names (m ∷ ms) [] h s p = record { sound = s; pool = refl; components = refl; memories = refl }
names_sound names (m ∷ ms) (o ∷ parts) h s p = by_val (part_val o h) (part_bound o h s p.0) (λ more g. names_sound more ms parts g)
  where
    by_val : (x : Option Val × Held) → IsBound h x.1
        → ((more : List NamedVal) (g : Held) → IsSound g → AllByRecursion (IsPart g.store.components.signatures g.store.components.ends) parts → IsBound g (names_bound more ms parts g).1)
        → IsBound h (name_bound names m.name (λ more g. names_bound more ms parts g) x).1
    by_val (None, g) b rest = b
    by_val (Some v, g) b rest =
        let x : NamedVal = record { name = m.name; val = v } in
        let after = rest (names ++ x ∷ []) g b.sound (subst (λ (cs : _). AllByRecursion (IsPart cs.signatures cs.ends) parts) (sym b.components) p.1) in
        record { sound = after.sound; pool = after.pool ∙ b.pool; components = after.components ∙ b.components; memories = after.memories ∙ b.memories }
