-- What each turn of the walk comes to.
use Rattle.std.proofs.Common.{◌≡◌, ◌∙◌, inl, inr, ℕ, ◌-◌, ◌<◌, List, [], ◌∷◌, ◌++◌, map, length, refl, sym, subst, arith, slice_set}
use Rattle.std.specs.List.{Contains}
use Rattle.std.proofs.lemmas.Bool.{cases_eq}
use Rattle.std.proofs.lemmas.Option.{slice_get_within}
use Rattle.std.proofs.lemmas.List.{length-set}
use Rattle.std.proofs.lemmas.List.Elements.{Contains-append_left, Contains-push, Contains-push_cases}
use Rattle.digraph.specs.declared.walk.Mark.{Mark}
use Rattle.digraph.specs.declared.walk.Mark.TheVariants.{New, Open, Done}
use Rattle.digraph.specs.declared.walk.Frame.{Frame}
use Rattle.digraph.specs.Graphs.{Digraph, Leads, Path, Reaches, IsNext, IsRest, NoneWithin, edge}
use Rattle.digraph.specs.Walks.{Walking, mark, Apart, IsClosed, IsOnPath, ArePath, stack, Stands, IsIdle, opened, waiting}
use Rattle.digraph.proofs.WalkPaths.{apart-push, apart-pop, stack-push, path-push, path-pop, path-kept, path_reaches}
use Rattle.digraph.proofs.WalkLaws.{marked_inside, mark-same, mark-other, done-kept, opened-done, closed_finished, all_read, read_next, leads_at}

-- ---- back from a node that is done

-- the path without its last node, which is done
path_finished : (g : Digraph) (marks : List Mark) (fs : List Frame) (f at : Frame) → IsOnPath g marks (fs ++ f ∷ []) at → IsOnPath g (slice_set marks at.node Done) fs f
path_finished g marks fs f at h =
    let n = at.node in
    let is : mark marks n ≡ Open = h.is_open n (Contains-push (map (λ (x : Frame). x.node) (fs ++ f ∷ [])) n) in
    let inside : n < length marks = marked_inside marks n Open is (λ q. cc) in
    let split : stack (fs ++ f ∷ []) n ≡ stack fs f.node ++ n ∷ [] = stack-push fs f n in
    let parts = path-pop g marks fs f n h.waits in
    let once = apart-pop (stack fs f.node) n (subst Apart split h.once) in
    record {
      rest = parts.1.rest;
      read = λ k b from found. elim (parts.1.read k b from found) [
        | inl done ↦ done-kept marks n b inside done
        | inr same ↦ subst (λ j. mark (slice_set marks n Done) j ≡ Done) (sym same) (mark-same marks n Done inside)
      ];
      waits = path-kept g marks (slice_set marks n Done) fs f.node (λ k done. done-kept marks n k inside done) parts.0;
      is_open = λ k in'.
          mark-other marks n k Done (λ same. once.1 (subst (λ j. Contains (stack fs f.node) j) same in'))
          ∙ h.is_open k (subst (λ ns. Contains ns k) (sym split) (Contains-append_left (stack fs f.node) (n ∷ []) k in'));
      stacked = λ k was. elim (cases_eq k n) [
        | inl same ↦ let d : mark (slice_set marks n Done) k ≡ Done = subst (λ j. mark (slice_set marks n Done) j ≡ Done) (sym same) (mark-same marks n Done inside) in absurd cc
        | inr other ↦
            let old : Contains (stack fs f.node ++ n ∷ []) k = subst (λ ns. Contains ns k) split (h.stacked k (sym (mark-other marks n k Done other) ∙ was)) in
            elim (Contains-push_cases (stack fs f.node) n k old) [ inl in' ↦ in' | inr same ↦ absurd (other (sym same)) ]
      ];
      once = once.0;
    }

pub finished_goes : (g : Digraph) (w : Walking) (at f : Frame) (fs : List Frame) → Stands g w at → at.rest ≡ 0 → w.path ≡ fs ++ f ∷ []
    → Stands g (record { marks = slice_set w.marks at.node Done; path = fs; order = w.order ++ at.node ∷ [] }) f
finished_goes g w at f fs h none is =
    let was : mark w.marks at.node ≡ Open = h.on_path.is_open at.node (Contains-push (map (λ (x : Frame). x.node) w.path) at.node) in
    record {
      closed = closed_finished g w.marks w.order at.node h.closed was (all_read g w.marks w.path at none h.on_path);
      on_path = path_finished g w.marks fs f at (subst (λ p. IsOnPath g w.marks p at) is h.on_path);
    }

pub finished_ends : (g : Digraph) (w : Walking) (at : Frame) → Stands g w at → at.rest ≡ 0 → w.path ≡ []
    → IsIdle g (record { marks = slice_set w.marks at.node Done; path = []; order = w.order ++ at.node ∷ [] })
finished_ends g w at h none is =
    let n = at.node in
    let was : mark w.marks n ≡ Open = h.on_path.is_open n (Contains-push (map (λ (x : Frame). x.node) w.path) n) in
    let inside : n < length w.marks = marked_inside w.marks n Open was (λ q. cc) in
    record {
      closed = closed_finished g w.marks w.order n h.closed was (all_read g w.marks w.path at none h.on_path);
      none_open = λ k is_open. elim (cases_eq k n) [
        | inl same ↦ let d : mark (slice_set w.marks n Done) k ≡ Done = subst (λ j. mark (slice_set w.marks n Done) j ≡ Done) (sym same) (mark-same w.marks n Done inside) in cc
        | inr other ↦
            let old : Contains (stack [] n) k = subst (λ p. Contains (stack p n) k) is (h.on_path.stacked k (sym (mark-other w.marks n k Done other) ∙ is_open)) in
            elim (Contains-push_cases [] n k old) [ inl in' ↦ omega (arith, in'.1) | inr same ↦ other (sym same) ]
      ];
      no_path = refl;
    }

-- ---- on to the next edge

-- it leads to a node that is done
pub passed : (g : Digraph) (w : Walking) (at : Frame) (upto others : ℕ) → Stands g w at → IsNext g at.node at.rest upto others → mark w.marks upto ≡ Done
    → Stands g w (record { node = at.node; rest = others })
passed g w at upto others h next is = record {
  closed = h.closed;
  on_path = record {
    rest = next.is_rest;
    read = λ k b from found. elim (read_next g w.marks w.path at upto others h.on_path next k b from found) [
      | inl done ↦ done
      | inr same ↦ subst (λ j. mark w.marks j ≡ Done) (sym same) is
    ];
    waits = h.on_path.waits;
    is_open = h.on_path.is_open;
    stacked = h.on_path.stacked;
    once = h.on_path.once;
  };
}

-- a path goes on
path-then : (g : Digraph) (a : ℕ) (between : List ℕ) (b c : ℕ) → Path g a between b → Leads g b c → Path g a (between ++ b ∷ []) c
path-then g a [] b c h leads = (h, leads)
path-then g a (x ∷ xs) b c h leads = (h.0, path-then g x xs b c h.1 leads)

pub reaches-then : (g : Digraph) (a b c : ℕ) → Reaches g a b → Leads g b c → Reaches g a c
reaches-then g a b c h leads = (h.0 ++ b ∷ [], path-then g a h.0 b c h.1 leads)

-- it leads to a node that is open
pub looped : (g : Digraph) (w : Walking) (at : Frame) (upto others : ℕ) → Stands g w at → IsNext g at.node at.rest upto others → mark w.marks upto ≡ Open → Reaches g upto upto
looped g w at upto others h next is =
    let leads : Leads g at.node upto = leads_at g (at.rest - 1) at.node upto next.at in
    elim (Contains-push_cases (map (λ (x : Frame). x.node) w.path) at.node upto (h.on_path.stacked upto is)) [
      | inl in' ↦ reaches-then g upto at.node upto (path_reaches g w.marks w.path at.node upto h.on_path.waits in') leads
      | inr same ↦ ([], subst (λ j. Leads g j upto) same leads)
    ]

-- ---- it leads to a new node

closed_opened : (g : Digraph) (marks : List Mark) (order : List ℕ) (n : ℕ) → IsClosed g marks order → mark marks n ≡ New → n < length marks → IsClosed g (slice_set marks n Open) order
closed_opened g marks order n h new inside = record {
  size = length-set marks n Open ∙ h.size;
  ordered = λ k done. elim (cases_eq k n) [
    | inl same ↦ let o : mark (slice_set marks n Open) k ≡ Open = subst (λ j. mark (slice_set marks n Open) j ≡ Open) (sym same) (mark-same marks n Open inside) in absurd cc
    | inr other ↦ h.ordered k (sym (mark-other marks n k Open other) ∙ done)
  ];
  done = λ k in'. opened-done marks n k new (h.done k in');
  once = h.once;
  behind = h.behind;
}

path_opened : (g : Digraph) (marks : List Mark) (path : List Frame) (at : Frame) (upto others last : ℕ) → IsOnPath g marks path at → IsNext g at.node at.rest upto others
    → mark marks upto ≡ New → upto < length marks → IsRest g upto last → NoneWithin g upto last (length g.edges)
    → IsOnPath g (slice_set marks upto Open) (path ++ record { node = at.node; rest = others } ∷ []) (record { node = upto; rest = last })
path_opened g marks path at upto others last h next new inside rest none =
    let here : Frame = record { node = at.node; rest = others } in
    let split : stack (path ++ here ∷ []) upto ≡ stack path at.node ++ upto ∷ [] = stack-push path here upto in
    let kept = λ (k : ℕ) (done : mark marks k ≡ Done). opened-done marks upto k new done in
    let fresh : Contains (stack path at.node) upto → ⊥ = λ in'. let o : mark marks upto ≡ Open = h.is_open upto in' in cc in
    record {
      rest = rest;
      read = λ k b from found. absurd (none k b from (slice_get_within g.edges k (edge upto b) found) found);
      waits = path-push g (slice_set marks upto Open) path here upto
          (path-kept g marks (slice_set marks upto Open) path at.node kept h.waits)
          (record {
            rest = next.is_rest;
            leads = leads_at g (at.rest - 1) at.node upto next.at;
            read = λ k b from found. elim (read_next g marks path at upto others h next k b from found) [ inl done ↦ inl (kept b done) | inr same ↦ inr same ];
          });
      is_open = λ k in'. elim (Contains-push_cases (stack path at.node) upto k (subst (λ ns. Contains ns k) split in')) [
        | inl old ↦ mark-other marks upto k Open (λ same. fresh (subst (λ j. Contains (stack path at.node) j) same old)) ∙ h.is_open k old
        | inr same ↦ subst (λ j. mark (slice_set marks upto Open) j ≡ Open) same (mark-same marks upto Open inside)
      ];
      stacked = λ k is. subst (λ ns. Contains ns k) (sym split) (elim (cases_eq k upto) [
        | inl same ↦ subst (λ j. Contains (stack path at.node ++ upto ∷ []) j) (sym same) (Contains-push (stack path at.node) upto)
        | inr other ↦ Contains-append_left (stack path at.node) (upto ∷ []) k (h.stacked k (sym (mark-other marks upto k Open other) ∙ is))
      ]);
      once = subst Apart (sym split) (apart-push (stack path at.node) upto h.once fresh);
    }

pub entered : (g : Digraph) (w : Walking) (at : Frame) (upto others last : ℕ) → Stands g w at → IsNext g at.node at.rest upto others
    → mark w.marks upto ≡ New → upto < length w.marks → IsRest g upto last → NoneWithin g upto last (length g.edges)
    → Stands g (opened (waiting w (record { node = at.node; rest = others })) upto) (record { node = upto; rest = last })
entered g w at upto others last h next new inside rest none = record {
  closed = closed_opened g w.marks w.order upto h.closed new inside;
  on_path = path_opened g w.marks w.path at upto others last h.on_path next new inside rest none;
}

-- a walk begins at a root
pub begun : (g : Digraph) (w : Walking) (root last : ℕ) → IsIdle g w → mark w.marks root ≡ New → root < length w.marks → IsRest g root last → NoneWithin g root last (length g.edges)
    → Stands g (opened w root) (record { node = root; rest = last })
begun g w root last h new inside rest none = record {
  closed = closed_opened g w.marks w.order root h.closed new inside;
  on_path = record {
    rest = rest;
    read = λ k b from found. absurd (none k b from (slice_get_within g.edges k (edge root b) found) found);
    waits = subst (λ p. ArePath g (slice_set w.marks root Open) p root) (sym h.no_path) tt;
    is_open = λ k in'. elim (Contains-push_cases [] root k (subst (λ p. Contains (stack p root) k) h.no_path in')) [
      | inl old ↦ absurd (omega (arith, old.1))
      | inr same ↦ subst (λ j. mark (slice_set w.marks root Open) j ≡ Open) same (mark-same w.marks root Open inside)
    ];
    stacked = λ k is. subst (λ p. Contains (stack p root) k) (sym h.no_path) (elim (cases_eq k root) [
      | inl same ↦ subst (λ j. Contains (root ∷ []) j) (sym same) (Contains-push [] root)
      | inr other ↦ absurd (h.none_open k (sym (mark-other w.marks root k Open other) ∙ is))
    ]);
    once = subst (λ p. Apart (stack p root)) (sym h.no_path) ((λ q. omega (arith, q.1)), tt);
  };
}
