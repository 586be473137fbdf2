-- A text stands for one module at most.
use Rattle.std.proofs.Common.{◌≡◌, ◌∙◌, ◌⊎◌, ◌<◌, ◌==◌, ◌||◌, ℕ, Bool, true, false, List, [], ◌∷◌, ◌++◌, codes, refl, sym, ap, arith, inl, inr, ⊎_elim, append_assoc}
use Rattle.std.specs.Prelude.{Option, None, Some}
use Rattle.std.specs.List.{flat_map, AllByRecursion}
use Rattle.rtlil_text.specs.Numerals.{numeral}
use Rattle.std.proofs.lemmas.Bool.{true≢false, false≢true}
use Rattle.rtlil_text.specs.declared.module.WirePort.{WirePort}
use Rattle.rtlil_text.specs.declared.module.WirePort.TheVariants.{Inner, Input, Output}
use Rattle.rtlil_text.specs.declared.module.RtlWire.{RtlWire}
use Rattle.rtlil_text.specs.declared.module.RtlMemory.{RtlMemory}
use Rattle.rtlil_text.specs.Lines.{const_text, init_line, init_text, port_text, wire_line, wire_text, memory_text}
use Rattle.rtlil_text.specs.Grammar.{Each}
use Rattle.rtlil_text.proofs.Words.{IsWord, append-cancel, word-cut}
use Rattle.rtlil_text.proofs.Numerals.{IsWord-numeral, numeral-injective}
use Rattle.rtlil_text.proofs.SpecOnce.{IsIdText, IsWord-const_text, const_text-injective}

-- ---- things one after another, each of which is read in one way

module _ {A : Type 0} (Is : List ℕ → A → Type 0) (P : A → Type 0) (start : List ℕ → Bool)
    (begins : (t r : List ℕ) (a : A) → Is t a → start (t ++ r) ≡ true)
    (once : (t u r s : List ℕ) (a b : A) → P a → P b → Is t a → Is u b → t ++ r ≡ u ++ s → (a ≡ b) × (r ≡ s)) where
  ends_here : (u r s first rest : List ℕ) (b : A) → Is first b → u ≡ first ++ rest → start r ≡ false → r ≡ u ++ s → ⊥
  ends_here u r s first rest b h e other same =
      true≢false (sym (begins first (rest ++ s) b h) ∙ ap start (sym (append_assoc first rest s) ∙ ap (λ x. x ++ s) (sym e) ∙ sym same) ∙ other)

  pub each-once : (xs ys : List A) (t u r s : List ℕ) → AllByRecursion P xs → AllByRecursion P ys → Each Is t xs → Each Is u ys → start r ≡ false → start s ≡ false → t ++ r ≡ u ++ s → (xs ≡ ys) × (r ≡ s)
  each-once [] [] t u r s px py h k nr ns same = (refl, ap (λ x. x ++ r) (sym h) ∙ same ∙ ap (λ x. x ++ s) k)
  each-once [] (y ∷ ys) t u r s px py h k nr ns same = absurd (ends_here u r s k.0 k.1 y k.2 k.4 nr (ap (λ x. x ++ r) (sym h) ∙ same))
  each-once (x ∷ xs) [] t u r s px py h k nr ns same = absurd (ends_here t s r h.0 h.1 x h.2 h.4 ns (ap (λ x. x ++ s) (sym k) ∙ sym same))
  each-once (x ∷ xs) (y ∷ ys) t u r s px py h k nr ns same =
      let e : h.0 ++ (h.1 ++ r) ≡ k.0 ++ (k.1 ++ s) = sym (append_assoc h.0 h.1 r) ∙ ap (λ x. x ++ r) (sym h.4) ∙ same ∙ ap (λ x. x ++ s) k.4 ∙ append_assoc k.0 k.1 s in
      let c = once h.0 k.0 (h.1 ++ r) (k.1 ++ s) x y px.0 py.0 h.2 k.2 e in
      let d = each-once xs ys h.1 k.1 r s px.1 py.1 h.3 k.3 nr ns c.1 in
      ((λ i. c.0 i ∷ d.0 i), d.1)

-- the texts that a function gives
pub each-flat_map : {A : Type 0} (f : A → List ℕ) (xs : List A) → Each (λ t a. t ≡ f a) (flat_map f xs) xs
each-flat_map f [] = refl
each-flat_map f (x ∷ xs) = (f x, flat_map f xs, refl, each-flat_map f xs, refl)

-- ---- memories

-- byte k, from 0 on, is c
unfoldable pub is_third : ℕ → List ℕ → Bool
is_third c (x ∷ y ∷ z ∷ rest) = z == c
is_third c (x ∷ y ∷ []) = false
is_third c (x ∷ []) = false
is_third c [] = false

memory_spread : (p a q b w d r : List ℕ) → (p ++ (a ++ (q ++ (b ++ (w ++ (d ++ (10 ∷ []))))))) ++ r ≡ p ++ (a ++ (q ++ (b ++ (w ++ (d ++ (10 ∷ r))))))
memory_spread p a q b w d r = simp append_assoc

abbrev pub IsWordMemory : RtlMemory → Type 0
IsWordMemory m = IsWord m.id

memory-once : (a b : RtlMemory) (r s : List ℕ) → IsWordMemory a → IsWordMemory b → memory_text a ++ r ≡ memory_text b ++ s → (a ≡ b) × (r ≡ s)
memory-once a b r s h k same =
    let p = codes "  memory width " in
    let q = codes " size " in
    let w = codes " " in
    let e = sym (memory_spread p (numeral a.width) q (numeral a.size) w a.id r) ∙ same ∙ memory_spread p (numeral b.width) q (numeral b.size) w b.id s in
    let e1 = append-cancel p (numeral a.width ++ (q ++ (numeral a.size ++ (w ++ (a.id ++ (10 ∷ r)))))) (numeral b.width ++ (q ++ (numeral b.size ++ (w ++ (b.id ++ (10 ∷ s)))))) e in
    let c1 = word-cut (numeral a.width) (numeral b.width) 32 32 (codes "size " ++ (numeral a.size ++ (w ++ (a.id ++ (10 ∷ r))))) (codes "size " ++ (numeral b.size ++ (w ++ (b.id ++ (10 ∷ s))))) (IsWord-numeral a.width) (IsWord-numeral b.width) (omega arith) (omega arith) e1 in
    let e2 = append-cancel (codes "size ") (numeral a.size ++ (w ++ (a.id ++ (10 ∷ r)))) (numeral b.size ++ (w ++ (b.id ++ (10 ∷ s)))) c1.2 in
    let c2 = word-cut (numeral a.size) (numeral b.size) 32 32 (a.id ++ (10 ∷ r)) (b.id ++ (10 ∷ s)) (IsWord-numeral a.size) (IsWord-numeral b.size) (omega arith) (omega arith) e2 in
    let c3 = word-cut a.id b.id 10 10 r s h k (omega arith) (omega arith) c2.2 in
    let width = numeral-injective a.width b.width c1.0 in
    let size = numeral-injective a.size b.size c2.0 in
    ((λ i. record { id = c3.0 i; width = width i; size = size i }), c3.2)

pub memories-once : (xs ys : List RtlMemory) (r s : List ℕ) → AllByRecursion IsWordMemory xs → AllByRecursion IsWordMemory ys → is_third 109 r ≡ false → is_third 109 s ≡ false → flat_map memory_text xs ++ r ≡ flat_map memory_text ys ++ s → (xs ≡ ys) × (r ≡ s)
unfolding is_third
memories-once xs ys r s px py nr ns same =
    each-once (λ t a. t ≡ memory_text a) IsWordMemory (is_third 109) (λ t r a e. rw e refl) (λ t u r s a b h k e f g. memory-once a b r s h k (ap (λ x. x ++ r) (sym e) ∙ g ∙ ap (λ x. x ++ s) f))
    xs ys (flat_map memory_text xs) (flat_map memory_text ys) r s px py (each-flat_map memory_text xs) (each-flat_map memory_text ys) nr ns same

-- ---- wires

abbrev pub IsIdWire : RtlWire → Type 0
IsIdWire w = IsIdText w.id

port_word : (id : List ℕ) (x : ℕ) (r s : List ℕ) → IsIdText id → ((x ≡ 105) ⊎ (x ≡ 111)) → id ++ r ≡ x ∷ s → ⊥
port_word id x r s h c e =
    let f : h.begins.first ∷ (h.begins.rest ++ r) ≡ x ∷ s = ap (λ y. y ++ r) (sym h.begins.is) ∙ e in
    let g : h.begins.first ≡ x = cc in
    ⊎_elim (λ p. ⊎_elim (λ q. omega (arith, g, p, q)) (λ q. omega (arith, g, p, q)) c) (λ p. ⊎_elim (λ q. omega (arith, g, p, q)) (λ q. omega (arith, g, p, q)) c) h.begins.such

not_both : (x y : ℕ) (a b : List ℕ) → x < y → 32 ∷ x ∷ a ≡ 32 ∷ y ∷ b → ⊥
not_both x y a b h e = let f : x ≡ y = cc in omega (arith, h, f)

-- behind the width: the port, and the id
port-once : (p q : WirePort) (id other r s : List ℕ) → IsIdText id → IsIdText other → port_text p ++ (32 ∷ (id ++ (10 ∷ r))) ≡ port_text q ++ (32 ∷ (other ++ (10 ∷ s))) → (p ≡ q) × (id ≡ other) × (r ≡ s)
port-once Inner Inner id other r s h k same =
    let c = word-cut id other 10 10 r s h.word k.word (omega arith) (omega arith) (append-cancel (32 ∷ []) (id ++ (10 ∷ r)) (other ++ (10 ∷ s)) same) in
    (refl, c.0, c.2)
port-once Inner (Input n) id other r s h k same = absurd (port_word id 105 (10 ∷ r) (codes "nput " ++ (numeral n ++ (32 ∷ (other ++ (10 ∷ s))))) h (inl refl) (append-cancel (32 ∷ []) (id ++ (10 ∷ r)) (codes "input " ++ (numeral n ++ (32 ∷ (other ++ (10 ∷ s))))) same))
port-once Inner (Output n) id other r s h k same = absurd (port_word id 111 (10 ∷ r) (codes "utput " ++ (numeral n ++ (32 ∷ (other ++ (10 ∷ s))))) h (inr refl) (append-cancel (32 ∷ []) (id ++ (10 ∷ r)) (codes "output " ++ (numeral n ++ (32 ∷ (other ++ (10 ∷ s))))) same))
port-once (Input n) Inner id other r s h k same = absurd (port_word other 105 (10 ∷ s) (codes "nput " ++ (numeral n ++ (32 ∷ (id ++ (10 ∷ r))))) k (inl refl) (append-cancel (32 ∷ []) (other ++ (10 ∷ s)) (codes "input " ++ (numeral n ++ (32 ∷ (id ++ (10 ∷ r))))) (sym same)))
port-once (Output n) Inner id other r s h k same = absurd (port_word other 111 (10 ∷ s) (codes "utput " ++ (numeral n ++ (32 ∷ (id ++ (10 ∷ r))))) k (inr refl) (append-cancel (32 ∷ []) (other ++ (10 ∷ s)) (codes "output " ++ (numeral n ++ (32 ∷ (id ++ (10 ∷ r))))) (sym same)))
port-once (Input m) (Output n) id other r s h k same = absurd (not_both 105 111 (codes "nput " ++ (numeral m ++ (32 ∷ (id ++ (10 ∷ r))))) (codes "utput " ++ (numeral n ++ (32 ∷ (other ++ (10 ∷ s))))) (omega arith) same)
port-once (Output m) (Input n) id other r s h k same = absurd (not_both 105 111 (codes "nput " ++ (numeral n ++ (32 ∷ (other ++ (10 ∷ s))))) (codes "utput " ++ (numeral m ++ (32 ∷ (id ++ (10 ∷ r))))) (omega arith) (sym same))
port-once (Input m) (Input n) id other r s h k same =
    let e = append-cancel (codes " input ") (numeral m ++ (32 ∷ (id ++ (10 ∷ r)))) (numeral n ++ (32 ∷ (other ++ (10 ∷ s)))) same in
    let c = word-cut (numeral m) (numeral n) 32 32 (id ++ (10 ∷ r)) (other ++ (10 ∷ s)) (IsWord-numeral m) (IsWord-numeral n) (omega arith) (omega arith) e in
    let d = word-cut id other 10 10 r s h.word k.word (omega arith) (omega arith) c.2 in
    (ap Input (numeral-injective m n c.0), d.0, d.2)
port-once (Output m) (Output n) id other r s h k same =
    let e = append-cancel (codes " output ") (numeral m ++ (32 ∷ (id ++ (10 ∷ r)))) (numeral n ++ (32 ∷ (other ++ (10 ∷ s)))) same in
    let c = word-cut (numeral m) (numeral n) 32 32 (id ++ (10 ∷ r)) (other ++ (10 ∷ s)) (IsWord-numeral m) (IsWord-numeral n) (omega arith) (omega arith) e in
    let d = word-cut id other 10 10 r s h.word k.word (omega arith) (omega arith) c.2 in
    (ap Output (numeral-injective m n c.0), d.0, d.2)

wire_spread : (p a port w d r : List ℕ) → (p ++ (a ++ (port ++ (w ++ (d ++ (10 ∷ [])))))) ++ r ≡ p ++ (a ++ (port ++ (w ++ (d ++ (10 ∷ r)))))
wire_spread p a port w d r = simp append_assoc

-- the byte behind a width is a blank
port_blank : (p : WirePort) (more : List ℕ) → (rest : List ℕ) × (port_text p ++ (32 ∷ more) ≡ 32 ∷ rest)
port_blank Inner more = (more, refl)
port_blank (Input n) more = (codes "input " ++ (numeral n ++ (32 ∷ more)), refl)
port_blank (Output n) more = (codes "output " ++ (numeral n ++ (32 ∷ more)), refl)

wire_line-once : (a b : RtlWire) (r s : List ℕ) → IsIdWire a → IsIdWire b → wire_line a ++ r ≡ wire_line b ++ s → (a.id ≡ b.id) × (a.width ≡ b.width) × (a.port ≡ b.port) × (r ≡ s)
wire_line-once a b r s h k same =
    let p = codes "  wire width " in
    let w = codes " " in
    let e = sym (wire_spread p (numeral a.width) (port_text a.port) w a.id r) ∙ same ∙ wire_spread p (numeral b.width) (port_text b.port) w b.id s in
    let e1 = append-cancel p (numeral a.width ++ (port_text a.port ++ (w ++ (a.id ++ (10 ∷ r))))) (numeral b.width ++ (port_text b.port ++ (w ++ (b.id ++ (10 ∷ s))))) e in
    let ba = port_blank a.port (a.id ++ (10 ∷ r)) in
    let bb = port_blank b.port (b.id ++ (10 ∷ s)) in
    let e2 : numeral a.width ++ (32 ∷ ba.0) ≡ numeral b.width ++ (32 ∷ bb.0) = ap (λ x. numeral a.width ++ x) (sym ba.1) ∙ e1 ∙ ap (λ x. numeral b.width ++ x) bb.1 in
    let c = word-cut (numeral a.width) (numeral b.width) 32 32 ba.0 bb.0 (IsWord-numeral a.width) (IsWord-numeral b.width) (omega arith) (omega arith) e2 in
    let d = port-once a.port b.port a.id b.id r s h k (ba.1 ∙ ap (λ x. 32 ∷ x) c.2 ∙ sym bb.1) in
    (d.1, numeral-injective a.width b.width c.0, d.0, d.2)

init_spread : (p bits r : List ℕ) → (p ++ (bits ++ (10 ∷ []))) ++ r ≡ p ++ (bits ++ (10 ∷ r))
init_spread p bits r = simp append_assoc

init_line-once : (a b : List Bool) (r s : List ℕ) → init_line a ++ r ≡ init_line b ++ s → (a ≡ b) × (r ≡ s)
init_line-once a b r s same =
    let p = codes "  attribute \\init " in
    let e = append-cancel p (const_text a ++ (10 ∷ r)) (const_text b ++ (10 ∷ s)) (sym (init_spread p (const_text a) r) ∙ same ∙ init_spread p (const_text b) s) in
    let c = word-cut (const_text a) (const_text b) 10 10 r s (IsWord-const_text a) (IsWord-const_text b) (omega arith) (omega arith) e in
    (const_text-injective a b c.0, c.2)

-- the line of an init, or none, before the line of a wire
init-once : (p q : Option (List Bool)) (a b : RtlWire) (r s : List ℕ) → init_text p ++ (wire_line a ++ r) ≡ init_text q ++ (wire_line b ++ s) → (p ≡ q) × (wire_line a ++ r ≡ wire_line b ++ s)
unfolding is_third
init-once None None a b r s same = (refl, same)
init-once (Some x) (Some y) a b r s same = let c = init_line-once x y (wire_line a ++ r) (wire_line b ++ s) same in (ap Some c.0, c.1)
init-once None (Some y) a b r s same = absurd (true≢false (ap (is_third 119) same))
init-once (Some x) None a b r s same = absurd (false≢true (ap (is_third 119) same))

wire-once : (a b : RtlWire) (r s : List ℕ) → IsIdWire a → IsIdWire b → wire_text a ++ r ≡ wire_text b ++ s → (a ≡ b) × (r ≡ s)
wire-once a b r s h k same =
    let i = init-once a.init b.init a b r s (sym (append_assoc (init_text a.init) (wire_line a) r) ∙ same ∙ append_assoc (init_text b.init) (wire_line b) s) in
    let l = wire_line-once a b r s h k i.1 in
    ((λ j. record { id = l.0 j; width = l.1 j; port = l.2 j; init = i.0 j }), l.3)

unfoldable pub is_wire_start : List ℕ → Bool
is_wire_start t = is_third 97 t || is_third 119 t

wire-begins : (r : List ℕ) (a : RtlWire) (o : Option (List Bool)) → is_wire_start ((init_text o ++ wire_line a) ++ r) ≡ true
unfolding is_third is_wire_start
wire-begins r a None = refl
wire-begins r a (Some bits) = refl

pub wires-once : (xs ys : List RtlWire) (r s : List ℕ) → AllByRecursion IsIdWire xs → AllByRecursion IsIdWire ys → is_wire_start r ≡ false → is_wire_start s ≡ false → flat_map wire_text xs ++ r ≡ flat_map wire_text ys ++ s → (xs ≡ ys) × (r ≡ s)
wires-once xs ys r s px py nr ns same =
    each-once (λ t a. t ≡ wire_text a) IsIdWire is_wire_start (λ t r a e. rw e (wire-begins r a a.init)) (λ t u r s a b h k e f g. wire-once a b r s h k (ap (λ x. x ++ r) (sym e) ∙ g ∙ ap (λ x. x ++ s) f))
    xs ys (flat_map wire_text xs) (flat_map wire_text ys) r s px py (each-flat_map wire_text xs) (each-flat_map wire_text ys) nr ns same
