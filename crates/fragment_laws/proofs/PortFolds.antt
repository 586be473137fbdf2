-- The read ports of memories one after another, as one list.
use Rattle.std.specs.Prelude.{◌≡◌, refl, ℕ, suc, ◌||◌, Bool, true, false, List, [], ◌∷◌, ◌++◌, map, length, slice_index_or, ℤ, fold}
use Rattle.std.specs.List.{flat_map, list_any}
use Rattle.std.proofs.Common.{sym, ◌∙◌, ap, arith, append_assoc}
use Rattle.std.proofs.Math.Seq.{get_or-append_seam}
use Rattle.std.proofs.lemmas.List.Folds.{fold-map}
use Rattle.design_ir.specs.declared.memory.MemRead.{MemRead}
use Rattle.design_ir.specs.declared.memory.Memory.{Memory}
use Rattle.design_ir.proofs.GuardLaws.{fold_append}
use Rattle.design_ir.proofs.Growth.{length_more}
use Rattle.fragment_laws.specs.Givers.{ReadPort, port_of, ports_from}
use Rattle.fragment_laws.proofs.Once.{any_mapped}

-- ---- their data

map_joined : {A B : Type 0} (f : A → B) (xs ys : List A) → map f (xs ++ ys) ≡ map f xs ++ map f ys
map_joined f [] ys = refl
map_joined f (x ∷ xs) ys = ap (λ zs. f x ∷ zs) (map_joined f xs ys)

map_twice : {A B C : Type 0} (f : B → C) (g : A → B) (xs : List A) → map f (map g xs) ≡ map (λ x. f (g x)) xs
map_twice f g [] = refl
map_twice f g (x ∷ xs) = ap (λ zs. f (g x) ∷ zs) (map_twice f g xs)

abbrev pub data_of : ReadPort → List ℕ
data_of x = x.port.word.0 ∷ []

pub data_listed : (k : ℕ) (ms : List Memory) → map data_of (ports_from k ms) ≡ flat_map (λ (m : Memory). map (λ (r : MemRead). r.word.0 ∷ []) m.reads) ms
data_listed k [] = refl
data_listed k (m ∷ ms) =
    map_joined data_of (map (port_of k m) m.reads) (ports_from (suc k) ms)
    ∙ ap (λ xs. xs ++ map data_of (ports_from (suc k) ms)) (map_twice data_of (port_of k m) m.reads)
    ∙ ap (λ xs. map (λ (r : MemRead). r.word.0 ∷ []) m.reads ++ xs) (data_listed (suc k) ms)

any_joined : {A : Type 0} (t : A → Bool) (xs ys : List A) → list_any t (xs ++ ys) ≡ (list_any t xs || list_any t ys)
any_joined t [] ys = refl
any_joined t (x ∷ xs) ys = ap (λ b. t x || b) (any_joined t xs ys) ∙ or_assoc (t x) (list_any t xs) (list_any t ys)
  where
    or_assoc : (a b c : Bool) → (a || (b || c)) ≡ ((a || b) || c)
    or_assoc true b c = refl
    or_assoc false b c = refl

-- one of them is tested by its port alone
pub any_listed : (t : MemRead → Bool) (k : ℕ) (ms : List Memory) → list_any (λ (m : Memory). list_any t m.reads) ms ≡ list_any (λ (x : ReadPort). t x.port) (ports_from k ms)
any_listed t k [] = refl
any_listed t k (m ∷ ms) =
    ap (λ b. list_any t m.reads || b) (any_listed t (suc k) ms)
    ∙ ap (λ b. b || list_any (λ (x : ReadPort). t x.port) (ports_from (suc k) ms)) (sym (any_mapped (λ (x : ReadPort). t x.port) (port_of k m) m.reads))
    ∙ sym (any_joined (λ (x : ReadPort). t x.port) (map (port_of k m) m.reads) (ports_from (suc k) ms))

-- ---- a fold over the ports of each memory, with its rows

module _ (g : Memory → List ℤ → List ℤ → MemRead → List ℤ) where
  abbrev pub reads_by : List Memory → List (List ℤ) → List ℤ → List ℤ
  reads_by [] rows cur = cur
  reads_by (m ∷ ms) [] cur = cur
  reads_by (m ∷ ms) (rows ∷ more) cur = reads_by ms more (fold (g m rows) cur m.reads)

  abbrev pub port_by : List (List ℤ) → List ℤ → ReadPort → List ℤ
  port_by rows cur x = g x.memory (slice_index_or rows x.number []) cur x.port

  reads_from : (ms : List Memory) (before rows : List (List ℤ)) (cur : List ℤ) → length rows ≡ length ms → reads_by ms rows cur ≡ fold (port_by (before ++ rows)) cur (ports_from (length before) ms)
  reads_from [] before rows cur long = refl
  reads_from (m ∷ ms) before [] cur long = absurd (omega (arith, long))
  reads_from (m ∷ ms) before (r ∷ rows) cur long =
      let k : ℕ = length before in
      let all : List (List ℤ) = before ++ r ∷ rows in
      let here : List ℤ = fold (g m r) cur m.reads in
      let first : fold (port_by all) cur (map (port_of k m) m.reads) ≡ here =
      fold-map (port_by all) (port_of k m) cur m.reads ∙ ap (λ xs. fold (g m xs) cur m.reads) (get_or-append_seam before r rows []) in
      reads_from ms (before ++ r ∷ []) rows here (omega (arith, long))
      ∙ ap (λ xs. fold (port_by xs) here (ports_from (length (before ++ r ∷ [])) ms)) (append_assoc before (r ∷ []) rows)
      ∙ ap (λ n. fold (port_by all) here (ports_from n ms)) (length_more before r)
      ∙ ap (λ xs. fold (port_by all) xs (ports_from (suc k) ms)) (sym first)
      ∙ sym (fold_append (port_by all) cur (map (port_of k m) m.reads) (ports_from (suc k) ms))

  pub reads_folded : (ms : List Memory) (rows : List (List ℤ)) (cur : List ℤ) → length rows ≡ length ms → reads_by ms rows cur ≡ fold (port_by rows) cur (ports_from 0 ms)
  reads_folded ms rows cur long = reads_from ms [] rows cur long
