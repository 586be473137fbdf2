-- How many domains, ports and columns a design can have: each has a signal of its own.
use Rattle.std.specs.Prelude.{◌≡◌, refl, ℕ, suc, ◌<◌, ◌≤◌, Bool, true, false, ◌||◌, ◌==◌, nat_eq, List, [], ◌∷◌, ◌++◌, map, length, position, Some, None}
use Rattle.std.specs.List.{AllByRecursion, IsDistinct, list_any}
use Rattle.std.proofs.Common.{ap, arith}
use Rattle.std.proofs.lemmas.Bool.{eqb-true}
use Rattle.std.proofs.lemmas.Map.Steps.{length-le_from_distinct_below}
use Rattle.std.proofs.Math.ListN.{length-append}
use Rattle.design_ir.specs.declared.domain.Domain.{Domain}
use Rattle.design_ir.specs.declared.port.Column.{Column}
use Rattle.design_ir.specs.declared.port.Port.{Port}
use Rattle.design_ir.specs.PoolRules.{IsPool}
use Rattle.lists.specs.Texts.{text_eq}
use Rattle.std.proofs.lemmas.List.Quantifiers.{position-Some}
use Rattle.design_ir.specs.Circuits.{Circuit}
use Rattle.design_ir.specs.Designs.{IsDesign, IsClockDomain, port_signals}

length_map : {A B : Type 0} (f : A → B) (xs : List A) → length (map f xs) ≡ length xs
length_map f [] = refl
length_map f (x ∷ xs) = ap suc (length_map f xs)

below_or : (t : Bool) (q x n : ℕ) (xs : List ℕ) → (q == x) ≡ t → x < n → (list_any (nat_eq q) xs ≡ true → q < n) → (t || list_any (nat_eq q) xs) ≡ true → q < n
below_or true q x n xs e h more any = omega (arith, eqb-true q x e, h)
below_or false q x n xs e h more any = more any

below_any : (xs : List ℕ) (n q : ℕ) → AllByRecursion (λ x. x < n) xs → list_any (nat_eq q) xs ≡ true → q < n
below_any [] n q h any = cc
below_any (x ∷ xs) n q h any = below_or (q == x) q x n xs refl h.0 (below_any xs n q h.1) any

no_domain : Domain
no_domain = record { name = []; clk = record { 0 = 0 }; rst = None; falling = false; async_reset = false }

pub few_below : (xs : List ℕ) (n : ℕ) → IsDistinct nat_eq xs → AllByRecursion (λ x. x < n) xs → length xs ≤ n
few_below xs n d h = length-le_from_distinct_below xs n d (λ q any. below_any xs n q h any)

all_map : {A B : Type 0} (P : B → Type 0) (f : A → B) (xs : List A) → AllByRecursion (λ x. P (f x)) xs → AllByRecursion P (map f xs)
all_map P f [] h = tt
all_map P f (x ∷ xs) h = (h.0, all_map P f xs h.1)

pub all_left : {A : Type 0} (P : A → Type 0) (xs ys : List A) → AllByRecursion P (xs ++ ys) → AllByRecursion P xs
all_left P [] ys h = tt
all_left P (x ∷ xs) ys h = (h.0, all_left P xs ys h.1)

all_right : {A : Type 0} (P : A → Type 0) (xs ys : List A) → AllByRecursion P (xs ++ ys) → AllByRecursion P ys
all_right P [] ys h = h
all_right P (x ∷ xs) ys h = all_right P xs ys h.1

clocks_there : (c : Circuit) (ds : List Domain) → AllByRecursion (IsClockDomain c) ds → AllByRecursion (λ s. s < length c.pool.signals) (map (λ (d : Domain). d.clk.0) ds)
clocks_there c [] h = tt
clocks_there c (d ∷ ds) h = (h.0.clock.there, clocks_there c ds h.1)

pub few_domains : (c : Circuit) → IsPool c.pool → IsDesign c → length c.domains ≤ 16384
few_domains c p h =
    let n = few_below _ _ h.clocks (clocks_there c c.domains h.domains) in
    omega (arith, n, p.few_signals, length_map (λ (d : Domain). d.clk.0) c.domains)

pub columns_there : (c : Circuit) (h : IsDesign c) → AllByRecursion (λ s. s < length c.pool.signals) (port_signals c ++ h.columns.registers)
columns_there c h = rw (← h.columns.split) (all_map (λ s. s < length c.pool.signals) (λ (x : Column). x.sig.0) c.columns h.columns.there)

pub few_ports : (c : Circuit) → IsPool c.pool → IsDesign c → length c.ports ≤ 16384
few_ports c p h =
    let n = few_below _ _ h.ports (all_left (λ s. s < length c.pool.signals) (port_signals c) h.columns.registers (columns_there c h)) in
    omega (arith, n, p.few_signals, length_map (λ (x : Port). x.sig.0) c.ports)

pub few_columns : (c : Circuit) → IsPool c.pool → IsDesign c → length c.columns ≤ 32768
few_columns c p h =
    let n = few_below _ _ h.columns.each_once (all_right (λ s. s < length c.pool.signals) (port_signals c) h.columns.registers (columns_there c h)) in
    let all = ap length h.columns.split in
    omega (arith, n, few_ports c p h, all, length_map (λ (x : Column). x.sig.0) c.columns, length-append (port_signals c) h.columns.registers, length_map (λ (x : Port). x.sig.0) c.ports, p.few_signals)

-- a name stands for a domain by its number
pub named_below : (c : Circuit) (name : List ℕ) (k : ℕ) → IsPool c.pool → IsDesign c → position (λ (d : Domain). text_eq d.name name) c.domains ≡ Some k → k < 65536
named_below c name k p h e =
    omega (arith, (position-Some (λ (d : Domain). text_eq d.name name) c.domains k no_domain e).0, few_domains c p h)
