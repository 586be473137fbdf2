-- The names of columns are distinct, and have the form of public names.
use Rattle.std.proofs.Common.{◌≡◌, inl, inr, ℕ, zero, suc, ◌+◌, ◌<◌, ◌≤◌, ◌^◌, Bool, true, false, not, cond, List, [], ◌∷◌, ◌++◌, map, length, Option, Some, None, unwrap_or, codes, refl, sym, ap, ◌∙◌, subst, arith, append-nil, append_assoc}
use Rattle.std.specs.Fmt.{decimal}
use Rattle.std.specs.List.{AllByRecursion, IsDistinct, find, flat_map, range_with_len}
use Rattle.std.proofs.lemmas.Bool.{cases_lt}
use Rattle.std.proofs.lemmas.List.{length-append}
use Rattle.std.proofs.lemmas.Map.Keys.{IsDistinct-push}
use Rattle.lists.specs.Texts.{text_eq}
use Rattle.lists.specs.Names.{IsName, IsPath, IsSuffix, IsPublicName, dotted}
use Rattle.design_ir.specs.declared.port.Column.{Column}
use Rattle.fragment_walks.proofs.Lists.{all_index, all_joined}
use Rattle.clock_domains.specs.Resolved.{has_name, numbered_name, fresh_name, columns_after}
use Rattle.clock_domains.specs.Tracked.{names_of}
use Rattle.clock_domains.specs.Ready.{IsUnder}
use Rattle.clock_domains.proofs.NameLaws.{text_laws, not_all_taken}

-- ---- a fresh name is new

-- what is found, where something is: the name with some number, and new
record IsFound (names : List (List ℕ)) (name : List ℕ) (found : List ℕ) : Type 0 where
  number : ℕ
  is : found ≡ numbered_name name number
  new : has_name names found ≡ false

-- something is found, or all were taken
abbrev IsFoundOr : List (List ℕ) → List ℕ → (a n : ℕ) → Option (List ℕ) → Type 0
IsFoundOr names name a n None = (j : ℕ) → a ≤ j → j < a + n → has_name names (numbered_name name j) ≡ true
IsFoundOr names name a n (Some x) = IsFound names name x

found_in : (names : List (List ℕ)) (name : List ℕ) (a n : ℕ) → IsFoundOr names name a n (find (λ x. not (has_name names x)) (map (numbered_name name) (range_with_len a n)))
found_in names name a zero = λ j low high. absurd (omega (arith, low, high))
found_in names name a (suc n) = split (has_name names (numbered_name name a)) refl (find (λ x. not (has_name names x)) (map (numbered_name name) (range_with_len (a + 1) n))) (found_in names name (a + 1) n)
  where
    more : (o : Option (List ℕ)) → has_name names (numbered_name name a) ≡ true → IsFoundOr names name (a + 1) n o → IsFoundOr names name a (suc n) o
    more (Some x) e h = h
    more None e h = λ j low high. elim (cases_lt a j) [ inl below ↦ h j (omega (arith, below)) (omega (arith, high)) | inr past ↦ (let same : a ≡ j = omega (arith, past, low) in subst (λ m. has_name names (numbered_name name m) ≡ true) same e) ]

    split : (b : Bool) → has_name names (numbered_name name a) ≡ b → (o : Option (List ℕ)) → IsFoundOr names name (a + 1) n o → IsFoundOr names name a (suc n) (cond (not (has_name names (numbered_name name a))) (Some (numbered_name name a)) o)
    split true e o h = subst (λ b. IsFoundOr names name a (suc n) (cond (not b) (Some (numbered_name name a)) o)) (sym e) (more o e h)
    split false e o h = subst (λ b. IsFoundOr names name a (suc n) (cond (not b) (Some (numbered_name name a)) o)) (sym e) (record { number = a; is = refl; new = e })

-- the name is as it was or has a number, and is new
pub record IsFresh (names : List (List ℕ)) (name fresh : List ℕ) : Type 0 where
  pub suffix : List ℕ
  pub whole : fresh ≡ name ++ suffix
  pub ends : IsSuffix suffix
  pub new : has_name names fresh ≡ false

pub fresh_fresh : (names : List (List ℕ)) (name : List ℕ) → length names < 2 ^ 64 → IsFresh names name (fresh_name names name)
fresh_fresh names name few = split (has_name names name) refl
  where
    by_find : (o : Option (List ℕ)) → has_name names name ≡ true → IsFoundOr names name 1 (length names) o → IsFresh names name (unwrap_or o name)
    by_find (Some x) there h = record { suffix = codes "$" ++ decimal h.number; whole = h.is; ends = inr (h.number, refl); new = h.new }
    by_find None there h = absurd (not_all_taken names name few there (λ j low high. h j low (omega (arith, high))))

    split : (b : Bool) → has_name names name ≡ b → IsFresh names name (cond (has_name names name) (unwrap_or (find (λ x. not (has_name names x)) (map (numbered_name name) (range_with_len 1 (length names)))) name) name)
    split true e = subst (λ b. IsFresh names name (cond b (unwrap_or (find (λ x. not (has_name names x)) (map (numbered_name name) (range_with_len 1 (length names)))) name) name)) (sym e) (by_find (find (λ x. not (has_name names x)) (map (numbered_name name) (range_with_len 1 (length names)))) e (found_in names name 1 (length names)))
    split false e = subst (λ b. IsFresh names name (cond b (unwrap_or (find (λ x. not (has_name names x)) (map (numbered_name name) (range_with_len 1 (length names)))) name) name)) (sym e) (record { suffix = []; whole = sym (append-nil name); ends = inl refl; new = e })

pub fresh_public : (names : List (List ℕ)) (name fresh : List ℕ) → IsPath name → IsFresh names name fresh → IsPublicName fresh
fresh_public names name fresh n f = record { name = n.name; more = n.more; suffix = f.suffix; first = n.first; others = n.others; ends = f.ends; whole = f.whole ∙ ap (λ xs. xs ++ f.suffix) n.whole }

-- ---- names behind paths

pub name_path : (name : List ℕ) → IsName name → IsPath name
name_path name n = record { name = name; more = []; first = n; others = all_index IsName [] tt; whole = refl }

dotted_under : (first : List ℕ) (names : List (List ℕ)) (name : List ℕ) → flat_map (λ n. n ++ codes ".") (first ∷ names) ++ name ≡ dotted first (names ++ name ∷ [])
dotted_under first [] name = ap (λ xs. xs ++ name) (append-nil (first ++ codes ".")) ∙ append_assoc first (codes ".") name
dotted_under first (m ∷ names) name =
    append_assoc (first ++ codes ".") (flat_map (λ n. n ++ codes ".") (m ∷ names)) name
    ∙ ap (λ xs. (first ++ codes ".") ++ xs) (dotted_under m names name)
    ∙ append_assoc first (codes ".") (dotted m (names ++ name ∷ []))

pub under_path : (path name : List ℕ) → IsUnder path → IsName name → IsPath (path ++ name)
under_path path name u n = by_names u.names u.each u.whole
  where
    by_names : (names : List (List ℕ)) → AllByRecursion IsName names → path ≡ flat_map (λ n. n ++ codes ".") names → IsPath (path ++ name)
    by_names [] h e = subst (λ xs. IsPath (xs ++ name)) (sym e) (name_path name n)
    by_names (m ∷ names) h e = record {
      name = m;
      more = names ++ name ∷ [];
      first = h.0;
      others = all_index IsName (names ++ name ∷ []) (all_joined IsName names (name ∷ []) h.1 (n, tt));
      whole = ap (λ xs. xs ++ name) e ∙ dotted_under m names name;
    }

-- ---- columns

pub columns_distinct : (names : List (List ℕ)) (cs : List Column) → length names + length cs < 2 ^ 64 → IsDistinct text_eq names → IsDistinct text_eq (names ++ names_of (columns_after names cs))
columns_distinct names [] few h = subst (IsDistinct text_eq) (sym (append-nil names)) h
columns_distinct names (c ∷ cs) few h =
    let new : List ℕ = fresh_name names c.name in
    let fresh = fresh_fresh names c.name (omega (arith, few)) in
    subst (IsDistinct text_eq) (append_assoc names (new ∷ []) (names_of (columns_after (names ++ new ∷ []) cs)))
    (columns_distinct (names ++ new ∷ []) cs (omega (arith, few, length-append names (new ∷ []))) (IsDistinct-push text_laws names new h fresh.new))

pub columns_public : (names : List (List ℕ)) (cs : List Column) → length names + length cs < 2 ^ 64 → AllByRecursion (λ (c : Column). IsPath c.name) cs → AllByRecursion (λ (c : Column). IsPublicName c.name) (columns_after names cs)
columns_public names [] few h = tt
columns_public names (c ∷ cs) few h =
    let new : List ℕ = fresh_name names c.name in
    (fresh_public names c.name new h.0 (fresh_fresh names c.name (omega (arith, few))), columns_public (names ++ new ∷ []) cs (omega (arith, few, length-append names (new ∷ []))) h.1)

pub columns_signals : (names : List (List ℕ)) (cs : List Column) → map (λ (c : Column). c.sig.0) (columns_after names cs) ≡ map (λ (c : Column). c.sig.0) cs
columns_signals names [] = refl
columns_signals names (c ∷ cs) = ap (λ ss. c.sig.0 ∷ ss) (columns_signals (names ++ fresh_name names c.name ∷ []) cs)

pub columns_length : (names : List (List ℕ)) (cs : List Column) → length (columns_after names cs) ≡ length cs
columns_length names [] = refl
columns_length names (c ∷ cs) = ap suc (columns_length (names ++ fresh_name names c.name ∷ []) cs)

-- what holds of the signals of columns
pub columns_keep : (P : ℕ → Type 0) (names : List (List ℕ)) (cs : List Column) → AllByRecursion (λ (c : Column). P c.sig.0) cs → AllByRecursion (λ (c : Column). P c.sig.0) (columns_after names cs)
columns_keep P names [] h = tt
columns_keep P names (c ∷ cs) h = (h.0, columns_keep P (names ++ fresh_name names c.name ∷ []) cs h.1)
