-- Lists that are gone through: arguments by keyword, and what each item stands for.
use Rattle.std.proofs.Common.{◌≡◌, ℕ, ◌<◌, refl, List, [], ◌∷◌, ◌++◌, length, Option, None, option_map, arith}
use Rattle.std.specs.Prelude.{ℤ}
use Rattle.std.specs.List.{AllByRecursion}
use Rattle.amh_bits.specs.Patterns.{IsOf}
use Rattle.amh_bits.proofs.Wraps.{wrap_is_of}
use Rattle.shape_rules.specs.Forms.{Form}
use Rattle.py_values.specs.declared.val.Val.{Val}
use Rattle.elab_memories.specs.declared.memories.MemoryArguments.{MemoryArguments}
use Rattle.elab_memories.specs.declared.ports.PortArguments.{PortArguments}
use Rattle.elab_memories.specs.Memories as memory
use Rattle.elab_memories.specs.Memories.{wrapped_rows}
use Rattle.elab_memories.specs.Ports as port

-- ---- keywords

pub keywords_none : (ns : List (List ℕ)) (vs : List Val) (args : MemoryArguments) → 0 < length ns → length vs ≡ 0 → memory.with_keywords ns vs args ≡ None
keywords_none [] vs args h1 h2 = absurd (omega (arith, h1))
keywords_none (n ∷ ns) [] args h1 h2 = refl
keywords_none (n ∷ ns) (v ∷ vs) args h1 h2 = absurd (omega (arith, h2))

pub port_keywords_none : (other : List ℕ) (ns : List (List ℕ)) (vs : List Val) (args : PortArguments) → 0 < length ns → length vs ≡ 0 → port.with_keywords other ns vs args ≡ None
port_keywords_none other [] vs args h1 h2 = absurd (omega (arith, h1))
port_keywords_none other (n ∷ ns) [] args h1 h2 = refl
port_keywords_none other (n ∷ ns) (v ∷ vs) args h1 h2 = absurd (omega (arith, h2))

-- ---- what each item stands for

-- what was found, and what is found behind it
abbrev pub found_so : {B : Type 0} → List B → Option (List B) → Option (List B)
found_so ys o = option_map (λ zs. ys ++ zs) o

-- ---- rows

-- rows that are wrapped are of the shape
pub wrapped_fit : (f : Form) (ns : List ℤ) → AllByRecursion (IsOf f.signed f.width) (wrapped_rows f ns)
wrapped_fit f [] = tt
wrapped_fit f (n ∷ ns) = (wrap_is_of f.signed f.width n, wrapped_fit f ns)
