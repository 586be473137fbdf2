-- Which calls of a host in memory are to fail.
-- Internal: no rule of the language.
use Rattle.std.specs.Prelude.{ℕ, zero, suc, ◌-◌, ◌==◌, ◌&&◌, ◌||◌, Bool, true, false, if◌then◌else◌, nat_lt, List, [], ◌∷◌, map}
use Rattle.lists.specs.Texts.{text_eq}
use Rattle.amh_host.specs.declared.host.HostCall.{HostCall}
use Rattle.amh_host.specs.declared.host.HostCall.TheVariants.{Read, Start, Put, Say, Warn}
use Rattle.amh_host.specs.declared.memory.Planned.{Planned}

-- two calls are of one kind
abbrev pub same_call : HostCall → HostCall → Bool
same_call Read Read = true
same_call Start Start = true
same_call Put Put = true
same_call Say Say = true
same_call Warn Warn = true
same_call a b = false

-- the call that is so many such calls away
abbrev pub planned : HostCall → List ℕ → ℕ → Planned
planned call name nth = record { call = call; name = name; left = nth }

-- the entry speaks of calls of this kind on this name, and still waits
abbrev pub is_for : HostCall → List ℕ → Planned → Bool
is_for call name p = same_call p.call call && (text_eq p.name name && nat_lt 0 p.left)

-- the entry after one such call
abbrev pub counted : HostCall → List ℕ → Planned → Planned
counted call name p = if is_for call name p then record p { left = p.left - 1 } else p

-- some entry names this very call
abbrev pub comes_due : HostCall → List ℕ → List Planned → Bool
comes_due call name [] = false
comes_due call name (p ∷ ps) = (is_for call name p && (p.left == 1)) || comes_due call name ps

-- the entries after so many such calls
abbrev pub after_calls : ℕ → HostCall → List ℕ → List Planned → List Planned
after_calls zero call name ps = ps
after_calls (suc k) call name ps = after_calls k call name (map (counted call name) ps)
