-- The environment in which every signal of a fragment has the number that it is given. (Amaranth guide: Combinational
-- evaluation, Memories)
use Rattle.std.specs.Prelude.{◌≡◌, ℕ, Bool, if◌then◌else◌, List, [], map, length, slice_index_or, ℤ, Option, Some, None}
use Rattle.std.specs.List.{range_with_len}
use Rattle.design_ir.specs.declared.signal.Sig.{Sig}
use Rattle.design_ir.specs.declared.process.Side.{Side}
use Rattle.design_ir.specs.declared.process.Side.TheVariants.{Comb, Clocked}
use Rattle.design_ir.specs.declared.fragment.Fragment.{Fragment}
use Rattle.design_ir.specs.Trees.{Block}
use Rattle.design_ir.specs.Pools.{Pooled}
use Rattle.design_ir.specs.Put.{put}
use Rattle.design_ir.specs.Circuits.{State, at}
use Rattle.design_ir.specs.Rows.{row_at}
use Rattle.fragment_laws.specs.Surroundings.{Surroundings, pool_in}
use Rattle.fragment_laws.specs.Givers.{ReadPort, Giver, statements, port, nobody, giver}

-- one number for each signal
abbrev pub for_each : Pooled → (ℕ → ℤ) → List ℤ
for_each q number = map number (range_with_len 0 (length q.signals))

abbrev pub inits : Pooled → List ℤ
inits q = map (λ (x : Sig). x.init) q.signals

-- the rows of a memory by its number
abbrev pub rows_of : State → ℕ → List ℤ
rows_of st k = slice_index_or st.rows k []

-- a combinational signal has what the statements leave of its init, a register what it holds
abbrev pub driven_number : Pooled → State → List ℤ → ℕ → Block → Side → ℤ
driven_number q st env s body Comb = at (put q env body (inits q)) s
driven_number q st env s body (Clocked name) = at st.held s

-- the data of a combinational read port is the row at its address, that of a clocked one what it holds
abbrev pub read_number : Pooled → State → List ℤ → ℕ → ReadPort → Option (List ℕ) → ℤ
read_number q st env s x None = row_at q env (rows_of st x.number) x.port.addr
read_number q st env s x (Some name) = at st.held s

-- what nothing gives a number has what comes from outside, or its init
abbrev pub given_number : Pooled → (ℕ → Bool) → State → List ℤ → ℕ → Giver → ℤ
given_number q outside st env s (statements p) = driven_number q st env s p.body p.side
given_number q outside st env s (port x) = read_number q st env s x x.port.domain
given_number q outside st env s nobody = if outside s then at st.held s else at (inits q) s

-- the numbers that all signals are given, where statements and ports read these
abbrev pub given_numbers : Pooled → Fragment → Surroundings → State → List ℤ → List ℤ
given_numbers q f w st env = let p = pool_in w.domains q in for_each p (λ s. given_number p w.outside st env s (giver p f s))

-- the numbers are those that they give
abbrev pub IsSettled : Pooled → Fragment → Surroundings → State → List ℤ → Type 0
IsSettled q f w st env = given_numbers q f w st env ≡ env
