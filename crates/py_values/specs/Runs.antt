-- What comes out of a call, and at what cost; first as if nothing bounded the cost, and then under a budget.
-- Source: this project's own rule (docs/RULES.md).
use Rattle.std.specs.Prelude.{◌≡◌, ℕ, ◌+◌, ◌≤◌, ◌<◌, Option, Some, None, Result, Ok, Err, ⊤}
use Rattle.py_values.specs.declared.val.ValueStop.{ValueStop}
use Rattle.py_values.specs.declared.val.ValueStop.TheVariants.{Raised, Width, Limit, Spent, NoMemory}

pub record Run (A : Type 0) : Type 0 where
  pub cost : ℕ
  pub answer : Result A ValueStop

-- an answer that costs nothing
abbrev pub free : {A : Type 0} → Result A ValueStop → Run A
free r = record { cost = 0; answer = r }

abbrev pub give : {A : Type 0} → A → Run A
give x = free (Ok x)

abbrev pub refuse : {A : Type 0} → ValueStop → Run A
refuse stop = free (Err stop)

-- the same after so many units
abbrev pub later : {A : Type 0} → ℕ → Run A → Run A
later k m = record { cost = k + m.cost; answer = m.answer }

-- goes on with a value, and ends at a refusal
abbrev pub carried : {A B : Type 0} → ℕ → Result A ValueStop → (A → Run B) → Run B
carried k (Ok x) f = later k (f x)
carried k (Err stop) f = record { cost = k; answer = Err stop }

abbrev pub after : {A B : Type 0} → Run A → (A → Run B) → Run B
after m f = carried m.cost m.answer f

-- Under a budget: the answer where the cost is below what is left, else Spent; what is left is the budget less the
-- cost, and 0 at Spent. Want of memory may come at any time.
abbrev pub Charged : {A : Type 0} → Result A ValueStop → ℕ → ℕ → Run A → Type 0
Charged (Ok x) before left m = (m.answer ≡ Ok x) × (left + m.cost ≡ before) × (0 < left)
Charged (Err Raised) before left m = (m.answer ≡ Err Raised) × (left + m.cost ≡ before) × (0 < left)
Charged (Err Width) before left m = (m.answer ≡ Err Width) × (left + m.cost ≡ before) × (0 < left)
Charged (Err Limit) before left m = (m.answer ≡ Err Limit) × (left + m.cost ≡ before) × (0 < left)
Charged (Err Spent) before left m = (before ≤ m.cost) × (left ≡ 0)
Charged (Err NoMemory) before left m = ⊤

-- without a cost: what is owed, or want of memory
abbrev pub Answers : {A : Type 0} → Result A ValueStop → Result A ValueStop → Type 0
Answers (Ok x) owed = owed ≡ Ok x
Answers (Err Raised) owed = owed ≡ Err Raised
Answers (Err Width) owed = owed ≡ Err Width
Answers (Err Limit) owed = owed ≡ Err Limit
Answers (Err Spent) owed = ⊥
Answers (Err NoMemory) owed = ⊤

-- with what the heap became
abbrev pub paired : {A B : Type 0} → Result A ValueStop → B → Result (A × B) ValueStop
paired (Ok x) new = Ok (x, new)
paired (Err stop) new = Err stop

-- a value, or that it raises
abbrev pub given : {A : Type 0} → Option A → Result A ValueStop
given None = Err Raised
given (Some x) = Ok x
