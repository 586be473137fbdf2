-- What machines made: strings, rows, functions and scopes by number.
-- Internal: no rule of the language.
use Rattle.std.specs.Prelude.{ℕ, ◌-◌, nat_lt, if◌then◌else◌, List, [], slice_get, length, unwrap_or, Option, Some, None}
use Rattle.py_values.specs.declared.val.Val.{Val}
use Rattle.py_values.specs.declared.func.Func.{Func}
use Rattle.py_values.specs.declared.func.Scope.{Scope}

pub record Made : Type 0 where
  -- strings, each in UTF-8
  pub texts : List (List ℕ)
  -- the items of a list or tuple; each key of a dict and after it its value; start, stop and step of a range;
  -- the base of a class, or the class of an object, then each attribute's name and after it its value
  pub rows : List (List Val)
  pub funcs : List Func
  pub scopes : List Scope
  -- the characters of the strings that operators and builtins made, and the items of all lists, tuples, dicts,
  -- attributes and objects that were made
  pub chars : ℕ
  pub items : ℕ

abbrev pub nothing : Made
nothing = record { texts = []; rows = []; funcs = []; scopes = []; chars = 0; items = 0 }

-- what a machine sees: what was frozen before it, and then what it made; a number counts over both
pub record Seen : Type 0 where
  pub frozen : Made
  pub own : Made

abbrev pub seen : Made → Made → Seen
seen frozen own = record { frozen = frozen; own = own }

-- what stands at a number of two lists, one after the other
abbrev pub at_number : {A : Type 0} → (List A → ℕ → A) → List A → List A → ℕ → A
at_number read frozen own n = if nat_lt n (length frozen) then read frozen n else read own (n - length frozen)

-- a number that stands for none reads as empty
abbrev pub text_of : List (List ℕ) → ℕ → List ℕ
text_of texts i = unwrap_or (slice_get texts i) []

abbrev pub row_of : List (List Val) → ℕ → List Val
row_of rows i = unwrap_or (slice_get rows i) []

abbrev pub text_at : Seen → ℕ → List ℕ
text_at s n = at_number text_of s.frozen.texts s.own.texts n

abbrev pub row_at : Seen → ℕ → List Val
row_at s n = at_number row_of s.frozen.rows s.own.rows n

-- the function of a number, where there is one
abbrev pub func_at : Seen → ℕ → Option Func
func_at s n = if nat_lt n (length s.frozen.funcs) then slice_get s.frozen.funcs n else slice_get s.own.funcs (n - length s.frozen.funcs)
