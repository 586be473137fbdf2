-- What statements leave: the last active assignment wins, bit by bit.
use Rattle.std.specs.Prelude.{ℕ, ◌+◌, ◌*◌, ◌/◌, ◌%◌, ◌^◌, if◌then◌else◌, List, [], ◌∷◌, length, slice_index_or, slice_set, ℤ, pos, Option, Some, None}
use Rattle.amh_bits.specs.Patterns.{pattern, number, nat_bit}
use Rattle.shape_rules.specs.Forms.{Form}
use Rattle.shape_rules.specs.Operators.{is_zero}
use Rattle.design_ir.specs.Pools.{Pooled}
use Rattle.design_ir.specs.Trees.{Statement, assign, choose, Choices, none, arm, Block, done, next}
use Rattle.design_ir.specs.Values.{num, signal_form}
use Rattle.design_ir.specs.Targets.{Bit, target_bits}

-- ---- writing bits

-- the pattern whose bit i is b, and whose other bits are those of `bits`
abbrev pub with_bit : ℕ → ℕ → ℕ → ℕ
with_bit i b bits = bits / 2 ^ (i + 1) * 2 ^ (i + 1) + (b * 2 ^ i + bits % 2 ^ i)

-- the signals' numbers with one bit written
abbrev pub put_bit : Pooled → Bit → ℕ → List ℤ → List ℤ
put_bit pool x b cur =
    let f : Form = signal_form pool.signals x.sig in
    slice_set cur x.sig (number f.signed f.width (with_bit x.index b (pattern f.width (slice_index_or cur x.sig (pos 0)))))

-- what is written to no bit is dropped
abbrev pub put_place : Pooled → Option Bit → ℕ → List ℤ → List ℤ
put_place pool None b cur = cur
put_place pool (Some x) b cur = put_bit pool x b cur

-- the bits of v from bit i on, one into each of these places
abbrev pub put_bits : Pooled → List (Option Bit) → ℕ → ℕ → List ℤ → List ℤ
put_bits pool [] v i cur = cur
put_bits pool (x ∷ xs) v i cur = put_bits pool xs v (i + 1) (put_place pool x (nat_bit v i) cur)

-- the low bits of an integer into these places
abbrev pub put_number : Pooled → List (Option Bit) → ℤ → List ℤ → List ℤ
put_number pool xs n cur = put_bits pool xs (pattern (length xs) n) 0 cur

-- ---- statements: right sides, conditions, offsets and indices are all read in env
abbrev mutual
  pub put_statement : Pooled → List ℤ → Statement → List ℤ → List ℤ
  put_statement pool env (assign target value place) cur =
      put_number pool (target_bits pool env target.0) (num pool env value.0) cur
  put_statement pool env (choose arms) cur = put_choices pool env arms cur

  -- the first arm whose condition is not 0
  pub put_choices : Pooled → List ℤ → Choices → List ℤ → List ℤ
  put_choices pool env none cur = cur
  put_choices pool env (arm condition body others) cur =
      if is_zero (num pool env condition.0) then put_choices pool env others cur else put pool env body cur

  -- one statement after the other
  pub put : Pooled → List ℤ → Block → List ℤ → List ℤ
  put pool env done cur = cur
  put pool env (next s rest) cur = put pool env rest (put_statement pool env s cur)
