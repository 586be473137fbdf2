-- Small layouts and enumerations, worked out by hand.
use Rattle.std.specs.Prelude.{◌≡◌, refl, ℕ, true, false, List, [], ◌∷◌, map, ℤ, pos, negsuc, Some, None, codes}
use Rattle.std.specs.Fmt.{digits}
use Rattle.shape_rules.specs.Forms.{unsigned, signed_form}
use Rattle.data_layouts.specs.declared.field.Field.{Field}
use Rattle.data_layouts.specs.declared.field.Member.{Member}
use Rattle.data_layouts.specs.declared.enumeration.NumberedName.{NumberedName}
use Rattle.data_layouts.specs.declared.refusal.LayoutStop.TheVariants.{Width, Repeated, NotFitting}
use Rattle.data_layouts.specs.Layouts.{structure_of, union_of, array_of, structure_refusal, union_refusal, array_refusal}
use Rattle.data_layouts.specs.Enumerations.{is_of, enum_refusal, number_named, first_named}

member : List ℕ → ℕ → Member
member name width = record { name = name; shape = unsigned width }

field : List ℕ → ℕ → ℕ → Field
field name low width = record { name = name; low = low; shape = unsigned width }

a_and_b : List Member
a_and_b = member (codes "a") 3 ∷ member (codes "b") 8 ∷ []

-- as a union both begin at bit 0, and the widest has 8 bits
union_of_two : union_of a_and_b ≡ record { fields = field (codes "a") 0 3 ∷ field (codes "b") 0 8 ∷ []; width = 8 }
unfolding a_and_b member field
union_of_two = refl

-- as a structure `b` begins above the 3 bits of `a`
structure_of_two : structure_of a_and_b ≡ record { fields = field (codes "a") 0 3 ∷ field (codes "b") 3 8 ∷ []; width = 11 }
unfolding a_and_b member field
structure_of_two = refl

-- three items of 5 bits
array_of_three : array_of (unsigned 5) 3 ≡ record { fields = field (codes "0") 0 5 ∷ field (codes "1") 5 5 ∷ field (codes "2") 10 5 ∷ []; width = 15 }
unfolding field digits
array_of_three = refl

-- no fields, and fields without bits
without_bits : (structure_of [] ≡ record { fields = []; width = 0 }) × (union_of [] ≡ record { fields = []; width = 0 }) × ((array_of (unsigned 0) 2).width ≡ 0) × (map (λ (f : Field). f.low) (array_of (unsigned 0) 2).fields ≡ 0 ∷ 0 ∷ [])
without_bits = (refl, refl, refl, refl)

-- 128 bits are taken and 129 are not; a name that stands twice is told before the width
refusals : (structure_refusal (member (codes "a") 64 ∷ member (codes "b") 64 ∷ []) ≡ None) × (structure_refusal (member (codes "a") 64 ∷ member (codes "b") 65 ∷ []) ≡ Some Width) × (structure_refusal (member (codes "a") 64 ∷ member (codes "b") 65 ∷ member (codes "a") 1 ∷ []) ≡ Some Repeated) × (union_refusal (member (codes "a") 128 ∷ member (codes "b") 128 ∷ []) ≡ None) × (union_refusal (member (codes "a") 1 ∷ member (codes "a") 1 ∷ []) ≡ Some Repeated) × (array_refusal (unsigned 64) 2 ≡ None) × (array_refusal (unsigned 43) 3 ≡ Some Width)
unfolding member
refusals = (refl, refl, refl, refl, refl, refl, refl)

named : List ℕ → ℤ → NumberedName
named name number = record { name = name; number = number }

-- the numbers of `unsigned(1)`, of `signed(2)` and of no bits
ranges : (is_of false 1 (pos 1) ≡ true) × (is_of false 1 (pos 2) ≡ false) × (is_of false 1 (negsuc 0) ≡ false) × (is_of true 2 (pos 1) ≡ true) × (is_of true 2 (pos 2) ≡ false) × (is_of true 2 (negsuc 1) ≡ true) × (is_of true 2 (negsuc 2) ≡ false) × (is_of false 0 (pos 0) ≡ true) × (is_of false 0 (pos 1) ≡ false)
unfolding is_of
ranges = (refl, refl, refl, refl, refl, refl, refl, refl, refl)

-- a name that stands twice is told before a number that is too large
enum_refusals : (enum_refusal (unsigned 1) (named (codes "A") (pos 0) ∷ named (codes "B") (pos 2) ∷ []) ≡ Some NotFitting) × (enum_refusal (unsigned 1) (named (codes "A") (pos 2) ∷ named (codes "A") (pos 0) ∷ []) ≡ Some Repeated) × (enum_refusal (signed_form 2) (named (codes "A") (negsuc 1) ∷ named (codes "B") (pos 1) ∷ []) ≡ None)
unfolding is_of named
enum_refusals = (refl, refl, refl)

-- `C` is another name of `B`
aliases : List NumberedName
aliases = named (codes "A") (pos 0) ∷ named (codes "B") (pos 2) ∷ named (codes "C") (pos 2) ∷ []

looked_up : (number_named (codes "C") aliases ≡ Some (pos 2)) × (number_named (codes "D") aliases ≡ None) × (first_named (pos 2) aliases ≡ Some (named (codes "B") (pos 2))) × (first_named (pos 1) aliases ≡ None) × (enum_refusal (unsigned 2) aliases ≡ None)
unfolding is_of aliases named
looked_up = (refl, refl, refl, refl, refl)
