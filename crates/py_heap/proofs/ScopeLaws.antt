-- A name looked for in a chain of scopes.
use Rattle.std.proofs.Common.{◌≡◌, ℕ, zero, suc, List, Option, Some, None, refl, ap, sym, ◌∙◌}
use Rattle.py_values.specs.declared.val.ScopeId.{ScopeId}
use Rattle.py_values.specs.declared.func.Scope.{Scope}
use Rattle.py_heap.specs.declared.scopes.LookUp.{LookUp}
use Rattle.py_heap.specs.declared.scopes.LookUp.TheVariants.{Nowhere}
use Rattle.py_heap.specs.Heaps.{Seen}
use Rattle.py_heap.specs.Names.{scope_at, in_chain, in_chained, chained}

module _ (s : Seen) (name : List ℕ) where
  past : (n : ℕ) → in_chain n s name None ≡ Nowhere
  unfolding in_chain
  past zero = refl
  past (suc n) = refl

  -- past the module
  pub chain_past : (n : ℕ) (at : Option ScopeId) → at ≡ None → in_chain n s name at ≡ Nowhere
  chain_past n at e = ap (in_chain n s name) e ∙ past n

  lost : (n : ℕ) (id : ScopeId) → None ≡ scope_at s id.0 → in_chain n s name (Some id) ≡ Nowhere
  unfolding in_chain
  lost zero id h = refl
  lost (suc n) id h = ap (chained s name (in_chain n s name)) (sym h)

  -- at a number that stands for none
  pub chain_lost : (n : ℕ) (at : Option ScopeId) (id : ScopeId) → at ≡ Some id → None ≡ scope_at s id.0 → in_chain n s name at ≡ Nowhere
  chain_lost n at id e h = ap (in_chain n s name) e ∙ lost n id h

  turn : (n : ℕ) (id : ScopeId) (scope : Scope) → Some scope ≡ scope_at s id.0 → in_chain (suc n) s name (Some id) ≡ in_chained name scope (in_chain n s name scope.enclosing)
  unfolding in_chain
  turn n id scope h = ap (chained s name (in_chain n s name)) (sym h)

  -- at one scope more
  pub chain_turn : (n m : ℕ) (at : Option ScopeId) (id : ScopeId) (scope : Scope) (meaning : LookUp) → n ≡ suc m → at ≡ Some id → Some scope ≡ scope_at s id.0 → in_chained name scope (in_chain m s name scope.enclosing) ≡ meaning → in_chain n s name at ≡ meaning
  chain_turn n m at id scope meaning g e h b = (λ i. in_chain (g i) s name (e i)) ∙ turn m id scope h ∙ b

  none_left : (at : Option ScopeId) → in_chain 0 s name at ≡ Nowhere
  unfolding in_chain
  none_left at = refl

  -- after the last one
  pub chain_end : (n : ℕ) (at : Option ScopeId) → n ≡ 0 → in_chain n s name at ≡ Nowhere
  chain_end n at g = ap (λ k. in_chain k s name at) g ∙ none_left at
