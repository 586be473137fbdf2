-- Clock domains, worked out: `cd_pix = ClockDomain()` where nothing was made before, and what module 0 defines of it.
use Rattle.std.specs.Prelude.{◌≡◌, refl, ℕ, true, false, List, [], ◌∷◌, map, Some, None, codes}
use Rattle.identifiers.proofs.Computing.{identifiers}
use Rattle.py_values.specs.declared.val.Val.{Val}
use Rattle.py_values.specs.declared.val.Val.TheVariants as val
use Rattle.py_heap.specs.Heaps.{Seen, seen, nothing}
use Rattle.py_frames.specs.declared.request.Answer.TheVariants as answer
use Rattle.py_frames.specs.declared.request.Cause.TheVariants.{Raised}
use Rattle.amh_host.specs.declared.place.Place.{Place}
use Rattle.design_ir.specs.declared.signal.Sig.{Sig}
use Rattle.elab_store.specs.declared.domains.ClockDomain.{ClockDomain}
use Rattle.elab_store.specs.Calls.{Called}
use Rattle.elab_store.specs.ClockDomains.{defined_by}
use Rattle.elab_store.specs.Stores.{Answered, nothing_held}
use Rattle.elab_acts.specs.ClockDomains.{without_cd, edge_falls, resets_at_once, sampling_said, clock_domain_called, clock_domain_attribute, definition_added, definition_stored}

names_cut : (without_cd (codes "cd_pix") ≡ codes "pix") × (without_cd (codes "pix") ≡ codes "pix") × (without_cd (codes "cd_") ≡ []) × (without_cd (codes "cd") ≡ codes "cd")
names_cut = (refl, refl, refl, refl)

thing : ℕ → Val
thing n = val.Hw (record { 0 = n })

heap : Seen
heap = seen nothing nothing

-- a call without arguments, assigned to this name
call : List ℕ → Called
call name = record { callee = val.None; placed = []; keywords = []; keyword_vals = []; name = name }

at_line : ℕ → Place
at_line n = record { line = n; col = 1 }

-- things 0 and 1 stand for the clock and the reset, and thing 2 for the clock domain
made : Answered
made = clock_domain_called heap (call (codes "cd_pix")) nothing_held

pix : ClockDomain
unfolding thing
pix = record { domain = record { name = codes "pix"; clk = record { 0 = 0 }; rst = Some (record { 0 = 1 }); falling = false; async_reset = false }; reset = Some (thing 1) }

made_is : (made.answer ≡ answer.Give (thing 2)) × (map (λ (x : Sig). x.name) made.held.pool.signals ≡ codes "pix_clk" ∷ codes "pix_rst" ∷ []) × (made.held.store.clock_domains.made ≡ pix ∷ [])
unfolding identifiers thing heap call made pix
made_is = (refl, refl, refl)

attributes_are : ((clock_domain_attribute 0 (codes "rst") made.held).answer ≡ answer.Give (thing 1))
    × ((clock_domain_attribute 0 (codes "name") made.held).answer ≡ answer.GiveText (codes "pix"))
    × ((clock_domain_attribute 0 (codes "clk") made.held).answer ≡ answer.Refuse Raised)
unfolding identifiers thing heap call made
attributes_are = (refl, refl, refl)

-- `comb` is no clock domain
refused : ((clock_domain_called heap (call (codes "comb")) nothing_held).answer ≡ answer.Refuse Raised) × ((clock_domain_called heap (call (codes "cd_comb")) nothing_held).answer ≡ answer.Refuse Raised)
unfolding identifiers heap call
refused = (refl, refl)

-- m.domains.pix = cd_pix, where m is module 0
defined : Answered
defined = definition_stored 0 (codes "pix") (thing 2) (at_line 5) made.held

definitions_are : (defined.answer ≡ answer.Give val.None) × (defined_by 0 defined.held.store.clock_domains ≡ record { domain = pix.domain; place = at_line 5 } ∷ []) × (defined_by 1 defined.held.store.clock_domains ≡ [])
unfolding identifiers thing heap call made pix at_line defined
definitions_are = (refl, refl, refl)

-- under another name it is not defined, and the reset is no clock domain
no_definition : ((definition_stored 0 (codes "sync") (thing 2) (at_line 6) made.held).answer ≡ answer.Refuse Raised) × ((definition_added 0 (thing 1) (thing 9) (at_line 6) made.held).answer ≡ answer.Refuse Raised)
unfolding identifiers thing heap call made at_line
no_definition = (refl, refl)

-- ---- edges and resets

edges_are : (edge_falls (codes "pos") ≡ Some false) × (edge_falls (codes "neg") ≡ Some true) × (edge_falls (codes "up") ≡ None) × (edge_falls [] ≡ None)
edges_are = (refl, refl, refl, refl)

at_once_is : (resets_at_once None ≡ Some false) × (resets_at_once (Some (val.Bool true)) ≡ Some true) × (resets_at_once (Some val.None) ≡ None) × (resets_at_once (Some (thing 0)) ≡ None)
unfolding thing
at_once_is = (refl, refl, refl, refl)

-- where there is no reset, none acts at once
reset_less_is : sampling_said (Some true) (Some true) (Some true) ≡ Some (record { falling = true; reset_less = true; async_reset = false })
reset_less_is = refl

-- a call with this keyword, given once for each value
with_at_once : List Val → List (List ℕ) → Answered
with_at_once vs ns = clock_domain_called heap (record { callee = val.None; placed = []; keywords = ns; keyword_vals = vs; name = codes "pix" }) nothing_held

at_once_made : (with_at_once (val.Bool true ∷ []) (codes "async_reset" ∷ [])).held.store.clock_domains.made ≡ record { domain = record pix.domain { async_reset = true }; reset = pix.reset } ∷ []
unfolding identifiers thing heap with_at_once pix
at_once_made = refl

-- given twice, or a keyword that is none
no_keywords : ((with_at_once (val.Bool true ∷ val.Bool true ∷ []) (codes "async_reset" ∷ codes "async_reset" ∷ [])).answer ≡ answer.Refuse Raised) × ((with_at_once (val.Bool true ∷ []) (codes "local" ∷ [])).answer ≡ answer.Refuse Raised)
unfolding identifiers heap with_at_once
no_keywords = (refl, refl)
