-- Laws of arguments that meet parameters.
use Rattle.std.proofs.Common.{◌≡◌, ℕ, ◌+◌, ◌<◌, ◌≤◌, arith, refl, ap, ◌∙◌, sym, append_assoc, List, [], ◌∷◌, ◌++◌, length, get_or, drop, map, Option, Some, None, Result, Ok, Err, IfOk, Bool, true, false, if◌then◌else◌}
use Rattle.std.proofs.lemmas.List.{drop_more, drop_all}
use Rattle.lists.specs.Texts.{text_eq}
use Rattle.amh_host.specs.declared.place.Place.{Place}
use Rattle.lists.specs.declared.items.NoMemory.{NoMemory}
use Rattle.py_tree.specs.declared.stmt.Param.{Param}
use Rattle.py_tree.specs.Programs.{parameter_of}
use Rattle.py_tree.specs.Tree.{Tree, Perhaps, present}
use Rattle.py_tree.specs.Steps.{Parameter, Named, Star}
use Rattle.py_values.specs.declared.val.Val.{Val}
use Rattle.py_values.specs.declared.val.Val.TheVariants as val
use Rattle.py_frames.specs.declared.request.NamedVal.{NamedVal}
use Rattle.py_callables.specs.declared.call_meet.Meeting.{Meeting}
use Rattle.py_frames.specs.Functions.{is_given, taken_keyword, parameters_met, named_val, by_keyword, with_first, default_value, defaults_behind}
use Rattle.py_callables.specs.Meeting.{behind_met, meeting_on, if_met, taken_on}

-- ---- keywords

taken-step : (found : Option Val) (name : List ℕ) (before keywords : List NamedVal) (i : ℕ) (x : NamedVal) → i < length keywords → x ≡ get_or keywords i x → taken_on found name before (drop i keywords) ≡ taken_on found name before (x ∷ drop (i + 1) keywords)
taken-step found name before keywords i x e q = ap (taken_on found name before) (drop_more keywords i x e ∙ ap (λ z. z ∷ drop (i + 1) keywords) (sym q))

pub taken_found : (name : List ℕ) (before keywords : List NamedVal) (i : ℕ) (x : NamedVal) → i < length keywords → x ≡ get_or keywords i x → text_eq x.name name ≡ true → taken_on (Some x.val) name before (drop (i + 1) keywords) ≡ taken_on None name before (drop i keywords)
taken_found name before keywords i x e q h = sym (taken-step None name before keywords i x e q ∙ ap (λ (z : Bool). if z then Some (x.val, before ++ drop (i + 1) keywords) else taken_keyword name (before ++ x ∷ []) (drop (i + 1) keywords)) h)

pub taken_more : (name : List ℕ) (before more keywords : List NamedVal) (i : ℕ) (x : NamedVal) → i < length keywords → x ≡ get_or keywords i x → text_eq x.name name ≡ false → more ≡ before ++ named_val x.name x.val ∷ [] → taken_on None name more (drop (i + 1) keywords) ≡ taken_on None name before (drop i keywords)
taken_more name before more keywords i x e q h m = ap (λ (z : List NamedVal). taken_keyword name z (drop (i + 1) keywords)) m ∙ sym (taken-step None name before keywords i x e q ∙ ap (λ (z : Bool). if z then Some (x.val, before ++ drop (i + 1) keywords) else taken_keyword name (before ++ x ∷ []) (drop (i + 1) keywords)) h)

pub taken_behind : (v : Val) (name : List ℕ) (before more keywords : List NamedVal) (i : ℕ) (x : NamedVal) → i < length keywords → x ≡ get_or keywords i x → more ≡ before ++ named_val x.name x.val ∷ [] → taken_on (Some v) name more (drop (i + 1) keywords) ≡ taken_on (Some v) name before (drop i keywords)
taken_behind v name before more keywords i x e q m = ap (λ (z : List NamedVal). Some (v, z ++ drop (i + 1) keywords)) m ∙ ap (λ (z : List NamedVal). Some (v, z)) (append_assoc before (x ∷ []) (drop (i + 1) keywords)) ∙ sym (taken-step (Some v) name before keywords i x e q)

pub taken_end : (found : Option Val) (name : List ℕ) (before keywords : List NamedVal) (i : ℕ) → length keywords ≤ i → taken_on found name before (drop i keywords) ≡ taken_on found name before []
taken_end found name before keywords i e = ap (taken_on found name before) (drop_all i keywords e)

pub ruleset taken_rules = (taken_found, taken_more, taken_behind, taken_end)

-- ---- one parameter

behind-first : (met : List NamedVal) (x : NamedVal) (o : Option (List NamedVal)) → behind_met met (with_first x o) ≡ behind_met (met ++ x ∷ []) o
behind-first met x None = refl
behind-first met x (Some xs) = ap Some (sym (append_assoc met (x ∷ []) xs))

pub keyword_taken : (met keywords others : List NamedVal) (name : List ℕ) (v : Val) (default : Option Val) (rest : List NamedVal → Option (List NamedVal)) → Some (v, others) ≡ taken_keyword name [] keywords → behind_met met (by_keyword name (taken_keyword name [] keywords) default keywords rest) ≡ behind_met (met ++ named_val name v ∷ []) (rest others)
keyword_taken met keywords others name v default rest e = ap (λ z. behind_met met (by_keyword name z default keywords rest)) (sym e) ∙ behind-first met (named_val name v) (rest others)

pub keyword_default : (met keywords : List NamedVal) (name : List ℕ) (v : Val) (rest : List NamedVal → Option (List NamedVal)) → None ≡ taken_keyword name [] keywords → behind_met met (by_keyword name (taken_keyword name [] keywords) (Some v) keywords rest) ≡ behind_met (met ++ named_val name v ∷ []) (rest keywords)
keyword_default met keywords name v rest e = ap (λ z. behind_met met (by_keyword name z (Some v) keywords rest)) (sym e) ∙ behind-first met (named_val name v) (rest keywords)

pub keyword_lacks : (met keywords : List NamedVal) (name : List ℕ) (rest : List NamedVal → Option (List NamedVal)) → None ≡ taken_keyword name [] keywords → behind_met met (by_keyword name (taken_keyword name [] keywords) None keywords rest) ≡ None
keyword_lacks met keywords name rest e = ap (λ z. behind_met met (by_keyword name z None keywords rest)) (sym e)

pub ruleset keyword_rules = (keyword_taken, keyword_default, keyword_lacks)

-- the default of a parameter

pub default_there : (p : Perhaps) (ds : List Val) (i : ℕ) (d v : Val) → i < length ds → v ≡ get_or ds i d → default_value p (drop i ds) ≡ default_value p (v ∷ drop (i + 1) ds)
default_there p ds i d v e q = ap (default_value p) (drop_more ds i d e ∙ ap (λ z. z ∷ drop (i + 1) ds) (sym q))

pub default_none : (p : Perhaps) (ds : List Val) (i : ℕ) → length ds ≤ i → default_value p (drop i ds) ≡ default_value p []
default_none p ds i e = ap (default_value p) (drop_all i ds e)

pub ruleset default_rules = (default_there, default_none)

pub behind_there : (t : Tree) (ds : List Val) (i : ℕ) → i < length ds → drop (i + 1) ds ≡ defaults_behind (present t) (drop i ds)
behind_there t ds i e = sym (ap (defaults_behind (present t)) (drop_more ds i val.None e))

pub behind_none : (t : Tree) (ds : List Val) (i : ℕ) → length ds ≤ i → drop i ds ≡ defaults_behind (present t) (drop i ds)
behind_none t ds i e = drop_all i ds e ∙ sym (ap (defaults_behind (present t)) (drop_all i ds e))

pub ruleset behind_rules = (behind_there, behind_none)

-- a named parameter
pub named_twice : (m : Meeting) (args defaults : List Val) (p : Place) (n : List ℕ) (a d : Perhaps) (ps : List Parameter) → m.next < length args → is_given n m.keywords ≡ true → meeting_on m args defaults (Named p n a d ∷ ps) ≡ None
named_twice m args defaults p n a d ps e q = ap (λ (z : List Val). behind_met m.met (parameters_met (Named p n a d ∷ ps) z m.keywords (drop m.default defaults))) (drop_more args m.next val.None e) ∙ ap (λ (z : Bool). behind_met m.met (if z then None else with_first (named_val n (get_or args m.next val.None)) (parameters_met ps (drop (m.next + 1) args) m.keywords (defaults_behind d (drop m.default defaults))))) q

pub named_next : (m : Meeting) (args defaults behind : List Val) (p : Place) (n : List ℕ) (a d : Perhaps) (ps : List Parameter) (v : Val) → m.next < length args → v ≡ get_or args m.next v → is_given n m.keywords ≡ false → behind ≡ defaults_behind d (drop m.default defaults) → meeting_on m args defaults (Named p n a d ∷ ps) ≡ behind_met (m.met ++ named_val n v ∷ []) (parameters_met ps (drop (m.next + 1) args) m.keywords behind)
named_next m args defaults behind p n a d ps v e i q b = ap (λ (z : List Val). behind_met m.met (parameters_met (Named p n a d ∷ ps) z m.keywords (drop m.default defaults))) (drop_more args m.next v e ∙ ap (λ (z : Val). z ∷ drop (m.next + 1) args) (sym i)) ∙ ap (λ (z : Bool). behind_met m.met (if z then None else with_first (named_val n v) (parameters_met ps (drop (m.next + 1) args) m.keywords (defaults_behind d (drop m.default defaults))))) q ∙ behind-first m.met (named_val n v) (parameters_met ps (drop (m.next + 1) args) m.keywords (defaults_behind d (drop m.default defaults))) ∙ ap (λ (z : List Val). behind_met (m.met ++ named_val n v ∷ []) (parameters_met ps (drop (m.next + 1) args) m.keywords z)) (sym b)

pub named_by_keyword : (m : Meeting) (args defaults behind : List Val) (p : Place) (n : List ℕ) (a d : Perhaps) (ps : List Parameter) (default : Option Val) → length args ≤ m.next → default ≡ default_value d (drop m.default defaults) → behind ≡ defaults_behind d (drop m.default defaults) → meeting_on m args defaults (Named p n a d ∷ ps) ≡ behind_met m.met (by_keyword n (taken_keyword n [] m.keywords) default m.keywords (λ others. parameters_met ps (drop m.next args) others behind))
named_by_keyword m args defaults behind p n a d ps default e q b =
    ap (λ (z : List Val). behind_met m.met (parameters_met (Named p n a d ∷ ps) z m.keywords (drop m.default defaults))) (drop_all m.next args e)
    ∙ ap (λ (z : Option Val). behind_met m.met (by_keyword n (taken_keyword n [] m.keywords) z m.keywords (λ others. parameters_met ps [] others (defaults_behind d (drop m.default defaults))))) (sym q)
    ∙ ap (λ (z : List Val). behind_met m.met (by_keyword n (taken_keyword n [] m.keywords) default m.keywords (λ others. parameters_met ps [] others z))) (sym b)
    ∙ ap (λ (z : List Val). behind_met m.met (by_keyword n (taken_keyword n [] m.keywords) default m.keywords (λ others. parameters_met ps z others behind))) (sym (drop_all m.next args e))

-- by keyword, whatever that comes to
pub named_on : (r : Result Bool NoMemory) (m new : Meeting) (args defaults : List Val) (n : List ℕ) (d : Perhaps) (default : Option Val) → length args ≤ m.next → default ≡ default_value d (drop m.default defaults) → drop new.default defaults ≡ defaults_behind d (drop m.default defaults) → new.next ≡ m.next → IfOk r (λ b. (rest : List NamedVal → Option (List NamedVal)) → behind_met m.met (by_keyword n (taken_keyword n [] m.keywords) default m.keywords rest) ≡ if_met b (behind_met new.met (rest new.keywords))) → IfOk r (λ b. (p : Place) (a : Perhaps) (ps : List Parameter) → meeting_on m args defaults (Named p n a d ∷ ps) ≡ if_met b (meeting_on new args defaults ps))
named_on (Ok b) m new args defaults n d default e q f i h = λ p a ps. named_by_keyword m args defaults (drop new.default defaults) p n a d ps default e q f ∙ h (λ others. parameters_met ps (drop m.next args) others (drop new.default defaults)) ∙ ap (λ (z : ℕ). if_met b (behind_met new.met (parameters_met ps (drop z args) new.keywords (drop new.default defaults)))) (sym i)
named_on (Err e) m new args defaults n d default e1 q f i h = tt

pub named_taken : (r : Result Bool NoMemory) (m new : Meeting) (args defaults : List Val) (p : Place) (n : List ℕ) (a d : Perhaps) → IfOk r (λ b. (p : Place) (a : Perhaps) (ps : List Parameter) → meeting_on m args defaults (Named p n a d ∷ ps) ≡ if_met b (meeting_on new args defaults ps)) → IfOk r (λ b. (ps : List Parameter) → meeting_on m args defaults (Named p n a d ∷ ps) ≡ if_met b (meeting_on new args defaults ps))
named_taken (Ok b) m new args defaults p n a d h = λ ps. h p a ps
named_taken (Err e) m new args defaults p n a d h = tt

pub ruleset named_rules = (named_twice, named_next, named_on)

-- a star
pub star_end : (m : Meeting) (args defaults : List Val) (p : Place) (ps : List Parameter) → length args ≤ m.next → meeting_on m args defaults (Star p ∷ ps) ≡ meeting_on m args defaults ps
star_end m args defaults p ps e = ap (λ (z : List Val). behind_met m.met (parameters_met (Star p ∷ ps) z m.keywords (drop m.default defaults))) (drop_all m.next args e) ∙ ap (λ (z : List Val). behind_met m.met (parameters_met ps z m.keywords (drop m.default defaults))) (sym (drop_all m.next args e))

pub star_more : (m : Meeting) (args defaults : List Val) (p : Place) (ps : List Parameter) → m.next < length args → meeting_on m args defaults (Star p ∷ ps) ≡ None
star_more m args defaults p ps e = ap (λ (z : List Val). behind_met m.met (parameters_met (Star p ∷ ps) z m.keywords (drop m.default defaults))) (drop_more args m.next val.None e)

pub ruleset star_rules = (star_end, star_more, named_taken)

-- ---- all parameters

behind-nothing : (o : Option (List NamedVal)) → behind_met [] o ≡ o
behind-nothing None = refl
behind-nothing (Some xs) = refl

pub meeting_begins : (m : Meeting) (args defaults : List Val) (keywords : List NamedVal) (ps : List Parameter) → m.next ≡ 0 → m.default ≡ 0 → m.met ≡ [] → m.keywords ≡ keywords → meeting_on m args defaults ps ≡ parameters_met ps args keywords defaults
meeting_begins m args defaults keywords ps e1 e2 e3 e4 =
    ap (λ (z : ℕ). behind_met m.met (parameters_met ps (drop z args) m.keywords (drop m.default defaults))) e1
    ∙ ap (λ (z : ℕ). behind_met m.met (parameters_met ps args m.keywords (drop z defaults))) e2
    ∙ ap (λ (z : List NamedVal). behind_met z (parameters_met ps args m.keywords defaults)) e3
    ∙ ap (λ (z : List NamedVal). behind_met [] (parameters_met ps args z defaults)) e4
    ∙ behind-nothing (parameters_met ps args keywords defaults)

append-nothing : (xs : List NamedVal) → xs ++ [] ≡ xs
append-nothing [] = refl
append-nothing (x ∷ xs) = ap (λ z. x ∷ z) (append-nothing xs)

pub meeting_ends : (m : Meeting) (args defaults : List Val) → length args ≤ m.next → length m.keywords ≡ 0 → meeting_on m args defaults [] ≡ Some m.met
meeting_ends m args defaults e q = ap (λ (z : List Val). behind_met m.met (parameters_met [] z m.keywords (drop m.default defaults))) (drop_all m.next args e) ∙ meeting-bare m.met m.keywords (drop m.default defaults) q
  where
    meeting-bare : (met keywords : List NamedVal) (ds : List Val) → length keywords ≡ 0 → behind_met met (parameters_met [] [] keywords ds) ≡ Some met
    meeting-bare met [] ds q = ap Some (append-nothing met)
    meeting-bare met (x ∷ xs) ds q = cc

pub meeting_more : (m : Meeting) (args defaults : List Val) → m.next < length args → meeting_on m args defaults [] ≡ None
meeting_more m args defaults e = ap (λ (z : List Val). behind_met m.met (parameters_met [] z m.keywords (drop m.default defaults))) (drop_more args m.next val.None e)

pub meeting_named : (m : Meeting) (args defaults : List Val) → length args ≤ m.next → 0 < length m.keywords → meeting_on m args defaults [] ≡ None
meeting_named m args defaults e q = ap (λ (z : List Val). behind_met m.met (parameters_met [] z m.keywords (drop m.default defaults))) (drop_all m.next args e) ∙ meeting-given m.met m.keywords (drop m.default defaults) q
  where
    meeting-given : (met keywords : List NamedVal) (ds : List Val) → 0 < length keywords → behind_met met (parameters_met [] [] keywords ds) ≡ None
    meeting-given met [] ds q = absurd (omega arith)
    meeting-given met (x ∷ xs) ds q = refl

met-step : (m : Meeting) (args defaults : List Val) (p : Param) (params : List Param) (i : ℕ) → i < length params → p ≡ get_or params i p → meeting_on m args defaults (map parameter_of (drop i params)) ≡ meeting_on m args defaults (parameter_of p ∷ map parameter_of (drop (i + 1) params))
met-step m args defaults p params i e q = ap (λ z. meeting_on m args defaults (map parameter_of z)) (drop_more params i p e ∙ ap (λ z. z ∷ drop (i + 1) params) (sym q))

pub meeting_goes : (m new : Meeting) (args defaults : List Val) (p : Param) (params : List Param) (i : ℕ) (b : Bool) (whole : Option (List NamedVal)) → i < length params → p ≡ get_or params i p → ((ps : List Parameter) → meeting_on m args defaults (parameter_of p ∷ ps) ≡ if_met b (meeting_on new args defaults ps)) → b ≡ true → meeting_on m args defaults (map parameter_of (drop i params)) ≡ whole → meeting_on new args defaults (map parameter_of (drop (i + 1) params)) ≡ whole
meeting_goes m new args defaults p params i b whole e q h t w = sym (sym w ∙ met-step m args defaults p params i e q ∙ h (map parameter_of (drop (i + 1) params)) ∙ ap (λ (z : Bool). if_met z (meeting_on new args defaults (map parameter_of (drop (i + 1) params)))) t)

pub meeting_stops : (m new : Meeting) (args defaults : List Val) (p : Param) (params : List Param) (i : ℕ) (b : Bool) (whole : Option (List NamedVal)) → i < length params → p ≡ get_or params i p → ((ps : List Parameter) → meeting_on m args defaults (parameter_of p ∷ ps) ≡ if_met b (meeting_on new args defaults ps)) → b ≡ false → meeting_on m args defaults (map parameter_of (drop i params)) ≡ whole → None ≡ whole
meeting_stops m new args defaults p params i b whole e q h t w = sym (sym w ∙ met-step m args defaults p params i e q ∙ h (map parameter_of (drop (i + 1) params)) ∙ ap (λ (z : Bool). if_met z (meeting_on new args defaults (map parameter_of (drop (i + 1) params)))) t)

pub ruleset meeting_rules = (meeting_begins, meeting_ends, meeting_more, meeting_named, meeting_goes, meeting_stops)
