-- A module that keeps its wires and its history, as one of which cells are cut.
use Rattle.std.proofs.Common.{◌≡◌, ◌∙◌, ◌<◌, ℕ, Bool, List, sym, subst, All}
use Rattle.std.specs.Prelude.{Some, Result, Ok, Err, IfOk}
use Rattle.design_ir.specs.Circuits.{Circuit}
use Rattle.rtlil_text.specs.declared.module.RtlWire.{RtlWire}
use Rattle.rtlil_text.specs.declared.module.RtlModule.{RtlModule}
use Rattle.rtlil_text.specs.History.{Wires}
use Rattle.cell_split.specs.Kept.{KeepsHistory}
use Rattle.netlist_laws.specs.Corresponds.{Corresponds}
use Rattle.netlist_laws.specs.Histories.{SameColumns, AllDefined, inputs_at, first_inputs, inputs_over, history_of, HasHistory, SameHistory}

pub Corresponds-wires : (c : Circuit) (m other : RtlModule) → other.wires ≡ m.wires → Corresponds c m → Corresponds c other
Corresponds-wires c m other e h = record { firsts = h.firsts; others = h.others; wires = e ∙ h.wires; columns = h.columns; inner = h.inner }

-- each bit of these wires has a value
abbrev AreDefined : Wires → List RtlWire → Type 0
AreDefined bit wires = All (λ (w : RtlWire). (i : ℕ) → i < w.width → (b : Bool) × (bit w.id i ≡ Some b)) wires

pub SameHistory-kept : (c : Circuit) (m other : RtlModule) → other.wires ≡ m.wires → KeepsHistory m other → SameHistory c m → SameHistory c other
SameHistory-kept c m other e keeps h events legal =
    let was : HasHistory c m events = h events legal in
    let same : history_of c m events ≡ history_of c other events = sym (keeps (inputs_at c (first_inputs c)) (inputs_over c (first_inputs c) events)) in
    record {
      envs = was.envs;
      is_history = was.is_history;
      columns = subst (SameColumns c was.envs) same was.columns;
      defined = subst (All (AllDefined other)) same (subst (λ (wires : List RtlWire). All (λ (bit : Wires). AreDefined bit wires) (history_of c m events)) (sym e) was.defined);
    }

-- what one result has of two kinds
pub IfOk-both : {A F : Type 0} (r : Result A F) (P Q R : A → Type 0) → ((x : A) → P x → Q x → R x) → IfOk r P → IfOk r Q → IfOk r R
IfOk-both (Ok x) P Q R f p q = f x p q
IfOk-both (Err e) P Q R f p q = tt
