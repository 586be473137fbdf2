use Rattle.std.proofs.Common.{◌≡◌, ◌∙◌, ◌-◌, suc, drop, ap, sym, arith}
use Rattle.std.specs.Prelude.{string_bytes}
use Rattle.std.specs.List.{position_from}
use Rattle.std.specs.BTreeMap.{get_by_text}
use Rattle.std.proofs.lemmas.Map.Text.{btree_map_updates_text}
use Rattle.lib_wiring.specs.declared.leaf.Leaf.{Leaf}
use Rattle.lib_wiring.specs.Wiring.{is_at}
use Rattle.lib_wiring.proofs.LinkSteps.{placed_more}
use Rattle.lib_wiring.proofs.places.places_of.Goals as goal

pub loop-i-preserved : goal.loop-i-preserved
loop-i-preserved c =
    let ls = c.args.leaves.now in
    let back : c.loop-i.i ≡ suc (c.loop-i.i - 1) = omega arith in
    record {
      within = omega arith;
      places = placed_more ls (get_by_text c.loop-i.places) (get_by_text c.insert.new.self) (c.loop-i.i - 1) c.index-leaves-i.result (string_bytes c.in_ok-path.path)
          (omega arith) c.index-leaves-i.is (c.in_ok-path.ensures.ok ∙ c.as_str.ensures ∙ ap (λ (l : Leaf). l.path) (sym c.index-leaves-i.is)) (λ p. c.loop-i.invariant.places p ∙ ap (λ n. position_from (is_at p) n (drop n ls)) back)
          (btree_map_updates_text (string_bytes c.in_ok-path.path) c.loop-i.places c.insert.new.self _ c.in_ok-insert.ensures.updates);
    }
