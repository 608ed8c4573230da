use Rattle.std.proofs.Common.{◌≡◌, ◌+◌, ◌-◌, length, length-drop, drop, rules, tests, sym, ap, ◌∙◌, arith}
use Rattle.std.proofs.lemmas.Iterator.{YieldsList-from_slice}
use Rattle.std.proofs.lemmas.Iterator.Adapters.{position_from-zero}
use Rattle.std.proofs.lemmas.List.{take_all}
use Rattle.std.proofs.lemmas.Iterator.Search.{position_from_yields_List}
use Rattle.std.specs.Option.{option_map}
use Rattle.market.specs.Nodes.{is_node}
use Rattle.succession.specs.Trees.{node_from}
use Rattle.succession.proofs.Walking.{node_position}
use Rattle.succession.proofs.tree.child_of.Goals as goal

pub returns-clause-value : goal.returns-clause-value
returns-clause-value c =
    let p = c.args.place.number in
    let r = c.args.number in
    let t = c.args.took in
    let rest = drop r c.args.nodes.now in
    let left = c.in_ok-get.ensures.lookup.0.2 ∙ take_all (length c.args.nodes.now - r) rest (omega (arith, length-drop r c.args.nodes.now)) in
    let found = position_from_yields_List (is_node p r t) _ _ _ c.position.ensures.ran (YieldsList-from_slice rest cc) (λ x b q called. search (rules, tests)) in
    let counted : c.map.result ≡ option_map (λ j. r + j) c.position.result = search rules in
    let none_passed : r + 0 ≡ r = omega arith in
    counted ∙ ap (option_map (λ j. r + j)) (found ∙ position_from-zero (is_node p r t) rest) ∙ sym (node_position p r t r 0 rest) ∙ ap (λ k. node_from k p r t rest) none_passed
