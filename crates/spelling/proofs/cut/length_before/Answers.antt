use Rattle.std.proofs.Common.{◌≡◌, ◌≢◌, ◌∙◌, length, sym, refl, rules, tests}
use Rattle.std.proofs.lemmas.Iterator.{IsFirst-from_position, YieldsList-from_slice, index_from_first}
use Rattle.spelling.specs.Cuts.{until}
use Rattle.spelling.proofs.Cutting.{until_here, until_more}
use Rattle.spelling.proofs.cut.length_before.Goals as goal

pub returns : goal.returns
returns c =
    let at = c.args.at in
    let bs = c.args.bytes.now in
    let found = IsFirst-from_position _ _ _ (λ b. b ≡ at) (λ b. b ≢ at) c.position.ensures.ran (YieldsList-from_slice bs cc) (λ x q k. search (rules, tests)) (λ x q k. search (rules, tests)) in
    c.unwrap_or.ensures ∙ sym (index_from_first (λ l. length (until at l)) (λ b. b ≡ at) (λ b. b ≢ at) refl (until_here at) (until_more at) bs _ found)
