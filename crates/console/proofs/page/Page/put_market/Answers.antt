use Rattle.std.proofs.Common.{◌≡◌, ◌++◌, replicate, codes, ap, ◌∙◌}
use Rattle.market.specs.declared.standing.Standing.TheVariants.{Waiting}
use Rattle.market_reader.specs.Held.{held}
use Rattle.piles.specs.Piles.{pile_terms, terms_of}
use Rattle.console.specs.Printed.{pair_text, owners_text}
use Rattle.console.proofs.Joining.{onward}
use Rattle.console.proofs.Owners.{made_terms}
use Rattle.console.proofs.page.Page.put_market.Goals as goal

pub returns-clause-text : goal.returns-clause-text
returns-clause-text c =
    let h = held c.args.market.now in
    let a0 = c.args.self.now in
    let a1 = c.put_sizes.new.self in
    let T = terms_of c.unwrap-pile.result in
    let means : T ≡ pile_terms h = made_terms _ h c.pile_of.result c.pile_of.ensures.law c.unwrap-pile.ensures c.requires.sound in
    let row = c.as_slice.ensures.value ∙ c.all_wait.ensures.items ∙ ap (λ n. replicate n Waiting) c.sizes.ensures.agents in
    onward a0 a1 c.put_owners.new.self (pair_text (codes "ok") h.agents h.places) (owners_text (pile_terms h) (replicate h.agents Waiting))
    (c.put_sizes.ensures.text ∙ ap (λ n. a0 ++ pair_text (codes "ok") n c.sizes-2.result.places) c.sizes-2.ensures.agents ∙ ap (λ m. a0 ++ pair_text (codes "ok") h.agents m) c.sizes-2.ensures.places)
    (c.put_owners.ensures ∙ ap (λ A. a1 ++ owners_text T A) row ∙ ap (λ U. a1 ++ owners_text U (replicate h.agents Waiting)) means)
