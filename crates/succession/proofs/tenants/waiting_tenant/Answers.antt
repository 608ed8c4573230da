use Rattle.std.proofs.Common.{rules, tests, ◌≡◌, Option, None, Some, Bor, refl, sym, ap, ◌∙◌}
use Rattle.std.proofs.lemmas.Iterator.{YieldsList-from_slice}
use Rattle.std.proofs.lemmas.Iterator.Search.{find_from_yields_List}
use Rattle.std.specs.Option.{option_map}
use Rattle.market.specs.declared.agent.Agent.{Agent}
use Rattle.market.specs.declared.tenant.Tenant.{Tenant}
use Rattle.succession.specs.Tenancies.{holds_still}
use Rattle.succession.proofs.Holding.{claims_found}
use Rattle.succession.proofs.tenants.waiting_tenant.Goals as goal

agent_read : (o : Option (Bor Tenant)) → option_map {U = Agent} (λ t. t.now.agent) o ≡ option_map (λ t. t.agent) (option_map (λ t. t.now) o)
agent_read None = refl
agent_read (Some t) = refl

pub returns : goal.returns
returns c =
    let A = c.args.row.now in
    let p = c.args.place in
    let tenants = c.args.tenants.now in
    let found = find_from_yields_List (holds_still A p) _ _ _ c.find.ensures.ran (YieldsList-from_slice tenants cc) (λ x b q called. search (rules, tests)) in
    let read : c.map.result ≡ option_map (λ t. t.now.agent) c.find.result = search rules in
    read ∙ agent_read c.find.result ∙ ap (option_map (λ t. t.agent)) found ∙ sym (claims_found A p tenants)
