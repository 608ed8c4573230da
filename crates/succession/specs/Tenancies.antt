-- Tenants: who claims the place that it holds.
use Rattle.std.specs.Prelude.{◌≡◌, ℕ, Bool, cond, ◌&&◌, List, [], ◌∷◌, Some, ◌==◌}
use Rattle.std.specs.List.{slice_get}
use Rattle.market.specs.declared.agent.Agent.{Agent}
use Rattle.market.specs.declared.place.Place.{Place}
use Rattle.market.specs.declared.tenant.Tenant.{Tenant}
use Rattle.market.specs.Rows.{Row, Waits, waits}
use Rattle.market.specs.Rules.{Terms}
use Rattle.succession.specs.Layers.{Claims, layered}
use Rattle.succession.specs.Orders.{first_waiting}
use Rattle.succession.specs.Ranges.{agent_fits, place_fits}
use Rattle.succession.specs.Right.{entry_right}
use Rattle.succession.specs.Scans.{each_after}

-- Two tenants have one place.
abbrev pub same_place : Tenant → Tenant → Bool
same_place s t = t.place.number == s.place.number

-- The place and the agent of a tenant are in range.
abbrev pub tenant_fits : ℕ → ℕ → Tenant → Bool
tenant_fits n m t = place_fits m t.place && agent_fits n t.agent

-- A list is one of tenants, as a test.
abbrev pub are_tenants : ℕ → ℕ → List Tenant → Bool
are_tenants n m tenants = each_after (entry_right same_place (λ earlier t. tenant_fits n m t)) [] tenants

-- The tenants of a place.
abbrev pub tenants_at : Place → List Tenant → List Agent
tenants_at p [] = []
tenants_at p (t ∷ rest) = cond (t.place.number == p.number) (t.agent ∷ tenants_at p rest) (tenants_at p rest)

-- A tenant has the place and waits.
abbrev pub holds_still : Row → Place → Tenant → Bool
holds_still A p t = t.place.number == p.number && waits A t.agent

-- A tenant of a place that waits claims it.
abbrev pub tenant_claims : List Tenant → Claims
tenant_claims tenants A p = first_waiting A (tenants_at p tenants)

-- What a tenancy means: a tenant that waits owns its place, and otherwise the rule below answers.
abbrev pub tenancy_terms : Terms → List Tenant → Terms
tenancy_terms T tenants = layered T (tenant_claims tenants)

-- An agent is a tenant of a place.
pub record IsTenant (tenants : List Tenant) (p : Place) (a : Agent) : Type 0 where
  pub index : ℕ
  pub tenant : Tenant
  pub there : slice_get tenants index ≡ Some tenant
  pub place : tenant.place ≡ p
  pub agent : tenant.agent ≡ a

-- Who owns a place: its tenant if that waits, and otherwise whom the rule below names.
pub record TenancyOwner (T : Terms) (tenants : List Tenant) (A : Row) (p : Place) : Type 0 where
  pub tenant : (a : Agent) → IsTenant tenants p a → Waits A a → (tenancy_terms T tenants).owner A p ≡ a
  pub below : ((a : Agent) → IsTenant tenants p a → Waits A a → ⊥) → (tenancy_terms T tenants).owner A p ≡ T.owner A p

-- Who owns by a tenancy, in every row and for every place.
abbrev pub TenancyOwns : Terms → List Tenant → Type 0
TenancyOwns T tenants = (A : Row) (p : Place) → TenancyOwner T tenants A p
