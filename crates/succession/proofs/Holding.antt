-- Tenants: what their test means, and who claims by them. Assumes nothing.
use Rattle.std.proofs.Common.{◌≡◌, ℕ, zero, suc, true, false, cond, ◌&&◌, eqb, List, [], ◌∷◌, Some, None, unwrap_or, sym, refl, ap, ◌∙◌, subst, inl, inr}
use Rattle.std.proofs.ByRecursion.{All-weaker}
use Rattle.std.proofs.lemmas.Bool.{cases_Bool, and_parts, and_from, eqb-true, eq-eqb, ne_eqb}
use Rattle.std.specs.List.{slice_get, find, AllByRecursion}
use Rattle.std.specs.Option.{option_map}
use Rattle.market.proofs.Pigeonhole.{Apart, apart}
use Rattle.market.specs.declared.agent.Agent.{Agent}
use Rattle.market.specs.declared.place.Place.{Place}
use Rattle.market.specs.declared.tenant.Tenant.{Tenant}
use Rattle.market.specs.Data.{tenant_places, TenantsOf}
use Rattle.market.specs.Distinct.{Absent}
use Rattle.market.specs.Rows.{Row, Waits, is_waiting, waits, AgentIn, PlaceIn}
use Rattle.market.specs.Rules.{Terms, Lawful}
use Rattle.succession.specs.Orders.{first_waiting}
use Rattle.succession.specs.Ranges.{agent_fits, place_fits}
use Rattle.succession.specs.Tenancies.{tenant_fits, are_tenants, tenants_at, holds_still, tenant_claims, tenancy_terms, IsTenant, TenancyOwns}
use Rattle.succession.proofs.Firsts.{none≢some, first_here, first_later, first_some, first_stays, nobody_stays}
use Rattle.succession.proofs.Layering.{Lasting, layered_lawful}
use Rattle.succession.proofs.Ordering.{keys_right, keys_fit}
use Rattle.succession.proofs.Ranging.{agent_right, agent_fits_true, place_right, place_fits_true}
use Rattle.succession.proofs.Standings.{not_waits}

-- A tenant in range.
abbrev InRange : ℕ → ℕ → Tenant → Type 0
InRange n m t = PlaceIn m t.place × AgentIn n t.agent

in_range : (n m : ℕ) (t : Tenant) → tenant_fits n m t ≡ true → InRange n m t
in_range n m t e = let q = and_parts (place_fits m t.place) (agent_fits n t.agent) e in (place_right m t.place q.0, agent_right n t.agent q.1)

fits_range : (n m : ℕ) (t : Tenant) → InRange n m t → tenant_fits n m t ≡ true
fits_range n m t h = and_from _ _ (place_fits_true m t.place h.0) (agent_fits_true n t.agent h.1)

pub tenants_right : (n m : ℕ) (tenants : List Tenant) → are_tenants n m tenants ≡ true → TenantsOf n m tenants
tenants_right n m tenants e =
    let w = keys_right (λ (t : Tenant). t.place.number) (tenant_fits n m) (InRange n m) (in_range n m) [] tenants e in
    record {
      places = All-weaker (InRange n m) (λ t. PlaceIn m t.place) (λ t h. h.0) tenants w.0;
      agents = All-weaker (InRange n m) (λ t. AgentIn n t.agent) (λ t h. h.1) tenants w.0;
      once = w.1;
    }

both : {X : Type 0} (P Q : X → Type 0) (xs : List X) → AllByRecursion P xs → AllByRecursion Q xs → AllByRecursion (λ x. P x × Q x) xs
both P Q [] a b = tt
both P Q (x ∷ xs) a b = ((a.0, b.0), both P Q xs a.1 b.1)

pub tenants_fit : (n m : ℕ) (tenants : List Tenant) → TenantsOf n m tenants → are_tenants n m tenants ≡ true
tenants_fit n m tenants t =
    keys_fit (λ (t : Tenant). t.place.number) (tenant_fits n m) (InRange n m) (fits_range n m) [] tenants (both _ _ tenants t.places t.agents) t.once

-- ---- the search

module _ (A : Row) (p : Place) (t : Tenant) (rest : List Tenant) where
  elsewhere : eqb t.place.number p.number ≡ false → tenants_at p (t ∷ rest) ≡ tenants_at p rest
  elsewhere e = ap (λ b. cond b (t.agent ∷ tenants_at p rest) (tenants_at p rest)) e

  here : eqb t.place.number p.number ≡ true → tenants_at p (t ∷ rest) ≡ t.agent ∷ tenants_at p rest
  here e = ap (λ b. cond b (t.agent ∷ tenants_at p rest) (tenants_at p rest)) e

  claim_here : eqb t.place.number p.number ≡ true → waits A t.agent ≡ true → tenant_claims (t ∷ rest) A p ≡ Some t.agent
  claim_here e w = ap (first_waiting A) (here e) ∙ first_here A t.agent (tenants_at p rest) w

  claim_left : eqb t.place.number p.number ≡ true → waits A t.agent ≡ false → tenant_claims (t ∷ rest) A p ≡ tenant_claims rest A p
  claim_left e w = ap (first_waiting A) (here e) ∙ first_later A t.agent (tenants_at p rest) w

  claim_elsewhere : eqb t.place.number p.number ≡ false → tenant_claims (t ∷ rest) A p ≡ tenant_claims rest A p
  claim_elsewhere e = ap (first_waiting A) (elsewhere e)

  claim_later : holds_still A p t ≡ false → tenant_claims (t ∷ rest) A p ≡ tenant_claims rest A p
  claim_later f =
      elim (cases_Bool (eqb t.place.number p.number)) [
        | inl e ↦ claim_left e (sym (ap (λ b. b && waits A t.agent) e) ∙ f)
        | inr e ↦ claim_elsewhere e
      ]

-- The claim is that of the first tenant that holds the place still.
pub claims_found : (A : Row) (p : Place) (tenants : List Tenant) → tenant_claims tenants A p ≡ option_map (λ t. t.agent) (find (holds_still A p) tenants)
claims_found A p [] = refl
claims_found A p (t ∷ rest) =
    elim (cases_Bool (holds_still A p t)) [
      | inl e ↦
          let q = and_parts (eqb t.place.number p.number) (waits A t.agent) e in
          claim_here A p t rest q.0 q.1 ∙ sym (ap (λ b. option_map (λ x. x.agent) (cond b (Some t) (find (holds_still A p) rest))) e)
      | inr e ↦ claim_later A p t rest e ∙ claims_found A p rest ∙ sym (ap (λ b. option_map (λ x. x.agent) (cond b (Some t) (find (holds_still A p) rest))) e)
    ]

-- ---- the laws

pub tenants_last : (tenants : List Tenant) → Lasting (tenant_claims tenants)
tenants_last tenants = record {
  waits = λ A p a e. (first_some A (tenants_at p tenants) a e).waits;
  stays = λ A B p a more e w. first_stays A B more (tenants_at p tenants) a e w;
  none = λ A B p more e. nobody_stays A B more (tenants_at p tenants) e;
}

pub tenancy_lawful : (T : Terms) (tenants : List Tenant) → Lawful T → Lawful (tenancy_terms T tenants)
tenancy_lawful T tenants lawful = layered_lawful T (tenant_claims tenants) lawful (tenants_last tenants)

-- ---- in the words of the description

-- The one tenant of a place claims it if it waits.
tenant_claims_holds : (A : Row) (p : Place) (tenants : List Tenant) → Apart (tenant_places tenants) → (i : ℕ) (t : Tenant) → slice_get tenants i ≡ Some t → t.place ≡ p → Waits A t.agent → tenant_claims tenants A p ≡ Some t.agent
tenant_claims_holds A p [] one i t e at w = absurd (none≢some t e)
tenant_claims_holds A p (s ∷ rest) one zero t e at w =
    let same : s ≡ t = cc in
    claim_here A p s rest (eq-eqb _ _ (ap (λ x. x.place.number) same ∙ ap (λ x. x.number) at)) (ap (λ x. waits A x.agent) same ∙ ap is_waiting w) ∙ ap (λ x. Some x.agent) same
tenant_claims_holds A p (s ∷ rest) one (suc i) t e at w =
    claim_elsewhere A p s rest (ne_eqb _ _ (λ same. absent_nth s.place.number rest i t e one.0 (ap (λ x. x.number) at ∙ sym same)))
    ∙ tenant_claims_holds A p rest one.1 i t e at w
  where
    absent_nth : (x : ℕ) (ts : List Tenant) (i : ℕ) (t : Tenant) → slice_get ts i ≡ Some t → Absent x (tenant_places ts) → t.place.number ≡ x → ⊥
    absent_nth x [] i t e a same = none≢some t e
    absent_nth x (s ∷ ts) zero t e a same = let alike : s ≡ t = cc in a.0 (ap (λ y. y.place.number) alike ∙ same)
    absent_nth x (s ∷ ts) (suc i) t e a same = absent_nth x ts i t e a.1 same

-- Where no tenant of a place waits, nobody claims it.
nobody_claims : (A : Row) (p : Place) (tenants : List Tenant) → ((a : Agent) → IsTenant tenants p a → Waits A a → ⊥) → tenant_claims tenants A p ≡ None
nobody_claims A p [] none = refl
nobody_claims A p (s ∷ rest) none =
    let later = nobody_claims A p rest (λ a t. none a (record { index = suc t.index; tenant = t.tenant; there = t.there; place = t.place; agent = t.agent })) in
    elim (cases_Bool (eqb s.place.number p.number)) [
      | inl e ↦
          let first : IsTenant (s ∷ rest) p s.agent = record { index = 0; tenant = s; there = refl; place = ap (λ (k : ℕ). record { number = k }) (eqb-true _ _ e); agent = refl } in
          claim_left A p s rest e (not_waits A s.agent (none s.agent first)) ∙ later
      | inr e ↦ claim_elsewhere A p s rest e ∙ later
    ]

pub tenancy_owns : (T : Terms) (tenants : List Tenant) → TenantsOf T.agents T.places tenants → TenancyOwns T tenants
tenancy_owns T tenants right A p = record {
  tenant = λ a t w.
      ap (λ o. unwrap_or o (T.owner A p)) (tenant_claims_holds A p tenants (apart (tenant_places tenants) right.once) t.index t.tenant t.there t.place (subst (Waits A) (sym t.agent) w))
      ∙ t.agent;
  below = λ none. ap (λ o. unwrap_or o (T.owner A p)) (nobody_claims A p tenants none);
}
