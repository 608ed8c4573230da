-- The pile of rules of a market. Assumes nothing.
use Rattle.std.proofs.Common.{◌≡◌, ℕ, Bool, true, false, ◌&&◌, Ok, Result, sym, refl, ap, ◌∙◌, inl, inr, arith}
use Rattle.std.proofs.lemmas.Bool.{and_parts, and_from, cases_Bool}
use Rattle.market.specs.declared.refusal.Refusal.{Refusal}
use Rattle.market.specs.Data.{OrderOf}
use Rattle.market.specs.Rules.{Terms}
use Rattle.succession.specs.Orders.{is_order}
use Rattle.succession.specs.Priorities.{are_orders, OrdersOf}
use Rattle.succession.specs.Tenancies.{are_tenants}
use Rattle.succession.specs.Trees.{is_tree, tree_terms}
use Rattle.succession.proofs.Holding.{tenants_right, tenants_fit, tenancy_owns}
use Rattle.succession.proofs.Ordering.{order_right, order_fits, ordered_owns}
use Rattle.succession.proofs.Ranking.{orders_right, orders_fit_true, order_of_place}
use Rattle.succession.proofs.Treeing.{tree_right, tree_fits, tree_owns}
use Rattle.inheritance.specs.Making.{SizesRight, made_if}
use Rattle.inheritance.proofs.Makings.{ordered_right, ordered_fits}
use Rattle.market_reader.specs.Held.{Held, Orders, queue, priorities}
use Rattle.market_reader.specs.Keeping.{OrdersRight, SoundMarket}
use Rattle.piles.specs.Piles.{orders_fit, OrdersFit, orders_terms, OrdersOwn, order_terms, pile_terms, pile_fits, pile_made, RulesRight, PileOwns, PileLaw}

-- ---- what a maker answers

-- A rule that was made had right data.
pub made_ok : {X : Type 0} (b : Bool) (x d : X) → Ok x ≡ made_if b d → (b ≡ true) × (x ≡ d)
made_ok true x d e = (refl, cc)
made_ok false x d e = let z : ◌≡◌ {A = ℕ} 0 1 = cc in absurd (omega arith)

-- ---- tests and what they mean

right_orders : (n m : ℕ) (o : Orders) → OrdersFit n m o → orders_fit n m o ≡ true
right_orders n m (queue q) r = ordered_fits n m (is_order n q) (OrderOf n q) (order_fits n q) r
right_orders n m (priorities t) r = ordered_fits n m (are_orders n m t) (OrdersOf n m t) (orders_fit_true n m t) r

fit_orders : (n m : ℕ) (o : Orders) → orders_fit n m o ≡ true → OrdersFit n m o
fit_orders n m (queue q) e = ordered_right n m (is_order n q) (OrderOf n q) (order_right n q) e
fit_orders n m (priorities t) e = ordered_right n m (are_orders n m t) (OrdersOf n m t) (orders_right n m t) e

right_fits : (h : Held) → RulesRight h → pile_fits h ≡ true
right_fits h r =
    and_from _ _ (and_from _ _ (right_orders h.agents h.places h.orders r.orders) (tree_fits h.agents h.places h.nodes r.nodes)) (tenants_fit h.agents h.places h.tenants r.tenants)

fits_right : (h : Held) → pile_fits h ≡ true → RulesRight h
fits_right h e =
    let a = and_parts (orders_fit h.agents h.places h.orders && is_tree h.agents h.places h.nodes) (are_tenants h.agents h.places h.tenants) e in
    let b = and_parts (orders_fit h.agents h.places h.orders) (is_tree h.agents h.places h.nodes) a.0 in
    record {
      orders = fit_orders h.agents h.places h.orders b.0;
      nodes = tree_right h.agents h.places h.nodes b.1;
      tenants = tenants_right h.agents h.places h.tenants a.1;
    }

-- A sound market has right data.
sound_orders : (n m : ℕ) (o : Orders) → SizesRight n m → OrdersRight n m o → OrdersFit n m o
sound_orders n m (queue q) s r = record { sizes = s; all = r }
sound_orders n m (priorities t) s r = record { sizes = s; all = record { size = r.0; each = r.1 } }

sound_right : (h : Held) → SoundMarket h → RulesRight h
sound_right h s = record {
  orders = sound_orders h.agents h.places h.orders (record { some_agents = s.agents.0; most_agents = s.agents.1; some_places = s.places.0; most_places = s.places.1 }) s.orders;
  nodes = s.nodes;
  tenants = s.tenants;
}

-- ---- who owns

orders_own : (n m : ℕ) (o : Orders) → OrdersFit n m o → OrdersOwn n m o
orders_own n m (queue q) r = ordered_owns n m (λ p. q) (λ p k. r.all)
orders_own n m (priorities t) r = ordered_owns n m _ (order_of_place n m t r.all)

-- The sizes of the orders are those of the market.
order_agents : (n m : ℕ) (o : Orders) → (orders_terms n m o).agents ≡ n
order_agents n m (queue q) = refl
order_agents n m (priorities t) = refl

order_places : (n m : ℕ) (o : Orders) → (orders_terms n m o).places ≡ m
order_places n m (queue q) = refl
order_places n m (priorities t) = refl

pub pile_agents : (h : Held) → (order_terms h).agents ≡ h.agents
pile_agents h = order_agents h.agents h.places h.orders

pub pile_places : (h : Held) → (order_terms h).places ≡ h.places
pile_places h = order_places h.agents h.places h.orders

pile_owns : (h : Held) → RulesRight h → PileOwns h
pile_owns h r = record {
  tenancy = tenancy_owns (tree_terms (order_terms h) h.nodes) h.tenants (rw (pile_agents h, pile_places h) r.tenants);
  tree = tree_owns (order_terms h) h.nodes (rw (pile_agents h, pile_places h) r.nodes);
  orders = orders_own h.agents h.places h.orders r.orders;
}

-- ---- the law

pub pile_law : (h : Held) (r : Result Terms Refusal) → r ≡ pile_made h → PileLaw h r
pile_law h r e =
    let made : RulesRight h → r ≡ Ok (pile_terms h) = λ right. e ∙ ap (λ b. made_if b (pile_terms h)) (right_fits h right) in
    let right : (T : Terms) → r ≡ Ok T → RulesRight h = λ T is. fits_right h (made_ok (pile_fits h) T (pile_terms h) (sym is ∙ e)).0 in
    record {
      made = made;
      right = right;
      refused = λ wrong. e ∙ elim (cases_Bool (pile_fits h)) [ inl fits ↦ absurd (wrong (fits_right h fits)) | inr fails ↦ ap (λ b. made_if b (pile_terms h)) fails ];
      accepted = λ sound. made (sound_right h sound);
      owns = λ T is. pile_owns h (right T is);
    }
