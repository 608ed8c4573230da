-- Priorities: what their test means, and where the order of a place is. Assumes nothing.
use Rattle.std.proofs.Common.{◌≡◌, ℕ, zero, suc, ◌-◌, ◌<◌, ◌≤◌, true, eqb, List, [], map, length, get_or, Bor, slice_index_or, None, Some, Option, subst, sym, refl, ap, ◌∙◌, arith}
use Rattle.std.proofs.ByRecursion.{All-get_or}
use Rattle.std.proofs.lemmas.List.{get_or_past, get_or-map, length-map}
use Rattle.std.proofs.lemmas.Bool.{and_parts, and_from, eqb-true, eq-eqb}
use Rattle.std.specs.Option.{MatchOption}
use Rattle.std.specs.Slice.{IsItemAt}
use Rattle.std.specs.List.{list_all}
use Rattle.market.specs.declared.agent.Agent.{Agent}
use Rattle.market.specs.declared.place.Place.{Place}
use Rattle.market.specs.Data.{OrderOf}
use Rattle.market.specs.Rows.{PlaceIn}
use Rattle.succession.specs.Orders.{is_order}
use Rattle.succession.specs.Priorities.{order_for, are_orders, OrdersOf}
use Rattle.succession.proofs.Ordering.{order_right, order_fits}
use Rattle.succession.proofs.Scanning.{every_all, all_every}

pub orders_right : (n m : ℕ) (orders : List (List Agent)) → are_orders n m orders ≡ true → OrdersOf n m orders
orders_right n m orders e =
    let q = and_parts (eqb (length orders) m) (list_all (is_order n) orders) e in
    record { size = eqb-true (length orders) m q.0; each = every_all (is_order n) (OrderOf n) (order_right n) orders q.1 }

pub orders_fit_true : (n m : ℕ) (orders : List (List Agent)) → OrdersOf n m orders → are_orders n m orders ≡ true
orders_fit_true n m orders o = and_from _ _ (eq-eqb (length orders) m o.size) (all_every (is_order n) (OrderOf n) (order_fits n) orders o.each)

-- Each place has its order.
pub order_of_place : (n m : ℕ) (orders : List (List Agent)) → OrdersOf n m orders → (p : Place) → PlaceIn m p → OrderOf n (order_for orders p)
order_of_place n m orders o p known = go p.number known.from_one known.in_range
  where
    go : (j : ℕ) → 1 ≤ j → j ≤ m → OrderOf n (order_for orders (record { number = j }))
    go zero low high = absurd (omega arith)
    go (suc i) low high = All-get_or (OrderOf n) orders i [] (omega (arith, o.size)) o.each

-- ---- lists of the code

-- The order of a place stands at its index.
pub order_at : (X : Type 0) (f : X → List Agent) (xs : List X) (j : ℕ) (r : Option (Bor X)) (l : List Agent) → (j ≡ 0 → r ≡ None) → (0 < j → IsItemAt xs (j - 1) r) → MatchOption r (l ≡ []) (λ x. l ≡ f x.now) → l ≡ order_for (map f xs) (record { number = j })
order_at X f xs zero r l none some is = let e : r ≡ None = none refl in subst (λ o. MatchOption o (l ≡ []) (λ x. l ≡ f x.now)) e is
order_at X f xs (suc k) r l none some is = go r (some (omega arith)) is
  where
    go : (o : Option (Bor X)) → IsItemAt xs (suc k - 1) o → MatchOption o (l ≡ []) (λ x. l ≡ f x.now) → l ≡ slice_index_or (map f xs) k []
    go None at e = e ∙ sym (get_or_past (map f xs) k [] (omega (arith, length-map xs f)))
    go (Some x) at e =
        let same : suc k - 1 ≡ k = omega arith in
        e ∙ ap f (at.1 ∙ ap (λ i. get_or xs i x.now) same) ∙ sym (get_or-map f xs k x.now [] (omega (arith, at.3.0)))
