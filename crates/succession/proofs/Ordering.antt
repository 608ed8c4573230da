-- Orders of agents: what their test means, and who owns by them. Assumes nothing.
use Rattle.std.proofs.Common.{◌≡◌, ℕ, zero, suc, Bool, true, false, not, eqb, List, [], ◌∷◌, ◌++◌, map, length, Some, None, Option, unwrap_or, sym, refl, ap, ◌∙◌, subst, arith}
use mathlib.Core.List.{map-append}
use lib.ListN.{length-map}
use Rattle.std.proofs.ByRecursion.{All-map, All-weaker}
use Rattle.std.proofs.lemmas.Bool.{and_parts, and_from, eqb-true, eqb-false, eq-eqb, ne_eqb, not-true, not_from_false, or_from}
use Rattle.std.specs.List.{slice_get, AllByRecursion, list_any}
use Rattle.market.specs.declared.agent.Agent.{Agent}
use Rattle.market.specs.declared.place.Place.{Place}
use Rattle.market.specs.Data.{agent_numbers, OrderOf}
use Rattle.market.specs.Distinct.{Absent, DistinctAfter}
use Rattle.market.specs.Rows.{Row, Waits, AgentIn, PlaceIn}
use Rattle.market.specs.Rules.{Lawful}
use Rattle.market.proofs.Pigeonhole.{UpTo, each_there}
use Rattle.succession.specs.Orders.{same_agent, is_order, first_waiting, FirstWaiting, agents_from, nobody, owner_by, ordered_terms, OrderedOwns}
use Rattle.succession.specs.Ranges.{agent_fits}
use Rattle.succession.specs.Right.{entry_right}
use Rattle.succession.specs.Scans.{each_after}
use Rattle.succession.proofs.Firsts.{none≢some, first_none, first_some, first_front, owner_waits, owner_stays}
use Rattle.succession.proofs.Ranging.{agent_right, agent_fits_true}
use Rattle.succession.proofs.Scanning.{none_all}
use Rattle.succession.proofs.Standings.{waits_in}

-- Entries that differ in a number, their key, and that pass a test by themselves.
module _ {X : Type 0} (key : X → ℕ) (fits : X → Bool) (Fits : X → Type 0) where
  abbrev keyed : X → X → Bool
  keyed x y = eqb (key y) (key x)

  absent : (x : X) (ys : List X) → list_any (keyed x) ys ≡ false → Absent (key x) (map key ys)
  absent x ys e = All-map (λ k. k ≡ key x → ⊥) key ys (none_all (keyed x) (λ y. key y ≡ key x → ⊥) (λ y f. eqb-false (key y) (key x) f) ys e)

  not_any : (x : X) (ys : List X) → Absent (key x) (map key ys) → list_any (keyed x) ys ≡ false
  not_any x [] a = refl
  not_any x (y ∷ ys) a = or_from (keyed x y) (list_any (keyed x) ys) (ne_eqb (key y) (key x) a.0) (not_any x ys a.1)

  pub keys_right : ((x : X) → fits x ≡ true → Fits x) → (earlier xs : List X) → each_after (entry_right keyed (λ _ x. fits x)) earlier xs ≡ true → AllByRecursion Fits xs × DistinctAfter (map key earlier) (map key xs)
  keys_right one earlier [] e = (tt, tt)
  keys_right one earlier (x ∷ xs) e =
      let q = and_parts (entry_right keyed (λ _ x. fits x) earlier x) (each_after (entry_right keyed (λ _ x. fits x)) (earlier ++ x ∷ []) xs) e in
      let w = and_parts (fits x) (not (list_any (keyed x) earlier)) q.0 in
      let rest = keys_right one (earlier ++ x ∷ []) xs q.1 in
      ((one x w.0, rest.0), (absent x earlier (not-true _ w.1), subst (λ l. DistinctAfter l (map key xs)) (map-append key earlier (x ∷ [])) rest.1))

  pub keys_fit : ((x : X) → Fits x → fits x ≡ true) → (earlier xs : List X) → AllByRecursion Fits xs → DistinctAfter (map key earlier) (map key xs) → each_after (entry_right keyed (λ _ x. fits x)) earlier xs ≡ true
  keys_fit one earlier [] a d = refl
  keys_fit one earlier (x ∷ xs) a d =
      and_from _ _ (and_from _ _ (one x a.0) (not_from_false _ (not_any x earlier d.0)))
      (keys_fit one (earlier ++ x ∷ []) xs a.1 (subst (λ l. DistinctAfter l (map key xs)) (sym (map-append key earlier (x ∷ []))) d.1))

pub order_right : (n : ℕ) (order : List Agent) → is_order n order ≡ true → OrderOf n order
order_right n order e =
    let q = and_parts (eqb (length order) n) (each_after (entry_right same_agent (λ _ a. agent_fits n a)) [] order) e in
    let w = keys_right (λ (a : Agent). a.number) (agent_fits n) (AgentIn n) (agent_right n) [] order q.1 in
    record { size = eqb-true (length order) n q.0; known = w.0; once = w.1 }

pub order_fits : (n : ℕ) (order : List Agent) → OrderOf n order → is_order n order ≡ true
order_fits n order o =
    and_from _ _ (eq-eqb (length order) n o.size) (keys_fit (λ (a : Agent). a.number) (agent_fits n) (AgentIn n) (agent_fits_true n) [] order o.known o.once)

pub all_nth : {X : Type 0} (P : X → Type 0) (xs : List X) (i : ℕ) (x : X) → slice_get xs i ≡ Some x → AllByRecursion P xs → P x
all_nth P [] i x e a = absurd (none≢some x e)
all_nth P (y ∷ xs) zero x e a = let same : y ≡ x = cc in subst P same a.0
all_nth P (y ∷ xs) (suc i) x e a = all_nth P xs i x e a.1

-- In an order of all agents, the owner is the first of the order that waits.
pub order_owns : (n : ℕ) (order : List Agent) → OrderOf n order → (A : Row) (a : Agent) → length A ≡ n → Waits A a → FirstWaiting A order (owner_by n order A)
order_owns n order o A a size w = go (first_waiting A order) refl
  where
    there : (i : ℕ) × (slice_get (agent_numbers order) i ≡ Some a.number)
    there =
        each_there n (agent_numbers order) o.once (All-map (UpTo n) (λ b. b.number) order (All-weaker (AgentIn n) (λ b. UpTo n b.number) (λ b h. (h.from_one, h.in_range)) order o.known))
        (length-map order _ ∙ o.size) a.number ((waits_in A a w).0, omega (arith, (waits_in A a w).1))

    go : (r : Option Agent) → first_waiting A order ≡ r → FirstWaiting A order (owner_by n order A)
    go None e = absurd (all_nth (λ k. Waits A (record { number = k }) → ⊥) (agent_numbers order) there.0 a.number there.1 (All-map (λ k. Waits A (record { number = k }) → ⊥) (λ b. b.number) order (first_none A order e)) w)
    go (Some b) e = subst (FirstWaiting A order) (sym (ap (λ r. unwrap_or r nobody) (first_front A order (agents_from 1 n) b e))) (first_some A order b e)

pub ordered_lawful : (n m : ℕ) (order : Place → List Agent) → Lawful (ordered_terms n m order)
ordered_lawful n m order = record {
  waits = λ A a p row w known. owner_waits n (order p) A a row.size w;
  stays = λ A B p rowA rowB more known w. owner_stays n (order p) A B more w;
}

pub ordered_owns : (n m : ℕ) (order : Place → List Agent) → ((p : Place) → PlaceIn m p → OrderOf n (order p)) → OrderedOwns n m order
ordered_owns n m order right A p a row known w = order_owns n (order p) (right p known) A a row.size w
