-- What a market that a file says satisfies. Assumes nothing.
use Rattle.std.proofs.Common.{◌≡◌, ℕ, suc, ◌≤◌, cond, eqb, List, [], ◌∷◌, map, length, drop, sym, refl, ap, ◌∙◌, subst, inl, inr, map-id, arith}
use mathlib.Core.List.{map-map}
use Rattle.std.proofs.ByRecursion.{All-weaker, All-map}
use Rattle.std.proofs.lemmas.List.{length-map}
use Rattle.std.proofs.lemmas.Bool.{cond-false, ne_eqb}
use Rattle.std.specs.List.{AllByRecursion}
use Rattle.market.specs.declared.agent.Agent.{Agent}
use Rattle.market.specs.declared.place.Place.{Place}
use Rattle.market.specs.declared.tenant.Tenant.{Tenant}
use Rattle.market.specs.Data.{agent_numbers, place_numbers, OrderOf, RankingOf, TreeOf, TenantsOf}
use Rattle.market.specs.Distinct.{Distinct}
use Rattle.market.specs.Rows.{AgentIn, PlaceIn}
use Rattle.market.proofs.Pigeonhole.{UpTo}
use Rattle.market_lines.specs.declared.kind.Kind.{Kind}
use Rattle.market_lines.specs.declared.kind.Kind.TheVariants as kind
use Rattle.market_file.specs.declared.form.Form.{Form}
use Rattle.market.specs.declared.sizes.Sizes.{Sizes}
use Rattle.market_file.specs.Bounds.{lowest, highest, InRange}
use Rattle.market_file.specs.Contents.{kinds_of, priorities_due, RightContents}
use Rattle.market_file.specs.Ledgers.{node_in, blank}
use Rattle.market_reader.specs.Filling.{Entry, of_kind, agents_in, places_in, tenant_in, capacity_in, order_in, ranking_in}
use Rattle.market_reader.specs.Held.{Held, Orders}
use Rattle.market_reader.specs.Keeping.{Records, OrdersHeld, Holds, OrdersRight, SoundMarket}
use Rattle.market_reader.proofs.Holding.{about_each}
use Rattle.market_reader.proofs.Recording.{Fits, fits_entries, fits_each, said, as_many}
use Rattle.market_reader.proofs.RightNames.{Rightly, named_each, about_different, nodes_right}
use Rattle.market_reader.proofs.Tables.{all_entries, all_told}

-- ---- numbers as agents and places

-- All numbers of a line from place j on, where they count from 1 to n.
all_range : (k : Kind) (z : Sizes) (n j : ℕ) (ns : List ℕ) → ((i : ℕ) → j ≤ i → (1 ≤ lowest k i) × (highest k z i ≤ n)) → InRange k z j ns → AllByRecursion (UpTo n) ns
all_range k z n j [] h r = tt
all_range k z n j (x ∷ ns) h r =
    let here = h j (omega arith) in
    ((omega (arith, here.0, r.0), omega (arith, here.1, r.1)), all_range k z n (suc j) ns (λ i l. h i (omega arith)) r.2)

agents_in_range : (n : ℕ) (ns : List ℕ) → AllByRecursion (UpTo n) ns → AllByRecursion (AgentIn n) (agents_in ns)
agents_in_range n [] a = tt
agents_in_range n (x ∷ ns) a = (record { from_one = a.0.0; in_range = a.0.1 }, agents_in_range n ns a.1)

places_in_range : (m : ℕ) (ns : List ℕ) → AllByRecursion (UpTo m) ns → AllByRecursion (PlaceIn m) (places_in ns)
places_in_range m [] a = tt
places_in_range m (x ∷ ns) a = (record { from_one = a.0.0; in_range = a.0.1 }, places_in_range m ns a.1)

numbers_of_agents : (ns : List ℕ) → agent_numbers (agents_in ns) ≡ ns
numbers_of_agents ns = map-map (λ (a : Agent). a.number) (λ n. record { number = n }) ns ∙ map-id ns

numbers_of_places : (ns : List ℕ) → place_numbers (places_in ns) ≡ ns
numbers_of_places ns = map-map (λ (p : Place). p.number) (λ n. record { number = n }) ns ∙ map-id ns

order_of : (n : ℕ) (ns : List ℕ) → length ns ≡ n → AllByRecursion (UpTo n) ns → Distinct ns → OrderOf n (agents_in ns)
order_of n ns size range once = record {
  size = length-map ns (λ x. record { number = x }) ∙ size;
  known = agents_in_range n ns range;
  once = subst Distinct (sym (numbers_of_agents ns)) once;
}

-- ---- the lines of each kind

capacity_right : (z : Sizes) (ns : List ℕ) → Fits z kind.Seats ns → (1 ≤ capacity_in ns) × (capacity_in ns ≤ 200)
capacity_right z [] f = absurd (omega (arith, f.0.0))
capacity_right z (p ∷ []) f = absurd (omega (arith, f.0.0))
capacity_right z (p ∷ c ∷ ns) f = (f.1.2.0, f.1.2.1)

queue_right : (z : Sizes) (ns : List ℕ) → Fits z kind.Queue ns → Distinct ns → OrderOf z.agents (agents_in ns)
queue_right z ns f once =
    order_of z.agents ns (omega (arith, f.0.0, f.0.1)) (all_range kind.Queue z z.agents 1 ns (λ i l. (omega arith, omega arith)) f.1) once

-- From place 2 on, the first number's range is past.
past_first : (i x y : ℕ) → 2 ≤ i → cond (eqb i 1) x y ≡ y
past_first i x y h = cond-false (eqb i 1) x y (ne_eqb i 1 (λ e. omega arith))

priorities_right : (z : Sizes) (ns : List ℕ) → Fits z kind.Priorities ns → Distinct (drop 1 ns) → OrderOf z.agents (order_in ns)
priorities_right z [] f once = absurd (omega (arith, f.0.0))
priorities_right z (p ∷ ns) f once =
    order_of z.agents ns (omega (arith, f.0.0, f.0.1)) (all_range kind.Priorities z z.agents 2 ns (λ i l. (omega arith, omega (arith, past_first i z.places z.agents l))) f.1.2) once

ranking_right : (z : Sizes) (ns : List ℕ) → Fits z kind.Ranking ns → Distinct (drop 1 ns) → RankingOf z.places (ranking_in ns)
ranking_right z [] f once = absurd (omega (arith, f.0.0))
ranking_right z (a ∷ ns) f once = record {
  known = places_in_range z.places ns (all_range kind.Ranking z z.places 2 ns (λ i l. (omega arith, omega (arith, past_first i z.agents z.places l))) f.1.2);
  once = subst Distinct (sym (numbers_of_places ns)) once;
}

tenant_place : (z : Sizes) (ns : List ℕ) → Fits z kind.Tenant ns → PlaceIn z.places (tenant_in ns).place
tenant_place z [] f = absurd (omega (arith, f.0.0))
tenant_place z (p ∷ ns) f = record { from_one = f.1.0; in_range = f.1.1 }

tenant_agent : (z : Sizes) (ns : List ℕ) → Fits z kind.Tenant ns → AgentIn z.agents (tenant_in ns).agent
tenant_agent z [] f = absurd (omega (arith, f.0.0))
tenant_agent z (p ∷ []) f = absurd (omega (arith, f.0.0))
tenant_agent z (p ∷ a ∷ ns) f = record { from_one = f.1.2.0; in_range = f.1.2.1 }

-- Two facts of each element, and what follows of each from both.
all_both : {X : Type 0} (P Q R : X → Type 0) → ((x : X) → P x → Q x → R x) → (xs : List X) → AllByRecursion P xs → AllByRecursion Q xs → AllByRecursion R xs
all_both P Q R one [] p q = tt
all_both P Q R one (x ∷ xs) p q = (one x p.0 q.0, all_both P Q R one xs p.1 q.1)

-- ---- the market

module _ (f : Form) (ls : List (List ℕ)) (es : List Entry) (h : Held) (right : RightContents f.sizes f.contents) (each : Records f.sizes (kinds_of f.contents) ls es) (named : Rightly blank es) (holds : Holds f es h) where
  fits : (k : Kind) → AllByRecursion (Fits f.sizes k) (of_kind k es)
  fits k = fits_each f.sizes (kinds_of f.contents) ls es k each

  many : (k : Kind) → length (of_kind k es) ≡ said k f.contents
  many k = as_many f.sizes f.contents ls es k each

  capacities_right : AllByRecursion (λ c. (1 ≤ c) × (c ≤ 200)) h.capacities
  capacities_right =
      all_told (λ c. (1 ≤ c) × (c ≤ 200)) capacity_in 0 f.sizes.places (of_kind kind.Seats es) h.capacities holds.capacities
      (about_different kind.Seats refl blank es named) (about_each f ls es right each named kind.Seats (omega arith) (omega arith))
      (omega (arith, many kind.Seats, right.seats))
      (All-weaker (Fits f.sizes kind.Seats) (λ ns. (1 ≤ capacity_in ns) × (capacity_in ns ≤ 200)) (capacity_right f.sizes) (of_kind kind.Seats es) (fits kind.Seats))

  -- Without a Q line there is a P line for each place.
  as_many_orders : of_kind kind.Queue es ≡ [] → length (of_kind kind.Priorities es) ≡ f.sizes.places
  as_many_orders none =
      let zero : f.contents.queues ≡ 0 = omega (arith, many kind.Queue, ap length none) in
      let due : priorities_due f.sizes f.contents.queues ≡ f.sizes.places = ap (priorities_due f.sizes) zero in
      omega (arith, many kind.Priorities, right.priorities, due)

  orders_right : (o : Orders) → OrdersHeld f.sizes.places es o → OrdersRight f.sizes.agents f.sizes.places o
  orders_right o (inl q) =
      let both = all_both (Fits f.sizes kind.Queue) Distinct (λ ns. OrderOf f.sizes.agents (agents_in ns)) (queue_right f.sizes) (of_kind kind.Queue es) (fits kind.Queue) (named_each kind.Queue Distinct (λ names nodes ns r. r) blank es named) in
      subst (OrdersRight f.sizes.agents f.sizes.places) (sym q.2) (subst (AllByRecursion (λ ns. OrderOf f.sizes.agents (agents_in ns))) q.1 both).0
  orders_right o (inr p) =
      let both = all_both (Fits f.sizes kind.Priorities) (λ ns. Distinct (drop 1 ns)) (λ ns. OrderOf f.sizes.agents (order_in ns)) (priorities_right f.sizes) (of_kind kind.Priorities es) (fits kind.Priorities) (named_each kind.Priorities (λ ns. Distinct (drop 1 ns)) (λ names nodes ns r. r.1) blank es named) in
      subst (OrdersRight f.sizes.agents f.sizes.places) (sym p.1.1) (
        p.1.2.entries,
        all_told (OrderOf f.sizes.agents) order_in [] f.sizes.places (of_kind kind.Priorities es) p.1.0 p.1.2
            (about_different kind.Priorities refl blank es named) (about_each f ls es right each named kind.Priorities (omega arith) (omega arith))
            (as_many_orders p.0) both,
      )

  tree_right : TreeOf f.sizes.agents f.sizes.places (map node_in (of_kind kind.Heir es))
  tree_right = record {
    few = omega (arith, length-map (of_kind kind.Heir es) node_in, many kind.Heir, right.heirs);
    right = nodes_right f.sizes blank es named (fits_entries f.sizes (kinds_of f.contents) ls es kind.Heir each);
  }

  tenants_right : TenantsOf f.sizes.agents f.sizes.places (map tenant_in (of_kind kind.Tenant es))
  tenants_right = record {
    places = All-map (λ t. PlaceIn f.sizes.places t.place) tenant_in (of_kind kind.Tenant es) (All-weaker (Fits f.sizes kind.Tenant) (λ ns. PlaceIn f.sizes.places (tenant_in ns).place) (tenant_place f.sizes) (of_kind kind.Tenant es) (fits kind.Tenant));
    agents = All-map (λ t. AgentIn f.sizes.agents t.agent) tenant_in (of_kind kind.Tenant es) (All-weaker (Fits f.sizes kind.Tenant) (λ ns. AgentIn f.sizes.agents (tenant_in ns).agent) (tenant_agent f.sizes) (of_kind kind.Tenant es) (fits kind.Tenant));
    once = subst Distinct (sym (map-map (λ (t : Tenant). t.place.number) tenant_in (of_kind kind.Tenant es))) (about_different kind.Tenant refl blank es named);
  }

  rankings_right : AllByRecursion (RankingOf f.sizes.places) h.rankings
  rankings_right =
      all_entries (RankingOf f.sizes.places) ranking_in [] f.sizes.agents (of_kind kind.Ranking es) h.rankings holds.rankings
      (all_both (Fits f.sizes kind.Ranking) (λ ns. Distinct (drop 1 ns)) (λ ns. RankingOf f.sizes.places (ranking_in ns)) (ranking_right f.sizes) (of_kind kind.Ranking es) (fits kind.Ranking) (named_each kind.Ranking (λ ns. Distinct (drop 1 ns)) (λ names nodes ns r. r.1) blank es named))
      (record { known = tt; once = tt })

  pub sound_of : (1 ≤ f.sizes.agents) × (f.sizes.agents ≤ 200) → (1 ≤ f.sizes.places) × (f.sizes.places ≤ 40) → SoundMarket h
  sound_of agents places = record {
    agents = subst (λ n. (1 ≤ n) × (n ≤ 200)) (sym holds.agents) agents;
    places = subst (λ m. (1 ≤ m) × (m ≤ 40)) (sym holds.places) places;
    seats = holds.capacities.entries ∙ sym holds.places;
    capacities = capacities_right;
    orders = rw (holds.agents, holds.places) (orders_right h.orders holds.orders);
    nodes = rw (holds.agents, holds.places, holds.nodes) tree_right;
    tenants = rw (holds.agents, holds.places, holds.tenants) tenants_right;
    ranked = holds.rankings.entries ∙ sym holds.agents;
    rankings = rw holds.places rankings_right;
  }
