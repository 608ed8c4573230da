-- Rankings: what is better and what is worse.
use Rattle.std.specs.Prelude.{◌≡◌, ℕ, suc, ◌<◌, ◌≤◌, Bool, false, cond, List, [], ◌∷◌, Some, None, Option, ◌≢◌}
use Rattle.std.specs.List.{slice_get}
use Rattle.market.specs.declared.agent.Agent.{Agent}
use Rattle.market.specs.declared.place.Place.{Place}
use Rattle.trading.specs.Economies.{Group}
use Rattle.trading.specs.Rooms.{same_place}

-- A ranking: places, the best first.
abbrev pub Ranking : Type 0
Ranking = List Place

-- A profile: a ranking for each agent.
abbrev pub Profile : Type 0
Profile = Agent → Ranking

-- Two profiles differ in the rankings of a group alone.
abbrev pub DifferWithin : Group → Profile → Profile → Type 0
DifferWithin G R S = (a : Agent) → G a ≡ false → S a ≡ R a

-- Two profiles differ in the ranking of one agent alone.
abbrev pub DifferAt : Agent → Profile → Profile → Type 0
DifferAt i R S = (a : Agent) → (a ≢ i) → S a ≡ R a

-- A seat is the place p.
abbrev pub is_place : Place → Option Place → Bool
is_place p None = false
is_place p (Some q) = same_place p q

-- How far down a ranking a seat stands: the listed places in their sequence, then nothing, then every place that is not listed.
abbrev pub rank : Ranking → Option Place → ℕ
rank [] None = 0
rank [] (Some p) = 1
rank (q ∷ qs) x = cond (is_place q x) 0 (suc (rank qs x))

-- By a ranking x is better than y.
abbrev pub Better : Ranking → Option Place → Option Place → Type 0
Better r x y = rank r x < rank r y

-- By a ranking x is worse than y: y is better.
abbrev pub Worse : Ranking → Option Place → Option Place → Type 0
Worse r x y = Better r y x

-- By a ranking x is at least as good as y: it is not worse.
abbrev pub AtLeast : Ranking → Option Place → Option Place → Type 0
AtLeast r x y = rank r x ≤ rank r y

-- A place stands in a ranking.
abbrev pub Listed : Ranking → Place → Type 0
Listed r p = (i : ℕ) × (slice_get r i ≡ Some p)

-- A place stands in a ranking, and the place q only later or not at all.
abbrev pub ListedBefore : Ranking → Place → Place → Type 0
ListedBefore r p q = (i : ℕ) × (slice_get r i ≡ Some p) × ((j : ℕ) → slice_get r j ≡ Some q → i < j)

-- What is better, in words: a listed place is better than every later one, than every unlisted one and than nothing, and nothing is better than an unlisted place.
abbrev pub Preferred : Ranking → Option Place → Option Place → Type 0
Preferred r (Some p) (Some q) = ListedBefore r p q
Preferred r (Some p) None = Listed r p
Preferred r None (Some q) = Listed r q → ⊥
Preferred r None None = ⊥
