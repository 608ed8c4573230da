-- Refusals: why a call is refused, the first reason that applies.
use Rattle.std.specs.Prelude.{ℕ, Bool, true, false, cond, not, ◌&&◌, List, [], ◌∷◌, length, is_some, Some, None, Option, ◌==◌, nat_le}
use Rattle.market.specs.declared.agent.Agent.{Agent}
use Rattle.market.specs.declared.place.Place.{Place}
use Rattle.market.specs.declared.refusal.Refusal.{Refusal}
use Rattle.market.specs.Rows.{waits}
use Rattle.market.specs.Rules.{Terms}
use Rattle.trading.specs.Rankings.{Ranking}
use Rattle.trading.specs.Rooms.{same_place}
use Rattle.round_law.specs.Calls.{Call, OPEN, FILE, CLOSE, TRADE, FINISH}
use Rattle.round_law.specs.Choosing.{cycle_of}
use Rattle.round_law.specs.States.{State, economy_of, profile, is_blank, is_filing, is_trading}

-- A number is in a range.
abbrev pub in_range : ℕ → ℕ → ℕ → Bool
in_range low high x = nat_le low x && nat_le x high

-- Each element of a list passes a test.
abbrev pub all_of : {X : Type 0} → (X → Bool) → List X → Bool
all_of test [] = true
all_of test (x ∷ xs) = test x && all_of test xs

-- A place is one of the places 1 to m.
abbrev pub place_known : ℕ → Place → Bool
place_known m p = in_range 1 m p.number

-- A list has a place.
abbrev pub lists : Ranking → Place → Bool
lists [] p = false
lists (q ∷ r) p = cond (same_place q p) true (lists r p)

-- No place stands twice in a list.
abbrev pub none_twice : Ranking → Bool
none_twice [] = true
none_twice (p ∷ r) = not (lists r p) && none_twice r

-- The numbers of agents and places are in range, and those of the rule.
abbrev pub sizes_fit : Terms → ℕ → ℕ → Bool
sizes_fit T n m = (in_range 1 200 n && in_range 1 40 m) && (n == T.agents && m == T.places)

-- A check: the reason where it fails, and else what the other checks say.
abbrev pub unless : Bool → Refusal → Option Refusal → Option Refusal
unless fine reason others = cond fine others (Some reason)

-- Why OPEN is refused.
abbrev pub open_refusal : Terms → State → ℕ → List ℕ → Option Refusal
open_refusal T s n capacities =
    unless (is_blank s.phase) Refusal.Phase
    (unless (sizes_fit T n (length capacities)) Refusal.Sizes
    (unless (all_of (in_range 1 200) capacities) Refusal.Capacity None))

-- Why FILE is refused.
abbrev pub file_refusal : Terms → State → Agent → Ranking → Option Refusal
file_refusal T s a r =
    unless (is_filing s.phase) Refusal.Phase
    (unless (in_range 1 T.agents a.number) Refusal.Agent
    (unless (nat_le (length r) T.places) Refusal.Length
    (unless (all_of (place_known T.places) r) Refusal.Place
    (unless (none_twice r) Refusal.Repeat None))))

-- Why CLOSE is refused.
abbrev pub close_refusal : State → Option Refusal
close_refusal s = unless (is_filing s.phase) Refusal.Phase None

-- Why TRADE is refused.
abbrev pub trade_refusal : Terms → State → Agent → Option Refusal
trade_refusal T s a =
    unless (is_trading s.phase) Refusal.Phase
    (unless (in_range 1 T.agents a.number) Refusal.Agent
    (unless (waits s.row a) Refusal.Departed
    (unless (is_some (cycle_of (economy_of T s) (profile s) s.row a)) Refusal.Cycle None)))

-- Why FINISH is refused.
abbrev pub finish_refusal : State → Option Refusal
finish_refusal s = unless (is_trading s.phase) Refusal.Phase None

-- Why a call is refused, if it is.
abbrev pub refusal : Terms → State → Call → Option Refusal
refusal T s (OPEN n capacities) = open_refusal T s n capacities
refusal T s (FILE a r) = file_refusal T s a r
refusal T s CLOSE = close_refusal s
refusal T s (TRADE a) = trade_refusal T s a
refusal T s FINISH = finish_refusal s
