-- What the calls that only read a round answer: a standing, the listing and the audit.
use Rattle.std.specs.Prelude.{ℕ, suc, not, List, [], ◌∷◌, ◌++◌, length, drop, Some, None, decimal, Option, Result, nat_le}
use Rattle.market.specs.declared.agent.Agent.{Agent}
use Rattle.market.specs.declared.place.Place.{Place}
use Rattle.market.specs.declared.refusal.Refusal.{Refusal}
use Rattle.market.specs.declared.standing.Standing.{Standing}
use Rattle.market.specs.declared.standing.Standing.TheVariants.{Waiting, Placed, Unplaced}
use Rattle.market.specs.Rows.{Row, standing}
use Rattle.market.specs.Rules.{Terms}
use Rattle.round_law.specs.declared.member.Member.{Member}
use Rattle.round_law.specs.Choosing.{perhaps}
use Rattle.round_law.specs.Refusing.{in_range, unless}
use Rattle.round_law.specs.States.{State, is_blank}
use Rattle.round_law.specs.Steps.{answered}

-- STANDINGS

-- Why the standing of an agent is refused.
abbrev pub standing_refusal : Terms → State → Agent → Option Refusal
standing_refusal T s a = unless (not (is_blank s.phase)) Refusal.Phase (unless (in_range 1 T.agents a.number) Refusal.Agent None)

-- The standing of an agent.
abbrev pub standing_answer : Terms → State → Agent → Result Standing Refusal
standing_answer T s a = answered (standing_refusal T s a) (standing s.row a)

-- THE LISTING

-- How a standing is written: the place, 0 for nothing, and a hyphen for waiting.
abbrev pub standing_text : Standing → List ℕ
standing_text Waiting = 45 ∷ []
standing_text (Placed p) = decimal p.number
standing_text Unplaced = 48 ∷ []

-- A line of the listing: the agent, a space, its standing, and a line feed.
abbrev pub listing_line : ℕ → Standing → List ℕ
listing_line k x = decimal k ++ 32 ∷ (standing_text x ++ 10 ∷ [])

-- The lines of agent k and the agents after it.
abbrev pub listing_from : ℕ → Row → List ℕ
listing_from k [] = []
listing_from k (x ∷ A) = listing_line k x ++ listing_from (suc k) A

-- The listing: one line for each agent, in ascending sequence.
abbrev pub listing_text : State → List ℕ
listing_text s = listing_from 1 s.row

-- THE AUDIT

-- How a seat is written: the place, or 0 for nothing.
abbrev pub seat_text : Option Place → List ℕ
seat_text None = 48 ∷ []
seat_text (Some p) = decimal p.number

-- A member of a cycle: a space, the agent, >, and its seat.
abbrev pub member_text : Member → List ℕ
member_text m = 32 ∷ (decimal m.agent.number ++ 62 ∷ seat_text m.place)

-- The members of a cycle, one after another.
abbrev pub members_text : List Member → List ℕ
members_text [] = []
members_text (m ∷ ms) = member_text m ++ members_text ms

-- A line of the audit: the number of the cycle, a colon, its members, and a line feed.
abbrev pub audit_line : ℕ → List Member → List ℕ
audit_line k ms = decimal k ++ 58 ∷ (members_text ms ++ 10 ∷ [])

-- The lines of cycle k and the cycles after it.
abbrev pub audit_from : ℕ → List (List Member) → List ℕ
audit_from k [] = []
audit_from k (ms ∷ cycles) = audit_line k ms ++ audit_from (suc k) cycles

-- The audit: one line for each cycle, in the sequence in which they traded.
abbrev pub audit_text : State → List ℕ
audit_text s = audit_from 1 s.cycles

-- TEXTS IN A BUFFER

-- Why a text is not written into a buffer.
abbrev pub text_refusal : State → List ℕ → List ℕ → Option Refusal
text_refusal s text buffer = unless (not (is_blank s.phase)) Refusal.Phase (unless (nat_le (length text) (length buffer)) Refusal.Buffer None)

-- The answer is the length of the text.
abbrev pub text_answer : State → List ℕ → List ℕ → Result ℕ Refusal
text_answer s text buffer = answered (text_refusal s text buffer) (length text)

-- What the buffer holds then: the text at its beginning and after it what was there, or all as it was.
abbrev pub buffer_after : State → List ℕ → List ℕ → List ℕ
buffer_after s text buffer = perhaps (text ++ drop (length text) buffer) (λ reason. buffer) (text_refusal s text buffer)
