-- The laws of rounds: each is proved for every rule that keeps the two laws of rules, and over all histories.
use Rattle.std.specs.Prelude.{◌≡◌, ℕ, ◌≤◌, ◌⊎◌, List, length, Some, None, Err, ◌≢◌}
use Rattle.market.specs.declared.agent.Agent.{Agent}
use Rattle.market.specs.declared.refusal.Refusal.{Refusal}
use Rattle.market.specs.Rows.{Row, Waits}
use Rattle.market.specs.Rules.{Terms, Lawful}
use Rattle.trading.specs.Allocations.{seat, AllocationIn, OthersWorse}
use Rattle.trading.specs.Economies.{Economy, economy, SameRule}
use Rattle.trading.specs.Rankings.{Ranking, Profile, Better, DifferAt}
use Rattle.trading.specs.Stages.{Staged, OnNoCycle}
use Rattle.round_law.specs.declared.phase.Phase.TheVariants.{Blank, Trading, Ended}
use Rattle.round_law.specs.Calls.{Call, OPEN, FILE}
use Rattle.round_law.specs.Contents.{MarketFor, Fileable, Filed, Contents, PhasesOf}
use Rattle.round_law.specs.Histories.{after, accepted, closing_ranking, opening, Reached}
use Rattle.round_law.specs.Records.{Recorded}
use Rattle.round_law.specs.Refusing.{refusal}
use Rattle.round_law.specs.States.{State, economy_of, profile, phase_number}
use Rattle.round_law.specs.Steps.{step, trade_answer}
use Rattle.round_law.specs.Texts.{listing_text, audit_text}
use Rattle.round_law.specs.Trades.{Traded, Finished}

-- THE LAW OF ROUNDS

-- OPEN was accepted with n agents and these capacities.
abbrev pub OpenedWith : ℕ → List ℕ → Terms → List Call → Type 0
OpenedWith n capacities T h = opening (accepted T h) ≡ Some (OPEN n capacities)

-- All rankings are the same in two profiles.
abbrev pub SameRankings : Profile → Profile → Type 0
SameRankings R S = (a : Agent) → R a ≡ S a

-- Two rows give every agent the same seat, and are the same.
pub record SameOutcome (E F : Row) : Type 0 where
  pub seats : (a : Agent) → seat E a ≡ seat F a
  pub rows : E ≡ F

-- What binds two rounds of one economy that ended in the rows E and F, with the rankings R and S at the closing.
pub record Bound (M : Economy) (R S : Profile) (E F : Row) : Type 0 where
  -- Under the same rankings every agent has the same seat in both, the one that the staged procedure gives it.
  pub same_seats : SameRankings R S → SameOutcome E F × Staged M R E
  -- An agent whose ranking alone differs has no better seat in the second round, by its ranking in the first.
  pub no_gain : (i : Agent) → DifferAt i R S → Better (R i) (seat F i) (seat E i) → ⊥
  -- If its seat is the same in both, so is everybody's.
  pub no_bossing : (i : Agent) → DifferAt i R S → seat F i ≡ seat E i → SameOutcome E F
  -- In each round every other allocation within the capacities is worse for at least one agent.
  pub first_best : OthersWorse M R E
  pub second_best : OthersWorse M S F

-- Two rounds X and Y under one rule, opened with the same n and the same capacities, both ended, whatever calls led there.
abbrev pub LawOfRounds : Terms → Terms → State → State → Type 0
LawOfRounds T U X Y =
    (h k : List Call) → X ≡ after T h → Y ≡ after U k → SameRule T U
    → (n : ℕ) (capacities : List ℕ) → OpenedWith n capacities T h → OpenedWith n capacities U k → X.phase ≡ Ended → Y.phase ≡ Ended
    → Bound (economy T capacities) (closing_ranking T h) (closing_ranking U k) X.row Y.row

-- The law of rounds holds under all rules.
abbrev pub RoundsAgree : Type 0
RoundsAgree = (T U : Terms) → Lawful T → Lawful U → (X Y : State) → LawOfRounds T U X Y

-- THE OUTCOME OF A ROUND

-- What the row is in which a round ended: an allocation within the capacities, that of the staged procedure, than which every other is worse for some agent.
pub record Outcome (M : Economy) (R : Profile) (E : Row) : Type 0 where
  pub allocation : AllocationIn M E
  pub staged : Staged M R E
  pub best : OthersWorse M R E

-- Every round that ended has that outcome, under the rankings at its closing.
abbrev pub LawOfOutcomes : Terms → State → Type 0
LawOfOutcomes T X =
    (h : List Call) → X ≡ after T h → (n : ℕ) (capacities : List ℕ) → OpenedWith n capacities T h → X.phase ≡ Ended
    → Outcome (economy T capacities) (closing_ranking T h) X.row

-- The law of outcomes holds under all rules.
abbrev pub OutcomesStaged : Type 0
OutcomesStaged = (T : Terms) → Lawful T → (X : State) → LawOfOutcomes T X

-- THE RECORD OF A ROUND

-- That is what a round has on record at any time.
abbrev pub LawOfRecords : Terms → State → Type 0
LawOfRecords T X =
    (h : List Call) → X ≡ after T h → (n : ℕ) (capacities : List ℕ) → OpenedWith n capacities T h
    → Recorded (economy T capacities) (closing_ranking T h) X

-- The law of records holds under all rules.
abbrev pub RecordsTrue : Type 0
RecordsTrue = (T : Terms) → Lawful T → (X : State) → LawOfRecords T X

-- TRADE AND FINISH

-- TRADE is refused with 19 exactly when the agent waits in trading and no cycle of the present row passes through it. Where one does, it departs.
pub record TradeOf (T : Terms) (s : State) (a : Agent) : Type 0 where
  pub refused : trade_answer T s a ≡ Err Refusal.Cycle → (s.phase ≡ Trading) × Waits s.row a × OnNoCycle (economy_of T s) (profile s) s.row a
  pub either : s.phase ≡ Trading → Waits s.row a → ((trade_answer T s a ≡ Err Refusal.Cycle) × OnNoCycle (economy_of T s) (profile s) s.row a) ⊎ Traded T s a

-- That is what TRADE does.
abbrev pub LawOfTrade : Terms → State → Type 0
LawOfTrade T X = Reached T X → (a : Agent) → TradeOf T X a

-- The law of TRADE holds under all rules.
abbrev pub TradesRight : Type 0
TradesRight = (T : Terms) → Lawful T → (X : State) → LawOfTrade T X

-- In trading FINISH trades cycles, each the one that the walk from the lowest waiting agent meets, until nobody waits.
abbrev pub LawOfFinish : Terms → State → Type 0
LawOfFinish T X = Reached T X → X.phase ≡ Trading → Finished T X

-- The law of FINISH holds under all rules.
abbrev pub FinishRight : Type 0
FinishRight = (T : Terms) → Lawful T → (X : State) → LawOfFinish T X

-- REFUSALS, FILING, CONTENTS AND TEXTS

-- A refused call changes nothing.
abbrev pub RefusalsKeep : Type 0
RefusalsKeep = (T : Terms) (s : State) (call : Call) (reason : Refusal) → refusal T s call ≡ Some reason → step T s call ≡ s

-- No call leads back to an earlier phase.
abbrev pub PhasesForward : Type 0
PhasesForward = (T : Terms) (s : State) (call : Call) → phase_number s.phase ≤ phase_number (step T s call).phase

-- OPEN is accepted exactly in a blank round and with a market of the rule.
abbrev pub OpenAccepted : Type 0
OpenAccepted =
    (T : Terms) (s : State) (n : ℕ) (capacities : List ℕ)
    → (refusal T s (OPEN n capacities) ≡ None → (s.phase ≡ Blank) × MarketFor T n capacities)
    × ((s.phase ≡ Blank) × MarketFor T n capacities → refusal T s (OPEN n capacities) ≡ None)

-- FILE is accepted exactly in filing, for an agent of the rule, with a ranking of some of its places.
abbrev pub FileAccepted : Type 0
FileAccepted = (T : Terms) (s : State) (a : Agent) (r : Ranking) → (refusal T s (FILE a r) ≡ None → Fileable T s a r) × (Fileable T s a r → refusal T s (FILE a r) ≡ None)

-- An accepted FILE touches the record of one agent only.
abbrev pub LawOfFiling : Terms → State → Type 0
LawOfFiling T X = Reached T X → (a : Agent) (r : Ranking) → refusal T X (FILE a r) ≡ None → Filed X (step T X (FILE a r)) a r

-- The law of FILE holds under all rules.
abbrev pub FilingRight : Type 0
FilingRight = (T : Terms) → Lawful T → (X : State) → LawOfFiling T X

-- The phase says who waits, and all that a round holds once it is open is in range.
abbrev pub LawOfContents : Terms → State → Type 0
LawOfContents T X = Reached T X → PhasesOf T X × ((X.phase ≢ Blank) → Contents T X)

-- The law of contents holds under all rules.
abbrev pub ContentsRight : Type 0
ContentsRight = (T : Terms) → Lawful T → (X : State) → LawOfContents T X

-- The listing has at most 1,400 bytes, and the audit at most 2,400.
pub record TextsFit (s : State) : Type 0 where
  pub listing : length (listing_text s) ≤ 1400
  pub audit : length (audit_text s) ≤ 2400

-- That holds at any time.
abbrev pub LawOfTexts : Terms → State → Type 0
LawOfTexts T X = Reached T X → TextsFit X

-- The law of texts holds under all rules.
abbrev pub TextsShort : Type 0
TextsShort = (T : Terms) → Lawful T → (X : State) → LawOfTexts T X
