-- The worked round: its rule keeps the two laws, and the law of rounds binds its histories.
use Rattle.std.proofs.Common.{◌≡◌, ℕ, zero, suc, true, [], ◌∷◌, refl, ap, arith}
use Rattle.std.proofs.lemmas.Bool.{ne_eqb}
use Rattle.market.specs.declared.agent.Agent.{Agent}
use Rattle.market.specs.Rows.{AgentIn, PlaceIn}
use Rattle.trading.specs.Cycles.{among}
use Rattle.trading.specs.Economies.{SameRule}
use Rattle.trading.specs.Examples.{agent, place}
use Rattle.trading.proofs.Priorities.{priorities_lawful}
use Rattle.round_law.specs.Examples.{turns, four, FourLawful, finishing, one_by_one, otherwise, FourAlike, FourBound, FourDiffer, FourBoundStill}
use Rattle.round_law.specs.Histories.{after, closing_ranking}
use Rattle.round_law.proofs.Law.{law_of_rounds}

in_order : (j : ℕ) → AgentIn 4 (agent j) → among (turns (place 1)) (agent j) ≡ true
in_order zero h = absurd (omega (arith, h.from_one))
in_order (suc zero) h = refl
in_order (suc (suc zero)) h = refl
in_order (suc (suc (suc zero))) h = refl
in_order (suc (suc (suc (suc zero)))) h = refl
in_order (suc (suc (suc (suc (suc k))))) h = absurd (omega (arith, h.in_range))

tenant_first : (j : ℕ) → AgentIn 4 (agent j) → among (turns (place 2)) (agent j) ≡ true
tenant_first zero h = absurd (omega (arith, h.from_one))
tenant_first (suc zero) h = refl
tenant_first (suc (suc zero)) h = refl
tenant_first (suc (suc (suc zero))) h = refl
tenant_first (suc (suc (suc (suc zero)))) h = refl
tenant_first (suc (suc (suc (suc (suc k))))) h = absurd (omega (arith, h.in_range))

pub four_lawful : FourLawful
four_lawful = priorities_lawful 4 3 turns (λ p a known. all p.number known a)
  where
    all : (j : ℕ) → PlaceIn 3 (place j) → (a : Agent) → AgentIn 4 a → among (turns (place j)) a ≡ true
    all zero known a h = absurd (omega (arith, known.from_one))
    all (suc zero) known a h = in_order a.number h
    all (suc (suc zero)) known a h = tenant_first a.number h
    all (suc (suc (suc zero))) known a h = in_order a.number h
    all (suc (suc (suc (suc k)))) known a h = absurd (omega (arith, known.in_range))

pub four_alike : FourAlike
four_alike a = go a.number
  where
    go : (j : ℕ) → closing_ranking four finishing (agent j) ≡ closing_ranking four one_by_one (agent j)
    go zero = refl
    go (suc zero) = refl
    go (suc (suc zero)) = refl
    go (suc (suc (suc zero))) = refl
    go (suc (suc (suc (suc zero)))) = refl
    go (suc (suc (suc (suc (suc k))))) =
        let n = suc (suc (suc (suc (suc k)))) in
        rw (ne_eqb 1 n (λ e. omega arith), ne_eqb 2 n (λ e. omega arith), ne_eqb 3 n (λ e. omega arith), ne_eqb 4 n (λ e. omega arith))

pub four_differ : FourDiffer
four_differ a other = go a.number (λ e. other (ap agent e))
  where
    go : (j : ℕ) → (j ≡ 4 → ⊥) → closing_ranking four otherwise (agent j) ≡ closing_ranking four finishing (agent j)
    go zero n = refl
    go (suc zero) n = refl
    go (suc (suc zero)) n = refl
    go (suc (suc (suc zero))) n = refl
    go (suc (suc (suc (suc zero)))) n = absurd (n refl)
    go (suc (suc (suc (suc (suc k))))) n =
        let n = suc (suc (suc (suc (suc k)))) in
        rw (ne_eqb 1 n (λ e. omega arith), ne_eqb 2 n (λ e. omega arith), ne_eqb 3 n (λ e. omega arith), ne_eqb 4 n (λ e. omega arith))

same_four : SameRule four four
same_four = record { agents = refl; places = refl; owner = λ A a p proper w known. refl }

pub four_bound : FourBound
four_bound = law_of_rounds four four four_lawful four_lawful (after four finishing) (after four one_by_one) finishing one_by_one refl refl same_four 4 (1 ∷ 1 ∷ 2 ∷ []) refl refl refl refl

pub four_bound_still : FourBoundStill
four_bound_still = law_of_rounds four four four_lawful four_lawful (after four finishing) (after four otherwise) finishing otherwise refl refl same_four 4 (1 ∷ 1 ∷ 2 ∷ []) refl refl refl refl
