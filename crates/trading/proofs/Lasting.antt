-- Two cycles of one row without a common agent: each outlasts the other, and the sequence of their trades does not matter.
use Rattle.std.proofs.Common.{◌≡◌, true, false, cond, List, sym, refl, ap, ◌∙◌, inl, inr}
use mathlib.Core.Path.{fun_ext}
use Rattle.std.proofs.lemmas.Bool.{both_ways, cases_Bool}
use Rattle.market.specs.declared.agent.Agent.{Agent}
use Rattle.market.specs.Rows.{Row, Waits}
use Rattle.market.specs.Rules.{Lawful}
use Rattle.trading.specs.Economies.{Economy, terms_of, RowIn}
use Rattle.trading.specs.Rankings.{Profile}
use Rattle.trading.specs.Trades.{next, trade}
use Rattle.trading.specs.Cycles.{among, Disjoint, Cycle}
use Rattle.trading.proofs.Agents.{all_among}
use Rattle.trading.proofs.Circles.{without, rest_waits, next_kept, groups_commute}
use Rattle.trading.proofs.Cycles.{linked_same, cycle_linked, cycle_different, linked_cycle, cycle_circles}

turned : (c d : List Agent) → Disjoint c d → Disjoint d c
turned c d apart a m = elim (cases_Bool (among c a)) [ inl n ↦ absurd (both_ways (among d a) (apart a n) m) | inr n ↦ n ]

without_disjoint : (c d : List Agent) → Disjoint c d → without (among d) (among c) ≡ among c
without_disjoint c d apart = fun_ext (λ a. elim (cases_Bool (among c a)) [
  | inl m ↦ rw (apart a m)
  | inr m ↦ rw m (elim (among d a) as (λ t. cond t false false ≡ false) [ true ↦ refl | false ↦ refl ])
])

module _ {M : Economy} {R : Profile} {A : Row} {c d : List Agent} (law : Lawful (terms_of M)) (proper : RowIn M A) (y : Cycle M R A c) (z : Cycle M R A d) (apart : Disjoint c d) where
  left : (a : Agent) → among c a ≡ true → without (among d) (among c) a ≡ true
  left a m = rw (apart a m) m

  pub cycle_lasts : Cycle M R (trade M R A (among d)) c
  cycle_lasts = linked_cycle (cycle_different y)
      (all_among (Waits (trade M R A (among d))) c (λ a m. rest_waits law proper (cycle_circles y) (cycle_circles z) a (left a m)))
      (linked_same (next M R A) (next M R (trade M R A (among d))) c (λ a m. next_kept law proper (cycle_circles y) (cycle_circles z) a (left a m)) (cycle_linked y))

  pub cycles_commute : trade M R (trade M R A (among d)) (among c) ≡ trade M R (trade M R A (among c)) (among d)
  cycles_commute = ap (trade M R (trade M R A (among d))) (sym (without_disjoint c d apart))
      ∙ groups_commute law proper (cycle_circles y) (cycle_circles z)
      ∙ ap (trade M R (trade M R A (among c))) (without_disjoint d c (turned c d apart))
