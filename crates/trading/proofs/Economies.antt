-- The economy that a rule and its capacities make: what is lawful and proper for the rule is so for the economy.
use Rattle.std.proofs.Common.{◌≡◌, ℕ, List, length, sym, ap, ◌∙◌, subst, inl, inr, arith}
use Rattle.std.proofs.lemmas.List.{length-replicate}
use Rattle.market.specs.declared.standing.Standing.TheVariants.{Waiting}
use Rattle.market.specs.Rows.{Row, Proper}
use Rattle.market.specs.Rules.{Terms, Lawful}
use Rattle.trading.specs.Economies.{Economy, economy, terms_of, RowIn, all_waiting}
use Rattle.trading.proofs.Rows.{waiting≢placed, all_waiting_cases}

module _ (T : Terms) (capacities : List ℕ) (size : length capacities ≡ T.places) where
  pub economy_terms : terms_of (economy T capacities) ≡ T
  economy_terms = ap (λ (m : ℕ). record { agents = T.agents; places = m; owner = T.owner }) size

  pub economy_lawful : Lawful T → Lawful (terms_of (economy T capacities))
  economy_lawful law = subst Lawful (sym economy_terms) law

  pub economy_row : (A : Row) → Proper T.agents T.places A → RowIn (economy T capacities) A
  economy_row A proper = subst (λ (m : ℕ). Proper T.agents m A) (sym size) proper

  pub row_economy : (A : Row) → RowIn (economy T capacities) A → Proper T.agents T.places A
  row_economy A proper = subst (λ (m : ℕ). Proper T.agents m A) size proper

pub all_waiting_row : (M : Economy) → RowIn M (all_waiting M.agents)
all_waiting_row M = record {
  size = length-replicate M.agents Waiting;
  placed = λ a p e. elim (all_waiting_cases M.agents a) [
    | inl v ↦ absurd (waiting≢placed (sym v ∙ e))
    | inr out ↦ (let u = out (all_waiting M.agents) (length-replicate M.agents Waiting) in let z : ◌≡◌ {A = ℕ} 0 1 = cc in absurd (omega arith))
  ];
}
