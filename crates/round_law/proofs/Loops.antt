-- Turns of loops: a walk round a cycle that looks for its lowest agent, one that lists it, and FINISH.
use Rattle.std.proofs.Common.{◌≡◌, ℕ, zero, suc, true, false, List, [], ◌∷◌, ◌++◌, Some, None, Option, sym, refl, ap}
use Rattle.std.proofs.lemmas.List.{append_assoc}
use Rattle.std.specs.Option.{option_map}
use Rattle.market.specs.declared.agent.Agent.{Agent}
use Rattle.market.specs.Rows.{Row, NobodyWaits}
use Rattle.market.specs.Rules.{Terms}
use Rattle.trading.specs.Cycles.{same_agent, path_to, cycle_through}
use Rattle.trading.specs.Economies.{Economy}
use Rattle.trading.specs.Rankings.{Profile}
use Rattle.round_law.specs.Choosing.{perhaps, lower, lowest, cycle_of, lowest_waiting, cycle_ahead}
use Rattle.round_law.specs.States.{State, economy_of, profile}
use Rattle.round_law.specs.Steps.{traded, finished}
use Rattle.round_law.proofs.Lowest.{lowest_some}

module _ (f : Agent → Agent) (a : Agent) (k : ℕ) (b : Agent) where
  -- A walk that keeps the lowest agent so far comes back, and counts the agent b in,
  pub lowest_back : (low : Agent) → same_agent (f b) a ≡ true → option_map (lowest low) (path_to f a (suc k) b) ≡ Some (lower low b)
  lowest_back low s = rw s

  -- or goes on with the next.
  pub lowest_onward : (low : Agent) → same_agent (f b) a ≡ false → option_map (lowest low) (path_to f a (suc k) b) ≡ option_map (lowest (lower low b)) (path_to f a k (f b))
  lowest_onward low s = rw s (go (path_to f a k (f b)))
    where
      go : (x : Option (List Agent)) → option_map (lowest low) (option_map (λ c. b ∷ c) x) ≡ option_map (lowest (lower low b)) x
      go None = refl
      go (Some c) = refl

  -- A walk that keeps the agents so far comes back, and lists the agent b,
  pub listed_back : (seen : List Agent) → same_agent (f b) a ≡ true → option_map (λ c. seen ++ c) (path_to f a (suc k) b) ≡ Some (seen ++ b ∷ [])
  listed_back seen s = rw s

  -- or goes on with the next.
  pub listed_onward : (seen : List Agent) → same_agent (f b) a ≡ false → option_map (λ c. seen ++ c) (path_to f a (suc k) b) ≡ option_map (λ c. (seen ++ b ∷ []) ++ c) (path_to f a k (f b))
  listed_onward seen s = rw s (go (path_to f a k (f b)))
    where
      go : (x : Option (List Agent)) → option_map (λ c. seen ++ c) (option_map (λ c. b ∷ c) x) ≡ option_map (λ c. (seen ++ b ∷ []) ++ c) x
      go None = refl
      go (Some c) = ap (λ (x : List Agent). Some x) (sym (append_assoc seen (b ∷ []) c))

-- The cycle from its lowest agent on is found in two walks: one for the lowest agent, and one from there.
pub cycle_of_lowest : (M : Economy) (R : Profile) (A : Row) (a : Agent) → cycle_of M R A a ≡ perhaps None (cycle_through M R A) (option_map (lowest a) (cycle_through M R A a))
cycle_of_lowest M R A a = go (cycle_through M R A a)
  where
    go : (x : Option (List Agent)) → perhaps None (λ c. cycle_through M R A (lowest a c)) x ≡ perhaps None (cycle_through M R A) (option_map (lowest a) x)
    go None = refl
    go (Some c) = refl

-- FINISH trades one cycle more,
pub finished_turn : (T : Terms) (k : ℕ) (s : State) (c : List Agent) → cycle_ahead (economy_of T s) (profile s) s.row ≡ Some c → finished T (suc k) s ≡ finished T k (traded T s c)
finished_turn T k s c e = ap (perhaps s (λ c. finished T k (traded T s c))) e

-- or is over, when nobody waits.
pub finished_over : (T : Terms) (k : ℕ) (s : State) → NobodyWaits s.row → finished T k s ≡ s
finished_over T zero s nobody = refl
finished_over T (suc k) s nobody = go (lowest_waiting s.row) refl
  where
    go : (x : Option Agent) → lowest_waiting s.row ≡ x → finished T (suc k) s ≡ s
    go None q = rw q
    go (Some a) q = absurd (nobody a (lowest_some s.row a q).waiting)
