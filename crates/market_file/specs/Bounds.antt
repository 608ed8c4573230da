-- How many words a line of each kind has, and in which range each of their numbers lies.
use Rattle.std.specs.Prelude.{ℕ, suc, ◌≤◌, Bool, cond, ◌&&◌, ◌||◌, List, [], ◌∷◌, Some, None, Option, ◌==◌, nat_le}
use Rattle.market_lines.specs.declared.kind.Kind.{Kind}
use Rattle.market_lines.specs.declared.kind.Kind.TheVariants.{Market, Contents, Seats, Queue, Priorities, Heir, Tenant, Ranking}
use Rattle.market.specs.declared.sizes.Sizes.{Sizes}

-- The least count of words of a line of a kind.
abbrev pub least_words : Kind → Sizes → ℕ
least_words Market z = 2
least_words Contents z = 6
least_words Seats z = 2
least_words Queue z = z.agents
least_words Priorities z = suc z.agents
least_words Heir z = 4
least_words Tenant z = 2
least_words Ranking z = 1

-- The greatest count of words of a line of a kind: only rankings are of any length, the agent and up to one word for each place.
abbrev pub most_words : Kind → Sizes → ℕ
most_words Market z = 2
most_words Contents z = 6
most_words Seats z = 2
most_words Queue z = z.agents
most_words Priorities z = suc z.agents
most_words Heir z = 4
most_words Tenant z = 2
most_words Ranking z = suc z.places

-- The lowest number that the word at place j of a line of a kind may have: an H line's parent and took number may be 0.
abbrev pub lowest : Kind → ℕ → ℕ
lowest Market j = 1
lowest Contents j = 0
lowest Seats j = 1
lowest Queue j = 1
lowest Priorities j = 1
lowest Heir j = cond (j == 2 || j == 3) 0 1
lowest Tenant j = 1
lowest Ranking j = 1

-- The highest number that the word at place j of a line of a kind may have.
abbrev pub highest : Kind → Sizes → ℕ → ℕ
highest Market z j = cond (j == 1) 200 40
highest Contents z j = 65535
highest Seats z j = cond (j == 1) z.places 200
highest Queue z j = z.agents
highest Priorities z j = cond (j == 1) z.places z.agents
highest Heir z j = cond (j == 1) z.places (cond (j == 2) 300 (cond (j == 3) z.places z.agents))
highest Tenant z j = cond (j == 1) z.places z.agents
highest Ranking z j = cond (j == 1) z.agents z.places

-- The number x of the word at place j is in its range.
abbrev pub within : Kind → Sizes → ℕ → ℕ → Bool
within k z j x = nat_le (lowest k j) x && nat_le x (highest k z j)

-- The leftmost place whose number is out of its range, where the first number has place j.
abbrev pub misfit : Kind → Sizes → ℕ → List ℕ → Option ℕ
misfit k z j [] = None
misfit k z j (x ∷ xs) = cond (within k z j x) (misfit k z (suc j) xs) (Some j)

-- The count of words is one that a line of the kind may have.
abbrev pub count_fits : Kind → Sizes → ℕ → Bool
count_fits k z n = nat_le (least_words k z) n && nat_le n (most_words k z)

-- The count of words is one that a line of the kind may have.
abbrev pub CountRight : Kind → Sizes → ℕ → Type 0
CountRight k z n = (least_words k z ≤ n) × (n ≤ most_words k z)

-- Each number is in its range, where the first has place j.
abbrev pub InRange : Kind → Sizes → ℕ → List ℕ → Type 0
InRange k z j [] = Unit {0}
InRange k z j (x ∷ xs) = (lowest k j ≤ x) × (x ≤ highest k z j) × InRange k z (suc j) xs
