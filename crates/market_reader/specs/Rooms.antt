-- Room that was reserved beforehand.
use Rattle.std.specs.Prelude.{ℕ, Bool, List, nat_le}
use Rattle.std.specs.List.{list_all}

-- Lists with these capacities have room for n elements each.
abbrev pub room_for : ℕ → List ℕ → Bool
room_for n cs = list_all (λ c. nat_le n c) cs
