-- Entries of a rule's data that are right after those before them.
use Rattle.std.specs.Prelude.{Bool, not, ◌&&◌, List}
use Rattle.std.specs.List.{list_any}

-- An entry is sound after the earlier ones, and none of those is like it.
abbrev pub entry_right : {X : Type 0} → (X → X → Bool) → (List X → X → Bool) → List X → X → Bool
entry_right alike sound earlier x = sound earlier x && not (list_any (alike x) earlier)
