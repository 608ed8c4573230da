use Rattle.std.proofs.Common.{◌≡◌, ◌≤◌, true, [], map, replicate, vec_items, vec_capacity}
use Rattle.market_reader.specs.Rooms.{room_for}
use Rattle.market_reader.proofs.lists.Lists.with_room.Given as goal

-- As many empty lists as turns, each with the room.
abbrev pub invariant-loop : goal.invariant-loop
invariant-loop g l = (map vec_items l.lists.items ≡ replicate l.counter []) × (room_for 201 (map vec_capacity l.lists.items) ≡ true) × (l.count ≤ vec_capacity l.lists)
