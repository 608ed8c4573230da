-- The numbers of refusals.
use Rattle.std.specs.Prelude.{ℕ}
use Rattle.market.specs.declared.refusal.Refusal.{Refusal}
use Rattle.market.specs.declared.refusal.Refusal.TheVariants.{Phase, Sizes, Capacity, Agent, Length, Place, Repeat, Departed, Cycle, Buffer, Question, Rule}

-- The number of each refusal.
abbrev pub refusal_number : Refusal → ℕ
refusal_number Phase = 11
refusal_number Sizes = 12
refusal_number Capacity = 13
refusal_number Agent = 14
refusal_number Length = 15
refusal_number Place = 16
refusal_number Repeat = 17
refusal_number Departed = 18
refusal_number Cycle = 19
refusal_number Buffer = 20
refusal_number Question = 21
refusal_number Rule = 22
