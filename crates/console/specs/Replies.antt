-- What a reply holds.
use Rattle.std.specs.Prelude.{ℕ, List}
use Rattle.console.specs.declared.reply.Reply.{Reply}

-- The bytes of the last answer.
abbrev pub replied : Reply → List ℕ
replied r = r.page
