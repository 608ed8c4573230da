-- What a reply with owners holds.
use Rattle.std.specs.Prelude.{ℕ, List}
use Rattle.market_file.specs.Ledgers.{Known, known}
use Rattle.market_reader.specs.Held.{Held, held}
use Rattle.console.specs.declared.reply.owners.OwnersReply.{OwnersReply}
use Rattle.console.specs.Replies.{replied}

-- The bytes of the last answer.
abbrev pub owners_replied : OwnersReply → List ℕ
owners_replied r = replied r.reply

-- The last market that was read.
abbrev pub last_market : OwnersReply → Held
last_market r = held r.market

-- What the ledger has noted: it is room for the check of a file.
abbrev pub ledger_of : OwnersReply → Known
ledger_of r = known r.reply.ledger
