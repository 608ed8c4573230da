-- Where a fault stands.
use Rattle.std.specs.Prelude.{ℕ, List, []}
use Rattle.std.specs.Option.{unwrap_or}
use Rattle.spelling.specs.Lines.{lines, numbered}
use Rattle.market_lines.specs.declared.report.Fault.{Fault}
use Rattle.market_lines.specs.declared.report.Source.{Source}
use Rattle.market_lines.specs.declared.report.Source.TheVariants.{Market, Session}
use Rattle.market_lines.specs.Causes.{fault_line}

-- The file that a source names.
abbrev pub file_of : Source → List ℕ → List ℕ → List ℕ
file_of Market market session = market
file_of Session market session = session

-- The line of a file with a number, from 1; empty where there is none.
abbrev pub line_or : List ℕ → ℕ → List ℕ
line_or file n = unwrap_or (numbered (lines file) n) []

-- The faulty line, as it stands in its file; empty where the fault names none.
abbrev pub faulty_line : List ℕ → List ℕ → Fault → List ℕ
faulty_line market session f = line_or (file_of f.source market session) (fault_line f.fault)
