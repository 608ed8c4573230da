-- A whole file read as a market.
use Rattle.std.specs.Prelude.{ℕ, List, drop, Ok, Err, Result}
use Rattle.spelling.specs.Lines.{lines}
use Rattle.market_lines.specs.declared.fault.MarketFault.{MarketFault}
use Rattle.market_file.specs.declared.form.Form.{Form}
use Rattle.market_file.specs.Contents.{kinds_of}
use Rattle.market_file.specs.Files.{file_form}
use Rattle.market_reader.specs.Filling.{entries_of, market_of}
use Rattle.market_reader.specs.Held.{Held}

-- The market of a file that keeps its form, from its lines, or the fault.
abbrev pub market_from : Result Form MarketFault → List (List ℕ) → Result Held MarketFault
market_from (Ok f) ls = Ok (market_of f (entries_of (kinds_of f.contents) (drop 2 ls)))
market_from (Err e) ls = Err e

-- A file as a market, or its first fault.
abbrev pub market_read : List ℕ → Result Held MarketFault
market_read bs = market_from (file_form bs) (lines bs)

-- What is answered: nothing but that the file was read, or its fault.
abbrev pub verdict_of : Result Held MarketFault → Result Unit MarketFault
verdict_of (Ok h) = Ok tt
verdict_of (Err e) = Err e

-- What a market holds after a reading: the market that was read, or on a fault what it held before.
abbrev pub left : Result Held MarketFault → Held → Held
left (Ok h) old = h
left (Err e) old = old

-- The answer together with what the market then holds.
abbrev pub answered : Result Unit MarketFault → Held → Result Held MarketFault
answered (Ok u) h = Ok h
answered (Err e) h = Err e
