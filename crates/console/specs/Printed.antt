-- What the program prints of a market file, byte by byte.
use Rattle.std.specs.Prelude.{ℕ, zero, suc, List, [], ◌∷◌, ◌++◌, replicate, Ok, Err, codes, Result}
use Rattle.spelling.specs.Grammar.{spell}
use Rattle.market.specs.declared.standing.Standing.TheVariants.{Waiting}
use Rattle.market.specs.Rows.{Row}
use Rattle.market.specs.Rules.{Terms}
use Rattle.market_lines.specs.declared.fault.Layer.{Layer}
use Rattle.market_lines.specs.declared.fault.Layer.TheVariants as layer
use Rattle.market_lines.specs.declared.fault.MarketFault.{MarketFault}
use Rattle.market_lines.specs.declared.report.Fault.{Fault}
use Rattle.market_lines.specs.declared.report.Source.{Source}
use Rattle.market_lines.specs.declared.report.Source.TheVariants as source
use Rattle.market_lines.specs.Causes.{market_cause, layer_of, fault_line, fault_word}
use Rattle.market_lines.specs.Reports.{faulty_line}
use Rattle.market_file.specs.declared.form.Form.{Form}
use Rattle.market.specs.declared.sizes.Sizes.{Sizes}
use Rattle.market_file.specs.Files.{file_form}
use Rattle.market_file.specs.Keeping.{sizes_line}
use Rattle.market_reader.specs.Held.{Held}
use Rattle.market_reader.specs.Markets.{market_read}
use Rattle.piles.specs.Piles.{pile_terms}

-- The letter of the file that has a fault: m for the market, s for the session.
abbrev pub source_letter : Source → ℕ
source_letter source.Market = 109
source_letter source.Session = 115

-- The name of a layer.
abbrev pub layer_name : Layer → List ℕ
layer_name layer.Word = codes "word"
layer_name layer.Line = codes "line"
layer_name layer.Market = codes "market"

-- A fault's numbers as they are printed: its cause, its line and its word.
abbrev pub fault_numbers : MarketFault → List ℕ
fault_numbers f = market_cause f ∷ fault_line f ∷ fault_word f ∷ []

-- A fault as it is printed: E, the file, the layer, the cause, the line and the word, with spaces between.
abbrev pub fault_head : Fault → List ℕ
fault_head f = codes "E " ++ (source_letter f.source ∷ 32 ∷ (layer_name (layer_of f.fault) ++ (spell (fault_numbers f.fault) ++ 10 ∷ [])))

-- A fault and, below it, the faulty line.
abbrev pub fault_text : List ℕ → List ℕ → Fault → List ℕ
fault_text market session f = fault_head f ++ (faulty_line market session f ++ 10 ∷ [])

-- What is printed of an accepted file: ok, the number of agents and the number of places.
abbrev pub ok_text : Sizes → List ℕ
ok_text z = codes "ok" ++ (spell (sizes_line z) ++ 10 ∷ [])

-- What is printed of a file that was checked.
abbrev pub verdict_of : List ℕ → Result Form MarketFault → List ℕ
verdict_of market (Ok f) = ok_text f.sizes
verdict_of market (Err e) = fault_text market [] (record { source = source.Market; fault = e })

-- What is printed of a market file.
abbrev pub verdict : List ℕ → List ℕ
verdict market = verdict_of market (file_form market)

-- A line: a name and two numbers.
abbrev pub pair_text : List ℕ → ℕ → ℕ → List ℕ
pair_text name a b = name ++ (spell (a ∷ b ∷ []) ++ 10 ∷ [])

-- The owners of so many places from the place k on, in a row, each on a line with its place.
abbrev pub owners_from : Terms → Row → ℕ → ℕ → List ℕ
owners_from T A k zero = []
owners_from T A k (suc n) = pair_text (codes "owner") k (T.owner A (record { number = k })).number ++ owners_from T A (suc k) n

-- The owner of each place in a row.
abbrev pub owners_text : Terms → Row → List ℕ
owners_text T A = owners_from T A 1 T.places

-- What is printed of a market: ok, the number of agents and the number of places, and the owner of each place by the market's rules while everybody waits.
abbrev pub market_text : Held → List ℕ
market_text h = pair_text (codes "ok") h.agents h.places ++ owners_text (pile_terms h) (replicate h.agents Waiting)

-- What is printed, with the owners, of a file that was read.
abbrev pub owners_verdict_of : List ℕ → Result Held MarketFault → List ℕ
owners_verdict_of market (Ok h) = market_text h
owners_verdict_of market (Err e) = fault_text market [] (record { source = source.Market; fault = e })

-- What is printed, with the owners, of a market file.
abbrev pub owners_verdict : List ℕ → List ℕ
owners_verdict market = owners_verdict_of market (market_read market)
