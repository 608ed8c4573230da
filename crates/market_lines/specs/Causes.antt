-- The faults of lines and files: the number of each, the layer that it belongs to, and where it stands.
use Rattle.std.specs.Prelude.{ℕ, Some, None, Option}
use Rattle.spelling.specs.Faults.{word_cause, word_at}
use Rattle.market_lines.specs.declared.fault.Layer.{Layer}
use Rattle.market_lines.specs.declared.fault.Layer.TheVariants as layer
use Rattle.market_lines.specs.declared.fault.LineFault.{LineFault}
use Rattle.market_lines.specs.declared.fault.LineFault.TheVariants.{InWord, Count, Range}
use Rattle.market_lines.specs.declared.fault.MarketFault.{MarketFault}
use Rattle.market_lines.specs.declared.fault.Spot.{Spot}
use Rattle.market_lines.specs.declared.fault.MarketFault.TheVariants.{InLine, Size, Contents, Parent, Twice}

-- The number of a line's fault: a word's fault keeps its own.
abbrev pub line_cause : LineFault → ℕ
line_cause (InWord e) = word_cause e
line_cause Count = 3
line_cause (Range k) = 4

-- The word that a line's fault names, from 1; 0 where it names none.
abbrev pub line_word : LineFault → ℕ
line_word (InWord e) = word_at e
line_word Count = 0
line_word (Range k) = k

-- The layer that a line's fault belongs to.
abbrev pub line_layer : LineFault → Layer
line_layer (InWord e) = layer.Word
line_layer Count = layer.Line
line_layer (Range k) = layer.Line

-- The number of a file's fault: a line's fault keeps its own.
abbrev pub market_cause : MarketFault → ℕ
market_cause (InLine at) = line_cause at.fault
market_cause Size = 8
market_cause (Contents spot) = 5
market_cause (Parent spot) = 7
market_cause (Twice spot) = 6

-- The layer that a file's fault belongs to.
abbrev pub layer_of : MarketFault → Layer
layer_of (InLine at) = line_layer at.fault
layer_of Size = layer.Market
layer_of (Contents spot) = layer.Market
layer_of (Parent spot) = layer.Market
layer_of (Twice spot) = layer.Market

-- The line and the word that a file's fault names, if it names a line.
abbrev pub spot_of : MarketFault → Option Spot
spot_of (InLine at) = Some (record { line = at.line; word = line_word at.fault })
spot_of Size = None
spot_of (Contents spot) = Some spot
spot_of (Parent spot) = Some spot
spot_of (Twice spot) = Some spot

-- The line that a file's fault names, from 1; 0 where it names none.
abbrev pub fault_line : MarketFault → ℕ
fault_line (InLine at) = at.line
fault_line Size = 0
fault_line (Contents spot) = spot.line
fault_line (Parent spot) = spot.line
fault_line (Twice spot) = spot.line

-- The word that a file's fault names, from 1; 0 where it names none.
abbrev pub fault_word : MarketFault → ℕ
fault_word (InLine at) = line_word at.fault
fault_word Size = 0
fault_word (Contents spot) = spot.word
fault_word (Parent spot) = spot.word
fault_word (Twice spot) = spot.word
