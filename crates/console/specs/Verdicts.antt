-- What the printed text tells of a market file.
use Rattle.std.specs.Prelude.{◌≡◌, ℕ, List, [], codes}
use Rattle.spelling.specs.Lines.{lines}
use Rattle.market_lines.specs.declared.fault.MarketFault.{MarketFault}
use Rattle.market_lines.specs.declared.report.Source.TheVariants.{Market}
use Rattle.market_file.specs.declared.form.Form.{Form}
use Rattle.market_file.specs.Keeping.{KeepsForm, BrokenForm, Sized}
use Rattle.market_reader.specs.Held.{Held}
use Rattle.market_reader.specs.Keeping.{KeepsFormat}
use Rattle.console.specs.Printed.{ok_text, fault_text, market_text}

-- The text is the verdict on a market file. A file of another size than 1 to 65,535 bytes has cause 8. A file whose lines keep the form has its sizes printed. Any other file has the fault printed at which its lines first break the form, and below it the faulty line.
pub record Tells (market text : List ℕ) : Type 0 where
  pub size : (Sized market → ⊥) → text ≡ codes "E m market 8 0 0\n\n"
  pub kept : (f : Form) → Sized market → KeepsForm (lines market) f → text ≡ ok_text f.sizes
  pub broken : (e : MarketFault) → Sized market → BrokenForm (lines market) e → text ≡ fault_text market [] (record { source = Market; fault = e })

-- The text is the verdict on a market file, with the owners. A file of another size than 1 to 65,535 bytes has cause 8. A file that keeps the format with a market has the market printed: its numbers of agents and places, and the owner of each place by its rules while everybody waits. Any other file has the fault printed at which its lines first break the form, and below it the faulty line.
pub record TellsOwners (market text : List ℕ) : Type 0 where
  pub size : (Sized market → ⊥) → text ≡ codes "E m market 8 0 0\n\n"
  pub kept : (h : Held) → KeepsFormat market h → text ≡ market_text h
  pub broken : (e : MarketFault) → Sized market → BrokenForm (lines market) e → text ≡ fault_text market [] (record { source = Market; fault = e })
