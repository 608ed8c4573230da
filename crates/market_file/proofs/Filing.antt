-- The check of one line of the sections. Assumes nothing.
use Rattle.std.proofs.Common.{◌≡◌, ℕ, List, Ok, Err, Result, sym, refl, ap, ◌∙◌}
use Rattle.market_lines.specs.declared.fault.LineFault.{LineFault}
use Rattle.market_lines.specs.declared.kind.Kind.{Kind}
use Rattle.market_lines.specs.Records.{Read}
use Rattle.naming.specs.Faults.{name_fault}
use Rattle.market.specs.declared.sizes.Sizes.{Sizes}
use Rattle.market_file.specs.Files.{placed, at_line, and_then, numbers_at, named_at, line_checked}
use Rattle.market_file.specs.FormedLines.{line_formed}
use Rattle.market_file.specs.Ledgers.{Known, noted}
use Rattle.market_file.proofs.Forming.{line_by_form, numbers_at_line}

-- A line that was placed was formed.
pub placed_ok : (n : ℕ) (o : Result Read LineFault) (l : Read) → placed n o ≡ Ok l → o ≡ Ok l
placed_ok n (Ok x) l e = cc
placed_ok n (Err f) l e = absurd cc

-- What a line that was formed names decides.
pub check_formed : (z : Sizes) (n : ℕ) (d : Known) (k : Kind) (text : List ℕ) (l : Read) → placed n (line_formed k z text) ≡ Ok l → (line_checked z n d k text ≡ named_at n (name_fault d.names d.nodes l.kind l.numbers)) × (noted l.kind l.numbers d ≡ noted k (numbers_at text) d)
check_formed z n d k text l e =
    let o = placed_ok n (line_formed k z text) l e in
    let same : l.kind ≡ k = ap (λ r. r.kind) ((line_by_form z k text (line_formed k z text) refl).sound l o).0 in
    let numbers = numbers_at_line k z text l o in (
      ap (λ r. and_then (at_line n r) (named_at n (name_fault d.names d.nodes k (numbers_at text)))) o
          ∙ ap (λ j. named_at n (name_fault d.names d.nodes j (numbers_at text))) (sym same)
          ∙ ap (λ ns. named_at n (name_fault d.names d.nodes l.kind ns)) (sym numbers),
      ap (λ j. noted j l.numbers d) same ∙ ap (λ ns. noted k ns d) numbers,
    )
