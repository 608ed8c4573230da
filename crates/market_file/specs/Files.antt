-- A whole file: its first two lines, and then the lines that the contents say.
use Rattle.std.specs.Prelude.{ℕ, suc, Bool, cond, ◌&&◌, List, [], ◌∷◌, length, drop, Some, None, Ok, Err, Option, Result, nat_le, nat_lt}
use Rattle.std.specs.List.{slice_get}
use Rattle.spelling.specs.Lines.{lines}
use Rattle.spelling.specs.Words.{numbers_in}
use Rattle.market_lines.specs.declared.fault.At.{At}
use Rattle.market_lines.specs.declared.fault.LineFault.{LineFault}
use Rattle.market_lines.specs.declared.fault.MarketFault.{MarketFault}
use Rattle.market_lines.specs.declared.fault.MarketFault.TheVariants as fault
use Rattle.market_lines.specs.declared.kind.Kind.{Kind}
use Rattle.market_lines.specs.declared.kind.Kind.TheVariants as kind
use Rattle.market_lines.specs.Records.{Read}
use Rattle.naming.specs.declared.fault.NameFault.{NameFault}
use Rattle.naming.specs.declared.fault.NameFault.TheVariants.{Parent, Twice}
use Rattle.naming.specs.Faults.{name_fault}
use Rattle.market_file.specs.declared.form.Contents.{Contents}
use Rattle.market_file.specs.declared.form.Form.{Form}
use Rattle.market.specs.declared.sizes.Sizes.{Sizes}
use Rattle.market_file.specs.Contents.{kinds_of, sizes_in, contents_in, wrong_count}
use Rattle.market_file.specs.FormedLines.{line_formed}
use Rattle.market_file.specs.Ledgers.{Known, blank, noted}

-- A line's fault with the line's number n.
abbrev pub placed : {X : Type 0} → ℕ → Result X LineFault → Result X At
placed n (Ok x) = Ok x
placed n (Err e) = Err (record { line = n; fault = e })

-- A line's fault as the file's, with the line's number n.
abbrev pub at_line : {X : Type 0} → ℕ → Result X LineFault → Result X MarketFault
at_line n (Ok x) = Ok x
at_line n (Err e) = Err (fault.InLine (record { line = n; fault = e }))

-- The contents are broken at a line and a word; word 0 where a line is missing or extra.
abbrev pub broken : ℕ → ℕ → MarketFault
broken n j = fault.Contents (record { line = n; word = j })

-- What comes after a step that may fail.
abbrev pub and_then : {X Y E : Type 0} → Result X E → Result Y E → Result Y E
and_then (Ok x) r = r
and_then (Err e) r = Err e

-- The numbers of the words of a line.
abbrev pub numbers_at : List ℕ → List ℕ
numbers_at text = numbers_in (drop 1 text)

-- What line n names wrongly, as the file's fault: a parent is word 2 of its line.
abbrev pub wrong_at : ℕ → NameFault → MarketFault
wrong_at n Parent = fault.Parent (record { line = n; word = 2 })
wrong_at n (Twice j) = fault.Twice (record { line = n; word = j })

-- Nothing where line n names nothing wrongly, else its fault.
abbrev pub named_at : ℕ → Option NameFault → Result Unit MarketFault
named_at n None = Ok tt
named_at n (Some f) = Err (wrong_at n f)

-- The check of line n of the sections, after lines of which d is known: formed as its kind asks and naming nothing wrongly, or its first fault.
abbrev pub line_checked : Sizes → ℕ → Known → Kind → List ℕ → Result Unit MarketFault
line_checked z n d k l = and_then (at_line n (line_formed k z l)) (named_at n (name_fault d.names d.nodes k (numbers_at l)))

-- The check of the sections, with n lines before them and what is known of these: as many lines as there are kinds due, each formed as its kind asks and naming nothing wrongly, or the first fault.
abbrev pub sections_checked : Sizes → ℕ → Known → List Kind → List (List ℕ) → Result Unit MarketFault
sections_checked z n d [] [] = Ok tt
sections_checked z n d [] (l ∷ ls) = Err (broken (suc n) 0)
sections_checked z n d (k ∷ ks) [] = Err (broken (suc n) 0)
sections_checked z n d (k ∷ ks) (l ∷ ls) =
    and_then (at_line (suc n) (line_formed k z l))
    (and_then (named_at (suc n) (name_fault d.names d.nodes k (numbers_at l)))
    (sections_checked z (suc n) (noted k (numbers_at l) d) ks ls))

-- No agents and no places: what is known before the first line.
abbrev pub unknown : Sizes
unknown = record { agents = 0; places = 0 }

-- The sizes that a first line says, once it was read.
abbrev pub sizes_from : Result Read LineFault → Result Sizes MarketFault
sizes_from (Err e) = Err (fault.InLine (record { line = 1; fault = e }))
sizes_from (Ok l) = Ok (sizes_in l.numbers)

-- The sizes that the first line says, which may be missing.
abbrev pub sizes_read : Option (List ℕ) → Result Sizes MarketFault
sizes_read None = Err (broken 1 0)
sizes_read (Some l) = sizes_from (line_formed kind.Market unknown l)

-- Contents whose counts are right, or the leftmost wrong one.
abbrev pub rightly : Option ℕ → Contents → Result Contents MarketFault
rightly None c = Ok c
rightly (Some j) c = Err (broken 2 j)

-- The contents that a second line says, once it was read.
abbrev pub contents_from : Sizes → Result Read LineFault → Result Contents MarketFault
contents_from z (Err e) = Err (fault.InLine (record { line = 2; fault = e }))
contents_from z (Ok l) = rightly (wrong_count z (contents_in l.numbers)) (contents_in l.numbers)

-- The contents that the second line says, which may be missing.
abbrev pub contents_read : Sizes → Option (List ℕ) → Result Contents MarketFault
contents_read z None = Err (broken 2 0)
contents_read z (Some l) = contents_from z (line_formed kind.Contents z l)

-- The form that the first two lines say, once the sections were checked.
abbrev pub formed : Sizes → Contents → Result Unit MarketFault → Result Form MarketFault
formed z c (Ok u) = Ok (record { sizes = z; contents = c })
formed z c (Err e) = Err e

-- The form of a file, or its first fault, from the contents and the lines after them.
abbrev pub with_contents : Sizes → Result Contents MarketFault → List (List ℕ) → Result Form MarketFault
with_contents z (Err e) ls = Err e
with_contents z (Ok c) ls = formed z c (sections_checked z 2 blank (kinds_of c) ls)

-- The form of a file, or its first fault, from the sizes and the lines after them.
abbrev pub with_sizes : Result Sizes MarketFault → List (List ℕ) → Result Form MarketFault
with_sizes (Err e) ls = Err e
with_sizes (Ok z) ls = with_contents z (contents_read z (slice_get ls 0)) (drop 1 ls)

-- The form of a file, or its first fault, from its lines. A file of 1 byte or more has a first line.
abbrev pub form_read : List (List ℕ) → Result Form MarketFault
form_read ls = with_sizes (sizes_read (slice_get ls 0)) (drop 1 ls)

-- A file has 1 to 65,535 bytes.
abbrev pub sized : List ℕ → Bool
sized bs = nat_lt 0 (length bs) && nat_le (length bs) 65535

-- The form of a file, or its first fault.
abbrev pub file_form : List ℕ → Result Form MarketFault
file_form bs = cond (sized bs) (form_read (lines bs)) (Err fault.Size)
