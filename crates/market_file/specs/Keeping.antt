-- What it means that a file keeps its form, and where a file first breaks it.
use Rattle.std.specs.Prelude.{◌≡◌, ℕ, zero, suc, ◌<◌, ◌≤◌, ◌⊎◌, List, [], ◌∷◌, length, Ok, Err, Result}
use Rattle.spelling.specs.Lines.{lines, closed}
use Rattle.market_lines.specs.declared.fault.LineFault.{LineFault}
use Rattle.market_lines.specs.declared.fault.MarketFault.{MarketFault}
use Rattle.market_lines.specs.declared.fault.MarketFault.TheVariants as fault
use Rattle.market_lines.specs.declared.kind.Kind.{Kind}
use Rattle.market_lines.specs.declared.kind.Kind.TheVariants as kind
use Rattle.naming.specs.declared.fault.NameFault.{NameFault}
use Rattle.naming.specs.Laws.{NamesRightly, NamesWrongly}
use Rattle.market_file.specs.declared.form.Contents.{Contents}
use Rattle.market_file.specs.declared.form.Form.{Form}
use Rattle.market.specs.declared.sizes.Sizes.{Sizes}
use Rattle.market_file.specs.Contents.{kinds_of, priorities_due, RightContents}
use Rattle.market_file.specs.Files.{broken, wrong_at, unknown, file_form}
use Rattle.market_file.specs.FormedLines.{FormedLine, BrokenLine}
use Rattle.market_file.specs.Ledgers.{Known, blank, noted}

-- Lines are the sections that the contents say, after lines of which d is known: one line for each kind due, in order, formed as that kind asks and naming nothing wrongly.
abbrev pub Sections : Sizes → Known → List Kind → List (List ℕ) → Type 0
Sections z d [] [] = Unit {0}
Sections z d [] (l ∷ ls) = ⊥
Sections z d (k ∷ ks) [] = ⊥
Sections z d (k ∷ ks) (l ∷ ls) =
    (ns : List ℕ) × FormedLine z k ns l × NamesRightly d.names d.nodes k ns × Sections z (noted k ns d) ks ls

-- The numbers of the M line.
abbrev pub sizes_line : Sizes → List ℕ
sizes_line z = z.agents ∷ z.places ∷ []

-- The numbers of the C line.
abbrev pub contents_line : Contents → List ℕ
contents_line c = c.seats ∷ c.queues ∷ c.priorities ∷ c.heirs ∷ c.tenants ∷ c.rankings ∷ []

-- Lines keep the form: the first says the sizes, the second the contents, which are right for the sizes, and the others are the sections that the contents say.
pub record KeepsForm (ls : List (List ℕ)) (f : Form) : Type 0 where
  pub first : List ℕ
  pub second : List ℕ
  pub others : List (List ℕ)
  pub parts : ls ≡ first ∷ second ∷ others
  pub sizes : FormedLine unknown kind.Market (sizes_line f.sizes) first
  pub contents : FormedLine f.sizes kind.Contents (contents_line f.contents) second
  pub right : RightContents f.sizes f.contents
  pub sections : Sections f.sizes blank (kinds_of f.contents) others

-- The count at a place of the contents is right; there are six.
abbrev pub RightCount : Sizes → Contents → ℕ → Type 0
RightCount z c zero = Unit {0}
RightCount z c (suc zero) = c.seats ≡ z.places
RightCount z c (suc (suc zero)) = c.queues ≤ 1
RightCount z c (suc (suc (suc zero))) = c.priorities ≡ priorities_due z c.queues
RightCount z c (suc (suc (suc (suc zero)))) = c.heirs ≤ 300
RightCount z c (suc (suc (suc (suc (suc zero))))) = c.tenants ≤ z.places
RightCount z c (suc (suc (suc (suc (suc (suc zero)))))) = c.rankings ≤ z.agents
RightCount z c (suc (suc (suc (suc (suc (suc (suc j))))))) = Unit {0}

-- The count at place j is the leftmost wrong one.
abbrev pub LeftmostWrong : Sizes → Contents → ℕ → Type 0
LeftmostWrong z c j = ((i : ℕ) → i < j → RightCount z c i) × (RightCount z c j → ⊥)

-- A line, the one after n lines, has a fault of its own: it is not formed as its kind asks, or else names something wrongly.
abbrev pub FaultyLine : Sizes → ℕ → Known → Kind → List ℕ → MarketFault → Type 0
FaultyLine z n d k l e =
    ((x : LineFault) × BrokenLine z k x l × (e ≡ fault.InLine (record { line = suc n; fault = x })))
    ⊎ ((ns : List ℕ) × FormedLine z k ns l × ((f : NameFault) × NamesWrongly d.names d.nodes k ns f × (e ≡ wrong_at (suc n) f)))

-- Where the sections first break the format, with n lines before them of which d is known: all lines before are right, and the next is extra, or missing, or has the fault named.
abbrev pub BrokenSections : Sizes → ℕ → Known → List Kind → List (List ℕ) → MarketFault → Type 0
BrokenSections z n d [] [] e = ⊥
BrokenSections z n d [] (l ∷ ls) e = e ≡ broken (suc n) 0
BrokenSections z n d (k ∷ ks) [] e = e ≡ broken (suc n) 0
BrokenSections z n d (k ∷ ks) (l ∷ ls) e =
    ((ns : List ℕ) × FormedLine z k ns l × NamesRightly d.names d.nodes k ns × BrokenSections z (suc n) (noted k ns d) ks ls e) ⊎ FaultyLine z n d k l e

-- Where the lines from the second on first break the form.
abbrev pub BrokenContents : Sizes → List (List ℕ) → MarketFault → Type 0
BrokenContents z [] e = e ≡ broken 2 0
BrokenContents z (l ∷ ls) e =
    ((x : LineFault) × BrokenLine z kind.Contents x l × (e ≡ fault.InLine (record { line = 2; fault = x })))
    ⊎ ((c : Contents) × FormedLine z kind.Contents (contents_line c) l × (((j : ℕ) × LeftmostWrong z c j × (e ≡ broken 2 j)) ⊎ (RightContents z c × BrokenSections z 2 blank (kinds_of c) ls e)))

-- Where the lines first break the form.
abbrev pub BrokenForm : List (List ℕ) → MarketFault → Type 0
BrokenForm [] e = e ≡ broken 1 0
BrokenForm (l ∷ ls) e =
    ((x : LineFault) × BrokenLine unknown kind.Market x l × (e ≡ fault.InLine (record { line = 1; fault = x })))
    ⊎ ((z : Sizes) × FormedLine unknown kind.Market (sizes_line z) l × BrokenContents z ls e)

-- A file has neither too few bytes nor too many.
abbrev pub Sized : List ℕ → Type 0
Sized bs = (1 ≤ length bs) × (length bs ≤ 65535)

-- A file is accepted exactly when it has 1 to 65,535 bytes and its lines keep the form, with the sizes and contents that they say. Otherwise the answer is the fault of its size, or else exactly the first at which its lines break the form. Two files of 1 to 65,535 bytes that differ only in whether their last line has its line feed are read alike.
pub record FormLaw (file : List ℕ) (r : Result Form MarketFault) : Type 0 where
  pub sound : (f : Form) → r ≡ Ok f → Sized file × KeepsForm (lines file) f
  pub complete : (f : Form) → Sized file → KeepsForm (lines file) f → r ≡ Ok f
  pub first : (e : MarketFault) → r ≡ Err e → ((e ≡ fault.Size) × (Sized file → ⊥)) ⊎ (Sized file × BrokenForm (lines file) e)
  pub outside : (Sized file → ⊥) → r ≡ Err fault.Size
  pub named : (e : MarketFault) → Sized file → BrokenForm (lines file) e → r ≡ Err e
  pub alike : (other : List ℕ) → closed other ≡ closed file → Sized other → Sized file → file_form other ≡ r
