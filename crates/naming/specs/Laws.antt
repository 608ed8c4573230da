-- What it means that a line names nothing wrongly, in the words of the format.
use Rattle.std.specs.Prelude.{◌≡◌, ℕ, ◌+◌, ◌⊎◌, List, drop, Some, None, Option, ◌≢◌, slice_index}
use Rattle.std.specs.List.{AllByRecursion}
use Rattle.market.specs.declared.node.Node.{Node}
use Rattle.market.specs.Data.{ParentRight, Unlike}
use Rattle.market.specs.Distinct.{Distinct}
use Rattle.market_lines.specs.declared.kind.Kind.{Kind}
use Rattle.market_lines.specs.declared.kind.Kind.TheVariants.{Market, Contents, Seats, Queue, Priorities, Heir, Tenant, Ranking}
use Rattle.naming.specs.declared.fault.Name.{Name}
use Rattle.naming.specs.declared.fault.NameFault.{NameFault}
use Rattle.naming.specs.declared.fault.NameFault.TheVariants.{Parent, Twice}
use Rattle.naming.specs.Repeats.{LeftmostRepeat}

-- No earlier line of kind k has the number x as its first word.
abbrev pub Unnamed : List Name → Kind → ℕ → Type 0
Unnamed names k x = AllByRecursion (λ a. a.kind ≡ k → a.number ≢ x) names

-- A line of a kind names nothing wrongly after the lines before it: places of S, P and T lines and agents of R lines once in their section, agents of Q and P lines and places of R lines once in their line; the parent of an H line is right, and no earlier H line has its place, parent and took number.
abbrev pub NamesRightly : List Name → List Node → Kind → List ℕ → Type 0
NamesRightly names nodes Market ns = Unit {0}
NamesRightly names nodes Contents ns = Unit {0}
NamesRightly names nodes Seats ns = Unnamed names Seats (slice_index ns 0)
NamesRightly names nodes Queue ns = Distinct ns
NamesRightly names nodes Priorities ns = Unnamed names Priorities (slice_index ns 0) × Distinct (drop 1 ns)
NamesRightly names nodes Heir ns = ParentRight nodes (slice_index ns 0) (slice_index ns 1) (slice_index ns 2) × Unlike nodes (slice_index ns 0) (slice_index ns 1) (slice_index ns 2)
NamesRightly names nodes Tenant ns = Unnamed names Tenant (slice_index ns 0)
NamesRightly names nodes Ranking ns = Unnamed names Ranking (slice_index ns 0) × Distinct (drop 1 ns)

-- The first word names what an earlier line of the kind named, or else a later word repeats an earlier one of the line, the leftmost.
abbrev pub NamedOrRepeated : List Name → Kind → List ℕ → NameFault → Type 0
NamedOrRepeated names k ns f =
    ((f ≡ Twice 1) × (Unnamed names k (slice_index ns 0) → ⊥)) ⊎ (Unnamed names k (slice_index ns 0) × ((i : ℕ) × (f ≡ Twice (i + 2)) × LeftmostRepeat (drop 1 ns) i))

-- The parent of a node is wrong, or else an earlier node is like it.
abbrev pub NodeWrong : List Node → ℕ → ℕ → ℕ → NameFault → Type 0
NodeWrong nodes p r t f = ((f ≡ Parent) × (ParentRight nodes p r t → ⊥)) ⊎ (ParentRight nodes p r t × ((f ≡ Twice 1) × (Unlike nodes p r t → ⊥)))

-- What a line of a kind names wrongly first, going from the parent of a node to what is named twice, and there from left to right.
abbrev pub NamesWrongly : List Name → List Node → Kind → List ℕ → NameFault → Type 0
NamesWrongly names nodes Market ns f = ⊥
NamesWrongly names nodes Contents ns f = ⊥
NamesWrongly names nodes Seats ns f = (f ≡ Twice 1) × (Unnamed names Seats (slice_index ns 0) → ⊥)
NamesWrongly names nodes Queue ns f = (i : ℕ) × (f ≡ Twice (i + 1)) × LeftmostRepeat ns i
NamesWrongly names nodes Priorities ns f = NamedOrRepeated names Priorities ns f
NamesWrongly names nodes Heir ns f = NodeWrong nodes (slice_index ns 0) (slice_index ns 1) (slice_index ns 2) f
NamesWrongly names nodes Tenant ns f = (f ≡ Twice 1) × (Unnamed names Tenant (slice_index ns 0) → ⊥)
NamesWrongly names nodes Ranking ns f = NamedOrRepeated names Ranking ns f

-- The answer is none exactly when the line names nothing wrongly, and otherwise exactly what it names wrongly first.
pub record NamesLaw (names : List Name) (nodes : List Node) (k : Kind) (ns : List ℕ) (r : Option NameFault) : Type 0 where
  pub sound : r ≡ None → NamesRightly names nodes k ns
  pub complete : NamesRightly names nodes k ns → r ≡ None
  pub fault : (f : NameFault) → r ≡ Some f → NamesWrongly names nodes k ns f
  pub named : (f : NameFault) → NamesWrongly names nodes k ns f → r ≡ Some f
