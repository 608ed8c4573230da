-- What a line names wrongly, after the lines before it.
use Rattle.std.specs.Prelude.{ℕ, ◌+◌, cond, not, List, drop, Some, None, Option, slice_index}
use Rattle.market.specs.declared.node.Node.{Node}
use Rattle.market.specs.Nodes.{parent_fits}
use Rattle.market_lines.specs.declared.kind.Kind.{Kind}
use Rattle.market_lines.specs.declared.kind.Kind.TheVariants.{Market, Contents, Seats, Queue, Priorities, Heir, Tenant, Ranking}
use Rattle.naming.specs.declared.fault.Name.{Name}
use Rattle.naming.specs.declared.fault.NameFault.{NameFault}
use Rattle.naming.specs.declared.fault.NameFault.TheVariants.{Parent, Twice}
use Rattle.naming.specs.Names.{named_before, node_before}
use Rattle.naming.specs.Repeats.{repeat_in}

-- A repeat at an index, as a fault of its word, where the word at index 0 has the place f.
abbrev pub twice_from : ℕ → Option ℕ → Option NameFault
twice_from f None = None
twice_from f (Some i) = Some (Twice (i + f))

-- What an H line names wrongly: first a bad parent, then a node alike.
abbrev pub node_fault : List Node → List ℕ → Option NameFault
node_fault nodes ns =
    cond (not (parent_fits nodes (slice_index ns 0) (slice_index ns 1) (slice_index ns 2))) (Some Parent)
    (cond (node_before nodes (slice_index ns 0) (slice_index ns 1) (slice_index ns 2)) (Some (Twice 1)) None)

-- The first word names what an earlier line of the kind named, or else what comes after decides.
abbrev pub first_fault : List Name → Kind → List ℕ → Option NameFault → Option NameFault
first_fault names k ns rest = cond (named_before names k (slice_index ns 0)) (Some (Twice 1)) rest

-- What a line of a kind names wrongly, after lines with these names and these nodes.
abbrev pub name_fault : List Name → List Node → Kind → List ℕ → Option NameFault
name_fault names nodes Market ns = None
name_fault names nodes Contents ns = None
name_fault names nodes Seats ns = first_fault names Seats ns None
name_fault names nodes Queue ns = twice_from 1 (repeat_in ns)
name_fault names nodes Priorities ns = first_fault names Priorities ns (twice_from 2 (repeat_in (drop 1 ns)))
name_fault names nodes Heir ns = node_fault nodes ns
name_fault names nodes Tenant ns = first_fault names Tenant ns None
name_fault names nodes Ranking ns = first_fault names Ranking ns (twice_from 2 (repeat_in (drop 1 ns)))
