-- What lines name, and what they name wrongly.
use Rattle.std.specs.Prelude.{ℕ, Bool, ◌&&◌, List, ◌==◌, slice_index}
use Rattle.std.specs.List.{list_any}
use Rattle.market.specs.declared.node.Branch.{Branch}
use Rattle.market.specs.declared.node.Node.{Node}
use Rattle.market.specs.Nodes.{is_node}
use Rattle.market_lines.specs.declared.kind.Kind.{Kind}
use Rattle.market_lines.specs.Kinds.{letter_of}
use Rattle.naming.specs.declared.fault.Name.{Name}

-- A name is that of a line of kind k with the number x.
abbrev pub is_name : Kind → ℕ → Name → Bool
is_name k x a = letter_of a.kind == letter_of k && a.number == x

-- A line of kind k has named the number x.
abbrev pub named_before : List Name → Kind → ℕ → Bool
named_before names k x = list_any (is_name k x) names

-- An earlier node has the place p, the parent r and the took number t.
abbrev pub node_before : List Node → ℕ → ℕ → ℕ → Bool
node_before nodes p r t = list_any (is_node p r t) nodes

-- Where the node of an H line stands, by the numbers of the line.
abbrev pub branch_in : List ℕ → Branch
branch_in ns = record { place = record { number = slice_index ns 0 }; parent = slice_index ns 1; took = slice_index ns 2 }
