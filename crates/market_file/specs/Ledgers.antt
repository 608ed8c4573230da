-- What the lines so far have named.
use Rattle.std.specs.Prelude.{ℕ, List, [], ◌∷◌, ◌++◌, Some, None, vec_items, Option, slice_index}
use Rattle.market.specs.declared.node.Node.{Node}
use Rattle.market_lines.specs.declared.kind.Kind.{Kind}
use Rattle.market_lines.specs.declared.kind.Kind.TheVariants.{Market, Contents, Seats, Queue, Priorities, Heir, Tenant, Ranking}
use Rattle.naming.specs.declared.fault.Name.{Name}
use Rattle.naming.specs.declared.fault.NameFault.{NameFault}
use Rattle.market_file.specs.declared.ledger.Ledger.{Ledger}

-- What is known of the lines so far: the kind and the first number of each S, P, T and R line, and the nodes of the H lines.
pub record Known : Type 0 where
  pub names : List Name
  pub nodes : List Node

-- What a ledger holds.
abbrev pub known : Ledger → Known
known l = record { names = vec_items l.names; nodes = vec_items l.nodes }

-- Nothing is known before the first line of the sections.
abbrev pub blank : Known
blank = record { names = []; nodes = [] }

-- What the first word of a line names.
abbrev pub name_in : Kind → List ℕ → Name
name_in k ns = record { kind = k; number = slice_index ns 0 }

-- The node that the numbers of an H line say.
abbrev pub node_in : List ℕ → Node
node_in ns = record { place = record { number = slice_index ns 0 }; parent = slice_index ns 1; took = slice_index ns 2; heir = record { number = slice_index ns 3 } }

-- The first word of a line is noted.
abbrev pub with_name : Known → Kind → List ℕ → Known
with_name d k ns = record { names = d.names ++ name_in k ns ∷ []; nodes = d.nodes }

-- What is known after a line of a kind.
abbrev pub noted : Kind → List ℕ → Known → Known
noted Market ns d = d
noted Contents ns d = d
noted Seats ns d = with_name d Seats ns
noted Queue ns d = d
noted Priorities ns d = with_name d Priorities ns
noted Heir ns d = record { names = d.names; nodes = d.nodes ++ node_in ns ∷ [] }
noted Tenant ns d = with_name d Tenant ns
noted Ranking ns d = with_name d Ranking ns

-- What is known after a line of a kind, which is not noted where it names something wrongly.
abbrev pub afterwards : Option NameFault → Kind → List ℕ → Known → Known
afterwards (Some f) k ns d = d
afterwards None k ns d = noted k ns d
