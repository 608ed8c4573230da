-- Trees of heirs: when nodes are right, and who claims a place by a walk through them.
use Rattle.std.specs.Prelude.{◌≡◌, ℕ, suc, Bool, cond, ◌&&◌, ◌⊎◌, List, [], ◌∷◌, length, Some, None, Option, nat_le}
use Rattle.std.specs.List.{slice_get}
use Rattle.market.specs.declared.agent.Agent.{Agent}
use Rattle.market.specs.declared.node.Node.{Node}
use Rattle.market.specs.declared.place.Place.{Place}
use Rattle.market.specs.declared.standing.Standing.{Standing}
use Rattle.market.specs.declared.standing.Standing.TheVariants.{Waiting, Placed, Unplaced}
use Rattle.market.specs.Nodes.{is_node, parent_fits}
use Rattle.market.specs.Rows.{Row, standing, Waits}
use Rattle.market.specs.Rules.{Terms}
use Rattle.succession.specs.Layers.{Claims, layered}
use Rattle.succession.specs.Ranges.{agent_fits, place_fits}
use Rattle.succession.specs.Right.{entry_right}
use Rattle.succession.specs.Scans.{each_after}

-- Two nodes have the same place, parent and took number.
abbrev pub same_node : Node → Node → Bool
same_node a b = is_node a.place.number a.parent a.took b

-- The place, the took number and the heir of a node are in range, and its parent fits the earlier nodes.
abbrev pub node_fits : ℕ → ℕ → List Node → Node → Bool
node_fits n m earlier a = place_fits m a.place && nat_le a.took m && agent_fits n a.heir && parent_fits earlier a.place.number a.parent a.took

-- Nodes are those of the trees of all places, as a test.
abbrev pub is_tree : ℕ → ℕ → List Node → Bool
is_tree n m nodes = nat_le (length nodes) 300 && each_after (entry_right same_node (node_fits n m)) [] nodes

-- The number of what a standing says that the agent departed with, 0 for nothing; none where it waits.
abbrev pub taken_by : Standing → Option ℕ
taken_by Waiting = None
taken_by (Placed p) = Some p.number
taken_by Unplaced = Some 0

-- The index of the first node with the place p, the parent r and the took number t, where the first of the list has index k.
abbrev pub node_from : ℕ → ℕ → ℕ → ℕ → List Node → Option ℕ
node_from k p r t [] = None
node_from k p r t (a ∷ rest) = cond (is_node p r t a) (Some k) (node_from (suc k) p r t rest)

-- Stop where nothing was taken, or else go on with the number of what was.
abbrev pub go_on : {X : Type 0} → Option ℕ → X → (ℕ → X) → X
go_on None x f = x
go_on (Some t) x f = f t

-- The heir that waits, by a walk: the next node is the one with the place p, the parent r and the took number t, and it is looked for in a list whose first node has index k. A child comes after its parent, so the walk goes through the nodes once.
abbrev pub walk_from : Row → Place → ℕ → ℕ → ℕ → List Node → Option Agent
walk_from A p k r t [] = None
walk_from A p k r t (a ∷ rest) =
    cond (is_node p.number r t a) (go_on (taken_by (standing A a.heir)) (Some a.heir) (λ took. walk_from A p (suc k) (suc k) took rest)) (walk_from A p (suc k) r t rest)

-- The heir that the walk from the root of a place comes to and that waits claims the place.
abbrev pub heir_claims : List Node → Claims
heir_claims nodes A p = walk_from A p 0 0 0 nodes

-- What a tree means: the heir where the walk stops owns the place, and otherwise the rule below answers.
abbrev pub tree_terms : Terms → List Node → Terms
tree_terms T nodes = layered T (heir_claims nodes)

-- An agent departed with what has the number t: with the place of that number, or with nothing for 0.
abbrev pub DepartedWith : Row → Agent → ℕ → Type 0
DepartedWith A a t = ((p : Place) × (standing A a ≡ Placed p) × (t ≡ p.number)) ⊎ ((standing A a ≡ Unplaced) × (t ≡ 0))

-- The walk for a place comes to the node at index k, whose number is k + 1: it is the root of the place, or else a child of a node that the walk comes to, for what the heir of that node departed with.
pub data WalkComesTo (nodes : List Node) (A : Row) (p : Place) : ℕ → Type 0 where
  at_root : (k : ℕ) (a : Node) → slice_get nodes k ≡ Some a → a.place ≡ p → a.parent ≡ 0 → WalkComesTo nodes A p k
  to_child : (j k : ℕ) (a b : Node) → WalkComesTo nodes A p j → slice_get nodes j ≡ Some a → slice_get nodes k ≡ Some b → b.parent ≡ suc j → DepartedWith A a.heir b.took → WalkComesTo nodes A p k

-- An agent is the heir of a node that the walk for a place comes to.
pub record HeirByWalk (nodes : List Node) (A : Row) (p : Place) (a : Agent) : Type 0 where
  pub index : ℕ
  pub node : Node
  pub there : slice_get nodes index ≡ Some node
  pub comes : WalkComesTo nodes A p index
  pub heir : node.heir ≡ a

-- Who owns a place: the heir of a node that the walk comes to, if that heir waits, and otherwise whom the rule below names.
pub record TreeOwner (T : Terms) (nodes : List Node) (A : Row) (p : Place) : Type 0 where
  pub heir : (a : Agent) → HeirByWalk nodes A p a → Waits A a → (tree_terms T nodes).owner A p ≡ a
  pub below : ((a : Agent) → HeirByWalk nodes A p a → Waits A a → ⊥) → (tree_terms T nodes).owner A p ≡ T.owner A p

-- Who owns by a tree, in every row and for every place.
abbrev pub TreeOwns : Terms → List Node → Type 0
TreeOwns T nodes = (A : Row) (p : Place) → TreeOwner T nodes A p
