-- Trees: what their test means, and who owns by them in the words of the description. Assumes nothing.
use Rattle.std.proofs.Common.{◌≡◌, ℕ, zero, suc, ◌<◌, ◌≤◌, Bool, true, false, not, ◌&&◌, eqb, leb, List, [], ◌∷◌, ◌++◌, length, take, drop, Some, None, Option, unwrap_or, sym, refl, ap, ◌∙◌, subst, inl, inr, append-nil, arith}
use Rattle.std.proofs.ByRecursion.{All-weaker}
use Rattle.std.proofs.lemmas.Bool.{cases_Bool, cases_eq, and_parts, and_from, leb-true, le-leb, eqb-true, eq-eqb, not-true, not_from_false, both_ways}
use Rattle.std.specs.List.{slice_get, list_any}
use Rattle.market.specs.declared.agent.Agent.{Agent}
use Rattle.market.specs.declared.node.Node.{Node}
use Rattle.market.specs.declared.place.Place.{Place}
use Rattle.market.specs.declared.standing.Standing.{Standing}
use Rattle.market.specs.declared.standing.Standing.TheVariants.{Waiting, Placed, Unplaced}
use Rattle.market.specs.Data.{ParentRight, Unlike, NodeRight, NodesRightAfter, TreeOf}
use Rattle.market.specs.Nodes.{is_node, at_place, parent_fits}
use Rattle.market.specs.Rows.{Row, standing, Waits}
use Rattle.market.specs.Rules.{Terms}
use Rattle.succession.specs.Ranges.{agent_fits, place_fits}
use Rattle.succession.specs.Right.{entry_right}
use Rattle.succession.specs.Scans.{each_after}
use Rattle.succession.specs.Trees.{same_node, node_fits, is_tree, taken_by, go_on, walk_from, heir_claims, DepartedWith, WalkComesTo, at_root, to_child, HeirByWalk, TreeOwns}
use Rattle.succession.proofs.Firsts.{none≢some}
use Rattle.succession.proofs.Ordering.{all_nth}
use Rattle.succession.proofs.Ranging.{agent_right, agent_fits_true, place_right, place_fits_true}
use Rattle.succession.proofs.Scanning.{none_all, all_none}
use Rattle.succession.proofs.Walking.{walk_at, walk_past, drop_step, heirs_last}

-- ---- the test

module _ (p r t : ℕ) (a : Node) where
  is_node_true : a.place.number ≡ p → a.parent ≡ r → a.took ≡ t → is_node p r t a ≡ true
  is_node_true x y z = and_from _ _ (and_from _ _ (eq-eqb _ _ x) (eq-eqb _ _ y)) (eq-eqb _ _ z)

  node_is : is_node p r t a ≡ true → (a.place.number ≡ p) × (a.parent ≡ r) × (a.took ≡ t)
  node_is e =
      let q = and_parts (eqb a.place.number p && eqb a.parent r) (eqb a.took t) e in
      let w = and_parts (eqb a.place.number p) (eqb a.parent r) q.0 in
      (eqb-true _ _ w.0, eqb-true _ _ w.1, eqb-true _ _ q.1)

  -- A node is unlike exactly when it fails the test.
  pub unlike_one : is_node p r t a ≡ false → a.place.number ≡ p → a.parent ≡ r → a.took ≡ t → ⊥
  unlike_one e x y z = both_ways (is_node p r t a) e (is_node_true x y z)

  pub one_unlike : (a.place.number ≡ p → a.parent ≡ r → a.took ≡ t → ⊥) → is_node p r t a ≡ false
  one_unlike h = elim (cases_Bool (is_node p r t a)) [ inl e ↦ let q = node_is e in absurd (h q.0 q.1 q.2) | inr e ↦ e ]

pub parent_right : (earlier : List Node) (p r t : ℕ) → parent_fits earlier p r t ≡ true → ParentRight earlier p r t
parent_right earlier p zero t e = eqb-true t 0 e
parent_right earlier p (suc r) t e = go (slice_get earlier r) refl e
  where
    go : (o : Option Node) → slice_get earlier r ≡ o → at_place o p ≡ true → (a : Node) × (slice_get earlier r ≡ Some a) × (a.place.number ≡ p)
    go None f h = let z : ◌≡◌ {A = ℕ} 0 1 = cc in absurd (omega arith)
    go (Some a) f h = (a, f, eqb-true _ _ h)

pub parent_fits_true : (earlier : List Node) (p r t : ℕ) → ParentRight earlier p r t → parent_fits earlier p r t ≡ true
parent_fits_true earlier p zero t h = eq-eqb t 0 h
parent_fits_true earlier p (suc r) t h = ap (λ o. at_place o p) h.1 ∙ eq-eqb _ _ h.2

module _ (n m : ℕ) (earlier : List Node) (a : Node) where
  ranged : Bool
  ranged = place_fits m a.place && leb a.took m && agent_fits n a.heir

  node_right : entry_right same_node (node_fits n m) earlier a ≡ true → NodeRight n m earlier a
  unfolding ranged
  node_right e =
      let parent = parent_fits earlier a.place.number a.parent a.took in
      let one = and_parts (ranged && parent) (not (list_any (same_node a) earlier)) e in
      let two = and_parts ranged parent one.0 in
      let three = and_parts (place_fits m a.place && leb a.took m) (agent_fits n a.heir) two.0 in
      let four = and_parts (place_fits m a.place) (leb a.took m) three.0 in
      record {
        place = place_right m a.place four.0;
        took = leb-true a.took m four.1;
        heir = agent_right n a.heir three.1;
        parent = parent_right earlier a.place.number a.parent a.took two.1;
        unlike = none_all (same_node a) _ (unlike_one a.place.number a.parent a.took) earlier (not-true _ one.1);
      }

  node_fits_true : NodeRight n m earlier a → entry_right same_node (node_fits n m) earlier a ≡ true
  node_fits_true r =
      and_from _ _
      (and_from _ _ (and_from _ _ (and_from _ _ (place_fits_true m a.place r.place) (le-leb a.took m r.took)) (agent_fits_true n a.heir r.heir)) (parent_fits_true earlier a.place.number a.parent a.took r.parent))
      (not_from_false _ (all_none (same_node a) _ (one_unlike a.place.number a.parent a.took) earlier r.unlike))

nodes_right : (n m : ℕ) (earlier nodes : List Node) → each_after (entry_right same_node (node_fits n m)) earlier nodes ≡ true → NodesRightAfter n m earlier nodes
nodes_right n m earlier [] e = tt
nodes_right n m earlier (a ∷ rest) e =
    let q = and_parts (entry_right same_node (node_fits n m) earlier a) (each_after (entry_right same_node (node_fits n m)) (earlier ++ a ∷ []) rest) e in
    (node_right n m earlier a q.0, nodes_right n m (earlier ++ a ∷ []) rest q.1)

nodes_fit : (n m : ℕ) (earlier nodes : List Node) → NodesRightAfter n m earlier nodes → each_after (entry_right same_node (node_fits n m)) earlier nodes ≡ true
nodes_fit n m earlier [] r = refl
nodes_fit n m earlier (a ∷ rest) r = and_from _ _ (node_fits_true n m earlier a r.0) (nodes_fit n m (earlier ++ a ∷ []) rest r.1)

pub tree_right : (n m : ℕ) (nodes : List Node) → is_tree n m nodes ≡ true → TreeOf n m nodes
tree_right n m nodes e =
    let q = and_parts (leb (length nodes) 300) (each_after (entry_right same_node (node_fits n m)) [] nodes) e in
    record { few = leb-true (length nodes) 300 q.0; right = nodes_right n m [] nodes q.1 }

pub tree_fits : (n m : ℕ) (nodes : List Node) → TreeOf n m nodes → is_tree n m nodes ≡ true
tree_fits n m nodes t = and_from _ _ (le-leb (length nodes) 300 t.few) (nodes_fit n m [] nodes t.right)

-- ---- nodes by their index

same_node_at : (nodes : List Node) (k : ℕ) (a b : Node) → slice_get nodes k ≡ Some a → slice_get nodes k ≡ Some b → a ≡ b
same_node_at nodes k a b e f = cc

append_assoc_one : (xs : List Node) (a : Node) (ys : List Node) → (xs ++ a ∷ []) ++ ys ≡ xs ++ a ∷ ys
append_assoc_one [] a ys = refl
append_assoc_one (x ∷ xs) a ys = ap (λ l. x ∷ l) (append_assoc_one xs a ys)

-- The node at an index is right after those before it.
right_at : (n m : ℕ) (earlier nodes : List Node) → NodesRightAfter n m earlier nodes → (k : ℕ) (b : Node) → slice_get nodes k ≡ Some b → NodeRight n m (earlier ++ take k nodes) b
right_at n m earlier [] r k b e = absurd (none≢some b e)
right_at n m earlier (a ∷ rest) r zero b e =
    let same : a ≡ b = cc in
    subst (NodeRight n m (earlier ++ [])) same (subst (λ l. NodeRight n m l a) (sym (append-nil earlier)) r.0)
right_at n m earlier (a ∷ rest) r (suc k) b e =
    subst (λ l. NodeRight n m l b) (append_assoc_one earlier a (take k rest)) (right_at n m (earlier ++ a ∷ []) rest r.1 k b e)

nth_take : (nodes : List Node) (k i : ℕ) (a : Node) → slice_get (take k nodes) i ≡ Some a → (slice_get nodes i ≡ Some a) × (i < k)
nth_take nodes zero i a e = absurd (none≢some a e)
nth_take [] (suc k) i a e = absurd (none≢some a e)
nth_take (x ∷ nodes) (suc k) zero a e = (e, omega arith)
nth_take (x ∷ nodes) (suc k) (suc i) a e = let later = nth_take nodes k i a e in (later.0, omega (arith, later.1))

take_nth : (nodes : List Node) (k i : ℕ) (a : Node) → slice_get nodes i ≡ Some a → i < k → slice_get (take k nodes) i ≡ Some a
take_nth nodes zero i a e h = absurd (omega arith)
take_nth [] (suc k) i a e h = absurd (none≢some a e)
take_nth (x ∷ nodes) (suc k) zero a e h = e
take_nth (x ∷ nodes) (suc k) (suc i) a e h = take_nth nodes k i a e (omega arith)

nth_drop_none : (nodes : List Node) (i k : ℕ) (b : Node) → drop i nodes ≡ [] → i ≤ k → slice_get nodes k ≡ Some b → ⊥
nth_drop_none [] i k b d h e = none≢some b e
nth_drop_none (x ∷ nodes) zero k b d h e = let z : ◌≡◌ {A = ℕ} 0 1 = cc in omega arith
nth_drop_none (x ∷ nodes) (suc i) zero b d h e = omega arith
nth_drop_none (x ∷ nodes) (suc i) (suc k) b d h e = nth_drop_none nodes i k b d (omega arith) e

-- ---- the walk comes to a node

module _ (nodes : List Node) (A : Row) (p : Place) where
  -- What the walk makes of the node at an index.
  abbrev from_node : ℕ → Node → Option Agent
  from_node k b = go_on (taken_by (standing A b.heir)) (Some b.heir) (λ u. walk_from A p (suc k) (suc k) u (drop (suc k) nodes))

  -- Nodes unlike the one that is looked for are passed over.
  reach : (r t k : ℕ) (b : Node) → slice_get nodes k ≡ Some b → is_node p.number r t b ≡ true → Unlike (take k nodes) p.number r t → (i : ℕ) (left : List Node) → drop i nodes ≡ left → i ≤ k → walk_from A p i r t left ≡ from_node k b
  reach r t k b there is unlike i [] d h = absurd (nth_drop_none nodes i k b d h there)
  reach r t k b there is unlike i (x ∷ rest) d h =
      let here = drop_step nodes i x rest d in
      elim (cases_eq i k) [
        | inl e ↦
            let same : x ≡ b = same_node_at nodes k x b (subst (λ j. slice_get nodes j ≡ Some x) e here.0) there in
            walk_at A p i r t x rest (ap (is_node p.number r t) same ∙ is)
            ∙ ap (λ l. go_on (taken_by (standing A x.heir)) (Some x.heir) (λ u. walk_from A p (suc i) (suc i) u l)) (sym here.1)
            ∙ ap (λ j. from_node j x) e ∙ ap (from_node k) same
        | inr e ↦
            walk_past A p i r t x rest (one_unlike p.number r t x (all_nth (λ y. y.place.number ≡ p.number → y.parent ≡ r → y.took ≡ t → ⊥) (take k nodes) i x (take_nth nodes k i x here.0 (omega arith)) unlike))
            ∙ reach r t k b there is unlike (suc i) rest here.1 (omega arith)
      ]

  departed_taken : (a : Agent) (t : ℕ) → DepartedWith A a t → taken_by (standing A a) ≡ Some t
  departed_taken a t (inl h) = ap taken_by h.1 ∙ ap Some (sym h.2)
  departed_taken a t (inr h) = ap taken_by h.0 ∙ ap Some (sym h.1)

  taken_departed : (a : Agent) (t : ℕ) → taken_by (standing A a) ≡ Some t → DepartedWith A a t
  taken_departed a t e = go (standing A a) refl e
    where
      go : (s : Standing) → standing A a ≡ s → taken_by s ≡ Some t → DepartedWith A a t
      go Waiting f g = absurd (none≢some t g)
      go (Placed q) f g = let same : t ≡ q.number = cc in inl (q, f, same)
      go Unplaced f g = let same : t ≡ 0 = cc in inr (f, same)

  root_took : (earlier : List Node) (q r t : ℕ) → r ≡ 0 → ParentRight earlier q r t → t ≡ 0
  root_took earlier q zero t e h = h
  root_took earlier q (suc r) t e h = absurd (omega arith)

  parent_there : (earlier : List Node) (q r t j : ℕ) → r ≡ suc j → ParentRight earlier q r t → (a : Node) × (slice_get earlier j ≡ Some a) × (a.place.number ≡ q)
  parent_there earlier q zero t j e h = absurd (omega arith)
  parent_there earlier q (suc r) t j e h = let same : r ≡ j = omega arith in (h.0, subst (λ x. slice_get earlier x ≡ Some h.0) same h.1, h.2)

  -- What is unlike a node is unlike the node by its numbers.
  moved : (earlier : List Node) (b : Node) (q r t : ℕ) → b.place.number ≡ q → b.parent ≡ r → b.took ≡ t → Unlike earlier b.place.number b.parent b.took → Unlike earlier q r t
  moved earlier b q r t x y z u = All-weaker _ _ (λ a h i j k. h (i ∙ sym x) (j ∙ sym y) (k ∙ sym z)) earlier u

  module _ (n m : ℕ) (tree : TreeOf n m nodes) where
    arrives : (k : ℕ) → WalkComesTo nodes A p k → (b : Node) → slice_get nodes k ≡ Some b → (b.place.number ≡ p.number) × (heir_claims nodes A p ≡ from_node k b)
    arrives _ (at_root k a there place parent) b e =
        let same = same_node_at nodes k a b there e in
        let right = right_at n m [] nodes tree.right k b e in
        let at : b.place.number ≡ p.number = ap (λ x. x.place.number) (sym same) ∙ ap (λ x. x.number) place in
        let above : b.parent ≡ 0 = ap (λ x. x.parent) (sym same) ∙ parent in
        let took : b.took ≡ 0 = root_took (take k nodes) b.place.number b.parent b.took above right.parent in
        (at, reach 0 0 k b e (is_node_true p.number 0 0 b at above took) (moved (take k nodes) b p.number 0 0 at above took right.unlike) 0 nodes refl (omega arith))
    arrives _ (to_child j k a c comes there-a there-c parent departed) b e =
        let before = arrives j comes a there-a in
        let same = same_node_at nodes k c b there-c e in
        let right = right_at n m [] nodes tree.right k b e in
        let above : b.parent ≡ suc j = ap (λ x. x.parent) (sym same) ∙ parent in
        let up = parent_there (take k nodes) b.place.number b.parent b.took j above right.parent in
        let got = nth_take nodes k j up.0 up.1 in
        let at : b.place.number ≡ p.number = sym up.2 ∙ ap (λ x. x.place.number) (same_node_at nodes j up.0 a got.0 there-a) ∙ before.0 in
        let took : taken_by (standing A a.heir) ≡ Some b.took = departed_taken a.heir c.took departed ∙ ap (λ x. Some x.took) same in (
          at,
          before.1
              ∙ ap (λ o. go_on o (Some a.heir) (λ u. walk_from A p (suc j) (suc j) u (drop (suc j) nodes))) took
              ∙ reach (suc j) b.took k b e (is_node_true p.number (suc j) b.took b at above refl) (moved (take k nodes) b p.number (suc j) b.took at above refl right.unlike) (suc j) (drop (suc j) nodes) refl (omega (arith, got.1)),
        )

  -- Where the walk stops it has come to, if it has come to every node that may be next.
  stops : (i r t : ℕ) (left : List Node) → drop i nodes ≡ left → ((k : ℕ) (b : Node) → slice_get nodes k ≡ Some b → is_node p.number r t b ≡ true → WalkComesTo nodes A p k) → (h : Agent) → walk_from A p i r t left ≡ Some h → HeirByWalk nodes A p h
  stops i r t [] d next h e = absurd (none≢some h e)
  stops i r t (x ∷ rest) d next h e =
      let here = drop_step nodes i x rest d in
      elim (cases_Bool (is_node p.number r t x)) [
        | inl is ↦ go here.0 (next i x here.0 is) (λ u. stops (suc i) (suc i) u rest here.1) (taken_by (standing A x.heir)) refl (sym (walk_at A p i r t x rest is) ∙ e)
        | inr not ↦ stops (suc i) r t rest here.1 next h (sym (walk_past A p i r t x rest not) ∙ e)
      ]
    where
      go : slice_get nodes i ≡ Some x → WalkComesTo nodes A p i → ((u : ℕ) → ((k : ℕ) (b : Node) → slice_get nodes k ≡ Some b → is_node p.number (suc i) u b ≡ true → WalkComesTo nodes A p k) → (h : Agent) → walk_from A p (suc i) (suc i) u rest ≡ Some h → HeirByWalk nodes A p h) →
          (o : Option ℕ) → taken_by (standing A x.heir) ≡ o → go_on o (Some x.heir) (λ u. walk_from A p (suc i) (suc i) u rest) ≡ Some h → HeirByWalk nodes A p h
      go there comes later None s f = let same : x.heir ≡ h = cc in record { index = i; node = x; there = there; comes = comes; heir = same }
      go there comes later (Some u) s f =
          later u (λ k b e is. let q = node_is p.number (suc i) u b is in to_child i k x b comes there e q.1 (subst (DepartedWith A x.heir) (sym q.2) (taken_departed x.heir u s))) h f

  heir_walked : (h : Agent) → heir_claims nodes A p ≡ Some h → HeirByWalk nodes A p h
  heir_walked h e =
      stops 0 0 0 nodes refl (λ k b there is. let q = node_is p.number 0 0 b is in at_root k b there (ap (λ (j : ℕ). record { number = j }) q.0) q.1) h e

pub tree_owns : (T : Terms) (nodes : List Node) → TreeOf T.agents T.places nodes → TreeOwns T nodes
tree_owns T nodes tree A p = record {
  heir = λ a w waiting.
      let q = arrives nodes A p T.agents T.places tree w.index w.comes w.node w.there in
      let still : taken_by (standing A w.node.heir) ≡ None = ap taken_by (subst (Waits A) (sym w.heir) waiting) in
      ap (λ o. unwrap_or o (T.owner A p)) (q.1 ∙ ap (λ o. go_on o (Some w.node.heir) (λ u. walk_from A p (suc w.index) (suc w.index) u (drop (suc w.index) nodes))) still) ∙ w.heir;
  below = λ none. go none (heir_claims nodes A p) refl;
}
  where
    go : ((a : Agent) → HeirByWalk nodes A p a → Waits A a → ⊥) → (o : Option Agent) → heir_claims nodes A p ≡ o → unwrap_or (heir_claims nodes A p) (T.owner A p) ≡ T.owner A p
    go none None e = ap (λ o. unwrap_or o (T.owner A p)) e
    go none (Some h) e = absurd (none h (heir_walked nodes A p h e) ((heirs_last nodes).waits A p h e))
