-- The walk through a tree: its steps, and the laws of its claims. Assumes nothing.
use Rattle.std.proofs.Common.{◌≡◌, ℕ, zero, suc, ◌+◌, ◌<◌, true, false, cond, List, [], ◌∷◌, length, get_or, drop, Some, None, Option, sym, refl, ap, ◌∙◌, subst, inl, inr, add-one, arith}
use Rattle.std.proofs.lemmas.Option.{slice_get-get_or}
use Rattle.std.proofs.lemmas.Bool.{cases_Bool}
use Rattle.std.specs.List.{slice_get, position_from}
use Rattle.std.specs.Option.{option_map}
use Rattle.market.specs.declared.agent.Agent.{Agent}
use Rattle.market.specs.declared.node.Node.{Node}
use Rattle.market.specs.declared.place.Place.{Place}
use Rattle.market.specs.declared.standing.Standing.{Standing}
use Rattle.market.specs.declared.standing.Standing.TheVariants.{Waiting, Placed, Unplaced}
use Rattle.market.specs.Nodes.{is_node}
use Rattle.market.specs.Rows.{Row, standing, Waits, Continues}
use Rattle.market.specs.Rules.{Terms, Lawful}
use Rattle.succession.specs.Trees.{taken_by, node_from, go_on, walk_from, heir_claims, tree_terms}
use Rattle.succession.proofs.Firsts.{none≢some}
use Rattle.succession.proofs.Layering.{Lasting, layered_lawful}

pub taken_none : (s : Standing) → taken_by s ≡ None → s ≡ Waiting
taken_none Waiting e = refl
taken_none (Placed p) e = absurd (none≢some p.number (sym e))
taken_none Unplaced e = absurd (none≢some 0 (sym e))

-- ---- one step

module _ (A : Row) (p : Place) (k r t : ℕ) (a : Node) (rest : List Node) where
  -- What the walk makes of the node that it looks for.
  pub walk_at : is_node p.number r t a ≡ true → walk_from A p k r t (a ∷ rest) ≡ go_on (taken_by (standing A a.heir)) (Some a.heir) (λ u. walk_from A p (suc k) (suc k) u rest)
  walk_at e = ap (λ b. cond b (go_on (taken_by (standing A a.heir)) (Some a.heir) (λ u. walk_from A p (suc k) (suc k) u rest)) (walk_from A p (suc k) r t rest)) e

  -- Another node is passed over.
  pub walk_past : is_node p.number r t a ≡ false → walk_from A p k r t (a ∷ rest) ≡ walk_from A p (suc k) r t rest
  walk_past e = ap (λ b. cond b (go_on (taken_by (standing A a.heir)) (Some a.heir) (λ u. walk_from A p (suc k) (suc k) u rest)) (walk_from A p (suc k) r t rest)) e

-- ---- the laws

claim_waits : (A : Row) (p : Place) (k r t : ℕ) (nodes : List Node) (a : Agent) → walk_from A p k r t nodes ≡ Some a → Waits A a
claim_waits A p k r t [] a e = absurd (none≢some a e)
claim_waits A p k r t (b ∷ rest) a e =
    elim (cases_Bool (is_node p.number r t b)) [
      | inl h ↦ go (λ u. claim_waits A p (suc k) (suc k) u rest a) (taken_by (standing A b.heir)) refl (sym (walk_at A p k r t b rest h) ∙ e)
      | inr h ↦ claim_waits A p (suc k) r t rest a (sym (walk_past A p k r t b rest h) ∙ e)
    ]
  where
    go : ((u : ℕ) → walk_from A p (suc k) (suc k) u rest ≡ Some a → Waits A a) → (o : Option ℕ) → taken_by (standing A b.heir) ≡ o → go_on o (Some b.heir) (λ u. walk_from A p (suc k) (suc k) u rest) ≡ Some a → Waits A a
    go more None s f = let same : b.heir ≡ a = cc in subst (Waits A) same (taken_none (standing A b.heir) s)
    go more (Some u) s f = more u f

-- Who departed with something departed with the same later.
taken_stays : (A B : Row) → Continues A B → (a : Agent) (u : ℕ) → taken_by (standing A a) ≡ Some u → taken_by (standing B a) ≡ Some u
taken_stays A B more a u e = ap taken_by (more.kept a (λ w. none≢some u (sym (ap taken_by w) ∙ e))) ∙ e

claim_stays : (A B : Row) → Continues A B → (p : Place) (k r t : ℕ) (nodes : List Node) (a : Agent) → walk_from A p k r t nodes ≡ Some a → Waits B a → walk_from B p k r t nodes ≡ Some a
claim_stays A B more p k r t [] a e w = absurd (none≢some a e)
claim_stays A B more p k r t (b ∷ rest) a e w =
    elim (cases_Bool (is_node p.number r t b)) [
      | inl h ↦ walk_at B p k r t b rest h ∙ go (λ u f. claim_stays A B more p (suc k) (suc k) u rest a f w) (taken_by (standing A b.heir)) refl (sym (walk_at A p k r t b rest h) ∙ e)
      | inr h ↦ walk_past B p k r t b rest h ∙ claim_stays A B more p (suc k) r t rest a (sym (walk_past A p k r t b rest h) ∙ e) w
    ]
  where
    onward : Option ℕ → Option Agent
    onward o = go_on o (Some b.heir) (λ u. walk_from B p (suc k) (suc k) u rest)

    go : ((u : ℕ) → walk_from A p (suc k) (suc k) u rest ≡ Some a → walk_from B p (suc k) (suc k) u rest ≡ Some a) → (o : Option ℕ) → taken_by (standing A b.heir) ≡ o → go_on o (Some b.heir) (λ u. walk_from A p (suc k) (suc k) u rest) ≡ Some a → onward (taken_by (standing B b.heir)) ≡ Some a
    go later None s f = let same : b.heir ≡ a = cc in ap (λ x. onward (taken_by x)) (subst (Waits B) (sym same) w) ∙ f
    go later (Some u) s f = ap onward (taken_stays A B more b.heir u s) ∙ later u f

claim_none : (A B : Row) → Continues A B → (p : Place) (k r t : ℕ) (nodes : List Node) → walk_from A p k r t nodes ≡ None → walk_from B p k r t nodes ≡ None
claim_none A B more p k r t [] e = refl
claim_none A B more p k r t (b ∷ rest) e =
    elim (cases_Bool (is_node p.number r t b)) [
      | inl h ↦ walk_at B p k r t b rest h ∙ go (λ u f. claim_none A B more p (suc k) (suc k) u rest f) (taken_by (standing A b.heir)) refl (sym (walk_at A p k r t b rest h) ∙ e)
      | inr h ↦ walk_past B p k r t b rest h ∙ claim_none A B more p (suc k) r t rest (sym (walk_past A p k r t b rest h) ∙ e)
    ]
  where
    onward : Option ℕ → Option Agent
    onward o = go_on o (Some b.heir) (λ u. walk_from B p (suc k) (suc k) u rest)

    go : ((u : ℕ) → walk_from A p (suc k) (suc k) u rest ≡ None → walk_from B p (suc k) (suc k) u rest ≡ None) → (o : Option ℕ) → taken_by (standing A b.heir) ≡ o → go_on o (Some b.heir) (λ u. walk_from A p (suc k) (suc k) u rest) ≡ None → onward (taken_by (standing B b.heir)) ≡ None
    go later None s f = absurd (none≢some b.heir (sym f))
    go later (Some u) s f = ap onward (taken_stays A B more b.heir u s) ∙ later u f

pub heirs_last : (nodes : List Node) → Lasting (heir_claims nodes)
heirs_last nodes = record {
  waits = λ A p a e. claim_waits A p 0 0 0 nodes a e;
  stays = λ A B p a more e w. claim_stays A B more p 0 0 0 nodes a e w;
  none = λ A B p more e. claim_none A B more p 0 0 0 nodes e;
}

pub tree_lawful : (T : Terms) (nodes : List Node) → Lawful T → Lawful (tree_terms T nodes)
tree_lawful T nodes lawful = layered_lawful T (heir_claims nodes) lawful (heirs_last nodes)

-- ---- one turn of the code's walk

-- What is left of a list from an index on.
pub drop_step : {X : Type 0} (xs : List X) (k : ℕ) (x : X) (rest : List X) → drop k xs ≡ x ∷ rest → (slice_get xs k ≡ Some x) × (drop (suc k) xs ≡ rest)
drop_step [] zero x rest e = let z : ◌≡◌ {A = ℕ} 0 1 = cc in absurd (omega arith)
drop_step [] (suc k) x rest e = let z : ◌≡◌ {A = ℕ} 0 1 = cc in absurd (omega arith)
drop_step (y ∷ xs) zero x rest e = let first : y ≡ x = cc in let more : xs ≡ rest = cc in (ap Some first, more)
drop_step (y ∷ xs) (suc k) x rest e = drop_step xs k x rest e

-- Where the next node is found, the walk goes on from it.
found_from : (A : Row) (p : Place) (nodes : List Node) (r t k : ℕ) (left : List Node) → drop k nodes ≡ left → (i : ℕ) → node_from k p.number r t left ≡ Some i →
    (a : Node) × (slice_get nodes i ≡ Some a) × (walk_from A p k r t left ≡ go_on (taken_by (standing A a.heir)) (Some a.heir) (λ u. walk_from A p (suc i) (suc i) u (drop (suc i) nodes)))
found_from A p nodes r t k [] d i e = absurd (none≢some i e)
found_from A p nodes r t k (a ∷ rest) d i e =
    let here = drop_step nodes k a rest d in
    elim (cases_Bool (is_node p.number r t a)) [
      | inl h ↦
          let both : Some k ≡ Some i = sym (ap (λ b. cond b (Some k) (node_from (suc k) p.number r t rest)) h) ∙ e in
          let same : k ≡ i = cc in (
            a,
            ap (slice_get nodes) (sym same) ∙ here.0,
            walk_at A p k r t a rest h ∙ ap (λ l. go_on (taken_by (standing A a.heir)) (Some a.heir) (λ u. walk_from A p (suc k) (suc k) u l)) (sym here.1)
                ∙ ap (λ j. go_on (taken_by (standing A a.heir)) (Some a.heir) (λ u. walk_from A p (suc j) (suc j) u (drop (suc j) nodes))) same,
          )
      | inr h ↦
          let later = found_from A p nodes r t (suc k) rest here.1 i (sym (ap (λ b. cond b (Some k) (node_from (suc k) p.number r t rest)) h) ∙ e) in
          (later.0, later.1, walk_past A p k r t a rest h ∙ later.2)
    ]

-- Where it is not found, the walk ends.
none_from : (A : Row) (p : Place) (r t k : ℕ) (left : List Node) → node_from k p.number r t left ≡ None → walk_from A p k r t left ≡ None
none_from A p r t k [] e = refl
none_from A p r t k (a ∷ rest) e =
    elim (cases_Bool (is_node p.number r t a)) [
      | inl h ↦ absurd (none≢some k (sym e ∙ ap (λ b. cond b (Some k) (node_from (suc k) p.number r t rest)) h))
      | inr h ↦ walk_past A p k r t a rest h ∙ none_from A p r t (suc k) rest (sym (ap (λ b. cond b (Some k) (node_from (suc k) p.number r t rest)) h) ∙ e)
    ]

module _ (A : Row) (p : Place) (nodes : List Node) (number t : ℕ) where
  -- The code finds no next node, and the walk ends.
  pub walk_over : None ≡ node_from number p.number number t (drop number nodes) → walk_from A p number number t (drop number nodes) ≡ None
  walk_over e = none_from A p number t number (drop number nodes) (sym e)

  module _ (i : ℕ) (d : Node) (h : i < length nodes) (e : Some i ≡ node_from number p.number number t (drop number nodes)) where
    abbrev pub heir : Agent
    heir = (get_or nodes i d).heir

    walk_found : walk_from A p number number t (drop number nodes) ≡ go_on (taken_by (standing A heir)) (Some heir) (λ u. walk_from A p (i + 1) (i + 1) u (drop (i + 1) nodes))
    walk_found =
        let f = found_from A p nodes number t number (drop number nodes) refl i (sym e) in
        let read = slice_get-get_or nodes i d h in
        let there = f.1 in
        let same : f.0 ≡ get_or nodes i d = cc in
        f.2
        ∙ ap (λ a. go_on (taken_by (standing A a.heir)) (Some a.heir) (λ u. walk_from A p (suc i) (suc i) u (drop (suc i) nodes))) same
        ∙ ap (λ j. go_on (taken_by (standing A heir)) (Some heir) (λ u. walk_from A p j j u (drop j nodes))) (sym (add-one i))

    -- Its heir waits, or the walk goes on after it.
    pub walk_stop : None ≡ taken_by (standing A heir) → walk_from A p number number t (drop number nodes) ≡ Some heir
    walk_stop w = walk_found ∙ ap (λ o. go_on o (Some heir) (λ u. walk_from A p (i + 1) (i + 1) u (drop (i + 1) nodes))) (sym w)

    pub walk_more : (u : ℕ) → Some u ≡ taken_by (standing A heir) → walk_from A p number number t (drop number nodes) ≡ walk_from A p (i + 1) (i + 1) u (drop (i + 1) nodes)
    walk_more u w = walk_found ∙ ap (λ o. go_on o (Some heir) (λ u. walk_from A p (i + 1) (i + 1) u (drop (i + 1) nodes))) (sym w)

-- ---- the search for the next node

-- Its index is where it stands among the nodes that are left, and those passed before them.
pub node_position : (p r t k i : ℕ) (left : List Node) → node_from (k + i) p r t left ≡ option_map (λ j. k + j) (position_from (is_node p r t) i left)
node_position p r t k i [] = refl
node_position p r t k i (a ∷ rest) =
    elim (is_node p r t a) as (λ b. cond b (Some (k + i)) (node_from (suc (k + i)) p r t rest) ≡ option_map (λ j. k + j) (cond b (Some i) (position_from (is_node p r t) (i + 1) rest))) [
      | true ↦ refl
      | false ↦ let next : suc (k + i) ≡ k + (i + 1) = omega arith in ap (λ j. node_from j p r t rest) next ∙ node_position p r t k (i + 1) rest
    ]
