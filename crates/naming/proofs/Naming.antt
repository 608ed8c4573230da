-- What a line names wrongly, and what that means. Assumes nothing.
use Rattle.std.proofs.Common.{arith, ◌≡◌, ℕ, zero, suc, ◌+◌, Bool, true, false, cond, not, eqb, ◌⊎◌, List, [], ◌∷◌, get_or, drop, Some, None, Option, sym, refl, ap, ◌∙◌, inl, inr}
use Rattle.std.proofs.lemmas.Bool.{cases_Bool, eqb-true, eq-eqb, or_parts, or_from, and_parts, and_from, not-false, not_from_true, both_ways}
use Rattle.std.proofs.lemmas.Bool.Decides.{nat_tests}
use Rattle.std.specs.List.{slice_get, list_any, AllByRecursion}
use Rattle.market.specs.declared.node.Node.{Node}
use Rattle.market.specs.Data.{ParentRight, Unlike}
use Rattle.market.specs.Distinct.{Distinct}
use Rattle.market.specs.Nodes.{is_node, at_place, parent_fits}
use Rattle.market_lines.specs.declared.kind.Kind.{Kind}
use Rattle.market_lines.specs.declared.kind.Kind.TheVariants.{Market, Contents, Seats, Queue, Priorities, Heir, Tenant, Ranking}
use Rattle.market_lines.specs.Kinds.{letter_of}
use Rattle.market_lines.proofs.Lettering.{same_letter}
use Rattle.naming.specs.declared.fault.Name.{Name}
use Rattle.naming.specs.declared.fault.NameFault.{NameFault}
use Rattle.naming.specs.declared.fault.NameFault.TheVariants.{Parent, Twice}
use Rattle.naming.specs.Faults.{twice_from, first_fault, name_fault}
use Rattle.naming.specs.Laws.{Unnamed, NamedOrRepeated, NamesLaw}
use Rattle.naming.specs.Names.{is_name, named_before, node_before}
use Rattle.naming.specs.Repeats.{repeat_in, LeftmostRepeat}
use Rattle.naming.proofs.Repeating.{repeats_exactly}

-- ---- searches, as statements

-- No element passes a test exactly when each fails it.
none_of : {X : Type 0} (p : X → Bool) (P : X → Type 0) → ((x : X) → p x ≡ false → P x) → (xs : List X) → list_any p xs ≡ false → AllByRecursion P xs
none_of p P one [] e = tt
none_of p P one (x ∷ xs) e = let q = or_parts (p x) (list_any p xs) e in (one x q.0, none_of p P one xs q.1)

of_none : {X : Type 0} (p : X → Bool) (P : X → Type 0) → ((x : X) → P x → p x ≡ false) → (xs : List X) → AllByRecursion P xs → list_any p xs ≡ false
of_none p P one [] a = refl
of_none p P one (x ∷ xs) a = or_from (p x) (list_any p xs) (one x a.0) (of_none p P one xs a.1)

unnamed : (names : List Name) (k : Kind) (x : ℕ) → named_before names k x ≡ false → Unnamed names k x
unnamed names k x e = none_of (is_name k x) (λ a. a.kind ≡ k → a.number ≡ x → ⊥) (λ a f same number. both_ways (is_name k x a) f (named a same number)) names e
  where
    named : (a : Name) → a.kind ≡ k → a.number ≡ x → is_name k x a ≡ true
    named a same number = and_from (eqb (letter_of a.kind) (letter_of k)) (eqb a.number x) (eq-eqb _ _ (ap letter_of same)) (eq-eqb _ _ number)

named_not : (names : List Name) (k : Kind) (x : ℕ) → Unnamed names k x → named_before names k x ≡ false
named_not names k x u = of_none (is_name k x) (λ a. a.kind ≡ k → a.number ≡ x → ⊥) one names u
  where
    one : (a : Name) → (a.kind ≡ k → a.number ≡ x → ⊥) → is_name k x a ≡ false
    one a h =
        elim (cases_Bool (is_name k x a)) [
          | inl e ↦ let q = and_parts (eqb (letter_of a.kind) (letter_of k)) (eqb a.number x) e in absurd (h (same_letter a.kind k (eqb-true _ _ q.0)) (eqb-true _ _ q.1))
          | inr e ↦ e
        ]

unlike : (nodes : List Node) (p r t : ℕ) → node_before nodes p r t ≡ false → Unlike nodes p r t
unlike nodes p r t e = none_of (is_node p r t) (λ a. a.place.number ≡ p → a.parent ≡ r → a.took ≡ t → ⊥) (λ a f x y z. both_ways (is_node p r t a) f (alike a x y z)) nodes e
  where
    alike : (a : Node) → a.place.number ≡ p → a.parent ≡ r → a.took ≡ t → is_node p r t a ≡ true
    alike a x y z = grind (arith, nat_tests)

like_not : (nodes : List Node) (p r t : ℕ) → Unlike nodes p r t → node_before nodes p r t ≡ false
like_not nodes p r t u = of_none (is_node p r t) (λ a. a.place.number ≡ p → a.parent ≡ r → a.took ≡ t → ⊥) one nodes u
  where
    one : (a : Node) → (a.place.number ≡ p → a.parent ≡ r → a.took ≡ t → ⊥) → is_node p r t a ≡ false
    one a h = grind (arith, nat_tests)

at_place_found : (o : Option Node) (p : ℕ) → at_place o p ≡ true → (a : Node) × (o ≡ Some a) × (a.place.number ≡ p)
at_place_found None p e = absurd cc
at_place_found (Some a) p e = (a, refl, eqb-true _ _ e)

parent_right : (nodes : List Node) (p r t : ℕ) → parent_fits nodes p r t ≡ true → ParentRight nodes p r t
parent_right nodes p zero t e = eqb-true t 0 e
parent_right nodes p (suc r) t e = at_place_found (slice_get nodes r) p e

right_parent : (nodes : List Node) (p r t : ℕ) → ParentRight nodes p r t → parent_fits nodes p r t ≡ true
right_parent nodes p zero t h = eq-eqb t 0 h
right_parent nodes p (suc r) t h = ap (λ o. at_place o p) h.1 ∙ eq-eqb _ _ h.2

-- ---- two tests, one after the other

-- A test that is wrong with a fault, and what comes after it where it is right.
module _ (b : Bool) (x : NameFault) (rest : Option NameFault) (Right : Type 0) (right : b ≡ false → Right) (told : Right → b ≡ false) where
  step_none : cond b (Some x) rest ≡ None → Right × (rest ≡ None)
  step_none e =
      elim (cases_Bool b) [
        | inl h ↦ let both : ◌≡◌ {A = Option NameFault} (Some x) None = sym (ap (λ t. cond t (Some x) rest) h) ∙ e in absurd cc
        | inr h ↦ (right h, sym (ap (λ t. cond t (Some x) rest) h) ∙ e)
      ]

  none_step : Right → rest ≡ None → cond b (Some x) rest ≡ None
  none_step r e = ap (λ t. cond t (Some x) rest) (told r) ∙ e

  step_some : (f : NameFault) → cond b (Some x) rest ≡ Some f → ((f ≡ x) × (Right → ⊥)) ⊎ (Right × (rest ≡ Some f))
  step_some f e =
      elim (cases_Bool b) [
        | inl h ↦
            let both : ◌≡◌ {A = Option NameFault} (Some x) (Some f) = sym (ap (λ t. cond t (Some x) rest) h) ∙ e in
            let same : f ≡ x = cc in
            inl (same, λ r. both_ways b (told r) h)
        | inr h ↦ inr (right h, sym (ap (λ t. cond t (Some x) rest) h) ∙ e)
      ]

  some_here : (f : NameFault) → f ≡ x → (Right → ⊥) → cond b (Some x) rest ≡ Some f
  some_here f same wrong =
      elim (cases_Bool b) [
        | inl h ↦ ap (λ t. cond t (Some x) rest) h ∙ ap Some (sym same)
        | inr h ↦ absurd (wrong (right h))
      ]

  some_there : (f : NameFault) → Right → rest ≡ Some f → cond b (Some x) rest ≡ Some f
  some_there f r e = ap (λ t. cond t (Some x) rest) (told r) ∙ e

-- ---- repeats within a line

twice_none : (n : ℕ) (o : Option ℕ) → twice_from n o ≡ None → o ≡ None
twice_none n None e = refl
twice_none n (Some i) e = absurd cc

twice_some : (n : ℕ) (o : Option ℕ) (f : NameFault) → twice_from n o ≡ Some f → (i : ℕ) × (f ≡ Twice (i + n)) × (o ≡ Some i)
twice_some n None f e = absurd cc
twice_some n (Some i) f e = let same : f ≡ Twice (i + n) = cc in (i, same, refl)

repeat_none : (n : ℕ) (xs : List ℕ) → twice_from n (repeat_in xs) ≡ None → Distinct xs
repeat_none n xs e = (repeats_exactly xs (repeat_in xs) refl).none (twice_none n (repeat_in xs) e)

none_repeat : (n : ℕ) (xs : List ℕ) → Distinct xs → twice_from n (repeat_in xs) ≡ None
none_repeat n xs d = ap (twice_from n) ((repeats_exactly xs (repeat_in xs) refl).distinct d)

repeat_some : (n : ℕ) (xs : List ℕ) (f : NameFault) → twice_from n (repeat_in xs) ≡ Some f → (i : ℕ) × (f ≡ Twice (i + n)) × LeftmostRepeat xs i
repeat_some n xs f e = let g = twice_some n (repeat_in xs) f e in (g.0, g.1, (repeats_exactly xs (repeat_in xs) refl).some g.0 g.2)

some_repeat : (n : ℕ) (xs : List ℕ) (f : NameFault) → ((i : ℕ) × (f ≡ Twice (i + n)) × LeftmostRepeat xs i) → twice_from n (repeat_in xs) ≡ Some f
some_repeat n xs f w = ap (twice_from n) ((repeats_exactly xs (repeat_in xs) refl).named w.0 w.2) ∙ ap Some (sym w.1)

-- ---- all kinds

no_fault : (f : NameFault) → ◌≡◌ {A = Option NameFault} None (Some f) → ⊥
no_fault f e = cc

-- The first word alone may be named before.
first_only : (names : List Name) (k : Kind) (ns : List ℕ) (r : Option NameFault) → r ≡ first_fault names k ns None →
    (r ≡ None → Unnamed names k (get_or ns 0 0)) × (Unnamed names k (get_or ns 0 0) → r ≡ None)
    × ((f : NameFault) → r ≡ Some f → (f ≡ Twice 1) × (Unnamed names k (get_or ns 0 0) → ⊥)) × ((f : NameFault) → (f ≡ Twice 1) × (Unnamed names k (get_or ns 0 0) → ⊥) → r ≡ Some f)
first_only names k ns r e =
    let b = named_before names k (get_or ns 0 0) in
    let right = unnamed names k (get_or ns 0 0) in
    let told = named_not names k (get_or ns 0 0) in (
      λ h. (step_none b (Twice 1) None _ right told (sym e ∙ h)).0,
      λ u. e ∙ none_step b (Twice 1) None _ right told u refl,
      λ f h. elim (step_some b (Twice 1) None _ right told f (sym e ∙ h)) [ inl w ↦ w | inr w ↦ absurd (no_fault f w.1) ],
      λ f w. e ∙ some_here b (Twice 1) None _ right told f w.0 w.1,
    )

-- The first word may be named before, and the words after it may repeat.
first_and_rest : (names : List Name) (k : Kind) (ns : List ℕ) (r : Option NameFault) → r ≡ first_fault names k ns (twice_from 2 (repeat_in (drop 1 ns))) →
    (r ≡ None → Unnamed names k (get_or ns 0 0) × Distinct (drop 1 ns)) × (Unnamed names k (get_or ns 0 0) × Distinct (drop 1 ns) → r ≡ None)
    × ((f : NameFault) → r ≡ Some f → NamedOrRepeated names k ns f) × ((f : NameFault) → NamedOrRepeated names k ns f → r ≡ Some f)
first_and_rest names k ns r e =
    let b = named_before names k (get_or ns 0 0) in
    let rest = twice_from 2 (repeat_in (drop 1 ns)) in
    let right = unnamed names k (get_or ns 0 0) in
    let told = named_not names k (get_or ns 0 0) in (
      λ h. let q = step_none b (Twice 1) rest _ right told (sym e ∙ h) in (q.0, repeat_none 2 (drop 1 ns) q.1),
      λ u. e ∙ none_step b (Twice 1) rest _ right told u.0 (none_repeat 2 (drop 1 ns) u.1),
      λ f h. elim (step_some b (Twice 1) rest _ right told f (sym e ∙ h)) [ inl w ↦ inl w | inr w ↦ inr (w.0, repeat_some 2 (drop 1 ns) f w.1) ],
      λ f w. e ∙ elim w [ inl v ↦ some_here b (Twice 1) rest _ right told f v.0 v.1 | inr v ↦ some_there b (Twice 1) rest _ right told f v.0 (some_repeat 2 (drop 1 ns) f v.1) ],
    )

pub names_law : (names : List Name) (nodes : List Node) (k : Kind) (ns : List ℕ) (r : Option NameFault) → r ≡ name_fault names nodes k ns → NamesLaw names nodes k ns r
names_law names nodes Market ns r e = record { sound = λ _. tt; complete = λ _. e; fault = λ f h. no_fault f (sym e ∙ h); named = λ f w. absurd w }
names_law names nodes Contents ns r e = record { sound = λ _. tt; complete = λ _. e; fault = λ f h. no_fault f (sym e ∙ h); named = λ f w. absurd w }
names_law names nodes Seats ns r e = let g = first_only names Seats ns r e in record { sound = g.0; complete = g.1; fault = g.2; named = g.3 }
names_law names nodes Tenant ns r e = let g = first_only names Tenant ns r e in record { sound = g.0; complete = g.1; fault = g.2; named = g.3 }
names_law names nodes Priorities ns r e = let g = first_and_rest names Priorities ns r e in record { sound = g.0; complete = g.1; fault = g.2; named = g.3 }
names_law names nodes Ranking ns r e = let g = first_and_rest names Ranking ns r e in record { sound = g.0; complete = g.1; fault = g.2; named = g.3 }
names_law names nodes Queue ns r e = record {
  sound = λ h. repeat_none 1 ns (sym e ∙ h);
  complete = λ d. e ∙ none_repeat 1 ns d;
  fault = λ f h. repeat_some 1 ns f (sym e ∙ h);
  named = λ f w. e ∙ some_repeat 1 ns f w;
}
names_law names nodes Heir ns r e =
    let p = get_or ns 0 0 in
    let q = get_or ns 1 0 in
    let t = get_or ns 2 0 in
    let b = not (parent_fits nodes p q t) in
    let c = node_before nodes p q t in
    let inner = cond c (Some (Twice 1)) None in
    let right : b ≡ false → ParentRight nodes p q t = λ h. parent_right nodes p q t (not-false (parent_fits nodes p q t) h) in
    let told : ParentRight nodes p q t → b ≡ false = λ h. not_from_true (parent_fits nodes p q t) (right_parent nodes p q t h) in
    record {
      sound = λ h. let g = step_none b Parent inner _ right told (sym e ∙ h) in (g.0, (step_none c (Twice 1) None _ (unlike nodes p q t) (like_not nodes p q t) g.1).0);
      complete = λ u. e ∙ none_step b Parent inner _ right told u.0 (none_step c (Twice 1) None _ (unlike nodes p q t) (like_not nodes p q t) u.1 refl);
      fault = λ f h. elim (step_some b Parent inner _ right told f (sym e ∙ h)) [
        | inl w ↦ inl w
        | inr w ↦ inr (w.0, elim (step_some c (Twice 1) None _ (unlike nodes p q t) (like_not nodes p q t) f w.1) [ inl v ↦ v | inr v ↦ absurd (no_fault f v.1) ])
      ];
      named = λ f w. e ∙ elim w [
        | inl v ↦ some_here b Parent inner _ right told f v.0 v.1
        | inr v ↦ some_there b Parent inner _ right told f v.0 (some_here c (Twice 1) None _ (unlike nodes p q t) (like_not nodes p q t) f v.1.0 v.1.1)
      ];
    }
