-- The owner question: what its test means. Assumes nothing.
use Rattle.std.proofs.Common.{◌≡◌, ℕ, zero, suc, ◌≤◌, Bool, true, false, cond, ◌&&◌, ◌||◌, eqb, [], ◌∷◌, length, get_or, Ok, Err, Result, sym, refl, ap, ◌∙◌, subst, inl, inr, arith}
use Rattle.std.proofs.lemmas.List.Elements.{All-get_or, All-from_get_or}
use Rattle.std.proofs.lemmas.List.Folds.{list_any_at}
use Rattle.std.proofs.lemmas.List.Sums.{AllPass-from_list_all, list_all-from_AllPass}
use Rattle.std.proofs.lemmas.List.{get_or_past}
use Rattle.std.proofs.lemmas.Bool.{cases_Bool, cases_lt, and_parts, and_from, eqb-true, eq-eqb}
use Rattle.std.specs.List.{AllPass, list_all, list_any}
use Rattle.market.specs.declared.agent.Agent.{Agent}
use Rattle.market.specs.declared.place.Place.{Place}
use Rattle.market.specs.declared.refusal.Refusal.{Refusal}
use Rattle.market.specs.declared.refusal.Refusal.TheVariants.{Question}
use Rattle.market.specs.declared.standing.Standing.{Standing}
use Rattle.market.specs.declared.standing.Standing.TheVariants.{Waiting, Placed, Unplaced}
use Rattle.market.specs.Rows.{Row, standing, Waits, is_waiting, PlaceIn, Proper}
use Rattle.market.specs.Rules.{Terms, OwnerWaits}
use Rattle.inheritance.specs.Questions.{standing_fits, question_fits, owner_answer, QuestionRight, QuestionLaw}
use Rattle.succession.specs.Ranges.{place_fits}
use Rattle.succession.proofs.Ranging.{place_right, place_fits_true}
use Rattle.succession.proofs.Standings.{waiting_true, waits_in}

unplaced≢placed : (p : Place) → Unplaced ≡ Placed p → ⊥
unplaced≢placed p e = let z : ◌≡◌ {A = ℕ} 0 1 = cc in omega arith

row_right : (n m : ℕ) (A : Row) → length A ≡ n → list_all (standing_fits m) A ≡ true → Proper n m A
row_right n m A size e = record { size = size; placed = λ a p. go a.number p }
  where
    fits : AllPass (standing_fits m) A
    fits = AllPass-from_list_all (standing_fits m) A e

    go : (j : ℕ) (p : Place) → standing A (record { number = j }) ≡ Placed p → PlaceIn m p
    go zero p s = absurd (unplaced≢placed p s)
    go (suc i) p s =
        elim (cases_lt i (length A)) [
          | inl h ↦ place_right m p (sym (ap (standing_fits m) s) ∙ All-get_or (λ s. standing_fits m s ≡ true) A i Unplaced h fits)
          | inr h ↦ absurd (unplaced≢placed p (sym (get_or_past A i Unplaced h) ∙ s))
        ]

row_fits : (n m : ℕ) (A : Row) → Proper n m A → list_all (standing_fits m) A ≡ true
row_fits n m A row = list_all-from_AllPass (standing_fits m) A (All-from_get_or (λ s. standing_fits m s ≡ true) A Unplaced (λ i h. go i (get_or A i Unplaced) refl))
  where
    go : (i : ℕ) (s : Standing) → get_or A i Unplaced ≡ s → standing_fits m s ≡ true
    go i Waiting e = refl
    go i (Placed p) e = place_fits_true m p (row.placed (record { number = suc i }) p e)
    go i Unplaced e = refl

somebody : (A : Row) → list_any is_waiting A ≡ true → (i : ℕ) × (get_or A i Unplaced ≡ Waiting)
somebody [] e = let z : ◌≡◌ {A = ℕ} 0 1 = cc in absurd (omega arith)
somebody (s ∷ A) e =
    elim (cases_Bool (is_waiting s)) [
      | inl h ↦ (0, waiting_true s h)
      | inr h ↦ let rest = somebody A (sym (ap (λ t. t || list_any is_waiting A) h) ∙ e) in (suc rest.0, rest.1)
    ]

anybody : (A : Row) (a : Agent) → Waits A a → list_any is_waiting A ≡ true
anybody A a w = go a.number w (waits_in A a w).0 (waits_in A a w).1
  where
    go : (j : ℕ) → Waits A (record { number = j }) → 1 ≤ j → j ≤ length A → list_any is_waiting A ≡ true
    go zero v low high = absurd (omega arith)
    go (suc i) v low high = list_any_at is_waiting A i Unplaced (omega arith) (ap is_waiting v)

module _ (n m : ℕ) (A : Row) (p : Place) where
  question_right : question_fits n m A p ≡ true → QuestionRight n m A p
  question_right e =
      let one = and_parts (eqb (length A) n && list_all (standing_fits m) A && list_any is_waiting A) (place_fits m p) e in
      let two = and_parts (eqb (length A) n && list_all (standing_fits m) A) (list_any is_waiting A) one.0 in
      let three = and_parts (eqb (length A) n) (list_all (standing_fits m) A) two.0 in
      let who = somebody A two.1 in
      record {
        row = row_right n m A (eqb-true (length A) n three.0) three.1;
        waiting = (record { number = suc who.0 }, who.1);
        place = place_right m p one.1;
      }

  question_fits_true : QuestionRight n m A p → question_fits n m A p ≡ true
  question_fits_true q =
      and_from _ _ (and_from _ _ (and_from _ _ (eq-eqb (length A) n q.row.size) (row_fits n m A q.row)) (anybody A q.waiting.0 q.waiting.1)) (place_fits_true m p q.place)

-- The answer to a question, as its law has it.
module _ (T : Terms) (A : Row) (p : Place) (r : Result Agent Refusal) (e : r ≡ owner_answer T A p) where
  told : (t : Bool) → question_fits T.agents T.places A p ≡ t → r ≡ cond t (Ok (T.owner A p)) (Err Question)
  told t f = e ∙ ap (λ b. cond b (Ok (T.owner A p)) (Err Question)) f

  proper : (a : Agent) → r ≡ Ok a → QuestionRight T.agents T.places A p
  proper a h =
      elim (cases_Bool (question_fits T.agents T.places A p)) [
        | inl t ↦ question_right T.agents T.places A p t
        | inr t ↦ let no = told false t in let z : ◌≡◌ {A = ℕ} 0 1 = cc in absurd (omega arith)
      ]

  answered : QuestionRight T.agents T.places A p → r ≡ Ok (T.owner A p)
  answered q = told true (question_fits_true T.agents T.places A p q)

  waiting : OwnerWaits T → (a : Agent) → r ≡ Ok a → Waits A a
  waiting lawful a h =
      let q = proper a h in
      let yes = answered q in
      let same : T.owner A p ≡ a = cc in
      subst (Waits A) same (lawful A q.waiting.0 p q.row q.waiting.1 q.place)

  refused : (QuestionRight T.agents T.places A p → ⊥) → r ≡ Err Question
  refused h =
      elim (cases_Bool (question_fits T.agents T.places A p)) [
        | inl t ↦ absurd (h (question_right T.agents T.places A p t))
        | inr t ↦ told false t
      ]

  pub question_law : OwnerWaits T → QuestionLaw T A p r
  question_law lawful = record { answered = answered; proper = proper; waits = waiting lawful; refused = refused }
