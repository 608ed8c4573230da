-- The first agent of a list that waits: what it means, and the laws of an owner. Assumes nothing.
use Rattle.std.proofs.Common.{◌≡◌, ℕ, zero, suc, ◌+◌, ◌-◌, ◌≤◌, true, false, cond, List, [], ◌∷◌, ◌++◌, length, take, drop, Some, None, Option, unwrap_or, sym, refl, ap, ◌∙◌, subst, inl, inr, arith}
use Rattle.std.proofs.lemmas.Bool.{cases_Bool}
use Rattle.std.proofs.ByRecursion.{All-get_or}
use Rattle.std.proofs.lemmas.List.FromFn.{length-map-range_with_len, get_or-map-range_with_len}
use Rattle.std.proofs.lemmas.List.Folds.{find-append}
use Rattle.std.proofs.lemmas.Iterator.Adapters.{position_from-zero}
use Rattle.std.specs.Option.{option_map, option_or}
use Rattle.std.specs.List.{AllByRecursion, position, position_from}
use Rattle.market.specs.declared.agent.Agent.{Agent}
use Rattle.market.specs.declared.standing.Standing.{Standing}
use Rattle.market.specs.declared.standing.Standing.TheVariants.{Unplaced}
use Rattle.market.specs.Rows.{Row, standing, Waits, is_waiting, waits, Continues}
use Rattle.succession.specs.Orders.{first_waiting, FirstWaiting, agents_from, nobody, owner_by}
use Rattle.succession.proofs.Standings.{unplaced≢waiting, waits_true, waits_false, waits_in, kept_false}

pub none≢some : {X : Type 0} (x : X) → None ≡ Some x → ⊥
none≢some x e = let z : ◌≡◌ {A = ℕ} 0 1 = cc in omega arith

-- One step of a search.
pub first_here : (A : Row) (a : Agent) (rest : List Agent) → waits A a ≡ true → first_waiting A (a ∷ rest) ≡ Some a
first_here A a rest e = ap (λ t. cond t (Some a) (first_waiting A rest)) e

pub first_later : (A : Row) (a : Agent) (rest : List Agent) → waits A a ≡ false → first_waiting A (a ∷ rest) ≡ first_waiting A rest
first_later A a rest e = ap (λ t. cond t (Some a) (first_waiting A rest)) e

-- The agent of a number.
abbrev pub numbered : ℕ → Agent
numbered k = record { number = k }

-- The standing of the next agent of a row, and past its end.
row_next : (A : Row) (k : ℕ) (s : Standing) (rest : Row) → drop k A ≡ s ∷ rest → (standing A (numbered (suc k)) ≡ s) × (drop (suc k) A ≡ rest)
row_next [] zero s rest e = let z : ◌≡◌ {A = ℕ} 0 1 = cc in absurd (omega arith)
row_next [] (suc k) s rest e = let z : ◌≡◌ {A = ℕ} 0 1 = cc in absurd (omega arith)
row_next (x ∷ A) zero s rest e = let first : x ≡ s = cc in let more : A ≡ rest = cc in (first, more)
row_next (x ∷ A) (suc k) s rest e = row_next A k s rest e

row_end : (A : Row) (k : ℕ) → drop k A ≡ [] → (standing A (numbered (suc k)) ≡ Unplaced) × (drop (suc k) A ≡ [])
row_end [] zero e = (refl, refl)
row_end [] (suc k) e = (refl, refl)
row_end (x ∷ A) zero e = let z : ◌≡◌ {A = ℕ} 0 1 = cc in absurd (omega arith)
row_end (x ∷ A) (suc k) e = row_end A k e

-- Of no standings none is taken.
take_nil : (n : ℕ) → ◌≡◌ {A = Row} (take n []) []
take_nil zero = refl
take_nil (suc n) = refl

-- The lowest agent after the first k that waits, by what is left of the row after them.
lowest_from : (A : Row) (n k : ℕ) (rest : Row) → drop k A ≡ rest →
    first_waiting A (agents_from (suc k) n) ≡ option_map (λ i. numbered (suc i)) (position_from is_waiting k (take n rest))
lowest_from A zero k rest e = refl
lowest_from A (suc n) k [] e =
    let here = row_end A k e in
    let one : suc k + 1 ≡ suc (suc k) = omega arith in
    first_later A (numbered (suc k)) (agents_from (suc k + 1) n) (ap is_waiting here.0)
    ∙ ap (λ j. first_waiting A (agents_from j n)) one
    ∙ lowest_from A n (suc k) [] here.1
    ∙ ap (λ l. option_map (λ i. numbered (suc i)) (position_from is_waiting (suc k) l)) (take_nil n)
lowest_from A (suc n) k (s ∷ rest) e =
    let here = row_next A k s rest e in
    let one : suc k + 1 ≡ suc (suc k) = omega arith in
    let next : suc k ≡ k + 1 = omega arith in
    elim (cases_Bool (is_waiting s)) [
      | inl h ↦
          first_here A (numbered (suc k)) (agents_from (suc k + 1) n) (ap is_waiting here.0 ∙ h)
          ∙ sym (ap (λ t. option_map (λ i. numbered (suc i)) (cond t (Some k) (position_from is_waiting (k + 1) (take n rest)))) h)
      | inr h ↦
          first_later A (numbered (suc k)) (agents_from (suc k + 1) n) (ap is_waiting here.0 ∙ h)
          ∙ ap (λ j. first_waiting A (agents_from j n)) one
          ∙ lowest_from A n (suc k) rest here.1
          ∙ ap (λ j. option_map (λ i. numbered (suc i)) (position_from is_waiting j (take n rest))) next
          ∙ sym (ap (λ t. option_map (λ i. numbered (suc i)) (cond t (Some k) (position_from is_waiting (k + 1) (take n rest)))) h)
    ]

-- The lowest agent that waits stands at the first index of the row at which somebody waits.
pub lowest_at : (A : Row) (n : ℕ) → first_waiting A (agents_from 1 n) ≡ option_map (λ i. numbered (suc i)) (position is_waiting (take n A))
lowest_at A n = lowest_from A n 0 A refl ∙ ap (option_map (λ i. numbered (suc i))) (sym (position_from-zero is_waiting (take n A)))

pub first_none : (A : Row) (order : List Agent) → first_waiting A order ≡ None → AllByRecursion (λ b. Waits A b → ⊥) order
first_none A [] e = tt
first_none A (a ∷ rest) e =
    elim (cases_Bool (waits A a)) [
      | inl h ↦ absurd (none≢some a (sym e ∙ first_here A a rest h))
      | inr h ↦ (waits_false A a h, first_none A rest (sym (first_later A a rest h) ∙ e))
    ]

pub first_some : (A : Row) (order : List Agent) (a : Agent) → first_waiting A order ≡ Some a → FirstWaiting A order a
first_some A [] a e = absurd (none≢some a e)
first_some A (b ∷ rest) a e =
    elim (cases_Bool (waits A b)) [
      | inl h ↦
          let both : Some b ≡ Some a = sym (first_here A b rest h) ∙ e in
          let same : b ≡ a = cc in
          record { before = []; after = rest; parts = ap (λ x. x ∷ rest) same; departed = tt; waits = subst (Waits A) same (waits_true A b h) }
      | inr h ↦
          let f = first_some A rest a (sym (first_later A b rest h) ∙ e) in
          record { before = b ∷ f.before; after = f.after; parts = ap (λ l. b ∷ l) f.parts; departed = (waits_false A b h, f.departed); waits = f.waits }
    ]

-- A search in two lists, one after the other.
pub first_front : (A : Row) (xs ys : List Agent) (a : Agent) → first_waiting A xs ≡ Some a → first_waiting A (xs ++ ys) ≡ Some a
first_front A xs ys a e = find-append (waits A) xs ys ∙ ap (λ o. option_or o (first_waiting A ys)) e

-- Who is not waiting in a list is not later.
pub nobody_stays : (A B : Row) → Continues A B → (order : List Agent) → first_waiting A order ≡ None → first_waiting B order ≡ None
nobody_stays A B more [] e = refl
nobody_stays A B more (b ∷ rest) e =
    elim (cases_Bool (waits A b)) [
      | inl h ↦ absurd (none≢some b (sym e ∙ first_here A b rest h))
      | inr h ↦ first_later B b rest (ap is_waiting (kept_false A B more b h) ∙ h) ∙ nobody_stays A B more rest (sym (first_later A b rest h) ∙ e)
    ]

-- The first that waits stays the first for as long as it waits.
pub first_stays : (A B : Row) → Continues A B → (order : List Agent) (a : Agent) → first_waiting A order ≡ Some a → Waits B a → first_waiting B order ≡ Some a
first_stays A B more [] a e w = absurd (none≢some a e)
first_stays A B more (b ∷ rest) a e w =
    elim (cases_Bool (waits A b)) [
      | inl h ↦
          let both : Some b ≡ Some a = sym (first_here A b rest h) ∙ e in
          let same : b ≡ a = cc in
          first_here B b rest (ap is_waiting (subst (Waits B) (sym same) w)) ∙ both
      | inr h ↦
          first_later B b rest (ap is_waiting (kept_false A B more b h) ∙ h) ∙ first_stays A B more rest a (sym (first_later A b rest h) ∙ e) w
    ]

back : {X : Type 0} (P : X → Type 0) (xs ys : List X) → AllByRecursion P (xs ++ ys) → AllByRecursion P ys
back P [] ys a = a
back P (x ∷ xs) ys a = back P xs ys a.1

-- Among all agents, nobody passed over waits.
nobody_among : (A : Row) (n : ℕ) → AllByRecursion (λ b. Waits A b → ⊥) (agents_from 1 n) → (j : ℕ) → 1 ≤ j → j ≤ n → Waits A (numbered j) → ⊥
nobody_among A n none j low high w =
    subst (λ b. Waits A b → ⊥) (get_or-map-range_with_len numbered 1 n (j - 1) j nobody (omega arith) (omega arith))
    (All-get_or (λ b. Waits A b → ⊥) (agents_from 1 n) (j - 1) nobody (omega (arith, length-map-range_with_len numbered 1 n)) none) w

module _ (n : ℕ) (order : List Agent) where
  -- Where somebody waits, the owner by an order waits.
  pub owner_waits : (A : Row) (a : Agent) → length A ≡ n → Waits A a → Waits A (owner_by n order A)
  owner_waits A a size w = go (first_waiting A (order ++ agents_from 1 n)) refl
    where
      go : (o : Option Agent) → first_waiting A (order ++ agents_from 1 n) ≡ o → Waits A (unwrap_or o nobody)
      go None e =
          let within = waits_in A a w in
          absurd (nobody_among A n (back (λ b. Waits A b → ⊥) order (agents_from 1 n) (first_none A (order ++ agents_from 1 n) e)) a.number within.0 (omega (arith, within.1)) w)
      go (Some b) e = (first_some A (order ++ agents_from 1 n) b e).waits

  pub owner_stays : (A B : Row) → Continues A B → Waits B (owner_by n order A) → owner_by n order B ≡ owner_by n order A
  owner_stays A B more w = go (first_waiting A (order ++ agents_from 1 n)) refl w
    where
      go : (o : Option Agent) → first_waiting A (order ++ agents_from 1 n) ≡ o → Waits B (unwrap_or o nobody) → owner_by n order B ≡ unwrap_or o nobody
      go None e v = absurd (unplaced≢waiting v)
      go (Some a) e v = ap (λ o. unwrap_or o nobody) (first_stays A B more (order ++ agents_from 1 n) a e v)
