-- Rows: their standings, when two are equal, who waits, and which rows come later.
use Rattle.std.proofs.Common.{◌≡◌, ℕ, zero, suc, ◌+◌, ◌<◌, true, false, ◌⊎◌, [], ◌∷◌, length, get_or, Some, None, Option, sym, refl, ap, ◌∙◌, inl, inr, arith}
use Rattle.std.proofs.lemmas.List.{ext_get_or, get_or_past, length-replicate, get_or-replicate}
use Rattle.std.proofs.lemmas.Bool.{false≢true, cases_Bool, cases_lt}
use Rattle.market.specs.declared.agent.Agent.{Agent}
use Rattle.market.specs.declared.place.Place.{Place}
use Rattle.market.specs.declared.standing.Standing.{Standing}
use Rattle.market.specs.declared.standing.Standing.TheVariants.{Waiting, Placed, Unplaced}
use Rattle.market.specs.Rows.{Row, standing, Waits, NobodyWaits, is_waiting, waits, Continues, AgentIn}
use Rattle.trading.specs.Economies.{all_waiting}
use Rattle.trading.specs.Allocations.{seat_of}
use Rattle.trading.specs.Trades.{departed, row_from, row_of}

pub none≢some : {X : Type 0} {x : X} → None ≡ Some x → ⊥
none≢some e = let z : ◌≡◌ {A = ℕ} 0 1 = cc in omega arith

pub waiting≢placed : {p : Place} → Waiting ≡ Placed p → ⊥
waiting≢placed e = let z : ◌≡◌ {A = ℕ} 0 1 = cc in omega arith

pub waiting≢unplaced : Waiting ≡ Unplaced → ⊥
waiting≢unplaced e = let z : ◌≡◌ {A = ℕ} 0 1 = cc in omega arith

pub departed_placed : (p : Place) (x : Option Place) → departed x ≡ Placed p → x ≡ Some p
departed_placed p None e = let z : ◌≡◌ {A = ℕ} 0 1 = cc in absurd (omega arith)
departed_placed p (Some q) e = cc

pub departed_waits : (x : Option Place) → departed x ≡ Waiting → ⊥
departed_waits None e = waiting≢unplaced (sym e)
departed_waits (Some p) e = waiting≢placed (sym e)

pub seat_departed : (x : Option Place) → seat_of (departed x) ≡ x
seat_departed None = refl
seat_departed (Some p) = refl

pub departed_seat : (s : Standing) → (s ≡ Waiting → ⊥) → s ≡ departed (seat_of s)
departed_seat Waiting w = absurd (w refl)
departed_seat (Placed p) w = refl
departed_seat Unplaced w = refl

-- Two rows are equal where all agents stand the same.
pub same_rows : (A B : Row) → length A ≡ length B → ((a : Agent) → standing A a ≡ standing B a) → A ≡ B
same_rows A B size same = ext_get_or Unplaced A B size (λ i h. same (record { number = suc i }))

pub length_row_from : (k n : ℕ) (f : Agent → Standing) → length (row_from k n f) ≡ n
length_row_from k zero f = refl
length_row_from k (suc n) f = ap suc (length_row_from (suc k) n f)

get_d_row_from : (k n i j : ℕ) (f : Agent → Standing) → k + i ≡ j → i < n → get_or (row_from k n f) i Unplaced ≡ f (record { number = j })
get_d_row_from k zero i j f e h = absurd (omega arith)
get_d_row_from k (suc n) zero j f e h = ap (λ (x : ℕ). f (record { number = x })) (omega arith)
get_d_row_from k (suc n) (suc i) j f e h = get_d_row_from (suc k) n i j f (omega arith) (omega arith)

-- In a row of as many agents as A has each stands as f says, if f leaves unplaced whoever is unplaced in A.
pub standing_row_of : (A : Row) (f : Agent → Standing) → ((a : Agent) → standing A a ≡ Unplaced → f a ≡ Unplaced) → (a : Agent) → standing (row_of (length A) f) a ≡ f a
standing_row_of A f out a = go a.number
  where
    go : (j : ℕ) → standing (row_of (length A) f) (record { number = j }) ≡ f (record { number = j })
    go zero = sym (out (record { number = 0 }) refl)
    go (suc i) = elim (cases_lt i (length A)) [
      | inl h ↦ get_d_row_from 1 (length A) i (suc i) f (omega arith) h
      | inr h ↦ get_or_past (row_of (length A) f) i Unplaced (rw length_row_from h) ∙ sym (out (record { number = suc i }) (get_or_past A i Unplaced h))
    ]

-- WHO WAITS

waits_test : (s : Standing) → is_waiting s ≡ true → s ≡ Waiting
waits_test Waiting e = refl
waits_test (Placed p) e = absurd (false≢true e)
waits_test Unplaced e = absurd (false≢true e)

pub waits_true : (A : Row) (a : Agent) → waits A a ≡ true → Waits A a
waits_true A a e = waits_test (standing A a) e

pub waits_false : (A : Row) (a : Agent) → waits A a ≡ false → Waits A a → ⊥
waits_false A a e w = false≢true (sym e ∙ ap is_waiting w)

find_waiter : (A : Row) → ((i : ℕ) → get_or A i Unplaced ≡ Waiting → ⊥) ⊎ ((i : ℕ) × (get_or A i Unplaced ≡ Waiting))
find_waiter [] = inl (λ i w. waiting≢unplaced (sym w))
find_waiter (s ∷ A) = elim (cases_Bool (is_waiting s)) [
  | inl t ↦ inr (0, waits_test s t)
  | inr t ↦ elim (find_waiter A) [
    | inl none ↦ inl (elim [ zero ↦ (λ w. false≢true (sym t ∙ ap is_waiting w)) | suc i ↦ none i ])
    | inr some ↦ inr (suc some.0, some.1)
  ]
]

-- Nobody waits, or somebody does.
pub somebody_waits : (A : Row) → NobodyWaits A ⊎ ((a : Agent) × Waits A a)
somebody_waits A = elim (find_waiter A) [
  | inl none ↦ inl (λ a. go none a.number)
  | inr some ↦ inr (record { number = suc some.0 }, some.1)
]
  where
    go : ((i : ℕ) → get_or A i Unplaced ≡ Waiting → ⊥) → (j : ℕ) → Waits A (record { number = j }) → ⊥
    go none zero w = waiting≢unplaced (sym w)
    go none (suc i) w = none i w

-- Whoever waits is one of the agents of the row.
pub waiter_in : (A : Row) (a : Agent) → Waits A a → AgentIn (length A) a
waiter_in A a = go a.number
  where
    go : (j : ℕ) → Waits A (record { number = j }) → AgentIn (length A) (record { number = j })
    go zero w = absurd (waiting≢unplaced (sym w))
    go (suc i) w = elim (cases_lt i (length A)) [ inl h ↦ record { from_one = omega arith; in_range = h } | inr h ↦ absurd (waiting≢unplaced (sym w ∙ get_or_past A i Unplaced h)) ]

-- Where all agents wait, an agent waits or is none of the row.
pub all_waiting_cases : (n : ℕ) (a : Agent) → Waits (all_waiting n) a ⊎ ((X : Row) → length X ≡ n → standing X a ≡ Unplaced)
all_waiting_cases n a = go a.number
  where
    go : (j : ℕ) → Waits (all_waiting n) (record { number = j }) ⊎ ((X : Row) → length X ≡ n → standing X (record { number = j }) ≡ Unplaced)
    go zero = inr (λ X size. refl)
    go (suc i) = elim (cases_lt i n) [ inl h ↦ inl (get_or-replicate n i Waiting Unplaced h) | inr h ↦ inr (λ X size. get_or_past X i Unplaced (rw size h)) ]

-- LATER ROWS

-- Row B is a later row than A: it has as many standings, and continues it.
pub record Later (A B : Row) : Type 0 where
  pub size : length B ≡ length A
  pub kept : (a : Agent) → (Waits A a → ⊥) → standing B a ≡ standing A a

pub later_continues : {A B : Row} → Later A B → Continues A B
later_continues more = record { kept = more.kept }

pub later_same : {A : Row} → Later A A
later_same = record { size = refl; kept = λ a w. refl }

pub later_on : {A B E : Row} → Later A B → Later B E → Later A E
later_on f g = record { size = g.size ∙ f.size; kept = λ a w. g.kept a (λ v. w (sym (f.kept a w) ∙ v)) ∙ f.kept a w }

-- Who holds a place holds it later.
pub later_placed : {A B : Row} → Later A B → (p : Place) (a : Agent) → standing A a ≡ Placed p → standing B a ≡ Placed p
later_placed more p a s = more.kept a (λ w. waiting≢placed (sym w ∙ s)) ∙ s

-- Every row of n standings is later than that in which all n agents wait.
pub later_all_waiting : (n : ℕ) (X : Row) → length X ≡ n → Later (all_waiting n) X
later_all_waiting n X size = record {
  size = size ∙ sym (length-replicate n Waiting);
  kept = λ a w. elim (all_waiting_cases n a) [ inl v ↦ absurd (w v) | inr out ↦ out X size ∙ sym (out (all_waiting n) (length-replicate n Waiting)) ];
}
