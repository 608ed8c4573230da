-- Numbers that repeat. Assumes nothing.
use Rattle.std.proofs.Common.{◌≡◌, ℕ, suc, ◌+◌, ◌<◌, ◌≤◌, false, cond, eqb, List, [], ◌∷◌, ◌++◌, length, get_or, take, drop, Some, None, Option, sym, refl, ap, ◌∙◌, subst, inl, inr, append_assoc, append-nil, add-one, arith}
use Rattle.std.proofs.lemmas.List.{at_drop_more, at_drop_all, take_more}
use Rattle.std.proofs.lemmas.Bool.{cases_Bool, eqb-false, ne_eqb, or_parts, or_from, both_ways}
use Rattle.market.specs.Distinct.{Absent, DistinctAfter}
use Rattle.naming.specs.Repeats.{has, repeat_after, repeat_in, RepeatsExactly}

-- ---- one turn

-- The next number repeats an earlier one, or goes to those seen.
pub turn : (xs : List ℕ) (i : ℕ) → i < length xs → repeat_after i (take i xs) (drop i xs) ≡ cond (has (get_or xs i 0) (take i xs)) (Some i) (repeat_after (i + 1) (take (i + 1) xs) (drop (i + 1) xs))
turn xs i h =
    at_drop_more (repeat_after i (take i xs)) xs i 0 h
    ∙ ap (λ j. cond (has (get_or xs i 0) (take i xs)) (Some i) (repeat_after j (take i xs ++ get_or xs i 0 ∷ []) (drop (i + 1) xs))) (sym (add-one i))
    ∙ ap (λ seen. cond (has (get_or xs i 0) (take i xs)) (Some i) (repeat_after (i + 1) seen (drop (i + 1) xs))) (sym (take_more xs i 0 h))

-- After the last number.
pub no_turn : (xs : List ℕ) (i : ℕ) → length xs ≤ i → repeat_after i (take i xs) (drop i xs) ≡ None
no_turn xs i h = at_drop_all (repeat_after i (take i xs)) xs i h

-- ---- what it means

pub absent : (x : ℕ) (ys : List ℕ) → has x ys ≡ false → Absent x ys
absent x [] e = tt
absent x (y ∷ ys) e = let p = or_parts (eqb y x) (has x ys) e in (eqb-false y x p.0, absent x ys p.1)

pub not_has : (x : ℕ) (ys : List ℕ) → Absent x ys → has x ys ≡ false
not_has x [] a = refl
not_has x (y ∷ ys) a = or_from (eqb y x) (has x ys) (ne_eqb y x a.0) (not_has x ys a.1)

none_after : (i : ℕ) (seen xs : List ℕ) → repeat_after i seen xs ≡ None → DistinctAfter seen xs
none_after i seen [] e = tt
none_after i seen (x ∷ xs) e =
    elim (cases_Bool (has x seen)) [
      | inl h ↦ let both : ◌≡◌ {A = Option ℕ} (Some i) None = sym (ap (λ t. cond t (Some i) (repeat_after (suc i) (seen ++ x ∷ []) xs)) h) ∙ e in absurd cc
      | inr h ↦ (absent x seen h, none_after (suc i) (seen ++ x ∷ []) xs (sym (ap (λ t. cond t (Some i) (repeat_after (suc i) (seen ++ x ∷ []) xs)) h) ∙ e))
    ]

distinct_none : (i : ℕ) (seen xs : List ℕ) → DistinctAfter seen xs → repeat_after i seen xs ≡ None
distinct_none i seen [] d = refl
distinct_none i seen (x ∷ xs) d =
    ap (λ t. cond t (Some i) (repeat_after (suc i) (seen ++ x ∷ []) xs)) (not_has x seen d.0) ∙ distinct_none (suc i) (seen ++ x ∷ []) xs d.1

-- Where numbers first repeat, after those seen.
record Found (seen xs : List ℕ) (k : ℕ) : Type 0 where
  before : List ℕ
  number : ℕ
  after : List ℕ
  parts : xs ≡ before ++ number ∷ after
  index : k ≡ length before
  distinct : DistinctAfter seen before
  repeats : Absent number (seen ++ before) → ⊥

some_after : (i k : ℕ) (seen xs : List ℕ) → repeat_after i seen xs ≡ Some k → (j : ℕ) × (k ≡ i + j) × Found seen xs j
some_after i k seen [] e = absurd cc
some_after i k seen (x ∷ xs) e =
    elim (cases_Bool (has x seen)) [
      | inl h ↦
          let both : ◌≡◌ {A = Option ℕ} (Some i) (Some k) = sym (ap (λ t. cond t (Some i) (repeat_after (suc i) (seen ++ x ∷ []) xs)) h) ∙ e in
          let same : i ≡ k = cc in
          (0, omega arith, record { before = []; number = x; after = xs; parts = refl; index = refl; distinct = tt; repeats = λ a. both_ways (has x seen) (subst (λ l. has x l ≡ false) (append-nil seen) (not_has x (seen ++ []) a)) h })
      | inr h ↦
          let g = some_after (suc i) k (seen ++ x ∷ []) xs (sym (ap (λ t. cond t (Some i) (repeat_after (suc i) (seen ++ x ∷ []) xs)) h) ∙ e) in
          let f = g.2 in (
            suc g.0,
            omega (arith, g.1),
            record {
              before = x ∷ f.before;
              number = f.number;
              after = f.after;
              parts = ap (λ l. x ∷ l) f.parts;
              index = ap suc f.index;
              distinct = (absent x seen h, f.distinct);
              repeats = λ a. f.repeats (subst (Absent f.number) (sym (append_assoc seen (x ∷ []) f.before)) a);
            },
          )
    ]

found_after : (i : ℕ) (seen before : List ℕ) (x : ℕ) (after : List ℕ) (k : ℕ) → k ≡ i + length before → DistinctAfter seen before → (Absent x (seen ++ before) → ⊥) → repeat_after i seen (before ++ x ∷ after) ≡ Some k
found_after i seen [] x after k place d r =
    let same : i ≡ k = omega arith in
    elim (cases_Bool (has x seen)) [
      | inl h ↦ ap (λ t. cond t (Some i) (repeat_after (suc i) (seen ++ x ∷ []) after)) h ∙ ap Some same
      | inr h ↦ absurd (r (subst (Absent x) (sym (append-nil seen)) (absent x seen h)))
    ]
found_after i seen (y ∷ before) x after k place d r =
    ap (λ t. cond t (Some i) (repeat_after (suc i) (seen ++ y ∷ []) (before ++ x ∷ after))) (not_has y seen d.0)
    ∙ found_after (suc i) (seen ++ y ∷ []) before x after k (omega arith) d.1 (λ a. r (subst (Absent x) (append_assoc seen (y ∷ []) before) a))

pub repeats_exactly : (xs : List ℕ) (r : Option ℕ) → r ≡ repeat_in xs → RepeatsExactly xs r
repeats_exactly xs r e = record {
  none = λ h. none_after 0 [] xs (sym e ∙ h);
  distinct = λ d. e ∙ distinct_none 0 [] xs d;
  some = λ i h.
      let g = some_after 0 i [] xs (sym e ∙ h) in
      let f = g.2 in
      record { before = f.before; number = f.number; after = f.after; parts = f.parts; index = omega (arith, g.1, f.index); distinct = f.distinct; repeats = f.repeats };
  named = λ i l. e ∙ ap repeat_in l.parts ∙ found_after 0 [] l.before l.number l.after i (omega (arith, l.index)) l.distinct l.repeats;
}
