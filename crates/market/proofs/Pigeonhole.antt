-- Different numbers in a range: there are no more of them than the range has, and as many as it has are all of them. Assumes nothing.
use Rattle.std.proofs.Common.{◌≡◌, ℕ, zero, suc, ◌≤◌, true, false, cond, eqb, List, [], ◌∷◌, ◌++◌, length, Some, sym, refl, ap, subst, inl, inr, arith}
use Rattle.std.proofs.lemmas.Bool.{cases_Bool, eqb-true, eqb-false}
use Rattle.std.specs.List.{slice_get, AllByRecursion}
use Rattle.market.specs.Distinct.{Absent, DistinctAfter, Distinct}

-- No number stands again after itself: as `Distinct` says, but from the front.
abbrev pub Apart : List ℕ → Type 0
Apart [] = Unit {0}
Apart (x ∷ xs) = Absent x xs × Apart xs

front : {X : Type 0} (P : X → Type 0) (xs ys : List X) → AllByRecursion P (xs ++ ys) → AllByRecursion P xs
front P [] ys a = tt
front P (x ∷ xs) ys a = (a.0, front P xs ys a.1)

last : {X : Type 0} (P : X → Type 0) (xs : List X) (x : X) → AllByRecursion P (xs ++ x ∷ []) → P x
last P [] x a = a.0
last P (y ∷ xs) x a = last P xs x a.1

-- What all of the seen numbers differ from, the later ones differ from.
later : (xs seen : List ℕ) (x : ℕ) → ((y : ℕ) → Absent y seen → y ≡ x → ⊥) → DistinctAfter seen xs → Absent x xs
later [] seen x h d = tt
later (y ∷ xs) seen x h d = (h y d.0, later xs (seen ++ y ∷ []) x (λ z a. h z (front (λ w. w ≡ z → ⊥) seen (y ∷ []) a)) d.1)

pub apart_after : (xs seen : List ℕ) → DistinctAfter seen xs → Apart xs
apart_after [] seen d = tt
apart_after (x ∷ xs) seen d =
    (later xs (seen ++ x ∷ []) x (λ y a e. last (λ w. w ≡ y → ⊥) seen x a (sym e)) d.1, apart_after xs (seen ++ x ∷ []) d.1)

pub apart : (xs : List ℕ) → Distinct xs → Apart xs
apart xs d = apart_after xs [] d

-- Numbers that differ from all seen ones, and from x, differ from all of these.
seen_more : (xs seen : List ℕ) (x : ℕ) → AllByRecursion (λ y. Absent y seen) xs → Absent x xs → AllByRecursion (λ y. Absent y (seen ++ x ∷ [])) xs
seen_more [] seen x a d = tt
seen_more (y ∷ xs) seen x a d = (both seen a.0, seen_more xs seen x a.1 d.1)
  where
    both : (seen : List ℕ) → Absent y seen → Absent y (seen ++ x ∷ [])
    both [] b = (λ e. d.0 (sym e), tt)
    both (z ∷ seen) b = (b.0, both seen b.1)

distinct_after : (xs seen : List ℕ) → AllByRecursion (λ y. Absent y seen) xs → Apart xs → DistinctAfter seen xs
distinct_after [] seen a d = tt
distinct_after (x ∷ xs) seen a d = (a.0, distinct_after xs (seen ++ x ∷ []) (seen_more xs seen x a.1 d.0) d.1)

-- The other way round: from the front to `Distinct`.
pub distinct : (xs : List ℕ) → Apart xs → Distinct xs
distinct xs d = distinct_after xs [] (none xs) d
  where
    none : (xs : List ℕ) → AllByRecursion (λ y. Absent y []) xs
    none [] = tt
    none (x ∷ xs) = (tt, none xs)

-- A number is one of the numbers 1 to n.
abbrev pub UpTo : ℕ → ℕ → Type 0
UpTo n x = (1 ≤ x) × (x ≤ n)

-- A list without a number.
abbrev without : ℕ → List ℕ → List ℕ
without v [] = []
without v (x ∷ xs) = cond (eqb x v) (without v xs) (x ∷ without v xs)

absent_without : (v y : ℕ) (xs : List ℕ) → Absent y xs → Absent y (without v xs)
absent_without v y [] a = tt
absent_without v y (x ∷ xs) a =
    elim (eqb x v) as (λ t. Absent y (cond t (without v xs) (x ∷ without v xs))) [ true ↦ absent_without v y xs a.1 | false ↦ (a.0, absent_without v y xs a.1) ]

apart_without : (v : ℕ) (xs : List ℕ) → Apart xs → Apart (without v xs)
apart_without v [] a = tt
apart_without v (x ∷ xs) a =
    elim (eqb x v) as (λ t. Apart (cond t (without v xs) (x ∷ without v xs))) [ true ↦ apart_without v xs a.1 | false ↦ (absent_without v x xs a.0, apart_without v xs a.1) ]

-- What a list does not have need not be taken out.
none_out : (v : ℕ) (xs : List ℕ) → Absent v xs → length (without v xs) ≡ length xs
none_out v [] a = refl
none_out v (x ∷ xs) a = elim (cases_Bool (eqb x v)) [ inl e ↦ absurd (a.0 (eqb-true x v e)) | inr e ↦ rw e (ap suc (none_out v xs a.1)) ]

one_out : (v : ℕ) (xs : List ℕ) → Apart xs → length xs ≤ suc (length (without v xs))
one_out v [] a = omega arith
one_out v (x ∷ xs) a =
    elim (cases_Bool (eqb x v)) [
      | inl e ↦ rw e (let same : length (without v xs) ≡ length xs = none_out v xs (subst (λ y. Absent y xs) (eqb-true x v e) a.0) in omega arith)
      | inr e ↦ rw e (let rest = one_out v xs a.1 in omega arith)
    ]

below_without : (n : ℕ) (xs : List ℕ) → AllByRecursion (UpTo (suc n)) xs → AllByRecursion (UpTo n) (without (suc n) xs)
below_without n [] a = tt
below_without n (x ∷ xs) a =
    elim (cases_Bool (eqb x (suc n))) [
      | inl e ↦ rw e (below_without n xs a.1)
      | inr e ↦ rw e ((a.0.0, omega (arith, a.0.1, eqb-false x (suc n) e)), below_without n xs a.1)
    ]

-- There are no more different numbers from 1 to n than n.
pub no_more : (n : ℕ) (xs : List ℕ) → Apart xs → AllByRecursion (UpTo n) xs → length xs ≤ n
no_more zero [] a u = omega arith
no_more zero (x ∷ xs) a u = omega (arith, u.0.0, u.0.1)
no_more (suc n) xs a u =
    omega (arith, one_out (suc n) xs a, no_more n (without (suc n) xs) (apart_without (suc n) xs a) (below_without n xs u))

-- A number that a list does not lack stands somewhere in it.
pub somewhere : (x : ℕ) (xs : List ℕ) → (Absent x xs → ⊥) → (i : ℕ) × (slice_get xs i ≡ Some x)
somewhere x [] h = absurd (h tt)
somewhere x (y ∷ xs) h =
    elim (cases_Bool (eqb y x)) [
      | inl e ↦ (0, ap Some (eqb-true y x e))
      | inr e ↦ let found = somewhere x xs (λ a. h (eqb-false y x e, a)) in (suc found.0, found.1)
    ]

-- Of n different numbers from 1 to n, each number from 1 to n is one.
pub each_there : (n : ℕ) (xs : List ℕ) → Distinct xs → AllByRecursion (UpTo n) xs → length xs ≡ n → (x : ℕ) → UpTo n x → (i : ℕ) × (slice_get xs i ≡ Some x)
each_there n xs d u size x h = somewhere x xs (λ a. omega (arith, no_more n (x ∷ xs) (a, apart xs d) (h, u), size))
