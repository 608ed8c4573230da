-- Laws of `until`, `since` and `afters`. Assumes nothing.
use Rattle.std.proofs.Common.{◌≡◌, ℕ, suc, ◌+◌, ◌≤◌, true, false, cond, eqb, List, [], ◌∷◌, length, take, drop, sym, refl, ap, ◌∙◌, inl, inr, add-one, arith, ◌≢◌}
use Rattle.std.proofs.lemmas.Bool.{cases_Bool, eq-eqb, ne_eqb}
use Rattle.spelling.specs.Cuts.{until, since, afters}

-- Nothing stands before a c, and any other byte is one more.
pub until_here : (c b : ℕ) (bs : List ℕ) → b ≡ c → length (until c (b ∷ bs)) ≡ 0
until_here c b bs e = ap (λ t. length (cond t [] (b ∷ until c bs))) (eq-eqb b c e)

pub until_more : (c b : ℕ) (bs : List ℕ) → b ≢ c → length (until c (b ∷ bs)) ≡ length (until c bs) + 1
until_more c b bs e = ap (λ t. length (cond t [] (b ∷ until c bs))) (ne_eqb b c e) ∙ sym (add-one _)

-- A cut at the length of `until` gives `until`, and then `since`.
pub take_until : (c : ℕ) (bs : List ℕ) → take (length (until c bs)) bs ≡ until c bs
take_until c [] = refl
take_until c (b ∷ bs) =
    elim (eqb b c) as (λ t. take (length (cond t [] (b ∷ until c bs))) (b ∷ bs) ≡ cond t [] (b ∷ until c bs)) [ true ↦ refl | false ↦ ap (λ l. b ∷ l) (take_until c bs) ]

pub drop_until : (c : ℕ) (bs : List ℕ) → drop (length (until c bs)) bs ≡ since c bs
drop_until c [] = refl
drop_until c (b ∷ bs) =
    elim (eqb b c) as (λ t. drop (length (cond t [] (b ∷ until c bs))) (b ∷ bs) ≡ cond t (b ∷ bs) (since c bs)) [ true ↦ refl | false ↦ drop_until c bs ]

-- What `since` leaves begins with c, and has the same parts after each c.
pub until_since : (c : ℕ) (bs : List ℕ) → until c (since c bs) ≡ []
until_since c [] = refl
until_since c (b ∷ bs) =
    elim (cases_Bool (eqb b c)) [
      | inl e ↦ ap (λ t. until c (cond t (b ∷ bs) (since c bs))) e ∙ ap (λ t. cond t [] (b ∷ until c bs)) e
      | inr e ↦ ap (λ t. until c (cond t (b ∷ bs) (since c bs))) e ∙ until_since c bs
    ]

pub afters_since : (c : ℕ) (bs : List ℕ) → afters c (since c bs) ≡ afters c bs
afters_since c [] = refl
afters_since c (b ∷ bs) =
    elim (cases_Bool (eqb b c)) [
      | inl e ↦ ap (λ t. afters c (cond t (b ∷ bs) (since c bs))) e
      | inr e ↦ ap (λ t. afters c (cond t (b ∷ bs) (since c bs))) e ∙ afters_since c bs ∙ sym (ap (λ t. cond t (until c bs ∷ afters c bs) (afters c bs)) e)
    ]

pub length_since : (c : ℕ) (bs : List ℕ) → length (since c bs) ≤ length bs
length_since c [] = omega arith
length_since c (b ∷ bs) =
    elim (eqb b c) as (λ t. length (cond t (b ∷ bs) (since c bs)) ≤ suc (length bs)) [ true ↦ omega arith | false ↦ omega (arith, length_since c bs) ]

pub length_until : (c : ℕ) (bs : List ℕ) → length (until c bs) ≤ length bs
length_until c [] = omega arith
length_until c (b ∷ bs) =
    elim (eqb b c) as (λ t. length (cond t [] (b ∷ until c bs)) ≤ suc (length bs)) [ true ↦ omega arith | false ↦ omega (arith, length_until c bs) ]
