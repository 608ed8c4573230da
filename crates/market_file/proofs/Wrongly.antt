-- The counts of the contents: which is the leftmost wrong one. Assumes nothing.
use Rattle.std.proofs.Common.{◌≡◌, ℕ, zero, suc, ◌<◌, Bool, true, false, cond, eqb, leb, ◌⊎◌, Some, None, Option, sym, refl, subst, inl, inr, arith}
use Rattle.std.proofs.lemmas.Bool.{eqb-true, eqb-false, leb-true, leb-false, cases_eq}
use Rattle.std.proofs.lemmas.Bool.Decides.{nat_tests}
use Rattle.market_file.specs.declared.form.Contents.{Contents}
use Rattle.market.specs.declared.sizes.Sizes.{Sizes}
use Rattle.market_file.specs.Contents.{priorities_due, wrong_count, RightContents}
use Rattle.market_file.specs.Keeping.{RightCount, LeftmostWrong}

-- One test of a count: it is right and the tests after it decide, or it is the leftmost wrong one.
failed_test : (b : Bool) (x : Option ℕ) (j i : ℕ) → cond b x (Some j) ≡ Some i → ((b ≡ false) × (j ≡ i)) ⊎ ((b ≡ true) × (x ≡ Some i))
failed_test true x j i e = inr (refl, e)
failed_test false x j i e = inl (refl, cc)

pub right_from : (z : Sizes) (c : Contents) → wrong_count z c ≡ None → RightContents z c
right_from z c e = record {
  seats = grind (arith, nat_tests);
  queues = grind (arith, nat_tests);
  priorities = grind (arith, nat_tests);
  heirs = grind (arith, nat_tests);
  tenants = grind (arith, nat_tests);
  rankings = grind (arith, nat_tests);
}

pub from_right : (z : Sizes) (c : Contents) → RightContents z c → wrong_count z c ≡ None
from_right z c h = grind (arith, nat_tests)

-- All counts before place j are right.
abbrev RightBefore : Sizes → Contents → ℕ → Type 0
RightBefore z c j = (i : ℕ) → i < j → RightCount z c i

one_more : (z : Sizes) (c : Contents) (j : ℕ) → RightBefore z c j → RightCount z c j → RightBefore z c (suc j)
one_more z c j before here i h =
    elim (cases_eq i j) [
      | inl same ↦ subst (RightCount z c) (sym same) here
      | inr other ↦ before i (omega arith)
    ]

none_before : (z : Sizes) (c : Contents) → RightBefore z c 1
none_before z c zero h = tt
none_before z c (suc i) h = absurd (omega arith)

-- The leftmost wrong count is at place j, or the tests after it decide.
wrong_here : (z : Sizes) (c : Contents) (j i : ℕ) → RightBefore z c j → (RightCount z c j → ⊥) → j ≡ i → LeftmostWrong z c i
wrong_here z c j i before wrong same = subst (LeftmostWrong z c) same (before, wrong)

pub leftmost : (z : Sizes) (c : Contents) (i : ℕ) → wrong_count z c ≡ Some i → LeftmostWrong z c i
leftmost z c i e =
    elim (failed_test (eqb c.seats z.places) _ 1 i e) [
      | inl w ↦ wrong_here z c 1 i b1 (eqb-false _ _ w.0) w.1
      | inr p1 ↦
          let b2 = one_more z c 1 b1 (eqb-true _ _ p1.0) in
          elim (failed_test (leb c.queues 1) _ 2 i p1.1) [
            | inl w ↦ wrong_here z c 2 i b2 (λ h. omega (arith, leb-false c.queues 1 w.0)) w.1
            | inr p2 ↦
                let b3 = one_more z c 2 b2 (leb-true _ _ p2.0) in
                elim (failed_test (eqb c.priorities (priorities_due z c.queues)) _ 3 i p2.1) [
                  | inl w ↦ wrong_here z c 3 i b3 (eqb-false _ _ w.0) w.1
                  | inr p3 ↦
                      let b4 = one_more z c 3 b3 (eqb-true _ _ p3.0) in
                      elim (failed_test (leb c.heirs 300) _ 4 i p3.1) [
                        | inl w ↦ wrong_here z c 4 i b4 (λ h. omega (arith, leb-false c.heirs 300 w.0)) w.1
                        | inr p4 ↦
                            let b5 = one_more z c 4 b4 (leb-true _ _ p4.0) in
                            elim (failed_test (leb c.tenants z.places) _ 5 i p4.1) [
                              | inl w ↦ wrong_here z c 5 i b5 (λ h. omega (arith, leb-false c.tenants z.places w.0)) w.1
                              | inr p5 ↦
                                  let b6 = one_more z c 5 b5 (leb-true _ _ p5.0) in
                                  elim (failed_test (leb c.rankings z.agents) None 6 i p5.1) [
                                    | inl w ↦ wrong_here z c 6 i b6 (λ h. omega (arith, leb-false c.rankings z.agents w.0)) w.1
                                    | inr p6 ↦ let both : ◌≡◌ {A = Option ℕ} None (Some i) = p6.1 in absurd cc
                                  ]
                            ]
                      ]
                ]
          ]
    ]
  where
    b1 : RightBefore z c 1
    b1 = none_before z c

-- The other way round: the leftmost wrong count is found.
pub found : (z : Sizes) (c : Contents) (j : ℕ) → LeftmostWrong z c j → wrong_count z c ≡ Some j
found z c zero h = absurd (h.1 tt)
found z c (suc zero) h =
    let here = h.1 in
    grind (arith, nat_tests)
found z c (suc (suc zero)) h =
    let before_1 = h.0 1 (omega arith) in
    let here = h.1 in
    grind (arith, nat_tests)
found z c (suc (suc (suc zero))) h =
    let before_1 = h.0 1 (omega arith) in
    let before_2 = h.0 2 (omega arith) in
    let here = h.1 in
    grind (arith, nat_tests)
found z c (suc (suc (suc (suc zero)))) h =
    let before_1 = h.0 1 (omega arith) in
    let before_2 = h.0 2 (omega arith) in
    let before_3 = h.0 3 (omega arith) in
    let here = h.1 in
    grind (arith, nat_tests)
found z c (suc (suc (suc (suc (suc zero))))) h =
    let before_1 = h.0 1 (omega arith) in
    let before_2 = h.0 2 (omega arith) in
    let before_3 = h.0 3 (omega arith) in
    let before_4 = h.0 4 (omega arith) in
    let here = h.1 in
    grind (arith, nat_tests)
found z c (suc (suc (suc (suc (suc (suc zero)))))) h =
    let before_1 = h.0 1 (omega arith) in
    let before_2 = h.0 2 (omega arith) in
    let before_3 = h.0 3 (omega arith) in
    let before_4 = h.0 4 (omega arith) in
    let before_5 = h.0 5 (omega arith) in
    let here = h.1 in
    grind (arith, nat_tests)
found z c (suc (suc (suc (suc (suc (suc (suc j))))))) h = absurd (h.1 tt)
