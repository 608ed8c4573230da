-- The lines of a file, written again, are the file. Assumes nothing.
use Rattle.std.proofs.Common.{◌≡◌, ℕ, ◌<◌, cond, eqb, List, [], ◌∷◌, ◌++◌, length, sym, refl, ap, ◌∙◌, inl, inr, arith}
use Rattle.std.proofs.lemmas.Bool.{cases_Bool, eqb-true, eqb-false, ne_eqb}
use Rattle.std.specs.List.{AllByRecursion}
use Rattle.spelling.specs.Lines.{onto, lines, fed, Unfed, closed, Rejoins}
use Rattle.spelling.proofs.Filing.{lines_step}

-- A file with a byte has a line.
some_line : (bs : List ℕ) → 0 < length bs → 0 < length (lines bs)
some_line bs h = omega (arith, ap length (lines_step bs h))

-- A byte put before the first line is written before it.
fed_onto : (b : ℕ) (ls : List (List ℕ)) → 0 < length ls → fed (onto b ls) ≡ b ∷ fed ls
fed_onto b [] h = absurd (omega arith)
fed_onto b (l ∷ ls) h = refl

pub fed_lines : (bs : List ℕ) → fed (lines bs) ≡ closed bs
fed_lines [] = refl
fed_lines (b ∷ []) =
    elim (cases_Bool (eqb b 10)) [
      | inl e ↦ rw e (ap (λ c. c ∷ []) (sym (eqb-true b 10 e)))
      | inr e ↦ rw e refl
    ]
fed_lines (b ∷ d ∷ ds) =
    elim (cases_Bool (eqb b 10)) [
      | inl e ↦ rw e (ap (λ l. 10 ∷ l) (fed_lines (d ∷ ds)) ∙ ap (λ c. c ∷ closed (d ∷ ds)) (sym (eqb-true b 10 e)))
      | inr e ↦ rw e (fed_onto b (lines (d ∷ ds)) (some_line (d ∷ ds) (omega arith)) ∙ ap (λ l. b ∷ l) (fed_lines (d ∷ ds)))
    ]

unfed_onto : (b : ℕ) (ls : List (List ℕ)) → (b ≡ 10 → ⊥) → AllByRecursion Unfed ls → AllByRecursion Unfed (onto b ls)
unfed_onto b [] h u = ((h, tt), tt)
unfed_onto b (l ∷ ls) h u = ((h, u.0), u.1)

pub unfed_lines : (bs : List ℕ) → AllByRecursion Unfed (lines bs)
unfed_lines [] = tt
unfed_lines (b ∷ bs) =
    elim (cases_Bool (eqb b 10)) [
      | inl e ↦ rw e (tt, unfed_lines bs)
      | inr e ↦ rw e (unfed_onto b (lines bs) (eqb-false b 10 e) (unfed_lines bs))
    ]

-- A line without line feeds stays whole before its own.
before_feed : (l bs : List ℕ) → Unfed l → lines (l ++ 10 ∷ bs) ≡ l ∷ lines bs
before_feed [] bs u = refl
before_feed (b ∷ l) bs u =
    ap (λ t. cond t ([] ∷ lines (l ++ 10 ∷ bs)) (onto b (lines (l ++ 10 ∷ bs)))) (ne_eqb b 10 u.0) ∙ ap (onto b) (before_feed l bs u.1)

lines_fed : (ls : List (List ℕ)) → AllByRecursion Unfed ls → lines (fed ls) ≡ ls
lines_fed [] u = refl
lines_fed (l ∷ ls) u = before_feed l (fed ls) u.0 ∙ ap (λ x. l ∷ x) (lines_fed ls u.1)

pub rejoins : (file : List ℕ) → Rejoins file (lines file)
rejoins file = record {
  whole = fed_lines file;
  apart = unfed_lines file;
  only = λ ms u e. sym (lines_fed ms u) ∙ ap lines (e ∙ sym (fed_lines file)) ∙ lines_fed (lines file) (unfed_lines file);
}
