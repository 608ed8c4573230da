-- Laws of the lines of a file. Assumes nothing.
use Rattle.std.proofs.Common.{◌≡◌, ℕ, zero, suc, ◌-◌, ◌<◌, ◌≤◌, true, false, cond, eqb, List, [], ◌∷◌, length, drop, Option, refl, ap, subst, arith, length-drop, Bor}
use Rattle.std.proofs.lemmas.Iterator.{YieldsList}
use Rattle.std.proofs.lemmas.Iterator.Consumers.{YieldsList-from_shown}
use Rattle.std.specs.List.{slice_get}
use Rattle.spelling.specs.declared.lines.Lines.{Lines}
use Rattle.spelling.specs.Cuts.{until, since}
use Rattle.spelling.specs.Lines.{onto, lines, numbered, past, Gives}
use Rattle.spelling.proofs.Cutting.{length_since}

-- The first line ends at the first line feed, and the others are the lines of what stands after it.
pub lines_step : (bs : List ℕ) → 0 < length bs → lines bs ≡ until 10 bs ∷ lines (past bs)
lines_step [] h = absurd (omega arith)
lines_step (b ∷ []) h =
    elim (eqb b 10) as (λ t. cond t ([] ∷ []) ((b ∷ []) ∷ []) ≡ cond t [] (b ∷ []) ∷ lines (drop 1 (cond t (b ∷ []) []))) [ true ↦ refl | false ↦ refl ]
lines_step (b ∷ d ∷ ds) h =
    let bs : List ℕ = d ∷ ds in
    elim (eqb b 10) as (λ t. cond t ([] ∷ lines bs) (onto b (lines bs)) ≡ cond t [] (b ∷ until 10 bs) ∷ lines (drop 1 (cond t (b ∷ bs) (since 10 bs)))) [ true ↦ refl | false ↦ ap (onto b) (lines_step (d ∷ ds) (omega arith)) ]

-- What stands after the first line is shorter.
pub length_past : (bs : List ℕ) → 0 < length bs → length (past bs) < length bs
length_past bs h = omega (arith, length-drop 1 (since 10 bs), length_since 10 bs)

-- The lines that an iterator has still to give.
abbrev pub line_steps : Lines → Option (Bor (List ℕ)) → Lines → Type 0
line_steps s r t = Gives s.rest.now r t.rest.now

pub road_of : (s : Lines) (bs : List ℕ) → s.rest.now ≡ bs → YieldsList line_steps (λ x. x.now) s (lines bs)
road_of s bs e =
    subst (λ l. YieldsList line_steps (λ x. x.now) s (lines l)) e
    (YieldsList-from_shown line_steps (λ x. x.now) (λ t. lines t.rest.now) (λ s t h. ap length h.0) (λ s x t h. h) s)

-- The number counts from 1.
pub numbered_is : {X : Type 0} (xs : List X) (n k : ℕ) → 1 ≤ n → k ≡ n - 1 → slice_get xs k ≡ numbered xs n
numbered_is xs zero k h e = absurd (omega arith)
numbered_is xs (suc j) k h e = let same : k ≡ j = omega arith in ap (slice_get xs) same
