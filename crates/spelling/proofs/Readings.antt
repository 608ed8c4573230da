-- The words of a text: reading them from the left, and the numbers that they spell. Assumes nothing.
use Rattle.std.proofs.Common.{◌≡◌, ℕ, suc, ◌+◌, ◌≤◌, true, false, cond, eqb, List, [], ◌∷◌, ◌++◌, map, length, Some, None, Ok, decimal, Option, sym, refl, ap, ◌∙◌, subst, inl, inr, arith}
use Rattle.std.proofs.ByRecursion.{All-weaker}
use Rattle.std.proofs.lemmas.List.{length-map}
use Rattle.std.proofs.lemmas.Bool.{cases_Bool, eqb-true, eqb-false, eq-eqb, ne_eqb}
use Rattle.std.specs.Iterator.{YieldsFirst}
use Rattle.std.specs.List.{AllByRecursion, position_from}
use Rattle.std.specs.Option.{is_none, option_map, some_prefix}
use Rattle.std.proofs.lemmas.Iterator.{YieldsList}
use Rattle.std.proofs.lemmas.Iterator.Consumers.{YieldsList-from_first, YieldsList-from_shown}
use Rattle.spelling.specs.declared.words.Readings.{Readings}
use Rattle.spelling.specs.declared.words.Words.{Words}
use Rattle.spelling.specs.Views.{numbers_of, readings_left, Yields}
use Rattle.spelling.specs.Cuts.{until, since, afters, none}
use Rattle.spelling.specs.Grammar.{Digit, Word, Spelled, Ends, Small, spell}
use Rattle.spelling.specs.Reading.{unless, words_read}
use Rattle.spelling.specs.Words.{spelled, readings, malformed, numbers_in}
use Rattle.spelling.proofs.Cutting.{until_since, afters_since}
use Rattle.spelling.proofs.Spelling.{word_from_spelled, spelled_from_word, word_decimal}

-- ---- the steps of reading from the left

-- Text that does not begin with a space is a malformed word.
pub readings_stray : (b : ℕ) (bs : List ℕ) → (b ≡ 32 → ⊥) → readings (b ∷ bs) ≡ None ∷ []
readings_stray b bs h =
    ap (λ t. cond (none (cond t [] (b ∷ until 32 bs))) (map spelled (cond t (until 32 bs ∷ afters 32 bs) (afters 32 bs))) (None ∷ [])) (ne_eqb b 32 h)

-- A space begins a word, which the next space or the end closes.
pub readings_space : (bs : List ℕ) → readings (32 ∷ bs) ≡ spelled (until 32 bs) ∷ readings (since 32 bs)
readings_space bs =
    ap (λ l. spelled (until 32 bs) ∷ l) (sym (
    ap (λ l. cond (none l) (map spelled (afters 32 (since 32 bs))) (None ∷ [])) (until_since 32 bs)
    ∙ ap (map spelled) (afters_since 32 bs)
    ))

-- What is left of a text begins with a space and then a word, malformed or not.
pub turn_word : (rest after w next : List ℕ) (o : Option ℕ) → rest ≡ 32 ∷ after → w ≡ until 32 after → next ≡ since 32 after → o ≡ spelled w → readings rest ≡ o ∷ readings next
turn_word rest after w next o is front back value =
    ap readings is
    ∙ readings_space after
    ∙ ap (λ x. x ∷ readings (since 32 after)) (ap spelled (sym front) ∙ sym value)
    ∙ ap (λ l. o ∷ readings l) (sym back)

-- The place of the first reading that is none, counted from one more.
pub place_more : (k : ℕ) (os : List (Option ℕ)) → option_map (λ i. i + 1) (position_from is_none k os) ≡ position_from is_none (k + 1) os
place_more k [] = refl
place_more k (None ∷ os) = refl
place_more k (Some n ∷ os) = place_more (k + 1) os

-- There are no more numbers than bytes.
few_leading : (os : List (Option ℕ)) → length (some_prefix os) ≤ length os
few_leading [] = omega arith
few_leading (None ∷ os) = omega arith
few_leading (Some n ∷ os) = omega (arith, few_leading os)

few_afters : (bs : List ℕ) → length (afters 32 bs) ≤ length bs
few_afters [] = omega arith
few_afters (b ∷ bs) =
    elim (eqb b 32) as (λ t. length (cond t (until 32 bs ∷ afters 32 bs) (afters 32 bs)) ≤ suc (length bs)) [ true ↦ omega (arith, few_afters bs) | false ↦ omega (arith, few_afters bs) ]

pub few_readings : (bs : List ℕ) → length (readings bs) ≤ length bs
few_readings [] = omega arith
few_readings (b ∷ bs) =
    let text : List ℕ = b ∷ bs in
    elim (none (until 32 text)) as (λ t. length (cond t (map spelled (afters 32 text)) (None ∷ [])) ≤ length text) [ true ↦ omega (arith, few_afters text, length-map (afters 32 text) spelled) | false ↦ omega arith ]

pub few_numbers : (bs : List ℕ) → length (numbers_in bs) ≤ length bs
few_numbers bs = omega (arith, few_leading (readings bs), few_readings bs)

-- The readings that an iterator has still to give.
pub readings_road : (s : Readings) → YieldsList (YieldsFirst readings_left) (λ o. o) s (readings_left s)
readings_road s = YieldsList-from_first (λ o. o) readings_left (readings_left s) refl

-- The numbers that a view has still to give.
abbrev pub word_steps : Words → Option ℕ → Words → Type 0
word_steps s r t = Yields (numbers_of s) r (numbers_of t)

pub numbers_road : (s : Words) → YieldsList word_steps (λ n. n) s (numbers_of s)
numbers_road s = YieldsList-from_shown word_steps (λ n. n) numbers_of (λ s t h. ap length h.0) (λ s x t h. h) s

-- ---- texts as words after spaces

-- Bytes without a space.
abbrev pub Unspaced : List ℕ → Type 0
Unspaced bs = AllByRecursion (λ b. b ≡ 32 → ⊥) bs

-- Words written one after another, each after a space.
abbrev pub spaced : List (List ℕ) → List ℕ
spaced [] = []
spaced (w ∷ ws) = 32 ∷ (w ++ spaced ws)

pub spaced_ends : (ws : List (List ℕ)) → Ends (spaced ws)
spaced_ends [] = tt
spaced_ends (w ∷ ws) = refl

-- A text is what stands before the first space, and then its words.
pub apart : (bs : List ℕ) → until 32 bs ++ spaced (afters 32 bs) ≡ bs
apart [] = refl
apart (b ∷ bs) =
    elim (cases_Bool (eqb b 32)) [
      | inl e ↦
          ap (λ t. cond t [] (b ∷ until 32 bs) ++ spaced (cond t (until 32 bs ∷ afters 32 bs) (afters 32 bs))) e
          ∙ ap (λ l. 32 ∷ l) (apart bs) ∙ ap (λ c. c ∷ bs) (sym (eqb-true b 32 e))
      | inr e ↦
          ap (λ t. cond t [] (b ∷ until 32 bs) ++ spaced (cond t (until 32 bs ∷ afters 32 bs) (afters 32 bs))) e
          ∙ ap (λ l. b ∷ l) (apart bs)
    ]

until_unspaced : (bs : List ℕ) → Unspaced (until 32 bs)
until_unspaced [] = tt
until_unspaced (b ∷ bs) =
    elim (cases_Bool (eqb b 32)) [
      | inl e ↦ rw e tt
      | inr e ↦ rw e (eqb-false b 32 e, until_unspaced bs)
    ]

pub afters_unspaced : (bs : List ℕ) → AllByRecursion Unspaced (afters 32 bs)
afters_unspaced [] = tt
afters_unspaced (b ∷ bs) =
    elim (cases_Bool (eqb b 32)) [
      | inl e ↦ rw e (until_unspaced bs, afters_unspaced bs)
      | inr e ↦ rw e (afters_unspaced bs)
    ]

-- Bytes without a space, where a word ends after them, are all that stands before the first space.
cut_here : (rest : List ℕ) → Ends rest → (until 32 rest ≡ []) × (since 32 rest ≡ rest)
cut_here [] e = (refl, refl)
cut_here (b ∷ bs) e = (
  ap (λ t. cond t [] (b ∷ until 32 bs)) (eq-eqb b 32 e),
  ap (λ t. cond t (b ∷ bs) (since 32 bs)) (eq-eqb b 32 e),
)

pub cut_after : (w rest : List ℕ) → Unspaced w → Ends rest → (until 32 (w ++ rest) ≡ w) × (since 32 (w ++ rest) ≡ rest)
cut_after [] rest u e = cut_here rest e
cut_after (b ∷ w) rest u e =
    let g = cut_after w rest u.1 e in (
      ap (λ t. cond t [] (b ∷ until 32 (w ++ rest))) (ne_eqb b 32 u.0) ∙ ap (λ l. b ∷ l) g.0,
      ap (λ t. cond t (b ∷ (w ++ rest)) (since 32 (w ++ rest))) (ne_eqb b 32 u.0) ∙ g.1,
    )

-- Digits are no spaces.
pub unspaced_word : (w : List ℕ) (n : ℕ) → Word w n → Unspaced w
unspaced_word w n h = All-weaker Digit (λ b. b ≡ 32 → ⊥) (λ b d e. omega arith) w h.digits

-- ---- from readings to the grammar

sound_words : (k : ℕ) (ws : List (List ℕ)) → position_from is_none k (map spelled ws) ≡ None → Spelled (spaced ws) (some_prefix (map spelled ws))
sound_words k [] e = refl
sound_words k (w ∷ ws) e = next (spelled w) refl e (sound_words (k + 1) ws)
  where
    next : (o : Option ℕ) → spelled w ≡ o → position_from is_none k (o ∷ map spelled ws) ≡ None → (position_from is_none (k + 1) (map spelled ws) ≡ None → Spelled (spaced ws) (some_prefix (map spelled ws))) → Spelled (spaced (w ∷ ws)) (some_prefix (o ∷ map spelled ws))
    next None is f on = cc
    next (Some n) is f on = (w, spaced ws, refl, word_from_spelled w n is, on f)

-- A text whose readings have no gap spells them.
pub sound : (text : List ℕ) → malformed text ≡ None → Spelled text (numbers_in text)
sound text e = at (until 32 text) refl (apart text) e
  where
    ws : List (List ℕ)
    ws = afters 32 text

    at : (front : List ℕ) → until 32 text ≡ front → until 32 text ++ spaced (afters 32 text) ≡ text → position_from is_none 1 (cond (none front) (map spelled (afters 32 text)) (None ∷ [])) ≡ None → Spelled text (some_prefix (readings text))
    at [] is whole f =
        let here : readings text ≡ map spelled (afters 32 text) = ap (λ l. cond (none l) (map spelled (afters 32 text)) (None ∷ [])) is in
        let same : spaced (afters 32 text) ≡ text = sym (ap (λ l. l ++ spaced (afters 32 text)) is) ∙ whole in
        subst (λ l. Spelled text (some_prefix l)) (sym here) (subst (λ t. Spelled t (some_prefix (map spelled (afters 32 text)))) same (sound_words 1 (afters 32 text) f))
    at (b ∷ bs) is whole f = cc

-- ---- from the grammar to readings

pub spelled_ends : (text ns : List ℕ) → Spelled text ns → Ends text
spelled_ends text [] s = subst Ends (sym s) tt
spelled_ends text (n ∷ ns) s = subst Ends (sym s.2) refl

-- A text that spells numbers is read as them.
pub complete : (text ns : List ℕ) → Spelled text ns → readings text ≡ map Some ns
complete text [] s = ap readings s
complete text (n ∷ ns) s =
    let w = s.0 in
    let rest = s.1 in
    let g = cut_after w rest (unspaced_word w n s.3) (spelled_ends rest ns s.4) in
    ap readings s.2
    ∙ readings_space (w ++ rest)
    ∙ ap (λ l. spelled l ∷ readings (since 32 (w ++ rest))) g.0
    ∙ ap (λ o. o ∷ readings (since 32 (w ++ rest))) (spelled_from_word w n s.3)
    ∙ ap (λ l. Some n ∷ readings l) g.1
    ∙ ap (λ l. Some n ∷ l) (complete rest ns s.4)

gap_none : (k : ℕ) (ns : List ℕ) → position_from is_none k (map Some ns) ≡ None
gap_none k [] = refl
gap_none k (n ∷ ns) = gap_none (k + 1) ns

leading_all : (ns : List ℕ) → some_prefix (map Some ns) ≡ ns
leading_all [] = refl
leading_all (n ∷ ns) = ap (λ l. n ∷ l) (leading_all ns)

pub reads : (text ns : List ℕ) → Spelled text ns → words_read text ≡ Ok ns
reads text ns s =
    let c = complete text ns s in
    ap (λ os. unless (position_from is_none 1 os) (some_prefix os)) c ∙ ap (λ o. unless o (some_prefix (map Some ns))) (gap_none 1 ns) ∙ ap Ok (leading_all ns)

-- What `spell` writes is spelled.
pub spell_spelled : (ns : List ℕ) → Small ns → Spelled (spell ns) ns
spell_spelled [] h = refl
spell_spelled (n ∷ ns) h = (decimal n, spell ns, refl, word_decimal n h.0, spell_spelled ns h.1)
