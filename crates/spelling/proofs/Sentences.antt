-- The leftmost malformed word, and what reading the words of a text means. Assumes nothing.
use Rattle.std.proofs.Common.{◌≡◌, ℕ, suc, ◌+◌, ◌≤◌, true, false, cond, eqb, List, [], ◌∷◌, ◌++◌, map, length, Some, None, Ok, Err, Option, Result, sym, refl, ap, ◌∙◌, subst, inl, inr, append_assoc, arith}
use Rattle.std.proofs.lemmas.Bool.{cases_Bool, eqb-true, eqb-false}
use Rattle.std.specs.List.{AllByRecursion, position_from}
use Rattle.std.specs.Option.{is_none}
use Rattle.spelling.specs.declared.fault.WordFault.{WordFault}
use Rattle.spelling.specs.declared.fault.WordFault.TheVariants.{Malformed}
use Rattle.spelling.specs.Cuts.{until, since, afters, none}
use Rattle.spelling.specs.Grammar.{Spelled, Ends, BeginsWithWord, LeftmostMalformed}
use Rattle.spelling.specs.Reading.{unless, words_read, ReadsByGrammar}
use Rattle.spelling.specs.Words.{spelled, readings, malformed, numbers_in}
use Rattle.spelling.proofs.Spelling.{word_from_spelled, spelled_from_word}
use Rattle.spelling.proofs.Readings.{readings_stray, readings_space, Unspaced, spaced, spaced_ends, apart, afters_unspaced, cut_after, unspaced_word, sound, reads, spell_spelled}

-- ---- the leftmost malformed word

same_tail : (b : ℕ) (xs ys : List ℕ) → b ∷ xs ≡ b ∷ ys → xs ≡ ys
same_tail b xs ys e = cc

-- Where a word spells no number, no word begins there.
no_word : (w rest : List ℕ) → Unspaced w → Ends rest → spelled w ≡ None → BeginsWithWord (32 ∷ (w ++ rest)) → ⊥
no_word w rest u ends none b =
    let v = b.0 in
    let after = b.1 in
    let n = b.2 in
    let same : w ++ rest ≡ v ++ after = same_tail 32 (w ++ rest) (v ++ after) b.3 in
    let is : w ≡ v = sym (cut_after w rest u ends).0 ∙ ap (until 32) same ∙ (cut_after v after (unspaced_word v n b.5) b.4).0 in
    let one : ◌≡◌ {A = Option ℕ} None (Some n) = sym none ∙ ap spelled is ∙ spelled_from_word v n b.5 in
    cc

-- A gap among words: those before it are spelled.
record Gap (j : ℕ) (text : List ℕ) (k : ℕ) : Type 0 where
  before : List ℕ
  rest : List ℕ
  numbers : List ℕ
  parts : text ≡ before ++ rest
  spelled : Spelled before numbers
  place : k ≡ j + length numbers
  more : 1 ≤ length rest
  ends : Ends rest
  broken : BeginsWithWord rest → ⊥

gap_words : (j k : ℕ) (ws : List (List ℕ)) → AllByRecursion Unspaced ws → position_from is_none j (map spelled ws) ≡ Some k → Gap j (spaced ws) k
gap_words j k [] u e = cc
gap_words j k (w ∷ ws) u e = next (spelled w) refl e (gap_words (j + 1) k ws u.1)
  where
    next : (o : Option ℕ) → spelled w ≡ o → position_from is_none j (o ∷ map spelled ws) ≡ Some k → (position_from is_none (j + 1) (map spelled ws) ≡ Some k → Gap (j + 1) (spaced ws) k) → Gap j (spaced (w ∷ ws)) k
    next None is f on =
        let same : j ≡ k = cc in
        record { before = []; rest = spaced (w ∷ ws); numbers = []; parts = refl; spelled = refl; place = omega arith; more = omega arith; ends = refl; broken = no_word w (spaced ws) u.0 (spaced_ends ws) is }
    next (Some n) is f on =
        let g = on f in
        record {
          before = 32 ∷ (w ++ g.before);
          rest = g.rest;
          numbers = n ∷ g.numbers;
          parts = ap (λ l. 32 ∷ (w ++ l)) g.parts ∙ ap (λ l. 32 ∷ l) (sym (append_assoc w g.before g.rest));
          spelled = (w, g.before, refl, word_from_spelled w n is, g.spelled);
          place = omega (arith, g.place);
          more = g.more;
          ends = g.ends;
          broken = g.broken;
        }

-- Text that does not begin with a space begins with no word.
stray : (text : List ℕ) (b : ℕ) (bs : List ℕ) → until 32 text ≡ b ∷ bs → BeginsWithWord text → ⊥
stray text b bs is w =
    let none : until 32 text ≡ [] = ap (until 32) w.3 in
    let both : ◌≡◌ {A = List ℕ} (b ∷ bs) [] = sym is ∙ none in
    cc

some_bytes : (text : List ℕ) (b : ℕ) (bs : List ℕ) → until 32 text ≡ b ∷ bs → 1 ≤ length text
some_bytes [] b bs is = cc
some_bytes (c ∷ text) b bs is = omega arith

pub leftmost : (text : List ℕ) (k : ℕ) → malformed text ≡ Some k → LeftmostMalformed text k
leftmost text k e = at (until 32 text) refl e
  where
    at : (front : List ℕ) → until 32 text ≡ front → position_from is_none 1 (cond (none front) (map spelled (afters 32 text)) (None ∷ [])) ≡ Some k → LeftmostMalformed text k
    at [] is f =
        let g = gap_words 1 k (afters 32 text) (afters_unspaced text) f in
        let same : spaced (afters 32 text) ≡ text = sym (ap (λ l. l ++ spaced (afters 32 text)) is) ∙ apart text in
        record { before = g.before; rest = g.rest; numbers = g.numbers; parts = sym same ∙ g.parts; spelled = g.spelled; place = omega (arith, g.place); more = g.more; edge = λ _. g.ends; broken = g.broken }
    at (b ∷ bs) is f =
        let same : 1 ≡ k = cc in
        record { before = []; rest = text; numbers = []; parts = refl; spelled = refl; place = omega arith; more = some_bytes text b bs is; edge = λ h. absurd (omega arith); broken = stray text b bs is }

-- The other way round: what the grammar calls the leftmost malformed word is the first gap.
join_cut : (bs : List ℕ) → until 32 bs ++ since 32 bs ≡ bs
join_cut [] = refl
join_cut (b ∷ bs) = elim (eqb b 32) as (λ t. cond t [] (b ∷ until 32 bs) ++ cond t (b ∷ bs) (since 32 bs) ≡ b ∷ bs) [ true ↦ refl | false ↦ ap (λ l. b ∷ l) (join_cut bs) ]

since_ends : (bs : List ℕ) → Ends (since 32 bs)
since_ends [] = tt
since_ends (b ∷ bs) =
    elim (cases_Bool (eqb b 32)) [
      | inl e ↦ rw e (eqb-true b 32 e)
      | inr e ↦ rw e (since_ends bs)
    ]

ends_join : (front rest ns : List ℕ) → Spelled front ns → Ends rest → Ends (front ++ rest)
ends_join front rest [] s e = subst (λ l. Ends (l ++ rest)) (sym s) e
ends_join front rest (n ∷ ns) s e = subst (λ l. Ends (l ++ rest)) (sym s.2) refl

after_words : (front rest ns : List ℕ) → Spelled front ns → (1 ≤ length ns → Ends rest) → readings (front ++ rest) ≡ map Some ns ++ readings rest
after_words front rest [] s e = ap (λ l. readings (l ++ rest)) s
after_words front rest (n ∷ ns) s e =
    let w = s.0 in
    let more = s.1 in
    let end : Ends rest = e (omega arith) in
    let g = cut_after w (more ++ rest) (unspaced_word w n s.3) (ends_join more rest ns s.4 end) in
    ap (λ l. readings (l ++ rest)) s.2
    ∙ ap (λ l. readings (32 ∷ l)) (append_assoc w more rest)
    ∙ readings_space (w ++ (more ++ rest))
    ∙ ap (λ l. spelled l ∷ readings (since 32 (w ++ (more ++ rest)))) g.0
    ∙ ap (λ o. o ∷ readings (since 32 (w ++ (more ++ rest)))) (spelled_from_word w n s.3)
    ∙ ap (λ l. Some n ∷ readings l) g.1
    ∙ ap (λ l. Some n ∷ l) (after_words more rest ns s.4 (λ _. end))

none_first : (rest : List ℕ) → 1 ≤ length rest → (BeginsWithWord rest → ⊥) → (os : List (Option ℕ)) × (readings rest ≡ None ∷ os)
none_first [] h broken = absurd (omega arith)
none_first (b ∷ bs) h broken =
    elim (cases_Bool (eqb b 32)) [
      | inl e ↦ at (eqb-true b 32 e) (spelled (until 32 bs)) refl
      | inr e ↦ ([], readings_stray b bs (eqb-false b 32 e))
    ]
  where
    at : b ≡ 32 → (o : Option ℕ) → spelled (until 32 bs) ≡ o → (os : List (Option ℕ)) × (readings (b ∷ bs) ≡ None ∷ os)
    at space None is = (readings (since 32 bs), ap (λ c. readings (c ∷ bs)) space ∙ readings_space bs ∙ ap (λ o. o ∷ readings (since 32 bs)) is)
    at space (Some n) is = absurd (broken (until 32 bs, since 32 bs, n, ap (λ c. c ∷ bs) space ∙ ap (λ l. 32 ∷ l) (sym (join_cut bs)), since_ends bs, word_from_spelled (until 32 bs) n is))

gap_at : (k : ℕ) (ns : List ℕ) (os : List (Option ℕ)) → position_from is_none k (map Some ns ++ None ∷ os) ≡ Some (k + length ns)
gap_at k [] os = let same : k ≡ k + 0 = omega arith in ap Some same
gap_at k (n ∷ ns) os = let same : k + 1 + length ns ≡ k + suc (length ns) = omega arith in gap_at (k + 1) ns os ∙ ap Some same

pub named : (text : List ℕ) (k : ℕ) → LeftmostMalformed text k → malformed text ≡ Some k
named text k h =
    let g = none_first h.rest h.more h.broken in
    let same : 1 + length h.numbers ≡ k = omega (arith, h.place) in
    ap (λ l. position_from is_none 1 (readings l)) h.parts
    ∙ ap (position_from is_none 1) (after_words h.before h.rest h.numbers h.spelled h.edge ∙ ap (λ os. map Some h.numbers ++ os) g.1)
    ∙ gap_at 1 h.numbers g.0
    ∙ ap Some same

-- ---- all together

pub reads_by_grammar : (text : List ℕ) (r : Result (List ℕ) WordFault) → r ≡ words_read text → ReadsByGrammar text r
reads_by_grammar text r e = at (malformed text) refl
  where
    at : (o : Option ℕ) → malformed text ≡ o → ReadsByGrammar text r
    at None is =
        let good : r ≡ Ok (numbers_in text) = e ∙ ap (λ o. unless o (numbers_in text)) is in
        record {
          sound = λ ns h. let same : numbers_in text ≡ ns = cc in subst (Spelled text) same (sound text is);
          complete = λ ns s. e ∙ reads text ns s;
          returns = λ ns small t. e ∙ reads text ns (subst (λ l. Spelled l ns) (sym t) (spell_spelled ns small));
          leftmost = λ k h. cc;
          named = λ k h. e ∙ ap (λ o. unless o (numbers_in text)) (named text k h);
          only = λ f h. cc;
        }
    at (Some k) is =
        let bad : r ≡ Err (Malformed k) = e ∙ ap (λ o. unless o (numbers_in text)) is in
        record {
          sound = λ ns h. cc;
          complete = λ ns s. e ∙ reads text ns s;
          returns = λ ns small t. e ∙ reads text ns (subst (λ l. Spelled l ns) (sym t) (spell_spelled ns small));
          leftmost = λ j h. let same : k ≡ j = cc in leftmost text j (is ∙ ap Some same);
          named = λ j h. e ∙ ap (λ o. unless o (numbers_in text)) (named text j h);
          only = λ f h. (k, cc);
        }
