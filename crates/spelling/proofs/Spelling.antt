-- One word: what `spelled` reads is what the grammar calls a word, and what `decimal` writes is one. Assumes nothing.
use Rattle.std.proofs.Common.{◌≡◌, ℕ, ◌^◌, ◌<◌, ◌≤◌, true, false, cond, not, ◌&&◌, eqb, ltb, leb, List, [], ◌∷◌, length, get_or, Some, None, decimal, Option, sym, refl, ap, ◌∙◌, subst, inl, inr, arith, rules}
use Rattle.std.proofs.lemmas.Fmt.{digits_decimal, digits_value-decimal, length-decimal-le, decimal_nonempty, first_decimal}
use Rattle.std.proofs.lemmas.Option.{cond_some}
use Rattle.std.proofs.lemmas.Str.Parse.{IsNumeralModel, numerals_by_fold, tells_all_ascii_digits}
use Rattle.std.proofs.lemmas.Bool.{and_parts, and_from, eq-eqb, ne_eqb, le-leb, leb-true, ltb-true, ltb-false, lt-ltb, le-ltb, cases_lt, not-true, not_from_false, and_left, and_right}
use Rattle.std.specs.List.{AllByRecursion}
use Rattle.std.specs.Str.{all_ascii_digits}
use Rattle.spelling.specs.Grammar.{Digit, Word, WordExactly}
use Rattle.spelling.specs.Words.{read_on, shaped, spells, spelled}

-- Our words for digits and their number.
own : IsNumeralModel (λ ds. all_ascii_digits ds ≡ true) (read_on 0)
own = numerals_by_fold _ tells_all_ascii_digits read_on (search rules)

-- A bound that decimal digits are known for.
low : (n : ℕ) → n ≤ 65535 → n < 2 ^ 64
low n h = omega arith

-- The test for digits tells just the digits.
digits_from_test : (bs : List ℕ) → all_ascii_digits bs ≡ true → AllByRecursion Digit bs
digits_from_test [] e = tt
digits_from_test (b ∷ bs) e = let p = tells_all_ascii_digits.parts b bs e in (p.0, digits_from_test bs p.1)

test_from_digits : (bs : List ℕ) → AllByRecursion Digit bs → all_ascii_digits bs ≡ true
test_from_digits [] d = refl
test_from_digits (b ∷ bs) d = tells_all_ascii_digits.more b bs d.0 (test_from_digits bs d.1)

-- The first digit is 0 only if it is the only one.
no_lead : (bs : List ℕ) → not (eqb (get_or bs 0 0) 48 && ltb 1 (length bs)) ≡ true → 0 < length bs → get_or bs 0 0 ≡ 48 → length bs ≡ 1
no_lead bs h some e =
    let f : ltb 1 (length bs) ≡ false = sym (ap (λ t. t && ltb 1 (length bs)) (eq-eqb _ _ e)) ∙ not-true _ h in
    omega (arith, ltb-false 1 (length bs) f)

led : (bs : List ℕ) → (get_or bs 0 0 ≡ 48 → length bs ≡ 1) → (eqb (get_or bs 0 0) 48 && ltb 1 (length bs)) ≡ false
led bs h =
    elim (cases_lt 1 (length bs)) [
      | inl more ↦ and_left _ _ (ne_eqb (get_or bs 0 0) 48 (λ e. omega (arith, h e)))
      | inr one ↦ and_right (eqb (get_or bs 0 0) 48) _ (le-ltb 1 _ one)
    ]

pub word_from_spelled : (w : List ℕ) (n : ℕ) → spelled w ≡ Some n → Word w n
word_from_spelled w n e =
    let s = cond_some (spells w) (read_on 0 w) n e in
    let p = and_parts (shaped w && all_ascii_digits w) (leb (read_on 0 w) 65535) s.0 in
    let q = and_parts (shaped w) (all_ascii_digits w) p.0 in
    let r = and_parts (ltb 0 (length w) && leb (length w) 5) (not (eqb (get_or w 0 0) 48 && ltb 1 (length w))) q.0 in
    let t = and_parts (ltb 0 (length w)) (leb (length w) 5) r.0 in
    let some : 0 < length w = ltb-true 0 (length w) t.0 in
    record {
      digits = digits_from_test w q.1;
      some = omega arith;
      few = leb-true (length w) 5 t.1;
      lead = no_lead w r.1 some;
      value = s.1;
      small = subst (λ k. k ≤ 65535) s.1 (leb-true _ 65535 p.1);
    }

pub spelled_from_word : (w : List ℕ) (n : ℕ) → Word w n → spelled w ≡ Some n
spelled_from_word w n h =
    let some : ltb 0 (length w) ≡ true = lt-ltb 0 _ (omega (arith, h.some)) in
    let five : leb (length w) 5 ≡ true = le-leb _ 5 h.few in
    let shape : shaped w ≡ true = and_from _ _ (and_from _ _ some five) (not_from_false _ (led w h.lead)) in
    let whole : spells w ≡ true = and_from _ _ (and_from _ _ shape (test_from_digits w h.digits)) (le-leb _ 65535 (subst (λ k. k ≤ 65535) (sym h.value) h.small)) in
    ap (λ t. cond t (Some (read_on 0 w)) None) whole ∙ ap Some h.value

pub word_exactly : (w : List ℕ) (r : Option ℕ) → r ≡ spelled w → WordExactly w r
word_exactly w r e = record { sound = λ n h. word_from_spelled w n (sym e ∙ h); complete = λ n h. e ∙ spelled_from_word w n h }

-- What `decimal` writes is a word.
pub word_decimal : (n : ℕ) → n ≤ 65535 → Word (decimal n) n
word_decimal n h = record {
  digits = digits_from_test (decimal n) (digits_decimal own n (low n h));
  some = omega (arith, decimal_nonempty n (low n h));
  few = length-decimal-le 5 n (omega arith) (omega arith) (low n h);
  lead = λ e. elim (cases_lt 0 n) [
    | inl more ↦ absurd (omega (arith, first_decimal n more (low n h)))
    | inr least ↦ omega (arith, length-decimal-le 1 n (omega arith) (omega arith) (low n h), decimal_nonempty n (low n h))
  ];
  value = digits_value-decimal own n (low n h);
  small = h;
}
