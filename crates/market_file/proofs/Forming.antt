-- One line: its count of words, their ranges, and what its check means. Assumes nothing.
use Rattle.std.proofs.Common.{◌≡◌, ℕ, suc, ◌+◌, ◌≤◌, true, false, cond, leb, List, [], ◌∷◌, ◌++◌, length, drop, Some, None, Ok, Err, Option, Result, sym, refl, ap, ◌∙◌, subst, inl, inr, arith}
use Rattle.std.proofs.lemmas.Bool.{and_parts, and_from, cases_Bool, le-leb, leb-true, both_ways}
use Rattle.market_lines.specs.declared.fault.LineFault.{LineFault}
use Rattle.market_lines.specs.declared.fault.LineFault.TheVariants.{InWord, Count, Range}
use Rattle.market_lines.specs.declared.kind.Kind.{Kind}
use Rattle.market_lines.specs.declared.kind.Kind.TheVariants.{Market, Contents, Seats, Queue, Priorities, Heir, Tenant, Ranking}
use Rattle.market_lines.specs.Records.{Read, line_read, whole, LineByGrammar, Misread}
use Rattle.spelling.specs.Reading.{unless, words_read}
use Rattle.spelling.specs.Words.{malformed, numbers_in}
use Rattle.spelling.proofs.Sentences.{reads_by_grammar}
use Rattle.market_lines.proofs.Lettering.{line_by_grammar}
use Rattle.market.specs.declared.sizes.Sizes.{Sizes}
use Rattle.market_file.specs.Bounds.{least_words, most_words, lowest, highest, within, misfit, count_fits, CountRight, InRange}
use Rattle.market_file.specs.Files.{numbers_at}
use Rattle.market_file.specs.FormedLines.{ranged, passed, fitted, line_formed, FormedLine, LeftmostOutside, BrokenLine, LineByForm}

-- ---- the count

count_right : (k : Kind) (z : Sizes) (n : ℕ) → count_fits k z n ≡ true → CountRight k z n
count_right k z n e =
    let p = and_parts (leb (least_words k z) n) (leb n (most_words k z)) e in
    (leb-true (least_words k z) n p.0, leb-true n (most_words k z) p.1)

right_count : (k : Kind) (z : Sizes) (n : ℕ) → CountRight k z n → count_fits k z n ≡ true
right_count k z n h = and_from (leb (least_words k z) n) (leb n (most_words k z)) (le-leb _ _ h.0) (le-leb _ _ h.1)

-- ---- the ranges

in_range : (k : Kind) (z : Sizes) (j x : ℕ) → within k z j x ≡ true → (lowest k j ≤ x) × (x ≤ highest k z j)
in_range k z j x e =
    let p = and_parts (leb (lowest k j) x) (leb x (highest k z j)) e in
    (leb-true (lowest k j) x p.0, leb-true x (highest k z j) p.1)

range_in : (k : Kind) (z : Sizes) (j x : ℕ) → lowest k j ≤ x → x ≤ highest k z j → within k z j x ≡ true
range_in k z j x low high = and_from (leb (lowest k j) x) (leb x (highest k z j)) (le-leb _ _ low) (le-leb _ _ high)

-- Numbers of which the leftmost out of range has place i, where the first has place j.
record Outside (k : Kind) (z : Sizes) (j : ℕ) (ns : List ℕ) (i : ℕ) : Type 0 where
  before : List ℕ
  number : ℕ
  after : List ℕ
  parts : ns ≡ before ++ number ∷ after
  place : i ≡ j + length before
  ranges : InRange k z j before
  outside : InRange k z i (number ∷ []) → ⊥

all_in : (k : Kind) (z : Sizes) (j : ℕ) (ns : List ℕ) → misfit k z j ns ≡ None → InRange k z j ns
all_in k z j [] e = tt
all_in k z j (x ∷ ns) e =
    elim (cases_Bool (within k z j x)) [
      | inl h ↦ let r = in_range k z j x h in (r.0, r.1, all_in k z (suc j) ns (sym (ap (λ t. cond t (misfit k z (suc j) ns) (Some j)) h) ∙ e))
      | inr h ↦ let both : ◌≡◌ {A = Option ℕ} (Some j) None = sym (ap (λ t. cond t (misfit k z (suc j) ns) (Some j)) h) ∙ e in absurd cc
    ]

in_all : (k : Kind) (z : Sizes) (j : ℕ) (ns : List ℕ) → InRange k z j ns → misfit k z j ns ≡ None
in_all k z j [] h = refl
in_all k z j (x ∷ ns) h = ap (λ t. cond t (misfit k z (suc j) ns) (Some j)) (range_in k z j x h.0 h.1) ∙ in_all k z (suc j) ns h.2

one_out : (k : Kind) (z : Sizes) (j i : ℕ) (ns : List ℕ) → misfit k z j ns ≡ Some i → Outside k z j ns i
one_out k z j i [] e = absurd cc
one_out k z j i (x ∷ ns) e =
    elim (cases_Bool (within k z j x)) [
      | inl h ↦
          let r = in_range k z j x h in
          let g = one_out k z (suc j) i ns (sym (ap (λ t. cond t (misfit k z (suc j) ns) (Some j)) h) ∙ e) in
          record { before = x ∷ g.before; number = g.number; after = g.after; parts = ap (λ l. x ∷ l) g.parts; place = omega (arith, g.place); ranges = (r.0, r.1, g.ranges); outside = g.outside }
      | inr h ↦
          let both : ◌≡◌ {A = Option ℕ} (Some j) (Some i) = sym (ap (λ t. cond t (misfit k z (suc j) ns) (Some j)) h) ∙ e in
          let same : j ≡ i = cc in
          record { before = []; number = x; after = ns; parts = refl; place = omega arith; ranges = tt; outside = λ r. both_ways (within k z i x) (subst (λ m. within k z m x ≡ false) same h) (range_in k z i x r.0 r.1) }
    ]

-- ---- the line

-- What a line that was read comes to.
pub fitted_ok : (k : Kind) (z : Sizes) (l : Read) → CountRight k z (length l.numbers) → InRange k z 1 l.numbers → fitted k z (Ok l) ≡ Ok l
fitted_ok k z l count ranges =
    ap (λ t. passed (cond t (ranged (misfit k z 1 l.numbers)) (Err Count)) l) (right_count k z (length l.numbers) count)
    ∙ ap (λ o. passed (ranged o) l) (in_all k z 1 l.numbers ranges)

-- A wrong count, and a leftmost number out of its range, are answered so.
miscount : (k : Kind) (z : Sizes) (l : Read) → (CountRight k z (length l.numbers) → ⊥) → fitted k z (Ok l) ≡ Err Count
miscount k z l not =
    elim (cases_Bool (count_fits k z (length l.numbers))) [
      | inl h ↦ absurd (not (count_right k z (length l.numbers) h))
      | inr h ↦ ap (λ t. passed (cond t (ranged (misfit k z 1 l.numbers)) (Err Count)) l) h
    ]

out_one : (k : Kind) (z : Sizes) (j : ℕ) (before : List ℕ) (x : ℕ) (after : List ℕ) (i : ℕ) → i ≡ j + length before → InRange k z j before → (InRange k z i (x ∷ []) → ⊥) → misfit k z j (before ++ x ∷ after) ≡ Some i
out_one k z j [] x after i place ranges out =
    let same : j ≡ i = omega arith in
    elim (cases_Bool (within k z j x)) [
      | inl h ↦ let r = in_range k z j x h in absurd (out (subst (λ m. InRange k z m (x ∷ [])) same (r.0, r.1, tt)))
      | inr h ↦ ap (λ t. cond t (misfit k z (suc j) after) (Some j)) h ∙ ap Some same
    ]
out_one k z j (y ∷ before) x after i place ranges out =
    ap (λ t. cond t (misfit k z (suc j) (before ++ x ∷ after)) (Some j)) (range_in k z j y ranges.0 ranges.1)
    ∙ out_one k z (suc j) before x after i (omega arith) ranges.2 out

outrange : (k : Kind) (z : Sizes) (l : Read) (j : ℕ) → CountRight k z (length l.numbers) → LeftmostOutside z k j l.numbers → fitted k z (Ok l) ≡ Err (Range j)
outrange k z l j count o =
    let found : misfit k z 1 l.numbers ≡ Some j = ap (misfit k z 1) o.parts ∙ out_one k z 1 o.before o.number o.after j (omega (arith, o.place)) o.ranges o.outside in
    ap (λ t. passed (cond t (ranged (misfit k z 1 l.numbers)) (Err Count)) l) (right_count k z (length l.numbers) count)
    ∙ ap (λ m. passed (ranged m) l) found

-- The three ways of a line that was read.
data Way (z : Sizes) (k : Kind) (l : Read) : Type 0 where
  fits : CountRight k z (length l.numbers) → InRange k z 1 l.numbers → Way z k l
  miscounted : fitted k z (Ok l) ≡ Err Count → (CountRight k z (length l.numbers) → ⊥) → Way z k l
  outranged : (j : ℕ) → fitted k z (Ok l) ≡ Err (Range j) → CountRight k z (length l.numbers) → LeftmostOutside z k j l.numbers → Way z k l

way : (z : Sizes) (k : Kind) (l : Read) → Way z k l
way z k l =
    elim (cases_Bool (count_fits k z (length l.numbers))) [
      | inl h ↦ at (misfit k z 1 l.numbers) refl h
      | inr h ↦ miscounted (ap (λ t. passed (cond t (ranged (misfit k z 1 l.numbers)) (Err Count)) l) h) (λ c. both_ways (count_fits k z (length l.numbers)) h (right_count k z (length l.numbers) c))
    ]
  where
    at : (o : Option ℕ) → misfit k z 1 l.numbers ≡ o → count_fits k z (length l.numbers) ≡ true → Way z k l
    at None is h = fits (count_right k z (length l.numbers) h) (all_in k z 1 l.numbers is)
    at (Some j) is h =
        let g = one_out k z 1 j l.numbers is in
        outranged j
        (ap (λ t. passed (cond t (ranged (misfit k z 1 l.numbers)) (Err Count)) l) h ∙ ap (λ o. passed (ranged o) l) is)
        (count_right k z (length l.numbers) h)
        (record { before = g.before; number = g.number; after = g.after; parts = g.parts; place = omega (arith, g.place); ranges = g.ranges; outside = g.outside })

pub line_by_form : (z : Sizes) (k : Kind) (text : List ℕ) (r : Result Read LineFault) → r ≡ line_formed k z text → LineByForm z k text r
line_by_form z k text r e = at (line_read k text) refl e
  where
    grammar : LineByGrammar k text (line_read k text)
    grammar = line_by_grammar k text (line_read k text) refl

    complete : (ns : List ℕ) → FormedLine z k ns text → r ≡ Ok (whole k text ns)
    complete ns f = e ∙ ap (fitted k z) (grammar.complete ns f.spelled) ∙ fitted_ok k z (whole k text ns) f.count f.ranges

    named : (x : LineFault) → BrokenLine z k x text → r ≡ Err x
    named (InWord w) h = e ∙ ap (fitted k z) (grammar.named (InWord w) h)
    named Count h = e ∙ ap (fitted k z) (grammar.complete h.0 h.1) ∙ miscount k z (whole k text h.0) h.2
    named (Range j) h = e ∙ ap (fitted k z) (grammar.complete h.0 h.1) ∙ outrange k z (whole k text h.0) j h.2 h.3

    read : (l : Read) → line_read k text ≡ Ok l → r ≡ fitted k z (Ok l) → Way z k l → LineByForm z k text r
    read l is f (fits count ranges) =
        let good : r ≡ Ok l = f ∙ fitted_ok k z l count ranges in
        record {
          sound = λ m h. let same : l ≡ m = cc in subst (λ x. (x ≡ whole k text x.numbers) × FormedLine z k x.numbers text) same ((grammar.sound l is).0, record { spelled = (grammar.sound l is).1; count = count; ranges = ranges });
          complete = complete;
          fault = λ x h. absurd cc;
          named = named;
        }
    read l is f (miscounted h not) =
        let bad : r ≡ Err Count = f ∙ h in
        record {
          sound = λ m h. absurd cc;
          complete = complete;
          fault = λ x h. let same : Count ≡ x = cc in subst (λ y. BrokenLine z k y text) same (l.numbers, (grammar.sound l is).1, not);
          named = named;
        }
    read l is f (outranged j h count out) =
        let bad : r ≡ Err (Range j) = f ∙ h in
        record {
          sound = λ m h. absurd cc;
          complete = complete;
          fault = λ x h. let same : Range j ≡ x = cc in subst (λ y. BrokenLine z k y text) same (l.numbers, (grammar.sound l is).1, count, out);
          named = named;
        }

    unread : (x : LineFault) → Misread k x text → BrokenLine z k x text
    unread (InWord w) h = h
    unread Count h = absurd h
    unread (Range j) h = absurd h

    at : (o : Result Read LineFault) → line_read k text ≡ o → r ≡ fitted k z o → LineByForm z k text r
    at (Ok l) is f = read l is f (way z k l)
    at (Err x) is f = record {
      sound = λ l h. absurd cc;
      complete = complete;
      fault = λ y h. let same : x ≡ y = cc in subst (λ f. BrokenLine z k f text) same (unread x (grammar.fault x is));
      named = named;
    }

-- ---- the numbers of a formed line

-- They are those of its words.
pub numbers_at_line : (k : Kind) (z : Sizes) (text : List ℕ) (l : Read) → line_formed k z text ≡ Ok l → l.numbers ≡ numbers_at text
numbers_at_line k z text l e =
    let s = ((line_by_form z k text (line_formed k z text) refl).sound l e).1.spelled in
    let r = (reads_by_grammar s.0 (words_read s.0) refl).complete l.numbers s.2 in
    numbers_read s.0 l.numbers r ∙ ap (λ t. numbers_in (drop 1 t)) (sym s.1)
  where
    at : (o : Option ℕ) (ms ns : List ℕ) → unless o ms ≡ Ok ns → ns ≡ ms
    at None ms ns e = cc
    at (Some j) ms ns e = absurd cc

    numbers_read : (rest ns : List ℕ) → words_read rest ≡ Ok ns → ns ≡ numbers_in rest
    numbers_read rest ns e = at (malformed rest) (numbers_in rest) ns e

-- There are at most 201, for at most 200 agents and 40 places.
pub few_words : (k : Kind) (z : Sizes) (text : List ℕ) (l : Read) → z.agents ≤ 200 → z.places ≤ 40 → line_formed k z text ≡ Ok l → length l.numbers ≤ 201
few_words k z text l n m e = let c = ((line_by_form z k text (line_formed k z text) refl).sound l e).1.count in omega (arith, c.1, most k z n m)
  where
    most : (k : Kind) (z : Sizes) → z.agents ≤ 200 → z.places ≤ 40 → most_words k z ≤ 201
    most Market z n m = omega arith
    most Contents z n m = omega arith
    most Seats z n m = omega arith
    most Queue z n m = omega arith
    most Priorities z n m = omega arith
    most Heir z n m = omega arith
    most Tenant z n m = omega arith
    most Ranking z n m = omega arith
