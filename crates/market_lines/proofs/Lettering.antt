-- The letters of the kinds, and reading a line by them. Assumes nothing.
use Rattle.std.proofs.Common.{◌≡◌, ℕ, cond, eqb, ◌⊎◌, List, [], ◌∷◌, Some, Ok, Err, Option, Result, sym, refl, ap, ◌∙◌, subst, inl, inr}
use Rattle.std.proofs.lemmas.Bool.{cases_Bool, eqb-true, eqb-false, eq-eqb}
use Rattle.spelling.specs.declared.fault.WordFault.{WordFault}
use Rattle.spelling.specs.declared.fault.WordFault.TheVariants.{Letter, Malformed}
use Rattle.spelling.specs.Reading.{words_read}
use Rattle.spelling.proofs.Sentences.{reads_by_grammar}
use Rattle.market_lines.specs.declared.fault.LineFault.{LineFault}
use Rattle.market_lines.specs.declared.fault.LineFault.TheVariants.{InWord, Count, Range}
use Rattle.market_lines.specs.declared.kind.Kind.{Kind}
use Rattle.market_lines.specs.declared.kind.Kind.TheVariants.{Market, Contents, Seats, Queue, Priorities, Heir, Tenant, Ranking}
use Rattle.market_lines.specs.Kinds.{kind_of, letter_of}
use Rattle.market_lines.specs.Records.{Read, whole, worded, line_read, LetterMissing, Misread, LineByGrammar}

-- ---- letters and kinds

pub kind_of_letter : (k : Kind) → kind_of (letter_of k) ≡ Some k
kind_of_letter Market = refl
kind_of_letter Contents = refl
kind_of_letter Seats = refl
kind_of_letter Queue = refl
kind_of_letter Priorities = refl
kind_of_letter Heir = refl
kind_of_letter Tenant = refl
kind_of_letter Ranking = refl

-- Two kinds with one letter are one.
pub same_letter : (j k : Kind) → letter_of j ≡ letter_of k → j ≡ k
same_letter j k e = let both : ◌≡◌ {A = Option Kind} (Some j) (Some k) = sym (kind_of_letter j) ∙ ap kind_of e ∙ kind_of_letter k in cc

-- ---- reading a line

-- A line that begins with the letter due goes on with its words.
pub line_from : (k : Kind) (text rest : List ℕ) → text ≡ letter_of k ∷ rest → line_read k text ≡ worded k text (words_read rest)
line_from k text rest is =
    ap (line_read k) is
    ∙ ap (λ t. cond t (worded k (letter_of k ∷ rest) (words_read rest)) (Err (InWord Letter))) (eq-eqb (letter_of k) (letter_of k) refl)
    ∙ ap (λ t. worded k t (words_read rest)) (sym is)

worded_ok : (k : Kind) (text : List ℕ) (ws : Result (List ℕ) WordFault) (l : Read) → worded k text ws ≡ Ok l → (ws ≡ Ok l.numbers) × (l ≡ whole k text l.numbers)
worded_ok k text (Ok ns) l e =
    let is : l ≡ whole k text ns = cc in
    (ap (λ x. Ok x.numbers) (sym is), is ∙ ap (λ x. whole k text x.numbers) (sym is))
worded_ok k text (Err f) l e = cc

worded_err : (k : Kind) (text : List ℕ) (ws : Result (List ℕ) WordFault) (e : LineFault) → worded k text ws ≡ Err e → (f : WordFault) × (ws ≡ Err f) × (e ≡ InWord f)
worded_err k text (Ok ns) e h = cc
worded_err k text (Err f) e h = (f, refl, cc)

-- A line begins with the letter due, or has the fault of its letter.
letter_or_fault : (k : Kind) (text : List ℕ) → ((rest : List ℕ) × (text ≡ letter_of k ∷ rest)) ⊎ ((line_read k text ≡ Err (InWord Letter)) × LetterMissing k text)
letter_or_fault k [] = inr (refl, λ rest e. cc)
letter_or_fault k (b ∷ bs) =
    elim (cases_Bool (eqb b (letter_of k))) [
      | inl e ↦ inl (bs, ap (λ c. c ∷ bs) (eqb-true b (letter_of k) e))
      | inr e ↦ inr (ap (λ t. cond t (worded k (b ∷ bs) (words_read bs)) (Err (InWord Letter))) e, λ rest is. let same : b ≡ letter_of k = cc in eqb-false b (letter_of k) e same)
    ]

-- A text that is no line of the kind is read as its fault.
misread : (k : Kind) (text : List ℕ) (f : LineFault) → Misread k f text → line_read k text ≡ Err f
misread k text (InWord Letter) h =
    elim (letter_or_fault k text) [
      | inl t ↦ absurd (h t.0 t.1)
      | inr t ↦ t.0
    ]
misread k text (InWord (Malformed j)) h =
    line_from k text h.0 h.1 ∙ ap (worded k text) ((reads_by_grammar h.0 (words_read h.0) refl).named j h.2)
misread k text Count h = absurd h
misread k text (Range j) h = absurd h

pub line_by_grammar : (k : Kind) (text : List ℕ) (r : Result Read LineFault) → r ≡ line_read k text → LineByGrammar k text r
line_by_grammar k text r e = at (letter_or_fault k text)
  where
    at : (((rest : List ℕ) × (text ≡ letter_of k ∷ rest)) ⊎ ((line_read k text ≡ Err (InWord Letter)) × LetterMissing k text)) → LineByGrammar k text r
    at (inl t) =
        let rest = t.0 in
        let is : r ≡ worded k text (words_read rest) = e ∙ line_from k text rest t.1 in
        let words = reads_by_grammar rest (words_read rest) refl in
        record {
          sound = λ l h. let w = worded_ok k text (words_read rest) l (sym is ∙ h) in (w.1, (rest, t.1, words.sound l.numbers w.0));
          complete = λ ns s. e ∙ line_from k text s.0 s.1 ∙ ap (worded k text) ((reads_by_grammar s.0 (words_read s.0) refl).complete ns s.2);
          fault = λ f h.
              let w = worded_err k text (words_read rest) f (sym is ∙ h) in
              let m = words.only w.0 w.1 in
              subst (λ y. Misread k y text) (sym (w.2 ∙ ap InWord m.1)) (rest, t.1, words.leftmost m.0 (w.1 ∙ ap Err m.1));
          named = λ f h. e ∙ misread k text f h;
        }
    at (inr t) =
        let is : r ≡ Err (InWord Letter) = e ∙ t.0 in
        record {
          sound = λ l h. cc;
          complete = λ ns s. absurd (t.1 s.0 s.1);
          fault = λ f h. let same : InWord Letter ≡ f = cc in subst (λ y. Misread k y text) same t.1;
          named = λ f h. e ∙ misread k text f h;
        }
