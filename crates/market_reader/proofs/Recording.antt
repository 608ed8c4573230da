-- The records of lines that are the sections of a form. Assumes nothing.
use Rattle.std.proofs.Common.{◌≡◌, ℕ, zero, suc, ◌+◌, ◌≤◌, true, false, cond, eqb, List, [], ◌∷◌, ◌++◌, length, replicate, sym, refl, ap, ◌∙◌, subst, inl, inr, arith}
use Rattle.std.proofs.lemmas.Bool.{cases_Bool, eqb-true}
use Rattle.std.specs.List.{AllByRecursion}
use Rattle.market_lines.specs.declared.kind.Kind.{Kind}
use Rattle.market_lines.specs.declared.kind.Kind.TheVariants as kind
use Rattle.market_lines.specs.Kinds.{letter_of}
use Rattle.market_lines.specs.Records.{whole}
use Rattle.market_lines.proofs.Lettering.{same_letter}
use Rattle.market_file.specs.declared.form.Contents.{Contents}
use Rattle.market.specs.declared.sizes.Sizes.{Sizes}
use Rattle.market_file.specs.Bounds.{CountRight, InRange}
use Rattle.market_file.specs.Contents.{kinds_of}
use Rattle.market_file.specs.Files.{numbers_at}
use Rattle.market_file.specs.FormedLines.{line_formed, FormedLine}
use Rattle.market_file.specs.Keeping.{Sections}
use Rattle.market_file.specs.Ledgers.{Known, noted}
use Rattle.market_file.proofs.Forming.{line_by_form, numbers_at_line, few_words}
use Rattle.market_reader.specs.Filling.{Entry, entries_of, of_kind}
use Rattle.market_reader.specs.Keeping.{Records}

-- The numbers of a formed line.
pub formed_numbers : (z : Sizes) (k : Kind) (ns l : List ℕ) → FormedLine z k ns l → ns ≡ numbers_at l
formed_numbers z k ns l f = numbers_at_line k z l (whole k l ns) ((line_by_form z k l (line_formed k z l) refl).complete ns f)

-- ---- lines and records

pub few_each : (z : Sizes) (d : Known) (ks : List Kind) (ls : List (List ℕ)) → z.agents ≤ 200 → z.places ≤ 40 → Sections z d ks ls → AllByRecursion (λ l. length (numbers_at l) ≤ 201) ls
few_each z d [] [] n m s = tt
few_each z d [] (l ∷ ls) n m s = absurd s
few_each z d (k ∷ ks) [] n m s = tt
few_each z d (k ∷ ks) (l ∷ ls) n m s =
    let formed = (line_by_form z k l (line_formed k z l) refl).complete s.0 s.1 in
    (omega (arith, ap length (formed_numbers z k s.0 l s.1), few_words k z l (whole k l s.0) n m formed), few_each z (noted k s.0 d) ks ls n m s.3)

pub records_of : (z : Sizes) (d : Known) (ks : List Kind) (ls : List (List ℕ)) → Sections z d ks ls → Records z ks ls (entries_of ks ls)
records_of z d [] [] s = tt
records_of z d [] (l ∷ ls) s = absurd s
records_of z d (k ∷ ks) [] s = absurd s
records_of z d (k ∷ ks) (l ∷ ls) s =
    (refl, subst (λ ns. FormedLine z k ns l) (formed_numbers z k s.0 l s.1) s.1, records_of z (noted k s.0 d) ks ls s.3)

-- Lines have these records and no others.
pub records_only : (z : Sizes) (ks : List Kind) (ls : List (List ℕ)) (es : List Entry) → Records z ks ls es → es ≡ entries_of ks ls
records_only z [] [] [] r = refl
records_only z [] [] (e ∷ es) r = absurd r
records_only z [] (l ∷ ls) es r = absurd r
records_only z (k ∷ ks) [] es r = absurd r
records_only z (k ∷ ks) (l ∷ ls) [] r = absurd r
records_only z (k ∷ ks) (l ∷ ls) (e ∷ es) r =
    let numbers = formed_numbers z k e.numbers l r.1 in
    ap (λ x. record { kind = x; numbers = e.numbers } ∷ es) r.0
    ∙ ap (λ ns. record { kind = k; numbers = ns } ∷ es) numbers
    ∙ ap (λ rest. record { kind = k; numbers = numbers_at l } ∷ rest) (records_only z ks ls es r.2)

-- ---- the records of one kind

-- A test of kinds, as an equation.
pub is_kind : (a k : Kind) → eqb (letter_of a) (letter_of k) ≡ true → a ≡ k
is_kind a k e = same_letter a k (eqb-true (letter_of a) (letter_of k) e)

-- What holds of each record of a kind.
pub of_kind_all : (k : Kind) (P : List ℕ → Type 0) (es : List Entry) → AllByRecursion (λ e. e.kind ≡ k → P e.numbers) es → AllByRecursion P (of_kind k es)
of_kind_all k P [] a = tt
of_kind_all k P (e ∷ es) a =
    elim (cases_Bool (eqb (letter_of e.kind) (letter_of k))) [
      | inl t ↦ rw t (a.0 (is_kind e.kind k t), of_kind_all k P es a.1)
      | inr t ↦ rw t (of_kind_all k P es a.1)
    ]

-- The count and the ranges of the numbers of a record.
abbrev pub Fits : Sizes → Kind → List ℕ → Type 0
Fits z k ns = CountRight k z (length ns) × InRange k z 1 ns

pub fits_entries : (z : Sizes) (ks : List Kind) (ls : List (List ℕ)) (es : List Entry) (k : Kind) → Records z ks ls es → AllByRecursion (λ e. e.kind ≡ k → Fits z k e.numbers) es
fits_entries z ks ls [] k r = tt
fits_entries z [] [] (e ∷ es) k r = absurd r
fits_entries z [] (l ∷ ls) (e ∷ es) k r = absurd r
fits_entries z (j ∷ ks) [] (e ∷ es) k r = absurd r
fits_entries z (j ∷ ks) (l ∷ ls) (e ∷ es) k r =
    (λ same. subst (λ x. Fits z x e.numbers) (sym r.0 ∙ same) (r.1.count, r.1.ranges), fits_entries z ks ls es k r.2)

pub fits_each : (z : Sizes) (ks : List Kind) (ls : List (List ℕ)) (es : List Entry) (k : Kind) → Records z ks ls es → AllByRecursion (Fits z k) (of_kind k es)
fits_each z ks ls es k r = of_kind_all k (Fits z k) es (fits_entries z ks ls es k r)

-- How many of the kinds are this one.
abbrev count_of : Kind → List Kind → ℕ
count_of k [] = 0
count_of k (j ∷ ks) = cond (eqb (letter_of j) (letter_of k)) 1 0 + count_of k ks

count_append : (k : Kind) (xs ys : List Kind) → count_of k (xs ++ ys) ≡ count_of k xs + count_of k ys
count_append k [] ys = omega arith
count_append k (x ∷ xs) ys = omega (arith, count_append k xs ys)

abbrev pub share : Kind → Kind → ℕ → ℕ
share k j n = cond (eqb (letter_of j) (letter_of k)) n 0

count_replicate : (k j : Kind) (n : ℕ) → count_of k (replicate n j) ≡ share k j n
count_replicate k j n = elim (cases_Bool (eqb (letter_of j) (letter_of k))) [ inl t ↦ rw t (all n t) | inr t ↦ rw t (none n t) ]
  where
    all : (n : ℕ) → eqb (letter_of j) (letter_of k) ≡ true → count_of k (replicate n j) ≡ n
    all zero t = refl
    all (suc n) t = rw t (omega (arith, all n t))

    none : (n : ℕ) → eqb (letter_of j) (letter_of k) ≡ false → count_of k (replicate n j) ≡ 0
    none zero t = refl
    none (suc n) t = rw t (omega (arith, none n t))

-- How many lines of a kind the contents say.
abbrev pub said : Kind → Contents → ℕ
said k c = share k kind.Seats c.seats + (share k kind.Queue c.queues + (share k kind.Priorities c.priorities + (share k kind.Heir c.heirs + (share k kind.Tenant c.tenants + share k kind.Ranking c.rankings))))

count_kinds : (k : Kind) (c : Contents) → count_of k (kinds_of c) ≡ said k c
count_kinds k c = simp (count_append, count_replicate)

length_of_kind : (z : Sizes) (ks : List Kind) (ls : List (List ℕ)) (es : List Entry) (k : Kind) → Records z ks ls es → length (of_kind k es) ≡ count_of k ks
length_of_kind z [] [] [] k r = refl
length_of_kind z [] [] (e ∷ es) k r = absurd r
length_of_kind z [] (l ∷ ls) es k r = absurd r
length_of_kind z (j ∷ ks) [] es k r = absurd r
length_of_kind z (j ∷ ks) (l ∷ ls) [] k r = absurd r
length_of_kind z (j ∷ ks) (l ∷ ls) (e ∷ es) k r =
    let rest = length_of_kind z ks ls es k r.2 in
    let same = ap (λ x. eqb (letter_of x) (letter_of k)) r.0 in
    elim (cases_Bool (eqb (letter_of j) (letter_of k))) [
      | inl t ↦ let here = same ∙ t in rw (t, here) (omega (arith, rest))
      | inr t ↦ let here = same ∙ t in rw (t, here) (omega (arith, rest))
    ]

-- There are as many records of a kind as the contents say.
pub as_many : (z : Sizes) (c : Contents) (ls : List (List ℕ)) (es : List Entry) (k : Kind) → Records z (kinds_of c) ls es → length (of_kind k es) ≡ said k c
as_many z c ls es k r = length_of_kind z (kinds_of c) ls es k r ∙ count_kinds k c
