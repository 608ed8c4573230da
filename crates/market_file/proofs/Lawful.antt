-- What the check of a file's form means. Assumes nothing.
use Rattle.std.proofs.Common.{◌≡◌, ℕ, ◌<◌, ◌≤◌, true, false, cond, ltb, leb, List, [], ◌∷◌, length, Some, None, Ok, Err, Option, Result, sym, refl, ap, ◌∙◌, subst, inl, inr, arith}
use Rattle.std.proofs.lemmas.Bool.{and_parts, and_from, cases_Bool, leb-true, le-leb, ltb-true, lt-ltb, both_ways}
use Rattle.spelling.specs.Lines.{lines, closed}
use Rattle.spelling.proofs.Rejoining.{rejoins}
use Rattle.market_lines.specs.declared.fault.LineFault.{LineFault}
use Rattle.market_lines.specs.declared.fault.MarketFault.{MarketFault}
use Rattle.market_lines.specs.declared.fault.MarketFault.TheVariants as fault
use Rattle.market_lines.specs.declared.kind.Kind.TheVariants as kind
use Rattle.market_lines.specs.Records.{Read}
use Rattle.market_file.specs.declared.form.Contents.{Contents}
use Rattle.market_file.specs.declared.form.Form.{Form}
use Rattle.market.specs.declared.sizes.Sizes.{Sizes}
use Rattle.market_file.specs.Contents.{kinds_of, sizes_in, contents_in, wrong_count, RightContents}
use Rattle.market_file.specs.Files.{sections_checked, unknown, sizes_from, rightly, contents_from, formed, with_contents, with_sizes, form_read, sized, file_form}
use Rattle.market_file.specs.FormedLines.{line_formed, FormedLine}
use Rattle.market_file.specs.Keeping.{Sections, sizes_line, contents_line, KeepsForm, BrokenContents, BrokenForm, Sized, FormLaw}
use Rattle.market_file.specs.Ledgers.{blank}
use Rattle.market_file.proofs.Sectioning.{law, sections_sound, sections_complete, sections_broken, sections_named}
use Rattle.market_file.proofs.Wrongly.{right_from, from_right, leftmost, found}

-- ---- the first two lines

-- Six numbers are the numbers of their contents, and two those of their sizes.
six : (ns : List ℕ) → 6 ≤ length ns → length ns ≤ 6 → contents_line (contents_in ns) ≡ ns
six [] h k = absurd (omega arith)
six (a ∷ []) h k = absurd (omega arith)
six (a ∷ b ∷ []) h k = absurd (omega arith)
six (a ∷ b ∷ c ∷ []) h k = absurd (omega arith)
six (a ∷ b ∷ c ∷ d ∷ []) h k = absurd (omega arith)
six (a ∷ b ∷ c ∷ d ∷ e ∷ []) h k = absurd (omega arith)
six (a ∷ b ∷ c ∷ d ∷ e ∷ f ∷ []) h k = refl
six (a ∷ b ∷ c ∷ d ∷ e ∷ f ∷ g ∷ ns) h k = absurd (omega arith)

two : (ns : List ℕ) → 2 ≤ length ns → length ns ≤ 2 → sizes_line (sizes_in ns) ≡ ns
two [] h k = absurd (omega arith)
two (a ∷ []) h k = absurd (omega arith)
two (a ∷ b ∷ []) h k = refl
two (a ∷ b ∷ c ∷ ns) h k = absurd (omega arith)

-- A formed C line has the numbers of its contents, and a formed M line those of its sizes.
contents_line_formed : (z : Sizes) (ns text : List ℕ) → FormedLine z kind.Contents ns text → FormedLine z kind.Contents (contents_line (contents_in ns)) text
contents_line_formed z ns text f = subst (λ l. FormedLine z kind.Contents l text) (sym (six ns f.count.0 f.count.1)) f

sizes_line_formed : (ns text : List ℕ) → FormedLine unknown kind.Market ns text → FormedLine unknown kind.Market (sizes_line (sizes_in ns)) text
sizes_line_formed ns text f = subst (λ l. FormedLine unknown kind.Market l text) (sym (two ns f.count.0 f.count.1)) f

-- ---- the lines from the second on

formed_ok : (z : Sizes) (c : Contents) (r : Result Unit MarketFault) (f : Form) → formed z c r ≡ Ok f → (r ≡ Ok tt) × (f ≡ record { sizes = z; contents = c })
formed_ok z c (Ok tt) f e = (refl, cc)
formed_ok z c (Err x) f e = absurd cc

formed_err : (z : Sizes) (c : Contents) (r : Result Unit MarketFault) (x : MarketFault) → formed z c r ≡ Err x → r ≡ Err x
formed_err z c (Ok u) x e = absurd cc
formed_err z c (Err y) x e = cc

-- What the lines from the second on keep.
record KeepsContents (z : Sizes) (ls : List (List ℕ)) (c : Contents) : Type 0 where
  second : List ℕ
  others : List (List ℕ)
  parts : ls ≡ second ∷ others
  contents : FormedLine z kind.Contents (contents_line c) second
  right : RightContents z c
  sections : Sections z blank (kinds_of c) others

-- All lines from the second on, as the check has them.
abbrev from_second : Sizes → List (List ℕ) → Result Form MarketFault
from_second z ls = with_sizes (Ok z) ls

contents_sound : (z : Sizes) (ls : List (List ℕ)) (f : Form) → from_second z ls ≡ Ok f → (f.sizes ≡ z) × KeepsContents z ls f.contents
contents_sound z [] f e = absurd cc
contents_sound z (l ∷ ls) f e = at (line_formed kind.Contents z l) refl e
  where
    counted : (x : Read) → line_formed kind.Contents z l ≡ Ok x → (o : Option ℕ) → wrong_count z (contents_in x.numbers) ≡ o → with_contents z (rightly o (contents_in x.numbers)) ls ≡ Ok f → (f.sizes ≡ z) × KeepsContents z (l ∷ ls) f.contents
    counted x is (Some j) none h = absurd cc
    counted x is None none h =
        let c = contents_in x.numbers in
        let g = formed_ok z c (sections_checked z 2 blank (kinds_of c) ls) f h in
        let keeps : KeepsContents z (l ∷ ls) c = record { second = l; others = ls; parts = refl; contents = contents_line_formed z x.numbers l ((law z kind.Contents l).sound x is).1; right = right_from z c none; sections = sections_sound z 2 blank (kinds_of c) ls tt g.0 } in
        (ap (λ y. y.sizes) g.1, subst (KeepsContents z (l ∷ ls)) (ap (λ y. y.contents) (sym g.1)) keeps)

    at : (o : Result Read LineFault) → line_formed kind.Contents z l ≡ o → with_contents z (contents_from z o) ls ≡ Ok f → (f.sizes ≡ z) × KeepsContents z (l ∷ ls) f.contents
    at (Ok x) is h = counted x is (wrong_count z (contents_in x.numbers)) refl h
    at (Err y) is h = absurd cc

contents_complete : (z : Sizes) (ls : List (List ℕ)) (c : Contents) → KeepsContents z ls c → from_second z ls ≡ Ok (record { sizes = z; contents = c })
contents_complete z ls c k =
    let g = (law z kind.Contents k.second).complete (contents_line c) k.contents in
    ap (from_second z) k.parts
    ∙ ap (λ o. with_contents z (contents_from z o) k.others) g
    ∙ ap (λ o. with_contents z (rightly o c) k.others) (from_right z c k.right)
    ∙ ap (formed z c) (sections_complete z 2 blank (kinds_of c) k.others k.sections)

contents_broken : (z : Sizes) (ls : List (List ℕ)) (e : MarketFault) → from_second z ls ≡ Err e → BrokenContents z ls e
contents_broken z [] e h = cc
contents_broken z (l ∷ ls) e h = at (line_formed kind.Contents z l) refl h
  where
    counted : (x : Read) → line_formed kind.Contents z l ≡ Ok x → (o : Option ℕ) → wrong_count z (contents_in x.numbers) ≡ o → with_contents z (rightly o (contents_in x.numbers)) ls ≡ Err e → BrokenContents z (l ∷ ls) e
    counted x is (Some j) some h =
        let c = contents_in x.numbers in
        inr (c, contents_line_formed z x.numbers l ((law z kind.Contents l).sound x is).1, inl (j, leftmost z c j some, cc))
    counted x is None none h =
        let c = contents_in x.numbers in
        inr (c, contents_line_formed z x.numbers l ((law z kind.Contents l).sound x is).1, inr (right_from z c none, sections_broken z 2 blank (kinds_of c) ls e (formed_err z c (sections_checked z 2 blank (kinds_of c) ls) e h)))

    at : (o : Result Read LineFault) → line_formed kind.Contents z l ≡ o → with_contents z (contents_from z o) ls ≡ Err e → BrokenContents z (l ∷ ls) e
    at (Ok x) is h = counted x is (wrong_count z (contents_in x.numbers)) refl h
    at (Err y) is h = inl (y, (law z kind.Contents l).fault y is, cc)

contents_named : (z : Sizes) (ls : List (List ℕ)) (e : MarketFault) → BrokenContents z ls e → from_second z ls ≡ Err e
contents_named z [] e b = ap Err (sym b)
contents_named z (l ∷ ls) e (inl b) =
    ap (λ o. with_contents z (contents_from z o) ls) ((law z kind.Contents l).named b.0 b.1) ∙ ap Err (sym b.2)
contents_named z (l ∷ ls) e (inr (c, f, inl b)) =
    ap (λ o. with_contents z (contents_from z o) ls) ((law z kind.Contents l).complete (contents_line c) f)
    ∙ ap (λ o. with_contents z (rightly o c) ls) (found z c b.0 b.1)
    ∙ ap Err (sym b.2)
contents_named z (l ∷ ls) e (inr (c, f, inr b)) =
    ap (λ o. with_contents z (contents_from z o) ls) ((law z kind.Contents l).complete (contents_line c) f)
    ∙ ap (λ o. with_contents z (rightly o c) ls) (from_right z c b.0)
    ∙ ap (formed z c) (sections_named z 2 blank (kinds_of c) ls e b.1)

-- ---- all lines

form_sound : (ls : List (List ℕ)) (f : Form) → form_read ls ≡ Ok f → KeepsForm ls f
form_sound [] f e = absurd cc
form_sound (l ∷ ls) f e = at (line_formed kind.Market unknown l) refl e
  where
    at : (o : Result Read LineFault) → line_formed kind.Market unknown l ≡ o → with_sizes (sizes_from o) ls ≡ Ok f → KeepsForm (l ∷ ls) f
    at (Err y) is h = absurd cc
    at (Ok x) is h =
        let z = sizes_in x.numbers in
        let g = contents_sound z ls f h in
        let k : KeepsContents f.sizes ls f.contents = subst (λ y. KeepsContents y ls f.contents) (sym g.0) g.1 in
        let first : FormedLine unknown kind.Market (sizes_line f.sizes) l = subst (λ y. FormedLine unknown kind.Market (sizes_line y) l) (sym g.0) (sizes_line_formed x.numbers l ((law unknown kind.Market l).sound x is).1) in
        record { first = l; second = k.second; others = k.others; parts = ap (λ t. l ∷ t) k.parts; sizes = first; contents = k.contents; right = k.right; sections = k.sections }

form_complete : (ls : List (List ℕ)) (f : Form) → KeepsForm ls f → form_read ls ≡ Ok f
form_complete ls f k =
    let g = (law unknown kind.Market k.first).complete (sizes_line f.sizes) k.sizes in
    let rest = k.second ∷ k.others in
    ap form_read k.parts
    ∙ ap (λ o. with_sizes (sizes_from o) rest) g
    ∙ contents_complete f.sizes rest f.contents (record { second = k.second; others = k.others; parts = refl; contents = k.contents; right = k.right; sections = k.sections })

form_broken : (ls : List (List ℕ)) (e : MarketFault) → form_read ls ≡ Err e → BrokenForm ls e
form_broken [] e h = cc
form_broken (l ∷ ls) e h = at (line_formed kind.Market unknown l) refl h
  where
    at : (o : Result Read LineFault) → line_formed kind.Market unknown l ≡ o → with_sizes (sizes_from o) ls ≡ Err e → BrokenForm (l ∷ ls) e
    at (Err y) is h = inl (y, (law unknown kind.Market l).fault y is, cc)
    at (Ok x) is h = inr (sizes_in x.numbers, sizes_line_formed x.numbers l ((law unknown kind.Market l).sound x is).1, contents_broken (sizes_in x.numbers) ls e h)

form_named : (ls : List (List ℕ)) (e : MarketFault) → BrokenForm ls e → form_read ls ≡ Err e
form_named [] e b = ap Err (sym b)
form_named (l ∷ ls) e (inl b) = ap (λ o. with_sizes (sizes_from o) ls) ((law unknown kind.Market l).named b.0 b.1) ∙ ap Err (sym b.2)
form_named (l ∷ ls) e (inr b) =
    ap (λ o. with_sizes (sizes_from o) ls) ((law unknown kind.Market l).complete (sizes_line b.0) b.1) ∙ contents_named b.0 ls e b.2

-- ---- the file

from_sized : (bs : List ℕ) → sized bs ≡ true → Sized bs
from_sized bs e =
    let p = and_parts (ltb 0 (length bs)) (leb (length bs) 65535) e in
    let some : 0 < length bs = ltb-true 0 (length bs) p.0 in
    (omega arith, leb-true (length bs) 65535 p.1)

-- Files that differ in the last line feed alone have the same lines.
pub same_lines : (file other : List ℕ) → closed other ≡ closed file → lines other ≡ lines file
same_lines file other e = let r = rejoins other in (rejoins file).only (lines other) r.apart (r.whole ∙ e)

-- A file of a good size is read by its lines.
pub sized_from : (bs : List ℕ) → Sized bs → sized bs ≡ true
sized_from bs s = and_from (ltb 0 (length bs)) (leb (length bs) 65535) (lt-ltb 0 (length bs) (omega arith)) (le-leb (length bs) 65535 s.1)

pub file_lines : (bs : List ℕ) → Sized bs → file_form bs ≡ form_read (lines bs)
file_lines bs s = ap (λ t. cond t (form_read (lines bs)) (Err fault.Size)) (sized_from bs s)

pub form_law : (file : List ℕ) (r : Result Form MarketFault) → r ≡ file_form file → FormLaw file r
form_law file r e =
    elim (cases_Bool (sized file)) [
      | inl good ↦ inside (from_sized file good)
      | inr bad ↦ outside bad
    ]
  where
    inside : Sized file → FormLaw file r
    inside s =
        let is : r ≡ form_read (lines file) = e ∙ file_lines file s in
        record {
          sound = λ f h. (s, form_sound (lines file) f (sym is ∙ h));
          complete = λ f _ k. is ∙ form_complete (lines file) f k;
          first = λ x h. inr (s, form_broken (lines file) x (sym is ∙ h));
          outside = λ bad. absurd (bad s);
          named = λ x _ b. is ∙ form_named (lines file) x b;
          alike = λ other c o _. file_lines other o ∙ ap form_read (same_lines file other c) ∙ sym is;
        }

    outside : sized file ≡ false → FormLaw file r
    outside bad =
        let is : r ≡ Err fault.Size = e ∙ ap (λ t. cond t (form_read (lines file)) (Err fault.Size)) bad in
        let never : Sized file → ⊥ = λ s. both_ways (sized file) bad (sized_from file s) in
        record {
          sound = λ f h. absurd cc;
          complete = λ f s k. absurd (never s);
          first = λ x h. let same : x ≡ fault.Size = cc in inl (same, never);
          outside = λ _. is;
          named = λ x s b. absurd (never s);
          alike = λ other c o s. absurd (never s);
        }
