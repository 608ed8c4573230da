-- What the reading of a file means. Assumes nothing.
use Rattle.std.proofs.Common.{◌≡◌, ℕ, ◌≤◌, List, length, drop, Ok, Err, Result, sym, refl, ap, ◌∙◌, subst, arith}
use Rattle.std.specs.List.{AllByRecursion}
use Rattle.spelling.specs.Lines.{lines}
use Rattle.market_lines.specs.declared.fault.MarketFault.{MarketFault}
use Rattle.market_file.specs.declared.form.Form.{Form}
use Rattle.market_file.specs.Contents.{kinds_of}
use Rattle.market_file.specs.Files.{numbers_at, file_form}
use Rattle.market_file.specs.Keeping.{Sections, KeepsForm, FormLaw}
use Rattle.market_file.specs.Ledgers.{blank}
use Rattle.market_file.proofs.Limits.{few_kinds}
use Rattle.market_file.proofs.Lawful.{form_law, same_lines}
use Rattle.market_reader.specs.Filling.{entries_of, market_of}
use Rattle.market_reader.specs.Held.{Held}
use Rattle.market_reader.specs.Keeping.{Records, Holds, KeepsFormat, SoundMarket, MarketLaw}
use Rattle.market_reader.specs.Markets.{market_from, market_read}
use Rattle.market_reader.proofs.Holding.{holds_of, one_market}
use Rattle.market_reader.proofs.Recording.{few_each, records_of, records_only}
use Rattle.market_reader.proofs.RightNames.{Rightly, rightly_each}
use Rattle.market_reader.proofs.Soundness.{sound_of}

-- ---- lines that keep a form

module _ (ls : List (List ℕ)) (f : Form) (k : KeepsForm ls f) where
  pub agents_bound : (1 ≤ f.sizes.agents) × (f.sizes.agents ≤ 200)
  agents_bound = let r = k.sizes.ranges in (r.0, r.1)

  pub places_bound : (1 ≤ f.sizes.places) × (f.sizes.places ≤ 40)
  places_bound = let r = k.sizes.ranges.2 in (r.0, r.1)

  sections_kept : Sections f.sizes blank (kinds_of f.contents) (drop 2 ls)
  sections_kept = subst (Sections f.sizes blank (kinds_of f.contents)) (sym (ap (drop 2) k.parts)) k.sections

  pub few_kept : AllByRecursion (λ l. length (numbers_at l) ≤ 201) (drop 2 ls)
  few_kept = few_each f.sizes blank (kinds_of f.contents) (drop 2 ls) agents_bound.1 places_bound.1 sections_kept

  each_kept : Records f.sizes (kinds_of f.contents) (drop 2 ls) (entries_of (kinds_of f.contents) (drop 2 ls))
  each_kept = records_of f.sizes blank (kinds_of f.contents) (drop 2 ls) sections_kept

  named_kept : Rightly blank (entries_of (kinds_of f.contents) (drop 2 ls))
  named_kept = rightly_each f.sizes blank (kinds_of f.contents) (drop 2 ls) sections_kept

  holds_kept : Holds f (entries_of (kinds_of f.contents) (drop 2 ls)) (market_of f (entries_of (kinds_of f.contents) (drop 2 ls)))
  holds_kept = holds_of f (drop 2 ls) (entries_of (kinds_of f.contents) (drop 2 ls)) k.right each_kept named_kept

-- ---- the law

ok_same : (x y : Held) → ◌≡◌ {A = Result Held MarketFault} (Ok x) (Ok y) → x ≡ y
ok_same x y e = cc

sound : (file : List ℕ) (h : Held) → market_read file ≡ Ok h → KeepsFormat file h
sound file h e = go (file_form file) refl e
  where
    go : (o : Result Form MarketFault) → file_form file ≡ o → market_from o (lines file) ≡ Ok h → KeepsFormat file h
    go (Err x) is e = let w : ◌≡◌ {A = ℕ} 0 1 = cc in absurd (omega arith)
    go (Ok f) is e =
        let known = (form_law file (file_form file) refl).sound f is in
        let es = entries_of (kinds_of f.contents) (drop 2 (lines file)) in
        record {
          form = f;
          records = es;
          sized = known.0;
          kept = known.1;
          each = each_kept (lines file) f known.1;
          holds = subst (Holds f es) (ok_same (market_of f es) h e) (holds_kept (lines file) f known.1);
        }

complete : (file : List ℕ) (h : Held) → KeepsFormat file h → market_read file ≡ Ok h
complete file h k =
    let f = k.form in
    let es = entries_of (kinds_of f.contents) (drop 2 (lines file)) in
    let same = records_only f.sizes (kinds_of f.contents) (drop 2 (lines file)) k.records k.each in
    ap (λ o. market_from o (lines file)) ((form_law file (file_form file) refl).complete f k.sized k.kept)
    ∙ ap Ok (one_market f es (market_of f es) h (holds_kept (lines file) f k.kept) (subst (λ x. Holds f x h) same k.holds))

right : (file : List ℕ) (h : Held) → KeepsFormat file h → SoundMarket h
right file h k =
    let f = k.form in
    let ls = lines file in
    let same = records_only f.sizes (kinds_of f.contents) (drop 2 ls) k.records k.each in
    sound_of f (drop 2 ls) k.records h k.kept.right k.each (subst (Rightly blank) (sym same) (named_kept ls f k.kept)) k.holds (agents_bound ls f k.kept) (places_bound ls f k.kept)

-- A fault of the reading is one of the form.
fault_of : (file : List ℕ) (e : MarketFault) → market_read file ≡ Err e → file_form file ≡ Err e
fault_of file e is = go (file_form file) refl is
  where
    go : (o : Result Form MarketFault) → file_form file ≡ o → market_from o (lines file) ≡ Err e → file_form file ≡ Err e
    go (Err x) was is = was ∙ cc
    go (Ok f) was is = let w : ◌≡◌ {A = ℕ} 0 1 = cc in absurd (omega arith)

pub market_law : (file : List ℕ) (r : Result Held MarketFault) → r ≡ market_read file → MarketLaw file r
market_law file r e =
    let known = form_law file (file_form file) refl in
    record {
      sound = λ h is. sound file h (sym e ∙ is);
      complete = λ h k. e ∙ complete file h k;
      one = λ h k a b. ok_same h k (sym (complete file h a) ∙ complete file k b);
      right = right file;
      first = λ x is. known.first x (fault_of file x (sym e ∙ is));
      outside = λ bad. e ∙ ap (λ o. market_from o (lines file)) (known.outside bad);
      named = λ x s b. e ∙ ap (λ o. market_from o (lines file)) (known.named x s b);
      alike = λ other c o s. ap (λ x. market_from x (lines other)) (known.alike other c o s) ∙ ap (market_from (file_form file)) (same_lines file other c) ∙ sym e;
    }

-- ---- what is known of a form that was accepted

pub sizes_few : (file : List ℕ) (f : Form) → FormLaw file (Ok f) → (f.sizes.agents ≤ 200) × (f.sizes.places ≤ 40)
sizes_few file f law = let kept = (law.sound f refl).1 in ((agents_bound (lines file) f kept).1, (places_bound (lines file) f kept).1)

pub kinds_few : (file : List ℕ) (f : Form) → FormLaw file (Ok f) → length (kinds_of f.contents) ≤ 621
kinds_few file f law =
    let kept = (law.sound f refl).1 in
    few_kinds f.sizes f.contents (agents_bound (lines file) f kept).1 (places_bound (lines file) f kept).1 kept.right

pub words_few : (file : List ℕ) (f : Form) → FormLaw file (Ok f) → AllByRecursion (λ l. length (numbers_at l) ≤ 201) (drop 2 (lines file))
words_few file f law = few_kept (lines file) f (law.sound f refl).1

-- What the reading of a file rests on.
pub ruleset reading = (market_law, sizes_few, kinds_few, words_few)
