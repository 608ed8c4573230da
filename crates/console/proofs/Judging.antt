-- What the verdict on a market file tells, and that it fits its room. Assumes nothing.
use Rattle.std.proofs.Common.{◌≡◌, ℕ, zero, suc, ◌≤◌, true, false, cond, eqb, List, [], ◌∷◌, ◌++◌, ◌⊎◌, length, Ok, Err, codes, decimal, unwrap_or, sym, refl, ap, ◌∙◌, subst, inl, inr, arith}
use Rattle.std.proofs.lemmas.Fmt.{decimal_digit}
use Rattle.std.proofs.ByRecursion.{All-weaker}
use Rattle.std.specs.List.{slice_get, AllByRecursion}
use Rattle.spelling.specs.Grammar.{spell}
use Rattle.spelling.specs.Lines.{onto, lines}
use Rattle.market_lines.specs.declared.fault.MarketFault.{MarketFault}
use Rattle.market_lines.specs.declared.fault.MarketFault.TheVariants.{Size}
use Rattle.market_lines.specs.declared.report.Source.TheVariants as source
use Rattle.market_lines.specs.Causes.{fault_line}
use Rattle.market_lines.specs.Reports.{line_or, faulty_line}
use Rattle.market_file.specs.Files.{file_form}
use Rattle.market_file.specs.Keeping.{FormLaw, BrokenForm, Sized}
use Rattle.market_file.proofs.Lawful.{form_law}
use Rattle.market_reader.specs.Held.{Held}
use Rattle.market_reader.specs.Keeping.{MarketLaw, SoundMarket}
use Rattle.market_reader.specs.Markets.{market_read}
use Rattle.market_reader.proofs.Lawful.{market_law}
use Rattle.console.specs.Printed.{verdict_of, verdict, owners_verdict_of, owners_verdict}
use Rattle.console.specs.Verdicts.{Tells, TellsOwners}

-- ---- the room

-- No line is longer than its file.
short_onto : (b n : ℕ) (ls : List (List ℕ)) → AllByRecursion (λ l. length l ≤ n) ls → AllByRecursion (λ l. length l ≤ suc n) (onto b ls)
short_onto b n [] h = (omega arith, tt)
short_onto b n (l ∷ ls) h = (omega (arith, h.0), All-weaker (λ l. length l ≤ n) (λ l. length l ≤ suc n) (λ l k. omega arith) ls h.1)

lines_short : (bs : List ℕ) → AllByRecursion (λ l. length l ≤ length bs) (lines bs)
lines_short [] = tt
lines_short (b ∷ bs) =
    let below = lines_short bs in
    elim (eqb b 10) as (λ t. AllByRecursion (λ l. length l ≤ suc (length bs)) (cond t ([] ∷ lines bs) (onto b (lines bs)))) [
      | true ↦ (omega arith, All-weaker (λ l. length l ≤ length bs) (λ l. length l ≤ suc (length bs)) (λ l k. omega arith) (lines bs) below)
      | false ↦ short_onto b (length bs) (lines bs) below
    ]

nth_short : (n : ℕ) (ls : List (List ℕ)) (k : ℕ) → AllByRecursion (λ l. length l ≤ n) ls → length (unwrap_or (slice_get ls k) []) ≤ n
nth_short n [] k h = omega arith
nth_short n (l ∷ ls) zero h = h.0
nth_short n (l ∷ ls) (suc k) h = nth_short n ls k h.1

line_short : (file : List ℕ) (n : ℕ) → length (line_or file n) ≤ length file
line_short file zero = omega arith
line_short file (suc k) = nth_short (length file) (lines file) k (lines_short file)

-- The faulty line of a file has at most 65,535 bytes.
first_fits : (market : List ℕ) (e : MarketFault) → ((e ≡ Size) × (Sized market → ⊥)) ⊎ (Sized market × BrokenForm (lines market) e) → length (faulty_line market [] (record { source = source.Market; fault = e })) ≤ 65535
first_fits market e h =
    elim h [
      | inl size ↦ subst (λ x. length (line_or market (fault_line x)) ≤ 65535) (sym size.0) (omega arith)
      | inr broken ↦ omega (arith, broken.0.1, line_short market (fault_line e))
    ]

-- So it is where the form was checked.
pub fault_fits : (market : List ℕ) (e : MarketFault) → FormLaw market (Err e) → length (faulty_line market [] (record { source = source.Market; fault = e })) ≤ 65535
fault_fits market e h = first_fits market e (h.first e refl)

-- So it is where the market was read.
pub owners_fault_fits : (market : List ℕ) (e : MarketFault) → MarketLaw market (Err e) → length (faulty_line market [] (record { source = source.Market; fault = e })) ≤ 65535
owners_fault_fits market e h = first_fits market e (h.first e refl)

-- ---- what it tells

-- The numbers that are printed of a fault of size.
size_numbers : spell (8 ∷ 0 ∷ 0 ∷ []) ≡ codes " 8 0 0"
size_numbers =
    ap (λ d. 32 ∷ (d ++ 32 ∷ (decimal 0 ++ 32 ∷ (decimal 0 ++ [])))) (decimal_digit 8 (omega arith))
    ∙ ap (λ d. 32 ∷ 56 ∷ 32 ∷ (d ++ 32 ∷ (d ++ []))) (decimal_digit 0 (omega arith))

-- The text of a fault of size.
size_text : (market : List ℕ) → verdict_of market (Err Size) ≡ codes "E m market 8 0 0\n\n"
size_text market = ap (λ t. codes "E m market" ++ ((t ++ 10 ∷ []) ++ 10 ∷ [])) size_numbers

pub tells : (market text : List ℕ) → text ≡ verdict market → Tells market text
tells market text e =
    let known = form_law market (file_form market) refl in
    record {
      size = λ bad. e ∙ ap (verdict_of market) (known.outside bad) ∙ size_text market;
      kept = λ f s k. e ∙ ap (verdict_of market) (known.complete f s k);
      broken = λ x s b. e ∙ ap (verdict_of market) (known.named x s b);
    }

-- The same of the verdict with the owners.
pub tells_owners : (market text : List ℕ) → text ≡ owners_verdict market → TellsOwners market text
tells_owners market text e =
    let known = market_law market (market_read market) refl in
    record {
      size = λ bad. e ∙ ap (owners_verdict_of market) (known.outside bad) ∙ size_text market;
      kept = λ h k. e ∙ ap (owners_verdict_of market) (known.complete h k);
      broken = λ x s b. e ∙ ap (owners_verdict_of market) (known.named x s b);
    }

-- A market that was read is sound.
pub sound_read : (market : List ℕ) (h : Held) → MarketLaw market (Ok h) → SoundMarket h
sound_read market h law = law.right h (law.sound h refl)

-- What the two answers rest on.
pub ruleset judged = (fault_fits, tells)

pub ruleset owners_judged = (owners_fault_fits, sound_read)
