-- What the first two lines limit: the sizes, and how many lines the sections have. Assumes nothing.
use Rattle.std.proofs.Common.{◌≡◌, ℕ, ◌+◌, ◌≤◌, List, [], ◌∷◌, length, Some, None, Ok, Err, Option, Result, refl, subst, arith, length-append}
use Rattle.std.proofs.lemmas.List.{length-replicate}
use Rattle.std.proofs.lemmas.Bool.{cond_both}
use Rattle.market_lines.specs.declared.fault.LineFault.{LineFault}
use Rattle.market_lines.specs.declared.kind.Kind.TheVariants as kind
use Rattle.market_lines.specs.Records.{Read}
use Rattle.market_file.specs.declared.form.Contents.{Contents}
use Rattle.market.specs.declared.sizes.Sizes.{Sizes}
use Rattle.market_file.specs.Bounds.{InRange}
use Rattle.market_file.specs.Contents.{kinds_of, sizes_in, contents_in, priorities_due, wrong_count, RightContents}
use Rattle.market_file.specs.Files.{unknown, sizes_from, sizes_read, rightly, contents_from, contents_read}
use Rattle.market_file.specs.FormedLines.{line_formed}
use Rattle.market_file.proofs.Forming.{line_by_form}
use Rattle.market_file.proofs.Wrongly.{right_from}

-- The numbers of a formed M line.
limits : (ns : List ℕ) → 2 ≤ length ns → InRange kind.Market unknown 1 ns → ((sizes_in ns).agents ≤ 200) × ((sizes_in ns).places ≤ 40)
limits [] h r = absurd (omega arith)
limits (a ∷ []) h r = absurd (omega arith)
limits (a ∷ b ∷ ns) h r = (r.1, r.2.1)

pub sizes_limited : (o : Option (List ℕ)) (z : Sizes) → sizes_read o ≡ Ok z → (z.agents ≤ 200) × (z.places ≤ 40)
sizes_limited None z e = absurd cc
sizes_limited (Some l) z e = at (line_formed kind.Market unknown l) refl e
  where
    at : (r : Result Read LineFault) → line_formed kind.Market unknown l ≡ r → sizes_from r ≡ Ok z → (z.agents ≤ 200) × (z.places ≤ 40)
    at (Err x) is f = absurd cc
    at (Ok x) is f =
        let same : sizes_in x.numbers ≡ z = cc in
        let g = ((line_by_form unknown kind.Market l (line_formed kind.Market unknown l) refl).sound x is).1 in
        subst (λ y. (y.agents ≤ 200) × (y.places ≤ 40)) same (limits x.numbers g.count.0 g.ranges)

pub contents_right : (z : Sizes) (o : Option (List ℕ)) (c : Contents) → contents_read z o ≡ Ok c → RightContents z c
contents_right z None c e = absurd cc
contents_right z (Some l) c e = at (line_formed kind.Contents z l) e
  where
    counted : (d : Contents) (m : Option ℕ) → wrong_count z d ≡ m → rightly m d ≡ Ok c → RightContents z c
    counted d None is f = let same : d ≡ c = cc in subst (RightContents z) same (right_from z d is)
    counted d (Some j) is f = absurd cc

    at : (r : Result Read LineFault) → contents_from z r ≡ Ok c → RightContents z c
    at (Err x) f = absurd cc
    at (Ok x) f = counted (contents_in x.numbers) (wrong_count z (contents_in x.numbers)) refl f

-- How many lines the sections have.
count : (c : Contents) → length (kinds_of c) ≡ c.seats + (c.queues + (c.priorities + (c.heirs + (c.tenants + c.rankings))))
count c = simp (length-append, length-replicate)

pub few_kinds : (z : Sizes) (c : Contents) → z.agents ≤ 200 → z.places ≤ 40 → RightContents z c → length (kinds_of c) ≤ 621
few_kinds z c n m r =
    let p : priorities_due z c.queues ≤ 40 = cond_both _ 0 z.places (λ x. x ≤ 40) (λ _. omega arith) (λ _. omega arith) in
    omega (arith, count c, r.seats, r.queues, r.priorities, r.heirs, r.tenants, r.rankings)
