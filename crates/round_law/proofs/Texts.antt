-- How long the listing and the audit are at most.
use Rattle.std.proofs.Common.{◌≡◌, ℕ, suc, ◌+◌, ◌*◌, ◌≤◌, List, [], ◌∷◌, ◌++◌, length, get_or, Some, None, decimal, Option, sym, refl, subst, inl, inr, arith}
use Rattle.std.proofs.lemmas.Fmt.{length-decimal-le}
use Rattle.std.proofs.lemmas.List.{length-append}
use Rattle.std.specs.List.{AllByRecursion}
use Rattle.market.specs.declared.place.Place.{Place}
use Rattle.market.specs.declared.standing.Standing.{Standing}
use Rattle.market.specs.declared.standing.Standing.TheVariants.{Waiting, Placed, Unplaced}
use Rattle.market.specs.Rows.{Row, Waits}
use Rattle.market.specs.Rules.{Terms}
use Rattle.trading.specs.Economies.{Economy, RowIn}
use Rattle.trading.specs.Rankings.{Profile}
use Rattle.trading.specs.Trades.{Available, points_at}
use Rattle.trading.proofs.Circles.{trade_proper}
use Rattle.trading.proofs.Cycles.{cycle_circles}
use Rattle.trading.proofs.Economies.{all_waiting_row}
use Rattle.trading.proofs.Points.{room_known, best_open}
use Rattle.trading.proofs.Rows.{waiter_in}
use Rattle.round_law.specs.declared.member.Member.{Member}
use Rattle.round_law.specs.Contents.{count_members}
use Rattle.round_law.specs.Laws.{TextsFit, TextsShort}
use Rattle.round_law.specs.Records.{FromLowest, Lines, none, line}
use Rattle.round_law.specs.States.{State, agents_of, economy_of}
use Rattle.round_law.specs.Texts.{standing_text, listing_line, listing_from, seat_text, member_text, members_text, audit_line, audit_from}
use Rattle.round_law.proofs.Filing.{contents}
use Rattle.round_law.proofs.Histories.{blank_or_opened}
use Rattle.round_law.proofs.Sound.{Opened}

two_digits : (n : ℕ) → n ≤ 40 → length (decimal n) ≤ 2
two_digits n h = length-decimal-le 2 n (omega arith) (omega arith) (omega arith)

three_digits : (n : ℕ) → n ≤ 200 → length (decimal n) ≤ 3
three_digits n h = length-decimal-le 3 n (omega arith) (omega arith) (omega arith)

-- THE LISTING

standing_short : (x : Standing) → ((p : Place) → x ≡ Placed p → p.number ≤ 40) → length (standing_text x) ≤ 2
standing_short Waiting h = omega arith
standing_short (Placed p) h = two_digits p.number (h p refl)
standing_short Unplaced h = omega arith

listing_short : (k : ℕ) (A : Row) → k + length A ≤ 201 → ((i : ℕ) (p : Place) → get_or A i Unplaced ≡ Placed p → p.number ≤ 40) → length (listing_from k A) ≤ 7 * length A
listing_short k [] few h = omega arith
listing_short k (x ∷ A) few h = omega (
  arith,
  length-append (listing_line k x) (listing_from (suc k) A),
  length-append (decimal k) (32 ∷ (standing_text x ++ 10 ∷ [])),
  length-append (standing_text x) (10 ∷ []),
  three_digits k (omega arith),
  standing_short x (h 0),
  listing_short (suc k) A (omega arith) (λ i. h (suc i)),
)

-- THE AUDIT

-- A member whose text is short.
abbrev Short : Member → Type 0
Short m = (m.agent.number ≤ 200) × (length (seat_text m.place) ≤ 2)

members_short : (ms : List Member) → AllByRecursion Short ms → length (members_text ms) ≤ 7 * length ms
members_short [] all = omega arith
members_short (m ∷ ms) all = omega (
  arith,
  length-append (member_text m) (members_text ms),
  length-append (decimal m.agent.number) (62 ∷ seat_text m.place),
  three_digits m.agent.number all.0.0,
  all.0.1,
  members_short ms all.1,
)

audit_short : (k : ℕ) (lines : List (List Member)) → k + length lines ≤ 201 → AllByRecursion (AllByRecursion Short) lines → length (audit_from k lines) ≤ 5 * length lines + 7 * count_members lines
audit_short k [] few all = omega arith
audit_short k (ms ∷ lines) few all = omega (
  arith,
  length-append (audit_line k ms) (audit_from (suc k) lines),
  length-append (decimal k) (58 ∷ (members_text ms ++ 10 ∷ [])),
  length-append (members_text ms) (10 ∷ []),
  three_digits k (omega arith),
  members_short ms all.0,
  audit_short (suc k) lines (omega arith) all.1,
)

module _ (M : Economy) (R : Profile) (agents : M.agents ≤ 200) (places : length M.capacities ≤ 40) where
  seat_short : (A : Row) (x : Option Place) → Available M A x → length (seat_text x) ≤ 2
  seat_short A None o = omega arith
  seat_short A (Some p) o = two_digits p.number (omega (arith, (room_known M A p o).in_range))

  line_short : (A : Row) → RowIn M A → (ms : List Member) → AllByRecursion (Waits A) (agents_of ms) → AllByRecursion (λ m. m.place ≡ points_at M R A m.agent) ms → AllByRecursion Short ms
  line_short A proper [] w t = tt
  line_short A proper (m ∷ ms) w t = (
    (
      omega (arith, (waiter_in A m.agent w.0).in_range, proper.size),
      subst (λ (x : Option Place). length (seat_text x) ≤ 2) (sym t.0) (seat_short A (points_at M R A m.agent) (best_open M A (R m.agent))),
    ),
    line_short A proper ms w.1 t.1,
  )

  lines_short : {A E : Row} {lines : List (List Member)} → RowIn M A → Lines M R A lines E → AllByRecursion (AllByRecursion Short) lines
  lines_short proper none = tt
  lines_short {A} proper (line ms l rest) = (line_short A proper ms l.cycle.waiting l.took, lines_short (trade_proper (cycle_circles l.cycle) proper) rest)

-- Each line has a member.
lines_few : {M : Economy} {R : Profile} {A E : Row} {lines : List (List Member)} → Lines M R A lines E → length lines ≤ count_members lines
lines_few none = omega arith
lines_few (line ms l rest) = omega (arith, some ms l.from_lowest, lines_few rest)
  where
    some : (ms : List Member) → FromLowest (agents_of ms) → 1 ≤ length ms
    some [] low = absurd low
    some (m ∷ ms) low = omega arith

opened_short : (T : Terms) (s : State) → Opened T s → TextsFit s
opened_short T s o =
    let c = contents T s o in
    let market = o.market in
    record {
      listing =
          let short = listing_short 1 s.row (omega (arith, c.row.size)) (λ i p e. omega (arith, (c.row.placed (record { number = suc i }) p e).in_range)) in
          omega (arith, short, c.row.size);
      audit =
          let few = lines_few o.lines in
          let members : count_members s.cycles ≤ 200 = omega (arith, c.members) in
          let short = audit_short 1 s.cycles (omega arith) (lines_short (economy_of T s) _ market.few_agents market.few_places (all_waiting_row (economy_of T s)) o.lines) in
          omega arith;
    }

pub law_of_texts : TextsShort
law_of_texts T law X x = elim (blank_or_opened T law X x) [
  | inl b ↦ subst TextsFit (sym b) (record { listing = omega arith; audit = omega arith })
  | inr o ↦ opened_short T X o
]
