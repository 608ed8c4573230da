-- The market of the records holds what they say, and is the only one that does. Assumes nothing.
use Rattle.std.proofs.Common.{◌≡◌, ℕ, ◌≤◌, cond, eqb, List, [], ◌∷◌, length, replicate, sym, refl, ap, ◌∙◌, inl, inr, arith}
use Rattle.std.proofs.ByRecursion.{All-weaker}
use Rattle.std.proofs.lemmas.Bool.{cases_Bool, eqb-true, eqb-false}
use Rattle.std.specs.List.{AllByRecursion}
use Rattle.market.proofs.Pigeonhole.{UpTo}
use Rattle.market_lines.specs.declared.kind.Kind.{Kind}
use Rattle.market_lines.specs.declared.kind.Kind.TheVariants as kind
use Rattle.market_file.specs.declared.form.Form.{Form}
use Rattle.market.specs.declared.sizes.Sizes.{Sizes}
use Rattle.market_file.specs.Bounds.{least_words, lowest, highest}
use Rattle.market_file.specs.Contents.{kinds_of, RightContents}
use Rattle.market_file.specs.Ledgers.{blank}
use Rattle.market_reader.specs.Filling.{Entry, of_kind, agents_in, capacity_in, order_in, ranking_in, queue_after, orders_after, no_orders, market_of}
use Rattle.market_reader.specs.Held.{Held, Orders, queue, priorities}
use Rattle.market_reader.specs.Keeping.{Records, OrdersHeld, Holds}
use Rattle.market_reader.specs.Tables.{about, filled}
use Rattle.market_reader.proofs.Entering.{alike}
use Rattle.market_reader.proofs.Recording.{Fits, fits_each, as_many}
use Rattle.market_reader.proofs.RightNames.{Rightly, about_different}
use Rattle.market_reader.proofs.Tables.{filled_table, one_table}

-- ---- what records are about

-- The first number of a line, where it counts from 1.
about_range : (k : Kind) (z : Sizes) (ns : List ℕ) → 1 ≤ least_words k z → 1 ≤ lowest k 1 → Fits z k ns → UpTo (highest k z 1) (about ns)
about_range k z [] some low f = absurd (omega (arith, f.0.0))
about_range k z (p ∷ ns) some low f = (omega (arith, f.1.0), f.1.1)

pub none_at_all : {X : Type 0} (xs : List X) → length xs ≡ 0 → xs ≡ []
none_at_all [] e = refl
none_at_all (x ∷ xs) e = absurd (omega arith)

pub only_one : {X : Type 0} (xs : List X) → length xs ≡ 1 → (x : X) × (xs ≡ x ∷ [])
only_one [] e = absurd (omega arith)
only_one (x ∷ []) e = (x, refl)
only_one (x ∷ y ∷ xs) e = absurd (omega arith)

module _ (f : Form) (ls : List (List ℕ)) (es : List Entry) (right : RightContents f.sizes f.contents) (each : Records f.sizes (kinds_of f.contents) ls es) (named : Rightly blank es) where
  pub about_each : (k : Kind) → 1 ≤ least_words k f.sizes → 1 ≤ lowest k 1 → AllByRecursion (λ ns. UpTo (highest k f.sizes 1) (about ns)) (of_kind k es)
  about_each k some low =
      All-weaker (Fits f.sizes k) (λ ns. UpTo (highest k f.sizes 1) (about ns)) (λ ns. about_range k f.sizes ns some low) (of_kind k es) (fits_each f.sizes (kinds_of f.contents) ls es k each)

  queues : length (of_kind kind.Queue es) ≡ f.contents.queues
  queues = omega (arith, as_many f.sizes f.contents ls es kind.Queue each)

  -- The orders of the market of the records.
  orders_hold : OrdersHeld f.sizes.places es (orders_after (no_orders f) (of_kind kind.Queue es) (of_kind kind.Priorities es))
  orders_hold =
      elim (cases_Bool (eqb f.contents.queues 1)) [
        | inl one ↦
            let single = only_one (of_kind kind.Queue es) (queues ∙ eqb-true f.contents.queues 1 one) in
            inl (single.0, single.1, ap (λ b. orders_after (cond b (queue []) (priorities (replicate f.sizes.places []))) (of_kind kind.Queue es) (of_kind kind.Priorities es)) one ∙ ap (λ l. queue (queue_after [] l)) single.1)
        | inr none ↦
            let empty = none_at_all (of_kind kind.Queue es) (omega (arith, queues, eqb-false f.contents.queues 1 none, right.queues)) in
            inr (empty, (filled order_in (replicate f.sizes.places []) (of_kind kind.Priorities es), ap (λ b. orders_after (cond b (queue []) (priorities (replicate f.sizes.places []))) (of_kind kind.Queue es) (of_kind kind.Priorities es)) none, filled_table order_in [] f.sizes.places (of_kind kind.Priorities es) (about_different kind.Priorities refl blank es named) (about_each kind.Priorities (omega arith) (omega arith))))
      ]

  pub holds_of : Holds f es (market_of f es)
  holds_of = record {
    agents = refl;
    places = refl;
    capacities = filled_table capacity_in 0 f.sizes.places (of_kind kind.Seats es) (about_different kind.Seats refl blank es named) (about_each kind.Seats (omega arith) (omega arith));
    orders = orders_hold;
    nodes = refl;
    tenants = refl;
    rankings = filled_table ranking_in [] f.sizes.agents (of_kind kind.Ranking es) (about_different kind.Ranking refl blank es named) (about_each kind.Ranking (omega arith) (omega arith));
  }

-- ---- no other market holds the same

some_none : {X P : Type 0} (x : X) (xs : List X) → x ∷ xs ≡ [] → P
some_none x xs e = let z : ◌≡◌ {A = ℕ} 0 1 = cc in absurd (omega arith)

first_same : {X : Type 0} (x y : X) (xs ys : List X) → x ∷ xs ≡ y ∷ ys → x ≡ y
first_same x y xs ys e = cc

one_order : (m : ℕ) (es : List Entry) (o p : Orders) → OrdersHeld m es o → OrdersHeld m es p → o ≡ p
one_order m es o p (inl a) (inl b) = a.2 ∙ ap (λ ns. queue (agents_in ns)) (first_same a.0 b.0 [] [] (sym a.1 ∙ b.1)) ∙ sym b.2
one_order m es o p (inl a) (inr b) = some_none a.0 [] (sym a.1 ∙ b.0)
one_order m es o p (inr a) (inl b) = some_none b.0 [] (sym b.1 ∙ a.0)
one_order m es o p (inr a) (inr b) =
    a.1.1 ∙ ap priorities (one_table order_in [] m (of_kind kind.Priorities es) a.1.0 b.1.0 a.1.2 b.1.2) ∙ sym b.1.1

pub one_market : (f : Form) (es : List Entry) (h k : Held) → Holds f es h → Holds f es k → h ≡ k
one_market f es h k a b =
    alike h k (a.agents ∙ sym b.agents) (a.places ∙ sym b.places)
    (one_table capacity_in 0 f.sizes.places (of_kind kind.Seats es) h.capacities k.capacities a.capacities b.capacities)
    (one_order f.sizes.places es h.orders k.orders a.orders b.orders)
    (a.nodes ∙ sym b.nodes) (a.tenants ∙ sym b.tenants)
    (one_table ranking_in [] f.sizes.agents (of_kind kind.Ranking es) h.rankings k.rankings a.rankings b.rankings)
