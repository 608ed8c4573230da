-- One record more in a market. Assumes nothing.
use Rattle.std.proofs.Common.{◌≡◌, ℕ, zero, suc, ◌+◌, ◌<◌, ◌≤◌, Bool, true, false, cond, List, [], ◌∷◌, ◌++◌, map, length, get_or, take, drop, replicate, Bor, sym, refl, ap, ◌∙◌, append_assoc, append-nil, arith}
use Rattle.std.proofs.lemmas.List.{take-replicate, length_push}
use Rattle.std.proofs.lemmas.Iterator.{YieldsList, zips, YieldsList-from_zip}
use Rattle.std.proofs.lemmas.Iterator.Adapters.{YieldsList-from_skip}
use Rattle.std.proofs.lemmas.Iterator.Consumers.{YieldsList-from_first}
use Rattle.std.specs.Iterator.{YieldsFirst}
use Rattle.std.specs.Iterator.Adapters.{zip_first, zip_second, skip_source, skip_count, skip_steps}
use Rattle.std.specs.List.{AllByRecursion, zip}
use Rattle.std.specs.declared.iter.Zip.{Zip}
use Rattle.std.specs.declared.iter.Skip.{Skip}
use Rattle.spelling.specs.declared.lines.Lines.{Lines}
use Rattle.spelling.specs.Lines.{lines}
use Rattle.spelling.proofs.Filing.{line_steps, road_of}
use Rattle.market_file.specs.Contents.{kinds_left}
use Rattle.market_file.specs.declared.kinds.Kinds.{Kinds}
use Rattle.market.specs.declared.agent.Agent.{Agent}
use Rattle.market_lines.specs.declared.kind.Kind.{Kind}
use Rattle.market_lines.specs.declared.kind.Kind.TheVariants as kind
use Rattle.market_file.specs.Files.{numbers_at}
use Rattle.market_file.specs.Ledgers.{node_in}
use Rattle.market_reader.specs.declared.record.Served.{Served}
use Rattle.market_reader.specs.declared.record.Served.TheVariants.{ByQueue, ByPriorities}
use Rattle.market_reader.specs.Filling.{Entry, entries_of, of_kind, order_in, tenant_in, orders_after, with_queue, with_order, with_orders, with_nodes, with_tenants, entered, after}
use Rattle.market_reader.specs.Held.{Held, Orders, queue, priorities, orders_by}
use Rattle.market_reader.specs.Tables.{set_at, about}
use Rattle.market_reader.proofs.Tabling.{take_set_at}

-- A P line changes the order of its place, where there are priorities.
pub order_entered : (s : Served) (q : List Agent) (m : ℕ) (t u : List (List Agent)) (ns : List ℕ) → u ≡ set_at t (about ns) (order_in ns) → orders_by s q (take m u) ≡ with_order (orders_by s q (take m t)) ns
order_entered ByQueue q m t u ns e = refl
order_entered ByPriorities q m t u ns e = ap (λ l. priorities (take m l)) e ∙ ap priorities (take_set_at m t (about ns) (order_in ns))

-- Before the first record all orders are empty.
pub no_orders_at_first : (b : Bool) (q : List Agent) (m : ℕ) (t : List (List Agent)) → q ≡ [] → t ≡ replicate 40 [] → m ≤ 40 → orders_by (cond b ByQueue ByPriorities) q (take m t) ≡ cond b (queue []) (priorities (replicate m []))
no_orders_at_first true q m t none empty few = ap queue none
no_orders_at_first false q m t none empty few = ap (λ l. priorities (take m l)) empty ∙ ap priorities (take-replicate m 40 [] few)

-- A market is equal to another where each part is.
pub alike : (h k : Held) → h.agents ≡ k.agents → h.places ≡ k.places → h.capacities ≡ k.capacities → h.orders ≡ k.orders → h.nodes ≡ k.nodes → h.tenants ≡ k.tenants → h.rankings ≡ k.rankings → h ≡ k
alike h k a b c d e f g =
    let same : ◌≡◌ {A = Held} (record { agents = h.agents; places = h.places; capacities = h.capacities; orders = h.orders; nodes = h.nodes; tenants = h.tenants; rankings = h.rankings }) (record { agents = k.agents; places = k.places; capacities = k.capacities; orders = k.orders; nodes = k.nodes; tenants = k.tenants; rankings = k.rankings }) = cc in
    same

-- ---- one record after another

orders_none : (o : Orders) → orders_after o [] [] ≡ o
orders_none (queue q) = refl
orders_none (priorities t) = refl

-- No records change nothing.
pub after_none : (h : Held) → after h [] ≡ h
after_none h = alike (after h []) h refl refl refl (orders_none h.orders) (append-nil h.nodes) (append-nil h.tenants) refl

queue_first : (o : Orders) (ns : List ℕ) (qs ps : List (List ℕ)) → orders_after o (ns ∷ qs) ps ≡ orders_after (with_queue o ns) qs ps
queue_first (queue q) ns qs ps = refl
queue_first (priorities t) ns qs ps = refl

order_first : (o : Orders) (ns : List ℕ) (qs ps : List (List ℕ)) → orders_after o qs (ns ∷ ps) ≡ orders_after (with_order o ns) qs ps
order_first (queue q) ns qs ps = refl
order_first (priorities t) ns qs ps = refl

-- The first record, and then the others.
pub after_first : (k : Kind) (ns : List ℕ) (h : Held) (es : List Entry) → after h (record { kind = k; numbers = ns } ∷ es) ≡ after (entered k ns h) es
after_first kind.Market ns h es = refl
after_first kind.Contents ns h es = refl
after_first kind.Seats ns h es = refl
after_first kind.Queue ns h es = ap (with_orders (after h es)) (queue_first h.orders ns (of_kind kind.Queue es) (of_kind kind.Priorities es))
after_first kind.Priorities ns h es = ap (with_orders (after h es)) (order_first h.orders ns (of_kind kind.Queue es) (of_kind kind.Priorities es))
after_first kind.Heir ns h es = ap (with_nodes (after h es)) (sym (append_assoc h.nodes (node_in ns ∷ []) (map node_in (of_kind kind.Heir es))))
after_first kind.Tenant ns h es = ap (with_tenants (after h es)) (sym (append_assoc h.tenants (tenant_in ns ∷ []) (map tenant_in (of_kind kind.Tenant es))))
after_first kind.Ranking ns h es = refl

-- A record adds at most one node and one tenant.
pub entered_nodes : (k : Kind) (ns : List ℕ) (h : Held) → length (entered k ns h).nodes ≤ length h.nodes + 1
entered_nodes kind.Market ns h = omega arith
entered_nodes kind.Contents ns h = omega arith
entered_nodes kind.Seats ns h = omega arith
entered_nodes kind.Queue ns h = omega arith
entered_nodes kind.Priorities ns h = omega arith
entered_nodes kind.Heir ns h = omega (arith, length_push h.nodes (node_in ns))
entered_nodes kind.Tenant ns h = omega arith
entered_nodes kind.Ranking ns h = omega arith

pub entered_tenants : (k : Kind) (ns : List ℕ) (h : Held) → length (entered k ns h).tenants ≤ length h.tenants + 1
entered_tenants kind.Market ns h = omega arith
entered_tenants kind.Contents ns h = omega arith
entered_tenants kind.Seats ns h = omega arith
entered_tenants kind.Queue ns h = omega arith
entered_tenants kind.Priorities ns h = omega arith
entered_tenants kind.Heir ns h = omega arith
entered_tenants kind.Tenant ns h = omega (arith, length_push h.tenants (tenant_in ns))
entered_tenants kind.Ranking ns h = omega arith

-- The last record, and those before it.
pub after_last : (h : Held) (es : List Entry) (e : Entry) → after h (es ++ e ∷ []) ≡ entered e.kind e.numbers (after h es)
after_last h [] e = after_first e.kind e.numbers h [] ∙ after_none (entered e.kind e.numbers h) ∙ ap (entered e.kind e.numbers) (sym (after_none h))
after_last h (f ∷ es) e =
    after_first f.kind f.numbers h (es ++ e ∷ [])
    ∙ after_last (entered f.kind f.numbers h) es e
    ∙ ap (entered e.kind e.numbers) (sym (after_first f.kind f.numbers h es))

-- ---- a kind and a line together

-- The record of a line.
abbrev pub entry_in : Kind × List ℕ → Entry
entry_in p = record { kind = p.0; numbers = numbers_at p.1 }

-- What a kind and the place of a line stand for.
abbrev pub pair_at : Kind × Bor (List ℕ) → Kind × List ℕ
pair_at p = (p.0, p.1.now)

-- The kinds and the lines come together, one for one.
pub pairs_of : (it : Zip Kinds (Skip Lines)) (ks : List Kind) (file : List ℕ) → kinds_left (zip_first it) ≡ ks → (skip_source (zip_second it)).rest.now ≡ file → skip_count (zip_second it) ≡ 2 → YieldsList (zips (YieldsFirst kinds_left) (skip_steps line_steps)) pair_at it (zip ks (drop 2 (lines file)))
pairs_of it ks file kinds source count =
    YieldsList-from_zip (YieldsList-from_first (λ k. k) kinds_left ks kinds) (YieldsList-from_skip 2 (road_of (skip_source (zip_second it)) file source) count)

pub entries_of_pairs : (ks : List Kind) (ls : List (List ℕ)) → map entry_in (zip ks ls) ≡ entries_of ks ls
entries_of_pairs [] ls = refl
entries_of_pairs (k ∷ ks) [] = refl
entries_of_pairs (k ∷ ks) (l ∷ ls) = ap (λ es. entry_in (k, l) ∷ es) (entries_of_pairs ks ls)

-- Each line has few words.
pub few_at : (ks : List Kind) (ls : List (List ℕ)) (i : ℕ) (p q : Kind × List ℕ) → AllByRecursion (λ l. length (numbers_at l) ≤ 201) ls → i < length (zip ks ls) → p ≡ get_or (zip ks ls) i q → length (numbers_at p.1) ≤ 201
few_at [] ls i p q few within e = absurd (omega arith)
few_at (k ∷ ks) [] i p q few within e = absurd (omega arith)
few_at (k ∷ ks) (l ∷ ls) zero p q few within e = rw e few.0
few_at (k ∷ ks) (l ∷ ls) (suc i) p q few within e = few_at ks ls i p q few.1 (omega arith) e

-- What a market holds before the first record, and after one more.
pub ruleset no_record = (alike, no_orders_at_first, take-replicate)

pub ruleset one_record = (take_set_at, order_entered)
