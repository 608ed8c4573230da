-- The contents of a file: which kinds of lines its sections have.
use Rattle.std.specs.Prelude.{◌≡◌, ℕ, ◌≤◌, cond, List, ◌++◌, replicate, Some, None, Option, ◌==◌, nat_le, slice_index}
use Rattle.market_lines.specs.declared.kind.Kind.{Kind}
use Rattle.market_lines.specs.declared.kind.Kind.TheVariants as kind
use Rattle.market_file.specs.declared.form.Contents.{Contents}
use Rattle.market_file.specs.declared.kinds.Kinds.{Kinds}
use Rattle.market.specs.declared.sizes.Sizes.{Sizes}

-- The kinds of the lines after the first two, in file order: the sections S, Q, P, H, T and R, each with as many lines as the contents say.
abbrev pub kinds_of : Contents → List Kind
kinds_of c =
    replicate c.seats kind.Seats ++
    (replicate c.queues kind.Queue ++
    (replicate c.priorities kind.Priorities ++
    (replicate c.heirs kind.Heir ++
    (replicate c.tenants kind.Tenant ++
    replicate c.rankings kind.Ranking))))

-- The kinds that are still to come.
abbrev pub kinds_left : Kinds → List Kind
kinds_left s = kinds_of s.left

-- The sizes that the numbers of an M line say.
abbrev pub sizes_in : List ℕ → Sizes
sizes_in ns = record { agents = slice_index ns 0; places = slice_index ns 1 }

-- The contents that the numbers of a C line say.
abbrev pub contents_in : List ℕ → Contents
contents_in ns = record {
  seats = slice_index ns 0;
  queues = slice_index ns 1;
  priorities = slice_index ns 2;
  heirs = slice_index ns 3;
  tenants = slice_index ns 4;
  rankings = slice_index ns 5;
}

-- How many P lines there are by the count of Q lines: none beside a queue, otherwise one for each place.
abbrev pub priorities_due : Sizes → ℕ → ℕ
priorities_due z q = cond (q == 1) 0 z.places

-- The counts of the contents are right for the sizes.
pub record RightContents (z : Sizes) (c : Contents) : Type 0 where
  pub seats : c.seats ≡ z.places
  pub queues : c.queues ≤ 1
  pub priorities : c.priorities ≡ priorities_due z c.queues
  pub heirs : c.heirs ≤ 300
  pub tenants : c.tenants ≤ z.places
  pub rankings : c.rankings ≤ z.agents

-- The place, from 1, of the leftmost count that is wrong for the sizes, where there is one.
abbrev pub wrong_count : Sizes → Contents → Option ℕ
wrong_count z c =
    cond (c.seats == z.places)
    (cond (nat_le c.queues 1)
    (cond (c.priorities == priorities_due z c.queues)
    (cond (nat_le c.heirs 300)
    (cond (nat_le c.tenants z.places)
    (cond (nat_le c.rankings z.agents) None (Some 6))
    (Some 5)) (Some 4)) (Some 3)) (Some 2)) (Some 1)
