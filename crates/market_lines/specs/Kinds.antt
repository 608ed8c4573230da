-- The kinds of lines and their letters.
use Rattle.std.specs.Prelude.{ℕ, cond, Some, None, Option, ◌==◌}
use Rattle.market_lines.specs.declared.kind.Kind.{Kind}
use Rattle.market_lines.specs.declared.kind.Kind.TheVariants.{Market, Contents, Seats, Queue, Priorities, Heir, Tenant, Ranking}

-- The letter of each kind: M, C, S, Q, P, H, T and R, as bytes.
abbrev pub letter_of : Kind → ℕ
letter_of Market = 77
letter_of Contents = 67
letter_of Seats = 83
letter_of Queue = 81
letter_of Priorities = 80
letter_of Heir = 72
letter_of Tenant = 84
letter_of Ranking = 82

-- The kind that a letter stands for, if it stands for one.
abbrev pub kind_of : ℕ → Option Kind
kind_of b =
    cond (b == 77) (Some Market)
    (cond (b == 67) (Some Contents)
    (cond (b == 83) (Some Seats)
    (cond (b == 81) (Some Queue)
    (cond (b == 80) (Some Priorities)
    (cond (b == 72) (Some Heir)
    (cond (b == 84) (Some Tenant)
    (cond (b == 82) (Some Ranking) None)))))))
