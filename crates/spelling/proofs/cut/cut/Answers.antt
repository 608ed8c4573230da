use Rattle.std.proofs.Common.{take, drop, ap, ◌∙◌}
use Rattle.spelling.proofs.Cutting.{take_until, drop_until, length_until}
use Rattle.spelling.proofs.cut.cut.Goals as goal

pub split_at-requires : goal.split_at-requires
split_at-requires c = rw c.length_before.ensures (length_until _ _)

pub returns : goal.returns
returns c = record {
  front = c.split_at.ensures.front ∙ ap (λ n. take n c.args.bytes.now) c.length_before.ensures ∙ take_until c.args.at c.args.bytes.now;
  rest = c.split_at.ensures.back ∙ ap (λ n. drop n c.args.bytes.now) c.length_before.ensures ∙ drop_until c.args.at c.args.bytes.now;
}
