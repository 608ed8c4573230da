use Rattle.std.proofs.Common.{◌∙◌}
use Rattle.std.proofs.lemmas.Iterator.Consumers.{nth_from_yields_List}
use Rattle.spelling.specs.Lines.{lines}
use Rattle.spelling.proofs.Filing.{line_steps, road_of, numbered_is}
use Rattle.spelling.proofs.lines.line_at.Goals as goal

pub returns : goal.returns
returns c =
    let k = c.in_ok-checked_sub.ensures in
    nth_from_yields_List {steps = line_steps} {v = λ x. x.now} {s = c.new.result} {all = lines c.args.file.now} c.nth.result c.nth.new.self c.in_ok-checked_sub.field-0 c.nth.ensures.ran (road_of c.new.result c.args.file.now c.new.ensures.all)
    ∙ numbered_is (lines c.args.file.now) c.args.number c.in_ok-checked_sub.field-0 k.0 k.1
