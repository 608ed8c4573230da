use Rattle.std.proofs.Common.{◌<◌, ◌∷◌, length, sym, ap, ◌∙◌, arith, rules}
use Rattle.std.proofs.lemmas.Bool.{eqb-false}
use Rattle.spelling.specs.Lines.{lines, past}
use Rattle.spelling.proofs.Filing.{lines_step, length_past}
use Rattle.spelling.proofs.lines.LinesIterator.next.Goals as goal
use Rattle.std.proofs.iter.Next.{firm}

pub returns : goal.returns
returns c =
    let bs = c.args.self.now.rest.now in
    let some : 0 < length bs = omega (arith, eqb-false (length bs) 0 (sym c.if-is_empty.ensures)) in
    record {
      steps = lines_step bs some ∙ ap (λ l. l ∷ lines (past bs)) (sym c.split_line.ensures.line) ∙ ap (λ l. c.split_line.result.0.now ∷ lines l) (sym c.split_line.ensures.rest);
      goes = firm ((tt, tt, omega (arith, length_past bs some, ap length c.split_line.ensures.rest))) (λ h. search rules);
    }
