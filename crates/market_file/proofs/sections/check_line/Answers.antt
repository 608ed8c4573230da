use Rattle.std.proofs.Common.{◌≡◌, Some, None, Err, sym, ap, ◌∙◌, rules}
use Rattle.std.specs.Result.{result_err}
use Rattle.market_lines.specs.Records.{seen}
use Rattle.market_file.specs.Files.{named_at, wrong_at}
use Rattle.market_file.specs.Ledgers.{known, afterwards}
use Rattle.market_file.proofs.Filing.{placed_ok, check_formed}
use Rattle.market_file.proofs.Forming.{few_words}
use Rattle.market_file.proofs.sections.check_line.Goals as goal

pub take-requires-clause-few : goal.take-requires-clause-few
take-requires-clause-few c =
    few_words c.args.due.kind c.args.due.sizes c.args.text.now (seen c.in_ok-line.line) c.requires.sizes.0 c.requires.sizes.1 (placed_ok c.args.number _ _ (sym c.in_ok-line.ensures))

pub returns-in_err-map_err-clause-value : goal.returns-in_err-map_err-clause-value
returns-in_err-map_err-clause-value c =
    let f = check_formed c.args.due.sizes c.args.number (known c.args.ledger.now) c.args.due.kind c.args.text.now (seen c.in_ok-line.line) (sym c.in_ok-line.ensures) in
    let e : result_err c.take.result ≡ Some c.in_err-map_err.field-0.0.fault = search rules in
    let r : c.from_residual-in_err-map_err.result ≡ Err (wrong_at c.args.number c.in_err-map_err.field-0.0.fault) = search rules in
    r ∙ sym (f.0 ∙ ap (named_at c.args.number) (sym c.take.ensures.value ∙ e))

pub returns-clause-value : goal.returns-clause-value
returns-clause-value c =
    let f = check_formed c.args.due.sizes c.args.number (known c.args.ledger.now) c.args.due.kind c.args.text.now (seen c.in_ok-line.line) (sym c.in_ok-line.ensures) in
    let e : result_err c.take.result ≡ None = search rules in
    sym (f.0 ∙ ap (named_at c.args.number) (sym c.take.ensures.value ∙ e))

pub returns-clause-after : goal.returns-clause-after
returns-clause-after c =
    let f = check_formed c.args.due.sizes c.args.number (known c.args.ledger.now) c.args.due.kind c.args.text.now (seen c.in_ok-line.line) (sym c.in_ok-line.ensures) in
    let l = seen c.in_ok-line.line in
    let e : result_err c.take.result ≡ None = search rules in
    c.take.ensures.after ∙ ap (λ o. afterwards o l.kind l.numbers (known c.args.ledger.now)) e ∙ f.1
