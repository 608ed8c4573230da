use Rattle.std.proofs.Common.{◌≡◌, rules}
use Rattle.spelling.specs.Words.{spelled}
use Rattle.spelling.proofs.Spelling.{word_exactly}
use Rattle.spelling.proofs.word.number.Goals as goal

pub returns-in_err-digits-in_default : goal.returns-in_err-digits-in_default
returns-in_err-digits-in_default c =
    let e : c.from_residual.result ≡ spelled c.args.text.now = search rules in
    record { value = e; grammar = word_exactly _ _ e }

pub returns-in_ok-digits-in_default : goal.returns-in_ok-digits-in_default
returns-in_ok-digits-in_default c =
    let e : c.ok.result ≡ spelled c.args.text.now = search rules in
    record { value = e; grammar = word_exactly _ _ e }
