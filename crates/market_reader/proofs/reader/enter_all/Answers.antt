use Rattle.std.proofs.Common.{ℕ, ◌∷◌, [], map, length, drop, Bor, List, sym, ap, ◌∙◌, arith}
use Rattle.std.proofs.lemmas.List.{map-append, length_push}
use Rattle.std.proofs.lemmas.Iterator.Consumers.{YieldsList-turn, YieldsList-end}
use Rattle.spelling.specs.Lines.{lines}
use Rattle.spelling.specs.Views.{numbers_of}
use Rattle.market_lines.specs.declared.kind.Kind.{Kind}
use Rattle.market_file.specs.Contents.{kinds_of}
use Rattle.market_file.specs.Files.{numbers_at}
use Rattle.market_reader.specs.Filling.{entered, after}
use Rattle.market_reader.specs.Held.{held}
use Rattle.market_reader.proofs.Entering.{after_last, entered_nodes, entered_tenants, entry_in, pair_at, pairs_of, entries_of_pairs, few_at}
use Rattle.market_reader.proofs.reader.enter_all.Goals as goal

pub enter-requires-clause-few : goal.enter-requires-clause-few
enter-requires-clause-few c =
    let ks = kinds_of c.args.contents in
    let file = c.args.file.now in
    let pairs = pairs_of c.into_iter-kind-iterator.result ks file (grind arith) (cc) (cc) in
    let turn = YieldsList-turn pairs c.loop-kind.yielded c.loop-kind.kind-iterator c.loop-kind.yielded_by c.next.result c.next.new.self (c.in-Some.kind, c.in-Some.text) c.in-Some.is c.next.ensures.steps in
    omega (arith, few_at ks (drop 2 (lines file)) (length c.loop-kind.yielded) _ _ c.requires.few turn.0 turn.1, ap length c.after_letter.ensures)

pub loop-kind-preserved : goal.loop-kind-preserved
loop-kind-preserved c =
    let passed = c.loop-kind.yielded in
    let k = c.in-Some.kind in
    let pair : Kind × Bor (List ℕ) = (k, c.in-Some.text) in
    let before = held c.loop-kind.market in
    let records = map entry_in (map pair_at passed) in
    let one = length_push passed pair in (
      c.enter.ensures
          ∙ ap (λ ns. entered k ns before) c.after_letter.ensures
          ∙ ap (entered k (numbers_at c.in-Some.text.now)) c.loop-kind.invariant.0
          ∙ sym (after_last (held c.args.market.now) records (entry_in (pair_at pair)))
          ∙ ap (after (held c.args.market.now)) (sym (ap (map entry_in) (map-append pair_at passed (pair ∷ [])) ∙ map-append entry_in (map pair_at passed) (pair_at pair ∷ []))),
      omega (arith, one, c.loop-kind.invariant.1, ap (λ h. length h.nodes) c.enter.ensures, entered_nodes k (numbers_of c.after_letter.result) before),
      omega (arith, one, c.loop-kind.invariant.2, ap (λ h. length h.tenants) c.enter.ensures, entered_tenants k (numbers_of c.after_letter.result) before),
      (tt, tt),
      tt,
    )

pub returns : goal.returns
returns c =
    let ks = kinds_of c.args.contents in
    let file = c.args.file.now in
    let pairs = pairs_of c.into_iter-kind-iterator.result ks file (grind arith) (cc) (cc) in
    let end = YieldsList-end pairs c.loop-kind.yielded c.loop-kind.kind-iterator c.loop-kind.yielded_by c.next.result c.next.new.self c.in-None.is c.next.ensures.steps in
    c.loop-kind.invariant.0
    ∙ ap (λ ps. after (held c.args.market.now) (map entry_in ps)) end.0
    ∙ ap (after (held c.args.market.now)) (entries_of_pairs ks (drop 2 (lines file)))
