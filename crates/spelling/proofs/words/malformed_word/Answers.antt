use Rattle.std.proofs.Common.{◌≡◌, ◌+◌, ap, ◌∙◌, inl, arith, rules, tests}
use Rattle.std.specs.Option.{is_none, option_map}
use Rattle.std.proofs.lemmas.Iterator.Adapters.{position_from-zero}
use Rattle.std.proofs.lemmas.Iterator.Search.{position_from_yields_List}
use Rattle.spelling.specs.Words.{readings}
use Rattle.spelling.proofs.Readings.{few_readings, place_more, readings_road}
use Rattle.spelling.proofs.words.malformed_word.Goals as goal

pub position-requires-clause-fits : goal.position-requires-clause-fits
position-requires-clause-fits c = inl (omega (arith, few_readings c.args.text.now))

pub map-requires : goal.map-requires
map-requires c = let few = few_readings c.args.text.now in search (rules, few)

pub returns : goal.returns
returns c =
    let os = readings c.args.text.now in
    let is_mapped : c.map.result ≡ option_map (λ i. i + 1) c.position.result = search rules in
    is_mapped
    ∙ ap (option_map (λ i. i + 1)) (position_from_yields_List is_none c.position.new.self _ c.position.result c.position.ensures.ran (readings_road (record { rest = c.args.text })) (λ x b q k. search (rules, tests)) ∙ position_from-zero is_none os)
    ∙ place_more 0 os
