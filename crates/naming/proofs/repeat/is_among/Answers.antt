use Rattle.std.proofs.Common.{◌≡◌, ℕ, Bool, false, ◌||◌, eqb, sym, refl, ap, ◌∙◌, rules, tests}
use Rattle.std.proofs.lemmas.Fn.{fold_over, fronts, slice_gives}
use Rattle.std.proofs.lemmas.List.Recursion.{or_push}
use Rattle.std.specs.List.{list_any}
use Rattle.naming.proofs.repeat.is_among.Goals as goal

-- After each number, what was found is whether one of the numbers so far is the one looked for.
pub returns : goal.returns
returns c =
    let p : ℕ → Bool = λ y. eqb y c.args.number in
    fold_over fronts _ _ (λ ys b. b ≡ list_any p ys) _ (λ ys a y b f h k. let s : b ≡ (a || p y.now) = search (rules, tests) in (s ∙ ap (λ t. t || p y.now) h ∙ sym (or_push (list_any p) p refl (λ _ _. refl) ys y.now), search rules)) c.iter.result _ false c.fold.result (slice_gives c.iter.result) refl c.fold.ensures.ran
    ∙ ap (list_any p) c.iter.ensures.rest
