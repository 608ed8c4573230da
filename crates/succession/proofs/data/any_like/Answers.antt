use Rattle.std.proofs.Common.{◌≡◌, Bool, false, true, ◌||◌, List, [], ◌∷◌, rules, refl, ◌∙◌, tests}
use Rattle.std.proofs.lemmas.Iterator.{YieldsList-from_slice}
use Rattle.std.proofs.lemmas.Iterator.Consumers.{fold_from_yields_List}
use Rattle.std.specs.List.{fold, list_any}
use Rattle.succession.proofs.data.any_like.Goals as goal

-- What was found before a list, and what is found in it.
found_along : {X : Type 0} (p : X → Bool) (found : Bool) (xs : List X) → fold (λ b x. b || p x) found xs ≡ (found || list_any p xs)
found_along p true [] = refl
found_along p false [] = refl
found_along p true (x ∷ xs) = found_along p true xs
found_along p false (x ∷ xs) = found_along p (p x) xs

pub returns : goal.returns
returns g c =
    let p = g.E.Entry.alike c.args.one.now in
    let xs = c.args.others.now in
    fold_from_yields_List _ (λ b x. b || p x) false _ c.fold.ensures.ran (YieldsList-from_slice xs cc) (λ a x b q called. search (rules, tests))
    ∙ found_along p false xs
