use Rattle.std.proofs.Common.{◌≡◌, ◌+◌, ◌-◌, Bool, ◌&&◌, List, [], ◌∷◌, ◌++◌, length, take, rules, tests, append_assoc, length-append, sym, refl, ap, ◌∙◌, arith}
use Rattle.std.proofs.lemmas.Iterator.{YieldsList-from_slice}
use Rattle.std.proofs.lemmas.Iterator.Consumers.{YieldsList-from_enumerate}
use Rattle.std.proofs.lemmas.Iterator.Search.{all_from_yields_List}
use Rattle.std.proofs.lemmas.List.{take-append-le, take_all}
use Rattle.std.specs.List.{enumerate_from, list_all}
use Rattle.succession.specs.Right.{entry_right}
use Rattle.succession.specs.Scans.{each_after}
use Rattle.succession.proofs.data.all_right.Goals as goal

-- Each entry after those before it, by its index.
each_numbered : {X : Type 0} (p : List X → X → Bool) (seen xs : List X) → list_all (λ e. p (take (e.0 - 0) (seen ++ xs)) e.1) (enumerate_from (length seen) xs) ≡ each_after p seen xs
each_numbered p seen [] = refl
each_numbered p seen (x ∷ xs) =
    let front : take (length seen - 0) (seen ++ x ∷ xs) ≡ seen = take-append-le (length seen - 0) seen (x ∷ xs) (omega arith) ∙ take_all (length seen - 0) seen (omega arith) in
    let count : length seen + 1 ≡ length (seen ++ x ∷ []) = omega (arith, length-append seen (x ∷ [])) in
    ap (λ l. p l x && list_all (λ e. p (take (e.0 - 0) (seen ++ x ∷ xs)) e.1) (enumerate_from (length seen + 1) xs)) front
    ∙ ap (λ l. p seen x && list_all (λ e. p (take (e.0 - 0) l) e.1) (enumerate_from (length seen + 1) xs)) (sym (append_assoc seen (x ∷ []) xs))
    ∙ ap (λ n. p seen x && list_all (λ e. p (take (e.0 - 0) ((seen ++ x ∷ []) ++ xs)) e.1) (enumerate_from n xs)) count
    ∙ ap (λ t. p seen x && t) (each_numbered p (seen ++ x ∷ []) xs)

pub returns : goal.returns
returns g c =
    let p = entry_right g.E.Entry.alike (g.E.Entry.sound c.args.sizes.agents c.args.sizes.places) in
    let xs = c.args.entries.now in
    all_from_yields_List (λ e. p (take (e.0 - 0) xs) e.1) _ _ _ c.all.ensures.ran (YieldsList-from_enumerate (YieldsList-from_slice xs (search rules)) c.enumerate.ensures.count) (λ e b q called. search (rules, tests))
    ∙ each_numbered p [] xs
