use Rattle.std.proofs.Common.{◌≡◌, ℕ, ◌+◌, List, [], ◌∷◌, ◌++◌, map, take, sym, ap, ◌∙◌, append_assoc, add-one, vec_items, arith}
use Rattle.std.specs.Iterator.Adapters.{take_source, take_count}
use Rattle.spelling.specs.Views.{numbers_of}
use Rattle.market_file.proofs.numbered.gather.Goals as goal

-- One more number: it goes from what is still to come to what was gathered.
one_more : {X : Type 0} (f : ℕ → X) (xs ys : List X) (x : X) (all : List X) (n m : ℕ) (ns ms : List ℕ) (k : ℕ) → ys ≡ xs ++ x ∷ [] → x ≡ f k → m + 1 ≡ n → ns ≡ k ∷ ms → xs ++ map f (take n ns) ≡ all → ys ++ map f (take m ms) ≡ all
one_more f xs ys x all n m ns ms k grown made count first so_far =
    ap (λ l. l ++ map f (take m ms)) grown
    ∙ append_assoc xs (x ∷ []) (map f (take m ms))
    ∙ ap (λ y. xs ++ y ∷ map f (take m ms)) made
    ∙ ap (λ j. xs ++ map f (take j (k ∷ ms))) (sym (add-one m) ∙ count)
    ∙ ap (λ l. xs ++ map f (take n l)) (sym first)
    ∙ so_far

pub loop-number-preserved : goal.loop-number-preserved
loop-number-preserved g c =
    let steps = c.in-Some.ensures.steps in
    let pushed = c.push_reserved.ensures in
    let before = c.loop-number.number-iterator in
    let after = c.next.new.self in (
      one_more g.T.Numbered.stands (vec_items c.loop-number.list) (vec_items c.push_reserved.new.self) c.from.result _ (take_count before) (take_count after) (numbers_of (take_source before)) (numbers_of (take_source after)) c.in-Some.number pushed.items (g.met.T.Numbered.made c.in-Some.number c.from.result c.from.ensures) steps.1 steps.0 c.loop-number.invariant.0,
      omega (arith, pushed.len, pushed.capacity, steps.1, c.loop-number.invariant.1),
      omega (arith, pushed.capacity, c.loop-number.invariant.2),
    )
