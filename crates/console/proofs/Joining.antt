-- Texts put one after another. Assumes nothing.
use Rattle.std.proofs.Common.{◌≡◌, ℕ, List, ◌++◌, ap, ◌∙◌, append_assoc}

-- x put after a, and y after that.
pub onward : (a b c x y : List ℕ) → b ≡ a ++ x → c ≡ b ++ y → c ≡ a ++ (x ++ y)
onward a b c x y p q = q ∙ ap (λ l. l ++ y) p ∙ append_assoc a x y
