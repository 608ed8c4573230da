-- Steps of reading a word's digits from the left. Assumes nothing.
use Rattle.std.proofs.Common.{◌≡◌, ℕ, ◌+◌, ◌-◌, ◌*◌, ◌<◌, true, false, cond, ◌&&◌, List, ◌∷◌, length, get_or, drop, Some, None, ap, ◌∙◌}
use Rattle.std.proofs.lemmas.List.{at_drop_more}
use Rattle.std.specs.Char.{is_ascii_digit}
use Rattle.std.specs.Str.{all_ascii_digits}
use Rattle.spelling.specs.Words.{read_on, digits_after}

-- A digit goes into the number.
pub digit_more : (n : ℕ) (bs : List ℕ) (i : ℕ) → i < length bs → is_ascii_digit (get_or bs i 0) ≡ true → digits_after n (drop i bs) ≡ digits_after (10 * n + (get_or bs i 0 - 48)) (drop (i + 1) bs)
digit_more n bs i h e =
    at_drop_more (digits_after n) bs i 0 h
    ∙ ap (λ t. cond (t && all_ascii_digits (drop (i + 1) bs)) (Some (read_on n (get_or bs i 0 ∷ drop (i + 1) bs))) None) e

-- Any other byte leaves no number.
pub digit_none : (n : ℕ) (bs : List ℕ) (i : ℕ) → i < length bs → is_ascii_digit (get_or bs i 0) ≡ false → digits_after n (drop i bs) ≡ None
digit_none n bs i h e =
    at_drop_more (digits_after n) bs i 0 h
    ∙ ap (λ t. cond (t && all_ascii_digits (drop (i + 1) bs)) (Some (read_on n (get_or bs i 0 ∷ drop (i + 1) bs))) None) e
