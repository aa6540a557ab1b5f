-- A spelling that begins with %.
use Rattle.std.proofs.Common.{◌≡◌, ℕ, ◌+◌, ◌*◌, ◌≤◌, Bool, true, false, cond, ◌&&◌, Option, Some, None, List, [], ◌∷◌, length, get_or, drop, take, ◌-◌, refl, arith}
use Rattle.std.proofs.lemmas.List.{take_rest}
use Rattle.name.specs.Spelling.{is_hex, digit_of, Reading, wrong, push, reading, hex_value}
use Rattle.name.proofs.RoundTrip.{percent_reserved}

-- what two digits and the rest behind them read to
abbrev pub form : Option ℕ → Option ℕ → List ℕ → Reading
form (Some h) (Some l) rest = push (h * 16 + l) (reading rest)
form (Some h) None rest = wrong
form None l rest = wrong

by_digits : (h l : ℕ) (rest : List ℕ) → cond (is_hex h && is_hex l) (push (hex_value h * 16 + hex_value l) (reading rest)) wrong ≡ form (digit_of h) (digit_of l) rest
by_digits h l rest = go (is_hex h) (is_hex l)
  where
    go : (a b : Bool) → cond (a && b) (push (hex_value h * 16 + hex_value l) (reading rest)) wrong ≡ form (cond a (Some (hex_value h)) None) (cond b (Some (hex_value l)) None) rest
    go true true = refl
    go true false = refl
    go false b = refl

pub percent : (s : List ℕ) → 3 ≤ length s → get_or s 0 0 ≡ 37 → reading s ≡ form (digit_of (get_or s 1 0)) (digit_of (get_or s 2 0)) (take (length s - 3) (drop 3 s))
unfolding reading
percent [] n e = absurd (omega arith)
percent (x ∷ []) n e = absurd (omega arith)
percent (x ∷ (h ∷ [])) n e = absurd (omega arith)
percent (x ∷ (h ∷ (l ∷ rest))) n e = rw (take_rest (x ∷ h ∷ l ∷ rest) 3, e, percent_reserved) (by_digits h l rest)
