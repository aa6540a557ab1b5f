-- Document 01, Weight: the ideal weight of a transition, and what a weight in whole units must meet (free answer two).
use Rattle.std.specs.Prelude.{ℕ, zero, suc, ◌+◌, ◌-◌, ◌*◌, ◌^◌, ◌≤◌, ℤ, pos, negsuc, neg_ℤ, nat_abs, ◌≤ℤ◌}
use Rattle.fraction.specs.Fraction.{Fraction, Within, parts, times, whole}

-- document 01, Weight: the sum S of the first terms of the exponential series. At q = u / b, up to the term N, it is num b u N / den b N
unfoldable pub num : ℕ → ℕ → ℕ → ℕ
num b u zero = 1
num b u (suc n) = num b u n * (suc n * b) + u ^ suc n

unfoldable pub den : ℕ → ℕ → ℕ
den b zero = 1
den b (suc n) = den b n * (suc n * b)

-- 1 / (1 + S), S at u / b
abbrev pub ideal_above : ℕ → ℕ → ℕ → Fraction
ideal_above n u b = record { top = pos (den b n); bottom = den b n + num b u n }

-- 1 minus that: S / (1 + S)
abbrev pub ideal_below : ℕ → ℕ → ℕ → Fraction
ideal_below n u b = record { top = pos (num b u n); bottom = den b n + num b u n }

-- document 01, Weight: the ideal weight for n terms at the exact value z / b, by the sign of z
abbrev pub ideal_at : ℕ → ℤ → ℕ → Fraction
ideal_at n (pos u) b = ideal_above n u b
ideal_at n (negsuc u) b = ideal_below n (suc u) b

-- the same at an exact fraction
unfoldable pub ideal : ℕ → Fraction → Fraction
ideal n q = ideal_at n q.top q.bottom

-- ---- document 02, request 3: a listing divides by one plus the exponential or by one minus it
pub data Sign : Type 0 where
  one_plus : Sign
  one_minus : Sign

-- S - 1, S at u / b: it is excess b u N / den b N
abbrev pub excess : ℕ → ℕ → ℕ → ℕ
excess b u n = num b u n - den b n

-- the ideal weight of a minus transition, by the sign of the exponent z / b: for a positive one 1 / (1 - S), which is -1 / (S - 1),
-- for a negative one S / (S - 1), S without the sign. Both have S - 1 below
abbrev pub minus_top : ℕ → ℤ → ℕ → ℤ
minus_top n (pos u) b = neg_ℤ (pos (den b n))
minus_top n (negsuc u) b = pos (num b (suc u) n)

unfoldable pub ideal_minus : ℕ → Fraction → Fraction
ideal_minus n q = record { top = minus_top n q.top q.bottom; bottom = excess q.bottom (nat_abs q.top) n }

-- the ideal weight of either
abbrev pub ideal_of : Sign → ℕ → Fraction → Fraction
ideal_of one_plus n q = ideal n q
ideal_of one_minus n q = ideal_minus n q

-- document 01, Quantities: fit values, exponents and weights are whole units of 10^-10, so that this many make 1
abbrev pub units : ℕ
units = 10000000000

-- document 01, Weight, as request 4 has it: how many units a weight may lie from the ideal one, of either transition
abbrev pub tolerance : ℕ
tolerance = 2

-- document 01, Weight, free answer two, with a tolerance of k units: w is between 0 and 1 and near the ideal weight at q units,
-- whatever the number of terms from 128 up
pub record IsWeight (k : ℕ) (q w : ℤ) : Type 0 where
  pub least : pos 0 ≤ℤ w
  pub most : w ≤ℤ pos units
  pub near : (n : ℕ) → 128 ≤ n → Within k w (times (whole (pos units)) (ideal n (parts units q)))

-- request 3: w is near the ideal weight of a minus transition; it may be negative or above 1
pub record IsMinusWeight (k : ℕ) (q w : ℤ) : Type 0 where
  pub near : (n : ℕ) → 128 ≤ n → Within k w (times (whole (pos units)) (ideal_minus n (parts units q)))

abbrev pub IsWeightOf : Sign → ℕ → ℤ → ℤ → Type 0
IsWeightOf one_plus k q w = IsWeight k q w
IsWeightOf one_minus k q w = IsMinusWeight k q w
