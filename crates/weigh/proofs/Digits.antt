-- A product that is taken apart so that each step fits 64 bits.
use mathlib.Core.Path.{◌≡◌, sym, ap, ◌∙◌}
use Prim.Native.Nat.{ℕ, ◌+◌, ◌*◌, ◌/◌, ◌%◌, ◌<◌}
use native.Mathlib.Nat.{div-add-mod', div-div-eq-div-mul, mul-add-div_right}
use native.Mathlib.Omega.{arith}

-- the product a·b over k·l, from the quotient and the rest of a by k
pub split_product : (a b k l : ℕ) → 0 < k → (a / k * b + a % k * b / k) / l ≡ a * b / (k * l)
split_product a b k l p =
    ap (λ x. x / l) (sym (mul-add-div_right p (a / k * b) (a % k * b)) ∙ ap (λ x. x / k) whole)
    ∙ div-div-eq-div-mul (a * b) k l
  where
    whole : a / k * b * k + a % k * b ≡ a * b
    whole = omega (arith, ap (λ x. x * b) (div-add-mod' a k))
