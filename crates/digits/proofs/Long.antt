-- The long quotient: what is before a digit is divided first, then what that leaves with the digit behind it.
use mathlib.Core.Path.{◌≡◌, ap, ◌∙◌}
use Prim.Native.Nat.{ℕ, ◌+◌, ◌*◌, ◌/◌, ◌%◌, ◌<◌}
use native.Mathlib.Nat.{div-add-mod', mul-add-div_right, mul-add-mod_self_right}
use native.Mathlib.Omega.{arith}

-- t and a digit x behind it in the base k, which may be larger than k, by d
module _ (t k x d : ℕ) where
  parts : t * k + x ≡ t / d * k * d + (t % d * k + x)
  parts =
      let e : (t / d * d + t % d) * k ≡ t * k = ap (λ (n : ℕ). n * k) (div-add-mod' t d) in
      omega (arith, e)

  pub long : 0 < d → (t * k + x) / d ≡ t / d * k + (t % d * k + x) / d
  long h = ap (λ (n : ℕ). n / d) parts ∙ mul-add-div_right h (t / d * k) (t % d * k + x)

  pub long_rest : (t * k + x) % d ≡ (t % d * k + x) % d
  long_rest = ap (λ (n : ℕ). n % d) parts ∙ mul-add-mod_self_right (t / d * k) d (t % d * k + x)
