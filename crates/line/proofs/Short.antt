-- What follows the name of a line has at most 66 bytes, where its numbers have at most 19 digits.
-- Assumes nothing.
use mathlib.Core.List.{List, [], ◌∷◌, ◌++◌}
use Prim.Native.Nat.{ℕ, ◌^◌, ◌≤◌, ◌<◌}
use native.Mathlib.Omega.{arith}
use lib.IntN.{ℤ, nat_abs}
use lib.ListN.{length, length-append}
use Rattle.decimal.specs.Decimal.{natural, whole}
use Rattle.decimal.proofs.Texts.{natural_short, whole_short}
use Rattle.line.specs.Line.{value_rest, refusal_rest}

pub value_short : (letter : ℕ) (y z v : ℤ) → nat_abs y < 10 ^ 19 → nat_abs z < 10 ^ 19 → nat_abs v < 10 ^ 19 → length (value_rest letter y z v) ≤ 66
unfolding value_rest
value_short letter y z v a b c =
    let t : List ℕ = whole v ++ (10 ∷ []) in
    let u : List ℕ = whole z ++ (32 ∷ t) in
    omega (
      arith,
      length-append (whole y) (32 ∷ u),
      length-append (whole z) (32 ∷ t),
      length-append (whole v) (10 ∷ []),
      whole_short y a,
      whole_short z b,
      whole_short v c,
    )

pub refusal_short : (n : ℕ) → n < 10 ^ 19 → length (refusal_rest n) ≤ 66
unfolding refusal_rest
refusal_short n h = omega (arith, length-append (natural n) (10 ∷ []), natural_short n h)
