-- The logarithms that free answer one allows the ratio 1: 0, and not -1. Assumes nothing.
use Prim.Native.Nat.{ℕ, ◌<◌}
use native.Mathlib.Omega.{arith}
use lib.IntN.{pos, negsuc}
use Rattle.integer.specs.Z.{→≤}
use Rattle.fraction.proofs.Order.{below_more}
use Rattle.fraction.proofs.Pins.{one_above, one_below, one_not_below}
use Rattle.logarithm.specs.Log.{IsLog}

pub zero_is_log : (n : ℕ) → 0 < n → IsLog n n (pos 0)
zero_is_log n h = record { ratio = h; above = one_above 0 1000000 n h; below = below_more 1000000 n n (→≤ (omega arith)) (one_below 0 1000000 n h) }

pub less_is_no_log : (n : ℕ) → IsLog n n (negsuc 0) → ⊥
less_is_no_log n h = one_not_below 1000000 n (below_more 1000000 n n (→≤ (omega arith)) h.below)
