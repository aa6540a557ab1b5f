-- Free answer three at the base itself, which is ten to 0: it is a power for g from -1 to 0. Assumes nothing.
use Prim.Native.Nat.{ℕ, ◌<◌}
use lib.IntN.{pos, negsuc}
use Rattle.fraction.proofs.Pins.{one_above, one_below, one_not_above, one_not_below}
use Rattle.power.specs.Power.{IsPower}

module _ (b : ℕ) where
  pub base_at_less_1 : 0 < b → IsPower b (negsuc 0) b
  base_at_less_1 h = record { above = one_above _ 1000000 b h; below = one_below _ 1000000 b h }

  pub base_at_0 : 0 < b → IsPower b (pos 0) b
  base_at_0 h = record { above = one_above _ 1000000 b h; below = one_below _ 1000000 b h }

  pub not_base_at_less_2 : IsPower b (negsuc 1) b → ⊥
  not_base_at_less_2 h = one_not_below 1000000 b h.below

  pub not_base_at_1 : IsPower b (pos 1) b → ⊥
  not_base_at_1 h = one_not_above 1000000 b h.above
