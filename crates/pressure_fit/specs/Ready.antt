-- What the steps of a pressure may take for granted: where their numbers lie.
use Rattle.std.specs.Prelude.{ℕ, ◌^◌, ◌≤◌, ℤ, pos, neg_ℤ, nat_abs, ◌≤ℤ◌}
use Rattle.quotient.specs.Range.{Between}
use Rattle.bands.specs.declared.Strip.{Strip}
use Rattle.air.specs.Quantities.{D0}

-- a Y and a Z that gamma is taken at
pub record GammaReady (y z : ℤ) : Type 0 where
  pub y_least : neg_ℤ (pos 7000000) ≤ℤ y
  pub y_most : y ≤ℤ pos 3000000
  pub z_least : neg_ℤ (pos 1000000) ≤ℤ z
  pub z_most : nat_abs z ≤ 5000000

-- an energy and a density that a pressure is made of
pub record ValuesReady (e d : ℕ) : Type 0 where
  pub energy : e ≤ 10 ^ 12
  pub density : d ≤ 129200000000000

-- a strip around a Y, a Z, and the values: in a strip a density is at most D0
pub record StripReady (e d : ℕ) (s : Strip) (y z : ℤ) : Type 0 where
  pub between : Between s.low s.high y
  pub low : GammaReady s.low z
  pub high : GammaReady s.high z
  pub energy : e ≤ 10 ^ 12
  pub density : d ≤ D0
