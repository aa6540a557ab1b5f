-- Document 01, Temperature: free answer three, ten to a whole number of millionths, times a base.
use Rattle.std.specs.Prelude.{ℕ, ℤ, pos, ◌+ℤ◌, ◌-ℤ◌}
use Rattle.fraction.specs.Tens.{Above, Below}

-- t is b times ten to g millionths: the millionth power of t / b lies strictly between ten to one less than g and ten to two more
pub record IsPower (b : ℕ) (g : ℤ) (t : ℕ) : Type 0 where
  pub above : Above (g -ℤ pos 1) 1000000 t b
  pub below : Below (g +ℤ pos 2) 1000000 t b
