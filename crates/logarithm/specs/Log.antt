-- Document 01, Quantities: free answer one, the taken logarithm of a ratio.
use Rattle.std.specs.Prelude.{ℕ, ◌<◌, ℤ}
use Rattle.std.proofs.Math.IntN.{pred_ℤ, suc_ℤ}
use Rattle.fraction.specs.Tens.{Above, Below}

-- l is a logarithm of n / d in whole millionths: the millionth power of n / d lies strictly between ten to one less and ten to one more
pub record IsLog (n d : ℕ) (l : ℤ) : Type 0 where
  pub ratio : 0 < d
  pub above : Above (pred_ℤ l) 1000000 n d
  pub below : Below (suc_ℤ l) 1000000 n d
