-- How large the entropy's coefficients are.
use Rattle.quotient.specs.Range.{AllIn}
use Rattle.bands.specs.declared.Band.{Band}
use Rattle.bands.specs.declared.Band.TheVariants.{Low, Middle, High}
use Rattle.tgas2_entropy.specs.Entropy.{entropy_coefficients}

-- every one is below 2^43: one computed test over each list
pub entropy_small : (b : Band) → AllIn 43 (entropy_coefficients b)
unfolding entropy_coefficients
entropy_small Low = record { all = tt }
entropy_small Middle = record { all = tt }
entropy_small High = record { all = tt }
