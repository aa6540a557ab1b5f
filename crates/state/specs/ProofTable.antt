-- Document 01, Proof table: twelve rows, each a claim about the specification.
use Rattle.std.specs.Prelude.{List, [], ◌∷◌, ◌≡◌, ℕ, ℤ, pos, neg_ℤ}
use Rattle.std.proofs.Math.Option.{some}
use Rattle.fit.specs.Fit.{fitted}
use Rattle.bands.specs.declared.Band.{Band}
use Rattle.bands.specs.declared.Band.TheVariants.{Low, Middle, High}
use Rattle.bands.specs.Bands.{band_of}
use Rattle.bands.specs.declared.Region.{Region}
use Rattle.bands.specs.declared.Region.TheVariants.{Perfect, Fitted}
use Rattle.bands.specs.Region.{region_of}
use Rattle.air.specs.declared.Answer.{Answer}
use Rattle.air.specs.Quantities.{P0, D0, E0}
use Rattle.air.specs.Held.{held}
use Rattle.air_temperature.specs.Temperature.{piece_at}
use Rattle.state.specs.State.{IsAnswer}

pub data Row : Type 0 where
  fit : ℤ → ℤ → ℤ → Row
  answer : ℕ → ℕ → ℕ → ℤ → Row
  band : ℤ → Band → Row
  region : ℤ → Region → Row

-- what a row says: G at (Y, Z) with no weight; the value of every answer that a state may get; the band of a Y; the region of a Z at Y = 0
abbrev pub Holds : Row → Type 0
Holds (fit y z g) = fitted (piece_at y z) y z (pos 0) ≡ g
Holds (answer kind first second v) = (a : Answer) → IsAnswer kind first second a → (held a).value ≡ some v
Holds (band y b) = band_of y ≡ b
Holds (region z r) = region_of (pos 0) z ≡ r

abbrev pub AllHold : List Row → Type 0
AllHold [] = Unit
AllHold (r ∷ rs) = Holds r × AllHold rs

abbrev pub proof_table : List Row
proof_table =
    fit (pos 0) (pos 500000) (pos 4961733650)
    ∷ fit (neg_ℤ (pos 1000000)) (pos 500000) (pos 4943121249)
    ∷ fit (neg_ℤ (pos 5000000)) (pos 500000) (pos 4949976875)
    ∷ answer 2 784084000 D0 (pos 77879435)
    ∷ answer 1 P0 D0 (pos 273213936)
    ∷ answer 2 E0 D0 (pos 61182203)
    ∷ band (neg_ℤ (pos 4500000)) Low
    ∷ band (neg_ℤ (pos 4499999)) Middle
    ∷ band (neg_ℤ (pos 500000)) Middle
    ∷ band (neg_ℤ (pos 499999)) High
    ∷ region (pos 250000) Perfect
    ∷ region (pos 250001) (Fitted High 0)
    ∷ []
