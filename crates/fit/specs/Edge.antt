-- The fit of a piece at a Y and a Z, and where the code takes it.
use Rattle.std.specs.Prelude.{List, ℕ, ℤ, pos}
use Rattle.std.proofs.Math.Option.{Option, none, some}
use Rattle.fit.specs.declared.Edge.{Edge}
use Rattle.fit.specs.declared.Form.{Form}
use Rattle.fit.specs.declared.Form.TheVariants.{Plus, Minus, Kept}
use Rattle.quotient.specs.Range.{In, AllIn}
use Rattle.packed.specs.declared.Block.{Block}
use Rattle.packed.specs.Numbers.{numbers}
use Rattle.bicubic.specs.Bicubic.{bicubic}
use Rattle.weight.specs.Weight.{Sign, one_plus, one_minus}
use Rattle.weight.specs.Choice.{Served}
use Rattle.fit.specs.Fit.{Transition, Piece, alone, joint, first_of, second_of, terms_of, exponent_of, fitted}

-- what a form says of a transition
abbrev pub sign_of : Form → Sign
sign_of Plus = one_plus
sign_of Minus = one_minus
sign_of Kept = one_plus

abbrev pub limit_of : Form → Option ℕ
limit_of Plus = none
limit_of Minus = none
limit_of Kept = some 300000000000

abbrev pub transition_of : Form → List ℤ → Transition
transition_of f q = record { sign = sign_of f; limit = limit_of f; terms = q }

-- the piece of blocks: of A, of B and of the exponent
abbrev pub packed_alone : Block 10 19 → Piece
packed_alone a = alone (numbers a)

abbrev pub packed_joint : Form → Block 10 19 → Block 10 19 → Block 4 8 → Piece
packed_joint f a b q = joint (numbers a) (numbers b) (transition_of f (numbers q))

-- W of a piece by a choice of weights: 0 where there is no second bicubic
abbrev pub weight_with : (Sign → ℤ → ℤ) → Piece → ℤ → ℤ → ℤ
weight_with f (alone a) y z = pos 0
weight_with f (joint a b t) y z = f t.sign (exponent_of t y z)

-- G and W of a piece by a choice of weights
abbrev pub edge_with : (Sign → ℤ → ℤ) → Piece → ℤ → ℤ → Edge
edge_with f k y z = record { fit = fitted k y z (weight_with f k y z); weight = weight_with f k y z }

-- coefficients that the code takes
pub record Small (k : Piece) : Type 0 where
  pub first : AllIn 43 (first_of k)
  pub second : AllIn 43 (second_of k)
  pub terms : AllIn 44 (terms_of k)

-- a weight serves the piece's exponent
abbrev pub ServedAt : Piece → ℤ → ℤ → Type 0
ServedAt (alone a) y z = Unit
ServedAt (joint a b t) y z = Served t.sign (exponent_of t y z)

-- a place at which it takes them
pub record Workable (k : Piece) (y z : ℤ) : Type 0 where
  pub small : Small k
  pub y_in : In 25 y
  pub z_in : In 25 z
  pub first : In 57 (bicubic (first_of k) y z)
  pub second : In 57 (bicubic (second_of k) y z)
  pub served : ServedAt k y z
