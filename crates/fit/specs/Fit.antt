-- A fit: its pieces and its value, with the roundings of document 01.
-- Fit values and coefficients are whole units of 10^-10; Y and Z are whole millionths.
use Rattle.std.specs.Prelude.{Bool, false, cond, List, [], ◌≡◌, ℕ, ltb, ℤ, pos, neg_ℤ, nat_abs, ◌+ℤ◌, ◌*ℤ◌}
use Rattle.std.proofs.Math.Option.{Option, none, some}
use Rattle.std.specs.Int.Signed.{lt_z, shr_z}
use Rattle.bicubic.specs.Bicubic.{bicubic, exponent}
use Rattle.weight.specs.Weight.{Sign, one_plus, one_minus, IsWeightOf, units}

-- what leads from A to A + B: whether B is divided by one plus or by one minus the exponential, the terms of its exponent (GAS9),
-- and how far from 0 the listing keeps the exponent, in units, where it does
pub record Transition : Type 0 where
  pub sign : Sign
  pub limit : Option ℕ
  pub terms : List ℤ

abbrev pub plus_by : List ℤ → Transition
plus_by q = record { sign = one_plus; limit = none; terms = q }

abbrev pub minus_by : List ℤ → Transition
minus_by q = record { sign = one_minus; limit = none; terms = q }

abbrev pub kept_by : ℕ → List ℤ → Transition
kept_by m q = record { sign = one_plus; limit = some m; terms = q }

-- document 01, Temperature: a fitted piece is a bicubic A (GAS1 to GAS4) alone, or A with a second bicubic B (GAS5 to GAS8) and a transition
pub data Piece : Type 0 where
  alone : List ℤ → Piece
  joint : List ℤ → List ℤ → Transition → Piece

-- the parts of a piece
abbrev pub first_of : Piece → List ℤ
first_of (alone a) = a
first_of (joint a b t) = a

abbrev pub second_of : Piece → List ℤ
second_of (alone a) = []
second_of (joint a b t) = b

abbrev pub terms_of : Piece → List ℤ
terms_of (alone a) = []
terms_of (joint a b t) = t.terms

-- a number kept within m of 0
abbrev pub kept_in : Option ℕ → ℤ → ℤ
kept_in none q = q
kept_in (some m) q = cond (lt_z (pos m) q) (pos m) (cond (lt_z q (neg_ℤ (pos m))) (neg_ℤ (pos m)) q)

-- the exponent of a transition
abbrev pub exponent_of : Transition → ℤ → ℤ → ℤ
exponent_of t y z = kept_in t.limit (exponent t.terms y z)

-- request 3: less than 0.05 from 0
abbrev pub too_near : Sign → ℤ → Bool
too_near one_plus q = false
too_near one_minus q = ltb (nat_abs q) 500000000

-- a minus transition with such an exponent
abbrev pub near_zero : Piece → ℤ → ℤ → Bool
near_zero (alone a) y z = false
near_zero (joint a b t) y z = too_near t.sign (exponent_of t y z)

-- w may be the piece's W at Y and Z: 0 where there is no B, else free answer two at the exponent, by its sign; k is the tolerance
abbrev pub Weighs : ℕ → Piece → ℤ → ℤ → ℤ → Type 0
Weighs k (alone a) y z w = w ≡ pos 0
Weighs k (joint a b t) y z w = IsWeightOf t.sign k (exponent_of t y z) w

-- document 01, Temperature: G, at the weight w; the part of B is rounded down
abbrev pub fitted : Piece → ℤ → ℤ → ℤ → ℤ
fitted (alone a) y z w = bicubic a y z
fitted (joint a b t) y z w = bicubic a y z +ℤ shr_z (w *ℤ bicubic b y z) units
