-- A piece of a table that passes one computed test has small coefficients, and the code takes it at a place.
use mathlib.Core.Bool.{Bool, true, false, not, ◌&&◌}
use mathlib.Core.List.{List, [], ◌∷◌}
use mathlib.Core.Path.{◌≡◌, refl}
use Prim.Native.Nat.{ℕ, zero, suc}
use native.Mathlib.Omega.{arith}
use borrow.Author.Tests.{le-ltb}
use lib.Dec.{T}
use lib.IntN.{ℤ, nat_abs}
use lib.ListN.{get_or}
use Rattle.quotient.specs.Range.{In, all_in}
use Rattle.weight.specs.Weight.{Sign, one_plus, one_minus}
use Rattle.weight.specs.Choice.{Served}
use Rattle.fit.specs.Fit.{Piece, alone, joint, first_of, second_of, terms_of, exponent_of, too_near, near_zero}
use Rattle.fit.specs.Edge.{Small, ServedAt, Workable}
use Rattle.quotient.proofs.Machine.{in_wider, both}
use Rattle.bicubic.proofs.Ranges.{bicubic_in}

-- ---- small coefficients
abbrev is_small : Piece → Bool
is_small k = all_in 43 (first_of k) && (all_in 43 (second_of k) && all_in 44 (terms_of k))

unfoldable pub all_small : List Piece → Bool
all_small [] = true
all_small (k ∷ ks) = is_small k && all_small ks

small : (k : Piece) → T (is_small k) → Small k
small k t =
    let l = both (all_in 43 (first_of k)) (all_in 43 (second_of k) && all_in 44 (terms_of k)) t in
    let r = both (all_in 43 (second_of k)) (all_in 44 (terms_of k)) l.1 in
    record { first = record { all = l.0 }; second = record { all = r.0 }; terms = record { all = r.1 } }

pub small_in : (ks : List Piece) → T (all_small ks) → (i : ℕ) → Small (get_or ks i (alone []))
unfolding all_small
small_in [] t i = record { first = record { all = tt }; second = record { all = tt }; terms = record { all = tt } }
small_in (k ∷ ks) t zero = small k (both (is_small k) (all_small ks) t).0
small_in (k ∷ ks) t (suc i) = small_in ks (both (is_small k) (all_small ks) t).1 i

-- ---- a place of the plane |Y|, |Z| below 2^23; a wider one goes by the coefficients' own sizes
pub workable : {k : Piece} {y z : ℤ} → Small k → In 23 y → In 23 z → ServedAt k y z → Workable k y z
workable h hy hz s =
    record {
      small = h;
      y_in = in_wider tt hy;
      z_in = in_wider tt hz;
      first = bicubic_in h.first hy hz;
      second = bicubic_in h.second hy hz;
      served = s;
    }

-- ---- pieces without a minus transition: a weight serves them wherever
abbrev is_minus : Sign → Bool
is_minus one_plus = false
is_minus one_minus = true

abbrev is_plus : Piece → Bool
is_plus (alone a) = true
is_plus (joint a b t) = not (is_minus t.sign)

unfoldable pub all_plus : List Piece → Bool
all_plus [] = true
all_plus (k ∷ ks) = is_plus k && all_plus ks

plus_served : (s : Sign) (q : ℤ) → T (not (is_minus s)) → Served s q
plus_served one_plus q t = tt
plus_served one_minus q t = absurd t

served_of : (k : Piece) → T (is_plus k) → (y z : ℤ) → ServedAt k y z
served_of (alone a) t y z = tt
served_of (joint a b t) u y z = plus_served t.sign (exponent_of t y z) u

pub served_in : (ks : List Piece) → T (all_plus ks) → (i : ℕ) (y z : ℤ) → ServedAt (get_or ks i (alone [])) y z
unfolding all_plus
served_in [] t i y z = tt
served_in (k ∷ ks) t zero y z = served_of k (both (is_plus k) (all_plus ks) t).0 y z
served_in (k ∷ ks) t (suc i) y z = served_in ks (both (is_plus k) (all_plus ks) t).1 i y z

-- ---- where a weight serves a piece, its exponent is not near zero
far_sign : (s : Sign) (q : ℤ) → Served s q → too_near s q ≡ false
far_sign one_plus q h = refl
far_sign one_minus q h = le-ltb (nat_abs q) 500000000 (omega (arith, h))

pub never_near : (k : Piece) (y z : ℤ) → ServedAt k y z → near_zero k y z ≡ false
never_near (alone a) y z h = refl
never_near (joint a b t) y z h = far_sign t.sign (exponent_of t y z) h
