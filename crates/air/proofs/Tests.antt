-- Tests and what they say of whole numbers.
use mathlib.Core.Bool.{Bool, true, false, true≢false, not, ◌&&◌, ◌||◌}
use mathlib.Core.Path.{◌≡◌, refl, sym, subst}
use Prim.Native.Nat.{ℕ, suc, ◌≤◌}
use native.Mathlib.Omega.{arith}
use lib.Dec.{T, leb, leb→le, lt→ltb, nleb→lt}
use lib.IntN.{ℤ, pos, negsuc, nat_abs}
use lib.Signed.{◌≤ℤ◌, ◌<ℤ◌, le_z, lt_z, lt_z_yes}
use Rattle.integer.specs.Z.{≤→}
use Rattle.air.specs.Quantities.{within}

pub and_left : (a b : Bool) → T (a && b) → T a
and_left true b t = tt
and_left false b t = absurd t

pub and_right : (a b : Bool) → T (a && b) → T b
and_right true b t = t
and_right false b t = absurd t

pub not_left : (a b : Bool) → T (not (a || b)) → T (not a)
not_left true b t = absurd t
not_left false b t = tt

pub not_right : (a b : Bool) → T (not (a || b)) → T (not b)
not_right true b t = absurd t
not_right false b t = t

pub not_both : (a b : Bool) → T (not a) → T (not b) → T (not (a || b))
not_both true b t u = t
not_both false b t u = u

-- a test of two parts that is false
pub or_left : (a b : Bool) → (a || b) ≡ false → a ≡ false
or_left true b e = e
or_left false b e = refl

pub or_right : (a b : Bool) → (a || b) ≡ false → b ≡ false
or_right true b e = absurd (true≢false e)
or_right false b e = e

pub no_true : {b : Bool} → b ≡ true → T (not b) → ⊥
no_true {b} e t = subst (λ (c : Bool). T (not c)) e t

pub is_false : {b : Bool} → b ≡ false → T (not b)
is_false {b} e = subst (λ (c : Bool). T (not c)) (sym e) tt

pub is_true : {b : Bool} → b ≡ true → T b
is_true {b} e = subst T (sym e) tt

-- a number above another, from a test that it is not at most that
pub over : (k : ℕ) (z : ℤ) → le_z z (pos k) ≡ false → pos k <ℤ z
over k z e = lt_z_yes (flip z (is_false e))
  where
    flip : (z : ℤ) → T (not (le_z z (pos k))) → T (lt_z (pos k) z)
    flip (pos a) h = lt→ltb k a (nleb→lt a k h)
    flip (negsuc a) h = absurd h

-- bounds on both sides bound the absolute value
pub abs_of : (n m : ℕ) (z : ℤ) → negsuc n ≤ℤ z → z ≤ℤ pos m → (k : ℕ) → suc n ≤ k → m ≤ k → nat_abs z ≤ k
abs_of n m (pos x) h l k a b = omega (arith, ≤→ l)
abs_of n m (negsuc x) h l k a b = omega (arith, ≤→ h)

-- a number in a range is at least its least
pub at_least : (least most n : ℕ) → within least most n ≡ true → least ≤ n
at_least least most n e = leb→le least n (and_left (leb least n) (leb n most) (is_true e))
