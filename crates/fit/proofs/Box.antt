-- Boxes: where Y and Z lie, in millionths.
use mathlib.Core.Bool.{Bool, true, false, cond}
use mathlib.Core.Path.{◌≡◌, refl}
use Prim.Native.Nat.{ℕ, ◌≤◌}
use native.Mathlib.Nat.{le_refl, le_trans}
use native.Mathlib.Omega.{arith}
use borrow.Author.Tests.{leb-true, leb-false}
use lib.Dec.{leb}
use lib.IntN.{ℤ, pos, negsuc, nat_abs}
use lib.Signed.{◌≤ℤ◌}
use Rattle.integer.specs.Z.{≤→}

pub record Box : Type 0 where
  pub y_from : ℤ
  pub y_to : ℤ
  pub z_from : ℤ
  pub z_to : ℤ

pub record InBox (b : Box) (y z : ℤ) : Type 0 where
  pub y_least : b.y_from ≤ℤ y
  pub y_most : y ≤ℤ b.y_to
  pub z_least : b.z_from ≤ℤ z
  pub z_most : z ≤ℤ b.z_to

abbrev pub nowhere : Box
nowhere = record { y_from = pos 0; y_to = pos 0; z_from = pos 0; z_to = pos 0 }

-- ---- how far from 0
abbrev larger : ℕ → ℕ → ℕ
larger n m = cond (leb n m) m n

larger_left : (n m : ℕ) → n ≤ larger n m
larger_left n m = go (leb n m) refl
  where
    go : (c : Bool) → leb n m ≡ c → n ≤ cond c m n
    go true e = leb-true n m e
    go false e = le_refl n

larger_right : (n m : ℕ) → m ≤ larger n m
larger_right n m = go (leb n m) refl
  where
    go : (c : Bool) → leb n m ≡ c → m ≤ cond c m n
    go true e = le_refl m
    go false e = omega (arith, leb-false n m e)

abbrev pub reach_of : ℤ → ℤ → ℕ
reach_of a b = larger (nat_abs a) (nat_abs b)

pub within_reach : (a b x : ℤ) → a ≤ℤ x → x ≤ℤ b → nat_abs x ≤ reach_of a b
within_reach a (pos b) (pos x) h k = le_trans (omega (arith, ≤→ k)) (larger_right (nat_abs a) b)
within_reach a (negsuc b) (pos x) h k = let f : ⊥ = omega (arith, ≤→ k) in absurd f
within_reach (pos a) b (negsuc x) h k = let f : ⊥ = omega (arith, ≤→ h) in absurd f
within_reach (negsuc a) b (negsuc x) h k = le_trans (omega (arith, ≤→ h)) (larger_left (nat_abs (negsuc a)) (nat_abs b))

abbrev pub y_reach : Box → ℕ
y_reach b = reach_of b.y_from b.y_to

abbrev pub z_reach : Box → ℕ
z_reach b = reach_of b.z_from b.z_to

module _ {b : Box} {y z : ℤ} (i : InBox b y z) where
  pub y_within : nat_abs y ≤ y_reach b
  y_within = within_reach b.y_from b.y_to y i.y_least i.y_most

  pub z_within : nat_abs z ≤ z_reach b
  z_within = within_reach b.z_from b.z_to z i.z_least i.z_most
