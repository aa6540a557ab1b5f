-- Tests of order on whole numbers, and the orders that they say.
use Rattle.std.specs.Prelude.{Bool, true, false, not, ◌≡◌, refl, ℤ, pos, negsuc, ◌≤ℤ◌, ◌<ℤ◌}
use Rattle.std.proofs.Common.{sym, subst, arith}
use lib.Dec.{T}
use Rattle.std.specs.Int.Signed.{le_z, lt_z, le_z_yes, lt_z_yes, lt_z_no}
use Rattle.integer.specs.Z.{≤→, <→}

-- a test that is true, or false
pub is_true : {b : Bool} → b ≡ true → T b
is_true {b} e = subst T (sym e) tt

pub is_false : {b : Bool} → b ≡ false → T (not b)
is_false {b} e = subst (λ (c : Bool). T (not c)) (sym e) tt

by_true : (b : Bool) → T b → b ≡ true
by_true true t = refl
by_true false t = absurd t

by_false : (b : Bool) → (T b → ⊥) → b ≡ false
by_false true f = absurd (f tt)
by_false false f = refl

-- from a test to its order
pub test_le : {a b : ℤ} → le_z a b ≡ true → a ≤ℤ b
test_le e = le_z_yes (is_true e)

pub test_lt : {a b : ℤ} → lt_z a b ≡ true → a <ℤ b
test_lt e = lt_z_yes (is_true e)

pub test_not_lt : {a b : ℤ} → lt_z a b ≡ false → b ≤ℤ a
test_not_lt e = lt_z_no (is_false e)

pub test_not_le : {a b : ℤ} → le_z a b ≡ false → b <ℤ a
test_not_le {a} {b} e = lt_z_yes (flip a b (is_false e))
  where
    flip : (a b : ℤ) → T (not (le_z a b)) → T (lt_z b a)
    flip (pos a) (pos b) t = lib.Dec.lt→ltb b a (lib.Dec.nleb→lt a b t)
    flip (pos a) (negsuc b) t = tt
    flip (negsuc a) (pos b) t = absurd t
    flip (negsuc a) (negsuc b) t = lib.Dec.lt→ltb a b (lib.Dec.nleb→lt b a t)

-- and back
pub le_test : {a b : ℤ} → a ≤ℤ b → le_z a b ≡ true
le_test {a} {b} h = by_true (le_z a b) h.le

pub lt_test : {a b : ℤ} → a <ℤ b → lt_z a b ≡ true
lt_test {a} {b} h = by_true (lt_z a b) h.lt

pub not_lt_test : {a b : ℤ} → b ≤ℤ a → lt_z a b ≡ false
not_lt_test {a} {b} h = by_false (lt_z a b) (λ t. let f : ⊥ = omega (arith, ≤→ h, <→ (lt_z_yes {a = a} {b = b} t)) in f)

pub not_le_test : {a b : ℤ} → b <ℤ a → le_z a b ≡ false
not_le_test {a} {b} h = by_false (le_z a b) (λ t. let f : ⊥ = omega (arith, <→ h, ≤→ (le_z_yes {a = a} {b = b} t)) in f)
