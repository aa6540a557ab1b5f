-- Tests and what they say; a test on a range of numbers, computed once for all of them; the bytes that do not stand for themselves.
-- Assumes nothing.
use mathlib.Core.Bool.{Bool, true, false, not, ◌&&◌}
use mathlib.Core.Path.{◌≡◌, refl, subst, sym}
use Prim.Native.Nat.{ℕ, zero, suc, ◌+◌, ◌≤◌, ◌<◌}
use native.Mathlib.Decide.{dec_le}
use native.Mathlib.Omega.{arith}
use borrow.Author.Tests.{ne_eqb, leb-true}
use lib.Dec.{T, leb}
use Rattle.name.specs.Spelling.{within, unreserved}

pub as_true : (b : Bool) → T b → b ≡ true
as_true true h = refl
as_true false h = absurd h

pub as_false : (b : Bool) → T (not b) → b ≡ false
as_false true h = absurd h
as_false false h = refl

pub is_true : {b : Bool} → b ≡ true → T b
is_true e = subst T (sym e) tt

pub is_false : {b : Bool} → b ≡ false → T (not b)
is_false e = subst (λ (c : Bool). T (not c)) (sym e) tt

-- the test passes at n numbers from least on
abbrev pub every : (ℕ → Bool) → ℕ → ℕ → Bool
every f least zero = true
every f least (suc n) = f (least + n) && every f least n

pub along : (f : ℕ → Bool) (least n : ℕ) → T (every f least n) → (x : ℕ) → least ≤ x → x < least + n → f x ≡ true
along f least zero t x p q = absurd (omega arith)
along f least (suc n) t x p q = go (along f least n) (dec_le (least + n) x) (f (least + n)) refl t
  where
    go : (T (every f least n) → (y : ℕ) → least ≤ y → y < least + n → f y ≡ true) → Dec (least + n ≤ x) → (b : Bool) → f (least + n) ≡ b → T (b && every f least n) → f x ≡ true
    go ih d false e u = absurd u
    go ih (yes l) true e u = let k : least + n ≡ x = omega arith in subst (λ (m : ℕ). f m ≡ true) k e
    go ih (no l) true e u = ih u x p (omega arith)

pub outside : (least most x : ℕ) → (least ≤ x → x ≤ most → ⊥) → within least most x ≡ false
outside least most x h = go (leb least x) (leb x most) refl refl
  where
    go : (a b : Bool) → leb least x ≡ a → leb x most ≡ b → (a && b) ≡ false
    go false b p q = refl
    go true false p q = refl
    go true true p q = absurd (h (leb-true least x p) (leb-true x most q))

pub inside : (least most x : ℕ) → within least most x ≡ true → (least ≤ x) × (x ≤ most)
inside least most x h = go (leb least x) (leb x most) refl refl h
  where
    go : (a b : Bool) → leb least x ≡ a → leb x most ≡ b → (a && b) ≡ true → (least ≤ x) × (x ≤ most)
    go true true p q e = (leb-true least x p, leb-true x most q)
    go false b p q e = absurd (is_true e)
    go true false p q e = absurd (is_true e)

pub reserved : (x : ℕ)
    → ((65 ≤ x → x ≤ 90 → ⊥) × (97 ≤ x → x ≤ 122 → ⊥) × (48 ≤ x → x ≤ 57 → ⊥) × (x ≡ 45 → ⊥) × (x ≡ 46 → ⊥) × (x ≡ 95 → ⊥) × (x ≡ 126 → ⊥))
    → unreserved x ≡ false
unfolding unreserved
reserved x h =
    simp (outside 65 90 x h.0, outside 97 122 x h.1, outside 48 57 x h.2, ne_eqb x 45 h.3, ne_eqb x 46 h.4, ne_eqb x 95 h.5, ne_eqb x 126 h.6)
