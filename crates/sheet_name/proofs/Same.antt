-- Two lists of bytes compared one byte after another. Assumes nothing.
use mathlib.Core.Bool.{Bool, true, false, ◌&&◌}
use mathlib.Core.List.{List, [], ◌∷◌}
use mathlib.Core.Path.{◌≡◌, refl, ap, ◌∙◌}
use Prim.Native.Nat.{ℕ}
use borrow.Author.Tests.{eqb-true, eq-eqb}
use lib.Dec.{eqb}
use Rattle.std.specs.Str.{bytes_eq}
use Rattle.octets.specs.Bytes.{same}

pub same_refl : (xs : List ℕ) → same xs xs ≡ true
same_refl [] = refl
same_refl (x ∷ xs) = rw (eq-eqb x x refl) (same_refl xs)

both_true : (a b : Bool) → a && b ≡ true → (a ≡ true) × (b ≡ true)
both_true true b h = (refl, h)
both_true false b h = (cc, cc)

pub same_equal : (xs ys : List ℕ) → same xs ys ≡ true → xs ≡ ys
same_equal [] [] h = refl
same_equal [] (y ∷ ys) h = cc
same_equal (x ∷ xs) [] h = cc
same_equal (x ∷ xs) (y ∷ ys) h =
    let b : (eqb x y ≡ true) × (same xs ys ≡ true) = both_true (eqb x y) (same xs ys) h in
    cc (eqb-true x y b.0, same_equal xs ys b.1)

-- what `==` says of them
pub bytes_eq-same : (xs ys : List ℕ) → bytes_eq xs ys ≡ same xs ys
bytes_eq-same [] [] = refl
bytes_eq-same [] (y ∷ ys) = refl
bytes_eq-same (x ∷ xs) [] = refl
bytes_eq-same (x ∷ xs) (y ∷ ys) = ap (λ (b : Bool). eqb x y && b) (bytes_eq-same xs ys)

pub eq_same : (xs ys : List ℕ) (r : Bool) → r ≡ bytes_eq xs ys → r ≡ same xs ys
eq_same xs ys r e = e ∙ bytes_eq-same xs ys
