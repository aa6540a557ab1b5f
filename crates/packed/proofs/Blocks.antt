-- A block's numbers one by one: each can be read, and together they are the unpacked list.
use mathlib.Core.List.{List, [], ◌∷◌}
use mathlib.Core.Path.{◌≡◌, refl, ap, ap₂}
use Prim.Native.Nat.{ℕ, zero, suc, ◌+◌, ◌%◌, ◌^◌, ◌<◌}
use native.Mathlib.Omega.{arith}
use lib.Dec.{T, ltb, leb, ltb→lt}
use lib.IntN.{ℤ, pos}
use lib.ListN.{get_or, length, take}
use Rattle.quotient.specs.Range.{In, all_in, AllIn}
use Rattle.quotient.proofs.Machine.{in_wider, both, all_at}
use Rattle.packed.specs.Packed.{place_of, number_at, unpacked, bytes_from, words_of, all_found, IsPacked, Reads}

-- a byte that is there finds its words
found_at : (n : ℕ) (p : List ℕ) → T (all_found n p) → (i : ℕ) → i < length p → place_of (get_or p i 0) + get_or p i 0 % 2 < n
found_at n [] t i h = let f : ⊥ = omega (arith, h) in absurd f
found_at n (b ∷ p) t zero h = ltb→lt (place_of b + b % 2) n (both (ltb (place_of b + b % 2) n) (all_found n p) t).0
found_at n (b ∷ p) t (suc i) h = found_at n p (both (ltb (place_of b + b % 2) n) (all_found n p) t).1 i (omega (arith, h))

-- the i-th unpacked number is the one that the i-th byte finds
pub unpacked_at : (p : List ℕ) (w : List ℤ) (i : ℕ) → i < length p → get_or (unpacked p w) i (pos 0) ≡ number_at w (get_or p i 0)
unfolding unpacked
unpacked_at [] w i h = let f : ⊥ = omega (arith, h) in absurd f
unpacked_at (b ∷ p) w zero h = refl
unpacked_at (b ∷ p) w (suc i) h = unpacked_at p w i (omega (arith, h))

-- of a block, a byte finds its words, and the number that it gives is one of the block's
module _ {n : ℕ} {p : List ℕ} {w : List ℤ} (b : IsPacked n p w) (i : ℕ) (h : i < n) where
  pub words_found : place_of (get_or p i 0) + get_or p i 0 % 2 < length w
  words_found = found_at (length w) p b.found i (rw b.count h)

  pub number_is : get_or (unpacked p w) i (pos 0) ≡ number_at w (get_or p i 0)
  number_is = unpacked_at p w i (rw b.count h)

-- each number of a block can be read
pub reads : {n m : ℕ} {p : List ℕ} {w : List ℤ} → IsPacked n p w → AllIn m (unpacked p w) → T (leb (2 ^ m) (2 ^ 62)) → (i : ℕ) → i < n → Reads p w i
reads {n} {m} {p} {w} b k t i h =
    let l : i < length p = rw b.count h in
    let s : In 62 (number_at w (get_or p i 0)) = rw (unpacked_at p w i l) at (in_wider {m = m} {n = 62} t (all_at k i)) in
    record { index = l; found = found_at (length w) p b.found i l; words_in = b.words_in; size = s }

-- a block that is written out: each argument computes
pub block : {n : ℕ} {p : List ℕ} {w : List ℤ} → length p ≡ n → T (all_found (length w) p) → T (all_in 31 w) → p ≡ bytes_from 0 (unpacked p w)
    → take (length (words_of (unpacked p w))) w ≡ words_of (unpacked p w) → IsPacked n p w
block c f i b w = record { count = c; found = f; words_in = record { all = i }; bytes_are = b; words_are = w }

-- as many numbers as bytes
pub unpacked_length : (p : List ℕ) (w : List ℤ) → length (unpacked p w) ≡ length p
unfolding unpacked
unpacked_length [] w = refl
unpacked_length (b ∷ p) w = ap suc (unpacked_length p w)

-- n values in a list
abbrev pub listed : ℕ → (ℕ → ℤ) → List ℤ
listed zero f = []
listed (suc n) f = f 0 ∷ listed n (λ i. f (suc i))

by_index : (n : ℕ) (p : List ℕ) (w : List ℤ) (f : ℕ → ℤ) → length p ≡ n → ((i : ℕ) → number_at w (get_or p i 0) ≡ f i) → unpacked p w ≡ listed n f
unfolding unpacked
by_index zero [] w f e h = refl
by_index zero (b ∷ p) w f e h = let g : ⊥ = omega (arith, e) in absurd g
by_index (suc n) [] w f e h = let g : ⊥ = omega (arith, e) in absurd g
by_index (suc n) (b ∷ p) w f e h = ap₂ ◌∷◌ (h 0) (by_index n p w (λ i. f (suc i)) (omega (arith, e)) (λ i. h (suc i)))

-- the list that the code makes of a block
pub unpacked_is : {n : ℕ} {p : List ℕ} {w : List ℤ} → IsPacked n p w → unpacked p w ≡ listed n (λ i. number_at w (get_or p i 0))
unpacked_is {n} {p} {w} b = by_index n p w (λ i. number_at w (get_or p i 0)) b.count (λ i. refl)
