-- Numbers in bytes: one byte more at a time, in a part, and written back.
-- Assumes nothing.
use mathlib.Core.List.{List, [], ◌∷◌, ◌++◌}
use mathlib.Core.Path.{◌≡◌, refl, ap, ◌∙◌}
use Prim.Native.Nat.{ℕ, zero, suc, ◌+◌, ◌*◌, ◌/◌, ◌%◌, ◌^◌, ◌≤◌, ◌<◌}
use native.Mathlib.Numerals.{add-one}
use native.Mathlib.Nat.{pow-succ', pow-suc, pow-le-pow_right, div-lt_iff_lt-mul, div-add-mod'}
use native.Mathlib.Omega.{arith}
use lib.ListN.{length, get_or, take, drop, length-drop, length-append}
use lib.Seq.{take-suc, take_all, get_or-drop, drop-drop}
use Rattle.octets.specs.Bytes.{after, number_at, bytes_of}

after_append : (n : ℕ) (xs ys : List ℕ) → after n (xs ++ ys) ≡ after (after n xs) ys
unfolding after
after_append n [] ys = refl
after_append n (x ∷ xs) ys = after_append (n * 256 + x) xs ys

-- one byte more is a digit more
pub number_next : (k : ℕ) (s : List ℕ) (at : ℕ) → at + k < length s → number_at (k + 1) s at ≡ number_at k s at * 256 + get_or s (at + k) 0
unfolding number_at after
number_next k s at h =
    let l : k < length (drop at s) = omega (arith, length-drop at s) in
    rw (add-one, take-suc (drop at s) k 0 l, after_append, get_or-drop)

-- a number in what is left of a sheet
pub number_drop : (k : ℕ) (s : List ℕ) (a b : ℕ) → number_at k (drop a s) b ≡ number_at k s (a + b)
unfolding number_at
number_drop k s a b = ap (λ (l : List ℕ). after 0 (take k l)) (drop-drop b a s)

-- there is room for one more of eight bytes
pub room : (i n b : ℕ) → i < 8 → n < 256 ^ i → b < 256 → (n * 256 + b < 256 ^ (i + 1)) × (n * 256 + b < 18446744073709551616)
room i n b h m o =
    let p : 256 ^ (i + 1) ≡ 256 * 256 ^ i = rw add-one (pow-succ' 256 i) in
    let l : i + 1 ≤ 8 = omega arith in
    let z : 0 < 256 = omega arith in
    let q : 256 ^ (i + 1) ≤ 256 ^ 8 = pow-le-pow_right z l in
    (omega arith, omega arith)

-- ---- the bytes of a number
pub bytes_length : (k n : ℕ) → length (bytes_of k n) ≡ k
unfolding bytes_of
bytes_length zero n = refl
bytes_length (suc k) n = omega (arith, length-append (bytes_of k (n / 256)) (n % 256 ∷ []), bytes_length k (n / 256))

bytes_after : (k n : ℕ) → n < 256 ^ k → after 0 (bytes_of k n) ≡ n
unfolding bytes_of after
bytes_after zero n h = omega arith
bytes_after (suc k) n h =
    let e : 256 ^ suc k ≡ 256 ^ k * 256 = pow-suc 256 k in
    let l : n < 256 ^ k * 256 = omega arith in
    let q : n / 256 < 256 ^ k = (div-lt_iff_lt-mul {k = 256} {x = n} {y = 256 ^ k} (omega arith)).1 l in
    after_append 0 (bytes_of k (n / 256)) (n % 256 ∷ []) ∙ ap (λ (x : ℕ). x * 256 + n % 256) (bytes_after k (n / 256) q) ∙ div-add-mod' n 256

-- they write that number
pub bytes_number : (k n : ℕ) → n < 256 ^ k → number_at k (bytes_of k n) 0 ≡ n
unfolding number_at
bytes_number k n h = ap (after 0) (take_all k (bytes_of k n) (omega (arith, bytes_length k n))) ∙ bytes_after k n h
