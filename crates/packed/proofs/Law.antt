-- What is packed is read back.
use mathlib.Core.Bool.{Bool, true, false, cond}
use mathlib.Core.List.{List, [], ◌∷◌, ◌++◌, append_assoc}
use mathlib.Core.Path.{◌≡◌, refl, sym, ap, ap₂, ◌∙◌}
use Prim.Native.Nat.{ℕ, ◌+◌, ◌*◌, ◌/◌, ◌%◌}
use native.Mathlib.Omega.{arith}
use lib.IntN.{ℤ, pos, ◌+ℤ◌, ◌-ℤ◌, ◌*ℤ◌}
use lib.ListN.{get_or, length, length-append}
use lib.Seq.{get_or_at}
use Rattle.integer.specs.Z.{zs, v, ≡-by}
use Rattle.packed.specs.Packed.{word_at, number_at, unpacked, is_narrow, upper_of, lower_of, words_of, bytes_from, ReadsBack}

-- ---- a byte that was made of a place
even : (p : ℕ) → 2 * p % 2 ≡ 0
even p = omega arith

even_place : (p : ℕ) → 2 * p / 2 ≡ p
even_place p = omega arith

odd : (p : ℕ) → (2 * p + 1) % 2 ≡ 1
odd p = omega arith

odd_place : (p : ℕ) → (2 * p + 1) / 2 ≡ p
odd_place p = omega arith

pub narrow_read : (words : List ℤ) (p : ℕ) → number_at words (2 * p) ≡ word_at words p
narrow_read words p = rw (even p, even_place p)

pub wide_read : (words : List ℤ) (p : ℕ) → number_at words (2 * p + 1) ≡ word_at words p +ℤ word_at words (p + 1) *ℤ pos 4294967296
wide_read words p = rw (odd p, odd_place p)

-- ---- a number's words in front of others and behind others
whole : (k u : ℤ) → (k -ℤ u *ℤ pos 4294967296) +ℤ u *ℤ pos 4294967296 ≡ k
whole k u = let vk = v k in let vu = v u in ≡-by (search zs) (omega arith)

one_more : (pre : List ℤ) (k : ℤ) (p : ℕ) → length pre ≡ p → length (pre ++ (k ∷ [])) ≡ p + 1
one_more pre k p e = length-append pre (k ∷ []) ∙ ap (λ (n : ℕ). n + 1) e

behind : (pre : List ℤ) (k : ℤ) (ws : List ℤ) → pre ++ (k ∷ ws) ≡ (pre ++ (k ∷ [])) ++ ws
behind pre k ws = sym (append_assoc pre (k ∷ []) ws)

-- by whether a number is narrow, given that the others are read back behind its words
module _ (pre ks rest : List ℤ) (k : ℤ) (p : ℕ) (e : length pre ≡ p) where
  abbrev ws : List ℤ
  ws = words_of ks ++ rest

  second : get_or (pre ++ (lower_of k ∷ upper_of k ∷ ws)) (p + 1) (pos 0) ≡ upper_of k
  second =
      ap (λ (l : List ℤ). get_or l (p + 1) (pos 0)) (behind pre (lower_of k) (upper_of k ∷ ws))
      ∙ get_or_at (pre ++ (lower_of k ∷ [])) (upper_of k) ws (pos 0) (p + 1) (one_more pre (lower_of k) p e)

  first : get_or (pre ++ (lower_of k ∷ upper_of k ∷ ws)) p (pos 0) ≡ lower_of k
  first = get_or_at pre (lower_of k) (upper_of k ∷ ws) (pos 0) p e

  pub next : (b : Bool) → unpacked (bytes_from (p + 1) ks) (pre ++ (k ∷ ws)) ≡ ks → unpacked (bytes_from (p + 2) ks) (pre ++ (lower_of k ∷ upper_of k ∷ ws)) ≡ ks
      → unpacked (cond b ((2 * p) ∷ bytes_from (p + 1) ks) ((2 * p + 1) ∷ bytes_from (p + 2) ks)) (pre ++ (cond b (k ∷ words_of ks) (lower_of k ∷ upper_of k ∷ words_of ks) ++ rest)) ≡ k ∷ ks
  unfolding unpacked
  next true n w = ap₂ ◌∷◌ (narrow_read (pre ++ (k ∷ ws)) p ∙ get_or_at pre k ws (pos 0) p e) n
  next false n w =
      ap₂ ◌∷◌
      (wide_read (pre ++ (lower_of k ∷ upper_of k ∷ ws)) p
      ∙ ap₂ (λ (a b : ℤ). a +ℤ b *ℤ pos 4294967296) first second
      ∙ whole k (upper_of k))
      w

from : (pre ks rest : List ℤ) (p : ℕ) → length pre ≡ p → unpacked (bytes_from p ks) (pre ++ (words_of ks ++ rest)) ≡ ks
unfolding unpacked bytes_from words_of
from pre [] rest p e = refl
from pre (k ∷ ks) rest p e =
    let n = ap (unpacked (bytes_from (p + 1) ks)) (behind pre k (words_of ks ++ rest)) ∙ from (pre ++ (k ∷ [])) ks rest (p + 1) (one_more pre k p e) in
    let q = pre ++ (lower_of k ∷ []) in
    let w =
    ap (unpacked (bytes_from (p + 2) ks)) (behind pre (lower_of k) (upper_of k ∷ (words_of ks ++ rest)) ∙ behind q (upper_of k) (words_of ks ++ rest))
    ∙ from (q ++ (upper_of k ∷ [])) ks rest (p + 2) (one_more q (upper_of k) (p + 1) (one_more pre (lower_of k) p e) ∙ omega arith) in
    next pre ks rest k p e (is_narrow k) n w

pub reads_back : ReadsBack
reads_back ks rest = from [] ks rest 0 refl
