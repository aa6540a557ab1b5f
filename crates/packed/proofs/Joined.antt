-- A number of one word or two: the sum that the code works out for either, and that its steps fit.
use mathlib.Core.Bool.{cond}
use mathlib.Core.List.{List}
use mathlib.Core.Path.{◌≡◌, ◌∙◌}
use Prim.Native.Nat.{ℕ, zero, suc, ◌+◌, ◌*◌, ◌/◌, ◌%◌, ◌^◌, ◌≤◌, ◌<◌}
use native.Mathlib.Nat.{mul-le-mul, mod-lt}
use native.Mathlib.Omega.{arith}
use lib.Dec.{eqb, lit<}
use lib.IntN.{ℤ, pos, nat_abs, ◌+ℤ◌, ◌*ℤ◌}
use lib.Signed.{mag}
use mir.Syntax.{w32, w64}
use mir.Val.{SFits, to_z, of_z}
use mir.ValLaws.{to_z-of_z}
use mir.Facts.{to_z_pos}
use Rattle.integer.specs.Z.{zs, v, ≡-by}
use Rattle.integer.specs.Laws.{abs-*, mag_abs}
use Rattle.integer.proofs.Machine.{fits64, back_ok}
use Rattle.quotient.specs.Range.{In, AllIn}
use Rattle.quotient.proofs.Machine.{in_fits, all_at}
use Rattle.packed.specs.Packed.{word_at, number_at}

-- ---- words
pub word_fits : (x : ℤ) → SFits w32 x → SFits w64 x
word_fits x f = record { sfits = omega (arith, f.sfits) }

-- what the machine has of a word that it read
pub word_is : {x r : ℤ} → In 31 x → mag r < 2 ^ 63 → r ≡ to_z w32 (of_z w32 x) → to_z w64 (of_z w64 r) ≡ x
word_is {x} {r} h ok e = back_ok r ok ∙ e ∙ to_z-of_z w32 x (record { sfits = omega (arith, mag_abs x, h.size) })

-- ---- the sum, of the word at p and the word r behind it, which counts r times
abbrev pub sum : List ℤ → ℕ → ℕ → ℤ
sum words p r = word_at words p +ℤ word_at words (p + r) *ℤ pos r *ℤ pos 4294967296

sum_is : (words : List ℤ) (p r : ℕ) → r < 2 → sum words p r ≡ cond (eqb r 1) (word_at words p +ℤ word_at words (p + 1) *ℤ pos 4294967296) (word_at words p)
sum_is words p zero h = let vx = v (word_at words p) in let vy = v (word_at words (p + 0)) in ≡-by (search zs) (omega arith)
sum_is words p (suc zero) h = let vx = v (word_at words p) in let vy = v (word_at words (p + 1)) in ≡-by (search zs) (omega arith)
sum_is words p (suc (suc r)) h = let f : ⊥ = omega (arith, h) in absurd f

module _ (words : List ℤ) (byte : ℕ) (h : AllIn 31 words) (k : In 62 (number_at words byte)) where
  abbrev upper : ℤ
  upper = word_at words (byte / 2 + byte % 2)

  odd : byte % 2 < 2
  odd = mod-lt byte (lit< tt)

  -- whether the number is wide, as a number of the machine
  pub wide_is : to_z w64 (byte % 2) ≡ pos (byte % 2)
  wide_is = to_z_pos w64 (omega (arith, odd))

  once : nat_abs (upper *ℤ pos (byte % 2)) ≤ 2147483647 * 1
  once =
      let most : nat_abs upper ≤ 2147483647 = omega (arith, (all_at h (byte / 2 + byte % 2)).size) in
      let least : byte % 2 ≤ 1 = omega (arith, odd) in
      rw (abs-* upper (pos (byte % 2))) (mul-le-mul most least)

  pub fit_once : SFits w64 (upper *ℤ pos (byte % 2))
  fit_once = fits64 _ (omega (arith, once))

  pub fit_upper : SFits w64 (upper *ℤ pos (byte % 2) *ℤ pos 4294967296)
  fit_upper = fits64 _ (omega (arith, once, abs-* (upper *ℤ pos (byte % 2)) (pos 4294967296)))

  pub joined : sum words (byte / 2) (byte % 2) ≡ number_at words byte
  joined = sum_is words (byte / 2) (byte % 2) odd

  pub fit_sum : SFits w64 (sum words (byte / 2) (byte % 2))
  fit_sum = rw joined (in_fits k)
