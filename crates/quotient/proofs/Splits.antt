-- Which products can be split, and which quotients can be had, by the sizes of their factors.
use Prim.Native.Nat.{ℕ, ◌+◌, ◌*◌, ◌/◌, ◌^◌, ◌≤◌, ◌<◌}
use native.Mathlib.Nat.{mul-le-mul, mul-le-mul_left, le_of_lt}
use native.Mathlib.Omega.{arith}
use lib.Dec.{lt→ltb, lit<}
use lib.IntN.{ℤ, pos, nat_abs, ◌*ℤ◌}
use lib.Signed.{shr_z}
use mir.Syntax.{w64}
use mir.Val.{SFits}
use Rattle.integer.specs.Laws.{abs-*}
use Rattle.integer.proofs.Machine.{fits64}
use Rattle.quotient.specs.Range.{In, Divides, Splits}
use Rattle.quotient.proofs.Floors.{quotient_mono, quotient_size}

-- a quotient, of a number of at most A
pub divides : {a : ℤ} (m A : ℕ) → nat_abs a ≤ A → 0 < m → A + m < 2 ^ 62 → Divides a (pos m)
divides m A ha hm h = record { some = record { lt = lt→ltb 0 m hm }; size = omega arith }

-- a product that can be split, of factors of at most A and B
pub splits : {a b : ℤ} (m A B : ℕ) → nat_abs a ≤ A → nat_abs b ≤ B → 0 < m → A + m < 2 ^ 62 → m * B + m < 2 ^ 62 → (A / m + 1 + m) * B + 1 < 2 ^ 63 → Splits a b (pos m)
splits {a} {b} m A B ha hb hm h l k =
    let q : nat_abs a / m + 1 + m ≤ A / m + 1 + m = omega (arith, quotient_mono m hm ha) in
    let r : m * nat_abs b + m < 2 ^ 62 = omega (arith, mul-le-mul_left m hb) in
    let p : (nat_abs a / m + 1 + m) * nat_abs b + 1 < 2 ^ 63 = omega (arith, mul-le-mul q hb) in
    record { first = divides m A ha hm h; rest = r; product = p }

pub mul_splits : {a b : ℤ} → In 57 a → In 25 b → Splits a b (pos 1000000)
mul_splits h k =
    splits 1000000 (2 ^ 57) (2 ^ 25) (le_of_lt h.size) (le_of_lt k.size) (lit< tt) (lit< tt) (lit< tt) (lit< tt)

-- a product over n can be divided again, by m; its factors are at most A and B
pub divides_over : (n m A B : ℕ) (a b : ℤ) → nat_abs a ≤ A → nat_abs b ≤ B → 0 < n → 0 < m → A * B / n + 1 + m < 2 ^ 62 → Divides (shr_z (a *ℤ b) n) (pos m)
divides_over n m A B a b ha hb hn hm h =
    let p : nat_abs (a *ℤ b) ≤ A * B = rw abs-* (mul-le-mul ha hb) in
    divides m (A * B / n + 1) (omega (arith, quotient_size (a *ℤ b) n hn, quotient_mono n hn p)) hm h

pub short_splits : {a b : ℤ} → In 43 a → In 25 b → Splits a b (pos 64)
short_splits h k = splits 64 (2 ^ 43) (2 ^ 25) (le_of_lt h.size) (le_of_lt k.size) (lit< tt) (lit< tt) (lit< tt) (lit< tt)

pub short_divides : {m : ℕ} (a b : ℤ) → In 43 a → In 25 b → 0 < m → m ≤ 15625 → Divides (shr_z (a *ℤ b) 64) (pos m)
short_divides {m} a b h k some most =
    let small : nat_abs a ≤ 8796093022207 = omega (arith, h.size) in
    let room : 8796093022207 * 2 ^ 25 / 64 + 1 + 15625 < 2 ^ 62 = lit< tt in
    divides_over 64 m 8796093022207 (2 ^ 25) a b small (le_of_lt k.size) (lit< tt) some (omega (arith, room, most))

-- ---- a product at once
pub product_fits : (a b : ℤ) → In 38 a → In 25 b → SFits w64 (a *ℤ b)
product_fits a b h k =
    let small : nat_abs a ≤ 274877906943 = omega (arith, h.size) in
    let p : nat_abs (a *ℤ b) ≤ 274877906943 * 2 ^ 25 = rw abs-* (mul-le-mul small (le_of_lt k.size)) in
    fits64 _ (omega (arith, p))
