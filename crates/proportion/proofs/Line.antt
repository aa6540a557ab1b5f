-- The steps of `straight`: between the edges the rise is no larger than the whole one.
use Prim.Native.Nat.{ℕ, ◌+◌, ◌*◌, ◌/◌, ◌^◌, ◌≤◌, ◌<◌}
use native.Mathlib.Nat.{mul-le-mul_left, mul-le-mul, div-mul-le_self, le_trans, le_of_lt}
use native.Mathlib.Omega.{arith}
use lib.IntN.{ℤ, pos, negsuc, nat_abs, ◌-ℤ◌, ◌*ℤ◌}
use lib.Signed.{◌<ℤ◌, shr_z}
use mir.Syntax.{w64}
use mir.Val.{SFits}
use Rattle.integer.specs.Z.{up, dn, Two, zs, v, ≤→, <→, <-by}
use Rattle.integer.specs.Laws.{abs_is, abs_by, abs-+, abs--, abs-*}
use Rattle.quotient.specs.Range.{In, Splits, Between}
use Rattle.proportion.specs.Straight.{straight}
use Rattle.quotient.proofs.Floors.{quotient_upto}
use Rattle.integer.proofs.Machine.{fits64}

-- how far y is from a, and b
module _ {a b y : ℤ} (h : Between a b y) where
  apart_some : pos 0 <ℤ (b -ℤ a)
  apart_some = let va = v a in let vb = v b in <-by (search zs) (omega (arith, <→ h.apart))

  positive : (m : ℤ) → pos 0 <ℤ m → 0 < nat_abs m
  positive (pos m) l = omega (arith, <→ l)
  positive (negsuc m) l = absurd l.lt

  some : 0 < nat_abs (b -ℤ a)
  some = positive (b -ℤ a) apart_some

  near : nat_abs (y -ℤ a) ≤ nat_abs (b -ℤ a)
  near =
      let va = v a in let vb = v b in let vy = v y in
      let e : Two (b -ℤ a) (b -ℤ a) = search zs in
      let wide : up b + dn a ≤ up a + dn b + nat_abs (b -ℤ a) = omega (arith, abs_is (b -ℤ a), e.l.ok.is) in
      abs_by (y -ℤ a) (search zs) (nat_abs (b -ℤ a)) (omega (arith, ≤→ h.high)) (omega (arith, ≤→ h.low))

pub record Line (a b low high y : ℤ) : Type 0 where
  pub fit1 : SFits w64 (high -ℤ low)
  pub fit2 : SFits w64 (y -ℤ a)
  pub fit3 : SFits w64 (b -ℤ a)
  pub splits : Splits (high -ℤ low) (y -ℤ a) (b -ℤ a)
  pub fit4 : SFits w64 (straight a b low high y)

pub line : {a b low high y : ℤ} → Between a b y → In 25 a → In 25 b → In 57 low → In 57 high → Line a b low high y
line {a} {b} {low} {high} {y} h ha hb hl hh =
    let d : ℤ = high -ℤ low in
    let u : ℕ = nat_abs (y -ℤ a) in
    let w : ℕ = nat_abs (b -ℤ a) in
    let hw : w < 2 ^ 26 = omega (arith, abs-- b a, ha.size, hb.size) in
    let hu : u ≤ w = near h in
    let hd : nat_abs d < 2 ^ 58 = omega (arith, abs-- high low, hl.size, hh.size) in
    let part : (nat_abs d / w) * u ≤ nat_abs d = le_trans (mul-le-mul_left (nat_abs d / w) hu) (div-mul-le_self (nat_abs d) w) in
    let lw : w ≤ 2 ^ 26 = le_of_lt hw in
    let rest : w * u ≤ 2 ^ 26 * 2 ^ 26 = mul-le-mul lw (le_trans hu lw) in
    let rise : nat_abs (shr_z (d *ℤ (y -ℤ a)) w) ≤ nat_abs d = quotient_upto (d *ℤ (y -ℤ a)) (nat_abs d) w (some h) (rw abs-* (mul-le-mul_left (nat_abs d) hu)) in
    record {
      fit1 = fits64 d (omega arith);
      fit2 = fits64 (y -ℤ a) (omega arith);
      fit3 = fits64 (b -ℤ a) (omega arith);
      splits = record { first = record { some = apart_some h; size = omega arith }; rest = omega arith; product = omega arith };
      fit4 = fits64 (straight a b low high y) (omega (arith, abs-+ low (shr_z (d *ℤ (y -ℤ a)) w), hl.size));
    }
