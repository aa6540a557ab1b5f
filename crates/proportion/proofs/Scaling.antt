-- The steps of `scaled`, and how large it and the perfect gas's entropy are.
use mathlib.Core.Path.{◌≡◌, refl, sym, ap, ◌∙◌, subst}
use Prim.Native.Nat.{◌*◌, ◌^◌, ◌≤◌, ◌<◌}
use native.Mathlib.Nat.{mul-le-mul, mul-le-mul_right, le_of_lt}
use native.Mathlib.Omega.{arith}
use lib.Dec.{lit<}
use lib.IntN.{ℤ, pos, nat_abs, ◌+ℤ◌, ◌-ℤ◌, ◌*ℤ◌, *ℤ_comm}
use lib.Signed.{shr_z}
use mir.Syntax.{w64}
use mir.Val.{SFits}
use Rattle.integer.specs.Laws.{abs-+, abs-*}
use Rattle.integer.specs.Floor.{Down}
use Rattle.weight.specs.Weight.{units}
use Rattle.quotient.specs.Range.{In, Divides, Splits}
use Rattle.proportion.specs.Reach.{reach}
use Rattle.quotient.proofs.Floors.{is_down, split, twice, quotient_upto, rest_size, product_size}
use Rattle.integer.proofs.Machine.{fits64}
use Rattle.quotient.proofs.Splits.{splits, divides_over}

-- the weighted part of B is at most twice as large as B
pub scaled_size : (w b : ℤ) → nat_abs w ≤ reach → nat_abs (shr_z (w *ℤ b) units) ≤ 2 * nat_abs b
scaled_size w b h = quotient_upto (w *ℤ b) (2 * nat_abs b) units (lit< tt) (rw abs-* (omega (arith, mul-le-mul_right (nat_abs b) h)))

-- the two quotients of a B that is below 2^38
module _ (w b : ℤ) (most : nat_abs w ≤ reach) (small : nat_abs b ≤ 274877906943) where
  pub scaled_splits : Splits b w (pos 1024)
  scaled_splits = splits 1024 274877906943 reach small most (lit< tt) (lit< tt) (lit< tt) (lit< tt)

  pub scaled_divides : Divides (shr_z (b *ℤ w) 1024) (pos 9765625)
  scaled_divides = divides_over 1024 9765625 274877906943 reach b w small most (lit< tt) (lit< tt) (lit< tt)

pub record Scaling (w b h : ℤ) : Type 0 where
  pub fit1 : SFits w64 (h *ℤ pos units)
  pub fit2 : SFits w64 (b -ℤ h *ℤ pos units)
  pub fit3 : SFits w64 (h *ℤ w)
  pub splits : Splits w (b -ℤ h *ℤ pos units) (pos 100000)
  pub second : Divides (shr_z (w *ℤ (b -ℤ h *ℤ pos units)) 100000) (pos 100000)
  pub fit4 : SFits w64 (h *ℤ w +ℤ shr_z (shr_z (w *ℤ (b -ℤ h *ℤ pos units)) 100000) 100000)
  pub is : h *ℤ w +ℤ shr_z (shr_z (w *ℤ (b -ℤ h *ℤ pos units)) 100000) 100000 ≡ shr_z (w *ℤ b) units

pub scaling : (w b h : ℤ) → nat_abs w ≤ reach → In 57 b → h ≡ shr_z b units → Scaling w b h
scaling w b h hw hb e =
    let d : Down h b units = is_down b units (lit< tt) e in
    let l : ℤ = b -ℤ h *ℤ pos units in
    let hl : nat_abs l < units = rest_size b h units d in
    let hh : nat_abs h ≤ 14411519 = subst (λ (x : ℤ). nat_abs x ≤ 14411519) (sym e) (quotient_upto b 14411519 units (lit< tt) (omega (arith, hb.size))) in
    let whole : h *ℤ w +ℤ shr_z (shr_z (w *ℤ l) 100000) 100000 ≡ shr_z (w *ℤ b) units =
    ap (λ (x : ℤ). h *ℤ w +ℤ x) (twice (w *ℤ l) 100000 100000)
    ∙ ap (λ (x : ℤ). h *ℤ w +ℤ shr_z x units) (*ℤ_comm w l)
    ∙ split b w h (shr_z (l *ℤ w) units) units (lit< tt) refl
    ∙ ap (λ (x : ℤ). shr_z x units) (*ℤ_comm b w) in
    record {
      fit1 = fits64 (h *ℤ pos units) (rw abs-* (omega (arith, product_size h b units d, hb.size)));
      fit2 = fits64 l (omega arith);
      fit3 = fits64 (h *ℤ w) (rw abs-* (omega (arith, mul-le-mul hh hw)));
      splits = splits 100000 reach units hw (le_of_lt hl) (lit< tt) (lit< tt) (lit< tt) (lit< tt);
      second = divides_over 100000 100000 reach units w l hw (le_of_lt hl) (lit< tt) (lit< tt) (lit< tt);
      fit4 = rw whole (fits64 (shr_z (w *ℤ b) units) (omega (arith, scaled_size w b hw, hb.size)));
      is = whole;
    }

pub fitted_in : {a b : ℤ} (w : ℤ) → In 57 a → nat_abs w ≤ reach → In 57 b → In 59 (a +ℤ shr_z (w *ℤ b) units)
fitted_in {a} {b} w ha most hb =
    record { size = omega (arith, abs-+ a (shr_z (w *ℤ b) units), scaled_size w b most, ha.size, hb.size) }

pub entropy_rise_size : (m : ℤ) → nat_abs (shr_z (m *ℤ pos 28706 *ℤ pos 2302585) (2 * 10 ^ 10)) ≤ 4 * nat_abs m
entropy_rise_size m =
    quotient_upto (m *ℤ pos 28706 *ℤ pos 2302585) (4 * nat_abs m) (2 * 10 ^ 10) (lit< tt) (simp abs-* (omega arith))
