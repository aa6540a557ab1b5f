-- The logarithm of a 64-bit number, in units of 10 ^ -10. Assumes nothing.
use mathlib.Core.Path.{◌≡◌, refl, sym, ap, ◌∙◌, subst}
use Prim.Native.Nat.{ℕ, suc, ◌+◌, ◌-◌, ◌*◌, ◌/◌, ◌^◌, ◌≤◌, ◌<◌}
use native.Mathlib.Nat.{le_trans, le_of_eq, suc_inj, add-suc, add_comm, mul-le-mul_right, one-le-pow}
use native.Mathlib.Omega.{arith}
use lib.Dec.{lit<}
use lib.Count.{count_leading_zeros, leading_top}
use lib.Pow.{pow-add, shl_lt}
use Rattle.logarithm.specs.Choice.{mantissa_of, lg_of}
use Rattle.logarithm.proofs.Bounds.{Lo, Hi, lo_scale, hi_scale, hi_more}
use Rattle.logarithm.proofs.Points.{two}
use Rattle.logarithm.proofs.Leading.{Mantissa, mantissa_is}

-- n shifted by z has its top bit at bit 63
pub record Shift (n z : ℕ) : Type 0 where
  pub most : z ≤ 63
  pub low : 9223372036854775808 ≤ n * 2 ^ z
  pub high : n * 2 ^ z < 18446744073709551616

normalized : (a k s : ℕ) → 2 ^ k ≤ a → a < 2 ^ suc k → s + suc k ≡ 64 → Shift a s
normalized a k s lo hi e =
    record {
      most = omega arith;
      low = subst (λ (x : ℕ). 2 ^ x ≤ a * 2 ^ s) (add_comm k s ∙ suc_inj (sym (add-suc s k) ∙ e)) (le_trans (le_of_eq (pow-add 2 k s)) (mul-le-mul_right (2 ^ s) lo));
      high = subst (λ (x : ℕ). a * 2 ^ s < 2 ^ x) (add_comm (suc k) s ∙ e) (shl_lt {a = a} (suc k) s hi);
    }

pub shift_is : (n : ℕ) → 0 < n → n < 18446744073709551616 → Shift n (count_leading_zeros 64 n)
shift_is n o h =
    let top = leading_top 64 n o h in
    normalized n top.0 (count_leading_zeros 64 n) top.2 top.3 top.1

-- g is 10 ^ 10 times the logarithm of n, less 1,106 at most
pub record Lg (n g : ℕ) : Type 0 where
  pub low : Lo 10000000000 g n 1
  pub high : Hi 10000000000 (g + 1106) n 1
  pub most : g < 200000000000

-- x is n * 2 ^ z, of 64 bits, and m its upper half
split : (n z x m g : ℕ) → z ≤ 63 → x ≡ n * 2 ^ z → m ≡ x / 4294967296 → Mantissa m g → Lg n ((63 - z) * 3010299956 + g)
split n z x m g l ex em h =
    let e = 63 - z in
    let ez : e + z ≡ 63 = omega arith in
    let pq : 2147483648 * 4294967296 ≡ 2 ^ e * 2 ^ z = sym (sym (pow-add 2 e z) ∙ ap (λ (u : ℕ). 2 ^ u) ez) in
    let yp : 0 < 2 ^ z = one-le-pow z 2 (lit< tt) in
    let below : m * 4294967296 ≤ n * 2 ^ z = omega arith in
    let above : n * 2 ^ z ≤ (m + 1) * 4294967296 = omega arith in
    record {
      low = lo_scale 10000000000 n m 2147483648 4294967296 2 e (2 ^ z) 3010299956 g pq yp below h.low two.0;
      high = hi_more 10000000000 (e * 3010299957 + (g + 1043)) (e * 3010299956 + g + 1106) n 1 (omega arith)
          (hi_scale 10000000000 n (m + 1) 2147483648 4294967296 2 e (2 ^ z) 3010299957 (g + 1043) pq yp above h.high two.1);
      most = omega (arith, h.most);
    }

pub lg_is : (n : ℕ) → 0 < n → n < 18446744073709551616 → Lg n (lg_of n)
unfolding lg_of
lg_is n o h =
    let z = count_leading_zeros 64 n in
    let w = shift_is n o h in
    let m = n * 2 ^ z / 4294967296 in
    let k = mantissa_is m (omega (arith, w.low)) (omega (arith, w.high)) in
    let e : mantissa_of m + 189648897228 - z * 3010299956 ≡ (63 - z) * 3010299956 + mantissa_of m = omega (arith, w.most) in
    rw e (split n z (n * 2 ^ z) m (mantissa_of m) w.most refl refl k)
