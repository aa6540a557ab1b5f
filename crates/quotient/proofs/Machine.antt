-- What the steps of the code compute, and that each fits an i64.
use mathlib.Core.Path.{◌≡◌, refl, sym, subst}
use mathlib.Core.Bool.{Bool, true, false, ◌&&◌}
use mathlib.Core.List.{List, [], ◌∷◌}
use Prim.Native.Nat.{ℕ, zero, suc, ◌+◌, ◌*◌, ◌/◌, ◌^◌, ◌≤◌, ◌<◌}
use native.Mathlib.Nat.{mul-le-mul_right, le_of_lt, div-le_self, div-mul-le_self, lt-div-mul-add}
use native.Mathlib.Omega.{arith}
use borrow.Author.Tests.{ltb-false}
use lib.Dec.{T, ltb, leb, ltb→lt, leb→le}
use lib.Pow.{pow_pos}
use lib.ListN.{get_or}
use lib.IntN.{ℤ, pos, negsuc, nat_abs, ◌+ℤ◌, ◌-ℤ◌, ◌*ℤ◌}
use lib.Signed.{◌<ℤ◌, shr_z, quot_z, lt_z, non_neg, mag, mag_shr}
use mir.Syntax.{w64}
use mir.Val.{SFits, to_z, of_z}
use mir.ValLaws.{to_z-of_z}
use Rattle.integer.specs.Z.{up, dn, zs, v, ≡→, +-split}
use Rattle.integer.specs.Laws.{abs_is, abs-*, abs-+}
use Rattle.integer.specs.Floor.{Down, down_unique, down_by}
use Rattle.integer.proofs.Machine.{fits64, back_ok}
use Rattle.quotient.specs.Range.{In, all_in, AllIn, Divides, Splits}
use Rattle.quotient.proofs.Floors.{is_down, split, quotient_size, rest_size, product_size}

-- a range, of what the machine reads back
pub in_back : {n : ℕ} {z : ℤ} → SFits w64 z → In n z → In n (to_z w64 (of_z w64 z))
in_back {n} {z} f h = rw (to_z-of_z w64 z f) h

-- and of a call's result
pub in_ok : {n : ℕ} {z z' : ℤ} → z ≡ z' → mag z < 2 ^ 63 → In n z' → In n (to_z w64 (of_z w64 z))
in_ok {n} {z} {z'} e f h = rw (back_ok z f, e) h

pub in_fits : {z : ℤ} → In 62 z → SFits w64 z
in_fits {z} h = fits64 z (omega (arith, h.size))

-- a quotient that is rounded down fits where its dividend does
pub quotient_fits : {z : ℤ} (m : ℕ) → SFits w64 z → SFits w64 (shr_z z m)
quotient_fits {z} m f = record { sfits = omega (arith, mag_shr z m, f.sfits) }

-- a wider range
pub in_wider : {m n : ℕ} {z : ℤ} → T (leb (2 ^ m) (2 ^ n)) → In m z → In n z
in_wider {m} {n} t h = record { size = omega (arith, leb→le (2 ^ m) (2 ^ n) t, h.size) }

-- what the two tests of a number's size leave: it is between -(n + 1) and n + 1
pub tested : (z : ℤ) (n : ℕ) → lt_z z (negsuc n) ≡ false → lt_z (pos (n + 1)) z ≡ false → nat_abs z ≤ n + 1
tested (pos k) n e f = ltb-false (n + 1) k f
tested (negsuc k) n e f = omega (arith, ltb-false n k e)

-- a positive number is positive in the machine too
pub above_zero : (m : ℤ) → pos 0 <ℤ m → 0 < of_z w64 m
above_zero (pos m) h = ltb→lt 0 m h.lt
above_zero (negsuc m) h = absurd h.lt

-- what `floor_div` moves a up by: k m with k m just above 2^62
abbrev pub turns : ℤ → ℤ
turns m = quot_z (pos 4611686018427387904) m +ℤ pos 1

-- its steps
pub record Lifts (a m : ℤ) : Type 0 where
  pub divisor : T (non_neg m)
  pub some : 0 < nat_abs m
  pub small : nat_abs m < 2 ^ 63
  pub fit1 : SFits w64 (quot_z (pos 4611686018427387904) m)
  pub fit2 : SFits w64 (turns m)
  pub fit3 : SFits w64 (turns m *ℤ m)
  pub fit4 : SFits w64 (a +ℤ turns m *ℤ m)
  pub above : T (non_neg (a +ℤ turns m *ℤ m))
  pub room : nat_abs (a +ℤ turns m *ℤ m) < 2 ^ 63
  pub fit5 : SFits w64 (pos (nat_abs (a +ℤ turns m *ℤ m) / nat_abs m))
  pub fit6 : SFits w64 (pos (nat_abs (a +ℤ turns m *ℤ m) / nat_abs m) -ℤ turns m)
  pub is : pos (nat_abs (a +ℤ turns m *ℤ m) / nat_abs m) -ℤ turns m ≡ shr_z a (nat_abs m)

-- a number that is some natural
pub record Natural (z : ℤ) : Type 0 where
  pub n : ℕ
  pub is : z ≡ pos n

natural : (z : ℤ) → dn z ≤ up z → Natural z
natural (pos n) h = record { n = n; is = refl }
natural (negsuc n) h = let f : ⊥ = omega arith in absurd f

pub lifts : (a m : ℤ) → Divides a m → Lifts a m
lifts a (negsuc m) d = absurd d.some.lt
lifts a (pos m) d =
    let hm : 0 < m = ltb→lt 0 m d.some.lt in
    let q : ℕ = 4611686018427387904 / m in
    let lo : q * m ≤ 4611686018427387904 = div-mul-le_self 4611686018427387904 m in
    let hi : 4611686018427387904 < q * m + m = lt-div-mul-add {a = 4611686018427387904} hm in
    let va = v a in
    let x : Natural (a +ℤ pos ((q + 1) * m)) = natural (a +ℤ pos ((q + 1) * m)) (omega (arith, +-split a (pos ((q + 1) * m)), abs_is a, d.size)) in
    let small : x.n < 2 ^ 63 = omega (arith, ≡→ x.is, +-split a (pos ((q + 1) * m)), abs_is a, d.size) in
    let below : x.n / m ≤ x.n = div-le_self x.n m in
    let whole : pos (x.n / m) -ℤ pos (q + 1) ≡ shr_z a m =
    down_unique a m hm (down_by (search zs) (search zs)
    (omega (arith, div-mul-le_self x.n m, ≡→ x.is, +-split a (pos ((q + 1) * m))))
    (omega (arith, lt-div-mul-add {a = x.n} hm, ≡→ x.is, +-split a (pos ((q + 1) * m))))) in
    record {
      divisor = tt;
      some = hm;
      small = omega (arith, d.size);
      fit1 = record { sfits = omega (arith, div-le_self 4611686018427387904 m) };
      fit2 = record { sfits = omega (arith, div-le_self 4611686018427387904 m) };
      fit3 = record { sfits = omega (arith, d.size) };
      fit4 = rw x.is (record { sfits = small });
      above = rw x.is tt;
      room = rw x.is small;
      fit5 = rw x.is (record { sfits = omega arith });
      fit6 = rw (x.is, whole) (fits64 (shr_z a m) (omega (arith, quotient_size a m hm, div-le_self (nat_abs a) m, d.size)));
      is = rw x.is whole;
    }

-- the steps of `mul_div`, of which h is the quotient of a by m
pub record Steps (a b m h : ℤ) : Type 0 where
  pub fit1 : SFits w64 (h *ℤ m)
  pub fit2 : SFits w64 (a -ℤ h *ℤ m)
  pub fit3 : SFits w64 (h *ℤ b)
  pub fit4 : SFits w64 ((a -ℤ h *ℤ m) *ℤ b)
  pub fit5 : SFits w64 (h *ℤ b +ℤ shr_z ((a -ℤ h *ℤ m) *ℤ b) (nat_abs m))
  pub second : Divides ((a -ℤ h *ℤ m) *ℤ b) m
  pub is : h *ℤ b +ℤ shr_z ((a -ℤ h *ℤ m) *ℤ b) (nat_abs m) ≡ shr_z (a *ℤ b) (nat_abs m)

pub steps : (a b m h : ℤ) → Splits a b m → h ≡ shr_z a (nat_abs m) → Steps a b m h
steps a b (negsuc m) h s e = absurd s.first.some.lt
steps a b (pos m) h s e =
    let hm : 0 < m = ltb→lt 0 m s.first.some.lt in
    let d : Down h a m = is_down a m hm e in
    let l : ℤ = a -ℤ h *ℤ pos m in
    let q : ℤ = shr_z (l *ℤ b) m in
    let hh : nat_abs h ≤ nat_abs a / m + 1 = subst (λ (x : ℤ). nat_abs x ≤ nat_abs a / m + 1) (sym e) (quotient_size a m hm) in
    let room : (nat_abs a / m + 1) * nat_abs b + m * nat_abs b + 1 < 2 ^ 63 = omega (arith, s.product) in
    let hb : nat_abs h * nat_abs b ≤ (nat_abs a / m + 1) * nat_abs b = mul-le-mul_right (nat_abs b) hh in
    let lb : nat_abs l * nat_abs b ≤ m * nat_abs b = mul-le-mul_right (nat_abs b) (le_of_lt (rest_size a h m d)) in
    let qs : nat_abs q ≤ nat_abs (l *ℤ b) / m + 1 = quotient_size (l *ℤ b) m hm in
    record {
      fit1 = fits64 (h *ℤ pos m) (omega (arith, abs-* h (pos m), product_size h a m d, s.first.size));
      fit2 = fits64 l (omega (arith, rest_size a h m d, s.first.size));
      fit3 = fits64 (h *ℤ b) (omega (arith, abs-* h b));
      fit4 = fits64 (l *ℤ b) (omega (arith, abs-* l b));
      fit5 = fits64 (h *ℤ b +ℤ q) (omega (arith, abs-+ (h *ℤ b) q, abs-* h b, abs-* l b, div-le_self (nat_abs (l *ℤ b)) m));
      second = record { some = s.first.some; size = omega (arith, abs-* l b, s.rest) };
      is = split a b h q m hm refl;
    }

-- the halves of a test
pub both : (a b : Bool) → T (a && b) → T a × T b
both true b t = (tt, t)
both false b t = absurd t

-- a list of which every number is in a range
at : (n : ℕ) (l : List ℤ) → T (all_in n l) → (i : ℕ) → In n (get_or l i (pos 0))
at n [] t i = record { size = pow_pos n }
at n (z ∷ l) t zero = record { size = ltb→lt (nat_abs z) (2 ^ n) (both (ltb (nat_abs z) (2 ^ n)) (all_in n l) t).0 }
at n (z ∷ l) t (suc i) = at n l (both (ltb (nat_abs z) (2 ^ n)) (all_in n l) t).1 i

pub all_at : {n : ℕ} {l : List ℤ} → AllIn n l → (i : ℕ) → In n (get_or l i (pos 0))
all_at {n} {l} h i = at n l h.all i
