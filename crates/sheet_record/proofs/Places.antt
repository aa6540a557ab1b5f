-- A record by the places of its bytes in the sheet, for any layout.
use mathlib.Core.Bool.{Bool, true, false, cond, ◌||◌}
use mathlib.Core.List.{List}
use mathlib.Core.Option.{Option, none, some}
use mathlib.Core.Path.{◌≡◌, refl}
use Prim.Native.Nat.{ℕ, ◌+◌, ◌-◌, ◌≤◌, ◌<◌}
use native.Mathlib.Numerals.{add-one}
use native.Mathlib.Omega.{arith}
use lib.Dec.{leb, ltb, eqb}
use lib.ListN.{length, get_or, drop, length-drop, drop_of_length-le}
use lib.Seq.{drop-cons, drop-drop, get_or-drop}
use borrow.Author.Tests.{leb-true, leb-false, ltb-false, eqb-false}
use Rattle.kind.specs.Kind.{kind_of, is_known}
use Rattle.octets.specs.Bytes.{number_at}
use Rattle.sheet_record.specs.Layout.{Layout}
use Rattle.sheet_record.specs.Front.{Fields, Front, bad, front, front_of, fields_of, past, fault_of}
use Rattle.octets.proofs.Numbers.{number_drop}

-- the fields of a record that has a tail of t bytes
abbrev pub fields_at : List ℕ → ℕ → ℕ → Fields
fields_at s at t =
    let n : ℕ = get_or s at 0 in
    record {
      len = n;
      kind = get_or s (at + 1 + n) 0;
      first = number_at 8 s (at + 1 + n + 1);
      second = number_at 8 s (at + 1 + n + 9);
      tail = t;
    }

-- what stands at a place, by tests on places; n is the length of the name
abbrev pub tailed_at : List ℕ → ℕ → ℕ → Option ℕ → Front
tailed_at s at n none = bad 4
tailed_at s at n (some t) = cond (is_known (kind_of (get_or s (at + 1 + n) 0))) (front (fields_at s at t)) (bad 6)

abbrev pub front_at : Layout → List ℕ → ℕ → Front
front_at y s at =
    let n : ℕ = get_or s at 0 in
    cond (leb (length s) at) (bad 4)
    (cond (eqb n 0 || ltb 40 n) (bad 5)
    (cond (ltb (length s - (at + 1)) (n + 17)) (bad 4)
    (tailed_at s at n (y.tail (drop (at + 18 + n) s)))))

module _ (s : List ℕ) (at : ℕ) where
  tailed_at_lem : (o : Option ℕ) → fields_of (get_or s at 0) (drop (at + 1) s) o ≡ tailed_at s at (get_or s at 0) o
  tailed_at_lem none = refl
  tailed_at_lem (some t) =
      let n : ℕ = get_or s at 0 in
      let e : at + 1 + (n + 1) ≡ at + 1 + n + 1 = omega arith in
      let g : at + 1 + (n + 9) ≡ at + 1 + n + 9 = omega arith in
      simp (get_or-drop, number_drop, e, g)

  pub front_at_lem : (y : Layout) → front_of y (drop at s) ≡ front_at y s at
  unfolding front_of
  front_at_lem y = go (leb (length s) at) refl
    where
      go : (b : Bool) → leb (length s) at ≡ b → front_of y (drop at s) ≡ front_at y s at
      go true p = rw (p, drop_of_length-le s (leb-true (length s) at p))
      go false p =
          let l : at < length s = leb-false (length s) at p in
          let n : ℕ = get_or s at 0 in
          let e : at + 1 + (n + 17) ≡ at + 18 + n = omega arith in
          rw (p, drop-cons s at 0 l, ← add-one at) (simp (length-drop, drop-drop, e, tailed_at_lem))

-- a place at which a record stands: its name is as long as its first byte says, it is whole, and its kind is known
pub record Sound (y : Layout) (s : List ℕ) (at : ℕ) (f : Fields) : Type 0 where
  pub is : f ≡ fields_at s at f.tail
  pub len_is : f.len ≡ get_or s at 0
  pub named : 1 ≤ f.len
  pub short : f.len ≤ 40
  pub tailed : y.tail (drop (at + 18 + get_or s at 0) s) ≡ some f.tail
  pub fits : past at f ≤ length s
  pub known : is_known (kind_of f.kind) ≡ true

-- what stands at a place: a number that is not 0, or such a record
pub data View (y : Layout) (s : List ℕ) (at : ℕ) : Front → Type 0 where
  refuses : {k : ℕ} → (k ≡ 0 → ⊥) → View y s at (bad k)
  reads : {f : Fields} → Sound y s at f → View y s at (front f)

pub or_false : (a b : Bool) → a || b ≡ false → (a ≡ false) × (b ≡ false)
or_false true b e = (cc, cc)
or_false false b e = (refl, e)

pub view : (y : Layout) (s : List ℕ) (at : ℕ) → View y s at (front_of y (drop at s))
view y s at = rw front_at_lem (there (leb (length s) at) refl)
  where
    n : ℕ
    n = get_or s at 0

    Whole : Type 0
    Whole = (1 ≤ n) × (n ≤ 40) × (at + 18 + n ≤ length s)

    known : Whole → (t : ℕ) → y.tail (drop (at + 18 + n) s) ≡ some t → (b : Bool) → is_known (kind_of (get_or s (at + 1 + n) 0)) ≡ b
        → View y s at (cond b (front (fields_at s at t)) (bad 6))
    known w t e true p =
        let l = y.inside (drop (at + 18 + n) s) t e in
        reads (record { is = refl; len_is = refl; named = w.0; short = w.1; tailed = e; fits = omega (arith, length-drop (at + 18 + n) s); known = p })
    known w t e false p = refuses (eqb-false 6 0 refl)

    tailed : Whole → (o : Option ℕ) → y.tail (drop (at + 18 + n) s) ≡ o → View y s at (tailed_at s at n o)
    tailed w none e = refuses (eqb-false 4 0 refl)
    tailed w (some t) e = known w t e (is_known (kind_of (get_or s (at + 1 + n) 0))) refl

    cut : at < length s → 1 ≤ n → n ≤ 40 → (b : Bool) → ltb (length s - (at + 1)) (n + 17) ≡ b
        → View y s at (cond b (bad 4) (tailed_at s at n (y.tail (drop (at + 18 + n) s))))
    cut i a m true p = refuses (eqb-false 4 0 refl)
    cut i a m false p =
        let l : n + 17 ≤ length s - (at + 1) = ltb-false (length s - (at + 1)) (n + 17) p in
        tailed (a, m, omega arith) (y.tail (drop (at + 18 + n) s)) refl

    long : at < length s → (b : Bool) → (eqb n 0 || ltb 40 n) ≡ b
        → View y s at (cond b (bad 5) (cond (ltb (length s - (at + 1)) (n + 17)) (bad 4) (tailed_at s at n (y.tail (drop (at + 18 + n) s)))))
    long i true p = refuses (eqb-false 5 0 refl)
    long i false p =
        let o = or_false (eqb n 0) (ltb 40 n) p in
        let z : n ≡ 0 → ⊥ = eqb-false n 0 o.0 in
        cut i (omega arith) (ltb-false 40 n o.1) (ltb (length s - (at + 1)) (n + 17)) refl

    there : (b : Bool) → leb (length s) at ≡ b
        → View y s at (cond b (bad 4) (cond (eqb n 0 || ltb 40 n) (bad 5) (cond (ltb (length s - (at + 1)) (n + 17)) (bad 4) (tailed_at s at n (y.tail (drop (at + 18 + n) s))))))
    there true p = refuses (eqb-false 4 0 refl)
    there false p = long (leb-false (length s) at p) (eqb n 0 || ltb 40 n) refl

-- the record that stands at a place
pub record Stands (y : Layout) (s : List ℕ) (at : ℕ) : Type 0 where
  pub fields : Fields
  pub is : front_of y (drop at s) ≡ front fields
  pub sound : Sound y s at fields

pub stands : (y : Layout) (s : List ℕ) (at : ℕ) → fault_of (front_of y (drop at s)) ≡ 0 → Stands y s at
stands y s at e = go (front_of y (drop at s)) (view y s at) refl e
  where
    go : (t : Front) → View y s at t → front_of y (drop at s) ≡ t → fault_of t ≡ 0 → Stands y s at
    go (bad k) (refuses z) p h = absurd (z h)
    go (front f) (reads w) p h = record { fields = f; is = p; sound = w }
