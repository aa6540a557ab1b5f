-- The records of an accepted sheet from a place on: the next one, and those behind it. For any layout.
use mathlib.Core.Bool.{true}
use mathlib.Core.List.{List, ◌∷◌}
use mathlib.Core.Path.{◌≡◌, refl, sym, ap, ◌∙◌}
use Prim.Native.Nat.{ℕ, zero, suc, ◌+◌, ◌-◌, ◌≤◌, ◌<◌}
use native.Mathlib.Numerals.{add-one}
use native.Mathlib.Omega.{arith}
use lib.ListN.{length, get_or, take, drop}
use lib.Seq.{drop-cons}
use Rattle.octets.specs.Bytes.{number_at, part}
use Rattle.sheet_record.specs.Layout.{Layout, layout_in}
use Rattle.sheet_record.specs.Front.{Fields, Front, bad, front, front_of, record_at, past, behind, stands_at}
use Rattle.sheet_record.proofs.Places.{Sound, View, refuses, reads, view}
use Rattle.sheet.specs.Sheet.{sheet_of, Accepted, records_of}
use Rattle.sheet.specs.Structure.{fault_from}
use Rattle.sheet.proofs.Accept.{headed, accepted_head, accepted_fault, accepted_is}
use Rattle.sheet.proofs.Walk.{records_from}
use Rattle.convert_records.specs.Records.{record_bytes}

-- the record at a place where some are left, and nothing ends their reading
pub record Next (y : Layout) (s : List ℕ) (at left : ℕ) : Type 0 where
  pub fields : Fields
  pub sound : Sound y s at fields
  pub stands : stands_at y s at left ≡ true
  pub behind_is : behind at (front_of y (drop at s)) ≡ past at fields
  pub records : records_from y s left at ≡ record_at at fields ∷ records_from y s (left - 1) (past at fields)
  pub fault : fault_from y s (left - 1) (past at fields) ≡ 0

pub next : (y : Layout) (s : List ℕ) (at left : ℕ) → 0 < left → fault_from y s left at ≡ 0 → Next y s at left
unfolding fault_from records_from stands_at
next y s at zero l e = absurd (omega arith)
next y s at (suc n) l e = go (front_of y (drop at s)) (view y s at) refl e
  where
    less : n ≡ suc n - 1
    less = omega arith

    go : (t : Front) → View y s at t → front_of y (drop at s) ≡ t → ◌≡◌ {A = ℕ} (elim t as (λ x. ℕ) [ bad k ↦ k | front f ↦ fault_from y s n (past at f) ]) 0 → Next y s at (suc n)
    go (bad k) (refuses z) p h = absurd (z h)
    go (front f) (reads w) p h =
        record {
          fields = f;
          sound = w;
          stands = rw (stands_at, p);
          behind_is = ap (behind at) p;
          records = rw (records_from, p) (ap (λ (m : ℕ). record_at at f ∷ records_from y s m (past at f)) less);
          fault = ap (λ (m : ℕ). fault_from y s m (past at f)) (sym less) ∙ h;
        }

-- it lies in the sheet up to its second value, and its bytes are the record's
module _ (y : Layout) (s : List ℕ) (at : ℕ) (f : Fields) (w : Sound y s at f) where
  pub values_inside : at + 18 + get_or s at 0 ≤ length s
  values_inside = omega (arith, w.fits, w.len_is)

  pub bytes_are : part s at (18 + get_or s at 0) ≡ record_bytes s (record_at at f)
  bytes_are =
      let l : at < length s = omega (arith, w.fits) in
      let m : 18 + get_or s at 0 ≡ suc (f.len + 17) = omega (arith, w.len_is) in
      rw (m, drop-cons s at 0 l, ← add-one at) (ap (λ (b : ℕ). b ∷ take (f.len + 17) (drop (at + 1) s)) (sym w.len_is))

-- the records of an accepted sheet are those from its header on, and nothing ends their reading
pub record Reading (s : List ℕ) (count : ℕ) : Type 0 where
  pub least : 7 ≤ length s
  pub fault : fault_from (layout_in s) s count 7 ≡ 0
  pub records_are : records_of (sheet_of s) ≡ records_from (layout_in s) s count 7

pub reading : (s : List ℕ) (count : ℕ) → Accepted s → count ≡ number_at 2 s 5 → Reading s count
reading s count a e =
    record {
      least = (headed s (accepted_head s a)).least;
      fault = ap (λ (n : ℕ). fault_from (layout_in s) s n 7) e ∙ accepted_fault s a;
      records_are = ap records_of (accepted_is s a) ∙ ap (λ (n : ℕ). records_from (layout_in s) s n 7) (sym e);
    }
