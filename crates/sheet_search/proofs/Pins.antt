-- Sheets that differ only in a remark: a pair that is read, one that is refused, one whose remarks are cut short.
use mathlib.Core.List.{List, [], ◌∷◌}
use mathlib.Core.Path.{◌≡◌, refl}
use Prim.Native.Nat.{ℕ, ◌≤◌}
use native.Mathlib.Omega.{arith}
use lib.ListN.{length}
use Rattle.octets.specs.Bytes.{number_at, after}
use Rattle.sheet_record.specs.Front.{front_of}
use Rattle.sheet.specs.Sheet.{walk, sheet_by, sheet_of, number_of}
use Rattle.sheet.proofs.Computed.{sheet_with, record_with}
use Rattle.sheet_search.specs.Remarks.{Alike, same, cut, more, DifferInRemarks}

-- the bytes of a record of kind k behind its length byte, up to its second value
abbrev body : ℕ → List ℕ
body k = 97 ∷ k ∷ 0 ∷ 0 ∷ 0 ∷ 0 ∷ 0 ∷ 0 ∷ 0 ∷ 5 ∷ 0 ∷ 0 ∷ 0 ∷ 0 ∷ 0 ∷ 0 ∷ 0 ∷ 6 ∷ []

differ : (left right : List ℕ) → Alike left right → length left ≤ 100 → length right ≤ 100 → DifferInRemarks (sheet_with 2 1 left) (sheet_with 2 1 right)
unfolding number_at after
differ left right alike l r =
    record {
      header = 69 ∷ 65 ∷ 83 ∷ 0 ∷ 2 ∷ 0 ∷ 1 ∷ [];
      left = left;
      right = right;
      seven = refl;
      version = refl;
      first = refl;
      second = refl;
      alike = alike;
      first_most = omega (arith, l);
      second_most = omega (arith, r);
    }

-- two sheets that differ in remarks, and the number of both
pub record Pair (s t : List ℕ) (number : ℕ) : Type 0 where
  pub differs : DifferInRemarks s t
  pub first : number_of (sheet_of s) ≡ number
  pub second : number_of (sheet_of t) ≡ number

pub read_pair : Pair (sheet_with 2 1 (record_with 97 1 (2 ∷ 120 ∷ 121 ∷ []))) (sheet_with 2 1 (record_with 97 1 (0 ∷ []))) 0
unfolding sheet_by walk front_of number_at after
read_pair = record { differs = differ _ _ (more 1 (body 1) (120 ∷ 121 ∷ []) [] refl (same [])) (omega arith) (omega arith); first = refl; second = refl }

-- kind 9 is none
pub refused_pair : Pair (sheet_with 2 1 (record_with 97 9 (2 ∷ 120 ∷ 121 ∷ []))) (sheet_with 2 1 (record_with 97 9 (0 ∷ []))) 6
unfolding sheet_by walk front_of number_at after
refused_pair = record { differs = differ _ _ (more 1 (body 9) (120 ∷ 121 ∷ []) [] refl (same [])) (omega arith) (omega arith); first = refl; second = refl }

pub cut_pair : Pair (sheet_with 2 1 (record_with 97 1 (2 ∷ 120 ∷ []))) (sheet_with 2 1 (record_with 97 1 [])) 4
unfolding sheet_by walk front_of number_at after
cut_pair = record { differs = differ _ _ (cut 1 (body 1) (2 ∷ 120 ∷ []) [] refl refl refl) (omega arith) (omega arith); first = refl; second = refl }
