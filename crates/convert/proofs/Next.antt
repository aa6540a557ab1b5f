-- Of a record in an accepted sheet: what an empty remark, its own remark and the header's count are. For any layout.
use mathlib.Core.Bool.{Bool, true, false, cond}
use mathlib.Core.List.{List, [], ◌∷◌}
use mathlib.Core.Option.{Option}
use mathlib.Core.Path.{◌≡◌, ap, ◌∙◌}
use Prim.Native.Nat.{ℕ, ◌+◌, ◌-◌, ◌≤◌}
use native.Mathlib.Omega.{arith}
use lib.Dec.{eqb}
use lib.ListN.{length, get_or, take, drop}
use lib.Seq.{drop-cons}
use Rattle.octets.specs.Bytes.{part}
use Rattle.sheet_record.specs.Layout.{layout_in}
use Rattle.sheet_record.specs.Front.{Fields, record_at, values_end}
use Rattle.sheet_record.proofs.Places.{Sound}
use Rattle.sheet_remark.specs.Remark.{remark_at, remark_in}
use Rattle.convert_records.specs.Records.{empty_remark}
use Rattle.convert_records.proofs.Turns.{remark_len}

-- an empty remark has at most a byte
pub empty_most : (w : ℕ) → length (empty_remark w) ≤ 1
empty_most w = go (eqb w 2)
  where
    go : (b : Bool) → length {A = ℕ} (cond b (0 ∷ []) []) ≤ 1
    go true = omega arith
    go false = omega arith

-- a record's remark is what follows its values, but for the length byte
pub remark_length : (s : List ℕ) (at : ℕ) (f : Fields) → Sound (layout_in s) s at f → (remark_in s (record_at at f)).len ≡ f.tail - 1
remark_length s at f w =
    let e : at + 1 + f.len + 17 ≡ at + 18 + get_or s at 0 = omega (arith, w.len_is) in
    ap (λ (o : Option ℕ). (remark_at (values_end (record_at at f)) o).len) (ap (λ (i : ℕ). (layout_in s).tail (drop i s)) e ∙ w.tailed) ∙ remark_len (values_end (record_at at f)) f.tail

-- the two bytes of the count
pub count_bytes : (s : List ℕ) → 7 ≤ length s → part s 5 2 ≡ get_or s 5 0 ∷ (get_or s 6 0 ∷ [])
count_bytes s h = ap (take 2) (drop-cons s 5 0 (omega arith) ∙ ap (λ (x : List ℕ). get_or s 5 0 ∷ x) (drop-cons s 6 0 (omega arith)))
