-- The records of an accepted sheet by their numbers, and the number of one that is refused.
use mathlib.Core.List.{List, [], ◌∷◌}
use mathlib.Core.Path.{◌≡◌, refl, sym, ap, ◌∙◌}
use Prim.Native.Nat.{ℕ, zero, suc, ◌≤◌}
use native.Mathlib.Omega.{arith}
use lib.ListN.{length}
use Rattle.std.specs.Prelude.{Ok, Err, Some, slice_get}
use Rattle.refusal.specs.declared.Refusal.{Refusal}
use Rattle.refusal.specs.Numbered.{number_for}
use Rattle.refusal.proofs.Apart.{never_zero}
use Rattle.sheet_record.specs.declared.Record.{Record}
use Rattle.sheet.specs.Sheet.{Sheet, refused, records, sheet_of, records_of, number_of, Accepted}
use Rattle.sheet.proofs.Counted.{accepted_records}
use Rattle.sheet_walk.specs.Records.{record_in, record_by, record_of}

-- a refused sheet gives its number
pub refused_sheet : (s : List ℕ) (i : ℕ) (r : Refusal) → number_for r ≡ number_of (sheet_of s) → record_of s i ≡ Err (number_for r)
refused_sheet s i r e = go (sheet_of s) e
  where
    go : (t : Sheet) → number_for r ≡ number_of t → record_by t i ≡ Err (number_for r)
    go (refused k) h = ap Err (sym h)
    go (records rs) h = let z = never_zero r in absurd (omega arith)

there : (rs : List Record) (i : ℕ) (r : Record) → slice_get rs i ≡ Some r → record_in rs i ≡ Ok r
unfolding record_in
there [] i r e = cc
there (q ∷ rs) zero r e = let p : q ≡ r = cc in ap Ok p
there (q ∷ rs) (suc i) r e = there rs i r e

behind : (rs : List Record) (i : ℕ) → length rs ≤ i → record_in rs i ≡ Err 9
unfolding record_in
behind [] i h = refl
behind (q ∷ rs) zero h = absurd (omega arith)
behind (q ∷ rs) (suc i) h = behind rs i (omega arith)

module _ (s : List ℕ) (a : Accepted s) (i : ℕ) where
  by_number : record_of s i ≡ record_in (records_of (sheet_of s)) i
  by_number = ap (λ (t : Sheet). record_by t i) (accepted_records s a)

  pub numbered : (r : Record) → slice_get (records_of (sheet_of s)) i ≡ Some r → record_of s i ≡ Ok r
  numbered r e = by_number ∙ there (records_of (sheet_of s)) i r e

  pub none_left : length (records_of (sheet_of s)) ≤ i → record_of s i ≡ Err 9
  none_left h = by_number ∙ behind (records_of (sheet_of s)) i h
