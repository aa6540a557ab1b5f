-- What a sheet's index finds by a name is what the search finds.
use mathlib.Core.Bool.{true, or-true}
use mathlib.Core.List.{List, [], ◌∷◌, Memᴰ, append-nil}
use mathlib.Core.Path.{◌≡◌, refl, sym, ap, ◌∙◌}
use Prim.Native.Nat.{ℕ, zero, suc}
use Rattle.std.specs.Prelude.{Option, Some, None, is_some, Ok, Err, slice_get}
use Rattle.octets.specs.Bytes.{same}
use Rattle.sheet_name.proofs.Same.{same_refl}
use Rattle.sheet_record.specs.Layout.{layout_of}
use Rattle.sheet_record.specs.Front.{name_in}
use Rattle.sheet_record.specs.declared.Record.{Record}
use Rattle.sheet.specs.Index.{Named}
use Rattle.sheet.specs.Sheet.{Sheet, sheet_of, records_of, seen, Accepted}
use Rattle.sheet.proofs.Counted.{accepted_records}
use Rattle.sheet_search.specs.Find.{find_in, find_by, find_of}
use Rattle.sheet_search.proofs.Locate.{passed, finds}

among : (rs : List Record) (i : ℕ) (r : Record) → slice_get rs i ≡ Some r → Memᴰ r rs
among [] i r e = cc
among (q ∷ rs) zero r e = let p : q ≡ r = cc in Memᴰ.head (sym p)
among (q ∷ rs) (suc i) r e = Memᴰ.tail (among rs i r e)

module _ (s name : List ℕ) (a : Accepted s) where
  find_is : find_of s name ≡ find_in s (records_of (sheet_of s)) name
  find_is = ap (λ (t : Sheet). find_by t s name) (accepted_records s a)

  -- a record that has the name is the one that is found
  pub named : (i : ℕ) (r : Record) → Named s (records_of (sheet_of s)) name (Some i) → slice_get (records_of (sheet_of s)) i ≡ Some r → find_of s name ≡ Ok r
  named i r w e =
      let p : w.0 ≡ r = cc in
      let n : name_in s r ≡ name = rw (← p) w.2 in
      find_is ∙ rw (← n) (finds layout_of s (records_of (sheet_of s)) r (accepted_records s a) (among _ i r e)).found

  none_there : find_in s [] name ≡ Err 9
  unfolding find_in
  none_there = refl

  pub unnamed : Named s (records_of (sheet_of s)) name None → find_of s name ≡ Err 9
  unnamed e =
      find_is ∙ ap (λ (l : List Record). find_in s l name) (sym (append-nil (records_of (sheet_of s)))) ∙ passed s (records_of (sheet_of s)) [] name e ∙ none_there

seen_at : (s : List ℕ) (rs : List Record) (i : ℕ) (r : Record) → slice_get rs i ≡ Some r → seen s rs (name_in s r) ≡ true
seen_at s [] i r e = cc
seen_at s (q ∷ rs) zero r e = let p : q ≡ r = cc in rw (p, same_refl (name_in s r))
seen_at s (q ∷ rs) (suc i) r e = rw (seen_at s rs i r e) (or-true (same (name_in s q) (name_in s r)))

pub named_seen : (s : List ℕ) (rs : List Record) (name : List ℕ) (o : Option ℕ) → Named s rs name o → is_some o ≡ seen s rs name
named_seen s rs name None e = sym e
named_seen s rs name (Some i) w = sym (rw w.2 at (seen_at s rs i w.0 w.1))
