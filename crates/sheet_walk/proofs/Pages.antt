-- A record by its number follows from the sheet's page, and lies in the sheet.
use mathlib.Core.List.{List, [], ◌∷◌, Memᴰ}
use mathlib.Core.Path.{◌≡◌, refl, sym, ap, ◌∙◌}
use Prim.Native.Nat.{ℕ, zero, suc}
use native.Mathlib.Omega.{arith}
use Rattle.std.specs.Prelude.{Ok, Err}
use Rattle.octets.specs.Bytes.{number_at}
use Rattle.sheet_record.specs.Layout.{layout_of, layout_in, or_plain}
use Rattle.sheet_record.specs.declared.Record.{Record}
use Rattle.sheet.specs.Sheet.{Sheet, refused, records, sheet_of}
use Rattle.sheet.proofs.Entries.{Entry, said}
use Rattle.sheet_search.specs.Find.{Lookup, Inside}
use Rattle.sheet_search.proofs.Pages.{Page, without, with, page_of, Reply, missed, found, reply_of}
use Rattle.sheet_search.proofs.Locate.{Fit, finds}
use Rattle.sheet_walk.specs.Records.{record_in, record_by, record_of}

abbrev record_among : List Entry → ℕ → Reply
record_among [] i = missed 9
record_among (e ∷ es) zero = found e
record_among (e ∷ es) (suc i) = record_among es i

abbrev record_on : Page → ℕ → Reply
record_on (without k) i = missed k
record_on (with es) i = record_among es i

record_among_lem : (s : List ℕ) (rs : List Record) (i : ℕ) → reply_of s (record_in rs i) ≡ record_among (said s rs) i
unfolding record_in
record_among_lem s [] i = refl
record_among_lem s (r ∷ rs) zero = refl
record_among_lem s (r ∷ rs) (suc i) = record_among_lem s rs i

record_page : (s : List ℕ) (t : Sheet) (i : ℕ) → reply_of s (record_by t i) ≡ record_on (page_of s t) i
record_page s (refused k) i = refl
record_page s (records rs) i = record_among_lem s rs i

-- two sheets with one page
pub same_record : (s t : List ℕ) → page_of s (sheet_of s) ≡ page_of t (sheet_of t) → (i : ℕ) → reply_of s (record_of s i) ≡ reply_of t (record_of t i)
same_record s t e i = record_page s (sheet_of s) i ∙ ap (λ (p : Page). record_on p i) e ∙ sym (record_page t (sheet_of t) i)

-- a record that has a number is one of the sheet's
among : (rs : List Record) (i : ℕ) {r : Record} → record_in rs i ≡ Ok r → Memᴰ r rs
unfolding record_in
among [] i e = cc
among (q ∷ rs) zero {r} e = let p : r ≡ q = cc in Memᴰ.head p
among (q ∷ rs) (suc i) e = Memᴰ.tail (among rs i e)

pub numbered_fit : (s : List ℕ) (i : ℕ) {r : Record} → record_of s i ≡ Ok r → Fit (layout_in s) s r
unfolding layout_in
numbered_fit s i {r} e = go (sheet_of s) refl e
  where
    go : (t : Sheet) → sheet_of s ≡ t → record_by t i ≡ Ok r → Fit (or_plain (layout_of (number_at 2 s 3))) s r
    go (refused n) p h = let f : ◌≡◌ {A = ℕ} 0 1 = cc in absurd (omega arith)
    go (records rs) p h = (finds layout_of s rs r p (among rs i h)).fit

pub numbered_inside : (s : List ℕ) (i : ℕ) → Inside s (record_of s i)
numbered_inside s i = go (record_of s i) refl
  where
    go : (f : Lookup) → record_of s i ≡ f → Inside s f
    go (Err n) e = tt
    go (Ok r) e = (numbered_fit s i e).inside
