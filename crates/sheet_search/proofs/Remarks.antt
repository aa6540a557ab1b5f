-- Sheets that differ only in remarks have one page.
use mathlib.Core.List.{List, ◌∷◌, ◌++◌}
use mathlib.Core.Option.{Option, none, some}
use mathlib.Core.Path.{◌≡◌, refl, sym, ap, subst, ◌∙◌}
use Prim.Native.Nat.{ℕ, zero, suc, ◌+◌, ◌≤◌}
use lib.ListN.{length}
use Rattle.octets.specs.Bytes.{number_at}
use Rattle.sheet_record.specs.Layout.{remark_tail, remark_layout}
use Rattle.sheet_record.proofs.Tails.{layout_two, whole_remark}
use Rattle.sheet_head.specs.Head.{head_fault}
use Rattle.sheet.specs.Sheet.{sheet_of}
use Rattle.sheet_search.specs.Remarks.{Alike, same, cut, more, DifferInRemarks}
use Rattle.sheet.proofs.Entries.{Entries, entries_from}
use Rattle.sheet.proofs.Heads.{in_front, behind_tail, entries_head, entries_past, left_over}
use Rattle.sheet_search.proofs.Pages.{page_of, page_by, page_behind}

-- a record with its remark, and with its remark cut short: what it says, and what is said behind it
module _ (m n : ℕ) (body : List ℕ) (whole : length body ≡ n + 17) where
  passed : (a u : List ℕ) → entries_from remark_layout (suc m) (n ∷ (body ++ (length a ∷ (a ++ u)))) ≡ in_front n body (some (entries_from remark_layout m u))
  passed a u = entries_past remark_layout m n body (length a ∷ a) u whole (whole_remark a u)

  cut_short : (a : List ℕ) → remark_tail a ≡ none → entries_from remark_layout (suc m) (n ∷ (body ++ a)) ≡ in_front n body none
  cut_short a e = entries_head remark_layout n body a whole m ∙ ap (λ (o : Option ℕ). in_front n body (behind_tail remark_layout m a o)) e

alike_entries : (m : ℕ) {u v : List ℕ} → Alike u v → entries_from remark_layout m u ≡ entries_from remark_layout m v
alike_entries m (same u) = refl
alike_entries zero (cut n body a b l p q) = left_over remark_layout n (body ++ a) ∙ sym (left_over remark_layout n (body ++ b))
alike_entries (suc m) (cut n body a b l p q) = cut_short m n body l a p ∙ sym (cut_short m n body l b q)
alike_entries zero (more {left} {right} n body a b l h) =
    left_over remark_layout n (body ++ (length a ∷ (a ++ left))) ∙ sym (left_over remark_layout n (body ++ (length b ∷ (b ++ right))))
alike_entries (suc m) (more {left} {right} n body a b l h) =
    passed m n body l a left ∙ ap (λ (es : Entries). in_front n body (some es)) (alike_entries m h) ∙ sym (passed m n body l b right)

module _ (s t : List ℕ) (d : DifferInRemarks s t) where
  -- a sheet by the header and the records that either has
  by_header : (x u : List ℕ) → x ≡ d.header ++ u → length x ≤ 65536
      → page_of x (sheet_of x) ≡ page_by (head_fault d.header) (entries_from remark_layout (number_at 2 d.header 5) u)
  by_header x u e m =
      ap (λ (z : List ℕ). page_of z (sheet_of z)) e
      ∙ page_behind d.header u d.seven (subst (λ (z : List ℕ). length z ≤ 65536) e m)
      ∙ rw (layout_two d.header d.version)

  pub remarks_page : page_of s (sheet_of s) ≡ page_of t (sheet_of t)
  remarks_page =
      by_header s d.left d.first d.first_most
      ∙ ap (page_by (head_fault d.header)) (alike_entries (number_at 2 d.header 5) d.alike)
      ∙ sym (by_header t d.right d.second d.second_most)
