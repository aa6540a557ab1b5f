-- A sheet of one version beside the same in another: both have one page, and each gives the other.
use mathlib.Core.Bool.{Bool, true, false, cond, not, ◌&&◌, ◌||◌}
use mathlib.Core.List.{List, [], ◌∷◌, ◌++◌}
use mathlib.Core.Path.{◌≡◌, refl, sym, ap, ap₂, ◌∙◌, subst}
use Prim.Native.Nat.{ℕ, suc, ◌+◌, ◌*◌, ◌≤◌, ◌<◌}
use native.Mathlib.Omega.{arith}
use borrow.Author.Tests.{eqb-true}
use lib.Dec.{eqb, ltb}
use lib.ListN.{length, get_or, drop}
use lib.Seq.{drop-cons}
use Rattle.octets.specs.Bytes.{number_at, after}
use Rattle.sheet_record.specs.Layout.{layout_in, layout_of, or_plain}
use Rattle.sheet_record.proofs.Tails.{version_is}
use Rattle.sheet_head.specs.Head.{is_marked, version_fault, head_fault}
use Rattle.sheet_head.proofs.Head.{mark_bytes}
use Rattle.sheet.specs.Sheet.{sheet_of, number_of, Accepted, records_of}
use Rattle.sheet.proofs.Accept.{headed, accepted_head}
use Rattle.sheet.proofs.Entries.{entries_from}
use Rattle.sheet_version.specs.Version.{sheet_in}
use Rattle.sheet_version.proofs.Version.{in_same, in_version_lem}
use Rattle.sheet_search.proofs.Pages.{page_of, page_by, page_behind, page_number, number_page}
use Rattle.convert_records.specs.Records.{records_as, header_as, sheet_as, bare}
use Rattle.convert_records.proofs.Next.{reading}
use Rattle.convert.proofs.Next.{count_bytes}
use Rattle.convert.proofs.Paired.{Version, one, two, layout, Paired, and_true, pair, pair_entries, Returned, returned}

-- the seven bytes of a header, and the count that its last two write
abbrev pub header : ℕ → ℕ → ℕ → List ℕ
header v high low = 69 ∷ (65 ∷ (83 ∷ (0 ∷ (v ∷ (high ∷ (low ∷ []))))))

abbrev pub count : ℕ → ℕ → ℕ
count high low = after 0 (high ∷ (low ∷ []))

header_fault : {v : ℕ} → Version v → (high low : ℕ) → head_fault (header v high low) ≡ 0
unfolding head_fault number_at after
header_fault one high low = refl
header_fault two high low = refl

header_layout : {v : ℕ} → Version v → (high low : ℕ) → layout_in (header v high low) ≡ layout v
unfolding layout_in number_at after
header_layout one high low = refl
header_layout two high low = refl

header_count : (v high low : ℕ) (u : List ℕ) → number_at 2 (header v high low ++ u) 5 ≡ count high low
unfolding number_at
header_count v high low u = refl

header_version : {v : ℕ} → Version v → (high low : ℕ) (u : List ℕ) → number_at 2 (header v high low ++ u) 3 ≡ v
unfolding number_at after
header_version one high low u = refl
header_version two high low u = refl

-- the page of a sheet by its header
page_of_lem : {v : ℕ} → Version v → (high low : ℕ) (u : List ℕ) → length (header v high low ++ u) ≤ 65536
    → page_of (header v high low ++ u) (sheet_of (header v high low ++ u)) ≡ page_by 0 (entries_from (layout v) (count high low) u)
page_of_lem {v} k high low u m =
    page_behind (header v high low) u refl m
    ∙ rw (header_fault k high low, header_layout k high low, header_count v high low [])

-- an accepted sheet of a version begins with that header
head_marked : (s : List ℕ) → head_fault s ≡ 0 → is_marked s ≡ true
unfolding head_fault
head_marked s h = go (ltb 65536 (length s)) (ltb (length s) 7) (is_marked s) h
  where
    go : (a b m : Bool) → cond a 1 (cond (b || not m) 2 (version_fault (layout_of (number_at 2 s 3)))) ≡ 0 → m ≡ true
    go true b m e = absurd (omega arith)
    go false true m e = absurd (omega arith)
    go false false false e = absurd (omega arith)
    go false false true e = refl

seven : (s : List ℕ) → 7 ≤ length s
    → s ≡ get_or s 0 0 ∷ (get_or s 1 0 ∷ (get_or s 2 0 ∷ (get_or s 3 0 ∷ (get_or s 4 0 ∷ (get_or s 5 0 ∷ (get_or s 6 0 ∷ drop 7 s))))))
seven s h = byte 0 (omega arith) (byte 1 (omega arith) (byte 2 (omega arith) (byte 3 (omega arith) (byte 4 (omega arith) (byte 5 (omega arith) (byte 6 (omega arith) refl))))))
  where
    byte : (n : ℕ) → n < length s → {x : List ℕ} → drop (suc n) s ≡ x → drop n s ≡ get_or s n 0 ∷ x
    byte n l e = drop-cons s n 0 l ∙ ap (λ (z : List ℕ). get_or s n 0 ∷ z) e

small : {v : ℕ} → Version v → (d e : ℕ) → d * 256 + e ≡ v → (d ≡ 0) × (e ≡ v)
small one d e h = (omega arith, omega arith)
small two d e h = (omega arith, omega arith)

pub own_header : {v : ℕ} → Version v → (s : List ℕ) → Accepted s → number_at 2 s 3 ≡ v → s ≡ header v (get_or s 5 0) (get_or s 6 0) ++ drop 7 s
own_header {v} k s a e =
    let h = accepted_head s a in
    let l : 7 ≤ length s = (headed s h).least in
    let m : eqb (get_or s 0 0) 69 && (eqb (get_or s 1 0) 65 && (eqb (get_or s 2 0) 83 && true)) ≡ true = sym (mark_bytes s l) ∙ head_marked s h in
    let x = and_true (eqb (get_or s 0 0) 69) (eqb (get_or s 1 0) 65 && (eqb (get_or s 2 0) 83 && true)) m in
    let y = and_true (eqb (get_or s 1 0) 65) (eqb (get_or s 2 0) 83 && true) x.1 in
    let z = and_true (eqb (get_or s 2 0) 83) true y.1 in
    let w = small k (get_or s 3 0) (get_or s 4 0) (sym (version_is s (omega arith)) ∙ e) in
    let pa : get_or s 0 0 ≡ 69 = eqb-true (get_or s 0 0) 69 x.0 in
    let pb : get_or s 1 0 ≡ 65 = eqb-true (get_or s 1 0) 65 y.0 in
    let pc : get_or s 2 0 ≡ 83 = eqb-true (get_or s 2 0) 83 z.0 in
    let pd : get_or s 3 0 ≡ 0 = w.0 in
    let pe : get_or s 4 0 ≡ v = w.1 in
    let f = seven s l in
    cc

-- an accepted sheet s of version v without a remark, and what it is in version w
module _ {v w : ℕ} (k : Version v) (j : Version w) (s : List ℕ) (a : number_of (sheet_in v s) ≡ 0) (b : bare s (records_of (sheet_of s)) ≡ true) where
  accepted : Accepted s
  accepted = (in_version_lem v s a).1

  version : number_at 2 s 3 ≡ v
  version = (in_version_lem v s a).0

  from_is : s ≡ header v (get_or s 5 0) (get_or s 6 0) ++ drop 7 s
  from_is = own_header k s accepted version

  pub count_is : number_at 2 s 5 ≡ count (get_or s 5 0) (get_or s 6 0)
  count_is = ap (λ (x : List ℕ). number_at 2 x 5) from_is ∙ header_count v (get_or s 5 0) (get_or s 6 0) (drop 7 s)

  to_is : sheet_as w s (records_of (sheet_of s)) ≡ header w (get_or s 5 0) (get_or s 6 0) ++ records_as w s (records_of (sheet_of s))
  to_is =
      ap (λ (x : List ℕ). 69 ∷ (65 ∷ (83 ∷ (0 ∷ (w ∷ (x ++ records_as w s (records_of (sheet_of s))))))))
      (count_bytes s (headed s (accepted_head s accepted)).least)

  layout_is : layout_in s ≡ layout v
  unfolding layout_in
  layout_is = ap (λ (n : ℕ). or_plain (layout_of n)) version

  pub sheets_paired : Paired v w (count (get_or s 5 0) (get_or s 6 0)) (drop 7 s) (records_as w s (records_of (sheet_of s)))
  sheets_paired =
      let r = reading s (count (get_or s 5 0) (get_or s 6 0)) accepted (sym count_is) in
      rw r.records_are (pair k s layout_is (count (get_or s 5 0) (get_or s 6 0)) 7 r.fault (ap (bare s) (sym r.records_are) ∙ b))

  pub from_length : length s ≡ 7 + length (drop 7 s)
  from_length = omega (arith, ap length from_is)

  pub to_length : length (sheet_as w s (records_of (sheet_of s))) ≡ 7 + length (records_as w s (records_of (sheet_of s)))
  to_length = omega (arith, ap length to_is)

  -- where that is no longer than a sheet may be
  module _ (most : length (sheet_as w s (records_of (sheet_of s))) ≤ 65536) where
    pub same_page : page_of s (sheet_of s) ≡ page_of (sheet_as w s (records_of (sheet_of s))) (sheet_of (sheet_as w s (records_of (sheet_of s))))
    same_page =
        ap (λ (x : List ℕ). page_of x (sheet_of x)) from_is
        ∙ page_of_lem k (get_or s 5 0) (get_or s 6 0) (drop 7 s) (subst (λ (x : List ℕ). length x ≤ 65536) from_is (headed s (accepted_head s accepted)).most)
        ∙ ap (page_by 0) (pair_entries k j sheets_paired)
        ∙ sym (page_of_lem j (get_or s 5 0) (get_or s 6 0) (records_as w s (records_of (sheet_of s))) (subst (λ (x : List ℕ). length x ≤ 65536) to_is most))
        ∙ sym (ap (λ (x : List ℕ). page_of x (sheet_of x)) to_is)

    to_version : number_at 2 (sheet_as w s (records_of (sheet_of s))) 3 ≡ w
    to_version = ap (λ (x : List ℕ). number_at 2 x 3) to_is ∙ header_version j (get_or s 5 0) (get_or s 6 0) (records_as w s (records_of (sheet_of s)))

    to_accepted : Accepted (sheet_as w s (records_of (sheet_of s)))
    to_accepted = number_page (sheet_as w s (records_of (sheet_of s))) (sheet_of (sheet_as w s (records_of (sheet_of s)))) ∙ ap page_number (sym same_page) ∙ sym (number_page s (sheet_of s)) ∙ accepted

    pub to_number : number_of (sheet_in w (sheet_as w s (records_of (sheet_of s)))) ≡ 0
    to_number = ap number_of (in_same w (sheet_as w s (records_of (sheet_of s))) to_version) ∙ to_accepted

    to_layout : layout_in (sheet_as w s (records_of (sheet_of s))) ≡ layout w
    unfolding layout_in
    to_layout = ap (λ (n : ℕ). or_plain (layout_of n)) to_version

    to_count : number_at 2 (sheet_as w s (records_of (sheet_of s))) 5 ≡ count (get_or s 5 0) (get_or s 6 0)
    to_count = ap (λ (x : List ℕ). number_at 2 x 5) to_is ∙ header_count w (get_or s 5 0) (get_or s 6 0) (records_as w s (records_of (sheet_of s)))

    to_returned : Returned v (sheet_as w s (records_of (sheet_of s))) (records_of (sheet_of (sheet_as w s (records_of (sheet_of s))))) (drop 7 s)
    to_returned =
        let t : List ℕ = sheet_as w s (records_of (sheet_of s)) in
        let r = reading t (count (get_or s 5 0) (get_or s 6 0)) to_accepted (sym to_count) in
        rw r.records_are (returned j t to_layout 7 sheets_paired (ap (drop 7) to_is) r.fault)

    pub to_bare : bare (sheet_as w s (records_of (sheet_of s))) (records_of (sheet_of (sheet_as w s (records_of (sheet_of s))))) ≡ true
    to_bare = to_returned.bare

    pub to_back : sheet_as v (sheet_as w s (records_of (sheet_of s))) (records_of (sheet_of (sheet_as w s (records_of (sheet_of s))))) ≡ s
    to_back = ap₂ (λ (x y : List ℕ). header_as v x ++ y) to_is to_returned.same ∙ sym from_is
