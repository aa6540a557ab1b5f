-- A record that stands behind the header of a sheet is kept where the sheet grows.
use mathlib.Core.Bool.{Bool, ◌||◌}
use mathlib.Core.List.Memᴰ
use mathlib.Core.List.{List, [], ◌∷◌, Memᴰ}
use mathlib.Core.Logic.{◌⊎◌, inl, inr}
use mathlib.Core.Option.{some}
use mathlib.Core.Path.{◌≡◌, refl, sym, ap, ap₂, subst, ◌∙◌}
use Prim.Native.Nat.{ℕ, zero, suc, ◌+◌, ◌≤◌, ◌<◌}
use native.Mathlib.Omega.{arith}
use lib.ListN.{length, drop}
use Rattle.octets.specs.Bytes.{part, same}
use Rattle.sheet_record.specs.Layout.{Layout, layout_in}
use Rattle.sheet_record.specs.Front.{Front, bad, front, front_of, record_at, past, name_in, values_end, Whole}
use Rattle.sheet_record.specs.declared.Record.{Record}
use Rattle.sheet.specs.Sheet.{seen}
use Rattle.sheet.proofs.Walk.{records_from, names}
use Rattle.sheet_remark.specs.Remark.{remark_at, remark_in}
use Rattle.append_record.specs.Grown.{grown}
use Rattle.append.specs.Laws.{Kept}
use Rattle.append.proofs.Behind.{behind, parts, layout}

-- each record that is read from a place on stands behind it
pub placed : (y : Layout) (s : List ℕ) (n at : ℕ) (r : Record) → Memᴰ r (records_from y s n at) → at < r.start
unfolding records_from
placed y s zero at r m = absurd (Memᴰ.not-nil m)
placed y s (suc n) at r m = go (placed y s n) (front_of y (drop at s)) m
  where
    go : ((at : ℕ) (r : Record) → Memᴰ r (records_from y s n at) → at < r.start) → (x : Front)
        → Memᴰ r (elim x as (λ z. List Record) [ bad k ↦ [] | front f ↦ record_at at f ∷ records_from y s n (past at f) ]) → at < r.start
    go ih (bad k) p = absurd (Memᴰ.not-nil p)
    go ih (front f) p = cases (Memᴰ.cases_cons p)
      where
        cases : (r ≡ record_at at f) ⊎ Memᴰ r (records_from y s n (past at f)) → at < r.start
        cases (inl q) = omega (arith, ap (λ (x : Record). x.start) q)
        cases (inr q) = omega (arith, ih (past at f) r q)

-- it says what it said
pub kept : (s more : List ℕ) (r : Record) → 7 ≤ length s → 7 < r.start → Whole (layout_in s) s (values_end r) → Kept s (grown s more) r
kept s more r least l w =
    let end : ℕ = values_end r in
    let t : List ℕ = grown s more in
    let e : (layout_in t).tail (drop end t) ≡ some w.tail =
    ap (λ (y : Layout). y.tail (drop end t)) (layout s more least)
    ∙ ap (λ (u : List ℕ). (layout_in s).tail u) (behind s more least end (omega arith) (omega (arith, w.fits)))
    ∙ (layout_in s).stays (drop end s) more w.tail w.tailed in
    let same : remark_in s r ≡ remark_at end (some w.tail) = ap (remark_at end) w.tailed in
    record {
      name = parts s more least r.start r.len (omega arith) (omega (arith, w.fits));
      remark = ap (remark_at end) e ∙ sym same;
      bytes = subst (λ p. part t p.start p.len ≡ part s p.start p.len) (sym same) (go end w.tail (omega arith) w.fits);
    }
  where
    go : (end n : ℕ) → 7 ≤ end → end + n ≤ length s
        → part (grown s more) (remark_at end (some n)).start (remark_at end (some n)).len ≡ part s (remark_at end (some n)).start (remark_at end (some n)).len
    go end zero a b = parts s more least end 0 a (omega arith)
    go end (suc n) a b = parts s more least (end + 1) n (omega arith) (omega arith)

-- names that are kept are the same names, and are seen alike
module _ (s t : List ℕ) where
  pub names_kept : (rs : List Record) → ((r : Record) → Memᴰ r rs → name_in t r ≡ name_in s r) → names t rs ≡ names s rs
  names_kept [] k = refl
  names_kept (r ∷ rs) k = ap₂ (λ (x : List ℕ) (xs : List (List ℕ)). x ∷ xs) (k r (Memᴰ.head refl)) (names_kept rs (λ q m. k q (Memᴰ.tail m)))

  pub seen_kept : (rs : List Record) (name : List ℕ) → ((r : Record) → Memᴰ r rs → name_in t r ≡ name_in s r) → seen t rs name ≡ seen s rs name
  seen_kept [] name k = refl
  seen_kept (r ∷ rs) name k =
      ap₂ (λ (x : List ℕ) (b : Bool). same x name || b) (k r (Memᴰ.head refl)) (seen_kept rs name (λ q m. k q (Memᴰ.tail m)))
