-- Each record of a sheet that is not refused is whole, and is found by its own name, whatever layouts the versions have.
use mathlib.Core.Bool.{Bool, true, false, cond, not, ◌||◌}
use mathlib.Core.List.Memᴰ
use mathlib.Core.List.{List, [], ◌∷◌, ◌++◌, Memᴰ}
use mathlib.Core.Logic.{◌⊎◌, inl, inr}
use mathlib.Core.Option.{Option, none, some}
use mathlib.Core.Path.{◌≡◌, refl, sym, ap, subst, ◌∙◌}
use Prim.Native.Nat.{ℕ, zero, suc, ◌+◌, ◌≤◌}
use native.Mathlib.Omega.{arith}
use lib.Dec.{ltb, eqb}
use lib.ListN.{length, get_or, drop}
use Rattle.kind.specs.Kind.{kind_of, is_known}
use Rattle.octets.specs.Bytes.{same, number_at}
use Rattle.sheet_search.specs.Find.{find_in}
use Rattle.sheet_record.specs.Layout.{Layout, or_plain}
use Rattle.sheet_record.specs.Front.{Fields, Front, bad, front, front_of, record_at, past, Whole, name_in, values_end}
use Rattle.sheet_head.specs.Head.{is_marked}
use Rattle.sheet.specs.Sheet.{Sheet, refused, records, seen, walk, with_layout, sheet_by}
use Rattle.std.specs.Prelude.{Ok, Err}
use Rattle.sheet_record.specs.declared.Record.{Record}
use Rattle.sheet_record.proofs.Places.{Sound, View, reads, view, or_false}
use Rattle.sheet_name.proofs.Same.{same_refl}

-- what is found stays found where more records follow
still : (s : List ℕ) (rs ts : List Record) (name : List ℕ) (r : Record) → find_in s rs name ≡ Ok r → find_in s (rs ++ ts) name ≡ Ok r
unfolding find_in
still s [] ts name r e = cc
still s (q ∷ rs) ts name r e = go (still s rs ts name r) (same (name_in s q) name) e
  where
    go : (find_in s rs name ≡ Ok r → find_in s (rs ++ ts) name ≡ Ok r) → (b : Bool) → cond b (Ok q) (find_in s rs name) ≡ Ok r
        → cond b (Ok q) (find_in s (rs ++ ts) name) ≡ Ok r
    go ih true h = h
    go ih false h = ih h

-- a name that was not seen is found only in what follows
pub passed : (s : List ℕ) (rs ts : List Record) (name : List ℕ) → seen s rs name ≡ false → find_in s (rs ++ ts) name ≡ find_in s ts name
unfolding find_in
passed s [] ts name e = refl
passed s (q ∷ rs) ts name e =
    let o = or_false (same (name_in s q) name) (seen s rs name) e in
    rw o.0 (passed s rs ts name o.1)

-- a record of a sheet: it lies in the sheet, its name is as long as a name may be, and its kind is known
pub record Fit (y : Layout) (s : List ℕ) (r : Record) : Type 0 where
  pub named : 1 ≤ r.len
  pub short : r.len ≤ 40
  pub inside : Whole y s (values_end r)
  pub known : is_known (kind_of r.kind) ≡ true

-- each of the records is so, and is found by its own name
pub record Located (y : Layout) (s : List ℕ) (rs : List Record) (r : Record) : Type 0 where
  pub fit : Fit y s r
  pub found : find_in s rs (name_in s r) ≡ Ok r

Found : Layout → List ℕ → List Record → Type 0
Found y s rs = (r : Record) → Memᴰ r rs → Located y s rs r

sound_fit : (y : Layout) (s : List ℕ) (at : ℕ) (f : Fields) → Sound y s at f → Fit y s (record_at at f)
sound_fit y s at f w =
    let e : at + 1 + f.len + 17 ≡ at + 18 + get_or s at 0 = omega (arith, w.len_is) in
    record {
      named = w.named;
      short = w.short;
      inside = record { tail = f.tail; tailed = ap (λ (i : ℕ). y.tail (drop i s)) e ∙ w.tailed; fits = omega (arith, w.fits) };
      known = w.known;
    }

alone : (s : List ℕ) (r : Record) → find_in s (r ∷ []) (name_in s r) ≡ Ok r
unfolding find_in
alone s r = ap (λ (b : Bool). cond b (Ok r) (Err 9)) (same_refl (name_in s r))

-- and so with one more, whose name was not seen
grown : (y : Layout) (s : List ℕ) (rs : List Record) (r : Record) → seen s rs (name_in s r) ≡ false → Fit y s r → Found y s rs → Found y s (rs ++ (r ∷ []))
unfolding Found
grown y s rs r e fit g q m = go (Memᴰ.append_cases rs m)
  where
    go : Memᴰ q rs ⊎ Memᴰ q (r ∷ []) → Located y s (rs ++ (r ∷ [])) q
    go (inl k) = record { fit = (g q k).fit; found = still s rs (r ∷ []) (name_in s q) q (g q k).found }
    go (inr k) =
        let p : q ≡ r = Memᴰ.eq_of_singleton k in
        subst (Located y s (rs ++ (r ∷ []))) (sym p) (record { fit = fit; found = passed s rs (r ∷ []) (name_in s r) e ∙ alone s r })

never : {n : ℕ} {rs : List Record} → refused n ≡ records rs → ⊥
never e = let f : ◌≡◌ {A = ℕ} 0 1 = cc in omega arith

walked : (y : Layout) (s : List ℕ) (n at : ℕ) (before rs : List Record) → Found y s before → walk y s n at before ≡ records rs → Found y s rs
unfolding walk
walked y s zero at before rs g e = go (eqb at (length s)) e
  where
    go : (b : Bool) → cond b (records before) (refused 4) ≡ records rs → Found y s rs
    go true h = let p : before ≡ rs = cc in subst (Found y s) p g
    go false h = absurd (never h)
walked y s (suc n) at before rs g e = go (walked y s n) (front_of y (drop at s)) (view y s at) e
  where
    Below : Type 0
    Below = (at' : ℕ) (more ts : List Record) → Found y s more → walk y s n at' more ≡ records ts → Found y s ts

    next : Below → (f : Fields) → Fit y s (record_at at f) → (b : Bool) → seen s before (name_in s (record_at at f)) ≡ b
        → elim b as (λ c. Sheet) [ true ↦ refused 16 | false ↦ walk y s n (past at f) (before ++ (record_at at f ∷ [])) ] ≡ records rs → Found y s rs
    next ih f w true p h = absurd (never h)
    next ih f w false p h = ih (past at f) (before ++ (record_at at f ∷ [])) rs (grown y s before (record_at at f) p w g) h

    go : Below → (t : Front) → View y s at t
        → elim t as (λ c. Sheet) [
          | bad k ↦ refused k
          | front f ↦ elim (seen s before (name_in s (record_at at f))) as (λ c. Sheet) [ true ↦ refused 16 | false ↦ walk y s n (past at f) (before ++ (record_at at f ∷ [])) ]
        ] ≡ records rs
        → Found y s rs
    go ih (bad k) v h = absurd (never h)
    go ih (front f) (reads w) h = next ih f (sound_fit y s at f w) (seen s before (name_in s (record_at at f))) refl h

none_yet : (y : Layout) (s : List ℕ) → Found y s []
unfolding Found
none_yet y s r m = absurd (Memᴰ.not-nil m)

-- each record of a sheet that is not refused is whole and is found by its own name
pub finds : (versions : ℕ → Option Layout) (s : List ℕ) (rs : List Record) (r : Record) → sheet_by versions s ≡ records rs → Memᴰ r rs
    → Located (or_plain (versions (number_at 2 s 3))) s rs r
unfolding sheet_by Found
finds versions s rs r e m = long (ltb 65536 (length s)) e r m
  where
    laid : (y : Option Layout) → with_layout s y ≡ records rs → Found (or_plain y) s rs
    laid none h = absurd (never h)
    laid (some y) h = walked y s (number_at 2 s 5) 7 [] rs (none_yet y s) h

    marked : (b : Bool) → cond b (refused 2) (with_layout s (versions (number_at 2 s 3))) ≡ records rs → Found (or_plain (versions (number_at 2 s 3))) s rs
    marked true h = absurd (never h)
    marked false h = laid (versions (number_at 2 s 3)) h

    long : (b : Bool) → cond b (refused 1) (cond (ltb (length s) 7 || not (is_marked s)) (refused 2) (with_layout s (versions (number_at 2 s 3)))) ≡ records rs
        → Found (or_plain (versions (number_at 2 s 3))) s rs
    long true h = absurd (never h)
    long false h = marked (ltb (length s) 7 || not (is_marked s)) h
