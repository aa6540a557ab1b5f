-- A walk begun after an add covers the records that were there, by the same lines, and the new one.
use mathlib.Core.List.Memᴰ
use mathlib.Core.List.{List, [], ◌∷◌, ◌++◌, append_assoc, Memᴰ}
use mathlib.Core.Logic.{◌⊎◌, inl, inr}
use mathlib.Core.Path.{◌≡◌, refl, sym, ap, ap₂, subst, ◌∙◌}
use Prim.Native.Nat.{ℕ, suc, ◌≤◌}
use native.Mathlib.Omega.{arith}
use lib.ListN.{length, length-append}
use Rattle.octets.specs.Room.{Text, text}
use Rattle.name.specs.Spelling.{spelled}
use Rattle.air.specs.Choices.{Choices}
use Rattle.state.specs.State.{answer_by}
use Rattle.sheet_record.specs.declared.Record.{Record}
use Rattle.sheet.specs.Sheet.{records, sheet_of}
use Rattle.sheet_version.proofs.Version.{read_of}
use Rattle.append.proofs.Grown.{add_appends}
use Rattle.line.specs.Line.{line_of}
use Rattle.walk.specs.Walk.{begun_by, line_of_record}
use Rattle.walk.specs.Laws.{printed, lines_of, steps, LaterCovers}
use Rattle.walk.proofs.Undisturbed.{line_kept, with_records}
use Rattle.walk.proofs.Covers.{walk_covers}

-- lines of records that are kept, and then one more
lines_more : (c : Choices) (s t : List ℕ) (rs : List Record) (r : Record) → ((q : Record) → Memᴰ q rs → line_of_record c t q ≡ line_of_record c s q)
    → lines_of c t (rs ++ (r ∷ [])) ≡ lines_of c s rs ++ (text (line_of_record c t r) ∷ [])
lines_more c s t [] r k = refl
lines_more c s t (q ∷ rs) r k =
    ap₂ (λ (x : List ℕ) (l : List Text). text x ∷ l) (k q (Memᴰ.head refl)) (lines_more c s t rs r (λ p m. k p (Memᴰ.tail m)))

with_text : (a b : List ℕ) → text a ≡ text b → a ≡ b
with_text a b e = cc

pub later_covers : LaterCovers
later_covers c s t spelling name rs kind first second room again reads n f64 s64 e fit new-fits =
    let a = add_appends s t spelling kind first second room e in
    let g = a.grown in
    let line : List ℕ = line_of (spelled name) (answer_by c kind first second) in
    let all : List Record = rs ++ (g.new ∷ []) in
    let old : g.old ≡ rs = with_records g.old rs (sym (read_of 2 s g.read_old) ∙ reads) in
    let whole : sheet_of t ≡ records all = read_of 2 t g.read_new ∙ ap (λ (qs : List Record). records (qs ++ (g.new ∷ []))) old in
    let same : (q : Record) → Memᴰ q rs → line_of_record c t q ≡ line_of_record c s q = λ q m. line_kept c s t q (g.kept q (subst (Memᴰ q) (sym old) m)).name in
    let new : line_of_record c t g.new ≡ line =
    ap₂ (λ (x : List ℕ) (k : ℕ). line_of (spelled x) (answer_by c k g.new.first g.new.second)) (g.named ∙ sym (with_text name a.name (sym n ∙ a.reads))) g.kind_is
    ∙ ap₂ (λ (x y : ℕ). line_of (spelled name) (answer_by c kind x y)) (g.first_is f64) (g.second_is s64) in
    let count : length all ≡ suc (length rs) = omega (arith, length-append rs (g.new ∷ [])) in
    ap (λ (k : ℕ). printed c t (begun_by (sheet_of t)).walk (steps (suc k) again)) (sym count)
    ∙ walk_covers c t all again whole (λ q m. each q (Memᴰ.append_cases rs m) same new)
    ∙ ap (λ (l : List Text). l ++ (text [] ∷ [])) (lines_more c s t rs g.new same ∙ ap (λ (x : List ℕ). lines_of c s rs ++ (text x ∷ [])) new)
    ∙ append_assoc (lines_of c s rs) (text line ∷ []) (text [] ∷ [])
  where
    each : {r : Record} (q : Record) → Memᴰ q rs ⊎ Memᴰ q (r ∷ []) → ((p : Record) → Memᴰ p rs → line_of_record c t p ≡ line_of_record c s p)
        → line_of_record c t r ≡ line_of (spelled name) (answer_by c kind first second) → length (line_of_record c t q) ≤ again
    each q (inl m) same new = subst (λ (x : List ℕ). length x ≤ again) (sym (same q m)) (fit q m)
    each q (inr m) same new =
        subst (λ (x : List ℕ). length x ≤ again) (sym (ap (line_of_record c t) (Memᴰ.eq_of_singleton m) ∙ new)) new-fits
