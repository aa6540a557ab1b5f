-- With room for its lines a walk gives those of all records that it counted, in order, and then nothing.
use Rattle.std.specs.Prelude.{Ok}
use mathlib.Core.List.{List, [], ◌∷◌, ◌++◌, append_assoc, Memᴰ}
use mathlib.Core.Path.{◌≡◌, refl, sym, ap, ap₂, ◌∙◌}
use Prim.Native.Nat.{ℕ, suc, ◌+◌, ◌≤◌}
use native.Mathlib.Omega.{arith}
use lib.ListN.{length, length-append}
use Rattle.octets.specs.Room.{Text, text}
use Rattle.octets.proofs.Told.{fits}
use Rattle.air.specs.Choices.{Choices}
use Rattle.sheet_record.specs.declared.Record.{Record}
use Rattle.sheet.specs.Sheet.{Sheet, records, sheet_of, number_of, Accepted}
use Rattle.sheet_walk.specs.Records.{record_in, record_by}
use Rattle.walk.specs.Walk.{begun_by, line_of_record, stepped, walk_after}
use Rattle.walk.specs.Laws.{printed, lines_of, steps, WalkCovers}
use Rattle.walk.specs.declared.Walk.{Walk}
use Rattle.walk.proofs.Steps.{step_over, step_at, record_some}

record_behind : (done : List Record) (r : Record) (left : List Record) → record_in (done ++ (r ∷ left)) (length done) ≡ Ok r
unfolding record_in
record_behind [] r left = refl
record_behind (q ∷ done) r left = record_behind done r left

after_line : (w : Walk) (t : List ℕ) → (length t ≡ 0 → ⊥) → walk_after w (text t) ≡ record { given = w.given + 1; count = w.count }
after_line w [] z = absurd (z refl)
after_line w (b ∷ t) z = refl

module _ (c : Choices) (s : List ℕ) (rs : List Record) (room : ℕ) (reads : sheet_of s ≡ records rs) where
  accepted : Accepted s
  accepted = ap number_of reads

  -- the records in front are given, those behind are left
  covers : (left done : List Record) (w : Walk) → rs ≡ done ++ left → w.given ≡ length done → w.count ≡ length rs
      → ((r : Record) → Memᴰ r left → length (line_of_record c s r) ≤ room)
      → printed c s w (steps (suc (length left)) room) ≡ lines_of c s left ++ (text [] ∷ [])
  unfolding printed
  covers [] done w split g k fit =
      ap (λ (x : Text). x ∷ []) (step_over c s w room accepted (omega (arith, ap length split, length-append done [])))
  covers (r ∷ left) done w split g k fit =
      let line : List ℕ = line_of_record c s r in
      let here : Ok r ≡ record_by (sheet_of s) w.given =
      sym (ap (λ (x : Sheet). record_by x w.given) reads ∙ ap₂ record_in split g ∙ record_behind done r left) in
      let now : stepped c s w room ≡ text line =
      step_at c s w room accepted (omega (arith, ap length split, length-append done (r ∷ left))) (Ok r) here ∙ fits room line (fit r (Memᴰ.head refl)) in
      let then : Walk = record { given = w.given + 1; count = w.count } in
      let after : walk_after w (stepped c s w room) ≡ then = ap (walk_after w) now ∙ after_line w line (record_some c s r) in
      ap₂ (λ (x : Text) (v : Walk). x ∷ printed c s v (steps (suc (length left)) room)) now after
      ∙ ap (λ (l : List Text). text line ∷ l)
      (covers left (done ++ (r ∷ [])) then (split ∙ sym (append_assoc done (r ∷ []) left)) (omega (arith, length-append done (r ∷ []))) k (λ q m. fit q (Memᴰ.tail m)))

pub walk_covers : WalkCovers
walk_covers c s rs room reads fit =
    covers c s rs room reads rs [] (begun_by (sheet_of s)).walk refl (ap (λ (x : Sheet). (begun_by x).walk.given) reads) (ap (λ (x : Sheet). (begun_by x).walk.count) reads) fit
