-- The cases of a refusal, and of a text in lent room.
-- Assumes nothing.
use Rattle.std.specs.Prelude.{Ok}
use mathlib.Core.Bool.{Bool, true, false, cond}
use mathlib.Core.List.{List, [], ◌++◌}
use mathlib.Core.Path.{◌≡◌, refl, ap, ◌∙◌}
use Prim.Native.Nat.{ℕ, ◌≤◌, ◌<◌}
use native.Mathlib.Omega.{arith}
use borrow.Author.Tests.{eq-eqb, ne_eqb, lt-ltb, le-ltb, leb-true}
use lib.Dec.{eqb, ltb, leb}
use lib.ListN.{length}
use Rattle.line.specs.Line.{refusal_rest}
use Rattle.octets.specs.Room.{text, refused, fitting, outcome_of}
use Rattle.sheet.specs.Sheet.{sheet_of, number_of}
use Rattle.report_refusal.specs.Refusal.{sheet_word, list_word, refusal_of}

-- a listing by whether the sheet is accepted, and whether the list is too long
abbrev pub either : ℕ → List ℕ → Bool → Bool → List ℕ
either number lines accepted long = cond accepted (cond long (list_word ++ refusal_rest 15) lines) (sheet_word ++ refusal_rest number)

module _ (sheet list : List ℕ) where
  abbrev number : ℕ
  number = number_of (sheet_of sheet)

  by_test : (accepted : Bool) → eqb number 0 ≡ accepted → refusal_of sheet list ≡ either number [] accepted (ltb 65536 (length list))
  unfolding refusal_of
  by_test accepted e = ap (λ (b : Bool). either number [] b (ltb 65536 (length list))) e

  pub refused_sheet : (number_of (sheet_of sheet) ≡ 0 → ⊥) → refusal_of sheet list ≡ sheet_word ++ refusal_rest (number_of (sheet_of sheet))
  refused_sheet h = by_test false (ne_eqb number 0 h)

  pub refused_list : number_of (sheet_of sheet) ≡ 0 → 65536 < length list → refusal_of sheet list ≡ list_word ++ refusal_rest 15
  refused_list h k = by_test true (eq-eqb number 0 h) ∙ ap (either number [] true) (lt-ltb 65536 (length list) k)

  pub not_refused : number_of (sheet_of sheet) ≡ 0 → length list ≤ 65536 → refusal_of sheet list ≡ []
  not_refused h k = by_test true (eq-eqb number 0 h) ∙ ap (either number [] true) (le-ltb 65536 (length list) k)

-- these decide what `begin` writes
pub ruleset cases = (refused_sheet, refused_list, not_refused)

-- a text of which n bytes were written fits the room
pub done_fits : (t : List ℕ) (room n : ℕ) → Ok n ≡ outcome_of (fitting room t) → (n ≡ length t) × (length t ≤ room) × (fitting room t ≡ text t)
done_fits t room n e = go (leb (length t) room) refl e
  where
    go : (b : Bool) → leb (length t) room ≡ b → Ok n ≡ outcome_of (cond b (text t) (refused 14)) → (n ≡ length t) × (length t ≤ room) × (cond b (text t) (refused 14) ≡ text t)
    go true p e = (cc, leb-true (length t) room p, refl)
    go false p e = let z : ◌≡◌ {A = ℕ} 0 1 = cc in absurd (omega arith)

pub not_empty : (t : List ℕ) (room : ℕ) → 0 < length t → Ok 0 ≡ outcome_of (fitting room t) → ⊥
not_empty t room h e = omega (arith, (done_fits t room 0 e).0)
