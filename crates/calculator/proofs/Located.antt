-- What the steps of a search amount to, over the definitions.
use Rattle.std.specs.Prelude.{Err}
use mathlib.Core.List.{List}
use mathlib.Core.Path.{◌≡◌, refl, sym, ap, ◌∙◌, subst}
use Prim.Native.Nat.{ℕ}
use Rattle.octets.specs.Room.{Text, text, refused}
use Rattle.name.specs.Name.{name_of}
use Rattle.sheet_record.specs.declared.Record.{Record}
use Rattle.sheet.specs.Sheet.{Sheet, records, sheet_of, number_of, Accepted}
use Rattle.sheet_search.specs.Find.{find_by, find_of, Inside}
use Rattle.sheet.proofs.Accept.{accepted_is}
use Rattle.sheet_search.proofs.Searching.{find_inside}
use Rattle.calculator.specs.Search.{locate_name, locate_in, locate}

module _ (s spelling : List ℕ) where
  -- a checked sheet, and a name that is refused or read
  pub name_refused : (k : ℕ) → Accepted s → name_of spelling ≡ refused k → Err k ≡ locate s spelling
  unfolding locate
  name_refused k h e =
      sym (ap (locate_in s spelling) (accepted_is s h) ∙ ap (locate_name s _) e)

  pub name_read : (name : List ℕ) → Accepted s → name_of spelling ≡ text name → find_of s name ≡ locate s spelling
  unfolding locate
  name_read name h e =
      ap (λ (x : Sheet). find_by x s name) (accepted_is s h) ∙ sym (ap (locate_in s spelling) (accepted_is s h) ∙ ap (locate_name s _) e)

  -- a sheet that its check refuses
  pub sheet_refused : (n : ℕ) → n ≡ number_of (sheet_of s) → (n ≡ 0 → ⊥) → Err n ≡ locate s spelling
  unfolding locate
  sheet_refused n e k = go (sheet_of s) e
    where
      go : (x : Sheet) → n ≡ number_of x → Err n ≡ locate_in s spelling x
      go (Sheet.refused m) h = ap Err h
      go (records rs) h = absurd (k h)

  -- what is found lies in the sheet
  named_inside : (rs : List Record) (t : Text) → sheet_of s ≡ records rs → Inside s (locate_name s rs t)
  named_inside rs (refused k) e = tt
  named_inside rs (text name) e = subst (Inside s) (ap (λ (x : Sheet). find_by x s name) e) (find_inside s name)

  sheet_inside : (x : Sheet) → sheet_of s ≡ x → Inside s (locate_in s spelling x)
  sheet_inside (Sheet.refused n) e = tt
  sheet_inside (records rs) e = named_inside rs (name_of spelling) e

  pub locate_inside : Inside s (locate s spelling)
  unfolding locate
  locate_inside = sheet_inside (sheet_of s) refl
