-- What a walk gives follows from the sheet's page, which leaves the places of records aside.
use Rattle.std.specs.Prelude.{Ok, Err}
use mathlib.Core.Bool.{cond}
use mathlib.Core.List.{List, [], ◌∷◌}
use mathlib.Core.Path.{◌≡◌, refl, sym, ap, ap₂, ◌∙◌}
use Prim.Native.Nat.{ℕ, suc}
use lib.Dec.{ltb}
use lib.ListN.{length}
use Rattle.sheet_search.specs.Find.{Lookup}
use Rattle.octets.specs.Room.{Text, refused, fitting}
use Rattle.name.specs.Spelling.{spelled}
use Rattle.air.specs.Choices.{Choices}
use Rattle.state.specs.State.{answer_by}
use Rattle.sheet_record.specs.declared.Record.{Record}
use Rattle.sheet.specs.Sheet.{Sheet, records, sheet_of}
use Rattle.sheet.proofs.Entries.{said}
use Rattle.sheet_search.proofs.Pages.{Page, without, with, page_of, Reply, missed, found, reply_of}
use Rattle.sheet_walk.specs.Records.{record_in, record_by}
use Rattle.sheet_walk.proofs.Pages.{same_record}
use Rattle.line.specs.Line.{line_of}
use Rattle.walk.specs.Walk.{begun_by, line_at, step_by, stepped}
use Rattle.walk.specs.declared.Walk.{Walk}
use Rattle.walk.specs.declared.Begun.{Begun}

-- a walk that begins on a page
abbrev begun_on : Page → Begun
begun_on (without k) = record { number = k; walk = record { given = 0; count = 0 } }
begun_on (with es) = record { number = 0; walk = record { given = 0; count = length es } }

said_length : (s : List ℕ) (rs : List Record) → length (said s rs) ≡ length rs
said_length s [] = refl
said_length s (r ∷ rs) = ap suc (said_length s rs)

begun_page : (s : List ℕ) (x : Sheet) → begun_by x ≡ begun_on (page_of s x)
begun_page s (Sheet.refused k) = refl
begun_page s (records rs) = ap (λ (n : ℕ). record { number = 0; walk = record { given = 0; count = n } }) (sym (said_length s rs))

-- and its step, by what is found under its number
abbrev line_reply : Choices → Reply → List ℕ
line_reply c (missed k) = []
line_reply c (found e) = line_of (spelled e.name) (answer_by c e.kind e.first e.second)

line_reply_lem : (c : Choices) (s : List ℕ) (l : Lookup) → line_at c s l ≡ line_reply c (reply_of s l)
line_reply_lem c s (Err k) = refl
line_reply_lem c s (Ok r) = refl

abbrev step_on : Choices → Page → Reply → Walk → ℕ → Text
step_on c (without k) reply w room = refused k
step_on c (with es) reply w room = fitting room (cond (ltb w.given w.count) (line_reply c reply) [])

step_page : (c : Choices) (s : List ℕ) (x : Sheet) (w : Walk) (room : ℕ) → step_by c x s w room ≡ step_on c (page_of s x) (reply_of s (record_by x w.given)) w room
step_page c s (Sheet.refused k) w room = refl
step_page c s (records rs) w room = ap (λ (t : List ℕ). fitting room (cond (ltb w.given w.count) t [])) (line_reply_lem c s (record_in rs w.given))

-- two sheets with one page
module _ (s t : List ℕ) (e : page_of s (sheet_of s) ≡ page_of t (sheet_of t)) where
  pub same_begun : begun_by (sheet_of s) ≡ begun_by (sheet_of t)
  same_begun = begun_page s (sheet_of s) ∙ ap begun_on e ∙ sym (begun_page t (sheet_of t))

  pub same_stepped : (c : Choices) (w : Walk) (room : ℕ) → stepped c s w room ≡ stepped c t w room
  unfolding stepped
  same_stepped c w room =
      step_page c s (sheet_of s) w room
      ∙ ap₂ (λ (p : Page) (r : Reply). step_on c p r w room) e (same_record s t e w.given)
      ∙ sym (step_page c t (sheet_of t) w room)
