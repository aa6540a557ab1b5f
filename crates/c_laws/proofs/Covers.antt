-- A walk in rooms of `line_room` bytes covers its records, over what C gets.
use Rattle.std.specs.Prelude.{Ok, Err}
use mathlib.Core.Bool.{Bool, true, false, cond}
use mathlib.Core.List.Memᴰ
use mathlib.Core.List.{List, [], ◌∷◌, ◌++◌}
use mathlib.Core.Path.{◌≡◌, refl, sym, ap, subst, ◌∙◌}
use Prim.Native.Nat.{ℕ, ◌≤◌}
use native.Mathlib.Nat.{le_trans}
use native.Mathlib.Omega.{arith}
use lib.Dec.{ltb}
use lib.ListN.{length}
use Rattle.sheet_search.specs.Find.{Lookup}
use Rattle.octets.specs.Room.{Text, text, written}
use Rattle.octets.proofs.Told.{fits}
use Rattle.name.specs.Spelling.{spelled}
use Rattle.name.specs.Name.{is_length}
use Rattle.name.proofs.Ranges.{as_true}
use Rattle.name.proofs.OneSpelling.{name_valid}
use Rattle.air.specs.Choices.{chosen}
use Rattle.state.specs.State.{answer_by}
use Rattle.sheet_record.specs.declared.Record.{Record}
use Rattle.sheet.specs.Sheet.{Sheet, records, sheet_of}
use Rattle.sheet_version.proofs.Version.{read_of}
use Rattle.sheet_walk.specs.Records.{record_in, record_by}
use Rattle.sheet_walk.proofs.Pages.{numbered_fit}
use Rattle.append.specs.Add.{added}
use Rattle.append.proofs.Faults.{added_never}
use Rattle.append.proofs.Grown.{add_appends}
use Rattle.line.specs.Line.{line_room, line_of}
use Rattle.walk.specs.declared.Walk.{Walk}
use Rattle.walk.specs.Walk.{begun_by, line_at, next_line, step_by, stepped, walk_after, step_of}
use Rattle.walk.specs.Laws.{printed, lines_of, steps}
use Rattle.walk.proofs.Covers.{walk_covers}
use Rattle.walk.proofs.Later.{later_covers}
use Rattle.c_laws.specs.Growing.{Got, gets, next_in, Roomy, Given, FlatWalkCovers, FlatLaterCovers}
use Rattle.c_laws.specs.Growing
use Rattle.c_laws.proofs.Lines.{line_short, fit_short, record_short}
use Rattle.c_laws.proofs.Rooms.{in_room}

-- ---- longer rooms give the same
module _ (s : List ℕ) (rs : List Record) (reads : sheet_of s ≡ records rs) where
  next_short : (w : Walk) → length (next_line chosen s rs w) ≤ line_room
  next_short w = go (ltb w.given w.count) (record_in rs w.given) (ap (λ (x : Sheet). record_by x w.given) reads)
    where
      go : (b : Bool) (f : Lookup) → record_by (sheet_of s) w.given ≡ f → length (cond b (line_at chosen s f) []) ≤ line_room
      go true (Ok r) e = fit_short s r (numbered_fit s w.given e)
      go true (Err k) e = omega arith
      go false f e = omega arith

  same_room : (w : Walk) (room : ℕ) → line_room ≤ room → stepped chosen s w room ≡ text (next_line chosen s rs w)
  unfolding stepped
  same_room w room h = ap (λ (x : Sheet). step_by chosen x s w room) reads ∙ fits room (next_line chosen s rs w) (le_trans (next_short w) h)

  -- what calls in long rooms give is what a walk prints in `line_room` bytes
  given : (rooms : List (List ℕ)) (w : Walk) → Roomy rooms → Given rooms (printed chosen s w (steps (length rooms) line_room)) (gets s w (next_in rooms))
  unfolding printed gets
  given [] w h = Growing.none
  given (room ∷ rooms) w h =
      let t : List ℕ = next_line chosen s rs w in
      let v : Walk = walk_after w (text t) in
      let here : stepped chosen s w (length room) ≡ text t = same_room w (length room) (omega (arith, h room (Memᴰ.head refl))) in
      let short : stepped chosen s w line_room ≡ text t = same_room w line_room (omega arith) in
      let got : Text → List Got = λ x. record { told = step_of w x; room = written x room } ∷ gets s (step_of w x).walk (next_in rooms) in
      let prints : Text → List Text = λ x. x ∷ printed chosen s (walk_after w x) (steps (length rooms) line_room) in
      subst (λ (gs : List Got). Given (room ∷ rooms) (prints (stepped chosen s w line_room)) gs) (sym (ap got here))
      (subst (λ (ts : List Text). Given (room ∷ rooms) ts (got (text t))) (sym (ap prints short))
      (Growing.more refl refl refl (given rooms v (λ x m. h x (Memᴰ.tail m)))))

pub flat_walk_covers : FlatWalkCovers
flat_walk_covers s rs rooms reads n h =
    let w : Walk = (begun_by (sheet_of s)).walk in
    subst (λ (ts : List Text). Given rooms ts (gets s w (next_in rooms)))
    (ap (λ (k : ℕ). printed chosen s w (steps k line_room)) n ∙ walk_covers chosen s rs line_room reads (record_short s rs reads))
    (given s rs reads rooms w h)

pub flat_later_covers : FlatLaterCovers
flat_later_covers s spelling name room last rs kind first second c rooms reads named f64 s64 e l z n h =
    in_room {P = λ t. Given rooms (lines_of chosen s rs ++ (text (line_of (spelled name) (answer_by chosen kind first second)) ∷ (text [] ∷ []))) (gets t (begun_by (sheet_of t)).walk (next_in rooms))}
    (added s spelling kind first second (length room)) (added_never s spelling kind first second (length room))
    (λ t p.
    let w : Walk = (begun_by (sheet_of t)).walk in
    let sized : is_length (length name) ≡ true = as_true (is_length (length name)) (name_valid spelling name named).1 in
    subst (λ (ts : List Text). Given rooms ts (gets t w (next_in rooms)))
    (ap (λ (k : ℕ). printed chosen t w (steps k line_room)) n
    ∙ later_covers chosen s t spelling name rs kind first second (length room) line_room reads named f64 s64 p (record_short s rs reads) (line_short name kind first second sized))
    (given t _ (read_of 2 t (add_appends s t spelling kind first second (length room) p).grown.read_new) rooms w h))
    room last c e l z
