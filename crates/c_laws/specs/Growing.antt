-- Request 7 over what C gets: the sheet that an add leaves in lent room, and a walk that is begun before it.
use Rattle.std.specs.Prelude.{cond, ◌≡◌, ℕ, suc, ◌^◌, ◌≤◌, ◌<◌, eqb, length, take, drop}
use mathlib.Core.List.{List, [], ◌∷◌, ◌++◌, Memᴰ}
use Rattle.octets.specs.Bytes.{part}
use Rattle.octets.specs.Room.{Text, text, written, outcome_of}
use Rattle.name.specs.Spelling.{spelled}
use Rattle.name.specs.Name.{name_of}
use Rattle.air.specs.Choices.{Choices, chosen}
use Rattle.state.specs.State.{answer_by}
use Rattle.sheet_record.specs.declared.Record.{Record}
use Rattle.sheet_record.specs.Front.{name_in}
use Rattle.sheet.specs.Sheet.{records, sheet_of, number_of, Accepted}
use Rattle.sheet_remark.specs.Remark.{remark_of, remark_bytes}
use Rattle.append.specs.Add.{added}
use Rattle.append.specs.Laws.{Appended}
use Rattle.calculator.specs.Search.{locate, search_by}
use Rattle.line.specs.Line.{line_room, line_of, line}
use Rattle.walk.specs.Walk.{begun_by, line_of_record, stepped, step_of}
use Rattle.walk.specs.Laws.{lines_of}
use Rattle.walk.specs.declared.Walk.{Walk}
use Rattle.walk.specs.declared.Step.{Step}
use Rattle.flat_parts.specs.declared.CText.{CText}
use Rattle.flat_parts.specs.Flat.{flat_found, flat_remark, flat_text}

-- a spelling of another name, or of none, gives for t what it gives for s: the record with its place, the remark with its place and its
-- bytes, and the answer, whatever the choices
pub record SameSearch (s t other : List ℕ) : Type 0 where
  pub find : flat_found (locate t other) ≡ flat_found (locate s other)
  pub remark : flat_remark (remark_of t (locate t other)) ≡ flat_remark (remark_of s (locate s other))
  pub bytes : remark_bytes t (remark_of t (locate t other)) ≡ remark_bytes s (remark_of s (locate s other))
  pub search : (c : Choices) → search_by c t other ≡ search_by c s other

-- any spelling of the new name finds the new state: its kind, values and name, no remark, and its answer
pub record NewSearch (t name other : List ℕ) (kind first second : ℕ) : Type 0 where
  pub found : (flat_found (locate t other)).number ≡ 0
  pub kind_is : (flat_found (locate t other)).kind ≡ kind
  pub first_is : (flat_found (locate t other)).first ≡ first
  pub second_is : (flat_found (locate t other)).second ≡ second
  pub name_is : part t (flat_found (locate t other)).start (flat_found (locate t other)).length ≡ name
  pub remark : remark_bytes t (remark_of t (locate t other)) ≡ []
  pub search : (c : Choices) → search_by c t other ≡ answer_by c kind first second

-- t is s with one state more
pub record Joined (s t spelling : List ℕ) (kind first second : ℕ) : Type 0 where
  pub appended : Appended s t spelling kind first second
  pub accepted : number_of (sheet_of t) ≡ 0
  pub old : (other : List ℕ) → (name_of other ≡ name_of spelling → ⊥) → SameSearch s t other
  pub new : (other : List ℕ) → name_of other ≡ name_of spelling → NewSearch t appended.name other kind first second

-- c is what `eas_add` gives, `last` is the room afterwards: where c is no refusal, the sheet that it tells of is so
abbrev pub FlatAdd : Type 0
FlatAdd =
    (s spelling room last : List ℕ) (kind first second : ℕ) (c : CText)
    → first < 2 ^ 64
    → second < 2 ^ 64
    → c ≡ flat_text (outcome_of (added s spelling kind first second (length room)))
    → last ≡ written (added s spelling kind first second (length room)) room
    → c.number ≡ 0
    → Joined s (take c.length last) spelling kind first second

-- calls with a lent room each: of `eas_next`, and of `eas_add`
pub data Call : Type 0 where
  next : List ℕ → Call
  add : List ℕ → ℕ → ℕ → ℕ → List ℕ → Call

-- the sheet that a host keeps after `eas_add`: the one that it tells of, or the old one where it refuses
abbrev pub sheet_on : List ℕ → CText → List ℕ → List ℕ
sheet_on s c last = cond (eqb c.number 0) (take c.length last) s

-- what one call of `eas_next` tells, and the room afterwards
pub record Got : Type 0 where
  pub told : Step
  pub room : List ℕ

-- what a host gets of `eas_next`, call by call, that keeps its sheet and its walk
unfoldable pub gets : List ℕ → Walk → List Call → List Got
gets s w [] = []
gets s w (next room ∷ calls) =
    let t : Text = stepped chosen s w (length room) in
    record { told = step_of w t; room = written t room } ∷ gets s (step_of w t).walk calls
gets s w (add spelling kind first second room ∷ calls) =
    let t : Text = added s spelling kind first second (length room) in
    gets (sheet_on s (flat_text (outcome_of t)) (written t room)) w calls

-- the calls with no adds
abbrev pub only_next : List Call → List Call
only_next [] = []
only_next (next room ∷ calls) = next room ∷ only_next calls
only_next (add spelling kind first second room ∷ calls) = only_next calls

-- a walk that `eas_begin` began on an accepted sheet gives the host, whatever it adds meanwhile, what it would have given with no adds
abbrev pub FlatUndisturbed : Type 0
FlatUndisturbed = (s : List ℕ) (calls : List Call) → Accepted s → gets s (begun_by (sheet_of s)).walk calls ≡ gets s (begun_by (sheet_of s)).walk (only_next calls)

-- a call of `eas_next` in each room, and rooms that are long enough for any line
abbrev pub next_in : List (List ℕ) → List Call
next_in [] = []
next_in (room ∷ rooms) = next room ∷ next_in rooms

abbrev pub Roomy : List (List ℕ) → Type 0
Roomy rooms = (room : List ℕ) → Memᴰ room rooms → line_room ≤ length room

-- what calls in these rooms give: a text each, in order. No call refuses; it tells how long its text is, which stands in front of the
-- room. An empty text leaves the room as it was
pub data Given : List (List ℕ) → List Text → List Got → Type 0 where
  none : Given [] [] []
  more :
      {room t : List ℕ} {g : Got} {rooms : List (List ℕ)} {ts : List Text} {gs : List Got}
      → g.told.number ≡ 0
      → g.told.length ≡ length t
      → g.room ≡ t ++ drop (length t) room
      → Given rooms ts gs
      → Given (room ∷ rooms) (text t ∷ ts) (g ∷ gs)

-- a walk over an accepted sheet gives the lines of all its records, in order, and then nothing
abbrev pub FlatWalkCovers : Type 0
FlatWalkCovers =
    (s : List ℕ) (rs : List Record) (rooms : List (List ℕ))
    → sheet_of s ≡ records rs
    → length rooms ≡ suc (length rs)
    → Roomy rooms
    → Given rooms (lines_of chosen s rs ++ (text [] ∷ [])) (gets s (begun_by (sheet_of s)).walk (next_in rooms))

-- a walk over the sheet that an add leaves gives the lines of the old records, then that of the new state, and then nothing
abbrev pub FlatLaterCovers : Type 0
FlatLaterCovers =
    (s spelling name room last : List ℕ) (rs : List Record) (kind first second : ℕ) (c : CText) (rooms : List (List ℕ))
    → sheet_of s ≡ records rs
    → name_of spelling ≡ text name
    → first < 2 ^ 64
    → second < 2 ^ 64
    → c ≡ flat_text (outcome_of (added s spelling kind first second (length room)))
    → last ≡ written (added s spelling kind first second (length room)) room
    → c.number ≡ 0
    → length rooms ≡ suc (suc (length rs))
    → Roomy rooms
    → let t = take c.length last in
    Given rooms (lines_of chosen s rs ++ (text (line_of (spelled name) (answer_by chosen kind first second)) ∷ (text [] ∷ [])))
    (gets t (begun_by (sheet_of t)).walk (next_in rooms))

-- the line of a record that a walk gives is the one that `eas_line` gives for any spelling of its name
abbrev pub WalkLine : Type 0
WalkLine =
    (c : Choices) (s : List ℕ) (rs : List Record) (r : Record) (spelling : List ℕ)
    → sheet_of s ≡ records rs
    → Memᴰ r rs
    → name_of spelling ≡ text (name_in s r)
    → line_of_record c s r ≡ line spelling (search_by c s spelling)
