-- What the functions hand back of the lines of a text.
use Rattle.std.specs.Prelude.{ℕ, ◌≤◌, ◌≡◌, Bool, List, [], map, length, get_or, Result, Ok, Err}
use Rattle.layout.specs.Split.{split}
use Rattle.history.specs.declared.record.Event.{Event}
use Rattle.history.specs.Record.{pad}
use Rattle.history.specs.Faults.{fault_number}
use Rattle.history_reader.specs.declared.read.Refusal.{Refusal}
use Rattle.history_reader.specs.Place.{line_place}
use Rattle.certificate.specs.declared.record.Criterion.{Criterion}
use Rattle.certificate.specs.declared.record.Criterion.TheVariants.{Pram}
use Rattle.certificate.specs.declared.record.EventList.{EventList}
use Rattle.certificate.specs.declared.record.Certificate.{Certificate}
use Rattle.certificate.specs.Record.{no_list, event_list_of, certificate_of, rows_of}
use Rattle.certificate.specs.Criteria.{view_numbers}
use Rattle.certificate_reader.specs.declared.left.LinesLeft.{LinesLeft}
use Rattle.certificate_reader.specs.ReadCertificate.{Lines, accepted, end_from, lists_from, views_from, body_from, lines_from}

-- A refusal of lines.
abbrev pub refused : Refusal → Lines
refused r = record { fault = fault_number r.fault; place = line_place r.place; criterion = Pram; pasts = []; views = [] }

-- What lines say from one line on, and so the lines that are left.
abbrev pub LinesSay : Type 0
LinesSay = ℕ → ℕ → List (List ℕ) → Lines

abbrev pub left_say : LinesSay → LinesLeft → Lines
left_say say l = say l.line l.start (split 10 l.text.now)

-- The first line names the criterion.
abbrev pub CriterionRead : LinesLeft → LinesLeft → Result Criterion Refusal → Type 0
CriterionRead old new (Ok c) = (es : List Event) → lines_from es (split 10 old.text.now) ≡ left_say (body_from c es) new
CriterionRead old new (Err r) = (es : List Event) → lines_from es (split 10 old.text.now) ≡ refused r

-- One line is read, whatever follows.
abbrev pub LineRead : (LinesSay → LinesSay) → LinesLeft → LinesLeft → Result Unit Refusal → Type 0
LineRead step old new (Ok u) = (next : LinesSay) → left_say (step next) old ≡ left_say next new
LineRead step old new (Err r) = (next : LinesSay) → left_say (step next) old ≡ refused r

-- The lists said stand in an array.
pub record Kept (said : List (List ℕ)) (lists : List EventList) : Type 0 where
  pub pads : lists ≡ pad 64 no_list (map event_list_of said)
  pub short : (k : ℕ) → (get_or lists k no_list).count ≤ 64

-- A line for each of the numbers is read, whatever follows.
pub record ListsDone (past : Bool) (count : ℕ) (numbers : List ℕ) (old new : LinesLeft) (lists : List EventList) : Type 0 where
  pub said : List (List ℕ)
  pub kept : Kept said lists
  pub says : (next : List (List ℕ) → LinesSay) → left_say (lists_from past count next numbers []) old ≡ left_say (next said) new

abbrev pub ListsRead : Bool → ℕ → List ℕ → LinesLeft → LinesLeft → Result (List EventList) Refusal → Type 0
ListsRead past count numbers old new (Ok lists) = ListsDone past count numbers old new lists
ListsRead past count numbers old new (Err r) =
    (next : List (List ℕ) → LinesSay) → left_say (lists_from past count next numbers []) old ≡ refused r

-- The pasts are read, where there are any.
pub record PastsDone (c : Criterion) (es : List Event) (old new : LinesLeft) (lists : List EventList) : Type 0 where
  pub pasts : List (List ℕ)
  pub kept : Kept pasts lists
  pub says : left_say (body_from c es) old ≡ left_say (views_from c (length es) (view_numbers c es) pasts) new

abbrev pub PastsRead : Criterion → List Event → LinesLeft → LinesLeft → Result (List EventList) Refusal → Type 0
PastsRead c es old new (Ok lists) = PastsDone c es old new lists
PastsRead c es old new (Err r) = left_say (body_from c es) old ≡ refused r

-- No line is left.
abbrev pub EndRead : LinesLeft → Result Unit Refusal → Type 0
EndRead l (Ok u) = (r : Lines) → left_say (end_from r) l ≡ r
EndRead l (Err f) = (r : Lines) → left_say (end_from r) l ≡ refused f

-- The views are read, and nothing follows.
pub record ViewsDone (c : Criterion) (es : List Event) (old : LinesLeft) (lists : List EventList) : Type 0 where
  pub views : List (List ℕ)
  pub kept : Kept views lists
  pub says : (pasts : List (List ℕ)) → left_say (views_from c (length es) (view_numbers c es) pasts) old ≡ accepted c pasts views

abbrev pub ViewsRead : Criterion → List Event → LinesLeft → Result (List EventList) Refusal → Type 0
ViewsRead c es old (Ok lists) = ViewsDone c es old lists
ViewsRead c es old (Err r) = (pasts : List (List ℕ)) → left_say (views_from c (length es) (view_numbers c es) pasts) old ≡ refused r

-- All lines are read: the record, and the rows of the views; or the rows stay as they were.
pub record AllDone (whole : Lines) (rows : List (List ℕ)) (c : Certificate) : Type 0 where
  pub pasts : List (List ℕ)
  pub views : List (List ℕ)
  pub says : whole ≡ accepted c.criterion pasts views
  pub is : c ≡ certificate_of c.criterion pasts views
  pub rows_are : rows ≡ rows_of views

abbrev pub AllRead : Lines → List (List ℕ) → List (List ℕ) → Result Certificate Refusal → Type 0
AllRead whole old new (Ok c) = AllDone whole new c
AllRead whole old new (Err r) = (whole ≡ refused r) × (new ≡ old)
