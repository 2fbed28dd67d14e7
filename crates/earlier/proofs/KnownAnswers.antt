-- "This change alters no verdict on texts without such an answer" (document 02, T-01). Assumes nothing.
use Prim.Native.Nat.{ℕ, zero, suc, ◌+◌}
use mathlib.Core.Path.{◌≡◌, refl, ap, ap₂, ◌∙◌}
use mathlib.Core.Bool.{Bool, false, cond, not, ◌&&◌}
use mathlib.Core.List.{List, [], ◌∷◌, ◌++◌, map}
use mathlib.Core.Option.{Option, some}
use lib.ListN.{length, get_or, length-map}
use lib.Dec.{eqb, leb}
use Rattle.layout.specs.Split.{find, on_first, split}
use Rattle.layout.specs.Word.{same, question, object_heading, event_heading}
use Rattle.layout.specs.Number.{is_digit, all_digits, starts_well, is_number, value, spell}
use Rattle.layout.specs.List.{items_of, all_numbers, numbers_of}
use Rattle.layout.proofs.Cases.{by_bool, and-false}
use Rattle.history.specs.declared.record.Object.{Object}
use Rattle.history.specs.declared.record.Event as WrittenEvent
use Rattle.history.specs.Record.{no_event, answer_of, events_in}
use Rattle.history.specs.Record as WrittenHistory
use Rattle.history.specs.Kinds.{is_op}
use Rattle.history.specs.Faults.{ObjectRead, EventRead, first_fault, is_optional, is_lost, answer_items, answer_said, object_line, event_layout, event_limits, event_long, event_fault, event_said, event_six, event_fields, event_line}
use Rattle.history.proofs.PadLaws.{take-pad}
use Rattle.history_reader.specs.ReadHistory.{HistoryRead, refusal, events_from, objects_from, lines_from, read_history}
use Rattle.certificate.specs.declared.record.Criterion.{Criterion}
use Rattle.certificate_reader.specs.ReadCertificate.{read_certificate, rows_read}
use Rattle.criteria.specs.Tests.{or, found_if}
use Rattle.criteria.specs.History.{Event, History, event}
use Rattle.criteria.specs.Replay.{Contents, start, answered, changed}
use Rattle.criteria.specs.Certificate.{Certificate, view_number, replay_count, replayed, visible, order}
use Rattle.criteria.specs.Check.{fault16, fits, right, first_wrong, map_fault, find16, check}
use Rattle.criteria.specs.Records.{event_of, history_of}
use Rattle.criteria.proofs.Lists.{or-false}
use Rattle.faults.proofs.FoundLaws.{lowest-same}
use Rattle.checker.proofs.Samples.{Q}
use Rattle.checker.specs.CheckText.{history_read, certificate_read, check_text}
use Rattle.earlier.specs.VerdictFrom.{certificate_from, verdict_from}
use Rattle.earlier.specs.KnownAnswers.{event_layout_before, event_limits_before, event_long_before, event_fault_before, event_said_before, event_six_before, event_fields_before, event_line_before, events_from_before, objects_from_before, lines_from_before, read_history_before, list_in, right_before, first_wrong_before, find16_before, check_before, check_text_before, loses_answer, some_lose, NoLost}

-- ---- the line of an event
module _ (s : List ℕ) (known : is_lost s ≡ false) where
  layout-as-before : (own : ℕ) (a p o w v : List ℕ) → event_layout own a p o w v s ≡ event_layout_before own a p o w v s
  unfolding event_layout event_layout_before answer_items
  layout-as-before own a p o w v = rw known

  limits-as-before : (own declared : ℕ) (p o v : List ℕ) → event_limits own declared p o v s ≡ event_limits_before own declared p o v s
  unfolding event_limits event_limits_before answer_items
  limits-as-before own declared p o v = rw known

  long-as-before : (object : Object) (w : List ℕ) → event_long object w s ≡ event_long_before object w s
  unfolding event_long event_long_before answer_items answer_said answer_of numbers_of
  long-as-before object w = rw (known, length-map (items_of s) value)

  said-as-before : (p o w v : List ℕ) → event_said p o w v s ≡ event_said_before p o w v s
  unfolding event_said event_said_before answer_said
  said-as-before p o w v = rw known

  fault-as-before : (own : ℕ) (os : List Object) (a p o w v : List ℕ) → event_fault own os a p o w v s ≡ event_fault_before own os a p o w v s
  unfolding event_fault event_fault_before
  fault-as-before own os a p o w v =
      rw (layout-as-before own a p o w v, limits-as-before own (length os) p o v, long-as-before _ w)

  six-as-before : (own : ℕ) (os : List Object) (a p o w v : List ℕ) → event_six own os a p o w v s ≡ event_six_before own os a p o w v s
  unfolding event_six event_six_before
  six-as-before own os a p o w v = rw (fault-as-before own os a p o w v, said-as-before p o w v)

-- a line that loses no answer
line-as-before : (own : ℕ) (os : List Object) (line : List ℕ) → loses_answer line ≡ false → event_line own os line ≡ event_line_before own os line
unfolding event_line event_fields event_line_before event_fields_before loses_answer
line-as-before own os line known =
    by_bool (eqb (length (split 32 line)) 6)
    (λ six. rw (six, six-as-before _ (rw six at known) own os _ _ _ _ _))
    (λ six. rw six)

-- `?` was no answer: its line had fault 2
question-layout : (own : ℕ) (a p o w v : List ℕ) → event_layout_before own a p o w v question ≡ false
unfolding event_layout_before all_numbers items_of split find on_first is_number starts_well all_digits is_digit same
question-layout own a p o w v = and-false (same a (spell own) && is_number p && is_number o && is_op w && is_optional v)

pub question-before : (own : ℕ) (os : List Object) (a p o w v : List ℕ) → event_fault_before own os a p o w v question ≡ 2
unfolding event_fault_before first_fault
question-before own os a p o w v = rw (question-layout own a p o w v)

-- ---- the history text
first-known : (p : List ℕ) (ps : List (List ℕ)) → some_lose (p ∷ ps) ≡ false → loses_answer p ≡ false
unfolding some_lose
first-known p ps known = (or-false (loses_answer p) (some_lose ps) known).0

rest-known : (p : List ℕ) (ps : List (List ℕ)) → some_lose (p ∷ ps) ≡ false → some_lose ps ≡ false
unfolding some_lose
rest-known p ps known = (or-false (loses_answer p) (some_lose ps) known).1

events-as-before : (os : List Object) (es : List WrittenEvent.Event) (line at : ℕ) (ps : List (List ℕ)) → some_lose ps ≡ false
    → events_from os es line at ps ≡ events_from_before os es line at ps
unfolding events_from events_from_before
events-as-before os es line at [] known = refl
events-as-before os es line at (p ∷ []) known = refl
events-as-before os es line at (p ∷ q ∷ ps) known =
    let r : EventRead = event_line_before (length es) os p in
    ap (λ (x : EventRead).
    cond (eqb x.fault 0) (events_from os (es ++ x.event ∷ []) (line + 1) (at + length p + 1) (q ∷ ps)) (refusal x.fault line at (length p)))
    (line-as-before (length es) os p (first-known p (q ∷ ps) known))
    ∙ ap (λ (x : HistoryRead). cond (eqb r.fault 0) x (refusal r.fault line at (length p)))
    (events-as-before os (es ++ r.event ∷ []) (line + 1) (at + length p + 1) (q ∷ ps) (rest-known p (q ∷ ps) known))

objects-as-before : (os : List Object) (line at : ℕ) (ps : List (List ℕ)) → some_lose ps ≡ false
    → objects_from os line at ps ≡ objects_from_before os line at ps
unfolding objects_from objects_from_before
objects-as-before os line at [] known = refl
objects-as-before os line at (p ∷ []) known = refl
objects-as-before os line at (p ∷ q ∷ ps) known =
    let r : ObjectRead = object_line (length os) p in
    ap₂ (λ (x y : HistoryRead). cond (same p event_heading) x (cond (eqb r.fault 0) y (refusal r.fault line at (length p))))
    (events-as-before os [] (line + 1) (at + length p + 1) (q ∷ ps) (rest-known p (q ∷ ps) known))
    (objects-as-before (os ++ r.object ∷ []) (line + 1) (at + length p + 1) (q ∷ ps) (rest-known p (q ∷ ps) known))

lines-as-before : (ps : List (List ℕ)) → some_lose ps ≡ false → lines_from ps ≡ lines_from_before ps
unfolding lines_from lines_from_before
lines-as-before [] known = refl
lines-as-before (p ∷ []) known = refl
lines-as-before (p ∷ q ∷ ps) known = rw (objects-as-before [] 2 (length p + 1) (q ∷ ps) (rest-known p (q ∷ ps) known))

-- a text without a lost answer is read as before
pub reads-as-before : (text : List ℕ) → NoLost text → read_history text ≡ read_history_before text
unfolding read_history read_history_before NoLost
reads-as-before text known = rw (lines-as-before (split 10 text) known)

-- ---- no event that was read as before has lost its answer
abbrev Kept : List WrittenEvent.Event → Type 0
Kept [] = Unit {0}
Kept (e ∷ es) = (e.answer.lost ≡ false) × Kept es

kept_more : (es : List WrittenEvent.Event) (e : WrittenEvent.Event) → Kept es → e.answer.lost ≡ false → Kept (es ++ e ∷ [])
kept_more [] e k l = (l, tt)
kept_more (x ∷ es) e k l = (k.0, kept_more es e k.1 l)

line_kept : (own : ℕ) (os : List Object) (line : List ℕ) → (event_line_before own os line).event.answer.lost ≡ false
unfolding event_line_before event_fields_before event_six_before event_said_before answer_of
line_kept own os line =
    let fs : List (List ℕ) = split 32 line in
    let fault : ℕ = event_fault_before own os (get_or fs 0 []) (get_or fs 1 []) (get_or fs 2 []) (get_or fs 3 []) (get_or fs 4 []) (get_or fs 5 []) in
    by_bool (eqb (length fs) 6)
    (λ six. by_bool (eqb fault 0) (λ z. rw (six, z)) (λ z. rw (six, z)))
    (λ six. rw six)

all-kept : (os : List Object) (es : List WrittenEvent.Event) → Kept es → Kept (events_in (WrittenHistory.history_of os es))
unfolding WrittenHistory.history_of
all-kept os es k = rw (take-pad 64 no_event es) k

events-kept : (os : List Object) (es : List WrittenEvent.Event) (line at : ℕ) (ps : List (List ℕ)) → Kept es
    → Kept (events_in (events_from_before os es line at ps).history)
unfolding events_from_before
events-kept os es line at [] k = tt
events-kept os es line at (p ∷ []) k = by_bool (eqb (length p) 0) (λ z. rw z (all-kept os es k)) (λ z. rw z tt)
events-kept os es line at (p ∷ q ∷ ps) k =
    by_bool (eqb (event_line_before (length es) os p).fault 0)
    (λ z. rw z (events-kept os (es ++ (event_line_before (length es) os p).event ∷ []) (line + 1) (at + length p + 1) (q ∷ ps) (kept_more es _ k (line_kept (length es) os p))))
    (λ z. rw z tt)

objects-kept : (os : List Object) (line at : ℕ) (ps : List (List ℕ)) → Kept (events_in (objects_from_before os line at ps).history)
unfolding objects_from_before
objects-kept os line at [] = tt
objects-kept os line at (p ∷ []) = tt
objects-kept os line at (p ∷ q ∷ ps) =
    by_bool (same p event_heading)
    (λ h. rw h (events-kept os [] (line + 1) (at + length p + 1) (q ∷ ps) tt))
    (λ h.
    by_bool (eqb (object_line (length os) p).fault 0)
    (λ z. rw (h, z) (objects-kept (os ++ (object_line (length os) p).object ∷ []) (line + 1) (at + length p + 1) (q ∷ ps)))
    (λ z. rw (h, z) tt))

lines-kept : (ps : List (List ℕ)) → Kept (events_in (lines_from_before ps).history)
unfolding lines_from_before
lines-kept [] = tt
lines-kept (p ∷ []) = tt
lines-kept (p ∷ q ∷ ps) =
    by_bool (same p object_heading) (λ h. rw h (objects-kept [] 2 (length p + 1) (q ∷ ps))) (λ h. rw h tt)

-- ---- fault 16 on a history whose answers are all known
abbrev Known : History → Type 0
Known h = (e : ℕ) → (event h e).answer ≡ some (list_in (event h e).answer)

list-known : (es : List WrittenEvent.Event) (d : Event) → d.answer ≡ some (list_in d.answer) → Kept es → (e : ℕ)
    → (get_or (map event_of es) e d).answer ≡ some (list_in (get_or (map event_of es) e d).answer)
unfolding event_of
list-known [] d q k e = q
list-known (x ∷ es) d q k zero = rw k.0
list-known (x ∷ es) d q k (suc e) = list-known es d q k.1 e

right-as-before : (h : History) → Known h → (s : Contents) (e : ℕ) → right h s e ≡ right_before h s e
unfolding right right_before
right-as-before h known s e = ap (λ (r : Option (List ℕ)). fits r (answered h s e)) (known e)

wrong-as-before : (h : History) → Known h → (vis : ℕ → Bool) (s : Contents) (es : List ℕ)
    → first_wrong h vis s es ≡ first_wrong_before h vis s es
wrong-as-before h known vis s [] = refl
wrong-as-before h known vis s (e ∷ es) =
    ap₂ (λ (t : Bool) (r : Option ℕ). or (found_if (vis e && not t) e) r)
    (right-as-before h known s e) (wrong-as-before h known vis (changed h s e) es)

find16-as-before : (w : Criterion) (h : History) → Known h → (R : ℕ → ℕ → Bool) (vs : List (List ℕ))
    → find16 w h R vs ≡ find16_before w h R vs
find16-as-before w h known R vs =
    lowest-same (replay_count w h)
    (λ k. map_fault (fault16 (view_number w h k)) (first_wrong h (visible w h k) (start h) (replayed w R vs k)))
    (λ k. map_fault (fault16 (view_number w h k)) (first_wrong_before h (visible w h k) (start h) (replayed w R vs k)))
    (λ k l. ap (map_fault (fault16 (view_number w h k))) (wrong-as-before h known (visible w h k) (start h) (replayed w R vs k)))

check-as-before : (h : History) → Known h → (c : Certificate) → check h c ≡ check_before h c
unfolding check check_before
check-as-before h known c = rw (find16-as-before c.criterion h known (order h c) c.views)

-- ---- the verdict
check-text-is : (history text : List ℕ) → check_text history text ≡ verdict_from check history (read_history history) text
unfolding check_text history_read certificate_read read_certificate rows_read verdict_from
check-text-is history text = refl

history-known : (r : HistoryRead) → Kept (events_in r.history) → Known (history_of r.history)
unfolding history_of
history-known r k e = list-known (events_in r.history) _ refl k e

text-kept : (text : List ℕ) → Kept (events_in (read_history_before text).history)
unfolding read_history_before
text-kept text = by_bool (leb (length text) 16384) (λ l. rw l (lines-kept (split 10 text))) (λ l. rw l tt)

verdict-from : (history : List ℕ) (r : HistoryRead) → Kept (events_in r.history) → (text : List ℕ)
    → verdict_from check history r text ≡ verdict_from check_before history r text
unfolding verdict_from
verdict-from history r k text = rw (check-as-before (history_of r.history) (history-known r k) (certificate_from r text))

-- "This change alters no verdict on texts without such an answer."
pub verdict-as-before : (history text : List ℕ) → NoLost history → check_text history text ≡ check_text_before history text
unfolding check_text_before
verdict-as-before history text known =
    check-text-is history text
    ∙ ap (λ (r : HistoryRead). verdict_from check history r text) (reads-as-before history known)
    ∙ verdict-from history (read_history_before history) (text-kept history) text

-- document 01's sample Q is such a text
pub q-known : NoLost Q
unfolding NoLost some_lose loses_answer is_lost split find on_first same
q-known = refl
