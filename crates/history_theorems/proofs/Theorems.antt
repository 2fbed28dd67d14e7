-- The theorems of the history text: what is readable, and that reading and writing are inverse. Assumes nothing.
use Prim.Native.Nat.{ℕ, ◌≤◌}
use native.Mathlib.Omega.{arith}
use mathlib.Core.Path.{◌≡◌, sym, ap, ap₂, ◌∙◌}
use mathlib.Core.Bool.{true}
use mathlib.Core.List.{List}
use lib.ListN.{length}
use lib.Dec.{leb}
use borrow.Author.Tests.{le-leb, leb-true}
use Rattle.layout.specs.Split.{split}
use Rattle.layout.proofs.Cases.{by_bool}
use Rattle.history.specs.declared.record.History.{History}
use Rattle.history_reader.specs.ReadHistory.{HistoryRead}
use Rattle.history.specs.Record.{history_of, objects_in, events_in}
use Rattle.history_reader.specs.Place.{nowhere}
use Rattle.history_reader.specs.ReadHistory.{lines_from, read_history}
use Rattle.history.specs.HistoryText.{text_of, history_text}
use Rattle.history.specs.Readable.{within, Readable}
use Rattle.history.proofs.WithinLaws.{within-limits, limits-within, objects-in, events-in}
use Rattle.history_theorems.proofs.TextRound.{text-read, Reads, read-text}
use Rattle.history_theorems.proofs.TextLength.{text-short}

short-lines : (text : List ℕ) → length text ≤ 16384 → read_history text ≡ lines_from (split 10 text)
unfolding read_history
short-lines text s = rw (le-leb (length text) 16384 s)

-- what a text without a fault is
record NoFault (text : List ℕ) : Type 0 where
  short : length text ≤ 16384
  lines : read_history text ≡ lines_from (split 10 text)
  reads : Reads text

no-fault : (text : List ℕ) → (read_history text).fault ≡ 0 → NoFault text
unfolding read_history
no-fault text z =
    by_bool (leb (length text) 16384)
    (λ t.
    let s = leb-true (length text) 16384 t in
    record { short = s; lines = short-lines text s; reads = read-text text (rw t at z) })
    (λ s. let b : ◌≡◌ {A = ℕ} 1 0 = rw s at z in absurd (omega arith))

text-of : {text : List ℕ} (r : Reads text) → history_text (history_of r.objects r.events) ≡ text
unfolding history_text
text-of r = ap₂ text_of (objects-in r.objects r.events) (events-in r.objects r.events) ∙ r.says

history-of : {text : List ℕ} (n : NoFault text) → (read_history text).history ≡ history_of n.reads.objects n.reads.events
history-of n = ap (λ (x : HistoryRead). x.history) (n.lines ∙ n.reads.reads)

within_of : {text : List ℕ} (r : Reads text) → within (history_of r.objects r.events) ≡ true
within_of r = limits-within r.objects r.events r.few r.count r.good r.goods

-- every record within its limits has a text of at most 16,384 bytes
pub within-short : (h : History) → within h ≡ true → length (history_text h) ≤ 16384
unfolding history_text
within-short h w =
    let l = within-limits h w in
    text-short (objects_in h) (events_in h) (omega (arith, l.few, l.declared)) (omega (arith, l.all, l.count))
    l.objects l.events

-- written and read back: the same record
pub written_read : (h : History) → within h ≡ true
    → read_history (history_text h) ≡ record { fault = 0; place = nowhere; history = h }
unfolding history_text
written_read h w =
    let l = within-limits h w in
    short-lines (history_text h) (within-short h w)
    ∙ text-read (objects_in h) (events_in h) (omega (arith, l.few, l.declared)) (omega (arith, l.all, l.count))
    l.objects l.events
    ∙ ap {B = HistoryRead} (λ (x : History). record { fault = 0; place = nowhere; history = x }) (sym l.blank)

-- read and written back: the same bytes
pub read-written : (text : List ℕ) → (read_history text).fault ≡ 0 → history_text (read_history text).history ≡ text
read-written text z = let n = no-fault text z in ap history_text (history-of n) ∙ text-of n.reads

-- a record that was read is within its limits, so a record that is not is that of no readable text (answer 9)
pub read-within : (text : List ℕ) → (read_history text).fault ≡ 0 → within (read_history text).history ≡ true
read-within text z = let n = no-fault text z in ap within (history-of n) ∙ within_of n.reads

-- a text has no fault by the rules exactly when it is readable
pub readable-no-fault : (text : List ℕ) → Readable text → (read_history text).fault ≡ 0
readable-no-fault text r =
    ap (λ (t : List ℕ). (read_history t).fault) (sym r.says)
    ∙ ap (λ (x : HistoryRead). x.fault) (written_read r.history r.fits)

pub no-fault-readable : (text : List ℕ) → (read_history text).fault ≡ 0 → Readable text
no-fault-readable text z =
    let n = no-fault text z in
    record { history = (read_history text).history; fits = read-within text z; says = read-written text z; short = n.short }
