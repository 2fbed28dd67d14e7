-- Laws of the whole text of a record of a history, and of what is answered. Assumes nothing.
use Prim.Native.Nat.{ℕ, ◌≤◌, ◌<◌}
use native.Mathlib.Omega.{arith}
use mathlib.Core.Path.{◌≡◌, refl, sym, ap, ◌∙◌}
use mathlib.Core.Bool.{true, false, cond}
use mathlib.Core.List.{List, ◌++◌}
use lib.ListN.{length, get_or, take}
use lib.Seq.{length-take-le}
use borrow.Author.Tests.{le-leb, lt-leb}
use Rattle.std.specs.Prelude.{Ok, Err}
use Rattle.layout.specs.Fill.{fill}
use Rattle.layout.proofs.Cases.{and_left, and_right}
use Rattle.layout.proofs.FillLaws.{after-fits, after-short}
use Rattle.history.specs.declared.record.History.{History}
use Rattle.history.specs.Record.{events_in}
use Rattle.history.specs.Readable.{within}
use Rattle.history.proofs.PadLaws.{pad-length}
use Rattle.history.proofs.WithinLaws.{within-limits}
use Rattle.history_writer.specs.declared.write.WriteFault.TheVariants.{OutsideLimits, TooShort}
use Rattle.history_writer.specs.WriteHistory.{written_of}
use Rattle.certificate.specs.declared.record.Certificate.{Certificate}
use Rattle.certificate.specs.declared.numbers.ViewNumbers.{ViewNumbers}
use Rattle.certificate.specs.Record.{no_list}
use Rattle.certificate.specs.Criteria.{has_pasts, view_numbers}
use Rattle.certificate.specs.CertificateText.{certificate_text}
use Rattle.certificate.specs.Readable.{fits}
use Rattle.certificate.specs.Steps.Numbers.{view_numbers_of}
use Rattle.certificate.proofs.NumberingLaws.{numbers-in, numbers-few}
use Rattle.certificate_writer.specs.WriteCertificate.{writable, certificate_written, certificate_after}
use Rattle.certificate_writer.specs.Steps.Lines.{first_bytes, past_bytes, view_bytes}
use Rattle.certificate_writer.proofs.LimitLaws.{Parts, parts_facts, fits_is}
use Rattle.certificate_writer.proofs.LimitLaws as short
use Rattle.certificate_writer.proofs.LineLaws as lines

pub count_few : (h : History) (c : Certificate) (rows : List (List ℕ)) → writable h c rows ≡ true → h.count ≤ 64
count_few h c rows w = (within-limits h (and_left (within h) (fits (events_in h) c rows) w)).count

module _ (h : History) (c : Certificate) (rows : List (List ℕ)) (w : writable h c rows ≡ true)
    (v : ViewNumbers) (are : v ≡ view_numbers_of (view_numbers c.criterion (events_in h)))
    (k : ℕ) (many : k ≡ cond (has_pasts c.criterion) h.count 0) where
  all : length (events_in h) ≡ h.count
  all = (within-limits h (and_left (within h) (fits (events_in h) c rows) w)).all

  few_events : h.count ≤ 64
  few_events = count_few h c rows w

  -- the numbers of the views, at most 64, in their array
  numbers_are : take v.count v.numbers ≡ view_numbers c.criterion (events_in h)
  numbers_are = numbers-in v (view_numbers c.criterion (events_in h)) are

  few : v.count ≤ 64
  unfolding view_numbers_of
  few = omega (arith, ap (λ (x : ViewNumbers). x.count) are, numbers-few c.criterion (events_in h) (omega (arith, all, few_events)))

  long : length v.numbers ≡ 64
  unfolding view_numbers_of
  long = ap (λ (x : ViewNumbers). length x.numbers) are ∙ pad-length 64 0 (view_numbers c.criterion (events_in h)) (omega (arith, numbers-few c.criterion (events_in h) (omega (arith, all, few_events))))

  parts : Parts h.count k v.count c rows
  parts =
      parts_facts h.count k v.count c rows
      (rw many (fits_is h c rows all v are ∙ and_right (within h) (fits (events_in h) c rows) w))

  -- the pasts and the views that are written
  pub past_short : (i : ℕ) → i < length (take k c.pasts) → (get_or (take k c.pasts) i no_list).count ≤ 64
  past_short i l = let s = short.past_short h.count k v.count c rows parts i l in omega (arith, s, few_events)

  pub view_short : (i : ℕ) → i < length (take v.count c.lengths) → get_or (take v.count c.lengths) i 0 ≤ 64
  view_short i l = let s = short.view_short h.count k v.count c rows parts i l in omega (arith, s, few_events)

  pub views_all : (length (take v.count c.lengths) ≡ length (take v.count v.numbers)) × (length (take v.count rows) ≡ length (take v.count v.numbers))
  views_all =
      let n = length-take-le v.count v.numbers (omega (arith, few, long)) in
      let l = length-take-le v.count c.lengths (omega (arith, few, parts.lengths_long)) in
      let r = length-take-le v.count rows (omega (arith, few, parts.rows_long)) in
      (l ∙ sym n, r ∙ sym n)

  abbrev pub bytes : List ℕ
  bytes =
      first_bytes c.criterion
      ++ (past_bytes c.criterion (take k c.pasts)
      ++ view_bytes (take v.count v.numbers) (take v.count c.lengths) (take v.count rows))

  text_is : certificate_text (events_in h) c rows ≡ bytes
  unfolding certificate_text view_numbers_of
  text_is =
      let m : v.count ≡ length (view_numbers c.criterion (events_in h)) = ap (λ (x : ViewNumbers). x.count) are in
      rw (sym m, sym numbers_are, all, sym many)
      (lines.text_is (take v.count v.numbers) (take v.count c.lengths) (take v.count rows) views_all.0 views_all.1 c.criterion (take k c.pasts))

  -- what is answered in a buffer that is too short, and in one that has room
  module _ (b : List ℕ) (n : ℕ) (bytes_long : n ≡ length bytes) where
    pub answer_short : length b < n → (written_of (Err TooShort) ≡ certificate_written h c rows b) × (b ≡ certificate_after h c rows b)
    unfolding certificate_written certificate_after
    answer_short k =
        let text : List ℕ = certificate_text (events_in h) c rows in
        let less : length b < length text = omega (arith, ap length text_is) in
        (rw (w, lt-leb (length text) (length b) less), rw (w, after-short text b less))

    pub answer_fits : n ≤ length b → (b₁ : List ℕ) → b₁ ≡ fill bytes b
        → (written_of (Ok n) ≡ certificate_written h c rows b) × (b₁ ≡ certificate_after h c rows b)
    unfolding certificate_written certificate_after
    answer_fits k b₁ e =
        let text : List ℕ = certificate_text (events_in h) c rows in
        let room : length text ≤ length b = omega (arith, ap length text_is) in
        let long : n ≡ length text = bytes_long ∙ ap length (sym text_is) in
        let filled : b₁ ≡ fill text b = e ∙ ap (λ (t : List ℕ). fill t b) (sym text_is) in
        (rw (w, le-leb (length text) (length b) room, long) refl, rw (w, after-fits text b room) filled)

-- what is answered outside the limits
pub answer_refused : (h : History) (c : Certificate) (rows : List (List ℕ)) (b : List ℕ) → writable h c rows ≡ false
    → (written_of (Err OutsideLimits) ≡ certificate_written h c rows b) × (b ≡ certificate_after h c rows b)
unfolding certificate_written certificate_after
answer_refused h c rows b w = (rw w, rw w)
