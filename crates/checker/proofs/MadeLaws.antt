-- A certificate text made of an accepted one: it is a text of bytes, is accepted and names its criterion; and what is answered and what
-- becomes of the buffer, where it is written, where there is no room for it, and where two updates cross. Assumes nothing.
use Prim.Native.Nat.{ℕ, ◌≤◌, ◌<◌}
use mathlib.Core.Path.{◌≡◌, refl, sym, ap, ap₂, ◌∙◌, subst}
use mathlib.Core.Bool.{Bool, true, false, false≢true}
use mathlib.Core.List.{List}
use mathlib.Core.Option.{Option, none, some}
use lib.ListN.{length}
use lib.Dec.{eqb}
use borrow.Author.Tests.{eq-eqb, ne_eqb, le-leb, lt-leb}
use Rattle.history.specs.declared.record.Event.{Event}
use Rattle.history_reader.specs.ReadHistory.{read_history}
use Rattle.certificate.specs.declared.record.Criterion.{Criterion}
use Rattle.certificate.specs.Criteria as text
use Rattle.certificate_reader.specs.ReadCertificate.{read_certificate}
use Rattle.certificate_theorems.proofs.Theorems.{events_of, few-events}
use Rattle.criteria.specs.Certificate.{Certificate, Readable}
use Rattle.criteria.specs.Check.{Fault}
use Rattle.criteria.proofs.Weaken as OnLists
use Rattle.checker.specs.CheckText.{Verdict, found_in, history_read, certificate_read, check_text, Accepted, Names}
use Rattle.checker.specs.MadeText.{text_of_lists, text_if_some, plain, length_made, bytes_made, made_verdict, Written, Unwritten}
use Rattle.checker.specs.Demand3.{Bytes}
use Rattle.checker.proofs.TextTheorems.{checked-as, accepted-read, accepted-passes, names-read, named, text-of, text-is, text-accepted}
use Rattle.checker.proofs.ListTexts.{text-lists}
use Rattle.checker.proofs.ByteLaws.{text-bytes}

-- ---- the text of lists
-- the lists of which this is the text
pub record TextOf (o : Option Certificate) (t : List ℕ) (es : List Event) : Type 0 where
  pub lists : Certificate
  pub found : o ≡ some lists
  pub says : text_of_lists es lists ≡ t

unwrap : {t u : List ℕ} → ◌≡◌ {A = Option (List ℕ)} (some t) (some u) → t ≡ u
unwrap e = cc

abbrev has_text : Option (List ℕ) → Bool
has_text none = false
has_text (some t) = true

pub made_of : (es : List Event) (o : Option Certificate) (t : List ℕ) → text_if_some es o ≡ some t → TextOf o t es
made_of es (some d) t e = record { lists = d; found = refl; says = unwrap e }
made_of es none t e = absurd (false≢true (ap has_text e))

-- there is a text exactly where there are lists
pub some-text : (es : List Event) (o : Option Certificate) → OnLists.is_some o ≡ true → (t : List ℕ) × (text_if_some es o ≡ some t)
some-text es none e = absurd (false≢true e)
some-text es (some d) e = (text_of_lists es d, refl)

pub no_text : (es : List Event) (o : Option Certificate) → OnLists.is_some o ≡ false → text_if_some es o ≡ none
no_text es none e = refl
no_text es (some d) e = absurd (false≢true (sym e))

pub lists-bytes : (es : List Event) (d : Certificate) → Bytes (text_of_lists es d)
lists-bytes es d = text-bytes d.criterion (text.view_numbers d.criterion es) d.pasts d.views

-- the text of a certificate's record is the text of its lists
text-is-lists : (history : List ℕ) (z : (read_history history).fault ≡ 0) (d : Certificate) (r : Readable (history_read history) d)
    → text-of history z d r ≡ text_of_lists (events_of history) d
unfolding history_read
text-is-lists history z d r = text-lists (read_history history).history (few-events history z) d r

-- the text of an accepted certificate is read as that certificate, is accepted, and names its criterion
module _ (history : List ℕ) (z : (read_history history).fault ≡ 0) (w : Criterion) (d : Certificate) (a : OnLists.Accepted (history_read history) w d) where
  abbrev t : List ℕ
  t = text_of_lists (events_of history) d

  is-text : text-of history z d a.readable ≡ t
  is-text = text-is-lists history z d a.readable

  pub made-read : certificate_read history t ≡ d
  made-read = rw is-text at (text-is history z d a.readable)

  pub made-accepted : Accepted history t
  made-accepted = rw is-text at (text-accepted history z d a.readable a.passes).0

  pub made-names : Names history t w
  made-names = subst (λ (k : Criterion). Names history t k) a.named (rw is-text at (text-accepted history z d a.readable a.passes).1)

-- ---- the length and the buffer, by the answer's number
module _ (answered : Verdict) (v : Criterion) (t buffer : List ℕ) where
  written-by : answered ≡ plain v 0 → Written answered (length_made answered (some t)) (bytes_made answered (some t) buffer) v t buffer
  written-by e = record { answer = e; long = rw e refl; bytes = rw e refl }

  unwritten-by : (number : ℕ) → eqb number 0 ≡ false → answered ≡ plain v number
      → Unwritten answered (length_made answered (some t)) (bytes_made answered (some t) buffer) v number buffer
  unwritten-by number z e = record { answer = e; long = rw (e, z) refl; bytes = rw (e, z) refl }

-- ---- no text is made of texts that were read
pub not_made : (history text : List ℕ) (v : Criterion) → Names history text v → (crossing : Bool) (buffer : List ℕ)
    → let answer = made_verdict history text crossing none buffer in Unwritten answer (length_made answer none) (bytes_made answer none buffer) v 17 buffer
not_made history text v n crossing buffer =
    let z = eq-eqb (read_certificate history text).fault 0 (names-read history text v n) in
    let q = named history text v n in
    record { answer = rw (z, q) refl; long = rw z refl; bytes = rw z refl }

-- ---- a fault of the check
pub made-faulty : (history text : List ℕ) (v : Criterion) → Names history text v → (Accepted history text → ⊥) → (crossing : Bool) (t buffer : List ℕ)
    → let answer = made_verdict history text crossing (some t) buffer in
    (answer ≡ check_text history text) × (length_made answer (some t) ≡ 0) × (bytes_made answer (some t) buffer ≡ buffer)
unfolding Accepted
made-faulty history text v n f crossing t buffer =
    let z = eq-eqb (read_certificate history text).fault 0 (names-read history text v n) in
    let m = ne_eqb (check_text history text).number 0 f in
    (rw (z, m) refl, rw (z, m, m) refl, rw (z, m, m) refl)

-- ---- a text made of an accepted one
module _ (history text : List ℕ) (a : Accepted history text) (v : Criterion) (n : Names history text v) where
  read-both : eqb (read_certificate history text).fault 0 ≡ true
  read-both = eq-eqb (read_certificate history text).fault 0 (accepted-read history text a)

  -- the check of an accepted text carries no place
  pub verdict-plain : check_text history text ≡ plain v 0
  verdict-plain =
      checked-as history text (accepted-read history text a)
      ∙ ap₂ (λ (k : Criterion) (x : Option Fault). found_in history (read_history history).history.declared k x) (named history text v n)
      (accepted-passes history text a)

  module _ (t buffer : List ℕ) where
    abbrev answer : Bool → Verdict
    answer crossing = made_verdict history text crossing (some t) buffer

    pub made-written : length t ≤ length buffer
        → Written (answer false) (length_made (answer false) (some t)) (bytes_made (answer false) (some t) buffer) v t buffer
    made-written l =
        written-by (answer false) v t buffer (rw (read-both, verdict-plain, le-leb (length t) (length buffer) l) refl)

    pub made-too-short : length buffer < length t
        → Unwritten (answer false) (length_made (answer false) (some t)) (bytes_made (answer false) (some t) buffer) v 18 buffer
    made-too-short l =
        unwritten-by (answer false) v t buffer 18 refl
        (rw (read-both, verdict-plain, lt-leb (length t) (length buffer) l, named history text v n) refl)

    pub made-crossed : Unwritten (answer true) (length_made (answer true) (some t)) (bytes_made (answer true) (some t) buffer) v 26 buffer
    made-crossed =
        unwritten-by (answer true) v t buffer 26 refl (rw (read-both, verdict-plain, named history text v n) refl)
