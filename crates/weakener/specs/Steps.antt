-- What is wanted of a certificate, and an answer and a buffer that are those of a verdict.
use Rattle.std.specs.Prelude as code
use Rattle.std.specs.Prelude.{ℕ, ◌≡◌, Bool, false, List, Result, is_ok, eqb}
use Rattle.std.proofs.Math.Option.{Option, none, some}
use Rattle.history.specs.declared.record.History as WrittenHistory
use Rattle.history.specs.Record.{events_in}
use Rattle.history_reader.specs.ReadHistory.{read_history}
use Rattle.certificate.specs.declared.record.Criterion.{Criterion}
use Rattle.certificate.specs.declared.record.Certificate as WrittenCertificate
use Rattle.certificate.specs.Criteria.{has_pasts}
use Rattle.criteria.specs.History.{History}
use Rattle.criteria.specs.Certificate.{Certificate, order}
use Rattle.criteria.specs.Weaken.{is_pair, weakened}
use Rattle.criteria.specs.OneLine.{crosses, in_one_line}
use Rattle.criteria.specs.Check.{check}
use Rattle.criteria.specs.Records.{history_of, certificate_of}
use Rattle.checker.specs.CheckText.{Verdict, found_in, history_read, certificate_read}
use Rattle.checker.specs.MadeText.{text_if_some, made_answer, length_made, bytes_made}
use Rattle.one_line.specs.Steps.{OrderRead}
use Rattle.weakener.specs.declared.made.Made.{Made}
use Rattle.weakener.specs.declared.made.Wanted.{Wanted}
use Rattle.weakener.specs.declared.made.Unmade.{Unmade}
use Rattle.weakener.specs.declared.made.Wanted.TheVariants.{Named, OneLine}
use Rattle.weakener.specs.Made.{verdict_made, length_of}

-- A weakening wants the criterion of its number, if there is one.
abbrev pub wanted_in : Option Criterion → code.Option Wanted
wanted_in none = code.None
wanted_in (some w) = code.Some (Named w)

-- It can be made of a certificate that names the criterion.
abbrev pub may_be_made : Criterion → Wanted → Bool
may_be_made c (Named w) = is_pair c w
may_be_made c OneLine = has_pasts c

-- The lists that are wanted, and whether updates cross where one line is wanted.
abbrev pub lists_wanted : Wanted → History → Certificate → Option Certificate
lists_wanted (Named w) h c = weakened w h c
lists_wanted OneLine h c = in_one_line h c

abbrev pub crosses_wanted : Wanted → History → Certificate → Bool
crosses_wanted (Named w) h c = false
crosses_wanted OneLine h c = crosses h (order h c)

-- The same on texts; nothing may be wanted that there is.
abbrev pub text_wanted : code.Option Wanted → List ℕ → List ℕ → Option (List ℕ)
text_wanted code.None history text = none
text_wanted (code.Some wanted) history text =
    text_if_some (events_in (read_history history).history) (lists_wanted wanted (history_read history) (certificate_read history text))

abbrev pub crossing_wanted : code.Option Wanted → List ℕ → List ℕ → Bool
crossing_wanted code.None history text = false
crossing_wanted (code.Some wanted) history text = crosses_wanted wanted (history_read history) (certificate_read history text)

-- Where one line is wanted, the order of the certificate was read.
abbrev pub OrderWanted : Wanted → WrittenHistory.History → WrittenCertificate.Certificate → Type 0
OrderWanted (Named w) h c = Unit {0}
OrderWanted OneLine h c = OrderRead h c

-- An answer and a buffer are those of a verdict and the text made.
pub record IsMade (v : Verdict) (t : Option (List ℕ)) (buffer : List ℕ) (r : Result Made Unmade) (after : List ℕ) : Type 0 where
  pub answer : verdict_made r ≡ v
  pub made : is_ok r ≡ eqb v.number 0
  pub long : length_of r ≡ length_made v t
  pub bytes : after ≡ bytes_made v t buffer

-- The same of the record of a certificate that was read, whatever is wanted of it; h is the record of the history text.
pub record IsMadeOf (history : List ℕ) (h : WrittenHistory.History) (c : WrittenCertificate.Certificate) (rows : List (List ℕ)) (w : Wanted)
    (buffer : List ℕ) (r : Result Made Unmade) (after : List ℕ) : Type 0 where
  pub is : IsMade (made_answer (found_in history h.declared c.criterion (check (history_of h) (certificate_of h c rows))) c.criterion
      (crosses_wanted w (history_of h) (certificate_of h c rows)) (text_if_some (events_in h) (lists_wanted w (history_of h) (certificate_of h c rows))) buffer)
      (text_if_some (events_in h) (lists_wanted w (history_of h) (certificate_of h c rows))) buffer r after
