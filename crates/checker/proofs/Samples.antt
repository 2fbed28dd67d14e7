-- Document 01's (p) cases on the texts, with their lines (document 02, T-05) and C's as T-04 has it, and cases of lost answers, of channels,
-- of windows and of strict (T-01, T-02, T-04, T-06), one list, by computation. Assumes nothing.
use Prim.Native.Nat.{ℕ}
use mathlib.Core.Path.{◌≡◌, refl, ap, ap₂, ◌∙◌, subst}
use mathlib.Core.List.{List, [], ◌∷◌, ◌++◌}
use mathlib.Core.Option.{Option, none, some}
use Rattle.certificate.specs.declared.record.Criterion.{Criterion}
use Rattle.certificate.specs.declared.record.Criterion.TheVariants.{Pram, Weak, Causal, Converge, Sequential, Strict}
use Rattle.history_reader.specs.Place.{HistoryText, Place, nowhere, event_place}
use Rattle.history_reader.specs.ReadHistory.{read_history}
use Rattle.certificate_reader.specs.ReadCertificate.{read_certificate}
use Rattle.criteria.specs.History.{History, own}
use Rattle.criteria.specs.Replay.{start, Replays}
use Rattle.criteria.specs.Criteria.{Meets}
use Rattle.criteria.specs.Certificate.{Certificate}
use Rattle.criteria.specs.Check.{Fault, fault12, answer_of, check}
use Rattle.criteria.proofs.Replay.{none-wrong}
use Rattle.criteria.proofs.Samples as lists
use Rattle.checker.specs.CheckText.{Verdict, checked, found_in, history_read, certificate_read, check_text, Accepted, Names, carried_line}
use Rattle.checker.proofs.TextTheorems.{checked-as}
use Rattle.checker.proofs.Demand3.{meets-named}
use Rattle.layout.specs.Split as layout-split
use Rattle.layout.specs.Word as layout-word
use Rattle.layout.specs.Word.{dash, queue_word, channel_word}
use Rattle.layout.specs.Number as layout-number
use Rattle.layout.specs.List as layout-list
use Rattle.history.specs.Record as history-record
use Rattle.history.specs.Kinds as history-kinds
use Rattle.history.specs.Faults as history-faults
use Rattle.history_reader.specs.ReadHistory as history-reader-readhistory
use Rattle.certificate.specs.Record as certificate-record
use Rattle.certificate.specs.Criteria as certificate-criteria
use Rattle.certificate.specs.Faults as certificate-faults
use Rattle.certificate_reader.specs.ReadCertificate as certificate-reader-readcertificate
use Rattle.criteria.specs.History as criteria-history
use Rattle.criteria.specs.Certificate as criteria-certificate
use Rattle.criteria.specs.Check as criteria-check
use Rattle.criteria.specs.Records as CriteriaRecords
use Rattle.checker.specs.CheckText as checker-checktext

-- The answer's number and its view; and with an event, the number of its line in the history text, its start and its end.
abbrev pub answer : Criterion → ℕ → Option ℕ → Verdict
answer c n v = record { number = n; criterion = some c; place = nowhere; view = v; event = none }

abbrev pub answer_at : Criterion → ℕ → Option ℕ → ℕ → ℕ → ℕ → ℕ → Verdict
answer_at c n v e line start end =
    record { number = n; criterion = some c; place = record { text = HistoryText; line = line; start = start; end = end }; view = v; event = some e }

-- ---- the histories
-- A queue; process 0 pushes 7, process 1 pops 7.
abbrev pub Q : List ℕ
Q = 111 ∷ 98 ∷ 106 ∷ 101 ∷ 99 ∷ 116 ∷ 32 ∷ 107 ∷ 105 ∷ 110 ∷ 100 ∷ 32 ∷ 119 ∷ 105 ∷ 100 ∷ 116 ∷ 104 ∷ 10 ∷ 48 ∷ 32 ∷ 113 ∷ 117 ∷ 101 ∷ 117 ∷ 101 ∷ 32 ∷ 45 ∷ 10 ∷ 101 ∷ 118 ∷ 101 ∷ 110 ∷ 116 ∷ 32 ∷ 112 ∷ 114 ∷ 111 ∷ 99 ∷ 101 ∷ 115 ∷ 115 ∷ 32 ∷ 111 ∷ 98 ∷ 106 ∷ 101 ∷ 99 ∷ 116 ∷ 32 ∷ 111 ∷ 112 ∷ 32 ∷ 118 ∷ 97 ∷ 108 ∷ 117 ∷ 101 ∷ 32 ∷ 97 ∷ 110 ∷ 115 ∷ 119 ∷ 101 ∷ 114 ∷ 10 ∷ 48 ∷ 32 ∷ 48 ∷ 32 ∷ 48 ∷ 32 ∷ 112 ∷ 117 ∷ 115 ∷ 104 ∷ 32 ∷ 55 ∷ 32 ∷ 45 ∷ 10 ∷ 49 ∷ 32 ∷ 49 ∷ 32 ∷ 48 ∷ 32 ∷ 112 ∷ 111 ∷ 112 ∷ 32 ∷ 45 ∷ 32 ∷ 55 ∷ 10 ∷ []

-- Its last line: `1 1 0 pop - 7`.
abbrev pub q_pop : List ℕ
q_pop = 49 ∷ 32 ∷ 49 ∷ 32 ∷ 48 ∷ 32 ∷ 112 ∷ 111 ∷ 112 ∷ 32 ∷ 45 ∷ 32 ∷ 55 ∷ []

-- A window of 2; process 0 writes 4 and reads 9,4, process 1 writes 9 and reads 4,9.
abbrev pub W : List ℕ
W = 111 ∷ 98 ∷ 106 ∷ 101 ∷ 99 ∷ 116 ∷ 32 ∷ 107 ∷ 105 ∷ 110 ∷ 100 ∷ 32 ∷ 119 ∷ 105 ∷ 100 ∷ 116 ∷ 104 ∷ 10 ∷ 48 ∷ 32 ∷ 119 ∷ 105 ∷ 110 ∷ 100 ∷ 111 ∷ 119 ∷ 32 ∷ 50 ∷ 10 ∷ 101 ∷ 118 ∷ 101 ∷ 110 ∷ 116 ∷ 32 ∷ 112 ∷ 114 ∷ 111 ∷ 99 ∷ 101 ∷ 115 ∷ 115 ∷ 32 ∷ 111 ∷ 98 ∷ 106 ∷ 101 ∷ 99 ∷ 116 ∷ 32 ∷ 111 ∷ 112 ∷ 32 ∷ 118 ∷ 97 ∷ 108 ∷ 117 ∷ 101 ∷ 32 ∷ 97 ∷ 110 ∷ 115 ∷ 119 ∷ 101 ∷ 114 ∷ 10 ∷ 48 ∷ 32 ∷ 48 ∷ 32 ∷ 48 ∷ 32 ∷ 119 ∷ 114 ∷ 105 ∷ 116 ∷ 101 ∷ 32 ∷ 52 ∷ 32 ∷ 45 ∷ 10 ∷ 49 ∷ 32 ∷ 48 ∷ 32 ∷ 48 ∷ 32 ∷ 114 ∷ 101 ∷ 97 ∷ 100 ∷ 32 ∷ 45 ∷ 32 ∷ 57 ∷ 44 ∷ 52 ∷ 10 ∷ 50 ∷ 32 ∷ 49 ∷ 32 ∷ 48 ∷ 32 ∷ 119 ∷ 114 ∷ 105 ∷ 116 ∷ 101 ∷ 32 ∷ 57 ∷ 32 ∷ 45 ∷ 10 ∷ 51 ∷ 32 ∷ 49 ∷ 32 ∷ 48 ∷ 32 ∷ 114 ∷ 101 ∷ 97 ∷ 100 ∷ 32 ∷ 45 ∷ 32 ∷ 52 ∷ 44 ∷ 57 ∷ 10 ∷ []

-- A window of 2; process 0 writes 4, process 1 writes 9 and reads this answer and 4,9.
abbrev pub CWith : List ℕ → List ℕ
CWith a = 111 ∷ 98 ∷ 106 ∷ 101 ∷ 99 ∷ 116 ∷ 32 ∷ 107 ∷ 105 ∷ 110 ∷ 100 ∷ 32 ∷ 119 ∷ 105 ∷ 100 ∷ 116 ∷ 104 ∷ 10 ∷ 48 ∷ 32 ∷ 119 ∷ 105 ∷ 110 ∷ 100 ∷ 111 ∷ 119 ∷ 32 ∷ 50 ∷ 10 ∷ 101 ∷ 118 ∷ 101 ∷ 110 ∷ 116 ∷ 32 ∷ 112 ∷ 114 ∷ 111 ∷ 99 ∷ 101 ∷ 115 ∷ 115 ∷ 32 ∷ 111 ∷ 98 ∷ 106 ∷ 101 ∷ 99 ∷ 116 ∷ 32 ∷ 111 ∷ 112 ∷ 32 ∷ 118 ∷ 97 ∷ 108 ∷ 117 ∷ 101 ∷ 32 ∷ 97 ∷ 110 ∷ 115 ∷ 119 ∷ 101 ∷ 114 ∷ 10 ∷ 48 ∷ 32 ∷ 48 ∷ 32 ∷ 48 ∷ 32 ∷ 119 ∷ 114 ∷ 105 ∷ 116 ∷ 101 ∷ 32 ∷ 52 ∷ 32 ∷ 45 ∷ 10 ∷ 49 ∷ 32 ∷ 49 ∷ 32 ∷ 48 ∷ 32 ∷ 119 ∷ 114 ∷ 105 ∷ 116 ∷ 101 ∷ 32 ∷ 57 ∷ 32 ∷ 45 ∷ 10 ∷ 50 ∷ 32 ∷ 49 ∷ 32 ∷ 48 ∷ 32 ∷ 114 ∷ 101 ∷ 97 ∷ 100 ∷ 32 ∷ 45 ∷ 32 ∷ (a ++ 10 ∷ 51 ∷ 32 ∷ 49 ∷ 32 ∷ 48 ∷ 32 ∷ 114 ∷ 101 ∷ 97 ∷ 100 ∷ 32 ∷ 45 ∷ 32 ∷ 52 ∷ 44 ∷ 57 ∷ 10 ∷ [])

-- C, where the first of these answers is 9.
abbrev pub C : List ℕ
C = CWith (57 ∷ [])

-- A register; processes 0 and 1 write 3 and 8, process 2 reads 3, 8, 3.
abbrev pub R : List ℕ
R = 111 ∷ 98 ∷ 106 ∷ 101 ∷ 99 ∷ 116 ∷ 32 ∷ 107 ∷ 105 ∷ 110 ∷ 100 ∷ 32 ∷ 119 ∷ 105 ∷ 100 ∷ 116 ∷ 104 ∷ 10 ∷ 48 ∷ 32 ∷ 114 ∷ 101 ∷ 103 ∷ 105 ∷ 115 ∷ 116 ∷ 101 ∷ 114 ∷ 32 ∷ 45 ∷ 10 ∷ 101 ∷ 118 ∷ 101 ∷ 110 ∷ 116 ∷ 32 ∷ 112 ∷ 114 ∷ 111 ∷ 99 ∷ 101 ∷ 115 ∷ 115 ∷ 32 ∷ 111 ∷ 98 ∷ 106 ∷ 101 ∷ 99 ∷ 116 ∷ 32 ∷ 111 ∷ 112 ∷ 32 ∷ 118 ∷ 97 ∷ 108 ∷ 117 ∷ 101 ∷ 32 ∷ 97 ∷ 110 ∷ 115 ∷ 119 ∷ 101 ∷ 114 ∷ 10 ∷ 48 ∷ 32 ∷ 48 ∷ 32 ∷ 48 ∷ 32 ∷ 119 ∷ 114 ∷ 105 ∷ 116 ∷ 101 ∷ 32 ∷ 51 ∷ 32 ∷ 45 ∷ 10 ∷ 49 ∷ 32 ∷ 49 ∷ 32 ∷ 48 ∷ 32 ∷ 119 ∷ 114 ∷ 105 ∷ 116 ∷ 101 ∷ 32 ∷ 56 ∷ 32 ∷ 45 ∷ 10 ∷ 50 ∷ 32 ∷ 50 ∷ 32 ∷ 48 ∷ 32 ∷ 114 ∷ 101 ∷ 97 ∷ 100 ∷ 32 ∷ 45 ∷ 32 ∷ 51 ∷ 10 ∷ 51 ∷ 32 ∷ 50 ∷ 32 ∷ 48 ∷ 32 ∷ 114 ∷ 101 ∷ 97 ∷ 100 ∷ 32 ∷ 45 ∷ 32 ∷ 56 ∷ 10 ∷ 52 ∷ 32 ∷ 50 ∷ 32 ∷ 48 ∷ 32 ∷ 114 ∷ 101 ∷ 97 ∷ 100 ∷ 32 ∷ 45 ∷ 32 ∷ 51 ∷ 10 ∷ []

-- Two registers.
abbrev pub M : List ℕ
M = 111 ∷ 98 ∷ 106 ∷ 101 ∷ 99 ∷ 116 ∷ 32 ∷ 107 ∷ 105 ∷ 110 ∷ 100 ∷ 32 ∷ 119 ∷ 105 ∷ 100 ∷ 116 ∷ 104 ∷ 10 ∷ 48 ∷ 32 ∷ 114 ∷ 101 ∷ 103 ∷ 105 ∷ 115 ∷ 116 ∷ 101 ∷ 114 ∷ 32 ∷ 45 ∷ 10 ∷ 49 ∷ 32 ∷ 114 ∷ 101 ∷ 103 ∷ 105 ∷ 115 ∷ 116 ∷ 101 ∷ 114 ∷ 32 ∷ 45 ∷ 10 ∷ 101 ∷ 118 ∷ 101 ∷ 110 ∷ 116 ∷ 32 ∷ 112 ∷ 114 ∷ 111 ∷ 99 ∷ 101 ∷ 115 ∷ 115 ∷ 32 ∷ 111 ∷ 98 ∷ 106 ∷ 101 ∷ 99 ∷ 116 ∷ 32 ∷ 111 ∷ 112 ∷ 32 ∷ 118 ∷ 97 ∷ 108 ∷ 117 ∷ 101 ∷ 32 ∷ 97 ∷ 110 ∷ 115 ∷ 119 ∷ 101 ∷ 114 ∷ 10 ∷ 48 ∷ 32 ∷ 48 ∷ 32 ∷ 48 ∷ 32 ∷ 119 ∷ 114 ∷ 105 ∷ 116 ∷ 101 ∷ 32 ∷ 53 ∷ 32 ∷ 45 ∷ 10 ∷ 49 ∷ 32 ∷ 49 ∷ 32 ∷ 48 ∷ 32 ∷ 114 ∷ 101 ∷ 97 ∷ 100 ∷ 32 ∷ 45 ∷ 32 ∷ 53 ∷ 10 ∷ 50 ∷ 32 ∷ 49 ∷ 32 ∷ 49 ∷ 32 ∷ 119 ∷ 114 ∷ 105 ∷ 116 ∷ 101 ∷ 32 ∷ 54 ∷ 32 ∷ 45 ∷ 10 ∷ 51 ∷ 32 ∷ 50 ∷ 32 ∷ 49 ∷ 32 ∷ 114 ∷ 101 ∷ 97 ∷ 100 ∷ 32 ∷ 45 ∷ 32 ∷ 54 ∷ 10 ∷ 52 ∷ 32 ∷ 50 ∷ 32 ∷ 48 ∷ 32 ∷ 114 ∷ 101 ∷ 97 ∷ 100 ∷ 32 ∷ 45 ∷ 32 ∷ 48 ∷ 10 ∷ []

-- No objects and no events.
abbrev pub Nothing : List ℕ
Nothing = 111 ∷ 98 ∷ 106 ∷ 101 ∷ 99 ∷ 116 ∷ 32 ∷ 107 ∷ 105 ∷ 110 ∷ 100 ∷ 32 ∷ 119 ∷ 105 ∷ 100 ∷ 116 ∷ 104 ∷ 10 ∷ 101 ∷ 118 ∷ 101 ∷ 110 ∷ 116 ∷ 32 ∷ 112 ∷ 114 ∷ 111 ∷ 99 ∷ 101 ∷ 115 ∷ 115 ∷ 32 ∷ 111 ∷ 98 ∷ 106 ∷ 101 ∷ 99 ∷ 116 ∷ 32 ∷ 111 ∷ 112 ∷ 32 ∷ 118 ∷ 97 ∷ 108 ∷ 117 ∷ 101 ∷ 32 ∷ 97 ∷ 110 ∷ 115 ∷ 119 ∷ 101 ∷ 114 ∷ 10 ∷ []

-- Q with the answer of event 1 lost: `1 1 0 pop - ?`.
abbrev pub Lost : List ℕ
Lost = 111 ∷ 98 ∷ 106 ∷ 101 ∷ 99 ∷ 116 ∷ 32 ∷ 107 ∷ 105 ∷ 110 ∷ 100 ∷ 32 ∷ 119 ∷ 105 ∷ 100 ∷ 116 ∷ 104 ∷ 10 ∷ 48 ∷ 32 ∷ 113 ∷ 117 ∷ 101 ∷ 117 ∷ 101 ∷ 32 ∷ 45 ∷ 10 ∷ 101 ∷ 118 ∷ 101 ∷ 110 ∷ 116 ∷ 32 ∷ 112 ∷ 114 ∷ 111 ∷ 99 ∷ 101 ∷ 115 ∷ 115 ∷ 32 ∷ 111 ∷ 98 ∷ 106 ∷ 101 ∷ 99 ∷ 116 ∷ 32 ∷ 111 ∷ 112 ∷ 32 ∷ 118 ∷ 97 ∷ 108 ∷ 117 ∷ 101 ∷ 32 ∷ 97 ∷ 110 ∷ 115 ∷ 119 ∷ 101 ∷ 114 ∷ 10 ∷ 48 ∷ 32 ∷ 48 ∷ 32 ∷ 48 ∷ 32 ∷ 112 ∷ 117 ∷ 115 ∷ 104 ∷ 32 ∷ 55 ∷ 32 ∷ 45 ∷ 10 ∷ 49 ∷ 32 ∷ 49 ∷ 32 ∷ 48 ∷ 32 ∷ 112 ∷ 111 ∷ 112 ∷ 32 ∷ 45 ∷ 32 ∷ 63 ∷ 10 ∷ []

-- Lost, and process 1 pops once more: 7, where nothing is left to pop.
abbrev pub LostThenSeven : List ℕ
LostThenSeven = 111 ∷ 98 ∷ 106 ∷ 101 ∷ 99 ∷ 116 ∷ 32 ∷ 107 ∷ 105 ∷ 110 ∷ 100 ∷ 32 ∷ 119 ∷ 105 ∷ 100 ∷ 116 ∷ 104 ∷ 10 ∷ 48 ∷ 32 ∷ 113 ∷ 117 ∷ 101 ∷ 117 ∷ 101 ∷ 32 ∷ 45 ∷ 10 ∷ 101 ∷ 118 ∷ 101 ∷ 110 ∷ 116 ∷ 32 ∷ 112 ∷ 114 ∷ 111 ∷ 99 ∷ 101 ∷ 115 ∷ 115 ∷ 32 ∷ 111 ∷ 98 ∷ 106 ∷ 101 ∷ 99 ∷ 116 ∷ 32 ∷ 111 ∷ 112 ∷ 32 ∷ 118 ∷ 97 ∷ 108 ∷ 117 ∷ 101 ∷ 32 ∷ 97 ∷ 110 ∷ 115 ∷ 119 ∷ 101 ∷ 114 ∷ 10 ∷ 48 ∷ 32 ∷ 48 ∷ 32 ∷ 48 ∷ 32 ∷ 112 ∷ 117 ∷ 115 ∷ 104 ∷ 32 ∷ 55 ∷ 32 ∷ 45 ∷ 10 ∷ 49 ∷ 32 ∷ 49 ∷ 32 ∷ 48 ∷ 32 ∷ 112 ∷ 111 ∷ 112 ∷ 32 ∷ 45 ∷ 32 ∷ 63 ∷ 10 ∷ 50 ∷ 32 ∷ 49 ∷ 32 ∷ 48 ∷ 32 ∷ 112 ∷ 111 ∷ 112 ∷ 32 ∷ 45 ∷ 32 ∷ 55 ∷ 10 ∷ []

-- Lost, and process 1 pops once more and finds nothing.
abbrev pub LostThenNone : List ℕ
LostThenNone = 111 ∷ 98 ∷ 106 ∷ 101 ∷ 99 ∷ 116 ∷ 32 ∷ 107 ∷ 105 ∷ 110 ∷ 100 ∷ 32 ∷ 119 ∷ 105 ∷ 100 ∷ 116 ∷ 104 ∷ 10 ∷ 48 ∷ 32 ∷ 113 ∷ 117 ∷ 101 ∷ 117 ∷ 101 ∷ 32 ∷ 45 ∷ 10 ∷ 101 ∷ 118 ∷ 101 ∷ 110 ∷ 116 ∷ 32 ∷ 112 ∷ 114 ∷ 111 ∷ 99 ∷ 101 ∷ 115 ∷ 115 ∷ 32 ∷ 111 ∷ 98 ∷ 106 ∷ 101 ∷ 99 ∷ 116 ∷ 32 ∷ 111 ∷ 112 ∷ 32 ∷ 118 ∷ 97 ∷ 108 ∷ 117 ∷ 101 ∷ 32 ∷ 97 ∷ 110 ∷ 115 ∷ 119 ∷ 101 ∷ 114 ∷ 10 ∷ 48 ∷ 32 ∷ 48 ∷ 32 ∷ 48 ∷ 32 ∷ 112 ∷ 117 ∷ 115 ∷ 104 ∷ 32 ∷ 55 ∷ 32 ∷ 45 ∷ 10 ∷ 49 ∷ 32 ∷ 49 ∷ 32 ∷ 48 ∷ 32 ∷ 112 ∷ 111 ∷ 112 ∷ 32 ∷ 45 ∷ 32 ∷ 63 ∷ 10 ∷ 50 ∷ 32 ∷ 49 ∷ 32 ∷ 48 ∷ 32 ∷ 112 ∷ 111 ∷ 112 ∷ 32 ∷ 45 ∷ 32 ∷ 45 ∷ 10 ∷ []

-- `?` is the answer of an op that a register does not have.
abbrev pub LostOfRegister : List ℕ
LostOfRegister = 111 ∷ 98 ∷ 106 ∷ 101 ∷ 99 ∷ 116 ∷ 32 ∷ 107 ∷ 105 ∷ 110 ∷ 100 ∷ 32 ∷ 119 ∷ 105 ∷ 100 ∷ 116 ∷ 104 ∷ 10 ∷ 48 ∷ 32 ∷ 114 ∷ 101 ∷ 103 ∷ 105 ∷ 115 ∷ 116 ∷ 101 ∷ 114 ∷ 32 ∷ 45 ∷ 10 ∷ 101 ∷ 118 ∷ 101 ∷ 110 ∷ 116 ∷ 32 ∷ 112 ∷ 114 ∷ 111 ∷ 99 ∷ 101 ∷ 115 ∷ 115 ∷ 32 ∷ 111 ∷ 98 ∷ 106 ∷ 101 ∷ 99 ∷ 116 ∷ 32 ∷ 111 ∷ 112 ∷ 32 ∷ 118 ∷ 97 ∷ 108 ∷ 117 ∷ 101 ∷ 32 ∷ 97 ∷ 110 ∷ 115 ∷ 119 ∷ 101 ∷ 114 ∷ 10 ∷ 48 ∷ 32 ∷ 48 ∷ 32 ∷ 48 ∷ 32 ∷ 119 ∷ 114 ∷ 105 ∷ 116 ∷ 101 ∷ 32 ∷ 55 ∷ 32 ∷ 45 ∷ 10 ∷ 49 ∷ 32 ∷ 49 ∷ 32 ∷ 48 ∷ 32 ∷ 112 ∷ 111 ∷ 112 ∷ 32 ∷ 45 ∷ 32 ∷ 63 ∷ 10 ∷ []

-- `?` stands in a list: `1 1 0 pop - ?,7`.
abbrev pub LostInList : List ℕ
LostInList = 111 ∷ 98 ∷ 106 ∷ 101 ∷ 99 ∷ 116 ∷ 32 ∷ 107 ∷ 105 ∷ 110 ∷ 100 ∷ 32 ∷ 119 ∷ 105 ∷ 100 ∷ 116 ∷ 104 ∷ 10 ∷ 48 ∷ 32 ∷ 113 ∷ 117 ∷ 101 ∷ 117 ∷ 101 ∷ 32 ∷ 45 ∷ 10 ∷ 101 ∷ 118 ∷ 101 ∷ 110 ∷ 116 ∷ 32 ∷ 112 ∷ 114 ∷ 111 ∷ 99 ∷ 101 ∷ 115 ∷ 115 ∷ 32 ∷ 111 ∷ 98 ∷ 106 ∷ 101 ∷ 99 ∷ 116 ∷ 32 ∷ 111 ∷ 112 ∷ 32 ∷ 118 ∷ 97 ∷ 108 ∷ 117 ∷ 101 ∷ 32 ∷ 97 ∷ 110 ∷ 115 ∷ 119 ∷ 101 ∷ 114 ∷ 10 ∷ 48 ∷ 32 ∷ 48 ∷ 32 ∷ 48 ∷ 32 ∷ 112 ∷ 117 ∷ 115 ∷ 104 ∷ 32 ∷ 55 ∷ 32 ∷ 45 ∷ 10 ∷ 49 ∷ 32 ∷ 49 ∷ 32 ∷ 48 ∷ 32 ∷ 112 ∷ 111 ∷ 112 ∷ 32 ∷ 45 ∷ 32 ∷ 63 ∷ 44 ∷ 55 ∷ 10 ∷ []

-- A channel of capacity 1; process 0 pushes 5, answer a, process 1 pushes 6, answer b, process 0 pops 5. Each of the two answers is one
-- byte.
abbrev pub OneSlot : ℕ → ℕ → List ℕ
OneSlot a b = 111 ∷ 98 ∷ 106 ∷ 101 ∷ 99 ∷ 116 ∷ 32 ∷ 107 ∷ 105 ∷ 110 ∷ 100 ∷ 32 ∷ 119 ∷ 105 ∷ 100 ∷ 116 ∷ 104 ∷ 10 ∷ 48 ∷ 32 ∷ 99 ∷ 104 ∷ 97 ∷ 110 ∷ 110 ∷ 101 ∷ 108 ∷ 32 ∷ 49 ∷ 10 ∷ 101 ∷ 118 ∷ 101 ∷ 110 ∷ 116 ∷ 32 ∷ 112 ∷ 114 ∷ 111 ∷ 99 ∷ 101 ∷ 115 ∷ 115 ∷ 32 ∷ 111 ∷ 98 ∷ 106 ∷ 101 ∷ 99 ∷ 116 ∷ 32 ∷ 111 ∷ 112 ∷ 32 ∷ 118 ∷ 97 ∷ 108 ∷ 117 ∷ 101 ∷ 32 ∷ 97 ∷ 110 ∷ 115 ∷ 119 ∷ 101 ∷ 114 ∷ 10 ∷ 48 ∷ 32 ∷ 48 ∷ 32 ∷ 48 ∷ 32 ∷ 112 ∷ 117 ∷ 115 ∷ 104 ∷ 32 ∷ 53 ∷ 32 ∷ a ∷ 10 ∷ 49 ∷ 32 ∷ 49 ∷ 32 ∷ 48 ∷ 32 ∷ 112 ∷ 117 ∷ 115 ∷ 104 ∷ 32 ∷ 54 ∷ 32 ∷ b ∷ 10 ∷ 50 ∷ 32 ∷ 48 ∷ 32 ∷ 48 ∷ 32 ∷ 112 ∷ 111 ∷ 112 ∷ 32 ∷ 45 ∷ 32 ∷ 53 ∷ 10 ∷ []

-- A window of 1; process 0 reads this answer, before anything is written.
abbrev pub Unscanned : List ℕ → List ℕ
Unscanned a = 111 ∷ 98 ∷ 106 ∷ 101 ∷ 99 ∷ 116 ∷ 32 ∷ 107 ∷ 105 ∷ 110 ∷ 100 ∷ 32 ∷ 119 ∷ 105 ∷ 100 ∷ 116 ∷ 104 ∷ 10 ∷ 48 ∷ 32 ∷ 119 ∷ 105 ∷ 110 ∷ 100 ∷ 111 ∷ 119 ∷ 32 ∷ 49 ∷ 10 ∷ 101 ∷ 118 ∷ 101 ∷ 110 ∷ 116 ∷ 32 ∷ 112 ∷ 114 ∷ 111 ∷ 99 ∷ 101 ∷ 115 ∷ 115 ∷ 32 ∷ 111 ∷ 98 ∷ 106 ∷ 101 ∷ 99 ∷ 116 ∷ 32 ∷ 111 ∷ 112 ∷ 32 ∷ 118 ∷ 97 ∷ 108 ∷ 117 ∷ 101 ∷ 32 ∷ 97 ∷ 110 ∷ 115 ∷ 119 ∷ 101 ∷ 114 ∷ 10 ∷ 48 ∷ 32 ∷ 48 ∷ 32 ∷ 48 ∷ 32 ∷ 114 ∷ 101 ∷ 97 ∷ 100 ∷ 32 ∷ 45 ∷ 32 ∷ (a ++ 10 ∷ [])

-- Source document 001's example, with 1, 2 and 3 for a, b and c: a stack; process 0 pushes 1 and 3 and pops 3, process 1 pops 1, pushes
-- 2 and pops 2, process 2 pops 1 and 2.
abbrev pub Stack : List ℕ
Stack = 111 ∷ 98 ∷ 106 ∷ 101 ∷ 99 ∷ 116 ∷ 32 ∷ 107 ∷ 105 ∷ 110 ∷ 100 ∷ 32 ∷ 119 ∷ 105 ∷ 100 ∷ 116 ∷ 104 ∷ 10 ∷ 48 ∷ 32 ∷ 115 ∷ 116 ∷ 97 ∷ 99 ∷ 107 ∷ 32 ∷ 45 ∷ 10 ∷ 101 ∷ 118 ∷ 101 ∷ 110 ∷ 116 ∷ 32 ∷ 112 ∷ 114 ∷ 111 ∷ 99 ∷ 101 ∷ 115 ∷ 115 ∷ 32 ∷ 111 ∷ 98 ∷ 106 ∷ 101 ∷ 99 ∷ 116 ∷ 32 ∷ 111 ∷ 112 ∷ 32 ∷ 118 ∷ 97 ∷ 108 ∷ 117 ∷ 101 ∷ 32 ∷ 97 ∷ 110 ∷ 115 ∷ 119 ∷ 101 ∷ 114 ∷ 10 ∷ 48 ∷ 32 ∷ 48 ∷ 32 ∷ 48 ∷ 32 ∷ 112 ∷ 117 ∷ 115 ∷ 104 ∷ 32 ∷ 49 ∷ 32 ∷ 45 ∷ 10 ∷ 49 ∷ 32 ∷ 48 ∷ 32 ∷ 48 ∷ 32 ∷ 112 ∷ 117 ∷ 115 ∷ 104 ∷ 32 ∷ 51 ∷ 32 ∷ 45 ∷ 10 ∷ 50 ∷ 32 ∷ 48 ∷ 32 ∷ 48 ∷ 32 ∷ 112 ∷ 111 ∷ 112 ∷ 32 ∷ 45 ∷ 32 ∷ 51 ∷ 10 ∷ 51 ∷ 32 ∷ 49 ∷ 32 ∷ 48 ∷ 32 ∷ 112 ∷ 111 ∷ 112 ∷ 32 ∷ 45 ∷ 32 ∷ 49 ∷ 10 ∷ 52 ∷ 32 ∷ 49 ∷ 32 ∷ 48 ∷ 32 ∷ 112 ∷ 117 ∷ 115 ∷ 104 ∷ 32 ∷ 50 ∷ 32 ∷ 45 ∷ 10 ∷ 53 ∷ 32 ∷ 49 ∷ 32 ∷ 48 ∷ 32 ∷ 112 ∷ 111 ∷ 112 ∷ 32 ∷ 45 ∷ 32 ∷ 50 ∷ 10 ∷ 54 ∷ 32 ∷ 50 ∷ 32 ∷ 48 ∷ 32 ∷ 112 ∷ 111 ∷ 112 ∷ 32 ∷ 45 ∷ 32 ∷ 49 ∷ 10 ∷ 55 ∷ 32 ∷ 50 ∷ 32 ∷ 48 ∷ 32 ∷ 112 ∷ 111 ∷ 112 ∷ 32 ∷ 45 ∷ 32 ∷ 50 ∷ 10 ∷ []

-- One object of a kind and a width, and no event.
abbrev pub OneObject : List ℕ → List ℕ → List ℕ
OneObject kind width = 111 ∷ 98 ∷ 106 ∷ 101 ∷ 99 ∷ 116 ∷ 32 ∷ 107 ∷ 105 ∷ 110 ∷ 100 ∷ 32 ∷ 119 ∷ 105 ∷ 100 ∷ 116 ∷ 104 ∷ 10 ∷ 48 ∷ 32 ∷ (kind ++ (32 ∷ (width ++ (10 ∷ 101 ∷ 118 ∷ 101 ∷ 110 ∷ 116 ∷ 32 ∷ 112 ∷ 114 ∷ 111 ∷ 99 ∷ 101 ∷ 115 ∷ 115 ∷ 32 ∷ 111 ∷ 98 ∷ 106 ∷ 101 ∷ 99 ∷ 116 ∷ 32 ∷ 111 ∷ 112 ∷ 32 ∷ 118 ∷ 97 ∷ 108 ∷ 117 ∷ 101 ∷ 32 ∷ 97 ∷ 110 ∷ 115 ∷ 119 ∷ 101 ∷ 114 ∷ 10 ∷ []))))

-- ---- the certificates
-- Of Q: `criterion sequential`, `view order`, `0 0,1`.
abbrev pub q-sequential-text : List ℕ
q-sequential-text = 99 ∷ 114 ∷ 105 ∷ 116 ∷ 101 ∷ 114 ∷ 105 ∷ 111 ∷ 110 ∷ 32 ∷ 115 ∷ 101 ∷ 113 ∷ 117 ∷ 101 ∷ 110 ∷ 116 ∷ 105 ∷ 97 ∷ 108 ∷ 10 ∷ 118 ∷ 105 ∷ 101 ∷ 119 ∷ 32 ∷ 111 ∷ 114 ∷ 100 ∷ 101 ∷ 114 ∷ 10 ∷ 48 ∷ 32 ∷ 48 ∷ 44 ∷ 49 ∷ 10 ∷ []

-- Of Q: `criterion sequential`, `view order`, `0 1,0`.
abbrev pub q-turned-text : List ℕ
q-turned-text = 99 ∷ 114 ∷ 105 ∷ 116 ∷ 101 ∷ 114 ∷ 105 ∷ 111 ∷ 110 ∷ 32 ∷ 115 ∷ 101 ∷ 113 ∷ 117 ∷ 101 ∷ 110 ∷ 116 ∷ 105 ∷ 97 ∷ 108 ∷ 10 ∷ 118 ∷ 105 ∷ 101 ∷ 119 ∷ 32 ∷ 111 ∷ 114 ∷ 100 ∷ 101 ∷ 114 ∷ 10 ∷ 48 ∷ 32 ∷ 49 ∷ 44 ∷ 48 ∷ 10 ∷ []

-- Of Q, and of Unscanned: `criterion sequential`, `view order`, `0 0`.
abbrev pub q-short-text : List ℕ
q-short-text = 99 ∷ 114 ∷ 105 ∷ 116 ∷ 101 ∷ 114 ∷ 105 ∷ 111 ∷ 110 ∷ 32 ∷ 115 ∷ 101 ∷ 113 ∷ 117 ∷ 101 ∷ 110 ∷ 116 ∷ 105 ∷ 97 ∷ 108 ∷ 10 ∷ 118 ∷ 105 ∷ 101 ∷ 119 ∷ 32 ∷ 111 ∷ 114 ∷ 100 ∷ 101 ∷ 114 ∷ 10 ∷ 48 ∷ 32 ∷ 48 ∷ 10 ∷ []

-- Of Q: `criterion pram`, `view order`, `0 0,1`, `1 0,1`.
abbrev pub q-pram-text : List ℕ
q-pram-text = 99 ∷ 114 ∷ 105 ∷ 116 ∷ 101 ∷ 114 ∷ 105 ∷ 111 ∷ 110 ∷ 32 ∷ 112 ∷ 114 ∷ 97 ∷ 109 ∷ 10 ∷ 118 ∷ 105 ∷ 101 ∷ 119 ∷ 32 ∷ 111 ∷ 114 ∷ 100 ∷ 101 ∷ 114 ∷ 10 ∷ 48 ∷ 32 ∷ 48 ∷ 44 ∷ 49 ∷ 10 ∷ 49 ∷ 32 ∷ 48 ∷ 44 ∷ 49 ∷ 10 ∷ []

-- Of W: `criterion causal`, `event past`, `0 -`, `1 0,2`, `2 -`, `3 0,2`, `view order`, `0 0`, `1 2,0,1`, `2 2`, `3 0,2,3`.
abbrev pub w-causal-text : List ℕ
w-causal-text = 99 ∷ 114 ∷ 105 ∷ 116 ∷ 101 ∷ 114 ∷ 105 ∷ 111 ∷ 110 ∷ 32 ∷ 99 ∷ 97 ∷ 117 ∷ 115 ∷ 97 ∷ 108 ∷ 10 ∷ 101 ∷ 118 ∷ 101 ∷ 110 ∷ 116 ∷ 32 ∷ 112 ∷ 97 ∷ 115 ∷ 116 ∷ 10 ∷ 48 ∷ 32 ∷ 45 ∷ 10 ∷ 49 ∷ 32 ∷ 48 ∷ 44 ∷ 50 ∷ 10 ∷ 50 ∷ 32 ∷ 45 ∷ 10 ∷ 51 ∷ 32 ∷ 48 ∷ 44 ∷ 50 ∷ 10 ∷ 118 ∷ 105 ∷ 101 ∷ 119 ∷ 32 ∷ 111 ∷ 114 ∷ 100 ∷ 101 ∷ 114 ∷ 10 ∷ 48 ∷ 32 ∷ 48 ∷ 10 ∷ 49 ∷ 32 ∷ 50 ∷ 44 ∷ 48 ∷ 44 ∷ 49 ∷ 10 ∷ 50 ∷ 32 ∷ 50 ∷ 10 ∷ 51 ∷ 32 ∷ 48 ∷ 44 ∷ 50 ∷ 44 ∷ 51 ∷ 10 ∷ []

-- Of W: `criterion causal`, `event past`, `0 -`, `1 2`, `2 -`, `3 0,2`, `view order`, `0 0`, `1 2,0,1`, `2 2`, `3 0,2,3`.
abbrev pub w-past-text : List ℕ
w-past-text = 99 ∷ 114 ∷ 105 ∷ 116 ∷ 101 ∷ 114 ∷ 105 ∷ 111 ∷ 110 ∷ 32 ∷ 99 ∷ 97 ∷ 117 ∷ 115 ∷ 97 ∷ 108 ∷ 10 ∷ 101 ∷ 118 ∷ 101 ∷ 110 ∷ 116 ∷ 32 ∷ 112 ∷ 97 ∷ 115 ∷ 116 ∷ 10 ∷ 48 ∷ 32 ∷ 45 ∷ 10 ∷ 49 ∷ 32 ∷ 50 ∷ 10 ∷ 50 ∷ 32 ∷ 45 ∷ 10 ∷ 51 ∷ 32 ∷ 48 ∷ 44 ∷ 50 ∷ 10 ∷ 118 ∷ 105 ∷ 101 ∷ 119 ∷ 32 ∷ 111 ∷ 114 ∷ 100 ∷ 101 ∷ 114 ∷ 10 ∷ 48 ∷ 32 ∷ 48 ∷ 10 ∷ 49 ∷ 32 ∷ 50 ∷ 44 ∷ 48 ∷ 44 ∷ 49 ∷ 10 ∷ 50 ∷ 32 ∷ 50 ∷ 10 ∷ 51 ∷ 32 ∷ 48 ∷ 44 ∷ 50 ∷ 44 ∷ 51 ∷ 10 ∷ []

-- Of C: `criterion converge`, `event past`, `0 -`, `1 -`, `2 1`, `3 0,1,2`, `view order`, `0 0,1,2,3`.
abbrev pub c-converge-text : List ℕ
c-converge-text = 99 ∷ 114 ∷ 105 ∷ 116 ∷ 101 ∷ 114 ∷ 105 ∷ 111 ∷ 110 ∷ 32 ∷ 99 ∷ 111 ∷ 110 ∷ 118 ∷ 101 ∷ 114 ∷ 103 ∷ 101 ∷ 10 ∷ 101 ∷ 118 ∷ 101 ∷ 110 ∷ 116 ∷ 32 ∷ 112 ∷ 97 ∷ 115 ∷ 116 ∷ 10 ∷ 48 ∷ 32 ∷ 45 ∷ 10 ∷ 49 ∷ 32 ∷ 45 ∷ 10 ∷ 50 ∷ 32 ∷ 49 ∷ 10 ∷ 51 ∷ 32 ∷ 48 ∷ 44 ∷ 49 ∷ 44 ∷ 50 ∷ 10 ∷ 118 ∷ 105 ∷ 101 ∷ 119 ∷ 32 ∷ 111 ∷ 114 ∷ 100 ∷ 101 ∷ 114 ∷ 10 ∷ 48 ∷ 32 ∷ 48 ∷ 44 ∷ 49 ∷ 44 ∷ 50 ∷ 44 ∷ 51 ∷ 10 ∷ []

-- Of W: `criterion strict`, `event past`, `0 -`, `1 0,2`, `2 -`, `3 0,2`, `view order`, `0 2,0,1,3`, `1 0,2,3,1`.
abbrev pub w-strict-text : List ℕ
w-strict-text = 99 ∷ 114 ∷ 105 ∷ 116 ∷ 101 ∷ 114 ∷ 105 ∷ 111 ∷ 110 ∷ 32 ∷ 115 ∷ 116 ∷ 114 ∷ 105 ∷ 99 ∷ 116 ∷ 10 ∷ 101 ∷ 118 ∷ 101 ∷ 110 ∷ 116 ∷ 32 ∷ 112 ∷ 97 ∷ 115 ∷ 116 ∷ 10 ∷ 48 ∷ 32 ∷ 45 ∷ 10 ∷ 49 ∷ 32 ∷ 48 ∷ 44 ∷ 50 ∷ 10 ∷ 50 ∷ 32 ∷ 45 ∷ 10 ∷ 51 ∷ 32 ∷ 48 ∷ 44 ∷ 50 ∷ 10 ∷ 118 ∷ 105 ∷ 101 ∷ 119 ∷ 32 ∷ 111 ∷ 114 ∷ 100 ∷ 101 ∷ 114 ∷ 10 ∷ 48 ∷ 32 ∷ 50 ∷ 44 ∷ 48 ∷ 44 ∷ 49 ∷ 44 ∷ 51 ∷ 10 ∷ 49 ∷ 32 ∷ 48 ∷ 44 ∷ 50 ∷ 44 ∷ 51 ∷ 44 ∷ 49 ∷ 10 ∷ []

-- Of Stack: `criterion strict`, `event past`, `0 -`, `1 0`, `2 0,1`, `3 0`, `4 0,3`, `5 0,3,4`, `6 0`, `7 0,3,4,6`, `view order`,
-- `0 0,1,2,3,4,5,6,7`, `1 0,3,4,5,6,7,1,2`, `2 0,6,3,4,7,5,1,2`.
abbrev pub stack-strict-text : List ℕ
stack-strict-text = 99 ∷ 114 ∷ 105 ∷ 116 ∷ 101 ∷ 114 ∷ 105 ∷ 111 ∷ 110 ∷ 32 ∷ 115 ∷ 116 ∷ 114 ∷ 105 ∷ 99 ∷ 116 ∷ 10 ∷ 101 ∷ 118 ∷ 101 ∷ 110 ∷ 116 ∷ 32 ∷ 112 ∷ 97 ∷ 115 ∷ 116 ∷ 10 ∷ 48 ∷ 32 ∷ 45 ∷ 10 ∷ 49 ∷ 32 ∷ 48 ∷ 10 ∷ 50 ∷ 32 ∷ 48 ∷ 44 ∷ 49 ∷ 10 ∷ 51 ∷ 32 ∷ 48 ∷ 10 ∷ 52 ∷ 32 ∷ 48 ∷ 44 ∷ 51 ∷ 10 ∷ 53 ∷ 32 ∷ 48 ∷ 44 ∷ 51 ∷ 44 ∷ 52 ∷ 10 ∷ 54 ∷ 32 ∷ 48 ∷ 10 ∷ 55 ∷ 32 ∷ 48 ∷ 44 ∷ 51 ∷ 44 ∷ 52 ∷ 44 ∷ 54 ∷ 10 ∷ 118 ∷ 105 ∷ 101 ∷ 119 ∷ 32 ∷ 111 ∷ 114 ∷ 100 ∷ 101 ∷ 114 ∷ 10 ∷ 48 ∷ 32 ∷ 48 ∷ 44 ∷ 49 ∷ 44 ∷ 50 ∷ 44 ∷ 51 ∷ 44 ∷ 52 ∷ 44 ∷ 53 ∷ 44 ∷ 54 ∷ 44 ∷ 55 ∷ 10 ∷ 49 ∷ 32 ∷ 48 ∷ 44 ∷ 51 ∷ 44 ∷ 52 ∷ 44 ∷ 53 ∷ 44 ∷ 54 ∷ 44 ∷ 55 ∷ 44 ∷ 49 ∷ 44 ∷ 50 ∷ 10 ∷ 50 ∷ 32 ∷ 48 ∷ 44 ∷ 54 ∷ 44 ∷ 51 ∷ 44 ∷ 52 ∷ 44 ∷ 55 ∷ 44 ∷ 53 ∷ 44 ∷ 49 ∷ 44 ∷ 50 ∷ 10 ∷ []

-- Of R: `criterion weak`, `event past`, `0 -`, `1 -`, `2 -`, `3 0,1,2,3`, `4 0,1,2,3`, `view order`, `0 0`, `1 1`, `2 0,2`, `3 0,1,3`, `4 1,0,4`.
abbrev pub r-inside-text : List ℕ
r-inside-text = 99 ∷ 114 ∷ 105 ∷ 116 ∷ 101 ∷ 114 ∷ 105 ∷ 111 ∷ 110 ∷ 32 ∷ 119 ∷ 101 ∷ 97 ∷ 107 ∷ 10 ∷ 101 ∷ 118 ∷ 101 ∷ 110 ∷ 116 ∷ 32 ∷ 112 ∷ 97 ∷ 115 ∷ 116 ∷ 10 ∷ 48 ∷ 32 ∷ 45 ∷ 10 ∷ 49 ∷ 32 ∷ 45 ∷ 10 ∷ 50 ∷ 32 ∷ 45 ∷ 10 ∷ 51 ∷ 32 ∷ 48 ∷ 44 ∷ 49 ∷ 44 ∷ 50 ∷ 44 ∷ 51 ∷ 10 ∷ 52 ∷ 32 ∷ 48 ∷ 44 ∷ 49 ∷ 44 ∷ 50 ∷ 44 ∷ 51 ∷ 10 ∷ 118 ∷ 105 ∷ 101 ∷ 119 ∷ 32 ∷ 111 ∷ 114 ∷ 100 ∷ 101 ∷ 114 ∷ 10 ∷ 48 ∷ 32 ∷ 48 ∷ 10 ∷ 49 ∷ 32 ∷ 49 ∷ 10 ∷ 50 ∷ 32 ∷ 48 ∷ 44 ∷ 50 ∷ 10 ∷ 51 ∷ 32 ∷ 48 ∷ 44 ∷ 49 ∷ 44 ∷ 51 ∷ 10 ∷ 52 ∷ 32 ∷ 49 ∷ 44 ∷ 48 ∷ 44 ∷ 52 ∷ 10 ∷ []

-- The pasts of that text: 3 is in its own past.
abbrev pub r-pasts : List (List ℕ)
r-pasts = [] ∷ [] ∷ [] ∷ (0 ∷ 1 ∷ 2 ∷ 3 ∷ []) ∷ (0 ∷ 1 ∷ 2 ∷ 3 ∷ []) ∷ []

-- Of Nothing: `criterion sequential`, `view order`, `0 -`.
abbrev pub nothing-sequential-text : List ℕ
nothing-sequential-text = 99 ∷ 114 ∷ 105 ∷ 116 ∷ 101 ∷ 114 ∷ 105 ∷ 111 ∷ 110 ∷ 32 ∷ 115 ∷ 101 ∷ 113 ∷ 117 ∷ 101 ∷ 110 ∷ 116 ∷ 105 ∷ 97 ∷ 108 ∷ 10 ∷ 118 ∷ 105 ∷ 101 ∷ 119 ∷ 32 ∷ 111 ∷ 114 ∷ 100 ∷ 101 ∷ 114 ∷ 10 ∷ 48 ∷ 32 ∷ 45 ∷ 10 ∷ []

-- Of LostThenSeven, LostThenNone and OneSlot: `criterion sequential`, `view order`, `0 0,1,2`.
abbrev pub three-order-text : List ℕ
three-order-text = 99 ∷ 114 ∷ 105 ∷ 116 ∷ 101 ∷ 114 ∷ 105 ∷ 111 ∷ 110 ∷ 32 ∷ 115 ∷ 101 ∷ 113 ∷ 117 ∷ 101 ∷ 110 ∷ 116 ∷ 105 ∷ 97 ∷ 108 ∷ 10 ∷ 118 ∷ 105 ∷ 101 ∷ 119 ∷ 32 ∷ 111 ∷ 114 ∷ 100 ∷ 101 ∷ 114 ∷ 10 ∷ 48 ∷ 32 ∷ 48 ∷ 44 ∷ 49 ∷ 44 ∷ 50 ∷ 10 ∷ []

pub record Samples : Type 0 where
  -- "(p) sequential view 0,1 accepted."
  pub q-sequential : check_text Q q-sequential-text ≡ answer Sequential 0 none
  -- "(p) view 1,0: 16, view 0, event 1."
  pub q-turned : check_text Q q-turned-text ≡ answer_at Sequential 16 (some 0) 1 5 80 93
  pub q-turned-line : carried_line Q q-turned-text ≡ q_pop
  -- "(p) view 0 as 0 only: 14, view 0."
  pub q-short : check_text Q q-short-text ≡ answer Sequential 14 (some 0)
  -- "(p) pram, view 0 as 0,1 and view 1 as 0,1 accepted."
  pub q-pram : check_text Q q-pram-text ≡ answer Pram 0 none
  -- "(p) causal accepted with pasts -; 0,2; -; 0,2 and views 0; 2,0,1; 2; 0,2,3."
  pub w-causal : check_text W w-causal-text ≡ answer Causal 0 none
  -- "(p) past of 1 as 2 only: 11, event 1."
  pub w-past : check_text W w-past-text ≡ answer_at Causal 11 none 1 5 82 98
  -- "(p) converge accepted with pasts -; -; 1; 0,1,2 and view 0,1,2,3."
  pub c-converge : check_text C c-converge-text ≡ answer Converge 0 none
  -- "(p) weak with pasts -; -; -; 0,1,2,3; 0,1,2,3 and any views that read: 12, event 3." And there is such a text.
  pub r-inside : (text : List ℕ) → (read_certificate R text).fault ≡ 0 → (certificate_read R text).criterion ≡ Weak → (certificate_read R text).pasts ≡ r-pasts
      → check_text R text ≡ answer_at Weak 12 none 3 7 115 129
  pub r-inside-one : check_text R r-inside-text ≡ answer_at Weak 12 none 3 7 115 129
  pub r-inside-pasts : (certificate_read R r-inside-text).pasts ≡ r-pasts
  -- "(p) empty history, sequential view `0 -` accepted"
  pub nothing-sequential : check_text Nothing nothing-sequential-text ≡ answer Sequential 0 none
  -- "(p) p2's view 1,2,3,4,0 replays." M is read.
  pub m-reads : (read_history M).fault ≡ 0
  pub m-replays : Replays (history_read M) (own (history_read M) 2) (start (history_read M)) (1 ∷ 2 ∷ 3 ∷ 4 ∷ 0 ∷ [])
  -- Document 02, T-01: a lost answer "is visible in no view, under any criterion", so Q's other order is accepted too;
  pub lost-sequential : check_text Lost q-sequential-text ≡ answer Sequential 0 none
  pub lost-turned : check_text Lost q-turned-text ≡ answer Sequential 0 none
  -- "the operation itself still takes effect": the pack was taken, and the next pop finds none;
  pub lost-takes : check_text LostThenSeven three-order-text ≡ answer_at Sequential 16 (some 0) 2 6 94 107
  pub lost-then-none : check_text LostThenNone three-order-text ≡ answer Sequential 0 none
  -- "Fault 5 doesn't apply to `?`", and the others do. In a list `?` is no number.
  pub lost-of-register : (read_history LostOfRegister).fault ≡ 4
  pub lost-in-list : (read_history LostInList).fault ≡ 2
  -- Document 02, T-02: "capacity 1 takes one pack", and "a push onto a full channel changes nothing and answers the pushed value";
  pub channel-sequential : check_text (OneSlot 45 54) three-order-text ≡ answer Sequential 0 none
  pub channel-full : check_text (OneSlot 45 45) three-order-text ≡ answer_at Sequential 16 (some 0) 1 5 82 96
  pub channel-last : check_text (OneSlot 53 54) three-order-text ≡ answer_at Sequential 16 (some 0) 0 4 67 81
  -- "limits on width fall under 3, 64 for a channel and 8 on any other kind"; `-` on a channel is 4, a width on a queue too.
  pub channel-64 : (read_history (OneObject channel_word (54 ∷ 52 ∷ []))).fault ≡ 0
  pub channel-65 : (read_history (OneObject channel_word (54 ∷ 53 ∷ []))).fault ≡ 3
  pub channel-0 : (read_history (OneObject channel_word (48 ∷ []))).fault ≡ 3
  pub channel-dash : (read_history (OneObject channel_word dash)).fault ≡ 4
  pub queue-9 : (read_history (OneObject queue_word (57 ∷ []))).fault ≡ 3
  pub queue-8 : (read_history (OneObject queue_word (56 ∷ []))).fault ≡ 4
  -- Document 02, T-04: "a window starts empty"; "fault 5 now allows 0 to k values".
  pub window-empty : check_text (Unscanned dash) q-short-text ≡ answer Sequential 0 none
  pub window-zero : check_text (Unscanned (48 ∷ [])) q-short-text ≡ answer_at Sequential 16 (some 0) 0 4 66 80
  pub window-two : (read_history (Unscanned (48 ∷ 44 ∷ 57 ∷ []))).fault ≡ 5
  -- Document 01's C, where event 2 answers `0,9`, is read, and that answer is wrong.
  pub c-zeros : check_text (CWith (48 ∷ 44 ∷ 57 ∷ [])) c-converge-text ≡ answer_at Converge 16 (some 0) 2 6 98 114
  -- Document 02, T-06: source document 001's example is strict; in W's views "an event outside the past stands before an own event".
  -- And no certificate text whatever shows W strict or that example sequential.
  pub stack-strict : check_text Stack stack-strict-text ≡ answer Strict 0 none
  pub w-strict : check_text W w-strict-text ≡ answer Strict 20 (some 0)
  pub w-never-strict : (text : List ℕ) → Accepted W text → Names W text Strict → ⊥
  pub stack-never-sequential : (text : List ℕ) → Accepted Stack text → Names Stack text Sequential → ⊥

-- a certificate is its criterion, its pasts and its views
certificate-is : (c : Certificate) (w : Criterion) (ps : List (List ℕ)) → c.criterion ≡ w → c.pasts ≡ ps → c ≡ lists.claim w ps c.views
certificate-is c w ps e q = ap₂ (λ (w : Criterion) (ps : List (List ℕ)). lists.claim w ps c.views) e q

-- R with any views that read, where R is read as the history of that name on lists and event 3 has that line
r-any : history_read R ≡ lists.R → event_place R (read_history R).history.declared 3 ≡ record { text = HistoryText; line = 7; start = 115; end = 129 }
    → (text : List ℕ) → (read_certificate R text).fault ≡ 0 → (certificate_read R text).criterion ≡ Weak
    → (certificate_read R text).pasts ≡ r-pasts → check_text R text ≡ answer_at Weak 12 none 3 7 115 129
r-any h at text z w p =
    checked-as R text z
    ∙ ap₂ (λ (c : Criterion) (x : Option Fault). found_in R (read_history R).history.declared c x) w
    (ap₂ check h (certificate-is (certificate_read R text) Weak r-pasts w p) ∙ lists.R-inside (certificate_read R text).views)
    ∙ ap (λ (q : Place). checked q Weak (answer_of (some (fault12 3)))) at

-- a history that breaks a criterion has no accepted certificate text that names it
never : (history : List ℕ) (h : History) (w : Criterion) → history_read history ≡ h → (Meets w h → ⊥)
    → (text : List ℕ) → Accepted history text → Names history text w → ⊥
never history h w q n text a names = n (subst (Meets w) q (meets-named history text a w names))

pub samples : Samples
unfolding layout-split.find layout-split.on_first layout-split.split layout-split.join layout-split.part_start layout-word.same layout-number.is_digit layout-number.all_digits layout-number.starts_well layout-number.is_number layout-number.value_from layout-number.below layout-number.number_of layout-number.spell_within layout-number.spell_before layout-list.items_of layout-list.all_numbers layout-list.all_below layout-list.judged layout-list.list_of layout-list.numbers_of layout-list.leading layout-list.list_text history-record.pad history-record.answer_of history-record.history_of history-kinds.kind_word history-kinds.op_word history-kinds.is_kind history-kinds.kind_of history-kinds.is_op history-kinds.op_of history-faults.first_fault history-faults.is_optional history-faults.optional history-faults.object_layout history-faults.object_limits history-faults.object_fits history-faults.object_fault history-faults.object_three history-faults.object_fields history-faults.object_line history-faults.is_lost history-faults.answer_items history-faults.answer_said history-faults.event_layout history-faults.event_limits history-faults.event_fits history-faults.event_long history-faults.event_fault history-faults.event_said history-faults.event_six history-faults.event_fields history-faults.event_line history-reader-readhistory.events_from history-reader-readhistory.objects_from history-reader-readhistory.lines_from history-reader-readhistory.read_history history-reader-readhistory.faulty_line certificate-record.event_list_of certificate-record.row_of certificate-record.certificate_of certificate-record.rows_of certificate-record.beginnings certificate-criteria.word_of certificate-criteria.is_criterion certificate-criteria.criterion_of certificate-criteria.count_from certificate-criteria.has_events certificate-criteria.processes_from certificate-criteria.view_numbers certificate-faults.rising certificate-faults.criterion_line certificate-faults.list_layout certificate-faults.list_limits certificate-faults.pair_fault certificate-faults.list_fault certificate-faults.list_said certificate-reader-readcertificate.end_from certificate-reader-readcertificate.heading_from certificate-reader-readcertificate.lists_from certificate-reader-readcertificate.views_from certificate-reader-readcertificate.pasts_from certificate-reader-readcertificate.body_from certificate-reader-readcertificate.lines_from certificate-reader-readcertificate.read_lines certificate-reader-readcertificate.read_certificate certificate-reader-readcertificate.rows_read criteria-history.program_order criteria-certificate.processes criteria-check.lacks_own criteria-check.lacks_past criteria-check.not_its_set criteria-check.against criteria-check.outside_past criteria-check.right criteria-check.check CriteriaRecords.event_of CriteriaRecords.history_of CriteriaRecords.certificate_of checker-checktext.history_read checker-checktext.certificate_read checker-checktext.check_text checker-checktext.carried_line
samples =
    record {
      q-sequential = refl;
      q-turned = refl;
      q-turned-line = refl;
      q-short = refl;
      q-pram = refl;
      w-causal = refl;
      w-past = refl;
      c-converge = refl;
      r-inside = r-any refl refl;
      r-inside-one = refl;
      r-inside-pasts = refl;
      nothing-sequential = refl;
      m-reads = refl;
      m-replays = none-wrong (history_read M) (own (history_read M) 2) (start (history_read M)) (1 ∷ 2 ∷ 3 ∷ 4 ∷ 0 ∷ []) refl;
      lost-sequential = refl;
      lost-turned = refl;
      lost-takes = refl;
      lost-then-none = refl;
      lost-of-register = refl;
      lost-in-list = refl;
      channel-sequential = refl;
      channel-full = refl;
      channel-last = refl;
      channel-64 = refl;
      channel-65 = refl;
      channel-0 = refl;
      channel-dash = refl;
      queue-9 = refl;
      queue-8 = refl;
      window-empty = refl;
      window-zero = refl;
      window-two = refl;
      c-zeros = refl;
      stack-strict = refl;
      w-strict = refl;
      w-never-strict = never W lists.W Strict refl lists.W-not-strict;
      stack-never-sequential = never Stack lists.Stack Sequential refl lists.Stack-not-sequential;
    }
