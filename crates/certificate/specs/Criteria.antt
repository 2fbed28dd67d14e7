-- The criteria: their words, and which pasts and views a certificate of each has (document 01, "Certificate text").
use Rattle.std.specs.Prelude.{ℕ, zero, suc, ◌+◌, Bool, true, false, cond, ◌||◌, List, [], ◌∷◌, length, eqb}
use Rattle.layout.specs.Word.{same, pram_word, weak_word, causal_word, converge_word, sequential_word, strict_word}
use Rattle.history.specs.declared.record.Event.{Event}
use Rattle.certificate.specs.declared.record.Criterion.{Criterion}
use Rattle.certificate.specs.declared.record.Criterion.TheVariants.{Pram, Weak, Causal, Converge, Sequential, Strict}

unfoldable pub word_of : Criterion → List ℕ
word_of Pram = pram_word
word_of Weak = weak_word
word_of Causal = causal_word
word_of Converge = converge_word
word_of Sequential = sequential_word
word_of Strict = strict_word

-- The word is a criterion's, and that criterion (Pram for any other word).
unfoldable pub is_criterion : List ℕ → Bool
is_criterion f =
    same f weak_word
    || (same f causal_word || (same f converge_word || (same f sequential_word || (same f strict_word || same f pram_word))))

unfoldable pub criterion_of : List ℕ → Criterion
criterion_of f =
    cond (same f weak_word) Weak
    (cond (same f causal_word) Causal
    (cond (same f converge_word) Converge (cond (same f sequential_word) Sequential (cond (same f strict_word) Strict Pram))))

-- A certificate of the criterion has the past of each event.
abbrev pub has_pasts : Criterion → Bool
has_pasts Pram = false
has_pasts Weak = true
has_pasts Causal = true
has_pasts Converge = true
has_pasts Sequential = false
has_pasts Strict = true

-- So many numbers from k on.
unfoldable pub count_from : ℕ → ℕ → List ℕ
count_from k zero = []
count_from k (suc n) = k ∷ count_from (k + 1) n

-- The process has events.
unfoldable pub has_events : ℕ → List Event → Bool
has_events p [] = false
has_events p (e ∷ es) = eqb e.process.0 p || has_events p es

-- Of so many processes from p on those with events, rising.
unfoldable pub processes_from : List Event → ℕ → ℕ → List ℕ
processes_from es p zero = []
processes_from es p (suc n) = cond (has_events p es) (p ∷ processes_from es (p + 1) n) (processes_from es (p + 1) n)

-- The numbers of the views, in the order of their lines. Sequential and converge have the one view 0; pram has one for each
-- process with events, numbered by process, rising; weak and causal have one an event. Strict "has pasts and pram's views" (02, T-06).
unfoldable pub view_numbers : Criterion → List Event → List ℕ
view_numbers Pram es = processes_from es 0 8
view_numbers Weak es = count_from 0 (length es)
view_numbers Causal es = count_from 0 (length es)
view_numbers Converge es = 0 ∷ []
view_numbers Sequential es = 0 ∷ []
view_numbers Strict es = processes_from es 0 8

-- How many pasts there are.
abbrev pub past_count : Criterion → List Event → ℕ
past_count c es = cond (has_pasts c) (length es) 0
