-- Writing a history into a lent buffer: the answer, and the buffer afterwards (document 01, "Write").
use Rattle.std.specs.Prelude.{ℕ, cond, List, length, leb, Result, Ok, Err}
use Rattle.layout.specs.Fill.{after}
use Rattle.history.specs.declared.record.History.{History}
use Rattle.history.specs.HistoryText.{history_text}
use Rattle.history.specs.Readable.{within}
use Rattle.history_writer.specs.declared.write.WriteFault.{WriteFault}
use Rattle.history_writer.specs.declared.write.WriteFault.TheVariants.{OutsideLimits, TooShort}

-- What a writer answers: 0 and the length of the text, or the number of a refusal and the length 0.
pub record Written : Type 0 where
  pub number : ℕ
  pub length : ℕ

-- The documents' numbers, and the code's result as one of these.
abbrev pub write_fault_number : WriteFault → ℕ
write_fault_number OutsideLimits = 9
write_fault_number TooShort = 18

abbrev pub written_of : Result ℕ WriteFault → Written
written_of (Ok n) = record { number = 0; length = n }
written_of (Err f) = record { number = write_fault_number f; length = 0 }

-- 9 where no readable text stands for the record; else 18 where the buffer is too short; else 0 and the length of the text.
unfoldable pub history_written : History → List ℕ → Written
history_written h buf =
    cond (within h)
    (cond (leb (length (history_text h)) (length buf))
    (record { number = 0; length = length (history_text h) })
    (record { number = 18; length = 0 }))
    (record { number = 9; length = 0 })

-- The text in the first bytes and the rest as it was; on a refusal the buffer as it was.
unfoldable pub history_after : History → List ℕ → List ℕ
history_after h buf = cond (within h) (after (history_text h) buf) buf
