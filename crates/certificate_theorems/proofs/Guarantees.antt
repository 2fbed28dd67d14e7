-- What the certificate's reader guarantees to the layers above, as one record of facts. Assumes nothing.
use Prim.Native.Nat.{ℕ}
use mathlib.Core.Path.{◌≡◌}
use mathlib.Core.List.{List}
use Rattle.certificate.proofs.Guarantees.{SoundCertificate, fits-sound}
use Rattle.certificate_reader.specs.ReadCertificate.{read_certificate, rows_read}
use Rattle.certificate_theorems.proofs.Theorems.{events_of, few-events, no-fault-history, read_fits}

-- a certificate that was read
pub read-sound : (history text : List ℕ) (rows : List (List ℕ)) → (read_certificate history text).fault ≡ 0
    → SoundCertificate (events_of history) (read_certificate history text).certificate (rows_read history text rows)
read-sound history text rows z =
    fits-sound (events_of history) (read_certificate history text).certificate (rows_read history text rows)
    (few-events history (no-fault-history history text z))
    (read_fits history text z rows)
