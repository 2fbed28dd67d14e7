-- `adler` meets its contract: both sums stay below 65,521. Assumes nothing.
use Rattle.std.proofs.Common.{◌<◌}
use Rattle.layout_cases.proofs.adler.Given as goal

abbrev pub invariant-loop-byte : goal.invariant-loop-byte
invariant-loop-byte l = (l.a < 65521) × (l.b < 65521)
