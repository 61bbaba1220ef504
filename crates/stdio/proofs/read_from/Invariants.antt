-- `stdio::read_from` meets its contract: a read that is interrupted leaves the reader as it was.
use Rattle.std.proofs.Common.{◌≡◌, length}
use Rattle.std.specs.Io.KnownBytes.{Keeps}
use Rattle.stdio.proofs.read_from.Given as goal

abbrev pub invariant-loop : goal.invariant-loop
invariant-loop g l =
    (length l.part ≡ length l.initial.part)
    × Keeps (g.R.Read.remaining l.initial.reader) (g.R.Read.remaining l.reader)
