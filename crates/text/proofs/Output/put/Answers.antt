-- `text::Output::put` meets its contract: past the end nothing, or the part that is copied.
-- Tried with the definitions and these laws named on the function: the check does not find it alone.
use Rattle.std.proofs.Common.{rules, arith, refl}
use Rattle.text.proofs.Puts.{lays_past, lays_part}
use Rattle.text.proofs.Output.put.Goals as goal

pub returns-then-len-self : goal.returns-then-len-self
returns-then-len-self c = search (lays_past, rules)

pub returns : goal.returns
returns c = lays_part _ _ _ _ _ refl (omega arith) c.min-n.ensures c.copy_from_slice.ensures.after (refl, refl)
