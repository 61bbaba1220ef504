-- `text::Output::put_decimal` meets its contract: the digits that are written are those of the definition.
-- Tried with the definitions and these laws named on the function: the check does not find it alone.
use Rattle.std.proofs.Common.{subst, ◌∙◌}
use Rattle.text.specs.Pieces.{Lays}
use Rattle.text.proofs.Digits.{decimal_are}
use Rattle.text.proofs.Output.put_decimal.Goals as goal

pub returns : goal.returns
returns c = subst (λ s. Lays c.args.self.now s c.put.new.self) (c.as_bytes.ensures.value ∙ c.format.ensures.text ∙ decimal_are c.args.n c.ranges.n.fits) c.put.ensures
