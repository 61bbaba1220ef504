-- `text::Output::put_field` meets its contract: the digits, and one byte behind them.
-- Tried with the definitions and these laws named on the function: the check does not find it alone.
use Rattle.text.proofs.Puts.{lays_two}
use Rattle.text.proofs.Output.put_field.Goals as goal

pub returns : goal.returns
returns c = search lays_two
