-- `text::value_of` meets its contract: what is left, read behind v, gives what the whole gives.
-- Tried with the definitions and these laws named on the function: the check does not find it alone.
use Rattle.std.proofs.Common.{rules, ap, ◌∙◌}
use Rattle.text.specs.Inside.{read_from}
use Rattle.text.proofs.Numbers.{read_all}
use Rattle.text.proofs.value_of.Goals as goal

pub returns : goal.returns
returns c = read_all _ _ (λ v x y h k. search rules) _ _ _ _ c.try_fold.ensures.ran ∙ ap (read_from 0) c.iter.ensures.rest
