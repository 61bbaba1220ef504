-- `text::split_once` meets its contract: the search answers the place that the definition says.
-- Tried with the definitions and these laws named on the function: the check does not find it alone.
use Rattle.std.proofs.Common.{rules, tests}
use Rattle.text.proofs.Places.{parts_none, parts_at}
use Rattle.text.proofs.split_once.Goals as goal

pub returns-in_err-place : goal.returns-in_err-place
returns-in_err-place c =
    rw c.from_residual.ensures
    (parts_none c.args.b c.position.ensures.ran (cc) (λ x y q k. search (rules, tests)) c.in_err-place.was)

pub returns : goal.returns
returns c =
    parts_at c.args.b c.position.ensures.ran (cc) (λ x y q k. search (rules, tests)) c.in_ok-place.place c.in_ok-place.was
