-- What private functions ask and promise: nothing public rests on these.
use Rattle.std.specs.Prelude.{cond, ◌&&◌, Option, Some, None, List, ℕ, ◌+◌, ◌-◌, ◌*◌, leb}
use Rattle.text.specs.Text.{is_digit, all_digits, value_from, most}

-- v with one more digit b behind its own, where 64 bits hold it
unfoldable pub with_digit : ℕ → ℕ → Option ℕ
with_digit v b = cond (is_digit b && leb (v * 10 + (b - 48)) most) (Some (v * 10 + (b - 48))) None

-- the number that digits make behind those of v, where 64 bits hold it
unfoldable pub read_from : ℕ → List ℕ → Option ℕ
read_from v s = cond (all_digits s && leb (value_from v s) most) (Some (value_from v s)) None
